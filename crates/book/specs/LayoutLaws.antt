-- Laws of lines in arrays: where a line is written, and that an array keeps its length.
-- Assumes nothing.
use Prim.Native.Nat.{ℕ, suc, ◌+◌, ◌*◌, ◌≤◌, ◌<◌}
use Rattle.std.specs.Prelude.{◌≡◌, refl, Bool, true, false, List, [], ◌∷◌, ◌++◌, ltb, length, set, get_or, take, drop}
use Rattle.std.proofs.Common.{sym, ◌∙◌, length-append, length-drop, take-append-drop, length-take-le, mul-le-mul_right, add-mul, drop_of_length-le, lt-ltb, le-ltb}
use Rattle.std.proofs.lemmas.List.{set_at}
use Rattle.std.proofs.Math.Seq.{append_snoc}
use native.Mathlib.Omega.{arith}
use Rattle.std.proofs.Math.ListN.{length-set}
use Rattle.text.proofs.RestLaws.{drop_more}
use Rattle.book.specs.Layout.{write_at, put_line, store_lines, code_of}

pub length-write : (i : ℕ) (ws out : List ℕ) → length (write_at i ws out) ≡ length out
unfolding write_at
length-write i [] out = refl
length-write i (w ∷ ws) out = length-write (suc i) ws (set out i w) ∙ length-set out i w

pub put_in : (room k : ℕ) (line out : List ℕ) → k < room → put_line room k line out ≡ write_at (k * length line) line out
unfolding put_line
put_in room k line out h = rw (lt-ltb k room h, put_line)

pub put-out : (room k : ℕ) (line out : List ℕ) → room ≤ k → put_line room k line out ≡ out
unfolding put_line
put-out room k line out h = rw (le-ltb k room h, put_line)

pub length-put : (room k : ℕ) (line out : List ℕ) → length (put_line room k line out) ≡ length out
unfolding put_line
length-put room k line out = go (ltb k room) refl
  where
    go : (t : Bool) → ltb k room ≡ t → length (put_line room k line out) ≡ length out
    go true q = rw (q, put_line) (length-write (k * length line) line out)
    go false q = rw (q, put_line)

pub length-store : {A : Type 0} (words : A → List ℕ) (room k : ℕ) (xs : List A) (out : List ℕ) → length (store_lines words room k xs out) ≡ length out
unfolding store_lines
length-store words room k [] out = refl
length-store words room k (x ∷ xs) out = length-store words room (suc k) xs (put_line room k (words x) out) ∙ length-put room k (words x) out

-- amid writing a line: what is still to be written from here is what was to be written at the start
pub record Writing (place : ℕ) (line out₀ : List ℕ) (i : ℕ) (out : List ℕ) : Type 0 where
  pub same_length : length out ≡ length out₀
  pub same : write_at (place + i) (drop i line) out ≡ write_at place line out₀

module _ (place : ℕ) (line out₀ : List ℕ) where
  module _ {i : ℕ} {out : List ℕ} (w : Writing place line out₀ i out) where
    pub writing-turn : i < length line → Writing place line out₀ (i + 1) (set out (place + i) (get_or line i 0))
    unfolding write_at
    writing-turn h =
        let next : place + (i + 1) ≡ suc (place + i) = omega arith in
        record { same_length = length-set out (place + i) (get_or line i 0) ∙ w.same_length; same = rw next (rw (drop_more line i h) at w.same) }

    pub writing-done : length line ≤ i → out ≡ write_at place line out₀
    unfolding write_at
    writing-done h = rw (drop_of_length-le line h) at w.same

-- words written over as many others
pub write-over : (n : ℕ) (front ws olds rest : List ℕ) → length front ≡ n → length ws ≡ length olds → write_at n ws (front ++ (olds ++ rest)) ≡ front ++ (ws ++ rest)
unfolding write_at
write-over n front [] [] rest e h = refl
write-over n front [] (x ∷ olds) rest e h = absurd (let z : ⊥ = omega arith in z)
write-over n front (w ∷ ws) [] rest e h = absurd (let z : ⊥ = omega arith in z)
write-over n front (w ∷ ws) (x ∷ olds) rest e h =
    rw (set_at front x (olds ++ rest) w n e, ← append_snoc front w (olds ++ rest), ← append_snoc front w (ws ++ rest))
    (write-over (suc n) (front ++ (w ∷ [])) ws olds rest (simp length-append (omega arith)) (omega arith))

-- an array whose part was lent, and came back as a line
pub part-written : (place m : ℕ) (line out : List ℕ) → m ≡ length line → place + m ≤ length out
    → take place out ++ (line ++ drop m (drop place out)) ≡ write_at place line out
part-written place m line out e h =
    let front : length (take place out) ≡ place = length-take-le place out (omega arith) in
    let olds : length (take m (drop place out)) ≡ m = length-take-le m (drop place out) (simp length-drop (omega arith)) in
    sym (write-over place (take place out) line (take m (drop place out)) (drop m (drop place out)) front (sym (olds ∙ e)))
    ∙ rw (take-append-drop m (drop place out), take-append-drop place out)

-- a line that has room fits into the array
pub room_for : {k room size : ℕ} (width : ℕ) → k < room → room * width ≤ size → k * width + width ≤ size
room_for {k} {room} width h l = omega (arith, mul-le-mul_right {m = k + 1} {n = room} width (omega arith), add-mul k 1 width)

-- the code of a symbol, by its number
pub code-low : (base K code : ℕ) → K < 32 → code ≡ base + K → code ≡ code_of base K
unfolding code_of
code-low base K code h e = rw (lt-ltb K 32 h, code_of) e

pub code-high : (base K : ℕ) → 32 ≤ K → 64 ≡ code_of base K
unfolding code_of
code-high base K h = rw (le-ltb K 32 h, code_of)
