-- Reading the lines of a section one after another and keeping each at once: what a loop in code keeps true, over any head, line and store.
-- A loop is proved by four laws: it starts, turns, leaves less, and is done. Assumes nothing.
use Prim.Native.Nat.{ℕ, suc, ◌+◌, ◌≤◌, ◌<◌}
use Rattle.std.specs.Prelude.{◌≡◌, refl, true, false, List, [], ◌∷◌}
use Rattle.std.proofs.Math.Path.{sym, ap}
use Rattle.std.proofs.Common.{◌∙◌, add-one}
use native.Mathlib.Omega.{arith}
use Rattle.std.proofs.Math.ListN.{length}
use Rattle.text.specs.Rest.{Rest, rest, found, size}
use Rattle.text.proofs.RestLaws.{found_in, found-out, size-rest}
use Rattle.grammar.specs.Format.Reader.{Parsed, parsed, result, remaining, Reader, section}
use Rattle.grammar.specs.Format.SectionLaws.{section-stop, section-more, section-size}
use Rattle.book.specs.Layout.{put_line, store_lines}
use Rattle.book.specs.LayoutLaws.{length-put}

-- what a reader in code answers: the item and the position after it
pub record Gives {A : Type 0} (p : Parsed A) (text : List ℕ) (x : A) (next : ℕ) : Type 0 where
  pub result_is : x ≡ result p
  pub remaining_is : rest text next ≡ remaining p

-- a head that was found and a line after it leave less than there was
pub record Shrinks {A S : Type 0} (head : Rest → Rest) (one : S → Reader A) : Type 0 where
  pub head_less : (o : Rest) → found (head o) ≡ true → size (head o) < size o
  pub one_less : (s : S) (o : Rest) → size (remaining (one s o)) ≤ size o

pub size-section : {A S : Type 0} (head : Rest → Rest) (one : S → Reader A) (next : S → A → S) → Shrinks head one → (s : S) (o : Rest)
    → size (remaining (section head one next s o)) ≤ size o
size-section head one next shrinks s o = section-size head one next shrinks.head_less shrinks.one_less s o

-- what is left after a section, how many items there are, and what was kept of them
pub data Outcome (D : Type 0) : Type 0 where
  outcome : Rest → ℕ → D → Outcome D

module _ {A D : Type 0} (keep : ℕ → A → D → D) where
  -- items kept one after another, from the k-th on
  unfoldable pub keep_from : ℕ → List A → D → D
  keep_from k [] d = d
  keep_from k (x ∷ xs) d = keep_from (suc k) xs (keep k x d)

  unfoldable pub outcome_from : ℕ → Parsed (List A) → D → Outcome D
  outcome_from k p d = outcome (remaining p) (k + length (result p)) (keep_from k (result p) d)

-- amid a section, at item k: what is still to be read and kept from here is what was to be read and kept at the start
pub record Reading {A S D : Type 0} (head : Rest → Rest) (one : S → Reader A) (next : S → A → S) (keep : ℕ → A → D → D)
    (text : List ℕ) (start : Parsed (List A)) (d₀ : D) (s : S) (k at : ℕ) (d : D) : Type 0 where
  pub counted : k + size (rest text at) ≤ length text + 1
  pub same : outcome_from keep k (section head one next s (rest text at)) d ≡ outcome_from keep 0 start d₀

-- a whole section: the position after it, the number of its items, and what was kept of them
pub record Gathers {A D : Type 0} (keep : ℕ → A → D → D) (p : Parsed (List A)) (text : List ℕ) (d₀ : D) (count next : ℕ) (d : D) : Type 0 where
  pub remaining_is : rest text next ≡ remaining p
  pub count_is : count ≡ length (result p)
  pub kept_is : d ≡ keep_from keep 0 (result p) d₀

module _ {A S D : Type 0} (head : Rest → Rest) (one : S → Reader A) (next : S → A → S) (keep : ℕ → A → D → D) (shrinks : Shrinks head one) where
  outcome-more : (s : S) (k : ℕ) (o : Rest) (d : D) (p : Parsed A) → found (head o) ≡ true → one s (head o) ≡ p
      → outcome_from keep k (section head one next s o) d
      ≡ outcome_from keep (suc k) (section head one next (next s (result p)) (remaining p)) (keep k (result p) d)
  unfolding result remaining outcome_from keep_from
  outcome-more s k o d (parsed x o₁) h e =
      let more : Parsed (List A) = section head one next (next s x) o₁ in
      let count : k + suc (length (result more)) ≡ suc k + length (result more) = omega arith in
      rw (section-more head one next shrinks.head_less shrinks.one_less s o h e) (rw count)

  outcome-stop : (s : S) (k : ℕ) (o : Rest) (d : D) → found (head o) ≡ false → outcome_from keep k (section head one next s o) d ≡ outcome o k d
  unfolding result remaining outcome_from keep_from
  outcome-stop s k o d h =
      let count : k + 0 ≡ k = omega arith in
      rw (section-stop head one next s o h) (rw count)

  module _ (text : List ℕ) where
    pub reading-start : (s : S) (at : ℕ) (d : D) → Reading head one next keep text (section head one next s (rest text at)) d s 0 at d
    reading-start s at d = record { counted = omega (arith, size-rest text at); same = refl }

    module _ {start : Parsed (List A)} {d₀ d : D} {s : S} {k at a : ℕ} (r : Reading head one next keep text start d₀ s k at d)
        (e : rest text a ≡ head (rest text at)) where
      -- the head was found, at a
      pub reading-less : {o : Rest} → a ≤ length text → o ≡ remaining (one s (rest text a)) → size o < size (rest text at)
      reading-less h f =
          omega (arith, ap size f, shrinks.one_less s (rest text a), ap size e, shrinks.head_less (rest text at) (ap found (sym e) ∙ found_in text a h))

      pub reading-turn : {s' : S} {at' : ℕ} {d' : D} → a ≤ length text → rest text at' ≡ remaining (one s (rest text a))
          → s' ≡ next s (result (one s (rest text a))) → d' ≡ keep k (result (one s (rest text a))) d
          → Reading head one next keep text start d₀ s' (k + 1) at' d'
      reading-turn h f g i =
          record {
            counted = omega (arith, r.counted, reading-less h f);
            same = rw (add-one k, f, g, i, e) (sym (outcome-more s k (rest text at) d _ (ap found (sym e) ∙ found_in text a h) refl) ∙ r.same);
          }

      -- it was not
      pub reading-done : length text < a → Gathers keep start text d₀ k at d
      unfolding outcome_from
      reading-done h =
          let z : outcome (rest text at) k d ≡ outcome_from keep 0 start d₀ =
          sym (outcome-stop s k (rest text at) d (ap found (sym e) ∙ found-out text a h)) ∙ r.same in
          let count : k ≡ 0 + length (result start) = cc in
          record { remaining_is = cc; count_is = omega arith; kept_is = cc }

-- Sections whose lines are kept in an array

unfoldable pub keep_line : {A : Type 0} → (A → List ℕ) → ℕ → ℕ → A → List ℕ → List ℕ
keep_line words room k x out = put_line room k (words x) out

kept-lines : {A : Type 0} (words : A → List ℕ) (room k : ℕ) (xs : List A) (out : List ℕ)
    → keep_from (keep_line words room) k xs out ≡ store_lines words room k xs out
unfolding keep_from keep_line store_lines
kept-lines words room k [] out = refl
kept-lines words room k (x ∷ xs) out = kept-lines words room (suc k) xs (put_line room k (words x) out)

-- one line, kept at its place: the position after it, and the array
pub record Puts {A : Type 0} (words : A → List ℕ) (room k : ℕ) (p : Parsed A) (text out₀ : List ℕ) (next : ℕ) (out : List ℕ) : Type 0 where
  pub remaining_is : rest text next ≡ remaining p
  pub array_is : out ≡ put_line room k (words (result p)) out₀

-- a line that has a key, kept at its place
pub record PutsKeyed {A : Type 0} (keyed : A → List ℕ) (words : A → List ℕ) (room k : ℕ) (p : Parsed A) (text out₀ key : List ℕ) (next : ℕ) (out : List ℕ)
    : Type 0 where
  pub key-is : key ≡ keyed (result p)
  pub puts : Puts words room k p text out₀ next out

-- by a reader of the line and the store of its words
pub puts_of : {A : Type 0} {words : A → List ℕ} {room k : ℕ} {p : Parsed A} {text line out₀ out : List ℕ} {x : A} {next : ℕ}
    → Gives p text x next → line ≡ words x → out ≡ put_line room k line out₀ → Puts words room k p text out₀ next out
puts_of g e f = record { remaining_is = g.remaining_is; array_is = f ∙ rw (e, g.result_is) }

-- a whole section: the position after it, the number of its lines, and the array that holds them
pub record Fills {A : Type 0} (words : A → List ℕ) (room : ℕ) (p : Parsed (List A)) (text out₀ : List ℕ) (count next : ℕ) (out : List ℕ) : Type 0 where
  pub remaining_is : rest text next ≡ remaining p
  pub count_is : count ≡ length (result p)
  pub array_is : out ≡ store_lines words room 0 (result p) out₀

-- amid such a section
pub record Filling {A S : Type 0} (head : Rest → Rest) (one : S → Reader A) (next : S → A → S) (words : A → List ℕ) (room : ℕ)
    (text : List ℕ) (start : Parsed (List A)) (out₀ : List ℕ) (s : S) (k at : ℕ) (out : List ℕ) : Type 0 where
  pub same_length : length out ≡ length out₀
  pub reading : Reading head one next (keep_line words room) text start out₀ s k at out

module _ {A S : Type 0} (head : Rest → Rest) (one : S → Reader A) (next : S → A → S) (words : A → List ℕ) (room : ℕ) (shrinks : Shrinks head one)
    (text : List ℕ) where
  pub filling-start : (s : S) (at : ℕ) (out : List ℕ) → Filling head one next words room text (section head one next s (rest text at)) out s 0 at out
  filling-start s at out = record { same_length = refl; reading = reading-start head one next (keep_line words room) shrinks text s at out }

  module _ {start : Parsed (List A)} {out₀ out : List ℕ} {s : S} {k at a : ℕ} (r : Filling head one next words room text start out₀ s k at out)
      (e : rest text a ≡ head (rest text at)) where
    -- the head was found, at a, and a line after it
    pub filling-less : {o : Rest} → a ≤ length text → o ≡ remaining (one s (rest text a)) → size o < size (rest text at)
    filling-less h f = reading-less head one next (keep_line words room) shrinks text r.reading e h f

    pub filling-turn : {s' : S} {at' : ℕ} {out' : List ℕ} → a ≤ length text → Puts words room k (one s (rest text a)) text out at' out'
        → s' ≡ next s (result (one s (rest text a))) → Filling head one next words room text start out₀ s' (k + 1) at' out'
    unfolding keep_line
    filling-turn h p g =
        record {
          same_length = ap length p.array_is ∙ (length-put room k (words (result (one s (rest text a)))) out ∙ r.same_length);
          reading = reading-turn head one next (keep_line words room) shrinks text r.reading e h p.remaining_is g p.array_is;
        }

    -- it was not
    pub filling-done : length text < a → Fills words room start text out₀ k at out
    filling-done h =
        let g = reading-done head one next (keep_line words room) shrinks text r.reading e h in
        record { remaining_is = g.remaining_is; count_is = g.count_is; array_is = g.kept_is ∙ kept-lines words room 0 (result start) out₀ }

-- opens every definition of this module
unfoldable pub opens : Unit {0}
unfolding keep_from outcome_from keep_line
opens = tt
