-- Bytes that are put into a buffer one after another: what stands before a place, in front of a rest, is what stood before, printed on.
-- Assumes nothing.
use Rattle.std.specs.Prelude.{ℕ, ◌+◌, ◌-◌, ◌*◌, ◌≤◌, ◌<◌, ◌≡◌, List, ◌++◌, length, take, drop}
use Rattle.std.proofs.Common.{sym, ap, ◌∙◌, append_assoc, arith, mul-add, length-append, length-take, take_at}
use Rattle.grammar.specs.Format.Printer.{Printer, ◌·◌}

-- from `at` on, no more than `most` bytes
pub record Puts (print : Printer) (most : ℕ) (before : List ℕ) (at : ℕ) (after : List ℕ) (next : ℕ) : Type 0 where
  pub text_is : (r : List ℕ) → take next after ++ r ≡ take at before ++ print r
  pub within : next ≤ at + most

pub puts-most : {p : Printer} {m n : ℕ} {before : List ℕ} {at : ℕ} {after : List ℕ} {next : ℕ} → Puts p m before at after next → m ≤ n
    → Puts p n before at after next
puts-most x h = record { text_is = x.text_is; within = omega (arith, x.within) }

pub puts-same : {p q : Printer} {m : ℕ} {before : List ℕ} {at : ℕ} {after : List ℕ} {next : ℕ} → ((r : List ℕ) → p r ≡ q r)
    → Puts p m before at after next → Puts q m before at after next
puts-same {before = before} {at} e x = record { text_is = λ r. x.text_is r ∙ ap (λ (l : List ℕ). take at before ++ l) (e r); within = x.within }

-- one after another
pub puts_then : {p q : Printer} {m n : ℕ} {before : List ℕ} {at : ℕ} {after : List ℕ} {next : ℕ} {last : List ℕ} {end : ℕ}
    → Puts p m before at after next → Puts q n after next last end → Puts (p · q) (m + n) before at last end
puts_then {q = q} x y = record { text_is = λ r. y.text_is r ∙ x.text_is (q r); within = omega (arith, x.within, y.within) }

-- bytes put into the part of the buffer that is lent for them
pub puts-bytes : (bytes before put : List ℕ) (at : ℕ) → at + length bytes ≤ length before → put ≡ bytes
    → Puts (λ r. bytes ++ r) (length bytes) before at (take at before ++ (put ++ drop (at + length bytes - at) (drop at before))) (at + length bytes)
puts-bytes bytes before put at room e =
    let whole : List ℕ = drop (at + length bytes - at) (drop at before) in
    let long : length (take at before ++ bytes) ≡ at + length bytes = simp (length-append, length-take) (omega arith) in
    let front : take (at + length bytes) (take at before ++ (bytes ++ whole)) ≡ take at before ++ bytes =
    ap (take (at + length bytes)) (sym (append_assoc (take at before) bytes whole)) ∙ take_at (take at before ++ bytes) whole (at + length bytes) long in
    record { text_is = λ r. rw (e, front) (append_assoc (take at before) bytes r); within = omega arith }

-- n elements one after another, at most `most` bytes each: `rest i` prints those from i on
pub record Putting (rest : ℕ → Printer) (most n : ℕ) (before : List ℕ) (at i p : ℕ) (out : List ℕ) : Type 0 where
  pub same_length : length out ≡ length before
  pub so_far : i ≤ n
  pub text_is : (r : List ℕ) → take p out ++ rest i r ≡ take at before ++ rest 0 r
  pub within : p ≤ at + most * i

module _ (rest : ℕ → Printer) (most n : ℕ) (before : List ℕ) (at : ℕ) where
  module _ {i p : ℕ} {out : List ℕ} (s : Putting rest most n before at i p out) where
    pub putting-turn : {print : Printer} {after : List ℕ} {next : ℕ} → i < n → Puts print most out p after next → length after ≡ length out
        → ((r : List ℕ) → rest i r ≡ print (rest (i + 1) r)) → Putting rest most n before at (i + 1) next after
    putting-turn h puts same step =
        record {
          same_length = same ∙ s.same_length;
          so_far = omega arith;
          text_is = λ r. puts.text_is (rest (i + 1) r) ∙ (ap (λ (l : List ℕ). take p out ++ l) (sym (step r)) ∙ s.text_is r);
          within = omega (arith, s.within, puts.within, mul-add most i 1);
        }

    pub putting-end : n ≤ i → ((r : List ℕ) → rest n r ≡ r) → Puts (rest 0) (most * n) before at out p
    putting-end h last =
        let e : n ≡ i = omega (arith, s.so_far) in
        record {
          text_is = λ r. ap (λ (l : List ℕ). take p out ++ l) (sym (last r) ∙ ap (λ (j : ℕ). rest j r) e) ∙ s.text_is r;
          within = rw e s.within;
        }
