-- What is printed inside a line has no line feed: literals, numbers and lists of names in front of a rest keep every property that a byte other than
-- the line feed keeps. Assumes nothing.
use Rattle.std.specs.Prelude.{ℕ, zero, suc, ◌+◌, ◌/◌, ◌%◌, ◌≡◌, Bool}
use Prim.Native.String.{String}
use Rattle.std.proofs.Math.Path.{refl}
use Rattle.std.proofs.Math.Bool.{true, false}
use Rattle.std.proofs.lemmas.Bool.{false≢true}
use mathlib.Core.List.{List, [], ◌∷◌, ◌++◌}
use Rattle.std.proofs.Common.{arith, ne_eqb, ltb-true, ltb-false}
use Rattle.std.proofs.Math.Dec.{eqb, ltb}
use Rattle.text.specs.Numeral.{decimal, written, write}
use Rattle.text.proofs.Positional.{written_small, written-large}
use Rattle.grammar.specs.Format.Printer.{Printer, bytes, literal, each}

unfoldable pub unfed : List ℕ → Bool
unfed [] = true
unfed (c ∷ cs) = elim (eqb c 10) [ true ↦ false | false ↦ unfed cs ]

module _ (P : List ℕ → Type 0) (more : (c : ℕ) (bs : List ℕ) → eqb c 10 ≡ false → P bs → P (c ∷ bs)) where
  pub front : (cs r : List ℕ) → unfed cs ≡ true → P r → P (cs ++ r)
  unfolding unfed
  front [] r h p = p
  front (c ∷ cs) r h p = go (eqb c 10) refl (front cs r)
    where
      go : (t : Bool) → eqb c 10 ≡ t → (unfed cs ≡ true → P r → P (cs ++ r)) → P (c ∷ (cs ++ r))
      go true q ih = absurd (false≢true (rw (q, unfed) at h))
      go false q ih = more c (cs ++ r) q (ih (rw (q, unfed) at h) p)

  pub words : (s : String) {r : List ℕ} → unfed (bytes s) ≡ true → P r → P (literal s r)
  unfolding literal
  words s {r} h p = front (bytes s) r h p

  digits_in : (f n : ℕ) (r : List ℕ) → P r → P (written decimal f n r)
  digits_in zero n r p = unfold written in p
  digits_in (suc f) n r p = go (ltb n 10) refl (digits_in f (n / 10) ((48 + n % 10) ∷ r))
    where
      go : (t : Bool) → ltb n 10 ≡ t → (P ((48 + n % 10) ∷ r) → P (written decimal f (n / 10) ((48 + n % 10) ∷ r))) → P (written decimal (suc f) n r)
      go true e ih = rw (written_small decimal f n r (ltb-true n 10 e)) (more (48 + n) r (ne_eqb (48 + n) 10 (λ q. omega arith)) p)
      go false e ih = rw (written-large decimal f n r (ltb-false n 10 e)) (ih (more (48 + n % 10) r (ne_eqb (48 + n % 10) 10 (λ q. omega arith)) p))

  pub digits : (n : ℕ) {r : List ℕ} → P r → P (write decimal n r)
  unfolding write
  digits n {r} p = digits_in (suc n) n r p

-- one after another, for any property that each one keeps
pub every_one : {A : Type 0} (P : List ℕ → Type 0) (print : A → Printer) → ((x : A) (r : List ℕ) → P r → P (print x r)) → (xs : List A) {r : List ℕ}
    → P r → P (each print xs r)
unfolding each
every_one P print h [] p = p
every_one P print h (x ∷ xs) {r} p = h x (each print xs r) (every_one P print h xs p)
