-- Which numbers a set holds: none if it is 0, one at least if it is not, the one of `single`.
-- Assumes nothing.
use Rattle.std.specs.Prelude.{ℕ, ◌^◌, ◌<◌, ◌≡◌, refl, Bool, true, false}
use Rattle.std.proofs.Common.{sym, ◌∙◌, arith, eq-eqb, eqb-true}
use Rattle.sets.specs.Sets.{bit, empty, single, exists}
use Rattle.sets.proofs.SetsLaws.{bit-empty, bit-single}
use Rattle.sets.specs.Bits.{bits-le, exists-holds, exists-true}
use Rattle.grammar.specs.Automaton.TestLaws.{true-false}

pub none_in : {C : Type 0} (a : ℕ) → bit 0 a ≡ true → C
unfolding empty
none_in a e = true-false e (bit-empty a)

pub some-not-none : (s a : ℕ) → bit s a ≡ true → s ≡ 0 → ⊥
some-not-none s a e q = none_in a (rw q at e)

pub member : (s : ℕ) → s < 2 ^ 32 → (s ≡ 0 → ⊥) → (a : ℕ) × (bit s a ≡ true)
member s l h = go (exists 32 (bit s)) refl
  where
    nothing : exists 32 (bit s) ≡ false → s ≡ 0
    nothing e = omega (arith, bits-le 32 s 0 l (λ i p q. true-false (exists-true (bit s) 32 i p q) e))

    go : (t : Bool) → exists 32 (bit s) ≡ t → (a : ℕ) × (bit s a ≡ true)
    go true e = let p = exists-holds (bit s) 32 e in (p.number, p.passes)
    go false e = absurd (h (nothing e))

pub single-in : (a : ℕ) → bit (single a) a ≡ true
single-in a = bit-single a a ∙ eq-eqb a a refl

pub single-is : (a c : ℕ) → bit (single a) c ≡ true → a ≡ c
single-is a c e = eqb-true a c (sym (bit-single a c) ∙ e)
