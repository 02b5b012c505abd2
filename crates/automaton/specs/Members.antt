-- Going over the bits of a number, from the first to the last, each cleared once it is told. Assumes nothing.
use Rattle.std.specs.Prelude.{ℕ, zero, suc, ◌-◌, ◌/◌, ◌%◌, ◌<◌, ◌≤◌, ◌≡◌, Option, None, Some, Bool, true, false, ◌&&◌, eqb}
use Rattle.std.proofs.Common.{arith, sym, ap, ◌∙◌, le_of_suc-le-suc, eqb-true}
use Rattle.std.proofs.Math.Bool.{and-false, and_self}
use Rattle.std.proofs.lemmas.Bool.{eqb-false}
use Rattle.std.proofs.Math.Decide.{ℕ_discrete}
use Rattle.std.specs.Int.Bits.{bit_and}
use Rattle.sets.specs.Sets.{bit}
use Rattle.sets.specs.Bits.{bit-first, bit-half}
use Rattle.sets.proofs.Operations.{bit-and}
use Rattle.grammar.specs.Automaton.TestLaws.{true-false}
use Rattle.automaton.specs.Lefts.{none-bit, Least}

-- a bit and those before it are cleared, those behind it are as they were
pub record Cleared (old r now : ℕ) : Type 0 where
  pub gone : (i : ℕ) → i ≤ r → bit now i ≡ false
  pub kept : (i : ℕ) → r < i → bit now i ≡ bit old i

-- of numbers in some states: the first bit is told and cleared, or there is none
abbrev pub NextMember : {A : Type 0} → (A → ℕ) → A → Option ℕ → A → Type 0
NextMember bits s None t = bits s ≡ 0
NextMember bits s (Some r) t = Least (bits s) r × Cleared (bits s) r (bits t)

-- ---- one less, of a number whose first bit is r

record OneLess (n r : ℕ) : Type 0 where
  own : bit (n - 1) r ≡ false
  kept : (i : ℕ) → r < i → bit (n - 1) i ≡ bit n i

one-less : (r n : ℕ) → bit n r ≡ true → ((i : ℕ) → i < r → bit n i ≡ false) → OneLess n r
one-less zero n own none =
    let odd : n % 2 ≡ 1 = eqb-true (n % 2) 1 (sym (bit-first n) ∙ own) in
    let even : (n - 1) % 2 ≡ 0 = omega arith in
    let half : (n - 1) / 2 ≡ n / 2 = omega arith in
    record { own = bit-first (n - 1) ∙ ap (λ (d : ℕ). eqb d 1) even; kept = later half }
  where
    later : (n - 1) / 2 ≡ n / 2 → (i : ℕ) → 0 < i → bit (n - 1) i ≡ bit n i
    later half zero l = absurd (omega arith)
    later half (suc i) l = bit-half (n - 1) i ∙ ap (λ (m : ℕ). bit m i) half ∙ sym (bit-half n i)
one-less (suc r) n own none =
    go (ℕ_discrete n 0) (one-less r (n / 2) (sym (bit-half n r) ∙ own) (λ i l. sym (bit-half n i) ∙ none (suc i) (omega arith)))
  where
    go : Dec (n ≡ 0) → OneLess (n / 2) r → OneLess n (suc r)
    go (yes z) below = true-false own (ap (λ (m : ℕ). bit m (suc r)) z ∙ none-bit (suc r))
    go (no some) below =
        let even : n % 2 ≡ 0 = omega (arith, eqb-false (n % 2) 1 (sym (bit-first n) ∙ none 0 (omega arith))) in
        let half : (n - 1) / 2 ≡ n / 2 - 1 = omega arith in
        record { own = bit-half (n - 1) r ∙ ap (λ (m : ℕ). bit m r) half ∙ below.own; kept = later half below }
      where
        later : (n - 1) / 2 ≡ n / 2 - 1 → OneLess (n / 2) r → (i : ℕ) → suc r < i → bit (n - 1) i ≡ bit n i
        later half below zero l = absurd (omega arith)
        later half below (suc i) l =
            bit-half (n - 1) i ∙ ap (λ (m : ℕ). bit m i) half ∙ below.kept i (le_of_suc-le-suc l) ∙ sym (bit-half n i)

pub cleared : {n r : ℕ} → Least n r → Cleared n r (bit_and n (n - 1))
cleared {n} {r} L = record {
  gone = λ i l. bit-and n (n - 1) i ∙ none i (ℕ_discrete i r) l;
  kept = λ i l. bit-and n (n - 1) i ∙ ap (λ (t : Bool). bit n i && t) (less.kept i l) ∙ and_self (bit n i);
}
  where
    less : OneLess n r
    less = one-less r n L.own L.none

    none : (i : ℕ) → Dec (i ≡ r) → i ≤ r → (bit n i && bit (n - 1) i) ≡ false
    none i (yes e) l = ap (λ (t : Bool). bit n i && t) (ap (bit (n - 1)) e ∙ less.own) ∙ and-false (bit n i)
    none i (no m) l = ap (λ (t : Bool). t && bit (n - 1) i) (L.none i (omega arith))
