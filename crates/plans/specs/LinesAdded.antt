-- Lines that are added to others, which are bits of two numbers. Assumes nothing.
use Rattle.std.specs.Prelude.{ℕ, zero, suc, ◌+◌, ◌/◌, ◌%◌, ◌^◌, ◌<◌, ◌≤◌, ◌≡◌, refl, Bool, true, false, ◌||◌, List, eqb, length, get_or, set}
use Rattle.std.proofs.Common.{arith, ap, ◌∙◌, length-set, get_or-set_same, get_or-set_other, eq-eqb, ne_eqb}
use Rattle.std.proofs.Math.Decide.{ℕ_discrete}
use Rattle.std.proofs.Math.Bool.{or-true, or-false}
use Rattle.std.specs.Int.Bits.{bit_or}
use Rattle.sets.specs.Sets.{bit, empty, single}
use Rattle.sets.proofs.SetsLaws.{bit-empty, bit-single}
use Rattle.sets.proofs.Operations.{bit-or, or-none}
use Rattle.plans.specs.Lines.{line_bit}

-- one line is added
pub record Added (line : ℕ) (old new : List ℕ) : Type 0 where
  pub long : length new ≡ 2
  pub here : line_bit new line ≡ true
  pub other : (d : ℕ) → d < 128 → (d ≡ line → ⊥) → line_bit new d ≡ line_bit old d

pub line-added : {line word one : ℕ} {old : List ℕ} → length old ≡ 2 → line < 128 → word ≡ line / 64 → one ≡ 2 ^ (line % 64)
    → Added line old (set old word (bit_or (get_or old word 0) one))
line-added {line} {word} {one} {old} long low w o = record {
  long = length-set old word (bit_or (get_or old word 0) one) ∙ long;
  here = rw (← w) (ap (λ (x : ℕ). bit x (line % 64)) same ∙ bit-or (get_or old word 0) one (line % 64)
      ∙ ap (λ (t : Bool). bit (get_or old word 0) (line % 64) || t) (own (line % 64) refl) ∙ or-true (bit (get_or old word 0) (line % 64)));
  other = λ d h n. by d h n (ℕ_discrete (d / 64) word);
}
  where
    same : get_or (set old word (bit_or (get_or old word 0) one)) word 0 ≡ bit_or (get_or old word 0) one
    same = get_or-set_same old word (bit_or (get_or old word 0) one) 0 (omega (arith, long, w, low))

    one_bit : (i : ℕ) → bit one i ≡ eqb (line % 64) i
    one_bit i = ap (λ (x : ℕ). bit x i) o ∙ unfold single in bit-single (line % 64) i

    own : (i : ℕ) → line % 64 ≡ i → bit one i ≡ true
    own i e = one_bit i ∙ eq-eqb (line % 64) i e

    by : (d : ℕ) → d < 128 → (d ≡ line → ⊥) → Dec (d / 64 ≡ word) → line_bit (set old word (bit_or (get_or old word 0) one)) d ≡ line_bit old d
    by d h n (yes e) =
        let apart : line % 64 ≡ d % 64 → ⊥ = λ z. n (omega (arith, z, e, w)) in
        rw e
        (ap (λ (x : ℕ). bit x (d % 64)) same ∙ bit-or (get_or old word 0) one (d % 64)
        ∙ ap (λ (t : Bool). bit (get_or old word 0) (d % 64) || t) (one_bit (d % 64) ∙ ne_eqb (line % 64) (d % 64) apart)
        ∙ or-false (bit (get_or old word 0) (d % 64)))
    by d h n (no m) = ap (λ (x : ℕ). bit x (d % 64)) (get_or-set_other old word (d / 64) (bit_or (get_or old word 0) one) 0 m)

-- the lines from one up to another
pub record Adding (first line : ℕ) (old new : List ℕ) : Type 0 where
  pub long : length new ≡ 2
  pub low : first ≤ line
  pub within : (d : ℕ) → first ≤ d → d < line → line_bit new d ≡ true
  pub without : (d : ℕ) → d < 128 → (first ≤ d → d < line → ⊥) → line_bit new d ≡ line_bit old d

pub adding-more : {first line : ℕ} {old new more : List ℕ} → Adding first line old new → line < 128 → Added line new more → Adding first (line + 1) old more
adding-more {first} {line} {old} {new} {more} A low B = record {
  long = B.long;
  low = omega (arith, A.low);
  within = λ d h l. inside d h l (ℕ_discrete d line);
  without = λ d h n.
      B.other d h (λ e. n (omega (arith, e, A.low)) (omega (arith, e))) ∙ A.without d h (λ f l. n f (omega arith));
}
  where
    inside : (d : ℕ) → first ≤ d → d < line + 1 → Dec (d ≡ line) → line_bit more d ≡ true
    inside d h l (yes e) = rw e B.here
    inside d h l (no n) = B.other d (omega arith) n ∙ A.within d h (omega (arith, n))

-- Two numbers without a bit

pub lines_none : (found : List ℕ) (d : ℕ) → bit_or (get_or found 0 0) (get_or found 1 0) ≡ 0 → d < 128 → line_bit found d ≡ false
unfolding empty
lines_none found d e h =
    let (lower, upper) = or-none (get_or found 0 0) (get_or found 1 0) e in
    ap (λ (w : ℕ). bit w (d % 64)) (by (d / 64) (omega arith) lower upper) ∙ bit-empty (d % 64)
  where
    by : (k : ℕ) → k < 2 → get_or found 0 0 ≡ 0 → get_or found 1 0 ≡ 0 → get_or found k 0 ≡ 0
    by zero l u v = u
    by (suc zero) l u v = v
    by (suc (suc k)) l u v = absurd (omega arith)
