-- The rules by their left sides, as bits of numbers below 2 ^ 64: those that have items in a closure, and the first of them.
-- Assumes nothing.
use Rattle.std.specs.Prelude.{ℕ, zero, suc, ◌+◌, ◌*◌, ◌/◌, ◌%◌, ◌^◌, ◌<◌, ◌≤◌, ◌≡◌, refl, Bool, true, false, ◌||◌, List, eqb, length, get_or, set, replicate}
use Rattle.std.proofs.Common.{arith, pow-suc, le_of_suc-le-suc, sym, ap, ◌∙◌, shr-shr, length-set, get_or-set_same, get_or-set_other}
use Rattle.std.proofs.Math.Decide.{ℕ_discrete}
use Rattle.std.proofs.Math.Bool.{or-true}
use Rattle.std.specs.Int.Bits.{bit_or}
use Rattle.std.specs.Int.Count.{count_trailing_zeros, under}
use Rattle.std.proofs.lemmas.List.{length-replicate, get_or-replicate}
use borrow.Author.Tests.{eq-eqb, eqb-true}
use Rattle.sets.specs.Sets.{bit, single}
use Rattle.sets.proofs.SetsLaws.{bit-empty, bit-single}
use Rattle.sets.specs.Bits.{bit-first, bit-half, below_suc}
use Rattle.sets.proofs.Operations.{bit-or}
use Rattle.grammar.specs.Automaton.TestLaws.{true-false}
use Rattle.items.specs.NoItems.{Nothing}

-- ---- bits

pub none-bit : (i : ℕ) → bit 0 i ≡ false
none-bit i = unfold Rattle.sets.specs.Sets.empty in bit-empty i

-- ---- the rules by their left sides

-- the rules below n are among those of their left sides, and no others
pub record Filled (rules : List ℕ) (count : ℕ) (lefts : List ℕ) (n : ℕ) : Type 0 where
  pub long : length lefts ≡ 32
  pub left_low : (P : ℕ) → P < count → get_or rules (10 * P) 0 < 32
  pub held : (P : ℕ) → P < n → bit (get_or lefts (get_or rules (10 * P) 0) 0) P ≡ true
  pub low : (B P : ℕ) → B < 32 → bit (get_or lefts B 0) P ≡ true → P < n

-- all rules
abbrev pub Lefts : List ℕ → ℕ → List ℕ → Type 0
Lefts rules count lefts = Filled rules count lefts count

pub filled_none : (rules : List ℕ) (count : ℕ) → ((P : ℕ) → P < count → get_or rules (10 * P) 0 < 32) → {lefts : List ℕ} → lefts ≡ replicate 32 0
    → Filled rules count lefts 0
filled_none rules count low {lefts} e = record {
  long = ap length e ∙ length-replicate {A = ℕ} 32 0;
  left_low = low;
  held = λ P l. absurd (omega arith);
  low = λ B P l q. true-false q (rw (e, get_or-replicate {A = ℕ} 32 B 0 0 l) (none-bit P));
}

either : {C : Type 0} (s t : Bool) → (s || t) ≡ true → (s ≡ true → C) → (t ≡ true → C) → C
either true t e f g = f refl
either false t e f g = g e

-- one more
pub filled_more : {rules : List ℕ} {count : ℕ} {lefts : List ℕ} {n : ℕ} → Filled rules count lefts n → n < count → {left one : ℕ}
    → left ≡ get_or rules (10 * n) 0 → one ≡ 2 ^ n → Filled rules count (set lefts left (bit_or (get_or lefts left 0) one)) (n + 1)
filled_more {rules} {count} {lefts} {n} F l {left} {one} left_is one-is = record {
  long = length-set lefts left _ ∙ F.long;
  left_low = F.left_low;
  held = λ P h. below_suc (λ P. bit (get_or (set lefts left word) (get_or rules (10 * P) 0) 0) P ≡ true) n P (omega arith) (earlier P) own;
  low = λ B P h. by (λ w. bit w P ≡ true → P < n + 1) B (λ e q. either (bit (get_or lefts left 0) P) (bit one P) (sym (bit-or _ one P) ∙ q)
      (λ z. omega (arith, F.low left P below z))
      (λ z. omega (arith, eqb-true n P (sym (bit-single n P) ∙ unfold single in rw one-is at z))))
      (λ q. omega (arith, F.low B P h q));
}
  where
    word : ℕ
    word = bit_or (get_or lefts left 0) one

    below : left < 32
    below = omega (arith, F.left_low n l)

    by : (Q : ℕ → Type 0) (B : ℕ) → (B ≡ left → Q word) → Q (get_or lefts B 0) → Q (get_or (set lefts left word) B 0)
    by Q B same other = go (ℕ_discrete B left)
      where
        go : Dec (B ≡ left) → Q (get_or (set lefts left word) B 0)
        go (yes e) = rw (e, get_or-set_same lefts left word 0 (omega (arith, F.long, below))) (same e)
        go (no m) = rw (get_or-set_other lefts left B word 0 m) other

    earlier : (P : ℕ) → P < n → bit (get_or (set lefts left word) (get_or rules (10 * P) 0) 0) P ≡ true
    earlier P h =
        by (λ w. bit w P ≡ true) (get_or rules (10 * P) 0)
        (λ e. bit-or (get_or lefts left 0) one P ∙ ap (λ (t : Bool). t || bit one P) (ap (λ (B : ℕ). bit (get_or lefts B 0) P) (sym e) ∙ F.held P h)) (F.held P h)

    own : bit (get_or (set lefts left word) (get_or rules (10 * n) 0) 0) n ≡ true
    own =
        rw (← left_is, get_or-set_same lefts left word 0 (omega (arith, F.long, below)))
        (bit-or (get_or lefts left 0) one n ∙ ap (λ (t : Bool). bit (get_or lefts left 0) n || t) (rw one-is (unfold single in bit-single n n ∙ eq-eqb n n refl))
        ∙ or-true (bit (get_or lefts left 0) n))

-- ---- those with items in a closure

-- all of some rules, or none of them where a set is empty
pub record Chosen (set rules r : ℕ) : Type 0 where
  pub all : (set ≡ 0 → ⊥) → r ≡ rules
  pub none : set ≡ 0 → r ≡ 0

-- the rules of the left sides below n that have lookaheads
pub record Gathered (closures : List ℕ) (first : ℕ) (lefts : List ℕ) (n mask : ℕ) : Type 0 where
  pub within : n ≤ 32
  pub held : (B P : ℕ) → B < n → (get_or closures (first + B) 0 ≡ 0 → ⊥) → bit (get_or lefts B 0) P ≡ true → bit mask P ≡ true
  pub low : (count : ℕ) → ((B P : ℕ) → B < 32 → bit (get_or lefts B 0) P ≡ true → P < count) → (P : ℕ) → bit mask P ≡ true → P < count

pub gathered_none : (closures : List ℕ) (first : ℕ) (lefts : List ℕ) → Gathered closures first lefts 0 0
gathered_none closures first lefts = record {
  within = omega arith;
  held = λ B P l. absurd (omega arith);
  low = λ count f P e. true-false e (none-bit P);
}

pub gathered-more : {closures : List ℕ} {first : ℕ} {lefts : List ℕ} {n mask : ℕ} → Gathered closures first lefts n mask → n < 32 → {r : ℕ}
    → Chosen (get_or closures (first + n) 0) (get_or lefts n 0) r → Gathered closures first lefts (n + 1) (bit_or mask r)
gathered-more {closures} {first} {lefts} {n} {mask} G l {r} c = record {
  within = omega arith;
  held = λ B P h. below_suc (λ B. (get_or closures (first + B) 0 ≡ 0 → ⊥) → bit (get_or lefts B 0) P ≡ true → bit (bit_or mask r) P ≡ true) n B (omega arith)
      (λ m some e. bit-or mask r P ∙ ap (λ (t : Bool). t || bit r P) (G.held B P m some e))
      (λ some e. bit-or mask r P ∙ ap (λ (t : Bool). bit mask P || t) (ap (λ (w : ℕ). bit w P) (c.all some) ∙ e) ∙ or-true (bit mask P));
  low = λ count f P e. either (bit mask P) (bit r P) (sym (bit-or mask r P) ∙ e) (G.low count f P)
      (own count f P (ℕ_discrete (get_or closures (first + n) 0) 0));
}
  where
    own : (count : ℕ) → ((B P : ℕ) → B < 32 → bit (get_or lefts B 0) P ≡ true → P < count) → (P : ℕ) → Dec (get_or closures (first + n) 0 ≡ 0)
        → bit r P ≡ true → P < count
    own count f P (yes z) e = true-false e (ap (λ (w : ℕ). bit w P) (c.none z) ∙ none-bit P)
    own count f P (no m) e = f n P l (ap (λ (w : ℕ). bit w P) (sym (c.all m)) ∙ e)

-- of a closure that has nothing there are none
pub gathered-nothing : {closures : List ℕ} {first : ℕ} (lefts : List ℕ) → Nothing closures first 32 → Gathered closures first lefts 32 0
gathered-nothing lefts idle = record {
  within = omega arith;
  held = λ B P l some e. absurd (some (idle B l));
  low = λ count f P e. true-false e (none-bit P);
}

-- ---- the first bit

pub record Least (n r : ℕ) : Type 0 where
  pub below : r < 64
  pub own : bit n r ≡ true
  pub none : (i : ℕ) → i < r → bit n i ≡ false

-- a number without its last digit
digit-cases : {C : Type 0} (n : ℕ) → (n % 2 ≡ 0 → C) → (n % 2 ≡ 1 → C) → C
digit-cases {C} n f g = go (n % 2) refl
  where
    go : (d : ℕ) → n % 2 ≡ d → C
    go zero e = f e
    go (suc zero) e = g e
    go (suc (suc d)) e = absurd (omega arith)

trailing_even : (k n : ℕ) → n % 2 ≡ 0 → count_trailing_zeros (suc k) n ≡ suc (count_trailing_zeros k (n / 2))
unfolding count_trailing_zeros
trailing_even k n e = rw (e, under)

trailing_odd : (k n : ℕ) → n % 2 ≡ 1 → count_trailing_zeros (suc k) n ≡ 0
unfolding count_trailing_zeros
trailing_odd k n e = rw (e, under)

zeros-below : (k n i : ℕ) → i < count_trailing_zeros k n → bit n i ≡ false
zeros-below zero n i h = absurd (unfold count_trailing_zeros in omega arith)
zeros-below (suc k) n i h =
    digit-cases n (λ e. even i e (rw (trailing_even k n e) at h) (zeros-below k (n / 2)))
    (λ e. absurd (let z : i < 0 = rw (trailing_odd k n e) at h in omega arith))
  where
    even : (i : ℕ) → n % 2 ≡ 0 → i < suc (count_trailing_zeros k (n / 2)) → ((j : ℕ) → j < count_trailing_zeros k (n / 2) → bit (n / 2) j ≡ false) → bit n i ≡ false
    even zero e l f = bit-first n ∙ ap (λ (d : ℕ). eqb d 1) e
    even (suc i) e l f = bit-half n i ∙ f i (le_of_suc-le-suc l)

-- where a number's first bit stands
abbrev First : ℕ → ℕ → ℕ → Type 0
First k n r = (r < k) × (bit n r ≡ true)

first_bit : (k n : ℕ) → n < 2 ^ k → (n ≡ 0 → ⊥) → First k n (count_trailing_zeros k n)
first_bit zero n l s = absurd (s (omega arith))
first_bit (suc k) n l s = digit-cases n (λ e. even e (first_bit k (n / 2) (omega (arith, pow-suc 2 k)) (λ z. s (omega arith)))) odd
  where
    even : n % 2 ≡ 0 → First k (n / 2) (count_trailing_zeros k (n / 2)) → First (suc k) n (count_trailing_zeros (suc k) n)
    even e (below, own) = rw (trailing_even k n e) (omega arith, bit-half n (count_trailing_zeros k (n / 2)) ∙ own)

    odd : n % 2 ≡ 1 → First (suc k) n (count_trailing_zeros (suc k) n)
    odd e = rw (trailing_odd k n e) (omega arith, bit-first n ∙ ap (λ (d : ℕ). eqb d 1) e)

pub least-is : (n : ℕ) → n < 2 ^ 64 → (n ≡ 0 → ⊥) → Least n (count_trailing_zeros 64 n)
least-is n l s = let (below, own) = first_bit 64 n l s in record { below = below; own = own; none = zeros-below 64 n }

-- bits behind one
pub bits-behind : (n k i : ℕ) → bit (n / 2 ^ k / 2 ^ 1) i ≡ bit n (k + 1 + i)
unfolding bit
bits-behind n k i = ap (λ (x : ℕ). eqb (x % 2) 1) (ap (λ (x : ℕ). x / 2 ^ i) (shr-shr n k 1) ∙ shr-shr n (k + 1) i)
