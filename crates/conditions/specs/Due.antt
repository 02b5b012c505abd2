-- How many definitions the words of owners and rules make due: an owner's attributes are counted by the word of its symbol.
-- Assumes nothing.
use Rattle.std.specs.Prelude.{ℕ, ◌+◌, ◌*◌, ◌≤◌, ◌<◌, ◌≡◌, refl, List, eqb, length, set, replicate}
use Rattle.std.proofs.Common.{arith, add-one, ◌∙◌, eq-eqb, ne_eqb}
use Rattle.std.proofs.Math.Decide.{ℕ_discrete}
use Rattle.std.proofs.Math.Path.{ap}
use Rattle.std.proofs.Math.ListN.{get_or, length-set, length-replicate, get_or-replicate}
use Rattle.std.proofs.Math.Seq.{get_or-set_same, get_or-set_other}
use Rattle.conditions.specs.Sums.{sum, one, one-most, sum-most}

-- how many of the first n owners are the nonterminal whose word is c
unfoldable pub owned_by : List ℕ → ℕ → ℕ → ℕ
owned_by owners n c = sum n λ k. one (eqb c (32 + get_or owners k 0))

-- an array of n owners, all nonterminals
pub record LowOwners (owners : List ℕ) (n : ℕ) : Type 0 where
  pub few : n ≤ 32
  pub long : n ≤ length owners
  pub low : (k : ℕ) → k < n → get_or owners k 0 < 32

-- so many by each word
pub record Counts (owners : List ℕ) (n : ℕ) (counts : List ℕ) : Type 0 where
  pub long : length counts ≡ 64
  pub count_is : (c : ℕ) → c < 64 → get_or counts c 0 ≡ owned_by owners n c

-- numbers by the words of symbols, none above 32
pub record LowCounts (counts : List ℕ) : Type 0 where
  pub long : length counts ≡ 64
  pub low : (c : ℕ) → c < 64 → get_or counts c 0 ≤ 32

module _ {owners : List ℕ} where
  -- at most 32 owners are counted
  pub counts-low : {n : ℕ} {counts : List ℕ} → n ≤ 32 → Counts owners n counts → LowCounts counts
  unfolding owned_by
  counts-low {n} l h = record {
    long = h.long;
    low = λ c m. omega (arith, h.count_is c m, sum-most 1 (λ k. one (eqb c (32 + get_or owners k 0))) n (λ k o. one-most (eqb c (32 + get_or owners k 0))));
  }

  -- the loop that counts them: it starts, and takes one more owner
  pub counts_start : {counts : List ℕ} → counts ≡ replicate 64 0 → Counts owners 0 counts
  unfolding owned_by sum
  counts_start e = record {
    long = ap (length {A = ℕ}) e ∙ length-replicate {A = ℕ} 64 0;
    count_is = λ c l. rw (e, get_or-replicate {A = ℕ} 64 c 0 0 l) refl;
  }

  pub counts-turn : {k : ℕ} {counts : List ℕ} → get_or owners k 0 < 32 → Counts owners k counts
      → Counts owners (k + 1) (set counts (32 + get_or owners k 0) (get_or counts (32 + get_or owners k 0) 0 + 1))
  unfolding owned_by sum one
  counts-turn {k} {counts} low h = record {
    long = length-set counts (32 + get_or owners k 0) (get_or counts (32 + get_or owners k 0) 0 + 1) ∙ h.long;
    count_is = λ c l. rw (add-one k) (go c l (32 + get_or owners k 0) (ℕ_discrete c (32 + get_or owners k 0)));
  }
    where
      go : (c : ℕ) → c < 64 → (w : ℕ) → Dec (c ≡ w)
          → get_or (set counts w (get_or counts w 0 + 1)) c 0 ≡ sum k (λ i. one (eqb c (32 + get_or owners i 0))) + one (eqb c w)
      go c l w (yes e) = rw (eq-eqb c w e, ← e, get_or-set_same counts c (get_or counts c 0 + 1) 0 (omega (arith, h.long))) (omega (arith, h.count_is c l))
      go c l w (no e) = rw (ne_eqb c w e, get_or-set_other counts w c (get_or counts w 0 + 1) 0 e) (omega (arith, h.count_is c l))

-- Rules

-- the right symbols of rule p are words of symbols
pub record RightLow (rules : List ℕ) (p : ℕ) : Type 0 where
  pub long : 10 * p + 10 ≤ length rules
  pub few : get_or rules (10 * p + 1) 0 ≤ 8
  pub low : (d : ℕ) → d < get_or rules (10 * p + 1) 0 → get_or rules (10 * p + 2 + d) 0 < 64

-- its left side is a nonterminal
pub record LeftLow (rules : List ℕ) (p : ℕ) : Type 0 where
  pub long : 10 * p + 10 ≤ length rules
  pub low : get_or rules (10 * p) 0 < 32

-- at most 64 rules, and all of them are so
pub record LowRules (rules : List ℕ) (n : ℕ) : Type 0 where
  pub few : n ≤ 64
  pub right : (p : ℕ) → p < n → RightLow rules p
  pub left : (p : ℕ) → p < n → LeftLow rules p

-- what is due at right symbol d of rule p, the first being 0, and at all of them
unfoldable pub right_count : List ℕ → List ℕ → ℕ → ℕ → ℕ
right_count rules counts p d = get_or counts (get_or rules (10 * p + 2 + d) 0) 0

unfoldable pub right_due : List ℕ → List ℕ → ℕ → ℕ
right_due rules counts p = sum (get_or rules (10 * p + 1) 0) (right_count rules counts p)

-- at the left side of rule p
unfoldable pub left_due : List ℕ → List ℕ → ℕ → ℕ
left_due rules counts p = get_or counts (32 + get_or rules (10 * p) 0) 0

module _ {rules counts : List ℕ} (h : LowCounts counts) where
  -- sums stay small: at one right symbol, at those of a rule, at a left side
  pub right-count-low : {p : ℕ} → RightLow rules p → (d : ℕ) → d < get_or rules (10 * p + 1) 0 → right_count rules counts p d ≤ 32
  unfolding right_count
  right-count-low {p} r d l = h.low (get_or rules (10 * p + 2 + d) 0) (r.low d l)

  pub right-due-low : {n : ℕ} → LowRules rules n → (p : ℕ) → p < n → right_due rules counts p ≤ 256
  unfolding right_due
  right-due-low r p l =
      let q : RightLow rules p = r.right p l in
      omega (arith, q.few, sum-most 32 (right_count rules counts p) (get_or rules (10 * p + 1) 0) (right-count-low q))

  pub left-due-low : {n : ℕ} → LowRules rules n → (p : ℕ) → p < n → left_due rules counts p ≤ 32
  unfolding left_due
  left-due-low r p l = h.low (32 + get_or rules (10 * p) 0) (omega (arith, (r.left p l).low))

-- opens every definition of this module
unfoldable pub opens : Unit {0}
unfolding owned_by right_count right_due left_due
opens = tt
