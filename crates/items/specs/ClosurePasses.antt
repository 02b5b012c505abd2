-- The closure of a state by passes over the rules: the constraints fit, a state without lookaheads needs no pass.
-- Assumes nothing.
use Prim.Native.Nat.{ℕ, zero, suc, ◌*◌, ◌<◌}
use Rattle.std.specs.Prelude.{◌≡◌, Bool, List, length, get_or, replicate}
use Rattle.std.proofs.Math.Path.{refl, ap}
use Rattle.std.proofs.Common.{◌∙◌, subst, arith}
use Rattle.grammar.specs.Data.Symbol.{left_of, right_of, after}
use Rattle.grammar.specs.Data.Book.{Book}
use Rattle.grammar.specs.Automaton.Fixpoint.{set_at, visit, visits, least}
use Rattle.grammar.specs.Automaton.LeastLaws.{Family, Fits, none-family, least_stays}
use Rattle.grammar.specs.Automaton.FirstSets.{Sets, first}
use Rattle.grammar.specs.Automaton.ClosureSets.{derives_into, closure_rule}
use Rattle.grammar.specs.Automaton.ClosureLaws.{into-target, into-low}
use Rattle.items.specs.Derives.{GrammarIn, derives-none, derives-own}
use Rattle.items.specs.Passes.{Told, Passing, Closing}

-- ---- the constraints fit

module _ {b : Book} {F : Sets} {rules nullables begins : List ℕ} (H : GrammarIn b F rules nullables begins) where
  fits : {sets : List ℕ} → Family 32 sets → Fits (closure_rule b F) (length b.rules) sets
  unfolding closure_rule
  fits S = record {
    few = omega (arith, S.long);
    low = S.low;
    target_low = λ P p. omega (arith, into-target F (right_of b.rules P) (λ s. set_at s (left_of b.rules P)) (H.small.right_low P p), S.long);
    gives_low = λ P p s f. into-low F H.first_low (right_of b.rules P) (λ s. set_at s (left_of b.rules P)) (H.small.right_low P p) s;
  }

  pub closure-fits : {sets : List ℕ} {count : ℕ} → length b.rules ≡ count → Family 32 sets → Fits (closure_rule b F) count sets
  closure-fits {sets} e S = subst (λ (n : ℕ). Fits (closure_rule b F) n sets) e (fits S)

-- a rule gives what its item with the dot in front gives
pub rule-derives : (b : Book) (F : Sets) (P : ℕ) (sets : List ℕ)
    → visit (closure_rule b F P) sets ≡ visit (derives_into F (after b.rules P 0) (λ _. set_at sets (left_of b.rules P))) sets
unfolding closure_rule
rule-derives b F P sets = derives-own F sets (right_of b.rules P) (λ s. set_at s (left_of b.rules P))

-- ---- nothing to begin with

pub none-at : (n i : ℕ) → set_at (replicate n 0) i ≡ 0
none-at zero i = refl
none-at (suc n) zero = refl
none-at (suc n) (suc i) = none-at n i

module _ (b : Book) (F : Sets) where
  still : (P : ℕ) → visit (closure_rule b F P) (replicate 32 0) ≡ replicate 32 0
  still P = rule-derives b F P (replicate 32 0) ∙ rw (none-at 32 (left_of b.rules P)) (derives-none (none-family 32) F (after b.rules P 0))

  none-visits : (count : ℕ) → visits (closure_rule b F) count (replicate 32 0) ≡ replicate 32 0
  unfolding visits
  none-visits zero = refl
  none-visits (suc P) = ap (visit (closure_rule b F P)) (none-visits P) ∙ still P

-- without lookaheads of kernel lines there are none
pub none-least : {b : Book} {F : Sets} {rules nullables begins : List ℕ} {count : ℕ} → GrammarIn b F rules nullables begins → length b.rules ≡ count
    → least (closure_rule b F) count (replicate 32 0) ≡ replicate 32 0
none-least {b} {F} {count = count} H e = least_stays (closure-fits H e (none-family 32)) (replicate 32 0) (none-family 32) (none-visits b F count)

-- ---- a rule by its words

module _ {b : Book} {F : Sets} {rules nullables begins : List ℕ} (H : GrammarIn b F rules nullables begins) (P : ℕ) (p : P < length b.rules) where
  pub left_low : get_or rules (10 * P) 0 < 32
  left_low = omega (arith, H.rules_in.left_is P p, H.small.left_low P p)

  pub rule_told : {sets next : List ℕ} {r : Bool} (left : ℕ) → left ≡ get_or rules (10 * P) 0
      → Told (visit (derives_into F (after b.rules P 0) (λ _. set_at sets left)) sets) sets next r → Told (visit (closure_rule b F P) sets) sets next r
  rule_told {sets} left e t = rw (rule-derives b F P sets, ← H.rules_in.left_is P p, ← e) t

-- ---- the loops, for every book that the arrays hold

abbrev pub Sweeping : (rules nullables begins : List ℕ) (count : ℕ) (first now : List ℕ) (changed : Bool) (P : ℕ) → Type 0
Sweeping rules nullables begins count first now changed P =
    (b : Book) (F : Sets) → GrammarIn b F rules nullables begins → length b.rules ≡ count → Passing (closure_rule b F) count first now changed P

abbrev pub Settling : (rules nullables begins : List ℕ) (count : ℕ) (first now : List ℕ) → Type 0
Settling rules nullables begins count first now =
    (b : Book) (F : Sets) → GrammarIn b F rules nullables begins → length b.rules ≡ count → Closing (closure_rule b F) count first now
