-- What an item gives the nonterminal behind its dot, from the words of its rule and the sets of every rest of a rule.
-- Assumes nothing.
use Rattle.std.specs.Prelude.{ℕ, zero, suc, ◌+◌, ◌*◌, ◌-◌, ◌^◌, ◌<◌, ◌≤◌, Bool, length}
use Rattle.std.proofs.Math.Path.{◌≡◌, refl}
use Rattle.std.proofs.Common.{ap, ◌∙◌, arith, add-one, drop_of_length-le, drop-cons}
use Rattle.std.proofs.Math.Bool.{true, false}
use mathlib.Core.List.{List, [], ◌∷◌}
use Rattle.std.proofs.Math.ListN.{get_or}
use Rattle.std.proofs.lemmas.List.{set-get_or}
use Rattle.sets.specs.Sets.{union}
use Rattle.grammar.specs.Limits.{MAX_RIGHT}
use Rattle.grammar.specs.Data.Symbol.{Symbol, terminal, nonterminal, Rule, right_of, after}
use Rattle.grammar.specs.Data.Book.{Book}
use Rattle.grammar.specs.Automaton.Small.{number_of, Low, low-at, Small}
use Rattle.grammar.specs.Automaton.Fixpoint.{set_at, visit}
use Rattle.grammar.specs.Automaton.LeastLaws.{Family}
use Rattle.grammar.specs.Automaton.FirstSets.{Sets, null, first, first_with}
use Rattle.grammar.specs.Automaton.ClosureSets.{derives_into}
use Rattle.book.specs.Layout.{symbol_code}
use Rattle.book.specs.Held.{RulesIn}
use Rattle.items.specs.Arrays.{flag, SuffixesIn}
use Rattle.items.specs.Passes.{Told, told_same, given, visit-given}
use Rattle.items.specs.SymbolCodes.{terminal-code, nonterminal-code, code-low}
use Rattle.items.specs.Unions.{union-none}

-- a grammar in arrays: its rules, and the sets of every rest of a rule
pub record GrammarIn (b : Book) (F : Sets) (rules nullables begins : List ℕ) : Type 0 where
  pub rules_in : RulesIn b.rules rules
  pub rests_in : SuffixesIn b.rules F nullables begins
  pub small : Small b.rules
  pub short : (P : ℕ) → P < length b.rules → length (right_of b.rules P) ≤ MAX_RIGHT
  pub first_low : (β : List Symbol) → Low β → first F β < 2 ^ 32

-- ---- a visit by what stands behind the dot

-- nothing is given
module _ {n : ℕ} {sets : List ℕ} (S : Family n sets) where
  given-none : (target : ℕ) → given target 0 sets ≡ sets
  unfolding given
  given-none target = rw (union-none (set_at sets target) (S.low target)) (set-get_or sets target 0)

  module _ (F : Sets) where
    -- an item without lookaheads
    pub derives-none : (β : List Symbol) → visit (derives_into F β (λ _. 0)) sets ≡ sets
    unfolding derives_into
    derives-none [] = visit-given _ sets ∙ given-none 0
    derives-none (terminal a ∷ β) = visit-given _ sets ∙ given-none 0
    derives-none (nonterminal B ∷ β) = visit-given _ sets ∙ given-none B

    module _ (M : ℕ) where
      -- the dot at the end, and before a terminal
      pub derives-end : visit (derives_into F [] (λ _. M)) sets ≡ sets
      unfolding derives_into
      derives-end = visit-given _ sets ∙ given-none 0

      pub derives-terminal : (a : ℕ) (β : List Symbol) → visit (derives_into F (terminal a ∷ β) (λ _. M)) sets ≡ sets
      unfolding derives_into
      derives-terminal a β = visit-given _ sets ∙ given-none 0

-- before a nonterminal
pub derives-given : (F : Sets) (sets : List ℕ) (M B : ℕ) (β : List Symbol) → (M ≡ 0 → ⊥)
    → visit (derives_into F (nonterminal B ∷ β) (λ _. M)) sets ≡ given B (first_with F β M) sets
unfolding derives_into
derives-given F sets zero B β h = absurd (h refl)
derives-given F sets (suc M) B β h = visit-given _ sets

-- lookaheads that the sets themselves have
pub derives-own : (F : Sets) (sets : List ℕ) (β : List Symbol) (own : List ℕ → ℕ)
    → visit (derives_into F β own) sets ≡ visit (derives_into F β (λ _. own sets)) sets
unfolding derives_into visit
derives-own F sets [] own = refl
derives-own F sets (terminal a ∷ β) own = refl
derives-own F sets (nonterminal B ∷ β) own = refl

-- ---- what stands behind the dot, by words

-- a symbol by its word
word-terminal : (X : Symbol) → number_of X < 32 → symbol_code X < 32 → X ≡ terminal (symbol_code X)
word-terminal (terminal K) h l = rw (terminal-code K h)
word-terminal (nonterminal K) h l = absurd (omega (arith, nonterminal-code K h))

word-nonterminal : (X : Symbol) → number_of X < 32 → 32 ≤ symbol_code X → X ≡ nonterminal (symbol_code X - 32)
word-nonterminal (terminal K) h l = absurd (omega (arith, terminal-code K h))
word-nonterminal (nonterminal K) h l = let e : symbol_code (nonterminal K) - 32 ≡ K = omega (arith, nonterminal-code K h) in rw e

module _ {b : Book} {F : Sets} {rules nullables begins : List ℕ} (H : GrammarIn b F rules nullables begins) (P D : ℕ) (p : P < length b.rules) where
  -- the symbol, if there is one
  abbrev next : Symbol
  next = get_or (right_of b.rules P) D (terminal 0)

  pub rest-none : get_or rules (10 * P + 1) 0 ≤ D → after b.rules P D ≡ []
  rest-none h = drop_of_length-le (right_of b.rules P) {i = D} (omega (arith, H.rules_in.size_is P p))

  module _ (d : D < get_or rules (10 * P + 1) 0) where
    inside : D < length (right_of b.rules P)
    inside = omega (arith, H.rules_in.size_is P p)

    rest-next : after b.rules P D ≡ next ∷ after b.rules P (D + 1)
    rest-next = rw (add-one D) (drop-cons (right_of b.rules P) D (terminal 0) inside)

    next_low : number_of next < 32
    next_low = low-at (right_of b.rules P) D (H.small.right_low P p)

    next_word : get_or rules (10 * P + 2 + D) 0 ≡ symbol_code next
    next_word = H.rules_in.symbol_is P D p inside (omega (arith, inside, H.short P p))

    -- its word, and the places of that and of the rest behind it
    pub word_low : get_or rules (10 * P + 2 + D) 0 < 64
    word_low = omega (arith, next_word, code-low next next_low)

    pub symbol-place : 10 * P + 2 + D < length rules
    symbol-place = omega (arith, inside, H.short P p, H.rules_in.long)

    pub rest-place : 9 * P + (D + 1) < 9 * length b.rules
    rest-place = omega (arith, inside, H.short P p)

    pub rest-within : D + 1 ≤ length (right_of b.rules P)
    rest-within = omega (arith, inside)

    pub rest-terminal : get_or rules (10 * P + 2 + D) 0 < 32 → after b.rules P D ≡ terminal (get_or rules (10 * P + 2 + D) 0) ∷ after b.rules P (D + 1)
    rest-terminal h =
        rest-next ∙ ap (λ (X : Symbol). X ∷ after b.rules P (D + 1)) (word-terminal next next_low (omega (arith, next_word)) ∙ rw next_word)

    pub rest-nonterminal : 32 ≤ get_or rules (10 * P + 2 + D) 0
        → after b.rules P D ≡ nonterminal (get_or rules (10 * P + 2 + D) 0 - 32) ∷ after b.rules P (D + 1)
    rest-nonterminal h =
        rest-next ∙ ap (λ (X : Symbol). X ∷ after b.rules P (D + 1)) (word-nonterminal next next_low (omega (arith, next_word)) ∙ rw next_word)

-- what items with the lookaheads M give, by the words of a rest
module _ {G : List Rule} {F : Sets} {nullables begins : List ℕ} (R : SuffixesIn G F nullables begins) (P D M : ℕ) (p : P < length G)
    (d : D ≤ length (right_of G P)) where
  pub first-null : (get_or nullables (9 * P + D) 0 ≡ 0 → ⊥) → first_with F (after G P D) M ≡ union (get_or begins (9 * P + D) 0) M
  unfolding first_with flag
  first-null h = go (null F (after G P D)) refl
    where
      go : (t : Bool) → null F (after G P D) ≡ t → first_with F (after G P D) M ≡ union (get_or begins (9 * P + D) 0) M
      go true e = rw (e, first_with, R.first_is P D p d)
      go false e = absurd (h (rw (R.null_is P D p d, e)))

  pub first-full : get_or nullables (9 * P + D) 0 ≡ 0 → first_with F (after G P D) M ≡ get_or begins (9 * P + D) 0
  unfolding first_with flag
  first-full h = go (null F (after G P D)) refl
    where
      go : (t : Bool) → null F (after G P D) ≡ t → first_with F (after G P D) M ≡ get_or begins (9 * P + D) 0
      go true e = let z : ◌≡◌ {A = ℕ} 1 0 = rw (R.null_is P D p d, e) at h in absurd (omega arith)
      go false e = rw (e, first_with, R.first_is P D p d)

-- ---- an item gives what it directly derives, by the words of its rule

module _ {b : Book} {F : Sets} {rules nullables begins sets : List ℕ} (H : GrammarIn b F rules nullables begins) (S : Family 32 sets)
    (P D M : ℕ) (p : P < length b.rules) where
  -- the sets afterwards
  abbrev derived : List ℕ
  derived = visit (derives_into F (after b.rules P D) (λ _. M)) sets

  pub told_none : M ≡ 0 → Told derived sets sets false
  told_none e = told_same (rw e (derives-none S F (after b.rules P D)))

  pub told-end : get_or rules (10 * P + 1) 0 ≤ D → Told derived sets sets false
  told-end h = told_same (rw (rest-none H P D p h) (derives-end S F M))

  module _ (d : D < get_or rules (10 * P + 1) 0) where
    pub told-terminal : get_or rules (10 * P + 2 + D) 0 < 32 → Told derived sets sets false
    told-terminal h = told_same (rw (rest-terminal H P D p d h) (derives-terminal S F M _ _))

    pub told-given : {next : List ℕ} {r : Bool} {more : ℕ} → (M ≡ 0 → ⊥) → 32 ≤ get_or rules (10 * P + 2 + D) 0
        → more ≡ first_with F (after b.rules P (D + 1)) M → Told (given (get_or rules (10 * P + 2 + D) 0 - 32) more sets) sets next r → Told derived sets next r
    told-given n h e t = rw (rest-nonterminal H P D p d h, derives-given F sets M _ _ n, ← e) t
