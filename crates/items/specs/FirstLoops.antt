-- What the loops that find FIRST keep true: over a right side, over the rules, and over passes.
-- Assumes nothing.
use Rattle.std.specs.Prelude.{ℕ, ◌+◌, ◌^◌, ◌≤◌, ◌<◌, ◌≡◌, Bool, true, false, drop, replicate}
use Rattle.std.proofs.Math.Path.{sym, ap}
use Rattle.std.proofs.Common.{◌∙◌, arith}
use mathlib.Core.List.{List, ◌∷◌}
use Rattle.sets.specs.Sets.{union}
use Rattle.sets.proofs.SetsLaws.{union-lt}
use Rattle.grammar.specs.Data.Symbol.{Symbol}
use Rattle.grammar.specs.Automaton.Fixpoint.{set_at, visit, least}
use Rattle.grammar.specs.Automaton.FirstSets.{first_in, first_rule, first_sets}
use Rattle.items.specs.GrammarOf.{
  symbol_of,
  left_word,
  size_word,
  symbol_word,
  right_in,
  grammar_of,
  rest_more,
  rest-none,
  right_low,
  grammar-size,
  left_is,
  right_is,
  RuleFits,
}
use Rattle.items.specs.Passes.{Told, given, visit-told}
use Rattle.items.specs.Rests.{null_symbol, begins_with, first_past, first_stops}
use Rattle.items.specs.Searches.{first-lt}
use Rattle.items.specs.Unions.{union-none, none-union, union_assoc}

-- ---- over a right side, up to a symbol that is not nullable: what was found, and what can begin the rest, can begin the whole

pub record Beginning (words : List ℕ) (P nulls : ℕ) (firsts : List ℕ) (last found d : ℕ) : Type 0 where
  pub within : d ≤ last
  pub last_is : last ≡ size_word words P
  pub low : found < 2 ^ 32
  pub whole_is : union found (first_in nulls firsts (drop d (right_in words P))) ≡ first_in nulls firsts (right_in words P)

module _ {words : List ℕ} {P nulls : ℕ} {firsts : List ℕ} {last : ℕ} where
  pub beginning : RuleFits words P → ((i : ℕ) → set_at firsts i < 2 ^ 32) → last ≡ size_word words P → Beginning words P nulls firsts last 0 0
  beginning R low e = record {
    within = omega arith;
    last_is = e;
    low = omega arith;
    whole_is = none-union _ (first-lt nulls firsts low (right_in words P) (right_low words P R));
  }

  module _ {found d : ℕ} (B : Beginning words P nulls firsts last found d) where
    module _ (h : d < last) {word own next : ℕ} {r : Bool} (w : word ≡ symbol_word words P d) (o : own ≡ begins_with firsts (symbol_of word))
        (u : next ≡ union found own) (e : r ≡ null_symbol nulls (symbol_of word)) where
      apart : first_in nulls firsts (drop d (right_in words P)) ≡ first_in nulls firsts (symbol_of word ∷ drop (d + 1) (right_in words P))
      apart = rw w (ap (first_in nulls firsts) (rest_more words P d (omega (arith, B.last_is))))

      pub beginning-turn : r ≡ true → Beginning words P nulls firsts last next (d + 1)
      beginning-turn q = record {
        within = omega arith;
        last_is = B.last_is;
        low = rw u (union-lt found own);
        whole_is =
            rw (u, o) (union_assoc found (begins_with firsts (symbol_of word)) _)
            ∙ ap (union found) (sym (apart ∙ first_past nulls firsts (symbol_of word) _ (sym e ∙ q))) ∙ B.whole_is;
      }

      pub beginning-stops : r ≡ false → next ≡ first_in nulls firsts (right_in words P)
      beginning-stops q = u ∙ ap (union found) (o ∙ sym (apart ∙ first_stops nulls firsts (symbol_of word) _ (sym e ∙ q))) ∙ B.whole_is

    pub beginning-ends : last ≤ d → found ≡ first_in nulls firsts (right_in words P)
    unfolding first_in
    beginning-ends h =
        sym (union-none found B.low) ∙ ap (λ (β : List Symbol). union found (first_in nulls firsts β)) (sym (rest-none words P d (omega (arith, B.last_is))))
        ∙ B.whole_is

-- ---- over the rules

-- what a rule gives
pub first-told : (words : List ℕ) (count nulls : ℕ) {now next : List ℕ} {p target more : ℕ} {r : Bool} → p < count → target ≡ left_word words p
    → more ≡ first_in nulls now (right_in words p) → Told (given target more now) now next r
    → Told (visit (first_rule (grammar_of words count) nulls p) now) now next r
unfolding first_rule
first-told words count nulls {now} {p = p} h e f told =
    visit-told (first_rule (grammar_of words count) nulls p) (e ∙ sym (left_is words count p h))
    (f ∙ ap (first_in nulls now) (sym (right_is words count p h))) told

-- ---- over passes

-- all rules, from empty sets
pub first-all : (words : List ℕ) (count nulls : ℕ) {first : List ℕ} → first ≡ replicate 32 0
    → least (first_rule (grammar_of words count) nulls) count first ≡ first_sets (grammar_of words count) nulls
unfolding first_sets
first-all words count nulls e = rw (e, grammar-size words count)
