-- What the loops that find the reached sets keep true, over the arrays of null and FIRST of every rest.
-- Assumes nothing.
use Rattle.std.specs.Prelude.{ℕ, ◌+◌, ◌*◌, ◌≤◌, ◌<◌, ◌≡◌, refl, Bool, List, ◌∷◌, get_or, drop, length, set, replicate}
use Rattle.std.proofs.Math.Path.{sym, ap}
use Rattle.std.proofs.Common.{◌∙◌, subst, arith, length-set}
use Rattle.grammar.specs.Data.Symbol.{Symbol, right_of}
use Rattle.grammar.specs.Automaton.Fixpoint.{visit, least}
use Rattle.grammar.specs.Automaton.FirstSets.{Sets, nullable, sets_of, null, first}
use Rattle.grammar.specs.Automaton.ReachSets.{reach_in, reach_rule, reach_sets}
use Rattle.items.specs.Arrays.{flag, SuffixesIn, ReachesIn}
use Rattle.items.specs.GrammarOf.{
  symbol_of,
  left_word,
  size_word,
  symbol_word,
  right_in,
  grammar_of,
  rest_more,
  rest-none,
  grammar-size,
  left_is,
  right_is,
  right-size,
  RuleFits,
  GrammarFits,
}
use Rattle.items.specs.Passes.{Told, given, visit-told}
use Rattle.items.specs.Rests.{nulls_of, RestIs, RestsIn, raised, raised-flag}
use Rattle.items.specs.Filling.{Filled, of_rest, RestsAre, RestsFilled, fill_none, fill-up, rests-end}

-- ---- one rest of a rule

module _ (F : Sets) (reached words : List ℕ) (P : ℕ) {d last : ℕ} (l : last ≡ size_word words P) where
  -- no symbol
  pub reach-none : d ≡ last → 0 ≡ reach_in F reached (drop d (right_in words P))
  unfolding reach_in
  reach-none e = ap (reach_in F reached) (sym (rest-none words P d (omega arith)))

  -- a symbol, and the rest behind it
  module _ (h : d ≤ size_word words P) (n : d ≡ last → ⊥) where
    pub inside : d < size_word words P
    inside = omega arith

    pub reach-more : {nullables begins : List ℕ} {word r : ℕ} → word ≡ symbol_word words P d → RestsIn F (right_in words P) (9 * P) nullables begins
        → ((β : List Symbol) → RestIs F β (raised (get_or nullables (9 * P + d + 1) 0)) (get_or begins (9 * P + d + 1) 0) → r ≡ reach_in F reached (symbol_of word ∷ β))
        → r ≡ reach_in F reached (drop d (right_in words P))
    reach-more {nullables} {begins} {word} e R told =
        told (drop (d + 1) (right_in words P)) behind ∙ ap (reach_in F reached) (rw e (sym (rest_more words P d inside)))
      where
        behind : RestIs F (drop (d + 1) (right_in words P)) (raised (get_or nullables (9 * P + d + 1) 0)) (get_or begins (9 * P + d + 1) 0)
        behind =
            let q : 9 * P + (d + 1) ≡ 9 * P + d + 1 = omega arith in
            subst (λ (k : ℕ). RestIs F (drop (d + 1) (right_in words P)) (raised (get_or nullables k 0)) (get_or begins k 0)) q
            (R.rest_is (d + 1) (omega (arith, right-size words P)))

-- ---- the arrays of a grammar

-- what the searches over a grammar's rests ask: the grammar in an array, its nullable nonterminals, and the arrays of null and FIRST of every rest
pub record SetsIn (words : List ℕ) (count nulls : ℕ) (nullables begins : List ℕ) : Type 0 where
  pub fits : GrammarFits words count
  pub nulls_are : nulls ≡ nullable (grammar_of words count)
  pub suffixes_are : SuffixesIn (grammar_of words count) (sets_of (grammar_of words count)) nullables begins

module _ {words : List ℕ} {count nulls : ℕ} {nullables begins : List ℕ} (S : SetsIn words count nulls nullables begins) where
  pub nulls-of : nulls ≡ nulls_of (sets_of (grammar_of words count))
  unfolding nulls_of sets_of
  nulls-of = S.nulls_are

  -- the words of one rule, as they stand
  pub rest-words : (P D : ℕ) → P < count → D ≤ length (right_in words P)
      → (get_or nullables (9 * P + D) 0 ≡ flag (null (sets_of (grammar_of words count)) (drop D (right_in words P))))
      × (get_or begins (9 * P + D) 0 ≡ first (sets_of (grammar_of words count)) (drop D (right_in words P)))
  rest-words P D h l = (
    S.suffixes_are.null_is P D inside (rw e l) ∙ ap (λ (β : List Symbol). flag (null (sets_of (grammar_of words count)) (drop D β))) e,
    S.suffixes_are.first_is P D inside (rw e l) ∙ ap (λ (β : List Symbol). first (sets_of (grammar_of words count)) (drop D β)) e,
  )
    where
      e : right_of (grammar_of words count) P ≡ right_in words P
      e = right_is words count P h

      inside : P < length (grammar_of words count)
      inside = rw (grammar-size words count) h

  -- and what they tell
  pub rests_in : (P : ℕ) → P < count → RestsIn (sets_of (grammar_of words count)) (right_in words P) (9 * P) nullables begins
  rests_in P h = record {
    rest_is = λ D l.
        let exact = rest-words P D h l in
        record { null_is = ap raised exact.0 ∙ raised-flag _; first_is = exact.1 };
  }

  -- which are there
  pub rests-there : (P : ℕ) → P < count → (9 * P + 9 ≤ length nullables) × (9 * P + 9 ≤ length begins)
  rests-there P h =
      (omega (arith, S.suffixes_are.nullables_long, grammar-size words count), omega (arith, S.suffixes_are.begins_long, grammar-size words count))

  -- what a rule gives
  pub reach-told : {now next : List ℕ} {p target more : ℕ} {r : Bool} → p < count → target ≡ left_word words p
      → more ≡ reach_in (sets_of (grammar_of words count)) now (drop 0 (right_in words p)) → Told (given target more now) now next r
      → Told (visit (reach_rule (grammar_of words count) (sets_of (grammar_of words count)) p) now) now next r
  unfolding reach_rule
  reach-told {now} {p = p} h e f told =
      visit-told (reach_rule (grammar_of words count) (sets_of (grammar_of words count)) p) (e ∙ sym (left_is words count p h))
      (f ∙ ap (reach_in (sets_of (grammar_of words count)) now) (sym (right_is words count p h))) told

-- all rules, from empty sets
pub reach-all : (words : List ℕ) (count : ℕ) (F : Sets) {first : List ℕ} → first ≡ replicate 32 0
    → least (reach_rule (grammar_of words count) F) count first ≡ reach_sets (grammar_of words count) F
unfolding reach_sets
reach-all words count F e = rw (e, grammar-size words count)

-- ---- one rule's words, from the first dot on

-- whatever sets the arrays are of
pub record Reaching (words : List ℕ) (P nulls : ℕ) (nullables begins reached old now : List ℕ) (d : ℕ) : Type 0 where
  pub within : d ≤ size_word words P + 1
  pub long : length now ≡ length old
  pub filled : (F : Sets) → nulls ≡ nulls_of F → RestsIn F (right_in words P) (9 * P) nullables begins
      → Filled (of_rest (reach_in F reached) words P) (9 * P) 0 d old now

module _ {words : List ℕ} {P nulls : ℕ} {nullables begins reached old : List ℕ} where
  pub reaching-begins : Reaching words P nulls nullables begins reached old old 0
  reaching-begins = record { within = omega arith; long = refl; filled = λ F e R. fill_none (omega arith) }

  module _ {now : List ℕ} {d : ℕ} (R : Reaching words P nulls nullables begins reached old now d) where
    pub reaching-turn : RuleFits words P → 9 * P + 9 ≤ length old → d ≤ size_word words P → {w : ℕ}
        → ((F : Sets) → nulls ≡ nulls_of F → RestsIn F (right_in words P) (9 * P) nullables begins → w ≡ reach_in F reached (drop d (right_in words P)))
        → Reaching words P nulls nullables begins reached old (set now (9 * P + d) w) (d + 1)
    reaching-turn fits l h told = record {
      within = omega arith;
      long = length-set now _ _ ∙ R.long;
      filled = λ F e S. fill-up (R.filled F e S) d (omega (arith, fits.below, fits.size_low)) (told F e S) refl;
    }

    pub reaching-ends : size_word words P < d → (F : Sets) → nulls ≡ nulls_of F → RestsIn F (right_in words P) (9 * P) nullables begins
        → RestsAre (reach_in F reached) words P old now
    reaching-ends h F e S =
        let q : d ≡ size_word words P + 1 = omega (arith, R.within) in
        rw q at (R.filled F e S)

-- ---- the array, when all rules are done

pub reaches-done : {words : List ℕ} {count p : ℕ} {F : Sets} {reached old now : List ℕ} → RestsFilled (reach_in F reached) words count old now p → count ≤ p
    → 9 * count ≤ length old → ReachesIn (grammar_of words count) F reached now
reaches-done {words} {count} {F = F} {reached = reached} R h l = record {
  long = omega (arith, l, R.rules.long, grammar-size words count);
  reach_is = rests-end (reach_in F reached) R h;
}
