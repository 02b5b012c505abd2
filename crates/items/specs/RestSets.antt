-- The sets of every rest of every rule, as arrays hold them, from the parts that were worked out one after the other.
-- Assumes nothing.
use Rattle.std.specs.Prelude.{ℕ, ◌+◌, ◌*◌, ◌<◌, ◌≤◌, ◌≡◌, List, length, get_or}
use Rattle.std.proofs.Common.{sym, ◌∙◌, subst, arith}
use Rattle.grammar.specs.Data.Symbol.{Rule}
use Rattle.grammar.specs.Automaton.FirstSets.{Sets, sets, nullable, first_sets, sets_of}
use Rattle.grammar.specs.Automaton.ReachSets.{reach_sets}
use Rattle.items.specs.Arrays.{SuffixesIn, ReachesIn}
use Rattle.items.specs.GrammarOf.{size_word, grammar_of, right-size, grammar-size, right_is, GrammarFits, GrammarHeld, grammar-back}
use Rattle.items.specs.Living.{Living, living-reaches}
use Rattle.items.specs.ReachLoops.{SetsIn}

pub record RestSetsIn (G : List Rule) (nullables begins reaches : List ℕ) : Type 0 where
  pub suffixes_in : SuffixesIn G (sets_of G) nullables begins
  pub reaches_in : ReachesIn G (sets_of G) (reach_sets G (sets_of G)) reaches

-- nullable and FIRST are the grammar's sets
sets-are : (words : List ℕ) (count : ℕ) {nulls : ℕ} {firsts : List ℕ} → nulls ≡ nullable (grammar_of words count)
    → firsts ≡ first_sets (grammar_of words count) nulls → sets nulls firsts ≡ sets_of (grammar_of words count)
unfolding sets_of
sets-are words count n f = rw (f, n)

module _ {words : List ℕ} {count nulls : ℕ} {nullables begins : List ℕ} where
  -- nullable, FIRST, then the arrays of null and FIRST
  pub sets-in : {firsts : List ℕ} → GrammarFits words count → nulls ≡ nullable (grammar_of words count)
      → firsts ≡ first_sets (grammar_of words count) nulls → SuffixesIn (grammar_of words count) (sets nulls firsts) nullables begins
      → SetsIn words count nulls nullables begins
  sets-in F n f S = record {
    fits = F;
    nulls_are = n;
    suffixes_are = subst (λ (E : Sets). SuffixesIn (grammar_of words count) E nullables begins) (sets-are words count n f) S;
  }

  -- then the array of what is reached
  module _ {reaches : List ℕ} (S : SetsIn words count nulls nullables begins) where
    pub rest-sets-in : ReachesIn (grammar_of words count) (sets_of (grammar_of words count))
        (reach_sets (grammar_of words count) (sets_of (grammar_of words count))) reaches
        → (G : List Rule) → GrammarHeld G words count → RestSetsIn G nullables begins reaches
    rest-sets-in R G H =
        subst (λ (E : List Rule). RestSetsIn E nullables begins reaches) (grammar-back H) (record { suffixes_in = S.suffixes_are; reaches_in = R })

    -- which is that of FIRST where no rest is a dead end
    pub living-reaches-in : {firsts : List ℕ} → firsts ≡ first_sets (grammar_of words count) nulls → Living (grammar_of words count) (sets nulls firsts)
        → 9 * count ≤ length reaches → ((i : ℕ) → i < 9 * count → get_or reaches i 0 ≡ get_or begins i 0)
        → ReachesIn (grammar_of words count) (sets_of (grammar_of words count)) (reach_sets (grammar_of words count) (sets_of (grammar_of words count))) reaches
    living-reaches-in f L long same = record {
      long = omega (arith, long, grammar-size words count);
      reach_is = λ P D p d.
          let inside : P < count = rw (grammar-size words count) at p in
          let short : D ≤ size_word words P = rw (right_is words count P inside, right-size words P) at d in
          same (9 * P + D) (omega (arith, (S.fits.rule_fits P inside).size_low)) ∙ S.suffixes_are.first_is P D p d
          ∙ sym (living-reaches S.fits lives P D p d);
    }
      where
        lives : Living (grammar_of words count) (sets_of (grammar_of words count))
        lives = subst (Living (grammar_of words count)) (sets-are words count S.nulls_are f) L
