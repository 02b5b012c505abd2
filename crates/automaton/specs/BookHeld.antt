-- A book that is spelled right (2), within the limits (3) and declared (4), in arrays: what functions over its kernel lines and closures ask of them.
-- Assumes nothing.
use Rattle.std.specs.Prelude.{ℕ, zero, suc, ◌<◌, ◌≤◌, refl, List, [], ◌∷◌, length}
use Rattle.std.proofs.Common.{arith}
use Rattle.grammar.specs.Data.Book.{Book, Kernel}
use Rattle.grammar.specs.Format.Ordered.{Before, Ascends, ascends-∷, Every, every-∷, kernel_key, Lookaheads, Ordered}
use Rattle.grammar.specs.Format.OrderLaws.{before-first, ascends-above}
use Rattle.grammar.specs.Conditions.Meaning.{WithinLimits, Declared}
use Rattle.grammar.specs.Conditions.MeaningLaws.{right-length}
use Rattle.grammar.specs.Automaton.Small.{Small}
use Rattle.grammar.specs.BookFacts.{well_named, small-book}
use Rattle.grammar.specs.Automaton.FirstSets.{sets_of}
use Rattle.grammar.specs.Automaton.FirstSetsLaws.{sets-right}
use Rattle.grammar.specs.Data.ListLaws.{at-member}
use Rattle.book.specs.Held.{RulesIn, KernelsIn, kernel_at}
use Rattle.items.specs.Arrays.{SuffixesIn, BoundsIn}
use Rattle.items.specs.Derives.{GrammarIn}
use Rattle.items.specs.KernelLines.{KernelItemsIn}
use Rattle.items.specs.Closures.{StateItemsIn}
use Rattle.automaton.specs.StatesIn.{kernel_there}
use Rattle.automaton.specs.KernelRules.{RuledIn}

-- ---- lines that ascend strictly ascend by their states

key-state : (k l : Kernel) → Before (kernel_key k) (kernel_key l) → k.state ≤ l.state
unfolding kernel_key
key-state k l h = before-first h

states-ascend : {last : List ℕ} (ks : List Kernel) → Ascends kernel_key last ks → (i j : ℕ) → i ≤ j → j < length ks
    → (kernel_at ks i).state ≤ (kernel_at ks j).state
states-ascend [] a i j h l = absurd (omega arith)
states-ascend (k ∷ ks) (ascends-∷ b a) zero zero h l = omega arith
states-ascend (k ∷ ks) (ascends-∷ b a) zero (suc j) h l =
    key-state k (kernel_at ks j) (ascends-above a (at-member ks j _ (omega arith)))
states-ascend (k ∷ ks) (ascends-∷ b a) (suc i) zero h l = absurd (omega arith)
states-ascend (k ∷ ks) (ascends-∷ b a) (suc i) (suc j) h l = states-ascend {last = kernel_key k} ks a i j (omega arith) (omega arith)

every-line : (ks : List Kernel) → Every Lookaheads ks → (i : ℕ) → i < length ks → Lookaheads (kernel_at ks i)
every-line [] e i h = absurd (omega arith)
every-line (k ∷ ks) (every-∷ p e) zero h = p
every-line (k ∷ ks) (every-∷ p e) (suc i) h = every-line ks e i (omega arith)

module _ {b : Book} (ordered : Ordered b) (limits : WithinLimits b) (declared : Declared b) where
  small : Small b.rules
  small = (small-book ordered limits declared).small_rules

  module _ {rules nullables begins : List ℕ} (R : RulesIn b.rules rules) (S : SuffixesIn b.rules (sets_of b.rules) nullables begins) where
    pub grammar_in : GrammarIn b (sets_of b.rules) rules nullables begins
    grammar_in = record {
      rules_in = R;
      rests_in = S;
      small = small;
      short = λ P h. right-length limits P;
      first_low = (sets-right b.rules small).first_low;
    }

    module _ {kernels : List ℕ} (K : KernelsIn b.kernels kernels) where
      -- for the closure of a state
      pub kernel-items-in : KernelItemsIn b (sets_of b.rules) rules kernels nullables begins
      kernel-items-in = record { grammar_in = grammar_in; kernels-in = K; rule_there = λ i h. (kernel_there declared i h).rule_there }

      -- and of all states
      pub state-items-in : {bounds : List ℕ} → BoundsIn b.kernels b.states bounds
          → StateItemsIn b (sets_of b.rules) rules (length b.rules) kernels bounds b.states nullables begins
      state-items-in T =
          record { items_in = kernel-items-in; bounds_in = T; counted = refl; states_are = refl; few = limits.states_limit.high }

  -- for the kernel rules
  pub ruled-in : {rules kernels : List ℕ} → RulesIn b.rules rules → KernelsIn b.kernels kernels → RuledIn b rules kernels (length b.kernels)
  ruled-in R K = record {
    named_in = record {
      spelled_in = record { kernels-in = K; lookaheads = every-line b.kernels ordered.lookaheads };
      rules_in = R;
      small = small;
      short = λ P h. right-length limits P;
      few = limits.states_limit.high;
      state_there = λ i h. (kernel_there declared i h).state_there;
      rule_there = λ i h. (kernel_there declared i h).rule_there;
      dot_there = λ i h. (kernel_there declared i h).dot_there;
    };
    well_named = well_named ordered limits declared;
    ascend = states-ascend b.kernels ordered.kernels;
    counted = refl;
  }
