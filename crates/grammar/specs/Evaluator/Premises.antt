-- What demand 3 takes from a book and its tables, as one record of hypotheses. Each field is a part of 01's conditions 4, 5 and 7 to 10, or says that
-- the tables hold what the definitions of items and formulas say. Assumes nothing.
use Rattle.std.specs.Prelude.{ℕ, suc, ◌<◌, ◌≤◌, ◌≡◌, length}
use Rattle.std.proofs.Math.Option.{some}
use mathlib.Core.List.{List, [], ◌∷◌, Memᴰ as Mem}
use Rattle.grammar.specs.Data.Symbol.{Symbol, nonterminal, Rule, left_of, right_of, after, goal}
use Rattle.grammar.specs.Data.Term.{Leaves}
use Rattle.grammar.specs.Data.Book.{Place, own, at, val, InheritedDefinition, SynthesizedDefinition, Book, inherited_owner}
use Rattle.grammar.specs.Automaton.Items.{Chain}
use Rattle.grammar.specs.Formulas.Formula.{Formula, formula}
use Rattle.grammar.specs.Formulas.ChainLaws.{FromChain}
use Rattle.grammar.specs.Automaton.States.{go_to, Action, KernelRules, GoRules, Acts}
use Rattle.grammar.specs.Evaluator.Machine.{Tables}

module _ (b : Book) where
  -- what a definition of rule P may read, if only the right symbols before J are at hand: inherited attributes of the left side, and those symbols
  pub data MayRead (P J : ℕ) : Place → Type 0 where
    reads_own : {K : ℕ} → inherited_owner b K ≡ left_of b.rules P → MayRead P J (own K)
    reads_at : {I K : ℕ} → 1 ≤ I → I < J → MayRead P J (at I K)
    reads_val : {I : ℕ} → 1 ≤ I → I < J → MayRead P J (val I)

  module _ (T : Tables) where
    pub record Premises : Type 0 where
      -- 4: rule 0 is n0 to one symbol; n0 is on no right side and owns no inherited attribute
      pub start_left : left_of b.rules 0 ≡ 0
      pub start_right : right_of b.rules 0 ≡ goal b.rules ∷ []
      pub start_apart : (r : Rule) → Mem r b.rules → Mem (nonterminal 0) r.right → ⊥
      pub start_bare : Mem 0 b.inherited_owners → ⊥
      -- 5: an inherited attribute's definition reads to the left of its target, a synthesized one's may read the whole right side
      pub inherited_reads : (d : InheritedDefinition) → Mem d b.inherited_definitions → Leaves (MayRead d.rule d.position) d.expression
      pub synthesized_reads : (d : SynthesizedDefinition) → Mem d b.synthesized_definitions
          → Leaves (MayRead d.rule (suc (length (right_of b.rules d.rule)))) d.expression
      -- 7 and 8
      pub kernel-rules : KernelRules b
      pub go-rules : GoRules b
      pub go_table : (S : ℕ) (X : Symbol) → T.go S X ≡ go_to b S X
      -- 9: the actions are those of the items, and so there is no conflict
      pub act_when : (S a : ℕ) (x : Action) → Acts b S a x → T.act S a ≡ some x
      pub act_only : (S a : ℕ) (x : Action) → T.act S a ≡ some x → Acts b S a x
      -- 10: every chain gives the formula that stands in the table, and so all chains that end before the same nonterminal give the same
      pub formula_there : (S a P D c K : ℕ) (β : List Symbol) (chain : Chain b S a P D c) → after b.rules P D ≡ nonterminal (inherited_owner b K) ∷ β
          → T.formula_at S a K ≡ some (formula b chain K)
      -- and the table has no other: what stands there is the formula of a chain that ends before the attribute's owner ("0 where there is none")
      pub formula_only : (S a K : ℕ) (f : Formula) → T.formula_at S a K ≡ some f → FromChain b S a K f
