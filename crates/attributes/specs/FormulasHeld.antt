-- A book that conditions 2 to 7 let pass, in the arrays from which its formulas are worked out, and what follows of its numbers. Assumes nothing.
use Rattle.std.specs.Prelude.{ℕ, ◌*◌, ◌<◌, ◌≤◌, ◌≡◌, List, length, replicate}
use Rattle.std.proofs.Common.{arith}
use Rattle.std.proofs.lemmas.List.{length-replicate}
use Rattle.grammar.specs.Data.Book.{Book, owner_at}
use Rattle.grammar.specs.Data.ListLaws.{at-member}
use Rattle.grammar.specs.Format.Ordered.{Ordered}
use Rattle.grammar.specs.Conditions.Meaning.{WithinLimits, Declared, Owned, Defined}
use Rattle.grammar.specs.Automaton.States.{KernelRules}
use Rattle.grammar.specs.Formulas.Slots.{attributes}
use Rattle.grammar.specs.Formulas.FormulaCheck as grammar
use Rattle.book.specs.Held.{DefinitionsIn}
use Rattle.attributes.specs.Owned.{OwnedIn, owned-some}
use Rattle.attributes.specs.Checking.{CheckHeld}
use Rattle.attributes.specs.CheckHeldLaws.{check-held}
use Rattle.attributes.specs.StateMarks.{MarksHeld}

-- with the number of the lines of each kind
pub record FormulasHeld (b : Book) (rules : List ℕ) (count : ℕ) (definitions : List ℕ) (lines : ℕ) (kernels bounds closures nullables begins reaches : List ℕ)
    (terminals states : ℕ) : Type 0 where
  pub ordered : Ordered b
  pub owned : Owned b
  pub defined : Defined b
  pub kernel-rules : KernelRules b
  pub definitions_in : DefinitionsIn b.inherited_definitions b.synthesized_definitions definitions
  pub marks-held : MarksHeld b rules kernels bounds closures nullables begins reaches
  pub rules_counted : count ≡ length b.rules
  pub definitions-counted : lines ≡ grammar.definitions b
  pub terminals_are : terminals ≡ b.terminals
  pub states_are : states ≡ b.states

-- the sets of the attributes that are counted
pub owned-all : {owners sets : List ℕ} {count : ℕ} → count ≡ length owners → OwnedIn owners count sets → OwnedIn owners (length owners) sets
owned-all e O = rw e at O

module _ {b : Book} {rules : List ℕ} {count : ℕ} {definitions : List ℕ} {lines : ℕ} {kernels bounds closures nullables begins reaches : List ℕ}
    {terminals states : ℕ} (H : FormulasHeld b rules count definitions lines kernels bounds closures nullables begins reaches terminals states) where
  pub limits : WithinLimits b
  limits = H.marks-held.items_in.states_in.grammar_in.limits

  pub declared : Declared b
  declared = H.marks-held.items_in.states_in.grammar_in.declared

  pub terminals-low : terminals < 32
  terminals-low = omega (arith, H.terminals_are, limits.terminals_limit.high)

  pub states-low : states ≤ 128
  states-low = omega (arith, H.states_are, limits.states_limit.high)

  pub rules-low : 9 * length b.rules ≤ 576
  rules-low = omega (arith, H.marks-held.items_in.states_in.grammar_in.rules_in.fits)

  -- the owners of attributes
  pub owner_low : (K : ℕ) → K < attributes b → owner_at b.inherited_owners K < 32
  owner_low K l =
      let m = declared.inherited-owners (owner_at b.inherited_owners K) (at-member b.inherited_owners K 32 l) in
      omega (arith, m.high, limits.nonterminals_limit.high)

  -- for the check of a state
  pub held-check : {sets masks : List ℕ} → OwnedIn b.inherited_owners (attributes b) sets → 9 * length b.rules ≤ length masks
      → CheckHeld b definitions rules sets masks
  held-check O m =
      check-held H.ordered limits declared H.owned H.defined H.definitions_in H.marks-held.items_in.states_in.grammar_in.rules_in O m

  -- what the lines of the definitions are read by
  pub held-lines : (sets : List ℕ) × CheckHeld b definitions rules sets (replicate (9 * length b.rules) 0)
  held-lines =
      let (sets, O) = owned-some b.inherited_owners (attributes b) owner_low in
      (sets, held-check O (omega (arith, length-replicate {A = ℕ} (9 * length b.rules) 0)))
