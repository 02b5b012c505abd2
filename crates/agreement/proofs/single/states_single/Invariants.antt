use Prim.Native.Nat.{ℕ, ◌<◌}
use mathlib.Core.Path.{◌≡◌}
use mathlib.Core.List.{List}
use Rattle.grammar.specs.Data.Book.{Book}
use Rattle.grammar.specs.Format.Ordered.{Ordered}
use Rattle.grammar.specs.Automaton.FirstSets.{sets_of}
use Rattle.grammar.specs.Formulas.FormulaCheck as grammar
use Rattle.automaton.specs.StatesIn.{ItemsIn}
use Rattle.automaton.specs.Fronts.{FrontsIn}
use Rattle.agreement.specs.Given.{GivenIn}
use Rattle.agreement.specs.SingleState.{Single}
use Rattle.agreement.proofs.single.states_single.Given as goal

abbrev pub invariant-loop-state : goal.invariant-loop-state
invariant-loop-state l = (b : Book) (rules closures : List ℕ) → Ordered b → ItemsIn b (sets_of b.rules) rules l.kernels l.bounds closures
    → FrontsIn b rules closures l.fronts → GivenIn b (grammar.definitions b) l.given l.leaders → l.states ≡ b.states → (S : ℕ) → S < l.state → Single b S
