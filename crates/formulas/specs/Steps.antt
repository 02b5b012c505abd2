-- The steps of a definition, read from its line (book's Layout and Held). Assumes nothing.
use Rattle.std.specs.Prelude.{ℕ, ◌+◌, ◌*◌, ◌<◌, ◌≤◌, ◌≡◌, refl, List, [], ◌∷◌, length, get_or}
use Rattle.std.proofs.Common.{arith}
use Rattle.grammar.specs.Limits.{MAX_NODES}
use Rattle.grammar.specs.Data.Term.{nodes, add, sub, min, max}
use Rattle.grammar.specs.Data.Postfix as postfix
use Rattle.grammar.specs.Data.Postfix.{push, load, operate, select}
use Rattle.grammar.specs.Data.Book.{Place, own, at, val, Expr, InheritedDefinition, SynthesizedDefinition}
use Rattle.book.specs.Held.{node_kind, node_first, node_second, node_at, NodeIn, DefinitionsIn, inherited_at}
use Rattle.formulas.specs.declared.steps.Step.{Step}
use Rattle.formulas.specs.declared.steps.Step.TheVariants.{Push, Own, At, Val, Operate, Select}
use Rattle.formulas.specs.Nodes.{operator_of}

-- the code's steps as those of expressions
abbrev pub step_of : Step → postfix.Step Place
step_of (Push n) = push n
step_of (Own K) = load (own K)
step_of (At J K) = load (at J K)
step_of (Val J) = load (val J)
step_of (Operate o) = operate (operator_of o)
step_of Select = select

-- the steps with the words x and y, by their kinds from 0 on; any other kind is select's
abbrev kinds : ℕ → ℕ → List (postfix.Step Place)
kinds x y = push x ∷ load (own x) ∷ load (at x y) ∷ load (val x) ∷ operate add ∷ operate sub ∷ operate min ∷ operate max ∷ []

unfoldable pub step_with : ℕ → ℕ → ℕ → postfix.Step Place
step_with kind x y = get_or (kinds x y) kind select

-- the step whose words stand at a place
abbrev pub step_in : List ℕ → ℕ → postfix.Step Place
step_in definitions place = step_with (get_or definitions place 0) (get_or definitions (place + 1) 0) (get_or definitions (place + 2) 0)

step_back : (s : postfix.Step Place) → step_with (node_kind s) (node_first s) (node_second s) ≡ s
unfolding step_with node_kind node_first node_second
step_back (push n) = refl
step_back (load (own K)) = refl
step_back (load (at J K)) = refl
step_back (load (val J)) = refl
step_back (operate add) = refl
step_back (operate sub) = refl
step_back (operate min) = refl
step_back (operate max) = refl
step_back select = refl

pub step_is : {s : postfix.Step Place} {definitions : List ℕ} {place : ℕ} → NodeIn s definitions place → step_in definitions place ≡ s
step_is {s} N = rw (N.kind_is, N.first_is, N.second_is) (step_back s)

-- the expression e stands in line i
pub record ExpressionIn (e : Expr) (definitions : List ℕ) (i : ℕ) : Type 0 where
  pub long : 49 * i + 49 ≤ length definitions
  pub few : nodes e ≤ MAX_NODES
  pub nodes_is : get_or definitions (49 * i + 3) 0 ≡ nodes e
  pub steps_are : (n : ℕ) → n < nodes e → step_in definitions (49 * i + 4 + 3 * n) ≡ node_at e n

-- the expressions of inherited attributes' definitions
pub inherited-in : {inherited : List InheritedDefinition} {synthesized : List SynthesizedDefinition} {definitions : List ℕ}
    → DefinitionsIn inherited synthesized definitions → (i : ℕ) → i < length inherited → nodes (inherited_at inherited i).expression ≤ MAX_NODES
    → ExpressionIn (inherited_at inherited i).expression definitions i
inherited-in D i h few = record {
  long = omega (arith, D.long, D.fits);
  few = few;
  nodes_is = (D.inherited_is i h).nodes_is;
  steps_are = λ n l. step_is ((D.inherited_is i h).node_is n l (omega arith));
}

-- opens every definition of this module
unfoldable pub opens : Unit {0}
unfolding step_with
opens = tt
