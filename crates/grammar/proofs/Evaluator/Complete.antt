-- What the machine answers on the leaves of a tree with its values. Assumes the premises of demand 3.
use Rattle.std.specs.Prelude.{ℕ, ◌≤◌, ◌≡◌, refl, [], ◌++◌, length}
use Rattle.std.proofs.Common.{arith, ◌∙◌, append-nil}
use Rattle.grammar.specs.Limits.{MAX_ROWS, MAX_STACK}
use Rattle.grammar.specs.Data.Symbol.{nonterminal, right_of, goal}
use Rattle.grammar.specs.Data.Book.{Book, inherited_owner}
use Rattle.grammar.specs.Automaton.First.{past}
use Rattle.grammar.specs.Automaton.Items.{Closure, kernel, Chain, one}
use Rattle.grammar.specs.Automaton.States.{accept, accepts}
use Rattle.grammar.specs.Evaluator.Tree.{leaves, size, need, next, Stands}
use Rattle.grammar.specs.Evaluator.Decorated.{no_values, Decorated, erase, inherited_of, Inherits, Obeys, root_inherited}
use Rattle.grammar.specs.Evaluator.DecoratedLaws.{inherits-given}
use Rattle.grammar.specs.Evaluator.Rows.{rows}
use Rattle.grammar.specs.Evaluator.Machine.{Tables, Answer, accepted, start, cell}
use Rattle.grammar.specs.Evaluator.Runs.{Ends, halts, reach-ends}
use Rattle.grammar.proofs.Evaluator.Moves.{accept-halts}
use Rattle.grammar.specs.Evaluator.Premises.{Premises}
use Rattle.grammar.specs.Evaluator.PremisesLaws.{start-length, start-item, owner-apart, go_has}
use Rattle.grammar.specs.Evaluator.FirstOfLeaves.{reach-tree}
use Rattle.grammar.proofs.Evaluator.Chains.{cell-inherits}
use Rattle.grammar.proofs.Evaluator.Simulate.{Over, Simulated, simulate}

module _ (b : Book) (T : Tables) where
  -- its leaves are accepted with its rows, and it is within the limits; or they are refused for a limit that it exceeds
  pub data Told (d : Decorated) : Type 0 where
    taken : Ends b T (start (leaves (erase d))) (accepted (rows b d 0)) → size (erase d) ≤ MAX_ROWS → need (erase d) ≤ MAX_STACK → Told d
    over : {x : Answer} → Ends b T (start (leaves (erase d))) x → Over 0 0 (size (erase d)) (need (erase d)) x → Told d

  pub told : Premises b T → {d : Decorated} → Stands b (erase d) (goal b.rules) → Obeys b d → Inherits (root_inherited b) d → Told d
  told H {d} stands obeys root =
      finish (simulate b T H d stands obeys [] [] 0 [] chain H.start_right past refl inherited (omega arith) (omega arith))
    where
      chain : Chain b 0 (next (leaves (erase d) ++ [])) 0 0 0
      chain = one (start-item b T H) (reach-tree b stands H.start_right [] past)

      inherited : (B K : ℕ) → goal b.rules ≡ nonterminal B → inherited_owner b K ≡ B → cell T 0 (next (leaves (erase d) ++ [])) [] K ≡ inherited_of d K
      inherited B K x o =
          cell-inherits b T H K chain (rw x at H.start_right) o [] no_values [] (λ J u. absurd (owner-apart b T H J u)) (λ I l m. absurd (omega arith))
          ∙ inherits-given b root (rw x at stands) K

      finish : Simulated b T 0 (goal b.rules) [] d (next (leaves (erase d) ++ [])) [] 0 [] → Told d
      finish (Simulated.quit {x = x} q o) = over {x = x} (rw append-nil at q) o
      finish (Simulated.came M p rs g reach ep er el hr hd) =
          let item = go_has b T H g (kernel (start-item b T H)) H.start_right in
          let c : Closure b M 0 (length (right_of b.rules 0)) 0 = rw (start-length b T H) (kernel item) in
          let halt = halts (accept-halts b T _ p rs (H.act_when M 0 accept (accepts c))) in
          taken (rw (append-nil, er) at (reach-ends b T reach halt)) (omega arith) (omega arith)
