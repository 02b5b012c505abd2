-- The action that a byte of the action table names (`cell_code` of crate automaton), as the code's enum. Assumes nothing.
use Rattle.std.specs.Prelude.{ℕ, ◌+◌, ◌*◌, ◌-◌, ◌≤◌, ◌<◌, ◌≡◌, refl, ◌≢◌, true, false, List, eqb, length, get_or}
use Rattle.std.proofs.Common.{ap, ◌∙◌, arith}
use Rattle.std.proofs.Math.Option.{Option, none, some}
use borrow.Author.Tests.{ne_eqb}
use Rattle.grammar.specs.Limits.{MAX_RULES}
use Rattle.grammar.specs.Data.Symbol.{right_of}
use Rattle.grammar.specs.Data.Book.{Book}
use Rattle.grammar.specs.Format.Ordered.{Spelled}
use Rattle.grammar.specs.Conditions.Meaning.{Declared}
use Rattle.grammar.specs.Automaton.Items.{derives, kernel_item, Closure, kernel, close}
use Rattle.grammar.specs.Automaton.States.{shift, accept, reduce, Acts, reduces, Action as Acting}
use Rattle.grammar.specs.Automaton.FirstSets.{sets_of}
use Rattle.grammar.specs.Automaton.Actions.{Cell, free, act, conflict, action_of}
use Rattle.grammar.specs.Automaton.Compiled.{compiled}
use Rattle.grammar.proofs.Evaluator.TakenPremises.{premises}
use Rattle.grammar.specs.Refusal.{Sound}
use Rattle.grammar.specs.Engine.{tables_from, tables_of}
use Rattle.items.specs.Arrays.{cell_code, ActionsIn}
use Rattle.stack.specs.declared.action.Move.TheVariants.{Shift, Reduce, Accept}
use Rattle.stack.specs.declared.action.Action.{Action}
use Rattle.stack.specs.declared.action.Action.TheVariants.{Due, None}

unfoldable pub action_at : ℕ → Action
action_at code =
    elim (eqb code 0) [
      | true ↦ None
      | false ↦
          elim (eqb code 1) [
            | true ↦ Due Shift
            | false ↦ elim (eqb code 2) [ true ↦ Due Accept | false ↦ elim (eqb code 255) [ true ↦ None | false ↦ Due (Reduce (code - 2)) ] ]
          ]
    ]

-- what the enum means
unfoldable pub meant : Action → Option Acting
meant None = none
meant (Due Shift) = some shift
meant (Due Accept) = some accept
meant (Due (Reduce P)) = some (reduce P)

-- opens every definition of this module
unfoldable pub opens : Unit {0}
unfolding action_at meant
opens = tt

-- ---- a rule

-- any byte but these four is a rule's
pub code-reduce : (code : ℕ) → code ≢ 0 → code ≢ 1 → code ≢ 2 → code ≢ 255 → action_at code ≡ Due (Reduce (code - 2))
unfolding action_at
code-reduce code n0 n1 n2 n3 = rw (ne_eqb code 0 n0, ne_eqb code 1 n1, ne_eqb code 2 n2, ne_eqb code 255 n3, action_at)

-- ---- the table

reduce-means : (P : ℕ) → 0 < P → P < 253 → meant (action_at (2 + P)) ≡ some (reduce P)
unfolding meant
reduce-means P p l =
    let e : 2 + P - 2 ≡ P = omega arith in
    ap meant (code-reduce (2 + P) (λ z. omega arith) (λ z. omega arith) (λ z. omega arith) (λ z. omega arith)) ∙ ap (λ n. some (reduce n)) e

-- a byte names the action of its cell
cell-means : (x : Cell) → ((P : ℕ) → x ≡ act (reduce P) → (0 < P) × (P < MAX_RULES)) → meant (action_at (cell_code x)) ≡ action_of x
unfolding action_at meant cell_code action_of
cell-means free low = refl
cell-means (act shift) low = refl
cell-means (act accept) low = refl
cell-means (act (reduce P)) low = let (p, l) = low P refl in reduce-means P p (omega arith)
cell-means conflict low = refl

-- the rule of an item is a rule of the book
pub item-rule : {b : Book} → Declared b → {S P D a : ℕ} → Closure b S P D a → P < length b.rules
item-rule d (kernel (kernel_item {k = k} m s p e l)) = rw (← p) (d.kernels-declared k m).rule_there
item-rule d (close c (derives h p e f)) = p

module _ {b : Book} (spelled : Spelled b) (sound : Sound b) where
  -- a rule that is reduced is a rule of the book other than rule 0, and is complete
  pub record Reduced (S a P : ℕ) : Type 0 where
    pub later : 0 < P
    pub there : P < length b.rules
    pub complete : Closure b S P (length (right_of b.rules P)) a

  pub reduced : (S a P : ℕ) → (tables_of b).act S a ≡ some (reduce P) → Reduced S a P
  reduced S a P e = by ((premises spelled sound).act_only S a (reduce P) e)
    where
      by : Acts b S a (reduce P) → Reduced S a P
      by (reduces n c) = record { later = omega arith; there = item-rule sound.names c; complete = c }

  -- the byte of a state and a terminal names their action
  pub action-means : {actions : List ℕ} → ActionsIn b (sets_of b.rules) actions → (S a : ℕ) → S < b.states → a ≤ b.terminals
      → meant (action_at (get_or actions (32 * S + a) 0)) ≡ (tables_of b).act S a
  unfolding tables_of tables_from compiled action_of
  action-means A S a s t = rw (A.action_is S a s t) (cell-means _ λ P e.
      let r = reduced S a P (ap action_of e) in
      (r.later, omega (arith, r.there, sound.limits.rules_limit.high)))
