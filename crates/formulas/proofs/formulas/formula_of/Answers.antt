-- The loop keeps the arrays, and `Running` for every expression and every choice of formulas that may be asked for.
use Rattle.std.proofs.Common.{ℕ, ◌<◌, ◌∙◌, arith}
use Rattle.grammar.specs.Data.Term.{nodes}
use Rattle.grammar.specs.Data.Book.{Expr}
use Rattle.grammar.specs.Formulas.Formula.{Formula}
use Rattle.formulas.specs.Rows.{nodes-same, nodes-more}
use Rattle.formulas.specs.Formulas.{Asked}
use Rattle.formulas.specs.FormulasLaws.{Running, running-start, running-end, running-ready, running-takes, running-turn}
use Rattle.formulas.proofs.formulas.formula_of.Goals.{In-loop-i}
use Rattle.formulas.proofs.formulas.formula_of.Goals as goal

abbrev AskedAt : In-loop-i → Expr → (ℕ → Formula) → Type 0
AskedAt c e f = Asked c.args.definitions.now c.args.line c.args.dot c.args.slots.now c.args.nodes.now.rows.now c.args.used e f

-- a step is left in a turn
left : (c : In-loop-i) (e : Expr) (f : ℕ → Formula) → AskedAt c e f → c.loop-i.i < nodes e
left c e f A = omega (arith, c.loop-i-test.true, A.stands.nodes_is)

few : (c : In-loop-i) → c.loop-i.i < 15
few c = let A = c.requires.by_index.2 in omega (arith, left c _ _ A, A.stands.few)

-- the run in a turn, of the expression and the formulas of the contract's own premise
running : (c : In-loop-i) → let at = c.loop-i in
    Running c.args.dot c.args.slots.now c.requires.by_index.0 c.requires.by_index.1 c.args.nodes.now.rows.now c.args.used at.nodes.rows.now at.nodes.heads.now at.nodes.nexts.now at.used at.stack at.top at.i
running c = c.loop-i.invariant.1 _ _ c.requires.by_index.2

pub loop-i-init : goal.loop-i-init
loop-i-init c = (nodes-same _, λ e f A. running-start c.requires.table A.reads)

pub operand_of-operand-requires : goal.operand_of-operand-requires
operand_of-operand-requires c =
    let s = (goal.at.operand_of-operand-requires c).In-loop-i in
    let R = running s in
    let A = c.requires.by_index.2 in
    let l = left s _ _ A in
    (rw (c.step_at-step.ensures, A.stands.steps_are _ l) (running-ready R l), omega (arith, R.long, R.deep, few s))

pub number_of-r-requires : goal.number_of-r-requires
number_of-r-requires c =
    let s = (goal.at.number_of-r-requires c).In-loop-i in
    let R = running s in
    let A = c.requires.by_index.2 in
    (R.table, omega (arith, R.few, left s _ _ A, A.room, R.grown.long, R.table.table_long))

pub overflow_sub-top : goal.overflow_sub-top
overflow_sub-top c =
    let s = (goal.at.overflow_sub-top c).In-loop-i in
    let A = c.requires.by_index.2 in
    let l = left s _ _ A in
    rw (c.operands-top.ensures, c.step_at-step.ensures, A.stands.steps_are _ l) (running-takes (running s) l)

pub offset_bounds-stack-top : goal.offset_bounds-stack-top
offset_bounds-stack-top c = let s = (goal.at.offset_bounds-stack-top c).In-loop-i in omega (arith, (running s).deep, few s)

pub bounds-stack-top : goal.bounds-stack-top
bounds-stack-top c = let s = (goal.at.bounds-stack-top c).In-loop-i in omega (arith, (running s).deep, few s)

pub overflow_add-top : goal.overflow_add-top
overflow_add-top c = let s = (goal.at.overflow_add-top c).In-loop-i in omega (arith, (running s).deep, few s)

pub loop-i-preserved : goal.loop-i-preserved
loop-i-preserved c = (
  nodes-more c.loop-i.invariant.0 c.number_of-r.ensures.kept,
  λ e f A.
      let l = left (goal.at.loop-i-preserved c).In-loop-i e f A in
      rw c.operands-top.ensures
      (running-turn (c.loop-i.invariant.1 e f A) l c.step_at-step.result A.stands.few (c.step_at-step.ensures ∙ A.stands.steps_are _ l)
      (rw c.operand_of-operand.ensures at c.number_of-r.ensures.numbered)),
)

pub returns : goal.returns
returns c = record {
  kept = c.loop-i.invariant.0;
  formed = λ e f A.
      let R = c.loop-i.invariant.1 e f A in
      running-end R (omega (arith, c.loop-i-test.false, R.within, A.stands.nodes_is));
}
