use Rattle.std.proofs.Common.{[], ◌≡◌, ◌+◌, ◌*◌, ◌<◌, ◌∙◌, arith}
use Rattle.grammar.specs.Data.Term as term
use Rattle.grammar.specs.Data.Book.{Expr}
use Rattle.book.specs.Held.{node_at}
use Rattle.formulas.specs.Steps.{step_of}
use Rattle.cells.specs.Values.{Asked}
use Rattle.cells.specs.ValuesLaws.{only-ready, only-value, running-start, running-end, running-ready, running-takes, running-turn}
use Rattle.cells.proofs.values.value.Goals as goal
use Rattle.cells.proofs.values.value.Goals.{In-loop-i, After-step_at}

-- the only step of an expression of one node
one : (c : After-step_at) (e : Expr) → Asked c.args.definitions.now c.args.line c.args.dot e → term.nodes e ≡ 1
one c e A = omega (arith, c.if-nodes-eq1.true, A.stands.nodes_is)

only : (c : After-step_at) (e : Expr) → Asked c.args.definitions.now c.args.line c.args.dot e → step_of c.step_at.result ≡ node_at e 0
only c e A =
    let place : 49 * c.args.line + 4 + 3 * 0 ≡ 49 * c.args.line + 4 = omega arith in
    c.step_at.ensures ∙ rw place at (A.stands.steps_are 0 (omega (arith, one c e A)))

-- a step is left in a turn
left : (c : In-loop-i) (e : Expr) → Asked c.args.definitions.now c.args.line c.args.dot e → c.loop-i.i < term.nodes e
left c e A = omega (arith, c.loop-i-test.true, A.stands.nodes_is)

pub step_value-requires-clause-ready : goal.step_value-requires-clause-ready
step_value-requires-clause-ready c =
    let (e, A) = c.requires.asked in
    let at = (goal.at.step_value-requires-clause-ready c).After-step_at in
    (rw (only at e A) (only-ready A.reads (one at e A)), omega arith)

pub returns-then-nodes-eq1 : goal.returns-then-nodes-eq1
returns-then-nodes-eq1 c = λ e A.
    let at = (goal.at.returns-then-nodes-eq1 c).After-step_at in
    c.step_value.ensures ∙ rw (only at e A) (only-value A.reads (one at e A) _ [])

pub loop-i-init : goal.loop-i-init
loop-i-init c = λ e A. running-start _ A.reads

pub step_value-v-requires-clause-ready : goal.step_value-v-requires-clause-ready
step_value-v-requires-clause-ready c =
    let (e, A) = c.requires.asked in
    let R = c.loop-i.invariant e A in
    let l = left (goal.at.step_value-v-requires-clause-ready c).In-loop-i e A in
    (rw (c.step_at-step.ensures ∙ A.stands.steps_are _ l) (running-ready R l), omega (arith, R.long, R.deep, l, A.stands.few))

pub overflow_sub-top : goal.overflow_sub-top
overflow_sub-top c =
    let (e, A) = c.requires.asked in
    let l = left (goal.at.overflow_sub-top c).In-loop-i e A in
    rw (c.operands-top.ensures, c.step_at-step.ensures ∙ A.stands.steps_are _ l) (running-takes (c.loop-i.invariant e A) l)

pub loop-i-preserved : goal.loop-i-preserved
loop-i-preserved c = λ e A.
    let l = left (goal.at.loop-i-preserved c).In-loop-i e A in
    running-turn (c.loop-i.invariant e A) l (step_of c.step_at-step.result) A.stands.few (c.step_at-step.ensures ∙ A.stands.steps_are _ l)
    c.operands-top.ensures c.step_value-v.ensures

pub returns : goal.returns
returns c = λ e A.
    let R = c.loop-i.invariant e A in
    running-end R (omega (arith, c.loop-i-test.false, R.within, A.stands.nodes_is))
