use Prim.Native.Nat.{◌+◌}
use mathlib.Core.List.{[]}
use mathlib.Core.Bool.{true, false}
use mathlib.Core.Path.{refl}
use native.Mathlib.Omega.{arith}
use lib.ListN.{length-set}
use Rattle.text.specs.Rest.{rest}
use Rattle.grammar.specs.Format.Expression.{scan, expression_steps}
use Rattle.definitions.specs.Expressions.{WaitsRoom}
use Rattle.definitions.specs.ExpressionsLoop.{Working, asked-whole, closed-asks, working-start, begun-shorter, open-fits, working-open, working-lost, working-end}
use borrow.Author.Rules.{rules}
use Rattle.definitions.proofs.expression.expression.Goals as goal
use Rattle.definitions.proofs.expression.expression.Goals.{After-put_node}
use Rattle.definitions.proofs.expression.expression.Goals.{In-loop-p}

-- in each turn the stack has its room
waits-room : (c : In-loop-p) → WaitsRoom c.args.source.now.bytes.now c.loop-p.waits
waits-room c = omega (arith, c.loop-p.invariant.0, c.requires.0)

pub loop-p-init : goal.loop-p-init
loop-p-init c = (search rules, search rules, record { due = true; working = working-start _ _ _ _; asks = λ h. refl })

pub bounds-waits-depth : goal.bounds-waits-depth
bounds-waits-depth c =
    open-fits c.loop-p.invariant.2.working c.loop-p-test.true c.begun-read.ensures c.in-Opens.is (waits-room (goal.at.bounds-waits-depth c).In-loop-p)

pub loop-p-smaller-in-Opens : goal.loop-p-smaller-in-Opens
loop-p-smaller-in-Opens c = begun-shorter c.loop-p.invariant.2.working c.loop-p-test.true c.begun-read.ensures

pub loop-p-preserved-in-Opens : goal.loop-p-preserved-in-Opens
loop-p-preserved-in-Opens c =
    let inv = c.loop-p.invariant in
    let due = inv.2.asks c.loop-p-test.true in (
      simp length-set inv.0,
      inv.1,
      record {
        due = inv.2.due;
        working = working-open inv.2.working c.loop-p-test.true c.begun-read.ensures c.in-Opens.is (waits-room (goal.at.loop-p-preserved-in-Opens c).In-loop-p) due c.waiting.ensures;
        asks = λ h. due;
      },
    )

-- an operand was read, before the brackets that it ends are closed
operand : (c : After-put_node)
    → Working c.args.source.now.bytes.now c.args.line.now (scan true (rest c.args.source.now.bytes.now c.args.at) [] []) c.loop-p.waits c.loop-p.depth false c.begun-read.result.at
    (c.loop-p.count + 1) c.put_node.new.line
operand c = asked-whole c.loop-p.invariant.2 c.loop-p-test.true c.begun-read.ensures c.in-Whole.is c.words.ensures c.put_node.ensures

pub close-next-requires : goal.close-next-requires
close-next-requires c =
    ((waits-room (goal.at.close-next-requires c).In-loop-p), search rules, (_, _, operand (goal.at.close-next-requires c).After-put_node))

pub returns-then-depth-eq0 : goal.returns-then-depth-eq0
unfolding expression_steps
returns-then-depth-eq0 c =
    let e = c.close-next.ensures _ _ (operand (goal.at.returns-then-depth-eq0 c).After-put_node) in
    working-end e.working (e.ends c.if-depth-eq0.true) c.if-depth-eq0.true

pub loop-p-smaller : goal.loop-p-smaller
loop-p-smaller c =
    omega (
      arith,
      begun-shorter c.loop-p.invariant.2.working c.loop-p-test.true c.begun-read.ensures,
      (c.close-next.ensures _ _ (operand (goal.at.loop-p-smaller c).After-put_node)).shorter,
    )

pub loop-p-preserved : goal.loop-p-preserved
loop-p-preserved c =
    (search rules, search rules, closed-asks (c.close-next.ensures _ _ (operand (goal.at.loop-p-preserved c).After-put_node)) c.if-depth-eq0.false)

pub returns : goal.returns
unfolding expression_steps
returns c = working-lost c.loop-p.invariant.2.working c.loop-p-test.false
