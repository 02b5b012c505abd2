use native.Mathlib.Omega.{arith}
use borrow.Author.Rules.{rules}
use Rattle.items.specs.KernelLines.{begin-more, begin-same, begin-ends}
use Rattle.items.proofs.closure.begin.Goals as goal
use Rattle.items.proofs.closure.begin.Goals.{else-line, then-line}

pub loop-i-preserved : goal.loop-i-preserved
loop-i-preserved c = let h = c.loop-i-test.true in
    let told = c.line.ensures in
    let inv = c.loop-i.invariant in
    let g = c.requires.0 in
    elim c.if-line.branch [
      | then-line w ↦ rw w.given-is (begin-more inv h told (search rules))
      | else-line w ↦ rw w.given-is (begin-same inv h told (search rules) ((told g.0 g.1 g.2 (omega (arith, g.3))).same_is w.if-line.false))
    ]

pub returns : goal.returns
returns c = λ b F H l. begin-ends c.loop-i.invariant c.loop-i-test.false b F H l
