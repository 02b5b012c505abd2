use Rattle.definitions.specs.DefinitionsLoop.{defining-start, defining-less, defining-turn, defining-done}
use Rattle.definitions.specs.Definitions.{ascending}
use borrow.Author.Rules.{rules}
use Rattle.definitions.proofs.definitions.definition_lines.Goals as goal

pub loop-head-init : goal.loop-head-init
loop-head-init c = (search rules, defining-start _ _ _ _ _ _)

pub returns-then-n-a : goal.returns-then-n-a
returns-then-n-a c = defining-done _ _ _ _ c.loop-head.invariant.1 (rw c.head_for-head.ensures at c.line_head-a.ensures) c.if-n-a.true

pub loop-head-smaller : goal.loop-head-smaller
loop-head-smaller c = defining-less _ _ _ _ c.loop-head.invariant.1 (rw c.head_for-head.ensures at c.line_head-a.ensures) c.if-n-a.false c.definition_line-line.ensures

pub loop-head-preserved : goal.loop-head-preserved
unfolding ascending
loop-head-preserved c = (
  search (rules, c.definition_line-line.auto.waits),
  defining-turn _ _ _ _ c.loop-head.invariant.1 (rw c.head_for-head.ensures at c.line_head-a.ensures) c.if-n-a.false c.definition_line-line.ensures,
)
