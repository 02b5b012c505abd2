use native.Mathlib.Numerals.{add-one}
use Rattle.grammar.specs.Format.Parse.{owner_lines}
use Rattle.book.specs.Sections.{filling-start, filling-turn, filling-less, filling-done}
use Rattle.book.specs.Lines.{owner-shrinks}
use Rattle.book.specs.Kinds.{kind-letter}
use borrow.Author.Rules.{rules}
use Rattle.book.proofs.owners.owner_lines.Goals as goal

pub loop-head-init : goal.loop-head-init
unfolding owner_lines
loop-head-init c = filling-start _ _ _ _ _ (owner-shrinks _ _) _ _ _ _

pub returns-then-n-a : goal.returns-then-n-a
returns-then-n-a c = rw (← c.head-head.ensures, ← c.letter-letter.ensures, ← c.limit-room.ensures)
    (filling-done _ _ _ _ _ (owner-shrinks _ _) _ c.loop-head.invariant c.line_head-a.ensures c.if-n-a.true)

pub owner_line-p-requires : goal.owner_line-p-requires
owner_line-p-requires c = (rw c.letter-letter.ensures (kind-letter _), search rules)

pub loop-head-smaller : goal.loop-head-smaller
loop-head-smaller c = filling-less _ _ _ _ _ (owner-shrinks _ _) _ c.loop-head.invariant c.line_head-a.ensures c.if-n-a.false
    c.owner_line-p.ensures.remaining_is

pub loop-head-preserved : goal.loop-head-preserved
loop-head-preserved c = filling-turn _ _ _ _ _ (owner-shrinks _ _) _ c.loop-head.invariant c.line_head-a.ensures c.if-n-a.false
    c.owner_line-p.ensures (add-one _)
