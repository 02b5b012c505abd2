use Rattle.text.specs.Numeral.{spelled}
use Rattle.grammar.specs.Format.Parse.{kernel_lines}
use Rattle.lines.specs.Heads.{kernel-head}
use Rattle.book.specs.Order.{keyed-turn}
use Rattle.book.specs.Sections.{filling-start, filling-less, filling-done}
use Rattle.kernels.specs.KernelLines.{kernel-shrinks}
use Rattle.kernels.proofs.kernels.kernel_lines.Goals as goal

pub loop-head-init : goal.loop-head-init
unfolding kernel_lines
loop-head-init c = filling-start _ _ _ _ _ (kernel-shrinks _) _ _ _ _

pub invariant_of-head : goal.invariant_of-head
unfolding spelled
invariant_of-head c = record { spells = kernel-head }

pub returns-then-n-a : goal.returns-then-n-a
unfolding spelled
returns-then-n-a c = filling-done _ _ _ _ _ (kernel-shrinks _) _ c.loop-head.invariant c.line_head-a.ensures c.if-n-a.true

pub loop-head-smaller : goal.loop-head-smaller
unfolding spelled
loop-head-smaller c = filling-less _ _ _ _ _ (kernel-shrinks _) _ c.loop-head.invariant c.line_head-a.ensures c.if-n-a.false
    c.kernel_line-line.ensures.puts.remaining_is

pub loop-head-preserved : goal.loop-head-preserved
unfolding spelled
loop-head-preserved c = keyed-turn _ _ _ _ _ (kernel-shrinks _) c.loop-head.invariant c.line_head-a.ensures c.if-n-a.false
    c.kernel_line-line.ensures
