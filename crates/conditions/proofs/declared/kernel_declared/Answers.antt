use Rattle.conditions.specs.DeclaredLaws.{kernel-asked, kernel-refused}
use Rattle.conditions.proofs.declared.kernel_declared.Goals as goal

pub returns-then-book-p : goal.returns-then-book-p
returns-then-book-p c = record { for_all = λ b h. kernel-refused h c.if-book-p.true }

pub returns : goal.returns
returns c = record { for_all = λ b h. kernel-asked h c.if-book-p.false }
