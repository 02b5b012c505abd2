use Rattle.std.proofs.Common.{arith, sym}
use Rattle.formulas.specs.FormulasLaws.{own-empty, own-slot, own-leaf}
use Rattle.formulas.proofs.formulas.own_operand.Goals as goal

pub returns-then-dot-ne0 : goal.returns-then-dot-ne0
returns-then-dot-ne0 c = sym (own-leaf _ c.args.slots.now _ c.if-dot-ne0.true)

pub returns-in-None : goal.returns-in-None
returns-in-None c = sym (own-empty _ c.args.slots.now _ c.if-dot-ne0.false (omega (arith, c.in-None.ensures)))

pub returns-in-Some : goal.returns-in-Some
returns-in-Some c =
    rw c.in-Some.ensures.1 (sym (own-slot _ c.args.slots.now _ c.if-dot-ne0.false (λ e. omega (arith, c.in-Some.ensures))))
