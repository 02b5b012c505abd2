use mathlib.Core.Path.{sym, ◌∙◌}
use native.Mathlib.Omega.{arith}
use Rattle.text.specs.Reading.{system_of}
use Rattle.text.proofs.Positional.{digit_is, digit-none}
use Rattle.text.proofs.source.Source.digit.Goals as goal

pub returns-then-class-s : goal.returns-then-class-s
returns-then-class-s c =
    let e = sym c.class.ensures ∙ c.if-class-s.true in
    let p = c.args.s.valid.positional in
    (sym (digit_is (system_of c.args.s) c.args.b e), omega (arith, p.from_zero _ e, p.to_base _ e))

pub returns : goal.returns
returns c = digit-none (system_of c.args.s) c.args.b (λ q. c.if-class-s.false (c.class.ensures ∙ q))
