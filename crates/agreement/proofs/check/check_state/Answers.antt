use Prim.Native.Nat.{suc}
use mathlib.Core.Path.{sym, ◌∙◌}
use native.Mathlib.Omega.{arith}
use Rattle.grammar.specs.Formulas.FormulaCheck as grammar
use Rattle.attributes.specs.Checking.{member_of}
use Rattle.attributes.specs.Wanted.{check-whole, all-below}
use Rattle.agreement.specs.Over.{kept-more, room-over}
use Rattle.agreement.proofs.check.check_state.Goals as goal

pub returns-then-check : goal.returns-then-check
returns-then-check c = record {
  room = c.check.ensures.room;
  answer = λ b H e t.
      all-below (λ a. grammar.check b (member_of c.args.parts.now.masks.now a)) (suc b.terminals) λ a l.
      check-whole b c.args.parts.now.masks.now H (sym (c.check.ensures.answer b H e) ∙ c.if-check.true) a (omega (arith, l, t, c.requires.1));
}

pub parts_right-requires : goal.parts_right-requires
parts_right-requires c = (c.requires.0, c.requires.1, room-over c.requires.2 c.check.ensures.room)

pub returns : goal.returns
returns c = record { room = kept-more c.check.ensures.room c.parts_right.ensures.room; answer = c.parts_right.ensures.answer }
