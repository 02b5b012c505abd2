use native.Mathlib.Omega.{arith}
use Rattle.text.proofs.ClassLaws.{letter-range}
use Rattle.text.specs.Numeral.{spelled}
use Rattle.book.specs.Kinds.{kind-letter}
use Rattle.definitions.specs.DefinitionsShort.{inherited-short, synthesized-short}
use Rattle.definitions.proofs.definitions.short_names.Goals as goal
use Rattle.definitions.proofs.definitions.short_names.Goals.{in-Inherited+in_ok-position-in-Inherited, in-Synthesized}

pub overflow_add-letter : goal.overflow_add-letter
overflow_add-letter c = omega (arith, c.letter.ensures, letter-range _ (kind-letter c.args.kind))

pub returns : goal.returns
unfolding spelled
returns c = elim c.match-kind.branch [
  | in-Inherited+in_ok-position-in-Inherited w ↦
      let letter = rw (w.second-is, c.letter.ensures, w.in-Inherited.is) at c.if-source-a.false in
      let attribute = rw w.second-is at c.in_ok-attribute.ensures in
      rw (w.second-is, w.in-Inherited.is)
      (inherited-short (omega (arith, c.if-n-at.false)) c.in_ok-rule.ensures w.in_ok-position-in-Inherited.ensures letter attribute)
  | in-Synthesized w ↦
      let letter = rw (w.second-is, c.letter.ensures, w.in-Synthesized.is) at c.if-source-a.false in
      let attribute = rw w.second-is at c.in_ok-attribute.ensures in
      rw (w.second-is, w.in-Synthesized.is) (synthesized-short (omega (arith, c.if-n-at.false)) c.in_ok-rule.ensures letter attribute)
]
