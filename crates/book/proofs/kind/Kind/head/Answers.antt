use Rattle.text.specs.Numeral.{spelled}
use Rattle.lines.specs.Heads.{inherited-head, synthesized-head}
use Rattle.book.proofs.kind.Kind.head.Goals as goal
use Rattle.book.proofs.kind.Kind.head.Goals.{in-Inherited, in-Synthesized}

pub invariant_of-result : goal.invariant_of-result
unfolding spelled
invariant_of-result c = elim c.match-self.branch [
  | in-Inherited w ↦ rw w.result-is (record { spells = inherited-head })
  | in-Synthesized w ↦ rw w.result-is (record { spells = synthesized-head })
]
