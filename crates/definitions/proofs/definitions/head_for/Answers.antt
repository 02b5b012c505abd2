use Rattle.text.specs.Numeral.{spelled}
use Rattle.lines.specs.Heads.{inherited-definition-head, synthesized-definition-head}
use Rattle.definitions.proofs.definitions.head_for.Goals as goal
use Rattle.definitions.proofs.definitions.head_for.Goals.{in-Inherited, in-Synthesized}

pub invariant_of-result : goal.invariant_of-result
unfolding spelled
invariant_of-result c = elim c.match-kind.branch [
  | in-Inherited w ↦ rw w.result-is (record { spells = inherited-definition-head })
  | in-Synthesized w ↦ rw w.result-is (record { spells = synthesized-definition-head })
]
