use Rattle.definitions.specs.DefinitionsLoop.{inherited-names, synthesized-names}
use Rattle.definitions.proofs.definitions.any_names.Goals as goal
use Rattle.definitions.proofs.definitions.any_names.Goals.{in-Inherited, in-Synthesized}

pub returns : goal.returns
returns c = elim c.match-kind.branch [
  | in-Inherited w ↦
      let letter = rw (w.second-is, c.letter.ensures, w.in-Inherited.is) at c.naming-c.ensures in
      rw (w.second-is, w.in-Inherited.is)
      (inherited-names _ _ c.number-rule.ensures w.mark-b.ensures w.number-position.ensures letter c.number-attribute.ensures)
  | in-Synthesized w ↦
      let letter = rw (w.second-is, c.letter.ensures, w.in-Synthesized.is) at c.naming-c.ensures in
      rw (w.second-is, w.in-Synthesized.is) (synthesized-names _ c.number-rule.ensures letter c.number-attribute.ensures)
]
