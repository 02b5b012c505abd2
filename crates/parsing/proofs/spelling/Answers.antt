use Rattle.std.proofs.Common.{refl, arith}
use Rattle.parsing.specs.SpellingLaws.{spelling-steps}
use Rattle.parsing.proofs.spelling.Goals as goal

pub returns-then-end-source : goal.returns-then-end-source
returns-then-end-source c = spelling-steps _ _ c.declarations-declared.ensures c.definition_sections-defined.ensures c.kernel_lines-items.ensures
    c.go_lines-moves.ensures c.end_line-end.ensures _ (λ e. absurd (omega arith)) (λ _. refl)

pub returns : goal.returns
returns c = spelling-steps _ _ c.declarations-declared.ensures c.definition_sections-defined.ensures c.kernel_lines-items.ensures c.go_lines-moves.ensures
    c.end_line-end.ensures _ (λ _. refl) (λ n. absurd (omega arith))
