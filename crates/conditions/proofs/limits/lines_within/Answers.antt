use mathlib.Core.Path.{ap, ap₂, ◌∙◌}
use mathlib.Core.Bool.{◌&&◌}
use Rattle.grammar.specs.Conditions.Decides.{few}
use Rattle.conditions.specs.LimitTests.{lines_within}
use Rattle.conditions.specs.AskedLaws.{rule-lines, definition-lines, kernel-lines, owners-are}
use Rattle.conditions.specs.LimitLaws.{rights-lines, nodes-lines}
use Rattle.conditions.proofs.limits.lines_within.Goals as goal

pub returns : goal.returns
unfolding lines_within
returns c = record {
  for_all = λ b h. ap₂ ◌&&◌ (ap₂ ◌&&◌ (ap₂ ◌&&◌ (ap₂ ◌&&◌
      (c.few.ensures
      ∙ ap (few 4) (owners-are h.inherited-in h.counted.inherited_are))
      (c.few-2.ensures ∙ ap (few 4) (owners-are h.synthesized-in h.counted.synthesized_are)))
      (c.none_above.ensures ∙ rights-lines b.rules (rule-lines h)))
      (c.none_above-2.ensures ∙ nodes-lines b (definition-lines h)))
      (c.states_within.ensures.for_all b.kernels (kernel-lines h));
}
