use Rattle.std.proofs.Common.{refl, rules, ◌∙◌}
use Rattle.attempts.specs.Readings.{answer-kept}
use Rattle.attempts.proofs.reading.attempt.Goals as goal

pub returns-clause-attempted : goal.returns-clause-attempted
returns-clause-attempted c = record {
  all = λ _. refl;
  told = answer-kept c.in_ok-compiled.compiled c.map.result (search rules) ∙ c.in_ok-compiled.ensures.compiles.told _ refl;
}
