use Rattle.std.proofs.Common.{refl, rules}
use Rattle.attempts.proofs.evaluating.attempt.Goals as goal

pub returns-clause-attempts : goal.returns-clause-attempts
returns-clause-attempts c = record { all = λ _. refl; answers = c.respond.ensures c.args.room c.args.n c.args.text.now (search rules) }
