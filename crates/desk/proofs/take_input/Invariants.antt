use Rattle.desk.specs.Run.{Running}
use Rattle.desk.proofs.take_input.Given as goal

abbrev pub invariant-loop-turn : goal.invariant-loop-turn
invariant-loop-turn g l = Running l.initial.chunk l.initial.text l.initial.numbers l.chunk l.text l.numbers l.p
