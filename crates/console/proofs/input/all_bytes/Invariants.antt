use Rattle.console.specs.Taking.{Taking}
use Rattle.console.proofs.input.all_bytes.Given as goal

abbrev pub invariant-loop-b : goal.invariant-loop-b
invariant-loop-b l = Taking l.bytes l.initial.text l.initial.numbers l.initial.p l.b-index l.text l.numbers l.p
