use Rattle.automaton.specs.KernelWords.{end-decides}
use Rattle.automaton.proofs.kernel_rules.end_alone.Goals as goal

pub returns : goal.returns
returns c = λ ks H h. end-decides H c.args.i h
