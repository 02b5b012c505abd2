use Rattle.automaton.specs.KernelWords.{word-front, word-before}
use Rattle.automaton.proofs.kernel_rules.symbol_before.Goals as goal

pub returns-then-dot-eq0 : goal.returns-then-dot-eq0
returns-then-dot-eq0 c = λ b H h. word-front H c.args.i h c.word-dot.ensures c.if-dot-eq0.true

pub returns : goal.returns
returns c = λ b H h.
    word-before H c.args.i h c.word-rule.result c.word-dot.result
    c.word-rule.ensures c.word-dot.ensures c.if-dot-eq0.false
