use Rattle.automaton.specs.Advances.{kernel-stands, kernel-advances}
use Rattle.automaton.proofs.go_rules.kernel_advances.Goals as goal

pub advances-requires : goal.advances-requires
advances-requires c = (c.requires.0, c.requires.1, kernel-stands c.requires.1.states_in c.requires.2 c.requires.3 c.word-rule.ensures c.word-dot.ensures)

pub returns : goal.returns
returns c = λ b h s l.
    let first = c.word-rule.ensures in
    let second = c.word-dot.ensures in
    kernel-advances h.states_in s l first second (c.advances.ensures b h (kernel-stands h.states_in s l first second))
