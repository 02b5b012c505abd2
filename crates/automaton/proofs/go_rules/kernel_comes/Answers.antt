use Rattle.automaton.specs.Comes.{line-words}
use Rattle.automaton.specs.Advances.{kernel-stands}
use Rattle.automaton.proofs.go_rules.kernel_comes.Goals as goal

pub comes-requires : goal.comes-requires
comes-requires c = (c.requires.0, c.requires.1, c.requires.2, kernel-stands c.requires.2.states_in c.requires.3 c.requires.4 c.word-rule.ensures c.word-dot.ensures)

pub returns : goal.returns
returns c = λ b F X h s l x e.
    let first = c.word-rule.ensures in
    let second = c.word-dot.ensures in
    line-words h.states_in l first second X _ (c.comes.ensures b F X h (kernel-stands h.states_in s l first second) x e)
