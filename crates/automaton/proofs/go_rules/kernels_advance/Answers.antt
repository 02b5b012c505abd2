use mathlib.Core.Path.{sym, ◌∙◌}
use native.Mathlib.Omega.{arith}
use Rattle.automaton.specs.StatesIn.{state-range}
use Rattle.automaton.specs.Advances.{kernels-none, kernels-more, kernels-fail, kernels-all}
use Rattle.automaton.proofs.go_rules.kernels_advance.Goals as goal

pub loop-i-init : goal.loop-i-init
loop-i-init c = let range = state-range c.requires.1.states_in c.args.state c.requires.2 in
    kernels-none c.args.rules.now c.args.kernels.now c.args.bounds.now c.args.table.now c.args.state c.word-first.ensures
    c.word-last.ensures
    (omega (arith, range.ordered, c.word-first.ensures, c.word-last.ensures))

pub kernel_advances-requires : goal.kernel_advances-requires
kernel_advances-requires c = let range = state-range c.requires.1.states_in c.args.state c.requires.2 in
    (c.requires.0, c.requires.1, c.requires.2, omega (arith, range.within, c.word-last.ensures))

pub returns-then-not-kernel_advances : goal.returns-then-not-kernel_advances
returns-then-not-kernel_advances c = kernels-fail c.loop-i.invariant c.loop-i-test.true
    (λ b h s l. sym c.if-not-kernel_advances.true ∙ c.kernel_advances.ensures b h s l)

pub loop-i-preserved : goal.loop-i-preserved
loop-i-preserved c = kernels-more c.loop-i.invariant c.loop-i-test.true
    (λ b h s l. sym c.if-not-kernel_advances.false ∙ c.kernel_advances.ensures b h s l)

pub returns : goal.returns
returns c = kernels-all c.loop-i.invariant c.loop-i-test.false
