use mathlib.Core.Path.{sym, ◌∙◌}
use Rattle.automaton.specs.Comes.{come-more, come-fail, come-all}
use Rattle.automaton.proofs.go_rules.all_come.Goals as goal

pub returns-then-not-kernel_comes : goal.returns-then-not-kernel_comes
returns-then-not-kernel_comes c = come-fail c.loop-i.invariant c.loop-i-test.true
    (λ b F X h s l x e. sym c.if-not-kernel_comes.true ∙ c.kernel_comes.ensures b F X h s l x e)

pub loop-i-preserved : goal.loop-i-preserved
loop-i-preserved c = come-more c.loop-i.invariant c.loop-i-test.true
    (λ b F X h s l x e. sym c.if-not-kernel_comes.false ∙ c.kernel_comes.ensures b F X h s l x e)

pub returns : goal.returns
returns c = come-all c.loop-i.invariant c.loop-i-test.false
