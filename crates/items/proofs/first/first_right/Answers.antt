use Rattle.items.specs.FirstLoops.{beginning, beginning-turn, beginning-stops, beginning-ends}
use Rattle.items.proofs.first.first_right.Goals as goal

pub loop-d-init : goal.loop-d-init
loop-d-init c = beginning c.requires.0 (λ i. (c.type_inv.firsts i).fits) c.size-d-end.ensures

pub returns-then-not-null_symbol : goal.returns-then-not-null_symbol
returns-then-not-null_symbol c = beginning-stops c.loop-d.invariant c.loop-d-test.true c.symbol-word.ensures
    c.begins_with.ensures c.union-found.ensures c.null_symbol.ensures
    c.if-not-null_symbol.true

pub loop-d-preserved : goal.loop-d-preserved
loop-d-preserved c = beginning-turn c.loop-d.invariant c.loop-d-test.true c.symbol-word.ensures
    c.begins_with.ensures c.union-found.ensures c.null_symbol.ensures
    c.if-not-null_symbol.false

pub returns : goal.returns
returns c = beginning-ends c.loop-d.invariant c.loop-d-test.false
