use Rattle.items.specs.NullableLoops.{vanishing-turn, vanishing-stops, vanishing-ends}
use Rattle.items.proofs.nullable.null_right.Goals as goal

pub returns-then-not-null_symbol : goal.returns-then-not-null_symbol
returns-then-not-null_symbol c = vanishing-stops c.loop-d.invariant c.loop-d-test.true c.symbol.ensures c.null_symbol.ensures
    c.if-not-null_symbol.true

pub loop-d-preserved : goal.loop-d-preserved
loop-d-preserved c = vanishing-turn c.loop-d.invariant c.loop-d-test.true c.symbol.ensures c.null_symbol.ensures
    c.if-not-null_symbol.false

pub returns : goal.returns
returns c = vanishing-ends c.loop-d.invariant c.loop-d-test.false
