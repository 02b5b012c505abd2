use Rattle.items.specs.Rests.{rest-past, rest-stops}
use Rattle.items.proofs.suffixes.longer.Goals as goal

pub returns-then-null_symbol : goal.returns-then-null_symbol
returns-then-null_symbol c = λ β R.
    rest-past R c.begins_with-own.ensures c.null_symbol.ensures c.if-null_symbol.true c.union.ensures

pub returns : goal.returns
returns c = λ β R. rest-stops R c.begins_with-own.ensures c.null_symbol.ensures c.if-null_symbol.false
