use Rattle.text.specs.Numeral.{spelled}
use Rattle.grammar.specs.Format.Reader.{result, remaining}
use Rattle.grammar.specs.Format.Expression.{own_place, whole_of}
use Rattle.definitions.proofs.brackets.own_place.Goals as goal

pub returns : goal.returns
unfolding own_place spelled whole_of result remaining
returns c = record { shown_is = cc }
