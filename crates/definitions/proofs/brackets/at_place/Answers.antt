use Rattle.text.specs.Numeral.{spelled}
use Rattle.grammar.specs.Format.Reader.{result, remaining}
use Rattle.grammar.specs.Format.Expression.{at_place, whole_of}
use Rattle.definitions.proofs.brackets.at_place.Goals as goal

pub returns : goal.returns
unfolding at_place spelled whole_of result remaining
returns c = record { shown_is = cc }
