use Rattle.grammar.specs.Format.Reader.{result, remaining}
use Rattle.grammar.specs.Format.Expression.{val_place, whole_of}
use Rattle.definitions.proofs.brackets.val_place.Goals as goal

pub returns : goal.returns
unfolding val_place whole_of result remaining
returns c = record { shown_is = cc }
