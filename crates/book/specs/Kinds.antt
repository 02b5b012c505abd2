-- The two kinds of attributes: the word of the lines that declare them, the letter of their names, and how many there may be.
-- Assumes nothing.
use Rattle.std.specs.Prelude.{ℕ}
use Rattle.std.proofs.Math.Path.{refl}
use Rattle.text.specs.Class.{class_of}
use Rattle.text.specs.Numeral.{word_of, spelled}
use Rattle.grammar.specs.Limits.{MAX_INHERITED, MAX_SYNTHESIZED}
use Rattle.book.specs.Short.{Letter}
use Rattle.book.specs.declared.kind.Kind.{Kind}
use Rattle.book.specs.declared.kind.Kind.TheVariants.{Inherited, Synthesized}

abbrev pub kind_word : Kind → ℕ
kind_word Inherited = word_of "inh"
kind_word Synthesized = word_of "syn"

abbrev pub kind_letter : Kind → ℕ
kind_letter Inherited = word_of "i"
kind_letter Synthesized = word_of "s"

abbrev pub kind_limit : Kind → ℕ
kind_limit Inherited = MAX_INHERITED
kind_limit Synthesized = MAX_SYNTHESIZED

pub kind-letter : (kind : Kind) → Letter (kind_letter kind)
unfolding class_of spelled
kind-letter Inherited = refl
kind-letter Synthesized = refl
