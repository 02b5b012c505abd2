-- The lines of definitions with the steps of their expressions kept, as code reads them: `(inhdef P J iK e)` and `(syndef P sK e)` alike, with
-- position 0 for a synthesized attribute. Assumes nothing.
use Rattle.std.specs.Prelude.{ℕ, List, [], ◌∷◌}
use Rattle.text.specs.Class.{space}
use Rattle.text.specs.Rest.{must, mark}
use Rattle.text.specs.Numeral.{word_of}
use Rattle.grammar.specs.Data.Book.{Place, InheritedDefinition, SynthesizedDefinition}
use Rattle.grammar.specs.Data.Postfix.{Step, term_of}
use Rattle.grammar.specs.Format.Reader.{Reader, pure, ◌>>=◌, ◌>>◌, decimal_number, opening, closing, naming, section}
use Rattle.grammar.specs.Format.Expression.{expression_steps}
use Rattle.grammar.specs.Format.Parse.{is_before}
use Rattle.book.specs.declared.kind.Kind.{Kind}
use Rattle.book.specs.declared.kind.Kind.TheVariants.{Inherited, Synthesized}
use Rattle.book.specs.Layout.{definition_words}

-- what a line defines
pub record Defined : Type 0 where
  pub rule : ℕ
  pub position : ℕ
  pub attribute : ℕ

pub record Definition : Type 0 where
  pub defined : Defined
  pub steps : List (Step Place)

-- the definition of a book that a line is
unfoldable pub inherited_of : Definition → InheritedDefinition
inherited_of d =
    record { rule = d.defined.rule; position = d.defined.position; attribute = d.defined.attribute; expression = term_of d.steps }

unfoldable pub synthesized_of : Definition → SynthesizedDefinition
synthesized_of d = record { rule = d.defined.rule; attribute = d.defined.attribute; expression = term_of d.steps }

-- a line's words
unfoldable pub words_of : Definition → List ℕ
words_of d = definition_words d.defined.rule d.defined.position d.defined.attribute d.steps

-- "Inhdef lines ascend strictly by (P,J,K), syndef by (P,K)"
unfoldable pub ascending : Defined → List ℕ
ascending d = d.rule ∷ d.position ∷ d.attribute ∷ []

abbrev pub next_key : List ℕ → Definition → List ℕ
next_key last d = ascending d.defined

-- `P J iK`
unfoldable pub inherited_defined : Reader Defined
inherited_defined = do
  P ← decimal_number
  mark space
  J ← decimal_number
  naming (word_of "i")
  K ← decimal_number
  pure (record { rule = P; position = J; attribute = K })

-- `P sK`
unfoldable pub synthesized_defined : Reader Defined
synthesized_defined = do
  P ← decimal_number
  naming (word_of "s")
  K ← decimal_number
  pure (record { rule = P; position = 0; attribute = K })

unfoldable pub defined_by : Kind → Reader Defined
defined_by Inherited = inherited_defined
defined_by Synthesized = synthesized_defined

-- a line after its head, of inherited or of synthesized attributes; `last` is the key of the line before
unfoldable pub definition : Kind → List ℕ → Reader Definition
definition kind last = do
  d ← defined_by kind
  mark space
  steps ← expression_steps
  closing
  must (is_before last (ascending d))
  pure (record { defined = d; steps = steps })

abbrev pub word_for : Kind → ℕ
word_for Inherited = word_of "inhdef"
word_for Synthesized = word_of "syndef"

unfoldable pub definitions : Kind → Reader (List Definition)
definitions kind = section (opening (word_for kind)) (definition kind) next_key []

-- opens every definition of this module
unfoldable pub opens : Unit {0}
unfolding inherited_of synthesized_of words_of ascending inherited_defined synthesized_defined defined_by definition definitions
opens = tt
