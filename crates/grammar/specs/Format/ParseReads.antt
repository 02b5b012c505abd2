-- What is printed of a book is read as the book.
-- Assumes nothing.
use Rattle.std.specs.Prelude.{ℕ, ◌≡◌, List, [], ◌∷◌}
use Rattle.std.proofs.Math.Path.{refl}
use Rattle.text.specs.Rest.{left}
use Rattle.text.specs.Numeral.{spelled, word_of}
use Rattle.grammar.specs.Data.Book.{Book}
use Rattle.grammar.specs.Format.Printer.{literal, each, numbered}
use Rattle.grammar.specs.Format.Print.{print_header, print_inherited, print_synthesized, print_rule, print_inherited_definition, print_synthesized_definition}
use Rattle.grammar.specs.Format.Print.{print_kernel, print_go, print_book}
use Rattle.grammar.specs.Format.Ordered.{inherited_key, synthesized_key, kernel_key, go_key, Spelled}
use Rattle.grammar.specs.Format.Reader.{parsed}
use Rattle.grammar.specs.Format.ReaderLaws.{number-reads, reading}
use Rattle.grammar.specs.Format.OrderLaws.{every-both}
use Rattle.grammar.specs.Format.LineLaws.{inherited-inverse, synthesized-inverse, rule-inverse, inherited-definition-inverse, synthesized-definition-inverse}
use Rattle.grammar.specs.Format.LineLaws.{kernel-inverse, go-inverse}
use Rattle.grammar.specs.Format.ParseSections.{line_word, listed, Starts, numbered-starts, each-starts, numbered-reads, ordered-reads}
use Rattle.grammar.specs.Format.Parse.{owner_line, rule_line, inherited_definition_line, synthesized_definition_line, kernel_line, go_line, owner_lines, rule_lines}
use Rattle.grammar.specs.Format.Parse.{inherited_definition_lines, synthesized_definition_lines, kernel_lines, go_lines, end_line, book_text}

-- What is printed is read

-- the words of the lines from each section on
abbrev from_end : List ℕ
from_end = word_of "end" ∷ []

abbrev from_goes : List ℕ
from_goes = word_of "go" ∷ from_end

abbrev from-kernels : List ℕ
from-kernels = word_of "kernel" ∷ from_goes

abbrev from-synthesized-definitions : List ℕ
from-synthesized-definitions = word_of "syndef" ∷ from-kernels

abbrev from-inherited-definitions : List ℕ
from-inherited-definitions = word_of "inhdef" ∷ from-synthesized-definitions

abbrev from-rules : List ℕ
from-rules = word_of "rule" ∷ from-inherited-definitions

abbrev from-synthesized : List ℕ
from-synthesized = word_of "syn" ∷ from-rules

module _ (b : Book) where
  -- the text from each section on
  abbrev end-text : List ℕ
  end-text = literal "(end)\n" []

  abbrev goes-text : List ℕ
  goes-text = each print_go b.goes end-text

  abbrev kernels-text : List ℕ
  kernels-text = each print_kernel b.kernels goes-text

  abbrev synthesized-definitions-text : List ℕ
  synthesized-definitions-text = each print_synthesized_definition b.synthesized_definitions kernels-text

  abbrev inherited-definitions-text : List ℕ
  inherited-definitions-text = each print_inherited_definition b.inherited_definitions synthesized-definitions-text

  abbrev rules-text : List ℕ
  rules-text = numbered print_rule 0 b.rules inherited-definitions-text

  abbrev synthesized-text : List ℕ
  synthesized-text = numbered print_synthesized 0 b.synthesized_owners rules-text

  abbrev inherited-text : List ℕ
  inherited-text = numbered print_inherited 0 b.inherited_owners synthesized-text

  end-starts : Starts from_end end-text
  unfolding reading line_word listed
  end-starts = refl

  goes-start : Starts from_goes goes-text
  unfolding reading line_word print_go
  goes-start = each-starts (word_of "go") from_end b.goes end-text end-starts print_go λ g r. refl

  kernels-start : Starts from-kernels kernels-text
  unfolding reading line_word print_kernel
  kernels-start = each-starts (word_of "kernel") from_goes b.kernels goes-text goes-start print_kernel λ k r. refl

  synthesized-definitions-start : Starts from-synthesized-definitions synthesized-definitions-text
  unfolding reading line_word print_synthesized_definition
  synthesized-definitions-start =
      each-starts (word_of "syndef") from-kernels b.synthesized_definitions kernels-text kernels-start print_synthesized_definition λ d r. refl

  inherited-definitions-start : Starts from-inherited-definitions inherited-definitions-text
  unfolding reading line_word print_inherited_definition
  inherited-definitions-start =
      each-starts (word_of "inhdef") from-synthesized-definitions b.inherited_definitions synthesized-definitions-text synthesized-definitions-start
      print_inherited_definition λ d r. refl

  rules-start : Starts from-rules rules-text
  unfolding reading line_word print_rule
  rules-start = numbered-starts (word_of "rule") from-inherited-definitions b.rules inherited-definitions-text inherited-definitions-start print_rule λ K x r. refl

  synthesized-start : Starts from-synthesized synthesized-text
  unfolding reading line_word print_synthesized
  synthesized-start = numbered-starts (word_of "syn") from-rules b.synthesized_owners rules-text rules-start print_synthesized λ K A r. refl

  module _ (h : Spelled b) where
    inherited_read : owner_lines (word_of "inh") (word_of "i") (left inherited-text) ≡ parsed b.inherited_owners (left synthesized-text)
    unfolding owner_lines listed spelled
    inherited_read =
        numbered-reads (word_of "inh") (owner_line (word_of "i")) print_inherited inherited-inverse from-synthesized b.inherited_owners synthesized-text
        h.fits.inherited_owners refl synthesized-start

    synthesized_read : owner_lines (word_of "syn") (word_of "s") (left synthesized-text) ≡ parsed b.synthesized_owners (left rules-text)
    unfolding owner_lines listed spelled
    synthesized_read =
        numbered-reads (word_of "syn") (owner_line (word_of "s")) print_synthesized synthesized-inverse from-rules b.synthesized_owners rules-text
        h.fits.synthesized_owners refl rules-start

    rules_read : rule_lines (left rules-text) ≡ parsed b.rules (left inherited-definitions-text)
    unfolding rule_lines listed spelled
    rules_read =
        numbered-reads (word_of "rule") rule_line print_rule rule-inverse from-inherited-definitions b.rules inherited-definitions-text
        h.fits.rules refl inherited-definitions-start

    inherited-definitions-read : inherited_definition_lines (left inherited-definitions-text) ≡ parsed b.inherited_definitions (left synthesized-definitions-text)
    unfolding inherited_definition_lines listed spelled
    inherited-definitions-read =
        ordered-reads (word_of "inhdef") inherited_definition_line inherited_key print_inherited_definition inherited-definition-inverse from-synthesized-definitions
        b.inherited_definitions synthesized-definitions-text h.ordered.inherited h.fits.inherited_definitions refl synthesized-definitions-start

    synthesized-definitions-read : synthesized_definition_lines (left synthesized-definitions-text) ≡ parsed b.synthesized_definitions (left kernels-text)
    unfolding synthesized_definition_lines listed spelled
    synthesized-definitions-read =
        ordered-reads (word_of "syndef") synthesized_definition_line synthesized_key print_synthesized_definition synthesized-definition-inverse from-kernels
        b.synthesized_definitions kernels-text h.ordered.synthesized h.fits.synthesized_definitions refl kernels-start

    kernels-read : kernel_lines (left kernels-text) ≡ parsed b.kernels (left goes-text)
    unfolding kernel_lines listed spelled
    kernels-read =
        ordered-reads (word_of "kernel") kernel_line kernel_key print_kernel kernel-inverse from_goes b.kernels goes-text
        h.ordered.kernels (every-both h.ordered.lookaheads h.fits.kernels) refl goes-start

    goes-read : go_lines (left goes-text) ≡ parsed b.goes (left end-text)
    unfolding go_lines listed spelled
    goes-read = ordered-reads (word_of "go") go_line go_key print_go go-inverse from_end b.goes end-text h.ordered.goes h.fits.goes refl end-starts

    pub book-reads : book_text (left (print_book b)) ≡ parsed b (left [])
    unfolding reading print_book print_header book_text end_line
    book-reads =
        rw (
          number-reads b.terminals _ h.fits.terminals refl,
          number-reads b.nonterminals _ h.fits.nonterminals refl,
          number-reads b.states _ h.fits.states refl,
          inherited_read,
          synthesized_read,
          rules_read,
          inherited-definitions-read,
          synthesized-definitions-read,
          kernels-read,
          goes-read,
        )
