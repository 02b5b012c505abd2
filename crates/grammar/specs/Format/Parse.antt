-- Reading a book's text (01, "Spelling of a book"): what is not spelled right, or not in order, is lost. One reader for each kind of line, one for each
-- section, in the shape of the code; ParseLaws has the theorem that this is the inverse of printing. Assumes nothing.
use Rattle.std.specs.Prelude.{ℕ, suc, Bool, true, false, ◌||◌, List, [], ◌∷◌, eqb, ltb, length}
use Rattle.std.proofs.Math.Option.{Option, none, some}
use Rattle.text.specs.Class.{open-bracket, space}
use Rattle.text.specs.Rest.{Rest, lost, left, must, mark}
use Rattle.text.specs.Numeral.{letters, value, past, word_of, keyword}
use Rattle.grammar.specs.Data.Symbol.{Symbol, terminal, nonterminal, Rule}
use Rattle.grammar.specs.Data.Book.{InheritedDefinition, SynthesizedDefinition, Kernel, Go, Book}
use Rattle.grammar.specs.Format.Ordered.{inherited_key, synthesized_key, kernel_key, symbol_key, go_key, lookahead_key}
use Rattle.grammar.specs.Format.Reader.{Parsed, parsed, Reader, pure, ◌>>=◌, ◌>>◌, decimal_number, opening, closing, naming, section}
use Rattle.grammar.specs.Format.Expression.{expression}

-- whether a key stands strictly before another
unfoldable pub is_before : List ℕ → List ℕ → Bool
is_before [] [] = false
is_before [] (y ∷ ys) = true
is_before (x ∷ xs) [] = false
is_before (x ∷ xs) (y ∷ ys) = elim (ltb x y) [ true ↦ true | false ↦ elim (eqb x y) [ true ↦ is_before xs ys | false ↦ false ] ]

-- a symbol's letter is t or n
unfoldable pub symbol_of : Bool → ℕ → Symbol
symbol_of true K = terminal K
symbol_of false K = nonterminal K

abbrev pub letter : Reader ℕ
letter o = parsed (value letters o) (past letters o)

unfoldable pub symbol : Reader Symbol
symbol = do
  word ← letter
  must (eqb word (word_of "t") || eqb word (word_of "n"))
  K ← decimal_number
  pure (symbol_of (eqb word (word_of "t")) K)

-- The lines, after their heads; K is the number due, `last` the key of the line before

unfoldable pub owner_line : ℕ → ℕ → Reader ℕ
owner_line kind K = do
  keyword kind
  k ← decimal_number
  must (eqb k K)
  naming (word_of "n")
  A ← decimal_number
  closing
  pure A

unfoldable pub symbols : Reader (List Symbol)
symbols = section (mark space) (λ (s : Unit {0}). symbol) (λ s X. s) tt

unfoldable pub rule_line : ℕ → Reader Rule
rule_line K = do
  k ← decimal_number
  must (eqb k K)
  naming (word_of "n")
  A ← decimal_number
  right ← symbols
  closing
  pure (record { left = A; right = right })

unfoldable pub inherited_definition_line : List ℕ → Reader InheritedDefinition
inherited_definition_line last = do
  P ← decimal_number
  mark space
  J ← decimal_number
  naming (word_of "i")
  K ← decimal_number
  mark space
  e ← expression
  closing
  must (is_before last (P ∷ J ∷ K ∷ []))
  pure (record { rule = P; position = J; attribute = K; expression = e })

unfoldable pub synthesized_definition_line : List ℕ → Reader SynthesizedDefinition
synthesized_definition_line last = do
  P ← decimal_number
  naming (word_of "s")
  K ← decimal_number
  mark space
  e ← expression
  closing
  must (is_before last (P ∷ K ∷ []))
  pure (record { rule = P; attribute = K; expression = e })

unfoldable pub lookahead : List ℕ → Reader ℕ
lookahead last = do
  a ← decimal_number
  must (is_before last (a ∷ []))
  pure a

unfoldable pub lookaheads : Reader (List ℕ)
lookaheads = section (naming (word_of "t")) lookahead (λ last. lookahead_key) []

unfoldable pub kernel_line : List ℕ → Reader Kernel
kernel_line last = do
  S ← decimal_number
  mark space
  P ← decimal_number
  mark space
  D ← decimal_number
  terminals ← lookaheads
  must (ltb 0 (length terminals))
  closing
  must (is_before last (S ∷ P ∷ D ∷ []))
  pure (record { state = S; rule = P; dot = D; lookaheads = terminals })

unfoldable pub go_line : List ℕ → Reader Go
go_line last = do
  S ← decimal_number
  mark space
  X ← symbol
  mark space
  M ← decimal_number
  closing
  must (is_before last (S ∷ symbol_key X))
  pure (record { state = S; symbol = X; target = M })

-- The sections

unfoldable pub owner_lines : ℕ → ℕ → Reader (List ℕ)
owner_lines word kind = section (opening word) (owner_line kind) (λ K A. suc K) 0

unfoldable pub rule_lines : Reader (List Rule)
rule_lines = section (opening (word_of "rule")) rule_line (λ K r. suc K) 0

unfoldable pub inherited_definition_lines : Reader (List InheritedDefinition)
inherited_definition_lines = section (opening (word_of "inhdef")) inherited_definition_line (λ last. inherited_key) []

unfoldable pub synthesized_definition_lines : Reader (List SynthesizedDefinition)
synthesized_definition_lines = section (opening (word_of "syndef")) synthesized_definition_line (λ last. synthesized_key) []

unfoldable pub kernel_lines : Reader (List Kernel)
kernel_lines = section (opening (word_of "kernel")) kernel_line (λ last. kernel_key) []

unfoldable pub go_lines : Reader (List Go)
go_lines = section (opening (word_of "go")) go_line (λ last. go_key) []

unfoldable pub end_line : Rest → Rest
end_line o = closing (keyword (word_of "end") (mark open-bracket o))

unfoldable pub book_text : Reader Book
book_text = do
  opening (word_of "book")
  T ← decimal_number
  mark space
  N ← decimal_number
  mark space
  Q ← decimal_number
  closing
  inherited_owners ← owner_lines (word_of "inh") (word_of "i")
  synthesized_owners ← owner_lines (word_of "syn") (word_of "s")
  rules ← rule_lines
  inherited_definitions ← inherited_definition_lines
  synthesized_definitions ← synthesized_definition_lines
  kernels ← kernel_lines
  goes ← go_lines
  end_line
  pure (record {
    terminals = T;
    nonterminals = N;
    states = Q;
    inherited_owners = inherited_owners;
    synthesized_owners = synthesized_owners;
    rules = rules;
    inherited_definitions = inherited_definitions;
    synthesized_definitions = synthesized_definitions;
    kernels = kernels;
    goes = goes;
  })

-- nothing stands after the end line
unfoldable pub ended : Parsed Book → Option Book
ended (parsed b lost) = none
ended (parsed b (left [])) = some b
ended (parsed b (left (c ∷ cs))) = none

unfoldable pub parse_book : List ℕ → Option Book
parse_book text = ended (book_text (left text))

-- opens every definition of this module
unfoldable pub opens : Unit {0}
unfolding is_before symbol_of symbol owner_line symbols rule_line inherited_definition_line synthesized_definition_line lookahead lookaheads kernel_line go_line owner_lines
    rule_lines inherited_definition_lines synthesized_definition_lines kernel_lines go_lines end_line book_text ended parse_book
opens = tt
