-- The text of a book (01, "Spelling of a book"): one bracketed form a line, each ended by a line feed, kinds in this order.
-- Assumes nothing.
use Rattle.std.specs.Prelude.{ℕ, List, []}
use Rattle.grammar.specs.Data.Symbol.{Symbol, terminal, nonterminal, Rule}
use Rattle.grammar.specs.Data.Term.{Operator, add, sub, min, max, number, leaf, both, pick}
use Rattle.grammar.specs.Data.Book.{Place, own, at, val, Expr, InheritedDefinition, SynthesizedDefinition, Kernel, Go, Book}
use Rattle.grammar.specs.Format.Printer.{Printer, ◌·◌, literal, numeral, each, numbered}

-- "Names: terminal `tK`, nonterminal `nK`"
unfoldable pub print_symbol : Symbol → Printer
print_symbol (terminal K) = literal "t" · numeral K
print_symbol (nonterminal K) = literal "n" · numeral K

-- "`(own iK)` (of the left side), `(at J sK)`, `(val J)` (a token's value)"
unfoldable pub print_place : Place → Printer
print_place (own K) = literal "(own i" · numeral K · literal ")"
print_place (at J K) = literal "(at " · numeral J · literal " s" · numeral K · literal ")"
print_place (val J) = literal "(val " · numeral J · literal ")"

unfoldable pub print_operator : Operator → Printer
print_operator add = literal "(add "
print_operator sub = literal "(sub "
print_operator min = literal "(min "
print_operator max = literal "(max "

-- "`(add e e)`, `(sub e e)`, `(min e e)`, `(max e e)` or `(pick c x y)`"
unfoldable pub print_expression : Expr → Printer
print_expression (number n) = numeral n
print_expression (leaf place) = print_place place
print_expression (both o x y) = print_operator o · print_expression x · literal " " · print_expression y · literal ")"
print_expression (pick c x y) = literal "(pick " · print_expression c · literal " " · print_expression x · literal " " · print_expression y · literal ")"

-- The lines

unfoldable pub print_header : ℕ → ℕ → ℕ → Printer
print_header T N Q = literal "(book " · numeral T · literal " " · numeral N · literal " " · numeral Q · literal ")\n"

unfoldable pub print_inherited : ℕ → ℕ → Printer
print_inherited K A = literal "(inh i" · numeral K · literal " n" · numeral A · literal ")\n"

unfoldable pub print_synthesized : ℕ → ℕ → Printer
print_synthesized K A = literal "(syn s" · numeral K · literal " n" · numeral A · literal ")\n"

unfoldable pub print_rule : ℕ → Rule → Printer
print_rule K r = literal "(rule " · numeral K · literal " n" · numeral r.left · each (λ X. literal " " · print_symbol X) r.right · literal ")\n"

unfoldable pub print_inherited_definition : InheritedDefinition → Printer
print_inherited_definition d =
    literal "(inhdef " · numeral d.rule · literal " " · numeral d.position · literal " i" · numeral d.attribute
    · literal " " · print_expression d.expression · literal ")\n"

unfoldable pub print_synthesized_definition : SynthesizedDefinition → Printer
print_synthesized_definition d =
    literal "(syndef " · numeral d.rule · literal " s" · numeral d.attribute · literal " " · print_expression d.expression · literal ")\n"

unfoldable pub print_kernel : Kernel → Printer
print_kernel k =
    literal "(kernel " · numeral k.state · literal " " · numeral k.rule · literal " " · numeral k.dot
    · each (λ a. literal " t" · numeral a) k.lookaheads · literal ")\n"

unfoldable pub print_go : Go → Printer
print_go g = literal "(go " · numeral g.state · literal " " · print_symbol g.symbol · literal " " · numeral g.target · literal ")\n"

-- The sections; "K runs 0, 1, 2, .. in each kind"

unfoldable pub print_book : Book → List ℕ
print_book b =
    (print_header b.terminals b.nonterminals b.states
    · numbered print_inherited 0 b.inherited_owners
    · numbered print_synthesized 0 b.synthesized_owners
    · numbered print_rule 0 b.rules
    · each print_inherited_definition b.inherited_definitions
    · each print_synthesized_definition b.synthesized_definitions
    · each print_kernel b.kernels
    · each print_go b.goes
    · literal "(end)\n") []

-- opens every definition of this module
unfoldable pub opens : Unit {0}
unfolding print_symbol print_place print_operator print_expression print_header print_inherited print_synthesized print_rule print_inherited_definition
    print_synthesized_definition print_kernel print_go print_book
opens = tt
