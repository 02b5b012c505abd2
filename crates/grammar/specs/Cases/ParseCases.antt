-- The spelling on examples, computed: the text of 01's book S is read as S, and texts that 01 turns back with 2 are not read.
-- Assumes nothing.
use Rattle.std.specs.Prelude.{ℕ, ◌≡◌, refl, List, [], ◌∷◌, ◌++◌}
use Prim.Native.String.{String}
use Rattle.std.proofs.Math.Option.{none, some}
use Rattle.std.proofs.Common.{arith}
use Rattle.text.specs.Class.{opens as opens-class}
use Rattle.text.specs.Rest.{opens as opens-rest}
use Rattle.text.specs.Numeral.{opens as opens-numeral}
use Rattle.grammar.specs.Data.Symbol.{terminal, nonterminal}
use Rattle.grammar.specs.Data.Term.{add, sub, min, max, number, leaf, both, pick}
use Rattle.grammar.specs.Data.Book.{own, at, val, Book}
use Rattle.grammar.specs.Data.Postfix.{opens as opens-postfix}
use Rattle.grammar.specs.Format.Printer.{bytes, opens as opens-printer}
use Rattle.grammar.specs.Format.Print.{print_book, opens as opens-print}
use Rattle.grammar.specs.Format.Ordered.{opens as opens-ordered}
use Rattle.grammar.specs.Format.Reader.{opens as opens-reader}
use Rattle.grammar.specs.Format.Repeat.{opens as opens-repeat}
use Rattle.grammar.specs.Format.Expression.{opens as opens-expression}
use Rattle.grammar.specs.Format.Parse.{parse_book, opens as opens-parse}

-- a text given by its lines
unfoldable pub unlines : List String → List ℕ
unlines [] = []
unlines (line ∷ lines) = bytes line ++ (10 ∷ unlines lines)

-- opens all that reading and printing compute with
unfoldable pub opens : Unit {0}
unfolding unlines opens-class opens-rest opens-numeral opens-postfix opens-printer opens-print opens-ordered opens-reader opens-repeat opens-expression
    opens-parse
opens = tt

-- 01's book S up to its grammar, its definitions, and its states
unfoldable pub S-grammar : List String
S-grammar =
    "(book 2 2 6)"
    ∷ "(inh i0 n2)"
    ∷ "(syn s0 n1)"
    ∷ "(syn s1 n2)"
    ∷ "(rule 0 n0 n1)"
    ∷ "(rule 1 n1 t1 n2)"
    ∷ "(rule 2 n2)"
    ∷ "(rule 3 n2 t2 n2)"
    ∷ []

unfoldable pub S-definitions : List String
S-definitions =
    "(inhdef 1 2 i0 (val 1))"
    ∷ "(inhdef 3 2 i0 (add (own i0) (val 1)))"
    ∷ "(syndef 1 s0 (at 2 s1))"
    ∷ "(syndef 2 s1 (own i0))"
    ∷ "(syndef 3 s1 (at 2 s1))"
    ∷ []

unfoldable pub S-kernels : List String
S-kernels =
    "(kernel 0 0 0 t0)"
    ∷ "(kernel 1 1 1 t0)"
    ∷ "(kernel 2 0 1 t0)"
    ∷ "(kernel 3 3 1 t0)"
    ∷ "(kernel 4 1 2 t0)"
    ∷ "(kernel 5 3 2 t0)"
    ∷ []

unfoldable pub S-goes : List String
S-goes =
    "(go 0 t1 1)"
    ∷ "(go 0 n1 2)"
    ∷ "(go 1 t2 3)"
    ∷ "(go 1 n2 4)"
    ∷ "(go 3 t2 3)"
    ∷ "(go 3 n2 5)"
    ∷ []

unfoldable pub S-text : List ℕ
S-text = unlines (S-grammar ++ (S-definitions ++ (S-kernels ++ (S-goes ++ ("(end)" ∷ [])))))

unfoldable pub S : Book
S = record {
  terminals = 2;
  nonterminals = 2;
  states = 6;
  inherited_owners = 2 ∷ [];
  synthesized_owners = 1 ∷ 2 ∷ [];
  rules =
      record { left = 0; right = nonterminal 1 ∷ [] }
      ∷ record { left = 1; right = terminal 1 ∷ nonterminal 2 ∷ [] }
      ∷ record { left = 2; right = [] }
      ∷ record { left = 2; right = terminal 2 ∷ nonterminal 2 ∷ [] }
      ∷ [];
  inherited_definitions =
      record { rule = 1; position = 2; attribute = 0; expression = leaf (val 1) }
      ∷ record { rule = 3; position = 2; attribute = 0; expression = both add (leaf (own 0)) (leaf (val 1)) }
      ∷ [];
  synthesized_definitions =
      record { rule = 1; attribute = 0; expression = leaf (at 2 1) }
      ∷ record { rule = 2; attribute = 1; expression = leaf (own 0) }
      ∷ record { rule = 3; attribute = 1; expression = leaf (at 2 1) }
      ∷ [];
  kernels =
      record { state = 0; rule = 0; dot = 0; lookaheads = 0 ∷ [] }
      ∷ record { state = 1; rule = 1; dot = 1; lookaheads = 0 ∷ [] }
      ∷ record { state = 2; rule = 0; dot = 1; lookaheads = 0 ∷ [] }
      ∷ record { state = 3; rule = 3; dot = 1; lookaheads = 0 ∷ [] }
      ∷ record { state = 4; rule = 1; dot = 2; lookaheads = 0 ∷ [] }
      ∷ record { state = 5; rule = 3; dot = 2; lookaheads = 0 ∷ [] }
      ∷ [];
  goes =
      record { state = 0; symbol = terminal 1; target = 1 }
      ∷ record { state = 0; symbol = nonterminal 1; target = 2 }
      ∷ record { state = 1; symbol = terminal 2; target = 3 }
      ∷ record { state = 1; symbol = nonterminal 2; target = 4 }
      ∷ record { state = 3; symbol = terminal 2; target = 3 }
      ∷ record { state = 3; symbol = nonterminal 2; target = 5 }
      ∷ [];
}

S-read : parse_book S-text ≡ some S
unfolding opens S-text S S-grammar S-definitions S-kernels S-goes
S-read = refl

S-printed : print_book S ≡ S-text
unfolding opens S-text S S-grammar S-definitions S-kernels S-goes
S-printed = refl

-- Refused with 2

-- S with other grammar, kernel and last lines
unfoldable pub S-but : List String → List String → List String → List ℕ
S-but grammar kernels end = unlines (grammar ++ (S-definitions ++ (kernels ++ (S-goes ++ end))))

-- "(rule 01 n1 t1 n2)"
leading-zero : parse_book (S-but (
    "(book 2 2 6)" ∷ "(inh i0 n2)" ∷ "(syn s0 n1)" ∷ "(syn s1 n2)" ∷ "(rule 0 n0 n1)" ∷ "(rule 01 n1 t1 n2)" ∷ "(rule 2 n2)" ∷ "(rule 3 n2 t2 n2)" ∷ []
    ) S-kernels ("(end)" ∷ [])) ≡ none
unfolding opens S-but S-definitions S-kernels S-goes
leading-zero = refl

-- the letter belongs to the form
wrong-letter : parse_book (S-but (
    "(book 2 2 6)" ∷ "(inh s0 n1)" ∷ "(syn s0 n1)" ∷ "(syn s1 n2)" ∷ "(rule 0 n0 n1)" ∷ "(rule 1 n1 t1 n2)" ∷ "(rule 2 n2)" ∷ "(rule 3 n2 t2 n2)" ∷ []
    ) S-kernels ("(end)" ∷ [])) ≡ none
unfolding opens S-but S-definitions S-kernels S-goes
wrong-letter = refl

no-lookahead : parse_book (S-but S-grammar ("(kernel 0 0 0)" ∷ []) ("(end)" ∷ [])) ≡ none
unfolding opens S-but S-grammar S-definitions S-goes
no-lookahead = refl

equal-lookaheads : parse_book (S-but S-grammar ("(kernel 0 0 0 t0 t0)" ∷ []) ("(end)" ∷ [])) ≡ none
unfolding opens S-but S-grammar S-definitions S-goes
equal-lookaheads = refl

kernels-out-of-order : parse_book (S-but S-grammar ("(kernel 1 1 1 t0)" ∷ "(kernel 0 0 0 t0)" ∷ []) ("(end)" ∷ [])) ≡ none
unfolding opens S-but S-grammar S-definitions S-goes
kernels-out-of-order = refl

-- the same kernels in order are read, so that it is the order that was refused
kernels-in-order : (parse_book (S-but S-grammar ("(kernel 0 0 0 t0)" ∷ "(kernel 1 1 1 t0)" ∷ []) ("(end)" ∷ [])) ≡ none) → ⊥
unfolding opens S-but S-grammar S-definitions S-goes
kernels-in-order e = let z : ◌≡◌ {A = ℕ} 0 1 = cc in omega arith

second-end : parse_book (S-but S-grammar S-kernels ("(end)" ∷ "(end)" ∷ [])) ≡ none
unfolding opens S-but S-grammar S-definitions S-kernels S-goes
second-end = refl

no_end : parse_book (S-but S-grammar S-kernels []) ≡ none
unfolding opens S-but S-grammar S-definitions S-kernels S-goes
no_end = refl

no-final-line-feed : parse_book (S-but S-grammar S-kernels [] ++ bytes "(end)") ≡ none
unfolding opens S-but S-grammar S-definitions S-kernels S-goes
no-final-line-feed = refl

bytes-after-the-end : parse_book (S-text ++ bytes " ") ≡ none
unfolding opens S-text S-grammar S-definitions S-kernels S-goes
bytes-after-the-end = refl

empty-text : parse_book [] ≡ none
unfolding opens
empty-text = refl

-- zero lines of every kind but book and end is no spelling fault
no_lines : parse_book (unlines ("(book 0 0 4294967295)" ∷ "(end)" ∷ []))
    ≡ some (record {
      terminals = 0;
      nonterminals = 0;
      states = 4294967295;
      inherited_owners = [];
      synthesized_owners = [];
      rules = [];
      inherited_definitions = [];
      synthesized_definitions = [];
      kernels = [];
      goes = [];
    })
unfolding opens
no_lines = refl

too_large : parse_book (unlines ("(book 0 0 4294967296)" ∷ "(end)" ∷ [])) ≡ none
unfolding opens
too_large = refl

-- every form of expression
forms : parse_book (unlines ("(book 1 1 1)" ∷ "(syndef 0 s0 (pick (sub 1 (val 2)) (min (at 3 s4) (own i5)) (max 6 (add 7 8))))" ∷ "(end)" ∷ []))
    ≡ some (record {
      terminals = 1;
      nonterminals = 1;
      states = 1;
      inherited_owners = [];
      synthesized_owners = [];
      rules = [];
      inherited_definitions = [];
      synthesized_definitions =
          record {
            rule = 0;
            attribute = 0;
            expression =
                pick (both sub (number 1) (leaf (val 2))) (both min (leaf (at 3 4)) (leaf (own 5))) (both max (number 6) (both add (number 7) (number 8)));
          }
          ∷ [];
      kernels = [];
      goes = [];
    })
unfolding opens
forms = refl

unknown-word : parse_book (unlines ("(book 1 1 1)" ∷ "(syndef 0 s0 (mul 1 2))" ∷ "(end)" ∷ [])) ≡ none
unfolding opens
unknown-word = refl

missing-operand : parse_book (unlines ("(book 1 1 1)" ∷ "(syndef 0 s0 (pick 1 2))" ∷ "(end)" ∷ [])) ≡ none
unfolding opens
missing-operand = refl
