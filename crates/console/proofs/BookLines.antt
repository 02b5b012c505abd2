-- The text of a book ends with its first end line: in the lines of a printed book there is no other. So the desk program takes a printed book whole.
-- Assumes nothing.
use Rattle.std.specs.Prelude.{ℕ, suc, ◌≡◌, refl, true, false, List, [], ◌∷◌, ◌++◌, eqb}
use Prim.Native.String.{String}
use Rattle.std.proofs.Common.{ap, ◌∙◌, append_assoc}
use Rattle.std.proofs.Math.Option.{some}
use Rattle.text.specs.Numeral.{decimal, write}
use Rattle.grammar.specs.Data.Symbol.{Symbol, terminal, nonterminal, Rule}
use Rattle.grammar.specs.Data.Term.{Operator, add, sub, min, max, number, leaf, both, pick}
use Rattle.grammar.specs.Data.Book.{Place, own, at, val, Expr, InheritedDefinition, SynthesizedDefinition, Kernel, Go, Book}
use Rattle.grammar.specs.Automaton.Fixpoint.{same_sets}
use Rattle.grammar.specs.Format.Printer.{Printer, bytes, literal, numbered}
use Rattle.grammar.specs.Format.Print.{print_symbol, print_place, print_operator, print_expression, print_header, print_inherited, print_synthesized, print_rule}
use Rattle.grammar.specs.Format.Print.{print_inherited_definition, print_synthesized_definition, print_kernel, print_go, print_book}
use Rattle.console.specs.Desk.{so_far, before_end, after_end, is_end, nothing_read, all_bytes}
use Rattle.console.specs.Desk.{opens as opens-desk}
use Rattle.console.specs.Unfed.{unfed, front, every_one}
use Rattle.console.specs.Unfed.{words as unfed-words, digits as unfed-digits}
use Rattle.console.proofs.Steps.{◌▷◌, line-goes-on, taken-on, taken-line}

-- whole lines up to the first end line: each other line begins with `(` and a byte that is no e
mutual
  data Lines : List ℕ → Type 0 where
    end_line : Lines (40 ∷ 101 ∷ 110 ∷ 100 ∷ 41 ∷ 10 ∷ [])
    other_line : {c : ℕ} {bs : List ℕ} → eqb c 101 ≡ false → eqb c 10 ≡ false → InLine bs → Lines (40 ∷ c ∷ bs)

  data InLine : List ℕ → Type 0 where
    more : {c : ℕ} {bs : List ℕ} → eqb c 10 ≡ false → InLine bs → InLine (c ∷ bs)
    feed : {bs : List ℕ} → Lines bs → InLine (10 ∷ bs)

-- the beginning of a line that is no end line
data Other : List ℕ → Type 0 where
  other : {c : ℕ} {bs : List ℕ} → eqb c 101 ≡ false → Other (40 ∷ c ∷ bs)

other-more : {line : List ℕ} (b : ℕ) → Other line → Other (line ▷ b)
other-more b (other h) = other h

other-end : {line : List ℕ} → Other line → is_end line ≡ false
unfolding is_end same_sets bytes
other-end (other h) = rw (h, same_sets)

taken-end : (text r : List ℕ)
    → all_bytes (so_far (before_end text) []) ((40 ∷ 101 ∷ 110 ∷ 100 ∷ 41 ∷ 10 ∷ []) ++ r)
    ≡ all_bytes (so_far (after_end (text ++ (40 ∷ 101 ∷ 110 ∷ 100 ∷ 41 ∷ 10 ∷ [])) (some [])) []) r
unfolding opens-desk same_sets bytes
taken-end text r = refl

mutual
  lines-taken : {bs : List ℕ} (text r : List ℕ) → Lines bs
      → all_bytes (so_far (before_end text) []) (bs ++ r) ≡ all_bytes (so_far (after_end (text ++ bs) (some [])) []) r
  lines-taken text r end_line = taken-end text r
  lines-taken text r (other_line {c} {bs} h k l) =
      taken-on (before_end text) [] 40 (c ∷ (bs ++ r)) refl
      ∙ (taken-on (before_end text) (40 ∷ []) c (bs ++ r) k ∙ line_taken text (40 ∷ c ∷ []) r (other h) l)

  line_taken : {bs : List ℕ} (text line r : List ℕ) → Other line → InLine bs
      → all_bytes (so_far (before_end text) line) (bs ++ r) ≡ all_bytes (so_far (after_end (text ++ (line ++ bs)) (some [])) []) r
  line_taken text line r o (more {c} {bs} h l) =
      taken-on (before_end text) line c (bs ++ r) h
      ∙ (line_taken text (line ▷ c) r (other-more c o) l ∙ rw (append_assoc line (c ∷ []) bs))
  line_taken text line r o (feed {bs} l) =
      taken-line (before_end text) line 10 (bs ++ r) refl
      ∙ (ap (λ k. all_bytes (so_far k []) (bs ++ r)) (line-goes-on text (line ▷ 10) (other-end (other-more 10 o)))
      ∙ (lines-taken (text ++ (line ▷ 10)) r l ∙ rw (append_assoc text (line ▷ 10) bs, append_assoc line (10 ∷ []) bs)))

-- In front of lines

in-line : (c : ℕ) (bs : List ℕ) → eqb c 10 ≡ false → InLine bs → InLine (c ∷ bs)
in-line c bs h l = more h l

words : (s : String) {r : List ℕ} → unfed (bytes s) ≡ true → InLine r → InLine (literal s r)
words s h l = unfed-words InLine in-line s h l

digits : (n : ℕ) {r : List ℕ} → InLine r → InLine (write decimal n r)
digits n l = unfed-digits InLine in-line n l

closes : {r : List ℕ} → Lines r → InLine (literal ")\n" r)
unfolding literal bytes
closes l = more refl (feed l)

every-number : {A : Type 0} (print : ℕ → A → Printer) → ((K : ℕ) (x : A) (r : List ℕ) → Lines r → Lines (print K x r)) → (K : ℕ) (xs : List A)
    {r : List ℕ} → Lines r → Lines (numbered print K xs r)
unfolding numbered
every-number print h K [] l = l
every-number print h K (x ∷ xs) {r} l = h K x (numbered print (suc K) xs r) (every-number print h (suc K) xs l)

-- Symbols and expressions

a-symbol : (X : Symbol) (r : List ℕ) → InLine r → InLine (print_symbol X r)
unfolding print_symbol bytes unfed
a-symbol (terminal K) r l = words "t" refl (digits K l)
a-symbol (nonterminal K) r l = words "n" refl (digits K l)

a-place : (c : Place) (r : List ℕ) → InLine r → InLine (print_place c r)
unfolding print_place bytes unfed
a-place (own K) r l = words "(own i" refl (digits K (words ")" refl l))
a-place (at J K) r l = words "(at " refl (digits J (words " s" refl (digits K (words ")" refl l))))
a-place (val J) r l = words "(val " refl (digits J (words ")" refl l))

an-operator : (o : Operator) (r : List ℕ) → InLine r → InLine (print_operator o r)
unfolding print_operator bytes unfed
an-operator add r l = words "(add " refl l
an-operator sub r l = words "(sub " refl l
an-operator min r l = words "(min " refl l
an-operator max r l = words "(max " refl l

an-expression : (e : Expr) (r : List ℕ) → InLine r → InLine (print_expression e r)
unfolding print_expression bytes unfed
an-expression (number n) r l = digits n l
an-expression (leaf c) r l = a-place c r l
an-expression (both o x y) r l = an-operator o _ (an-expression x _ (words " " refl (an-expression y _ (words ")" refl l))))
an-expression (pick c x y) r l =
    words "(pick " refl (an-expression c _ (words " " refl (an-expression x _ (words " " refl (an-expression y _ (words ")" refl l))))))

-- Lines

-- `(` and a word that does not begin with e
head : (s : String) {c : ℕ} {cs r : List ℕ} → bytes s ≡ 40 ∷ c ∷ cs → eqb c 101 ≡ false → eqb c 10 ≡ false → unfed cs ≡ true → InLine r → Lines (literal s r)
unfolding literal
head s {c} {cs} {r} e h k u l = rw e (other_line h k (front InLine in-line cs r u l))

an-owner : (K A : ℕ) (r : List ℕ) → Lines r → Lines (print_inherited K A r)
unfolding print_inherited bytes unfed
an-owner K A r l = head "(inh i" refl refl refl refl (digits K (words " n" refl (digits A (closes l))))

another-owner : (K A : ℕ) (r : List ℕ) → Lines r → Lines (print_synthesized K A r)
unfolding print_synthesized bytes unfed
another-owner K A r l = head "(syn s" refl refl refl refl (digits K (words " n" refl (digits A (closes l))))

a-rule : (K : ℕ) (x : Rule) (r : List ℕ) → Lines r → Lines (print_rule K x r)
unfolding print_rule bytes unfed
a-rule K x r l =
    head "(rule " refl refl refl refl
    (digits K (words " n" refl (digits x.left (every_one InLine _ (λ X r l. words " " refl (a-symbol X r l)) x.right (closes l)))))

an-inherited-definition : (d : InheritedDefinition) (r : List ℕ) → Lines r → Lines (print_inherited_definition d r)
unfolding print_inherited_definition bytes unfed
an-inherited-definition d r l =
    head "(inhdef " refl refl refl refl (digits d.rule (words " " refl (digits d.position (words " i" refl (digits d.attribute (words " " refl
    (an-expression d.expression _ (closes l))))))))

a-synthesized-definition : (d : SynthesizedDefinition) (r : List ℕ) → Lines r → Lines (print_synthesized_definition d r)
unfolding print_synthesized_definition bytes unfed
a-synthesized-definition d r l =
    head "(syndef " refl refl refl refl
    (digits d.rule (words " s" refl (digits d.attribute (words " " refl (an-expression d.expression _ (closes l))))))

a-kernel : (k : Kernel) (r : List ℕ) → Lines r → Lines (print_kernel k r)
unfolding print_kernel bytes unfed
a-kernel k r l =
    head "(kernel " refl refl refl refl (digits k.state (words " " refl (digits k.rule (words " " refl (digits k.dot
    (every_one InLine _ (λ a r l. words " t" refl (digits a l)) k.lookaheads (closes l)))))))

a-go : (g : Go) (r : List ℕ) → Lines r → Lines (print_go g r)
unfolding print_go bytes unfed
a-go g r l = head "(go " refl refl refl refl (digits g.state (words " " refl (a-symbol g.symbol _ (words " " refl (digits g.target (closes l))))))

the_end : Lines (literal "(end)\n" [])
unfolding literal bytes
the_end = end_line

book-lines : (b : Book) → Lines (print_book b)
unfolding print_book print_header bytes unfed
book-lines b =
    head "(book " refl refl refl refl (digits b.terminals (words " " refl (digits b.nonterminals (words " " refl (digits b.states (closes
    (every-number _ an-owner 0 b.inherited_owners
    (every-number _ another-owner 0 b.synthesized_owners
    (every-number _ a-rule 0 b.rules
    (every_one Lines _ an-inherited-definition b.inherited_definitions
    (every_one Lines _ a-synthesized-definition b.synthesized_definitions
    (every_one Lines _ a-kernel b.kernels
    (every_one Lines _ a-go b.goes the_end)))))))))))))

-- a printed book is taken whole, whatever comes after it
pub book-taken : (b : Book) (r : List ℕ) → all_bytes nothing_read (print_book b ++ r) ≡ all_bytes (so_far (after_end (print_book b) (some [])) []) r
book-taken b r = lines-taken [] r (book-lines b)
