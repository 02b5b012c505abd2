-- The bytes of a book's text: each is between 1 and 255, and the last is a line feed. So a text can be filled up with zeros and found again.
-- Assumes nothing.
use Rattle.std.specs.Prelude.{ℕ, zero, suc, ◌+◌, ◌/◌, ◌%◌, ◌≤◌, ◌<◌, ◌≡◌, refl, Bool, true, false, List, [], ◌∷◌, ◌++◌, leb, ltb}
use Prim.Native.String.{String}
use Rattle.std.proofs.lemmas.Bool.{false≢true}
use Rattle.std.proofs.Common.{arith, leb-true, ltb-true, ltb-false}
use Rattle.text.specs.Numeral.{decimal, written, write}
use Rattle.text.proofs.Positional.{written_small, written-large}
use Rattle.grammar.specs.Data.Symbol.{Symbol, terminal, nonterminal, Rule}
use Rattle.grammar.specs.Data.Term.{Operator, add, sub, min, max, number, leaf, both, pick}
use Rattle.grammar.specs.Data.Book.{Place, own, at, val, Expr, InheritedDefinition, SynthesizedDefinition, Kernel, Go, Book}
use Rattle.grammar.specs.Format.Printer.{Printer, bytes, literal, each, numbered}
use Rattle.grammar.specs.Format.Print.{print_symbol, print_place, print_operator, print_expression, print_header, print_inherited, print_synthesized, print_rule}
use Rattle.grammar.specs.Format.Print.{print_inherited_definition, print_synthesized_definition, print_kernel, print_go, print_book}

pub data Printable : List ℕ → Type 0 where
  line_end : Printable (10 ∷ [])
  byte : {c : ℕ} {bs : List ℕ} → 1 ≤ c → c ≤ 255 → Printable bs → Printable (c ∷ bs)

-- literals

unfoldable pub plain : List ℕ → Bool
plain [] = true
plain (c ∷ cs) = elim (leb 1 c) [ true ↦ elim (leb c 255) [ true ↦ plain cs | false ↦ false ] | false ↦ false ]

front : (cs r : List ℕ) → plain cs ≡ true → Printable r → Printable (cs ++ r)
unfolding plain
front [] r h p = p
front (c ∷ cs) r h p = go (leb 1 c) (leb c 255) refl refl (front cs r)
  where
    go : (s t : Bool) → leb 1 c ≡ s → leb c 255 ≡ t → (plain cs ≡ true → Printable r → Printable (cs ++ r)) → Printable (c ∷ (cs ++ r))
    go true true u v ih =
        let z = rw (u, plain) at h in
        byte (leb-true 1 c u) (leb-true c 255 v) (ih (rw v at z) p)
    go true false u v ih =
        let z = rw (u, plain) at h in
        absurd (false≢true (rw v at z))
    go false t u v ih = absurd (false≢true (rw (u, plain) at h))

words : (s : String) {r : List ℕ} → plain (bytes s) ≡ true → Printable r → Printable (literal s r)
unfolding literal
words s {r} h p = front (bytes s) r h p

-- numbers

digits-print : (f n : ℕ) (r : List ℕ) → Printable r → Printable (written decimal f n r)
digits-print zero n r p = unfold written in p
digits-print (suc f) n r p = go (ltb n 10) refl (digits-print f (n / 10) ((48 + n % 10) ∷ r))
  where
    go : (t : Bool) → ltb n 10 ≡ t → (Printable ((48 + n % 10) ∷ r) → Printable (written decimal f (n / 10) ((48 + n % 10) ∷ r)))
        → Printable (written decimal (suc f) n r)
    go true e ih =
        let h : n < 10 = ltb-true n 10 e in
        let l : 1 ≤ 48 + n = omega arith in
        let u : 48 + n ≤ 255 = omega arith in
        rw (written_small decimal f n r h) (byte l u p)
    go false e ih =
        let l : 1 ≤ 48 + n % 10 = omega arith in
        let u : 48 + n % 10 ≤ 255 = omega arith in
        rw (written-large decimal f n r (ltb-false n 10 e)) (ih (byte l u p))

digits : (n : ℕ) {r : List ℕ} → Printable r → Printable (write decimal n r)
unfolding write
digits n {r} p = digits-print (suc n) n r p

-- lists

every_one : {A : Type 0} (print : A → Printer) → ((x : A) (r : List ℕ) → Printable r → Printable (print x r)) → (xs : List A) {r : List ℕ}
    → Printable r → Printable (each print xs r)
unfolding each
every_one print h [] p = p
every_one print h (x ∷ xs) {r} p = h x (each print xs r) (every_one print h xs p)

every-number : {A : Type 0} (print : ℕ → A → Printer) → ((K : ℕ) (x : A) (r : List ℕ) → Printable r → Printable (print K x r)) → (K : ℕ) (xs : List A) {r : List ℕ}
    → Printable r → Printable (numbered print K xs r)
unfolding numbered
every-number print h K [] p = p
every-number print h K (x ∷ xs) {r} p = h K x (numbered print (suc K) xs r) (every-number print h (suc K) xs p)

-- symbols and expressions

a-symbol : (X : Symbol) (r : List ℕ) → Printable r → Printable (print_symbol X r)
unfolding print_symbol bytes plain
a-symbol (terminal K) r p = words "t" refl (digits K p)
a-symbol (nonterminal K) r p = words "n" refl (digits K p)

a-place : (c : Place) (r : List ℕ) → Printable r → Printable (print_place c r)
unfolding print_place bytes plain
a-place (own K) r p = words "(own i" refl (digits K (words ")" refl p))
a-place (at J K) r p = words "(at " refl (digits J (words " s" refl (digits K (words ")" refl p))))
a-place (val J) r p = words "(val " refl (digits J (words ")" refl p))

an-operator : (o : Operator) (r : List ℕ) → Printable r → Printable (print_operator o r)
unfolding print_operator bytes plain
an-operator add r p = words "(add " refl p
an-operator sub r p = words "(sub " refl p
an-operator min r p = words "(min " refl p
an-operator max r p = words "(max " refl p

an-expression : (e : Expr) (r : List ℕ) → Printable r → Printable (print_expression e r)
unfolding print_expression bytes plain
an-expression (number n) r p = digits n p
an-expression (leaf c) r p = a-place c r p
an-expression (both o x y) r p = an-operator o _ (an-expression x _ (words " " refl (an-expression y _ (words ")" refl p))))
an-expression (pick c x y) r p =
    words "(pick " refl (an-expression c _ (words " " refl (an-expression x _ (words " " refl (an-expression y _ (words ")" refl p))))))

-- lines

an-owner : (K A : ℕ) (r : List ℕ) → Printable r → Printable (print_inherited K A r)
unfolding print_inherited bytes plain
an-owner K A r p = words "(inh i" refl (digits K (words " n" refl (digits A (words ")\n" refl p))))

another-owner : (K A : ℕ) (r : List ℕ) → Printable r → Printable (print_synthesized K A r)
unfolding print_synthesized bytes plain
another-owner K A r p = words "(syn s" refl (digits K (words " n" refl (digits A (words ")\n" refl p))))

a-rule : (K : ℕ) (x : Rule) (r : List ℕ) → Printable r → Printable (print_rule K x r)
unfolding print_rule bytes plain
a-rule K x r p =
    words "(rule " refl (digits K (words " n" refl (digits x.left (every_one _ (λ X r p. words " " refl (a-symbol X r p)) x.right (words ")\n" refl p)))))

an-inherited-definition : (d : InheritedDefinition) (r : List ℕ) → Printable r → Printable (print_inherited_definition d r)
unfolding print_inherited_definition bytes plain
an-inherited-definition d r p =
    words "(inhdef " refl (digits d.rule (words " " refl (digits d.position (words " i" refl (digits d.attribute (words " " refl
    (an-expression d.expression _ (words ")\n" refl p))))))))

a-synthesized-definition : (d : SynthesizedDefinition) (r : List ℕ) → Printable r → Printable (print_synthesized_definition d r)
unfolding print_synthesized_definition bytes plain
a-synthesized-definition d r p =
    words "(syndef " refl (digits d.rule (words " s" refl (digits d.attribute (words " " refl (an-expression d.expression _ (words ")\n" refl p))))))

a-kernel : (k : Kernel) (r : List ℕ) → Printable r → Printable (print_kernel k r)
unfolding print_kernel bytes plain
a-kernel k r p =
    words "(kernel " refl (digits k.state (words " " refl (digits k.rule (words " " refl (digits k.dot
    (every_one _ (λ a r p. words " t" refl (digits a p)) k.lookaheads (words ")\n" refl p)))))))

a-go : (g : Go) (r : List ℕ) → Printable r → Printable (print_go g r)
unfolding print_go bytes plain
a-go g r p = words "(go " refl (digits g.state (words " " refl (a-symbol g.symbol _ (words " " refl (digits g.target (words ")\n" refl p))))))

the_end : Printable (literal "(end)\n" [])
unfolding literal bytes plain
the_end = front (bytes "(end)") (10 ∷ []) refl line_end

pub print-printable : (b : Book) → Printable (print_book b)
unfolding print_book print_header bytes plain
print-printable b =
    words "(book " refl (digits b.terminals (words " " refl (digits b.nonterminals (words " " refl (digits b.states (words ")\n" refl
    (every-number _ an-owner 0 b.inherited_owners
    (every-number _ another-owner 0 b.synthesized_owners
    (every-number _ a-rule 0 b.rules
    (every_one _ an-inherited-definition b.inherited_definitions
    (every_one _ a-synthesized-definition b.synthesized_definitions
    (every_one _ a-kernel b.kernels
    (every_one _ a-go b.goes the_end)))))))))))))
