-- Each line's reader is the inverse of its printer.
-- Assumes nothing.
use Rattle.std.specs.Prelude.{ℕ, ◌≤◌, ◌≡◌, refl, Bool, true, false, ◌||◌, List, [], ◌∷◌, eqb, length}
use Rattle.std.proofs.Common.{ap, ◌∙◌, arith, eqb-true, eq-eqb, ltb-true, lt-ltb}
use Rattle.std.proofs.lemmas.Bool.{false≢true}
use Rattle.text.specs.Class.{space}
use Rattle.text.specs.Rest.{Rest, left, found, mark, size}
use Rattle.text.proofs.RestLaws.{left_is, must-got, found-mark}
use Rattle.text.specs.Numeral.{decimal, letters, value, write, word_of}
use Rattle.text.proofs.NumeralLaws.{past-got}
use Rattle.text.specs.Positional.{no_digit}
use Rattle.text.proofs.Positional.{letters-positional}
use Rattle.grammar.specs.Data.Symbol.{Symbol, terminal, nonterminal, Rule}
use Rattle.grammar.specs.Data.Book.{InheritedDefinition, SynthesizedDefinition, Kernel, Go}
use Rattle.grammar.specs.Format.Printer.{Printer, ◌·◌, literal, numeral, each}
use Rattle.grammar.specs.Format.Print.{print_symbol, print_inherited, print_synthesized, print_rule, print_inherited_definition, print_synthesized_definition}
use Rattle.grammar.specs.Format.Print.{print_kernel, print_go}
use Rattle.grammar.specs.Format.Ordered.{Ascends, inherited_key, synthesized_key, kernel_key, go_key, lookahead_key, Every, Lookaheads, Fits, SymbolFits}
use Rattle.grammar.specs.Format.Ordered.{terminal_fits, nonterminal_fits, RuleFits, InheritedFits, SynthesizedFits, KernelFits, GoFits}
use Rattle.grammar.specs.Format.Reader.{parsed, result, remaining, opening, naming}
use Rattle.grammar.specs.Format.ReaderLaws.{space-got, number-got, due-got, keyword-got, closing-got, naming-got, opening-got, shrinking, opening-less}
use Rattle.grammar.specs.Format.ReaderLaws.{naming-less, word-ends, number-reads, reading, spelling}
use Rattle.grammar.specs.Format.OrderLaws.{before-true, true-before, Numbering, Following, every-along, along-every, ascends-along, along-ascends, along-fits}
use Rattle.grammar.specs.Format.SectionLaws.{Stands, Inverse, Prints, section-reads, section-was, section-size}
use Rattle.grammar.specs.Format.Expression.{expression}
use Rattle.grammar.specs.Format.ExpressionReads.{expression-reads, expression-size}
use Rattle.grammar.specs.Format.ExpressionWas.{expression-was}
use Rattle.grammar.specs.Format.Parse.{symbol_of, symbol, owner_line, symbols, rule_line, inherited_definition_line, synthesized_definition_line, lookahead, lookaheads}
use Rattle.grammar.specs.Format.Parse.{kernel_line, go_line}

-- What may stand after an element

abbrev pub Anything : List ℕ → Type 0
Anything r = Unit {0}

abbrev pub NoDigit : List ℕ → Type 0
NoDigit r = no_digit decimal r ≡ true

-- Symbols

abbrev pub print_right : Symbol → Printer
print_right X = literal " " · print_symbol X

letter-was : (w K : ℕ) (r : List ℕ) → (eqb w (word_of "t") || eqb w (word_of "n")) ≡ true → Fits K
    → Stands print_symbol SymbolFits (write letters w (write decimal K r)) (symbol_of (eqb w (word_of "t")) K) r
unfolding print_symbol symbol_of spelling
letter-was w K r h k = by-letter (eqb w (word_of "t")) refl (eqb w (word_of "n")) refl
  where
    by-letter : (s : Bool) → eqb w (word_of "t") ≡ s → (t : Bool) → eqb w (word_of "n") ≡ t
        → Stands print_symbol SymbolFits (write letters w (write decimal K r)) (symbol_of (eqb w (word_of "t")) K) r
    by-letter true p t q = rw p (record { text = rw (eqb-true w (word_of "t") p); fine = terminal_fits k })
    by-letter false p true q = rw p (record { text = rw (eqb-true w (word_of "n") q); fine = nonterminal_fits k })
    by-letter false p false q = absurd (false≢true (rw (p, q) at h))

pub symbol-was : {C : Type 0} {r : List ℕ} (o : Rest) → remaining (symbol o) ≡ left r
    → (o ≡ left (print_symbol (result (symbol o)) r) → SymbolFits (result (symbol o)) → C) → C
unfolding symbol result remaining
symbol-was {r = r} o e k =
    number-got _ e λ e₁ h. must-got _ _ e₁ λ t e₂. past-got letters letters-positional o e₂ λ bs e₃ e₄ l.
    let w = letter-was (value letters o) _ r t h in
    k (e₃ ∙ ap left (e₄ ∙ w.text)) w.fine

pub symbol-reads : (X : Symbol) (r : List ℕ) → SymbolFits X → NoDigit r → symbol (left (print_symbol X r)) ≡ parsed X (left r)
unfolding reading symbol symbol_of print_symbol
symbol-reads (terminal K) r (terminal_fits h) e = rw (word-ends _ _ _, number-reads _ _ h e)
symbol-reads (nonterminal K) r (nonterminal_fits h) e = rw (word-ends _ _ _, number-reads _ _ h e)

pub symbol-inverse : Inverse (mark space) (λ (s : Unit {0}). symbol) (λ s. print_right) (λ s. SymbolFits) NoDigit
unfolding reading
symbol-inverse = record {
  head_less = found-mark space;
  one_less = λ s o. unfold symbol in search shrinking depth 20;
  begins = λ s X r. refl;
  reads = λ s X r h e. symbol-reads X r h e;
  ends = λ s X r. refl;
  was = λ s bs r e. symbol-was (mark space (left bs)) e λ e₁ h. space-got (left bs) e₁ λ e₂. record { text = left_is e₂; fine = h };
}

lookahead-was : (last bs r : List ℕ) → remaining (lookahead last (naming (word_of "t") (left bs))) ≡ left r
    → Stands (λ a. literal " t" · numeral a) (Following lookahead_key Fits last) bs (result (lookahead last (naming (word_of "t") (left bs)))) r
unfolding lookahead lookahead_key result remaining spelling
lookahead-was last bs r e =
    must-got _ _ e λ t e₁. number-got _ e₁ λ e₂ h. naming-got _ _ e₂ λ e₃.
    record { text = left_is e₃; fine = record { above = before-true last _ t; fits = h } }

pub lookahead-inverse : Inverse (naming (word_of "t")) lookahead (λ last a. literal " t" · numeral a) (Following lookahead_key Fits) NoDigit
unfolding reading lookahead lookahead_key
lookahead-inverse = record {
  head_less = naming-less (word_of "t");
  one_less = λ last o. search shrinking depth 20;
  begins = λ last a r. rw (word-ends _ a _);
  reads = λ last a r h e. rw (word-ends _ a _, number-reads a r h.fits e, true-before h.above);
  ends = λ last a r. refl;
  was = lookahead-was;
}

-- The lists inside a line

pub each-prints : {A S : Type 0} (next : S → A → S) (print : A → Printer) → Prints next (λ s. print) (λ s. each print)
unfolding each
each-prints next print = record { prints-[] = λ s r. refl; prints-∷ = λ s x xs r. refl }

-- no digit stands where a list of names begins
list-ends : {A : Type 0} (print : A → Printer) → ((x : A) (r : List ℕ) → NoDigit (print x r)) → (xs : List A) (r : List ℕ) → NoDigit r → NoDigit (each print xs r)
unfolding each
list-ends print h [] r e = e
list-ends print h (x ∷ xs) r e = h x (each print xs r)

pub symbols-read : (xs : List Symbol) (r : List ℕ) → Every SymbolFits xs → NoDigit r → found (mark space (left r)) ≡ false
    → symbols (left (each print_right xs r)) ≡ parsed xs (left r)
unfolding symbols
symbols-read xs r h d e =
    section-reads (mark space) (λ (s : Unit {0}). symbol) (λ s X. s) (λ s. print_right) (λ s. SymbolFits) NoDigit
    (λ s. each print_right) symbol-inverse (each-prints (λ s X. s) print_right) tt xs r (every-along h) d e

pub symbols-were : {C : Type 0} {r : List ℕ} (o : Rest) → remaining (symbols o) ≡ left r
    → (o ≡ left (each print_right (result (symbols o)) r) → Every SymbolFits (result (symbols o)) → C) → C
unfolding symbols
symbols-were o e k =
    section-was (mark space) (λ (s : Unit {0}). symbol) (λ s X. s) (λ s. print_right) (λ s. SymbolFits) NoDigit
    (λ s. each print_right) symbol-inverse (each-prints (λ s X. s) print_right) tt o e λ e₁ h. k e₁ (along-every h)

pub most-symbols : (m : ℕ) (o : Rest) → size o ≤ m → size (remaining (symbols o)) ≤ m
unfolding symbols
most-symbols m o h =
    omega (arith, section-size (mark space) (λ (s : Unit {0}). symbol) (λ s X. s) symbol-inverse.head_less symbol-inverse.one_less tt o)

abbrev pub print_lookahead : ℕ → Printer
print_lookahead a = literal " t" · numeral a

pub lookaheads-read : (xs r : List ℕ) → Ascends lookahead_key [] xs → Every Fits xs → NoDigit r → found (naming (word_of "t") (left r)) ≡ false
    → lookaheads (left (each print_lookahead xs r)) ≡ parsed xs (left r)
unfolding lookaheads
lookaheads-read xs r a h d e =
    section-reads (naming (word_of "t")) lookahead (λ last. lookahead_key) (λ last. print_lookahead) (Following lookahead_key Fits) NoDigit
    (λ last. each print_lookahead) lookahead-inverse (each-prints (λ last. lookahead_key) print_lookahead) [] xs r (ascends-along a h) d e

pub lookaheads-were : {C : Type 0} {r : List ℕ} (o : Rest) → remaining (lookaheads o) ≡ left r
    → (o ≡ left (each print_lookahead (result (lookaheads o)) r) → Ascends lookahead_key [] (result (lookaheads o)) → Every Fits (result (lookaheads o)) → C) → C
unfolding lookaheads
lookaheads-were o e k =
    section-was (naming (word_of "t")) lookahead (λ last. lookahead_key) (λ last. print_lookahead) (Following lookahead_key Fits) NoDigit
    (λ last. each print_lookahead) lookahead-inverse (each-prints (λ last. lookahead_key) print_lookahead) [] o e λ e₁ h. k e₁ (along-ascends h) (along-fits h)

pub most-lookaheads : (m : ℕ) (o : Rest) → size o ≤ m → size (remaining (lookaheads o)) ≤ m
unfolding lookaheads
most-lookaheads m o h =
    omega (arith, section-size (naming (word_of "t")) lookahead (λ last. lookahead_key) lookahead-inverse.head_less lookahead-inverse.one_less [] o)

most-expression : (m : ℕ) (o : Rest) → size o ≤ m → size (remaining (expression o)) ≤ m
most-expression m o h = omega (arith, expression-size o)

most-symbol : (m : ℕ) (o : Rest) → size o ≤ m → size (remaining (symbol o)) ≤ m
unfolding symbol result remaining
most-symbol m o h = search shrinking depth 20

-- Lines that state an owner

inherited-was : (K : ℕ) (bs r : List ℕ) → remaining (owner_line (word_of "i") K (opening (word_of "inh") (left bs))) ≡ left r
    → Stands (print_inherited K) (Numbering Fits K) bs (result (owner_line (word_of "i") K (opening (word_of "inh") (left bs)))) r
unfolding owner_line result remaining print_inherited spelling
inherited-was K bs r e =
    closing-got _ e λ e₁. number-got _ e₁ λ e₂ h. naming-got _ _ e₂ λ e₃. due-got K _ e₃ λ e₄ k. keyword-got _ _ e₄ λ e₅. opening-got _ _ e₅ λ e₆.
    record { text = left_is e₆; fine = record { number = k; fits = h } }

pub inherited-inverse : Inverse (opening (word_of "inh")) (owner_line (word_of "i")) print_inherited (Numbering Fits) Anything
unfolding reading print_inherited owner_line
inherited-inverse = record {
  head_less = opening-less (word_of "inh");
  one_less = λ K o. search shrinking depth 20;
  begins = λ K A r. refl;
  reads = λ K A r h u. rw (word-ends _ K _, number-reads K _ h.number refl, eq-eqb K K refl) (rw (word-ends _ A _, number-reads A _ h.fits refl));
  ends = λ K A r. tt;
  was = inherited-was;
}

synthesized-was : (K : ℕ) (bs r : List ℕ) → remaining (owner_line (word_of "s") K (opening (word_of "syn") (left bs))) ≡ left r
    → Stands (print_synthesized K) (Numbering Fits K) bs (result (owner_line (word_of "s") K (opening (word_of "syn") (left bs)))) r
unfolding owner_line result remaining print_synthesized spelling
synthesized-was K bs r e =
    closing-got _ e λ e₁. number-got _ e₁ λ e₂ h. naming-got _ _ e₂ λ e₃. due-got K _ e₃ λ e₄ k. keyword-got _ _ e₄ λ e₅. opening-got _ _ e₅ λ e₆.
    record { text = left_is e₆; fine = record { number = k; fits = h } }

pub synthesized-inverse : Inverse (opening (word_of "syn")) (owner_line (word_of "s")) print_synthesized (Numbering Fits) Anything
unfolding reading print_synthesized owner_line
synthesized-inverse = record {
  head_less = opening-less (word_of "syn");
  one_less = λ K o. search shrinking depth 20;
  begins = λ K A r. refl;
  reads = λ K A r h u. rw (word-ends _ K _, number-reads K _ h.number refl, eq-eqb K K refl) (rw (word-ends _ A _, number-reads A _ h.fits refl));
  ends = λ K A r. tt;
  was = synthesized-was;
}

-- Rules

right-ends : (xs : List Symbol) (r : List ℕ) → NoDigit (each print_right xs (literal ")\n" r))
unfolding reading
right-ends xs r = list-ends print_right (λ X r. refl) xs (literal ")\n" r) refl

rule-was : (K : ℕ) (bs r : List ℕ) → remaining (rule_line K (opening (word_of "rule") (left bs))) ≡ left r
    → Stands (print_rule K) (Numbering RuleFits K) bs (result (rule_line K (opening (word_of "rule") (left bs)))) r
unfolding rule_line result remaining print_rule spelling
rule-was K bs r e =
    closing-got _ e λ e₁. symbols-were _ e₁ λ e₂ hs. number-got _ e₂ λ e₃ h. naming-got _ _ e₃ λ e₄. due-got K _ e₄ λ e₅ k. opening-got _ _ e₅ λ e₆.
    record { text = left_is e₆; fine = record { number = k; fits = record { left = h; right = hs } } }

rule-reads : (K : ℕ) (x : Rule) (r : List ℕ) → Numbering RuleFits K x → rule_line K (opening (word_of "rule") (left (print_rule K x r))) ≡ parsed x (left r)
unfolding reading print_rule rule_line
rule-reads K x r h =
    rw (number-reads K _ h.number refl, eq-eqb K K refl)
    (rw (
      word-ends _ x.left _,
      number-reads x.left _ h.fits.left (right-ends x.right r),
      symbols-read x.right (literal ")\n" r) h.fits.right refl refl,
    ))

pub rule-inverse : Inverse (opening (word_of "rule")) rule_line print_rule (Numbering RuleFits) Anything
unfolding reading print_rule rule_line
rule-inverse = record {
  head_less = opening-less (word_of "rule");
  one_less = λ K o. search (shrinking, most-symbols) depth 20;
  begins = λ K x r. refl;
  reads = λ K x r h u. rule-reads K x r h;
  ends = λ K x r. tt;
  was = rule-was;
}

-- Definitions

inherited-definition-was : (last bs r : List ℕ) → remaining (inherited_definition_line last (opening (word_of "inhdef") (left bs))) ≡ left r
    → Stands print_inherited_definition (Following inherited_key InheritedFits last) bs (result (inherited_definition_line last (opening (word_of "inhdef") (left bs)))) r
unfolding inherited_definition_line inherited_key result remaining print_inherited_definition spelling
inherited-definition-was last bs r e =
    must-got _ _ e λ t e₁. closing-got _ e₁ λ e₂. expression-was _ e₂ λ e₃ h. space-got _ e₃ λ e₄. number-got _ e₄ λ e₅ k. naming-got _ _ e₅ λ e₆.
    number-got _ e₆ λ e₇ j. space-got _ e₇ λ e₈. number-got _ e₈ λ e₉ p. opening-got _ _ e₉ λ e₁₀.
    record { text = left_is e₁₀; fine = record { above = before-true last _ t; fits = record { rule = p; position = j; attribute = k; expression = h } } }

inherited-definition-reads : (last : List ℕ) (d : InheritedDefinition) (r : List ℕ) → Following inherited_key InheritedFits last d
    → inherited_definition_line last (opening (word_of "inhdef") (left (print_inherited_definition d r))) ≡ parsed d (left r)
unfolding reading print_inherited_definition inherited_definition_line inherited_key
inherited-definition-reads last d r h =
    rw (
      number-reads d.rule _ h.fits.rule refl,
      number-reads d.position _ h.fits.position refl,
      word-ends _ d.attribute _,
      number-reads d.attribute _ h.fits.attribute refl,
      expression-reads d.expression (literal ")\n" r) h.fits.expression refl,
      true-before h.above,
    )

pub inherited-definition-inverse
    : Inverse (opening (word_of "inhdef")) inherited_definition_line (λ last. print_inherited_definition) (Following inherited_key InheritedFits) Anything
unfolding reading print_inherited_definition inherited_definition_line
inherited-definition-inverse = record {
  head_less = opening-less (word_of "inhdef");
  one_less = λ last o. search (shrinking, most-expression) depth 20;
  begins = λ last d r. refl;
  reads = λ last d r h u. inherited-definition-reads last d r h;
  ends = λ last d r. tt;
  was = inherited-definition-was;
}

synthesized-definition-was : (last bs r : List ℕ) → remaining (synthesized_definition_line last (opening (word_of "syndef") (left bs))) ≡ left r
    → Stands print_synthesized_definition (Following synthesized_key SynthesizedFits last) bs
    (result (synthesized_definition_line last (opening (word_of "syndef") (left bs)))) r
unfolding synthesized_definition_line synthesized_key result remaining print_synthesized_definition spelling
synthesized-definition-was last bs r e =
    must-got _ _ e λ t e₁. closing-got _ e₁ λ e₂. expression-was _ e₂ λ e₃ h. space-got _ e₃ λ e₄. number-got _ e₄ λ e₅ k. naming-got _ _ e₅ λ e₆.
    number-got _ e₆ λ e₇ p. opening-got _ _ e₇ λ e₈.
    record { text = left_is e₈; fine = record { above = before-true last _ t; fits = record { rule = p; attribute = k; expression = h } } }

synthesized-definition-reads : (last : List ℕ) (d : SynthesizedDefinition) (r : List ℕ) → Following synthesized_key SynthesizedFits last d
    → synthesized_definition_line last (opening (word_of "syndef") (left (print_synthesized_definition d r))) ≡ parsed d (left r)
unfolding reading print_synthesized_definition synthesized_definition_line synthesized_key
synthesized-definition-reads last d r h =
    rw (
      number-reads d.rule _ h.fits.rule refl,
      word-ends _ d.attribute _,
      number-reads d.attribute _ h.fits.attribute refl,
      expression-reads d.expression (literal ")\n" r) h.fits.expression refl,
      true-before h.above,
    )

pub synthesized-definition-inverse
    : Inverse (opening (word_of "syndef")) synthesized_definition_line (λ last. print_synthesized_definition) (Following synthesized_key SynthesizedFits) Anything
unfolding reading print_synthesized_definition synthesized_definition_line
synthesized-definition-inverse = record {
  head_less = opening-less (word_of "syndef");
  one_less = λ last o. search (shrinking, most-expression) depth 20;
  begins = λ last d r. refl;
  reads = λ last d r h u. synthesized-definition-reads last d r h;
  ends = λ last d r. tt;
  was = synthesized-definition-was;
}

-- States

abbrev pub KernelFine : Kernel → Type 0
KernelFine k = Lookaheads k × KernelFits k

lookaheads-end : (xs r : List ℕ) → NoDigit (each print_lookahead xs (literal ")\n" r))
unfolding reading
lookaheads-end xs r = list-ends print_lookahead (λ a r. refl) xs (literal ")\n" r) refl

kernel-was : (last bs r : List ℕ) → remaining (kernel_line last (opening (word_of "kernel") (left bs))) ≡ left r
    → Stands print_kernel (Following kernel_key KernelFine last) bs (result (kernel_line last (opening (word_of "kernel") (left bs)))) r
unfolding kernel_line kernel_key result remaining print_kernel spelling
kernel-was last bs r e =
    must-got _ _ e λ t e₁. closing-got _ e₁ λ e₂. must-got _ _ e₂ λ u e₃. lookaheads-were _ e₃ λ e₄ up hs. number-got _ e₄ λ e₅ d. space-got _ e₅ λ e₆.
    number-got _ e₆ λ e₇ p. space-got _ e₇ λ e₈. number-got _ e₈ λ e₉ s. opening-got _ _ e₉ λ e₁₀.
    record {
      text = left_is e₁₀;
      fine = record {
        above = before-true last _ t;
        fits = (record { some = ltb-true 0 _ u; ascend = up }, record { state = s; rule = p; dot = d; lookaheads = hs });
      };
    }

kernel-reads : (last : List ℕ) (k : Kernel) (r : List ℕ) → Following kernel_key KernelFine last k
    → kernel_line last (opening (word_of "kernel") (left (print_kernel k r))) ≡ parsed k (left r)
unfolding reading print_kernel kernel_line kernel_key
kernel-reads last k r h =
    rw (
      number-reads k.state _ h.fits.1.state refl,
      number-reads k.rule _ h.fits.1.rule refl,
      number-reads k.dot _ h.fits.1.dot (lookaheads-end k.lookaheads r),
      lookaheads-read k.lookaheads (literal ")\n" r) h.fits.0.ascend h.fits.1.lookaheads refl refl,
      lt-ltb 0 (length k.lookaheads) h.fits.0.some,
      true-before h.above,
    )

pub kernel-inverse : Inverse (opening (word_of "kernel")) kernel_line (λ last. print_kernel) (Following kernel_key KernelFine) Anything
unfolding reading print_kernel kernel_line
kernel-inverse = record {
  head_less = opening-less (word_of "kernel");
  one_less = λ last o. search (shrinking, most-lookaheads) depth 20;
  begins = λ last k r. refl;
  reads = λ last k r h u. kernel-reads last k r h;
  ends = λ last k r. tt;
  was = kernel-was;
}

go-was : (last bs r : List ℕ) → remaining (go_line last (opening (word_of "go") (left bs))) ≡ left r
    → Stands print_go (Following go_key GoFits last) bs (result (go_line last (opening (word_of "go") (left bs)))) r
unfolding go_line go_key result remaining print_go spelling
go-was last bs r e =
    must-got _ _ e λ t e₁. closing-got _ e₁ λ e₂. number-got _ e₂ λ e₃ m. space-got _ e₃ λ e₄. symbol-was _ e₄ λ e₅ x. space-got _ e₅ λ e₆. number-got _ e₆ λ e₇ s.
    opening-got _ _ e₇ λ e₈.
    record { text = left_is e₈; fine = record { above = before-true last _ t; fits = record { state = s; symbol = x; target = m } } }

go-reads : (last : List ℕ) (g : Go) (r : List ℕ) → Following go_key GoFits last g → go_line last (opening (word_of "go") (left (print_go g r))) ≡ parsed g (left r)
unfolding reading print_go go_line go_key
go-reads last g r h =
    rw (
      number-reads g.state _ h.fits.state refl,
      symbol-reads g.symbol _ h.fits.symbol refl,
      number-reads g.target _ h.fits.target refl,
      true-before h.above,
    )

pub go-inverse : Inverse (opening (word_of "go")) go_line (λ last. print_go) (Following go_key GoFits) Anything
unfolding reading print_go go_line
go-inverse = record {
  head_less = opening-less (word_of "go");
  one_less = λ last o. search (shrinking, most-symbol) depth 20;
  begins = λ last g r. refl;
  reads = λ last g r h u. go-reads last g r h;
  ends = λ last g r. tt;
  was = go-was;
}
