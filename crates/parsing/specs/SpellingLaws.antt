-- The sections of a book, read one after another, are the book; and what the arrays then hold of it.
-- Assumes nothing.
use Rattle.std.specs.Prelude.{ℕ, ◌≤◌, ◌<◌, ◌≡◌, refl, Bool, List, [], ◌∷◌, map, eqb, ltb, Option, None, Some}
use Rattle.std.proofs.Math.Path.{sym, ap}
use Rattle.std.proofs.Common.{◌∙◌, ⊎_elim, eq-or-lt_of_le, drop_of_length-le, eqb-true, ltb-true, ltb-false}
use Rattle.std.proofs.Math.Bool.{true, false}
use Rattle.std.proofs.Math.Option.{none, some}
use native.Mathlib.Omega.{arith}
use Rattle.std.proofs.Math.ListN.{length, length-map}
use Rattle.std.proofs.lemmas.Bool.{eqb-false}
use Rattle.text.specs.Rest.{Rest, lost, left, rest, size}
use Rattle.text.proofs.RestLaws.{rest_in, rest_at, rest_out}
use Rattle.text.specs.Numeral.{word_of}
use Rattle.grammar.specs.Limits.{MAX_INHERITED, MAX_SYNTHESIZED}
use Rattle.grammar.specs.Data.Book.{Book as Lines}
use Rattle.grammar.specs.Format.Reader.{parsed, result, remaining}
use Rattle.grammar.specs.Format.ReaderLaws.{shrinking}
use Rattle.grammar.specs.Format.Parse.{owner_lines, rule_lines, kernel_lines, go_lines, end_line, book_text, ended, parse_book}
use Rattle.book.specs.declared.kind.Kind.TheVariants.{Inherited, Synthesized}
use Rattle.book.specs.declared.Book.{Book}
use Rattle.book.specs.declared.Room.{Room}
use Rattle.book.specs.Layout.{store_lines, owner_words, rule_words, kernel_words, go_words}
use Rattle.book.specs.Sections.{Gives, Fills}
use Rattle.book.specs.Header.{Numbers, header, book_is}
use Rattle.definitions.specs.Definitions.{inherited_of, synthesized_of, definitions}
use Rattle.definitions.specs.DefinitionsLaws.{inherited-lines, synthesized-lines}
use Rattle.definitions.specs.DefinitionsLoop.{Defines, definitions-size}
use Rattle.definitions.specs.DefinitionsHeld.{inherited-stored, synthesized-stored}
use Rattle.kernels.specs.KernelLines.{kernels-size}
use Rattle.kernels.specs.GoLines.{goes-size}
use Rattle.book.specs.Held.{inherited_words, synthesized_words}
use Rattle.book.specs.Counts.{counts_of}
use Rattle.definitions.specs.Both.{DefinesBoth}
use Rattle.parsing.specs.Declarations.{Declares}
use Rattle.book.specs.Spelling.{arrays, stored_in, Spelling}

-- Where reading ends

some_at : (b : Lines) (text : List ℕ) (p : ℕ) → p ≡ length text → ended (parsed b (rest text p)) ≡ some b
unfolding ended
some_at b text p e = let z : length text ≤ p = omega arith in rw (rest_in text p (omega arith), drop_of_length-le text z)

none-at : (b : Lines) (text : List ℕ) (p : ℕ) → (p ≡ length text → ⊥) → ended (parsed b (rest text p)) ≡ none
unfolding ended
none-at b text p h = go (ltb p (length text)) refl
  where
    go : (t : Bool) → ltb p (length text) ≡ t → ended (parsed b (rest text p)) ≡ none
    go true e = rw (rest_at text p (ltb-true p (length text) e))
    go false e = rw (rest_out text p (let z : length text ≤ p = ltb-false p (length text) e in ⊎_elim (λ q. absurd (h (sym q))) (λ q. q) (eq-or-lt_of_le z)))

ended-got : {C : Type 0} {b : Lines} (c : Lines) (o : Rest) → ended (parsed c o) ≡ some b → (c ≡ b → 0 < size o → C) → C
unfolding ended size
ended-got c lost e k = absurd (let z : ◌≡◌ {A = ℕ} 0 1 = cc in let y : ⊥ = omega arith in y)
ended-got c (left []) e k = k (cc) (omega arith)
ended-got c (left (x ∷ xs)) e k = absurd (let z : ◌≡◌ {A = ℕ} 0 1 = cc in let y : ⊥ = omega arith in y)

-- what some is left of can be read on
some_left : {C : Type 0} (o : Rest) → 0 < size o → ((bs : List ℕ) → o ≡ left bs → C) → C
unfolding size
some_left lost h k = absurd (let z : ⊥ = omega arith in z)
some_left (left bs) h k = k bs refl

end-size : (o : Rest) → size (end_line o) ≤ size o
unfolding end_line
end-size o = search shrinking depth 20

-- the book that the sections are, from the positions where they begin
whole : (text : List ℕ) (numbers : Numbers) (p₁ p₂ p₃ p₄ p₅ p₆ p₇ : ℕ) → Lines
whole text numbers p₁ p₂ p₃ p₄ p₅ p₆ p₇ = record {
  terminals = numbers.terminals;
  nonterminals = numbers.nonterminals;
  states = numbers.states;
  inherited_owners = result (owner_lines (word_of "inh") (word_of "i") (rest text p₁));
  synthesized_owners = result (owner_lines (word_of "syn") (word_of "s") (rest text p₂));
  rules = result (rule_lines (rest text p₃));
  inherited_definitions = map inherited_of (result (definitions Inherited (rest text p₄)));
  synthesized_definitions = map synthesized_of (result (definitions Synthesized (rest text p₅)));
  kernels = result (kernel_lines (rest text p₆));
  goes = result (go_lines (rest text p₇));
}

-- the numbers of a book, from those of its first line and of its sections
abbrev pub numbers_with : Numbers → (inherited synthesized rules inherited_definitions synthesized_definitions kernels goes : ℕ) → Book
numbers_with numbers i s r d e k g = record {
  terminals = numbers.terminals;
  nonterminals = numbers.nonterminals;
  states = numbers.states;
  inherited = i;
  synthesized = s;
  rules = r;
  inherited_definitions = d;
  synthesized_definitions = e;
  kernels = k;
  goes = g;
}

module _ {text inherited₀ inherited synthesized₀ synthesized rules₀ rules definitions₀ definitions₁ definitions₂ kernels₀ kernels goes₀ goes : List ℕ}
    {numbers : Numbers} {i s r d e k g p₁ p₂ p₃ p₄ p₅ p₆ p₇ p₈ : ℕ} (room : Room) (p₉ : ℕ)
    (head_read : Gives (header (rest text 0)) text numbers p₁)
    (inherited_read : Fills owner_words MAX_INHERITED (owner_lines (word_of "inh") (word_of "i") (rest text p₁)) text inherited₀ i p₂ inherited)
    (synthesized_read : Fills owner_words MAX_SYNTHESIZED (owner_lines (word_of "syn") (word_of "s") (rest text p₂)) text synthesized₀ s p₃ synthesized)
    (rules_read : Fills rule_words room.rules (rule_lines (rest text p₃)) text rules₀ r p₄ rules)
    (inherited-defined : Defines (definitions Inherited (rest text p₄)) room.definitions 0 text definitions₀ d p₅ definitions₁)
    (synthesized-defined : Defines (definitions Synthesized (rest text p₅)) room.definitions d text definitions₁ e p₆ definitions₂)
    (kernels-read : Fills kernel_words room.kernels (kernel_lines (rest text p₆)) text kernels₀ k p₇ kernels)
    (goes-read : Fills go_words room.goes (go_lines (rest text p₇)) text goes₀ g p₈ goes)
    (end_read : rest text p₉ ≡ end_line (rest text p₈)) where
  abbrev read : Lines
  read = whole text numbers p₁ p₂ p₃ p₄ p₅ p₆ p₇

  book-read : book_text (rest text 0) ≡ parsed read (rest text p₉)
  unfolding whole result remaining
  book-read =
      book_is (rest text 0)
      ∙ rw (
        ← head_read.remaining_is,
        ← head_read.result_is,
        ← inherited_read.remaining_is,
        ← synthesized_read.remaining_is,
        ← rules_read.remaining_is,
        inherited-lines (rest text p₄),
        ← inherited-defined.remaining_is,
        synthesized-lines (rest text p₅),
        ← synthesized-defined.remaining_is,
        ← kernels-read.remaining_is,
        ← goes-read.remaining_is,
        ← end_read,
      )

  parse-is : parse_book text ≡ ended (parsed read (rest text p₉))
  unfolding parse_book
  parse-is = let z : rest text 0 ≡ left text = rest_in text 0 (omega arith) in ap ended (ap book_text (sym z) ∙ book-read)

  counts-are : numbers_with numbers i s r d e k g ≡ counts_of read
  unfolding whole counts_of
  counts-are =
      rw (
        inherited_read.count_is,
        synthesized_read.count_is,
        rules_read.count_is,
        inherited-defined.count_is,
        synthesized-defined.count_is,
        kernels-read.count_is,
        goes-read.count_is,
        length-map (result (definitions Inherited (rest text p₄))) inherited_of,
        length-map (result (definitions Synthesized (rest text p₅))) synthesized_of,
      )

  -- the definitions' array, where the text is not lost
  definitions-are : 0 < size (rest text p₉)
      → definitions₂
      ≡ store_lines synthesized_words room.definitions (length read.inherited_definitions) read.synthesized_definitions
      (store_lines inherited_words room.definitions 0 read.inherited_definitions definitions₀)
  unfolding whole
  definitions-are h =
      let sixth : 0 < size (rest text p₆) =
      omega (
        arith,
        ap size end_read,
        end-size (rest text p₈),
        ap size goes-read.remaining_is,
        goes-size (rest text p₇),
        ap size kernels-read.remaining_is,
        kernels-size (rest text p₆),
      ) in
      let fifth : 0 < size (rest text p₅) = omega (arith, ap size synthesized-defined.remaining_is, definitions-size Synthesized (rest text p₅)) in
      some_left (rest text p₆) sixth λ cs e₆. some_left (rest text p₅) fifth λ bs e₅.
      let first : definitions₁ ≡ store_lines inherited_words room.definitions 0 (map inherited_of (result (definitions Inherited (rest text p₄)))) definitions₀ =
      inherited-defined.array_is ∙ inherited-stored (rest text p₄) room.definitions 0 definitions₀ (sym inherited-defined.remaining_is ∙ e₅) in
      let count : d ≡ length (map inherited_of (result (definitions Inherited (rest text p₄)))) =
      inherited-defined.count_is ∙ sym (length-map (result (definitions Inherited (rest text p₄))) inherited_of) in
      synthesized-defined.array_is
      ∙ (synthesized-stored (rest text p₅) room.definitions d definitions₁ (sym synthesized-defined.remaining_is ∙ e₆) ∙ rw (first, count))

  arrays-are : 0 < size (rest text p₉)
      → arrays inherited synthesized rules definitions₂ kernels goes ≡ stored_in room (arrays inherited₀ synthesized₀ rules₀ definitions₀ kernels₀ goes₀) read
  unfolding stored_in whole
  arrays-are h =
      rw (inherited_read.array_is, synthesized_read.array_is, rules_read.array_is, definitions-are h, kernels-read.array_is, goes-read.array_is)

  -- a book that was read is the one that the sections are, and something is left of the text
  read-got : {C : Type 0} (b : Lines) → parse_book text ≡ some b → (read ≡ b → 0 < size (rest text p₉) → C) → C
  read-got b e f = ended-got read (rest text p₉) (sym parse-is ∙ e) f

  -- a book that was read ends where the text ends
  ends-got : (b : Lines) → parse_book text ≡ some b → p₉ ≡ length text
  ends-got b z = go (eqb p₉ (length text)) refl
    where
      go : (t : Bool) → eqb p₉ (length text) ≡ t → p₉ ≡ length text
      go true q = eqb-true p₉ (length text) q
      go false q = let y : some b ≡ none = sym z ∙ (parse-is ∙ none-at read text p₉ (eqb-false p₉ (length text) q)) in absurd (cc)

  -- what is answered: the numbers where the text ends there, and else nothing
  by-sections : (answer : Option Book) → (p₉ ≡ length text → answer ≡ Some (numbers_with numbers i s r d e k g)) → ((p₉ ≡ length text → ⊥) → answer ≡ None)
      → Spelling room text (arrays inherited₀ synthesized₀ rules₀ definitions₀ kernels₀ goes₀) answer (arrays inherited synthesized rules definitions₂ kernels goes)
  by-sections answer there elsewhere =
      record {
        none_is = λ z. elsewhere λ end. let y : some read ≡ none = sym (some_at read text p₉ end) ∙ (sym parse-is ∙ z) in absurd (cc);
        some_is = λ b z. read-got b z λ same some. there (ends-got b z) ∙ ap Some (counts-are ∙ ap counts_of same);
        lines_are = λ b z. read-got b z λ same some. arrays-are some ∙ ap (stored_in room (arrays inherited₀ synthesized₀ rules₀ definitions₀ kernels₀ goes₀)) same;
      }

-- the parts of a book, one after another
pub spelling-steps : {text inherited₀ inherited synthesized₀ synthesized rules₀ rules definitions₀ definitions₂ kernels₀ kernels goes₀ goes : List ℕ}
    {numbers : Numbers} {i s r d e k g p₄ p₆ p₇ p₈ : ℕ} (room : Room) (p₉ : ℕ) → Declares room.rules text inherited₀ synthesized₀ rules₀ numbers i s r p₄ inherited synthesized rules
    → DefinesBoth text room.definitions definitions₀ p₄ d e p₆ definitions₂ → Fills kernel_words room.kernels (kernel_lines (rest text p₆)) text kernels₀ k p₇ kernels
    → Fills go_words room.goes (go_lines (rest text p₇)) text goes₀ g p₈ goes → rest text p₉ ≡ end_line (rest text p₈)
    → (answer : Option Book) → (p₉ ≡ length text → answer ≡ Some (numbers_with numbers i s r d e k g)) → ((p₉ ≡ length text → ⊥) → answer ≡ None)
    → Spelling room text (arrays inherited₀ synthesized₀ rules₀ definitions₀ kernels₀ goes₀) answer (arrays inherited synthesized rules definitions₂ kernels goes)
spelling-steps room p₉ declared defined items moves end =
    by-sections room p₉ declared.head_read declared.inherited_read declared.synthesized_read declared.rules_read defined.inherited_read
    defined.synthesized_read items moves end
