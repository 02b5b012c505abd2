-- A book that was read was printed, and its lines and numbers are as they must be.
-- Assumes nothing.
use Rattle.std.specs.Prelude.{ℕ, ◌≡◌, List, [], ◌∷◌}
use Rattle.text.specs.Rest.{Rest, left}
use Rattle.text.proofs.RestLaws.{left_is}
use Rattle.text.specs.Numeral.{letters, write, word_of}
use Rattle.grammar.specs.Format.Print.{print_header, print_inherited, print_synthesized, print_rule, print_inherited_definition, print_synthesized_definition}
use Rattle.grammar.specs.Format.Print.{print_kernel, print_go, print_book}
use Rattle.grammar.specs.Format.Ordered.{inherited_key, synthesized_key, kernel_key, go_key, Spelled}
use Rattle.grammar.specs.Format.Reader.{result, remaining}
use Rattle.grammar.specs.Format.ReaderLaws.{open-got, space-got, number-got, keyword-got, closing-got, opening-got, spelling}
use Rattle.grammar.specs.Format.OrderLaws.{every_first, every-second}
use Rattle.grammar.specs.Format.LineLaws.{inherited-inverse, synthesized-inverse, rule-inverse, inherited-definition-inverse, synthesized-definition-inverse}
use Rattle.grammar.specs.Format.LineLaws.{kernel-inverse, go-inverse}
use Rattle.grammar.specs.Format.ParseSections.{numbered-was, ordered-was}
use Rattle.grammar.specs.Format.Parse.{owner_line, rule_line, inherited_definition_line, synthesized_definition_line, kernel_line, go_line, owner_lines, rule_lines}
use Rattle.grammar.specs.Format.Parse.{inherited_definition_lines, synthesized_definition_lines, kernel_lines, go_lines, end_line, book_text}

end-got : {C : Type 0} {r : List ℕ} (o : Rest) → end_line o ≡ left r → (o ≡ left (40 ∷ write letters (word_of "end") (41 ∷ 10 ∷ r)) → C) → C
unfolding end_line
end-got o e k = closing-got _ e λ e₁. keyword-got _ _ e₁ λ e₂. open-got o e₂ k

pub book-was : (text : List ℕ) → remaining (book_text (left text)) ≡ left [] → (text ≡ print_book (result (book_text (left text)))) × Spelled (result (book_text (left text)))
unfolding book_text result remaining owner_lines rule_lines inherited_definition_lines synthesized_definition_lines kernel_lines go_lines print_book print_header spelling
book-was text e =
    end-got _ e λ e₁.
    ordered-was (word_of "go") go_line go_key print_go go-inverse _ e₁ λ e₂ go-up go-fits.
    ordered-was (word_of "kernel") kernel_line kernel_key print_kernel kernel-inverse _ e₂ λ e₃ kernel-up kernel-fits.
    ordered-was (word_of "syndef") synthesized_definition_line synthesized_key print_synthesized_definition synthesized-definition-inverse _ e₃ λ e₄ syn-up syn-fits.
    ordered-was (word_of "inhdef") inherited_definition_line inherited_key print_inherited_definition inherited-definition-inverse _ e₄ λ e₅ inh-up inh-fits.
    numbered-was (word_of "rule") rule_line print_rule rule-inverse _ e₅ λ e₆ rule_fits.
    numbered-was (word_of "syn") (owner_line (word_of "s")) print_synthesized synthesized-inverse _ e₆ λ e₇ syn-owners.
    numbered-was (word_of "inh") (owner_line (word_of "i")) print_inherited inherited-inverse _ e₇ λ e₈ inh-owners.
    closing-got _ e₈ λ e₉. number-got _ e₉ λ e₁₀ q. space-got _ e₁₀ λ e₁₁. number-got _ e₁₁ λ e₁₂ n. space-got _ e₁₂ λ e₁₃. number-got _ e₁₃ λ e₁₄ t.
    opening-got _ _ e₁₄ λ e₁₅. (
      left_is e₁₅,
      record {
        ordered = record { inherited = inh-up; synthesized = syn-up; kernels = kernel-up; lookaheads = every_first kernel-fits; goes = go-up };
        fits = record {
          terminals = t;
          nonterminals = n;
          states = q;
          inherited_owners = inh-owners;
          synthesized_owners = syn-owners;
          rules = rule_fits;
          inherited_definitions = inh-fits;
          synthesized_definitions = syn-fits;
          kernels = every-second kernel-fits;
          goes = go-fits;
        };
      },
    )
