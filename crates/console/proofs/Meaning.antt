-- What the definition says: which lines spell a token, and that a printed book and printed token lines are answered as that book and those tokens.
-- Assumes nothing.
use Rattle.std.specs.Prelude.{ℕ, ◌≡◌, ◌↔◌, List, [], ◌∷◌, ◌++◌}
use Rattle.std.proofs.Common.{ap, ◌∙◌}
use Rattle.std.proofs.Math.Option.{some}
use Rattle.grammar.specs.Data.Book.{Book}
use Rattle.grammar.specs.Evaluator.Tree.{Token}
use Rattle.grammar.specs.Format.Print.{print_book}
use Rattle.grammar.specs.Format.Ordered.{Every, Fits}
use Rattle.grammar.specs.Demands.{numbers_of}
use Rattle.console.specs.Desk.{token_of, all_bytes, answer, answer_to, print_answer, desk_output}
use Rattle.console.proofs.BookLines.{book-taken}
use Rattle.console.specs.Lines.{print_token, token-got}
use Rattle.console.specs.TokenLines.{TokenFits, print_tokens}
use Rattle.console.proofs.TokenLines.{token-reads, tokens-taken}

-- a line spells a token exactly if it is `(tok kind value)` with its line feed, for numbers of 32 bits
pub token-spelled : (line : List ℕ) (kind value : ℕ)
    → (token_of line ≡ some (kind ∷ value ∷ [])) ↔ ((line ≡ print_token kind value []) × Fits kind × Fits value)
token-spelled line kind value = (
  λ e. token-got line e λ k v n w f g.
      let a : kind ≡ k = cc in
      let b : value ≡ v = cc in
      (rw (a, b) w, rw a f, rw b g),
  λ h. ap token_of h.0 ∙ token-reads kind value h.1 h.2,
)

pub desk-printed : (b : Book) (ks : List Token) → Every TokenFits ks
    → desk_output (print_book b ++ print_tokens ks []) ≡ print_answer (answer (print_book b) (some (numbers_of ks))) []
unfolding desk_output answer_to all_bytes
desk-printed b ks h =
    ap (λ i. print_answer (answer_to i) []) (book-taken b (print_tokens ks []) ∙ tokens-taken (print_book b) [] ks [] h)
