-- Printed token lines: each is read as its token, and all of them one after another.
-- Assumes nothing.
use Rattle.std.specs.Prelude.{ℕ, ◌≡◌, refl, false, List, [], ◌∷◌, ◌++◌, eqb}
use Rattle.std.proofs.Common.{ap, ◌∙◌, append-nil, append_assoc}
use Rattle.std.proofs.Math.Option.{some}
use Rattle.text.specs.Numeral.{decimal}
use Rattle.text.proofs.Positional.{write-front}
use Rattle.grammar.specs.Evaluator.Tree.{Token}
use Rattle.grammar.specs.Format.Printer.{bytes, literal, numeral, each}
use Rattle.grammar.specs.Format.Ordered.{Every, every-[], every-∷, Fits}
use Rattle.grammar.specs.Format.ReaderLaws.{number-reads, reading}
use Rattle.grammar.specs.Demands.{numbers_of}
use Rattle.console.specs.Desk.{Lines, so_far, after_end, token_line, spelled_by, token_of, one_line, all_bytes}
use Rattle.console.specs.Lines.{print_token}
use Rattle.console.proofs.Steps.{◌▷◌, line-tokens, some-joined, taken-on, taken-line}
use Rattle.console.specs.Unfed.{unfed, words, digits}
use Rattle.console.specs.TokenLines.{TokenFits, print_tokens}

-- a line: a line feed at its end and nowhere else
data OneLine : List ℕ → Type 0 where
  feed : OneLine (10 ∷ [])
  more : {c : ℕ} {bs : List ℕ} → eqb c 10 ≡ false → OneLine bs → OneLine (c ∷ bs)

one-taken : {bs : List ℕ} (lines : Lines) (line r : List ℕ) → OneLine bs
    → all_bytes (so_far lines line) (bs ++ r) ≡ all_bytes (so_far (one_line lines (line ++ bs)) []) r
one-taken lines line r feed = taken-line lines line 10 r refl
one-taken lines line r (more {c} {bs} h l) =
    taken-on lines line c (bs ++ r) h ∙ (one-taken lines (line ▷ c) r l ∙ rw (append_assoc line (c ∷ []) bs))

-- A printed token is a line, in front of whatever comes after it

number-front : (n : ℕ) (r s : List ℕ) → numeral n (r ++ s) ≡ numeral n r ++ s
number-front n r s = write-front decimal n r s

token-front : (kind value : ℕ) (r : List ℕ) → print_token kind value r ≡ print_token kind value [] ++ r
unfolding print_token literal bytes
token-front kind value r =
    rw (number-front value (41 ∷ 10 ∷ []) r, number-front kind (32 ∷ numeral value (41 ∷ 10 ∷ [])) r)

in-line : (c : ℕ) (bs : List ℕ) → eqb c 10 ≡ false → OneLine bs → OneLine (c ∷ bs)
in-line c bs h l = more h l

token-line : (kind value : ℕ) → OneLine (print_token kind value [])
unfolding print_token literal bytes unfed
token-line kind value =
    words OneLine in-line "(tok " refl (digits OneLine in-line kind (words OneLine in-line " " refl (digits OneLine in-line value (more refl feed))))

-- what was printed is read
pub token-reads : (kind value : ℕ) → Fits kind → Fits value → token_of (print_token kind value []) ≡ some (kind ∷ value ∷ [])
unfolding token_of token_line spelled_by print_token reading
token-reads kind value h k = rw (number-reads kind _ h refl, number-reads value _ k refl)

-- Tokens one after another

one_token : (text ns : List ℕ) (kind value : ℕ) (r : List ℕ) → Fits kind → Fits value
    → all_bytes (so_far (after_end text (some ns)) []) (print_token kind value r)
    ≡ all_bytes (so_far (after_end text (some (ns ++ (kind ∷ value ∷ [])))) []) r
one_token text ns kind value r h k =
    ap (all_bytes (so_far (after_end text (some ns)) [])) (token-front kind value r)
    ∙ (one-taken (after_end text (some ns)) [] r (token-line kind value)
    ∙ ap (λ l. all_bytes (so_far l []) r) (line-tokens text (print_token kind value []) (some ns)
    ∙ rw (token-reads kind value h k, some-joined ns (kind ∷ value ∷ []))))

pub tokens-taken : (text ns : List ℕ) (ks : List Token) (r : List ℕ) → Every TokenFits ks
    → all_bytes (so_far (after_end text (some ns)) []) (print_tokens ks r) ≡ all_bytes (so_far (after_end text (some (ns ++ numbers_of ks))) []) r
unfolding each numbers_of
tokens-taken text ns [] r every-[] = rw (append-nil ns)
tokens-taken text ns (k ∷ ks) r (every-∷ h hs) =
    one_token text ns k.kind k.value (print_tokens ks r) h.kind_fits h.value_fits
    ∙ (tokens-taken text (ns ++ (k.kind ∷ k.value ∷ [])) ks r hs ∙ rw (append_assoc ns (k.kind ∷ k.value ∷ []) (numbers_of ks)))
