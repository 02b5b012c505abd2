-- The two kinds of line that the desk program tells apart: the end line and a token line, as the readers of the code find them.
-- Assumes nothing.
use Rattle.std.specs.Prelude.{ℕ, ◌≤◌, ◌<◌, ◌≡◌, refl, Bool, true, false, List, [], ◌∷◌, Option, None, Some, eqb, ltb, length}
use Rattle.std.proofs.Common.{sym, ◌∙◌, ⊎_elim, arith, eq-or-lt_of_le, drop_of_length-le, eq-eqb, ne_eqb, eqb-true, ltb-true, ltb-false}
use Rattle.std.proofs.Math.Path.{ap}
use Rattle.std.proofs.Math.Option.{Option as Sought, none, some}
use Rattle.std.proofs.lemmas.Bool.{eqb-false}
use Rattle.text.specs.Class.{space, line-feed, class_of}
use Rattle.text.proofs.ClassLaws.{byte_of, marked}
use Rattle.text.specs.Rest.{Rest, lost, left, rest, mark}
use Rattle.text.proofs.RestLaws.{left_is, rest_in, rest_at, rest_out}
use Rattle.text.specs.Numeral.{decimal, word_of}
use Rattle.text.specs.Reading.{Reads}
use Rattle.sets.proofs.Operations.{same_truth}
use Rattle.grammar.specs.Automaton.LeastLaws.{same_sets-still, same_sets-self}
use Rattle.grammar.specs.Format.Printer.{Printer, ◌·◌, bytes, literal, numeral}
use Rattle.grammar.specs.Format.Ordered.{Fits}
use Rattle.grammar.specs.Format.Reader.{Parsed, parsed, result, remaining, opening, closing}
use Rattle.grammar.specs.Format.ReaderLaws.{open-got, keyword-got, closing-got, opening-got, number-got, space-got, reading, spelling}
use Rattle.grammar.specs.Format.Parse.{end_line}
use Rattle.console.specs.declared.input.Token.{Token}
use Rattle.console.specs.Desk.{is_end, token_line, spelled_by, token_of}
use Rattle.console.specs.Digits.{numeral-most}

-- Where a line ends

pub feed-is : (b : ℕ) → eqb (class_of b) line-feed ≡ eqb b 10
unfolding class_of byte_of
feed-is b = same_truth _ _
    (λ h. eq-eqb b 10 (marked b line-feed (omega arith) (eqb-true (class_of b) line-feed h)))
    (λ h. rw (eqb-true b 10 h))

-- read to the end
unfoldable pub spent : Rest → Bool
spent lost = false
spent (left []) = true
spent (left (b ∷ bs)) = false

pub spent-at : (text : List ℕ) (p : ℕ) → spent (rest text p) ≡ eqb p (length text)
unfolding spent
spent-at text p = go (eqb p (length text)) refl (ltb p (length text)) refl
  where
    go : (s : Bool) → eqb p (length text) ≡ s → (t : Bool) → ltb p (length text) ≡ t → spent (rest text p) ≡ s
    go true e t q =
        let n : p ≡ length text = eqb-true p (length text) e in
        rw (rest_in text p (omega arith), drop_of_length-le text {i = p} (omega arith))
    go false e true q = rw (rest_at text p (ltb-true p (length text) q))
    go false e false q =
        let h : length text ≤ p = ltb-false p (length text) q in
        let d : p ≡ length text → ⊥ = eqb-false p (length text) e in
        rw (rest_out text p (⊎_elim (λ n. absurd (d (sym n))) (λ n. n) (eq-or-lt_of_le h)))

spent-got : {C : Type 0} (o : Rest) → spent o ≡ true → (o ≡ left [] → C) → C
unfolding spent
spent-got lost h k = absurd (let z : ◌≡◌ {A = ℕ} 0 1 = cc in omega arith)
spent-got (left []) h k = k refl
spent-got (left (b ∷ bs)) h k = absurd (let z : ◌≡◌ {A = ℕ} 0 1 = cc in omega arith)

-- The end line

end-was : (line : List ℕ) → end_line (left line) ≡ left [] → line ≡ bytes "(end)\n"
unfolding end_line spelling
end-was line e = closing-got _ e λ e₁. keyword-got _ _ e₁ λ e₂. open-got _ e₂ λ e₃. left_is e₃

end_reads : spent (end_line (left (bytes "(end)\n"))) ≡ true
unfolding spent end_line reading
end_reads = refl

end_is : (line : List ℕ) → is_end line ≡ spent (end_line (left line))
unfolding is_end
end_is line =
    same_truth _ _
    (λ h. rw (same_sets-still line (bytes "(end)\n") h) end_reads)
    (λ h. spent-got _ h λ e. rw (end-was line e) (same_sets-self (bytes "(end)\n")))

-- the step of the code
pub end-steps : (line : List ℕ) (p : ℕ) → rest line p ≡ end_line (rest line 0) → eqb p (length line) ≡ is_end line
end-steps line p e =
    let e₀ : rest line 0 ≡ left line = rest_in line 0 (omega arith) in
    sym (spent-at line p) ∙ (ap spent (e ∙ ap end_line e₀) ∙ sym (end_is line))

-- A token line

-- the numbers of a line that is spelled right
unfoldable pub numbers_in : Option Token → Sought (List ℕ)
numbers_in None = none
numbers_in (Some t) = some (t.kind ∷ t.value ∷ [])

spelled-ended : (numbers : List ℕ) (o : Rest) → spent o ≡ true → spelled_by (parsed numbers o) ≡ some numbers
unfolding spelled_by
spelled-ended numbers o e = spent-got o e λ q. rw q

spelled-unended : (numbers : List ℕ) (o : Rest) → spent o ≡ false → spelled_by (parsed numbers o) ≡ none
unfolding spelled_by spent
spelled-unended numbers lost e = refl
spelled-unended numbers (left []) e = cc
spelled-unended numbers (left (b ∷ bs)) e = refl

-- the steps of the code
module _ {line : List ℕ} {kind p₂ p₃ value p₄ : ℕ} (p₁ p₅ : ℕ) (e₁ : rest line p₁ ≡ opening (word_of "tok") (rest line 0))
    (k : Reads decimal line p₁ kind p₂) (e₂ : rest line p₃ ≡ mark space (rest line p₂)) (v : Reads decimal line p₃ value p₄)
    (e₃ : rest line p₅ ≡ closing (rest line p₄)) where
  token-steps : token_of line ≡ spelled_by (parsed (kind ∷ value ∷ []) (rest line p₅))
  unfolding token_of token_line result remaining
  token-steps =
      let e₀ : rest line 0 ≡ left line = rest_in line 0 (omega arith) in
      let whole : token_line (left line) ≡ parsed (kind ∷ value ∷ []) (rest line p₅) = cc in
      ap spelled_by whole

  pub token-ended : p₅ ≡ length line → token_of line ≡ some (kind ∷ value ∷ [])
  token-ended e = token-steps ∙ spelled-ended _ _ (spent-at line p₅ ∙ eq-eqb p₅ (length line) e)

  pub token-unended : (p₅ ≡ length line → ⊥) → token_of line ≡ none
  token-unended e = token-steps ∙ spelled-unended _ _ (spent-at line p₅ ∙ ne_eqb p₅ (length line) e)

-- a token line as it is printed
unfoldable pub print_token : ℕ → ℕ → Printer
print_token kind value = literal "(tok " · numeral kind · literal " " · numeral value · literal ")\n"

-- a line that spells a token was printed so
token-was : {C : Type 0} {r : List ℕ} (line : List ℕ) → remaining (token_line (left line)) ≡ left r
    → ((kind value : ℕ) → result (token_line (left line)) ≡ kind ∷ value ∷ [] → line ≡ print_token kind value r → Fits kind → Fits value → C) → C
unfolding token_line result remaining print_token spelling
token-was line e k =
    closing-got _ e λ e₁. number-got _ e₁ λ e₂ v. space-got _ e₂ λ e₃. number-got _ e₃ λ e₄ n. opening-got _ _ e₄ λ e₅.
    k _ _ refl (left_is e₅) n v

spelled-got : {C : Type 0} {numbers : List ℕ} (p : Parsed (List ℕ)) → spelled_by p ≡ some numbers → (result p ≡ numbers → remaining p ≡ left [] → C) → C
unfolding spelled_by result remaining
spelled-got (parsed ns lost) e k = absurd (let z : ◌≡◌ {A = ℕ} 0 1 = cc in omega arith)
spelled-got (parsed ns (left [])) e k = k (cc) refl
spelled-got (parsed ns (left (b ∷ bs))) e k = absurd (let z : ◌≡◌ {A = ℕ} 0 1 = cc in omega arith)

pub token-got : {C : Type 0} {numbers : List ℕ} (line : List ℕ) → token_of line ≡ some numbers
    → ((kind value : ℕ) → numbers ≡ kind ∷ value ∷ [] → line ≡ print_token kind value [] → Fits kind → Fits value → C) → C
unfolding token_of
token-got line e k = spelled-got (token_line (left line)) e λ q z. token-was line z λ kind value n w f g. k kind value (sym q ∙ n) w f g

-- `(tok `, a space, `)` and the line feed, and twice up to ten digits
abbrev pub TOKEN_BYTES : ℕ
TOKEN_BYTES = 28

printed-length : (kind value : ℕ) → Fits kind → Fits value → length (print_token kind value []) ≤ TOKEN_BYTES
unfolding print_token bytes literal
printed-length kind value f g =
    omega (
      arith,
      numeral-most kind (omega arith) (32 ∷ numeral value (41 ∷ 10 ∷ [])),
      numeral-most value (omega arith) (41 ∷ 10 ∷ []),
    )

pub long-token : (line : List ℕ) → TOKEN_BYTES < length line → token_of line ≡ none
long-token line h = go (token_of line) refl
  where
    go : (o : Sought (List ℕ)) → token_of line ≡ o → o ≡ none
    go none e = refl
    go (some ns) e = token-got line e λ kind value n w f g. absurd (omega (arith, ap length w, printed-length kind value f g))
