-- Definitions that were read: where the text is not lost, the steps of every line are those of an expression, so the words that are stored are the words
-- of the book's definitions. Assumes nothing.
use Prim.Native.Nat.{ℕ, zero, suc}
use Rattle.std.specs.Prelude.{◌≡◌, Bool}
use Rattle.std.proofs.Math.Path.{refl, sym, ap}
use Rattle.std.proofs.Common.{◌∙◌, arith}
use Rattle.std.proofs.Math.Bool.{true, false}
use mathlib.Core.List.{List, [], ◌∷◌, map}
use Rattle.text.specs.Rest.{Rest, lost, left, found, size}
use Rattle.text.proofs.RestLaws.{lost≢left, must-got}
use Rattle.text.specs.Numeral.{decimal}
use Rattle.text.specs.Positional.{no_digit}
use Rattle.grammar.specs.Data.Postfix.{postfix, term_of}
use Rattle.grammar.specs.Format.Reader.{Parsed, parsed, result, remaining, Reader, opening, many, section}
use Rattle.grammar.specs.Format.ReaderLaws.{closing-got, opening-less, reading}
use Rattle.grammar.specs.Format.Expression.{expression_steps, expression}
use Rattle.grammar.specs.Format.ExpressionReads.{expression-steps}
use Rattle.grammar.specs.Format.ExpressionWas.{expression-was}
use Rattle.book.specs.declared.kind.Kind.{Kind}
use Rattle.book.specs.declared.kind.Kind.TheVariants.{Inherited, Synthesized}
use Rattle.book.specs.Layout.{put_line, store_lines}
use Rattle.book.specs.Held.{inherited_words, synthesized_words}
use Rattle.definitions.specs.Definitions.{
  Definition,
  inherited_of,
  synthesized_of,
  words_of,
  next_key,
  synthesized_defined,
  defined_by,
  definition,
  word_for,
  definitions,
}

steps_are : {r : List ℕ} (o : Rest) → remaining (expression_steps o) ≡ left r → no_digit decimal r ≡ true
    → postfix (term_of (result (expression_steps o))) ≡ result (expression_steps o)
unfolding expression result remaining
steps_are {r} o e h =
    expression-was o e λ text fits. sym (ap result (ap expression_steps text ∙ expression-steps (term_of (result (expression_steps o))) r fits h))

-- a bracket ends a number
close-ends : (r : List ℕ) → no_digit decimal (41 ∷ 10 ∷ r) ≡ true
unfolding reading
close-ends r = refl

-- the steps of a line that was read
line-steps : {r : List ℕ} (kind : Kind) (last : List ℕ) (o : Rest) → remaining (definition kind last o) ≡ left r
    → postfix (term_of (result (definition kind last o)).steps) ≡ (result (definition kind last o)).steps
unfolding definition result remaining
line-steps {r} kind last o e = must-got _ _ e λ t e₁. closing-got _ e₁ λ e₂. steps_are _ e₂ (close-ends r)

-- a book's definitions, in the words of which the lines are kept
record Kept {B : Type 0} (kind : Kind) (of : Definition → B) (words : B → List ℕ) : Type 0 where
  same_words : (last : List ℕ) (o : Rest) → postfix (term_of (result (definition kind last o)).steps) ≡ (result (definition kind last o)).steps
      → words_of (result (definition kind last o)) ≡ words (of (result (definition kind last o)))

inherited-kept : Kept Inherited inherited_of inherited_words
unfolding words_of inherited_of
inherited-kept = record { same_words = λ last o e. rw e }

synthesized-kept : Kept Synthesized synthesized_of synthesized_words
unfolding words_of synthesized_of definition defined_by synthesized_defined result
synthesized-kept = record { same_words = λ last o e. rw e }

module _ {B : Type 0} (kind : Kind) (of : Definition → B) (words : B → List ℕ) (K : Kept kind of words) where
  lines : ℕ → List ℕ → Reader (List Definition)
  lines = many (opening (word_for kind)) (definition kind) next_key

  none_found : (t : Bool) → found (opening (word_for kind) lost) ≡ t → t ≡ false
  none_found false e = refl
  none_found true e = absurd (unfold size in let z : ⊥ = omega (arith, opening-less (word_for kind) lost e) in z)

  lost-lines : (fuel : ℕ) (last : List ℕ) → remaining (lines fuel last lost) ≡ lost
  unfolding lines many remaining
  lost-lines zero last = refl
  lost-lines (suc fuel) last = rw (none_found _ refl, many)

  -- a line whose head was found, and those after it
  more-lines : (fuel : ℕ) (last : List ℕ) (o : Rest) (p : Parsed Definition) → found (opening (word_for kind) o) ≡ true
      → definition kind last (opening (word_for kind) o) ≡ p
      → lines (suc fuel) last o
      ≡ parsed (result p ∷ result (lines fuel (next_key last (result p)) (remaining p))) (remaining (lines fuel (next_key last (result p)) (remaining p)))
  unfolding lines many result remaining
  more-lines fuel last o p h e = rw (h, many) (rw e)

  one_kept : (d : Definition) (ds : List Definition) (room k : ℕ) (out : List ℕ) → words_of d ≡ words (of d)
      → store_lines words_of room (suc k) ds (put_line room k (words (of d)) out) ≡ store_lines words room (suc k) (map of ds) (put_line room k (words (of d)) out)
      → store_lines words_of room k (d ∷ ds) out ≡ store_lines words room k (map of (d ∷ ds)) out
  unfolding store_lines
  one_kept d ds room k out e f = ap (λ line. store_lines words_of room (suc k) ds (put_line room k line out)) e ∙ f

  lines-kept : {r : List ℕ} (fuel : ℕ) (last : List ℕ) (o : Rest) (room k : ℕ) (out : List ℕ) → remaining (lines fuel last o) ≡ left r
      → store_lines words_of room k (result (lines fuel last o)) out ≡ store_lines words room k (map of (result (lines fuel last o))) out
  unfolding store_lines result remaining
  lines-kept zero last o room k out e = unfold lines many in refl
  lines-kept {r} (suc fuel) last o room k out e =
      go (found (opening (word_for kind) o)) (definition kind last (opening (word_for kind) o)) refl refl (lines-kept fuel)
    where
      go : (t : Bool) (p : Parsed Definition) → found (opening (word_for kind) o) ≡ t → definition kind last (opening (word_for kind) o) ≡ p
          → ((last : List ℕ) (o : Rest) (room k : ℕ) (out : List ℕ) → remaining (lines fuel last o) ≡ left r
          → store_lines words_of room k (result (lines fuel last o)) out ≡ store_lines words room k (map of (result (lines fuel last o))) out)
          → store_lines words_of room k (result (lines (suc fuel) last o)) out ≡ store_lines words room k (map of (result (lines (suc fuel) last o))) out
      go false p h q ih = unfold lines many in rw (h, many)
      go true (parsed d lost) h q ih =
          let m = more-lines fuel last o (parsed d lost) h q in
          absurd (lost≢left (sym (lost-lines fuel (next_key last d)) ∙ (sym (ap remaining m) ∙ e)))
      go true (parsed d (left r₁)) h q ih =
          let m = more-lines fuel last o (parsed d (left r₁)) h q in
          let here : words_of d ≡ words (of d) =
          rw q at (K.same_words last (opening (word_for kind) o) (line-steps kind last (opening (word_for kind) o) (ap remaining q))) in
          let more = ih (next_key last d) (left r₁) room (suc k) (put_line room k (words (of d)) out) (sym (ap remaining m) ∙ e) in
          ap (λ p. store_lines words_of room k (result p) out) m
          ∙ (one_kept d (result (lines fuel (next_key last d) (left r₁))) room k out here more
          ∙ sym (ap (λ p. store_lines words room k (map of (result p)) out) m))

  section-kept : {r : List ℕ} (o : Rest) (room k : ℕ) (out : List ℕ) → remaining (definitions kind o) ≡ left r
      → store_lines words_of room k (result (definitions kind o)) out ≡ store_lines words room k (map of (result (definitions kind o))) out
  unfolding definitions section lines
  section-kept o room k out e = lines-kept (size o) [] o room k out e

-- the lines of a section that was read, in the words of the book's definitions
module _ {r : List ℕ} (o : Rest) (room k : ℕ) (out : List ℕ) where
  pub inherited-stored : remaining (definitions Inherited o) ≡ left r
      → store_lines words_of room k (result (definitions Inherited o)) out ≡ store_lines inherited_words room k (map inherited_of (result (definitions Inherited o))) out
  inherited-stored e = section-kept Inherited inherited_of inherited_words inherited-kept o room k out e

  pub synthesized-stored : remaining (definitions Synthesized o) ≡ left r
      → store_lines words_of room k (result (definitions Synthesized o)) out ≡ store_lines synthesized_words room k (map synthesized_of (result (definitions Synthesized o))) out
  synthesized-stored e = section-kept Synthesized synthesized_of synthesized_words synthesized-kept o room k out e
