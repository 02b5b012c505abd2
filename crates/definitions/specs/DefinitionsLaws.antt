-- Laws of the lines of definitions: a book's definitions are these lines with the expression that their steps build, and nothing else differs.
-- Assumes nothing.
use Prim.Native.Nat.{ℕ, zero, suc}
use Rattle.std.specs.Prelude.{◌≡◌, Bool, List, [], ◌∷◌, map}
use Rattle.std.proofs.Math.Path.{refl}
use Rattle.std.proofs.Math.Bool.{true, false}
use Rattle.text.specs.Rest.{Rest, found, size}
use Rattle.grammar.specs.Format.Ordered.{inherited_key, synthesized_key}
use Rattle.grammar.specs.Format.Reader.{parsed, result, remaining, Reader, opening, many, section}
use Rattle.grammar.specs.Format.Expression.{expression}
use Rattle.grammar.specs.Format.Parse.{is_before, inherited_definition_line, synthesized_definition_line, inherited_definition_lines, synthesized_definition_lines}
use Rattle.book.specs.declared.kind.Kind.TheVariants.{Inherited, Synthesized}
use Rattle.definitions.specs.Definitions.{inherited_of, synthesized_of, ascending, next_key, inherited_defined, synthesized_defined, defined_by}
use Rattle.definitions.specs.Definitions.{definition, word_for, definitions}

-- Sections of lines that correspond

-- two readers of lines, from corresponding states: they leave the same, read corresponding items, and go on in corresponding states
pub record Same {A B S T : Type 0} (f : A → B) (R : S → T → Type 0) (one : S → Reader A) (next : S → A → S) (other : T → Reader B) (then : T → B → T)
    : Type 0 where
  pub same-remaining : (s : S) (t : T) → R s t → (o : Rest) → remaining (other t o) ≡ remaining (one s o)
  pub same-result : (s : S) (t : T) → R s t → (o : Rest) → result (other t o) ≡ f (result (one s o))
  pub same_next : (s : S) (t : T) → R s t → (o : Rest) → R (next s (result (one s o))) (then t (result (other t o)))

module _ {A B S T : Type 0} (head : Rest → Rest) (f : A → B) (R : S → T → Type 0) (one : S → Reader A) (next : S → A → S)
    (other : T → Reader B) (then : T → B → T) (same : Same f R one next other then) where
  many-map : (fuel : ℕ) (s : S) (t : T) → R s t → (o : Rest)
      → many head other then fuel t o ≡ parsed (map f (result (many head one next fuel s o))) (remaining (many head one next fuel s o))
  unfolding many result remaining
  many-map zero s t r o = refl
  many-map (suc fuel) s t r o = go (found (head o)) refl (many-map fuel)
    where
      go : (b : Bool) → found (head o) ≡ b
          → ((s : S) (t : T) → R s t → (o : Rest)
          → many head other then fuel t o ≡ parsed (map f (result (many head one next fuel s o))) (remaining (many head one next fuel s o)))
          → many head other then (suc fuel) t o ≡ parsed (map f (result (many head one next (suc fuel) s o))) (remaining (many head one next (suc fuel) s o))
      go false h ih = rw (h, many)
      go true h ih =
          let m = ih (next s (result (one s (head o)))) (then t (result (other t (head o)))) (same.same_next s t r (head o)) (remaining (one s (head o))) in
          rw (h, many) (rw (same.same-remaining s t r (head o)) (rw m (rw (same.same-result s t r (head o)))))

  pub section-map : (s : S) (t : T) → R s t → (o : Rest)
      → section head other then t o ≡ parsed (map f (result (section head one next s o))) (remaining (section head one next s o))
  unfolding section
  section-map s t r o = many-map (size o) s t r o

-- The definitions of a book

-- keys that say the same: of inherited attributes they are equal, of synthesized ones the position is left out
data SameKey : List ℕ → List ℕ → Type 0 where
  no_key : SameKey [] []
  same_key : {P K : ℕ} → SameKey (P ∷ 0 ∷ K ∷ []) (P ∷ K ∷ [])

before_same : (last other : List ℕ) (P K : ℕ) → SameKey last other → is_before other (P ∷ K ∷ []) ≡ is_before last (P ∷ 0 ∷ K ∷ [])
unfolding is_before
before_same last other P K no_key = refl
before_same last other P K same_key = refl

inherited-same : Same inherited_of (λ (s t : List ℕ). s ≡ t) (definition Inherited) next_key inherited_definition_line (λ last. inherited_key)
unfolding definition defined_by inherited_defined inherited_definition_line inherited_of ascending inherited_key expression result remaining
inherited-same =
    record {
      same-remaining = λ s t r o. rw r;
      same-result = λ s t r o. refl;
      same_next = λ s t r o. refl;
    }

synthesized-same : Same synthesized_of SameKey (definition Synthesized) next_key synthesized_definition_line (λ last. synthesized_key)
unfolding definition defined_by synthesized_defined synthesized_definition_line synthesized_of ascending synthesized_key expression result remaining
synthesized-same =
    record {
      same-remaining = λ s t r o. rw (before_same s t _ _ r);
      same-result = λ s t r o. refl;
      same_next = λ s t r o. same_key;
    }

pub inherited-lines : (o : Rest) → inherited_definition_lines o ≡ parsed (map inherited_of (result (definitions Inherited o))) (remaining (definitions Inherited o))
unfolding inherited_definition_lines definitions
inherited-lines o =
    section-map (opening (word_for Inherited)) inherited_of _ (definition Inherited) next_key inherited_definition_line (λ last. inherited_key) inherited-same [] [] refl o

pub synthesized-lines : (o : Rest) → synthesized_definition_lines o ≡ parsed (map synthesized_of (result (definitions Synthesized o))) (remaining (definitions Synthesized o))
unfolding synthesized_definition_lines definitions
synthesized-lines o =
    section-map (opening (word_for Synthesized)) synthesized_of _ (definition Synthesized) next_key synthesized_definition_line (λ last. synthesized_key) synthesized-same [] []
    no_key o
