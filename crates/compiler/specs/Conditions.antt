-- The first of conditions 3 to 6 that applies to a book, and what is known of a book to which none does.
-- Assumes nothing.
use Rattle.std.specs.Prelude.{ℕ, ◌≡◌, refl, Bool, true, false, ◌&&◌, List}
use Rattle.std.proofs.Common.{sym, ap, ◌∙◌, arith}
use Rattle.grammar.specs.Data.Book.{Book as Lines}
use Rattle.grammar.specs.Format.Ordered.{Ordered}
use Rattle.grammar.specs.Conditions.Meaning.{WithinLimits, Declared, Owned, Defined}
use Rattle.grammar.specs.Conditions.Tests.{within_limits, declared, owned, defined}
use Rattle.grammar.specs.Conditions.TestsLaws.{within_limits-decides, declared-decides, owned-decides, defined-decides}
use Rattle.book.specs.declared.Book.{Book}
use Rattle.book.specs.Counts.{counts_of}
use Rattle.book.specs.Held.{Held, kept}
use Rattle.conditions.specs.Asked.{Kept, Within, DefinitionsOf, NamedBook, OwnedBook}
use Rattle.conditions.specs.AskedLaws.{kept-book, within-book, definitions-of, named-book, owned-book}
use Rattle.std.proofs.lemmas.Bool.{and_parts}
use Rattle.conditions.specs.DeclaredTests.{names_declared, definitions_declared}
use Rattle.conditions.specs.DeclaredLaws.{declared-parts}
use Rattle.conditions.specs.SoundTests.{definitions_sound}

-- the numbers of a book that is spelled right, and its lines in arrays, as far as there is room
pub record BookKept (numbers : Book) (inherited synthesized rules definitions kernels goes : List ℕ) (b : Lines) : Type 0 where
  pub numbers_are : numbers ≡ counts_of b
  pub ordered : Ordered b
  pub arrays_in : Held (kept b) inherited synthesized rules definitions kernels goes

-- ---- names, then definitions, make 4 and 5

module _ (b : Lines) where
  pub names-missing : names_declared b ≡ false → declared b ≡ false
  names-missing n = sym (declared-parts b) ∙ ap (λ (t : Bool). t && definitions_declared b) n

  names-there : names_declared b ≡ true → declared b ≡ definitions_declared b
  names-there n = sym (declared-parts b) ∙ ap (λ (t : Bool). t && definitions_declared b) n

  pub sound-declared : names_declared b ≡ true → definitions_sound b ≡ true → declared b ≡ true
  unfolding definitions_sound
  sound-declared n s = names-there n ∙ (and_parts (definitions_declared b) (owned b) s).0

  pub sound-owned : definitions_sound b ≡ true → owned b ≡ true
  unfolding definitions_sound
  sound-owned s = (and_parts (definitions_declared b) (owned b) s).1

-- ---- what the conditions ask

module _ {numbers : Book} {inherited synthesized rules definitions kernels goes : List ℕ} {b : Lines}
    (h : BookKept numbers inherited synthesized rules definitions kernels goes b) where
  pub asked-limits : Kept numbers inherited synthesized rules definitions kernels b
  asked-limits = kept-book h.numbers_are h.ordered h.arrays_in

  module _ (w : within_limits b ≡ true) where
    pub asked-names : Within numbers inherited synthesized rules definitions kernels goes b
    asked-names = within-book h.numbers_are h.ordered h.arrays_in w

    pub asked-lines : DefinitionsOf numbers rules definitions b
    asked-lines = definitions-of asked-names

    module _ (n : names_declared b ≡ true) where
      pub asked-sound : NamedBook numbers inherited synthesized rules definitions b
      asked-sound = named-book asked-names n

      pub asked-definitions : definitions_sound b ≡ true → OwnedBook numbers inherited synthesized rules b
      asked-definitions s = owned-book asked-names n (sound-declared b n s) (sound-owned b s)

-- ---- the first that applies, or 0

unfoldable pub conditions_refusal : Lines → ℕ
conditions_refusal b =
    elim (within_limits b) [
      | false ↦ 3
      | true ↦ elim (declared b) [ false ↦ 4 | true ↦ elim (owned b) [ false ↦ 5 | true ↦ elim (defined b) [ false ↦ 6 | true ↦ 0 ] ] ]
    ]

module _ (b : Lines) where
  pub limits-refused : within_limits b ≡ false → conditions_refusal b ≡ 3
  unfolding conditions_refusal
  limits-refused e = rw (e, conditions_refusal)

  module _ (w : within_limits b ≡ true) where
    pub names-refused : declared b ≡ false → conditions_refusal b ≡ 4
    unfolding conditions_refusal
    names-refused e = rw (w, e, conditions_refusal)

    module _ (d : declared b ≡ true) where
      pub attributes-refused : owned b ≡ false → conditions_refusal b ≡ 5
      unfolding conditions_refusal
      attributes-refused e = rw (w, d, e, conditions_refusal)

      module _ (o : owned b ≡ true) where
        pub definitions-refused : defined b ≡ false → conditions_refusal b ≡ 6
        unfolding conditions_refusal
        definitions-refused e = rw (w, d, o, e, conditions_refusal)

        pub conditions-met : defined b ≡ true → conditions_refusal b ≡ 0
        unfolding conditions_refusal
        conditions-met e = rw (w, d, o, e, conditions_refusal)

-- which of 4 and 5 applies to definitions to which one does
unfoldable pub definitions_refusal : Lines → ℕ
definitions_refusal b = elim (definitions_declared b) [ false ↦ 4 | true ↦ 5 ]

module _ (b : Lines) where
  pub refused-undeclared : definitions_declared b ≡ false → definitions_refusal b ≡ 4
  unfolding definitions_refusal
  refused-undeclared e = rw (e, definitions_refusal)

  pub refused-declared : definitions_declared b ≡ true → definitions_refusal b ≡ 5
  unfolding definitions_refusal
  refused-declared e = rw (e, definitions_refusal)

pub sound-refused : (b : Lines) → within_limits b ≡ true → names_declared b ≡ true → definitions_sound b ≡ false → conditions_refusal b ≡ definitions_refusal b
unfolding definitions_sound
sound-refused b w n s = go (definitions_declared b) refl
  where
    go : (t : Bool) → definitions_declared b ≡ t → conditions_refusal b ≡ definitions_refusal b
    go false e = names-refused b w (names-there b n ∙ e) ∙ sym (refused-undeclared b e)
    go true e = attributes-refused b w (names-there b n ∙ e) (sym (ap (λ (t : Bool). t && owned b) e) ∙ s) ∙ sym (refused-declared b e)

-- ---- a book that meets them all

pub record Met (b : Lines) : Type 0 where
  pub limits : WithinLimits b
  pub names : Declared b
  pub attributes : Owned b
  pub definitions : Defined b

pub met : (b : Lines) → conditions_refusal b ≡ 0 → Met b
met b z = go (within_limits b) refl (declared b) refl (owned b) refl (defined b) refl
  where
    go : (w : Bool) → within_limits b ≡ w → (d : Bool) → declared b ≡ d → (o : Bool) → owned b ≡ o → (f : Bool) → defined b ≡ f → Met b
    go false w d _ o _ f _ = absurd (omega (arith, sym (limits-refused b w) ∙ z))
    go true w false d o _ f _ = absurd (omega (arith, sym (names-refused b w d) ∙ z))
    go true w true d false o f _ = absurd (omega (arith, sym (attributes-refused b w d o) ∙ z))
    go true w true d true o false f = absurd (omega (arith, sym (definitions-refused b w d o f) ∙ z))
    go true w true d true o true f = record {
      limits = (within_limits-decides b).sound w;
      names = (declared-decides b).sound d;
      attributes = (owned-decides b).sound o;
      definitions = (defined-decides b).sound f;
    }

-- opens every definition of this module
unfoldable pub opens : Unit {0}
unfolding conditions_refusal definitions_refusal
opens = tt
