-- Lines of definitions in code: the words of one line, and what the loop over them keeps true. The lines stand in the array from place `first` on.
-- Assumes nothing.
use Rattle.std.specs.Prelude.{ℕ, suc, ◌+◌, ◌*◌, ◌≤◌, ◌<◌, ◌≡◌, refl, Bool, set, replicate}
use Rattle.std.proofs.Common.{sym, ◌∙◌, arith}
use Rattle.std.proofs.Math.Path.{ap}
use mathlib.Core.List.{List, [], ◌∷◌}
use Rattle.std.proofs.Math.ListN.{length}
use Rattle.text.specs.Class.{space}
use Rattle.text.specs.Rest.{Rest, rest, must, mark, size}
use Rattle.text.specs.Numeral.{decimal, word_of}
use Rattle.text.specs.Reading.{Reads}
use Rattle.grammar.specs.Format.Reader.{Parsed, result, remaining, opening, closing, naming}
use Rattle.grammar.specs.Format.ReaderLaws.{shrinking, opening-less}
use Rattle.grammar.specs.Format.Expression.{expression_steps}
use Rattle.grammar.specs.Format.ExpressionReads.{steps-size}
use Rattle.grammar.specs.Format.Parse.{is_before}
use Rattle.book.specs.declared.kind.Kind.{Kind}
use Rattle.book.specs.declared.kind.Kind.TheVariants.{Inherited, Synthesized}
use Rattle.book.specs.declared.order.Key.{Key}
use Rattle.book.specs.Layout.{definition_words, put_line, store_lines}
use Rattle.book.specs.LayoutLaws.{length-put, put-out}
use Rattle.book.specs.Sections.{Gives, Puts, Shrinks, size-section, Reading, keep_from, reading-start, reading-less, reading-turn, reading-done}
use Rattle.definitions.specs.Expressions.{DEFINITION_WORDS}
use Rattle.definitions.specs.ExpressionsLoop.{Expresses}
use Rattle.definitions.specs.Definitions.{Defined, Definition, words_of, ascending, next_key, inherited_defined, synthesized_defined, defined_by}
use Rattle.definitions.specs.Definitions.{definition, word_for, definitions}
use Rattle.definitions.specs.DefinitionsLine.{line_made, line_back, line-in-place}

-- what a line defines, as the code holds it
abbrev pub defined_of : Key → Defined
defined_of k = record { rule = k.first; position = k.second; attribute = k.third }

-- One line

module _ {text : List ℕ} {at P K p₁ p₂ : ℕ} where
  pub inherited-names : {J p₃ : ℕ} (a b : ℕ) → Reads decimal text at P p₁ → rest text a ≡ mark space (rest text p₁) → Reads decimal text a J p₂
      → rest text b ≡ naming (word_of "i") (rest text p₂) → Reads decimal text b K p₃
      → Gives (defined_by Inherited (rest text at)) text (record { rule = P; position = J; attribute = K }) p₃
  unfolding defined_by inherited_defined result remaining
  inherited-names a b r₁ e r₂ f r₃ = record { result_is = cc; remaining_is = cc }

  pub synthesized-names : (a : ℕ) → Reads decimal text at P p₁ → rest text a ≡ naming (word_of "s") (rest text p₁) → Reads decimal text a K p₂
      → Gives (defined_by Synthesized (rest text at)) text (record { rule = P; position = 0; attribute = K }) p₂
  unfolding defined_by synthesized_defined result remaining
  synthesized-names a r₁ e r₂ = record { result_is = cc; remaining_is = cc }

-- the words of a line, and the position after it
pub record Worded (d : Defined) (o : Rest) (text : List ℕ) (next : ℕ) (line : List ℕ) : Type 0 where
  pub remaining_is : rest text next ≡ closing (remaining (expression_steps (mark space o)))
  pub words_is : line ≡ definition_words d.rule d.position d.attribute (result (expression_steps (mark space o)))

pub worded : {text line₀ line : List ℕ} {d : Defined} {o : Rest} {n next done : ℕ} (a : ℕ) → rest text a ≡ mark space o
    → Expresses (expression_steps (rest text a)) text line₀ n next line → line₀ ≡ replicate DEFINITION_WORDS 0 → rest text done ≡ closing (rest text next)
    → Worded d o text done (set (set (set (set line 0 d.rule) 1 d.position) 2 d.attribute) 3 n)
worded {line = line} {d = d} {n = n} a e x z f =
    record {
      remaining_is = rw (f, x.remaining_is, e);
      words_is = rw (← e) (line_made d.rule d.position d.attribute n _ line (x.line_is ∙ rw z) x.count_is);
    }

-- the words of a line at its place, where there is room for it, and the position after it
pub record Stores (d : Defined) (o : Rest) (room place : ℕ) (text out₀ : List ℕ) (next : ℕ) (out : List ℕ) : Type 0 where
  pub line : List ℕ
  pub worded : Worded d o text next line
  pub array_is : out ≡ put_line room place line out₀

module _ {text line out : List ℕ} {d : Defined} {o : Rest} {next room place : ℕ} (w : Worded d o text next line) where
  -- written in its part of the array
  pub stores-in : place < room → room * DEFINITION_WORDS ≤ length out → length line ≡ DEFINITION_WORDS
      → Stores d o room place text out next (line_back place line out)
  stores-in h fits long = record { line = line; worded = w; array_is = line-in-place room place line out h fits long }

  -- not kept
  pub stores-out : room ≤ place → Stores d o room place text out next out
  stores-out h = record { line = line; worded = w; array_is = sym (put-out room place line out h) }

-- a line read and kept: what it defines, the position after it, and the array
pub record Keeps (p : Parsed Definition) (room place : ℕ) (text out₀ : List ℕ) (d : Defined) (next : ℕ) (out : List ℕ) : Type 0 where
  pub defined_is : d ≡ (result p).defined
  pub puts : Puts words_of room place p text out₀ next out

pub line_kept : {text out₀ out : List ℕ} {d : Defined} {p₁ p₂ p₃ room place : ℕ} (kind : Kind) (fine : Bool) (last : List ℕ) (at : ℕ)
    → Gives (defined_by kind (rest text at)) text d p₁
    → Stores d (rest text p₁) room place text out₀ p₂ out → fine ≡ is_before last (ascending d)
    → rest text p₃ ≡ must fine (rest text p₂) → Keeps (definition kind last (rest text at)) room place text out₀ d p₃ out
unfolding definition words_of result remaining
line_kept kind fine last at g s b r =
    record {
      defined_is = g.result_is;
      puts = record { remaining_is = cc; array_is = cc };
    }

-- The loop

most-steps : (m : ℕ) (o : Rest) → size o ≤ m → size (remaining (expression_steps o)) ≤ m
most-steps m o h = omega (arith, steps-size o)

most-defined : (m : ℕ) (o : Rest) → size o ≤ m → (kind : Kind) → size (remaining (defined_by kind o)) ≤ m
unfolding defined_by inherited_defined synthesized_defined remaining
most-defined m o h Inherited = search shrinking depth 20
most-defined m o h Synthesized = search shrinking depth 20

definition-shrinks : (kind : Kind) → Shrinks (opening (word_for kind)) (definition kind)
unfolding definition remaining
definition-shrinks kind =
    record { head_less = opening-less (word_for kind); one_less = λ last o. search (shrinking, most-steps, most-defined) depth 20 }

pub definitions-size : (kind : Kind) (o : Rest) → size (remaining (definitions kind o)) ≤ size o
unfolding definitions
definitions-size kind o = size-section (opening (word_for kind)) (definition kind) next_key (definition-shrinks kind) [] o

-- line k at its place
unfoldable pub keep_first : ℕ → ℕ → ℕ → Definition → List ℕ → List ℕ
keep_first room first k d out = put_line room (first + k) (words_of d) out

kept-first : (room first k : ℕ) (ds : List Definition) (out : List ℕ)
    → keep_from (keep_first room first) k ds out ≡ store_lines words_of room (first + k) ds out
unfolding keep_from keep_first store_lines
kept-first room first k [] out = refl
kept-first room first k (d ∷ ds) out =
    let e : suc (first + k) ≡ first + suc k = omega arith in
    rw e (kept-first room first (suc k) ds (put_line room (first + k) (words_of d) out))

-- a whole section: the position after it, the number of its lines, and the array that holds them
pub record Defines (p : Parsed (List Definition)) (room first : ℕ) (text out₀ : List ℕ) (count next : ℕ) (out : List ℕ) : Type 0 where
  pub remaining_is : rest text next ≡ remaining p
  pub count_is : count ≡ length (result p)
  pub count_fits : count ≤ length text + 1
  pub array_is : out ≡ store_lines words_of room first (result p) out₀

-- amid a section: the line before has the key `last`
pub record Defining (kind : Kind) (room first : ℕ) (text : List ℕ) (start : Parsed (List Definition)) (out₀ last : List ℕ) (k at : ℕ) (out : List ℕ)
    : Type 0 where
  pub same_length : length out ≡ length out₀
  pub reading : Reading (opening (word_for kind)) (definition kind) next_key (keep_first room first)
      text start out₀ last k at out

module _ (kind : Kind) (room first : ℕ) (text : List ℕ) where
  pub defining-start : (at : ℕ) (out : List ℕ) → Defining kind room first text (definitions kind (rest text at)) out [] 0 at out
  unfolding definitions
  defining-start at out =
      record {
        same_length = refl;
        reading = reading-start (opening (word_for kind)) (definition kind) next_key (keep_first room first) (definition-shrinks kind) text [] at out;
      }

  module _ {start : Parsed (List Definition)} {out₀ out last : List ℕ} {k at a : ℕ} (r : Defining kind room first text start out₀ last k at out)
      (e : rest text a ≡ opening (word_for kind) (rest text at)) where
    pub defining-done : length text < a → Defines start room first text out₀ k at out
    defining-done h =
        let g = reading-done (opening (word_for kind)) (definition kind) next_key (keep_first room first) (definition-shrinks kind) text
        r.reading e h in
        let z : first + 0 ≡ first = omega arith in
        record {
          remaining_is = g.remaining_is;
          count_is = g.count_is;
          count_fits = omega (arith, r.reading.counted);
          array_is = g.kept_is ∙ (kept-first room first 0 (result start) out₀ ∙ rw z);
        }

    module _ {d : Defined} {at' : ℕ} {out' : List ℕ} (h : a ≤ length text)
        (l : Keeps (definition kind last (rest text a)) room (first + k) text out d at' out') where
      pub defining-less : size (rest text at') < size (rest text at)
      defining-less =
          reading-less (opening (word_for kind)) (definition kind) next_key (keep_first room first) (definition-shrinks kind) text
          r.reading e h l.puts.remaining_is

      pub defining-turn : Defining kind room first text start out₀ (ascending d) (k + 1) at' out'
      unfolding keep_first
      defining-turn =
          record {
            same_length =
                ap length l.puts.array_is
                ∙ (length-put room (first + k) (words_of (result (definition kind last (rest text a)))) out ∙ r.same_length);
            reading =
                reading-turn (opening (word_for kind)) (definition kind) next_key (keep_first room first) (definition-shrinks kind) text
                r.reading e h l.puts.remaining_is (ap ascending l.defined_is) l.puts.array_is;
          }

-- opens every definition of this module
unfoldable pub opens : Unit {0}
unfolding keep_first
opens = tt
