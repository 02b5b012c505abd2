-- One lookahead: a space, the letter `t` and a number. What is answered of it, by its parts and by its bytes.
-- Assumes nothing.
use Rattle.std.specs.Prelude.{ℕ, ◌+◌, ◌<◌, ◌≤◌, ◌≡◌, true, ◌&&◌, List, eqb, length, get_or}
use Rattle.std.proofs.Common.{arith, ◌∙◌, eqb-true}
use Rattle.std.proofs.Math.Path.{refl}
use Rattle.text.specs.Class.{class_of}
use Rattle.text.specs.Rest.{rest}
use Rattle.text.proofs.RestLaws.{rest_out, rest_at}
use Rattle.text.specs.Numeral.{decimal, word_of, spelled}
use Rattle.text.specs.Reading.{Reads}
use Rattle.grammar.specs.Format.Reader.{naming}
use Rattle.grammar.specs.Format.ReaderLaws.{reading}
use Rattle.grammar.specs.Automaton.TestLaws.{both_true}
use Rattle.book.specs.Short.{Brief, naming-at}

-- the number of the lookahead at a position, and the position after it
pub record Names (text : List ℕ) (at number next : ℕ) : Type 0 where
  pub from : ℕ
  pub inside : from ≤ length text
  pub name_is : rest text from ≡ naming (word_of "t") (rest text at)
  pub number_is : Reads decimal text from number next

-- none stands there
pub record Unnamed (text : List ℕ) (at : ℕ) : Type 0 where
  pub from : ℕ
  pub outside : length text < from
  pub name_is : rest text from ≡ naming (word_of "t") (rest text at)

-- past the end there is none
pub unnamed-out : (text : List ℕ) (at : ℕ) → length text < at → Unnamed text at
unfolding reading
unnamed-out text at h = record { from = at; outside = h; name_is = rw (rest_out text at h) }

-- one that is read by its bytes, with a byte behind it
pub record Nearby (text : List ℕ) (at number next : ℕ) : Type 0 where
  pub inside : next < length text
  pub names : Names text at number next

-- a space, `t` and a short number
module _ {text : List ℕ} (at : ℕ) {number next : ℕ} (long : at + 6 ≤ length text) (brief : Brief text (at + 2) number next) where
  pub nearby-of : eqb (get_or text at 0) 32 && eqb (get_or text (at + 1) 0) 116 ≡ true → Nearby text at number next
  unfolding class_of spelled
  nearby-of e =
      let (blank, letter) = both_true _ _ e in
      record {
        inside = omega (arith, brief.near);
        names = record {
          from = at + 2;
          inside = omega arith;
          name_is = naming-at text at 20 (omega arith) refl (eqb-true _ _ blank) (eqb-true _ _ letter) brief;
          number_is = brief.reads;
        };
      }

-- before a bracket there is no other
pub unnamed-closed : (text : List ℕ) (at : ℕ) → at < length text → get_or text at 0 ≡ 41 → Unnamed text at
unfolding reading
unnamed-closed text at h e =
    record { from = length text + 1; outside = omega arith; name_is = rest_out text _ (omega arith) ∙ (rw (rest_at text at h, e)) }
