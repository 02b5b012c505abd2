-- Bytes of the input taken one after another: what is held of some input is afterwards held of that input with these bytes after it.
-- Assumes nothing.
use Rattle.std.specs.Prelude.{ℕ, ◌+◌, ◌≤◌, ◌<◌, ◌≡◌, refl, List, [], ◌∷◌, length, get_or, take}
use Rattle.std.proofs.Common.{◌∙◌, arith, add-one, take_all}
use Rattle.std.proofs.Math.Seq.{take-suc}
use Rattle.conditions.specs.Answers.{Some}
use Rattle.console.specs.declared.input.Progress.{Progress}
use Rattle.console.specs.Desk.{Input, one_byte, all_bytes}
use Rattle.console.specs.Holds.{Buffers, Holds}
use Rattle.console.proofs.Steps.{all_append}
use Rattle.console.specs.Taking.{Taking}

module _ (bytes text₀ buffer₀ : List ℕ) (p₀ : Progress) where
  pub taking-start : Taking bytes text₀ buffer₀ p₀ 0 text₀ buffer₀ p₀
  unfolding all_bytes
  taking-start = record { within = omega arith; text_long = refl; buffer_long = refl; holds = λ i h. h }

  module _ {k : ℕ} {text buffer : List ℕ} {p : Progress} (t : Taking bytes text₀ buffer₀ p₀ k text buffer p) where
    -- what the next step asks for
    pub taking-held : Some (Holds p₀ text₀ buffer₀) → Some (Holds p text buffer)
    taking-held (i, h) = (all_bytes i (take k bytes), t.holds i h)

    pub taking-buffers : {classes : List ℕ} → Buffers classes text₀ buffer₀ → Buffers classes text buffer
    taking-buffers b =
        record {
          table_is = b.table_is;
          text_room = omega (arith, b.text_room, t.text_long);
          numbers_room = omega (arith, b.numbers_room, t.buffer_long);
        }

    pub taking-turn : {text' buffer' : List ℕ} {p' : Progress} → k < length bytes → length text' ≡ length text → length buffer' ≡ length buffer
        → ((i : Input) → Holds p text buffer i → Holds p' text' buffer' (one_byte i (get_or bytes k 0)))
        → Taking bytes text₀ buffer₀ p₀ (k + 1) text' buffer' p'
    unfolding all_bytes
    taking-turn {text'} {buffer'} {p'} l e f step =
        record {
          within = omega arith;
          text_long = e ∙ t.text_long;
          buffer_long = f ∙ t.buffer_long;
          holds = λ i h.
              let more : all_bytes i (take (k + 1) bytes) ≡ one_byte (all_bytes i (take k bytes)) (get_or bytes k 0) =
              rw (add-one k, take-suc bytes k 0 l) (all_append i (take k bytes) (get_or bytes k 0 ∷ [])) in
              rw more (step (all_bytes i (take k bytes)) (t.holds i h));
        }

    pub taking-end : length bytes ≤ k → (i : Input) → Holds p₀ text₀ buffer₀ i → Holds p text buffer (all_bytes i bytes)
    taking-end l i h = rw (take_all k bytes l) at (t.holds i h)
