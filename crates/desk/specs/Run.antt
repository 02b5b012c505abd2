-- A run of the program. No contract can say which bytes a call of the system reads: the output is the one that belongs to some input.
-- Assumes nothing.
use Rattle.std.specs.Prelude.{ℕ, ◌≤◌, ◌≡◌, refl, List, [], ◌++◌, length, take}
use Rattle.std.proofs.Common.{◌∙◌, arith}
use Rattle.conditions.specs.Answers.{Some}
use Rattle.console.specs.declared.input.Progress.{Progress}
use Rattle.console.specs.declared.input.Progress.TheVariants.{Book}
use Rattle.console.specs.Desk.{Input, nothing_read, all_bytes, answer_to, desk_output}
use Rattle.console.specs.Holds.{Buffers, Holds}
use Rattle.console.specs.Printing.{OUTPUT_BYTES, Printed}
use Rattle.console.proofs.Stands.{stands-nothing}
use Rattle.console.proofs.Steps.{all_append}

-- the first n bytes of the output are those that belong to some input
pub record Ran (out : List ℕ) (n : ℕ) : Type 0 where
  pub within : n ≤ OUTPUT_BYTES
  pub bytes : List ℕ
  pub output_is : take n out ≡ desk_output bytes

-- what is held after some bytes
pub record Reached (text buffer : List ℕ) (p : Progress) : Type 0 where
  pub bytes : List ℕ
  pub holds : Holds p text buffer (all_bytes nothing_read bytes)

reached-nothing : (text buffer : List ℕ) → Reached text buffer (Book 0 0)
unfolding all_bytes
reached-nothing text buffer =
    record {
      bytes = [];
      holds = record { whole_lines = []; at_hand = []; input_is = refl; stands = stands-nothing text; short = omega arith };
    }

module _ {text buffer : List ℕ} {p : Progress} (r : Reached text buffer p) where
  pub reached-held : Some (Holds p text buffer)
  reached-held = (all_bytes nothing_read r.bytes, r.holds)

  reached-more : {text' buffer' : List ℕ} {p' : Progress} (more : List ℕ)
      → ((i : Input) → Holds p text buffer i → Holds p' text' buffer' (all_bytes i more)) → Reached text' buffer' p'
  reached-more more step =
      record { bytes = r.bytes ++ more; holds = rw (all_append nothing_read r.bytes more) (step (all_bytes nothing_read r.bytes) r.holds) }

  pub reached-end : {out : List ℕ} {n : ℕ} → ((i : Input) → Holds p text buffer i → Printed (answer_to i) out n) → Ran out n
  unfolding desk_output
  reached-end end =
      let printed = end (all_bytes nothing_read r.bytes) r.holds in
      record { within = printed.within; bytes = r.bytes; output_is = printed.text_is }

-- from part to part of the input, in the same buffers
pub record Running (chunk₀ text₀ buffer₀ chunk text buffer : List ℕ) (p : Progress) : Type 0 where
  pub chunk_long : length chunk ≡ length chunk₀
  pub text_long : length text ≡ length text₀
  pub buffer_long : length buffer ≡ length buffer₀
  pub reached : Reached text buffer p

pub running-start : (chunk text buffer : List ℕ) → Running chunk text buffer chunk text buffer (Book 0 0)
running-start chunk text buffer = record { chunk_long = refl; text_long = refl; buffer_long = refl; reached = reached-nothing text buffer }

module _ {chunk₀ text₀ buffer₀ chunk text buffer : List ℕ} {p : Progress} (r : Running chunk₀ text₀ buffer₀ chunk text buffer p) where
  pub running-buffers : {classes : List ℕ} → Buffers classes text₀ buffer₀ → Buffers classes text buffer
  running-buffers b =
      record {
        table_is = b.table_is;
        text_room = omega (arith, b.text_room, r.text_long);
        numbers_room = omega (arith, b.numbers_room, r.buffer_long);
      }

  pub running_more : {chunk' text' buffer' : List ℕ} {p' : Progress} (more : List ℕ) → length chunk' ≡ length chunk → length text' ≡ length text
      → length buffer' ≡ length buffer → ((i : Input) → Holds p text buffer i → Holds p' text' buffer' (all_bytes i more))
      → Running chunk₀ text₀ buffer₀ chunk' text' buffer' p'
  running_more more d e f step =
      record {
        chunk_long = d ∙ r.chunk_long;
        text_long = e ∙ r.text_long;
        buffer_long = f ∙ r.buffer_long;
        reached = reached-more r.reached more step;
      }
