-- What the code keeps of the input so far: the text of the book and the line at hand in one buffer, the tokens' numbers in another.
-- Assumes nothing.
use Rattle.std.specs.Prelude.{ℕ, ◌+◌, ◌≤◌, ◌≡◌, List, length}
use Rattle.std.proofs.Math.Option.{some}
use Rattle.text.specs.Table.{table}
use Rattle.book.specs.declared.refusal.Refusal.{Refusal}
use Rattle.book.specs.Refusals.{number_of}
use Rattle.grammar.specs.Limits.{MAX_TEXT}
use Rattle.console.specs.declared.input.Progress.{Progress}
use Rattle.console.specs.declared.input.Progress.TheVariants.{Book, Tokens, Refused}
use Rattle.console.specs.Desk.{Input, so_far, before_end, after_end}
use Rattle.console.specs.Kept.{KEPT_NUMBERS, Kept}
use Rattle.console.specs.Lines.{TOKEN_BYTES}
use Rattle.console.specs.Settled.{Settled}
use Rattle.console.specs.Stands.{Stands}

-- a book's text and a token line
abbrev pub TEXT_ROOM : ℕ
TEXT_ROOM = 65564

-- the table of classes, and buffers that have room
pub record Buffers (classes text numbers : List ℕ) : Type 0 where
  pub table_is : classes ≡ table
  pub text_room : TEXT_ROOM ≤ length text
  pub numbers_room : KEPT_NUMBERS ≤ length numbers

pub record HoldsBook (text : List ℕ) (line at : ℕ) (i : Input) : Type 0 where
  pub whole_lines : List ℕ
  pub at_hand : List ℕ
  pub input_is : i ≡ so_far (before_end whole_lines) at_hand
  pub stands : Stands text whole_lines at_hand line at
  pub short : at ≤ MAX_TEXT

pub record HoldsTokens (text buffer : List ℕ) (book at count : ℕ) (i : Input) : Type 0 where
  pub its_text : List ℕ
  pub numbers : List ℕ
  pub at_hand : List ℕ
  pub input_is : i ≡ so_far (after_end its_text (some numbers)) at_hand
  pub stands : Stands text its_text at_hand book at
  pub short : book ≤ MAX_TEXT
  pub line_short : at ≤ book + TOKEN_BYTES
  pub kept : Kept buffer count numbers

abbrev pub Holds : Progress → (text buffer : List ℕ) → Input → Type 0
Holds (Book line at) text buffer i = HoldsBook text line at i
Holds (Tokens book at count) text buffer i = HoldsTokens text buffer book at count i
Holds (Refused refusal) text buffer i = Settled (number_of refusal) i

-- where the variant is known

module _ (text buffer : List ℕ) (i : Input) {p : Progress} where
  pub held-book : {line at : ℕ} → p ≡ Book line at → Holds p text buffer i → HoldsBook text line at i
  held-book e h = rw e at h

  pub held-refused : {refusal : Refusal} → p ≡ Refused refusal → Holds p text buffer i → Settled (number_of refusal) i
  held-refused e h = rw e at h
