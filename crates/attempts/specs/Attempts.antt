-- A message under a book whose text is read into arrays that may have no room for it (01, "Turned-back input"): what was read, and what is answered.
-- Assumes nothing.
use Rattle.std.specs.Prelude.{ℕ, ◌≤◌, ◌≡◌, refl, List, take, Option, Some, IsSome, IfSome, Result, Ok, Err}
use Rattle.std.proofs.Common.{arith}
use Rattle.grammar.specs.Data.Book.{Book as Lines}
use Rattle.grammar.specs.Evaluator.Machine.{evaluate}
use Rattle.grammar.specs.Engine.{tables_of, evaluate_words}
use Rattle.book.specs.declared.Book.{Book}
use Rattle.book.specs.declared.Room.{Room}
use Rattle.book.specs.declared.refusal.Refusal.{Refusal}
use Rattle.book.specs.declared.refusal.Refusal.TheVariants.{Stored}
use Rattle.book.specs.Rooms.{full_room}
use Rattle.conditions.specs.AskedLaws.{counted}
use Rattle.compiler.specs.declared.book_lines.BookLines.{BookLines}
use Rattle.compiler.specs.declared.tables.Tables.{Tables}
use Rattle.compiler.specs.States.{states-enough}
use Rattle.compiler.specs.Compiling.{Compiles}
use Rattle.messages.specs.Pages.{Paged}
use Rattle.messages.specs.Messages.{TakenBook, Message}
use Rattle.attempts.specs.Stored.{Found, found_none, found-book}
use Rattle.attempts.specs.Evaluations.{Passed, Asked, Answers, answers-none, answers-asked, answers-run}

-- the first n bytes of a text are those of stored words, and were compiled by arrays that had room
pub record Read (room : Room) (n : ℕ) (text : List ℕ) (compiled : Result Book Refusal) (inherited synthesized rules definitions kernels goes : List ℕ)
    (nullables reaches bounds closures table actions : List ℕ) : Type 0 where
  pub words : List ℕ
  pub found : Found words text n
  pub compiles : Compiles room (take n text) (Some compiled) inherited synthesized rules definitions kernels goes nullables reaches bounds closures
      table actions

-- the same, in the arrays that are lent
abbrev pub ReadIn : Room → ℕ → List ℕ → Result Book Refusal → BookLines → Tables → Type 0
ReadIn room n text compiled l t =
    Read room n text compiled l.inherited.now l.synthesized.now l.rules.now l.definitions.now l.kernels.now l.goes.now t.nullables.now
    t.reaches.now t.bounds.now t.closures.now t.table.now t.actions.now

-- the answer to a message under the book in such words
pub record Responds (text : List ℕ) (n : ℕ) (tokens : List ℕ) (lent : ℕ) (answer : Result ℕ Refusal) (rows : List ℕ) : Type 0 where
  pub of : (words : List ℕ) → Found words text n → Answers (evaluate_words words tokens lent) lent answer rows

-- the same where arrays have room for what the book has; where there is room for all, they have
pub record Attempts (room : Room) (text : List ℕ) (n : ℕ) (tokens : List ℕ) (lent : ℕ) (answered : Option (Result ℕ Refusal)) (rows : List ℕ) : Type 0 where
  pub all : room ≡ full_room → IsSome answered
  pub answers : IfSome answered (λ answer. Responds text n tokens lent answer rows)

module _ {room : Room} {n : ℕ} {text : List ℕ} {compiled : Result Book Refusal} {inherited synthesized rules definitions kernels goes : List ℕ}
    {nullables reaches bounds closures table actions : List ℕ}
    (R : Read room n text compiled inherited synthesized rules definitions kernels goes nullables reaches bounds closures table actions) where
  -- where it is not refused, the book is taken
  module _ {numbers : Book} (taken : compiled ≡ Ok numbers) where
    abbrev compiles_taken : Compiles room (take n text) (Some (Ok numbers)) inherited synthesized rules definitions kernels goes nullables reaches bounds
        closures table actions
    compiles_taken = rw taken at R.compiles

    pub book-taken : (b : Lines)
        × TakenBook numbers inherited synthesized rules definitions kernels goes nullables reaches bounds closures table actions b
    book-taken = let (b, q, t) = found-book R.found compiles_taken in (b, t)

    -- and has no more states than the room
    pub states-within : numbers.states ≤ room.states
    states-within =
        let (b, t) = book-taken in
        states-enough (compiles_taken.fits numbers refl)
        (omega (arith, t.ready.conditions-met.limits.states_limit.high, (counted b t.ready.numbers_are).states_are))

    module _ {tokens : List ℕ} {lent : ℕ} where
      -- the message is refused
      pub responds-asked : {refusal : Refusal} {rows : List ℕ} → Asked numbers.terminals tokens lent (Err refusal)
          → Responds text n tokens lent (Err refusal) rows
      responds-asked asked = record {
        of = λ words F.
            let (b, q, t) = found-book F compiles_taken in answers-asked words tokens lent b q (counted b t.ready.numbers_are).terminals_are asked;
      }

      -- the machine runs
      pub responds-run : {rows : List ℕ} (answer : Result ℕ Refusal) (p : Passed numbers.terminals tokens lent)
          → ((b : Lines) → TakenBook numbers inherited synthesized rules definitions kernels goes nullables reaches bounds closures table actions b
          → (m : Message numbers.terminals tokens) → Paged (evaluate b (tables_of b) m.list) answer rows)
          → Responds text n tokens lent answer rows
      responds-run answer p ran = record {
        of = λ words F.
            let (b, q, t) = found-book F compiles_taken in
            answers-run words tokens lent b q (counted b t.ready.numbers_are).terminals_are answer p (ran b t p.its_message);
      }

  -- the book is refused
  pub responds-none : {tokens : List ℕ} {lent : ℕ} {refusal : Refusal} {rows : List ℕ} → compiled ≡ Err refusal
      → Responds text n tokens lent (Err Stored) rows
  responds-none {tokens} {lent} refused = record { of = λ words F. answers-none words tokens lent (found_none F (rw refused at R.compiles)) }
