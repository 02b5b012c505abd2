-- What is known of a text that was compiled, by the three cases of the answer.
-- Assumes nothing.
use Rattle.std.specs.Prelude.{ℕ, ◌≡◌, List, Option, None, Some, Result, Ok, Err}
use Rattle.std.proofs.Common.{sym, ◌∙◌, arith}
use Rattle.grammar.specs.Refusal.{refusal}
use Rattle.book.specs.declared.Book.{Book}
use Rattle.book.specs.declared.Room.{Room}
use Rattle.book.specs.declared.refusal.Refusal.{Refusal}
use Rattle.book.specs.Counts.{counts_of}
use Rattle.book.specs.Refusals.{number_of, answer_of, number-some}
use Rattle.book.specs.Rooms.{full_room}
use Rattle.book.specs.Spelling.{Complete}
use Rattle.compiler.specs.Compiling.{Compiles}

-- where there is room for all that the limits allow, nothing is left out
pub full-complete : (numbers : Book) → Complete full_room numbers
full-complete numbers = record {
  definitions-fit = λ less. absurd (omega arith);
  kernels_fit = λ less. absurd (omega arith);
  goes_fit = λ less. absurd (omega arith);
  states-fit = λ less. absurd (omega arith);
  rules-fit = λ less. absurd (omega arith);
}

module _ {room : Room} {text : List ℕ} {compiled : Option (Result Book Refusal)} {inherited synthesized rules definitions kernels goes : List ℕ}
    {nullables reaches bounds closures table actions : List ℕ}
    (c : Compiles room text compiled inherited synthesized rules definitions kernels goes nullables reaches bounds closures table actions) where
  pub compiled-whole : room ≡ full_room → compiled ≡ None → ⊥
  compiled-whole all none = let l = c.left_out none in l.over (rw all (full-complete (counts_of l.book)))

  -- a refused text, by its number, which is not 0
  pub compiled-refused : {r : Refusal} → compiled ≡ Some (Err r) → number_of r ≡ refusal text
  unfolding answer_of
  compiled-refused {r} e = c.told (Err r) e

  pub refused-some : {r : Refusal} → compiled ≡ Some (Err r) → refusal text ≡ 0 → ⊥
  refused-some {r} e z = number-some r (compiled-refused e ∙ z)

  -- one that is taken
  pub compiled-taken : {numbers : Book} → compiled ≡ Some (Ok numbers) → refusal text ≡ 0
  unfolding answer_of
  compiled-taken {numbers} e = sym (c.told (Ok numbers) e)
