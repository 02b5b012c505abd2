-- The number of a refusal (01, "Turned-back input"), and of an answer that may be one.
-- Assumes nothing.
use Rattle.std.specs.Prelude.{ℕ, ◌≡◌, Result, Ok, Err, IsErrAnd}
use Rattle.std.proofs.Common.{arith}
use Rattle.book.specs.declared.refusal.Refusal.{Refusal}
use Rattle.book.specs.declared.refusal.Refusal.TheVariants.{
  Lengths,
  Spelling,
  Limit,
  Name,
  Attribute,
  Undefined,
  Kernel,
  Go,
  Conflict,
  Formulas,
  Stored,
  RowLength,
  Tokens,
  TokenKind,
  NoMessage,
  TooMany,
  TooDeep,
}

unfoldable pub number_of : Refusal → ℕ
number_of Lengths = 1
number_of Spelling = 2
number_of Limit = 3
number_of Name = 4
number_of Attribute = 5
number_of Undefined = 6
number_of Kernel = 7
number_of Go = 8
number_of Conflict = 9
number_of Formulas = 10
number_of Stored = 11
number_of RowLength = 12
number_of Tokens = 13
number_of TokenKind = 14
number_of NoMessage = 15
number_of TooMany = 16
number_of TooDeep = 17

-- 0 where nothing is refused
unfoldable pub answer_of : {T : Type 0} → Result T Refusal → ℕ
answer_of (Ok _) = 0
answer_of (Err r) = number_of r

-- no refusal has number 0
pub number-some : (r : Refusal) → number_of r ≡ 0 → ⊥
unfolding number_of
number-some Lengths e = omega arith
number-some Spelling e = omega arith
number-some Limit e = omega arith
number-some Name e = omega arith
number-some Attribute e = omega arith
number-some Undefined e = omega arith
number-some Kernel e = omega arith
number-some Go e = omega arith
number-some Conflict e = omega arith
number-some Formulas e = omega arith
number-some Stored e = omega arith
number-some RowLength e = omega arith
number-some Tokens e = omega arith
number-some TokenKind e = omega arith
number-some NoMessage e = omega arith
number-some TooMany e = omega arith
number-some TooDeep e = omega arith

module _ {T : Type 0} {a : Result T Refusal} where
  pub answer-none : {t : T} → a ≡ Ok t → answer_of a ≡ 0
  unfolding answer_of
  answer-none e = rw e

  pub answer-some : {r : Refusal} → a ≡ Err r → answer_of a ≡ 0 → ⊥
  unfolding answer_of
  answer-some {r} e z = number-some r (rw e at z)

-- a refusal that is handed on keeps its number
pub handed_on : {T U : Type 0} (a : Result T Refusal) (b : Result U Refusal) {r : Refusal} → a ≡ Err r → IsErrAnd b (λ q. q ≡ r)
    → answer_of b ≡ answer_of a
unfolding answer_of
handed_on a (Ok _) e f = absurd f
handed_on a (Err q) e f = rw (e, f)
