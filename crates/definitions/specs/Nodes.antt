-- What the code's nodes, operators and beginnings of expressions are in the grammar.
-- Assumes nothing.
use Rattle.std.specs.Prelude.{ℕ, ◌≡◌, List, eqb, Option, Some, None}
use Rattle.text.specs.Rest.{Rest, rest}
use Rattle.text.specs.Numeral.{word_of}
use Rattle.grammar.specs.Data.Term.{add, sub, min, max}
use Rattle.grammar.specs.Data.Book.{Place, own, at, val}
use Rattle.grammar.specs.Data.Postfix.{Step, push, load, operate, select}
use Rattle.grammar.specs.Format.Expression.{Waiting, waiting, Begun, opened, whole, either}
use Rattle.definitions.specs.declared.nodes.Operator.{Operator}
use Rattle.definitions.specs.declared.nodes.Operator.TheVariants.{Add, Sub, Min, Max, Pick}
use Rattle.definitions.specs.declared.nodes.Node.{Node}
use Rattle.definitions.specs.declared.nodes.Node.TheVariants.{Number, Own, At, Val, Operator as OfOperator}
use Rattle.definitions.specs.declared.nodes.Beginning.{Beginning}
use Rattle.definitions.specs.declared.nodes.Beginning.TheVariants.{Opens, Whole}
use Rattle.definitions.specs.declared.nodes.BeginningRead.{BeginningRead}

-- the step that closes an operator's bracket
abbrev pub operation_of : Operator → Step Place
operation_of Add = operate add
operation_of Sub = operate sub
operation_of Min = operate min
operation_of Max = operate max
operation_of Pick = select

abbrev pub step_of : Node → Step Place
step_of (Number n) = push n
step_of (Own K) = load (own K)
step_of (At J K) = load (at J K)
step_of (Val J) = load (val J)
step_of (OfOperator o) = operation_of o

-- how many operands follow the first
unfoldable pub operands_left : Operator → ℕ
operands_left Add = 1
operands_left Sub = 1
operands_left Min = 1
operands_left Max = 1
operands_left Pick = 2

abbrev pub waiting_of : Operator → Waiting
waiting_of o = waiting (operation_of o) (operands_left o)

-- the operator that a word names
unfoldable pub operator_named : ℕ → Option Operator
operator_named word =
    either (eqb word (word_of "add")) (Some Add)
    (either (eqb word (word_of "sub")) (Some Sub)
    (either (eqb word (word_of "min")) (Some Min)
    (either (eqb word (word_of "max")) (Some Max)
    (either (eqb word (word_of "pick")) (Some Pick) None))))

-- a beginning, with what is left after it
abbrev pub begun_of : Beginning → Rest → Begun
begun_of (Opens o) r = opened (waiting_of o) r
begun_of (Whole n) r = whole (step_of n) r

-- what is answered of a beginning
pub record Shows (b : Begun) (text : List ℕ) (read : BeginningRead) : Type 0 where
  pub shown_is : begun_of read.beginning (rest text read.at) ≡ b

-- opens every definition of this module
unfoldable pub opens : Unit {0}
unfolding operands_left operator_named
opens = tt
