-- `K nA` with K given, as the lines of attributes and rules have it: its definition, and what is read of it by its bytes.
-- Assumes nothing.
use Rattle.std.specs.Prelude.{ℕ, ◌+◌, ◌<◌, ◌≡◌, refl, true, ◌&&◌, List, eqb, length, get_or}
use Rattle.std.proofs.Common.{eqb-true}
use Rattle.text.specs.Class.{class_of}
use Rattle.text.specs.Rest.{rest, must}
use Rattle.text.proofs.RestLaws.{must-true}
use Rattle.text.specs.Numeral.{word_of, spelled}
use Rattle.grammar.specs.Format.Reader.{result, remaining, Reader, ◌>>=◌, ◌>>◌, decimal_number, naming}
use Rattle.grammar.specs.Automaton.TestLaws.{both_true}
use Rattle.book.specs.Sections.{Gives}
use Rattle.book.specs.Short.{Brief, naming-at}

-- a number that must be K, and the nonterminal behind it
unfoldable pub numbered : ℕ → Reader ℕ
numbered K = do
  k ← decimal_number
  must (eqb k K)
  naming (word_of "n")
  decimal_number

-- two short numbers, with a space and `n` between them
pub brief-numbered : (text : List ℕ) (at k : ℕ) {n a A next : ℕ} → Brief text at n a → a + 1 < length text
    → eqb (get_or text a 0) 32 && eqb (get_or text (a + 1) 0) 110 && eqb n k ≡ true → Brief text (a + 2) A next
    → Gives (numbered k (rest text at)) text A next
unfolding numbered result remaining spelled class_of
brief-numbered text at k {n} {a} number h e left =
    let (between, same) = both_true _ _ e in
    let (blank, letter) = both_true _ _ between in
    let first = number.reads in
    let due : must (eqb n k) (rest text a) ≡ rest text a = must-true _ _ same in
    let name : rest text (a + 2) ≡ naming (word_of "n") (rest text a) =
    naming-at text a 14 h refl (eqb-true _ _ blank) (eqb-true _ _ letter) left in
    let second = left.reads in
    record { result_is = cc; remaining_is = cc }

-- opens every definition of this module
unfoldable pub opens : Unit {0}
unfolding numbered
opens = tt
