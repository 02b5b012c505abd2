-- What is left of a text after a front part was read, and the readers of one byte. A text that is misspelt is lost, and stays lost.
-- Assumes nothing.
use Rattle.std.specs.Prelude.{ℕ, suc, Bool, true, false, List, [], ◌∷◌, leb, eqb, length, drop}
use Rattle.text.specs.Class.{class_of}

pub data Rest : Type 0 where
  lost : Rest
  left : List ℕ → Rest

-- what stands at a position: one past the end says that the text is misspelt
unfoldable pub rest : List ℕ → ℕ → Rest
rest text at = elim (leb at (length text)) [ true ↦ left (drop at text) | false ↦ lost ]

-- whether reading goes on
unfoldable pub found : Rest → Bool
found lost = false
found (left bs) = true

-- lost unless the test holds
unfoldable pub must : Bool → Rest → Rest
must true o = o
must false o = lost

-- past one byte of the class
unfoldable pub mark_in : ℕ → List ℕ → Rest
mark_in class [] = lost
mark_in class (b ∷ bs) = must (eqb (class_of b) class) (left bs)

unfoldable pub mark : ℕ → Rest → Rest
mark class lost = lost
mark class (left bs) = mark_in class bs

-- how much is left, for loops that end
unfoldable pub size : Rest → ℕ
size lost = 0
size (left bs) = suc (length bs)

-- opens every definition of this module
unfoldable pub opens : Unit {0}
unfolding rest found must mark_in mark size
opens = tt
