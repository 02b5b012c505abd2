-- The class of a byte (01, "Spelling of a book": digit, small letter, open, close, space, line feed, other), by ranges.
-- Assumes nothing.
use Rattle.std.specs.Prelude.{ℕ, Bool, true, false, leb}

-- the classes' numbers, as the table has them
abbrev pub other : ℕ
other = 0

abbrev pub digit : ℕ
digit = 1

abbrev pub letter : ℕ
letter = 2

abbrev pub open-bracket : ℕ
open-bracket = 3

abbrev pub close-bracket : ℕ
close-bracket = 4

abbrev pub space : ℕ
space = 5

abbrev pub line-feed : ℕ
line-feed = 6

abbrev pub choose : Bool → ℕ → ℕ → ℕ
choose true x y = x
choose false x y = y

-- x where low ≤ b ≤ high, else y
abbrev pub between : ℕ → ℕ → ℕ → ℕ → ℕ → ℕ
between low high b x y = choose (leb low b) (choose (leb b high) x y) y

unfoldable pub class_of : ℕ → ℕ
class_of b =
    between 48 57 b digit
    (between 97 122 b letter
    (between 40 40 b open-bracket
    (between 41 41 b close-bracket
    (between 32 32 b space
    (between 10 10 b line-feed other)))))

-- opens every definition of this module
unfoldable pub opens : Unit {0}
unfolding class_of
opens = tt
