-- The definitions of `Sets` compute. In the examples 5 is {0, 2}, 3 is {0, 1}, 13 is {0, 2, 3} and 10 is {1, 3}.
-- Assumes nothing.
use Rattle.std.specs.Prelude.{◌≡◌, refl, true, false}
use Rattle.sets.specs.Sets.{bit, empty, single, union, with, subset, meets, opens}

unions : (union 5 3 ≡ 7) × (with (with empty 31) 0 ≡ 2147483649) × (with 5 2 ≡ 5)
unfolding opens
unions = (refl, refl, refl)

members : (bit 5 2 ≡ true) × (bit 5 1 ≡ false) × (bit (single 31) 31 ≡ true) × (bit empty 0 ≡ false)
unfolding opens
members = (refl, refl, refl, refl)

tests : (subset 5 13 ≡ true) × (subset 13 5 ≡ false) × (meets 5 3 ≡ true) × (meets 5 10 ≡ false)
unfolding opens
tests = (refl, refl, refl, refl)
