-- Sets of numbers below 32, as the bits of a number below 2 ^ 32. 01 has T and N at most 31, so they serve for terminals and for nonterminals.
-- `bit` says what a set holds, and every operation is defined by it; each computes by at most 32 tests. Assumes nothing.
use Rattle.std.specs.Prelude.{ℕ, zero, suc, ◌+◌, ◌/◌, ◌%◌, ◌^◌, Bool, true, false, not, ◌&&◌, ◌||◌, eqb}

-- whether i is in the set s: bit i of s
unfoldable pub bit : ℕ → ℕ → Bool
bit s i = eqb (s / 2 ^ i % 2) 1

-- the set of the numbers below k that pass the test
unfoldable pub collect : ℕ → (ℕ → Bool) → ℕ
collect zero test = 0
collect (suc k) test = elim (test k) [ true ↦ 2 ^ k + collect k test | false ↦ collect k test ]

-- whether every number below k passes the test
unfoldable pub every : ℕ → (ℕ → Bool) → Bool
every zero test = true
every (suc k) test = elim (test k) [ true ↦ every k test | false ↦ false ]

-- whether some number below k passes the test
unfoldable pub exists : ℕ → (ℕ → Bool) → Bool
exists zero test = false
exists (suc k) test = elim (test k) [ true ↦ true | false ↦ exists k test ]

-- the set that holds nothing
unfoldable pub empty : ℕ
empty = 0

-- the set that holds i alone
unfoldable pub single : ℕ → ℕ
single i = 2 ^ i

-- what is in a or in b
unfoldable pub union : ℕ → ℕ → ℕ
union a b = collect 32 (λ i. bit a i || bit b i)

-- s and i besides
unfoldable pub with : ℕ → ℕ → ℕ
with s i = union s (single i)

-- whether all that is in a is in b
unfoldable pub subset : ℕ → ℕ → Bool
subset a b = every 32 (λ i. not (bit a i) || bit b i)

-- whether something is both in a and in b
unfoldable pub meets : ℕ → ℕ → Bool
meets a b = exists 32 (λ i. bit a i && bit b i)

-- opens every definition of this module
unfoldable pub opens : Unit {0}
unfolding bit collect every exists empty single union with subset meets
opens = tt
