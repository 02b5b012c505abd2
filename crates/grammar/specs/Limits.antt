-- 01's limits as named constants, in one place; the code's associated constants have the same names.
-- Assumes nothing.
use Rattle.std.specs.Prelude.{ℕ}

-- "T and N are 1 to 31, Q 1 to 128"
abbrev pub MAX_TERMINALS : ℕ
MAX_TERMINALS = 31

abbrev pub MAX_NONTERMINALS : ℕ
MAX_NONTERMINALS = 31

abbrev pub MAX_STATES : ℕ
MAX_STATES = 128

-- "16 inherited and 32 synthesized attributes, 4 of each per nonterminal"
abbrev pub MAX_INHERITED : ℕ
MAX_INHERITED = 16

abbrev pub MAX_SYNTHESIZED : ℕ
MAX_SYNTHESIZED = 32

abbrev pub MAX_OWNED : ℕ
MAX_OWNED = 4

-- "1 to 64 rules of up to 8 right symbols"
abbrev pub MAX_RULES : ℕ
MAX_RULES = 64

abbrev pub MAX_RIGHT : ℕ
MAX_RIGHT = 8

-- "128 definitions together, 15 nodes each"
abbrev pub MAX_DEFINITIONS : ℕ
MAX_DEFINITIONS = 128

abbrev pub MAX_NODES : ℕ
MAX_NODES = 15

-- "512 kernel lines, 16 per state, 1,024 go lines"
abbrev pub MAX_KERNELS : ℕ
MAX_KERNELS = 512

abbrev pub MAX_STATE_KERNELS : ℕ
MAX_STATE_KERNELS = 16

abbrev pub MAX_GOES : ℕ
MAX_GOES = 1024

-- the largest text, the words that it fills, and the largest number
abbrev pub MAX_TEXT : ℕ
MAX_TEXT = 65536

abbrev pub BOOK_WORDS : ℕ
BOOK_WORDS = 16384

abbrev pub NUMBERS : ℕ
NUMBERS = 4294967296

-- messages: tokens, rows, words of a row, words of all rows, symbols on the stack
abbrev pub MAX_TOKENS : ℕ
MAX_TOKENS = 255

abbrev pub MAX_ROWS : ℕ
MAX_ROWS = 512

abbrev pub ROW_WORDS : ℕ
ROW_WORDS = 10

abbrev pub PAGE_WORDS : ℕ
PAGE_WORDS = 5120

abbrev pub MAX_STACK : ℕ
MAX_STACK = 128
