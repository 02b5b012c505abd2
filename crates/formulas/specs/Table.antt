-- A table of nodes without duplicates: rows of four words, found through buckets by a hash. `heads` has for each hash the number of the last row
-- with that hash, and `nexts` for each row the number of the row before it with the same hash, each plus one and 0 where there is none.
-- Assumes nothing.
use Rattle.std.specs.Prelude.{ℕ, zero, suc, ◌+◌, ◌*◌, ◌%◌, ◌^◌, ◌<◌, ◌≤◌, ◌≡◌, true, false, Option, Some, None, List, [], ◌∷◌, eqb, length, get_or, set}
use Rattle.formulas.specs.declared.nodes.Node.{Node}
use Rattle.formulas.specs.declared.table.Nodes.{Nodes}
use Rattle.formulas.specs.Nodes.{row_of}

abbrev pub HEADS : ℕ
HEADS = 64

abbrev pub row_at : List ℕ → ℕ → List ℕ
row_at table i = get_or table (4 * i) 0 ∷ get_or table (4 * i + 1) 0 ∷ get_or table (4 * i + 2) 0 ∷ get_or table (4 * i + 3) 0 ∷ []

-- a row's words put at i
unfoldable pub stored : List ℕ → ℕ → List ℕ → List ℕ
stored table i row =
    set (set (set (set table (4 * i) (get_or row 0 0)) (4 * i + 1) (get_or row 1 0)) (4 * i + 2) (get_or row 2 0)) (4 * i + 3) (get_or row 3 0)

unfoldable pub hash_of : List ℕ → ℕ
hash_of row = (get_or row 0 0 + 3 * get_or row 1 0 + 5 * get_or row 2 0 + 7 * get_or row 3 0) % 64

abbrev pub hash_at : List ℕ → ℕ → ℕ
hash_at table i = hash_of (row_at table i)

-- one more than the last i below k with f i ≡ h, or 0
unfoldable pub last_with : (ℕ → ℕ) → ℕ → ℕ → ℕ
last_with f h zero = 0
last_with f h (suc k) = elim (eqb (f k) h) [ true ↦ suc k | false ↦ last_with f h k ]

-- the first `used` rows are the nodes; there is room for as many as `nexts` is long, and a row's number plus one is a word
pub record Table (table heads nexts : List ℕ) (used : ℕ) : Type 0 where
  pub table_long : length table ≡ 4 * length nexts
  pub heads_long : length heads ≡ HEADS
  pub nexts_low : length nexts < 2 ^ 32
  pub room : used ≤ length nexts
  pub once : (i j : ℕ) → i < used → j < used → row_at table i ≡ row_at table j → i ≡ j
  pub heads_are : (h : ℕ) → h < HEADS → get_or heads h 0 ≡ last_with (hash_at table) h used
  pub nexts_are : (i : ℕ) → i < used → get_or nexts i 0 ≡ last_with (hash_at table) (hash_at table i) i

-- in the arrays of nodes
abbrev pub TableIn : Nodes → ℕ → Type 0
TableIn n used = Table n.rows.now n.heads.now n.nexts.now used

-- the arrays of nodes are the ones that were lent, each as long as it was
pub record NodesKept (old new : Nodes) : Type 0 where
  pub rows_same : new.rows.ghost_name ≡ old.rows.ghost_name
  pub heads_same : new.heads.ghost_name ≡ old.heads.ghost_name
  pub nexts_same : new.nexts.ghost_name ≡ old.nexts.ghost_name
  pub rows_long : length new.rows.now ≡ length old.rows.now
  pub heads_long : length new.heads.now ≡ length old.heads.now
  pub nexts_long : length new.nexts.now ≡ length old.nexts.now

-- a table with more rows: the old ones are as they were, and its room is
pub record Grown (old : List ℕ) (used : ℕ) (new : List ℕ) (count : ℕ) : Type 0 where
  pub grows : used ≤ count
  pub long : length new ≡ length old
  pub kept : (i : ℕ) → i < used → row_at new i ≡ row_at old i

-- what interning a node does to a table of `used` rows: `number` is the node's row, of then `count` rows
pub record Added (node : Node) (old : List ℕ) (used : ℕ) (new heads nexts : List ℕ) (number count : ℕ) : Type 0 where
  pub table : Table new heads nexts count
  pub grown : Grown old used new count
  pub few : count ≤ used + 1
  pub there : number < count
  pub is : row_at new number ≡ row_of node

-- what a search finds: the row's number, or that the row is not there
abbrev pub Found : List ℕ → ℕ → List ℕ → Option ℕ → Type 0
Found table used row (Some number) = (number < used) × (row_at table number ≡ row)
Found table used row None = (j : ℕ) → j < used → row_at table j ≡ row → ⊥

-- opens every definition of this module
unfoldable pub opens : Unit {0}
unfolding stored hash_of last_with
opens = tt
