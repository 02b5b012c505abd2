-- Laws of rows in a table: a row that is stored stands there, and the others are as they were; and of the arrays that keep them. Assumes nothing.
use Rattle.std.specs.Prelude.{ℕ, suc, ◌+◌, ◌*◌, ◌<◌, ◌≤◌, ◌≡◌, refl, List, [], ◌∷◌, get_or}
use Rattle.std.proofs.Common.{◌∙◌, arith}
use Rattle.std.proofs.Math.ListN.{length, set, length-set}
use Rattle.std.proofs.Math.Seq.{get_or-set_same, get_or-set_other}
use Rattle.std.proofs.lemmas.List.Edits.{sets-eq}
use Rattle.std.proofs.Math.Seq.{paste}
use Rattle.formulas.specs.declared.table.Nodes.{Nodes}
use Rattle.formulas.specs.Table.{row_at, stored, NodesKept, Grown}

-- a row's words that are copied to their places
pub stored-copied : (table : List ℕ) (i a b c d : ℕ) → 4 * i + 4 ≤ length table
    → stored table i (a ∷ b ∷ c ∷ d ∷ []) ≡ paste table (4 * i) (a ∷ b ∷ c ∷ d ∷ []) 4
unfolding stored
stored-copied table i a b c d h =
    let one : 4 * i + 1 ≡ suc (4 * i) = omega arith in
    let two : 4 * i + 2 ≡ suc (suc (4 * i)) = omega arith in
    let three : 4 * i + 3 ≡ suc (suc (suc (4 * i))) = omega arith in
    rw (one, two, three) (sets-eq (a ∷ b ∷ c ∷ d ∷ []) table (4 * i) h)

module _ (table : List ℕ) (i : ℕ) (row : List ℕ) where
  pub length-stored : length (stored table i row) ≡ length table
  unfolding stored
  length-stored = simp length-set

  -- a word of another row
  word-other : (j w k : ℕ) → (j ≡ i → ⊥) → w < 4 → k ≡ 4 * j + w → get_or (stored table i row) k 0 ≡ get_or table k 0
  unfolding stored
  word-other j w k n h e =
      let l1 = set table (4 * i) (get_or row 0 0) in
      let l2 = set l1 (4 * i + 1) (get_or row 1 0) in
      let l3 = set l2 (4 * i + 2) (get_or row 2 0) in
      get_or-set_other l3 (4 * i + 3) k (get_or row 3 0) 0 (λ f. omega arith) ∙ get_or-set_other l2 (4 * i + 2) k (get_or row 2 0) 0 (λ f. omega arith)
      ∙ get_or-set_other l1 (4 * i + 1) k (get_or row 1 0) 0 (λ f. omega arith) ∙ get_or-set_other table (4 * i) k (get_or row 0 0) 0 (λ f. omega arith)

  pub row_other : (j : ℕ) → (j ≡ i → ⊥) → row_at (stored table i row) j ≡ row_at table j
  row_other j n =
      cc (
        word-other j 0 (4 * j) n (omega arith) (omega arith),
        word-other j 1 (4 * j + 1) n (omega arith) refl,
        word-other j 2 (4 * j + 2) n (omega arith) refl,
        word-other j 3 (4 * j + 3) n (omega arith) refl,
      )

  pub row_here : 4 * i + 4 ≤ length table → row_at (stored table i row) i ≡ get_or row 0 0 ∷ get_or row 1 0 ∷ get_or row 2 0 ∷ get_or row 3 0 ∷ []
  unfolding stored
  row_here h =
      let l1 = set table (4 * i) (get_or row 0 0) in
      let l2 = set l1 (4 * i + 1) (get_or row 1 0) in
      let l3 = set l2 (4 * i + 2) (get_or row 2 0) in
      let n1 : length l1 ≡ length table = length-set table (4 * i) (get_or row 0 0) in
      let n2 : length l2 ≡ length table = length-set l1 (4 * i + 1) (get_or row 1 0) ∙ n1 in
      let n3 : length l3 ≡ length table = length-set l2 (4 * i + 2) (get_or row 2 0) ∙ n2 in
      cc (
        get_or-set_other l3 (4 * i + 3) (4 * i) (get_or row 3 0) 0 (λ e. omega arith),
        get_or-set_other l2 (4 * i + 2) (4 * i) (get_or row 2 0) 0 (λ e. omega arith),
        get_or-set_other l1 (4 * i + 1) (4 * i) (get_or row 1 0) 0 (λ e. omega arith),
        get_or-set_same table (4 * i) (get_or row 0 0) 0 (omega arith),
        get_or-set_other l3 (4 * i + 3) (4 * i + 1) (get_or row 3 0) 0 (λ e. omega arith),
        get_or-set_other l2 (4 * i + 2) (4 * i + 1) (get_or row 2 0) 0 (λ e. omega arith),
        get_or-set_same l1 (4 * i + 1) (get_or row 1 0) 0 (omega arith),
        get_or-set_other l3 (4 * i + 3) (4 * i + 2) (get_or row 3 0) 0 (λ e. omega arith),
        get_or-set_same l2 (4 * i + 2) (get_or row 2 0) 0 (omega arith),
        get_or-set_same l3 (4 * i + 3) (get_or row 3 0) 0 (omega arith),
      )

-- growth

pub grown-same : {table : List ℕ} {used : ℕ} → Grown table used table used
grown-same = record { grows = omega arith; long = refl; kept = λ i h. refl }

pub grown-more : {a b c : List ℕ} {i j k : ℕ} → Grown a i b j → Grown b j c k → Grown a i c k
grown-more G H = record {
  grows = omega (arith, G.grows, H.grows);
  long = H.long ∙ G.long;
  kept = λ i h. H.kept i (omega (arith, G.grows)) ∙ G.kept i h;
}

-- arrays that are kept

pub nodes-same : (n : Nodes) → NodesKept n n
nodes-same n = record { rows_same = refl; heads_same = refl; nexts_same = refl; rows_long = refl; heads_long = refl; nexts_long = refl }

pub nodes-more : {a b c : Nodes} → NodesKept a b → NodesKept b c → NodesKept a c
nodes-more k m = record {
  rows_same = m.rows_same ∙ k.rows_same;
  heads_same = m.heads_same ∙ k.heads_same;
  nexts_same = m.nexts_same ∙ k.nexts_same;
  rows_long = m.rows_long ∙ k.rows_long;
  heads_long = m.heads_long ∙ k.heads_long;
  nexts_long = m.nexts_long ∙ k.nexts_long;
}
