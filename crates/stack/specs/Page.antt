-- Rows in the lent words: some rows from the start on, and one row more, whose words go over ten of those behind the last. Behind the rows may stand anything
-- until the end, where zeros make of them the page of the rows (`page` of `Evaluator/Rows` of the grammar). Assumes nothing.
use Prim.Native.Nat.{ℕ, zero, suc, ◌+◌, ◌*◌, ◌-◌, ◌≤◌, ◌<◌}
use Rattle.std.specs.Prelude.{◌≡◌, replicate, take, drop}
use Rattle.std.proofs.Math.Path.{refl, ap}
use Rattle.std.proofs.Common.{sym, ◌∙◌, length-append, take_at}
use mathlib.Core.List.{List, [], ◌∷◌, ◌++◌, append_assoc, append-nil}
use native.Mathlib.Omega.{arith}
use Rattle.std.proofs.Math.ListN.{length, set}
use Rattle.std.proofs.lemmas.List.{set_at}
use Rattle.grammar.specs.Limits.{MAX_ROWS, PAGE_WORDS}
use Rattle.grammar.specs.Evaluator.Rows.{Row, token_row, node_row, four, words, filled, page}
use Rattle.grammar.specs.Evaluator.RowsLaws.{filled-length}
use Rattle.book.specs.Layout.{write_at}
use Rattle.cells.specs.Cells.{cleared}

-- the words of a token's row, stored one by one over zeros
unfoldable pub token_stored : ℕ → ℕ → ℕ → ℕ → List ℕ → List ℕ
token_stored r a start v out = set (set (set (cleared (10 * r) 10 out) (10 * r) (64 + a)) (10 * r + 1) start) (10 * r + 6) v

-- and those of a node's row
unfoldable pub node_stored : ℕ → ℕ → ℕ → List ℕ → List ℕ → List ℕ → List ℕ
node_stored r P start is ss out = write_at (10 * r + 6) ss (write_at (10 * r + 2) is (set (set (cleared (10 * r) 10 out) (10 * r) P) (10 * r + 1) start))

-- opens every definition of this module
unfoldable pub opens : Unit {0}
unfolding token_stored node_stored
opens = tt

-- ---- a node's row, part by part

module _ (r P start : ℕ) (is old : List ℕ) {mid : List ℕ}
    (down : mid ≡ write_at (10 * r + 2) is (set (set (cleared (10 * r) 10 old) (10 * r) P) (10 * r + 1) start)) where
  pub node-parts : (ss : List ℕ) {new : List ℕ} → new ≡ write_at (10 * r + 6) ss mid → new ≡ node_stored r P start is ss old
  unfolding node_stored
  node-parts ss up = up ∙ ap (write_at (10 * r + 6) ss) down

-- ---- stores behind a part

module _ (xs : List ℕ) {n : ℕ} (long : length xs ≡ n) where
  set-behind : (i v : ℕ) (ys : List ℕ) → set (xs ++ ys) (n + i) v ≡ xs ++ set ys i v
  set-behind i v ys = rw (← long) (go xs)
    where
      go : (zs : List ℕ) → set (zs ++ ys) (length zs + i) v ≡ zs ++ set ys i v
      go [] = let e : 0 + i ≡ i = omega arith in rw e
      go (z ∷ zs) =
          let e : suc (length zs) + i ≡ suc (length zs + i) = omega arith in
          rw e (ap (λ (l : List ℕ). z ∷ l) (go zs))

  write-behind : (i : ℕ) (ws ys : List ℕ) → write_at (n + i) ws (xs ++ ys) ≡ xs ++ write_at i ws ys
  unfolding write_at
  write-behind i [] ys = refl
  write-behind i (w ∷ ws) ys =
      let e : suc (n + i) ≡ n + suc i = omega arith in
      rw (e, set-behind i w ys) (write-behind (suc i) ws (set ys i w))

  cleared-behind : (count : ℕ) (ys : List ℕ) → cleared n count (xs ++ ys) ≡ xs ++ cleared 0 count ys
  unfolding cleared
  cleared-behind zero ys = refl
  cleared-behind (suc count) ys =
      let e : 0 + count ≡ count = omega arith in
      rw e (ap (λ (l : List ℕ). set l (n + count) 0) (cleared-behind count ys) ∙ set-behind count 0 (cleared 0 count ys))

-- ten words become 0
cleared-ten : (ys : List ℕ) → 10 ≤ length ys → cleared 0 10 ys ≡ 0 ∷ 0 ∷ 0 ∷ 0 ∷ 0 ∷ 0 ∷ 0 ∷ 0 ∷ 0 ∷ 0 ∷ drop 10 ys
unfolding cleared
cleared-ten [] h = absurd (omega arith)
cleared-ten (a ∷ []) h = absurd (omega arith)
cleared-ten (a ∷ b ∷ []) h = absurd (omega arith)
cleared-ten (a ∷ b ∷ c ∷ []) h = absurd (omega arith)
cleared-ten (a ∷ b ∷ c ∷ d ∷ []) h = absurd (omega arith)
cleared-ten (a ∷ b ∷ c ∷ d ∷ e ∷ []) h = absurd (omega arith)
cleared-ten (a ∷ b ∷ c ∷ d ∷ e ∷ f ∷ []) h = absurd (omega arith)
cleared-ten (a ∷ b ∷ c ∷ d ∷ e ∷ f ∷ g ∷ []) h = absurd (omega arith)
cleared-ten (a ∷ b ∷ c ∷ d ∷ e ∷ f ∷ g ∷ i ∷ []) h = absurd (omega arith)
cleared-ten (a ∷ b ∷ c ∷ d ∷ e ∷ f ∷ g ∷ i ∷ j ∷ []) h = absurd (omega arith)
cleared-ten (a ∷ b ∷ c ∷ d ∷ e ∷ f ∷ g ∷ i ∷ j ∷ k ∷ ys) h = refl

-- up to four words over four zeros
write-four : (vs xs : List ℕ) → length vs ≤ 4 → write_at 0 vs (0 ∷ 0 ∷ 0 ∷ 0 ∷ xs) ≡ four vs ++ xs
unfolding write_at four
write-four [] xs h = refl
write-four (a ∷ []) xs h = refl
write-four (a ∷ b ∷ []) xs h = refl
write-four (a ∷ b ∷ c ∷ []) xs h = refl
write-four (a ∷ b ∷ c ∷ d ∷ []) xs h = refl
write-four (a ∷ b ∷ c ∷ d ∷ e ∷ vs) xs h = absurd (omega arith)

-- the ten words of a row over zeros behind a part
module _ (front : List ℕ) {n : ℕ} (long : length front ≡ n) (tail : List ℕ) where
  abbrev zeros : List ℕ
  zeros = 0 ∷ 0 ∷ 0 ∷ 0 ∷ 0 ∷ 0 ∷ 0 ∷ 0 ∷ 0 ∷ 0 ∷ tail

  two-stored : (x y : ℕ) → set (set (front ++ zeros) n x) (n + 1) y ≡ front ++ (x ∷ y ∷ 0 ∷ 0 ∷ 0 ∷ 0 ∷ 0 ∷ 0 ∷ 0 ∷ 0 ∷ tail)
  two-stored x y =
      ap (λ (l : List ℕ). set l (n + 1) y) (set_at front 0 (0 ∷ 0 ∷ 0 ∷ 0 ∷ 0 ∷ 0 ∷ 0 ∷ 0 ∷ 0 ∷ tail) x n long)
      ∙ set-behind front long 1 y (x ∷ 0 ∷ 0 ∷ 0 ∷ 0 ∷ 0 ∷ 0 ∷ 0 ∷ 0 ∷ 0 ∷ tail)

  three-stored : (x y z : ℕ) → set (set (set (front ++ zeros) n x) (n + 1) y) (n + 6) z ≡ front ++ (x ∷ y ∷ 0 ∷ 0 ∷ 0 ∷ 0 ∷ z ∷ 0 ∷ 0 ∷ 0 ∷ tail)
  three-stored x y z =
      ap (λ (l : List ℕ). set l (n + 6) z) (two-stored x y) ∙ set-behind front long 6 z (x ∷ y ∷ 0 ∷ 0 ∷ 0 ∷ 0 ∷ 0 ∷ 0 ∷ 0 ∷ 0 ∷ tail)

  module _ (x y : ℕ) (is : List ℕ) (l : length is ≤ 4) where
    six-stored : write_at (n + 2) is (set (set (front ++ zeros) n x) (n + 1) y) ≡ front ++ (x ∷ y ∷ (four is ++ (0 ∷ 0 ∷ 0 ∷ 0 ∷ tail)))
    six-stored =
        ap (write_at (n + 2) is) (two-stored x y) ∙ write-behind front long 2 is (x ∷ y ∷ 0 ∷ 0 ∷ 0 ∷ 0 ∷ 0 ∷ 0 ∷ 0 ∷ 0 ∷ tail)
        ∙ ap (λ (l : List ℕ). front ++ l) (write-behind (x ∷ y ∷ []) refl 0 is (0 ∷ 0 ∷ 0 ∷ 0 ∷ 0 ∷ 0 ∷ 0 ∷ 0 ∷ tail)
        ∙ ap (λ (l : List ℕ). x ∷ y ∷ l) (write-four is (0 ∷ 0 ∷ 0 ∷ 0 ∷ tail) l))

    ten-stored : (ss : List ℕ) → length ss ≤ 4
        → write_at (n + 6) ss (write_at (n + 2) is (set (set (front ++ zeros) n x) (n + 1) y)) ≡ front ++ ((x ∷ y ∷ four is ++ four ss) ++ tail)
    unfolding four
    ten-stored ss m =
        ap (write_at (n + 6) ss) six-stored ∙ write-behind front long 6 ss (x ∷ y ∷ (four is ++ (0 ∷ 0 ∷ 0 ∷ 0 ∷ tail)))
        ∙ ap (λ (l : List ℕ). front ++ l) (write-behind (x ∷ y ∷ four is) refl 0 ss (0 ∷ 0 ∷ 0 ∷ 0 ∷ tail)
        ∙ ap (λ (l : List ℕ). x ∷ y ∷ (four is ++ l)) (write-four ss tail m))

-- ---- the rows that are written

-- rows in the lent words, from their start on; of what stands behind them nothing is said
pub record RowsIn (rs : List Row) (rows : List ℕ) : Type 0 where
  pub behind : List ℕ
  pub rows_are : rows ≡ filled rs ++ behind

-- before the first
pub no_rows : (rows : List ℕ) → RowsIn [] rows
unfolding filled
no_rows rows = record { behind = rows; rows_are = refl }

filled-append : (rs qs : List Row) → filled (rs ++ qs) ≡ filled rs ++ filled qs
unfolding filled
filled-append [] qs = refl
filled-append (r ∷ rs) qs = ap (λ (l : List ℕ). words r ++ l) (filled-append rs qs) ∙ sym (append_assoc (words r) (filled rs) (filled qs))

filled_more : (rs : List Row) (r : Row) (tail : List ℕ) → filled rs ++ (words r ++ tail) ≡ filled (rs ++ (r ∷ [])) ++ tail
unfolding filled
filled_more rs r tail =
    sym (append_assoc (filled rs) (words r) tail)
    ∙ ap (λ (l : List ℕ). l ++ tail) (sym (filled-append rs (r ∷ []) ∙ ap (λ (l : List ℕ). filled rs ++ l) (append-nil (words r))))

-- one row more
module _ {rs : List Row} {rows : List ℕ} (W : RowsIn rs rows) (h : length rs < MAX_ROWS) (long : length rows ≡ PAGE_WORDS) where
  room : 10 ≤ length W.behind
  room = omega (arith, long, ap length W.rows_are, length-append (filled rs) W.behind, filled-length rs)

  abbrev rest : List ℕ
  rest = drop 10 W.behind

  row-cleared : cleared (10 * length rs) 10 rows ≡ filled rs ++ (0 ∷ 0 ∷ 0 ∷ 0 ∷ 0 ∷ 0 ∷ 0 ∷ 0 ∷ 0 ∷ 0 ∷ rest)
  row-cleared =
      ap (cleared (10 * length rs) 10) W.rows_are ∙ cleared-behind (filled rs) (filled-length rs) 10 W.behind
      ∙ ap (λ (l : List ℕ). filled rs ++ l) (cleared-ten W.behind room)

  pub token-stored : (a start v : ℕ) → RowsIn (rs ++ (token_row a start v ∷ [])) (token_stored (length rs) a start v rows)
  unfolding token_stored words four
  token-stored a start v = record {
    behind = rest;
    rows_are =
        ap (λ (l : List ℕ). set (set (set l (10 * length rs) (64 + a)) (10 * length rs + 1) start) (10 * length rs + 6) v) row-cleared
        ∙ three-stored (filled rs) (filled-length rs) rest (64 + a) start v ∙ filled_more rs (token_row a start v) rest;
  }

  pub node-stored : (P start : ℕ) (is ss : List ℕ) → length is ≤ 4 → length ss ≤ 4
      → RowsIn (rs ++ (node_row P start is ss ∷ [])) (node_stored (length rs) P start is ss rows)
  unfolding node_stored words
  node-stored P start is ss l m = record {
    behind = rest;
    rows_are =
        ap (λ (l : List ℕ). write_at (10 * length rs + 6) ss (write_at (10 * length rs + 2) is (set (set l (10 * length rs) P) (10 * length rs + 1) start)))
        row-cleared
        ∙ ten-stored (filled rs) (filled-length rs) rest P start is l ss m ∙ filled_more rs (node_row P start is ss) rest;
  }

-- with zeros behind them they are the page
pub rows-page : {rs : List Row} {rows : List ℕ} → RowsIn rs rows → take (10 * length rs) rows ++ replicate (PAGE_WORDS - 10 * length rs) 0 ≡ page rs
unfolding page
rows-page {rs} {rows} W =
    ap (λ (l : List ℕ). l ++ replicate (PAGE_WORDS - 10 * length rs) 0)
    (ap (take (10 * length rs)) W.rows_are ∙ take_at (filled rs) W.behind (10 * length rs) (filled-length rs))
