-- Laws of rows: the lent words' number and the zeros after the last row, rows of owned values, a tree's number of rows. Assumes nothing.
use Rattle.std.specs.Prelude.{ℕ, zero, suc, ◌+◌, ◌-◌, ◌*◌, ◌≤◌, ◌≡◌, refl, Bool, true, false, List, [], ◌∷◌, ◌++◌, eqb, length, replicate, drop}
use Rattle.std.proofs.Common.{arith, ap₂, length-append, drop_at, eqb-true}
use Rattle.std.proofs.lemmas.List.{length-replicate}
use Rattle.grammar.specs.Limits.{MAX_ROWS, ROW_WORDS, PAGE_WORDS}
use Rattle.grammar.specs.Data.Book.{Book, owner_at}
use Rattle.grammar.specs.Evaluator.Tree.{leaves, size, size_all}
use Rattle.grammar.specs.Evaluator.Decorated.{Values, Decorated, leaf, node, AllDecorated, nil, cons, erase, erase_all}
use Rattle.grammar.specs.Evaluator.Rows.{Row, token_row, node_row, four, words, filled, page, owned_below, owned, rows, rows_all}

pub filled-length : (rs : List Row) → length (filled rs) ≡ ROW_WORDS * length rs
unfolding filled words four
filled-length [] = refl
filled-length (token_row a p v ∷ rs) = omega (arith, filled-length rs)
filled-length (node_row P p is ss ∷ rs) = omega (arith, filled-length rs)

pub page-length : (rs : List Row) → length rs ≤ MAX_ROWS → length (page rs) ≡ PAGE_WORDS
unfolding page
page-length rs h = simp (length-append, length-replicate) (omega (arith, filled-length rs))

-- "zeros after the last"
pub page-after : (rs : List Row) → drop (ROW_WORDS * length rs) (page rs) ≡ replicate (PAGE_WORDS - ROW_WORDS * length rs) 0
unfolding page
page-after rs = drop_at (filled rs) _ _ (filled-length rs)

owned_below-same : (owners : List ℕ) (n B : ℕ) (f g : Values) → ((K : ℕ) → owner_at owners K ≡ B → f K ≡ g K)
    → owned_below owners n B f ≡ owned_below owners n B g
unfolding owned_below
owned_below-same owners zero B f g h = refl
owned_below-same owners (suc n) B f g h = ap₂ (λ x y. x ++ y) (owned_below-same owners n B f g h) (last (eqb (owner_at owners n) B) refl)
  where
    last : (t : Bool) → eqb (owner_at owners n) B ≡ t → ◌≡◌ {A = List ℕ} (elim t [ true ↦ f n ∷ [] | false ↦ [] ]) (elim t [ true ↦ g n ∷ [] | false ↦ [] ])
    last true e = rw (h n (eqb-true _ _ e))
    last false e = refl

-- only the values of owned attributes stand in a row
pub owned-same : (owners : List ℕ) (B : ℕ) (f g : Values) → ((K : ℕ) → owner_at owners K ≡ B → f K ≡ g K) → owned owners B f ≡ owned owners B g
unfolding owned
owned-same owners B f g h = owned_below-same owners (length owners) B f g h

module _ (b : Book) where
  mutual
    -- a tree has one row for each node
    pub rows-count : (d : Decorated) (p : ℕ) → length (rows b d p) ≡ size (erase d)
    rows-count (leaf k) p = refl
    rows-count (node P i s ds) p = simp length-append (omega (arith, rows_all-count ds p))

    pub rows_all-count : (ds : AllDecorated) (p : ℕ) → length (rows_all b ds p) ≡ size_all (erase_all ds)
    rows_all-count nil p = refl
    rows_all-count (cons d ds) p = simp length-append (omega (arith, rows-count d p, rows_all-count ds (p + length (leaves (erase d)))))
