-- The rows of a tree tell the tree. Assumes nothing.
use Rattle.std.specs.Prelude.{ℕ, zero, suc, ◌+◌, ◌≡◌, refl, List, [], ◌∷◌, ◌++◌, length}
use Rattle.std.proofs.Common.{zero-add, add-zero, arith, ap, ◌∙◌, append_assoc}
use Rattle.grammar.specs.Data.Symbol.{Symbol, right_of}
use Rattle.grammar.specs.Data.Book.{Book}
use Rattle.grammar.specs.Evaluator.Tree.{Tree, leaf, node, Trees, nil, cons, leaves, Stands, leaf_stands, node_stands, AllStand, nil_stands, cons_stands}
use Rattle.grammar.specs.Evaluator.Decorated.{Decorated, AllDecorated, erase, erase_all}
use Rattle.grammar.specs.Evaluator.Rows.{Row, token_row, node_row, row_of_token, row_of_node, rows, rows_all}

abbrev joined : Trees → Trees → Trees
joined nil us = us
joined (cons t ts) us = cons t (joined ts us)

joined-nil : (ts : Trees) → joined ts nil ≡ ts
joined-nil nil = refl
joined-nil (cons t ts) = ap (cons t) (joined-nil ts)

-- the trees one after another on a stack
abbrev stacked : Trees → List Tree → List Tree
stacked nil st = st
stacked (cons t ts) st = stacked ts (t ∷ st)

-- n trees off a stack, before us, and a node of rule P over them in their place
abbrev gather : ℕ → ℕ → List Tree → Trees → List Tree
gather P zero st us = node P us ∷ st
gather P (suc n) [] us = node P us ∷ []
gather P (suc n) (t ∷ st) us = gather P n st (cons t us)

module _ (b : Book) where
  abbrev rebuild : List Row → List Tree → List Tree
  rebuild [] st = st
  rebuild (token_row a p v ∷ rs) st = rebuild rs (leaf (record { kind = a; value = v }) ∷ st)
  rebuild (node_row P p is ss ∷ rs) st = rebuild rs (gather P (length (right_of b.rules P)) st nil)

  gather-stacked : {ts : Trees} {γ : List Symbol} → AllStand b ts γ → (P n : ℕ) (st : List Tree) (us : Trees)
      → gather P (length γ + n) (stacked ts st) us ≡ gather P n st (joined ts us)
  gather-stacked nil_stands P n st us = rw zero-add
  gather-stacked (cons_stands {t = t} {β = β} s ss) P n st us =
      let e : suc (length β) + n ≡ length β + suc n = omega arith in
      rw e (gather-stacked ss P (suc n) (t ∷ st) us)

  mutual
    unfolding row_of_token row_of_node

    rebuild-rows : (d : Decorated) {X : Symbol} → Stands b (erase d) X → (p : ℕ) (rs : List Row) (st : List Tree)
        → rebuild (rows b d p ++ rs) st ≡ rebuild rs (erase d ∷ st)
    rebuild-rows (Decorated.leaf k) (leaf_stands o e) p rs st = refl
    rebuild-rows (Decorated.node P i s ds) (node_stands n q e ss) p rs st =
        let g = gather-stacked ss P 0 st nil in
        rw (append_assoc, rebuild-rows_all ds ss p (row_of_node b P p i s ∷ rs) st) (ap (rebuild rs) (rw (add-zero, joined-nil) at g))

    rebuild-rows_all : (ds : AllDecorated) {γ : List Symbol} → AllStand b (erase_all ds) γ → (p : ℕ) (rs : List Row) (st : List Tree)
        → rebuild (rows_all b ds p ++ rs) st ≡ rebuild rs (stacked (erase_all ds) st)
    rebuild-rows_all AllDecorated.nil nil_stands p rs st = refl
    rebuild-rows_all (AllDecorated.cons d ds) (cons_stands s ss) p rs st =
        let q = p + length (leaves (erase d)) in
        rw append_assoc (rebuild-rows d s p (rows_all b ds q ++ rs) st ∙ rebuild-rows_all ds ss q rs (erase d ∷ st))

  pub rows_tell : (d e : Decorated) {X Y : Symbol} (p q : ℕ) → Stands b (erase d) X → Stands b (erase e) Y → rows b d p ≡ rows b e q → erase d ≡ erase e
  rows_tell d e p q s t h =
      let u = rebuild-rows d s p [] [] in
      let v = rebuild-rows e t q [] [] in
      let w : rebuild (rows b d p ++ []) [] ≡ rebuild (rows b e q ++ []) [] = rw h in
      cc
