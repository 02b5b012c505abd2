-- Demand 3 is met: `demand-3`. Assumes nothing beyond what the statement names.
use Rattle.std.specs.Prelude.{ℕ, ◌≡◌, refl, List, length}
use Rattle.std.proofs.Common.{arith, sym, ◌∙◌}
use Rattle.std.proofs.Math.Path.{ap}
use Rattle.grammar.specs.Limits.{PAGE_WORDS}
use Rattle.grammar.specs.Data.Symbol.{goal}
use Rattle.grammar.specs.Data.Book.{Book}
use Rattle.grammar.specs.Evaluator.Tree.{Token, Tree, leaves, size, need, TokensOf}
use Rattle.grammar.specs.Evaluator.Decorated.{Decorated, erase, root_inherited}
use Rattle.grammar.specs.Evaluator.Rows.{Row, rows, page}
use Rattle.grammar.specs.Evaluator.RowsLaws.{rows-count, page-length, page-after}
use Rattle.grammar.specs.Evaluator.Decorate.{decorate, decorate-erases, decorate-inherits, decorate-obeys, decorate-only}
use Rattle.grammar.specs.Evaluator.Machine.{Tables, Answer, refused, accepted, start, evaluate}
use Rattle.grammar.specs.Evaluator.Runs.{Ends, ends-once}
use Rattle.grammar.proofs.Evaluator.RunLaws.{evaluate-ends}
use Rattle.grammar.proofs.Evaluator.Simulate.{Over, rows_over, symbols_over}
use Rattle.grammar.proofs.Evaluator.Complete.{Told, taken, over, told}
use Rattle.grammar.specs.Evaluator.Rebuild.{rows_tell}
use Rattle.grammar.proofs.Evaluator.Soundness.{sound}
use Rattle.grammar.specs.Evaluator.Premises.{Premises}
use Rattle.grammar.specs.Evaluator.Demand.{SmallTree, TreeOf, Valued, Demand3Met}

module _ (b : Book) (T : Tables) (H : Premises b T) where
  values_of : (t : Tree) → (d : Decorated) × Valued b t d
  values_of t =
      let i = root_inherited b in
      (decorate b t i, record { its_tree = decorate-erases b t i; its_root = decorate-inherits b t i; obeys = decorate-obeys b T H t i })

  only-values : (t : Tree) (e : Decorated) → Valued b t e → e ≡ (values_of t).0
  unfolding values_of
  only-values t e u =
      let i = root_inherited b in
      decorate-only b T H e i u.obeys u.its_root ∙ ap (λ x. decorate b x i) u.its_tree

  -- what the machine says of a tree's tokens
  data Says (t : Tree) (d : Decorated) : Answer → Type 0 where
    takes : SmallTree t → Says t d (accepted (rows b d 0))
    exceeds : {x : Answer} → Over 0 0 (size t) (need t) x → Says t d x

  says : {ks : List Token} {t : Tree} {d : Decorated} → TreeOf b ks t → Valued b t d → Says t d (evaluate b T ks)
  says {ks} {t} {d} q u = finish (told b T H (rw u.its_tree q.stands) u.obeys u.its_root)
    where
      same : leaves (erase d) ≡ ks
      same = rw u.its_tree q.its_leaves

      answer : {x : Answer} → Ends b T (start (leaves (erase d))) x → evaluate b T ks ≡ x
      answer e = ends-once b T (evaluate-ends b T ks) (rw same at e)

      finish : Told b T d → Says t d (evaluate b T ks)
      finish (taken e h n) =
          let l : SmallTree (erase d) = record { few_nodes = h; small_need = n } in
          rw (answer e) (takes (rw u.its_tree at l))
      finish (over {x = x} e o) = rw (answer e) (exceeds {x = x} (rw u.its_tree at o))

  accepted-rows : {ks : List Token} {t : Tree} {d : Decorated} {rs : List Row} → TreeOf b ks t → Valued b t d → evaluate b T ks ≡ accepted rs
      → (rs ≡ rows b d 0) × SmallTree t
  accepted-rows {ks} {t} {d} {rs} q u e = by e (says q u)
    where
      by : {x : Answer} → x ≡ accepted rs → Says t d x → (rs ≡ rows b d 0) × SmallTree t
      by e (takes l) = (cc, l)
      by e (exceeds (rows_over h)) = let f : ◌≡◌ {A = ℕ} 0 1 = cc in absurd (omega arith)
      by e (exceeds (symbols_over h)) = let f : ◌≡◌ {A = ℕ} 0 1 = cc in absurd (omega arith)

  within-accepted : {ks : List Token} {t : Tree} → TreeOf b ks t → SmallTree t → (rs : List Row) × (evaluate b T ks ≡ accepted rs)
  within-accepted {ks} {t} q l = let (d, u) = values_of t in by refl (says q u)
    where
      by : {x : Answer} {d : Decorated} → evaluate b T ks ≡ x → Says t d x → (rs : List Row) × (evaluate b T ks ≡ accepted rs)
      by {d = d} e (takes h) = (rows b d 0, e)
      by e (exceeds (rows_over h)) = absurd (omega arith)
      by e (exceeds (symbols_over h)) = absurd (omega arith)

  refused-tree : {ks : List Token} {t : Tree} → evaluate b T ks ≡ refused 15 → TreeOf b ks t → ⊥
  refused-tree {ks} {t} e q = let (d, u) = values_of t in by e (says q u)
    where
      by : {x : Answer} {d : Decorated} → x ≡ refused 15 → Says t d x → ⊥
      by e (takes h) = let f : ◌≡◌ {A = ℕ} 0 1 = cc in omega arith
      by e (exceeds (rows_over h)) = let f : ◌≡◌ {A = ℕ} 15 16 = cc in omega arith
      by e (exceeds (symbols_over h)) = let f : ◌≡◌ {A = ℕ} 15 17 = cc in omega arith

  accepted-tree : {ks : List Token} {rs : List Row} → TokensOf b ks → evaluate b T ks ≡ accepted rs → (t : Tree) × TreeOf b ks t × SmallTree t
  accepted-tree {ks} os e =
      let (t, s, l) = sound b T H os (rw e at (evaluate-ends b T ks)) in
      let q : TreeOf b ks t = record { stands = s; its_leaves = l } in
      let (d, u) = values_of t in
      (t, q, (accepted-rows q u e).1)

  same-tree : {ks : List Token} {rs : List Row} → evaluate b T ks ≡ accepted rs → (t u : Tree) → TreeOf b ks t → TreeOf b ks u → t ≡ u
  same-tree e t u q r =
      let (c, v) = values_of t in
      let (d, w) = values_of u in
      let x = (accepted-rows q v e).0 in
      let y = (accepted-rows r w e).0 in
      let X = goal b.rules in
      let h = rows_tell b c d {X = X} {Y = X} 0 0 (rw v.its_tree q.stands) (rw w.its_tree r.stands) (sym x ∙ y) in
      sym v.its_tree ∙ h ∙ w.its_tree

  count-rows : {ks : List Token} {rs : List Row} → evaluate b T ks ≡ accepted rs → (t : Tree) → TreeOf b ks t → length rs ≡ size t
  count-rows e t q =
      let (d, u) = values_of t in
      ap length (accepted-rows q u e).0 ∙ rows-count b d 0 ∙ ap size u.its_tree

  page-fits : {ks : List Token} {rs : List Row} → TokensOf b ks → evaluate b T ks ≡ accepted rs → length (page rs) ≡ PAGE_WORDS
  page-fits {rs = rs} os e =
      let (t, q, l) = accepted-tree os e in
      let n = count-rows e t q in
      let h = l.few_nodes in
      page-length rs (omega arith)

pub demand-3 : Demand3Met
demand-3 b T H ks os = record {
  exactly = (λ a. accepted-tree b T H os a.1, λ p. within-accepted b T H p.1 p.2);
  one_tree = same-tree b T H;
  row_count = count-rows b T H;
  postorder = λ e t q d u. (accepted-rows b T H q u e).0;
  lent_words = page-fits b T H os;
  zeros_after = λ {rs} e. page-after rs;
  has_values = λ t. ((values_of b T H t).0, (values_of b T H t).1, only-values b T H t);
  no_message = λ e t q. refused-tree b T H e q;
}
