-- The simulation: the machine builds each decorated tree that stands where a chain asks for it, or ends where a limit is met.
-- Assumes the premises of demand 3.
use Prim.Native.Nat.{ℕ, suc, ◌+◌, ◌-◌, ◌<◌, ◌≤◌}
use Rattle.std.proofs.Common.{zero-add, add-zero, ◌∙◌, sym}
use native.Mathlib.Omega.{arith}
use Rattle.std.proofs.Math.Decide.{dec_lt, dec_le}
use Rattle.std.specs.Prelude.{◌≡◌, refl, ◌≢◌, drop}
use Rattle.std.proofs.Math.Option.{some}
use mathlib.Core.List.{List, [], ◌∷◌, ◌++◌, append_assoc, append-nil}
use Rattle.std.proofs.Math.ListN.{length, length-append}
use Rattle.grammar.specs.Limits.{MAX_ROWS, MAX_STACK}
use Rattle.grammar.specs.Data.Symbol.{Symbol, terminal, nonterminal, left_of, right_of, after}
use Rattle.grammar.specs.Data.Book.{Book, inherited_owner}
use Rattle.grammar.specs.Automaton.First.{First}
use Rattle.grammar.specs.Automaton.Items.{derives, Closure, Chain, one, longer}
use Rattle.grammar.specs.Automaton.States.{shift, reduce, shifts, reduces}
use Rattle.grammar.specs.Evaluator.Tree.{Token, leaves, leaves_all, size, size_all, need, next, Stands, leaf_stands, node_stands, AllStand, nil_stands, cons_stands}
use Rattle.grammar.specs.Evaluator.TreeLaws.{need_all, need-positive, need-node, need-length}
use Rattle.grammar.specs.Evaluator.Decorated.{Values, Result, token, child_at, synthesized_from, Decorated, AllDecorated, erase, erase_all, inherited_of, result_of}
use Rattle.grammar.specs.Evaluator.Decorated.{results, Obeys, leaf_obeys, node_obeys, AllObey, nil_obey, cons_obey}
use Rattle.grammar.specs.Evaluator.DecoratedLaws.{SameOwn, inherits-given, synthesized_from-same}
use Rattle.grammar.specs.Evaluator.Rows.{Row, row_of_token, row_of_node, rows, rows_all}
use Rattle.grammar.specs.Evaluator.RowsLaws.{owned-same}
use Rattle.grammar.specs.Evaluator.Machine.{Tables, Frame, frame, config, Answer, refused, inherited_at, result_at, cell, popped, pop}
use Rattle.grammar.specs.Evaluator.Runs.{Reach, stay, move, reach-then, Ends, halts, reach-ends}
use Rattle.grammar.proofs.Evaluator.Moves.{shift-moves, shift-16, shift-17, reduce-moves, reduce-16, reduce-17}
use Rattle.grammar.specs.Evaluator.Premises.{Premises}
use Rattle.grammar.specs.Data.ListLaws.{drop-step, drop_get}
use Rattle.grammar.specs.Formulas.ChainLaws.{chain-closure}
use Rattle.grammar.specs.Evaluator.PremisesLaws.{go_there, go_has}
use Rattle.grammar.specs.Evaluator.FirstOfLeaves.{first-of-leaves, reach-trees}
use Rattle.grammar.specs.Evaluator.Chains.{OnTop}
use Rattle.grammar.proofs.Evaluator.Chains.{Below, cell-inherits}

-- a limit is met by a tree of n nodes and need m, from r rows and d symbols
pub data Over (r d n m : ℕ) : Answer → Type 0 where
  rows_over : MAX_ROWS < r + n → Over r d n m (refused 16)
  symbols_over : MAX_STACK < d + m → Over r d n m (refused 17)

over-more : {r d n m r' d' n' m' : ℕ} {x : Answer} → Over r d n m x → r + n ≤ r' + n' → d + m ≤ d' + m' → Over r' d' n' m' x
over-more (rows_over h) p q = rows_over (omega arith)
over-more (symbols_over h) p q = symbols_over (omega arith)

empty : {A : Type 0} (l : List A) → length l ≡ 0 → l ≡ []
empty [] e = refl
empty (x ∷ l) e = absurd (omega arith)

-- the symbol that is pushed is on top
on-top : (D S : ℕ) (i : Values) (p : ℕ) {c : Result} {r : List Result} (st : List Frame) (cs : List Result) → drop D cs ≡ c ∷ r → OnTop D st cs
    → OnTop (suc D) (frame S i c p ∷ st) cs
unfolding result_at
on-top D S i p {c} st cs e g I l h = by (dec_le I D)
  where
    by : Dec (I ≤ D) → result_at (suc D - I) (frame S i c p ∷ st) ≡ child_at cs I
    by (yes y) = let q : suc D - I ≡ suc (D - I) = omega arith in rw q (g I l y)
    by (no n) =
        let q : suc D - I ≡ 0 = omega arith in
        let q' : I - 1 ≡ D = omega arith in
        rw (q, q') (drop_get D cs (token 0) e)

module _ (b : Book) (T : Tables) where
  -- from the state S and the frames st, with the leaves of d (the first is a) and then z to read: d is pushed and its rows are written, or a limit is met
  pub data Simulated (S : ℕ) (X : Symbol) (st : List Frame) (d : Decorated) (a : ℕ) (z : List Token) (p : ℕ) (rs : List Row) : Type 0 where
    came : (M p' : ℕ) (rs' : List Row) → T.go S X ≡ some M
        → Reach b T (config st S (leaves (erase d) ++ z) p rs) (config (frame S (cell T S a st) (result_of d) p ∷ st) M z p' rs')
        → p' ≡ p + length (leaves (erase d)) → rs' ≡ rs ++ rows b d p
        → length rs' ≡ length rs + size (erase d) → length rs' ≤ MAX_ROWS → length st + need (erase d) ≤ MAX_STACK → Simulated S X st d a z p rs
    quit : {x : Answer} → Ends b T (config st S (leaves (erase d) ++ z) p rs) x → Over (length rs) (length st) (size (erase d)) (need (erase d)) x
        → Simulated S X st d a z p rs

  -- the same for trees of the rest γ of rule P's right side: the frames are then sr, from which the trees are popped again, and P is complete
  pub data AllSimulated (P S : ℕ) (γ : List Symbol) (st : List Frame) (ds : AllDecorated) (a : ℕ) (z : List Token) (p : ℕ) (rs : List Row) : Type 0 where
    came : (R p' : ℕ) (rs' : List Row) (sr : List Frame)
        → Reach b T (config st S (leaves_all (erase_all ds) ++ z) p rs) (config sr R z p' rs')
        → p' ≡ p + length (leaves_all (erase_all ds)) → rs' ≡ rs ++ rows_all b ds p
        → length rs' ≡ length rs + size_all (erase_all ds) → length rs' ≤ MAX_ROWS → length st + need_all (erase_all ds) ≤ MAX_STACK
        → length sr ≡ length st + length γ → Closure b R P (length (right_of b.rules P)) (next z)
        → ((n : ℕ) (cs : List Result) → pop (length γ + n) R (cell T R (next z) sr) p' sr cs ≡ pop n S (cell T S a st) p st (results ds ++ cs))
        → AllSimulated P S γ st ds a z p rs
    quit : {x : Answer} → Ends b T (config st S (leaves_all (erase_all ds) ++ z) p rs) x
        → Over (length rs) (length st) (size_all (erase_all ds)) (need_all (erase_all ds)) x → AllSimulated P S γ st ds a z p rs

  simulate-cons : {P S a : ℕ} {X : Symbol} {γ : List Symbol} {d : Decorated} {ds : AllDecorated} (st : List Frame) (z : List Token) (p : ℕ) (rs : List Row)
      → Simulated S X st d a (leaves_all (erase_all ds) ++ z) p rs
      → ((M p' : ℕ) (rs' : List Row) → T.go S X ≡ some M → length rs' ≤ MAX_ROWS → suc (length st) ≤ MAX_STACK
      → AllSimulated P M γ (frame S (cell T S a st) (result_of d) p ∷ st) ds (next (leaves_all (erase_all ds) ++ z)) z p' rs')
      → AllSimulated P S (X ∷ γ) st (AllDecorated.cons d ds) a z p rs
  unfolding pop
  simulate-cons st z p rs (Simulated.quit {x = x} q o) f = AllSimulated.quit {x = x} (rw append_assoc q) (over-more o (omega arith) (omega arith))
  simulate-cons {P} {S} {a} {X} {γ} {d} {ds} st z p rs (Simulated.came M p₁ rs₁ g reach ep er el hr hd) f =
      rest (f M p₁ rs₁ g hr (omega (arith, need-positive (erase d))))
    where
      rest : AllSimulated P M γ (frame S (cell T S a st) (result_of d) p ∷ st) ds (next (leaves_all (erase_all ds) ++ z)) z p₁ rs₁
          → AllSimulated P S (X ∷ γ) st (AllDecorated.cons d ds) a z p rs
      rest (AllSimulated.quit {x = x} q o) =
          AllSimulated.quit {x = x} (rw append_assoc (reach-ends b T reach q)) (over-more o (omega arith) (omega arith))
      rest (AllSimulated.came R p₂ rs₂ sr reach₂ ep₂ er₂ el₂ hr₂ hd₂ ed c pops) =
          AllSimulated.came R p₂ rs₂ sr (rw append_assoc (reach-then b T reach reach₂)) (rw length-append (omega arith)) (rw (er₂, er, append_assoc, ep))
          (omega arith) hr₂ (omega arith) (omega arith) c
          (λ n cs. let e : suc (length γ) + n ≡ length γ + suc n = omega arith in rw e (pops (suc n) cs))

module _ (b : Book) (T : Tables) (H : Premises b T) where
  simulate-leaf : (k : Token) {S P D c : ℕ} {β : List Symbol} → Closure b S P D c → after b.rules P D ≡ terminal k.kind ∷ β
      → (st : List Frame) (z : List Token) (p : ℕ) (rs : List Row) → length rs ≤ MAX_ROWS → length st ≤ MAX_STACK
      → Simulated b T S (terminal k.kind) st (Decorated.leaf k) k.kind z p rs
  simulate-leaf k {S} c e st z p rs hr hd = by_rows (dec_lt (length rs) MAX_ROWS)
    where
      acted : T.act S k.kind ≡ some shift
      acted = H.act_when S k.kind shift (shifts c e)

      longer-by : length (rs ++ (row_of_token k p ∷ [])) ≡ length rs + 1
      longer-by = rw length-append

      by-depth : length rs < MAX_ROWS → Dec (length st < MAX_STACK) → Simulated b T S (terminal k.kind) st (Decorated.leaf k) k.kind z p rs
      by-depth h (yes l) =
          let (M, g) = go_there b T H c e in
          Simulated.came M (suc p) (rs ++ (row_of_token k p ∷ [])) g (move (shift-moves b T k st z p rs acted g h l) stay)
          (omega arith) refl longer-by (omega (arith, longer-by)) (omega arith)
      by-depth h (no l) = Simulated.quit (halts (shift-17 b T k st z p rs acted h l)) (symbols_over (omega arith))

      by_rows : Dec (length rs < MAX_ROWS) → Simulated b T S (terminal k.kind) st (Decorated.leaf k) k.kind z p rs
      by_rows (yes h) = by-depth h (dec_lt (length st) MAX_STACK)
      by_rows (no h) = Simulated.quit (halts (shift-16 b T k st z p rs acted h)) (rows_over (omega arith))

  simulate-node : {P : ℕ} {i s : Values} {ds : AllDecorated} {S M : ℕ} → P ≢ 0 → T.go S (nonterminal (left_of b.rules P)) ≡ some M
      → AllStand b (erase_all ds) (right_of b.rules P) → s ≡ synthesized_from b P i (results ds)
      → (st : List Frame) (a : ℕ) (z : List Token) (p : ℕ) (rs : List Row) → SameOwn b P (cell T S a st) i
      → AllSimulated b T P S (right_of b.rules P) st ds a z p rs → Simulated b T S (nonterminal (left_of b.rules P)) st (Decorated.node P i s ds) a z p rs
  unfolding pop row_of_node
  simulate-node {P} {ds = ds} n g ss es st a z p rs w (AllSimulated.quit q o) =
      Simulated.quit q (over-more o (omega arith) (omega (arith, need-node P (erase_all ds))))
  simulate-node {P} {i} {s} {ds} {S} {M} n g ss es st a z p rs w (AllSimulated.came R p₁ rs₁ sr reach ep er el hr hd ed c pops) =
      by_rows (dec_lt (length rs₁) MAX_ROWS)
    where
      γ : List Symbol
      γ = right_of b.rules P

      j : Values
      j = cell T S a st

      acted : T.act R (next z) ≡ some (reduce P)
      acted = H.act_when R (next z) (reduce P) (reduces n c)

      back : pop (length γ) R (cell T R (next z) sr) p₁ sr [] ≡ popped S j p st (results ds)
      back = rw (add-zero, append-nil) at (pops 0 [])

      wide : length γ ≤ need_all (erase_all ds)
      wide = need-length b ss

      -- the cell has the node's inherited values, so the machine finds its synthesized values and writes its row
      same-values : synthesized_from b P j (results ds) ≡ s
      same-values = synthesized_from-same b T H P j i (results ds) w ∙ sym es

      same_row : row_of_node b P p j s ≡ row_of_node b P p i s
      same_row = rw (owned-same b.inherited_owners (left_of b.rules P) j i w)

      rs₂ : List Row
      rs₂ = rs₁ ++ (row_of_node b P p i s ∷ [])

      longer-by : length rs₂ ≡ length rs₁ + 1
      longer-by = rw length-append

      by-depth : length rs₁ < MAX_ROWS → Dec (length st < MAX_STACK) → Simulated b T S (nonterminal (left_of b.rules P)) st (Decorated.node P i s ds) a z p rs
      by-depth h (yes l) =
          let m = rw (same-values, same_row) at (reduce-moves b T sr z p₁ rs₁ acted st back g h (omega (arith, ed))) in
          Simulated.came M p₁ rs₂ g (reach-then b T reach (move m stay)) ep (rw (er, append_assoc)) (omega (arith, longer-by)) (omega (arith, longer-by))
          (omega (arith, need-node P (erase_all ds)))
      by-depth h (no l) =
          let e = empty γ (omega (arith, wide)) in
          Simulated.quit (reach-ends b T reach (halts (reduce-17 b T sr z p₁ rs₁ acted h e (omega arith)))) (symbols_over (omega arith))

      by_rows : Dec (length rs₁ < MAX_ROWS) → Simulated b T S (nonterminal (left_of b.rules P)) st (Decorated.node P i s ds) a z p rs
      by_rows (yes h) = by-depth h (dec_lt (length st) MAX_STACK)
      by_rows (no h) = Simulated.quit (reach-ends b T reach (halts (reduce-16 b T sr z p₁ rs₁ acted h))) (rows_over (omega arith))

  mutual
    unfolding inherited_at

    -- where the chain's last item asks for X and the cell has the tree's inherited values
    pub simulate : (d : Decorated) {X : Symbol} → Stands b (erase d) X → Obeys b d → {S a P D c : ℕ} {β : List Symbol}
        (st : List Frame) (z : List Token) (p : ℕ) (rs : List Row) → Chain b S a P D c → after b.rules P D ≡ X ∷ β → First b.rules β c (next z)
        → a ≡ next (leaves (erase d) ++ z) → ((B K : ℕ) → X ≡ nonterminal B → inherited_owner b K ≡ B → cell T S a st K ≡ inherited_of d K)
        → length rs ≤ MAX_ROWS → length st ≤ MAX_STACK → Simulated b T S X st d a z p rs
    simulate (Decorated.leaf k) (leaf_stands o e) leaf_obeys st z p rs chain h f ea w hr hd =
        rw (← e, ea) (simulate-leaf k (chain-closure b chain) (rw (← e) at h) st z p rs hr hd)
    simulate (Decorated.node Q i s ds) (node_stands {B = B} n q e ss) (node_obeys oo es) {P = P} {D = D} st z p rs chain h f ea w hr hd =
        let h' = rw (← e) at h in
        rw (← e) (simulate-node n (go_there b T H (chain-closure b chain) h').1 ss es st _ z p rs (λ K o. w B K refl (o ∙ e))
        (simulate_all ds ss oo st z p rs (longer chain (derives h q e f) (rw ea (reach-trees b ss refl z))) ea refl (omega arith) refl
        (λ K o. w B K refl (o ∙ e)) (λ I l m. absurd (omega arith)) hr hd))

    -- where the chain's last item asks for the symbols γ of the children from the dot on
    pub simulate_all : (ds : AllDecorated) {γ : List Symbol} → AllStand b (erase_all ds) γ → {P D : ℕ} {i : Values} {cs : List Result}
        → AllObey b P i cs (suc D) ds → {S a : ℕ} (st : List Frame) (z : List Token) (p : ℕ) (rs : List Row) → Chain b S a P D (next z)
        → a ≡ next (leaves_all (erase_all ds) ++ z) → after b.rules P D ≡ γ → D + length γ ≡ length (right_of b.rules P) → drop D cs ≡ results ds
        → Below b T P D S a st i → OnTop D st cs → length rs ≤ MAX_ROWS → length st ≤ MAX_STACK → AllSimulated b T P S γ st ds a z p rs
    simulate_all AllDecorated.nil nil_stands {P = P} {D = D} nil_obey {S = S} st z p rs chain ea h l el w g hr hd =
        let d : D ≡ length (right_of b.rules P) = omega arith in
        AllSimulated.came S p rs st stay (omega arith) (sym (append-nil rs)) (omega arith) hr (omega arith) (omega arith) (rw d at (chain-closure b chain))
        (λ n cs. rw (zero-add, ea))
    simulate_all (AllDecorated.cons d ds) (cons_stands s ss) {P} {D} {i} {cs} (cons_obey o gi oo) {S} {a} st z p rs chain ea h l el w g hr hd =
        let hs = drop-step D (right_of b.rules P) h in
        simulate-cons b T st z p rs
        (simulate d s o st (leaves_all (erase_all ds) ++ z) p rs chain h (first-of-leaves b ss z) (rw append_assoc at ea)
        (λ B K x u. cell-inherits b T H K chain (rw x at h) u st i cs w g ∙ inherits-given b gi (rw x at s) K) hr hd)
        (λ M p' rs' go hr' hd'. simulate_all ds ss oo (frame S (cell T S a st) (result_of d) p ∷ st) z p' rs'
        (one (go_has b T H go (chain-closure b chain) h) (reach-trees b ss hs z)) refl hs (omega arith) (drop-step D cs el)
        w (on-top D S (cell T S a st) p st cs el g) hr' hd')
