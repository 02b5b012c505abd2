-- The first token of trees that stand for β is in FIRST(β ..), and an item reaches the first token of trees that stand for what is after its dot.
-- Assumes nothing.
use Rattle.std.specs.Prelude.{ℕ, ◌≡◌, refl, List, ◌∷◌, ◌++◌}
use Rattle.std.proofs.Common.{append_assoc, append-nil}
use Rattle.grammar.specs.Data.Symbol.{Symbol, after}
use Rattle.grammar.specs.Data.Book.{Book}
use Rattle.grammar.specs.Automaton.First.{First, past, here, expand}
use Rattle.grammar.specs.Automaton.Items.{derives, Reaches, before, complete, further}
use Rattle.grammar.specs.Evaluator.Tree.{Token, Tree, Trees, leaves, leaves_all, next, Stands, leaf_stands, node_stands, AllStand, nil_stands, cons_stands}

module _ (b : Book) where
  mutual
    first-tree : {t : Tree} {X : Symbol} → Stands b t X → {β : List Symbol} {a : ℕ} (z : List Token) → First b.rules β a (next z)
        → First b.rules (X ∷ β) a (next (leaves t ++ z))
    first-tree (leaf_stands o e) z f = rw e here
    first-tree (node_stands n h e s) z f = expand h e (first-trees s z f)

    first-trees : {ts : Trees} {γ : List Symbol} → AllStand b ts γ → {β : List Symbol} {a : ℕ} (z : List Token) → First b.rules β a (next z)
        → First b.rules (γ ++ β) a (next (leaves_all ts ++ z))
    first-trees nil_stands z f = f
    first-trees (cons_stands s ss) z f = rw append_assoc (first-tree s _ (first-trees ss z f))

  pub first-of-leaves : {ts : Trees} {β : List Symbol} → AllStand b ts β → (z : List Token) → First b.rules β (next z) (next (leaves_all ts ++ z))
  first-of-leaves s z = rw append-nil at (first-trees s z past)

  mutual
    pub reach-tree : {t : Tree} {X : Symbol} → Stands b t X → {P D c : ℕ} {β : List Symbol} → after b.rules P D ≡ X ∷ β → (z : List Token)
        → First b.rules β c (next z) → Reaches b.rules (next (leaves t ++ z)) P D c
    reach-tree (leaf_stands o e) h z f = before (rw (← e) at h)
    reach-tree (node_stands n p e ss) h z f = further (derives h p e f) (reach-trees ss refl z)

    pub reach-trees : {ts : Trees} {γ : List Symbol} → AllStand b ts γ → {P D : ℕ} → after b.rules P D ≡ γ → (z : List Token)
        → Reaches b.rules (next (leaves_all ts ++ z)) P D (next z)
    reach-trees nil_stands h z = complete h refl
    reach-trees (cons_stands {ts = ts} s ss) h z = rw append_assoc (reach-tree s h (leaves_all ts ++ z) (first-of-leaves ss z))
