-- What a node reads: by its words, which are its kind and up to two numbers, and in an expression.
-- Assumes nothing.
use Rattle.std.proofs.Common.{refl, ne_eqb}
use Rattle.std.specs.Prelude.{ℕ, ◌+◌, ◌≡◌, true, false, List, eqb, get_or, Option, None, Some}
use Rattle.grammar.specs.Data.Term.{add, sub, min, max}
use Rattle.grammar.specs.Data.Postfix.{Step, push, load, operate, select}
use Rattle.grammar.specs.Data.Book.{Place as Leaf, own, at, val}
use Rattle.book.specs.Held.{node_kind, node_first, node_second, NodeIn}
use Rattle.conditions.specs.declared.place.Place.{Place}
use Rattle.conditions.specs.declared.place.Place.TheVariants.{Own, At, Val}

unfoldable pub place_of : ℕ → ℕ → ℕ → Option Place
place_of kind first second =
    elim (eqb kind 1) [
      | true ↦ Some (Own first)
      | false ↦ elim (eqb kind 2) [ true ↦ Some (At first second) | false ↦ elim (eqb kind 3) [ true ↦ Some (Val first) | false ↦ None ] ]
    ]

-- of the words from place k on
unfoldable pub place_in : List ℕ → ℕ → Option Place
place_in definitions k = place_of (get_or definitions k 0) (get_or definitions (k + 1) 0) (get_or definitions (k + 2) 0)

-- of a node
unfoldable pub place_of_step : Step Leaf → Option Place
place_of_step (push n) = None
place_of_step (load (own K)) = Some (Own K)
place_of_step (load (at J K)) = Some (At J K)
place_of_step (load (val J)) = Some (Val J)
place_of_step (operate o) = None
place_of_step select = None

words-step : (s : Step Leaf) → place_of (node_kind s) (node_first s) (node_second s) ≡ place_of_step s
unfolding place_of place_of_step node_kind node_first node_second
words-step (push n) = refl
words-step (load (own K)) = refl
words-step (load (at J K)) = refl
words-step (load (val J)) = refl
words-step (operate add) = refl
words-step (operate sub) = refl
words-step (operate min) = refl
words-step (operate max) = refl
words-step select = refl

pub place-in : {s : Step Leaf} {definitions : List ℕ} {k : ℕ} → NodeIn s definitions k → place_in definitions k ≡ place_of_step s
unfolding place_in
place-in {s} n = rw (n.kind_is, n.first_is, n.second_is) (words-step s)

-- by the kind
module _ (definitions : List ℕ) (k : ℕ) where
  pub place-own : get_or definitions k 0 ≡ 1 → Some (Own (get_or definitions (k + 1) 0)) ≡ place_in definitions k
  unfolding place_in place_of
  place-own e = rw e

  pub place_at : get_or definitions k 0 ≡ 2 → Some (At (get_or definitions (k + 1) 0) (get_or definitions (k + 2) 0)) ≡ place_in definitions k
  unfolding place_in place_of
  place_at e = rw e

  pub place-val : get_or definitions k 0 ≡ 3 → Some (Val (get_or definitions (k + 1) 0)) ≡ place_in definitions k
  unfolding place_in place_of
  place-val e = rw e

  pub place_none : (get_or definitions k 0 ≡ 1 → ⊥) → (get_or definitions k 0 ≡ 2 → ⊥) → (get_or definitions k 0 ≡ 3 → ⊥) → None ≡ place_in definitions k
  unfolding place_in place_of
  place_none e f g = rw (ne_eqb (get_or definitions k 0) 1 e, place_of, place_in) (rw (ne_eqb (get_or definitions k 0) 2 f) (rw (ne_eqb (get_or definitions k 0) 3 g)))

-- opens every definition of this module
unfoldable pub opens : Unit {0}
unfolding place_of place_in place_of_step
opens = tt
