-- A test of an expression's leaves goes by its nodes in postfix order. Assumes nothing.
use Rattle.std.specs.Prelude.{◌≡◌, Bool, List, [], ◌∷◌, ◌++◌}
use Rattle.std.proofs.Math.Path.{refl, sym}
use Rattle.std.proofs.Common.{ap, ap₂, ◌∙◌}
use Rattle.std.proofs.Math.Bool.{true, false, ◌&&◌}
use Rattle.grammar.specs.Conditions.Decides.{all}
use Rattle.grammar.specs.Data.Term.{Term, number, leaf, both, pick}
use Rattle.grammar.specs.Data.Postfix.{Step, push, load, operate, select, postfix}
use Rattle.grammar.specs.Conditions.Tests.{all_leaves}
use Rattle.std.proofs.Math.Bool.{and-true, and_assoc}
use Rattle.conditions.specs.Answers.{then-and}

all_append : {B : Type 0} (f : B → Bool) (xs ys : List B) → all f (xs ++ ys) ≡ all f xs && all f ys
unfolding all
all_append f [] ys = refl
all_append f (x ∷ xs) ys =
    then-and (f x) (all f (xs ++ ys)) ∙ (ap (λ (t : Bool). f x && t) (all_append f xs ys) ∙ (sym (and_assoc (f x) (all f xs) (all f ys))
    ∙ ap (λ (t : Bool). t && all f ys) (sym (then-and (f x) (all f xs)))))

module _ {A : Type 0} where
  -- the test of a node: of its place, if it is a leaf
  unfoldable pub of_leaf : (A → Bool) → Step A → Bool
  of_leaf f (push n) = true
  of_leaf f (load a) = f a
  of_leaf f (operate o) = true
  of_leaf f select = true

  module _ (f : A → Bool) where
    -- a node that is no leaf
    no-leaf : (xs : List (Step A)) (s : Step A) → of_leaf f s ≡ true → all (of_leaf f) (xs ++ (s ∷ [])) ≡ all (of_leaf f) xs
    unfolding all
    no-leaf xs s e =
        all_append (of_leaf f) xs (s ∷ []) ∙ (ap (λ (t : Bool). all (of_leaf f) xs && t) (then-and (of_leaf f s) true ∙ (and-true (of_leaf f s) ∙ e))
        ∙ and-true (all (of_leaf f) xs))

    pub leaves-nodes : (e : Term A) → all_leaves f e ≡ all (of_leaf f) (postfix e)
    unfolding all_leaves all postfix of_leaf
    leaves-nodes (number n) = refl
    leaves-nodes (leaf a) = sym (then-and (f a) true ∙ and-true (f a))
    leaves-nodes (both o s t) =
        then-and (all_leaves f s) (all_leaves f t) ∙ (ap₂ ◌&&◌ (leaves-nodes s) (leaves-nodes t ∙ sym (no-leaf (postfix t) (operate o) refl))
        ∙ sym (all_append (of_leaf f) (postfix s) (postfix t ++ (operate o ∷ []))))
    leaves-nodes (pick c s t) =
        then-and (all_leaves f c) (elim (all_leaves f s) [ true ↦ all_leaves f t | false ↦ false ])
        ∙ (ap₂ ◌&&◌ (leaves-nodes c) (then-and (all_leaves f s) (all_leaves f t)
        ∙ (ap₂ ◌&&◌ (leaves-nodes s) (leaves-nodes t ∙ sym (no-leaf (postfix t) select refl))
        ∙ sym (all_append (of_leaf f) (postfix s) (postfix t ++ (select ∷ [])))))
        ∙ sym (all_append (of_leaf f) (postfix c) (postfix s ++ (postfix t ++ (select ∷ [])))))

-- opens every definition of this module
unfoldable pub opens : Unit {0}
unfolding of_leaf
opens = tt
