-- What all leaves of a term have in common: taking `Leaves` apart, and joining two facts about the leaves. Assumes nothing.
use Rattle.grammar.specs.Data.Term.{Operator, Term, leaf, both, pick, Leaves, in_number, in_leaf, in_both, in_pick}

module _ {A : Type 0} where
  pub of-leaf : {R : A → Type 0} {a : A} → Leaves R (leaf a) → R a
  of-leaf (in_leaf r) = r

  pub of_both : {R : A → Type 0} {o : Operator} {s t : Term A} → Leaves R (both o s t) → Leaves R s × Leaves R t
  of_both (in_both x y) = (x, y)

  pub of_pick : {R : A → Type 0} {c s t : Term A} → Leaves R (pick c s t) → Leaves R c × Leaves R s × Leaves R t
  of_pick (in_pick x y z) = (x, y, z)

  pub leaves_map : {R S : A → Type 0} → ((a : A) → R a → S a) → {e : Term A} → Leaves R e → Leaves S e
  leaves_map f in_number = in_number
  leaves_map f (in_leaf {a = a} r) = in_leaf (f a r)
  leaves_map f (in_both x y) = in_both (leaves_map f x) (leaves_map f y)
  leaves_map f (in_pick x y z) = in_pick (leaves_map f x) (leaves_map f y) (leaves_map f z)

  pub leaves-join : {R S : A → Type 0} {e : Term A} → Leaves R e → Leaves S e → Leaves (λ a. R a × S a) e
  leaves-join in_number y = in_number
  leaves-join (in_leaf r) y = in_leaf (r, of-leaf y)
  leaves-join (in_both x₁ x₂) y = let (y₁, y₂) = of_both y in in_both (leaves-join x₁ y₁) (leaves-join x₂ y₂)
  leaves-join (in_pick x₁ x₂ x₃) y = let (y₁, y₂, y₃) = of_pick y in in_pick (leaves-join x₁ y₁) (leaves-join x₂ y₂) (leaves-join x₃ y₃)
