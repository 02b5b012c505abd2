-- Laws of terms: the value of a replaced term, and terms of which only some leaves matter. Assumes nothing.
use Rattle.std.specs.Prelude.{ℕ, ◌≡◌}
use Rattle.std.proofs.Math.Path.{refl}
use Rattle.grammar.specs.Data.Term.{Term, number, leaf, both, pick, eval, replace, Leaves, in_number, in_leaf, in_both, in_pick}

-- the value of a replaced term is the term's value, with the replacements' values at its leaves
pub eval-replace : {A B : Type 0} (t : Term A) (f : A → Term B) (ρ : B → ℕ) → eval (replace t f) ρ ≡ eval t (λ a. eval (f a) ρ)
unfolding eval replace
eval-replace (number n) f ρ = refl
eval-replace (leaf a) f ρ = refl
eval-replace (both o s t) f ρ = rw (eval-replace s f ρ, eval-replace t f ρ)
eval-replace (pick c s t) f ρ = rw (eval-replace c f ρ, eval-replace s f ρ, eval-replace t f ρ)

module _ {A : Type 0} {R : A → Type 0} where
  -- leaf values that agree on a term's leaves give it one value
  pub eval-same : {t : Term A} → Leaves R t → (ρ σ : A → ℕ) → ((a : A) → R a → ρ a ≡ σ a) → eval t ρ ≡ eval t σ
  unfolding eval
  eval-same in_number ρ σ h = refl
  eval-same (in_leaf {a = a} r) ρ σ h = h a r
  eval-same (in_both s t) ρ σ h = rw (eval-same s ρ σ h, eval-same t ρ σ h)
  eval-same (in_pick c s t) ρ σ h = rw (eval-same c ρ σ h, eval-same s ρ σ h, eval-same t ρ σ h)

  -- replacements that agree on a term's leaves give one term
  pub replace-same : {B : Type 0} {t : Term A} → Leaves R t → (f g : A → Term B) → ((a : A) → R a → f a ≡ g a) → replace t f ≡ replace t g
  unfolding replace
  replace-same in_number f g h = refl
  replace-same (in_leaf {a = a} r) f g h = h a r
  replace-same (in_both s t) f g h = rw (replace-same s f g h, replace-same t f g h)
  replace-same (in_pick c s t) f g h = rw (replace-same c f g h, replace-same s f g h, replace-same t f g h)
