-- 7 to 10 in two parts: the first of 7, 8 and 9 that applies, and the one-formula check (10) where none of them does.
-- Assumes nothing.
use Rattle.std.specs.Prelude.{ℕ, zero, suc, ◌≡◌, Bool}
use Rattle.std.proofs.Math.Path.{refl}
use Rattle.std.proofs.Math.Bool.{true, false}
use Rattle.grammar.specs.Data.Book.{Book}
use Rattle.grammar.specs.Automaton.StatesCheck.{kernel_rules}
use Rattle.grammar.specs.Automaton.Compiled.{states_refusal}
use Rattle.agreement.specs.OneFormula.{formulas_right}
use Rattle.compiler.specs.States.{goes_right, acts_right, tables_refusal, kernels-refused, goes-refused, acts-refused, none-refused}

-- a refusal found so far, or else 10 where the formulas are not right
unfoldable pub with_formulas : ℕ → Bool → ℕ
with_formulas zero right = elim right [ true ↦ 0 | false ↦ 10 ]
with_formulas (suc refusal) right = suc refusal

module _ (b : Book) where
  states-kernels : kernel_rules b ≡ false → states_refusal b ≡ 7
  unfolding states_refusal
  states-kernels e = rw (e, states_refusal)

  module _ (k : kernel_rules b ≡ true) where
    states-goes : goes_right b ≡ false → states_refusal b ≡ 8
    unfolding states_refusal
    states-goes e = rw (k, e, states_refusal)

    module _ (g : goes_right b ≡ true) where
      states-acts : acts_right b ≡ false → states_refusal b ≡ 9
      unfolding states_refusal
      states-acts e = rw (k, g, e, states_refusal)

      module _ (a : acts_right b ≡ true) where
        states-formulas : formulas_right b ≡ false → states_refusal b ≡ 10
        unfolding states_refusal
        states-formulas e = rw (k, g, a, e, states_refusal)

        states-right : formulas_right b ≡ true → states_refusal b ≡ 0
        unfolding states_refusal
        states-right e = rw (k, g, a, e, states_refusal)

  pub states-refusal : states_refusal b ≡ with_formulas (tables_refusal b) (formulas_right b)
  unfolding with_formulas
  states-refusal = go (kernel_rules b) refl (goes_right b) refl (acts_right b) refl (formulas_right b) refl
    where
      go : (k : Bool) → kernel_rules b ≡ k → (g : Bool) → goes_right b ≡ g → (a : Bool) → acts_right b ≡ a → (f : Bool) → formulas_right b ≡ f
          → states_refusal b ≡ with_formulas (tables_refusal b) (formulas_right b)
      go false k g _ a _ f _ = rw (states-kernels k, kernels-refused b k)
      go true k false g a _ f _ = rw (states-goes k g, goes-refused b k g)
      go true k true g false a f _ = rw (states-acts k g a, acts-refused b k g a)
      go true k true g true a false f = rw (states-formulas k g a f, none-refused b k g a, f)
      go true k true g true a true f = rw (states-right k g a f, none-refused b k g a, f)

-- opens every definition of this module
unfoldable pub opens : Unit {0}
unfolding with_formulas
opens = tt
