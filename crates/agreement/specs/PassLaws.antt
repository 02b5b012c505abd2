-- Laws of a pass of the one-formula check over words. Assumes nothing.
use Rattle.std.specs.Prelude.{ℕ, ◌+◌, ◌<◌, ◌≡◌, refl, Bool, Option, Some, None, List}
use Rattle.std.proofs.Common.{add-one, arith}
use Rattle.grammar.specs.Data.Book.{Book}
use Rattle.grammar.specs.Formulas.Slots.{Slots}
use Rattle.grammar.specs.Formulas.Passes.{visits}
use Rattle.grammar.specs.Formulas.FormulaCheck as grammar
use Rattle.grammar.specs.Formulas.FormulaCheck.{progress, split, visit}
use Rattle.grammar.proofs.Formulas.FormulaCheckAll.{split_stays}
use Rattle.agreement.specs.declared.check.Progress.{Progress}
use Rattle.agreement.specs.Progress.{ProgressIn, Reached, going, apart}

module _ {words marks table heads nexts : List ℕ} where
  -- without a split there is a progress
  pub reached-stands : {p : Progress} {s : grammar.Progress} → Reached words marks table heads nexts (Some p) s
      → (slots : Slots) × (done : List Bool) × (s ≡ progress slots done) × ProgressIn slots done words marks table heads nexts p
  reached-stands (going {slots = slots} {done = done} R) = (slots, done, refl, R)

  pub reached-split : {s : grammar.Progress} → Reached words marks table heads nexts None s → s ≡ split
  reached-split apart = refl

module _ (b : Book) (member : ℕ → ℕ → Bool) where
  pub visits-turn : (i : ℕ) (s : grammar.Progress) → visits (visit b member) (i + 1) s ≡ visit b member i (visits (visit b member) i s)
  unfolding visits
  visits-turn i s = rw (add-one i, visits)

  module _ {words marks table heads nexts : List ℕ} where
    pub pass-start : {slots : Slots} {done : List Bool} {p : Progress} → ProgressIn slots done words marks table heads nexts p
        → Reached words marks table heads nexts (Some p) (visits (visit b member) 0 (progress slots done))
    unfolding visits
    pass-start R = going R

    -- a split ends the pass
    pub pass-split : (i n : ℕ) (s : grammar.Progress) → i < n → Reached words marks table heads nexts None (visits (visit b member) (i + 1) s)
        → Reached words marks table heads nexts None (visits (visit b member) n s)
    pass-split i n s l R = rw (split_stays b member (i + 1) n s (reached-split R) (omega arith)) apart

    module _ {words' marks' table' heads' nexts' : List ℕ} {p : Progress} {r : Option Progress} where
      -- the visit of place i, from where the places before it end
      visit-on : (i : ℕ) {s : grammar.Progress} → Reached words marks table heads nexts (Some p) s
          → ((slots : Slots) (done : List Bool) → ProgressIn slots done words marks table heads nexts p
          → Reached words' marks' table' heads' nexts' r (visit b member i (progress slots done)))
          → Reached words' marks' table' heads' nexts' r (visit b member i s)
      visit-on i (going R) f = f _ _ R

      pub pass-turn : (i : ℕ) (s : grammar.Progress) → Reached words marks table heads nexts (Some p) (visits (visit b member) i s)
          → ((slots : Slots) (done : List Bool) → ProgressIn slots done words marks table heads nexts p
          → Reached words' marks' table' heads' nexts' r (visit b member i (progress slots done)))
          → Reached words' marks' table' heads' nexts' r (visits (visit b member) (i + 1) s)
      pass-turn i s R f = rw (visits-turn i s) (visit-on i R f)
