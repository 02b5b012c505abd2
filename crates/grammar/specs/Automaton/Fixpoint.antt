-- Least sets closed under constraints, found by passes until nothing changes. Nullable, FIRST, the closures and what items reach are such sets.
-- Assumes nothing.
use Rattle.std.specs.Prelude.{ℕ, zero, suc, ◌^◌, Bool, true, false, List, [], ◌∷◌, eqb, get_or, set}
use Rattle.sets.specs.Sets.{union}

-- steps until one changes nothing, as `same` tells; the number bounds them
module _ {S : Type 0} (same : S → S → Bool) (step : S → S) where
  unfoldable pub iterate : ℕ → S → S
  iterate zero s = s
  iterate (suc fuel) s = let next : S = step s in elim (same next s) [ true ↦ s | false ↦ iterate fuel next ]

-- a family of sets is the list of them; past the end the set is empty
abbrev pub set_at : List ℕ → ℕ → ℕ
set_at sets i = get_or sets i 0

unfoldable pub same_sets : List ℕ → List ℕ → Bool
same_sets [] [] = true
same_sets [] (y ∷ ys) = false
same_sets (x ∷ xs) [] = false
same_sets (x ∷ xs) (y ∷ ys) = elim (eqb x y) [ true ↦ same_sets xs ys | false ↦ false ]

-- what the sets now standing give to the set at `target`
pub record Constraint : Type 0 where
  pub target : ℕ
  pub gives : List ℕ → ℕ

unfoldable pub visit : Constraint → List ℕ → List ℕ
visit c sets = set sets c.target (union (set_at sets c.target) (c.gives sets))

-- a constraint that gives nothing
abbrev pub idle : Constraint
idle = record { target = 0; gives = λ sets. 0 }

module _ (constraint : ℕ → Constraint) where
  -- the constraints below a number, one after the other
  unfoldable pub visits : ℕ → List ℕ → List ℕ
  visits zero sets = sets
  visits (suc p) sets = visit (constraint p) (visits p sets)

  -- the least family with `first` that is closed under the constraints below `count`: each pass that changes anything makes a set larger
  unfoldable pub least : ℕ → List ℕ → List ℕ
  least count first = iterate same_sets (visits count) (2 ^ 40) first

-- opens every definition of this module
unfoldable pub opens : Unit {0}
unfolding iterate same_sets visit visits least
opens = tt
