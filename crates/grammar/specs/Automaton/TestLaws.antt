-- Reasoning by a test: what a test picks, and that it tells one thing.
-- Assumes nothing.
use Rattle.std.specs.Prelude.{ℕ, ◌≡◌, refl, Bool, true, false, ◌&&◌}
use Rattle.std.proofs.lemmas.Bool.{false≢true}
use Rattle.std.proofs.Common.{arith}

-- what holds of x if the test passes, and of y if it fails, holds of what it picks
pub by-test : {A : Type 0} (test : Bool) (x y : A) (Q : A → Type 0) → (test ≡ true → Q x) → (test ≡ false → Q y)
    → Q (elim test [ true ↦ x | false ↦ y ])
by-test true x y Q passed failed = passed refl
by-test false x y Q passed failed = failed refl

pub true-false : {C : Type 0} {test : Bool} → test ≡ true → test ≡ false → C
true-false e f = absurd (let z : ◌≡◌ {A = ℕ} 0 1 = cc in omega arith)

pub both_true : (s t : Bool) → s && t ≡ true → (s ≡ true) × (t ≡ true)
both_true true t e = (refl, e)
both_true false t e = absurd (false≢true e)
