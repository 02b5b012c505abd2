-- What a byte's class says of the byte: digits and small letters are ranges, and each of the other four classes is one byte.
-- Assumes nothing.
use Rattle.std.specs.Prelude.{ℕ, ◌≤◌, ◌≡◌, refl, Bool, true, false, leb}
use Rattle.std.proofs.Common.{arith, leb-true, le-leb}
use Rattle.text.specs.Class.{digit, letter, open-bracket, close-bracket, space, line-feed, other, between, class_of}

between_in : (low high b x y : ℕ) → low ≤ b → b ≤ high → between low high b x y ≡ x
between_in low high b x y h k = rw (le-leb low b h, le-leb b high k)

by-between : {C : Type 0} (low high b x y c : ℕ) → between low high b x y ≡ c → (low ≤ b → b ≤ high → x ≡ c → C) → (y ≡ c → C) → C
by-between {C} low high b x y c e inside outside = go (leb low b) (leb b high) refl refl
  where
    go : (s t : Bool) → leb low b ≡ s → leb b high ≡ t → C
    go true true p q = inside (leb-true low b p) (leb-true b high q) (rw (p, q) at e)
    go true false p q = outside (rw (p, q) at e)
    go false t p q = outside (rw p at e)

-- the class of a byte, taken apart by the ranges
by-class : {C : Type 0} (b c : ℕ) → class_of b ≡ c → (48 ≤ b → b ≤ 57 → digit ≡ c → C) → (97 ≤ b → b ≤ 122 → letter ≡ c → C)
    → (40 ≤ b → b ≤ 40 → open-bracket ≡ c → C) → (41 ≤ b → b ≤ 41 → close-bracket ≡ c → C) → (32 ≤ b → b ≤ 32 → space ≡ c → C)
    → (10 ≤ b → b ≤ 10 → line-feed ≡ c → C) → (other ≡ c → C) → C
unfolding class_of
by-class b c e a-digit a-letter opens closes a-space ends a-other =
    by-between 48 57 b digit _ c e a-digit λ e₁. by-between 97 122 b letter _ c e₁ a-letter λ e₂. by-between 40 40 b open-bracket _ c e₂ opens
    λ e₃. by-between 41 41 b close-bracket _ c e₃ closes λ e₄. by-between 32 32 b space _ c e₄ a-space λ e₅. by-between 10 10 b line-feed _ c e₅ ends a-other

pub digit-range : (b : ℕ) → class_of b ≡ digit → (48 ≤ b) × (b ≤ 57)
digit-range b e =
    by-class b digit e (λ h k q. (h, k)) (λ h k q. absurd (omega arith)) (λ h k q. absurd (omega arith)) (λ h k q. absurd (omega arith))
    (λ h k q. absurd (omega arith)) (λ h k q. absurd (omega arith)) (λ q. absurd (omega arith))

pub letter-range : (b : ℕ) → class_of b ≡ letter → (97 ≤ b) × (b ≤ 122)
letter-range b e =
    by-class b letter e (λ h k q. absurd (omega arith)) (λ h k q. (h, k)) (λ h k q. absurd (omega arith)) (λ h k q. absurd (omega arith))
    (λ h k q. absurd (omega arith)) (λ h k q. absurd (omega arith)) (λ q. absurd (omega arith))

pub range-digit : (b : ℕ) → 48 ≤ b → b ≤ 57 → class_of b ≡ digit
unfolding class_of
range-digit b h k = between_in 48 57 b digit _ h k

-- the byte of a class that has one byte alone
unfoldable pub byte_of : ℕ → ℕ
byte_of c = between 3 3 c 40 (between 4 4 c 41 (between 5 5 c 32 10))

pub marked : (b c : ℕ) → 3 ≤ c → class_of b ≡ c → b ≡ byte_of c
unfolding byte_of
marked b c l e =
    by-class b c e (λ h k q. absurd (omega arith)) (λ h k q. absurd (omega arith)) (λ h k q. rw (← q) (omega arith)) (λ h k q. rw (← q) (omega arith))
    (λ h k q. rw (← q) (omega arith)) (λ h k q. rw (← q) (omega arith)) (λ q. absurd (omega arith))
