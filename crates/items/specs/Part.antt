-- A part of a list that was lent, changed and put back: `ys` in the place of the k words from a on.
-- Assumes nothing.
use Rattle.std.specs.Prelude.{ℕ, ◌+◌, ◌-◌, ◌<◌, ◌≤◌, ◌≡◌, List, ◌++◌, length, get_or, take, drop}
use Rattle.std.proofs.Common.{ap, ◌∙◌, arith, length-append, length-drop, length-take-le, get_or-append-add, get_or-take, get_or-drop}
use Rattle.std.proofs.Math.ListN.{get_or-append}

abbrev pub put_back : ℕ → ℕ → List ℕ → List ℕ → List ℕ
put_back a k xs ys = take a xs ++ (ys ++ drop k (drop a xs))

module _ (a k : ℕ) (xs ys : List ℕ) (fits : a + k ≤ length xs) (long : length ys ≡ k) where
  front : length (take a xs) ≡ a
  front = length-take-le a xs (omega arith)

  pub back_long : length (put_back a k xs ys) ≡ length xs
  back_long = simp (length-append, length-drop) (omega (arith, front))

  pub back-before : (i : ℕ) → i < a → get_or (put_back a k xs ys) i 0 ≡ get_or xs i 0
  back-before i h = get_or-append (take a xs) (ys ++ drop k (drop a xs)) 0 i (omega (arith, front)) ∙ get_or-take a xs i 0 h

  pub back-within : (i : ℕ) → i < k → get_or (put_back a k xs ys) (a + i) 0 ≡ get_or ys i 0
  back-within i h =
      ap (λ (n : ℕ). get_or (put_back a k xs ys) n 0) (let e : a + i ≡ length (take a xs) + i = omega (arith, front) in e)
      ∙ get_or-append-add (take a xs) (ys ++ drop k (drop a xs)) i 0 ∙ get_or-append ys (drop k (drop a xs)) 0 i (omega arith)

  pub back-behind : (i : ℕ) → a + k ≤ i → get_or (put_back a k xs ys) i 0 ≡ get_or xs i 0
  back-behind i h =
      let n : ℕ = i - (a + k) in
      ap (λ (m : ℕ). get_or (put_back a k xs ys) m 0) (let e : i ≡ length (take a xs) + (length ys + n) = omega (arith, front) in e)
      ∙ get_or-append-add (take a xs) (ys ++ drop k (drop a xs)) (length ys + n) 0 ∙ get_or-append-add ys (drop k (drop a xs)) n 0
      ∙ get_or-drop k (drop a xs) n 0 ∙ get_or-drop a xs (k + n) 0
      ∙ ap (λ (m : ℕ). get_or xs m 0) (let e : a + (k + n) ≡ i = omega arith in e)
