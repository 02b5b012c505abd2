-- Laws of order: keys compared by the reader, and what the lines of a section meet one after another.
-- Assumes nothing.
use Rattle.std.specs.Prelude.{ℕ, suc, ◌+◌, ◌≤◌, ◌<◌, ◌≡◌, refl, Bool, true, false, eqb, ltb, length}
use Rattle.std.proofs.Common.{sym, ap, ◌∙◌, arith, eqb-true, eq-eqb, ltb-true, lt-ltb, le-ltb}
use Rattle.std.proofs.lemmas.Bool.{false≢true}
use mathlib.Core.List.Memᴰ.{head as in_head}
use mathlib.Core.List.Memᴰ.{tail as in_Tail}
use mathlib.Core.List.{List, [], ◌∷◌, Memᴰ as Mem}
use Rattle.grammar.specs.Limits.{NUMBERS}
use Rattle.grammar.specs.Format.Ordered.{Before, before_empty, before_less, before_same, Ascends, ascends-[], ascends-∷, Every, every-[], every-∷, Fits, Numbered}
use Rattle.grammar.specs.Format.SectionLaws.{Along, along-[], along-∷}
use Rattle.grammar.specs.Format.Parse.{is_before}

-- Order of keys, decided

pub before-true : (xs ys : List ℕ) → is_before xs ys ≡ true → Before xs ys
unfolding is_before
before-true [] [] h = absurd (false≢true h)
before-true [] (y ∷ ys) h = before_empty
before-true (x ∷ xs) [] h = absurd (false≢true h)
before-true (x ∷ xs) (y ∷ ys) h = go (ltb x y) (eqb x y) refl refl (before-true xs ys)
  where
    go : (s t : Bool) → ltb x y ≡ s → eqb x y ≡ t → (is_before xs ys ≡ true → Before xs ys) → Before (x ∷ xs) (y ∷ ys)
    go true t p q ih = before_less (ltb-true x y p)
    go false true p q ih =
        let z = rw (p, is_before) at h in
        rw (← eqb-true x y q) (before_same (ih (rw q at z)))
    go false false p q ih =
        let z = rw (p, is_before) at h in
        absurd (false≢true (rw q at z))

pub true-before : {xs ys : List ℕ} → Before xs ys → is_before xs ys ≡ true
unfolding is_before
true-before before_empty = refl
true-before (before_less {x = x} {y = y} h) = rw (lt-ltb x y h, is_before)
true-before (before_same {x = x} h) = rw (le-ltb x x (omega arith), is_before) (rw (eq-eqb x x refl) (true-before h))

-- Keys that ascend are all different

before-trans : {xs ys zs : List ℕ} → Before xs ys → Before ys zs → Before xs zs
before-trans before_empty (before_less k) = before_empty
before-trans before_empty (before_same k) = before_empty
before-trans (before_less {x = x} {y = y} h) (before_less {y = z} k) =
    let l : x < z = omega arith in
    before_less l
before-trans (before_less h) (before_same k) = before_less h
before-trans (before_same h) (before_less k) = before_less k
before-trans (before_same h) (before_same k) = before_same (before-trans h k)

pub before-differs : {xs ys : List ℕ} → Before xs ys → xs ≡ ys → ⊥
before-differs before_empty e = let z : ◌≡◌ {A = ℕ} 0 1 = cc in omega arith
before-differs (before_less {x = x} {y = y} h) e =
    let z : x ≡ y = cc in
    omega arith
before-differs (before_same {xs = xs} {ys = ys} h) e = before-differs h (let z : xs ≡ ys = cc in z)

-- the first numbers of keys in order
pub before-first : {x y : ℕ} {xs ys : List ℕ} → Before (x ∷ xs) (y ∷ ys) → x ≤ y
before-first (before_less h) = omega arith
before-first (before_same h) = omega arith

module _ {A : Type 0} {key : A → List ℕ} where
  pub ascends-above : {last : List ℕ} {xs : List A} {x : A} → Ascends key last xs → Mem x xs → Before last (key x)
  ascends-above ascends-[] m = elim m [ ]
  ascends-above (ascends-∷ b bs) (in_head e) = rw e b
  ascends-above (ascends-∷ b bs) (in_Tail m) = before-trans b (ascends-above bs m)

  -- one line for each key
  pub ascends-unique : {last : List ℕ} {xs : List A} {x y : A} → Ascends key last xs → Mem x xs → Mem y xs → key x ≡ key y → x ≡ y
  ascends-unique ascends-[] m _ e = elim m [ ]
  ascends-unique (ascends-∷ b bs) (in_head p) (in_head q) e = p ∙ sym q
  ascends-unique (ascends-∷ b bs) (in_head p) (in_Tail n) e = absurd (before-differs (ascends-above bs n) (ap key (sym p) ∙ e))
  ascends-unique (ascends-∷ b bs) (in_Tail m) (in_head q) e = absurd (before-differs (ascends-above bs m) (ap key (sym q) ∙ sym e))
  ascends-unique (ascends-∷ b bs) (in_Tail m) (in_Tail n) e = ascends-unique bs m n e

-- What a line meets: a number K that fits, or a key above the last

pub record Numbering {A : Type 0} (P : A → Type 0) (K : ℕ) (x : A) : Type 0 where
  pub number : Fits K
  pub fits : P x

pub record Following {A : Type 0} (key : A → List ℕ) (P : A → Type 0) (last : List ℕ) (x : A) : Type 0 where
  pub above : Before last (key x)
  pub fits : P x

-- Sections that meet it

module _ {A : Type 0} {P : A → Type 0} where
  pub every-along : {S : Type 0} {s : S} {xs : List A} → Every P xs → Along (λ s. P) (λ s x. s) s xs
  every-along every-[] = along-[]
  every-along (every-∷ h hs) = along-∷ h (every-along hs)

  pub along-every : {S : Type 0} {s : S} {xs : List A} → Along (λ s. P) (λ s x. s) s xs → Every P xs
  along-every along-[] = every-[]
  along-every (along-∷ h hs) = every-∷ h (along-every hs)

  numbers-from : (K : ℕ) {xs : List A} → K + length xs ≤ NUMBERS → Every P xs → Along (Numbering P) (λ K x. suc K) K xs
  numbers-from K l every-[] = along-[]
  numbers-from K l (every-∷ h hs) = along-∷ {s = K} (record { number = omega arith; fits = h }) (numbers-from (suc K) (omega arith) hs)

  pub numbers-along : {xs : List A} → Numbered P xs → Along (Numbering P) (λ K x. suc K) 0 xs
  numbers-along n = numbers-from 0 (omega arith) n.every

  every-number : {K : ℕ} {xs : List A} → Along (Numbering P) (λ K x. suc K) K xs → Every P xs
  every-number along-[] = every-[]
  every-number (along-∷ h hs) = every-∷ h.fits (every-number hs)

  count-numbers : (K : ℕ) {xs : List A} → K ≤ NUMBERS → Along (Numbering P) (λ K x. suc K) K xs → K + length xs ≤ NUMBERS
  count-numbers K l along-[] = omega arith
  count-numbers K l (along-∷ h hs) = omega (arith, count-numbers (suc K) h.number hs)

  pub along-numbers : {xs : List A} → Along (Numbering P) (λ K x. suc K) 0 xs → Numbered P xs
  along-numbers hs = record { count = omega (arith, count-numbers 0 (omega arith) hs); every = every-number hs }

  module _ {key : A → List ℕ} where
    pub ascends-along : {last : List ℕ} {xs : List A} → Ascends key last xs → Every P xs → Along (Following key P) (λ last. key) last xs
    ascends-along ascends-[] every-[] = along-[]
    ascends-along (ascends-∷ b bs) (every-∷ h hs) = along-∷ (record { above = b; fits = h }) (ascends-along bs hs)

    pub along-ascends : {last : List ℕ} {xs : List A} → Along (Following key P) (λ last. key) last xs → Ascends key last xs
    along-ascends along-[] = ascends-[]
    along-ascends (along-∷ h hs) = ascends-∷ h.above (along-ascends hs)

    pub along-fits : {last : List ℕ} {xs : List A} → Along (Following key P) (λ last. key) last xs → Every P xs
    along-fits along-[] = every-[]
    along-fits (along-∷ h hs) = every-∷ h.fits (along-fits hs)

-- two properties of every element
module _ {A : Type 0} {P Q : A → Type 0} where
  pub every-both : {xs : List A} → Every P xs → Every Q xs → Every (λ x. P x × Q x) xs
  every-both every-[] every-[] = every-[]
  every-both (every-∷ p ps) (every-∷ q qs) = every-∷ (p, q) (every-both ps qs)

  pub every_first : {xs : List A} → Every (λ x. P x × Q x) xs → Every P xs
  every_first every-[] = every-[]
  every_first (every-∷ h hs) = every-∷ h.0 (every_first hs)

  pub every-second : {xs : List A} → Every (λ x. P x × Q x) xs → Every Q xs
  every-second every-[] = every-[]
  every-second (every-∷ h hs) = every-∷ h.1 (every-second hs)
