-- Keys of lines that ascend, in code, and the laws of their order.
-- Assumes nothing.
use Rattle.std.specs.declared.cmp.Ordering.{Ordering}
use Rattle.std.specs.declared.cmp.Ordering.TheVariants.{Less, Equal, Greater}
use Rattle.std.specs.Ordering.{nat_cmp, is_lt, is_some_and, partial_ordering_then}
use Rattle.std.specs.Prelude.{ℕ, ◌+◌, ◌≤◌, ◌≡◌, Bool, List, [], ◌∷◌, Option, Some, None, length}
use Rattle.std.proofs.Math.Path.{refl}
use Rattle.std.proofs.Math.Bool.{true, false}
use Rattle.std.proofs.Common.{arith, eq-eqb, ne_eqb, le-ltb}
use Rattle.std.proofs.Math.Dec.{eqb, ltb}
use Rattle.text.specs.Rest.{Rest, rest}
use Rattle.grammar.specs.Format.Reader.{Parsed, Reader}
use Rattle.grammar.specs.Format.Parse.{is_before}
use Rattle.book.specs.declared.order.Key.{Key}
use Rattle.book.specs.Sections.{Shrinks, PutsKeyed, Filling, filling-turn}

abbrev pub key_of : Key → List ℕ
key_of k = k.first ∷ k.second ∷ k.third ∷ []

-- the key of the line before; before the first there is none
abbrev pub last_key : {A : Type 0} → (A → List ℕ) → Option A → List ℕ
last_key key None = []
last_key key (Some x) = key x

module _ (x y : ℕ) where
  pub before-unequal : (xs ys : List ℕ) → (x ≡ y → ⊥) → ltb x y ≡ is_before (x ∷ xs) (y ∷ ys)
  unfolding is_before
  before-unequal xs ys h = go (ltb x y) refl
    where
      go : (t : Bool) → ltb x y ≡ t → ltb x y ≡ is_before (x ∷ xs) (y ∷ ys)
      go true e = rw (e, is_before)
      go false e = rw (e, is_before) (rw (ne_eqb x y h))

  pub before-equal : (xs ys : List ℕ) → x ≡ y → is_before xs ys ≡ is_before (x ∷ xs) (y ∷ ys)
  unfolding is_before
  before-equal xs ys h = rw (le-ltb x y (omega arith), is_before) (rw (eq-eqb x y h))

  pub before-one : ltb x y ≡ is_before (x ∷ []) (y ∷ [])
  unfolding is_before
  before-one = go (ltb x y) (eqb x y) refl refl
    where
      go : (t s : Bool) → ltb x y ≡ t → eqb x y ≡ s → ltb x y ≡ is_before (x ∷ []) (y ∷ [])
      go true s e f = rw (e, is_before)
      go false true e f = rw (e, is_before) (rw f)
      go false false e f = rw (e, is_before) (rw f)

  -- the first numbers decide, and where they are the same, the others
  before-next : (others : Option Ordering) (xs ys : List ℕ) → is_some_and is_lt others ≡ is_before xs ys
      → is_some_and is_lt (partial_ordering_then (Some (nat_cmp x y)) others) ≡ is_before (x ∷ xs) (y ∷ ys)
  unfolding is_before
  before-next others xs ys h = go (ltb x y) (eqb x y) refl refl
    where
      go : (t s : Bool) → ltb x y ≡ t → eqb x y ≡ s
          → is_some_and is_lt (partial_ordering_then (Some (nat_cmp x y)) others) ≡ is_before (x ∷ xs) (y ∷ ys)
      go true s e f = rw (e, is_before)
      go false true e f = rw (e, is_before) (rw f h)
      go false false e f = rw (e, is_before) (rw f)

then-equal : (o : Ordering) → partial_ordering_then (Some o) (Some Equal) ≡ Some o
then-equal Less = refl
then-equal Equal = refl
then-equal Greater = refl

-- keys as `<` compares them
pub key-before : (a b : Key)
    → is_some_and is_lt (partial_ordering_then (Some (nat_cmp a.first b.first)) (partial_ordering_then (Some (nat_cmp a.second b.second)) (Some (nat_cmp a.third b.third))))
    ≡ is_before (key_of a) (key_of b)
unfolding is_before
key-before a b =
    rw (← then-equal (nat_cmp a.third b.third))
    (before-next a.first b.first _ (a.second ∷ a.third ∷ []) (b.second ∷ b.third ∷ [])
    (before-next a.second b.second _ (a.third ∷ []) (b.third ∷ []) (before-next a.third b.third (Some Equal) [] [] refl)))

-- amid a section whose lines have keys, the state is the last key
pub keyed-turn : {A : Type 0} (head : Rest → Rest) (one : List ℕ → Reader A) (keyed words : A → List ℕ) (room : ℕ) → Shrinks head one
    → {text out₀ out out' last key : List ℕ} {start : Parsed (List A)} {k at a at' : ℕ}
    → Filling head one (λ before. keyed) words room text start out₀ last k at out → rest text a ≡ head (rest text at) → a ≤ length text
    → PutsKeyed keyed words room k (one last (rest text a)) text out key at' out'
    → Filling head one (λ before. keyed) words room text start out₀ key (k + 1) at' out'
keyed-turn head one keyed words room shrinks {text} f e h p =
    filling-turn head one (λ before. keyed) words room shrinks text f e h p.puts p.key-is
