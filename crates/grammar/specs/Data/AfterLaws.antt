-- The symbol after a dot: the rule is there, the symbol has a position, and it stands on the right side. Assumes nothing.
use Rattle.std.specs.Prelude.{ℕ, zero, suc, ◌-◌, ◌<◌, ◌≡◌, refl, length, get_or, drop}
use Rattle.std.proofs.Common.{arith}
use mathlib.Core.List.Memᴰ.{head as in_head}
use mathlib.Core.List.Memᴰ.{tail as in_Tail}
use mathlib.Core.List.{List, [], ◌∷◌, Memᴰ as Mem}
use Rattle.grammar.specs.Conditions.Decides.{OneTo}
use Rattle.grammar.specs.Data.Symbol.{Symbol, terminal, Rule, rule_at, right_of, symbol_at, after}

-- an element of a list by its place, and the first after a dot
module _ {A : Type 0} where
  -- what holds of every element and of the default holds at every place
  pub get_or-all : (Q : A → Type 0) (l : List A) (i : ℕ) (d : A) → ((x : A) → Mem x l → Q x) → Q d → Q (get_or l i d)
  get_or-all Q [] i d f q = q
  get_or-all Q (x ∷ l) zero d f q = f x (in_head refl)
  get_or-all Q (x ∷ l) (suc i) d f q = get_or-all Q l i d (λ y m. f y (in_Tail m)) q

  pub drop-inside : (n : ℕ) (l : List A) {x : A} {β : List A} → drop n l ≡ x ∷ β → n < length l
  drop-inside zero [] e = let z : ◌≡◌ {A = ℕ} 0 1 = cc in omega arith
  drop-inside zero (y ∷ l) e = omega arith
  drop-inside (suc n) [] e = let z : ◌≡◌ {A = ℕ} 0 1 = cc in omega arith
  drop-inside (suc n) (y ∷ l) e = let h : n < length l = drop-inside n l e in omega arith

  pub drop-get_or : (n : ℕ) (l : List A) (d : A) {x : A} {β : List A} → drop n l ≡ x ∷ β → get_or l n d ≡ x
  drop-get_or zero [] d e = cc
  drop-get_or zero (y ∷ l) d e = cc
  drop-get_or (suc n) [] d e = cc
  drop-get_or (suc n) (y ∷ l) d e = drop-get_or n l d e

  pub drop-in : (n : ℕ) (l : List A) {γ : List A} → drop n l ≡ γ → {x : A} → Mem x γ → Mem x l
  drop-in zero l e m = rw e m
  drop-in (suc n) [] e m = rw e m
  drop-in (suc n) (y ∷ l) e m = in_Tail (drop-in n l e m)

-- a rule with the symbol X after its dot D is there; D + 1 is a position of it, where X stands
pub after-rule : (G : List Rule) (P D : ℕ) {X : Symbol} {β : List Symbol} → after G P D ≡ X ∷ β → P < length G
unfolding rule_at
after-rule [] P D e = let h : D < length {A = Symbol} [] = drop-inside D [] e in omega arith
after-rule (r ∷ G) zero D e = omega arith
after-rule (r ∷ G) (suc P) D e = let h : P < length G = after-rule G P D e in omega arith

pub after-position : (G : List Rule) (P D : ℕ) {X : Symbol} {β : List Symbol} → after G P D ≡ X ∷ β → OneTo (length (right_of G P)) (suc D)
after-position G P D e = let h : D < length (right_of G P) = drop-inside D (right_of G P) e in record { low = omega arith; high = omega arith }

pub after-symbol : (G : List Rule) (P D : ℕ) {X : Symbol} {β : List Symbol} → after G P D ≡ X ∷ β → symbol_at G P (suc D) ≡ X
unfolding symbol_at
after-symbol G P D e = let n : suc D - 1 ≡ D = omega arith in rw n (drop-get_or D (right_of G P) (terminal 0) e)
