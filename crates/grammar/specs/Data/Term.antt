-- Expressions over leaves of any kind: a rule's definitions have places of the rule for leaves, formulas have places of the stacks.
-- Assumes nothing.
use Rattle.std.specs.Prelude.{ℕ, zero, suc, ◌+◌, ◌-◌, ◌%◌, min as smaller, max as larger}

pub data Operator : Type 0 where
  add sub min max : Operator
  deriving Discrete as Operator-discrete

pub data Term (A : Type 0) : Type 0 where
  number : ℕ → Term A
  leaf : A → Term A
  both : Operator → Term A → Term A → Term A
  pick : Term A → Term A → Term A → Term A
  deriving Discrete as Term-discrete

-- "Each bracket, and each number that is itself an expression, counts as one node"
unfoldable pub nodes : {A : Type 0} → Term A → ℕ
nodes (number n) = 1
nodes (leaf a) = 1
nodes (both o s t) = nodes s + nodes t + 1
nodes (pick c s t) = nodes c + nodes s + nodes t + 1

-- "Sums and differences are taken modulo 4,294,967,296"
unfoldable pub apply : Operator → ℕ → ℕ → ℕ
apply add x y = (x + y) % 4294967296
apply sub x y = (x + (4294967296 - y)) % 4294967296
apply min x y = smaller x y
apply max x y = larger x y

-- "(pick c x y) (y if c is 0, else x)"
unfoldable pub choose : ℕ → ℕ → ℕ → ℕ
choose zero x y = y
choose (suc c) x y = x

-- the value of a term whose leaves have the values ρ
unfoldable pub eval : {A : Type 0} → Term A → (A → ℕ) → ℕ
eval (number n) ρ = n
eval (leaf a) ρ = ρ a
eval (both o s t) ρ = apply o (eval s ρ) (eval t ρ)
eval (pick c s t) ρ = choose (eval c ρ) (eval s ρ) (eval t ρ)

-- the term with each leaf a replaced by f a
unfoldable pub replace : {A B : Type 0} → Term A → (A → Term B) → Term B
replace (number n) f = number n
replace (leaf a) f = f a
replace (both o s t) f = both o (replace s f) (replace t f)
replace (pick c s t) f = pick (replace c f) (replace s f) (replace t f)

-- every leaf of the term is in R
pub data Leaves {A : Type 0} (R : A → Type 0) : Term A → Type 0 where
  in_number : {n : ℕ} → Leaves R (number n)
  in_leaf : {a : A} → R a → Leaves R (leaf a)
  in_both : {o : Operator} {s t : Term A} → Leaves R s → Leaves R t → Leaves R (both o s t)
  in_pick : {c s t : Term A} → Leaves R c → Leaves R s → Leaves R t → Leaves R (pick c s t)

-- opens every definition of this module
unfoldable pub opens : Unit {0}
unfolding nodes apply choose eval replace
opens = tt
