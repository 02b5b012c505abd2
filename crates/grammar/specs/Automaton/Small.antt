-- Grammars and books whose symbols are numbered below 32, so that sets hold them: 01 has T and N at most 31.
-- Assumes nothing.
use Rattle.std.specs.Prelude.{ℕ, zero, suc, ◌<◌, ◌≤◌, ◌≡◌, refl, Bool, true, false, ltb, length, get_or, drop}
use Rattle.std.proofs.Common.{sym, subst, arith, ltb-true, ltb-false}
use mathlib.Core.List.Memᴰ.{head as mem-head}
use mathlib.Core.List.Memᴰ.{tail as mem-tail}
use mathlib.Core.List.{List, [], ◌∷◌, Memᴰ as Mem}
use Rattle.std.proofs.Math.ListN.{get_or-eq_default}
use Rattle.grammar.specs.Data.Symbol.{Symbol, terminal, nonterminal, Rule, rule_at, left_of, right_of, after}
use Rattle.grammar.specs.Data.Book.{Book, Kernel}

abbrev pub number_of : Symbol → ℕ
number_of (terminal a) = a
number_of (nonterminal B) = B

-- every symbol has a number below 32
abbrev pub Low : List Symbol → Type 0
Low [] = Unit
Low (X ∷ β) = (number_of X < 32) × Low β

pub low-all : (β : List Symbol) → ((X : Symbol) → Mem X β → number_of X < 32) → Low β
low-all [] h = tt
low-all (X ∷ β) h = (h X (mem-head refl), low-all β (λ Y m. h Y (mem-tail m)))

pub low-at : (β : List Symbol) (D : ℕ) → Low β → number_of (get_or β D (terminal 0)) < 32
low-at [] D l = omega arith
low-at (X ∷ β) zero l = l.0
low-at (X ∷ β) (suc D) l = low-at β D l.1

pub low-drop : (D : ℕ) (β : List Symbol) → Low β → Low (drop D β)
low-drop zero β l = l
low-drop (suc D) [] l = tt
low-drop (suc D) (X ∷ β) l = low-drop D β l.1

pub record Small (G : List Rule) : Type 0 where
  pub left_low : (P : ℕ) → P < length G → left_of G P < 32
  pub right_low : (P : ℕ) → P < length G → Low (right_of G P)

past-last : (G : List Rule) (P : ℕ) → length G ≤ P → rule_at G P ≡ record { left = 0; right = [] }
unfolding rule_at
past-last G P h = get_or-eq_default G (record { left = 0; right = [] }) h

-- past the last rule there is no right symbol
pub low-right : (G : List Rule) → Small G → (P : ℕ) → Low (right_of G P)
low-right G H P = go (ltb P (length G)) refl
  where
    go : (t : Bool) → ltb P (length G) ≡ t → Low (right_of G P)
    go true e = H.right_low P (ltb-true P (length G) e)
    go false e = subst (λ (R : Rule). Low R.right) (sym (past-last G P (ltb-false P (length G) e))) tt

pub low-after : (G : List Rule) → Small G → (P D : ℕ) → Low (after G P D)
low-after G H P D = low-drop D (right_of G P) (low-right G H P)

pub record SmallBook (b : Book) : Type 0 where
  pub small_rules : Small b.rules
  pub low_lookaheads : (k : Kernel) → Mem k b.kernels → (a : ℕ) → Mem a k.lookaheads → a < 32
  -- "one or more lookaheads"
  pub some_lookahead : (k : Kernel) → Mem k b.kernels → (a : ℕ) × Mem a k.lookaheads
