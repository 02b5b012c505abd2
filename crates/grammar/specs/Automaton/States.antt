-- What 01 asks of a book's states ("Items and transitions"): the kernel rules (7), the go rules (8), no conflict (9).
-- Assumes nothing.
use Rattle.std.specs.Prelude.{ℕ, suc, ◌≤◌, ◌<◌, ◌≡◌, ◌≢◌, Bool, true, false, ◌&&◌, eqb, length}
use Rattle.std.proofs.Math.Decide.{ℕ_discrete}
use Rattle.std.proofs.Math.Option.{Option, none, some}
use mathlib.Core.List.{List, [], ◌∷◌, Memᴰ as Mem}
use Rattle.grammar.specs.Data.Symbol.{Symbol, Symbol-discrete, terminal, right_of, symbol_at, after}
use Rattle.grammar.specs.Data.Book.{Book, Kernel, Go}
use Rattle.grammar.specs.Automaton.Items.{KernelItem, Closure}

unfoldable pub same_symbol : Symbol → Symbol → Bool
same_symbol X Y = elim (Symbol-discrete ℕ_discrete X Y) [ yes e ↦ true | no n ↦ false ]

-- the target of the go line of state S on symbol X; lines ascend strictly, so there is one at most
unfoldable pub go_in : List Go → ℕ → Symbol → Option ℕ
go_in [] S X = none
go_in (g ∷ gs) S X = elim (eqb g.state S && same_symbol g.symbol X) [ true ↦ some g.target | false ↦ go_in gs S X ]

-- "State 0 has the one kernel (0,0) with t0 alone"
abbrev pub start_kernel : Kernel
start_kernel = record { state = 0; rule = 0; dot = 0; lookaheads = 0 ∷ [] }

pub data Action : Type 0 where
  shift accept : Action
  reduce : ℕ → Action
  deriving Discrete as Action-discrete

module _ (b : Book) where
  abbrev pub go_to : ℕ → Symbol → Option ℕ
  go_to S X = go_in b.goes S X

  -- 7
  pub record KernelRules : Type 0 where
    pub start_there : Mem start_kernel b.kernels
    pub start_only : (k : Kernel) → Mem k b.kernels → k.state ≡ 0 → k ≡ start_kernel
    -- "Any other state has a kernel, all dots at least 1, one and the same symbol before every dot"
    pub has_kernel : (S : ℕ) → 0 < S → S < b.states → (k : Kernel) × Mem k b.kernels × (k.state ≡ S)
    pub dots : (k : Kernel) → Mem k b.kernels → k.state ≢ 0 → 1 ≤ k.dot
    pub one_symbol : (k l : Kernel) → Mem k b.kernels → Mem l b.kernels → k.state ≢ 0 → k.state ≡ l.state
        → symbol_at b.rules k.rule k.dot ≡ symbol_at b.rules l.rule l.dot
    -- "Rule 0's kernels have t0 alone"
    pub start_lookahead : (k : Kernel) → Mem k b.kernels → k.rule ≡ 0 → k.lookaheads ≡ 0 ∷ []

  -- 8
  pub record GoRules : Type 0 where
    -- "A go line on X exists exactly if a closure item has X after its dot"
    pub go_there : (S P D a : ℕ) (X : Symbol) (β : List Symbol) → Closure b S P D a → after b.rules P D ≡ X ∷ β → (M : ℕ) × (go_to S X ≡ some M)
    pub go_needs : (S M : ℕ) (X : Symbol) → go_to S X ≡ some M
        → (P : ℕ) × (D : ℕ) × (a : ℕ) × (β : List Symbol) × Closure b S P D a × (after b.rules P D ≡ X ∷ β)
    -- "its target's (rule, dot) pairs are exactly those advanced over X, its lookaheads at least theirs"
    pub go_has : (S P D a M : ℕ) (X : Symbol) (β : List Symbol) → go_to S X ≡ some M → Closure b S P D a → after b.rules P D ≡ X ∷ β
        → KernelItem b M P (suc D) a
    pub go_only : (S M : ℕ) (X : Symbol) (k : Kernel) → go_to S X ≡ some M → Mem k b.kernels → k.state ≡ M
        → (D : ℕ) × (a : ℕ) × (β : List Symbol) × (k.dot ≡ suc D) × Closure b S k.rule D a × (after b.rules k.rule D ≡ X ∷ β)

  -- "At state and terminal a: shift if a stands after a dot, reduce P if rule P is complete with lookahead a (rule 0: accept)"
  pub data Acts (S : ℕ) : ℕ → Action → Type 0 where
    shifts : {P D a c : ℕ} {β : List Symbol} → Closure b S P D c → after b.rules P D ≡ terminal a ∷ β → Acts S a shift
    reduces : {P a : ℕ} → P ≢ 0 → Closure b S P (length (right_of b.rules P)) a → Acts S a (reduce P)
    accepts : {a : ℕ} → Closure b S 0 (length (right_of b.rules 0)) a → Acts S a accept

  -- 9: "Two different actions are a conflict"
  abbrev pub NoConflict : Type 0
  NoConflict = (S a : ℕ) (x y : Action) → Acts S a x → Acts S a y → x ≡ y

-- opens every definition of this module
unfoldable pub opens : Unit {0}
unfolding ℕ_discrete same_symbol go_in
opens = tt
