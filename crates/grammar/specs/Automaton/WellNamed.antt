-- What the tests of a book's states rest on: facts that line order (2), the limits (3) and declared names (4) give.
-- Assumes nothing.
use Rattle.std.specs.Prelude.{ℕ, ◌≤◌, ◌<◌, ◌≡◌, length}
use Rattle.std.proofs.Common.{sym}
use mathlib.Core.List.Memᴰ.{head as in_head}
use mathlib.Core.List.Memᴰ.{not-nil as not-in-nil}
use mathlib.Core.List.Memᴰ.{tail as in_Tail}
use mathlib.Core.List.{List, [], ◌∷◌, Memᴰ as Mem}
use Rattle.grammar.specs.Data.Symbol.{terminal, Rule, right_of}
use Rattle.grammar.specs.Data.Book.{Book, Kernel, Go}

-- no element is the same, in the sense given, as one behind it
pub data Distinct {A : Type 0} (Same : A → A → Type 0) : List A → Type 0 where
  none : Distinct Same []
  next : {x : A} {l : List A} → ((y : A) → Mem y l → Same x y → ⊥) → Distinct Same l → Distinct Same (x ∷ l)

-- two kernel lines of one state, rule and dot
pub record SameItem (k l : Kernel) : Type 0 where
  pub same_state : k.state ≡ l.state
  pub same_rule : k.rule ≡ l.rule
  pub same_dot : k.dot ≡ l.dot

-- two go lines of one state and symbol
pub record SameGo (g h : Go) : Type 0 where
  pub same_state : g.state ≡ h.state
  pub same-symbol : g.symbol ≡ h.symbol

pub record WellNamed (b : Book) : Type 0 where
  -- 2: lines ascend strictly
  pub distinct_kernels : Distinct SameItem b.kernels
  pub distinct_goes : Distinct SameGo b.goes
  -- 3: "T and N are 1 to 31"
  pub terminals_fit : b.terminals < 32
  -- 4: not "undeclared name, rule, position or state; dot past the end"
  pub kernel-states : (k : Kernel) → Mem k b.kernels → k.state < b.states
  pub kernel_dots : (k : Kernel) → Mem k b.kernels → k.dot ≤ length (right_of b.rules k.rule)
  pub kernel_lookaheads : (k : Kernel) → Mem k b.kernels → (a : ℕ) → Mem a k.lookaheads → a ≤ b.terminals
  pub go_states : (g : Go) → Mem g b.goes → g.state < b.states
  pub right_terminals : (r : Rule) → Mem r b.rules → (a : ℕ) → Mem (terminal a) r.right → a ≤ b.terminals

module _ {A : Type 0} {Same : A → A → Type 0} (turn : (x y : A) → Same x y → Same y x) where
  -- of elements that are the same there is one
  pub unique : {l : List A} → Distinct Same l → (x y : A) → Mem x l → Mem y l → Same x y → x ≡ y
  unique none x y m n s = absurd (not-in-nil m)
  unique (next {x = z} {l = l} apart d) x y m n s = go (λ m' n'. unique d x y m' n' s) m n
    where
      go : (Mem x l → Mem y l → x ≡ y) → Mem x (z ∷ l) → Mem y (z ∷ l) → x ≡ y
      go below (in_head e) (in_head e') = cc
      go below (in_head e) (in_Tail n) = absurd (apart y n (rw e at s))
      go below (in_Tail m) (in_head e') = absurd (apart x m (turn x z (rw e' at s)))
      go below (in_Tail m) (in_Tail n) = below m n

pub one-kernel : {b : Book} → WellNamed b → (k l : Kernel) → Mem k b.kernels → Mem l b.kernels → SameItem k l → k ≡ l
one-kernel w =
    unique (λ k l s. record { same_state = sym s.same_state; same_rule = sym s.same_rule; same_dot = sym s.same_dot }) w.distinct_kernels

pub one-go : {b : Book} → WellNamed b → (g h : Go) → Mem g b.goes → Mem h b.goes → SameGo g h → g ≡ h
one-go w = unique (λ g h s. record { same_state = sym s.same_state; same-symbol = sym s.same-symbol }) w.distinct_goes
