-- What the laws of states and sets take of a book, from its order (2), limits (3) and declared names (4).
-- Assumes nothing.
use Rattle.std.specs.Prelude.{ℕ, ◌<◌, ◌≡◌, refl, length}
use Rattle.std.proofs.Common.{arith}
use mathlib.Core.List.Memᴰ
use mathlib.Core.List.Memᴰ.{head as in_head}
use mathlib.Core.List.Memᴰ.{tail as in_Tail}
use mathlib.Core.List.{List, [], ◌∷◌, Memᴰ as Mem}
use Rattle.grammar.specs.Data.Symbol.{Symbol, terminal, nonterminal, right_of}
use Rattle.grammar.specs.Data.Book.{Book, Kernel, Go}
use Rattle.grammar.specs.Format.Ordered.{Ascends, ascends-[], ascends-∷, Every, every-[], every-∷, Ordered, kernel_key, go_key}
use Rattle.grammar.specs.Format.OrderLaws.{before-differs, ascends-above}
use Rattle.grammar.specs.Conditions.Meaning.{WithinLimits, Declared, RightSymbol}
use Rattle.grammar.specs.Conditions.MeaningLaws.{symbols-declared, left-declared}
use Rattle.grammar.specs.Automaton.Small.{number_of, low-all, SmallBook}
use Rattle.grammar.specs.Automaton.WellNamed.{Distinct, none, next, SameItem, SameGo, WellNamed}

-- strict ascent leaves no two lines of one key

module _ {A : Type 0} {key : A → List ℕ} {Same : A → A → Type 0} (same_key : (x y : A) → Same x y → key x ≡ key y) where
  ascent-distinct : {last : List ℕ} {xs : List A} → Ascends key last xs → Distinct Same xs
  ascent-distinct ascends-[] = none
  ascent-distinct (ascends-∷ {x = x} h a) = next (λ y m s. before-differs (ascends-above a m) (same_key x y s)) (ascent-distinct a)

kernel-same : (k l : Kernel) → SameItem k l → kernel_key k ≡ kernel_key l
unfolding kernel_key
kernel-same k l s = rw (s.same_state, s.same_rule, s.same_dot)

go_same : (g h : Go) → SameGo g h → go_key g ≡ go_key h
unfolding go_key
go_same g h s = rw (s.same_state, s.same-symbol)

-- every kernel has a lookahead

some_in : (l : List ℕ) → 0 < length l → (a : ℕ) × Mem a l
some_in [] h = absurd (omega arith)
some_in (a ∷ l) h = (a, in_head refl)

every-at : {A : Type 0} {P : A → Type 0} {xs : List A} → Every P xs → (x : A) → Mem x xs → P x
every-at every-[] x m = absurd (Memᴰ.not-nil m)
every-at (every-∷ p ps) x (in_head e) = rw e p
every-at (every-∷ p ps) x (in_Tail m) = every-at ps x m

module _ {b : Book} (ordered : Ordered b) (limits : WithinLimits b) (declared : Declared b) where
  pub well_named : WellNamed b
  well_named = record {
    distinct_kernels = ascent-distinct kernel-same ordered.kernels;
    distinct_goes = ascent-distinct go_same ordered.goes;
    terminals_fit = omega (arith, limits.terminals_limit.high);
    kernel-states = λ k m. (declared.kernels-declared k m).state_there;
    kernel_dots = λ k m. (declared.kernels-declared k m).dot_there;
    kernel_lookaheads = λ k m. (declared.kernels-declared k m).lookaheads_there;
    go_states = λ g m. (declared.goes_declared g m).state_there;
    right_terminals = λ r m a n. (declared.right_symbols r m (terminal a) n).high;
  }

  low-symbol : (X : Symbol) → RightSymbol b X → number_of X < 32
  low-symbol (terminal a) h = omega (arith, h.high, limits.terminals_limit.high)
  low-symbol (nonterminal B) h = omega (arith, h.high, limits.nonterminals_limit.high)

  pub small-book : SmallBook b
  small-book = record {
    small_rules = record {
      left_low = λ P h. omega (arith, left-declared declared P h, limits.nonterminals_limit.high);
      right_low = λ P h. low-all (right_of b.rules P) (λ X m. low-symbol X (symbols-declared declared P X m));
    };
    low_lookaheads = λ k m a n. omega (arith, (declared.kernels-declared k m).lookaheads_there a n, limits.terminals_limit.high);
    some_lookahead = λ k m. some_in k.lookaheads (every-at ordered.lookaheads k m).some;
  }
