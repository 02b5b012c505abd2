-- What the names in a book give of its closures: a state that has an item is below the number of states, dots stand within their rules, and lookaheads
-- and terminals behind dots are terminals of the book. Assumes what line order, limits and declared names give (WellNamed).
use Rattle.std.specs.Prelude.{ℕ, zero, suc, ◌≤◌, ◌<◌, ◌≡◌, refl, length, drop}
use Rattle.std.proofs.Common.{arith, ⊎_elim}
use mathlib.Core.List.Memᴰ.{head as in_head}
use mathlib.Core.List.Memᴰ.{not-nil as not-in-nil}
use mathlib.Core.List.Memᴰ.{tail as in_Tail}
use mathlib.Core.List.{List, [], ◌∷◌, Memᴰ as Mem}
use mathlib.Core.List.Memᴰ.{append_cases as in-append}
use Rattle.grammar.specs.Data.Symbol.{Symbol, terminal, Rule, rule_at, right_of, after}
use Rattle.grammar.specs.Data.Book.{Book}
use Rattle.grammar.specs.Automaton.First.{First, past, here, expand}
use Rattle.grammar.specs.Automaton.Items.{derives, kernel_item, Closure, kernel, close}
use Rattle.grammar.specs.Automaton.WellNamed.{WellNamed}

in-drop : {A : Type 0} (D : ℕ) (l : List A) (x : A) → Mem x (drop D l) → Mem x l
in-drop zero l x m = m
in-drop (suc D) [] x m = m
in-drop (suc D) (y ∷ l) x m = in_Tail (in-drop D l x m)

-- a symbol of a rule's right side stands in the rule's line
right-line : (G : List Rule) (P : ℕ) (X : Symbol) → Mem X (right_of G P) → (r : Rule) × Mem r G × Mem X r.right
unfolding rule_at
right-line [] P X m = absurd (not-in-nil m)
right-line (r ∷ G) zero X m = (r, in_head refl, m)
right-line (r ∷ G) (suc P) X m = let (q, n, i) = right-line G P X m in (q, in_Tail n, i)

-- the terminals in a list of symbols are at most tT
abbrev Known : ℕ → List Symbol → Type 0
Known T β = (a : ℕ) → Mem (terminal a) β → a ≤ T

module _ {b : Book} (w : WellNamed b) where
  right-known : (P : ℕ) → Known b.terminals (right_of b.rules P)
  right-known P a m = let (r, n, i) = right-line b.rules P (terminal a) m in w.right_terminals r n a i

  after-known : (P D : ℕ) {β : List Symbol} → after b.rules P D ≡ β → Known b.terminals β
  after-known P D e a m = right-known P a (in-drop D (right_of b.rules P) (terminal a) (rw e m))

  pub next-terminal : (P D a : ℕ) {β : List Symbol} → after b.rules P D ≡ terminal a ∷ β → a ≤ b.terminals
  next-terminal P D a e = after-known P D e a (in_head refl)

  first-terminal : {β : List Symbol} {c a : ℕ} → First b.rules β c a → Known b.terminals β → c ≤ b.terminals → a ≤ b.terminals
  first-terminal past known l = l
  first-terminal here known l = known _ (in_head refl)
  first-terminal (expand {P = P} h e f) known l =
      first-terminal f (λ t m. ⊎_elim (right-known P t) (λ n. known t (in_Tail n)) (in-append (right_of b.rules P) m)) l

  pub closure-state : {S P D a : ℕ} → Closure b S P D a → S < b.states
  closure-state (kernel (kernel_item {k = k} m e p d i)) = let l : k.state < b.states = w.kernel-states k m in omega arith
  closure-state (close c d) = closure-state c

  pub closure-dot : {S P D a : ℕ} → Closure b S P D a → D ≤ length (right_of b.rules P)
  closure-dot (kernel (kernel_item {k = k} m e p d i)) = rw (← p, ← d) (w.kernel_dots k m)
  closure-dot (close c d) = omega arith

  pub closure-terminal : {S P D a : ℕ} → Closure b S P D a → a ≤ b.terminals
  closure-terminal (kernel (kernel_item {k = k} m e p d i)) = w.kernel_lookaheads k m _ i
  closure-terminal (close {P = P} {D = D} c (derives e q l f)) = first-terminal f (λ t m. after-known P D e t (in_Tail m)) (closure-terminal c)
