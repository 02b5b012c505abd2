-- A cell sums up the actions that are given at a state and a terminal: none, one, or several that differ.
-- Assumes nothing.
use Rattle.std.specs.Prelude.{ℕ, ◌≢◌, ◌⊎◌, Bool}
use Rattle.std.proofs.Math.Decide.{ℕ_discrete}
use Rattle.std.proofs.Common.{arith, sym, ◌∙◌, inl, inr}
use Rattle.std.proofs.Math.Path.{◌≡◌, refl}
use Rattle.std.proofs.Math.Logic.{⊎_elim}
use Rattle.std.proofs.Math.Bool.{true, false, false≢true}
use Rattle.std.proofs.Math.Option.{some}
use mathlib.Core.List.Memᴰ.{head as in_head}
use mathlib.Core.List.Memᴰ.{not-nil as not-in-nil}
use mathlib.Core.List.Memᴰ.{tail as in_Tail}
use mathlib.Core.List.{List, [], ◌∷◌, Memᴰ as Mem}
use Rattle.std.proofs.Math.Dec.{eqb}
use borrow.Author.Tests.{eqb-true, eqb-false}
use Rattle.sets.specs.Sets.{bit, single}
use Rattle.sets.proofs.SetsLaws.{bit-single}
use Rattle.grammar.specs.Data.Symbol.{Symbol, terminal, nonterminal, Rule, after}
use Rattle.grammar.specs.Automaton.States.{Action, Action-discrete, shift}
use Rattle.grammar.specs.Automaton.CoreItems.{Core, core}
use Rattle.grammar.specs.Automaton.Actions.{Cell, free, act, conflict, same_action, meld, completed, meld_item, cell_from, action_of}
use Rattle.grammar.specs.Conditions.Decides.{Decides, true-decides, false-decides, refutes}
use Rattle.grammar.specs.Conditions.DecidesSteps.{Some}

-- the cell of the actions that are given
pub data Sums (Given : Action → Type 0) : Cell → Type 0 where
  no_action : ((x : Action) → Given x → ⊥) → Sums Given free
  one_action : {x : Action} → Given x → ((y : Action) → Given y → y ≡ x) → Sums Given (act x)
  two_actions : {x y : Action} → Given x → Given y → x ≢ y → Sums Given conflict

module _ {Given Other : Action → Type 0} (to : (x : Action) → Given x → Other x) (from : (x : Action) → Other x → Given x) where
  -- the same actions have the same cell
  pub sums_same : {cell : Cell} → Sums Given cell → Sums Other cell
  sums_same (no_action n) = no_action λ x g. n x (from x g)
  sums_same (one_action {x = x} g u) = one_action (to x g) λ y h. u y (from y h)
  sums_same (two_actions {x = x} {y = y} g h n) = two_actions (to x g) (to y h) n

pub same_action-decides : (x y : Action) → Decides (same_action x y) (x ≡ y)
unfolding same_action
same_action-decides x y = go (Action-discrete ℕ_discrete x y)
  where
    go : (d : Dec (x ≡ y)) → Decides (elim d [ yes e ↦ true | no n ↦ false ]) (x ≡ y)
    go (yes e) = true-decides e
    go (no n) = false-decides n

module _ {Given More : Action → Type 0} (x : Action) (new : More x) (old : (y : Action) → Given y → More y)
    (either : (y : Action) → More y → (y ≡ x) ⊎ Given y) where
  -- one action more
  meld-sums : {cell : Cell} → Sums Given cell → Sums More (meld cell x)
  unfolding meld
  meld-sums (no_action n) = one_action new λ y m. ⊎_elim (λ e. e) (λ g. absurd (n y g)) (either y m)
  meld-sums (one_action {x = y} g u) = go (same_action x y) (same_action-decides x y)
    where
      go : (t : Bool) → Decides t (x ≡ y) → Sums More (elim t [ true ↦ act y | false ↦ conflict ])
      go true d = one_action (old y g) λ z m. ⊎_elim (λ e. e ∙ d.sound refl) (u z) (either z m)
      go false d = two_actions new (old y g) (refutes d)
  meld-sums (two_actions {x = y} {y = z} g h n) = two_actions (old y g) (old z h) n

-- ---- the cell of a list of items

-- the action that an item gives at the terminal a: shift if a stands behind its dot, reduce or accept if it is complete with lookahead a
pub data Gives (G : List Rule) (a : ℕ) : Core → Action → Type 0 where
  shifts : {P D M : ℕ} {β : List Symbol} → after G P D ≡ terminal a ∷ β → Gives G a (core P D M) shift
  completes : {P D M : ℕ} {x : Action} → after G P D ≡ [] → bit M a ≡ true → x ≡ completed P → Gives G a (core P D M) x

module _ (G : List Rule) (a : ℕ) where
  -- some item of the list gives the action
  abbrev pub Given : List Core → Action → Type 0
  Given items x = Some (λ c. Gives G a c x) items

  further : (c : Core) (items : List Core) (x : Action) → Given items x → Given (c ∷ items) x
  further c items x (d, m, g) = (d, in_Tail m, g)

  head-or-rest : (c : Core) (items : List Core) (x : Action) → Given (c ∷ items) x → Gives G a c x ⊎ Given items x
  head-or-rest c items x (d, m, g) = go m
    where
      go : Mem d (c ∷ items) → Gives G a c x ⊎ Given items x
      go (in_head e) = inl (rw e at g)
      go (in_Tail n) = inr (d, n, g)

  head-gives : (c : Core) (items : List Core) (x : Action) {cell : Cell} → Gives G a c x → ((y : Action) → Gives G a c y → y ≡ x)
      → Sums (Given items) cell → Sums (Given (c ∷ items)) (meld cell x)
  head-gives c items x g only =
      meld-sums x (c, in_head refl, g) (further c items) (λ y m. ⊎_elim (λ h. inl (only y h)) (λ h. inr h) (head-or-rest c items y m))

  head-gives-none : (c : Core) (items : List Core) {cell : Cell} → ((y : Action) → Gives G a c y → ⊥)
      → Sums (Given items) cell → Sums (Given (c ∷ items)) cell
  head-gives-none c items never =
      sums_same (further c items) (λ y m. ⊎_elim (λ h. absurd (never y h)) (λ h. h) (head-or-rest c items y m))

  -- what a given action says of its item, by the symbols behind the dot
  complete-gives : {P D M : ℕ} {x : Action} → after G P D ≡ [] → Gives G a (core P D M) x → (bit M a ≡ true) × (x ≡ completed P)
  complete-gives e (shifts f) = absurd (let z : ◌≡◌ {A = ℕ} 0 1 = cc in omega arith)
  complete-gives e (completes f p q) = (p, q)

  terminal-gives : {P D M c : ℕ} {β : List Symbol} {x : Action} → after G P D ≡ terminal c ∷ β → Gives G a (core P D M) x → (c ≡ a) × (x ≡ shift)
  terminal-gives e (shifts f) = (cc, refl)
  terminal-gives e (completes f p q) = absurd (let z : ◌≡◌ {A = ℕ} 0 1 = cc in omega arith)

  nonterminal-gives : {P D M B : ℕ} {β : List Symbol} {x : Action} → after G P D ≡ nonterminal B ∷ β → Gives G a (core P D M) x → ⊥
  nonterminal-gives e (shifts f) = let z : ◌≡◌ {A = ℕ} 0 1 = cc in omega arith
  nonterminal-gives e (completes f p q) = let z : ◌≡◌ {A = ℕ} 0 1 = cc in omega arith

  item-sums : (P D M : ℕ) (items : List Core) {cell : Cell} (β : List Symbol) → after G P D ≡ β → Sums (Given items) cell
      → Sums (Given (core P D M ∷ items)) (meld_item a P M β cell)
  unfolding meld_item
  item-sums P D M items {cell} [] e s = go (bit M a) refl
    where
      go : (t : Bool) → bit M a ≡ t → Sums (Given (core P D M ∷ items)) (elim t [ true ↦ meld cell (completed P) | false ↦ cell ])
      go true p = head-gives (core P D M) items (completed P) (completes e p refl) (λ y g. (complete-gives e g).1) s
      go false p = head-gives-none (core P D M) items (λ y g. false≢true (sym p ∙ (complete-gives e g).0)) s
  item-sums P D M items {cell} (terminal c ∷ β) e s = go (bit (single c) a) (bit-single c a)
    where
      go : (t : Bool) → t ≡ eqb c a → Sums (Given (core P D M ∷ items)) (elim t [ true ↦ meld cell shift | false ↦ cell ])
      go true p = head-gives (core P D M) items shift (shifts (rw (eqb-true c a (sym p)) at e)) (λ y g. (terminal-gives e g).1) s
      go false p = head-gives-none (core P D M) items (λ y g. eqb-false c a (sym p) (terminal-gives e g).0) s
  item-sums P D M items (nonterminal B ∷ β) e s = head-gives-none (core P D M) items (λ y g. nonterminal-gives e g) s

  pub cell-sums : (items : List Core) → Sums (Given items) (cell_from G items a)
  unfolding cell_from
  cell-sums [] = no_action λ x g. not-in-nil g.1
  cell-sums (core P D M ∷ items) = item-sums P D M items (after G P D) refl (cell-sums items)

-- ---- what a cell says of the actions that are given

module _ {Given : Action → Type 0} where
  pub one_at_most : {cell : Cell} → Sums Given cell → cell ≢ conflict → (x y : Action) → Given x → Given y → x ≡ y
  one_at_most (no_action n) free_of x y g h = absurd (n x g)
  one_at_most (one_action g u) free_of x y h k = u x h ∙ sym (u y k)
  one_at_most (two_actions g h n) free_of x y k l = absurd (free_of refl)

  pub not-conflict : {cell : Cell} → Sums Given cell → ((x y : Action) → Given x → Given y → x ≡ y) → cell ≢ conflict
  not-conflict (no_action n) one e = let z : ◌≡◌ {A = ℕ} 0 1 = cc in omega arith
  not-conflict (one_action g u) one e = let z : ◌≡◌ {A = ℕ} 0 1 = cc in omega arith
  not-conflict (two_actions {x = x} {y = y} g h n) one e = n (one x y g h)

  pub found-given : {cell : Cell} → Sums Given cell → (x : Action) → action_of cell ≡ some x → Given x
  unfolding action_of
  found-given (no_action n) x e = absurd (let z : ◌≡◌ {A = ℕ} 0 1 = cc in omega arith)
  found-given (one_action {x = y} g u) x e = let same : y ≡ x = cc in rw same at g
  found-given (two_actions g h n) x e = absurd (let z : ◌≡◌ {A = ℕ} 0 1 = cc in omega arith)

  pub given-found : {cell : Cell} → Sums Given cell → cell ≢ conflict → (x : Action) → Given x → action_of cell ≡ some x
  unfolding action_of
  given-found (no_action n) free_of x g = absurd (n x g)
  given-found (one_action g u) free_of x h = rw (u x h)
  given-found (two_actions g h n) free_of x k = absurd (free_of refl)
