-- Cells by their words: no action is 0, every other action that a state can have has a word of its own, and melding an action into a cell goes by words.
-- Assumes nothing.
use Rattle.std.specs.Prelude.{ℕ, zero, suc, ◌+◌, ◌<◌, ◌≡◌, ◌⊎◌, Bool}
use Rattle.std.proofs.Common.{arith, sym, ap, ◌∙◌, inl, inr}
use Rattle.std.proofs.Math.Path.{refl}
use Rattle.std.proofs.Math.Bool.{true, false}
use Rattle.grammar.specs.Limits.{MAX_RULES}
use Rattle.grammar.specs.Automaton.States.{Action, shift}
use Rattle.grammar.specs.Automaton.Actions.{Cell, free, act, conflict, same_action, meld, completed}
use Rattle.grammar.specs.Automaton.CellLaws.{same_action-decides}
use Rattle.grammar.specs.Conditions.Decides.{Decides, refutes}
use Rattle.items.specs.Arrays.{cell_code}

-- an action that a state can have: a rule is one of at most 64, and rule 0 accepts
pub data Possible : Action → Type 0 where
  shifting : Possible shift
  completing : {x : Action} (P : ℕ) → P < MAX_RULES → x ≡ completed P → Possible x

-- a cell with no conflict
pub data Clear : Cell → Type 0 where
  nothing : Clear free
  acting : {x : Action} → Possible x → Clear (act x)

pub clear-conflict : Clear conflict → ⊥
clear-conflict c = go c refl
  where
    go : {cell : Cell} → Clear cell → cell ≡ conflict → ⊥
    go nothing e = let z : ◌≡◌ {A = ℕ} 0 1 = cc in omega arith
    go (acting p) e = let z : ◌≡◌ {A = ℕ} 0 1 = cc in omega arith

pub completed-code : (P : ℕ) → cell_code (act (completed P)) ≡ 2 + P
unfolding cell_code completed
completed-code zero = refl
completed-code (suc P) = refl

pub shift-code : cell_code (act shift) ≡ 1
unfolding cell_code
shift-code = refl

pub free-code : cell_code free ≡ 0
unfolding cell_code
free-code = refl

code-some : {x : Action} → Possible x → cell_code (act x) ≡ 0 → ⊥
code-some shifting e = omega (arith, shift-code)
code-some (completing P l q) e = omega (arith, completed-code P, ap (λ y. cell_code (act y)) q)

code-own : {x y : Action} → Possible x → Possible y → cell_code (act x) ≡ cell_code (act y) → x ≡ y
code-own shifting shifting e = refl
code-own shifting (completing P l q) e = absurd (omega (arith, shift-code, completed-code P, ap (λ y. cell_code (act y)) q))
code-own (completing P l q) shifting e = absurd (omega (arith, shift-code, completed-code P, ap (λ y. cell_code (act y)) q))
code-own (completing P l q) (completing Q m r) e =
    let same : P ≡ Q = omega (arith, completed-code P, completed-code Q, ap (λ y. cell_code (act y)) q, ap (λ y. cell_code (act y)) r) in
    q ∙ ap completed same ∙ sym r

module _ {x : Action} (p : Possible x) where
  -- the cell is free, or has the action already
  pub meld-fits : {cell : Cell} → Clear cell → (cell_code cell ≡ 0) ⊎ (cell_code cell ≡ cell_code (act x)) → meld cell x ≡ act x
  unfolding meld
  meld-fits nothing e = refl
  meld-fits (acting {x = y} q) (inl e) = absurd (code-some q e)
  meld-fits (acting {x = y} q) (inr e) = go (same_action x y) (same_action-decides x y)
    where
      same : y ≡ x
      same = code-own q p e

      go : (t : Bool) → Decides t (x ≡ y) → elim t [ true ↦ act y | false ↦ conflict ] ≡ act x
      go true d = ap act same
      go false d = absurd (refutes d (sym same))

  -- it has another
  pub meld-clash : {cell : Cell} → Clear cell → (cell_code cell ≡ 0 → ⊥) → (cell_code cell ≡ cell_code (act x) → ⊥) → meld cell x ≡ conflict
  unfolding meld
  meld-clash nothing n m = absurd (n free-code)
  meld-clash (acting {x = y} q) n m = go (same_action x y) (same_action-decides x y)
    where
      go : (t : Bool) → Decides t (x ≡ y) → elim t [ true ↦ act y | false ↦ conflict ] ≡ conflict
      go true d = absurd (m (ap (λ z. cell_code (act z)) (sym (d.sound refl))))
      go false d = refl
