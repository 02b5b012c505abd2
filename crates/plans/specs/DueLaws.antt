-- When a definition whose item is in the partial state is due: its left side is settled, or it does not wait for it. Over the attributes that are known
-- this is the test of the one-formula check, where some formula stands for each of them. Assumes nothing.
use Prim.Native.Nat.{ℕ, zero, suc, ◌<◌, ◌≤◌}
use Rattle.std.proofs.Common.{arith, ◌∙◌}
use Rattle.std.proofs.Math.Path.{◌≡◌, refl, sym}
use Rattle.std.specs.Prelude.{Bool, List, [], ◌∷◌, eqb}
use Rattle.std.proofs.Math.Bool.{true, false}
use Rattle.std.proofs.Math.Option.{Option, none, some}
use Rattle.std.proofs.Math.ListN.{length, get_or}
use Rattle.sets.specs.Sets.{bit}
use Rattle.grammar.specs.Limits.{MAX_INHERITED}
use Rattle.grammar.specs.Conditions.Decides.{all_below}
use Rattle.grammar.specs.Data.Symbol.{left_of}
use Rattle.grammar.specs.Data.Term.{number}
use Rattle.grammar.specs.Data.Book.{InheritedDefinition, Book, owner_at}
use Rattle.grammar.specs.Formulas.Formula.{Formula}
use Rattle.grammar.specs.Formulas.Slots.{Slots, slot_at, settled_below, attributes, ready}
use Rattle.grammar.specs.Formulas.FormulaCheck.{dot_of}
use Rattle.grammar.specs.Formulas.Plan.{settled_in, ready_in, due_in}
use Rattle.attributes.specs.Owned.{is_filled, KnownIn}

-- some formula for each attribute that is known
unfoldable pub slots_for : List Bool → Slots
slots_for [] = []
slots_for (true ∷ known) = some (number 0) ∷ slots_for known
slots_for (false ∷ known) = none ∷ slots_for known

filled-for : (known : List Bool) (K : ℕ) → K < length known → is_filled (slot_at (slots_for known) K) ≡ get_or known K true
unfolding slots_for
filled-for [] K h = absurd (omega arith)
filled-for (true ∷ known) zero h = refl
filled-for (false ∷ known) zero h = refl
filled-for (true ∷ known) (suc K) h = filled-for known K (omega arith)
filled-for (false ∷ known) (suc K) h = filled-for known K (omega arith)

-- a set of the attributes that are known is one of those for which a formula stands
pub known-for : (known : List Bool) {set : ℕ} → length known ≡ MAX_INHERITED → ((K : ℕ) → K < MAX_INHERITED → bit set K ≡ get_or known K true)
    → KnownIn (slots_for known) set
known-for known long is = record { known_is = λ K h. is K h ∙ sym (filled-for known K (omega (arith, long))) }

module _ (known : List Bool) where
  -- what A owns below n
  settled-for : (owners : List ℕ) (A n : ℕ) → n ≤ length known
      → settled_below owners (slots_for known) A n
      ≡ all_below n λ K. elim (eqb (owner_at owners K) A) [ true ↦ get_or known K true | false ↦ true ]
  unfolding settled_below all_below
  settled-for owners A zero h = refl
  settled-for owners A (suc n) h =
      by (eqb (owner_at owners n) A) (slot_at (slots_for known) n) (get_or known n true) (filled-for known n (omega arith)) (settled-for owners A n (omega arith))
    where
      by : (t : Bool) (x : Option Formula) (k : Bool) → is_filled x ≡ k → {u v : Bool} → u ≡ v
          → ◌≡◌ {A = Bool} (elim t [ true ↦ elim x [ none ↦ false | some f ↦ u ] | false ↦ u ])
          (elim v [ true ↦ elim t [ true ↦ k | false ↦ true ] | false ↦ false ])
      by true none k e {v = true} q = e
      by true none k e {v = false} q = refl
      by true (some f) k e {v = true} q = q ∙ e
      by true (some f) k e {v = false} q = q
      by false x k e {v = true} q = q
      by false x k e {v = false} q = q

-- where the item is in the partial state
pub due-own : (b : Book) (member : ℕ → ℕ → Bool) (known : List Bool) (line : InheritedDefinition) → member line.rule (dot_of line) ≡ true
    → due_in b member known line ≡ ready_in b known line.rule (dot_of line)
unfolding due_in
due-own b member known line e = rw (due_in, e)

-- a definition waits for its left side as where some formula stands for each attribute that is known
pub ready-known : (b : Book) (known : List Bool) → attributes b ≤ length known → (P D : ℕ) → ready b (slots_for known) P D ≡ ready_in b known P D
unfolding ready ready_in settled_in
ready-known b known few P zero = settled-for known b.inherited_owners (left_of b.rules P) (attributes b) few
ready-known b known few P (suc D) = refl
