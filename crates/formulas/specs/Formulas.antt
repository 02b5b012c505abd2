-- The interned formula of a definition for an item with dot D: what its steps put on a stack of numbers, what is asked of the item's slots, and what
-- the result means (01, "Partial states and chains"). Assumes nothing.
use Rattle.std.specs.Prelude.{ℕ, zero, suc, ◌+◌, ◌*◌, ◌-◌, ◌<◌, ◌≤◌, ◌≡◌, List, length, get_or}
use Rattle.std.proofs.Math.Option.{Option, none, some}
use Rattle.grammar.specs.Data.Term.{nodes, replace, Leaves}
use Rattle.grammar.specs.Data.Book.{Place, own, at, val, Expr}
use Rattle.grammar.specs.Formulas.Formula.{Formula, becomes, own_below}
use Rattle.grammar.specs.Formulas.Slots.{standing}
use Rattle.formulas.specs.declared.nodes.Stack.TheVariants.{Inherited, Synthesized}
use Rattle.formulas.specs.declared.nodes.Leaf.TheVariants.{Attribute, TokenValue}
use Rattle.formulas.specs.declared.nodes.Node.TheVariants.{Number, Leaf as OfLeaf, Both, Pick}
use Rattle.formulas.specs.declared.steps.Step.{Step}
use Rattle.formulas.specs.declared.steps.Step.TheVariants.{Push, Own, At, Val, Operate, Select}
use Rattle.formulas.specs.declared.formulas.Operand.{Operand}
use Rattle.formulas.specs.declared.formulas.Operand.TheVariants.{Known, New}
use Rattle.formulas.specs.Table.{Table, Grown}
use Rattle.formulas.specs.Meaning.{Means, Builds}
use Rattle.formulas.specs.Steps.{ExpressionIn}

-- a slot's word is the number of its formula plus one, or 0; a slot that is empty reads as the number 0
unfoldable pub slot_for : ℕ → Operand
slot_for zero = New (Number 0)
slot_for (suc i) = Known i

-- own K: with the dot in front what stands in slot K, else the leaf (inherited stack, D, attribute K)
unfoldable pub own_for : ℕ → List ℕ → ℕ → Operand
own_for zero slots K = slot_for (get_or slots K 0)
own_for (suc D) slots K = New (OfLeaf (Attribute Inherited (suc D) K))

-- what a step puts on a stack whose `top` numbers stand in an array
abbrev pub operand_for : ℕ → List ℕ → List ℕ → ℕ → Step → Operand
operand_for D slots stack top (Push n) = New (Number n)
operand_for D slots stack top (Own K) = own_for D slots K
operand_for D slots stack top (At J K) = New (OfLeaf (Attribute Synthesized (D - J) K))
operand_for D slots stack top (Val J) = New (OfLeaf (TokenValue Synthesized (D - J)))
operand_for D slots stack top (Operate o) = New (Both o (get_or stack (top - 2) 0) (get_or stack (top - 1) 0))
operand_for D slots stack top Select = New (Pick (get_or stack (top - 3) 0) (get_or stack (top - 2) 0) (get_or stack (top - 1) 0))

-- what can be read at dot D: of the left side a slot, of the right side what stands left of the dot
abbrev pub Safe : ℕ → List ℕ → Place → Type 0
Safe D slots (own K) = D ≡ 0 → K < length slots
Safe D slots (at J K) = J ≤ D
Safe D slots (val J) = J ≤ D

module _ (table : List ℕ) (used : ℕ) where
  -- an operand stands for a formula
  abbrev pub Makes : Operand → Formula → Type 0
  Makes (Known i) f = Means table used i f
  Makes (New node) f = Builds table used node f

  -- what stands in a slot, and its word
  pub data SlotIn : Option Formula → ℕ → Type 0 where
    empty : SlotIn none 0
    full : {i : ℕ} {f : Formula} → Means table used i f → SlotIn (some f) (suc i)

  -- own K reads f: the formula that stands in the slot, or the leaf below the item
  pub data OwnReads (slots : List ℕ) (K : ℕ) : ℕ → Formula → Type 0 where
    in_slot : {s : Option Formula} {f : Formula} → K < length slots → SlotIn s (get_or slots K 0) → standing s ≡ f → OwnReads slots K zero f
    below : {D : ℕ} {f : Formula} → own_below (suc D) K ≡ f → OwnReads slots K (suc D) f

  -- what a definition reads at dot D, where own K becomes f K
  abbrev pub Reads : ℕ → List ℕ → (ℕ → Formula) → Place → Type 0
  Reads D slots f (own K) = OwnReads slots K D (f K)
  Reads D slots f (at J K) = J ≤ D
  Reads D slots f (val J) = J ≤ D

-- what numbering an operand does to a table
pub record Numbered (operand : Operand) (old : List ℕ) (used : ℕ) (new heads nexts : List ℕ) (number count : ℕ) : Type 0 where
  pub table : Table new heads nexts count
  pub grown : Grown old used new count
  pub few : count ≤ used + 1
  pub means : {f : Formula} → Makes old used operand f → Means new count number f

-- the expression e in a line, where own K becomes f K
pub record Asked (definitions : List ℕ) (line D : ℕ) (slots table : List ℕ) (used : ℕ) (e : Expr) (f : ℕ → Formula) : Type 0 where
  pub stands : ExpressionIn e definitions line
  pub reads : Leaves (Reads table used D slots f) e
  pub room : 4 * (used + nodes e) ≤ length table

-- the number of the formula of e
pub record Formed (D : ℕ) (e : Expr) (f : ℕ → Formula) (old : List ℕ) (used : ℕ) (new heads nexts : List ℕ) (number count : ℕ) : Type 0 where
  pub table : Table new heads nexts count
  pub grown : Grown old used new count
  pub few : count ≤ used + nodes e
  pub means : Means new count number (replace e (becomes D f))

-- opens every definition of this module
unfoldable pub opens : Unit {0}
unfolding slot_for own_for
opens = tt
