-- The slots of a partial state in an array of words, and what a definition reads of them (`Slots` of the grammar). Assumes nothing.
use Prim.Native.Nat.{ℕ, zero, suc, ◌<◌, ◌≤◌}
use Rattle.std.proofs.Math.Path.{refl}
use Rattle.std.specs.Prelude.{List, length, get_or}
use Rattle.std.proofs.Common.{arith}
use Rattle.grammar.specs.Data.Term.{Leaves}
use Rattle.grammar.specs.Data.LeavesLaws.{leaves_map}
use Rattle.grammar.specs.Data.Book.{Place, own, at, val, Book, Expr}
use Rattle.grammar.specs.Conditions.MeaningLaws as conditions
use Rattle.grammar.specs.Formulas.Slots.{Slots, slot_at, own_at}
use Rattle.formulas.specs.Table.{Grown}
use Rattle.formulas.specs.Formulas.{SlotIn, OwnReads, in_slot, below, Reads}
use Rattle.formulas.specs.FormulasLaws.{slot_kept}

-- each word is the number of the slot's formula plus one, or 0
pub record SlotsIn (table : List ℕ) (used : ℕ) (slots : Slots) (words : List ℕ) : Type 0 where
  pub slot_is : (K : ℕ) → K < length words → SlotIn table used (slot_at slots K) (get_or words K 0)

pub slots_kept : {old new words : List ℕ} {used count : ℕ} {slots : Slots} → Grown old used new count → SlotsIn old used slots words
    → SlotsIn new count slots words
slots_kept G S = record { slot_is = λ K h. slot_kept G (S.slot_is K h) }

module _ {table words : List ℕ} {used : ℕ} {slots : Slots} (S : SlotsIn table used slots words) where
  own-reads : (D K : ℕ) → K < length words → OwnReads table used words K D (own_at slots D K)
  unfolding own_at
  own-reads zero K h = in_slot h (S.slot_is K h) refl
  own-reads (suc D) K h = below refl

  -- 5: a definition of the symbol after the dot reads the left side and what stands before the dot
  pub reads-item : (b : Book) (P D : ℕ) → length b.inherited_owners ≤ length words → {e : Expr} → Leaves (conditions.Reads b P (suc D)) e
      → Leaves (Reads table used D words (own_at slots D)) e
  reads-item b P D room = leaves_map place-reads
    where
      place-reads : (place : Place) → conditions.Reads b P (suc D) place → Reads table used D words (own_at slots D) place
      place-reads (own K) (h, e) = own-reads D K (omega arith)
      place-reads (at J K) (i, h, k, e) = omega arith
      place-reads (val J) (i, h, e) = omega arith
