-- A book in the arrays that the checks read. Assumes nothing.
use Rattle.std.specs.Prelude.{ℕ, ◌≡◌, refl, Bool, Option, List, length}
use Rattle.std.proofs.Common.{arith, ◌∙◌}
use Rattle.grammar.specs.Data.Book.{Book}
use Rattle.grammar.specs.Formulas.Slots.{Slots, attributes}
use Rattle.grammar.specs.Formulas.FormulaCheck as grammar
use Rattle.formulas.specs.Table.{NodesKept}
use Rattle.formulas.specs.Rows.{nodes-same, nodes-more}
use Rattle.attributes.specs.Checking.{CheckHeld}
use Rattle.attributes.specs.Owned.{OwnedIn}
use Rattle.agreement.specs.declared.check.Progress.{Progress}
use Rattle.agreement.specs.declared.parts.Parts.{Parts}
use Rattle.agreement.specs.declared.parts.AllStates.{AllStates}
use Rattle.agreement.specs.declared.work.Work.{Work}
use Rattle.agreement.specs.Given.{GivenIn}
use Rattle.agreement.specs.OneFormula.{FrontsHeld}
use Rattle.agreement.specs.Progress.{ProgressIn, Reached, Room}

-- what the check of a partial state asks of them
abbrev pub CheckOver : Book → Parts → Type 0
CheckOver b p = CheckHeld b p.definitions.now p.rules.now p.owned.now p.masks.now

-- how far a check is
abbrev pub ProgressOver : Slots → List Bool → Work → Progress → Type 0
ProgressOver s d w p = ProgressIn s d w.slots w.done w.nodes.rows.now w.nodes.heads.now w.nodes.nexts.now p

-- where its visits end
abbrev pub ReachedOver : Work → Option Progress → grammar.Progress → Type 0
ReachedOver w r g = Reached w.slots w.done w.nodes.rows.now w.nodes.heads.now w.nodes.nexts.now r g

-- room for it
abbrev pub RoomOver : ℕ → Work → Type 0
RoomOver lines w = Room lines w.slots w.done w.nodes.rows.now w.nodes.heads.now w.nodes.nexts.now

-- as much room as before, in the same arrays
pub record RoomKept (old new : Work) : Type 0 where
  pub slots_long : length new.slots ≡ length old.slots
  pub done_long : length new.done ≡ length old.done
  pub nodes_kept : NodesKept old.nodes new.nodes

-- what the check of all states asks
abbrev pub FrontsOver : Book → List ℕ → AllStates → Type 0
FrontsOver b begins t =
    FrontsHeld b t.rules.now t.count t.definitions.now t.lines t.kernels.now t.bounds.now t.closures.now t.fronts.now t.nullables.now begins t.reaches.now t.terminals t.states

abbrev pub OwnedOver : Book → AllStates → Type 0
OwnedOver b t = OwnedIn b.inherited_owners (attributes b) t.owned.now

abbrev pub GivenOver : Book → AllStates → Type 0
GivenOver b t = GivenIn b (grammar.definitions b) t.given.now t.leaders

-- Room that stays

pub same-more : {a b c d e a' b' c' d' e' a'' b'' c'' d'' e'' : ℕ} → (a' ≡ a) × (b' ≡ b) × (c' ≡ c) × (d' ≡ d) × (e' ≡ e)
    → (a'' ≡ a') × (b'' ≡ b') × (c'' ≡ c') × (d'' ≡ d') × (e'' ≡ e') → (a'' ≡ a) × (b'' ≡ b) × (c'' ≡ c) × (d'' ≡ d) × (e'' ≡ e)
same-more k m = (m.0 ∙ k.0, m.1 ∙ k.1, m.2 ∙ k.2, m.3 ∙ k.3, m.4 ∙ k.4)

pub room-kept : {n : ℕ} {words marks rows heads nexts words' marks' rows' heads' nexts' : List ℕ} → Room n words marks rows heads nexts
    → (length words' ≡ length words) × (length marks' ≡ length marks) × (length rows' ≡ length rows) × (length heads' ≡ length heads)
    × (length nexts' ≡ length nexts) → Room n words' marks' rows' heads' nexts'
room-kept R k = record {
  words_long = k.0 ∙ R.words_long;
  marks_long = k.1 ∙ R.marks_long;
  heads_long = k.3 ∙ R.heads_long;
  nodes_room = record {
    table_long = omega (arith, k.2, k.4, R.nodes_room.table_long);
    nexts_low = omega (arith, k.4, R.nodes_room.nexts_low);
    enough = omega (arith, k.4, R.nodes_room.enough);
  };
}

pub kept-same : (w : Work) → RoomKept w w
kept-same w = record { slots_long = refl; done_long = refl; nodes_kept = nodes-same w.nodes }

pub kept-more : {a b c : Work} → RoomKept a b → RoomKept b c → RoomKept a c
kept-more k m = record {
  slots_long = m.slots_long ∙ k.slots_long;
  done_long = m.done_long ∙ k.done_long;
  nodes_kept = nodes-more k.nodes_kept m.nodes_kept;
}

pub room-over : {n : ℕ} {old new : Work} → RoomOver n old → RoomKept old new → RoomOver n new
room-over R k = room-kept R (k.slots_long, k.done_long, k.nodes_kept.rows_long, k.nodes_kept.heads_long, k.nodes_kept.nexts_long)
