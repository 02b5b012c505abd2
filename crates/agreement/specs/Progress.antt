-- How far the one-formula check (`FormulaCheck` of the grammar) is, over words: the formulas that stand as numbers, and the definitions that are done
-- as marks. Assumes nothing.
use Rattle.std.specs.Prelude.{ℕ, suc, ◌*◌, ◌^◌, ◌<◌, ◌≤◌, ◌≡◌, Bool, true, false, Option, Some, None, List, length, get_or}
use Rattle.grammar.specs.Limits.{MAX_INHERITED, MAX_DEFINITIONS, MAX_NODES}
use Rattle.grammar.specs.Formulas.Slots.{Slots}
use Rattle.grammar.specs.Formulas.FormulaCheck as grammar
use Rattle.grammar.specs.Formulas.FormulaCheck.{progress, split, done_in}
use Rattle.grammar.proofs.Formulas.FormulaCheckSteps.{Long}
use Rattle.formulas.specs.Table.{HEADS, Table}
use Rattle.attributes.specs.Owned.{KnownIn}
use Rattle.agreement.specs.declared.check.Progress.{Progress}
use Rattle.agreement.specs.SlotsHeld.{SlotsIn}

-- 1 for a definition that is done
abbrev pub mark_of : Bool → ℕ
mark_of true = 1
mark_of false = 0

-- the formulas that stand and the definitions that are done, in words; a formula of at most 15 nodes was interned for each of these, and there is room
-- for those of all definitions up to one that is done
pub record ProgressIn (slots : Slots) (done : List Bool) (words marks table heads nexts : List ℕ) (p : Progress) : Type 0 where
  pub table_in : Table table heads nexts p.used
  pub long : Long (progress slots done)
  pub words_long : length words ≡ MAX_INHERITED
  pub marks_long : length marks ≡ MAX_DEFINITIONS
  pub slots-in : SlotsIn table p.used slots words
  pub known_in : KnownIn slots p.known
  pub mark_is : (d : ℕ) → d < MAX_DEFINITIONS → get_or marks d 0 ≡ mark_of (get_or done d true)
  pub count_is : p.count ≡ done_in done
  pub few : p.used ≤ MAX_NODES * p.count
  pub within : (d : ℕ) → d < MAX_DEFINITIONS → get_or done d true ≡ true → MAX_NODES * suc d ≤ length nexts

-- where visits end: the formulas that stand and the definitions that are done, or a split
pub data Reached (words marks table heads nexts : List ℕ) : Option Progress → grammar.Progress → Type 0 where
  going : {p : Progress} {slots : Slots} {done : List Bool} → ProgressIn slots done words marks table heads nexts p
      → Reached words marks table heads nexts (Some p) (progress slots done)
  apart : Reached words marks table heads nexts None split

-- room for the nodes of n definitions; a row's number plus one is a word
pub record NodesRoom (n : ℕ) (table nexts : List ℕ) : Type 0 where
  pub table_long : length table ≡ 4 * length nexts
  pub nexts_low : length nexts < 2 ^ 32
  pub enough : MAX_NODES * n ≤ length nexts

-- room for the check of a partial state, by n definitions
pub record Room (n : ℕ) (words marks table heads nexts : List ℕ) : Type 0 where
  pub words_long : length words ≡ MAX_INHERITED
  pub marks_long : length marks ≡ MAX_DEFINITIONS
  pub heads_long : length heads ≡ HEADS
  pub nodes_room : NodesRoom n table nexts
