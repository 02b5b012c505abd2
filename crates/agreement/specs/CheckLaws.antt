-- Laws of the check of a partial state from cleared words on, and of the checks of all terminals. Assumes nothing.
use Rattle.std.specs.Prelude.{ℕ, ◌+◌, ◌<◌, ◌≡◌, refl, Bool, true, false, not, List, length, replicate}
use Rattle.std.proofs.Common.{sym, ap, ◌∙◌, add-one, arith}
use Rattle.std.proofs.Math.Option.{Option, none}
use Rattle.std.proofs.lemmas.List.{length-replicate, get_or-replicate}
use Rattle.sets.specs.Sets.{empty}
use Rattle.sets.proofs.SetsLaws.{bit-empty}
use Rattle.grammar.specs.Limits.{MAX_INHERITED, MAX_DEFINITIONS}
use Rattle.grammar.specs.Conditions.Decides.{all_below}
use Rattle.grammar.specs.Data.Book.{Book}
use Rattle.grammar.specs.Formulas.Formula.{Formula}
use Rattle.grammar.specs.Formulas.Passes.{passes}
use Rattle.grammar.specs.Formulas.FormulaCheck.{done_in, advance, unsplit, fresh, definitions, visit, ended, check}
use Rattle.grammar.proofs.Formulas.FormulaCheckSteps.{fresh-long, none_done}
use Rattle.grammar.proofs.Formulas.FormulaCheckAll.{fails-below}
use Rattle.formulas.specs.Table.{HEADS, Table}
use Rattle.formulas.specs.Buckets.{empty-table}
use Rattle.formulas.specs.Formulas as formulas
use Rattle.attributes.specs.Owned.{KnownIn}
use Rattle.agreement.specs.declared.check.Progress.{Progress}
use Rattle.agreement.specs.SlotsHeld.{SlotsIn}
use Rattle.agreement.specs.Progress.{mark_of, ProgressIn, Room}

no-slots : (table : List ℕ) → SlotsIn table 0 (replicate MAX_INHERITED none) (replicate MAX_INHERITED 0)
no-slots table = record {
  slot_is = λ K h.
      let low : K < 16 = omega (arith, h, length-replicate {A = ℕ} 16 0) in
      rw (get_or-replicate {A = Option Formula} 16 K none none low, get_or-replicate {A = ℕ} 16 K 0 0 low) formulas.empty;
}

none-known : KnownIn (replicate MAX_INHERITED none) 0
unfolding empty
none-known = record { known_is = λ K h. rw (get_or-replicate {A = Option Formula} 16 K none none h) (bit-empty K) }

zero-done : done_in (replicate MAX_DEFINITIONS false) ≡ 0
unfolding done_in
zero-done = refl

-- no node, no formula, no definition that is done
abbrev pub nothing_yet : Progress
nothing_yet = record { used = 0; known = 0; count = 0 }

fresh_in : {table nexts : List ℕ} → Table table (replicate HEADS 0) nexts 0
    → ProgressIn (replicate MAX_INHERITED none) (replicate MAX_DEFINITIONS false) (replicate MAX_INHERITED 0) (replicate MAX_DEFINITIONS 0)
    table (replicate HEADS 0) nexts nothing_yet
fresh_in {table} T = record {
  table_in = T;
  long = fresh-long;
  words_long = length-replicate {A = ℕ} 16 0;
  marks_long = length-replicate {A = ℕ} 128 0;
  slots-in = no-slots table;
  known_in = none-known;
  mark_is = λ d h. get_or-replicate {A = ℕ} 128 d 0 0 h ∙ ap mark_of (sym (get_or-replicate {A = Bool} 128 d false true h));
  count_is = sym zero-done;
  few = omega arith;
  within = λ d h e. absurd (none_done MAX_DEFINITIONS d h e);
}

-- the words where a check begins
pub begun : {n : ℕ} {words marks table heads nexts words' marks' heads' : List ℕ} → Room n words marks table heads nexts
    → words' ≡ replicate (length words) 0 → marks' ≡ replicate (length marks) 0 → heads' ≡ replicate (length heads) 0
    → ProgressIn (replicate MAX_INHERITED none) (replicate MAX_DEFINITIONS false) words' marks' table heads' nexts nothing_yet
begun {table = table} {nexts = nexts} R w m h =
    rw (w, m, h, R.words_long, R.marks_long, R.heads_long) (fresh_in (empty-table table nexts R.nodes_room.table_long R.nodes_room.nexts_low))

pub check-is : (b : Book) (member : ℕ → ℕ → Bool) → unsplit (passes (visit b member) advance (definitions b) fresh) ≡ check b member
unfolding check ended
check-is b member = refl

-- All terminals

pub all_start : (f : ℕ → Bool) → all_below 0 f ≡ true
unfolding all_below
all_start f = refl

pub all-turn : (f : ℕ → Bool) (a : ℕ) {t : Bool} → all_below a f ≡ true → t ≡ f a → not t ≡ false → all_below (a + 1) f ≡ true
unfolding all_below
all-turn f a {t = true} h e n = rw (add-one a, all_below, h) (sym e)
all-turn f a {t = false} h e n = absurd (let z : ◌≡◌ {A = ℕ} 0 1 = cc in omega arith)

pub one-fails : (f : ℕ → Bool) (a n : ℕ) {t : Bool} → a < n → t ≡ f a → not t ≡ true → false ≡ all_below n f
one-fails f a n {t = true} l e h = absurd (let z : ◌≡◌ {A = ℕ} 0 1 = cc in omega arith)
one-fails f a n {t = false} l e h = sym (fails-below f a n l (sym e))
