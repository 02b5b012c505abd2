-- Laws of the plans of a book: when they have no lines, that they set the cells, and how the memory of them grows. Assumes nothing.
use Rattle.std.specs.Prelude.{ℕ, ◌+◌, ◌*◌, ◌-◌, ◌<◌, ◌≤◌, ◌≡◌, refl, List, [], ◌++◌, length, get_or, drop, set, replicate}
use Rattle.std.proofs.Common.{arith, sym, ap, ◌∙◌, length-set, length-append, length-drop, get_or-set_same, get_or-set_other}
use Rattle.std.proofs.Math.Decide.{ℕ_discrete}
use Rattle.std.specs.Int.Bits.{bit_or}
use Rattle.std.proofs.lemmas.List.{length-replicate, get_or-replicate}
use Rattle.std.proofs.Math.ListN.{get_or-append}
use Rattle.grammar.specs.Limits.{MAX_INHERITED}
use Rattle.grammar.specs.Data.Book.{Book}
use Rattle.grammar.specs.Format.Ordered.{Ordered}
use Rattle.grammar.specs.Conditions.Meaning.{WithinLimits, Declared}
use Rattle.grammar.specs.BookFacts.{small-book}
use Rattle.grammar.specs.Automaton.FirstSets.{sets_of}
use Rattle.grammar.specs.Automaton.ReachSets.{reach_sets}
use Rattle.grammar.specs.Automaton.ItemsRightLaws.{book-items-right}
use Rattle.grammar.specs.Formulas.PartialLaws.{partial_at}
use Rattle.grammar.proofs.Formulas.PartialLaws.{partial-items}
use Rattle.grammar.specs.Formulas.FormulaCheck.{definitions, listed}
use Rattle.grammar.proofs.Formulas.FormulaCheckLaws.{Tells}
use Rattle.grammar.proofs.Formulas.FormulaCheckAll.{listed-tells}
use Rattle.plans.specs.Lines.{LinesIn}
use Rattle.plans.specs.LinesAdded.{lines_none}
use Rattle.plans.specs.PlanningLaws.{plan-short, plan-none}
use Rattle.plans.specs.PlanRows.{Elsewhere}
use Rattle.plans.specs.Plans.{plan_of, PlanIn, last_slot, PlanNoted, PlansIn, NoneNoted, NoneListed}

-- The plan of a partial state

module _ {b : Book} (ordered : Ordered b) (limits : WithinLimits b) (declared : Declared b) (S a : ℕ) where
  pub listed-tell : Tells b S a (listed (partial_at b (sets_of b.rules) (reach_sets b.rules (sets_of b.rules)) S a))
  listed-tell = listed-tells _ (partial-items (book-items-right b (small-book ordered limits declared)) S a)

  -- where no definition's item is in it, it has no lines
  pub plan-empty : {found : List ℕ} → LinesIn b (listed (partial_at b (sets_of b.rules) (reach_sets b.rules (sets_of b.rules)) S a)) found
      → definitions b ≤ 128 → bit_or (get_or found 0 0) (get_or found 1 0) ≡ 0 → plan_of b S a ≡ []
  plan-empty {found} L few e = plan-none b _ λ d l. sym (L.line_is d l) ∙ lines_none found d e (omega arith)

-- The memory

-- nothing is worked out
pub plans-none : (b : Book) {slots lists : List ℕ} → NoneNoted b.states slots → NoneListed lists → PlansIn b slots lists
plans-none b {lists = lists} N L =
    let size = L.room in
    let long : length lists ≡ 17 * size + 1 = ap length L.lists_are ∙ length-replicate (17 * size + 1) 0 in
    let zero : (i : ℕ) → i < 17 * size + 1 → get_or lists i 0 ≡ 0 = λ i h. rw L.lists_are (get_or-replicate (17 * size + 1) i 0 0 h) in
    record {
      room = size;
      room_low = L.few;
      slots_long = N.long;
      lists_long = long;
      last_low = omega (arith, L.some, zero (length lists - 1) (omega arith));
      first_none = zero 0 (omega arith);
      noted = λ S a slot s low e. absurd (omega (arith, e, N.none (32 * S + a) (omega arith)));
    }

pub none-listed : (room : ℕ) → 2 ≤ room → room ≤ 255 → NoneListed (replicate (17 * room + 1) 0)
none-listed room some few = record { room = room; some = some; few = few; lists_are = refl }

-- bytes that were cleared in front
pub none-noted : (n : ℕ) (old : List ℕ) {new : List ℕ} → 32 * n ≤ length old → new ≡ replicate (32 * n) 0 ++ drop (32 * n) old → NoneNoted n new
none-noted n old long e =
    let cleared : length {A = ℕ} (replicate (32 * n) 0) ≡ 32 * n = length-replicate (32 * n) 0 in
    rw e (record {
      long = simp (length-append, length-replicate, length-drop) (omega arith);
      none = λ i h. get_or-append (replicate (32 * n) 0) (drop (32 * n) old) 0 i (omega arith) ∙ get_or-replicate (32 * n) i 0 0 h;
    })

-- a plan stays in its slot if the slot's bytes do
plan-stays : {lines old new : List ℕ} (slot : ℕ) → length lines ≤ MAX_INHERITED
    → ((i : ℕ) → i < 17 * slot + 17 → get_or new i 0 ≡ get_or old i 0) → PlanIn lines old slot → PlanIn lines new slot
plan-stays slot few same P = record {
  count_is = same (17 * slot) (omega arith) ∙ P.count_is;
  line_is = λ i h. same (17 * slot + 1 + i) (omega (arith, h, few)) ∙ P.line_is i h;
}

-- a slot that is not in use is written
module _ {b : Book} {slots lists new : List ℕ} (M : PlansIn b slots lists) {slot : ℕ} (unused : last_slot lists < slot)
    (low : 17 * slot + 17 < length lists) (E : Elsewhere (17 * slot) (17 * slot + 17) lists new) where
  pub last-stays : last_slot new ≡ last_slot lists
  last-stays = ap (λ n. get_or new (n - 1) 0) E.long ∙ E.behind (length lists - 1) (omega arith)

  pub plans-beside : PlansIn b slots new
  plans-beside = record {
    room = M.room;
    room_low = M.room_low;
    slots_long = M.slots_long;
    lists_long = E.long ∙ M.lists_long;
    last_low = omega (arith, last-stays, M.last_low);
    first_none = E.before 0 (omega arith) ∙ M.first_none;
    noted = λ S a k s l e.
        let P = M.noted S a k s l e in
        record {
          in_use = omega (arith, last-stays, P.in_use);
          plan_in = plan-stays k (plan-short b _) (λ i h. E.before i (omega (arith, P.in_use))) P.plan_in;
        };
  }

-- and comes into use
module _ {b : Book} {slots lists : List ℕ} (M : PlansIn b slots lists) {S a slot : ℕ} (s : S < b.states) (l : a < 32) (unused : last_slot lists < slot)
    (low : 17 * slot + 18 < length lists) (P : PlanIn (plan_of b S a) lists slot) where
  abbrev place : ℕ
  place = 32 * S + a

  abbrev last : ℕ
  last = length lists - 1

  abbrev used : List ℕ
  used = set lists last slot

  last_is : last_slot used ≡ slot
  last_is =
      ap (λ n. get_or used (n - 1) 0) (length-set lists last slot) ∙ get_or-set_same lists last slot 0 (omega arith)

  stays : (i : ℕ) → i < last → get_or used i 0 ≡ get_or lists i 0
  stays i h = get_or-set_other lists last i slot 0 (λ e. absurd (omega arith))

  note-stays : {lines : List ℕ} {k : ℕ} → length lines ≤ MAX_INHERITED → k ≤ slot → PlanIn lines lists k → PlanNoted lines used k
  note-stays {k = k} few h Q = record { in_use = omega (arith, last_is); plan_in = plan-stays k few (λ i j. stays i (omega arith)) Q }

  pub noted_here : PlanNoted (plan_of b S a) used slot
  noted_here = note-stays (plan-short b _) (omega arith) P

  pub plans-noted : PlansIn b (set slots place (slot + 1)) used
  plans-noted = record {
    room = M.room;
    room_low = M.room_low;
    slots_long = omega (arith, length-set slots place (slot + 1), M.slots_long);
    lists_long = length-set lists last slot ∙ M.lists_long;
    last_low = omega (arith, last_is, M.lists_long);
    first_none = stays 0 (omega arith) ∙ M.first_none;
    noted = λ S' a' k s' l' e. by S' a' k s' l' e (ℕ_discrete (32 * S' + a') place);
  }
    where
      by : (S' a' k : ℕ) → S' < b.states → a' < 32 → get_or (set slots place (slot + 1)) (32 * S' + a') 0 ≡ k + 1 → Dec (32 * S' + a' ≡ place)
          → PlanNoted (plan_of b S' a') used k
      by S' a' k s' l' e (yes h) =
          let same : S' ≡ S = omega arith in
          let also : a' ≡ a = omega arith in
          let here : get_or (set slots place (slot + 1)) place 0 ≡ k + 1 = rw h at e in
          let this : k ≡ slot = omega (arith, here, get_or-set_same slots place (slot + 1) 0 (omega (arith, M.slots_long))) in
          rw (same, also, this) noted_here
      by S' a' k s' l' e (no n) =
          let N = M.noted S' a' k s' l' (sym (get_or-set_other slots place (32 * S' + a') (slot + 1) 0 n) ∙ e) in
          note-stays (plan-short b _) (omega (arith, N.in_use)) N.plan_in

-- a plan that has no lines is noted
pub plans-empty : {b : Book} {slots lists : List ℕ} → PlansIn b slots lists → {S a : ℕ} → S < b.states → a < 32 → plan_of b S a ≡ []
    → PlansIn b (set slots (32 * S + a) 1) lists
plans-empty {b} {slots} {lists} M {S} {a} s l empty = record {
  room = M.room;
  room_low = M.room_low;
  slots_long = omega (arith, length-set slots (32 * S + a) 1, M.slots_long);
  lists_long = M.lists_long;
  last_low = M.last_low;
  first_none = M.first_none;
  noted = λ S' a' k s' l' e. by S' a' k s' l' e (ℕ_discrete (32 * S' + a') (32 * S + a));
}
  where
    by : (S' a' k : ℕ) → S' < b.states → a' < 32 → get_or (set slots (32 * S + a) 1) (32 * S' + a') 0 ≡ k + 1 → Dec (32 * S' + a' ≡ 32 * S + a)
        → PlanNoted (plan_of b S' a') lists k
    by S' a' k s' l' e (yes h) =
        let same : S' ≡ S = omega arith in
        let also : a' ≡ a = omega arith in
        let here : get_or (set slots (32 * S + a) 1) (32 * S + a) 0 ≡ k + 1 = rw h at e in
        let first : k ≡ 0 = omega (arith, here, get_or-set_same slots (32 * S + a) 1 0 (omega (arith, M.slots_long))) in
        rw (same, also, empty, first) (record {
          in_use = omega arith;
          plan_in = record { count_is = M.first_none; line_is = λ i h. absurd (omega arith) };
        })
    by S' a' k s' l' e (no n) = M.noted S' a' k s' l' (sym (get_or-set_other slots (32 * S + a) (32 * S' + a') 1 0 n) ∙ e)
