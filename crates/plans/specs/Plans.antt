-- The plans of all partial states of a book, and the memory of those that are worked out. Its lists are 2 to 255 slots of seventeen bytes, the number of a
-- plan's lines and the lines, and one byte behind them, the number of the last slot in use. For the partial state (S, a) byte 32 * S + a of the slots is 0, or
-- one more than the number of the slot that has its plan. Slot 0 has the plan without lines. The last slot is never in use: a plan that finds no other is
-- worked out there, and not noted. Assumes nothing.
use Rattle.std.specs.Prelude.{ℕ, ◌+◌, ◌*◌, ◌-◌, ◌<◌, ◌≤◌, ◌≡◌, List, length, get_or, replicate}
use Rattle.grammar.specs.Data.Book.{Book}
use Rattle.grammar.specs.Automaton.FirstSets.{sets_of}
use Rattle.grammar.specs.Automaton.ReachSets.{reach_sets}
use Rattle.grammar.specs.Formulas.PartialLaws.{partial_at}
use Rattle.grammar.specs.Formulas.FormulaCheck.{listed}
use Rattle.grammar.specs.Formulas.Slots.{attributes}
use Rattle.attributes.specs.Owned.{OwnedIn}
use Rattle.attributes.specs.FormulasHeld.{FormulasHeld}
use Rattle.plans.specs.Places.{PlacesIn}
use Rattle.plans.specs.Planning.{plan}
use Rattle.plans.specs.PlanRows.{PlanRow}

-- the plan of the partial state (S, a)
abbrev pub plan_of : Book → ℕ → ℕ → List ℕ
plan_of b S a = plan b (listed (partial_at b (sets_of b.rules) (reach_sets b.rules (sets_of b.rules)) S a))

-- a plan in a slot
abbrev pub PlanIn : List ℕ → List ℕ → ℕ → Type 0
PlanIn lines lists slot = PlanRow lines lists (17 * slot + 1) (get_or lists (17 * slot) 0)

-- the last slot in use
abbrev pub last_slot : List ℕ → ℕ
last_slot lists = get_or lists (length lists - 1) 0

-- a plan in a slot in use
pub record PlanNoted (lines lists : List ℕ) (slot : ℕ) : Type 0 where
  pub in_use : slot ≤ last_slot lists
  pub plan_in : PlanIn lines lists slot

-- the memory, of `room` slots
pub record PlansIn (b : Book) (slots lists : List ℕ) : Type 0 where
  pub room : ℕ
  pub room_low : room ≤ 255
  pub slots_long : 32 * b.states ≤ length slots
  pub lists_long : length lists ≡ 17 * room + 1
  pub last_low : last_slot lists + 1 < room
  pub first_none : get_or lists 0 0 ≡ 0
  pub noted : (S a slot : ℕ) → S < b.states → a < 32 → get_or slots (32 * S + a) 0 ≡ slot + 1 → PlanNoted (plan_of b S a) lists slot

-- of the partial states of n states nothing is noted
pub record NoneNoted (n : ℕ) (slots : List ℕ) : Type 0 where
  pub long : 32 * n ≤ length slots
  pub none : (i : ℕ) → i < 32 * n → get_or slots i 0 ≡ 0

-- lists that are all 0
pub record NoneListed (lists : List ℕ) : Type 0 where
  pub room : ℕ
  pub some : 2 ≤ room
  pub few : room ≤ 255
  pub lists_are : lists ≡ replicate (17 * room + 1) 0

-- the slot of a plan, in use or not
pub record PlanTold (b : Book) (slots lists : List ℕ) (S a slot : ℕ) : Type 0 where
  pub plans_in : PlansIn b slots lists
  pub slot_low : 17 * slot + 17 < length lists
  pub plan_in : PlanIn (plan_of b S a) lists slot

-- what the plans ask of a book and of its arrays
pub record PlansHeld (b : Book) (rules definitions : List ℕ) (lines : ℕ) (owned kernels bounds closures nullables reaches places : List ℕ) : Type 0 where
  pub begins : List ℕ
  pub count : ℕ
  pub terminals : ℕ
  pub states : ℕ
  pub formulas_held : FormulasHeld b rules count definitions lines kernels bounds closures nullables begins reaches terminals states
  pub owned_in : OwnedIn b.inherited_owners (attributes b) owned
  pub places_in : PlacesIn b 0 places
