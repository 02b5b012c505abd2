-- A book that is taken, in the arrays of a program, and the memory of its plans. Assumes nothing.
use Rattle.std.specs.Prelude.{◌≡◌, ℕ, List, length}
use Rattle.grammar.specs.Data.Book.{Book}
use Rattle.attributes.specs.Checking.{CheckHeld}
use Rattle.plans.specs.declared.program.Program.{Program}
use Rattle.plans.specs.declared.slots.Memory.{Memory}
use Rattle.plans.specs.Plans.{PlansHeld, PlansIn}

-- what the plans ask of them, with some sets of the attributes that are owned
abbrev pub PlansWith : Book → Program → List ℕ → Type 0
PlansWith b p owned =
    PlansHeld b p.rules.now p.definitions.now p.lines owned p.kernels.now p.bounds.now p.closures.now p.nullables.now p.reaches.now p.places.now

-- the same, with the program's own
abbrev pub PlansOver : Book → Program → Type 0
PlansOver b p = PlansWith b p p.owned.now

-- what the checks of its formulas have shown
abbrev pub CheckOver : Book → Program → List ℕ → Type 0
CheckOver b p masks = CheckHeld b p.definitions.now p.rules.now p.owned.now masks

-- the plans that are worked out
abbrev pub Remembers : Book → Memory → Type 0
Remembers b m = PlansIn b m.slots.now m.lists.now

-- the slots and the lists that were lent are there, as long as they were
abbrev pub MemoryKept : Memory → Memory → Type 0
MemoryKept old new =
    (new.slots.ghost_name ≡ old.slots.ghost_name) × (length new.slots.now ≡ length old.slots.now) × (new.lists.ghost_name ≡ old.lists.ghost_name)
    × (length new.lists.now ≡ length old.lists.now)
