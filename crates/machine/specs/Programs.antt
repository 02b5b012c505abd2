-- A book that is taken in the arrays of a program, a configuration in the stacks, the rows and the plans' memory, and what a move tells of it. Assumes nothing.
use Rattle.std.specs.Prelude.{ℕ, List, Result, Option}
use Rattle.grammar.specs.Data.Book.{Book}
use Rattle.grammar.specs.Evaluator.Tree.{Token}
use Rattle.grammar.specs.Evaluator.Machine.{Config}
use Rattle.book.specs.declared.refusal.Refusal.{Refusal}
use Rattle.plans.specs.declared.program.Program.{Program}
use Rattle.plans.specs.declared.slots.Memory.{Memory}
use Rattle.stack.specs.declared.stacks.Stacks.{Stacks}
use Rattle.stack.specs.declared.top.Top.{Top}
use Rattle.machine.specs.Moving.{Poised, Moved, Told}
use Rattle.machine.specs.Running.{RunIn, MovesIn}
use Rattle.machine.specs.RunningLaws.{Underway, Stepped}

-- what a run reads, and what its moves read
abbrev pub RunOver : Book → List Token → Program → List ℕ → Type 0
RunOver b ks p tokens =
    RunIn b ks p.rules.now p.definitions.now p.lines p.owned.now p.kernels.now p.bounds.now p.closures.now p.nullables.now p.reaches.now p.places.now
    p.spans.now p.down.now p.up.now p.table.now p.actions.now tokens

abbrev pub MovesOver : Book → Program → Type 0
MovesOver b p = MovesIn b p.rules.now p.definitions.now p.spans.now p.down.now p.up.now p.table.now

-- a configuration, with its top cell set
abbrev pub PoisedOver : Book → List Token → Config → Stacks → List ℕ → Top → Type 0
PoisedOver b ks c s rows top = Poised b ks c s.states s.cells s.records s.starts rows top

-- what a reduce tells, and what a move
abbrev pub MovedOver : Book → List Token → Config → Stacks → List ℕ → Result Top Refusal → Type 0
MovedOver b ks c s rows m = Moved b ks c s.states s.cells s.records s.starts rows m

abbrev pub ToldOver : Book → List Token → Config → Stacks → List ℕ → Result (Option Top) Refusal → Type 0
ToldOver b ks c s rows m = Told b ks c s.states s.cells s.records s.starts rows m

-- a configuration on the way to the machine's answer, and what a step tells of it
abbrev pub UnderwayOver : Book → List Token → Stacks → List ℕ → Memory → Top → Type 0
UnderwayOver b ks s rows m top = Underway b ks s.states s.cells s.records s.starts rows m.slots.now m.lists.now top

abbrev pub SteppedOver : Book → List Token → Top → Stacks → List ℕ → Memory → Result (Option Top) Refusal → Type 0
SteppedOver b ks top s rows m told = Stepped b ks top s.states s.cells s.records s.starts rows m.slots.now m.lists.now told
