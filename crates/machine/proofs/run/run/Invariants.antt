use Prim.Native.Nat.{◌-◌}
use mathlib.Core.Path.{◌≡◌}
use mathlib.Core.List.{List}
use lib.ListN.{length}
use Rattle.grammar.specs.Limits.{PAGE_WORDS}
use Rattle.grammar.specs.Data.Book.{Book}
use Rattle.grammar.specs.Evaluator.Tree.{Token}
use Rattle.plans.specs.Programs.{Remembers, MemoryKept}
use Rattle.machine.specs.Programs.{RunOver, UnderwayOver}
use Rattle.stack.specs.Standing.{Message}
use Rattle.machine.proofs.run.run.Given as goal

abbrev pub invariant-loop-next : goal.invariant-loop-next
invariant-loop-next l = (length l.rows ≡ PAGE_WORDS) × MemoryKept l.initial.memory l.memory
    × ((b : Book) (ks : List Token) → RunOver b ks l.program l.tokens → Message b ks → Remembers b l.initial.memory
    → UnderwayOver b ks l.stacks l.rows l.memory l.top)

abbrev pub decreases-loop-next : goal.decreases-loop-next
decreases-loop-next l = 512 - l.top.rows
