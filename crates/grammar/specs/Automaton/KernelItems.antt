-- Kernel items under the kernel rules (7). Assumes nothing.
use Rattle.std.specs.Prelude.{ℕ, ◌≡◌}
use Rattle.std.proofs.Common.{arith}
use Rattle.std.proofs.Math.Decide.{ℕ_discrete}
use Rattle.grammar.specs.Data.Book.{Book}
use Rattle.grammar.specs.Automaton.Items.{KernelItem, kernel_item}
use Rattle.grammar.specs.Automaton.States.{KernelRules}

-- a kernel item with dot 0 is of rule 0: "State 0 has the one kernel (0,0)", and no other dot is 0
pub start_dot : {b : Book} → KernelRules b → {S P a : ℕ} → KernelItem b S P 0 a → P ≡ 0
start_dot rules {S} {P} (kernel_item {k = k} m s p d a) = by (ℕ_discrete k.state 0)
  where
    by : Dec (k.state ≡ 0) → P ≡ 0
    by (yes z) = let e = rules.start_only k m z in cc
    by (no n) = let l = rules.dots k m n in absurd (omega arith)
