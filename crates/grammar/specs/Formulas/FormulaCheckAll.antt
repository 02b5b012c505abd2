-- Which items a reached set tells, and tests that agree on the items of the definitions. Assumes nothing.
use Prim.Native.Nat.{ℕ, ◌<◌}
use Rattle.std.specs.Prelude.{◌≡◌, Bool}
use Rattle.std.proofs.Math.Bool.{true}
use mathlib.Core.List.{List, Memᴰ as Mem}
use Rattle.sets.specs.Sets.{bit}
use Rattle.grammar.specs.Data.Symbol.{after}
use Rattle.grammar.specs.Data.Book.{Book}
use Rattle.grammar.specs.Automaton.FirstSets.{Sets}
use Rattle.grammar.specs.Automaton.ReachSets.{reach_with}
use Rattle.grammar.specs.Automaton.CoreItems.{core, core_items}
use Rattle.grammar.specs.Formulas.FormulaCheck.{dot_of, definitions, line_at}

-- an entry of the state's items, of which the reached set has a
abbrev pub CoreIn : Book → Sets → List ℕ → ℕ → ℕ → ℕ → ℕ → Type 0
CoreIn b F R S a P D = (M : ℕ) × Mem (core P D M) (core_items b F S) × (bit (reach_with F R (after b.rules P D) M) a ≡ true)

-- the tests agree on the items of the definitions
abbrev pub SameItems : Book → (ℕ → ℕ → Bool) → (ℕ → ℕ → Bool) → Type 0
SameItems b member other =
    (d : ℕ) → d < definitions b → member (line_at b d).rule (dot_of (line_at b d)) ≡ other (line_at b d).rule (dot_of (line_at b d))
