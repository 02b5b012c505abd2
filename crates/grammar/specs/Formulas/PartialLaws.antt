-- The listed items of a partial state, and what is proved of them in proofs/Formulas/PartialLaws.antt: that they are those at the ends of its chains.
-- Assumes nothing.
use Rattle.std.specs.Prelude.{ℕ}
use mathlib.Core.List.{List, Memᴰ as Mem}
use Rattle.grammar.specs.Data.Book.{Book}
use Rattle.grammar.specs.Automaton.Items.{Chain}
use Rattle.grammar.specs.Automaton.FirstSets.{Sets}
use Rattle.grammar.specs.Automaton.CoreItems.{Core, core, core_items}
use Rattle.grammar.specs.Formulas.Slots.{partial_of}

-- the listed items of the partial state (S, a)
abbrev pub partial_at : Book → Sets → List ℕ → ℕ → ℕ → List Core
partial_at b F R S a = partial_of b.rules F R a (core_items b F S)

-- the items at the ends of the chains of (S, a) are those of the list
pub record PartialItems (b : Book) (S a : ℕ) (items : List Core) : Type 0 where
  pub item_chain : (P D M : ℕ) → Mem (core P D M) items → (c : ℕ) × Chain b S a P D c
  pub chain_item : (P D c : ℕ) → Chain b S a P D c → (M : ℕ) × Mem (core P D M) items
