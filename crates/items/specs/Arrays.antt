-- What arrays hold of a book's states, word by word: the sets of every rest of a rule, the kernel lines of each state, the closures, the go lines by
-- state and symbol, the actions by state and terminal. Functions over the arrays ask these records. Assumes nothing.
use Rattle.std.specs.Prelude.{ℕ, ◌+◌, ◌*◌, ◌-◌, ◌<◌, ◌≤◌, ◌≡◌, Bool, true, false, List, [], length, get_or, take, drop}
use Rattle.std.proofs.Math.Option.{Option, none, some}
use Rattle.grammar.specs.Data.Symbol.{Symbol, Rule, right_of, after}
use Rattle.grammar.specs.Data.Book.{Book, Kernel}
use Rattle.grammar.specs.Automaton.States.{shift, accept, reduce, go_in}
use Rattle.grammar.specs.Automaton.Fixpoint.{set_at}
use Rattle.grammar.specs.Automaton.FirstSets.{Sets, null, first}
use Rattle.grammar.specs.Automaton.ReachSets.{reach_in}
use Rattle.grammar.specs.Automaton.ClosureSets.{kernels_in, closure_sets}
use Rattle.grammar.specs.Conditions.Meaning.{GoSymbol}
use Rattle.grammar.specs.Automaton.Actions.{Cell, free, act, conflict}
use Rattle.grammar.specs.Automaton.Compiled.{items_table, cells_table}
use Rattle.book.specs.Layout.{symbol_code}

unfoldable pub flag : Bool → ℕ
flag true = 1
flag false = 0

-- of rule P after D symbols, at 9 * P + D: whether the rest is nullable, and what can begin it
pub record SuffixesIn (G : List Rule) (F : Sets) (nullables begins : List ℕ) : Type 0 where
  pub nullables_long : 9 * length G ≤ length nullables
  pub begins_long : 9 * length G ≤ length begins
  pub null_is : (P D : ℕ) → P < length G → D ≤ length (right_of G P) → get_or nullables (9 * P + D) 0 ≡ flag (null F (after G P D))
  pub first_is : (P D : ℕ) → P < length G → D ≤ length (right_of G P) → get_or begins (9 * P + D) 0 ≡ first F (after G P D)

-- and what is reached before it ends
pub record ReachesIn (G : List Rule) (F : Sets) (R : List ℕ) (reaches : List ℕ) : Type 0 where
  pub long : 9 * length G ≤ length reaches
  pub reach_is : (P D : ℕ) → P < length G → D ≤ length (right_of G P) → get_or reaches (9 * P + D) 0 ≡ reach_in F R (after G P D)

-- where the kernel lines of each state begin: those of state S stand from word S up to word S + 1
pub record BoundsIn (ks : List Kernel) (states : ℕ) (bounds : List ℕ) : Type 0 where
  pub long : states + 1 ≤ length bounds
  pub ascend : (S : ℕ) → S < states → get_or bounds S 0 ≤ get_or bounds (S + 1) 0
  pub last_is : get_or bounds states 0 ≡ length ks
  pub lines_are : (S : ℕ) → S < states → kernels_in ks S ≡ take (get_or bounds (S + 1) 0 - get_or bounds S 0) (drop (get_or bounds S 0) ks)

-- the lookaheads of nonterminal B's rules in the closure of state S, at 32 * S + B
pub record ClosuresIn (b : Book) (F : Sets) (closures : List ℕ) : Type 0 where
  pub long : 32 * b.states ≤ length closures
  pub set_is : (S B : ℕ) → S < b.states → B < 32 → get_or closures (32 * S + B) 0 ≡ set_at (closure_sets b F S) B

-- a target, or 255 for no go line
unfoldable pub target_code : Option ℕ → ℕ
target_code none = 255
target_code (some M) = M

-- the target of state S on symbol X, at 64 * S + the symbol's word
pub record GoTableIn (b : Book) (table : List ℕ) : Type 0 where
  pub long : 64 * b.states ≤ length table
  pub go_is : (S : ℕ) (X : Symbol) → S < b.states → GoSymbol b X → get_or table (64 * S + symbol_code X) 0 ≡ target_code (go_in b.goes S X)

-- an action in one word
unfoldable pub cell_code : Cell → ℕ
cell_code free = 0
cell_code (act shift) = 1
cell_code (act accept) = 2
cell_code (act (reduce P)) = 2 + P
cell_code conflict = 255

-- the action of state S at terminal a, at 32 * S + a
pub record ActionsIn (b : Book) (F : Sets) (actions : List ℕ) : Type 0 where
  pub long : 32 * b.states ≤ length actions
  pub action_is : (S a : ℕ) → S < b.states → a ≤ b.terminals
      → get_or actions (32 * S + a) 0 ≡ cell_code (get_or (get_or (cells_table b (items_table b F)) S []) a free)

-- opens every definition of this module
unfoldable pub opens : Unit {0}
unfolding flag target_code cell_code
opens = tt
