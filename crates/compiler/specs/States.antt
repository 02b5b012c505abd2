-- A book that is spelled right (2), within the limits (3) and declared (4), in the arrays from which its states are worked out; the arrays that are
-- filled; and the first of 7, 8 and 9 that applies. Assumes nothing.
use Rattle.std.specs.Prelude.{ℕ, ◌+◌, ◌*◌, ◌≤◌, ◌≡◌, Bool, true, false, List, length, replicate}
use Rattle.std.proofs.Common.{sym, ap, ◌∙◌, arith}
use Rattle.std.proofs.lemmas.List.{length-replicate}
use Rattle.text.proofs.Positional.{by_less}
use Rattle.grammar.specs.Limits.{MAX_RULES, MAX_STATES}
use Rattle.grammar.specs.Data.Book.{Book}
use Rattle.grammar.specs.Format.Ordered.{Ordered}
use Rattle.grammar.specs.Conditions.Meaning.{WithinLimits, Declared}
use Rattle.grammar.specs.BookFacts.{small-book}
use Rattle.grammar.specs.Automaton.FirstSets.{sets_of}
use Rattle.grammar.specs.Automaton.StatesCheck.{kernel_rules, go_rules}
use Rattle.grammar.specs.Automaton.Compiled.{items_table, items_at, cells_table, no_conflict}
use Rattle.book.specs.declared.Book.{Book as Counts}
use Rattle.book.specs.declared.Room.{Room}
use Rattle.book.specs.Held.{RulesIn, KernelsIn, GoesIn}
use Rattle.book.specs.Spelling.{Complete}
use Rattle.items.specs.Arrays.{SuffixesIn, BoundsIn, ClosuresIn, GoTableIn, ActionsIn}
use Rattle.items.specs.Closures.{StateItemsIn, Blank}
use Rattle.automaton.specs.KernelRules.{RuledIn}
use Rattle.items.specs.GrammarIn.{GrammarIn}
use Rattle.items.specs.GrammarOf.{GrammarHeld, book-grammar}
use Rattle.items.specs.RestSets.{RestSetsIn}
use Rattle.automaton.specs.GoTable.{Unset, unset-fewer}
use Rattle.automaton.specs.StatesIn.{StatesIn, ItemsIn}
use Rattle.automaton.specs.Fronts.{Fronts, FrontsIn}
use Rattle.automaton.specs.ActionTable.{Acted}
use Rattle.automaton.specs.BookHeld.{state-items-in, ruled-in}

-- the rules and the kernel lines
pub record KernelsHeld (b : Book) (rules kernels : List ℕ) (states : ℕ) : Type 0 where
  pub ordered : Ordered b
  pub limits : WithinLimits b
  pub declared : Declared b
  pub rules_in : RulesIn b.rules rules
  pub kernels-in : KernelsIn b.kernels kernels
  pub states_are : states ≡ b.states

-- with the go lines, and the number of the lines of each kind
pub record BookHeld (b : Book) (rules : List ℕ) (count : ℕ) (kernels : List ℕ) (items : ℕ) (goes : List ℕ) (lines terminals states : ℕ) : Type 0 where
  pub kernels_held : KernelsHeld b rules kernels states
  pub goes_in : GoesIn b.goes goes
  pub rules_counted : count ≡ length b.rules
  pub kernels_counted : items ≡ length b.kernels
  pub goes_counted : lines ≡ length b.goes
  pub terminals_are : terminals ≡ b.terminals

-- the go rules (8), no conflict (9)

abbrev pub goes_right : Book → Bool
goes_right b = go_rules b (items_at b (items_table b (sets_of b.rules)))

abbrev pub acts_right : Book → Bool
acts_right b = no_conflict b (cells_table b (items_table b (sets_of b.rules)))

-- the first of 7, 8 and 9 that applies, or 0
unfoldable pub tables_refusal : Book → ℕ
tables_refusal b =
    elim (kernel_rules b) [
      | false ↦ 7
      | true ↦ elim (goes_right b) [ false ↦ 8 | true ↦ elim (acts_right b) [ false ↦ 9 | true ↦ 0 ] ]
    ]

-- the sets of the rules' rests, and the closures
pub record ItemsFilled (b : Book) (nullables begins reaches closures : List ℕ) : Type 0 where
  pub rests_in : RestSetsIn b.rules nullables begins reaches
  pub closures_in : ClosuresIn b (sets_of b.rules) closures

-- with where the kernel lines of each state begin, the go table and the actions
pub record TablesIn (b : Book) (nullables begins reaches bounds closures table actions : List ℕ) : Type 0 where
  pub items_filled : ItemsFilled b nullables begins reaches closures
  pub bounds_in : BoundsIn b.kernels b.states bounds
  pub table_in : GoTableIn b table
  pub actions_in : ActionsIn b (sets_of b.rules) actions

-- the arrays as they are lent, with room for the rules and the states of a book within the limits
pub record TablesRoom (rules states : ℕ) (nullables begins reaches bounds closures fronts table actions : List ℕ) : Type 0 where
  pub nullables_long : rules ≤ MAX_RULES → 9 * rules ≤ length nullables
  pub begins_long : rules ≤ MAX_RULES → 9 * rules ≤ length begins
  pub reaches_long : rules ≤ MAX_RULES → 9 * rules ≤ length reaches
  pub bounds_long : states ≤ MAX_STATES → states + 1 ≤ length bounds
  pub closures_blank : states ≤ MAX_STATES → Blank states closures
  pub fronts_long : states ≤ MAX_STATES → states ≤ length fronts
  pub table_unset : states ≤ MAX_STATES → Unset states table
  pub actions_long : states ≤ MAX_STATES → 32 * states ≤ length actions

-- the same, with as much room as is said
pub record TablesLent (room : Room) (nullables begins reaches bounds closures fronts table actions : List ℕ) : Type 0 where
  pub nullables_long : 9 * room.rules ≤ length nullables
  pub begins_long : 9 * room.rules ≤ length begins
  pub reaches_long : 9 * room.rules ≤ length reaches
  pub bounds_long : room.states + 1 ≤ length bounds
  pub closures_none : closures ≡ replicate (32 * room.states) 0
  pub fronts_long : room.states ≤ length fronts
  pub table_unset : Unset room.states table
  pub actions_long : 32 * room.states ≤ length actions

-- actions may be written over before they are filled
pub actions-kept : {room : Room} {nullables begins reaches bounds closures fronts table actions new : List ℕ} → length new ≡ length actions
    → TablesLent room nullables begins reaches bounds closures fronts table actions
    → TablesLent room nullables begins reaches bounds closures fronts table new
actions-kept e t = record {
  nullables_long = t.nullables_long;
  begins_long = t.begins_long;
  reaches_long = t.reaches_long;
  bounds_long = t.bounds_long;
  closures_none = t.closures_none;
  fronts_long = t.fronts_long;
  table_unset = t.table_unset;
  actions_long = omega (arith, t.actions_long);
}

-- the states of a book within the limits have room
pub states-enough : {room : Room} {numbers : Counts} → Complete room numbers → numbers.states ≤ MAX_STATES
    → numbers.states ≤ room.states
states-enough {room} fit low = by_less room.states MAX_STATES (λ less. fit.states-fit less) (λ all. omega arith)

-- so have its rules
pub rules-enough : {room : Room} {numbers : Counts} → Complete room numbers → numbers.rules ≤ MAX_RULES
    → numbers.rules ≤ room.rules
rules-enough {room} fit low = by_less room.rules MAX_RULES (λ less. fit.rules-fit less) (λ all. omega arith)

pub tables-room : {room : Room} {numbers : Counts} {nullables begins reaches bounds closures fronts table actions : List ℕ} → Complete room numbers
    → TablesLent room nullables begins reaches bounds closures fronts table actions
    → TablesRoom numbers.rules numbers.states nullables begins reaches bounds closures fronts table actions
tables-room {room} {numbers} {closures = closures} fit t =
    record {
      nullables_long = λ few. omega (arith, t.nullables_long, rules-enough fit few);
      begins_long = λ few. omega (arith, t.begins_long, rules-enough fit few);
      reaches_long = λ few. omega (arith, t.reaches_long, rules-enough fit few);
      bounds_long = λ few. omega (arith, t.bounds_long, enough few);
      closures_blank = λ few. record {
        long = omega (arith, closures-long, enough few);
        none = t.closures_none ∙ ap (λ (n : ℕ). replicate n 0) (sym closures-long);
      };
      fronts_long = λ few. omega (arith, t.fronts_long, enough few);
      table_unset = λ few. unset-fewer t.table_unset (enough few);
      actions_long = λ few. omega (arith, t.actions_long, enough few);
    }
  where
    closures-long : length closures ≡ 32 * room.states
    closures-long = ap length t.closures_none ∙ length-replicate {A = ℕ} (32 * room.states) 0

    enough : numbers.states ≤ MAX_STATES → numbers.states ≤ room.states
    enough = states-enough fit

-- the refusal r is told, and the arrays are filled where there is none, with the rules of each state's closure
pub record Tabled (b : Book) (r : ℕ) (rules nullables begins reaches bounds closures fronts table actions : List ℕ) : Type 0 where
  pub told : r ≡ tables_refusal b
  pub filled : r ≡ 0 → TablesIn b nullables begins reaches bounds closures table actions
  pub fronts_in : r ≡ 0 → FrontsIn b rules closures fronts

-- ---- what the functions over these arrays ask

module _ {b : Book} {rules kernels : List ℕ} {states : ℕ} (h : KernelsHeld b rules kernels states) where
  pub held-rules : {count : ℕ} → count ≡ length b.kernels → RuledIn b rules kernels count
  held-rules e = rw e (ruled-in h.ordered h.limits h.declared h.rules_in h.kernels-in)

  pub held-grammar : {count : ℕ} → count ≡ length b.rules → GrammarHeld b.rules rules count
  held-grammar e = book-grammar h.limits (small-book h.ordered h.limits h.declared) h.rules_in e

  rules-held : GrammarIn b rules
  rules-held = record { limits = h.limits; declared = h.declared; rules_in = h.rules_in }

  -- what was filled, of this book
  pub held-fronts : {count : ℕ} {closures fronts : List ℕ} → count ≡ length b.rules → Fronts rules count closures states fronts
      → FrontsIn b rules closures fronts
  held-fronts e W = rw (e, h.states_are) at W

  module _ {bounds : List ℕ} (T : BoundsIn b.kernels b.states bounds) where
    pub held_items : {count : ℕ} {nullables begins : List ℕ} → count ≡ length b.rules → SuffixesIn b.rules (sets_of b.rules) nullables begins
        → StateItemsIn b (sets_of b.rules) rules count kernels bounds states nullables begins
    held_items e S = rw (e, h.states_are) (state-items-in h.ordered h.limits h.declared h.rules_in S h.kernels-in T)

    pub held-states : StatesIn b rules kernels bounds
    held-states = record { grammar_in = rules-held; kernels-in = h.kernels-in; bounds_in = T }

    module _ {closures : List ℕ} (C : ClosuresIn b (sets_of b.rules) closures) where
      pub held-closures : ItemsIn b (sets_of b.rules) rules kernels bounds closures
      held-closures = record { states_in = held-states; closures_in = C }

-- ---- the refusal, by what was asked first

module _ (b : Book) where
  pub kernels-refused : kernel_rules b ≡ false → tables_refusal b ≡ 7
  unfolding tables_refusal
  kernels-refused e = rw (e, tables_refusal)

  module _ (k : kernel_rules b ≡ true) where
    pub goes-refused : goes_right b ≡ false → tables_refusal b ≡ 8
    unfolding tables_refusal
    goes-refused e = rw (k, e, tables_refusal)

    module _ (g : goes_right b ≡ true) where
      pub acts-refused : acts_right b ≡ false → tables_refusal b ≡ 9
      unfolding tables_refusal
      acts-refused e = rw (k, g, e, tables_refusal)

      pub none-refused : acts_right b ≡ true → tables_refusal b ≡ 0
      unfolding tables_refusal
      none-refused e = rw (k, g, e, tables_refusal)

-- ---- the answer, by what the steps told

module _ {b : Book} {rules nullables begins reaches bounds closures fronts table actions : List ℕ} {k : Bool} (k-is : k ≡ kernel_rules b) where
  pub tabled-kernels : k ≡ false → Tabled b 7 rules nullables begins reaches bounds closures fronts table actions
  tabled-kernels f = record { told = sym (kernels-refused b (sym k-is ∙ f)); filled = λ z. absurd (omega arith); fronts_in = λ z. absurd (omega arith) }

  module _ (k-right : k ≡ true) {g : Bool} (g-is : g ≡ goes_right b) where
    pub tabled-goes : g ≡ false → Tabled b 8 rules nullables begins reaches bounds closures fronts table actions
    tabled-goes f = record {
      told = sym (goes-refused b (sym k-is ∙ k-right) (sym g-is ∙ f));
      filled = λ z. absurd (omega arith);
      fronts_in = λ z. absurd (omega arith);
    }

    module _ (g-right : g ≡ true) {a : Bool} (acted : Acted b (sets_of b.rules) actions a) where
      pub tabled-acts : a ≡ false → Tabled b 9 rules nullables begins reaches bounds closures fronts table actions
      tabled-acts f = record {
        told = sym (acts-refused b (sym k-is ∙ k-right) (sym g-is ∙ g-right) (sym acted.told ∙ f));
        filled = λ z. absurd (omega arith);
        fronts_in = λ z. absurd (omega arith);
      }

      pub tabled-all : a ≡ true → ItemsFilled b nullables begins reaches closures → BoundsIn b.kernels b.states bounds → GoTableIn b table
          → FrontsIn b rules closures fronts → Tabled b 0 rules nullables begins reaches bounds closures fronts table actions
      tabled-all t I T G W = record {
        told = sym (none-refused b (sym k-is ∙ k-right) (sym g-is ∙ g-right) (sym acted.told ∙ t));
        filled = λ z. record { items_filled = I; bounds_in = T; table_in = G; actions_in = acted.table t };
        fronts_in = λ z. W;
      }

-- opens every definition of this module
unfoldable pub opens : Unit {0}
unfolding tables_refusal
opens = tt
