-- The kernel rules (7) and the go rules (8) as tests that compute.
-- Assumes nothing.
use Rattle.std.specs.Prelude.{ℕ, zero, suc, ◌-◌, Bool, true, false, ◌&&◌, List, [], ◌∷◌, eqb, leb}
use Rattle.std.proofs.Math.Option.{Option, none, some}
use Rattle.sets.specs.Sets.{subset}
use Rattle.grammar.specs.Data.Symbol.{Symbol, Rule, symbol_at, after}
use Rattle.grammar.specs.Data.Book.{Book, Kernel, Go}
use Rattle.grammar.specs.Automaton.States.{same_symbol, go_in}
use Rattle.grammar.specs.Automaton.ClosureSets.{set_of, kernels_in}
use Rattle.grammar.specs.Automaton.CoreItems.{Core, core}

-- t0 alone
unfoldable pub end_alone : List ℕ → Bool
end_alone [] = false
end_alone (a ∷ []) = eqb a 0
end_alone (a ∷ c ∷ rest) = false

-- the kernel lines of state 0
unfoldable pub start_state : List Kernel → Bool
start_state [] = false
start_state (k ∷ []) = eqb k.rule 0 && (eqb k.dot 0 && end_alone k.lookaheads)
start_state (k ∷ l ∷ ks) = false

-- the kernel lines of another state: dots from 1, the symbol X before every dot
unfoldable pub one_symbol : List Rule → Symbol → List Kernel → Bool
one_symbol G X [] = true
one_symbol G X (k ∷ ks) =
    elim (leb 1 k.dot && same_symbol (symbol_at G k.rule k.dot) X) [ true ↦ one_symbol G X ks | false ↦ false ]

unfoldable pub other_state : List Rule → List Kernel → Bool
other_state G [] = false
other_state G (k ∷ ks) = one_symbol G (symbol_at G k.rule k.dot) (k ∷ ks)

-- the states 1 to n
unfoldable pub other_states : Book → ℕ → Bool
other_states b zero = true
other_states b (suc n) = elim (other_state b.rules (kernels_in b.kernels (suc n))) [ true ↦ other_states b n | false ↦ false ]

unfoldable pub start_lookaheads : List Kernel → Bool
start_lookaheads [] = true
start_lookaheads (k ∷ ks) = elim k.rule [ zero ↦ elim (end_alone k.lookaheads) [ true ↦ start_lookaheads ks | false ↦ false ] | suc P ↦ start_lookaheads ks ]

-- 7
unfoldable pub kernel_rules : Book → Bool
kernel_rules b = start_state (kernels_in b.kernels 0) && (other_states b (b.states - 1) && start_lookaheads b.kernels)

-- a kernel line of (P, D) with at least the lookaheads M stands in the list
unfoldable pub holds_item : ℕ → ℕ → ℕ → List Kernel → Bool
holds_item P D M [] = false
holds_item P D M (k ∷ ks) =
    elim (eqb k.rule P && (eqb k.dot D && subset M (set_of k.lookaheads))) [ true ↦ true | false ↦ holds_item P D M ks ]

-- an item's go line exists and leads where the item advanced stands
unfoldable pub advances_to : Book → ℕ → ℕ → ℕ → Option ℕ → Bool
advances_to b P D M none = false
advances_to b P D M (some target) = holds_item P (suc D) M (kernels_in b.kernels target)

unfoldable pub advances : Book → ℕ → ℕ → ℕ → ℕ → List Symbol → Bool
advances b S P D M [] = true
advances b S P D M (X ∷ β) = advances_to b P D M (go_in b.goes S X)

unfoldable pub all_advance : Book → ℕ → List Core → Bool
all_advance b S [] = true
all_advance b S (core P D M ∷ items) = elim (advances b S P D M (after b.rules P D)) [ true ↦ all_advance b S items | false ↦ false ]

-- some item (P, D) with the symbol X behind its dot is in the list
unfoldable pub next_is : Symbol → List Symbol → Bool
next_is X [] = false
next_is X (Y ∷ β) = same_symbol X Y

unfoldable pub comes_from : List Rule → Symbol → ℕ → ℕ → List Core → Bool
comes_from G X P D [] = false
comes_from G X P D (core Q E M ∷ items) =
    elim (eqb Q P && (eqb E D && next_is X (after G Q E))) [ true ↦ true | false ↦ comes_from G X P D items ]

-- each kernel line of a go line's target is an item advanced over its symbol
unfoldable pub all_come : List Rule → Symbol → List Core → List Kernel → Bool
all_come G X items [] = true
all_come G X items (k ∷ ks) =
    elim (leb 1 k.dot && comes_from G X k.rule (k.dot - 1) items) [ true ↦ all_come G X items ks | false ↦ false ]

unfoldable pub some_kernel : List Kernel → Bool
some_kernel [] = false
some_kernel (k ∷ ks) = true

-- `items_at` has the core items of each state
unfoldable pub go_lines : Book → (ℕ → List Core) → List Go → Bool
go_lines b items_at [] = true
go_lines b items_at (g ∷ gs) =
    elim (let ks : List Kernel = kernels_in b.kernels g.target in some_kernel ks && all_come b.rules g.symbol (items_at g.state) ks) [
      | true ↦ go_lines b items_at gs
      | false ↦ false
    ]

unfoldable pub states_advance : Book → (ℕ → List Core) → ℕ → Bool
states_advance b items_at zero = true
states_advance b items_at (suc S) = elim (all_advance b S (items_at S)) [ true ↦ states_advance b items_at S | false ↦ false ]

-- 8
unfoldable pub go_rules : Book → (ℕ → List Core) → Bool
go_rules b items_at = states_advance b items_at b.states && go_lines b items_at b.goes

-- opens every definition of this module
unfoldable pub opens : Unit {0}
unfolding end_alone start_state one_symbol other_state other_states start_lookaheads kernel_rules holds_item advances_to advances all_advance next_is comes_from all_come some_kernel go_lines states_advance go_rules
opens = tt
