use Prim.Native.Nat.{ℕ, ◌≤◌}
use mathlib.Core.Path.{◌≡◌}
use mathlib.Core.Bool.{true}
use mathlib.Core.List.{List}
use native.Mathlib.Omega.{arith}
use Rattle.book.specs.Refusals.{answer_of, number_of}
use Rattle.items.specs.Arrays.{BoundsIn}
use Rattle.automaton.specs.Fronts.{FrontsIn}
use Rattle.grammar.specs.Limits.{MAX_RULES, MAX_STATES}
use Rattle.grammar.specs.Data.Book.{Book}
use Rattle.grammar.specs.Automaton.FirstSets.{sets_of}
use Rattle.grammar.specs.Automaton.StatesCheck.{kernel_rules}
use Rattle.compiler.specs.InArrays.{HeldIn}
use Rattle.compiler.specs.States.{BookHeld, ItemsFilled, held-rules, held-closures, held-fronts}
use Rattle.compiler.specs.States.{tabled-kernels, tabled-goes, tabled-acts, tabled-all}
use Rattle.compiler.proofs.states.fill_tables.Goals as goal
use Rattle.compiler.proofs.states.fill_tables.Goals.{After-kernel_rules, After-fill_fronts}

few : {b : Book} {rules kernels goes : List ℕ} {count items lines terminals states : ℕ}
    → BookHeld b rules count kernels items goes lines terminals states → states ≤ MAX_STATES
few H = omega (arith, H.kernels_held.states_are, H.kernels_held.limits.states_limit.high)

few-rules : {b : Book} {rules kernels goes : List ℕ} {count items lines terminals states : ℕ}
    → BookHeld b rules count kernels items goes lines terminals states → count ≤ MAX_RULES
few-rules H = omega (arith, H.rules_counted, H.kernels_held.rules_in.fits)

-- what the arrays hold of a book, by what was filled
record Filled (c : After-fill_fronts) (b : Book) : Type 0 where
  kernels-are : c.kernel_rules.result ≡ kernel_rules b
  kernels-right : c.kernel_rules.result ≡ true
  bounds_in : BoundsIn b.kernels b.states c.kernel_rules.new.bounds
  items_filled : ItemsFilled b c.fill_items.new.nullables c.fill_items.new.begins c.fill_items.new.reaches c.fill_items.new.closures
  fronts_in : FrontsIn b c.args.rules.now c.fill_items.new.closures c.fill_fronts.new.fronts

filled : (c : After-fill_fronts) (b : Book) → HeldIn c.args.book c.args.rules.now c.args.kernels.now c.args.goes.now b → Filled c b
filled c b H =
    let R = c.kernel_rules.ensures b (held-rules H.kernels_held H.kernels_counted) H.kernels_held.states_are in
    let T = R.bounds_in c.if-not-kernel_rules.false in
    record {
      kernels-are = R.told;
      kernels-right = c.if-not-kernel_rules.false;
      bounds_in = T;
      items_filled = c.fill_items.ensures b H.kernels_held H.rules_counted T;
      fronts_in = held-fronts H.kernels_held H.rules_counted c.fill_fronts.ensures;
    }

pub kernel_rules-requires : goal.kernel_rules-requires
kernel_rules-requires c = let (b, H) = c.requires.book_held in
    ((b, held-rules H.kernels_held H.kernels_counted, H.kernels_held.states_are), c.requires.tables_room.bounds_long (few H))

pub returns-then-not-kernel_rules-clause-tabled : goal.returns-then-not-kernel_rules-clause-tabled
unfolding answer_of number_of
returns-then-not-kernel_rules-clause-tabled c = λ b H.
    let R = c.kernel_rules.ensures b (held-rules H.kernels_held H.kernels_counted) H.kernels_held.states_are in
    tabled-kernels R.told c.if-not-kernel_rules.true

pub fill_items-requires : goal.fill_items-requires
fill_items-requires c = let (b, H) = c.requires.book_held in
    let room = c.requires.tables_room in
    let low = few-rules H in
    let R = c.kernel_rules.ensures b (held-rules H.kernels_held H.kernels_counted) H.kernels_held.states_are in
    record {
      kernels_held = (b, H.kernels_held, H.rules_counted, R.bounds_in c.if-not-kernel_rules.false);
      count_in_bounds = (room.nullables_long low, room.begins_long low, room.reaches_long low, room.closures_blank (few H));
    }

pub moves-requires : goal.moves-requires
moves-requires c =
    let (b, H) = c.requires.book_held in
    let F = filled (goal.at.moves-requires c).After-fill_fronts b H in
    ((b, H.kernels_held, H.goes_in, H.goes_counted, F.bounds_in, F.items_filled.closures_in, F.fronts_in), c.requires.tables_room.table_unset (few H))

pub returns-then-not-moves-clause-tabled : goal.returns-then-not-moves-clause-tabled
unfolding answer_of number_of
returns-then-not-moves-clause-tabled c = λ b H.
    let F = filled (goal.at.returns-then-not-moves-clause-tabled c).After-fill_fronts b H in
    let (g, G) = c.moves.ensures b H.kernels_held H.goes_in H.goes_counted F.bounds_in F.items_filled.closures_in F.fronts_in in
    tabled-goes F.kernels-are F.kernels-right g c.if-not-moves.true

pub fill_actions-requires : goal.fill_actions-requires
fill_actions-requires c =
    let (b, H) = c.requires.book_held in
    let F = filled (goal.at.fill_actions-requires c).After-fill_fronts b H in
    let K = held-closures H.kernels_held F.bounds_in F.items_filled.closures_in in
    (c.requires.tables_room.actions_long (few H), (b, sets_of b.rules, K, H.terminals_are, H.kernels_held.states_are, F.fronts_in))

pub returns-then-not-fill_actions-clause-tabled : goal.returns-then-not-fill_actions-clause-tabled
unfolding answer_of number_of
returns-then-not-fill_actions-clause-tabled c = λ b H.
    let F = filled (goal.at.returns-then-not-fill_actions-clause-tabled c).After-fill_fronts b H in
    let (g, G) = c.moves.ensures b H.kernels_held H.goes_in H.goes_counted F.bounds_in F.items_filled.closures_in F.fronts_in in
    let K = held-closures H.kernels_held F.bounds_in F.items_filled.closures_in in
    let A = c.fill_actions.ensures b (sets_of b.rules) K H.terminals_are H.kernels_held.states_are F.fronts_in in
    tabled-acts F.kernels-are F.kernels-right g c.if-not-moves.false A c.if-not-fill_actions.true

pub returns-clause-tabled : goal.returns-clause-tabled
unfolding answer_of
returns-clause-tabled c = λ b H.
    let F = filled (goal.at.returns-clause-tabled c).After-fill_fronts b H in
    let (g, G) = c.moves.ensures b H.kernels_held H.goes_in H.goes_counted F.bounds_in F.items_filled.closures_in F.fronts_in in
    let K = held-closures H.kernels_held F.bounds_in F.items_filled.closures_in in
    let A = c.fill_actions.ensures b (sets_of b.rules) K H.terminals_are H.kernels_held.states_are F.fronts_in in
    tabled-all F.kernels-are F.kernels-right g c.if-not-moves.false A c.if-not-fill_actions.false F.items_filled F.bounds_in G F.fronts_in
