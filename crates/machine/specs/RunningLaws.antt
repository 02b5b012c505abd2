-- The moves of a run come to the machine's answer: from the start, move by move, to the move that stops. Assumes that the book is taken.
use Rattle.std.specs.Prelude.{ℕ, ◌+◌, ◌*◌, ◌-◌, ◌≤◌, ◌<◌, ◌≡◌, refl, List, [], length, get_or, set, Result, Ok, Err, MatchResult, IsOkAnd, IsErrAnd, Option, Some, None, MatchOption}
use Rattle.std.proofs.Common.{arith, get_or-set_same}
use Rattle.grammar.specs.Data.Book.{Book}
use Rattle.grammar.specs.Evaluator.Tree.{Token}
use Rattle.grammar.specs.Evaluator.Machine.{Tables, Frame, Config, Answer, refused, accepted, more, stop, start, step, evaluate}
use Rattle.grammar.specs.Evaluator.Runs.{Ends, halts, moves}
use Rattle.grammar.proofs.Evaluator.RunLaws.{row_count, step-rows, evaluate-ends}
use Rattle.grammar.specs.Engine.{tables_of}
use Rattle.book.specs.declared.refusal.Refusal.{Refusal}
use Rattle.book.specs.declared.refusal.Refusal.TheVariants.{NoMessage}
use Rattle.book.specs.Refusals.{number_of}
use Rattle.plans.specs.Plans.{PlansIn, PlansHeld}
use Rattle.cells.specs.Frames.{no_frames}
use Rattle.stack.specs.declared.action.Move.{Move}
use Rattle.stack.specs.declared.action.Action.{Action}
use Rattle.stack.specs.declared.action.Action.TheVariants.{Due}
use Rattle.stack.specs.declared.action.Action.TheVariants as action
use Rattle.stack.specs.declared.top.Top.{Top}
use Rattle.stack.specs.Action.{action_at}
use Rattle.machine.specs.Moving.{Poised, Told}
use Rattle.machine.specs.Running.{RunIn, MovesIn, Facing, facing-of, TopLow, top-low, rows-count, Names, names-action, due-none}
use Rattle.machine.specs.Setting.{TopAsked, TopSet, config-asked, config-set, config-cell}
use Rattle.stack.specs.Page.{RowsIn, no_rows}
use Rattle.stack.specs.Path.{bottom}
use Rattle.stack.specs.Standing.{Message, ConfigIn, stands, frames_of, GoesOn}

-- what a run answers: the refusal, or the rows' count and the rows, behind which may stand anything
abbrev pub Answered : Answer → Result ℕ Refusal → List ℕ → Type 0
Answered (refused n) r rows = IsErrAnd r (λ e. number_of e ≡ n)
Answered (accepted rs) r rows = IsOkAnd r (λ count. (count ≡ length rs) × RowsIn rs rows)

-- ---- the answer of a configuration

module _ (b : Book) (T : Tables) where
  ends_more : {c d : Config} {x : Answer} → Ends b T c x → step b T c ≡ more d → Ends b T d x
  ends_more (halts p) q = absurd (let z : ◌≡◌ {A = ℕ} 0 1 = cc in omega arith)
  ends_more {d = d} (moves {d = e} p s) q = let same : e ≡ d = cc in rw same at s

  ends-stop : {c : Config} {x y : Answer} → Ends b T c x → step b T c ≡ stop y → x ≡ y
  ends-stop (halts p) q = cc
  ends-stop (moves p s) q = absurd (let z : ◌≡◌ {A = ℕ} 0 1 = cc in omega arith)

-- ---- the run

-- a configuration that comes to the machine's answer, in the arrays, with the plans that are worked out
pub record Underway (b : Book) (ks : List Token) (states inherited synthesized starts rows slots lists : List ℕ) (top : Top) : Type 0 where
  pub at : Config
  pub config_in : ConfigIn b ks states inherited synthesized starts rows top at
  pub plans_in : PlansIn b slots lists
  pub ends : Ends b (tables_of b) at (evaluate b (tables_of b) ks)

-- "Start: state 0, no symbols, no rows, first token next"
pub underway-start : {b : Book} {ks : List Token} {inherited synthesized starts rows slots lists : List ℕ} {top : Top} (states : List ℕ)
    → PlansIn b slots lists → 1 ≤ length states → top.depth ≡ 0 → top.rows ≡ 0 → top.position ≡ 0
    → Underway b ks (set states 0 0) inherited synthesized starts rows slots lists top
underway-start {b} {ks} {rows = rows} states P l d n p = record {
  at = start ks;
  config_in = stands {rs = []} (record {
    frames_in = no_frames;
    state_is = get_or-set_same states 0 0 0 (omega arith);
    rows_in = no_rows rows;
    left_is = refl;
    depth_is = d;
    count_is = n;
    position_is = p;
    depth_low = omega arith;
    count_low = omega arith;
    position_low = omega arith;
    path = bottom;
  });
  plans_in = P;
  ends = evaluate-ends b (tables_of b) ks;
}

-- how many rows stand
rows_of : {b : Book} {ks : List Token} {c : Config} {states inherited synthesized starts rows : List ℕ} {top : Top}
    → ConfigIn b ks states inherited synthesized starts rows top c → top.rows ≡ row_count c
rows_of (stands C) = C.count_is

module _ {b : Book} {ks : List Token} {states inherited synthesized starts rows slots lists : List ℕ} {top : Top}
    (U : Underway b ks states inherited synthesized starts rows slots lists top) where
  -- a move more
  module _ {states' inherited' synthesized' starts' rows' : List ℕ} {next : Top}
      (on : GoesOn b ks U.at states' inherited' synthesized' starts' rows' next) where
    underway-more : {slots' lists' : List ℕ} → PlansIn b slots' lists' → Underway b ks states' inherited' synthesized' starts' rows' slots' lists' next
    underway-more P = record { at = on.then; config_in = on.holds; plans_in = P; ends = ends_more b (tables_of b) U.ends on.moves }

    -- and a row more
    underway-less : 512 - next.rows < 512 - top.rows
    underway-less =
        let n = rows_of U.config_in in
        let m = rows_of on.holds in
        let (e, l) = rows-count on.holds in
        let s = step-rows b (tables_of b) U.at on.moves in
        omega arith

-- ---- what a step tells

module _ (b : Book) (ks : List Token) (top : Top) (states inherited synthesized starts rows slots lists : List ℕ) where
  pub record Stepped (m : Result (Option Top) Refusal) : Type 0 where
    pub tells : MatchResult m
        (λ o. MatchOption o (Answered (evaluate b (tables_of b) ks) (Ok top.rows) rows)
        (λ next. Underway b ks states inherited synthesized starts rows slots lists next × (512 - next.rows < 512 - top.rows)))
        (λ r. Answered (evaluate b (tables_of b) ks) (Err r) rows)

-- what a move told is what the step tells
stepped : {b : Book} {ks : List Token} {states inherited synthesized starts rows slots lists : List ℕ} {top : Top}
    (U : Underway b ks states inherited synthesized starts rows slots lists top)
    {states' inherited' synthesized' starts' rows' slots' lists' : List ℕ} {m : Result (Option Top) Refusal} → PlansIn b slots' lists'
    → Told b ks U.at states' inherited' synthesized' starts' rows' m → Stepped b ks top states' inherited' synthesized' starts' rows' slots' lists' m
stepped U {m = Ok (Some next)} P T = record { tells = (underway-more U T.tells P, underway-less U T.tells) }
stepped {b} U {m = Ok None} P T =
    record { tells = rw (ends-stop b (tables_of b) U.ends T.tells.stops) ((rows-count U.config_in).0, T.tells.rows_in) }
stepped {b} U {m = Err r} P T = record { tells = rw (ends-stop b (tables_of b) U.ends T.tells) refl }

-- ---- a step

-- a configuration whose top cell is set, with the plans that are worked out
pub record Ready (b : Book) (ks : List Token) (c : Config) (states inherited synthesized starts rows slots lists : List ℕ) (top : Top) : Type 0 where
  pub poised : Poised b ks c states inherited synthesized starts rows top
  pub plans_in : PlansIn b slots lists

module _ {b : Book} {ks : List Token} {rules definitions : List ℕ} {lines : ℕ}
    {owned kernels bounds closures nullables reaches places spans down up table actions tokens : List ℕ}
    {states inherited synthesized starts rows slots lists : List ℕ} {top : Top}
    (R : RunIn b ks rules definitions lines owned kernels bounds closures nullables reaches places spans down up table actions tokens) (M : Message b ks)
    (U : Underway b ks states inherited synthesized starts rows slots lists top) where
  pub run-low : TopLow starts top
  run-low = top-low M U.config_in

  pub run-moves : MovesIn b rules definitions spans down up table
  run-moves = record { book_in = R.driven.book_in; left_in = R.left_in }

  module _ {state kind : ℕ} (state_is : state ≡ get_or states top.depth 0) (kind_is : kind ≡ get_or tokens (2 * top.position) 0) where
    pub run-facing : {value : ℕ} → value ≡ get_or tokens (2 * top.position + 1) 0 → Facing b U.at state kind value
    run-facing value_is = rw (state_is, kind_is, value_is) (facing-of tokens R.driven.book_in R.tokens-in M U.config_in)

    pub run-asked : TopAsked b definitions inherited synthesized state top.depth states starts (frames_of U.at)
    run-asked = config-asked R.driven.book_in U.config_in (run-facing refl).state_is refl

    -- where what `set_top` ensures is known: the law takes it whole, so that its long terms are written once
    module _ {slots' lists' inherited' : List ℕ}
        (sets : (b : Book) (states starts : List ℕ) (st : List Frame)
        → TopAsked b definitions inherited synthesized state top.depth states starts st → state < b.states
        → PlansHeld b rules definitions lines owned kernels bounds closures nullables reaches places → PlansIn b slots lists
        → TopSet b slots' lists' inherited inherited' synthesized state kind states starts st) where
      cell_set : TopSet b slots' lists' inherited inherited' synthesized state kind states starts (frames_of U.at)
      cell_set = sets b states starts (frames_of U.at) run-asked (run-facing refl).state_there R.driven.plans-held U.plans_in

      pub run-set : Ready b ks U.at states inherited' synthesized starts rows slots' lists' top
      run-set =
          let B = R.driven.book_in in
          let F = run-facing refl in
          record {
            poised = record {
              config_in = config-set B U.config_in F.state_is F.kind_is cell_set;
              cell_in = config-cell B U.config_in F.state_is F.kind_is cell_set;
              message = M;
            };
            plans_in = cell_set.plans_in;
          }

    -- with the action
    module _ {x : Action} (action_is : x ≡ action_at (get_or actions (32 * state + kind) 0)) where
      pub run-names : Names b U.at x
      run-names = rw action_is (names-action R.driven.book_in R.actions_in (run-facing refl))

      -- none is due
      pub run_none : x ≡ action.None → Stepped b ks top states inherited synthesized starts rows slots lists (Err NoMessage)
      unfolding number_of
      run_none e = stepped U U.plans_in (record { tells = due-none run-names e })

      -- one is, and what `advance` ensures
      module _ {due : Move} (due-is : x ≡ Due due) {value : ℕ} (value_is : value ≡ get_or tokens (2 * top.position + 1) 0) {slots' lists' inherited' : List ℕ}
          (Q : Ready b ks U.at states inherited' synthesized starts rows slots' lists' top) where
        pub run-due : Names b U.at (Due due)
        run-due = rw due-is at run-names

        pub run-stepped : {m : Result (Option Top) Refusal} {states' cells' synthesized' starts' rows' : List ℕ}
            → ((b : Book) (ks : List Token) (c : Config) → MovesIn b rules definitions spans down up table
            → Poised b ks c states inherited' synthesized starts rows top → Facing b c state kind value → Names b c (Due due)
            → Told b ks c states' cells' synthesized' starts' rows' m)
            → Stepped b ks top states' cells' synthesized' starts' rows' slots' lists' m
        run-stepped moved = stepped U Q.plans_in (moved b ks U.at run-moves Q.poised (run-facing value_is) run-due)
