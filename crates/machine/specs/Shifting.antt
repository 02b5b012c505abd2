-- A shift in arrays is a shift of the machine. Assumes that the book is taken and that the top cell is set.
use Rattle.std.specs.Prelude.{ℕ, suc, ◌+◌, ◌*◌, ◌<◌, ◌≡◌, refl, List, [], ◌∷◌, ◌++◌, get_or, replicate}
use Rattle.std.proofs.Math.Path.{sym, ap}
use Rattle.std.proofs.Common.{◌∙◌, arith, get_or-set_same, get_or-set_other}
use Rattle.std.proofs.Math.Option.{some}
use Rattle.std.proofs.Math.ListN.{length, set, length-append, length-drop, length-set}
use Rattle.grammar.specs.Limits.{MAX_ROWS}
use Rattle.grammar.specs.Data.Symbol.{terminal}
use Rattle.grammar.specs.Data.ListLaws.{drop-step}
use Rattle.grammar.specs.Data.Book.{Book}
use Rattle.grammar.specs.Automaton.States.{shift}
use Rattle.grammar.specs.Evaluator.Tree.{Token}
use Rattle.grammar.specs.Evaluator.Decorated.{token}
use Rattle.grammar.specs.Evaluator.Rows.{Row, row_of_token}
use Rattle.grammar.specs.Evaluator.Machine.{Frame, frame, Config, cell}
use Rattle.grammar.proofs.Evaluator.Moves.{shifted, shift-moves}
use Rattle.grammar.specs.Engine.{tables_of}
use Rattle.book.specs.Layout.{symbol_code}
use Rattle.items.specs.SymbolCodes.{terminal-code}
use Rattle.cells.specs.Frames.{cell_value, a_frame}
use Rattle.cells.specs.FramesLaws.{agree_same, agree-set, frames-kept}
use Rattle.stack.specs.declared.top.Top.{Top}
use Rattle.stack.specs.Goes.{shift-goes, target-of}
use Rattle.stack.specs.Page.{token-stored}
use Rattle.stack.specs.Path.{above}
use Rattle.stack.specs.Pushes.{Stacks, TokenPushed}
use Rattle.stack.specs.Records.{Stored, token-in}
use Rattle.stack.specs.Standing.{BookIn, state_low, Standing, ConfigIn, stands, CellIn, state_of, kind_of, value_of, action_of, GoesOn}

module _ {b : Book} {ks : List Token} {states inherited synthesized starts rows : List ℕ} {top : Top} {st : List Frame} {S p : ℕ} {k : Token}
    {z : List Token} {rs : List Row} (C : Standing b ks states inherited synthesized starts rows top st S (k ∷ z) p rs) where
  -- a frame on the stacks, over those that stand
  shift-stands : (room : length st < length starts) (line : length rs < MAX_ROWS) {target : ℕ} {next : Top} {states' synthesized' starts' rows' : List ℕ}
      → Stacks states synthesized starts rows
      → TokenPushed top target k.kind k.value states synthesized starts rows states' synthesized' starts' rows' next
      → cell (tables_of b) S k.kind st ≡ cell_value inherited (length st) → (tables_of b).go S (terminal k.kind) ≡ some target
      → Standing b ks states' inherited synthesized' starts' rows' next (frame S (cell (tables_of b) S k.kind st) (token k.value) p ∷ st) target z (suc p)
      (rs ++ (row_of_token k p ∷ []))
  unfolding row_of_token
  shift-stands room line {target} {next} {states'} {synthesized'} {starts'} {rows'} L P set-cell go = record {
    frames_in = a_frame
        (record {
          state_is = below_next;
          cell_is = set-cell;
          result_is = token-in (length st) record-next k.value refl;
          start_is = start-next;
        })
        (frames-kept (rw states_are (agree-set (length st + 1) target (omega arith))) agree_same record-next.before
        (rw starts-are (agree-set (length st) p (omega arith))) C.frames_in);
    state_is = state-next;
    rows_in = rw (P.rows_are, C.count_is, C.position_is) (token-stored C.rows_in line L.rows_long k.kind p k.value);
    left_is = sym (drop-step p ks (sym C.left_is));
    depth_is = P.depth_is ∙ rw C.depth_is (omega arith);
    count_is = P.count_is ∙ rw (C.count_is, length-append) (omega arith);
    position_is = P.position_is ∙ rw C.position_is (omega arith);
    depth_low = omega (arith, ap length starts-are, length-set starts (length st) p);
    count_low = rw length-append (omega arith);
    position_low = omega (arith, ap length C.left_is, length-drop p ks);
    path = above C.path go;
  }
    where
      states_are : states' ≡ set states (length st + 1) target
      states_are = P.states_are ∙ ap (λ n. set states (n + 1) target) C.depth_is

      starts-are : starts' ≡ set starts (length st) p
      starts-are = P.starts-are ∙ ap (λ n. set starts n top.position) C.depth_is ∙ ap (set starts (length st)) C.position_is

      record-next : Stored (33 * length st) (set (replicate 33 0) 0 k.value) synthesized 33 synthesized'
      record-next = rw (← C.depth_is) P.record_is

      below_next : get_or states' (length st) 0 ≡ S
      below_next = rw states_are (get_or-set_other states (length st + 1) (length st) target 0 (λ e. omega arith) ∙ C.state_is)

      start-next : get_or starts' (length st) 0 ≡ p
      start-next = rw starts-are (get_or-set_same starts (length st) p 0 (omega arith))

      state-next : get_or states' (suc (length st)) 0 ≡ target
      state-next =
          let e : suc (length st) ≡ length st + 1 = omega arith in
          rw (e, states_are) (get_or-set_same states (length st + 1) target 0 (omega (arith, L.states_long)))

-- ---- the move

module _ {b : Book} {rules definitions table : List ℕ} (B : BookIn b rules definitions table) where
  module _ {ks : List Token} {states inherited synthesized starts rows : List ℕ} {top next : Top} {target kind value : ℕ}
      {states' synthesized' starts' rows' : List ℕ} (L : Stacks states synthesized starts rows)
      (push : TokenPushed top target kind value states synthesized starts rows states' synthesized' starts' rows' next) where
    pub shift-on : {c : Config} {state : ℕ} → ConfigIn b ks states inherited synthesized starts rows top c → CellIn b inherited c → action_of b c ≡ some shift
        → state ≡ state_of c → kind ≡ kind_of c → value ≡ value_of c → top.depth < length starts → top.rows < 512
        → target ≡ get_or table (64 * state + kind) 0 → GoesOn b ks c states' inherited synthesized' starts' rows' next
    shift-on (stands {S = S} {z = []} C) s e i k v h l t = let g = shift-goes B.spelled B.sound S 0 e in absurd (omega (arith, g.low))
    shift-on {state = state} (stands {st = st} {S = S} {p = p} {z = x ∷ z} {rs = rs} C) s e i k v h l t =
        let g = shift-goes B.spelled B.sound S x.kind e in
        let low : x.kind < 32 = omega (arith, g.high, B.sound.limits.terminals_limit.high) in
        let room : length st < length starts = omega (arith, C.depth_is) in
        let line : length rs < MAX_ROWS = omega (arith, C.count_is) in
        let place : 64 * state + kind ≡ 64 * S + symbol_code (terminal x.kind) = omega (arith, terminal-code x.kind low) in
        let same : g.target ≡ target =
        sym (t ∙ ap (λ n. get_or table n 0) place ∙ target-of B.spelled B.sound B.table_in (terminal x.kind) (state_low B C.path)
        (record { low = g.low; high = g.high }) g.goes) in
        let go : (tables_of b).go S (terminal x.kind) ≡ some target = g.goes ∙ ap some same in
        record {
          then = shifted b (tables_of b) x st S target z p rs;
          moves = shift-moves b (tables_of b) x st z p rs e go line (omega (arith, room, L.starts_long));
          holds = stands (shift-stands C room line L (rw (← k, ← v) push) s go);
        }
