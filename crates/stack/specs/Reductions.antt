-- A reduce in arrays is a reduce of the machine: the cell above what it pops is not read. Assumes that the book is taken and that the top cell is set
-- where the rule is empty.
use Rattle.std.specs.Prelude.{ℕ, zero, suc, ◌+◌, ◌*◌, ◌-◌, ◌≤◌, ◌<◌, ◌≡◌, refl, List, [], ◌∷◌, ◌++◌, set}
use Rattle.std.proofs.Math.Path.{sym, ap}
use Rattle.std.proofs.Common.{◌∙◌, arith, length-append, length-set, get_or-set_same, get_or-set_other}
use Rattle.std.proofs.Math.Option.{some}
use Rattle.std.proofs.Math.Decide.{dec_lt}
use Rattle.std.proofs.Math.ListN.{length, get_or}
use Rattle.grammar.specs.Limits.{MAX_OWNED, MAX_RULES, MAX_ROWS}
use Rattle.grammar.specs.Data.Symbol.{nonterminal, left_of, right_of}
use Rattle.grammar.specs.Data.Term.{Leaves, in_number, eval}
use Rattle.grammar.specs.Data.Book.{Book, owner_at, synthesized_expr}
use Rattle.grammar.specs.Data.DefinitionLaws.{synthesized-by}
use Rattle.grammar.specs.Conditions.Decides.{count}
use Rattle.grammar.specs.Automaton.States.{reduce}
use Rattle.grammar.specs.Evaluator.Tree.{Token, next as kind}
use Rattle.grammar.specs.Evaluator.Decorated.{Values, Result, values, place_value, synthesized_from}
use Rattle.grammar.specs.Evaluator.Rows.{Row, row_of_node, owned}
use Rattle.grammar.specs.Evaluator.RowsLaws.{owned-same}
use Rattle.grammar.specs.Evaluator.Machine.{Frame, frame, Config, cell, pop}
use Rattle.grammar.proofs.Evaluator.Moves as moves
use Rattle.grammar.proofs.Evaluator.TakenPremises.{premises}
use Rattle.grammar.specs.Engine.{tables_of}
use Rattle.grammar.specs.Data.ListLaws.{member-at}
use Rattle.book.specs.Held.{no_synthesized}
use Rattle.book.specs.Layout.{symbol_code}
use Rattle.items.specs.SymbolCodes.{nonterminal-code}
use Rattle.cells.specs.Frames.{cell_value, ResultIn, FrameIn, FramesIn, a_frame, PoppedIn}
use Rattle.cells.specs.FramesLaws.{cell-word, agree_same, agree-set, frames-kept, pops-in}
use Rattle.cells.specs.Values.{MayRead}
use Rattle.cells.specs.DefinitionsAsked.{synthesized-asked}
use Rattle.cells.specs.FrameValues.{synthesized-value}
use Rattle.stack.specs.declared.top.Top.{Top}
use Rattle.stack.specs.Action.{Reduced, reduced}
use Rattle.stack.specs.Goes.{reduce-goes, target-of}
use Rattle.stack.specs.Lists.{gathered, numbers-few, gathered-owned}
use Rattle.stack.specs.NodeValues.{NodeAsked, NodeValues}
use Rattle.stack.specs.Page.{RowsIn, node_stored, node-stored}
use Rattle.stack.specs.Path.{Path, above, pop-path, deep}
use Rattle.stack.specs.Pushes.{Stacks, StartOf, NodePushed}
use Rattle.stack.specs.Records.{Stored, values-in}
use Rattle.stack.specs.Standing.{BookIn, state_low, LeftIn, Standing, ConfigIn, stands, CellIn, action_of, GoesOn}

-- an attribute of a nonterminal is one of the attributes
owned-low : (owners : List ℕ) (K A : ℕ) → owner_at owners K ≡ A → A < 32 → K < length owners
owned-low [] K A e h = absurd (omega arith)
owned-low (o ∷ owners) zero A e h = omega arith
owned-low (o ∷ owners) (suc K) A e h = omega (arith, owned-low owners K A e h)

owned-few : (owners : List ℕ) (A : ℕ) (f : Values) → count A owners ≤ MAX_OWNED → length (owned owners A f) ≤ MAX_OWNED
unfolding owned
owned-few owners A f h = omega (arith, numbers-few owners (length owners) A f (omega arith))

same-node : (P : ℕ) {r r' start start' : ℕ} {is is' ss ss' : List ℕ} (out : List ℕ) → r ≡ r' → start ≡ start' → is ≡ is' → ss ≡ ss'
    → node_stored r P start is ss out ≡ node_stored r' P start' is' ss' out
same-node P out e f g h = cc

module _ {b : Book} {rules definitions table spans down up : List ℕ} (B : BookIn b rules definitions table) (F : LeftIn b definitions spans down up)
    (P : ℕ) where
  abbrev size : ℕ
  size = length (right_of b.rules P)

  -- rule P's definitions read its right side
  left-reads : (K : ℕ) → Leaves (MayRead size) (synthesized_expr b P K)
  left-reads K =
      synthesized-by (Leaves (MayRead size)) P K b.synthesized_definitions (λ n. in_number)
      λ d m (p, a).
      let (i, l, e) = member-at b.synthesized_definitions no_synthesized m in
      let asked = synthesized-asked B.definitions_in B.sound.limits B.sound.names i l in
      rw (e, p) at asked.reads

  -- they define none past the last attribute
  left-past : (i : Values) (cs : List Result) (K : ℕ) → 32 ≤ K → synthesized_from b P i cs K ≡ 0
  unfolding synthesized_from eval
  left-past i cs K h =
      synthesized-by (λ e. eval e (place_value i cs) ≡ 0) P K b.synthesized_definitions (λ n. refl)
      λ d m (p, a). absurd (omega (arith, (B.sound.names.synthesized-declared d m).attribute_there, B.sound.limits.synthesized_limit))

  module _ {ks : List Token} {states inherited synthesized starts rows : List ℕ} {top : Top} {st : List Frame} {S p : ℕ}
      {z : List Token} {rs : List Row} (C : Standing b ks states inherited synthesized starts rows top st S z p rs)
      (e : (tables_of b).act S (kind z) ≡ some (reduce P)) (set-cell : cell (tables_of b) S (kind z) st ≡ cell_value inherited (length st)) where
    -- the rule is complete, and its right side stands on the stacks
    complete : Reduced B.spelled B.sound S (kind z) P
    complete = reduced B.spelled B.sound S (kind z) P e

    reduce-deep : size ≤ length st
    reduce-deep = deep b (tables_of b) (premises B.spelled B.sound) C.path size complete.complete

    low : ℕ
    low = length st - size

    left_low : left_of b.rules P < 32
    left_low = omega (arith, (B.sound.names.left_sides P complete.later complete.there).high, B.sound.limits.nonterminals_limit.high)

    taken-off : PoppedIn states inherited synthesized starts low size p (pop size S (cell (tables_of b) S (kind z) st) p st [])
    unfolding low
    taken-off = pops-in size low C.frames_in (omega (arith, reduce-deep)) C.state_is (λ empty. set-cell)

    path-off : Path (tables_of b) taken-off.state taken-off.below
    path-off = rw taken-off.popped_is at (pop-path (tables_of b) size (cell (tables_of b) S (kind z) st) p [] C.path)

    abbrev left_values : Values
    left_values = synthesized_from b P taken-off.cell taken-off.results

    -- the machine after the reduce
    abbrev reduced_to : ℕ → Config
    reduced_to M = moves.reduced b (tables_of b) P taken-off.state taken-off.cell taken-off.start taken-off.below left_values M z p rs

    -- ---- the words after the push

    module _ (room : length st < length starts + size) (line : length rs < MAX_ROWS) {target owner start : ℕ} {fresh : List ℕ} {next : Top}
        {states' synthesized' starts' rows' : List ℕ} (L : Stacks states synthesized starts rows) (cells : length inherited ≡ 16 * length starts + 16)
        (push : NodePushed top target P size owner start fresh down inherited up states synthesized starts rows states' synthesized' starts' rows' next)
        (owner_is : owner ≡ left_of b.rules P) (start_is : start ≡ taken-off.start) (fresh_in : NodeValues b P low inherited synthesized fresh) where
      low-is : top.depth - size ≡ low
      unfolding low
      low-is = ap (λ n. n - size) C.depth_is

      low-room : low < length starts
      unfolding low
      low-room = omega (arith, reduce-deep)

      states_are : states' ≡ set states (low + 1) target
      states_are = push.states_are ∙ ap (λ n. set states (n + 1) target) low-is

      starts-are : starts' ≡ set starts low taken-off.start
      starts-are = push.starts-are ∙ ap (λ n. set starts n start) low-is ∙ ap (set starts low) start_is

      record-next : Stored (33 * low) fresh synthesized 33 synthesized'
      record-next = rw (← low-is) push.record_is

      value-next : (K : ℕ) → K < 32 → left_values K ≡ get_or fresh (1 + K) 0
      value-next K h = sym (fresh_in.value_is K h ∙ synthesized-value taken-off b P K (left-reads K))

      result-next : ResultIn (values left_values) synthesized' low
      result-next = values-in low record-next left_values fresh_in.no_token value-next (left-past taken-off.cell taken-off.results)

      -- the row has the values of the cell and of the record
      down-row : gathered down owner inherited (16 * low) ≡ owned b.inherited_owners (left_of b.rules P) taken-off.cell
      down-row =
          let fits : 16 * low + length b.inherited_owners ≤ length inherited = omega (arith, low-room, B.sound.limits.inherited_limit) in
          rw owner_is (gathered-owned F.down_in left_low inherited (16 * low) fits
          ∙ owned-same b.inherited_owners (left_of b.rules P) _ _ λ K o.
          let k : K < 16 = omega (arith, owned-low b.inherited_owners K _ o left_low, B.sound.limits.inherited_limit) in
          sym (ap (λ f. f K) taken-off.cell_is ∙ cell-word inherited low K k))

      up-row : gathered up owner synthesized' (33 * low + 1) ≡ owned b.synthesized_owners (left_of b.rules P) left_values
      up-row =
          let fits : 33 * low + 1 + length b.synthesized_owners ≤ length synthesized' =
          omega (arith, low-room, record-next.long, L.synthesized_long, B.sound.limits.synthesized_limit) in
          rw owner_is (gathered-owned F.up_in left_low synthesized' (33 * low + 1) fits
          ∙ owned-same b.synthesized_owners (left_of b.rules P) _ _ λ K o.
          let k : K < 32 = omega (arith, owned-low b.synthesized_owners K _ o left_low, B.sound.limits.synthesized_limit) in
          let i : 33 * low + 1 + K ≡ 33 * low + (1 + K) = omega arith in
          rw i (record-next.word_is (1 + K) (omega arith)) ∙ sym (value-next K k))

      rows-stored : rows'
          ≡ node_stored (length rs) P taken-off.start (owned b.inherited_owners (left_of b.rules P) taken-off.cell)
          (owned b.synthesized_owners (left_of b.rules P) left_values) rows
      rows-stored =
          push.rows_are
          ∙ same-node P rows C.count_is start_is (ap (λ n. gathered down owner inherited (16 * n)) low-is ∙ down-row)
          (ap (λ n. gathered up owner synthesized' (33 * n + 1)) low-is ∙ up-row)

      rows_next : RowsIn (rs ++ (row_of_node b P taken-off.start taken-off.cell left_values ∷ [])) rows'
      unfolding row_of_node
      rows_next =
          rw rows-stored (node-stored C.rows_in line L.rows_long P taken-off.start _ _
          (owned-few b.inherited_owners (left_of b.rules P) taken-off.cell (B.sound.limits.inherited_each (left_of b.rules P)))
          (owned-few b.synthesized_owners (left_of b.rules P) left_values (B.sound.limits.synthesized_each (left_of b.rules P))))

      frame-next : FrameIn states' inherited synthesized' starts' taken-off.state taken-off.cell (values left_values) taken-off.start low
      frame-next = record {
        state_is = rw states_are (get_or-set_other states (low + 1) low target 0 (λ q. omega arith) ∙ taken-off.state_is);
        cell_is = taken-off.cell_is;
        result_is = result-next;
        start_is = rw starts-are (get_or-set_same starts low taken-off.start 0 (omega (arith, low-room)));
      }

      frame-there : FrameIn states' inherited synthesized' starts' taken-off.state taken-off.cell (values left_values) taken-off.start
          (length taken-off.below)
      frame-there = rw taken-off.below_long frame-next

      frames-next : FramesIn states' inherited synthesized' starts' taken-off.below
      frames-next =
          frames-kept (rw states_are (agree-set (low + 1) target (omega (arith, taken-off.below_long)))) agree_same
          (rw taken-off.below_long record-next.before) (rw starts-are (agree-set low taken-off.start (omega (arith, taken-off.below_long))))
          taken-off.below_in

      state-next : get_or states' (suc low) 0 ≡ target
      state-next =
          let i : suc low ≡ low + 1 = omega arith in
          rw (i, states_are) (get_or-set_same states (low + 1) target 0 (omega (arith, L.states_long, low-room)))

      reduce-stands : (tables_of b).go taken-off.state (nonterminal (left_of b.rules P)) ≡ some target
          → Standing b ks states' inherited synthesized' starts' rows' next
          (frame taken-off.state taken-off.cell (values left_values) taken-off.start ∷ taken-off.below) target z p
          (rs ++ (row_of_node b P taken-off.start taken-off.cell left_values ∷ []))
      reduce-stands go = record {
        frames_in = a_frame frame-there frames-next;
        state_is = rw taken-off.below_long state-next;
        rows_in = rows_next;
        left_is = C.left_is;
        depth_is = push.depth_is ∙ omega (arith, low-is, taken-off.below_long);
        count_is = push.count_is ∙ omega (arith, C.count_is, length-append rs (row_of_node b P taken-off.start taken-off.cell left_values ∷ []));
        position_is = push.position_is ∙ C.position_is;
        depth_low = omega (arith, low-room, taken-off.below_long, ap length starts-are, length-set starts low taken-off.start);
        count_low = rw length-append (omega arith);
        position_low = C.position_low;
        path = above path-off go;
      }

  -- ---- the move

  -- the words of the rule, and the state that its right side leaves on top
  pub record RuleReady (ks : List Token) (states starts : List ℕ) (top : Top) : Type 0 where
    pub rule_low : P < MAX_RULES
    pub rule_place : 10 * P + 10 ≤ length rules
    pub size_is : get_or rules (10 * P + 1) 0 ≡ size
    pub owner_is : get_or rules (10 * P) 0 ≡ left_of b.rules P
    pub owner_low : get_or rules (10 * P) 0 < 32
    pub deep : size ≤ top.depth
    pub depth_low : top.depth ≤ length starts
    pub position_low : top.position ≤ length ks
    pub state_there : get_or states (top.depth - size) 0 < b.states
    pub state_low : get_or states (top.depth - size) 0 < 128
    pub asked : NodeAsked b definitions spans P (get_or rules (10 * P + 1) 0)

  module _ {ks : List Token} {states inherited synthesized starts rows : List ℕ} {top : Top} where
    pub rule-ready : {c : Config} → ConfigIn b ks states inherited synthesized starts rows top c → CellIn b inherited c
        → action_of b c ≡ some (reduce P) → RuleReady ks states starts top
    unfolding low
    rule-ready (stands {S = S} {z = z} C) s e =
        let x : Reduced B.spelled B.sound S (kind z) P = reduced B.spelled B.sound S (kind z) P e in
        let size_is : get_or rules (10 * P + 1) 0 ≡ size = B.rules_in.size_is P x.there in
        let owner_is : get_or rules (10 * P) 0 ≡ left_of b.rules P = B.rules_in.left_is P x.there in
        let off = taken-off C e s in
        let at : get_or states (top.depth - size) 0 ≡ off.state = ap (λ n. get_or states (n - size) 0) C.depth_is ∙ off.state_is in
        record {
          rule_low = omega (arith, x.there, B.sound.limits.rules_limit.high);
          rule_place = omega (arith, x.there, B.rules_in.long);
          size_is = size_is;
          owner_is = owner_is;
          owner_low = omega (arith, left_low C e s);
          deep = omega (arith, reduce-deep C e s, C.depth_is);
          depth_low = omega (arith, C.depth_is, C.depth_low);
          position_low = omega (arith, C.position_is, C.position_low);
          state_there = omega (arith, state_low B (path-off C e s));
          state_low = omega (arith, state_low B (path-off C e s), B.sound.limits.states_limit.high);
          asked = record {
            ordered = B.spelled.ordered;
            limits = B.sound.limits;
            declared = B.sound.names;
            owned = B.sound.attributes;
            definitions_in = B.definitions_in;
            spans_in = F.spans_in;
            rule_there = x.there;
            size_is = size_is;
          };
        }

  module _ {ks : List Token} {states inherited synthesized starts rows : List ℕ} {top next : Top} {target owner start : ℕ} {fresh : List ℕ}
      {states' synthesized' starts' rows' : List ℕ} (L : Stacks states synthesized starts rows) (cells : length inherited ≡ 16 * length starts + 16)
      (push : NodePushed top target P size owner start fresh down inherited up states synthesized starts rows states' synthesized' starts' rows' next)
      (owner_is : owner ≡ left_of b.rules P) (start_of_is : StartOf starts (top.depth - size) size top.position start)
      (fresh_in : NodeValues b P (top.depth - size) inherited synthesized fresh)
      (target_is : target ≡ get_or table (64 * get_or states (top.depth - size) 0 + (32 + owner)) 0) where
    pub reduce-on : {c : Config} → ConfigIn b ks states inherited synthesized starts rows top c → CellIn b inherited c
        → action_of b c ≡ some (reduce P) → top.depth < length starts + size → top.rows < 512 → GoesOn b ks c states' inherited synthesized' starts' rows' next
    unfolding low
    reduce-on (stands {st = st} {S = S} {p = p} {z = z} {rs = rs} C) s e h l =
        let room : length st < length starts + size = omega (arith, C.depth_is) in
        let line : length rs < MAX_ROWS = omega (arith, C.count_is) in
        let (M, g) = reduce-goes B.spelled B.sound (kind z) (cell (tables_of b) S (kind z) st) p C.path e off.popped_is in
        let place : 64 * get_or states (top.depth - size) 0 + (32 + owner) ≡ 64 * off.state + symbol_code (nonterminal (left_of b.rules P)) =
        omega (arith, ap (λ n. get_or states n 0) low-is, off.state_is, owner_is, nonterminal-code (left_of b.rules P) (left_low C e s)) in
        let same : M ≡ target =
        sym (target_is ∙ ap (λ i. get_or table i 0) place
        ∙ target-of B.spelled B.sound B.table_in (nonterminal (left_of b.rules P)) (state_low B (path-off C e s)) left_there g) in
        let go : (tables_of b).go off.state (nonterminal (left_of b.rules P)) ≡ some target = g ∙ ap some same in
        record {
          then = reduced_to C e s target;
          moves = moves.reduce-moves b (tables_of b) st z p rs e off.below off.popped_is go line (omega (arith, room, L.starts_long));
          holds = stands (reduce-stands C e s room line L cells push owner_is (start-by (dec_lt 0 size)) (rw low-is at fresh_in) go);
        }
      where
        off : PoppedIn states inherited synthesized starts (low C e s) size p (pop size S (cell (tables_of b) S (kind z) st) p st [])
        off = taken-off C e s

        low-is : top.depth - size ≡ low C e s
        low-is = ap (λ n. n - size) C.depth_is

        left_there : left_of b.rules P ≤ b.nonterminals
        left_there = (B.sound.names.left_sides P (complete C e s).later (complete C e s).there).high

        start-by : Dec (0 < size) → start ≡ off.start
        start-by (yes m) = start_of_is.filled (omega arith) ∙ ap (λ n. get_or starts n 0) low-is ∙ off.start_is (omega arith)
        start-by (no m) = start_of_is.empty (omega arith) ∙ C.position_is ∙ sym (off.start_same (omega arith))
