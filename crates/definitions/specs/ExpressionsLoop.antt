-- What the loops over an expression keep true: the machine at this place is the machine at the start, its steps are the nodes of the line, and its
-- waiting operators are the numbers in the array. A law for each turn of the machine. Assumes nothing.
use Prim.Native.Nat.{ℕ, zero, suc, ◌+◌, ◌*◌, ◌-◌, ◌≤◌, ◌<◌}
use Rattle.std.specs.Prelude.{◌≡◌, refl, Bool, true, false, length, set, get_or}
use Rattle.std.proofs.Math.Path.{sym}
use Rattle.std.proofs.Common.{ap, ◌∙◌, add-one, length-append}
use mathlib.Core.List.{List, [], ◌∷◌, ◌++◌}
use native.Mathlib.Omega.{arith}
use Rattle.text.specs.Class.{close-bracket, space}
use Rattle.text.specs.Rest.{Rest, left, rest, found, mark, size}
use Rattle.text.proofs.RestLaws.{rest_in, found_in, found-out, size-rest, less-mark}
use Rattle.grammar.specs.Data.Book.{Place}
use Rattle.grammar.specs.Data.Postfix.{Step}
use Rattle.grammar.specs.Format.Reader.{Parsed, result, remaining}
use Rattle.grammar.specs.Format.Expression.{Waiting, waiting, opened, begun, Scan, scan, scan_more, scan_all, outcome}
use Rattle.grammar.specs.Format.ExpressionReads.{size_begun, begun-less, scan-stop, turn-opened, turn-whole, turn-space, turn-close}
use Rattle.book.specs.Layout.{node_words}
use Rattle.definitions.specs.declared.nodes.Operator.{Operator}
use Rattle.definitions.specs.declared.nodes.Operator.TheVariants.{Add, Sub, Min, Max, Pick}
use Rattle.definitions.specs.declared.nodes.Node.{Node}
use Rattle.definitions.specs.declared.nodes.Beginning.{Beginning}
use Rattle.definitions.specs.declared.nodes.Beginning.TheVariants.{Opens, Whole}
use Rattle.definitions.specs.declared.nodes.BeginningRead.{BeginningRead}
use Rattle.definitions.specs.Expressions.{WaitsRoom, put_node, store_nodes, kind_of, Operates, waiting_code, Waits, none_waits, one_waits}
use Rattle.definitions.specs.Nodes.{operation_of, step_of, waiting_of, begun_of, Shows}
use Rattle.definitions.specs.ExpressionsLaws.{store-more, kind-small, waits-push, Costs, costs_opened, begun-costs}

-- what is answered of an expression: the number of its nodes, the position after it, and the line with its nodes
pub record Expresses (p : Parsed (List (Step Place))) (text line₀ : List ℕ) (count next : ℕ) (line : List ℕ) : Type 0 where
  pub count_is : count ≡ length (result p)
  pub remaining_is : rest text next ≡ remaining p
  pub line_is : line ≡ store_nodes 0 (result p) line₀

-- what is known at a turn of the loop: the machine, with some operators waiting and some steps made, goes on as it did from the start
pub data Going (text line₀ : List ℕ) (start : Scan) (codes : List ℕ) (depth : ℕ) (due : Bool) (at count : ℕ) (line : List ℕ) : Type 0 where
  going : (waits : List Waiting) (steps : List (Step Place)) → Waits codes depth waits → count ≡ length steps → line ≡ store_nodes 0 steps line₀
      → scan_all (scan due (rest text at) waits steps) ≡ scan_all start → Going text line₀ start codes depth due at count line

pub record Working (text line₀ : List ℕ) (start : Scan) (codes : List ℕ) (depth : ℕ) (due : Bool) (at count : ℕ) (line : List ℕ) : Type 0 where
  pub counted : count + size (rest text at) ≤ length text + 1
  pub deep : 5 * depth + size (rest text at) ≤ length text + 1
  pub now_at : Going text line₀ start codes depth due at count line

-- how much is left after a beginning
size-begun : (b : Beginning) (r : Rest) → size_begun (begun_of b r) ≡ size r
unfolding size_begun
size-begun (Opens o) r = refl
size-begun (Whole n) r = refl

begins-less : (o : Rest) (b : Beginning) (r : Rest) → found o ≡ true → begun_of b r ≡ begun o → size r < size o
begins-less o b r h e = omega (arith, size-begun b r, ap size_begun e, begun-less o h)

opened-less : {m : ℕ} {w : Waiting} {r : Rest} → Costs m (opened w r) → size r + 5 ≤ m
opened-less (costs_opened _ l) = l

operates : (o : Operator) → Operates (operation_of o)
unfolding node_words
operates Add = refl
operates Sub = refl
operates Min = refl
operates Max = refl
operates Pick = refl

one_more : {count : ℕ} {line line' node : List ℕ} (line₀ : List ℕ) (steps : List (Step Place)) (s : Step Place) → count ≡ length steps
    → line ≡ store_nodes 0 steps line₀ → node ≡ node_words s [] → line' ≡ put_node count node line → line' ≡ store_nodes 0 (steps ++ (s ∷ [])) line₀
one_more line₀ steps s k i n f =
    let z : 0 + length steps ≡ length steps = omega arith in
    rw (store-more 0 steps s line₀, z) (cc)

lost-stops : (due : Bool) (o : Rest) (waits : List Waiting) (steps : List (Step Place)) → found o ≡ false → scan_more (scan due o waits steps) ≡ false
unfolding scan_more
lost-stops true o waits steps h = h
lost-stops false o [] steps h = refl
lost-stops false o (w ∷ waits) steps h = h

none-stops : {codes : List ℕ} {depth : ℕ} {waits : List Waiting} (o : Rest) (steps : List (Step Place)) → depth ≡ 0 → Waits codes depth waits
    → scan_more (scan false o waits steps) ≡ false
unfolding scan_more
none-stops o steps h none_waits = refl
none-stops o steps h (one_waits operates code w) = absurd (let z : ⊥ = omega arith in z)

module _ (text line₀ : List ℕ) (start : Scan) {codes : List ℕ} {due : Bool} {at count : ℕ} {line : List ℕ} where
  -- an expression is due: an operator's bracket opens
  go-open : {bs : List ℕ} {depth c next : ℕ} (o : Operator) → begun (left bs) ≡ begun_of (Opens o) (rest text next) → rest text at ≡ left bs → due ≡ true
      → depth < length codes → c ≡ waiting_code (waiting_of o) → Going text line₀ start codes depth due at count line
      → Going text line₀ start (set codes depth c) (depth + 1) due next count line
  go-open {bs} {depth} {c} {next} o q e d fits code (going waits steps w k i same) =
      going (waiting_of o ∷ waits) steps (rw (add-one depth) (waits-push codes c fits (operates o) code w)) k i
      (rw d (sym (turn-opened waits steps bs (rest text next) (waiting_of o) q) ∙ (rw (d, e) at same)))

  -- it is one step
  go-whole : {bs : List ℕ} {depth next : ℕ} {line' : List ℕ} (n : Node) → begun (left bs) ≡ begun_of (Whole n) (rest text next) → rest text at ≡ left bs → due ≡ true
      → line' ≡ put_node count (node_words (step_of n) []) line → Going text line₀ start codes depth due at count line
      → Going text line₀ start codes depth false next (count + 1) line'
  go-whole {bs} {next = next} n q e d f (going waits steps w k i same) =
      going waits (steps ++ (step_of n ∷ [])) w (rw k (sym (length-append steps (step_of n ∷ [])))) (one_more line₀ steps (step_of n) k i refl f)
      (sym (turn-whole waits steps bs (rest text next) (step_of n) q) ∙ (rw (d, e) at same))

  -- an operand was read: the operator on top waits for another
  go-space : {bs : List ℕ} {depth c next : ℕ} → rest text at ≡ left bs → due ≡ false → 0 < depth → depth ≤ length codes → c ≡ get_or codes (depth - 1) 0 → 16 ≤ c
      → rest text next ≡ mark space (rest text at) → Going text line₀ start codes depth due at count line
      → Going text line₀ start (set codes (depth - 1) (c - 16)) depth true next count line
  unfolding waiting_code
  go-space o d h fits e large f (going [] steps none_waits k i same) = absurd (let z : ⊥ = omega arith in z)
  go-space {c = c} o d h fits e large f (going (waiting s zero ∷ waits) steps (one_waits {depth = below} operates code w) k i same) =
      let z : suc below - 1 ≡ below = omega arith in
      let y : c ≡ kind_of s + 16 * 0 = e ∙ (rw z code) in
      absurd (let x : ⊥ = omega (arith, kind-small s) in x)
  go-space {bs} {c = c} o d h fits e large f (going (waiting s (suc n) ∷ waits) steps (one_waits {depth = below} operates code w) k i same) =
      let z : suc below - 1 ≡ below = omega arith in
      let y : c ≡ kind_of s + 16 * suc n = e ∙ (rw z code) in
      rw z (going (waiting s n ∷ waits) steps (waits-push codes (c - 16) (omega arith) operates (omega arith) w) k i
      (rw (f, o) (sym (turn-space waits steps bs s n) ∙ (rw (d, o) at same))))

  -- or for no more, and its bracket is closed
  go-close : {bs : List ℕ} {depth c next : ℕ} {line' : List ℕ} → rest text at ≡ left bs → due ≡ false → 0 < depth → c ≡ get_or codes (depth - 1) 0 → c < 16
      → rest text next ≡ mark close-bracket (rest text at) → line' ≡ put_node count (c ∷ 0 ∷ 0 ∷ []) line → Going text line₀ start codes depth due at count line
      → Going text line₀ start codes (depth - 1) due next (count + 1) line'
  unfolding waiting_code
  go-close o d h e small f g (going [] steps none_waits k i same) = absurd (let z : ⊥ = omega arith in z)
  go-close {c = c} o d h e small f g (going (waiting s (suc n) ∷ waits) steps (one_waits {depth = below} operates code w) k i same) =
      let z : suc below - 1 ≡ below = omega arith in
      let y : c ≡ kind_of s + 16 * suc n = e ∙ (rw z code) in
      absurd (let x : ⊥ = omega arith in x)
  go-close {bs} {c = c} o d h e small f g (going (waiting s zero ∷ waits) steps (one_waits {depth = below} operates code w) k i same) =
      let z : suc below - 1 ≡ below = omega arith in
      let y : c ≡ kind_of s + 16 * 0 = e ∙ (rw z code) in
      let x : c ≡ kind_of s = omega arith in
      rw z (going waits (steps ++ (s ∷ [])) w (rw k (sym (length-append steps (s ∷ [])))) (one_more line₀ steps s k i (rw x (sym operates)) g)
      (rw (d, f, o) (sym (turn-close waits steps bs s) ∙ (rw (d, o) at same))))

  -- the machine stops
  go-stop : {depth : ℕ}
      → ((waits : List Waiting) (steps : List (Step Place)) → Waits codes depth waits → scan_more (scan due (rest text at) waits steps) ≡ false)
      → Going text line₀ start codes depth due at count line → Expresses (outcome (scan_all start)) text line₀ count at line
  unfolding outcome result remaining
  go-stop stops (going waits steps w k i same) =
      let z : scan due (rest text at) waits steps ≡ scan_all start = sym (scan-stop (scan due (rest text at) waits steps) (stops waits steps w)) ∙ same in
      rw (← z) (record { count_is = k; remaining_is = refl; line_is = i })

  go-lost : {depth : ℕ} → found (rest text at) ≡ false → Going text line₀ start codes depth due at count line
      → Expresses (outcome (scan_all start)) text line₀ count at line
  go-lost h g = go-stop (λ waits steps w. lost-stops due (rest text at) waits steps h) g

  go-end : {depth : ℕ} → due ≡ false → depth ≡ 0 → Going text line₀ start codes depth due at count line
      → Expresses (outcome (scan_all start)) text line₀ count at line
  go-end d h g = go-stop (λ waits steps w. rw d (none-stops (rest text at) steps h w)) g

-- The loop

pub working-start : (text line codes : List ℕ) (at : ℕ) → Working text line (scan true (rest text at) [] []) codes 0 true at 0 line
unfolding store_nodes
working-start text line codes at =
    record { counted = omega (arith, size-rest text at); deep = omega (arith, size-rest text at); now_at = going [] [] none_waits refl refl refl }

module _ {text line₀ codes line : List ℕ} {start : Scan} {depth at count : ℕ} {due : Bool} (w : Working text line₀ start codes depth due at count line) where
  module _ (h : at ≤ length text) where
    module _ {read : BeginningRead} (b : Shows (begun (rest text at)) text read) where
      pub begun-shorter : size (rest text read.at) < size (rest text at)
      begun-shorter = begins-less (rest text at) read.beginning (rest text read.at) (found_in text at h) b.shown_is

      begun-as : (x : Beginning) → read.beginning ≡ x → begun (rest text at) ≡ begun_of x (rest text read.at)
      begun-as x e = sym b.shown_is ∙ ap (λ (y : Beginning). begun_of y (rest text read.at)) e

      module _ {o : Operator} (e : read.beginning ≡ Opens o) where
        open-less : size (rest text read.at) + 5 ≤ size (rest text at)
        open-less = opened-less {w = waiting_of o} (rw (← begun-as (Opens o) e) (begun-costs (rest text at)))

        pub open-low : depth < length text
        open-low = omega (arith, open-less, w.deep)

        pub open-fits : WaitsRoom text codes → depth < length codes
        open-fits l = omega (arith, open-less, w.deep)

        pub working-open : {c : ℕ} → WaitsRoom text codes → due ≡ true → c ≡ waiting_code (waiting_of o)
            → Working text line₀ start (set codes depth c) (depth + 1) due read.at count line
        working-open l d code =
            record {
              counted = omega (arith, open-less, w.counted);
              deep = omega (arith, open-less, w.deep);
              now_at =
                  go-open text line₀ start o (sym (ap begun (rest_in text at h)) ∙ begun-as (Opens o) e) (rest_in text at h) d
                  (omega (arith, open-fits l)) code w.now_at;
            }

      pub working-whole : {n : Node} {line' : List ℕ} → read.beginning ≡ Whole n → due ≡ true
          → line' ≡ put_node count (node_words (step_of n) []) line
          → Working text line₀ start codes depth false read.at (count + 1) line'
      working-whole {n} e d f =
          record {
            counted = omega (arith, begun-shorter, w.counted);
            deep = omega (arith, begun-shorter, w.deep);
            now_at =
                go-whole text line₀ start n (sym (ap begun (rest_in text at h)) ∙ begun-as (Whole n) e) (rest_in text at h) d f w.now_at;
          }

    pub mark-shorter : (class next : ℕ) → rest text next ≡ mark class (rest text at) → size (rest text next) < size (rest text at)
    mark-shorter class next f = omega (arith, ap size f, less-mark class (rest text at) (found_in text at h))

    module _ {c next : ℕ} (d : due ≡ false) (deeper : 0 < depth) (e : c ≡ get_or codes (depth - 1) 0) where
      pub working-space : WaitsRoom text codes → 16 ≤ c → rest text next ≡ mark space (rest text at)
          → Working text line₀ start (set codes (depth - 1) (c - 16)) depth true next count line
      working-space l large f =
          record {
            counted = omega (arith, mark-shorter space next f, w.counted);
            deep = omega (arith, mark-shorter space next f, w.deep);
            now_at = go-space text line₀ start (rest_in text at h) d deeper (omega (arith, w.deep)) e large f w.now_at;
          }

      pub working-close : {line' : List ℕ} → c < 16 → rest text next ≡ mark close-bracket (rest text at) → line' ≡ put_node count (c ∷ 0 ∷ 0 ∷ []) line
          → Working text line₀ start codes (depth - 1) due next (count + 1) line'
      working-close small f g =
          record {
            counted = omega (arith, mark-shorter close-bracket next f, w.counted);
            deep = omega (arith, mark-shorter close-bracket next f, w.deep);
            now_at = go-close text line₀ start (rest_in text at h) d deeper e small f g w.now_at;
          }

  -- the text is lost, or nothing is due and nothing waits
  pub working-lost : length text < at → Expresses (outcome (scan_all start)) text line₀ count at line
  working-lost h = go-lost text line₀ start (found-out text at h) w.now_at

  pub working-end : due ≡ false → depth ≡ 0 → Expresses (outcome (scan_all start)) text line₀ count at line
  working-end d h = go-end text line₀ start d h w.now_at

-- ---- the two loops

-- an expression is due, where the text is not lost
pub record Asking (text line₀ : List ℕ) (start : Scan) (codes : List ℕ) (depth at count : ℕ) (line : List ℕ) : Type 0 where
  pub due : Bool
  pub working : Working text line₀ start codes depth due at count line
  pub asks : at ≤ length text → due ≡ true

-- an operand was read up to `from`, and the brackets are closed that end with it: nothing waits any more, or the next operand is due
pub record Closed (text line₀ : List ℕ) (start : Scan) (codes : List ℕ) (depth from at count : ℕ) (line : List ℕ) : Type 0 where
  pub due : Bool
  pub working : Working text line₀ start codes depth due at count line
  pub ends : depth ≡ 0 → due ≡ false
  pub asks : 0 < depth → at ≤ length text → due ≡ true
  pub shorter : size (rest text at) ≤ size (rest text from)

-- the expression that is due is one step
pub asked-whole : {text line₀ codes words line line' : List ℕ} {start : Scan} {depth at count : ℕ} {read : BeginningRead} {n : Node}
    → Asking text line₀ start codes depth at count line → at ≤ length text → Shows (begun (rest text at)) text read → read.beginning ≡ Whole n
    → words ≡ node_words (step_of n) [] → line' ≡ put_node count words line
    → Working text line₀ start codes depth false read.at (count + 1) line'
asked-whole a h b e f g = working-whole a.working h b e (a.asks h) (rw (← f) g)

-- where something waits after it, the next operand is due
pub closed-asks : {text line₀ codes line : List ℕ} {start : Scan} {depth from at count : ℕ} → Closed text line₀ start codes depth from at count line
    → (depth ≡ 0 → ⊥) → Asking text line₀ start codes depth at count line
closed-asks c h = record { due = c.due; working = c.working; asks = c.asks (omega arith) }
