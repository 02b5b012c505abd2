-- Laws of an expression in code: its nodes in a line, its operators in an array, and that an operator takes at least five bytes of text.
-- Assumes nothing.
use Prim.Native.Nat.{ℕ, suc, ◌+◌, ◌-◌, ◌*◌, ◌≤◌, ◌<◌}
use Rattle.std.specs.Prelude.{◌≡◌, Bool, List, [], ◌∷◌, ◌++◌, eqb, length, set, get_or, take, drop, Option, Some, None}
use Rattle.std.proofs.lemmas.Option.{none-some, same_Some}
use Rattle.std.proofs.Math.Path.{refl, ap}
use Rattle.std.proofs.Common.{sym, ◌∙◌, get_or-set_same, get_or-set_other}
use Rattle.std.proofs.Math.Bool.{true, false}
use native.Mathlib.Omega.{arith}
use borrow.Author.Tests.{eqb-true, ne_eqb, lt-ltb, le-ltb}
use Rattle.text.specs.Class.{open-bracket, space}
use Rattle.text.specs.Rest.{Rest, lost, left, rest, found, mark, size}
use Rattle.text.proofs.RestLaws.{rest_out, found_in, found-out, less-mark, found-mark}
use Rattle.text.specs.Numeral.{decimal, letters, Read, bad, got, written, write, number_of, rest_of, read, value, past, word_of, spelled}
use Rattle.text.specs.Reading.{Reads}
use Rattle.text.proofs.Positional.{letters-positional}
use Rattle.text.proofs.NumeralLaws.{past-got}
use Rattle.grammar.specs.Limits.{MAX_NODES}
use Rattle.grammar.specs.Data.Term.{add, sub, min, max}
use Rattle.grammar.specs.Data.Book.{Place, own, at, val}
use Rattle.grammar.specs.Data.Postfix.{Step, push, load, operate, select}
use Rattle.grammar.specs.Format.Expression.{Waiting, waiting, Begun, opened, whole, either, whole_of, bracket, begun}
use Rattle.grammar.specs.Format.ExpressionReads.{either-cases, begun-bracket, begun-number}
use Rattle.book.specs.Layout.{node_words}
use Rattle.book.specs.LayoutLaws.{part-written}
use Rattle.definitions.specs.declared.nodes.Operator.{Operator}
use Rattle.definitions.specs.declared.nodes.Operator.TheVariants.{Pick}
use Rattle.definitions.specs.declared.nodes.Node.TheVariants.{Number, Operator as OfOperator}
use Rattle.definitions.specs.declared.nodes.Beginning.TheVariants.{Opens, Whole}
use Rattle.definitions.specs.declared.nodes.BeginningRead.{BeginningRead}
use Rattle.definitions.specs.Expressions.{DEFINITION_WORDS, put_node, store_nodes, kind_of, Operates, waiting_code, Waits, none_waits, one_waits}
use Rattle.definitions.specs.Nodes.{operands_left, operator_named, begun_of, Shows}

-- Nodes

-- a node where there is room for it
pub node_in : (k : ℕ) (node line : List ℕ) → k < MAX_NODES → length node ≡ 3 → length line ≡ DEFINITION_WORDS
    → take (4 + 3 * k) line ++ (node ++ drop (4 + 3 * k + 3 - (4 + 3 * k)) (drop (4 + 3 * k) line)) ≡ put_node k node line
unfolding put_node
node_in k node line h three long =
    let same : 4 + 3 * k + 3 - (4 + 3 * k) ≡ 3 = omega arith in
    rw (lt-ltb k MAX_NODES h, put_node) (rw same (part-written (4 + 3 * k) 3 node line (sym three) (omega arith)))

pub node-out : (k : ℕ) (node line : List ℕ) → MAX_NODES ≤ k → line ≡ put_node k node line
unfolding put_node
node-out k node line h = rw (le-ltb k MAX_NODES h, put_node)

-- a node after the others
pub store-more : (k : ℕ) (steps : List (Step Place)) (s : Step Place) (line : List ℕ)
    → store_nodes k (steps ++ (s ∷ [])) line ≡ put_node (k + length steps) (node_words s []) (store_nodes k steps line)
unfolding store_nodes
store-more k [] s line = ap (λ (i : ℕ). put_node i (node_words s []) line) (omega arith)
store-more k (x ∷ steps) s line =
    store-more (suc k) steps s (put_node k (node_words x []) line)
    ∙ ap (λ (i : ℕ). put_node i (node_words s []) (store_nodes (suc k) steps (put_node k (node_words x []) line))) (omega arith)

-- a node has three words
pub three-words : (s : Step Place) → node_words s [] ≡ kind_of s ∷ get_or (node_words s []) 1 0 ∷ get_or (node_words s []) 2 0 ∷ []
unfolding node_words
three-words (push n) = refl
three-words (load (own K)) = refl
three-words (load (at J K)) = refl
three-words (load (val J)) = refl
three-words (operate add) = refl
three-words (operate sub) = refl
three-words (operate min) = refl
three-words (operate max) = refl
three-words select = refl

-- Operators that wait

pub kind-small : (s : Step Place) → kind_of s < 16
unfolding node_words
kind-small (push n) = omega arith
kind-small (load (own K)) = omega arith
kind-small (load (at J K)) = omega arith
kind-small (load (val J)) = omega arith
kind-small (operate add) = omega arith
kind-small (operate sub) = omega arith
kind-small (operate min) = omega arith
kind-small (operate max) = omega arith
kind-small select = omega arith

module _ (codes : List ℕ) where
  -- a store above them changes nothing
  waits_kept : (i c : ℕ) {depth : ℕ} {waits : List Waiting} → depth ≤ i → Waits codes depth waits → Waits (set codes i c) depth waits
  waits_kept i c h none_waits = none_waits
  waits_kept i c h (one_waits {depth} o e w) = one_waits o (get_or-set_other codes i depth c 0 (λ q. omega arith) ∙ e) (waits_kept i c (omega arith) w)

  pub waits-push : (c : ℕ) {depth n : ℕ} {s : Step Place} {waits : List Waiting} → depth < length codes → Operates s → c ≡ waiting_code (waiting s n)
      → Waits codes depth waits → Waits (set codes depth c) (suc depth) (waiting s n ∷ waits)
  waits-push c {depth} {n} {s} h o e w = one_waits o (get_or-set_same codes depth c 0 h ∙ e) (waits_kept depth c (omega arith) w)

-- An operator takes at least five bytes

-- a word that was read leaves so much less
module _ {C : Type 0} (word k : ℕ) (takes : (r : List ℕ) → length r + k ≤ length (write letters word r)) where
  word-less : (o : Rest) → value letters o ≡ word → 0 < word → (found (past letters o) ≡ true → size (past letters o) + k ≤ size o → C) → C
  unfolding value past number_of rest_of found size
  word-less o e h f = go (read letters o) refl
    where
      go : (m : Read) → read letters o ≡ m → C
      go bad q = absurd (let z : number_of (read letters o) ≡ 0 = ap number_of q in let y : ⊥ = omega arith in y)
      go (got n r) q =
          let p : rest_of (read letters o) ≡ left r = ap rest_of q in
          past-got letters letters-positional o p λ bs a b l.
          f (rw p) (rw (p, a, b) (rw e (omega (arith, takes r))))

-- what is known of a beginning of so many bytes
pub data Costs (bytes : ℕ) : Begun → Type 0 where
  costs_opened : {s : Step Place} {n : ℕ} {o : Rest} → Operates s → size o + 5 ≤ bytes → Costs bytes (opened (waiting s n) o)
  costs_whole : {s : Step Place} {o : Rest} → Costs bytes (whole s o)

operator-costs : (o : Rest) (word : ℕ) (s : Step Place) (n : ℕ) → ((r : List ℕ) → length r + 3 ≤ length (write letters word r)) → 0 < word → Operates s
    → found (mark open-bracket o) ≡ true → eqb (value letters (mark open-bracket o)) word ≡ true
    → Costs (size o) (opened (waiting s n) (mark space (past letters (mark open-bracket o))))
operator-costs o word s n takes h operates begins e =
    let p : Rest = mark open-bracket o in
    word-less word 3 takes p (eqb-true (value letters p) word e) h λ alive less.
    costs_opened operates (omega (arith, found-mark open-bracket o begins, less-mark space (past letters p) alive))

bracket-costs : (o : Rest) → found (mark open-bracket o) ≡ true
    → Costs (size o) (bracket (value letters (mark open-bracket o)) (mark space (past letters (mark open-bracket o))))
unfolding bracket whole_of node_words spelled write written
bracket-costs o h =
    let word : ℕ = value letters (mark open-bracket o) in
    either-cases (Costs (size o)) (eqb word (word_of "add")) (operator-costs o (word_of "add") (operate add) 1 (λ r. omega arith) (omega arith) refl h) (λ _.
    either-cases (Costs (size o)) (eqb word (word_of "sub")) (operator-costs o (word_of "sub") (operate sub) 1 (λ r. omega arith) (omega arith) refl h) (λ _.
    either-cases (Costs (size o)) (eqb word (word_of "min")) (operator-costs o (word_of "min") (operate min) 1 (λ r. omega arith) (omega arith) refl h) (λ _.
    either-cases (Costs (size o)) (eqb word (word_of "max")) (operator-costs o (word_of "max") (operate max) 1 (λ r. omega arith) (omega arith) refl h) (λ _.
    either-cases (Costs (size o)) (eqb word (word_of "pick")) (operator-costs o (word_of "pick") select 2 (λ r. omega arith) (omega arith) refl h) (λ _.
    either-cases (Costs (size o)) (eqb word (word_of "own")) (λ _. costs_whole) (λ _.
    either-cases (Costs (size o)) (eqb word (word_of "at")) (λ _. costs_whole) (λ _.
    either-cases (Costs (size o)) (eqb word (word_of "val")) (λ _. costs_whole) (λ _. costs_whole))))))))

pub begun-costs : (o : Rest) → Costs (size o) (begun o)
begun-costs o = go (found (mark open-bracket o)) refl
  where
    go : (t : Bool) → found (mark open-bracket o) ≡ t → Costs (size o) (begun o)
    go false h = rw (begun-number o h) costs_whole
    go true h = rw (begun-bracket o h) (bracket-costs o h)

-- A bracket by its word

-- two choices by one test
either-both : {A B : Type 0} {x y : A} {u v : B} (P : A → B → Type 0) (t : Bool) → P x u → P y v → P (either t x y) (either t u v)
either-both P true p q = p
either-both P false p q = q

module _ (word : ℕ) (text : List ℕ) (at : ℕ) where
  opened-as : {o x : Operator} {r : Rest} → Some o ≡ Some x → begun_of (Opens o) r ≡ begun_of (Opens x) r
  opened-as {o} {x} {r} e = ap (λ (y : Operator). begun_of (Opens y) r) (same_Some o x e)

  pub bracket-opens : {o : Operator} → Some o ≡ operator_named word → Shows (bracket word (rest text at)) text (record { beginning = Opens o; at = at })
  unfolding bracket operator_named operands_left
  bracket-opens {o} e =
      let P : Option Operator → Begun → Type 0 = λ named b. Some o ≡ named → begun_of (Opens o) (rest text at) ≡ b in
      let z : P (operator_named word) (bracket word (rest text at)) =
      either-both P (eqb word (word_of "add")) (λ q. opened-as q)
      (either-both P (eqb word (word_of "sub")) (λ q. opened-as q)
      (either-both P (eqb word (word_of "min")) (λ q. opened-as q)
      (either-both P (eqb word (word_of "max")) (λ q. opened-as q)
      (either-both P (eqb word (word_of "pick")) (λ q. opened-as q) (λ q. absurd (none-some o (sym q))))))) in
      record { shown_is = z e }

  pub bracket-lost : {n : ℕ} → None ≡ operator_named word → (word ≡ word_of "own" → ⊥) → (word ≡ word_of "at" → ⊥) → (word ≡ word_of "val" → ⊥)
      → length text < n → Shows (bracket word (rest text at)) text (record { beginning = Whole (OfOperator Pick); at = n })
  unfolding bracket operator_named
  bracket-lost {n} e i j k l =
      let P : Option Operator → Begun → Type 0 = λ named b. None ≡ named → whole select lost ≡ b in
      let z : P (operator_named word) (bracket word (rest text at)) =
      either-both P (eqb word (word_of "add")) (λ q. absurd (none-some _ q))
      (either-both P (eqb word (word_of "sub")) (λ q. absurd (none-some _ q))
      (either-both P (eqb word (word_of "min")) (λ q. absurd (none-some _ q))
      (either-both P (eqb word (word_of "max")) (λ q. absurd (none-some _ q))
      (either-both P (eqb word (word_of "pick")) (λ q. absurd (none-some _ q))
      (λ q. rw (ne_eqb word (word_of "own") i, ne_eqb word (word_of "at") j, ne_eqb word (word_of "val") k)))))) in
      record { shown_is = rw (rest_out text n l) (z e) }

-- A beginning by its first byte

module _ {text : List ℕ} (at : ℕ) {a : ℕ} (e : rest text a ≡ mark open-bracket (rest text at)) where
  pub shows-bracket : (b : ℕ) {word next : ℕ} {read : BeginningRead} → a ≤ length text → Reads letters text a word next
      → rest text b ≡ mark space (rest text next) → Shows (bracket word (rest text b)) text read → Shows (begun (rest text at)) text read
  shows-bracket b h r f s =
      record {
        shown_is = s.shown_is ∙ rw (begun-bracket (rest text at) (ap found (sym e) ∙ found_in text a h)) (rw (r.value_is, f, r.rest_is, e));
      }

  pub shows-number : {v next : ℕ} → length text < a → Reads decimal text at v next
      → Shows (begun (rest text at)) text (record { beginning = Whole (Number v); at = next })
  shows-number h r = record { shown_is = rw (begun-number (rest text at) (ap found (sym e) ∙ found-out text a h)) (rw (r.value_is, r.rest_is)) }
