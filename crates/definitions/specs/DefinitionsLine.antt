-- The words of a definition's line, as code makes them: nodes written into a line of zeros, and four numbers before them, in the line's part of an array.
-- Assumes nothing.
use Rattle.std.specs.Prelude.{ℕ, zero, suc, ◌+◌, ◌-◌, ◌*◌, ◌<◌, ◌≤◌, ◌≡◌, refl, List, [], ◌∷◌, ◌++◌, length, set, replicate, take, drop}
use Rattle.std.proofs.Common.{sym, ap, ◌∙◌, append_assoc, arith, length-append, lt-ltb}
use Rattle.grammar.specs.Limits.{MAX_NODES}
use Rattle.grammar.specs.Data.Term.{add, sub, min, max}
use Rattle.grammar.specs.Data.Book.{Place, own, at, val}
use Rattle.grammar.specs.Data.Postfix.{Step, push, load, operate, select}
use Rattle.book.specs.Layout.{put_line, node_words, nodes_words, definition_words}
use Rattle.book.specs.LayoutLaws.{write-over, part-written, put_in, room_for}
use Rattle.definitions.specs.Expressions.{DEFINITION_WORDS, put_node, store_nodes}
use Rattle.definitions.specs.ExpressionsLaws.{node-out, three-words}

node-front : (s : Step Place) (rest : List ℕ) → node_words s [] ++ rest ≡ node_words s rest
unfolding node_words
node-front (push n) rest = refl
node-front (load (own K)) rest = refl
node-front (load (at J K)) rest = refl
node-front (load (val J)) rest = refl
node-front (operate add) rest = refl
node-front (operate sub) rest = refl
node-front (operate min) rest = refl
node-front (operate max) rest = refl
node-front select rest = refl

store_out : (k : ℕ) (steps : List (Step Place)) (line : List ℕ) → MAX_NODES ≤ k → store_nodes k steps line ≡ line
unfolding store_nodes
store_out k [] line h = refl
store_out k (s ∷ steps) line h = rw (← node-out k (node_words s []) line h) (store_out (suc k) steps line (omega arith))

-- nodes from the k-th on, after the words before them
store-over : (room k : ℕ) (steps : List (Step Place)) (front : List ℕ) → k + room ≡ MAX_NODES → length front ≡ 4 + 3 * k
    → store_nodes k steps (front ++ nodes_words room []) ≡ front ++ nodes_words room steps
unfolding store_nodes nodes_words put_node
store-over zero k steps front h e = store_out k steps (front ++ []) (omega arith)
store-over (suc room) k [] front h e = refl
store-over (suc room) k (s ∷ steps) front h e =
    let l : length (node_words s []) ≡ 3 = ap length (three-words s) in
    let w : put_node k (node_words s []) (front ++ (0 ∷ 0 ∷ 0 ∷ nodes_words room [])) ≡ (front ++ node_words s []) ++ nodes_words room [] =
    rw (lt-ltb k MAX_NODES (omega arith), put_node)
    (write-over (4 + 3 * k) front (node_words s []) (0 ∷ 0 ∷ 0 ∷ []) (nodes_words room []) e l
    ∙ sym (append_assoc front (node_words s []) (nodes_words room []))) in
    rw w (store-over room (suc k) steps (front ++ node_words s []) (omega arith) (simp length-append (omega arith))
    ∙ (append_assoc front (node_words s []) (nodes_words room steps) ∙ rw (node-front s (nodes_words room steps))))

-- the whole line
pub line_made : (P J K n : ℕ) (steps : List (Step Place)) (line : List ℕ) → line ≡ store_nodes 0 steps (replicate DEFINITION_WORDS 0) → n ≡ length steps
    → set (set (set (set line 0 P) 1 J) 2 K) 3 n ≡ definition_words P J K steps
unfolding definition_words nodes_words
line_made P J K n steps line e h =
    let z : line ≡ 0 ∷ 0 ∷ 0 ∷ 0 ∷ nodes_words MAX_NODES steps = e ∙ store-over MAX_NODES 0 steps (0 ∷ 0 ∷ 0 ∷ 0 ∷ []) refl refl in
    rw (z, h)

-- an array whose part for line k was lent, and came back as this line
abbrev pub line_back : ℕ → List ℕ → List ℕ → List ℕ
line_back k line out =
    take (k * DEFINITION_WORDS) out
    ++ (line ++ drop (k * DEFINITION_WORDS + DEFINITION_WORDS - k * DEFINITION_WORDS) (drop (k * DEFINITION_WORDS) out))

pub line-in-place : (room k : ℕ) (line out : List ℕ) → k < room → room * DEFINITION_WORDS ≤ length out → length line ≡ DEFINITION_WORDS
    → line_back k line out ≡ put_line room k line out
line-in-place room k line out h fits long =
    let width : k * DEFINITION_WORDS + DEFINITION_WORDS - k * DEFINITION_WORDS ≡ DEFINITION_WORDS = omega arith in
    rw (put_in room k line out h, long, width)
    (part-written (k * DEFINITION_WORDS) DEFINITION_WORDS line out (sym long) (room_for DEFINITION_WORDS h fits))
