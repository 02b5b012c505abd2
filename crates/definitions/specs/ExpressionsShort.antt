-- How an expression begins, by the bytes of a bracket's word and of short numbers: what a short way answers, and its laws.
-- Assumes nothing.
use Prim.Native.Nat.{ℕ, ◌+◌, ◌*◌, ◌<◌, ◌≤◌}
use Rattle.std.proofs.Common.{arith, ◌∙◌, eqb-true}
use Rattle.std.specs.Prelude.{◌≡◌, refl, ◌&&◌, List, [], ◌∷◌, ◌++◌, eqb, length, get_or, Option, Some, None}
use Rattle.std.proofs.lemmas.Option.{none-some, same_Some}
use Rattle.std.proofs.Math.Path.{sym, ap}
use Rattle.std.proofs.Math.Bool.{true}
use Rattle.std.proofs.Math.ListN.{drop}
use Rattle.text.specs.Class.{open-bracket}
use Rattle.text.specs.Rest.{Rest, lost, left, rest, found, mark}
use Rattle.text.proofs.RestLaws.{rest_in, drop_more}
use Rattle.text.specs.Numeral.{decimal, write}
use Rattle.text.proofs.NumeralLaws.{mark-number}
use Rattle.grammar.specs.Data.Book.{own, at, val}
use Rattle.grammar.specs.Data.Postfix.{load}
use Rattle.grammar.specs.Format.Ordered.{Fits}
use Rattle.grammar.specs.Format.ReaderLaws.{reading, word-ends, number-reads}
use Rattle.grammar.specs.Format.Expression.{whole, either, own_place, at_place, val_place, whole_of, bracket, begun}
use Rattle.grammar.specs.Format.ExpressionReads.{either-cases, begun-number}
use Rattle.grammar.specs.Automaton.TestLaws.{both_true}
use Rattle.lines.specs.Heads.{Four, Same, four_same}
use Rattle.book.specs.Short.{Brief}
use Rattle.definitions.specs.declared.nodes.Operator.{Operator}
use Rattle.definitions.specs.declared.nodes.Operator.TheVariants.{Add, Sub, Min, Max, Pick}
use Rattle.definitions.specs.declared.nodes.Node.TheVariants.{Number, Own, At, Val}
use Rattle.definitions.specs.declared.nodes.Beginning.{Beginning}
use Rattle.definitions.specs.declared.nodes.Beginning.TheVariants.{Opens, Whole}
use Rattle.definitions.specs.Nodes.{operands_left, begun_of, Shows}
use Rattle.definitions.specs.Ended.{Stands, byte-is}

-- the bytes at a position, and enough after it for every short way
pub record Begins (text : List ℕ) (from : ℕ) (bytes : List ℕ) : Type 0 where
  pub long : from + 11 ≤ length text
  pub bytes_are : drop from text ≡ bytes ++ drop (from + length bytes) text

-- the first four of them as one number
pub record Headed (text : List ℕ) (from head : ℕ) : Type 0 where
  pub four_is : Four head (get_or text from 0) (get_or text (from + 1) 0) (get_or text (from + 2) 0) (get_or text (from + 3) 0)

pub headed : (text : List ℕ) (from : ℕ) {head : ℕ} → Four head (get_or text from 0) (get_or text (from + 1) 0) (get_or text (from + 2) 0) (get_or text (from + 3) 0)
    → Headed text from head
headed text from q = record { four_is = q }

pub begins-with : {text : List ℕ} {from head : ℕ} (a b c d : ℕ) → a < 256 → b < 256 → c < 256 → from + 11 ≤ length text → Headed text from head
    → head ≡ a + 256 * (b + 256 * (c + 256 * d)) → Begins text from (a ∷ b ∷ c ∷ d ∷ [])
begins-with {text} {from} {head} a b c d la lb lc h p e =
    let q : Four (a + 256 * (b + 256 * (c + 256 * d))) a b c d = record { number_is = refl; first_low = la; second_low = lb; third_low = lc } in
    let same : Same text from (a ∷ b ∷ c ∷ d ∷ []) 0 4 = four_same text (a ∷ b ∷ c ∷ d ∷ []) from 0 p.four_is q e in
    let z : from + 0 ≡ from = omega arith in
    let first : get_or text from 0 ≡ a = rw z at (same.each 0 (omega arith)) in
    record {
      long = h;
      bytes_are =
          drop_more text from (omega arith) ∙ (ap (λ (x : ℕ). x ∷ drop (from + 1) text) first
          ∙ ap (λ r. a ∷ r) (byte-is text from 1 (omega arith) ∙ (ap (λ (x : ℕ). x ∷ drop (from + 2) text) (same.each 1 (omega arith))
          ∙ ap (λ r. b ∷ r) (byte-is text from 2 (omega arith) ∙ (ap (λ (x : ℕ). x ∷ drop (from + 3) text) (same.each 2 (omega arith))
          ∙ ap (λ r. c ∷ r) (byte-is text from 3 (omega arith) ∙ ap (λ (x : ℕ). x ∷ drop (from + 4) text) (same.each 3 (omega arith))))))));
    }

-- and a space after them
pub begins-space : {text : List ℕ} {from a b c d : ℕ} → Begins text from (a ∷ b ∷ c ∷ d ∷ []) → get_or text (from + 4) 0 ≡ 32
    → Begins text from (a ∷ b ∷ c ∷ d ∷ 32 ∷ [])
begins-space {text} {from} {a} {b} {c} {d} p e =
    record {
      long = p.long;
      bytes_are =
          p.bytes_are
          ∙ ap (λ r. a ∷ b ∷ c ∷ d ∷ r) (byte-is text from 4 (omega (arith, p.long)) ∙ ap (λ (x : ℕ). x ∷ drop (from + 5) text) e);
    }

-- How brackets begin

own-begun : (K : ℕ) (r : List ℕ) → K < 100 → begun (left (40 ∷ 111 ∷ 119 ∷ 110 ∷ 32 ∷ 105 ∷ write decimal K (41 ∷ r))) ≡ whole (load (own K)) (left r)
unfolding reading begun bracket whole_of own_place
own-begun K r h =
    let f : Fits K = omega arith in
    rw (word-ends _ _ _, number-reads K (41 ∷ r) f refl)

at-begun : (J K : ℕ) (r : List ℕ) → J < 100 → K < 100
    → begun (left (40 ∷ 97 ∷ 116 ∷ 32 ∷ write decimal J (32 ∷ 115 ∷ write decimal K (41 ∷ r)))) ≡ whole (load (at J K)) (left r)
unfolding reading begun bracket whole_of at_place
at-begun J K r h k =
    let f : Fits J = omega arith in
    let g : Fits K = omega arith in
    rw (number-reads J (32 ∷ 115 ∷ write decimal K (41 ∷ r)) f refl, word-ends _ _ _, number-reads K (41 ∷ r) g refl)

val-begun : (J : ℕ) (r : List ℕ) → J < 100 → begun (left (40 ∷ 118 ∷ 97 ∷ 108 ∷ 32 ∷ write decimal J (41 ∷ r))) ≡ whole (load (val J)) (left r)
unfolding reading begun bracket whole_of val_place
val-begun J r h =
    let f : Fits J = omega arith in
    rw (number-reads J (41 ∷ r) f refl)

-- What is shown of them

module _ {text : List ℕ} {from next : ℕ} (bs : List ℕ) (h : from ≤ length text) (k : next ≤ length text) (e : drop from text ≡ bs) where
  shows-begun : (b : Beginning) → begun (left bs) ≡ begun_of b (left (drop next text))
      → Shows (begun (rest text from)) text (record { beginning = b; at = next })
  shows-begun b q =
      record {
        shown_is = ap (λ (o : Rest). begun_of b o) (rest_in text next k) ∙ sym (ap begun (rest_in text from h ∙ ap left e) ∙ q);
      }

module _ {text : List ℕ} {from next : ℕ} where
  pub own-short : {K : ℕ} → Begins text from (40 ∷ 111 ∷ 119 ∷ 110 ∷ 32 ∷ []) → get_or text (from + 5) 0 ≡ 105 → Stands text (from + 6) K 41 next
      → Shows (begun (rest text from)) text (record { beginning = Whole (Own K); at = next })
  own-short {K} p e k =
      shows-begun (40 ∷ 111 ∷ 119 ∷ 110 ∷ 32 ∷ 105 ∷ write decimal K (41 ∷ drop next text)) (omega (arith, p.long))
      (omega (arith, p.long, k.near))
      (p.bytes_are ∙ ap (λ r. 40 ∷ 111 ∷ 119 ∷ 110 ∷ 32 ∷ r) (byte-is text from 5 (omega (arith, p.long))
      ∙ (ap (λ (x : ℕ). x ∷ drop (from + 6) text) e ∙ ap (λ r. 105 ∷ r) k.bytes_are)))
      (Whole (Own K)) (own-begun K (drop next text) k.small)

  pub at-short : {J K a : ℕ} → Begins text from (40 ∷ 97 ∷ 116 ∷ 32 ∷ []) → Stands text (from + 4) J 32 a → get_or text a 0 ≡ 115
      → Stands text (a + 1) K 41 next → Shows (begun (rest text from)) text (record { beginning = Whole (At J K); at = next })
  at-short {J} {K} {a} p j e k =
      shows-begun (40 ∷ 97 ∷ 116 ∷ 32 ∷ write decimal J (32 ∷ 115 ∷ write decimal K (41 ∷ drop next text))) (omega (arith, p.long))
      (omega (arith, p.long, j.near, k.near))
      (p.bytes_are ∙ ap (λ r. 40 ∷ 97 ∷ 116 ∷ 32 ∷ r) (j.bytes_are ∙ ap (λ r. write decimal J (32 ∷ r)) (drop_more text a (omega (arith, p.long, j.near))
      ∙ (ap (λ (x : ℕ). x ∷ drop (a + 1) text) e ∙ ap (λ r. 115 ∷ r) k.bytes_are))))
      (Whole (At J K)) (at-begun J K (drop next text) j.small k.small)

  pub val-short : {J : ℕ} → Begins text from (40 ∷ 118 ∷ 97 ∷ 108 ∷ 32 ∷ []) → Stands text (from + 5) J 41 next
      → Shows (begun (rest text from)) text (record { beginning = Whole (Val J); at = next })
  val-short {J} p j =
      shows-begun (40 ∷ 118 ∷ 97 ∷ 108 ∷ 32 ∷ write decimal J (41 ∷ drop next text)) (omega (arith, p.long)) (omega (arith, p.long, j.near))
      (p.bytes_are ∙ ap (λ r. 40 ∷ 118 ∷ 97 ∷ 108 ∷ 32 ∷ r) j.bytes_are) (Whole (Val J)) (val-begun J (drop next text) j.small)

-- a number by its bytes, the first of which is no bracket
pub number_short : {text : List ℕ} {from v next : ℕ} → from ≤ length text → Brief text from v next
    → Shows (begun (rest text from)) text (record { beginning = Whole (Number v); at = next })
unfolding found
number_short {text} {from} {v} {next} h n =
    let none : mark open-bracket (rest text from) ≡ lost =
    ap (mark open-bracket) (rest_in text from h ∙ ap left n.written) ∙ mark-number open-bracket v (drop next text) (λ e. omega arith) in
    record { shown_is = rw (begun-number (rest text from) (ap found none)) (rw (n.reads.value_is, n.reads.rest_is)) }

-- the bracket of an operator, as it is written
abbrev pub bracket_of : Operator → List ℕ
bracket_of Add = 40 ∷ 97 ∷ 100 ∷ 100 ∷ 32 ∷ []
bracket_of Sub = 40 ∷ 115 ∷ 117 ∷ 98 ∷ 32 ∷ []
bracket_of Min = 40 ∷ 109 ∷ 105 ∷ 110 ∷ 32 ∷ []
bracket_of Max = 40 ∷ 109 ∷ 97 ∷ 120 ∷ 32 ∷ []
bracket_of Pick = 40 ∷ 112 ∷ 105 ∷ 99 ∷ 107 ∷ 32 ∷ []

bracket-begun : (o : Operator) (r : List ℕ) → begun (left (bracket_of o ++ r)) ≡ begun_of (Opens o) (left r)
unfolding reading begun bracket operands_left
bracket-begun Add r = refl
bracket-begun Sub r = refl
bracket-begun Min r = refl
bracket-begun Max r = refl
bracket-begun Pick r = refl

bracket-short : {text : List ℕ} {from next : ℕ} (o : Operator) → Begins text from (bracket_of o) → next ≡ from + length (bracket_of o) → next ≤ length text
    → Shows (begun (rest text from)) text (record { beginning = Opens o; at = next })
bracket-short {text} {from} {next} o p e k =
    shows-begun (bracket_of o ++ drop next text) (omega (arith, p.long)) k (rw e p.bytes_are) (Opens o) (bracket-begun o (drop next text))

-- the first four bytes of a bracket, as one number
abbrev pub head_of : Operator → ℕ
head_of o =
    get_or (bracket_of o) 0 0 + 256 * (get_or (bracket_of o) 1 0 + 256 * (get_or (bracket_of o) 2 0 + 256 * get_or (bracket_of o) 3 0))

-- an operator whose bracket begins with these four bytes and a space
pub record Heads (head : ℕ) (o : Operator) : Type 0 where
  pub head_is : head ≡ head_of o
  pub spaced : length (bracket_of o) ≡ 5

-- the operator whose bracket does, if there is one
unfoldable pub operator_headed : ℕ → Option Operator
operator_headed head =
    either (eqb head (head_of Add)) (Some Add)
    (either (eqb head (head_of Sub)) (Some Sub)
    (either (eqb head (head_of Min)) (Some Min)
    (either (eqb head (head_of Max)) (Some Max) None)))

module _ {head : ℕ} {o : Operator} where
  heads-as : (x : Operator) → length (bracket_of x) ≡ 5 → eqb head (head_of x) ≡ true → Some o ≡ Some x → Heads head o
  heads-as x s t q = rw (same_Some o x q) (record { head_is = eqb-true head (head_of x) t; spaced = s })

  pub headed-heads : Some o ≡ operator_headed head → Heads head o
  unfolding operator_headed
  headed-heads =
      let P : Option Operator → Type 0 = λ named. Some o ≡ named → Heads head o in
      either-cases P (eqb head (head_of Add)) (heads-as Add refl) (λ _.
      either-cases P (eqb head (head_of Sub)) (heads-as Sub refl) (λ _.
      either-cases P (eqb head (head_of Min)) (heads-as Min refl) (λ _.
      either-cases P (eqb head (head_of Max)) (heads-as Max refl) (λ _. λ q. absurd (none-some o (sym q))))))

module _ {text : List ℕ} {from head : ℕ} (h : from + 11 ≤ length text) (p : Headed text from head) where
  begins : (a b c d : ℕ) → a < 256 → b < 256 → c < 256 → head ≡ a + 256 * (b + 256 * (c + 256 * d)) → Begins text from (a ∷ b ∷ c ∷ d ∷ [])
  begins a b c d la lb lc e = begins-with a b c d la lb lc h p e

  heads-begins : (o : Operator) → Heads head o → get_or text (from + 4) 0 ≡ 32 → Begins text from (bracket_of o)
  heads-begins Add q e = begins-space (begins 40 97 100 100 (omega arith) (omega arith) (omega arith) q.head_is) e
  heads-begins Sub q e = begins-space (begins 40 115 117 98 (omega arith) (omega arith) (omega arith) q.head_is) e
  heads-begins Min q e = begins-space (begins 40 109 105 110 (omega arith) (omega arith) (omega arith) q.head_is) e
  heads-begins Max q e = begins-space (begins 40 109 97 120 (omega arith) (omega arith) (omega arith) q.head_is) e
  heads-begins Pick q e = absurd (let z : 6 ≡ 5 = q.spaced in omega arith)

  pub operator-short : (o : Operator) → Heads head o → get_or text (from + 4) 0 ≡ 32
      → Shows (begun (rest text from)) text (record { beginning = Opens o; at = from + 5 })
  operator-short o q e = bracket-short o (heads-begins o q e) (rw q.spaced) (omega arith)

  pub pick-short : (eqb head 1667854376 && eqb (get_or text (from + 4) 0) 107) && eqb (get_or text (from + 5) 0) 32 ≡ true
      → Shows (begun (rest text from)) text (record { beginning = Opens Pick; at = from + 6 })
  pick-short e =
      let (four, space) = both_true _ _ e in
      let (is, letter) = both_true _ _ four in
      let q : Begins text from (40 ∷ 112 ∷ 105 ∷ 99 ∷ []) =
      begins-with 40 112 105 99 (omega arith) (omega arith) (omega arith) h p (eqb-true head 1667854376 is) in
      bracket-short Pick (record {
        long = h;
        bytes_are =
            q.bytes_are ∙ ap (λ r. 40 ∷ 112 ∷ 105 ∷ 99 ∷ r) (byte-is text from 4 (omega arith)
            ∙ (ap (λ (x : ℕ). x ∷ drop (from + 5) text) (eqb-true _ _ letter)
            ∙ ap (λ r. 107 ∷ r) (byte-is text from 5 (omega arith) ∙ ap (λ (x : ℕ). x ∷ drop (from + 6) text) (eqb-true _ _ space))));
      }) refl (omega arith)

-- opens every definition of this module
unfoldable pub opens : Unit {0}
unfolding operator_headed
opens = tt
