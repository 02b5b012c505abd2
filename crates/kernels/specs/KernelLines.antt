-- The lines of the section kernel: what is kept of the lookaheads, how much a line leaves, what the loop over the lookaheads keeps true, and that the
-- code's steps, one after another, read and keep a whole line. Assumes nothing.
use Rattle.std.specs.Prelude.{ℕ, suc, ◌+◌, ◌^◌, ◌≤◌, ◌<◌, ◌≡◌, Bool, true, false, ◌||◌, List, [], ◌∷◌, eqb, ltb, length, get_or, Option, Some, None, is_some, unwrap_or}
use Rattle.std.proofs.Math.Path.{refl}
use Rattle.std.proofs.Common.{sym, ap, ◌∙◌, arith, ne_eqb, lt-ltb}
use Rattle.text.specs.Class.{space}
use Rattle.text.specs.Rest.{Rest, rest, must, mark, size}
use Rattle.text.proofs.RestLaws.{rest_out, must-true, must-false}
use Rattle.text.specs.Numeral.{decimal, value, past, word_of}
use Rattle.text.specs.Reading.{Reads}
use Rattle.sets.specs.Sets.{bit, with}
use Rattle.sets.proofs.SetsLaws.{bit-with, with-lt, same_set}
use Rattle.grammar.specs.Automaton.ClosureSets.{set_of}
use Rattle.grammar.specs.Format.Ordered.{kernel_key, lookahead_key}
use Rattle.grammar.specs.Format.Reader.{Parsed, result, remaining, opening, closing, naming}
use Rattle.grammar.specs.Format.ReaderLaws.{shrinking, opening-less, naming-less}
use Rattle.grammar.specs.Format.LineLaws.{most-lookaheads}
use Rattle.grammar.specs.Format.Parse.{is_before, lookahead, lookaheads, kernel_line, kernel_lines}
use Rattle.book.specs.Layout.{put_line, last_of, kernel_words}
use Rattle.kernels.specs.Lookahead.{Names, Unnamed, unnamed-out, unnamed-closed}
use Rattle.book.specs.Order.{last_key}
use Rattle.book.specs.Sections.{Gives, Shrinks, size-section, Reading, reading-start, reading-less, reading-turn, reading-done, Gathers, keep_from}
use Rattle.book.specs.Sections.{PutsKeyed}

-- the words of a kernel line
abbrev pub KERNEL_WORDS : ℕ
KERNEL_WORDS = 5

-- Lookaheads

-- what is kept of those that were read: the last, and the set of those below 32
pub data Seen : Type 0 where
  seen : Option ℕ → ℕ → Seen

unfoldable pub see : ℕ → ℕ → Seen → Seen
see k a (seen last set) = seen (Some a) (with set a)

-- the last, as others are compared with it
abbrev pub last_number : Option ℕ → List ℕ
last_number last = last_key (λ (a : ℕ). a ∷ []) last

-- what is answered of them: how many, the largest, if there is one, the set, and the position after them
pub record Looks (p : Parsed (List ℕ)) (text : List ℕ) (count : ℕ) (last : Option ℕ) (set next : ℕ) : Type 0 where
  pub remaining_is : rest text next ≡ remaining p
  pub count_is : count ≡ length (result p)
  pub some_is : is_some last ≡ ltb 0 (length (result p))
  pub last_is : unwrap_or last 0 ≡ last_of (result p)
  pub set_is : set ≡ set_of (result p)

-- a set has no place for a number from 32 on
pub with-large : (s a : ℕ) → s < 2 ^ 32 → 32 ≤ a → s ≡ with s a
with-large s a l h = same_set s (with s a) l (with-lt s a) (λ i g. sym (bit-with s a i g ∙ no_more i g))
  where
    or-false : (x : Bool) → (x || false) ≡ x
    or-false true = refl
    or-false false = refl

    no_more : (i : ℕ) → i < 32 → (bit s i || eqb a i) ≡ bit s i
    no_more i g = rw (ne_eqb a i (λ e. let z : ⊥ = omega arith in z)) (or-false (bit s i))

with-swap : (s a c : ℕ) → with (with s a) c ≡ with (with s c) a
with-swap s a c =
    same_set (with (with s a) c) (with (with s c) a) (with-lt (with s a) c) (with-lt (with s c) a)
    (λ i g. rw (bit-with (with s a) c i g, bit-with s a i g, bit-with (with s c) a i g, bit-with s c i g) (either (bit s i) (eqb a i) (eqb c i)))
  where
    either : (x y z : Bool) → ((x || y) || z) ≡ ((x || z) || y)
    either true y z = refl
    either false true true = refl
    either false true false = refl
    either false false true = refl
    either false false false = refl

last_from : Option ℕ → List ℕ → Option ℕ
last_from l [] = l
last_from l (a ∷ cs) = last_from (Some a) cs

set_from : ℕ → List ℕ → ℕ
set_from s [] = s
set_from s (a ∷ cs) = set_from (with s a) cs

last-from : (a : ℕ) (cs : List ℕ) → last_from (Some a) cs ≡ Some (last_of (a ∷ cs))
unfolding last_from last_of
last-from a [] = refl
last-from a (c ∷ cs) = last-from c cs

some-from : (cs : List ℕ) → is_some (last_from None cs) ≡ ltb 0 (length cs)
unfolding last_from
some-from [] = refl
some-from (a ∷ cs) = ap is_some (last-from a cs) ∙ sym (lt-ltb 0 (length (a ∷ cs)) (omega arith))

number-from : (cs : List ℕ) → unwrap_or (last_from None cs) 0 ≡ last_of cs
unfolding last_from last_of
number-from [] = refl
number-from (a ∷ cs) = ap (λ o. unwrap_or o 0) (last-from a cs)

set-with : (s a : ℕ) (cs : List ℕ) → set_from (with s a) cs ≡ with (set_from s cs) a
unfolding set_from
set-with s a [] = refl
set-with s a (c ∷ cs) = rw (with-swap s a c) (set-with (with s c) a cs)

set-from : (cs : List ℕ) → set_from 0 cs ≡ set_of cs
unfolding set_from set_of
set-from [] = refl
set-from (a ∷ cs) = set-with 0 a cs ∙ rw (set-from cs)

seen-from : (k s : ℕ) (l : Option ℕ) (cs : List ℕ) → keep_from see k cs (seen l s) ≡ seen (last_from l cs) (set_from s cs)
unfolding keep_from see last_from set_from
seen-from k s l [] = refl
seen-from k s l (a ∷ cs) = seen-from (suc k) (with s a) (Some a) cs

looks-of : {p : Parsed (List ℕ)} {text : List ℕ} {last : Option ℕ} {count set next : ℕ} → Gathers see p text (seen None 0) count next (seen last set)
    → Looks p text count last set next
looks-of {p} {last = last} {set = set} g =
    let e : seen last set ≡ seen (last_from None (result p)) (set_from 0 (result p)) = g.kept_is ∙ seen-from 0 0 None (result p) in
    let l : last ≡ last_from None (result p) = cc in
    record {
      remaining_is = g.remaining_is;
      count_is = g.count_is;
      some_is = rw l (some-from (result p));
      last_is = rw l (number-from (result p));
      set_is = cc (set-from (result p));
    }

-- the steps of one: its number, and the order
lookahead-read : {text : List ℕ} {fine : Bool} {at a next : ℕ} (last : List ℕ) (p : ℕ) → Reads decimal text at a next
    → fine ≡ is_before last (a ∷ []) → rest text p ≡ must fine (rest text next) → Gives (lookahead last (rest text at)) text a p
unfolding lookahead result remaining
lookahead-read last p number before due = record { result_is = cc; remaining_is = cc }

-- How much a line leaves

lookaheads-shrink : Shrinks (naming (word_of "t")) lookahead
unfolding lookahead remaining
lookaheads-shrink = record { head_less = naming-less (word_of "t"); one_less = λ last o. search shrinking depth 20 }

pub kernel-shrinks : (word : ℕ) → Shrinks (opening word) kernel_line
unfolding kernel_line remaining
kernel-shrinks word = record { head_less = opening-less word; one_less = λ last o. search (shrinking, most-lookaheads) depth 20 }

pub kernels-size : (o : Rest) → size (remaining (kernel_lines o)) ≤ size o
unfolding kernel_lines
kernels-size o = size-section (opening (word_of "kernel")) kernel_line (λ last. kernel_key) (kernel-shrinks (word_of "kernel")) [] o

-- Amid the lookaheads of a line: the last that was read, the set, and the position

pub record Looking (start : Parsed (List ℕ)) (text : List ℕ) (count : ℕ) (last : Option ℕ) (set p : ℕ) : Type 0 where
  pub reading : Reading (naming (word_of "t")) lookahead (λ before. lookahead_key) see text start (seen None 0) (last_number last) count p (seen last set)

pub looking-start : (text : List ℕ) (at : ℕ) {set : ℕ} → set ≡ 0 → Looking (lookaheads (rest text at)) text 0 None set at
unfolding lookaheads
looking-start text at e = record { reading = rw e (reading-start _ _ _ _ lookaheads-shrink _ _ _ _) }

-- there is no other
pub looking-done : {start : Parsed (List ℕ)} {text : List ℕ} {count : ℕ} {last : Option ℕ} {set p : ℕ} → Looking start text count last set p
    → Unnamed text p → Looks start text count last set p
looking-done L u = looks-of (reading-done _ _ _ _ lookaheads-shrink _ L.reading u.name_is u.outside)

pub looking-closed : {start : Parsed (List ℕ)} {text : List ℕ} {count : ℕ} {last : Option ℕ} {set p : ℕ} → Looking start text count last set p
    → p < length text → get_or text p 0 ≡ 41 → Looks start text count last set p
looking-closed {text = text} L h e = looking-done L (unnamed-closed text _ h e)

module _ {start : Parsed (List ℕ)} {text : List ℕ} {count : ℕ} {last : Option ℕ} {set p a next : ℕ} (L : Looking start text count last set p)
    (N : Names text p a next) where
  -- there is one more, which is fine or not
  module _ {fine : Bool} {set' : ℕ} (before : fine ≡ is_before (last_number last) (a ∷ [])) (more : set' ≡ with set a) where
    read-to : {q : ℕ} → rest text q ≡ must fine (rest text next) → Gives (lookahead (last_number last) (rest text N.from)) text a q
    read-to {q} e = lookahead-read _ q N.number_is before e

    turn-to : {q : ℕ} → rest text q ≡ must fine (rest text next) → Looking start text (count + 1) (Some a) set' q
    unfolding see lookahead_key
    turn-to e =
        record {
          reading =
              reading-turn _ _ _ _ lookaheads-shrink _ L.reading N.name_is N.inside (read-to e).remaining_is (rw (read-to e).result_is)
              (rw (more, (read-to e).result_is));
        }

    pub looking-less : fine ≡ true → size (rest text next) < size (rest text p)
    looking-less f =
        reading-less _ _ _ _ lookaheads-shrink _ L.reading N.name_is N.inside (read-to (sym (must-true fine (rest text next) f))).remaining_is

    pub looking-turn : fine ≡ true → Looking start text (count + 1) (Some a) set' next
    looking-turn f = turn-to (sym (must-true fine (rest text next) f))

    pub looking-out : {q : ℕ} → fine ≡ false → length text < q → Looks start text (count + 1) (Some a) set' q
    looking-out {q} f o =
        looking-done (turn-to (rest_out text q o ∙ sym (must-false fine (rest text next) f))) (unnamed-out text q o)

-- The state, the rule and the dot of a line, with a space between, and the position after them

pub record Item (text : List ℕ) (at S P D next : ℕ) : Type 0 where
  pub state_is : S ≡ value decimal (rest text at)
  pub rule_is : P ≡ value decimal (mark space (past decimal (rest text at)))
  pub dot_is : D ≡ value decimal (mark space (past decimal (mark space (past decimal (rest text at)))))
  pub rest_is : rest text next ≡ past decimal (mark space (past decimal (mark space (past decimal (rest text at)))))

pub item_of : {text : List ℕ} {at S p₁ p₂ P p₃ p₄ D p₅ : ℕ} → Reads decimal text at S p₁ → rest text p₂ ≡ mark space (rest text p₁)
    → Reads decimal text p₂ P p₃ → rest text p₄ ≡ mark space (rest text p₃) → Reads decimal text p₄ D p₅ → Item text at S P D p₅
item_of state e₁ rule e₂ dot = record { state_is = cc; rule_is = cc; dot_is = cc; rest_is = cc }

-- The steps of a line: its item, the lookaheads, that there are some, the end, the order, the store

module _ {text out out' : List ℕ} {ascending : Bool} {some : Bool} {room k at S P D p₅ a count set p₆ p₉ : ℕ} {largest : Option ℕ} (last : List ℕ) (p₇ p₈ : ℕ) where
  pub kernel-steps : Item text at S P D p₅ → Looks (lookaheads (rest text p₅)) text count largest set p₆
      → some ≡ is_some largest → rest text p₇ ≡ must some (rest text p₆) → rest text p₈ ≡ closing (rest text p₇)
      → ascending ≡ is_before last (S ∷ P ∷ D ∷ []) → rest text p₉ ≡ must ascending (rest text p₈)
      → a ≡ unwrap_or largest 0 → out' ≡ put_line room k (S ∷ P ∷ D ∷ a ∷ set ∷ []) out
      → PutsKeyed kernel_key kernel_words room k (kernel_line last (rest text at)) text out (S ∷ P ∷ D ∷ []) p₉ out'
  unfolding kernel_line kernel_key kernel_words result remaining
  kernel-steps item terminals some_is some_due end before due last_is stored =
      record { key-is = cc; puts = record { remaining_is = cc; array_is = cc } }

-- opens every definition of this module
unfoldable pub opens : Unit {0}
unfolding see
opens = tt
