-- Which words are the filling of a taken book: `stored_book` finds it, and finds nothing else.
-- Assumes nothing.
use Rattle.std.specs.Prelude.{ℕ, zero, suc, ◌*◌, ◌/◌, ◌%◌, ◌≤◌, ◌≡◌, refl, Bool, true, false, List, [], ◌∷◌, eqb, length}
use Rattle.std.proofs.Common.{arith, sym, ap, ◌∙◌, eqb-true, eq-eqb}
use Rattle.std.proofs.Math.Option.{Option, none, some}
use Rattle.grammar.specs.Limits.{BOOK_WORDS}
use Rattle.grammar.specs.Data.Book.{Book}
use Rattle.grammar.specs.Format.PrintLaws.{Printable, line_end, byte, print-printable}
use Rattle.grammar.specs.Format.Parse.{parse_book}
use Rattle.grammar.specs.Format.ParseLaws.{parse-print}
use Rattle.grammar.specs.Automaton.Fixpoint.{same_sets}
use Rattle.grammar.specs.Automaton.LeastLaws.{same_sets-still, same_sets-self}
use Rattle.grammar.specs.Format.Packing.{pack, before, unpack, Bytes, no_bytes, and_bytes, unpack-pack, pack-length}
use Rattle.grammar.specs.Refusal.{Taken, Breaks, Verdict, taken, misspelt, broken, book_refusal, refusal}
use Rattle.grammar.specs.Refusal.{breaks_limits, breaks_names, breaks_attributes, breaks_definitions}
use Rattle.grammar.specs.Refusal.{breaks_kernel_rules, breaks_go_rules, breaks_no_conflict, breaks_one_formula}
use Rattle.grammar.proofs.RefusalLaws.{refusal-verdict, verdict-refusal}
use Rattle.grammar.specs.Engine.{stored_book}
use Rattle.grammar.specs.Demands.{Stored, book_of}

-- 0 is said of taken texts alone

breaks-some : {b : Book} {n : ℕ} → Breaks b n → n ≡ 0 → ⊥
breaks-some (breaks_limits h) e = omega arith
breaks-some (breaks_names l h) e = omega arith
breaks-some (breaks_attributes l n h) e = omega arith
breaks-some (breaks_definitions l n a h) e = omega arith
breaks-some (breaks_kernel_rules l n a d h) e = omega arith
breaks-some (breaks_go_rules l n a d k h) e = omega arith
breaks-some (breaks_no_conflict l n a d k g h) e = omega arith
breaks-some (breaks_one_formula l n a d k g c h) e = omega arith

verdict-zero : {text : List ℕ} {n : ℕ} → Verdict text n → n ≡ 0 → Taken text
verdict-zero (taken t) e = t
verdict-zero (misspelt h) e = absurd (omega arith)
verdict-zero (broken b s q h) e = absurd (breaks-some h e)

pub refusal-taken : (text : List ℕ) → refusal text ≡ 0 → Taken text
refusal-taken text e = verdict-zero (refusal-verdict text) e

-- a taken text and its book

pub taken-parsed : {text : List ℕ} (t : Taken text) → parse_book text ≡ some t.book
taken-parsed t = rw t.its_text (parse-print t.book t.spelled)

taken-zero : {text : List ℕ} (t : Taken text) → book_refusal t.book ≡ 0
unfolding refusal
taken-zero {text} t = let e : refusal text ≡ 0 = verdict-refusal text (taken t) in rw (taken-parsed t, refusal) at e

printable-bytes : {bs : List ℕ} → Printable bs → Bytes bs
printable-bytes line_end = and_bytes {c = 10} (omega arith) (omega arith) no_bytes
printable-bytes (byte {c = c} h k p) = and_bytes {c = c} (omega arith) (omega arith) (printable-bytes p)

taken-bytes : {text : List ℕ} → Taken text → Bytes text
taken-bytes t = rw t.its_text (printable-bytes (print-printable t.book))

stored-unpacked : {words : List ℕ} (s : Stored words) → unpack words ≡ s.text
stored-unpacked s = rw s.filling (unpack-pack BOOK_WORDS s.text (taken-bytes s.its_book) s.short_text)

-- a stored book is found
pub stored-found : (words : List ℕ) (s : Stored words) → stored_book words ≡ some (book_of s)
unfolding stored_book
stored-found words s =
    let n : eqb (length words) BOOK_WORDS ≡ true = eq-eqb (length words) BOOK_WORDS (ap length s.filling ∙ pack-length BOOK_WORDS s.text) in
    let f : words ≡ pack BOOK_WORDS (unpack words) = s.filling ∙ ap (pack BOOK_WORDS) (sym (stored-unpacked s)) in
    let m : same_sets words (pack BOOK_WORDS (unpack words)) ≡ true = ap (same_sets words) (sym f) ∙ same_sets-self words in
    let p : parse_book (unpack words) ≡ some (book_of s) = ap parse_book (stored-unpacked s) ∙ taken-parsed s.its_book in
    rw (n, m, stored_book) (rw p (rw (taken-zero s.its_book)))

before-length : (c : ℕ) (bs : List ℕ) → length (before c bs) ≤ suc (length bs)
unfolding before
before-length zero bs = omega arith
before-length (suc c) bs = omega arith

unpack-length : (words : List ℕ) → length (unpack words) ≤ 4 * length words
unfolding unpack
unpack-length [] = omega arith
unpack-length (w ∷ ws) =
    omega (
      arith,
      unpack-length ws,
      before-length (w % 256) (before (w / 256 % 256) (before (w / 65536 % 256) (before (w / 16777216 % 256) (unpack ws)))),
      before-length (w / 256 % 256) (before (w / 65536 % 256) (before (w / 16777216 % 256) (unpack ws))),
      before-length (w / 65536 % 256) (before (w / 16777216 % 256) (unpack ws)),
      before-length (w / 16777216 % 256) (unpack ws),
    )

-- what is found is stored
pub found-stored : (words : List ℕ) (b : Book) → stored_book words ≡ some b → (s : Stored words) × (book_of s ≡ b)
unfolding stored_book refusal
found-stored words b e =
    go (eqb (length words) BOOK_WORDS) refl (same_sets words (pack BOOK_WORDS (unpack words))) refl (parse_book (unpack words)) refl
  where
    nothing : {C : Type 0} → stored_book words ≡ none → C
    nothing n = absurd (let z : ◌≡◌ {A = ℕ} 0 1 = cc in omega arith)

    finish : (c : Book) → eqb (length words) BOOK_WORDS ≡ true → words ≡ pack BOOK_WORDS (unpack words) → parse_book (unpack words) ≡ some c
        → book_refusal c ≡ 0 → c ≡ b → (s : Stored words) × (book_of s ≡ b)
    finish c n f p z q =
        let t : Taken (unpack words) = refusal-taken (unpack words) (rw (p, refusal) z) in
        let same : t.book ≡ c = let r = taken-parsed t in cc in
        let l : length words ≡ BOOK_WORDS = eqb-true (length words) BOOK_WORDS n in
        (record { text = unpack words; its_book = t; short_text = omega (arith, unpack-length words); filling = f }, same ∙ q)

    go : (x : Bool) → eqb (length words) BOOK_WORDS ≡ x → (y : Bool) → same_sets words (pack BOOK_WORDS (unpack words)) ≡ y
        → (o : Option Book) → parse_book (unpack words) ≡ o → (s : Stored words) × (book_of s ≡ b)
    go false n y m o p = nothing (rw (n, stored_book))
    go true n false m o p = nothing (rw (n, m, stored_book))
    go true n true m none p = nothing (rw (n, m, stored_book) (rw p))
    go true n true m (some c) p = by (book_refusal c) refl
      where
        by : (k : ℕ) → book_refusal c ≡ k → (s : Stored words) × (book_of s ≡ b)
        by zero z = finish c n (same_sets-still words (pack BOOK_WORDS (unpack words)) m) p z (let w : stored_book words ≡ some c = rw (n, m, stored_book) (rw p (rw z)) in cc)
        by (suc k) z = nothing (rw (n, m, stored_book) (rw p (rw z)))
