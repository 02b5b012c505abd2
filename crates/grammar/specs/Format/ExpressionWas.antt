-- An expression that was read was printed: where the loop ends with something left, the text is an expression in front of it.
-- Assumes nothing.
use Rattle.std.specs.Prelude.{ℕ, zero, suc, ◌<◌, ◌≡◌, Bool, true, false, List, [], ◌∷◌, ◌++◌, eqb, length}
use Rattle.std.proofs.Math.Path.{refl}
use Rattle.std.proofs.Common.{sym, ap, ◌∙◌, append_assoc, arith, eqb-true}
use Rattle.text.specs.Class.{open-bracket, close-bracket, space}
use Rattle.text.specs.Rest.{Rest, lost, left, found, mark, size}
use Rattle.text.proofs.RestLaws.{lost≢left, left_is, found_left}
use Rattle.text.specs.Numeral.{decimal, letters, write, value, past, word_of, keyword}
use Rattle.text.proofs.NumeralLaws.{past-got}
use Rattle.text.proofs.Positional.{letters-positional}
use Rattle.grammar.specs.Data.Term.{Operator, add, sub, min, max, number, leaf, both, pick}
use Rattle.grammar.specs.Data.Book.{Place, own, at, val, Expr}
use Rattle.grammar.specs.Data.Postfix.{Step, push, load, operate, select, postfix, term_of, term-postfix}
use Rattle.grammar.specs.Format.Printer.{bytes, literal}
use Rattle.grammar.specs.Format.Print.{print_place, print_operator, print_expression}
use Rattle.grammar.specs.Format.Ordered.{Fits, PlaceFits, own_fits, at_fits, val_fits, ExpressionFits, number_fits, leaf_fits, both_fits, pick_fits}
use Rattle.grammar.specs.Format.Reader.{parsed, result, remaining, Reader, naming}
use Rattle.grammar.specs.Format.ReaderLaws.{open-got, close-got, space-got, number-got, keyword-got, naming-got, spelling}
use Rattle.grammar.specs.Format.Expression.{Waiting, waiting, Begun, opened, whole, own_place, at_place, val_place, whole_of, bracket, begun, Scan, scan}
use Rattle.grammar.specs.Format.Expression.{scan_more, scan_all, outcome, expression_steps, expression}
use Rattle.grammar.specs.Format.ExpressionReads.{either-cases, begun-bracket, begun-number, size_begun, begun-less, scan-stop, turn-opened, turn-whole}
use Rattle.grammar.specs.Format.ExpressionReads.{turn-space, turn-close}

-- How an expression begins

pub data Begins (bs : List ℕ) : Begun → Type 0 where
  by_operator : (o : Operator) (r : List ℕ) → bs ≡ print_operator o r → Begins bs (opened (waiting (operate o) 1) (left r))
  by_pick : (r : List ℕ) → bs ≡ literal "(pick " r → Begins bs (opened (waiting select 2) (left r))
  by_number : (n : ℕ) (r : List ℕ) → bs ≡ write decimal n r → Fits n → Begins bs (whole (push n) (left r))
  by_place : (p : Place) (r : List ℕ) → bs ≡ print_place p r → PlaceFits p → Begins bs (whole (load p) (left r))
  by_fault_opened : (w : Waiting) → Begins bs (opened w lost)
  by_fault : (s : Step Place) → Begins bs (whole s lost)

-- a bracket and its word, read once
module _ (bs : List ℕ) (word : ℕ) (o : Rest) (text : (r : List ℕ) → o ≡ left r → bs ≡ 40 ∷ write letters word (32 ∷ r)) where
  opened-case : (w : Waiting) → ((r : List ℕ) → o ≡ left r → Begins bs (opened w (left r))) → Begins bs (opened w o)
  opened-case w k = go o refl
    where
      go : (o₁ : Rest) → o ≡ o₁ → Begins bs (opened w o₁)
      go lost e = by_fault_opened w
      go (left r) e = k r e

  operator-case : (f : Operator) → ((r : List ℕ) → 40 ∷ write letters word (32 ∷ r) ≡ print_operator f r) → Begins bs (opened (waiting (operate f) 1) o)
  operator-case f spells = opened-case (waiting (operate f) 1) λ r e. by_operator f r (text r e ∙ spells r)

  place-case : (one : Reader (Step Place)) → ((r : List ℕ) → remaining (one o) ≡ left r → Begins bs (whole (result (one o)) (left r))) → Begins bs (whole_of (one o))
  unfolding whole_of
  place-case one k = go (remaining (one o)) refl
    where
      go : (o₁ : Rest) → remaining (one o) ≡ o₁ → Begins bs (whole (result (one o)) o₁)
      go lost e = by_fault (result (one o))
      go (left r) e = k r e

  own-case : word ≡ word_of "own" → Begins bs (whole_of (own_place o))
  unfolding own_place result remaining print_place spelling
  own-case w =
      place-case own_place λ r e. close-got _ e λ e₁. number-got _ e₁ λ e₂ h. keyword-got _ _ e₂ λ e₃.
      by_place (own (value decimal (keyword (word_of "i") o))) r (text _ e₃ ∙ rw w) (own_fits h)

  at-case : word ≡ word_of "at" → Begins bs (whole_of (at_place o))
  unfolding at_place result remaining print_place spelling
  at-case w =
      place-case at_place λ r e. close-got _ e λ e₁. number-got _ e₁ λ e₂ h. naming-got _ _ e₂ λ e₃. number-got _ e₃ λ e₄ k.
      by_place (at (value decimal o) (value decimal (naming (word_of "s") (past decimal o)))) r (text _ e₄ ∙ rw w) (at_fits k h)

  val-case : word ≡ word_of "val" → Begins bs (whole_of (val_place o))
  unfolding val_place result remaining print_place spelling
  val-case w =
      place-case val_place λ r e. close-got _ e λ e₁. number-got _ e₁ λ e₂ h. by_place (val (value decimal o)) r (text _ e₂ ∙ rw w) (val_fits h)

  bracket-begins : Begins bs (bracket word o)
  unfolding bracket print_operator spelling
  bracket-begins =
      let P : Begun → Type 0 = Begins bs in
      either-cases P (eqb word (word_of "add")) (λ t. operator-case add λ r. rw (eqb-true word (word_of "add") t)) (λ _.
      either-cases P (eqb word (word_of "sub")) (λ t. operator-case sub λ r. rw (eqb-true word (word_of "sub") t)) (λ _.
      either-cases P (eqb word (word_of "min")) (λ t. operator-case min λ r. rw (eqb-true word (word_of "min") t)) (λ _.
      either-cases P (eqb word (word_of "max")) (λ t. operator-case max λ r. rw (eqb-true word (word_of "max") t)) (λ _.
      either-cases P (eqb word (word_of "pick")) (λ t. opened-case (waiting select 2) λ r e. by_pick r (text r e ∙ rw (eqb-true word (word_of "pick") t))) (λ _.
      either-cases P (eqb word (word_of "own")) (λ t. own-case (eqb-true word (word_of "own") t)) (λ _.
      either-cases P (eqb word (word_of "at")) (λ t. at-case (eqb-true word (word_of "at") t)) (λ _.
      either-cases P (eqb word (word_of "val")) (λ t. val-case (eqb-true word (word_of "val") t)) (λ _. by_fault select))))))))

number-begins : (bs : List ℕ) → Begins bs (whole (push (value decimal (left bs))) (past decimal (left bs)))
number-begins bs = go (past decimal (left bs)) refl
  where
    go : (o : Rest) → past decimal (left bs) ≡ o → Begins bs (whole (push (value decimal (left bs))) o)
    go lost e = by_fault (push (value decimal (left bs)))
    go (left r) e = number-got (left bs) e λ e₁ h. by_number (value decimal (left bs)) r (left_is e₁) h

begun-begins : (bs : List ℕ) → Begins bs (begun (left bs))
begun-begins bs = go (found (mark open-bracket (left bs))) refl
  where
    word : Rest
    word = mark open-bracket (left bs)

    text : (r : List ℕ) → mark space (past letters word) ≡ left r → bs ≡ 40 ∷ write letters (value letters word) (32 ∷ r)
    text r e = space-got (past letters word) e λ e₁. past-got letters letters-positional word e₁ λ cs e₂ e₃ h. open-got (left bs) (e₂ ∙ ap left e₃) λ e₄. left_is e₄

    go : (t : Bool) → found (mark open-bracket (left bs)) ≡ t → Begins bs (begun (left bs))
    go true h = rw (begun-bracket (left bs) h) (bracket-begins bs (value letters word) (mark space (past letters word)) text)
    go false h = rw (begun-number (left bs) h) (number-begins bs)

-- From the end of a run back to its beginning

-- whether the run read an expression
unfoldable pub alive : Scan → Bool
alive m = found (remaining (outcome m))

lost-stops : (due : Bool) (waits : List Waiting) (steps : List (Step Place)) → scan_more (scan due lost waits steps) ≡ false
unfolding scan_more found
lost-stops true waits steps = refl
lost-stops false [] steps = refl
lost-stops false (w ∷ waits) steps = refl

lost-run : (due : Bool) (waits : List Waiting) (steps : List (Step Place)) → alive (scan_all (scan due lost waits steps)) ≡ true → ⊥
unfolding alive outcome remaining found
lost-run due waits steps h =
    let z : ◌≡◌ {A = Bool} false true = sym (ap alive (scan-stop (scan due lost waits steps) (lost-stops due waits steps))) ∙ h in
    let y : ◌≡◌ {A = ℕ} 0 1 = cc in omega arith

module _ {C : Type 0} (r : List ℕ) (s : Step Place) (waits : List Waiting) (steps : List (Step Place)) where
  space-was : (n : ℕ) → alive (scan_all (scan false (left r) (waiting s (suc n) ∷ waits) steps)) ≡ true
      → ((r₁ : List ℕ) → r ≡ 32 ∷ r₁
      → scan_all (scan false (left r) (waiting s (suc n) ∷ waits) steps) ≡ scan_all (scan true (left r₁) (waiting s n ∷ waits) steps) → C) → C
  space-was n h k = go (mark space (left r)) refl
    where
      go : (o : Rest) → mark space (left r) ≡ o → C
      go lost e = absurd (lost-run true (waiting s n ∷ waits) steps (rw (turn-space waits steps r s n, e) at h))
      go (left r₁) e = space-got (left r) e λ p. k r₁ (left_is p) (turn-space waits steps r s n ∙ rw e)

  close-was : alive (scan_all (scan false (left r) (waiting s zero ∷ waits) steps)) ≡ true
      → ((r₁ : List ℕ) → r ≡ 41 ∷ r₁
      → scan_all (scan false (left r) (waiting s zero ∷ waits) steps) ≡ scan_all (scan false (left r₁) waits (steps ++ (s ∷ []))) → C) → C
  close-was h k = go (mark close-bracket (left r)) refl
    where
      go : (o : Rest) → mark close-bracket (left r) ≡ o → C
      go lost e = absurd (lost-run false waits (steps ++ (s ∷ [])) (rw (turn-close waits steps r s, e) at h))
      go (left r₁) e = close-got (left r) e λ p. k r₁ (left_is p) (turn-close waits steps r s ∙ rw e)

-- the text was an expression e in front of r, and the loop has read it
record Was (bs : List ℕ) (waits : List Waiting) (steps : List (Step Place)) : Type 0 where
  e : Expr
  r : List ℕ
  text : bs ≡ print_expression e r
  fits : ExpressionFits e
  shorter : length r < length bs
  same : scan_all (scan true (left bs) waits steps) ≡ scan_all (scan false (left r) waits (steps ++ postfix e))

abbrev Shorter : ℕ → Type 0
Shorter g = (bs : List ℕ) (waits : List Waiting) (steps : List (Step Place)) → length bs < g
    → alive (scan_all (scan true (left bs) waits steps)) ≡ true → Was bs waits steps

-- an operand and what stands after it, in a run m
module _ {C : Type 0} (g : ℕ) (ih : Shorter g) (m : Scan) (s : Step Place) (r : List ℕ) (waits : List Waiting) (steps : List (Step Place))
    (l : length r < g) (h : alive m ≡ true) where
  operand-space : (n : ℕ) → m ≡ scan_all (scan true (left r) (waiting s (suc n) ∷ waits) steps)
      → ((e : Expr) (r₁ : List ℕ) → r ≡ print_expression e (32 ∷ r₁) → ExpressionFits e → length r₁ < length r
      → m ≡ scan_all (scan true (left r₁) (waiting s n ∷ waits) (steps ++ postfix e)) → C) → C
  operand-space n same k =
      let w : Was r (waiting s (suc n) ∷ waits) steps = ih r (waiting s (suc n) ∷ waits) steps l (sym (ap alive same) ∙ h) in
      space-was w.r s waits (steps ++ postfix w.e) n (sym (ap alive (same ∙ w.same)) ∙ h) λ r₁ p q.
      k w.e r₁ (w.text ∙ ap (print_expression w.e) p) w.fits (omega (arith, w.shorter, ap length p)) (same ∙ (w.same ∙ q))

  operand-close : m ≡ scan_all (scan true (left r) (waiting s zero ∷ waits) steps)
      → ((e : Expr) (r₁ : List ℕ) → r ≡ print_expression e (41 ∷ r₁) → ExpressionFits e → length r₁ < length r
      → m ≡ scan_all (scan false (left r₁) waits ((steps ++ postfix e) ++ (s ∷ []))) → C) → C
  operand-close same k =
      let w : Was r (waiting s zero ∷ waits) steps = ih r (waiting s zero ∷ waits) steps l (sym (ap alive same) ∙ h) in
      close-was w.r s waits (steps ++ postfix w.e) (sym (ap alive (same ∙ w.same)) ∙ h) λ r₁ p q.
      k w.e r₁ (w.text ∙ ap (print_expression w.e) p) w.fits (omega (arith, w.shorter, ap length p)) (same ∙ (w.same ∙ q))

opened-less : (bs r : List ℕ) (w : Waiting) → begun (left bs) ≡ opened w (left r) → length r < length bs
unfolding size size_begun found
opened-less bs r w e = omega (arith, begun-less (left bs) refl, ap size_begun e)

whole-less : (bs r : List ℕ) (s : Step Place) → begun (left bs) ≡ whole s (left r) → length r < length bs
unfolding size size_begun found
whole-less bs r s e = omega (arith, begun-less (left bs) refl, ap size_begun e)

both-was : (g : ℕ) → Shorter g → (o : Operator) (bs r₀ : List ℕ) (waits : List Waiting) (steps : List (Step Place)) → length bs < suc g → bs ≡ print_operator o r₀
    → begun (left bs) ≡ opened (waiting (operate o) 1) (left r₀) → alive (scan_all (scan true (left bs) waits steps)) ≡ true → Was bs waits steps
unfolding print_expression postfix literal bytes
both-was g ih o bs r₀ waits steps l p q h =
    let m : Scan = scan_all (scan true (left bs) waits steps) in
    let l₀ : length r₀ < length bs = opened-less bs r₀ (waiting (operate o) 1) q in
    operand-space g ih m (operate o) r₀ waits steps (omega arith) h 0 (turn-opened waits steps bs (left r₀) (waiting (operate o) 1) q) λ x r₁ p₁ f₁ l₁ m₁.
    operand-close g ih m (operate o) r₁ waits (steps ++ postfix x) (omega arith) h m₁ λ y r₂ p₂ f₂ l₂ m₂.
    record {
      e = both o x y;
      r = r₂;
      text = p ∙ rw (p₁, p₂);
      fits = both_fits f₁ f₂;
      shorter = omega arith;
      same = m₂ ∙ simp append_assoc;
    }

pick-was : (g : ℕ) → Shorter g → (bs r₀ : List ℕ) (waits : List Waiting) (steps : List (Step Place)) → length bs < suc g → bs ≡ literal "(pick " r₀
    → begun (left bs) ≡ opened (waiting select 2) (left r₀) → alive (scan_all (scan true (left bs) waits steps)) ≡ true → Was bs waits steps
unfolding print_expression postfix literal bytes
pick-was g ih bs r₀ waits steps l p q h =
    let m : Scan = scan_all (scan true (left bs) waits steps) in
    let l₀ : length r₀ < length bs = opened-less bs r₀ (waiting select 2) q in
    operand-space g ih m select r₀ waits steps (omega arith) h 1 (turn-opened waits steps bs (left r₀) (waiting select 2) q) λ c r₁ p₁ f₁ l₁ m₁.
    operand-space g ih m select r₁ waits (steps ++ postfix c) (omega arith) h 0 m₁ λ x r₂ p₂ f₂ l₂ m₂.
    operand-close g ih m select r₂ waits ((steps ++ postfix c) ++ postfix x) (omega arith) h m₂ λ y r₃ p₃ f₃ l₃ m₃.
    record {
      e = pick c x y;
      r = r₃;
      text = p ∙ rw (p₁, p₂, p₃);
      fits = pick_fits f₁ f₂ f₃;
      shorter = omega arith;
      same = m₃ ∙ simp append_assoc;
    }

whole-was : (bs r : List ℕ) (waits : List Waiting) (steps : List (Step Place)) (s : Step Place) (e : Expr) → begun (left bs) ≡ whole s (left r)
    → bs ≡ print_expression e r → ExpressionFits e → s ∷ [] ≡ postfix e → Was bs waits steps
whole-was bs r waits steps s e q text fits one =
    record { e = e; r = r; text = text; fits = fits; shorter = whole-less bs r s q; same = turn-whole waits steps bs (left r) s q ∙ rw one }

was : (g : ℕ) → Shorter g
unfolding print_expression postfix
was zero bs waits steps l h = absurd (let z : ⊥ = omega arith in z)
was (suc g) bs waits steps l h = go (begun (left bs)) refl (begun-begins bs) (was g)
  where
    go : (b : Begun) → begun (left bs) ≡ b → Begins bs b → Shorter g → Was bs waits steps
    go b q (by_operator o r p) ih = both-was g ih o bs r waits steps l p q h
    go b q (by_pick r p) ih = pick-was g ih bs r waits steps l p q h
    go b q (by_number n r p f) ih = whole-was bs r waits steps (push n) (number n) q p (number_fits f) refl
    go b q (by_place c r p f) ih = whole-was bs r waits steps (load c) (leaf c) q p (leaf_fits f) refl
    go b q (by_fault_opened w) ih = absurd (lost-run true (w ∷ waits) steps (rw (turn-opened waits steps bs lost w q) at h))
    go b q (by_fault s) ih = absurd (lost-run false waits (steps ++ (s ∷ [])) (rw (turn-whole waits steps bs lost s q) at h))

-- the expression in front of r whose steps were read
pub record Stood (bs r : List ℕ) : Type 0 where
  pub e : Expr
  pub text : bs ≡ print_expression e r
  pub fits : ExpressionFits e
  pub steps : expression_steps (left bs) ≡ parsed (postfix e) (left r)

pub steps-were : (bs r : List ℕ) → remaining (expression_steps (left bs)) ≡ left r → Stood bs r
unfolding expression_steps outcome scan_more remaining alive
steps-were bs r h =
    let w : Was bs [] [] = was (suc (length bs)) bs [] [] (omega arith) (found_left (remaining (outcome (scan_all (scan true (left bs) [] [])))) h) in
    let z : expression_steps (left bs) ≡ parsed (postfix w.e) (left w.r) =
    ap outcome (w.same ∙ scan-stop (scan false (left w.r) [] (postfix w.e)) refl) in
    let y : w.r ≡ r = left_is (sym (ap remaining z) ∙ h) in
    record { e = w.e; text = w.text ∙ ap (print_expression w.e) y; fits = w.fits; steps = z ∙ ap (λ x. parsed (postfix w.e) (left x)) y }

lost-steps : remaining (expression_steps lost) ≡ lost
unfolding expression_steps outcome remaining
lost-steps = ap (λ m. remaining (outcome m)) (scan-stop (scan true lost [] []) (lost-stops true [] []))

-- what was read as an expression was printed
pub expression-was : {C : Type 0} {r : List ℕ} (o : Rest) → remaining (expression o) ≡ left r
    → (o ≡ left (print_expression (result (expression o)) r) → ExpressionFits (result (expression o)) → C) → C
unfolding expression result remaining
expression-was lost h k = absurd (lost≢left (sym lost-steps ∙ h))
expression-was {r = r} (left bs) h k =
    let w : Stood bs r = steps-were bs r h in
    let z : term_of (result (expression_steps (left bs))) ≡ w.e = ap (λ p. term_of (result p)) w.steps ∙ term-postfix w.e in
    k (ap left (w.text ∙ ap (λ e. print_expression e r) (sym z))) (rw z w.fits)
