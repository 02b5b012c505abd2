-- What is printed of an expression is read: the loop gives the expression's steps in postfix order.
-- Assumes nothing.
use Prim.Native.Nat.{ℕ, zero, suc, ◌≤◌, ◌<◌}
use Rattle.std.specs.Prelude.{◌≡◌, Bool, List, [], ◌∷◌, ◌++◌, eqb}
use Rattle.std.proofs.Math.Path.{refl}
use Rattle.std.proofs.Common.{ap, ◌∙◌, append_assoc, arith}
use Rattle.std.proofs.Math.Bool.{true, false}
use Rattle.text.specs.Class.{open-bracket, close-bracket, space, class_of}
use Rattle.text.specs.Rest.{Rest, left, found, must, mark_in, mark, size}
use Rattle.text.proofs.RestLaws.{size-mark, less-mark, found-mark}
use Rattle.text.specs.Numeral.{decimal, letters, digit_of, write, value, past, word_of}
use Rattle.text.specs.Positional.{no_digit}
use Rattle.text.proofs.NumeralLaws.{value-number, past-number, mark-number, size-past, less-past}
use Rattle.grammar.specs.Data.Term.{Operator, add, sub, min, max, number, leaf, both, pick}
use Rattle.grammar.specs.Data.Book.{Place, own, at, val, Expr}
use Rattle.grammar.specs.Data.Postfix.{Step, push, load, operate, select, postfix, term-postfix}
use Rattle.grammar.specs.Format.Printer.{bytes, literal}
use Rattle.grammar.specs.Format.Print.{print_place, print_operator, print_expression}
use Rattle.grammar.specs.Format.Ordered.{Fits, PlaceFits, own_fits, at_fits, val_fits, ExpressionFits, number_fits, leaf_fits, both_fits, pick_fits}
use Rattle.grammar.specs.Format.Reader.{parsed, result, remaining}
use Rattle.grammar.specs.Format.ReaderLaws.{shrinking, word-ends, number-reads, reading}
use Rattle.grammar.specs.Format.Repeat.{repeat, repeat-stop, repeat-more, repeat-size}
use Rattle.grammar.specs.Format.Expression.{Waiting, waiting, Begun, opened, whole, either, own_place, at_place, val_place, whole_of, bracket, begun, Scan}
use Rattle.grammar.specs.Format.Expression.{scan, size_scan, scan_more, begin, scan_turn, scan_all, outcome, expression_steps, expression}

-- How much is left

unfoldable pub size_begun : Begun → ℕ
size_begun (opened w o) = size o
size_begun (whole s o) = size o

pub either-cases : {A : Type 0} {x y : A} (P : A → Type 0) (b : Bool) → (b ≡ true → P x) → (b ≡ false → P y) → P (either b x y)
either-cases P true f g = f refl
either-cases P false f g = g refl

own-size : (o : Rest) → size (remaining (own_place o)) ≤ size o
unfolding own_place result remaining
own-size o = search shrinking depth 12

at_size : (o : Rest) → size (remaining (at_place o)) ≤ size o
unfolding at_place result remaining
at_size o = search shrinking depth 12

val-size : (o : Rest) → size (remaining (val_place o)) ≤ size o
unfolding val_place result remaining
val-size o = search shrinking depth 12

bracket-size : (word : ℕ) (o : Rest) → size_begun (bracket word o) ≤ size o
unfolding bracket size_begun whole_of size
bracket-size word o =
    let P : Begun → Type 0 = λ b. size_begun b ≤ size o in
    either-cases P (eqb word (word_of "add")) (λ _. omega arith) (λ _.
    either-cases P (eqb word (word_of "sub")) (λ _. omega arith) (λ _.
    either-cases P (eqb word (word_of "min")) (λ _. omega arith) (λ _.
    either-cases P (eqb word (word_of "max")) (λ _. omega arith) (λ _.
    either-cases P (eqb word (word_of "pick")) (λ _. omega arith) (λ _.
    either-cases P (eqb word (word_of "own")) (λ _. own-size o) (λ _.
    either-cases P (eqb word (word_of "at")) (λ _. at_size o) (λ _.
    either-cases P (eqb word (word_of "val")) (λ _. val-size o) (λ _. omega arith))))))))

pub begun-bracket : (o : Rest) → found (mark open-bracket o) ≡ true
    → begun o ≡ bracket (value letters (mark open-bracket o)) (mark space (past letters (mark open-bracket o)))
unfolding begun
begun-bracket o h = rw (h, begun)

pub begun-number : (o : Rest) → found (mark open-bracket o) ≡ false → begun o ≡ whole (push (value decimal o)) (past decimal o)
unfolding begun
begun-number o h = rw (h, begun)

pub begun-less : (o : Rest) → found o ≡ true → size_begun (begun o) < size o
unfolding size_begun
begun-less o alive = go (found (mark open-bracket o)) refl
  where
    go : (t : Bool) → found (mark open-bracket o) ≡ t → size_begun (begun o) < size o
    go true h =
        let p : Rest = mark open-bracket o in
        rw (begun-bracket o h)
        (omega (
          arith,
          found-mark open-bracket o h,
          size-past letters p,
          size-mark space (past letters p),
          bracket-size (value letters p) (mark space (past letters p)),
        ))
    go false h = rw (begun-number o h) (less-past decimal o alive)

begin-size : (b : Begun) (waits : List Waiting) (steps : List (Step Place)) → size_scan (begin b waits steps) ≡ size_begun b
unfolding begin size_scan size_begun
begin-size (opened w o) waits steps = refl
begin-size (whole s o) waits steps = refl

falls : (m : Scan) → scan_more m ≡ true → size_scan (scan_turn m) < size_scan m
unfolding scan_more scan_turn size_scan
falls (scan true o waits steps) h = omega (arith, begin-size (begun o) waits steps, begun-less o h)
falls (scan false o [] steps) h = absurd (let z : ◌≡◌ {A = Bool} false true = h in let y : ◌≡◌ {A = ℕ} 0 1 = cc in let x : ⊥ = omega arith in x)
falls (scan false o (waiting s zero ∷ waits) steps) h = less-mark close-bracket o h
falls (scan false o (waiting s (suc n) ∷ waits) steps) h = less-mark space o h

-- the two laws of the loop
pub scan-more : (m : Scan) → scan_more m ≡ true → scan_all m ≡ scan_all (scan_turn m)
unfolding scan_all
scan-more m h = repeat-more scan_more scan_turn size_scan falls m h

pub scan-stop : (m : Scan) → scan_more m ≡ false → scan_all m ≡ m
unfolding scan_all
scan-stop m h = repeat-stop scan_more scan_turn size_scan m h

outcome-size : (m : Scan) → size (remaining (outcome m)) ≡ size_scan m
unfolding outcome remaining size_scan
outcome-size (scan due o waits steps) = refl

pub steps-size : (o : Rest) → size (remaining (expression_steps o)) ≤ size o
unfolding expression_steps scan_all size_scan
steps-size o =
    omega (arith, outcome-size (repeat scan_more scan_turn size_scan (scan true o [] [])), repeat-size scan_more scan_turn size_scan falls (scan true o [] []))

-- One turn at a time

module _ (waits : List Waiting) (steps : List (Step Place)) where
  pub turn-opened : (bs : List ℕ) (o : Rest) (w : Waiting) → begun (left bs) ≡ opened w o
      → scan_all (scan true (left bs) waits steps) ≡ scan_all (scan true o (w ∷ waits) steps)
  unfolding scan_turn begin scan_more found
  turn-opened bs o w e = scan-more (scan true (left bs) waits steps) refl ∙ rw e

  pub turn-whole : (bs : List ℕ) (o : Rest) (s : Step Place) → begun (left bs) ≡ whole s o
      → scan_all (scan true (left bs) waits steps) ≡ scan_all (scan false o waits (steps ++ (s ∷ [])))
  unfolding scan_turn begin scan_more found
  turn-whole bs o s e = scan-more (scan true (left bs) waits steps) refl ∙ rw e

  pub turn-space : (r : List ℕ) (s : Step Place) (n : ℕ)
      → scan_all (scan false (left r) (waiting s (suc n) ∷ waits) steps) ≡ scan_all (scan true (mark space (left r)) (waiting s n ∷ waits) steps)
  unfolding scan_turn scan_more found
  turn-space r s n = scan-more (scan false (left r) (waiting s (suc n) ∷ waits) steps) refl

  pub turn-close : (r : List ℕ) (s : Step Place)
      → scan_all (scan false (left r) (waiting s zero ∷ waits) steps) ≡ scan_all (scan false (mark close-bracket (left r)) waits (steps ++ (s ∷ [])))
  unfolding scan_turn scan_more found
  turn-close r s = scan-more (scan false (left r) (waiting s zero ∷ waits) steps) refl

-- How a printed expression begins

begun-written : (n : ℕ) (r : List ℕ) → Fits n → no_digit decimal r ≡ true → begun (left (write decimal n r)) ≡ whole (push n) (left r)
unfolding found
begun-written n r h k =
    begun-number (left (write decimal n r)) (ap found (mark-number open-bracket n r (λ e. omega arith)))
    ∙ rw (value-number n r (omega arith) k, past-number n r (omega arith) k)

begun-place : (p : Place) (r : List ℕ) → PlaceFits p → begun (left (print_place p r)) ≡ whole (load p) (left r)
unfolding reading print_place begun bracket whole_of own_place at_place val_place
begun-place (own K) r (own_fits h) = rw (word-ends _ _ _, number-reads _ _ h refl)
begun-place (at J K) r (at_fits h k) = rw (number-reads _ _ h refl, word-ends _ _ _, number-reads _ _ k refl)
begun-place (val J) r (val_fits h) = rw (number-reads _ _ h refl)

begun-operator : (o : Operator) (r : List ℕ) → begun (left (print_operator o r)) ≡ opened (waiting (operate o) 1) (left r)
unfolding reading print_operator begun bracket
begun-operator add r = refl
begun-operator sub r = refl
begun-operator min r = refl
begun-operator max r = refl

begun-pick : (r : List ℕ) → begun (left (literal "(pick " r)) ≡ opened (waiting select 2) (left r)
unfolding reading begun bracket
begun-pick r = refl

-- The steps of a printed expression

module _ (waits : List Waiting) where
  next-operand : (r : List ℕ) (s : Step Place) (n : ℕ) (steps : List (Step Place))
      → scan_all (scan false (left (32 ∷ r)) (waiting s (suc n) ∷ waits) steps) ≡ scan_all (scan true (left r) (waiting s n ∷ waits) steps)
  unfolding mark mark_in must class_of
  next-operand r s n steps = turn-space waits steps (32 ∷ r) s n

  last-operand : (r : List ℕ) (s : Step Place) (steps : List (Step Place))
      → scan_all (scan false (left (41 ∷ r)) (waiting s zero ∷ waits) steps) ≡ scan_all (scan false (left r) waits (steps ++ (s ∷ [])))
  unfolding mark mark_in must class_of
  last-operand r s steps = turn-close waits steps (41 ∷ r) s

pub steps-read : (e : Expr) (r : List ℕ) (waits : List Waiting) (steps : List (Step Place)) → ExpressionFits e → no_digit decimal r ≡ true
    → scan_all (scan true (left (print_expression e r)) waits steps) ≡ scan_all (scan false (left r) waits (steps ++ postfix e))
unfolding print_expression postfix literal bytes no_digit digit_of class_of
steps-read (number n) r waits steps (number_fits h) k = turn-whole waits steps (write decimal n r) (left r) (push n) (begun-written n r h k)
steps-read (leaf p) r waits steps (leaf_fits h) k = turn-whole waits steps (print_place p r) (left r) (load p) (begun-place p r h)
steps-read (both o x y) r waits steps (both_fits h₁ h₂) k =
    let r₂ : List ℕ = 41 ∷ r in
    let r₁ : List ℕ = 32 ∷ print_expression y r₂ in
    turn-opened waits steps (print_operator o (print_expression x r₁)) (left (print_expression x r₁)) (waiting (operate o) 1) (begun-operator o (print_expression x r₁))
    ∙ (steps-read x r₁ (waiting (operate o) 1 ∷ waits) steps h₁ refl
    ∙ (next-operand waits (print_expression y r₂) (operate o) 0 (steps ++ postfix x)
    ∙ (steps-read y r₂ (waiting (operate o) 0 ∷ waits) (steps ++ postfix x) h₂ refl
    ∙ (last-operand waits r (operate o) ((steps ++ postfix x) ++ postfix y)
    ∙ simp append_assoc))))
steps-read (pick c x y) r waits steps (pick_fits h₁ h₂ h₃) k =
    let r₃ : List ℕ = 41 ∷ r in
    let r₂ : List ℕ = 32 ∷ print_expression y r₃ in
    let r₁ : List ℕ = 32 ∷ print_expression x r₂ in
    turn-opened waits steps (literal "(pick " (print_expression c r₁)) (left (print_expression c r₁)) (waiting select 2) (begun-pick (print_expression c r₁))
    ∙ (steps-read c r₁ (waiting select 2 ∷ waits) steps h₁ refl
    ∙ (next-operand waits (print_expression x r₂) select 1 (steps ++ postfix c)
    ∙ (steps-read x r₂ (waiting select 1 ∷ waits) (steps ++ postfix c) h₂ refl
    ∙ (next-operand waits (print_expression y r₃) select 0 ((steps ++ postfix c) ++ postfix x)
    ∙ (steps-read y r₃ (waiting select 0 ∷ waits) ((steps ++ postfix c) ++ postfix x) h₃ refl
    ∙ (last-operand waits r select (((steps ++ postfix c) ++ postfix x) ++ postfix y)
    ∙ simp append_assoc))))))

pub expression-steps : (e : Expr) (r : List ℕ) → ExpressionFits e → no_digit decimal r ≡ true
    → expression_steps (left (print_expression e r)) ≡ parsed (postfix e) (left r)
unfolding expression_steps outcome scan_more
expression-steps e r h k = ap outcome (steps-read e r [] [] h k ∙ scan-stop (scan false (left r) [] (postfix e)) refl)

pub expression-reads : (e : Expr) (r : List ℕ) → ExpressionFits e → no_digit decimal r ≡ true → expression (left (print_expression e r)) ≡ parsed e (left r)
unfolding expression result remaining
expression-reads e r h k = rw (expression-steps e r h k, term-postfix e)

pub expression-size : (o : Rest) → size (remaining (expression o)) ≤ size o
unfolding expression remaining
expression-size o = steps-size o
