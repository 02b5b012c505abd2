-- Laws of sections: over any reader of one element that is the inverse of a printer, reading a section is the inverse of printing its elements.
-- Assumes nothing.
use Prim.Native.Nat.{ℕ, zero, suc, ◌≤◌, ◌<◌}
use Rattle.std.specs.Prelude.{◌≡◌, Bool}
use Rattle.std.proofs.Math.Path.{refl, sym, ap}
use Rattle.std.proofs.Common.{◌∙◌}
use Rattle.std.proofs.Math.Bool.{true, false}
use mathlib.Core.List.{List, [], ◌∷◌}
use native.Mathlib.Omega.{arith}
use Rattle.text.specs.Rest.{Rest, lost, left, found, size}
use Rattle.text.proofs.RestLaws.{lost≢left, left_is}
use Rattle.grammar.specs.Format.Printer.{Printer}
use Rattle.grammar.specs.Format.Reader.{Parsed, parsed, result, remaining, Reader, many, section}

-- each element fits the state in which it is met
pub data Along {A S : Type 0} (Fine : S → A → Type 0) (next : S → A → S) : S → List A → Type 0 where
  along-[] : {s : S} → Along Fine next s []
  along-∷ : {s : S} {x : A} {xs : List A} → Fine s x → Along Fine next (next s x) xs → Along Fine next s (x ∷ xs)

-- x, which fits, stands in front of r
pub record Stands {A : Type 0} (print : A → Printer) (Fine : A → Type 0) (bs : List ℕ) (x : A) (r : List ℕ) : Type 0 where
  pub text : bs ≡ print x r
  pub fine : Fine x

-- A reader of one element, after its head, that is the inverse of a printer; Ends says what may stand after an element
pub record Inverse {A S : Type 0} (head : Rest → Rest) (one : S → Reader A) (print : S → A → Printer) (Fine : S → A → Type 0) (Ends : List ℕ → Type 0) : Type 0 where
  pub head_less : (o : Rest) → found (head o) ≡ true → size (head o) < size o
  pub one_less : (s : S) (o : Rest) → size (remaining (one s o)) ≤ size o
  pub begins : (s : S) (x : A) (r : List ℕ) → found (head (left (print s x r))) ≡ true
  pub reads : (s : S) (x : A) (r : List ℕ) → Fine s x → Ends r → one s (head (left (print s x r))) ≡ parsed x (left r)
  pub ends : (s : S) (x : A) (r : List ℕ) → Ends (print s x r)
  pub was : (s : S) (bs r : List ℕ) → remaining (one s (head (left bs))) ≡ left r
      → Stands (print s) (Fine s) bs (result (one s (head (left bs)))) r

-- the elements printed one after another
pub record Prints {A S : Type 0} (next : S → A → S) (print : S → A → Printer) (prints : S → List A → Printer) : Type 0 where
  pub prints-[] : (s : S) (r : List ℕ) → prints s [] r ≡ r
  pub prints-∷ : (s : S) (x : A) (xs : List A) (r : List ℕ) → prints s (x ∷ xs) r ≡ print s x (prints (next s x) xs r)

-- Fuel

module _ {A S : Type 0} (head : Rest → Rest) (one : S → Reader A) (next : S → A → S) where
  many-stop : (f : ℕ) (s : S) (o : Rest) → found (head o) ≡ false → many head one next f s o ≡ parsed [] o
  unfolding many
  many-stop zero s o h = refl
  many-stop (suc f) s o h = rw (h, many)

  -- the two laws of the loop: it ends where no head is found, and otherwise reads one element
  pub section-stop : (s : S) (o : Rest) → found (head o) ≡ false → section head one next s o ≡ parsed [] o
  unfolding section
  section-stop s o h = many-stop (size o) s o h

  many_more : (f : ℕ) (s : S) (o : Rest) {x : A} {o₁ : Rest} → found (head o) ≡ true → one s (head o) ≡ parsed x o₁
      → many head one next (suc f) s o ≡ parsed (x ∷ result (many head one next f (next s x) o₁)) (remaining (many head one next f (next s x) o₁))
  unfolding many result remaining
  many_more f s o h e = rw (h, many) (rw e)

  module _ (head_less : (o : Rest) → found (head o) ≡ true → size (head o) < size o) (one_less : (s : S) (o : Rest) → size (remaining (one s o)) ≤ size o) where
    turn-less : (s : S) (o : Rest) {x : A} {o₁ : Rest} → found (head o) ≡ true → one s (head o) ≡ parsed x o₁ → size o₁ < size o
    unfolding remaining
    turn-less s o {x} {o₁} h e = omega (arith, head_less o h, one_less s (head o), ap (λ p. size (remaining p)) e)

    enough : (f g : ℕ) (s : S) (o : Rest) → size o ≤ f → size o ≤ g → many head one next f s o ≡ many head one next g s o
    enough zero g s o h k = go (found (head o)) refl
      where
        go : (t : Bool) → found (head o) ≡ t → many head one next zero s o ≡ many head one next g s o
        go false e = many-stop zero s o e ∙ sym (many-stop g s o e)
        go true e = absurd (let z : ⊥ = omega (arith, head_less o e) in z)
    enough (suc f) zero s o h k = go (found (head o)) refl
      where
        go : (t : Bool) → found (head o) ≡ t → many head one next (suc f) s o ≡ many head one next zero s o
        go false e = many-stop (suc f) s o e ∙ sym (many-stop zero s o e)
        go true e = absurd (let z : ⊥ = omega (arith, head_less o e) in z)
    enough (suc f) (suc g) s o h k = go (found (head o)) (one s (head o)) refl refl (enough f g)
      where
        go : (t : Bool) (p : Parsed A) → found (head o) ≡ t → one s (head o) ≡ p
            → ((s : S) (o : Rest) → size o ≤ f → size o ≤ g → many head one next f s o ≡ many head one next g s o)
            → many head one next (suc f) s o ≡ many head one next (suc g) s o
        go false p e q ih = many-stop (suc f) s o e ∙ sym (many-stop (suc g) s o e)
        go true (parsed x o₁) e q ih =
            many_more f s o e q
            ∙ (ap (λ p. parsed (x ∷ result p) (remaining p)) (ih (next s x) o₁ (omega (arith, turn-less s o e q)) (omega (arith, turn-less s o e q)))
            ∙ sym (many_more g s o e q))

    first : (f : ℕ) (s : S) (o : Rest) {x : A} {o₁ : Rest} → size o ≡ f → found (head o) ≡ true → one s (head o) ≡ parsed x o₁
        → many head one next f s o ≡ parsed (x ∷ result (many head one next (size o₁) (next s x) o₁)) (remaining (many head one next (size o₁) (next s x) o₁))
    first zero s o z h e = absurd (let z : ⊥ = omega (arith, head_less o h) in z)
    first (suc f) s o {x} {o₁} z h e =
        many_more f s o h e
        ∙ ap (λ p. parsed (x ∷ result p) (remaining p)) (enough f (size o₁) (next s x) o₁ (omega (arith, turn-less s o h e)) (omega arith))

    pub section-more : (s : S) (o : Rest) {x : A} {o₁ : Rest} → found (head o) ≡ true → one s (head o) ≡ parsed x o₁
        → section head one next s o ≡ parsed (x ∷ result (section head one next (next s x) o₁)) (remaining (section head one next (next s x) o₁))
    unfolding section
    section-more s o h e = first (size o) s o refl h e

    many-size : (f : ℕ) (s : S) (o : Rest) → size (remaining (many head one next f s o)) ≤ size o
    unfolding remaining
    many-size zero s o = unfold many in omega arith
    many-size (suc f) s o = go (found (head o)) (one s (head o)) refl refl (many-size f)
      where
        go : (t : Bool) (p : Parsed A) → found (head o) ≡ t → one s (head o) ≡ p
            → ((s : S) (o : Rest) → size (remaining (many head one next f s o)) ≤ size o) → size (remaining (many head one next (suc f) s o)) ≤ size o
        go false p e q ih = rw (many-stop (suc f) s o e) (omega arith)
        go true (parsed x o₁) e q ih = rw (many_more f s o e q) (omega (arith, turn-less s o e q, ih (next s x) o₁))

    pub section-size : (s : S) (o : Rest) → size (remaining (section head one next s o)) ≤ size o
    unfolding section
    section-size s o = many-size (size o) s o

-- Reading a section is the inverse of printing it

module _ {A S : Type 0} (head : Rest → Rest) (one : S → Reader A) (next : S → A → S) (print : S → A → Printer) (Fine : S → A → Type 0)
    (Ends : List ℕ → Type 0) (prints : S → List A → Printer) (I : Inverse head one print Fine Ends) (L : Prints next print prints) where
  prints-end : (s : S) (xs : List A) (r : List ℕ) → Ends r → Ends (prints s xs r)
  prints-end s [] r h = rw (L.prints-[] s r) h
  prints-end s (x ∷ xs) r h = rw (L.prints-∷ s x xs r) (I.ends s x (prints (next s x) xs r))

  pub section-reads : (s : S) (xs : List A) (r : List ℕ) → Along Fine next s xs → Ends r → found (head (left r)) ≡ false
      → section head one next s (left (prints s xs r)) ≡ parsed xs (left r)
  unfolding result remaining
  section-reads s [] r along-[] h e = rw (L.prints-[] s r) (section-stop head one next s (left r) e)
  section-reads s (x ∷ xs) r (along-∷ fine more) h e =
      let rest : List ℕ = prints (next s x) xs r in
      let read = I.reads s x rest fine (prints-end (next s x) xs r h) in
      rw (L.prints-∷ s x xs r)
      (section-more head one next I.head_less I.one_less s (left (print s x rest)) (I.begins s x rest) read
      ∙ ap (λ p. parsed (x ∷ result p) (remaining p)) (section-reads (next s x) xs r more h e))

  stood : (s : S) (bs r : List ℕ) (xs : List A) (p : Parsed (List A)) → p ≡ parsed xs (left r) → bs ≡ prints s xs r → Along Fine next s xs
      → Stands (prints s) (Along Fine next s) bs (result p) r
  unfolding result
  stood s bs r xs p e text fine = rw e (record { text = text; fine = fine })

  lost-ends : (s : S) → remaining (section head one next s lost) ≡ lost
  unfolding remaining size
  lost-ends s = go (found (head lost)) refl
    where
      go : (t : Bool) → found (head lost) ≡ t → remaining (section head one next s lost) ≡ lost
      go true e = absurd (let z : ⊥ = omega (arith, I.head_less lost e) in z)
      go false e = ap remaining (section-stop head one next s lost e)

  was-by : (f : ℕ) (s : S) (bs r : List ℕ) → size (left bs) ≤ f → remaining (section head one next s (left bs)) ≡ left r
      → Stands (prints s) (Along Fine next s) bs (result (section head one next s (left bs))) r
  unfolding result remaining
  was-by zero s bs r l e = absurd (unfold size in let z : ⊥ = omega arith in z)
  was-by (suc f) s bs r l e = go (found (head (left bs))) (one s (head (left bs))) refl refl (was-by f)
    where
      go : (t : Bool) (p : Parsed A) → found (head (left bs)) ≡ t → one s (head (left bs)) ≡ p
          → ((s : S) (bs r : List ℕ) → size (left bs) ≤ f → remaining (section head one next s (left bs)) ≡ left r
          → Stands (prints s) (Along Fine next s) bs (result (section head one next s (left bs))) r)
          → Stands (prints s) (Along Fine next s) bs (result (section head one next s (left bs))) r
      go false p h q ih =
          let z = section-stop head one next s (left bs) h in
          let y : left bs ≡ left r = sym (ap remaining z) ∙ e in
          stood s bs r [] _ (z ∙ ap (parsed []) y) (left_is y ∙ sym (L.prints-[] s r)) along-[]
      go true (parsed x lost) h q ih =
          let z = section-more head one next I.head_less I.one_less s (left bs) h q in
          absurd (lost≢left (sym (lost-ends (next s x)) ∙ (sym (ap remaining z) ∙ e)))
      go true (parsed x (left r₁)) h q ih =
          let z = section-more head one next I.head_less I.one_less s (left bs) h q in
          let e₁ : remaining (section head one next (next s x) (left r₁)) ≡ left r = sym (ap remaining z) ∙ e in
          let u : size (left r₁) < size (left bs) = turn-less head one next I.head_less I.one_less s (left bs) h q in
          let w = ih (next s x) r₁ r (omega arith) e₁ in
          let v : Stands (print s) (Fine s) bs x r₁ = rw q at (I.was s bs r₁ (ap remaining q)) in
          let xs : List A = result (section head one next (next s x) (left r₁)) in
          stood s bs r (x ∷ xs) _ (z ∙ ap (parsed (x ∷ xs)) e₁) (v.text ∙ (ap (print s x) w.text ∙ sym (L.prints-∷ s x xs r))) (along-∷ v.fine w.fine)

  -- what a section read was printed
  pub section-was : {C : Type 0} {r : List ℕ} (s : S) (o : Rest) → remaining (section head one next s o) ≡ left r
      → (o ≡ left (prints s (result (section head one next s o)) r) → Along Fine next s (result (section head one next s o)) → C) → C
  section-was s lost e k = absurd (lost≢left (sym (lost-ends s) ∙ e))
  section-was {r = r} s (left bs) e k =
      let w = was-by (size (left bs)) s bs r (omega arith) e in
      k (ap left w.text) w.fine
