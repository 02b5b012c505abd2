-- How the one-formula check by definitions goes on: what a visit can do, that it changes nothing or gets further, that what stands stays, and that a
-- definition's formula does not change once it is due. Assumes nothing.
use Prim.Native.Nat.{ℕ, zero, suc, ◌≤◌, ◌<◌, ◌^◌}
use native.Mathlib.Omega.{arith}
use Rattle.std.proofs.Math.Decide.{ℕ_discrete}
use Rattle.std.specs.Prelude.{◌≡◌, ◌≢◌, ◌⊎◌, Bool, List, [], ◌∷◌, length, set, replicate}
use Rattle.std.proofs.Math.Path.{refl, ap, sym}
use Rattle.std.proofs.Common.{◌∙◌, get_or-set_same, get_or-set_other}
use Rattle.std.proofs.Math.Logic.{inl, inr}
use Rattle.std.proofs.Math.Bool.{true, false}
use Rattle.std.proofs.Math.Option.{Option, none, some}
use Rattle.std.proofs.Math.ListN.{get_or, length-set}
use Rattle.std.proofs.lemmas.List.{length-replicate}
use Rattle.grammar.specs.Limits.{MAX_INHERITED, MAX_DEFINITIONS}
use Rattle.grammar.specs.Conditions.Decides.{Decides, then-decides}
use Rattle.grammar.specs.Automaton.TestLaws.{by-test, true-false}
use Rattle.grammar.specs.Data.Symbol.{left_of}
use Rattle.grammar.specs.Data.Term.{replace}
use Rattle.grammar.specs.Data.TermLaws.{replace-same}
use Rattle.grammar.specs.Data.Book.{Place, own, at, val, InheritedDefinition, Book, inherited_owner}
use Rattle.grammar.specs.Conditions.MeaningLaws.{Reads}
use Rattle.grammar.specs.Formulas.Formula.{Formula, becomes, gives}
use Rattle.grammar.specs.Formulas.Slots.{Slots, slot_at, standing, own_at, same_formula, attributes, ready}
use Rattle.grammar.specs.Formulas.SameFormula.{same-formula}
use Rattle.grammar.specs.Formulas.SlotsFill.{Filled, Each}
use Rattle.grammar.proofs.Formulas.SlotsTests.{settled_below-decides}
use Rattle.grammar.specs.Formulas.ChainReady.{Ready}
use Rattle.grammar.specs.Formulas.Passes.{Larger, Keeps, Growing}
use Rattle.grammar.specs.Formulas.FormulaCheck.{dot_of, Progress, progress, split, done_in, advance, fresh, enter, formula_of, definitions, line_at, due, visit}
use Rattle.grammar.specs.Formulas.DefinitionPremises.{LineRight}

-- a test decides that it holds
pub holds-decides : {t : Bool} → Decides t (t ≡ true)
holds-decides = record { sound = λ e. e; complete = λ e. e }

-- ---------------------------------------------------------------- definitions that are done

pub done_more : (done : List Bool) (d : ℕ) → get_or done d true ≡ false → done_in (set done d true) ≡ suc (done_in done)
unfolding done_in
done_more [] d e = absurd (let z : ◌≡◌ {A = ℕ} 0 1 = cc in omega arith)
done_more (true ∷ done) zero e = absurd (let z : ◌≡◌ {A = ℕ} 0 1 = cc in omega arith)
done_more (false ∷ done) zero e = refl
done_more (true ∷ done) (suc d) e = ap suc (done_more done d e)
done_more (false ∷ done) (suc d) e = done_more done d e

pub done-length : (done : List Bool) → done_in done ≤ length done
unfolding done_in
done-length [] = omega arith
done-length (true ∷ done) = let h = done-length done in omega arith
done-length (false ∷ done) = let h = done-length done in omega arith

-- one more is done, that of place d
pub done-either : (done : List Bool) (d e : ℕ) → get_or (set done d true) e true ≡ true → (e ≡ d) ⊎ (get_or done e true ≡ true)
done-either done d e h = by (ℕ_discrete e d)
  where
    by : Dec (e ≡ d) → (e ≡ d) ⊎ (get_or done e true ≡ true)
    by (yes p) = inl p
    by (no n) = inr (sym (get_or-set_other done d e true true n) ∙ h)

pub none_done : (n e : ℕ) → e < n → get_or (replicate n false) e true ≡ true → ⊥
none_done zero e l h = elim l [ ]
none_done (suc n) zero l h = let z : ◌≡◌ {A = ℕ} 0 1 = cc in omega arith
none_done (suc n) (suc e) l h = none_done n e (omega arith) h

-- ---------------------------------------------------------------- formulas that stand

-- what stands in the one stands in the other
abbrev pub Within : Slots → Slots → Type 0
Within slots other = Each (λ K f. slot_at other K ≡ some f) slots

pub none-stands : (n : ℕ) (other : Slots) → Within (replicate n none) other
none-stands zero other K f e = absurd (let z : ◌≡◌ {A = ℕ} 0 1 = cc in omega arith)
none-stands (suc n) other zero f e = absurd (let z : ◌≡◌ {A = ℕ} 0 1 = cc in omega arith)
none-stands (suc n) other (suc K) f e = absurd (nothing n K e)
  where
    nothing : (n K : ℕ) → slot_at (replicate n none) K ≡ some f → ⊥
    nothing zero K e = let z : ◌≡◌ {A = ℕ} 0 1 = cc in omega arith
    nothing (suc n) zero e = let z : ◌≡◌ {A = ℕ} 0 1 = cc in omega arith
    nothing (suc n) (suc K) e = nothing n K e

-- an empty slot that takes a formula changes no other
pub set-within : (slots : Slots) (K : ℕ) (f : Formula) → slot_at slots K ≡ none → Within slots (set slots K (some f))
set-within slots K f e J g h = get_or-set_other slots K J (some f) none differ ∙ h
  where
    differ : J ≢ K
    differ p = let here = rw p at h in let z : ◌≡◌ {A = ℕ} 0 1 = cc in omega arith

pub set-each : (R : ℕ → Formula → Type 0) (slots : Slots) (K : ℕ) (f : Formula) → K < length slots → Each R slots → R K f → Each R (set slots K (some f))
set-each R slots K f l each r J g h = by (ℕ_discrete J K)
  where
    by : Dec (J ≡ K) → R J g
    by (yes p) =
        let there = get_or-set_same slots K (some f) none l in
        let here = rw p at h in
        let same : f ≡ g = cc in
        rw (p, ← same) r
    by (no n) = each J g (sym (get_or-set_other slots K J (some f) none n) ∙ h)

-- ---------------------------------------------------------------- a visit, by cases

-- the slot takes the formula, or has it already, or has another
pub enter-by : (Q : Progress → Type 0) (slots : Slots) (done : List Bool) (K : ℕ) (f : Formula)
    → (slot_at slots K ≡ none → Q (progress (set slots K (some f)) done)) → (slot_at slots K ≡ some f → Q (progress slots done))
    → ((g : Formula) → slot_at slots K ≡ some g → g ≢ f → Q split) → Q (enter slots done K f)
unfolding enter
enter-by Q slots done K f new old other = by (slot_at slots K) refl
  where
    by : (x : Option Formula) → slot_at slots K ≡ x
        → Q (elim x [ none ↦ progress (set slots K (some f)) done | some g ↦ elim (same_formula g f) [ true ↦ progress slots done | false ↦ split ] ])
    by none e = new e
    by (some g) e =
        by-test (same_formula g f) (progress slots done) split Q (λ t. old (e ∙ ap some ((same-formula g f).sound t)))
        (λ t. other g e λ p. true-false ((same-formula g f).complete p) t)

module _ (b : Book) (member : ℕ → ℕ → Bool) where
  -- it is due if its item is in the partial state and does not wait
  pub due-decides : (slots : Slots) (line : InheritedDefinition)
      → Decides (due b member slots line) ((member line.rule (dot_of line) ≡ true) × (ready b slots line.rule (dot_of line) ≡ true))
  unfolding due
  due-decides slots line = then-decides holds-decides holds-decides

  -- nothing happens, or the definition of the place gives its formula
  pub visit-by : (Q : Progress → Type 0) (d : ℕ) (slots : Slots) (done : List Bool) → Q (progress slots done)
      → (get_or done d true ≡ false → due b member slots (line_at b d) ≡ true
      → Q (enter slots (set done d true) (line_at b d).attribute (formula_of slots (line_at b d))))
      → Q (visit b member d (progress slots done))
  unfolding visit
  visit-by Q d slots done nothing gives =
      by-test (get_or done d true) _ _ Q (λ e. nothing) (λ e. by-test (due b member slots (line_at b d)) _ _ Q (gives e) (λ h. nothing))

-- ---------------------------------------------------------------- a visit gets further, or changes nothing

-- lists of the limits' lengths
abbrev pub Long : Progress → Type 0
Long (progress slots done) = (length slots ≡ MAX_INHERITED) × (length done ≡ MAX_DEFINITIONS)
Long split = Unit {0}

pub fresh-long : Long fresh
fresh-long = (length-replicate {A = Option Formula} MAX_INHERITED none, length-replicate MAX_DEFINITIONS false)

enter-advances : (slots : Slots) (done : List Bool) (d K : ℕ) (f : Formula) → length done ≡ MAX_DEFINITIONS → get_or done d true ≡ false
    → done_in done < advance (enter slots (set done d true) K f)
unfolding advance
enter-advances slots done d K f l e =
    let more = done_more done d e in
    let most = done-length done in
    enter-by (λ t. done_in done < advance t) slots (set done d true) K f (λ h. omega arith) (λ h. omega arith) (λ g h n. omega arith)

module _ (b : Book) (member : ℕ → ℕ → Bool) where
  visit-long : Keeps (visit b member) Long (definitions b)
  unfolding visit
  visit-long d l split long = tt
  visit-long d l (progress slots done) (s, m) =
      visit-by b member Long d slots done (s, m) λ e h.
      let marked = length-set done d true ∙ m in
      enter-by Long slots (set done d true) _ _ (λ p. (length-set slots _ _ ∙ s, marked)) (λ p. (s, marked)) (λ g p n. tt)

  visit-grows : (d : ℕ) → d < definitions b → (s : Progress) → Long s → Larger advance s (visit b member d s)
  unfolding visit
  visit-grows d l split long = inl refl
  visit-grows d l (progress slots done) (s, m) =
      visit-by b member (Larger advance (progress slots done)) d slots done (inl refl) λ e h. inr (unfold advance in enter-advances slots done d _ _ m e)

  advance-bound : (s : Progress) → Long s → advance s ≤ 2 ^ 40
  unfolding advance
  advance-bound split long = omega arith
  advance-bound (progress slots done) (s, m) = let most = done-length done in omega arith

  pub growing : Growing (visit b member) (definitions b) Long advance
  growing = record { keeps = visit-long; grows = visit-grows; below = advance-bound }

  -- where a visit changes nothing, the definition is done if it is due
  pub visit-done : (d : ℕ) (slots : Slots) (done : List Bool) → length done ≡ MAX_DEFINITIONS → visit b member d (progress slots done) ≡ progress slots done
      → due b member slots (line_at b d) ≡ true → get_or done d true ≡ true
  unfolding visit advance
  visit-done d slots done m still h = by (get_or done d true) refl
    where
      by : (t : Bool) → get_or done d true ≡ t → get_or done d true ≡ true
      by true e = e
      by false e =
          let asked = rw (e, visit) at still in
          let entered : enter slots (set done d true) (line_at b d).attribute (formula_of slots (line_at b d)) ≡ progress slots done = rw h at asked in
          let more = enter-advances slots done d (line_at b d).attribute (formula_of slots (line_at b d)) m e in
          let same = ap advance entered in
          absurd (omega arith)

-- ---------------------------------------------------------------- what a definition gives

module _ (b : Book) where
  -- an item whose left side is filled, or whose dot is not in front, does not wait
  pub ready-filled : (slots : Slots) (P D : ℕ) → Ready b (λ K. Filled (slot_at slots K)) P D → ready b slots P D ≡ true
  unfolding ready
  ready-filled slots P zero h = (settled_below-decides _ slots _ _).complete (h refl)
  ready-filled slots P (suc D) h = refl

  -- what an item waits for stays
  pub ready-within : (slots other : Slots) (P D : ℕ) → Within slots other → ready b slots P D ≡ true → ready b other P D ≡ true
  unfolding ready
  ready-within slots other P zero within r = (settled_below-decides _ other _ _).complete λ K l o.
      let (f, e) = (settled_below-decides b.inherited_owners slots (left_of b.rules P) (attributes b)).sound r K l o in
      (f, within K f e)
  ready-within slots other P (suc D) within r = refl

  own-within : (slots other : Slots) (P D K : ℕ) → Within slots other → ready b slots P D ≡ true → K < attributes b → inherited_owner b K ≡ left_of b.rules P
      → own_at slots D K ≡ own_at other D K
  unfolding ready own_at
  own-within slots other P zero K within r l o =
      let (f, e) = (settled_below-decides b.inherited_owners slots (left_of b.rules P) (attributes b)).sound r K l o in
      ap standing (e ∙ sym (within K f e))
  own-within slots other P (suc D) K within r l o = refl

  -- a definition whose item does not wait gives the same formula later on
  pub formula-within : (slots other : Slots) {line : InheritedDefinition} → LineRight b line → Within slots other
      → ready b slots line.rule (dot_of line) ≡ true → formula_of slots line ≡ formula_of other line
  unfolding formula_of becomes
  formula-within slots other {line} right within r = replace-same right.leaves_read _ _ leaves
    where
      leaves : (place : Place) → Reads b line.rule line.position place
          → becomes (dot_of line) (own_at slots (dot_of line)) place ≡ becomes (dot_of line) (own_at other (dot_of line)) place
      leaves (own K) (l, o) = own-within slots other line.rule (dot_of line) K within r l o
      leaves (at J K) h = refl
      leaves (val J) h = refl

  -- it is what its item gives
  pub line_gives : (slots : Slots) {line : InheritedDefinition} → LineRight b line
      → formula_of slots line ≡ gives b line.rule (dot_of line) (own_at slots (dot_of line)) line.attribute
  unfolding formula_of gives
  line_gives slots {line} right = ap (λ e. replace e (becomes (dot_of line) (own_at slots (dot_of line)))) (sym right.expression_is)
