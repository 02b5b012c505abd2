-- Laws of a visit of the one-formula check: what is done or not due is passed over, and any other definition gives its formula. Assumes nothing.
use Prim.Native.Nat.{ℕ, suc, ◌+◌, ◌*◌, ◌-◌, ◌^◌, ◌/◌, ◌<◌, ◌≤◌}
use Rattle.std.specs.Prelude.{◌≡◌, Bool, not, ◌⊎◌, Some, List, [], ◌∷◌, length, set}
use Rattle.std.proofs.Math.Path.{refl, sym}
use Rattle.std.proofs.Common.{ap, ◌∙◌, inl, inr, add-one, arith, length-set, get_or-set_same, get_or-set_other}
use Rattle.std.proofs.lemmas.Bool.{not-true, not-false}
use Rattle.std.proofs.Math.Bool.{true, false}
use Rattle.std.proofs.Math.Decide.{ℕ_discrete}
use Rattle.std.proofs.Math.ListN.{get_or}
use Rattle.grammar.specs.Limits.{MAX_DEFINITIONS, MAX_NODES}
use Rattle.grammar.specs.Data.Book.{Book}
use Rattle.grammar.specs.Formulas.Formula.{Formula}
use Rattle.grammar.specs.Formulas.Slots.{Slots, own_at}
use Rattle.grammar.specs.Formulas.FormulaCheck as grammar
use Rattle.grammar.specs.Formulas.FormulaCheck.{progress, dot_of, done_in, enter, formula_of, line_at, due, visit}
use Rattle.grammar.proofs.Formulas.FormulaCheckSteps.{done_more, done-length, done-either}
use Rattle.formulas.specs.Meaning.{Means, means}
use Rattle.formulas.specs.Formulas.{Asked, Formed}
use Rattle.formulas.specs.Steps.{inherited-in}
use Rattle.attributes.specs.Checking.{member_in, CheckHeld}
use Rattle.attributes.specs.CheckingLaws.{position-word, attribute-word}
use Rattle.agreement.specs.declared.check.Progress.{Progress}
use Rattle.agreement.specs.SlotsHeld.{slots_kept, reads-item}
use Rattle.agreement.specs.Progress.{mark_of, ProgressIn, Reached, going}

means-low : {table : List ℕ} {used i : ℕ} {f : Formula} → Means table used i f → i < used
means-low (means h r b) = h

marked : (t : Bool) → (mark_of t ≡ 0 → ⊥) → t ≡ true
marked true n = refl
marked false n = absurd (n refl)

unmarked : (t : Bool) → mark_of t ≡ 0 → t ≡ false
unmarked true e = absurd (let z : ◌≡◌ {A = ℕ} 1 0 = e in omega arith)
unmarked false e = refl

-- where the definitions that are done are below n, these are at most n
done_below : (done : List Bool) (n : ℕ) → ((d : ℕ) → d < length done → get_or done d true ≡ true → d < n) → done_in done ≤ n
unfolding done_in
done_below [] n h = omega arith
done_below (true ∷ done) n h =
    let first : 0 < n = h 0 (omega arith) refl in
    let rest = done_below done (n - 1) (λ d l e. let z : suc d < n = h (suc d) (omega arith) e in omega arith) in
    omega arith
done_below (false ∷ done) n h = done_below done n (λ d l e. let z : suc d < n = h (suc d) (omega arith) e in omega arith)

module _ {b : Book} {definitions rules owned masks : List ℕ} (H : CheckHeld b definitions rules owned masks) {d : ℕ} (l : d < grammar.definitions b)
    {slots : Slots} {done : List Bool} {words marks table heads nexts : List ℕ} {p : Progress}
    (R : ProgressIn slots done words marks table heads nexts p) where
  pub line_low : d < 128
  line_low = omega (arith, l, H.premises.definitions_limit)

  -- a definition that is done, or not due, is passed over
  pub visit-done : (get_or marks d 0 ≡ 0 → ⊥) → (a : ℕ)
      → Reached words marks table heads nexts (Some p) (visit b (member_in masks a) d (progress slots done))
  unfolding visit
  visit-done n a = rw (visit, marked (get_or done d true) (λ e. n (R.mark_is d line_low ∙ e))) (going R)

  pub visit-undue : (a : ℕ) {t : Bool} → t ≡ due b (member_in masks a) slots (line_at b d) → not t ≡ true
      → Reached words marks table heads nexts (Some p) (visit b (member_in masks a) d (progress slots done))
  unfolding visit
  visit-undue a {t} e f = by (get_or done d true) refl
    where
      by : (u : Bool) → get_or done d true ≡ u → Reached words marks table heads nexts (Some p) (visit b (member_in masks a) d (progress slots done))
      by true q = rw (visit, q) (going R)
      by false q = rw (visit, q, sym e ∙ not-true _ f) (going R)

  -- any other gives its formula
  module _ (mark : get_or marks d 0 ≡ 0) where
    open-line : get_or done d true ≡ false
    open-line = unmarked (get_or done d true) (sym (R.mark_is d line_low) ∙ mark)

    pub visit-enters : (a : ℕ) {t : Bool} → t ≡ due b (member_in masks a) slots (line_at b d) → not t ≡ false
        → visit b (member_in masks a) d (progress slots done)
        ≡ enter slots (set done d true) (get_or definitions (49 * d + 2) 0) (formula_of slots (line_at b d))
    unfolding visit
    visit-enters a e f = rw (visit, open-line, sym e ∙ not-false _ f, attribute-word H l)

    -- one definition more is done
    pub more-done : done_in (set done d true) ≡ p.count + 1
    more-done = done_more done d open-line ∙ sym (add-one (done_in done)) ∙ ap (λ (n : ℕ). n + 1) (sym R.count_is)

    pub count_low : p.count < 128
    count_low = omega (arith, more-done, done-length (set done d true), length-set done d true, R.long.1)

    -- there is room for the formulas of the definitions up to this one
    module _ (enough : MAX_NODES * suc d ≤ length nexts) where
      within_more : (i : ℕ) → i < MAX_DEFINITIONS → get_or (set done d true) i true ≡ true → MAX_NODES * suc i ≤ length nexts
      within_more i h e = by (done-either done d i e)
        where
          by : (i ≡ d) ⊎ (get_or done i true ≡ true) → MAX_NODES * suc i ≤ length nexts
          by (inl e) = rw e enough
          by (inr q) = R.within i h q

      count_room : MAX_NODES * (p.count + 1) ≤ length nexts
      count_room =
          let low : done_in (set done d true) ≤ length nexts / MAX_NODES =
          done_below (set done d true) (length nexts / MAX_NODES)
          (λ i h e. let z = within_more i (omega (arith, length-set done d true, R.long.1)) e in omega arith) in
          omega (arith, more-done)

      pub asked-line : {dot : ℕ} → dot ≡ get_or definitions (49 * d + 1) 0 - 1
          → Asked definitions d dot words table p.used (line_at b d).expression (own_at slots (dot_of (line_at b d)))
      asked-line {dot} e =
          let is : dot ≡ dot_of (line_at b d) = omega (arith, position-word H l) in
          let next : (line_at b d).position ≡ suc (dot_of (line_at b d)) = omega (arith, (H.line_in d l).position_low) in
          let few = (H.line_in d l).few_nodes in
          let leaves = rw next at (H.premises.line_right d l).leaves_read in
          rw is (record {
            stands = inherited-in H.definitions_in d l few;
            reads = reads-item R.slots-in b (line_at b d).rule (dot_of (line_at b d))
                (omega (arith, H.premises.attributes_limit, R.words_long)) leaves;
            room = omega (arith, R.few, count_room, R.table_in.table_long, few);
          })

      module _ {dot : ℕ} (e : dot ≡ get_or definitions (49 * d + 1) 0 - 1) {new heads' nexts' : List ℕ} {number more : ℕ}
          (F : Formed dot (line_at b d).expression (own_at slots (dot_of (line_at b d))) table p.used new heads' nexts' number more) where
        pub formed-means : Means new more number (formula_of slots (line_at b d))
        unfolding formula_of
        formed-means = let is : dot ≡ dot_of (line_at b d) = omega (arith, position-word H l) in rw is at F.means

        pub formed-low : number + 1 < 2 ^ 32
        formed-low = omega (arith, means-low formed-means, F.table.room, F.table.nexts_low)

        same-room : length nexts' ≡ length nexts
        same-room = omega (arith, F.grown.long, F.table.table_long, R.table_in.table_long)

        pub formed-room : (length new ≡ length table) × (length heads' ≡ length heads) × (length nexts' ≡ length nexts)
        formed-room = (F.grown.long, omega (arith, F.table.heads_long, R.table_in.heads_long), same-room)

        pub formed-progress : ProgressIn slots (set done d true) words (set marks d 1) new heads' nexts' (record p { used = more; count = p.count + 1 })
        formed-progress = record {
          table_in = F.table;
          long = (R.long.0, length-set done d true ∙ R.long.1);
          words_long = R.words_long;
          marks_long = length-set marks d 1 ∙ R.marks_long;
          slots-in = slots_kept F.grown R.slots-in;
          known_in = R.known_in;
          mark_is = λ i h. by i h (ℕ_discrete i d);
          count_is = sym more-done;
          few = omega (arith, R.few, F.few, (H.line_in d l).few_nodes);
          within = λ i h e. rw same-room (within_more i h e);
        }
          where
            by : (i : ℕ) → i < MAX_DEFINITIONS → Dec (i ≡ d) → get_or (set marks d 1) i 0 ≡ mark_of (get_or (set done d true) i true)
            by i h (yes e) =
                rw (e, get_or-set_same marks d 1 0 (omega (arith, line_low, R.marks_long)), get_or-set_same done d true true (omega (arith, line_low, R.long.1)))
            by i h (no n) = get_or-set_other marks d i 1 0 n ∙ R.mark_is i h ∙ ap mark_of (sym (get_or-set_other done d i true true n))
