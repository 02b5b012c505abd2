-- The one-formula check by definitions decides the one-formula condition (10). If it ends without a split, every definition whose item is in the partial
-- state has given its formula, which stands, so every item gives what stands there. If all chains agree, what stands is at each visit a part of the
-- chains' formulas, so there is no split; and so it is for a part of items that have no split. Assumes the premises of formulas and of definitions, and that the test tells the partial state's items.
use Rattle.std.specs.Prelude.{ℕ, ◌<◌, ◌≡◌, ◌⊎◌, Bool, length, get_or, set}
use Rattle.std.proofs.Common.{arith, ap, sym, ◌∙◌, inl, inr, get_or-set_same}
use Rattle.std.proofs.Math.Path.{refl}
use Rattle.std.proofs.Math.Bool.{true}
use Rattle.std.proofs.lemmas.Bool.{false≢true}
use Rattle.std.proofs.Math.Option.{none, some}
use mathlib.Core.List.{List, ◌∷◌, Memᴰ as Mem}
use Rattle.grammar.specs.Limits.{MAX_INHERITED, MAX_DEFINITIONS}
use Rattle.grammar.specs.Conditions.Decides.{Decides}
use Rattle.grammar.specs.Conditions.DecidesSteps.{All}
use Rattle.grammar.specs.Data.Symbol.{Symbol, nonterminal, after}
use Rattle.grammar.specs.Data.Book.{InheritedDefinition, Book, inherited_owner}
use Rattle.grammar.specs.Automaton.Items.{Partial, Chain}
use Rattle.grammar.specs.Formulas.Formula.{gives}
use Rattle.grammar.specs.Formulas.ChainLaws.{chain-partial, chain-to, OneFormula}
use Rattle.grammar.specs.Automaton.CoreItems.{Core, core}
use Rattle.grammar.specs.Formulas.Slots.{Slots, slot_at, own_at, ready, slots_of}
use Rattle.grammar.specs.Formulas.SlotsFill.{Filled}
use Rattle.grammar.proofs.Formulas.SlotsTests.{ItemAgrees, agrees-decides}
use Rattle.grammar.proofs.Formulas.SlotsLaws.{agrees-one-formula, one-formula-agrees}
use Rattle.grammar.specs.Formulas.PartialLaws.{PartialItems}
use Rattle.grammar.specs.Formulas.FormulaPremises.{FormulaPremises}
use Rattle.grammar.specs.Formulas.ChainReady.{Ready, chain-ready}
use Rattle.grammar.specs.Formulas.Passes.{Keeps, passes-keep, passes-rest}
use Rattle.grammar.specs.Formulas.FormulaCheck.{dot_of, Progress, progress, split, advance, unsplit, fresh, formula_of, definitions, line_at, due, visit}
use Rattle.grammar.specs.Formulas.FormulaCheck.{ended, check}
use Rattle.grammar.specs.Formulas.DefinitionPremises.{LineRight, DefinitionPremises}
use Rattle.grammar.proofs.Formulas.FormulaCheckSteps.{done-either, none_done, Within, none-stands, set-within, set-each, enter-by, visit-by, Long, fresh-long}
use Rattle.grammar.proofs.Formulas.FormulaCheckSteps.{due-decides, growing, visit-done, ready-filled, ready-within, formula-within, line_gives}

-- the test tells by rule and dot which items the partial state (S, a) has
abbrev pub Tells : Book → ℕ → ℕ → (ℕ → ℕ → Bool) → Type 0
Tells b S a member = (P D : ℕ) → Decides (member P D) ((c : ℕ) × Partial b S a P D c)

-- a definition's attribute has a slot
room : (b : Book) → DefinitionPremises b → (slots : Slots) (d : ℕ) → d < definitions b → length slots ≡ MAX_INHERITED → (line_at b d).attribute < length slots
room b L slots d l s = let k = (L.line_right d l).attribute_there in let most = L.attributes_limit in omega arith

module _ (b : Book) (member : ℕ → ℕ → Bool) (L : DefinitionPremises b) where
  -- ---------------------------------------------------------------- what is done stands

  -- the definition does not wait, and its formula stands
  abbrev Given : Slots → InheritedDefinition → Type 0
  Given slots line = (ready b slots line.rule (dot_of line) ≡ true) × (slot_at slots line.attribute ≡ some (formula_of slots line))

  given-within : (slots other : Slots) {line : InheritedDefinition} → LineRight b line → Within slots other → Given slots line → Given other line
  given-within slots other right within (r, e) =
      (ready-within b slots other _ _ within r, within _ _ e ∙ ap some (formula-within b slots other right within r))

  abbrev AllGiven : Progress → Type 0
  AllGiven (progress slots done) = (d : ℕ) → d < definitions b → get_or done d true ≡ true → Given slots (line_at b d)
  AllGiven split = Unit {0}

  -- the definition of place d is given, and those that were
  also_given : (slots : Slots) (done : List Bool) (d : ℕ) → Given slots (line_at b d)
      → ((e : ℕ) → e < definitions b → get_or done e true ≡ true → Given slots (line_at b e)) → AllGiven (progress slots (set done d true))
  also_given slots done d given before e l h = by (done-either done d e h)
    where
      by : (e ≡ d) ⊎ (get_or done e true ≡ true) → Given slots (line_at b e)
      by (inl p) = rw p given
      by (inr q) = before e l q

  -- an empty slot takes the definition's formula
  new-given : (slots : Slots) (done : List Bool) (d : ℕ) (l : d < definitions b) → length slots ≡ MAX_INHERITED
      → ready b slots (line_at b d).rule (dot_of (line_at b d)) ≡ true → AllGiven (progress slots done) → slot_at slots (line_at b d).attribute ≡ none
      → AllGiven (progress (set slots (line_at b d).attribute (some (formula_of slots (line_at b d)))) (set done d true))
  new-given slots done d l s r given e =
      let K = (line_at b d).attribute in
      let f = formula_of slots (line_at b d) in
      let other = set slots K (some f) in
      let within = set-within slots K f e in
      let here = get_or-set_same slots K (some f) none (room b L slots d l s) in
      also_given other done d
      (ready-within b slots other _ _ within r, here ∙ ap some (formula-within b slots other (L.line_right d l) within r))
      (λ e k q. given-within slots other (L.line_right e k) within (given e k q))

  visit-given : Keeps (visit b member) (λ s. Long s × AllGiven s) (definitions b)
  visit-given d l s (long, given) = ((growing b member).keeps d l s long, by s long given)
    where
      by : (s : Progress) → Long s → AllGiven s → AllGiven (visit b member d s)
      by split long given = unfold visit in tt
      by (progress slots done) (s, m) given = visit-by b member AllGiven d slots done given λ n h.
          let (i, r) = (due-decides b member slots (line_at b d)).sound h in
          enter-by AllGiven slots (set done d true) _ _ (new-given slots done d l s r given) (λ e. also_given slots done d (r, e) given) (λ g e q. tt)

  ended-given : Long (ended b member) × AllGiven (ended b member)
  unfolding ended
  ended-given =
      passes-keep (visit b member) (λ s. Long s × AllGiven s) advance (definitions b) visit-given fresh
      (fresh-long, λ d l e. absurd (none_done MAX_DEFINITIONS d (omega (arith, L.definitions_limit)) e))

  -- at the end every definition that is due is given
  end-given : (slots : Slots) (done : List Bool) → ended b member ≡ progress slots done → (d : ℕ) → d < definitions b
      → due b member slots (line_at b d) ≡ true → Given slots (line_at b d)
  unfolding ended
  end-given slots done e d l h =
      let (long, given) : Long (progress slots done) × AllGiven (progress slots done) = rw e at ended-given in
      let still : visit b member d (progress slots done) ≡ progress slots done = rw e at (passes-rest (growing b member) fresh fresh-long d l) in
      given d l (visit-done b member d slots done long.1 still h)

-- ---------------------------------------------------------------- what stands is a part of what is settled

-- what a definition gives, from a part of the slots `settled` on, stands there
abbrev pub Stands : (b : Book) → (ℕ → ℕ → Bool) → Slots → Type 0
Stands b member settled = (slots : Slots) (d : ℕ) → d < definitions b → due b member slots (line_at b d) ≡ true → Within slots settled
    → slot_at settled (line_at b d).attribute ≡ some (formula_of slots (line_at b d))

module _ (b : Book) (member : ℕ → ℕ → Bool) (L : DefinitionPremises b) (settled : Slots) (stands : Stands b member settled) where
  abbrev Inside : Progress → Type 0
  Inside (progress slots done) = Within slots settled
  Inside split = ⊥

  visit-inside : Keeps (visit b member) (λ s. Long s × Inside s) (definitions b)
  visit-inside d l s (long, inside) = ((growing b member).keeps d l s long, by s long inside)
    where
      by : (s : Progress) → Long s → Inside s → Inside (visit b member d s)
      by (progress slots done) (s, m) within = visit-by b member Inside d slots done within λ n h.
          let there = stands slots d l h within in
          enter-by Inside slots (set done d true) _ _ (λ e. set-each _ slots _ _ (room b L slots d l s) within there) (λ e. within)
          (λ g e differ. differ (let here = within _ g e in cc))
      by split _ within = elim within [ ]

  inside-unsplit : check b member ≡ true
  unfolding check ended
  inside-unsplit =
      by (ended b member)
      (passes-keep (visit b member) (λ s. Long s × Inside s) advance (definitions b) visit-inside fresh (fresh-long, none-stands MAX_INHERITED settled)).1
    where
      by : (s : Progress) → Inside s → unsplit s ≡ true
      by (progress slots done) inside = unfold unsplit in refl
      by split inside = absurd inside

-- ---------------------------------------------------------------- a part of the items

-- if all items are without a split, so is a part of them
module _ (b : Book) (L : DefinitionPremises b) (whole member : ℕ → ℕ → Bool) (part : (P D : ℕ) → member P D ≡ true → whole P D ≡ true) where
  part-stands : (settled : Slots) (done : List Bool) → ended b whole ≡ progress settled done → Stands b member settled
  part-stands settled done end slots d l h within =
      let (m, r) = (due-decides b member slots (line_at b d)).sound h in
      let due-whole = (due-decides b whole settled (line_at b d)).complete (part _ _ m, ready-within b slots settled _ _ within r) in
      (end-given b whole L settled done end d l due-whole).1 ∙ ap some (sym (formula-within b slots settled (L.line_right d l) within r))

  pub check-part : check b whole ≡ true → check b member ≡ true
  unfolding check
  check-part = by (ended b whole) refl
    where
      by : (s : Progress) → ended b whole ≡ s → unsplit s ≡ true → unsplit (ended b member) ≡ true
      by (progress settled done) e h = unfold check in inside-unsplit b member L settled (part-stands settled done e)
      by split e h = absurd (false≢true (unfold unsplit in h))

-- ---------------------------------------------------------------- the check of one partial state

module _ (b : Book) (H : FormulaPremises b) (L : DefinitionPremises b) (S a : ℕ) (items : List Core) (listed : PartialItems b S a items)
    (member : ℕ → ℕ → Bool) (tells : Tells b S a member) where
  chain-member : {P D c : ℕ} → Chain b S a P D c → member P D ≡ true
  chain-member {P} {D} {c} chain = (tells P D).complete (c, chain-partial b chain)

  member-item : (P D : ℕ) → member P D ≡ true → (M : ℕ) × Mem (core P D M) items
  member-item P D m = let (c, (closure, reaches)) = (tells P D).sound m in listed.chain_item P D c (chain-to b closure reaches)

  -- if it ends without a split
  module _ (slots : Slots) (done : List Bool) (end : ended b member ≡ progress slots done) where
    -- what a chain's last item gives stands there, if it does not wait
    ready-stands : {P D c B : ℕ} {β : List Symbol} → Chain b S a P D c → (K : ℕ) → ready b slots P D ≡ true → after b.rules P D ≡ nonterminal B ∷ β
        → inherited_owner b K ≡ B → slot_at slots K ≡ some (gives b P D (own_at slots D) K)
    ready-stands {P} {D} {c} {B} {β} chain K r h o =
        let (d, l, (p, j, k)) = L.next_line P D B K β h o in
        let dot : dot_of (line_at b d) ≡ D = omega arith in
        let due-now = (due-decides b member slots (line_at b d)).complete (rw (p, dot) (chain-member chain), rw (p, dot) r) in
        let stands = (end-given b member L slots done end d l due-now).1 ∙ ap some (line_gives b slots (L.line_right d l)) in
        rw (p, dot, k) at stands

    -- and no chain's last item waits
    unwaiting : {P D c : ℕ} → Chain b S a P D c → ready b slots P D ≡ true
    unwaiting {P} {D} {c} chain = ready-filled b slots P D (chain-ready b (λ K. Filled (slot_at slots K)) H S a settles chain)
      where
        settles : (P D c B K : ℕ) (β : List Symbol) → Chain b S a P D c → Ready b (λ J. Filled (slot_at slots J)) P D
            → after b.rules P D ≡ nonterminal B ∷ β → inherited_owner b K ≡ B → Filled (slot_at slots K)
        settles P D c B K β chain r h o = (gives b P D (own_at slots D) K, ready-stands chain K (ready-filled b slots P D r) h o)

    items-agree : All (ItemAgrees b slots) items
    items-agree (core P D M) m = λ B β h K l o. let (c, chain) = listed.item_chain P D M m in ready-stands chain K (unwaiting chain) h o

    pub ended-one-formula : OneFormula b S a
    ended-one-formula = agrees-one-formula b H S a items listed slots ((agrees-decides b slots items).complete items-agree)

  -- if every item gives what stands in the slots `settled`
  module _ (settled : Slots) (agree : All (ItemAgrees b settled) items) where
    -- what a definition gives stands there
    line-inside : Stands b member settled
    line-inside slots d l h within =
        let right = L.line_right d l in
        let (m, r) = (due-decides b member slots (line_at b d)).sound h in
        let (M, i) = member-item (line_at b d).rule (dot_of (line_at b d)) m in
        let (β, e) = right.before_owner in
        agree (core _ _ M) i _ β e (line_at b d).attribute right.attribute_there refl
        ∙ ap some (sym (line_gives b settled right) ∙ sym (formula-within b slots settled right within r))

    pub agree-unsplit : check b member ≡ true
    agree-unsplit = inside-unsplit b member L settled line-inside

  -- 10, of one partial state
  pub check-decides : Decides (check b member) (OneFormula b S a)
  unfolding check
  check-decides = record {
    sound = by (ended b member) refl;
    complete = λ agree.
        agree-unsplit (slots_of b items) ((agrees-decides b (slots_of b items) items).sound (one-formula-agrees b H S a items listed agree));
  }
    where
      by : (s : Progress) → ended b member ≡ s → unsplit s ≡ true → OneFormula b S a
      by (progress slots done) e h = ended-one-formula slots done e
      by split e h = absurd (false≢true (unfold unsplit in h))
