-- How passes fill slots: a filled slot stays as it is, each pass fills a slot or changes nothing, and the passes end where no item fills any.
-- Assumes nothing.
use Prim.Native.Nat.{ℕ, zero, suc, ◌<◌, ◌≤◌, ◌^◌}
use Rattle.std.proofs.Common.{arith, ap, ◌∙◌, inl, inr, length-set, get_or-set_same, eqb-true, eq-eqb}
use Rattle.std.proofs.Math.Decide.{ℕ_discrete}
use Rattle.std.specs.Prelude.{◌≡◌, ◌≢◌, ◌⊎◌, true, length, set, replicate}
use Rattle.std.proofs.Math.Path.{refl}
use Rattle.std.proofs.Math.Option.{Option, none, some}
use mathlib.Core.List.Memᴰ.{head as in_head}
use mathlib.Core.List.Memᴰ.{tail as in_Tail}
use mathlib.Core.List.{List, [], ◌∷◌, Memᴰ as Mem}
use Rattle.std.proofs.Math.Dec.{eqb}
use Rattle.std.proofs.lemmas.List.{length-replicate}
use Rattle.std.proofs.lemmas.Bool.{eqb-false}
use Rattle.grammar.specs.Automaton.TestLaws.{by-test}
use Rattle.grammar.specs.Data.Symbol.{Symbol, terminal, nonterminal, after}
use Rattle.grammar.specs.Data.Book.{Book, inherited_owner}
use Rattle.grammar.specs.Formulas.Formula.{Formula, gives}
use Rattle.grammar.specs.Automaton.FixpointLaws.{Grows, kept, fixed}
use Rattle.grammar.specs.Automaton.CoreItems.{Core, core}
use Rattle.grammar.specs.Formulas.Slots.{Slots, slot_at, own_at, fill, filled, attributes, ready, fill_from, fill_item, fill_pass, slots_of}

abbrev pub Filled : Option Formula → Type 0
Filled x = (f : Formula) × (x ≡ some f)

-- t is s, or has more filled
abbrev pub Fuller : Slots → Slots → Type 0
Fuller s t = (t ≡ s) ⊎ (filled s < filled t)

-- every formula that stands in a slot is as R says
abbrev pub Each : (ℕ → Formula → Type 0) → Slots → Type 0
Each R slots = (K : ℕ) (f : Formula) → slot_at slots K ≡ some f → R K f

fuller-le : {s t : Slots} → Fuller s t → filled s ≤ filled t
fuller-le (inl e) = rw e (omega arith)
fuller-le (inr l) = omega arith

fuller-trans : {s t u : Slots} → Fuller s t → Fuller t u → Fuller s u
fuller-trans (inl e) (inl f) = inl (f ∙ e)
fuller-trans (inl e) (inr m) = inr (rw e at m)
fuller-trans (inr l) (inl f) = inr (rw f l)
fuller-trans (inr l) (inr m) = inr (omega arith)

fuller-between : {s t u : Slots} → Fuller s t → Fuller t u → u ≡ s → t ≡ s
fuller-between (inl e) h p = e
fuller-between (inr l) h p = let m = rw p at (fuller-le h) in absurd (omega arith)

-- ---------------------------------------------------------------- one slot

set-fuller : (s : Slots) (K : ℕ) (f : Formula) → slot_at s K ≡ none → Fuller s (set s K (some f))
unfolding filled
set-fuller [] K f e = inl refl
set-fuller (none ∷ s) zero f e = inr (omega arith)
set-fuller (some g ∷ s) zero f e = absurd (let z : ◌≡◌ {A = ℕ} 0 1 = cc in omega arith)
set-fuller (x ∷ s) (suc K) f e = longer x (set-fuller s K f e)
  where
    longer : (x : Option Formula) → Fuller s (set s K (some f)) → Fuller (x ∷ s) (x ∷ set s K (some f))
    longer none (inl p) = inl (rw p)
    longer none (inr l) = inr l
    longer (some g) (inl p) = inl (rw p)
    longer (some g) (inr l) = inr (omega arith)

set-each : (R : ℕ → Formula → Type 0) (s : Slots) (K : ℕ) (f : Formula) → Each R s → R K f → Each R (set s K (some f))
set-each R [] K f h r J g e = h J g e
set-each R (x ∷ s) zero f h r zero g e = let same : f ≡ g = cc in rw (← same) r
set-each R (x ∷ s) zero f h r (suc J) g e = h (suc J) g e
set-each R (x ∷ s) (suc K) f h r zero g e = h zero g e
set-each R (x ∷ s) (suc K) f h r (suc J) g e = set-each (λ j. R (suc j)) s K f (λ j. h (suc j)) r J g e

set_keeps : (s : Slots) (K : ℕ) (f : Formula) (J : ℕ) → Filled (slot_at s J) → Filled (slot_at (set s K (some f)) J)
set_keeps [] K f J h = h
set_keeps (x ∷ s) zero f zero h = (f, refl)
set_keeps (x ∷ s) zero f (suc J) h = h
set_keeps (x ∷ s) (suc K) f zero h = h
set_keeps (x ∷ s) (suc K) f (suc J) h = set_keeps s K f J h

-- filling by cases: the slot is filled already, or it is empty and takes the formula
fill-by : (Q : Slots → Type 0) (s : Slots) (K : ℕ) (f : Formula) → (Filled (slot_at s K) → Q s) → (slot_at s K ≡ none → Q (set s K (some f)))
    → Q (fill s K f)
unfolding fill
fill-by Q s K f old new = by (slot_at s K) refl
  where
    by : (x : Option Formula) → slot_at s K ≡ x → Q (elim x [ none ↦ set s K (some f) | some g ↦ s ])
    by none e = new e
    by (some g) e = old (g, e)

fill-fuller : (s : Slots) (K : ℕ) (f : Formula) → Fuller s (fill s K f)
fill-fuller s K f = fill-by (Fuller s) s K f (λ h. inl refl) (set-fuller s K f)

fill-each : (R : ℕ → Formula → Type 0) (s : Slots) (K : ℕ) (f : Formula) → Each R s → R K f → Each R (fill s K f)
fill-each R s K f h r = fill-by (Each R) s K f (λ old. h) (λ e. set-each R s K f h r)

fill-length : (s : Slots) (K : ℕ) (f : Formula) → length (fill s K f) ≡ length s
fill-length s K f = fill-by (λ t. length t ≡ length s) s K f (λ h. refl) (λ e. length-set s K (some f))

fill-keeps : (s : Slots) (K : ℕ) (f : Formula) (J : ℕ) → Filled (slot_at s J) → Filled (slot_at (fill s K f) J)
fill-keeps s K f J h = fill-by (λ t. Filled (slot_at t J)) s K f (λ old. h) (λ e. set_keeps s K f J h)

fill-fills : (s : Slots) (K : ℕ) (f : Formula) → K < length s → Filled (slot_at (fill s K f) K)
fill-fills s K f l = fill-by (λ t. Filled (slot_at t K)) s K f (λ h. h) (λ e. (f, get_or-set_same s K (some f) none l))

-- the slots below n are filled, and then slot n
fill-next : (s : Slots) (n K : ℕ) (f : Formula) → K < suc n → K < length s → (K < n → Filled (slot_at s K)) → Filled (slot_at (fill s n f) K)
fill-next s n K f h l below = by (ℕ_discrete K n)
  where
    by : Dec (K ≡ n) → Filled (slot_at (fill s n f) K)
    by (yes e) = rw e (fill-fills s n f (rw e at l))
    by (no d) = fill-keeps s n f K (below (omega arith))

empty-each : (R : ℕ → Formula → Type 0) (n : ℕ) → Each R (replicate n none)
empty-each R zero K f e = absurd (let z : ◌≡◌ {A = ℕ} 0 1 = cc in omega arith)
empty-each R (suc n) zero f e = absurd (let z : ◌≡◌ {A = ℕ} 0 1 = cc in omega arith)
empty-each R (suc n) (suc K) f e = empty-each (λ j. R (suc j)) n K f e

filled-length : (s : Slots) → filled s ≤ length s
unfolding filled
filled-length [] = omega arith
filled-length (none ∷ s) = let h = filled-length s in omega arith
filled-length (some f ∷ s) = let h = filled-length s in omega arith

-- ---------------------------------------------------------------- items and passes

module _ (b : Book) where
  -- one attribute more: its slot is filled if B owns it
  fill_from-turn : (Q : Slots → Type 0) (old : Slots) (P D B K : ℕ) (s : Slots)
      → (inherited_owner b K ≡ B → Q (fill (fill_from b old P D B K s) K (gives b P D (own_at old D) K)))
      → (inherited_owner b K ≢ B → Q (fill_from b old P D B K s)) → Q (fill_from b old P D B (suc K) s)
  unfolding fill_from
  fill_from-turn Q old P D B K s owned other = by-test (eqb (inherited_owner b K) B) _ _ Q (λ e. owned (eqb-true _ _ e)) (λ e. other (eqb-false _ _ e))

  -- what filling a slot of B keeps holds after all of them
  fill_from-by : (Q : Slots → Type 0) (old : Slots) (P D B n : ℕ) (s : Slots)
      → ((K : ℕ) (t : Slots) → inherited_owner b K ≡ B → Q t → Q (fill t K (gives b P D (own_at old D) K))) → Q s → Q (fill_from b old P D B n s)
  unfolding fill_from
  fill_from-by Q old P D B zero s step q = q
  fill_from-by Q old P D B (suc K) s step q =
      fill_from-turn Q old P D B K s (λ o. step K _ o (fill_from-by Q old P D B K s step q)) (λ o. fill_from-by Q old P D B K s step q)

  fill_from-length : (old : Slots) (P D B n : ℕ) (s : Slots) → length (fill_from b old P D B n s) ≡ length s
  fill_from-length old P D B n s = fill_from-by (λ t. length t ≡ length s) old P D B n s (λ K t o e. fill-length t K _ ∙ e) refl

  fill_from-fills : (old : Slots) (P D B n : ℕ) (s : Slots) (K : ℕ) → K < n → K < length s → inherited_owner b K ≡ B
      → Filled (slot_at (fill_from b old P D B n s) K)
  fill_from-fills old P D B zero s K h l o = absurd (omega arith)
  fill_from-fills old P D B (suc n) s K h l o =
      let room : K < length (fill_from b old P D B n s) = rw (fill_from-length old P D B n s) l in
      fill_from-turn (λ t. Filled (slot_at t K)) old P D B n s
      (λ p. fill-next (fill_from b old P D B n s) n K _ h room (λ k. fill_from-fills old P D B n s K k l o))
      (λ p. let d : K ≢ n = λ e. p (rw e at o) in fill_from-fills old P D B n s K (omega arith) l o)

  -- what filling a slot of the item's next nonterminal keeps holds after the item
  fill_item-by : (Q : Slots → Type 0) (P D : ℕ) (rest : List Symbol) (s : Slots)
      → ((B K : ℕ) (β : List Symbol) (t : Slots) → rest ≡ nonterminal B ∷ β → ready b s P D ≡ true → inherited_owner b K ≡ B → Q t
      → Q (fill t K (gives b P D (own_at s D) K)))
      → Q s → Q (fill_item b P D rest s)
  unfolding fill_item
  fill_item-by Q P D [] s step q = q
  fill_item-by Q P D (terminal a ∷ β) s step q = q
  fill_item-by Q P D (nonterminal B ∷ β) s step q =
      by-test (ready b s P D) _ _ Q (λ e. fill_from-by Q s P D B (attributes b) s (λ K t o h. step B K β t refl e o h) q) (λ e. q)

  fill_item-fills : (P D B K : ℕ) (β : List Symbol) (s : Slots) → length s ≡ attributes b → ready b s P D ≡ true → K < attributes b → inherited_owner b K ≡ B
      → Filled (slot_at (fill_item b P D (nonterminal B ∷ β) s) K)
  unfolding fill_item
  fill_item-fills P D B K β s e r l o = rw (r, fill_item) (fill_from-fills s P D B (attributes b) s K l (rw e l) o)

  fill_item-fuller : (P D : ℕ) (rest : List Symbol) (s : Slots) → Fuller s (fill_item b P D rest s)
  fill_item-fuller P D rest s = fill_item-by (Fuller s) P D rest s (λ B K β t e r o h. fuller-trans h (fill-fuller t K _)) (inl refl)

  fill_item-length : (P D : ℕ) (rest : List Symbol) (s : Slots) → length (fill_item b P D rest s) ≡ length s
  fill_item-length P D rest s = fill_item-by (λ t. length t ≡ length s) P D rest s (λ B K β t e r o h. fill-length t K _ ∙ h) refl

  -- what the items keep holds after the pass
  fill_pass-by : (Q : Slots → Type 0) (items : List Core) (s : Slots)
      → ((P D M : ℕ) (t : Slots) → Mem (core P D M) items → Q t → Q (fill_item b P D (after b.rules P D) t)) → Q s → Q (fill_pass b items s)
  unfolding fill_pass
  fill_pass-by Q [] s step q = q
  fill_pass-by Q (core P D M ∷ items) s step q = fill_pass-by Q items _ (λ P D M t m. step P D M t (in_Tail m)) (step P D M s (in_head refl) q)

  fill_pass-fuller : (items : List Core) (s : Slots) → Fuller s (fill_pass b items s)
  fill_pass-fuller items s = fill_pass-by (Fuller s) items s (λ P D M t m h. fuller-trans h (fill_item-fuller P D _ t)) (inl refl)

  fill_pass-length : (items : List Core) (s : Slots) → length (fill_pass b items s) ≡ length s
  fill_pass-length items s = fill_pass-by (λ t. length t ≡ length s) items s (λ P D M t m h. fill_item-length P D _ t ∙ h) refl

  -- a pass that changes nothing has no item that changes anything: the first does not, and so the rest do not
  first-rests : (P D : ℕ) (items : List Core) (s : Slots) → fill_pass b items (fill_item b P D (after b.rules P D) s) ≡ s
      → fill_item b P D (after b.rules P D) s ≡ s
  first-rests P D items s e = fuller-between (fill_item-fuller P D _ s) (fill_pass-fuller items _) e

  pass-rests : (items : List Core) (s : Slots) → fill_pass b items s ≡ s → (P D M : ℕ) → Mem (core P D M) items → fill_item b P D (after b.rules P D) s ≡ s
  unfolding fill_pass
  pass-rests [] s e P' D' M' m = elim m [ ]
  pass-rests (core P D M ∷ items) s e P' D' M' (in_head q) =
      let same_rule : P' ≡ P = cc in
      let same_dot : D' ≡ D = cc in
      rw (same_rule, same_dot) (first-rests P D items s e)
  pass-rests (core P D M ∷ items) s e P' D' M' (in_Tail m) =
      pass-rests items s (rw (first-rests P D items s e) at e) P' D' M' m

  -- ---------------------------------------------------------------- the passes

  module _ (items : List Core) where
    -- the test of `slots_of` tells whether a pass changes anything
    passes-grow : Grows (λ s t. eqb (filled s) (filled t)) (fill_pass b items) (λ s. length s ≡ attributes b) filled (attributes b)
    passes-grow = record {
      same_still = λ s k e. still s (fill_pass-fuller items s) e;
      still_same = λ s k e. eq-eqb _ _ (ap filled e);
      keeps = λ s k. fill_pass-length items s ∙ k;
      grows = λ s k. fill_pass-fuller items s;
      below = λ s k. rw k at (filled-length s);
    }
      where
        still : (s : Slots) → Fuller s (fill_pass b items s) → eqb (filled (fill_pass b items s)) (filled s) ≡ true → fill_pass b items s ≡ s
        still s (inl e) h = e
        still s (inr l) h = let same : filled (fill_pass b items s) ≡ filled s = eqb-true _ _ h in absurd (omega arith)

    -- what a pass keeps holds at the end
    slots-by : (Q : Slots → Type 0) → ((s : Slots) → Q s → Q (fill_pass b items s)) → Q (replicate (attributes b) none) → Q (slots_of b items)
    unfolding slots_of
    slots-by Q keeps q = kept (λ s t. eqb (filled s) (filled t)) (fill_pass b items) Q keeps (2 ^ 40) (replicate (attributes b) none) q

    slots_length : length (slots_of b items) ≡ attributes b
    slots_length = slots-by (λ s. length s ≡ attributes b) (λ s k. fill_pass-length items s ∙ k) (length-replicate (attributes b) none)

    -- what every ready item gives is as R says, if all that stood before is; so all that stands at the end is
    pub slots-each : (R : ℕ → Formula → Type 0)
        → ((P D M B K : ℕ) (β : List Symbol) (s : Slots) → Mem (core P D M) items → after b.rules P D ≡ nonterminal B ∷ β → inherited_owner b K ≡ B
        → ready b s P D ≡ true → Each R s → R K (gives b P D (own_at s D) K))
        → Each R (slots_of b items)
    slots-each R step = slots-by (Each R) (λ s. fill_pass-by (Each R) items s item) (empty-each R (attributes b))
      where
        item : (P D M : ℕ) (s : Slots) → Mem (core P D M) items → Each R s → Each R (fill_item b P D (after b.rules P D) s)
        item P D M s m h = fill_item-by (Each R) P D _ s (λ B K β t e r o g. fill-each R t K _ g (step P D M B K β s m e o r h)) h

    slots-rest : attributes b ≤ 2 ^ 40 → fill_pass b items (slots_of b items) ≡ slots_of b items
    unfolding slots_of
    slots-rest h = fixed passes-grow (2 ^ 40) (replicate (attributes b) none) (length-replicate (attributes b) none) (omega arith)

    -- at the end every item that is ready has filled the slots of its next nonterminal
    pub slots_filled : attributes b ≤ 2 ^ 40 → (P D M B K : ℕ) (β : List Symbol) → Mem (core P D M) items → after b.rules P D ≡ nonterminal B ∷ β
        → ready b (slots_of b items) P D ≡ true → K < attributes b → inherited_owner b K ≡ B → Filled (slot_at (slots_of b items) K)
    slots_filled h P D M B K β m e r l o =
        let still : fill_item b P D (nonterminal B ∷ β) (slots_of b items) ≡ slots_of b items = rw e at (pass-rests items _ (slots-rest h) P D M m) in
        rw still at (fill_item-fills P D B K β (slots_of b items) slots_length r l o)
