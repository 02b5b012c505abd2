-- The passes over values set the cell that the partial state's formulas set. Each value is at each visit that of the cell, since the definition of an
-- item of the partial state has the cell's value over the stack; in the end all attributes of the chains' next nonterminals are set, and no other
-- attribute has a formula. Assumes the premises of demand 3, of formulas and of definitions, and that the test tells the partial state's items.
use Prim.Native.Nat.{ℕ, zero, suc, ◌≤◌, ◌<◌, ◌^◌}
use native.Mathlib.Omega.{arith}
use Rattle.std.proofs.Math.Decide.{ℕ_discrete, dec_lt}
use Rattle.std.specs.Prelude.{◌≡◌, Bool, length, set, replicate}
use Rattle.std.proofs.Math.Path.{refl, ap, sym}
use Rattle.std.proofs.Common.{◌∙◌, inl, length-set, get_or-set_same, get_or-set_other}
use Rattle.std.proofs.Math.Logic.{inr}
use Rattle.std.proofs.Math.Bool.{true, false}
use Rattle.std.proofs.Math.Option.{Option, none, some}
use mathlib.Core.List.{List, [], ◌∷◌}
use Rattle.std.proofs.Math.ListN.{get_or, get_or-eq_default}
use Rattle.std.proofs.lemmas.List.{length-replicate}
use Rattle.grammar.specs.Limits.{MAX_INHERITED}
use Rattle.grammar.specs.Conditions.Decides.{Decides, eq-decides, then-decides, if-decides, all_below-decides}
use Rattle.grammar.specs.Automaton.TestLaws.{by-test, true-false}
use Rattle.grammar.specs.Data.Symbol.{Symbol, nonterminal, left_of, after}
use Rattle.grammar.specs.Data.Term.{eval}
use Rattle.grammar.specs.Data.TermLaws.{eval-same}
use Rattle.grammar.specs.Data.Book.{Place, own, at, val, InheritedDefinition, Book, owner_at, inherited_owner}
use Rattle.grammar.specs.Conditions.MeaningLaws.{Reads}
use Rattle.grammar.specs.Format.Ordered.{Spelled}
use Rattle.grammar.specs.Automaton.Items.{Chain}
use Rattle.grammar.specs.Formulas.Formula.{Formula}
use Rattle.grammar.specs.Formulas.ChainLaws.{chain-partial, chain-to, FromChain, from_chain}
use Rattle.grammar.specs.Evaluator.Machine.{Tables, Frame, frame, inherited_at, formula_value, cell}
use Rattle.grammar.specs.Evaluator.Chains.{stack_value}
use Rattle.grammar.proofs.Evaluator.Chains.{cell-value}
use Rattle.grammar.specs.Evaluator.Premises.{Premises}
use Rattle.grammar.specs.Formulas.Slots.{attributes}
use Rattle.grammar.specs.BookFacts.{small-book}
use Rattle.grammar.specs.Automaton.ItemsRightLaws.{book-items-right}
use Rattle.grammar.specs.Automaton.Compiled.{compiled}
use Rattle.grammar.proofs.Formulas.FormulaTable.{formula-some}
use Rattle.grammar.specs.Refusal.{Sound}
use Rattle.grammar.specs.Engine.{tables_from, tables_of}
use Rattle.grammar.proofs.Evaluator.TakenPremises.{premises}
use Rattle.grammar.specs.Formulas.FormulaPremises.{FormulaPremises, formula-premises}
use Rattle.grammar.specs.Formulas.ChainReady.{Ready, chain-settles}
use Rattle.grammar.specs.Formulas.Passes.{Larger, Keeps, passes-keep, Growing, passes-rest}
use Rattle.grammar.specs.Formulas.FormulaCheck.{dot_of, definitions, line_at}
use Rattle.grammar.specs.Formulas.DefinitionPremises.{DefinitionPremises, definition-premises}
use Rattle.grammar.proofs.Formulas.FormulaCheckSteps.{holds-decides, done_more, done-length, none_done}
use Rattle.grammar.proofs.Formulas.FormulaCheckLaws.{Tells}
use Rattle.grammar.specs.Formulas.Plan.{Setting, setting, set_in, value_at, value_in, unset, settled_in, value_of, ready_in, due_in, set_line, settled, fill_cell}

-- ---------------------------------------------------------------- the tests

abbrev Known : List Bool → ℕ → Type 0
Known known K = get_or known K true ≡ true

settled_in-decides : (owners : List ℕ) (known : List Bool) (A : ℕ)
    → Decides (settled_in owners known A) ((K : ℕ) → K < length owners → owner_at owners K ≡ A → Known known K)
unfolding settled_in
settled_in-decides owners known A = all_below-decides (λ K. if-decides (eq-decides (owner_at owners K) A) holds-decides) (length owners)

ready_in-decides : (b : Book) (known : List Bool) (P D : ℕ) → Decides (ready_in b known P D) (Ready b (Known known) P D)
unfolding ready_in
ready_in-decides b known P zero =
    let d = settled_in-decides b.inherited_owners known (left_of b.rules P) in
    record { sound = λ e z. d.sound e; complete = λ h. d.complete (h refl) }
ready_in-decides b known P (suc D) = record { sound = λ e z. absurd (omega arith); complete = λ h. refl }

due_in-decides : (b : Book) (member : ℕ → ℕ → Bool) (known : List Bool) (line : InheritedDefinition)
    → Decides (due_in b member known line) ((member line.rule (dot_of line) ≡ true) × Ready b (Known known) line.rule (dot_of line))
unfolding due_in
due_in-decides b member known line = then-decides holds-decides (ready_in-decides b known line.rule (dot_of line))

-- ---------------------------------------------------------------- a visit sets one more, or changes nothing

-- lists of the limit's length
abbrev pub Full : Setting → Type 0
Full (setting values known) = (length values ≡ MAX_INHERITED) × (length known ≡ MAX_INHERITED)

pub unset-full : Full unset
unset-full = (length-replicate {A = ℕ} MAX_INHERITED 0, length-replicate MAX_INHERITED false)

module _ (b : Book) (member : ℕ → ℕ → Bool) (st : List Frame) where
  set_line-by : (Q : Setting → Type 0) (d : ℕ) (values : List ℕ) (known : List Bool) → Q (setting values known)
      → (get_or known (line_at b d).attribute true ≡ false → due_in b member known (line_at b d) ≡ true
      → Q (setting (set values (line_at b d).attribute (value_of st values (line_at b d))) (set known (line_at b d).attribute true)))
      → Q (set_line b member st d (setting values known))
  unfolding set_line
  set_line-by Q d values known nothing sets =
      by-test (get_or known (line_at b d).attribute true) _ _ Q (λ e. nothing) (λ e. by-test (due_in b member known (line_at b d)) _ _ Q (sets e) (λ h. nothing))

  set_line-full : Keeps (set_line b member st) Full (definitions b)
  set_line-full d l (setting values known) (v, k) =
      set_line-by Full d values known (v, k) λ e h. (length-set values _ _ ∙ v, length-set known _ true ∙ k)

  set_line-grows : (d : ℕ) → d < definitions b → (s : Setting) → Full s → Larger set_in s (set_line b member st d s)
  unfolding set_in
  set_line-grows d l (setting values known) (v, k) =
      set_line-by (Larger set_in (setting values known)) d values known (inl refl) λ e h.
      let more = done_more known (line_at b d).attribute e in
      inr (omega arith)

  set_in-bound : (s : Setting) → Full s → set_in s ≤ 2 ^ 40
  unfolding set_in
  set_in-bound (setting values known) (v, k) = let most = done-length known in omega arith

  pub setting-growing : Growing (set_line b member st) (definitions b) Full set_in
  setting-growing = record { keeps = set_line-full; grows = set_line-grows; below = set_in-bound }

  -- where a visit changes nothing, the attribute is set if the definition is due
  line_known : (d : ℕ) (values : List ℕ) (known : List Bool) → set_line b member st d (setting values known) ≡ setting values known
      → due_in b member known (line_at b d) ≡ true → Known known (line_at b d).attribute
  unfolding set_line set_in
  line_known d values known still h = by (get_or known (line_at b d).attribute true) refl
    where
      by : (t : Bool) → get_or known (line_at b d).attribute true ≡ t → Known known (line_at b d).attribute
      by true e = e
      by false e =
          let asked = rw (e, set_line) at still in
          let sets : setting (set values (line_at b d).attribute (value_of st values (line_at b d))) (set known (line_at b d).attribute true)
          ≡ setting values known = rw h at asked in
          let same = ap set_in sets in
          let more = done_more known (line_at b d).attribute e in
          absurd (omega arith)

-- ---------------------------------------------------------------- the values are the cell's

module _ (b : Book) (T : Tables) (H : Premises b T) (F : FormulaPremises b) (L : DefinitionPremises b) (S a : ℕ) (st : List Frame)
    (member : ℕ → ℕ → Bool) (tells : Tells b S a member) where
  -- what is set has the cell's value, and the rest is 0
  abbrev Right : Setting → Type 0
  Right (setting values known) =
      (K : ℕ) → (Known known K → K < MAX_INHERITED → value_at values K ≡ cell T S a st K) × (get_or known K true ≡ false → value_at values K ≡ 0)

  -- own is read as from the cell, where the item does not wait
  own_value : (values : List ℕ) (known : List Bool) → Right (setting values known) → (P D K : ℕ) → Ready b (Known known) P D → K < attributes b
      → inherited_owner b K ≡ left_of b.rules P → inherited_at D (value_at values) st K ≡ inherited_at D (cell T S a st) st K
  unfolding inherited_at
  own_value values known right P zero K ready l o = (right K).0 (ready refl K l o) (let most = L.attributes_limit in omega arith)
  own_value values known right P (suc D) K ready l o = below st
    where
      below : (st' : List Frame) → inherited_at (suc D) (value_at values) st' K ≡ inherited_at (suc D) (cell T S a st) st' K
      below [] = refl
      below (frame R j c p ∷ st') = refl

  -- a definition that is due gives the cell's value
  line-value : (values : List ℕ) (known : List Bool) → Right (setting values known) → (d : ℕ) → d < definitions b → due_in b member known (line_at b d) ≡ true
      → value_of st values (line_at b d) ≡ cell T S a st (line_at b d).attribute
  unfolding value_of stack_value
  line-value values known right d l h =
      let line_right = L.line_right d l in
      let (m, ready) = (due_in-decides b member known (line_at b d)).sound h in
      let (c, (closure, reaches)) = (tells (line_at b d).rule (dot_of (line_at b d))).sound m in
      let (β, e) = line_right.before_owner in
      let D = dot_of (line_at b d) in
      eval-same line_right.leaves_read _ _ (leaves ready)
      ∙ ap (λ x. eval x (stack_value D (inherited_at D (cell T S a st) st) st)) (sym line_right.expression_is)
      ∙ sym (cell-value b T H (line_at b d).attribute (chain-to b closure reaches) e refl st)
    where
      leaves : Ready b (Known known) (line_at b d).rule (dot_of (line_at b d)) → (place : Place) → Reads b (line_at b d).rule (line_at b d).position place
          → stack_value (dot_of (line_at b d)) (inherited_at (dot_of (line_at b d)) (value_at values) st) st place
          ≡ stack_value (dot_of (line_at b d)) (inherited_at (dot_of (line_at b d)) (cell T S a st) st) st place
      leaves ready (own K) (k, o) = own_value values known right (line_at b d).rule (dot_of (line_at b d)) K ready k o
      leaves ready (at J K) r = refl
      leaves ready (val J) r = refl

  -- one attribute more
  set-right : (values : List ℕ) (known : List Bool) (K v : ℕ) → K < MAX_INHERITED → Full (setting values known) → Right (setting values known)
      → v ≡ cell T S a st K → Right (setting (set values K v) (set known K true))
  set-right values known K v l (long, also-long) right e J = by (ℕ_discrete J K)
    where
      by : Dec (J ≡ K)
          → (Known (set known K true) J → J < MAX_INHERITED → value_at (set values K v) J ≡ cell T S a st J)
          × (get_or (set known K true) J true ≡ false → value_at (set values K v) J ≡ 0)
      by (yes p) =
          let here : value_at (set values K v) K ≡ v = get_or-set_same values K v 0 (omega arith) in
          let set-now : Known (set known K true) K = get_or-set_same known K true true (omega arith) in
          (λ k m. rw p (here ∙ e), λ n. true-false set-now (rw p at n))
      by (no n) =
          let same = get_or-set_other values K J v 0 n in
          let as_before = get_or-set_other known K J true true n in
          (λ k m. same ∙ (right J).0 (sym as_before ∙ k) m, λ k. same ∙ (right J).1 (sym as_before ∙ k))

  set_line-right : Keeps (set_line b member st) (λ s. Full s × Right s) (definitions b)
  set_line-right d l s (full, right) = ((setting-growing b member st).keeps d l s full, by s full right)
    where
      room : (line_at b d).attribute < MAX_INHERITED
      room = let k = (L.line_right d l).attribute_there in let most = L.attributes_limit in omega arith

      by : (s : Setting) → Full s → Right s → Right (set_line b member st d s)
      by (setting values known) full right = set_line-by b member st Right d values known right λ e h.
          set-right values known (line_at b d).attribute _ room full right (line-value values known right d l h)

  settled-right : Full (settled b member st) × Right (settled b member st)
  unfolding settled
  settled-right = passes-keep (set_line b member st) (λ s. Full s × Right s) set_in (definitions b) set_line-right unset (unset-full, nothing)
    where
      nothing : Right unset
      nothing K =
          (λ k l. absurd (none_done MAX_INHERITED K l k), λ k. zeros MAX_INHERITED K)
        where
          zeros : (n K : ℕ) → value_at (replicate n 0) K ≡ 0
          zeros zero K = refl
          zeros (suc n) zero = refl
          zeros (suc n) (suc K) = zeros n K

  -- ---------------------------------------------------------------- the end

  -- the attributes of every chain's next nonterminal are set
  chain-known : (values : List ℕ) (known : List Bool) → settled b member st ≡ setting values known → {P D c B : ℕ} {β : List Symbol} → Chain b S a P D c
      → (K : ℕ) → after b.rules P D ≡ nonterminal B ∷ β → inherited_owner b K ≡ B → Known known K
  unfolding settled
  chain-known values known e chain K h o = chain-settles b (Known known) F S a settles chain K h o
    where
      settles : (P D c B K : ℕ) (β : List Symbol) → Chain b S a P D c → Ready b (Known known) P D → after b.rules P D ≡ nonterminal B ∷ β
          → inherited_owner b K ≡ B → Known known K
      settles P D c B K β chain ready h o =
          let (d, l, (p, j, k)) = L.next_line P D B K β h o in
          let dot : dot_of (line_at b d) ≡ D = omega arith in
          let m : member P D ≡ true = (tells P D).complete (c, chain-partial b chain) in
          let due = (due_in-decides b member known (line_at b d)).complete (rw (p, dot) m, rw (p, dot) ready) in
          let still : set_line b member st d (setting values known) ≡ setting values known =
          rw e at (passes-rest (setting-growing b member st) unset unset-full d l) in
          rw k at (line_known b member st d values known still due)

  module _ (formula-some : (K : ℕ) (f : Formula) → T.formula_at S a K ≡ some f → FromChain b S a K f) where
    -- an attribute past the limit, or that is not set in the end, has no formula
    bare-cell : (values : List ℕ) (known : List Bool) → settled b member st ≡ setting values known → (K : ℕ)
        → (Known known K → K < MAX_INHERITED → ⊥) → cell T S a st K ≡ 0
    unfolding cell formula_value
    bare-cell values known e K never = by (T.formula_at S a K) refl
      where
        chained : {f : Formula} → FromChain b S a K f → ⊥
        chained (from_chain {P = P} {D = D} {β = β} chain h q) =
            let there : K < attributes b = F.next_owned P D _ K β h refl in
            let most = L.attributes_limit in
            never (chain-known values known e chain K h refl) (omega arith)

        by : (x : Option Formula) → T.formula_at S a K ≡ x → formula_value st x ≡ 0
        by none q = refl
        by (some f) q = absurd (chained (formula-some K f q))

    -- "Set the top cell's inherited values by the partial state's formulas, 0 where there is none"
    pub fills-cell : (K : ℕ) → fill_cell b member st K ≡ cell T S a st K
    unfolding fill_cell value_in
    fills-cell K = by (settled b member st) refl settled-right
      where
        by : (s : Setting) → settled b member st ≡ s → Full s × Right s → value_in s K ≡ cell T S a st K
        by (setting values known) e ((long, also-long), right) = at (dec_lt K MAX_INHERITED) (get_or known K true) refl
          where
            at : Dec (K < MAX_INHERITED) → (t : Bool) → get_or known K true ≡ t → value_at values K ≡ cell T S a st K
            at (yes l) true k = (right K).0 k l
            at (yes l) false k = (right K).1 k ∙ sym (bare-cell values known e K λ q m. true-false q k)
            at (no n) t k =
                get_or-eq_default values 0 (omega arith) ∙ sym (bare-cell values known e K λ q m. n m)

-- ---------------------------------------------------------------- a book that is taken

module _ {b : Book} (spelled : Spelled b) (s : Sound b) where
  pub taken-cell : (S a : ℕ) (member : ℕ → ℕ → Bool) → Tells b S a member → (st : List Frame) (K : ℕ)
      → fill_cell b member st K ≡ cell (tables_of b) S a st K
  unfolding tables_of tables_from compiled
  taken-cell S a member tells st =
      let F = formula-premises s.limits s.names s.attributes s.kernel-rules in
      let right = book-items-right b (small-book spelled.ordered s.limits s.names) in
      fills-cell b (tables_of b) (premises spelled s) F (definition-premises spelled.ordered s.limits s.names s.attributes s.definitions) S a st
      member tells (formula-some right F s.one-formula S a)
