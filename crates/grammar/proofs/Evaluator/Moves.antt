-- Single moves of the stack evaluator: what it does where the action is known, and what is known where it goes on or accepts. Assumes nothing.
use Rattle.std.specs.Prelude.{ℕ, suc, ◌+◌, ◌<◌, ◌≡◌, refl, length}
use Rattle.std.proofs.Common.{arith, ◌∙◌}
use Rattle.std.proofs.Math.Path.{ap}
use Rattle.std.proofs.Math.Option.{Option, none, some}
use mathlib.Core.List.{List, [], ◌∷◌, ◌++◌}
use Rattle.grammar.specs.Limits.{MAX_ROWS, MAX_STACK}
use Rattle.grammar.specs.Data.Symbol.{Symbol, terminal, nonterminal, left_of, right_of}
use Rattle.grammar.specs.Data.Book.{Book}
use Rattle.grammar.specs.Automaton.States.{shift, accept, reduce}
use Rattle.grammar.specs.Evaluator.Tree.{Token, next}
use Rattle.grammar.specs.Evaluator.Decorated.{Values, Result, token, values, synthesized_from}
use Rattle.grammar.specs.Evaluator.Rows.{Row, row_of_token, row_of_node}
use Rattle.grammar.specs.Evaluator.Machine.{Tables, Frame, frame, Config, config, refused, accepted, Step, more, stop, cell, popped, pop, within, room_for_row}
use Rattle.grammar.specs.Evaluator.Machine.{room_for_symbol, room_for_rule, arrive, shift_token, push_left, perform, step}

-- ---------------------------------------------------------------- limits

within-yes : {A : Type 0} (d : Dec A) (n : ℕ) (s : Step) → A → within d n s ≡ s
unfolding within
within-yes (yes h) n s a = refl
within-yes (no h) n s a = absurd (h a)

within-no : {A : Type 0} (d : Dec A) (n : ℕ) (s : Step) → ¬ A → within d n s ≡ stop (refused n)
unfolding within
within-no (yes h) n s a = absurd (a h)
within-no (no h) n s a = refl

row_room : (rs : List Row) (s : Step) → length rs < MAX_ROWS → room_for_row rs s ≡ s
unfolding room_for_row
row_room rs s h = within-yes _ _ _ h

no_row_room : (rs : List Row) (s : Step) → ¬ (length rs < MAX_ROWS) → room_for_row rs s ≡ stop (refused 16)
unfolding room_for_row
no_row_room rs s h = within-no _ _ _ h

symbol-room : (st : List Frame) (s : Step) → length st < MAX_STACK → room_for_symbol st s ≡ s
unfolding room_for_symbol
symbol-room st s h = within-yes _ _ _ h

no-symbol-room : (st : List Frame) (s : Step) → ¬ (length st < MAX_STACK) → room_for_symbol st s ≡ stop (refused 17)
unfolding room_for_symbol
no-symbol-room st s h = within-no _ _ _ h

rule-room : (γ : List Symbol) (st : List Frame) (s : Step) → length st < MAX_STACK + length γ → room_for_rule γ st s ≡ s
unfolding room_for_rule
rule-room [] st s h = symbol-room st s (omega arith)
rule-room (X ∷ γ) st s h = refl

-- ---------------------------------------------------------------- what a move does

module _ (b : Book) (T : Tables) where
  -- the machine after a shift, and after a reduce that pops down to the state S with the cell i and the start q
  abbrev pub shifted : Token → List Frame → ℕ → ℕ → List Token → ℕ → List Row → Config
  shifted k st S M z p rs = config (frame S (cell T S k.kind st) (token k.value) p ∷ st) M z (suc p) (rs ++ (row_of_token k p ∷ []))

  abbrev pub reduced : ℕ → ℕ → Values → ℕ → List Frame → Values → ℕ → List Token → ℕ → List Row → Config
  reduced P S i q st s M z p rs = config (frame S i (values s) q ∷ st) M z p (rs ++ (row_of_node b P q i s ∷ []))

  module _ (k : Token) {S : ℕ} (st : List Frame) (z : List Token) (p : ℕ) (rs : List Row) (e : T.act S k.kind ≡ some shift) where
    pub shift-moves : {M : ℕ} → T.go S (terminal k.kind) ≡ some M → length rs < MAX_ROWS → length st < MAX_STACK
        → step b T (config st S (k ∷ z) p rs) ≡ more (shifted k st S M z p rs)
    unfolding step perform shift_token arrive
    shift-moves g hr hd =
        ap (λ a. perform b T a st S (k ∷ z) p rs) e ∙ row_room rs _ hr ∙ symbol-room st _ hd
        ∙ ap (λ o. arrive o (frame S (cell T S k.kind st) (token k.value) p ∷ st) z (suc p) (rs ++ (row_of_token k p ∷ []))) g

    pub shift-16 : ¬ (length rs < MAX_ROWS) → step b T (config st S (k ∷ z) p rs) ≡ stop (refused 16)
    unfolding step perform
    shift-16 hr = ap (λ a. perform b T a st S (k ∷ z) p rs) e ∙ no_row_room rs _ hr

    pub shift-17 : length rs < MAX_ROWS → ¬ (length st < MAX_STACK) → step b T (config st S (k ∷ z) p rs) ≡ stop (refused 17)
    unfolding step perform
    shift-17 hr hd = ap (λ a. perform b T a st S (k ∷ z) p rs) e ∙ row_room rs _ hr ∙ no-symbol-room st _ hd

  module _ {P R : ℕ} (st : List Frame) (z : List Token) (p : ℕ) (rs : List Row) (e : T.act R (next z) ≡ some (reduce P)) where
    pub reduce-moves : {S q M : ℕ} {i : Values} {cs : List Result} (below : List Frame)
        → pop (length (right_of b.rules P)) R (cell T R (next z) st) p st [] ≡ popped S i q below cs
        → T.go S (nonterminal (left_of b.rules P)) ≡ some M → length rs < MAX_ROWS → length st < MAX_STACK + length (right_of b.rules P)
        → step b T (config st R z p rs) ≡ more (reduced P S i q below (synthesized_from b P i cs) M z p rs)
    unfolding step perform push_left arrive
    reduce-moves {S} {q} {M} {i} {cs} below back g hr hd =
        ap (λ a. perform b T a st R z p rs) e ∙ row_room rs _ hr ∙ rule-room (right_of b.rules P) st _ hd ∙ ap (λ b'. push_left b T P b' z p rs) back
        ∙ ap (λ o. arrive o (frame S i (values (synthesized_from b P i cs)) q ∷ below) z p (rs ++ (row_of_node b P q i (synthesized_from b P i cs) ∷ []))) g

    pub reduce-16 : ¬ (length rs < MAX_ROWS) → step b T (config st R z p rs) ≡ stop (refused 16)
    unfolding step perform
    reduce-16 hr = ap (λ a. perform b T a st R z p rs) e ∙ no_row_room rs _ hr

    pub reduce-17 : length rs < MAX_ROWS → right_of b.rules P ≡ [] → ¬ (length st < MAX_STACK) → step b T (config st R z p rs) ≡ stop (refused 17)
    unfolding step perform room_for_rule
    reduce-17 hr ee hd =
        ap (λ a. perform b T a st R z p rs) e ∙ row_room rs _ hr
        ∙ ap (λ γ. room_for_rule γ st (push_left b T P (pop (length (right_of b.rules P)) R (cell T R (next z) st) p st []) z p rs)) ee
        ∙ no-symbol-room st _ hd

  pub accept-halts : {S : ℕ} (st : List Frame) (p : ℕ) (rs : List Row) → T.act S 0 ≡ some accept → step b T (config st S [] p rs) ≡ stop (accepted rs)
  unfolding step perform
  accept-halts {S} st p rs e = ap (λ a. perform b T a st S [] p rs) e

-- ---------------------------------------------------------------- a step that goes on

within_more : {A : Type 0} (d : Dec A) (n : ℕ) {s : Step} {c : Config} → within d n s ≡ more c → A × (s ≡ more c)
unfolding within
within_more (yes h) n e = (h, e)
within_more (no h) n e = let z : ◌≡◌ {A = ℕ} 0 1 = cc in absurd (omega arith)

pub row_more : (rs : List Row) {s : Step} {c : Config} → room_for_row rs s ≡ more c → (length rs < MAX_ROWS) × (s ≡ more c)
unfolding room_for_row
row_more rs e = within_more _ _ e

pub symbol-more : (st : List Frame) {s : Step} {c : Config} → room_for_symbol st s ≡ more c → s ≡ more c
unfolding room_for_symbol
symbol-more st e = (within_more _ _ e).1

pub rule-more : (γ : List Symbol) (st : List Frame) {s : Step} {c : Config} → room_for_rule γ st s ≡ more c → s ≡ more c
unfolding room_for_rule
rule-more [] st e = symbol-more st e
rule-more (X ∷ γ) st e = e

pub arrive-more : (o : Option ℕ) (st : List Frame) (z : List Token) (p : ℕ) (rs : List Row) {c : Config} → arrive o st z p rs ≡ more c
    → (S : ℕ) × (o ≡ some S) × (c ≡ config st S z p rs)
unfolding arrive
arrive-more none st z p rs e = let z : ◌≡◌ {A = ℕ} 0 1 = cc in absurd (omega arith)
arrive-more (some S) st z p rs e = (S, refl, cc)

-- ---------------------------------------------------------------- a step that accepts

within-accepted : {A : Type 0} (d : Dec A) (n : ℕ) {s : Step} {rs : List Row} → within d n s ≡ stop (accepted rs) → s ≡ stop (accepted rs)
unfolding within
within-accepted (yes h) n e = e
within-accepted (no h) n e = cc

pub row-accepted : (qs : List Row) {s : Step} {rs : List Row} → room_for_row qs s ≡ stop (accepted rs) → s ≡ stop (accepted rs)
unfolding room_for_row
row-accepted qs e = within-accepted _ _ e

pub symbol-accepted : (st : List Frame) {s : Step} {rs : List Row} → room_for_symbol st s ≡ stop (accepted rs) → s ≡ stop (accepted rs)
unfolding room_for_symbol
symbol-accepted st e = within-accepted _ _ e

pub rule-accepted : (γ : List Symbol) (st : List Frame) {s : Step} {rs : List Row} → room_for_rule γ st s ≡ stop (accepted rs) → s ≡ stop (accepted rs)
unfolding room_for_rule
rule-accepted [] st e = symbol-accepted st e
rule-accepted (X ∷ γ) st e = e

pub arrive-accepted : (o : Option ℕ) (st : List Frame) (z : List Token) (p : ℕ) (rs : List Row) {qs : List Row} → arrive o st z p rs ≡ stop (accepted qs) → ⊥
unfolding arrive
arrive-accepted none st z p rs e = let z : ◌≡◌ {A = ℕ} 0 1 = cc in omega arith
arrive-accepted (some S) st z p rs e = let z : ◌≡◌ {A = ℕ} 0 1 = cc in omega arith
