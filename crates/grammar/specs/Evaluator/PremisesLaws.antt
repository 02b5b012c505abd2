-- The premises of demand 3 in the form in which the proofs use them: kernel items instead of kernel lines, the table's go, definitions found by
-- their numbers. Assumes no more than these premises.
use Rattle.std.specs.Prelude.{ℕ, zero, suc, ◌≡◌, ◌≢◌, Bool, ◌&&◌, length}
use Rattle.std.proofs.Common.{arith, sym, ◌∙◌}
use Rattle.std.proofs.Math.Path.{refl}
use Rattle.std.proofs.Math.Bool.{true, false}
use Rattle.std.proofs.Math.Option.{some}
use mathlib.Core.List.Memᴰ
use mathlib.Core.List.Memᴰ.{head as in_head}
use mathlib.Core.List.Memᴰ.{tail as in_Tail}
use mathlib.Core.List.{List, [], ◌∷◌, nil≢cons, Memᴰ as Mem}
use Rattle.std.proofs.Math.Dec.{eqb}
use Rattle.std.proofs.Math.Seq.{drop-nil}
use borrow.Author.Tests.{eqb-true}
use Rattle.grammar.specs.Automaton.TestLaws.{both_true}
use Rattle.grammar.specs.Data.ListLaws.{drop-member, get_or-member}
use Rattle.grammar.specs.Data.Symbol.{Symbol, nonterminal, Rule, rule_at, left_of, right_of, after}
use Rattle.grammar.specs.Data.Term.{Leaves, in_number}
use Rattle.grammar.specs.Data.Book.{Place, InheritedDefinition, SynthesizedDefinition, Book, inherited_in, synthesized_in, inherited_owner, inherited_expr}
use Rattle.grammar.specs.Data.Book.{synthesized_expr}
use Rattle.grammar.specs.Automaton.Items.{KernelItem, kernel_item, Closure, kernel}
use Rattle.grammar.specs.Evaluator.Machine.{Tables}
use Rattle.grammar.specs.Evaluator.Premises.{MayRead, Premises}

-- a rule with a right side is a rule of the grammar
rule-member : (G : List Rule) (P D : ℕ) {X : Symbol} {β : List Symbol} → after G P D ≡ X ∷ β → Mem (rule_at G P) G
unfolding rule_at
rule-member [] P D h = absurd (nil≢cons (sym (drop-nil D) ∙ h))
rule-member (r ∷ G) zero D h = in_head refl
rule-member (r ∷ G) (suc P) D h = in_Tail (rule-member G P D h)

-- ---------------------------------------------------------------- definitions found by their numbers

module _ (R : ℕ → ℕ → Place → Type 0) where
  inherited_in-leaves : (ds : List InheritedDefinition) → ((d : InheritedDefinition) → Mem d ds → Leaves (R d.rule d.position) d.expression)
      → (P J K : ℕ) → Leaves (R P J) (inherited_in ds P J K)
  unfolding inherited_in
  inherited_in-leaves [] h P J K = in_number
  inherited_in-leaves (d ∷ ds) h P J K =
      first (eqb d.rule P && (eqb d.position J && eqb d.attribute K)) refl (inherited_in-leaves ds (λ e m. h e (in_Tail m)) P J K)
    where
      first : (t : Bool) → (eqb d.rule P && (eqb d.position J && eqb d.attribute K)) ≡ t → Leaves (R P J) (inherited_in ds P J K)
          → Leaves (R P J) (elim t [ true ↦ d.expression | false ↦ inherited_in ds P J K ])
      first true e rest =
          let (p, q) = both_true _ _ e in
          let same_rule : d.rule ≡ P = eqb-true _ _ p in
          let same-position : d.position ≡ J = eqb-true _ _ (both_true _ _ q).0 in
          rw (← same_rule, ← same-position) (h d (in_head refl))
      first false e rest = rest

  synthesized_in-leaves : (ds : List SynthesizedDefinition) → (J : ℕ → ℕ)
      → ((d : SynthesizedDefinition) → Mem d ds → Leaves (R d.rule (J d.rule)) d.expression) → (P K : ℕ) → Leaves (R P (J P)) (synthesized_in ds P K)
  unfolding synthesized_in
  synthesized_in-leaves [] J h P K = in_number
  synthesized_in-leaves (d ∷ ds) J h P K = first (eqb d.rule P && eqb d.attribute K) refl (synthesized_in-leaves ds J (λ e m. h e (in_Tail m)) P K)
    where
      first : (t : Bool) → (eqb d.rule P && eqb d.attribute K) ≡ t → Leaves (R P (J P)) (synthesized_in ds P K)
          → Leaves (R P (J P)) (elim t [ true ↦ d.expression | false ↦ synthesized_in ds P K ])
      first true e rest =
          let same_rule : d.rule ≡ P = eqb-true _ _ (both_true _ _ e).0 in
          rw (← same_rule) (h d (in_head refl))
      first false e rest = rest

-- ---------------------------------------------------------------- items

module _ (b : Book) where
  -- an item whose dot has moved is of the kernel
  pub dotted : {S P D a : ℕ} → Closure b S P (suc D) a → KernelItem b S P (suc D) a
  dotted (kernel k) = k

module _ (b : Book) (T : Tables) (H : Premises b T) where
  pub inherited-leaves : (P J K : ℕ) → Leaves (MayRead b P J) (inherited_expr b P J K)
  inherited-leaves = inherited_in-leaves (MayRead b) b.inherited_definitions H.inherited_reads

  pub synthesized-leaves : (P K : ℕ) → Leaves (MayRead b P (suc (length (right_of b.rules P)))) (synthesized_expr b P K)
  synthesized-leaves = synthesized_in-leaves (MayRead b) b.synthesized_definitions (λ P. suc (length (right_of b.rules P))) H.synthesized_reads

  pub start-length : length (right_of b.rules 0) ≡ 1
  start-length = rw H.start_right

  -- no rule's left side that stands after a dot is rule 0's
  pub start-unreached : (P D : ℕ) {B : ℕ} {β : List Symbol} → after b.rules P D ≡ nonterminal B ∷ β → left_of b.rules 0 ≢ B
  start-unreached P D {B} h e =
      let z : B ≡ 0 = sym e ∙ H.start_left in
      H.start_apart (rule_at b.rules P) (rule-member b.rules P D h) (rw z at (drop-member D (right_of b.rules P) h))

  pub owner-apart : (K : ℕ) → inherited_owner b K ≢ left_of b.rules 0
  owner-apart K e =
      let z : inherited_owner b K ≡ 0 = e ∙ H.start_left in
      H.start_bare (rw z at (get_or-member b.inherited_owners K 32 (λ d. omega arith)))

  pub start-item : KernelItem b 0 0 0 0
  start-item = kernel_item H.kernel-rules.start_there refl refl refl (in_head refl)

  pub start_only : {P D a : ℕ} → KernelItem b 0 P D a → (P ≡ 0) × (D ≡ 0)
  start_only (kernel_item {k = k} m s p d a) = let e = H.kernel-rules.start_only k m s in (cc, cc)

  -- "Rule 0's kernels have t0 alone"
  pub start_lookahead : {S D a : ℕ} → KernelItem b S 0 D a → a ≡ 0
  start_lookahead (kernel_item {k = k} m s p d a) = Memᴰ.eq_of_singleton (rw (H.kernel-rules.start_lookahead k m p) at a)

  -- ---------------------------------------------------------------- the table's go

  pub go_there : {S P D a : ℕ} {X : Symbol} {β : List Symbol} → Closure b S P D a → after b.rules P D ≡ X ∷ β → (M : ℕ) × (T.go S X ≡ some M)
  go_there {S} {P} {D} {a} {X} {β} c h = let (M, e) = H.go-rules.go_there S P D a X β c h in (M, H.go_table S X ∙ e)

  pub go_has : {S P D a M : ℕ} {X : Symbol} {β : List Symbol} → T.go S X ≡ some M → Closure b S P D a → after b.rules P D ≡ X ∷ β
      → KernelItem b M P (suc D) a
  go_has {S} {P} {D} {a} {M} {X} {β} g c h = H.go-rules.go_has S P D a M X β (sym (H.go_table S X) ∙ g) c h

  pub go-back : {S P D a M : ℕ} {X : Symbol} → T.go S X ≡ some M → KernelItem b M P D a
      → (D' : ℕ) × (c : ℕ) × (β : List Symbol) × (D ≡ suc D') × Closure b S P D' c × (after b.rules P D' ≡ X ∷ β)
  go-back {S} {P} {D} {a} {M} {X} g (kernel_item {k = k} m s p d l) =
      let (D', c, β, e, cl, h) = H.go-rules.go_only S M X k (sym (H.go_table S X) ∙ g) m s in
      rw (← p) (D', c, β, sym d ∙ e, cl, h)
