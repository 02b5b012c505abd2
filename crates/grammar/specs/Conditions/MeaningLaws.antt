-- What follows from the conditions 3 to 6 for every rule, place and attribute number, in the forms that later proofs use. Assumes nothing.
use Prim.Native.Nat.{ℕ, zero, suc, ◌≤◌, ◌<◌, zero-le}
use Rattle.std.proofs.Common.{arith, inl, inr}
use Rattle.std.specs.Prelude.{◌≡◌, refl, ◌≢◌, ◌⊎◌}
use mathlib.Core.List.Memᴰ.{head as in_head}
use mathlib.Core.List.Memᴰ.{tail as in_Tail}
use mathlib.Core.List.{List, [], ◌∷◌, Memᴰ as Mem}
use mathlib.Core.List.Memᴰ.{append_cases as in-append}
use mathlib.Core.List.Memᴰ.{not-nil as not-in-nil}
use Rattle.std.proofs.Math.ListN.{length}
use Rattle.grammar.specs.Limits.{MAX_RIGHT}
use Rattle.grammar.specs.Data.Symbol.{Symbol, terminal, nonterminal, rule_at, left_of, right_of, after}
use Rattle.grammar.specs.Data.Term.{Leaves, in_number}
use Rattle.grammar.specs.Data.LeavesLaws.{leaves_map, leaves-join}
use Rattle.grammar.specs.Data.Book.{Place, own, at, val, Book, owner_at, inherited_owner, synthesized_owner, inherited_expr, synthesized_expr}
use Rattle.grammar.specs.Automaton.First.{First, past, here, expand}
use Rattle.grammar.specs.Automaton.Items.{KernelItem, kernel_item, derives, Closure, kernel, close}
use Rattle.grammar.specs.Conditions.Meaning.{Before, WithinLimits, IsNonterminal, IsState, IsInherited, IsSynthesized, IsRule, IsPosition}
use Rattle.grammar.specs.Conditions.Meaning.{RightSymbol, DeclaredPlace, DeclaredKernel, Declared, NonterminalAt, TerminalAt, OwnedPlace, Owned}
use Rattle.grammar.specs.Conditions.Meaning.{DefinesInherited, Defined}
use Rattle.grammar.specs.Data.AfterLaws.{get_or-all, drop-in, after-rule, after-position, after-symbol}
use Rattle.grammar.specs.Data.DefinitionLaws.{inherited-by, synthesized-by}

-- the owner past the last attribute is 32
owner-inside : (owners : List ℕ) (K : ℕ) → owner_at owners K < 32 → K < length owners
owner-inside [] K h = absurd (omega arith)
owner-inside (A ∷ owners) zero h = omega arith
owner-inside (A ∷ owners) (suc K) h = let l : K < length owners = owner-inside owners K h in omega arith

-- 3, at every number: where there is no such rule, nothing is too long
module _ {b : Book} (w : WithinLimits b) where
  pub right-length : (P : ℕ) → length (right_of b.rules P) ≤ MAX_RIGHT
  unfolding rule_at
  right-length P = get_or-all (λ r. length r.right ≤ MAX_RIGHT) b.rules P _ w.right_limit zero-le

  -- an attribute whose owner is a nonterminal of the book has a line
  pub inherited-exists : (K : ℕ) → IsNonterminal b (inherited_owner b K) → IsInherited b K
  inherited-exists K n = owner-inside b.inherited_owners K (omega arith)

-- 4, at every number
module _ {b : Book} (h : Declared b) where
  -- n0 owns nothing
  pub no-inherited-start : (K : ℕ) → inherited_owner b K ≢ 0
  no-inherited-start K =
      get_or-all (λ A. A ≢ 0) b.inherited_owners K 32 (λ A m e. let n : IsNonterminal b A = h.inherited-owners A m in omega arith) (λ e. omega arith)

  -- every right symbol is declared
  pub symbols-declared : (P : ℕ) (X : Symbol) → Mem X (right_of b.rules P) → RightSymbol b X
  unfolding rule_at
  symbols-declared P = get_or-all (λ r. (X : Symbol) → Mem X r.right → RightSymbol b X) b.rules P _ h.right_symbols λ X m. absurd (not-in-nil m)

  pub right-declared : (P D : ℕ) {X : Symbol} {β : List Symbol} → after b.rules P D ≡ X ∷ β → RightSymbol b X
  right-declared P D {X} e = symbols-declared P X (drop-in D (right_of b.rules P) e (in_head refl))

  -- rule 0 alone has the left side n0
  pub start_only : (P : ℕ) → IsRule b P → left_of b.rules P ≡ 0 → P ≡ 0
  start_only zero p e = refl
  start_only (suc P) p e = let n : IsNonterminal b (left_of b.rules (suc P)) = h.left_sides (suc P) (omega arith) p in absurd (omega arith)

  pub left-declared : (P : ℕ) → IsRule b P → left_of b.rules P ≤ b.nonterminals
  left-declared zero p = rw h.start_left zero-le
  left-declared (suc P) p = (h.left_sides (suc P) (omega arith) p).high

-- what a definition in rule P may read where the positions before J are in reach: own attributes of the left side, and synthesized attributes of the
-- nonterminals and values of the terminals that stand there
abbrev pub Reads : Book → ℕ → ℕ → Place → Type 0
Reads b P J (own K) = IsInherited b K × (inherited_owner b K ≡ left_of b.rules P)
Reads b P J (at I K) = IsPosition b P I × (I < J) × IsSynthesized b K × NonterminalAt b P I (synthesized_owner b K)
Reads b P J (val I) = IsPosition b P I × (I < J) × TerminalAt b P I

reads_before : (b : Book) (P J : ℕ) (p : Place) → (DeclaredPlace b P p × OwnedPlace b P p) × Before J p → Reads b P J p
reads_before b P J (own K) ((k, e), l) = (k, e)
reads_before b P J (at I K) (((i, k), e), l) = (i, l, k, e)
reads_before b P J (val I) ((i, e), l) = (i, l, e)

reads_whole : (b : Book) (P : ℕ) (p : Place) → DeclaredPlace b P p × OwnedPlace b P p → Reads b P (suc (length (right_of b.rules P))) p
reads_whole b P (own K) (k, e) = (k, e)
reads_whole b P (at I K) ((i, k), e) = (i, omega arith, k, e)
reads_whole b P (val I) (i, e) = (i, omega arith, e)

-- 4 and 5, at every number: an inherited attribute's definition reads left of its symbol, a synthesized one's the whole right side
module _ {b : Book} (h : Declared b) (o : Owned b) where
  pub inherited_reads : (P J K : ℕ) → Leaves (Reads b P J) (inherited_expr b P J K)
  inherited_reads P J K = inherited-by (Leaves (Reads b P J)) P J K b.inherited_definitions (λ none. in_number) λ d m (p, j, k).
      let there = (h.inherited-declared d m).leaves_there in
      let owned = o.inherited_owned d m in
      rw (← p, ← j) (leaves_map (reads_before b d.rule d.position) (leaves-join (leaves-join there owned.leaves-owned) owned.leaves_before))

  pub synthesized_reads : (P K : ℕ) → Leaves (Reads b P (suc (length (right_of b.rules P)))) (synthesized_expr b P K)
  synthesized_reads P K =
      synthesized-by (Leaves (Reads b P (suc (length (right_of b.rules P))))) P K b.synthesized_definitions (λ none. in_number) λ d m (p, k).
      rw (← p) (leaves_map (reads_whole b d.rule) (leaves-join (h.synthesized-declared d m).leaves_there (o.synthesized_owned d m).leaves-owned))

-- 6, where it is used: the attributes of the symbol after a dot have the definition of some line
module _ {b : Book} (w : WithinLimits b) (h : Declared b) (c : Defined b) where
  pub next-defined : (P D B K : ℕ) {β : List Symbol} → after b.rules P D ≡ nonterminal B ∷ β → inherited_owner b K ≡ B → DefinesInherited b P (suc D) K
  next-defined P D B K e q =
      c.inherited-defined P (suc D) K (after-rule b.rules P D e) (after-position b.rules P D e) (inherited-exists w K (rw q (right-declared h P D e)))
      (rw q (after-symbol b.rules P D e))

-- an item that 4 lets stand: of a state of the book, a rule of the book, a dot in it, a terminal of the book or the end mark
pub record DeclaredItem (b : Book) (S P D a : ℕ) : Type 0 where
  pub state_there : IsState b S
  pub rule_there : IsRule b P
  pub dot_there : D ≤ length (right_of b.rules P)
  pub lookahead_there : a ≤ b.terminals

module _ {b : Book} (h : Declared b) where
  pub kernel-declared : {S P D a : ℕ} → KernelItem b S P D a → DeclaredItem b S P D a
  kernel-declared {a = a} (kernel_item {k = k} m s p d l) =
      let c : DeclaredKernel b k = h.kernels-declared k m in
      record {
        state_there = rw s at c.state_there;
        rule_there = rw p at c.rule_there;
        dot_there = rw (d, p) at c.dot_there;
        lookahead_there = c.lookaheads_there a l;
      }

  -- a terminal of FIRST(βb) is b or a terminal of the book, if β holds right symbols only
  pub first-declared : {β : List Symbol} {c a : ℕ} → First b.rules β c a → ((X : Symbol) → Mem X β → RightSymbol b X) → c ≤ b.terminals → a ≤ b.terminals
  first-declared past f l = l
  first-declared (here {a = a}) f l = (f (terminal a) (in_head refl)).high
  first-declared (expand {P = P} {β = β} p e r) f l = first-declared r (λ X m. go X (in-append (right_of b.rules P) m)) l
    where
      go : (X : Symbol) → Mem X (right_of b.rules P) ⊎ Mem X β → RightSymbol b X
      go X (inl m) = symbols-declared h P X m
      go X (inr m) = f X (in_Tail m)

  pub closure-declared : {S P D a : ℕ} → Closure b S P D a → DeclaredItem b S P D a
  closure-declared (kernel i) = kernel-declared i
  closure-declared (close {P = P} {D = D} c (derives e q l f)) =
      let i : DeclaredItem b _ P D _ = closure-declared c in
      record {
        state_there = i.state_there;
        rule_there = q;
        dot_there = zero-le;
        lookahead_there = first-declared f (λ X m. symbols-declared h P X (drop-in D (right_of b.rules P) e (in_Tail m))) i.lookahead_there;
      }
