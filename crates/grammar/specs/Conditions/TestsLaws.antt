-- The tests of Tests.antt decide the conditions 3 to 6 of Meaning.antt. Assumes nothing.
use Rattle.std.specs.Prelude.{ℕ, ◌+◌, ◌≡◌, refl, Bool, List, [], ◌∷◌}
use Rattle.std.proofs.Common.{arith, ap}
use Rattle.std.proofs.Math.ListN.{length}
use Rattle.grammar.specs.Conditions.Decides.{Decides, true-decides, false-decides, equivalent, le-decides, lt-decides, eq-decides, then-decides}
use Rattle.grammar.specs.Conditions.Decides.{and-decides, and3-decides, and4-decides, and5-decides, if-decides, one_to-decides, all-decides, any-decides}
use Rattle.grammar.specs.Conditions.Decides.{all_below-decides, all_one_to-decides, few-decides}
use Rattle.grammar.specs.Limits.{MAX_TERMINALS, MAX_NONTERMINALS, MAX_STATES, MAX_INHERITED, MAX_SYNTHESIZED, MAX_OWNED, MAX_RULES, MAX_RIGHT}
use Rattle.grammar.specs.Limits.{MAX_DEFINITIONS, MAX_NODES, MAX_KERNELS, MAX_STATE_KERNELS, MAX_GOES}
use Rattle.grammar.specs.Data.Symbol.{Symbol, terminal, nonterminal, left_of, right_of, symbol_at}
use Rattle.grammar.specs.Data.Term.{Term, number, leaf, both, pick, nodes, Leaves, in_number, in_leaf, in_both, in_pick}
use Rattle.grammar.specs.Data.LeavesLaws.{of-leaf, of_both, of_pick}
use Rattle.grammar.specs.Data.Book.{Place, own, at, val, InheritedDefinition, SynthesizedDefinition, Kernel, Go, Book}
use Rattle.grammar.specs.Data.Book.{inherited_owner, synthesized_owner}
use Rattle.grammar.specs.Conditions.Meaning.{kernel_states, Before, WithinLimits, RightSymbol, GoSymbol, IsInherited, IsSynthesized, IsPosition}
use Rattle.grammar.specs.Conditions.Meaning.{DeclaredPlace, DeclaredInherited, DeclaredSynthesized, DeclaredKernel, DeclaredGo, Declared, NonterminalAt}
use Rattle.grammar.specs.Conditions.Meaning.{OwnedPlace, OwnedInherited, OwnedSynthesized, Owned, DefinesInherited, DefinesSynthesized, Defined}
use Rattle.grammar.specs.Conditions.Tests.{all_leaves, is_nonterminal, is_terminal, one_nonterminal, before, sizes_fit, attributes_fit, rules_fit}
use Rattle.grammar.specs.Conditions.Tests.{definitions_fit, states_fit, within_limits, right_symbol, go_symbol, is_position, declared_place}
use Rattle.grammar.specs.Conditions.Tests.{declared_inherited, declared_synthesized, declared_kernel, declared_go, owners_declared, rules_declared, declared}
use Rattle.grammar.specs.Conditions.Tests.{nonterminal_at, owned_place, owned_inherited, owned_synthesized, owned, defines_inherited, defines_synthesized}
use Rattle.grammar.specs.Conditions.Tests.{right_defined, left_defined, defined}

pub all_leaves-decides : {A : Type 0} {f : A → Bool} {R : A → Type 0} → ((a : A) → Decides (f a) (R a)) → (e : Term A) → Decides (all_leaves f e) (Leaves R e)
unfolding all_leaves
all_leaves-decides d (number n) = true-decides in_number
all_leaves-decides d (leaf a) = equivalent in_leaf of-leaf (d a)
all_leaves-decides d (both o s t) = equivalent (λ (x, y). in_both x y) of_both (then-decides (all_leaves-decides d s) (all_leaves-decides d t))
all_leaves-decides d (pick c s t) =
    equivalent (λ (x, (y, z)). in_pick x y z) (λ l. let (x, y, z) = of_pick l in (x, (y, z)))
    (then-decides (all_leaves-decides d c) (then-decides (all_leaves-decides d s) (all_leaves-decides d t)))

is_nonterminal-decides : (A : ℕ) (X : Symbol) → Decides (is_nonterminal A X) (X ≡ nonterminal A)
unfolding is_nonterminal
is_nonterminal-decides A (terminal t) = false-decides λ e. let z : ◌≡◌ {A = ℕ} 0 1 = cc in omega arith
is_nonterminal-decides A (nonterminal B) = equivalent (ap nonterminal) (λ e. cc) (eq-decides B A)

is_terminal-decides : (X : Symbol) → Decides (is_terminal X) ((t : ℕ) × (X ≡ terminal t))
unfolding is_terminal
is_terminal-decides (terminal t) = true-decides (t, refl)
is_terminal-decides (nonterminal A) = false-decides λ (t, e). let z : ◌≡◌ {A = ℕ} 0 1 = cc in omega arith

one_nonterminal-decides : (β : List Symbol) → Decides (one_nonterminal β) ((B : ℕ) × (β ≡ nonterminal B ∷ []))
unfolding one_nonterminal
one_nonterminal-decides [] = false-decides λ (B, e). let z : ◌≡◌ {A = ℕ} 0 1 = cc in omega arith
one_nonterminal-decides (terminal t ∷ β) = false-decides λ (B, e). let z : ◌≡◌ {A = ℕ} 0 1 = cc in omega arith
one_nonterminal-decides (nonterminal B ∷ []) = true-decides (B, refl)
one_nonterminal-decides (nonterminal B ∷ X ∷ β) = false-decides λ (B, e). let z : ◌≡◌ {A = ℕ} 0 1 = cc in omega arith

before-decides : (J : ℕ) (p : Place) → Decides (before J p) (Before J p)
unfolding before
before-decides J (own K) = true-decides tt
before-decides J (at I K) = lt-decides I J
before-decides J (val I) = lt-decides I J

module _ (b : Book) where
  pub within_limits-decides : Decides (within_limits b) (WithinLimits b)
  unfolding within_limits sizes_fit attributes_fit rules_fit definitions_fit states_fit
  within_limits-decides =
      let terminals = one_to-decides MAX_TERMINALS b.terminals in
      let nonterminals = one_to-decides MAX_NONTERMINALS b.nonterminals in
      let states = one_to-decides MAX_STATES b.states in
      let inherited = le-decides (length b.inherited_owners) MAX_INHERITED in
      let synthesized = le-decides (length b.synthesized_owners) MAX_SYNTHESIZED in
      let inherited_each = few-decides MAX_OWNED b.inherited_owners in
      let synthesized_each = few-decides MAX_OWNED b.synthesized_owners in
      let rules = one_to-decides MAX_RULES (length b.rules) in
      let right = all-decides (λ r. le-decides (length r.right) MAX_RIGHT) b.rules in
      let definitions = le-decides (length b.inherited_definitions + length b.synthesized_definitions) MAX_DEFINITIONS in
      let inherited_nodes = all-decides (λ d. le-decides (nodes d.expression) MAX_NODES) b.inherited_definitions in
      let synthesized_nodes = all-decides (λ d. le-decides (nodes d.expression) MAX_NODES) b.synthesized_definitions in
      let kernels = le-decides (length b.kernels) MAX_KERNELS in
      let kernels_each = few-decides MAX_STATE_KERNELS (kernel_states b) in
      let goes = le-decides (length b.goes) MAX_GOES in
      equivalent
      (λ ((t, n, q), (i, s, i-each, s_each), (r, r-each), (d, i-nodes, s-nodes), (k, k-each, g)). record {
        terminals_limit = t;
        nonterminals_limit = n;
        states_limit = q;
        inherited_limit = i;
        synthesized_limit = s;
        inherited_each = i-each;
        synthesized_each = s_each;
        rules_limit = r;
        right_limit = r-each;
        definitions_limit = d;
        inherited_nodes = i-nodes;
        synthesized_nodes = s-nodes;
        kernels_limit = k;
        kernels_each = k-each;
        goes_limit = g;
      })
      (λ w. (
        (w.terminals_limit, w.nonterminals_limit, w.states_limit),
        (w.inherited_limit, w.synthesized_limit, w.inherited_each, w.synthesized_each),
        (w.rules_limit, w.right_limit),
        (w.definitions_limit, w.inherited_nodes, w.synthesized_nodes),
        (w.kernels_limit, w.kernels_each, w.goes_limit),
      ))
      (and5-decides
      (and3-decides terminals nonterminals states)
      (and4-decides inherited synthesized inherited_each synthesized_each)
      (and-decides rules right)
      (and3-decides definitions inherited_nodes synthesized_nodes)
      (and3-decides kernels kernels_each goes))

  right_symbol-decides : (X : Symbol) → Decides (right_symbol b X) (RightSymbol b X)
  unfolding right_symbol
  right_symbol-decides (terminal t) = one_to-decides b.terminals t
  right_symbol-decides (nonterminal A) = one_to-decides b.nonterminals A

  go_symbol-decides : (X : Symbol) → Decides (go_symbol b X) (GoSymbol b X)
  unfolding go_symbol
  go_symbol-decides (terminal t) = one_to-decides b.terminals t
  go_symbol-decides (nonterminal A) = le-decides A b.nonterminals

  is_position-decides : (P J : ℕ) → Decides (is_position b P J) (IsPosition b P J)
  unfolding is_position
  is_position-decides P J = one_to-decides (length (right_of b.rules P)) J

  declared_place-decides : (P : ℕ) (p : Place) → Decides (declared_place b P p) (DeclaredPlace b P p)
  unfolding declared_place
  declared_place-decides P (own K) = lt-decides K (length b.inherited_owners)
  declared_place-decides P (at J K) = and-decides (is_position-decides P J) (lt-decides K (length b.synthesized_owners))
  declared_place-decides P (val J) = is_position-decides P J

  declared_inherited-decides : (d : InheritedDefinition) → Decides (declared_inherited b d) (DeclaredInherited b d)
  unfolding declared_inherited
  declared_inherited-decides d =
      let rule = lt-decides d.rule (length b.rules) in
      let position = is_position-decides d.rule d.position in
      let attribute = lt-decides d.attribute (length b.inherited_owners) in
      let leaves = all_leaves-decides (declared_place-decides d.rule) d.expression in
      equivalent (λ (r, p, a, l). record { rule_there = r; position_there = p; attribute_there = a; leaves_there = l })
      (λ h. (h.rule_there, h.position_there, h.attribute_there, h.leaves_there)) (and4-decides rule position attribute leaves)

  declared_synthesized-decides : (d : SynthesizedDefinition) → Decides (declared_synthesized b d) (DeclaredSynthesized b d)
  unfolding declared_synthesized
  declared_synthesized-decides d =
      let rule = lt-decides d.rule (length b.rules) in
      let attribute = lt-decides d.attribute (length b.synthesized_owners) in
      let leaves = all_leaves-decides (declared_place-decides d.rule) d.expression in
      equivalent (λ (r, a, l). record { rule_there = r; attribute_there = a; leaves_there = l })
      (λ h. (h.rule_there, h.attribute_there, h.leaves_there)) (and3-decides rule attribute leaves)

  declared_kernel-decides : (k : Kernel) → Decides (declared_kernel b k) (DeclaredKernel b k)
  unfolding declared_kernel
  declared_kernel-decides k =
      let state = lt-decides k.state b.states in
      let rule = lt-decides k.rule (length b.rules) in
      let dot = le-decides k.dot (length (right_of b.rules k.rule)) in
      let lookaheads = all-decides (λ t. le-decides t b.terminals) k.lookaheads in
      equivalent (λ (s, r, d, l). record { state_there = s; rule_there = r; dot_there = d; lookaheads_there = l })
      (λ h. (h.state_there, h.rule_there, h.dot_there, h.lookaheads_there)) (and4-decides state rule dot lookaheads)

  declared_go-decides : (g : Go) → Decides (declared_go b g) (DeclaredGo b g)
  unfolding declared_go
  declared_go-decides g =
      equivalent (λ (s, x, m). record { state_there = s; symbol_there = x; target_there = m })
      (λ h. (h.state_there, h.symbol_there, h.target_there))
      (and3-decides (lt-decides g.state b.states) (go_symbol-decides g.symbol) (lt-decides g.target b.states))

  pub declared-decides : Decides (declared b) (Declared b)
  unfolding declared owners_declared rules_declared
  declared-decides =
      let inherited-owners = all-decides (one_to-decides b.nonterminals) b.inherited_owners in
      let synthesized-owners = all-decides (one_to-decides b.nonterminals) b.synthesized_owners in
      let start_left = eq-decides (left_of b.rules 0) 0 in
      let start_right = one_nonterminal-decides (right_of b.rules 0) in
      let left = all_below-decides (λ P. if-decides (lt-decides 0 P) (one_to-decides b.nonterminals (left_of b.rules P))) (length b.rules) in
      let right = all-decides (λ r. all-decides right_symbol-decides r.right) b.rules in
      let inherited = all-decides declared_inherited-decides b.inherited_definitions in
      let synthesized = all-decides declared_synthesized-decides b.synthesized_definitions in
      let kernels = all-decides declared_kernel-decides b.kernels in
      let goes = all-decides declared_go-decides b.goes in
      equivalent
      (λ ((i, s), (l, r, ls, rs), (di, ds), (k, g)). record {
        inherited-owners = i;
        synthesized-owners = s;
        start_left = l;
        start_right = r;
        left_sides = λ P h q. ls P q h;
        right_symbols = rs;
        inherited-declared = di;
        synthesized-declared = ds;
        kernels-declared = k;
        goes_declared = g;
      })
      (λ h. (
        (h.inherited-owners, h.synthesized-owners),
        (h.start_left, h.start_right, λ P q p. h.left_sides P p q, h.right_symbols),
        (h.inherited-declared, h.synthesized-declared),
        (h.kernels-declared, h.goes_declared),
      ))
      (and4-decides
      (and-decides inherited-owners synthesized-owners)
      (and4-decides start_left start_right left right)
      (and-decides inherited synthesized)
      (and-decides kernels goes))

  nonterminal_at-decides : (P J A : ℕ) → Decides (nonterminal_at b P J A) (NonterminalAt b P J A)
  unfolding nonterminal_at
  nonterminal_at-decides P J A = is_nonterminal-decides A (symbol_at b.rules P J)

  owned_place-decides : (P : ℕ) (p : Place) → Decides (owned_place b P p) (OwnedPlace b P p)
  unfolding owned_place
  owned_place-decides P (own K) = eq-decides (inherited_owner b K) (left_of b.rules P)
  owned_place-decides P (at J K) = nonterminal_at-decides P J (synthesized_owner b K)
  owned_place-decides P (val J) = is_terminal-decides (symbol_at b.rules P J)

  owned_inherited-decides : (d : InheritedDefinition) → Decides (owned_inherited b d) (OwnedInherited b d)
  unfolding owned_inherited
  owned_inherited-decides d =
      let target = nonterminal_at-decides d.rule d.position (inherited_owner b d.attribute) in
      let leaves = all_leaves-decides (owned_place-decides d.rule) d.expression in
      let left = all_leaves-decides (before-decides d.position) d.expression in
      equivalent (λ (t, l, f). record { target_owns = t; leaves-owned = l; leaves_before = f })
      (λ h. (h.target_owns, h.leaves-owned, h.leaves_before)) (and3-decides target leaves left)

  owned_synthesized-decides : (d : SynthesizedDefinition) → Decides (owned_synthesized b d) (OwnedSynthesized b d)
  unfolding owned_synthesized
  owned_synthesized-decides d =
      let left = eq-decides (synthesized_owner b d.attribute) (left_of b.rules d.rule) in
      let leaves = all_leaves-decides (owned_place-decides d.rule) d.expression in
      equivalent (λ (t, l). record { left_owns = t; leaves-owned = l }) (λ h. (h.left_owns, h.leaves-owned)) (and-decides left leaves)

  pub owned-decides : Decides (owned b) (Owned b)
  unfolding owned
  owned-decides =
      equivalent (λ (i, s). record { inherited_owned = i; synthesized_owned = s }) (λ h. (h.inherited_owned, h.synthesized_owned))
      (and-decides (all-decides owned_inherited-decides b.inherited_definitions) (all-decides owned_synthesized-decides b.synthesized_definitions))

  defines_inherited-decides : (P J K : ℕ) → Decides (defines_inherited b P J K) (DefinesInherited b P J K)
  unfolding defines_inherited
  defines_inherited-decides P J K =
      any-decides (λ d. and3-decides (eq-decides d.rule P) (eq-decides d.position J) (eq-decides d.attribute K)) b.inherited_definitions

  defines_synthesized-decides : (P K : ℕ) → Decides (defines_synthesized b P K) (DefinesSynthesized b P K)
  unfolding defines_synthesized
  defines_synthesized-decides P K = any-decides (λ d. and-decides (eq-decides d.rule P) (eq-decides d.attribute K)) b.synthesized_definitions

  right_defined-decides : (P J : ℕ)
      → Decides (right_defined b P J) ((K : ℕ) → IsInherited b K → NonterminalAt b P J (inherited_owner b K) → DefinesInherited b P J K)
  unfolding right_defined
  right_defined-decides P J =
      all_below-decides (λ K. if-decides (nonterminal_at-decides P J (inherited_owner b K)) (defines_inherited-decides P J K)) (length b.inherited_owners)

  left_defined-decides : (P : ℕ)
      → Decides (left_defined b P) ((K : ℕ) → IsSynthesized b K → synthesized_owner b K ≡ left_of b.rules P → DefinesSynthesized b P K)
  unfolding left_defined
  left_defined-decides P =
      all_below-decides (λ K. if-decides (eq-decides (synthesized_owner b K) (left_of b.rules P)) (defines_synthesized-decides P K))
      (length b.synthesized_owners)

  pub defined-decides : Decides (defined b) (Defined b)
  unfolding defined
  defined-decides =
      equivalent
      (λ f. record { inherited-defined = λ P J K p j k. (f P p).0 J j K k; synthesized-defined = λ P K p k. (f P p).1 K k })
      (λ h P p. (λ J j K k. h.inherited-defined P J K p j k, λ K k. h.synthesized-defined P K p k))
      (all_below-decides (λ P. and-decides (all_one_to-decides (right_defined-decides P) (length (right_of b.rules P))) (left_defined-decides P))
      (length b.rules))
