-- Condition 3: what the loops over lines keep true, that ascending numbers repeat in one run, and that the parts make the whole.
-- Assumes nothing.
use Rattle.std.specs.Prelude.{ℕ, zero, suc, ◌+◌, ◌*◌, ◌-◌, ◌≤◌, ◌<◌, ◌≡◌, true, ◌&&◌, not, Bool, false, cond, List, map, eqb, leb, length, get_or, refl}
use Rattle.std.proofs.Common.{sym, ap₂, ◌∙◌, arith}
use Rattle.std.proofs.Math.Path.{ap}
use Rattle.std.proofs.lemmas.List.{length-map}
use Rattle.std.proofs.Math.ListN.{get_or-map}
use Rattle.std.specs.List.{count_by}
use Rattle.std.proofs.lemmas.List.Recursion.{is_count_by}
use Rattle.grammar.specs.Conditions.Decides.{
  Decides,
  decides-same,
  equivalent,
  le-decides,
  and-decides,
  and3-decides,
  and4-decides,
  OneTo,
  one_to-decides,
  all-decides,
  few-decides,
  count,
  all_below,
}
use Rattle.grammar.specs.Conditions.Tests.{within_limits}
use Rattle.grammar.specs.Conditions.TestsLaws.{within_limits-decides}
use Rattle.grammar.specs.Limits.{
  MAX_TERMINALS,
  MAX_NONTERMINALS,
  MAX_STATES,
  MAX_INHERITED,
  MAX_SYNTHESIZED,
  MAX_OWNED,
  MAX_RULES,
  MAX_RIGHT,
  MAX_DEFINITIONS,
  MAX_NODES,
  MAX_KERNELS,
  MAX_STATE_KERNELS,
  MAX_GOES,
}
use Rattle.grammar.specs.Data.Symbol.{Rule, rule_at}
use Rattle.grammar.specs.Data.Term.{nodes}
use Rattle.grammar.specs.Data.Book.{InheritedDefinition, SynthesizedDefinition, Kernel, Book as Lines}
use Rattle.grammar.specs.Format.Ordered.{Ascends, ascends-[], ascends-∷, kernel_key}
use Rattle.conditions.specs.Runs.{lead, before-lead, Sorted, sorted-[], sorted-∷, apart, few-sorted}
use Rattle.conditions.specs.Answers.{below-same, below-join, all-below}
use Rattle.conditions.specs.Asked.{RuleLines, DefinitionLines, KernelLines}
use Rattle.book.specs.Held.{HasRoom}
use Rattle.conditions.specs.LimitTests.{numbers_within, rights_within, nodes_within, states_within, lines_within}

-- how often a word stands in a list
pub counted-by : (word : ℕ) (words : List ℕ) → count_by (λ (w : ℕ). eqb w word) words ≡ count word words
unfolding count
counted-by word words = sym (is_count_by (count word) (λ (w : ℕ). eqb w word) refl (λ w ws. go (eqb w word) (count word ws)) words)
  where
    go : (t : Bool) (n : ℕ) → elim t [ true ↦ suc n | false ↦ n ] ≡ cond t (1 + n) n
    go true n = omega arith
    go false n = refl

-- every rule's number of right symbols
pub rights-lines : {rules : List ℕ} {n : ℕ} (G : List Rule) → RuleLines rules n G
    → all_below n (λ k. leb (get_or rules (10 * k + 1) 0) MAX_RIGHT) ≡ rights_within G
unfolding rights_within rule_at
rights-lines {rules} {n} G h =
    ap (λ k. all_below k (λ i. leb (get_or rules (10 * i + 1) 0) MAX_RIGHT)) h.count
    ∙ (below-same (length G) (λ i l. ap (λ k. leb k MAX_RIGHT) (h.lines.size_is i l)) ∙ sym (all-below (λ r. leb (length r.right) MAX_RIGHT) _ G))

-- every line's number of nodes
pub nodes-lines : {definitions : List ℕ} {n : ℕ} (b : Lines) → DefinitionLines definitions n b
    → all_below n (λ k. leb (get_or definitions (49 * k + 3) 0) MAX_NODES) ≡ nodes_within b
unfolding nodes_within
nodes-lines {definitions} {n} b h =
    let inherited : List InheritedDefinition = b.inherited_definitions in
    let synthesized : List SynthesizedDefinition = b.synthesized_definitions in
    ap (λ k. all_below k (λ i. leb (get_or definitions (49 * i + 3) 0) MAX_NODES)) h.count
    ∙ (below-join (λ i. leb (get_or definitions (49 * i + 3) 0) MAX_NODES) (length inherited) (length synthesized)
    ∙ ap₂ ◌&&◌
    (below-same (length inherited) (λ i l. ap (λ k. leb k MAX_NODES) (h.lines.inherited_is i l).nodes_is)
    ∙ sym (all-below (λ d. leb (nodes d.expression) MAX_NODES) _ inherited))
    (below-same (length synthesized) (λ i l. ap (λ k. leb k MAX_NODES) (h.lines.synthesized_is i l).nodes_is)
    ∙ sym (all-below (λ d. leb (nodes d.expression) MAX_NODES) _ synthesized)))

-- The states of kernel lines ascend

not-below : {last : List ℕ} {ks : List Kernel} → Ascends kernel_key last ks → (j : ℕ) → j < length (map (λ k. k.state) ks)
    → lead last ≤ get_or (map (λ k. k.state) ks) j 0
unfolding lead kernel_key
not-below ascends-[] j h = absurd (omega arith)
not-below (ascends-∷ b a) zero h = before-lead b
not-below (ascends-∷ b a) (suc j) h = omega (arith, before-lead b, not-below a j (omega arith))

states-sorted : {last : List ℕ} {ks : List Kernel} → Ascends kernel_key last ks → Sorted (map (λ k. k.state) ks)
unfolding lead kernel_key
states-sorted ascends-[] = sorted-[]
states-sorted (ascends-∷ b a) = sorted-∷ (not-below a) (states-sorted a)

pub states-lines : {kernels : List ℕ} {n : ℕ} (ks : List Kernel) → KernelLines kernels n ks
    → all_below (n - MAX_STATE_KERNELS) (λ k. not (eqb (get_or kernels (5 * k) 0) (get_or kernels (5 * (k + MAX_STATE_KERNELS)) 0))) ≡ states_within ks
unfolding states_within
states-lines {kernels} {n} ks h =
    let size : n ≡ length states = h.count ∙ sym (length-map ks (λ k. k.state)) in
    below-same (n - MAX_STATE_KERNELS) (λ i l. ap not (ap₂ eqb (word i (omega arith)) (word (i + MAX_STATE_KERNELS) (omega arith))))
    ∙ (ap (λ (k : ℕ). all_below (k - MAX_STATE_KERNELS) (apart 15 states)) size ∙ sym (few-sorted 15 (states-sorted h.ascend)))
  where
    states : List ℕ
    states = map (λ k. k.state) ks

    word : (i : ℕ) → i < n → get_or kernels (5 * i) 0 ≡ get_or states i 0
    word i l = h.lines.state_is i (omega (arith, h.count)) ∙ sym (get_or-map (λ k. k.state) ks i _)

-- The parts make the whole

module _ (b : Lines) where
  numbers-decides : Decides (numbers_within b) (
      (OneTo MAX_TERMINALS b.terminals × OneTo MAX_NONTERMINALS b.nonterminals × OneTo MAX_STATES b.states)
      × ((length b.inherited_owners ≤ MAX_INHERITED) × (length b.synthesized_owners ≤ MAX_SYNTHESIZED))
      × OneTo MAX_RULES (length b.rules)
      × ((length b.inherited_definitions + length b.synthesized_definitions ≤ MAX_DEFINITIONS) × (length b.kernels ≤ MAX_KERNELS)
      × (length b.goes ≤ MAX_GOES)))
  unfolding numbers_within
  numbers-decides =
      and4-decides
      (and3-decides (one_to-decides MAX_TERMINALS b.terminals) (one_to-decides MAX_NONTERMINALS b.nonterminals) (one_to-decides MAX_STATES b.states))
      (and-decides (le-decides (length b.inherited_owners) MAX_INHERITED) (le-decides (length b.synthesized_owners) MAX_SYNTHESIZED))
      (one_to-decides MAX_RULES (length b.rules))
      (and3-decides (le-decides _ MAX_DEFINITIONS) (le-decides (length b.kernels) MAX_KERNELS) (le-decides (length b.goes) MAX_GOES))

  pub numbers_room : numbers_within b ≡ true → HasRoom b
  numbers_room e =
      let (first, (i, s), r, (d, k, g)) = numbers-decides.sound e in
      record { inherited_room = i; synthesized_room = s; rules_room = r.high; definitions_room = d; kernels_room = k; goes_room = g }

  pub limits-parts : numbers_within b && lines_within b ≡ within_limits b
  unfolding lines_within rights_within nodes_within states_within
  limits-parts =
      decides-same
      (equivalent
      (λ (((t, n, q), (i, s), r, (d, k, g)), ((i-each, s_each), r-each, (i-nodes, s-nodes), k-each)). record {
        terminals_limit = t;
        nonterminals_limit = n;
        states_limit = q;
        inherited_limit = i;
        synthesized_limit = s;
        inherited_each = i-each;
        synthesized_each = s_each;
        rules_limit = r;
        right_limit = r-each;
        definitions_limit = d;
        inherited_nodes = i-nodes;
        synthesized_nodes = s-nodes;
        kernels_limit = k;
        kernels_each = k-each;
        goes_limit = g;
      })
      (λ w. (
        (
          (w.terminals_limit, w.nonterminals_limit, w.states_limit),
          (w.inherited_limit, w.synthesized_limit),
          w.rules_limit,
          (w.definitions_limit, w.kernels_limit, w.goes_limit),
        ),
        ((w.inherited_each, w.synthesized_each), w.right_limit, (w.inherited_nodes, w.synthesized_nodes), w.kernels_each),
      ))
      (and-decides numbers-decides
      (and4-decides (and-decides (few-decides MAX_OWNED b.inherited_owners) (few-decides MAX_OWNED b.synthesized_owners))
      (all-decides (λ r. le-decides (length r.right) MAX_RIGHT) b.rules)
      (and-decides (all-decides (λ d. le-decides (nodes d.expression) MAX_NODES) b.inherited_definitions)
      (all-decides (λ d. le-decides (nodes d.expression) MAX_NODES) b.synthesized_definitions))
      (few-decides MAX_STATE_KERNELS (map (λ k. k.state) b.kernels)))))
      (within_limits-decides b)
