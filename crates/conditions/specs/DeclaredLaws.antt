-- Condition 4: what the words of nodes, lookaheads and lines say, and that the parts make the whole.
-- Assumes nothing.
use Rattle.std.specs.Prelude.{ℕ, zero, suc, ◌+◌, ◌*◌, ◌≤◌, ◌<◌, ◌≡◌, Bool}
use Rattle.std.proofs.Common.{zero-le, ◌∙◌, arith}
use Rattle.std.proofs.Math.Path.{refl, sym, ap, ap₂}
use Rattle.std.proofs.Math.Bool.{true, false, ◌&&◌}
use mathlib.Core.List.{List, [], ◌∷◌}
use Rattle.std.proofs.Math.Dec.{eqb, ltb, leb}
use Rattle.std.proofs.Math.ListN.{length, get_or}
use borrow.Author.Tests.{ltb-true, lt-ltb, le-ltb, le-leb, lt-leb, leb-true, ne_eqb}
use Rattle.grammar.specs.Conditions.Decides.{OneTo, one_to, one_to-decides, all, all_below}
use Rattle.grammar.specs.Data.Symbol.{Symbol, terminal, nonterminal, rule_at, left_of, right_of}
use Rattle.grammar.specs.Data.Postfix.{Step, push, load, operate, select, postfix, length-postfix}
use Rattle.grammar.specs.Data.Term.{nodes}
use Rattle.grammar.specs.Data.Book.{Place, own, at, val, InheritedDefinition, SynthesizedDefinition, Book as Lines}
use Rattle.grammar.specs.Conditions.Meaning.{WithinLimits}
use Rattle.grammar.specs.Conditions.Tests.{
  all_leaves,
  one_nonterminal,
  right_symbol,
  is_position,
  declared_place,
  declared_inherited,
  declared_synthesized,
  declared_kernel,
  declared_go,
  declared,
  owners_declared as all_owners_declared,
  rules_declared as all_rules_declared,
}
use Rattle.grammar.specs.Format.Ordered.{Ascends, ascends-[], ascends-∷, lookahead_key, Lookaheads, Every, every-∷}
use Rattle.grammar.specs.Conditions.MeaningLaws.{right-length}
use Rattle.book.specs.declared.Book.{Book}
use Rattle.book.specs.Layout.{symbol_code, last_of}
use Rattle.book.specs.Held.{synthesized_at, node_at, kernel_at, go_at, RulesIn}
use Rattle.conditions.specs.Asked.{Counted, RuleOf, Entry, LineIs, EntryOf, LeavesOf, KernelOf, GoesOf}
use Rattle.conditions.specs.AskedLaws.{inherited_entry, synthesized_entry}
use Rattle.conditions.specs.Runs.{lead, before-lead}
use Rattle.std.proofs.Math.Bool.{and_assoc, and-true, and-false}
use Rattle.std.proofs.lemmas.Bool.{and_parts}
use Rattle.conditions.specs.Answers.{then-and, all-below, below-same, below-and, below_at}
use Rattle.conditions.specs.Leaves.{of_leaf, leaves-nodes}
use Rattle.conditions.specs.Places.{place_in, place_of_step, place-in}
use Rattle.conditions.specs.SymbolWords.{terminal-code, nonterminal-code, right-code, go-code}
use Rattle.conditions.specs.DeclaredTests.{
  right_code,
  go_code,
  start_code,
  place_code,
  right_declared,
  left_declared,
  rule_declared,
  leaves_declared,
  definition_declared,
  inherited_line_declared,
  kernel_declared,
  rules_declared,
  grammar_declared,
  inherited_declared,
  synthesized_declared,
  kernels_declared,
  goes_declared,
  names_declared,
  definitions_declared,
}

-- Nodes

pub place-code : {numbers : Book} {b : Lines} → Counted numbers b → (P size : ℕ) → size ≡ length (right_of b.rules P) → (s : Step Place)
    → place_code numbers size (place_of_step s) ≡ of_leaf (declared_place b P) s
unfolding place_code place_of_step of_leaf declared_place is_position
place-code c P size e (push n) = refl
place-code c P size e (load (own K)) = ap (ltb K) c.inherited_are
place-code c P size e (load (at J K)) = ap₂ ◌&&◌ (ap (λ (n : ℕ). one_to n J) e) (ap (ltb K) c.synthesized_are)
place-code c P size e (load (val J)) = ap (λ (n : ℕ). one_to n J) e
place-code c P size e (operate o) = refl
place-code c P size e select = refl

-- Lookaheads: the last of those that ascend is the largest

last-least : {last l : List ℕ} → Ascends lookahead_key last l → 0 < length l → lead last ≤ last_of l
unfolding last_of lead lookahead_key
last-least ascends-[] h = absurd (omega arith)
last-least (ascends-∷ b ascends-[]) h = before-lead b
last-least (ascends-∷ b (ascends-∷ d a)) h = omega (arith, before-lead b, last-least (ascends-∷ d a) (omega arith))

-- what is no larger need not be asked
leb-less : (x n m : ℕ) → x ≤ n → leb n m ≡ leb x m && leb n m
leb-less x n m h = go (leb n m) refl
  where
    go : (t : Bool) → leb n m ≡ t → t ≡ leb x m && t
    go true e = rw (le-leb x m (omega (arith, leb-true n m e)))
    go false e = sym (and-false (leb x m))

pub last_within : (m : ℕ) {last l : List ℕ} → Ascends lookahead_key last l → leb (last_of l) m ≡ all (λ t. leb t m) l
unfolding last_of all lead lookahead_key
last_within m ascends-[] = le-leb 0 m zero-le
last_within m (ascends-∷ {x = x} b ascends-[]) = sym (then-and (leb x m) true ∙ and-true (leb x m))
last_within m (ascends-∷ {x = x} b (ascends-∷ {x = y} {xs = l} d a)) =
    leb-less x (last_of (y ∷ l)) m (last-least (ascends-∷ d a) (omega arith))
    ∙ (ap (λ (t : Bool). leb x m && t) (last_within m (ascends-∷ d a)) ∙ sym (then-and (leb x m) (all (λ t. leb t m) (y ∷ l))))

-- Lines

every-at : {A : Type 0} (P : A → Type 0) (xs : List A) (i : ℕ) (d : A) → Every P xs → i < length xs → P (get_or xs i d)
every-at P [] i d e l = absurd (omega arith)
every-at P (x ∷ xs) zero d (every-∷ p e) l = p
every-at P (x ∷ xs) (suc i) d (every-∷ p e) l = every-at P xs i d e (omega arith)

-- right symbol D of rule P
pub right-symbol : {numbers : Book} {rules : List ℕ} {b : Lines} {P : ℕ} → RuleOf numbers rules P b → (D : ℕ) → D < length (right_of b.rules P)
    → right_code numbers (get_or rules (10 * P + 2 + D) 0) ≡ right_symbol b (get_or (right_of b.rules P) D (terminal 0))
right-symbol {numbers} {rules} {b} {P} h D l =
    let g = h.rules_of in
    ap (right_code numbers) (g.rules_in.symbol_is P D h.rule_there l (omega (arith, right-length g.within P)))
    ∙ right-code g.counted g.within (get_or (right_of b.rules P) D (terminal 0))

-- all of them
pub right-asked : {numbers : Book} {rules : List ℕ} {b : Lines} {P : ℕ} → RuleOf numbers rules P b
    → all_below (get_or rules (10 * P + 1) 0) (λ D. right_code numbers (get_or rules (10 * P + 2 + D) 0)) ≡ right_declared P b
unfolding right_declared
right-asked {numbers} {rules} {b} {P} h =
    ap (λ (n : ℕ). all_below n (λ D. right_code numbers (get_or rules (10 * P + 2 + D) 0))) h.size_is
    ∙ below-same (length (right_of b.rules P)) (right-symbol h) ∙ sym (all-below (right_symbol b) (terminal 0) (right_of b.rules P))

-- kernel line i
module _ {numbers : Book} {rules kernels : List ℕ} {i : ℕ} {b : Lines} (h : KernelOf numbers rules kernels i b) where
  pub kernel-asked : get_or kernels (5 * i + 1) 0 < numbers.rules
      → ltb (get_or kernels (5 * i) 0) numbers.states && leb (get_or kernels (5 * i + 2) 0) (get_or rules (10 * get_or kernels (5 * i + 1) 0 + 1) 0)
      && leb (get_or kernels (5 * i + 3) 0) numbers.terminals
      ≡ kernel_declared i b
  unfolding kernel_declared declared_kernel
  kernel-asked l =
      let g = h.kernels_of in
      let c = g.rules_of.counted in
      let there = h.kernel_there in
      let P = (kernel_at b.kernels i).rule in
      let rule : get_or kernels (5 * i + 1) 0 ≡ P = g.kernels-in.rule_is i there in
      let rule_there : P < length b.rules = omega (arith, c.rules_are) in
      let size : get_or rules (10 * get_or kernels (5 * i + 1) 0 + 1) 0 ≡ length (right_of b.rules P) =
      ap (λ (p : ℕ). get_or rules (10 * p + 1) 0) rule ∙ g.rules_of.rules_in.size_is P rule_there in
      ap₂ ◌&&◌ (ap₂ ◌&&◌
      (ap₂ ltb (g.kernels-in.state_is i there) c.states_are
      ∙ sym (ap (λ (t : Bool). ltb (kernel_at b.kernels i).state b.states && t) (lt-ltb P (length b.rules) rule_there) ∙ and-true _))
      (ap₂ leb (g.kernels-in.dot_is i there) size))
      (ap₂ leb (g.kernels-in.last_is i there) c.terminals_are
      ∙ last_within b.terminals (every-at Lookaheads b.kernels i _ g.ordered.lookaheads there).ascend)

  pub kernel-refused : numbers.rules ≤ get_or kernels (5 * i + 1) 0 → false ≡ kernel_declared i b
  unfolding kernel_declared declared_kernel
  kernel-refused l =
      let g = h.kernels_of in
      let P = (kernel_at b.kernels i).rule in
      let past : length b.rules ≤ P = omega (arith, g.rules_of.counted.rules_are, g.kernels-in.rule_is i h.kernel_there) in
      rw (le-ltb P (length b.rules) past, and-false)

-- all go lines
pub goes_asked : {numbers : Book} {goes : List ℕ} {b : Lines} → GoesOf numbers goes b
    → all_below numbers.goes (λ i. (ltb (get_or goes (3 * i) 0) numbers.states && go_code numbers (get_or goes (3 * i + 1) 0))
    && ltb (get_or goes (3 * i + 2) 0) numbers.states) ≡ goes_declared b
unfolding goes_declared declared_go
goes_asked {numbers} {goes} {b} h =
    let c = h.counted in
    ap (λ (n : ℕ). all_below n (λ i. (ltb (get_or goes (3 * i) 0) numbers.states && go_code numbers (get_or goes (3 * i + 1) 0))
    && ltb (get_or goes (3 * i + 2) 0) numbers.states)) c.goes_are
    ∙ below-same (length b.goes) (λ i l.
    ap₂ ◌&&◌ (ap₂ ◌&&◌ (ap₂ ltb (h.goes_in.state_is i l) c.states_are)
    (ap (go_code numbers) (h.goes_in.symbol_is i l) ∙ go-code c h.within (go_at b.goes i).symbol))
    (ap₂ ltb (h.goes_in.target_is i l) c.states_are))
    ∙ sym (all-below (declared_go b) _ b.goes)

-- node j of the definition in line i
pub node-asked : {numbers : Book} {definitions : List ℕ} {i size : ℕ} {x : Entry} → LeavesOf numbers definitions i size x → (j : ℕ)
    → j < nodes x.line.expression
    → place_code numbers size (place_in definitions (49 * i + 4 + 3 * j)) ≡ of_leaf (declared_place x.book x.line.rule) (node_at x.line.expression j)
node-asked {numbers} {definitions} {i} {size} {x} h j l =
    rw (place-in (h.line_is.line_in.node_is j l (omega (arith, h.line_is.few_nodes))))
    (place-code h.counted x.line.rule size h.size_is (node_at x.line.expression j))

-- the number of nodes in line i
pub node-count : {definitions : List ℕ} {i : ℕ} {d : InheritedDefinition} → LineIs definitions i d → get_or definitions (49 * i + 3) 0
    ≡ length (postfix d.expression)
node-count {d = d} h = h.line_in.nodes_is ∙ sym (length-postfix d.expression)

-- its nodes, one after the other
pub leaves-asked : {numbers : Book} {definitions : List ℕ} {i size : ℕ} {x : Entry} → LeavesOf numbers definitions i size x
    → all_below (get_or definitions (49 * i + 3) 0) (λ j. place_code numbers size (place_in definitions (49 * i + 4 + 3 * j))) ≡ leaves_declared x
unfolding leaves_declared
leaves-asked {numbers} {definitions} {i} {size} {x} h =
    let e = x.line.expression in
    let f = of_leaf (declared_place x.book x.line.rule) in
    ap (λ (n : ℕ). all_below n (λ j. place_code numbers size (place_in definitions (49 * i + 4 + 3 * j)))) (node-count h.line_is)
    ∙ below-same (length (postfix e)) (λ j l. node-asked h j (omega (arith, length-postfix e)))
    ∙ sym (leaves-nodes (declared_place x.book x.line.rule) e ∙ all-below f select (postfix e))

-- the definition in line i
module _ {numbers : Book} {rules definitions : List ℕ} {i : ℕ} {x : Entry} (h : EntryOf numbers rules definitions i x) where
  rule-size : x.line.rule < length x.book.rules
      → get_or rules (10 * get_or definitions (49 * i) 0 + 1) 0 ≡ length (right_of x.book.rules x.line.rule)
  rule-size l = ap (λ (p : ℕ). get_or rules (10 * p + 1) 0) h.line_is.line_in.rule_is ∙ h.rules_of.rules_in.size_is x.line.rule l

  rule_there : get_or definitions (49 * i) 0 < numbers.rules → x.line.rule < length x.book.rules
  rule_there l = omega (arith, h.line_is.line_in.rule_is, h.rules_of.counted.rules_are)

  pub leaves_of : get_or definitions (49 * i) 0 < numbers.rules → LeavesOf numbers definitions i (get_or rules (10 * get_or definitions (49 * i) 0 + 1) 0) x
  leaves_of l = record { counted = h.rules_of.counted; line_is = h.line_is; size_is = rule-size (rule_there l) }

  pub definition-asked : (attributes : ℕ) → get_or definitions (49 * i) 0 < numbers.rules
      → ltb (get_or definitions (49 * i + 2) 0) attributes && leaves_declared x ≡ definition_declared attributes x
  unfolding definition_declared
  definition-asked attributes l = rw (lt-ltb x.line.rule (length x.book.rules) (rule_there l), h.line_is.line_in.attribute_is)

  pub rule-refused : (attributes : ℕ) → numbers.rules ≤ get_or definitions (49 * i) 0 → false ≡ definition_declared attributes x
  unfolding definition_declared
  rule-refused attributes l =
      rw (le-ltb x.line.rule (length x.book.rules) (omega (arith, h.line_is.line_in.rule_is, h.rules_of.counted.rules_are)))

  -- such a definition has a rule
  pub declared-rule : (attributes : ℕ) → definition_declared attributes x ≡ true → x.line.rule < length x.book.rules
  unfolding definition_declared
  declared-rule attributes e = ltb-true x.line.rule (length x.book.rules) (and_parts _ _ e).0

  pub declared-place : (attributes : ℕ) → definition_declared attributes x ≡ true → 10 * get_or definitions (49 * i) 0 + 10 ≤ length rules
  declared-place attributes e = omega (arith, declared-rule attributes e, h.line_is.line_in.rule_is, h.rules_of.rules_in.long)

  -- the position last
  pub inherited-parts : inherited_line_declared x
      ≡ definition_declared numbers.inherited x && is_position x.book x.line.rule x.line.position
  unfolding inherited_line_declared declared_inherited definition_declared leaves_declared
  inherited-parts =
      rw h.rules_of.counted.inherited_are (moved (ltb x.line.rule (length x.book.rules))
      (is_position x.book x.line.rule x.line.position) _ _)
    where
      moved : (p q r s : Bool) → p && q && r && s ≡ p && (r && s) && q
      moved true true r s = sym (and-true (r && s))
      moved true false r s = sym (and-false (r && s))
      moved false q r s = refl

  pub position-asked : definition_declared numbers.inherited x ≡ true
      → one_to (get_or rules (10 * get_or definitions (49 * i) 0 + 1) 0) (get_or definitions (49 * i + 1) 0) ≡ is_position x.book x.line.rule x.line.position
  unfolding is_position
  position-asked e = ap₂ one_to (rule-size (declared-rule numbers.inherited e)) h.line_is.line_in.position_is

  pub inherited-refused : definition_declared numbers.inherited x ≡ false → false ≡ inherited_line_declared x
  inherited-refused e = sym (inherited-parts ∙ rw e)

synthesized-parts : {numbers : Book} {b : Lines} (i : ℕ) → Counted numbers b
    → definition_declared numbers.synthesized (synthesized_entry b i) ≡ declared_synthesized b (synthesized_at b.synthesized_definitions i)
unfolding definition_declared declared_synthesized leaves_declared
synthesized-parts {b = b} i c =
    let d : SynthesizedDefinition = synthesized_at b.synthesized_definitions i in
    rw c.synthesized_are
    (sym (and_assoc (ltb d.rule (length b.rules)) (ltb d.attribute (length b.synthesized_owners))
    (all_leaves (declared_place b d.rule) d.expression)))

-- rule P
left_other : (P : ℕ) (b : Lines) → 0 < P → left_declared P b ≡ one_to b.nonterminals (left_of b.rules P)
unfolding left_declared
left_other P b l = rw (lt-ltb 0 P l, left_declared)

pub left-first : (P : ℕ) (b : Lines) → P ≤ 0 → left_declared P b ≡ true
unfolding left_declared
left-first P b l = rw (le-ltb 0 P l, left_declared)

module _ {numbers : Book} {rules : List ℕ} {P : ℕ} {b : Lines} (h : RuleOf numbers rules P b) where
  pub left-asked : {s : Bool} → (P ≡ 0 → ⊥) → s ≡ one_to numbers.nonterminals (get_or rules (10 * P) 0) → s ≡ left_declared P b
  left-asked n e =
      e ∙ (ap₂ one_to h.rules_of.counted.nonterminals_are (h.rules_of.rules_in.left_is P h.rule_there) ∙ sym (left_other P b (omega arith)))

-- Rule 0, where its right symbols are declared

module _ {b : Lines} (w : WithinLimits b) where
  first-declared : (X : Symbol) (β : List Symbol) → all (right_symbol b) (X ∷ β) ≡ true → right_symbol b X ≡ true
  unfolding all
  first-declared X β d = (and_parts (right_symbol b X) (all (right_symbol b) β) (sym (then-and (right_symbol b X) (all (right_symbol b) β)) ∙ d)).0

  one_code : (β : List Symbol) (n code : ℕ) → n ≡ length β → (0 < length β → code ≡ symbol_code (get_or β 0 (terminal 0))) → all (right_symbol b) β ≡ true
      → eqb n 1 && leb 32 code ≡ one_nonterminal β
  unfolding one_nonterminal right_symbol
  one_code [] n code e f d = rw e
  one_code (terminal t ∷ β) n code e f d =
      let small : OneTo b.terminals t = (one_to-decides b.terminals t).sound (first-declared (terminal t) β d) in
      let is : code ≡ t = f (omega arith) ∙ terminal-code w small in
      rw (lt-leb 32 code (omega (arith, w.terminals_limit.high))) (and-false (eqb n 1))
  one_code (nonterminal B ∷ []) n code e f d =
      let is : code ≡ 32 + B = f (omega arith) ∙ nonterminal-code w ((one_to-decides b.nonterminals B).sound (first-declared (nonterminal B) [] d)) in
      rw (e, le-leb 32 code (omega arith))
  one_code (nonterminal B ∷ X ∷ β) n code e f d = rw (ne_eqb n 1 (λ q. omega arith))

  pub start-code : {rules : List ℕ} → RulesIn b.rules rules → right_declared 0 b ≡ true
      → start_code rules ≡ eqb (left_of b.rules 0) 0 && one_nonterminal (right_of b.rules 0)
  unfolding start_code right_declared
  start-code {rules} h d =
      and_assoc (eqb (get_or rules 0 0) 0) (eqb (get_or rules 1 0) 1) (leb 32 (get_or rules 2 0))
      ∙ ap₂ ◌&&◌ (ap (λ (A : ℕ). eqb A 0) (h.left_is 0 w.rules_limit.low))
      (one_code (right_of b.rules 0) (get_or rules 1 0) (get_or rules 2 0) (h.size_is 0 w.rules_limit.low)
      (λ l. h.symbol_is 0 0 w.rules_limit.low l (omega arith)) d)

-- The parts make the whole

and-when : {s s' : Bool} (l r : Bool) → (r ≡ true → s' ≡ s) → s' && (l && r) ≡ s && l && r
and-when {s} {s'} l true h = rw (h refl) (sym (and_assoc s l true))
and-when {s} {s'} l false h = rw (and-false l) (and-false s' ∙ sym (and-false (s && l)))

pub start-rules : {rules : List ℕ} {b : Lines} → WithinLimits b → RulesIn b.rules rules
    → start_code rules && rules_declared b
    ≡ eqb (left_of b.rules 0) 0 && one_nonterminal (right_of b.rules 0) && all_below (length b.rules) (λ P. left_declared P b)
    && all (λ r. all (right_symbol b) r.right) b.rules
unfolding rules_declared rule_declared right_declared rule_at
start-rules {rules} {b} w h =
    let rights : all (λ r. all (right_symbol b) r.right) b.rules ≡ all_below (length b.rules) (λ P. right_declared P b) =
    all-below (λ r. all (right_symbol b) r.right) _ b.rules in
    ap (λ (t : Bool). start_code rules && t)
    (below-and (λ P. left_declared P b) (λ P. right_declared P b) (length b.rules)
    ∙ ap (λ (t : Bool). all_below (length b.rules) (λ P. left_declared P b) && t) (sym rights))
    ∙ and-when (all_below (length b.rules) (λ P. left_declared P b)) (all (λ r. all (right_symbol b) r.right) b.rules)
    (λ e. start-code w h (below_at (λ P. right_declared P b) (length b.rules) 0 (sym rights ∙ e) w.rules_limit.low))

-- the lines of each kind make what is asked of them all
module _ {numbers : Book} {b : Lines} (c : Counted numbers b) where
  pub rules-lines : all_below numbers.rules (λ P. rule_declared P b) ≡ rules_declared b
  unfolding rules_declared
  rules-lines = ap (λ (n : ℕ). all_below n (λ P. rule_declared P b)) c.rules_are

  pub kernels-lines : all_below numbers.kernels (λ i. kernel_declared i b) ≡ kernels_declared b
  unfolding kernels_declared kernel_declared
  kernels-lines = ap (λ (n : ℕ). all_below n (λ i. kernel_declared i b)) c.kernels_are ∙ sym (all-below (declared_kernel b) _ b.kernels)

  pub inherited-lines : all_below numbers.inherited_definitions (λ i. inherited_line_declared (inherited_entry b i)) ≡ inherited_declared b
  unfolding inherited_declared inherited_line_declared
  inherited-lines =
      ap (λ (n : ℕ). all_below n (λ i. inherited_line_declared (inherited_entry b i))) c.inherited_definitions_are
      ∙ sym (all-below (declared_inherited b) _ b.inherited_definitions)

  pub synthesized-lines : all_below numbers.synthesized_definitions (λ i. definition_declared numbers.synthesized (synthesized_entry b i)) ≡ synthesized_declared b
  unfolding synthesized_declared
  synthesized-lines =
      ap (λ (n : ℕ). all_below n (λ i. definition_declared numbers.synthesized (synthesized_entry b i))) c.synthesized_definitions_are
      ∙ below-same (length b.synthesized_definitions) (λ i l. synthesized-parts i c)
      ∙ sym (all-below (declared_synthesized b) _ b.synthesized_definitions)

pub declared-parts : (b : Lines) → names_declared b && definitions_declared b ≡ declared b
unfolding names_declared definitions_declared grammar_declared left_declared inherited_declared synthesized_declared kernels_declared goes_declared declared
    all_owners_declared all_rules_declared
declared-parts b = swapped (grammar_declared b) (kernels_declared b && goes_declared b) (definitions_declared b)
  where
    swapped : (p q r : Bool) → p && q && r ≡ p && r && q
    swapped true true r = sym (and-true r)
    swapped true false r = sym (and-false r)
    swapped false q r = refl
