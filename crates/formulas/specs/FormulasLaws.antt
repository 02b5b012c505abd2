-- Laws of a run over a definition's steps with a stack of numbers: at each step the numbers mean the formulas that the same run builds of terms.
-- Assumes nothing.
use Prim.Native.Nat.{ℕ, zero, suc, ◌+◌, ◌-◌, ◌<◌, ◌≤◌, zero-le}
use Rattle.std.specs.Prelude.{◌≡◌, set, replicate}
use Rattle.std.proofs.Math.Path.{refl, ap}
use Rattle.std.proofs.Common.{sym, ◌∙◌, add-one, get_or-set_other, drop-cons}
use Rattle.std.proofs.Math.Option.{Option}
use mathlib.Core.List.{List, [], ◌∷◌}
use native.Mathlib.Omega.{arith}
use Rattle.std.proofs.Math.ListN.{length, get_or, drop, length-set, drop_of_length-le}
use Rattle.std.proofs.Math.Seq.{get_or-set_same}
use Rattle.grammar.specs.Limits.{MAX_NODES}
use Rattle.grammar.specs.Data.Term.{number, nodes, replace, Leaves}
use Rattle.grammar.specs.Data.Postfix.{select, postfix, step, run, length-postfix}
use Rattle.grammar.specs.Data.Book.{Place, own, at, val, Expr}
use Rattle.grammar.specs.Formulas.Formula.{Formula, becomes, own_below}
use Rattle.grammar.specs.Formulas.Slots.{standing}
use Rattle.book.specs.Held.{node_at}
use Rattle.formulas.specs.declared.nodes.Stack.TheVariants.{Inherited}
use Rattle.formulas.specs.declared.nodes.Leaf.TheVariants.{Attribute}
use Rattle.formulas.specs.declared.nodes.Node.{Node}
use Rattle.formulas.specs.declared.nodes.Node.TheVariants.{Number, Leaf as OfLeaf}
use Rattle.formulas.specs.declared.steps.Step.{Step}
use Rattle.formulas.specs.declared.steps.Step.TheVariants.{Push, Own, At, Val, Operate, Select}
use Rattle.formulas.specs.declared.formulas.Operand.TheVariants.{Known, New}
use Rattle.formulas.specs.Table.{Table, Grown, Added}
use Rattle.formulas.specs.Rows.{grown-same, grown-more}
use Rattle.formulas.specs.Meaning.{Means, a_number, a_leaf, a_both, a_pick, means-kept, means-added}
use Rattle.formulas.specs.PostfixLaws.{replacing, run-replace, takes, Ready, Fits, fits, ready-map, ready-takes}
use Rattle.formulas.specs.Steps.{step_of}
use Rattle.formulas.specs.Formulas.{slot_for, own_for, operand_for, Safe, Makes, SlotIn, empty, full, OwnReads, in_slot, below, Reads, Numbered, Formed}

-- an operand that is known adds nothing, one that is new is interned
pub numbered-known : {table heads nexts : List ℕ} {used i : ℕ} → Table table heads nexts used → Numbered (Known i) table used table heads nexts i used
numbered-known T = record { table = T; grown = grown-same; few = omega arith; means = λ m. m }

pub numbered-new : {node : Node} {old new heads nexts : List ℕ} {used number count : ℕ} → Added node old used new heads nexts number count
    → Numbered (New node) old used new heads nexts number count
numbered-new A = record { table = A.table; grown = A.grown; few = A.few; means = means-added A }

-- the numbers of a stack mean formulas, the top first
pub data Stands (table : List ℕ) (used : ℕ) (stack : List ℕ) : ℕ → List Formula → Type 0 where
  bare : Stands table used stack 0 []
  over : {k : ℕ} {f : Formula} {fs : List Formula} → Stands table used stack k fs → Means table used (get_or stack k 0) f
      → Stands table used stack (suc k) (f ∷ fs)

-- a table that grows keeps what slots hold
pub slot_kept : {old new : List ℕ} {used count w : ℕ} {s : Option Formula} → Grown old used new count → SlotIn old used s w → SlotIn new count s w
slot_kept G empty = empty
slot_kept G (full m) = full (means-kept G m)

-- a number that is stored above changes nothing below, nor does a table that grows
stands-kept : {old new stack : List ℕ} {used count k i : ℕ} {fs : List Formula} (v : ℕ) → Grown old used new count → k ≤ i → Stands old used stack k fs
    → Stands new count (set stack i v) k fs
stands-kept v G h bare = bare
stands-kept {stack = stack} {i = i} v G h (over {k = k} {f = f} s m) =
    over {f = f} (stands-kept v G (omega arith) s) (rw (get_or-set_other stack i k v 0 (λ e. omega arith)) (means-kept G m))

pub own-empty : (D : ℕ) (slots : List ℕ) (K : ℕ) → D ≡ 0 → get_or slots K 0 ≡ 0 → own_for D slots K ≡ New (Number 0)
unfolding own_for slot_for
own-empty D slots K z e = rw (z, e)

slot-known : (w : ℕ) → (w ≡ 0 → ⊥) → slot_for w ≡ Known (w - 1)
unfolding slot_for
slot-known zero n = absurd (n refl)
slot-known (suc i) n = let e : suc i - 1 ≡ i = omega arith in rw e

pub own-slot : (D : ℕ) (slots : List ℕ) (K : ℕ) → D ≡ 0 → (get_or slots K 0 ≡ 0 → ⊥) → own_for D slots K ≡ Known (get_or slots K 0 - 1)
unfolding own_for
own-slot D slots K z n = rw z (slot-known (get_or slots K 0) n)

pub own-leaf : (D : ℕ) (slots : List ℕ) (K : ℕ) → (D ≡ 0 → ⊥) → own_for D slots K ≡ New (OfLeaf (Attribute Inherited D K))
unfolding own_for
own-leaf zero slots K n = absurd (n refl)
own-leaf (suc D) slots K n = refl

module _ (table : List ℕ) (used : ℕ) (slots : List ℕ) where
  slot-makes : {s : Option Formula} {w : ℕ} {f : Formula} → SlotIn table used s w → standing s ≡ f → Makes table used (slot_for w) f
  unfolding slot_for standing
  slot-makes empty e = rw (← e) a_number
  slot-makes (full m) e = rw e at m

  own-makes : {D K : ℕ} {f : Formula} → OwnReads table used slots K D f → Makes table used (own_for D slots K) f
  unfolding own_for own_below
  own-makes (in_slot h s e) = slot-makes s e
  own-makes (below e) = rw (← e) (a_leaf refl)

module _ (table : List ℕ) (used D : ℕ) (slots : List ℕ) (f : ℕ → Formula) where
  pub safe : (place : Place) → Reads table used D slots f place → Safe D slots place
  safe (own K) r = there r
    where
      there : {D : ℕ} {g : Formula} → OwnReads table used slots K D g → D ≡ 0 → K < length slots
      there (in_slot h s e) z = h
      there (below e) z = absurd (let y : ⊥ = omega arith in y)
  safe (at J K) h = h
  safe (val J) h = h

  -- what a step does to formulas, and what its operand stands for
  record Turn (stack : List ℕ) (top : ℕ) (s : Step) (fs : List Formula) : Type 0 where
    formula : Formula
    rest : List Formula
    steps : step (replacing (becomes D f)) (step_of s) fs ≡ formula ∷ rest
    stands : Stands table used stack (top - takes (step_of s)) rest
    makes : Makes table used (operand_for D slots stack top s) formula

  turn : (stack : List ℕ) {top : ℕ} {fs : List Formula} (s : Step) → Ready (Reads table used D slots f) top (step_of s) → Stands table used stack top fs
      → Turn stack top s fs
  unfolding step becomes
  turn stack {top} {fs} (Push n) r st =
      let e : top - 0 ≡ top = omega arith in
      record { formula = number n; rest = fs; steps = refl; stands = rw e st; makes = a_number }
  turn stack {top} {fs} (Own K) r st =
      let e : top - 0 ≡ top = omega arith in
      record { formula = f K; rest = fs; steps = refl; stands = rw e st; makes = own-makes table used slots r }
  turn stack {top} {fs} (At J K) r st =
      let e : top - 0 ≡ top = omega arith in
      record { formula = _; rest = fs; steps = refl; stands = rw e st; makes = a_leaf refl }
  turn stack {top} {fs} (Val J) r st =
      let e : top - 0 ≡ top = omega arith in
      record { formula = _; rest = fs; steps = refl; stands = rw e st; makes = a_leaf refl }
  turn stack (Operate o) r bare = absurd (let z : ⊥ = omega arith in z)
  turn stack (Operate o) r (over bare p) = absurd (let z : ⊥ = omega arith in z)
  turn stack (Operate o) r (over {f = y} (over {k = k} {f = x} {fs = fs} st p) q) =
      let e : suc (suc k) - 2 ≡ k = omega arith in
      let d : suc (suc k) - 1 ≡ suc k = omega arith in
      let first : Means table used (get_or stack (suc (suc k) - 2) 0) x = rw e p in
      let second : Means table used (get_or stack (suc (suc k) - 1) 0) y = rw d q in
      record { formula = _; rest = fs; steps = refl; stands = rw e st; makes = a_both refl first second }
  turn stack Select r bare = absurd (let z : ⊥ = omega arith in z)
  turn stack Select r (over bare p) = absurd (let z : ⊥ = omega arith in z)
  turn stack Select r (over (over bare p) q) = absurd (let z : ⊥ = omega arith in z)
  turn stack Select r (over {f = y} (over {f = x} (over {k = k} {f = c} {fs = fs} st p) q) t) =
      let e : suc (suc (suc k)) - 3 ≡ k = omega arith in
      let d : suc (suc (suc k)) - 2 ≡ suc k = omega arith in
      let b : suc (suc (suc k)) - 1 ≡ suc (suc k) = omega arith in
      let first : Means table used (get_or stack (suc (suc (suc k)) - 3) 0) c = rw e p in
      let second : Means table used (get_or stack (suc (suc (suc k)) - 2) 0) x = rw d q in
      let third : Means table used (get_or stack (suc (suc (suc k)) - 1) 0) y = rw b t in
      record { formula = _; rest = fs; steps = refl; stands = rw e st; makes = a_pick first second third }

own-kept : {old new slots : List ℕ} {used count K D : ℕ} {f : Formula} → Grown old used new count → OwnReads old used slots K D f
    → OwnReads new count slots K D f
own-kept G (in_slot h s e) = in_slot h (slot_kept G s) e
own-kept G (below e) = below e

reads_kept : {old new : List ℕ} {used count : ℕ} (D : ℕ) (slots : List ℕ) (f : ℕ → Formula) → Grown old used new count
    → (place : Place) → Reads old used D slots f place → Reads new count D slots f place
reads_kept D slots f G (own K) r = own-kept G r
reads_kept D slots f G (at J K) h = h
reads_kept D slots f G (val J) h = h

-- a run after i steps of e, on a table that began with `start` nodes
pub record Running (D : ℕ) (slots : List ℕ) (e : Expr) (f : ℕ → Formula) (old : List ℕ) (start : ℕ) (new heads nexts : List ℕ) (used : ℕ)
    (stack : List ℕ) (top i : ℕ) : Type 0 where
  pub table : Table new heads nexts used
  pub grown : Grown old start new used
  pub few : used ≤ start + i
  pub within : i ≤ nodes e
  pub long : length stack ≡ 16
  pub deep : top ≤ i
  pub formulas : List Formula
  pub stands : Stands new used stack top formulas
  pub goes : run (replacing (becomes D f)) (drop i (postfix e)) formulas ≡ replace e (becomes D f) ∷ []
  pub ready : Fits (Reads old start D slots f) top (drop i (postfix e))

pub running-start : {D start : ℕ} {slots old heads nexts : List ℕ} {e : Expr} {f : ℕ → Formula} → Table old heads nexts start
    → Leaves (Reads old start D slots f) e → Running D slots e f old start old heads nexts start (replicate 16 0) 0 0
running-start {D} {start} {slots} {old} {e = e} {f = f} T h = record {
  table = T;
  grown = grown-same;
  few = omega arith;
  within = zero-le;
  long = refl;
  deep = zero-le;
  formulas = [];
  stands = bare;
  goes = run-replace (becomes D f) e;
  ready = fits (Reads old start D slots f) h;
}

module _ {D start used top i : ℕ} {slots old new heads nexts stack : List ℕ} {e : Expr} {f : ℕ → Formula}
    (W : Running D slots e f old start new heads nexts used stack top i) where
  -- the formula, where no steps are left
  pub running-end : i ≡ nodes e → Formed D e f old start new heads nexts (get_or stack 0 0) used
  unfolding run
  running-end h = record {
    table = W.table;
    grown = W.grown;
    few = omega (arith, W.few);
    means = alone W.stands (rw gone at W.goes);
  }
    where
      gone : drop i (postfix e) ≡ []
      gone = let short : length (postfix e) ≤ i = omega (arith, length-postfix e) in drop_of_length-le (postfix e) short

      alone : {k : ℕ} {fs : List Formula} {g : Formula} → Stands new used stack k fs → fs ≡ g ∷ [] → Means new used (get_or stack 0 0) g
      alone bare q = absurd (let z : ◌≡◌ {A = ℕ} 0 1 = cc in omega arith)
      alone {g = g} (over {f = x} bare m) q = let same : x ≡ g = cc in rw same at m
      alone (over (over s m) n) q = absurd (let z : ◌≡◌ {A = ℕ} 0 1 = cc in omega arith)

  module _ (less : i < nodes e) where
    next : drop i (postfix e) ≡ node_at e i ∷ drop (i + 1) (postfix e)
    next = rw (add-one i) (drop-cons (postfix e) i select (omega (arith, length-postfix e)))

    here : Ready (Reads old start D slots f) top (node_at e i) × Fits (Reads old start D slots f) (top - takes (node_at e i) + 1) (drop (i + 1) (postfix e))
    here = rw next at W.ready

    pub running-ready : Ready (Safe D slots) top (node_at e i)
    running-ready = ready-map (safe old start D slots f) top (node_at e i) here.0

    pub running-takes : takes (node_at e i) ≤ top
    running-takes = ready-takes (Reads old start D slots f) top (node_at e i) here.0

    -- one step more
    pub running-turn : {new' heads' nexts' : List ℕ} {v count : ℕ} (s : Step) → nodes e ≤ MAX_NODES → step_of s ≡ node_at e i
        → Numbered (operand_for D slots stack top s) new used new' heads' nexts' v count
        → Running D slots e f old start new' heads' nexts' count (set stack (top - takes (step_of s)) v) (top - takes (step_of s) + 1) (i + 1)
    unfolding run
    running-turn {new'} {v = v} {count = count} s small q N =
        let k = top - takes (step_of s) in
        let r : Ready (Reads new used D slots f) top (step_of s) = rw q (ready-map (reads_kept D slots f W.grown) top (node_at e i) here.0) in
        let t = turn new used D slots f stack s r W.stands in
        let stored : get_or (set stack k v) k 0 ≡ v = get_or-set_same stack k v 0 (omega (arith, W.long, W.deep)) in
        let top-means : Means new' count (get_or (set stack k v) k 0) t.formula = rw stored (N.means t.makes) in
        record {
          table = N.table;
          grown = grown-more W.grown N.grown;
          few = omega (arith, W.few, N.few);
          within = omega arith;
          long = length-set stack k v ∙ W.long;
          deep = omega (arith, W.deep);
          formulas = t.formula ∷ t.rest;
          stands = rw (add-one k) (over (stands-kept v N.grown (omega arith) t.stands) top-means);
          goes = ap (run (replacing (becomes D f)) (drop (i + 1) (postfix e))) (sym t.steps) ∙ rw (next, ← q) at W.goes;
          ready = rw q here.1;
        }
