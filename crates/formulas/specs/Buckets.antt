-- Laws of the search through a bucket and of a row that is added at its head. Nothing is asked of the hash but that it is below HEADS.
-- Assumes nothing.
use Prim.Native.Nat.{ℕ, zero, suc, ◌+◌, ◌*◌, ◌-◌, ◌^◌, ◌<◌, ◌≤◌}
use Rattle.std.specs.Prelude.{◌≡◌, Bool, Some, None, List, leb, length, get_or, set, replicate}
use Rattle.std.proofs.Math.Path.{refl}
use Rattle.std.proofs.Common.{sym, ap, ◌∙◌, add-one, length-set, get_or-set_same, get_or-set_other, below_more}
use Rattle.std.proofs.Math.Bool.{true, false}
use native.Mathlib.Omega.{arith}
use Rattle.std.proofs.Math.Dec.{eqb}
use Rattle.std.proofs.lemmas.List.{length-replicate, get_or-replicate}
use borrow.Author.Tests.{eq-eqb, ne_eqb, eqb-true, eqb-false, leb-true, leb-false}
use Rattle.formulas.specs.declared.nodes.Node.{Node}
use Rattle.formulas.specs.declared.nodes.Row.{Row}
use Rattle.formulas.specs.Nodes.{shown, row_of}
use Rattle.formulas.specs.Table.{HEADS, row_at, stored, hash_of, hash_at, last_with, Table, Added, Found}
use Rattle.formulas.specs.Rows.{length-stored, row_other, row_here, grown-same}

pub hash-low : (row : List ℕ) → hash_of row < HEADS
unfolding hash_of
hash-low row = omega arith

module _ (f : ℕ → ℕ) (h : ℕ) where
  last_is : (k : ℕ) → f k ≡ h → last_with f h (k + 1) ≡ k + 1
  unfolding last_with
  last_is k e = rw (add-one k, eq-eqb (f k) h e, last_with)

  last-not : (k : ℕ) → (f k ≡ h → ⊥) → last_with f h (k + 1) ≡ last_with f h k
  unfolding last_with
  last-not k n = rw (add-one k, ne_eqb (f k) h n, last_with)

  last_within : (k : ℕ) → last_with f h k ≤ k
  unfolding last_with
  last_within zero = omega arith
  last_within (suc k) = go (eqb (f k) h) (last_within k)
    where
      go : (t : Bool) → last_with f h k ≤ k → elim t [ true ↦ suc k | false ↦ last_with f h k ] ≤ suc k
      go true ih = omega arith
      go false ih = omega arith

  last-hit : (k : ℕ) → 1 ≤ last_with f h k → f (last_with f h k - 1) ≡ h
  unfolding last_with
  last-hit zero l = absurd (let z : ⊥ = omega arith in z)
  last-hit (suc k) l = go (eqb (f k) h) refl (last-hit k)
    where
      go : (t : Bool) → eqb (f k) h ≡ t → (1 ≤ last_with f h k → f (last_with f h k - 1) ≡ h) → f (last_with f h (suc k) - 1) ≡ h
      go true q ih = let e : suc k - 1 ≡ k = omega arith in rw (q, last_with, e) (eqb-true _ _ q)
      go false q ih = rw (q, last_with) (ih (rw (q, last_with) at l))

  last_none : (k j : ℕ) → last_with f h k ≤ j → j < k → f j ≡ h → ⊥
  unfolding last_with
  last_none zero j l b e = omega arith
  last_none (suc k) j l b e = go (eqb (f k) h) refl (last_none k j)
    where
      go : (t : Bool) → eqb (f k) h ≡ t → (last_with f h k ≤ j → j < k → f j ≡ h → ⊥) → ⊥
      go true q ih = let m : suc k ≤ j = rw (q, last_with) at l in omega arith
      go false q ih =
          let m : last_with f h k ≤ j = rw (q, last_with) at l in
          let d : j ≡ k → ⊥ = λ s. eqb-false _ _ q (rw s at e) in
          ih m (omega arith) e

last-agree : (f g : ℕ → ℕ) (h k : ℕ) → ((i : ℕ) → i < k → f i ≡ g i) → last_with f h k ≡ last_with g h k
unfolding last_with
last-agree f g h zero e = refl
last-agree f g h (suc k) e =
    ap (λ (x : ℕ). elim (eqb x h) [ true ↦ suc k | false ↦ last_with f h k ]) (e k (omega arith))
    ∙ ap (λ (n : ℕ). elim (eqb (g k) h) [ true ↦ suc k | false ↦ n ]) (last-agree f g h k (λ i l. e i (omega arith)))

-- The search

-- a search that goes on: the row is none of those from `next` on, and the one before `next` has its hash
pub record Seeking (table : List ℕ) (used : ℕ) (row : List ℕ) (next : ℕ) : Type 0 where
  pub within : next ≤ used
  pub hashed : 1 ≤ next → hash_at table (next - 1) ≡ hash_of row
  pub above : (j : ℕ) → next ≤ j → j < used → row_at table j ≡ row → ⊥

module _ {table heads nexts : List ℕ} {used : ℕ} (T : Table table heads nexts used) (row : List ℕ) where
  -- the last row below k with the hash, if the row is none from k on
  at_last : (k next : ℕ) → k ≤ used → next ≡ last_with (hash_at table) (hash_of row) k → ((j : ℕ) → k ≤ j → j < used → row_at table j ≡ row → ⊥)
      → Seeking table used row next
  at_last k next b e f = record {
    within = omega (arith, last_within (hash_at table) (hash_of row) k);
    hashed = λ o. rw e (last-hit (hash_at table) (hash_of row) k (rw e at o));
    above = λ j c d r. go j c d r (leb k j) refl;
  }
    where
      go : (j : ℕ) → next ≤ j → j < used → row_at table j ≡ row → (t : Bool) → leb k j ≡ t → ⊥
      go j c d r true q = f j (leb-true _ _ q) d r
      go j c d r false q = last_none (hash_at table) (hash_of row) k j (rw e at c) (leb-false _ _ q) (ap hash_of r)

  pub seek-start : (h : ℕ) → h ≡ hash_of row → Seeking table used row (get_or heads h 0)
  seek-start h e =
      let low : h < HEADS = omega (arith, hash-low row) in
      at_last used (get_or heads h 0) (omega arith) (T.heads_are h low ∙ ap (λ (x : ℕ). last_with (hash_at table) x used) e) (λ j c d r. omega arith)

  pub seek-next : {next : ℕ} → 1 ≤ next → Seeking table used row next → (row_at table (next - 1) ≡ row → ⊥)
      → Seeking table used row (get_or nexts (next - 1) 0)
  seek-next {next} o S other =
      at_last (next - 1) (get_or nexts (next - 1) 0) (omega (arith, S.within))
      (T.nexts_are (next - 1) (omega (arith, S.within)) ∙ ap (λ (x : ℕ). last_with (hash_at table) x (next - 1)) (S.hashed o))
      (λ j c d r. go j c d r (eqb j (next - 1)) refl)
    where
      go : (j : ℕ) → next - 1 ≤ j → j < used → row_at table j ≡ row → (t : Bool) → eqb j (next - 1) ≡ t → ⊥
      go j c d r true q = other (rw (eqb-true j (next - 1) q) at r)
      go j c d r false q = let x : j ≡ next - 1 → ⊥ = eqb-false _ _ q in S.above j (omega arith) d r

  pub seek-less : {next : ℕ} → 1 ≤ next → Seeking table used row next → get_or nexts (next - 1) 0 < next
  seek-less {next} o S = omega (arith, T.nexts_are (next - 1) (omega (arith, S.within)), last_within (hash_at table) (hash_at table (next - 1)) (next - 1))

  pub seek_hit : {next : ℕ} → 1 ≤ next → Seeking table used row next → row_at table (next - 1) ≡ row → Found table used row (Some (next - 1))
  seek_hit {next} o S e = (omega (arith, S.within), e)

  pub seek-end : {next : ℕ} → next ≡ 0 → Seeking table used row next → Found table used row None
  seek-end o S = λ j h. S.above j (omega arith) h

-- Interning

-- a node that was there
pub found : {table heads nexts : List ℕ} {used number : ℕ} {node : Node} → Table table heads nexts used → number < used → row_at table number ≡ row_of node
    → Added node table used table heads nexts number used
found T h e = record { table = T; grown = grown-same; few = omega arith; there = h; is = e }

-- a node that was not becomes the last row, and the head of its bucket
module _ {table heads nexts : List ℕ} {used : ℕ} (T : Table table heads nexts used) (r : Row) (less : used < length nexts)
    (other : (j : ℕ) → j < used → row_at table j ≡ shown r → ⊥) (h : ℕ) (e : h ≡ hash_of (shown r)) where
  abbrev more : List ℕ
  more = stored table used (shown r)

  here : row_at more used ≡ shown r
  here = row_here table used (shown r) (omega (arith, T.table_long))

  old : (i : ℕ) → i < used → row_at more i ≡ row_at table i
  old i b = row_other table used (shown r) i (λ f. omega arith)

  once_more : (i j : ℕ) → i < used + 1 → j < used + 1 → row_at more i ≡ row_at more j → i ≡ j
  once_more i j b c =
      below_more (λ i. row_at more i ≡ row_at more j → i ≡ j) used
      (λ i b. below_more (λ j. row_at more i ≡ row_at more j → i ≡ j) used
      (λ j c f. T.once i j b c (sym (old i b) ∙ f ∙ old j c))
      (λ f. absurd (other i b (sym (old i b) ∙ f ∙ here))) j c)
      (below_more (λ j. row_at more used ≡ row_at more j → used ≡ j) used
      (λ j c f. absurd (other j c (sym (old j c) ∙ sym f ∙ here)))
      (λ f. refl) j c) i b

  agrees : (k : ℕ) → k ≤ used → (x : ℕ) → last_with (hash_at more) x k ≡ last_with (hash_at table) x k
  agrees k b x = last-agree (hash_at more) (hash_at table) x k (λ i l. ap hash_of (old i (omega arith)))

  new-hash : hash_at more used ≡ h
  new-hash = ap hash_of here ∙ sym e

  low : h < HEADS
  low = omega (arith, hash-low (shown r))

  heads-more : (k : ℕ) → k < HEADS → get_or (set heads h (used + 1)) k 0 ≡ last_with (hash_at more) k (used + 1)
  heads-more k b = go (eqb k h) refl
    where
      go : (t : Bool) → eqb k h ≡ t → get_or (set heads h (used + 1)) k 0 ≡ last_with (hash_at more) k (used + 1)
      go true q =
          let s : k ≡ h = eqb-true k h q in
          rw s (get_or-set_same heads h (used + 1) 0 (omega (arith, low, T.heads_long)) ∙ sym (last_is (hash_at more) h used new-hash))
      go false q =
          let s : k ≡ h → ⊥ = eqb-false k h q in
          get_or-set_other heads h k (used + 1) 0 s ∙ T.heads_are k b ∙ sym (agrees used (omega arith) k)
          ∙ sym (last-not (hash_at more) k used (λ f. s (sym f ∙ new-hash)))

  nexts-more : (i : ℕ) → i < used + 1 → get_or (set nexts used (get_or heads h 0)) i 0 ≡ last_with (hash_at more) (hash_at more i) i
  nexts-more =
      below_more (λ i. get_or (set nexts used (get_or heads h 0)) i 0 ≡ last_with (hash_at more) (hash_at more i) i) used
      (λ i b.
      let s : i ≡ used → ⊥ = λ f. omega arith in
      rw (old i b) (get_or-set_other nexts used i (get_or heads h 0) 0 s ∙ T.nexts_are i b ∙ sym (agrees i (omega arith) (hash_at table i))))
      (rw new-hash (get_or-set_same nexts used (get_or heads h 0) 0 less ∙ T.heads_are h low ∙ sym (agrees used (omega arith) h)))

  same-room : length (set nexts used (get_or heads h 0)) ≡ length nexts
  same-room = length-set nexts used (get_or heads h 0)

  pub table_more : Table more (set heads h (used + 1)) (set nexts used (get_or heads h 0)) (used + 1)
  table_more = record {
    table_long = omega (arith, length-stored table used (shown r), same-room, T.table_long);
    heads_long = length-set heads h (used + 1) ∙ T.heads_long;
    nexts_low = omega (arith, same-room, T.nexts_low);
    room = omega (arith, same-room);
    once = once_more;
    heads_are = heads-more;
    nexts_are = nexts-more;
  }

  pub added : {node : Node} → shown r ≡ row_of node
      → Added node table used more (set heads h (used + 1)) (set nexts used (get_or heads h 0)) used (used + 1)
  added f = record {
    table = table_more;
    grown = record { grows = omega arith; long = length-stored table used (shown r); kept = old };
    few = omega arith;
    there = omega arith;
    is = here ∙ f;
  }

-- a table with no rows: only the heads are cleared
pub empty-table : (table nexts : List ℕ) → length table ≡ 4 * length nexts → length nexts < 2 ^ 32 → Table table (replicate HEADS 0) nexts 0
unfolding last_with
empty-table table nexts t l = record {
  table_long = t;
  heads_long = length-replicate {A = ℕ} HEADS 0;
  nexts_low = l;
  room = omega arith;
  once = λ i j b. absurd (let z : ⊥ = omega arith in z);
  heads_are = λ h b. get_or-replicate {A = ℕ} HEADS h 0 0 b;
  nexts_are = λ i b. absurd (let z : ⊥ = omega arith in z);
}
