-- Laws of the stacks in arrays: stores at a height or above it change nothing below it, and what lies so many symbols down stands in the cell and the
-- record so far down. Assumes nothing.
use Rattle.std.specs.Prelude.{◌≡◌, ℕ, zero, suc, ◌+◌, ◌-◌, ◌*◌, ◌<◌, ◌≤◌, List, [], ◌∷◌, length, slice_index, slice_set, refl}
use Rattle.std.proofs.Math.Path.{sym}
use Rattle.std.proofs.Common.{◌∙◌, get_or-set_other, lt-ltb, le-ltb}
use Rattle.std.proofs.Math.Decide.{dec_lt}
use native.Mathlib.Omega.{arith}
use Rattle.grammar.specs.Evaluator.Decorated.{Values, Result, child_at}
use Rattle.grammar.specs.Evaluator.Machine.{Frame, inherited_at, result_at, Popped, pop}
use Rattle.cells.specs.Frames.{cell_value, record_value, ResultIn, FramesIn, no_frames, a_frame, PoppedIn}

-- ---------------------------------------------------------------- words

pub cell-word : (inherited : List ℕ) (n K : ℕ) → K < 16 → cell_value inherited n K ≡ slice_index inherited (16 * n + K)
unfolding cell_value
cell-word inherited n K h = rw (lt-ltb K 16 h, cell_value)

pub cell-past : (inherited : List ℕ) (n K : ℕ) → 16 ≤ K → cell_value inherited n K ≡ 0
unfolding cell_value
cell-past inherited n K h = rw (le-ltb K 16 h, cell_value)

pub record-word : (synthesized : List ℕ) (n K : ℕ) → K < 32 → record_value synthesized n K ≡ slice_index synthesized (33 * n + 1 + K)
unfolding record_value
record-word synthesized n K h = rw (lt-ltb K 32 h, record_value)

pub record-past : (synthesized : List ℕ) (n K : ℕ) → 32 ≤ K → record_value synthesized n K ≡ 0
unfolding record_value
record-past synthesized n K h = rw (le-ltb K 32 h, record_value)

-- two lists have the same first n words
pub record Agree (n : ℕ) (old new : List ℕ) : Type 0 where
  pub same_word : (i : ℕ) → i < n → slice_index new i ≡ slice_index old i

pub agree_same : {n : ℕ} {xs : List ℕ} → Agree n xs xs
agree_same = record { same_word = λ i h. refl }

pub agree-set : {n : ℕ} {xs : List ℕ} (i v : ℕ) → n ≤ i → Agree n xs (slice_set xs i v)
agree-set {xs = xs} i v h = record { same_word = λ j l. get_or-set_other xs i j v 0 (λ e. omega arith) }

pub agree_then : {n : ℕ} {xs ys zs : List ℕ} → Agree n xs ys → Agree n ys zs → Agree n xs zs
agree_then f g = record { same_word = λ i h. g.same_word i h ∙ f.same_word i h }

pub agree_less : {m n : ℕ} {xs ys : List ℕ} → m ≤ n → Agree n xs ys → Agree m xs ys
agree_less l f = record { same_word = λ i h. f.same_word i (omega arith) }

-- ---------------------------------------------------------------- what lies below is kept

module _ (n : ℕ) {old new : List ℕ} where
  cell-at : Agree (16 * n + 16) old new → (K : ℕ) → cell_value new n K ≡ cell_value old n K
  cell-at agree K = by (dec_lt K 16)
    where
      by : Dec (K < 16) → cell_value new n K ≡ cell_value old n K
      by (yes l) = cell-word new n K l ∙ agree.same_word (16 * n + K) (omega arith) ∙ sym (cell-word old n K l)
      by (no m) = cell-past new n K (omega arith) ∙ sym (cell-past old n K (omega arith))

  pub cell-kept : Agree (16 * n + 16) old new → cell_value new n ≡ cell_value old n
  cell-kept agree = λ j K. cell-at agree K j

  pub record-kept : Agree (33 * n + 33) old new → (K : ℕ) → record_value new n K ≡ record_value old n K
  record-kept agree K = by (dec_lt K 32)
    where
      by : Dec (K < 32) → record_value new n K ≡ record_value old n K
      by (yes l) = record-word new n K l ∙ agree.same_word (33 * n + 1 + K) (omega arith) ∙ sym (record-word old n K l)
      by (no m) = record-past new n K (omega arith) ∙ sym (record-past old n K (omega arith))

  pub result-kept : {c : Result} → Agree (33 * n + 33) old new → ResultIn c old n → ResultIn c new n
  result-kept agree R = record {
    value_is = R.value_is ∙ sym (agree.same_word (33 * n) (omega arith));
    attributes_are = λ K. R.attributes_are K ∙ sym (record-kept agree K);
  }

-- stores at the height of the frames, or above, keep them
pub frames-kept : {states inherited synthesized starts states' inherited' synthesized' starts' : List ℕ} {st : List Frame}
    → Agree (length st) states states' → Agree (16 * length st) inherited inherited' → Agree (33 * length st) synthesized synthesized'
    → Agree (length st) starts starts' → FramesIn states inherited synthesized starts st → FramesIn states' inherited' synthesized' starts' st
frames-kept t i r p no_frames = no_frames
frames-kept t i r p (a_frame {st = st} F below) =
    a_frame
    (record {
      state_is = t.same_word (length st) (omega arith) ∙ F.state_is;
      cell_is = F.cell_is ∙ sym (cell-kept (length st) (agree_less (omega arith) i));
      result_is = result-kept (length st) (agree_less (omega arith) r) F.result_is;
      start_is = p.same_word (length st) (omega arith) ∙ F.start_is;
    })
    (frames-kept (agree_less (omega arith) t) (agree_less (omega arith) i) (agree_less (omega arith) r) (agree_less (omega arith) p) below)

-- ---------------------------------------------------------------- what lies n symbols down

module _ {states inherited synthesized starts : List ℕ} where
  pub inherited-below : {st : List Frame} → FramesIn states inherited synthesized starts st → (D : ℕ) → D ≤ length st
      → inherited_at D (cell_value inherited (length st)) st ≡ cell_value inherited (length st - D)
  unfolding inherited_at
  inherited-below {st} F zero h = let e : length st - 0 ≡ length st = omega arith in rw e
  inherited-below no_frames (suc D) h = absurd (let z : ⊥ = omega arith in z)
  inherited-below (a_frame {st = st} F below) (suc D) h =
      let e : suc (length st) - suc D ≡ length st - D = omega arith in
      rw (F.cell_is, e) (inherited-below below D (omega arith))

  pub result-below : {st : List Frame} → FramesIn states inherited synthesized starts st → (n : ℕ) → n < length st
      → ResultIn (result_at n st) synthesized (length st - 1 - n)
  unfolding result_at
  result-below no_frames n h = absurd (let z : ⊥ = omega arith in z)
  result-below (a_frame {st = st} F below) zero h = let e : suc (length st) - 1 - 0 ≡ length st = omega arith in rw e F.result_is
  result-below (a_frame {st = st} F below) (suc n) h =
      let e : suc (length st) - 1 - suc n ≡ length st - 1 - n = omega arith in rw e (result-below below n (omega arith))

  -- the record does not depend on the start before, where something was popped
  from-any : {h n p q : ℕ} {x : Popped} → 1 ≤ n → PoppedIn states inherited synthesized starts h n q x → PoppedIn states inherited synthesized starts h n p x
  from-any l P = record {
    state = P.state;
    cell = P.cell;
    start = P.start;
    below = P.below;
    results = P.results;
    popped_is = P.popped_is;
    state_is = P.state_is;
    cell_is = P.cell_is;
    start_same = λ z. absurd (let u : ⊥ = omega arith in u);
    start_is = P.start_is;
    below_in = P.below_in;
    below_long = P.below_long;
    results_long = P.results_long;
    result_in = P.result_in;
  }

  -- n symbols more, where cs were popped before. The cell above the symbols is read where n is 0 alone
  pops : (n h m : ℕ) (cs : List Result) {S p : ℕ} {i : Values} {st : List Frame} → FramesIn states inherited synthesized starts st
      → h + n ≡ length st → length cs + n ≡ m → slice_index states (length st) ≡ S → (n ≡ 0 → i ≡ cell_value inherited (length st))
      → (1 ≤ length cs → slice_index starts (length st) ≡ p)
      → ((J : ℕ) → 1 ≤ J → J ≤ length cs → ResultIn (child_at cs J) synthesized (length st + J - 1))
      → PoppedIn states inherited synthesized starts h m p (pop n S i p st cs)
  unfolding pop
  pops zero h m cs {S} {p} {i} {st} F d l s c q r =
      let e : h ≡ length st = omega arith in
      record {
        state = S;
        cell = i;
        start = p;
        below = st;
        results = cs;
        popped_is = refl;
        state_is = rw e s;
        cell_is = rw e (c refl);
        start_same = λ z. refl;
        start_is = λ z. rw e (q (omega arith));
        below_in = F;
        below_long = sym e;
        results_long = omega arith;
        result_in = λ J low high. rw e (r J low (omega arith));
      }
  pops (suc n) h m cs no_frames e l s c q r = absurd (let z : ⊥ = omega arith in z)
  pops (suc n) h m cs (a_frame {c = a} {st = st} F below) e l s c q r =
      from-any (omega arith) (pops n h m (a ∷ cs) below (omega arith) (omega arith) F.state_is (λ z. F.cell_is) (λ z. F.start_is) more)
    where
      more : (J : ℕ) → 1 ≤ J → J ≤ suc (length cs) → ResultIn (child_at (a ∷ cs) J) synthesized (length st + J - 1)
      more zero low high = absurd (let z : ⊥ = omega arith in z)
      more (suc zero) low high = let e : length st + 1 - 1 ≡ length st = omega arith in rw e F.result_is
      more (suc (suc n)) low high =
          let e : length st + suc (suc n) - 1 ≡ suc (length st) + suc n - 1 = omega arith in
          let here : suc (suc n) - 1 ≡ suc n = omega arith in
          let there : suc n - 1 ≡ n = omega arith in
          rw (e, here) (rw there at (r (suc n) (omega arith) (omega arith)))

  -- n symbols off, down to height h
  pub pops-in : (n h : ℕ) {S p : ℕ} {i : Values} {st : List Frame} → FramesIn states inherited synthesized starts st → h + n ≡ length st
      → slice_index states (length st) ≡ S → (n ≡ 0 → i ≡ cell_value inherited (length st))
      → PoppedIn states inherited synthesized starts h n p (pop n S i p st [])
  pops-in n h F e s c =
      pops n h n [] F e (omega arith) s c (λ z. absurd (let u : ⊥ = omega arith in u)) (λ J low high. absurd (let u : ⊥ = omega arith in u))
