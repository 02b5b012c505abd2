-- What `all` answers: the test of a list, or of the places below a number.
-- Assumes nothing.
use Prim.Native.Nat.{ℕ, ◌<◌}
use denote.Param.Members.{Mut}
use denote.Ref.{Bor}
use Rattle.std.specs.Prelude.{◌≡◌, Bool, true, false, List, length, get_or, Option, MatchOption}
use Rattle.std.proofs.Common.{arith, sym, ◌∙◌, refl}
use Rattle.std.specs.Bool.{MatchBool}
use Rattle.std.specs.Fn.{Called}
use Rattle.std.specs.Iterator.{YieldsThen}
use Rattle.std.specs.List.{AllWithin, HoldsAt, FoldsTo, range_with_len}
use Rattle.std.specs.Slice.Iter.{iter_rest}
use Rattle.std.proofs.iter.Yields.{fronts, nat_range_steps}
use Rattle.std.proofs.lemmas.Iterator.{cases_from_all, YieldsList-from_slice, YieldsList-from_range}
use Rattle.std.proofs.lemmas.List.FromFn.{length-range_with_len, get_or-range_with_len}
use Rattle.grammar.specs.Conditions.Decides.{all, all_below}
use Rattle.conditions.specs.Answers.{Answers, all-below, below_all, fails}

-- the calls of a closure g at the items of a run, up to the first that it refuses
abbrev pub Ran : {S A F : Type 0} → (S → Option A → S → Type 0) → Mut F (A × Unit {0}) Bool → S → S → F → Bool → Type 0
Ran {A = A} {F = F} steps g s u h r = (xs : List A) × (o : Option A) × (j : F) × YieldsThen steps s xs o u × FoldsTo (λ p x q. Called g p (x, tt) true q) h xs j
    × MatchOption o (r ≡ true) (λ x. (r ≡ false) × ((k : F) × Called g j (x, tt) false k))

-- the places below a number, and one of them
place : {n k : ℕ} → k < n → get_or (range_with_len 0 n) k 0 ≡ k
place {n} {k} l = get_or-range_with_len 0 n k 0 l ∙ omega arith

-- `(0..n).all(|k| ..)`, where the closure answers a test of k
pub all_numbers : {F : Type 0} {g : Mut F (ℕ × Unit {0}) Bool} (f : ℕ → Bool) (n : ℕ) (u : _) (h : F) (r : Bool)
    → Ran nat_range_steps g (record { start = 0; end = n }) u h r
    → ((k : ℕ) (q : F) → Called g h (k, tt) true q → (q ≡ h) × (f k ≡ true)) → ((k : ℕ) (q : F) → Called g h (k, tt) false q → f k ≡ false)
    → r ≡ all_below n f
all_numbers f n u h r ran passes fails-at =
    go r (cases_from_all u h r (λ k. f k ≡ true) (λ k. f k ≡ false) ran (YieldsList-from_range 0 n n refl (omega arith)) passes fails-at)
  where
    go : (r : Bool)
        → MatchBool r (AllWithin (λ k. f k ≡ true) (range_with_len 0 n) 0 (length (range_with_len 0 n)))
        ((k : ℕ) × (k < length (range_with_len 0 n)) × HoldsAt (λ k. f k ≡ false) (range_with_len 0 n) k)
        → r ≡ all_below n f
    go true m = sym (below_all f n λ k l. rw (place l) at (m k 0 (omega arith) (omega (arith, length-range_with_len 0 n))))
    go false (k, l, m) = let t : k < n = omega (arith, length-range_with_len 0 n) in sym (fails f n k t (rw (place t) at (m 0)))

-- the same where it answers a test of what is held, as far as something is known of place k, which is known of each place below n
pub all_places : {A : Type 0} {H : A → Type 0} {F : Type 0} {g : Mut F (ℕ × Unit {0}) Bool} (f : A → ℕ → Bool) (P : ℕ → A → Type 0) (n : ℕ)
    → ((x : A) → H x → (k : ℕ) → k < n → P k x) → (u : _) (h : F) (r : Bool)
    → Ran nat_range_steps g (record { start = 0; end = n }) u h r
    → ((k : ℕ) (q : F) → Called g h (k, tt) true q → (q ≡ h) × ((x : A) → P k x → f x k ≡ true))
    → ((k : ℕ) (q : F) → Called g h (k, tt) false q → (x : A) → P k x → f x k ≡ false)
    → Answers H (λ x. all_below n (f x)) r
all_places {A} {H} f P n known u h r ran passes fails-at =
    go r (cases_from_all u h r (λ k. (x : A) → P k x → f x k ≡ true) (λ k. (x : A) → P k x → f x k ≡ false) ran
    (YieldsList-from_range 0 n n refl (omega arith)) passes fails-at)
  where
    go : (r : Bool)
        → MatchBool r (AllWithin (λ k. (x : A) → P k x → f x k ≡ true) (range_with_len 0 n) 0 (length (range_with_len 0 n)))
        ((k : ℕ) × (k < length (range_with_len 0 n)) × HoldsAt (λ k. (x : A) → P k x → f x k ≡ false) (range_with_len 0 n) k)
        → Answers H (λ x. all_below n (f x)) r
    go true m = record {
      for_all = λ x c. sym (below_all (f x) n λ k l. rw (place l) at (m k 0 (omega arith) (omega (arith, length-range_with_len 0 n))) x (known x c k l));
    }
    go false (k, l, m) =
        let t : k < n = omega (arith, length-range_with_len 0 n) in
        record { for_all = λ x c. sym (fails (f x) n k t (rw (place t) at (m 0) x (known x c k t))) }

-- `list.iter().all(|x| ..)`, where the closure answers a test of x
pub all_items : {F : Type 0} {g : Mut F (Bor ℕ × Unit {0}) Bool} (f : ℕ → Bool) (xs : List ℕ) {s : _} (u : _) (h : F) (r : Bool) → iter_rest s ≡ xs
    → Ran fronts g s u h r
    → ((x : Bor ℕ) (q : F) → Called g h (x, tt) true q → (q ≡ h) × (f x.now ≡ true))
    → ((x : Bor ℕ) (q : F) → Called g h (x, tt) false q → f x.now ≡ false)
    → r ≡ all f xs
all_items f xs u h r e ran passes fails-at =
    go r (cases_from_all u h r (λ x. f x ≡ true) (λ x. f x ≡ false) ran (YieldsList-from_slice xs e) passes fails-at)
  where
    go : (r : Bool) → MatchBool r (AllWithin (λ x. f x ≡ true) xs 0 (length xs)) ((k : ℕ) × (k < length xs) × HoldsAt (λ x. f x ≡ false) xs k)
        → r ≡ all f xs
    go true m = sym (all-below f 0 xs ∙ below_all (λ i. f (get_or xs i 0)) (length xs) (λ i l. m i 0 (omega arith) l))
    go false (k, l, m) = sym (all-below f 0 xs ∙ fails (λ i. f (get_or xs i 0)) (length xs) k l (m 0))
