-- Where the kernel lines of each state begin: the lines ascend by their states, so those of one state stand together.
-- Assumes nothing.
use Rattle.std.specs.Prelude.{ℕ, zero, suc, ◌+◌, ◌-◌, ◌<◌, ◌≤◌, ◌≡◌, List, [], ◌∷◌, length, get_or, take, drop}
use Rattle.std.proofs.Common.{ap, arith, eq-eqb, ne_eqb}
use Rattle.std.proofs.Math.Seq.{take-nil, drop-nil}
use Rattle.text.proofs.Positional.{by_less}
use Rattle.grammar.specs.Data.Book.{Kernel}
use Rattle.grammar.specs.Automaton.ClosureSets.{kernels_in}
use Rattle.book.specs.Held.{kernel_at}
use Rattle.items.specs.Arrays.{BoundsIn}

-- the lines from a up to e, if just these are of state S
span : (ks : List Kernel) (S a e : ℕ) → a ≤ e → e ≤ length ks → ((i : ℕ) → a ≤ i → i < e → (kernel_at ks i).state ≡ S)
    → ((i : ℕ) → i < a → (kernel_at ks i).state ≡ S → ⊥) → ((i : ℕ) → e ≤ i → i < length ks → (kernel_at ks i).state ≡ S → ⊥)
    → kernels_in ks S ≡ take (e - a) (drop a ks)
unfolding kernels_in
span [] S a e h l own before behind = rw (drop-nil a, take-nil (e - a))
span (k ∷ ks) S zero zero h l own before behind =
    rw (ne_eqb k.state S (behind 0 (omega arith) (omega arith)), kernels_in)
    (span ks S 0 0 (omega arith) (omega arith) (λ i p q. absurd (omega arith)) (λ i p. absurd (omega arith))
    (λ i p q. behind (suc i) (omega arith) (omega arith)))
span (k ∷ ks) S zero (suc e) h l own before behind =
    let n : suc e - 0 ≡ suc (e - 0) = omega arith in
    rw (eq-eqb k.state S (own 0 (omega arith) (omega arith)), kernels_in, n)
    (ap (λ (rest : List Kernel). k ∷ rest)
    (span ks S 0 e (omega arith) (omega arith) (λ i p q. own (suc i) (omega arith) (omega arith)) (λ i p. absurd (omega arith))
    (λ i p q. behind (suc i) (omega arith) (omega arith))))
span (k ∷ ks) S (suc a) zero h l own before behind = absurd (omega arith)
span (k ∷ ks) S (suc a) (suc e) h l own before behind =
    let n : suc e - suc a ≡ e - a = omega arith in
    rw (ne_eqb k.state S (before 0 (omega arith)), kernels_in, n)
    (span ks S a e (omega arith) (omega arith) (λ i p q. own (suc i) (omega arith) (omega arith)) (λ i p. before (suc i) (omega arith))
    (λ i p q. behind (suc i) (omega arith) (omega arith)))

-- of the first `count` lines, those of states below S stand before `at`, all others from it on
pub record Cut (ks : List Kernel) (count S at : ℕ) : Type 0 where
  pub within : at ≤ count
  pub lower : (i : ℕ) → i < at → (kernel_at ks i).state < S
  pub upper : (i : ℕ) → at ≤ i → i < count → S ≤ (kernel_at ks i).state

-- a line more, of a state from S on
pub cut-more : {ks : List Kernel} {count S at : ℕ} → Cut ks count S at → S ≤ (kernel_at ks count).state → Cut ks (count + 1) S at
cut-more {ks} {count} {S} C h =
    record {
      within = omega (arith, C.within);
      lower = C.lower;
      upper = λ i p q. by_less i count (λ l. C.upper i p l) (λ l. let e : i ≡ count = omega arith in rw e h);
    }

-- all lines are of states below S
pub cut_all : {ks : List Kernel} {count S : ℕ} → ((i : ℕ) → i < count → (kernel_at ks i).state < S) → Cut ks count S count
cut_all f = record { within = omega arith; lower = f; upper = λ i p q. absurd (omega arith) }

-- cuts for all states tell where each begins
pub cuts-done : (ks : List Kernel) (states : ℕ) (bounds : List ℕ) → states + 1 ≤ length bounds
    → ((i : ℕ) → i < length ks → (kernel_at ks i).state < states)
    → ((S : ℕ) → S ≤ states → Cut ks (length ks) S (get_or bounds S 0)) → BoundsIn ks states bounds
cuts-done ks states bounds long below cut =
    record {
      long = long;
      ascend = ordered;
      last_is = all;
      lines_are = λ S l. span ks S (get_or bounds S 0) (get_or bounds (S + 1) 0) (ordered S l) (cut (S + 1) (omega arith)).within (own S l)
          (λ i p e. omega (arith, (cut S (omega arith)).lower i p)) (λ i p q e. omega (arith, (cut (S + 1) (omega arith)).upper i p q));
    }
  where
    ordered : (S : ℕ) → S < states → get_or bounds S 0 ≤ get_or bounds (S + 1) 0
    ordered S l =
        by_less next (get_or bounds S 0)
        (λ b. absurd (let z : ⊥ = omega (arith, (cut S (omega arith)).lower next b, (cut (S + 1) (omega arith)).upper next (omega arith) (there b)) in z))
        (λ b. b)
      where
        next : ℕ
        next = get_or bounds (S + 1) 0

        there : next < get_or bounds S 0 → next < length ks
        there b = omega (arith, (cut S (omega arith)).within)

    own : (S : ℕ) → S < states → (i : ℕ) → get_or bounds S 0 ≤ i → i < get_or bounds (S + 1) 0 → (kernel_at ks i).state ≡ S
    own S l i p q =
        let low : i < length ks = omega (arith, (cut (S + 1) (omega arith)).within) in
        omega (arith, (cut S (omega arith)).upper i p low, (cut (S + 1) (omega arith)).lower i q)

    all : get_or bounds states 0 ≡ length ks
    all =
        by_less last (length ks) (λ b. absurd (let z : ⊥ = omega (arith, whole.upper last (omega arith) b, below last b) in z))
        (λ b. omega (arith, whole.within))
      where
        last : ℕ
        last = get_or bounds states 0

        whole : Cut ks (length ks) states last
        whole = cut states (omega arith)
