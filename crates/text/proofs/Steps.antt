-- The steps of the readers in code: each way out of `mark`, `numeral`, `digits` and `keyword`, and each turn of the loop over the digits.
-- Assumes nothing.
use Prim.Native.Nat.{ℕ, ◌+◌, ◌*◌, ◌≤◌, ◌<◌}
use mathlib.Core.Path.{◌≡◌, refl, sym, ap, ◌∙◌}
use mathlib.Core.Bool.{true}
use mathlib.Core.List.{List, ◌∷◌}
use native.Mathlib.Omega.{arith}
use native.Mathlib.Nat.{mul-le-mul}
use lib.Dec.{eqb}
use lib.ListN.{length, drop, get_or, drop_of_length-le}
use borrow.Author.Tests.{eq-eqb}
use Rattle.text.specs.Class.{class_of}
use Rattle.text.specs.Rest.{rest, must, mark, mark_in}
use Rattle.text.proofs.RestLaws.{rest_in, rest_out, rest_at, rest_end, drop_more, mark-class, mark-other}
use Rattle.text.specs.Numeral.{System, letters, Read, bad, got, digit_of, digits, numeral, read, number_of, rest_of, value, past, keyword}
use Rattle.text.specs.Positional.{no_digit}
use Rattle.text.proofs.Positional.{digit-below, digits-stop, digits-over, digits_more, numeral-zero, numeral-none, numeral-first}
use Rattle.text.specs.Reading.{Reads, Amid, Answers}
use Rattle.text.specs.Valid.{Valid}

-- One byte

pub mark-out : (c : ℕ) (text : List ℕ) (at next : ℕ) → length text ≤ at → length text < next → rest text next ≡ mark c (rest text at)
unfolding mark mark_in
mark-out c text at next h k = rest_end text at h (λ e. rw (e, rest_out text next k)) (λ e. rw (e, rest_out text next k))

pub mark-at : (c : ℕ) (text : List ℕ) (at : ℕ) → at < length text → class_of (get_or text at 0) ≡ c → rest text (at + 1) ≡ mark c (rest text at)
mark-at c text at h e = rw (rest_at text at h, mark-class (get_or text at 0) c (drop (at + 1) text) e) (rest_in text (at + 1) (omega arith))

pub mark-not : (c : ℕ) (text : List ℕ) (at next : ℕ) → at < length text → (class_of (get_or text at 0) ≡ c → ⊥) → length text < next
    → rest text next ≡ mark c (rest text at)
mark-not c text at next h e k = rw (rest_at text at h, mark-other (get_or text at 0) c (drop (at + 1) text) e) (rest_out text next k)

-- Numbers

module _ {m : Read} (text : List ℕ) where
  answers-got : (n next : ℕ) → next ≤ length text → m ≡ got n (drop next text) → Answers m text n next
  unfolding number_of rest_of
  answers-got n next h e = record { number_is = sym (ap number_of e); next-is = rest_in text next h ∙ sym (ap rest_of e) }

  answers-bad : (next : ℕ) → length text < next → m ≡ bad → Answers m text 0 next
  unfolding number_of rest_of
  answers-bad next h e = record { number_is = sym (ap number_of e); next-is = rest_out text next h ∙ sym (ap rest_of e) }

-- the first digit is a number, as any other
pub first_fits : {S : System} {d : ℕ} (b : ℕ) → Valid S → d ≡ digit_of S b → (d ≡ S.base → ⊥) → d ≤ S.limit
first_fits {S} b k e h = omega (arith, k.one_digit, e, digit-below S k.positional b (λ q. h (e ∙ q)))

module _ (S : System) (text : List ℕ) (at : ℕ) where
  reads_of : {m : Read} {v next : ℕ} → read S (rest text at) ≡ m → Answers m text v next → Reads S text at v next
  unfolding value past
  reads_of e t = record { value_is = t.number_is ∙ sym (ap number_of e); rest_is = t.next-is ∙ sym (ap rest_of e) }

  read_out : length text ≤ at → read S (rest text at) ≡ bad
  unfolding read numeral
  read_out h = rest_end text at h (λ e. rw e) (λ e. rw e)

  read_at : at < length text → read S (rest text at) ≡ numeral S (get_or text at 0 ∷ drop (at + 1) text)
  unfolding read
  read_at h = ap (read S) (rest_at text at h)

  pub reads-out : {next : ℕ} → length text ≤ at → length text < next → Reads S text at 0 next
  reads-out {next} h l = reads_of (read_out h) (answers-bad text next l refl)

  -- by the first byte's digit: it is 0, it is none, it begins a number
  module _ {d : ℕ} (h : at < length text) (e : d ≡ digit_of S (get_or text at 0)) where
    pub reads-zero : d ≡ 0 → Reads S text at 0 (at + 1)
    reads-zero z =
        reads_of (read_at h ∙ numeral-zero S (get_or text at 0) (drop (at + 1) text) (sym e ∙ z)) (answers-got text 0 (at + 1) (omega arith) refl)

    pub reads_none : {next : ℕ} → (d ≡ 0 → ⊥) → d ≡ S.base → length text < next → Reads S text at 0 next
    reads_none {next} z k l =
        reads_of (read_at h ∙ numeral-none S (get_or text at 0) (drop (at + 1) text) (λ q. z (e ∙ q)) (sym e ∙ k)) (answers-bad text next l refl)

    pub reads-some : {v next : ℕ} → Valid S → (d ≡ 0 → ⊥) → (d ≡ S.base → ⊥) → Answers (digits S d (drop (at + 1) text)) text v next → Reads S text at v next
    reads-some k z n t =
        let l : digit_of S (get_or text at 0) ≤ S.limit = rw (← e) (first_fits (get_or text at 0) k e n) in
        reads_of (read_at h ∙ (numeral-first S (get_or text at 0) (drop (at + 1) text) (λ q. z (e ∙ q)) (λ q. n (e ∙ q)) l ∙ rw (← e))) t

  -- the base is not 0, so that a byte that is no digit need not be told from the digit 0
  pub reads-base : {next : ℕ} → Valid S → at < length text → digit_of S (get_or text at 0) ≡ S.base → length text < next → Reads S text at 0 next
  reads-base k h e l = reads_none h refl (λ q. absurd (omega (arith, k.positional.base_is, e, q))) e l

-- The loop over the digits: what stands at i, with v so far, is what stood at the beginning
pub record Going (S : System) (text : List ℕ) (first at v i : ℕ) : Type 0 where
  pub amid : Amid S text v i
  pub same : digits S first (drop at text) ≡ digits S v (drop i text)

module _ (S : System) (text : List ℕ) (first at : ℕ) where
  pub going_start : Amid S text first at → Going S text first at first at
  going_start a = record { amid = a; same = refl }

  module _ {v i : ℕ} (g : Going S text first at v i) where
    here : i < length text → digits S first (drop at text) ≡ digits S v (get_or text i 0 ∷ drop (i + 1) text)
    here h = g.same ∙ rw (drop_more text i h)

    -- a digit more
    pub going-turn : {d : ℕ} → i < length text → d ≡ digit_of S (get_or text i 0) → (d ≡ S.base → ⊥) → v * S.base + d ≤ S.limit
        → Going S text first at (v * S.base + d) (i + 1)
    going-turn {d} h e k l =
        record {
          amid = record { within = omega arith; small = l };
          same = here h ∙ (digits_more S v (get_or text i 0) (drop (i + 1) text) (λ q. k (e ∙ q)) (rw (← e) l) ∙ rw e);
        }

    -- a byte that is no digit, a digit too many, the end of the text
    pub going-stop : i < length text → digit_of S (get_or text i 0) ≡ S.base → Answers (digits S first (drop at text)) text v i
    unfolding no_digit
    going-stop h e =
        let z : no_digit S (get_or text i 0 ∷ drop (i + 1) text) ≡ true = eq-eqb (digit_of S (get_or text i 0)) S.base e in
        answers-got text v i g.amid.within (here h ∙ (digits-stop S v (get_or text i 0 ∷ drop (i + 1) text) z ∙ rw (drop_more text i h)))

    pub going-over : {d next : ℕ} → i < length text → d ≡ digit_of S (get_or text i 0) → (d ≡ S.base → ⊥) → S.limit < v * S.base + d
        → length text < next → Answers (digits S first (drop at text)) text 0 next
    going-over {d} {next} h e k l m =
        answers-bad text next m (here h ∙ digits-over S v (get_or text i 0) (drop (i + 1) text) (λ q. k (e ∙ q)) (rw (← e) l))

    pub going_end : length text ≤ i → Answers (digits S first (drop at text)) text v (length text)
    unfolding digits
    going_end h =
        let e : i ≡ length text = omega (arith, g.amid.within) in
        rw (← e) (answers-got text v i g.amid.within (g.same ∙ rw (drop_of_length-le text h)))

-- no sum passes 64 bits
pub next_fits : {S : System} {v : ℕ} → Valid S → v ≤ S.limit → v * S.base ≤ 1099511627520
next_fits {S} {v} k l =
    let m : v ≤ 4294967295 = omega (arith, k.limit_fits) in
    mul-le-mul {n₁ = v} {m₁ = S.base} {n₂ = 4294967295} {m₂ = 256} m k.base_fits

-- a word that is compared is a keyword
pub keyword-at : (text : List ℕ) (at v next w done : ℕ) → Reads letters text at v next → rest text done ≡ must (eqb v w) (rest text next)
    → rest text done ≡ keyword w (rest text at)
unfolding keyword
keyword-at text at v next w done r e = rw (← r.value_is, ← r.rest_is) e
