-- Whether some word of a list stands in it more than n times, asked of one word after another. Those below 32 are counted in a table of bytes; of any
-- other word it is asked how often it stands further on. Assumes nothing.
use Rattle.std.specs.Prelude.{ℕ, suc, ◌+◌, ◌≤◌, ◌<◌, ◌≡◌, refl, Bool, true, false, List, leb, length, get_or, drop, set, replicate}
use Rattle.std.proofs.Common.{arith, add-one, sym, ap, ◌∙◌, length-set, drop_of_length-le, drop-cons, get_or-set_same, get_or-set_other, leb-true, leb-false}
use Rattle.std.proofs.Math.Decide.{ℕ_discrete}
use Rattle.std.proofs.lemmas.Bool.{false≢true}
use Rattle.std.proofs.lemmas.List.{length-replicate, get_or-replicate}
use Rattle.grammar.specs.Conditions.Decides.{le-decides, by-decided, false_of, count, few, few-decides}
use Rattle.conditions.specs.Runs.{count_same, count-other}

-- the words before place i are taken: those below 32 are counted, and none of these more than n times; any other stands at most n times in the list if it
-- does so from i on
pub record Tallied (words : List ℕ) (n i : ℕ) (counts : List ℕ) : Type 0 where
  pub within : i ≤ length words
  pub long : length counts ≡ 32
  pub counted : (w : ℕ) → w < 32 → get_or counts w 0 + count w (drop i words) ≡ count w words
  pub most : (w : ℕ) → w < 32 → get_or counts w 0 ≤ n
  pub rest : (w : ℕ) → count w (drop i words) ≤ count w words
  pub high : (w : ℕ) → 32 ≤ w → count w (drop i words) ≤ n → count w words ≤ n

-- the word at place i is taken, or found to stand too often
pub record Taken (words : List ℕ) (n i : ℕ) (counts : List ℕ) (often : Bool) : Type 0 where
  pub on : often ≡ false → Tallied words n (i + 1) counts
  pub off : often ≡ true → false ≡ few n words

-- nothing is counted where the loop begins
pub tallied-start : {words : List ℕ} {n : ℕ} → Tallied words n 0 (replicate 32 0)
tallied-start {words} {n} = record {
  within = omega arith;
  long = length-replicate {A = ℕ} 32 0;
  counted = λ w l. rw (get_or-replicate {A = ℕ} 32 w 0 0 l) (omega arith);
  most = λ w l. rw (get_or-replicate {A = ℕ} 32 w 0 0 l) (omega arith);
  rest = λ w. omega arith;
  high = λ w l h. h;
}

-- all words are taken where it ends
pub tallied-end : {words : List ℕ} {n i : ℕ} {counts : List ℕ} → Tallied words n i counts → length words ≤ i → true ≡ few n words
unfolding count
tallied-end {words} {n} {i} t h = sym ((few-decides n words).complete λ w. go w (ap (count w) (drop_of_length-le words h)))
  where
    go : (w : ℕ) → count w (drop i words) ≡ 0 → count w words ≤ n
    go w e =
        by-decided (le-decides 32 w) (λ _ l. t.high w l (omega arith)) (λ _ l. omega (arith, t.counted w (omega arith), t.most w (omega arith)))

module _ {words : List ℕ} {n i : ℕ} {counts : List ℕ} (h : i < length words) (t : Tallied words n i counts) where
  -- how often a word stands from place i on, if it is the word there, and if it is another
  here : (w : ℕ) → get_or words i 0 ≡ w → count w (drop i words) ≡ suc (count w (drop (i + 1) words))
  here w e = rw (add-one i) (ap (count w) (drop-cons words i 0 h) ∙ count_same w (get_or words i 0) (drop (suc i) words) e)

  other : (w : ℕ) → (get_or words i 0 ≡ w → ⊥) → count w (drop i words) ≡ count w (drop (i + 1) words)
  other w e = rw (add-one i) (ap (count w) (drop-cons words i 0 h) ∙ count-other w (get_or words i 0) (drop (suc i) words) e)

  -- no word stands more often after place i than in the list
  less : (w : ℕ) → count w (drop (i + 1) words) ≤ count w words
  less w = go (ℕ_discrete (get_or words i 0) w)
    where
      go : Dec (get_or words i 0 ≡ w) → count w (drop (i + 1) words) ≤ count w words
      go (yes e) = omega (arith, here w e, t.rest w)
      go (no e) = omega (arith, other w e, t.rest w)

  -- a word that is counted n times stands once more
  pub low-often : get_or words i 0 < 32 → n ≤ get_or counts (get_or words i 0) 0 → Taken words n i counts true
  low-often l m = record {
    on = λ e. absurd (false≢true (sym e));
    off = λ e. sym (false_of (few-decides n words) λ f. omega (arith, f (get_or words i 0), here (get_or words i 0) refl, t.counted (get_or words i 0) l));
  }

  -- one that is counted less often is counted
  pub low-taken : get_or words i 0 < 32 → get_or counts (get_or words i 0) 0 < n
      → Taken words n i (set counts (get_or words i 0) (get_or counts (get_or words i 0) 0 + 1)) false
  low-taken l m = record {
    on = λ e. record {
      within = omega arith;
      long = length-set counts (get_or words i 0) (get_or counts (get_or words i 0) 0 + 1) ∙ t.long;
      counted = λ w k. go w k (ℕ_discrete w (get_or words i 0));
      most = λ w k. at_most w k (ℕ_discrete w (get_or words i 0));
      rest = less;
      high = λ w k q. t.high w k (omega (arith, other w (λ e. omega arith)));
    };
    off = λ e. absurd (false≢true e);
  }
    where
      go : (w : ℕ) → w < 32 → Dec (w ≡ get_or words i 0)
          → get_or (set counts (get_or words i 0) (get_or counts (get_or words i 0) 0 + 1)) w 0 + count w (drop (i + 1) words) ≡ count w words
      go w k (yes e) =
          rw (← e, get_or-set_same counts w (get_or counts w 0 + 1) 0 (omega (arith, t.long))) (omega (arith, here w (sym e), t.counted w k))
      go w k (no e) =
          rw (get_or-set_other counts (get_or words i 0) w (get_or counts (get_or words i 0) 0 + 1) 0 e)
          (omega (arith, other w (λ q. e (sym q)), t.counted w k))

      at_most : (w : ℕ) → w < 32 → Dec (w ≡ get_or words i 0) → get_or (set counts (get_or words i 0) (get_or counts (get_or words i 0) 0 + 1)) w 0 ≤ n
      at_most w k (yes e) = rw (← e, get_or-set_same counts w (get_or counts w 0 + 1) 0 (omega (arith, t.long))) (omega (arith, ap (λ v. get_or counts v 0) e))
      at_most w k (no e) = rw (get_or-set_other counts (get_or words i 0) w (get_or counts (get_or words i 0) 0 + 1) 0 e) (t.most w k)

  -- any other word stands k times further on
  pub high_taken : {k : ℕ} → 32 ≤ get_or words i 0 → k ≡ count (get_or words i 0) (drop (i + 1) words) → Taken words n i counts (leb n k)
  high_taken {k} l m = record {
    on = λ e. record {
      within = omega arith;
      long = t.long;
      counted = λ w q. omega (arith, other w (λ p. omega arith), t.counted w q);
      most = t.most;
      rest = less;
      high = λ w q f. t.high w q (go w f (leb-false n k e) (ℕ_discrete (get_or words i 0) w));
    };
    off = λ e. sym (false_of (few-decides n words) λ f. omega (
      arith,
      f (get_or words i 0),
      here (get_or words i 0) refl,
      t.rest (get_or words i 0),
      leb-true n k e,
    ));
  }
    where
      go : (w : ℕ) → count w (drop (i + 1) words) ≤ n → k < n → Dec (get_or words i 0 ≡ w) → count w (drop i words) ≤ n
      go w f s (yes e) = omega (arith, here w e, m ∙ ap (λ v. count v (drop (i + 1) words)) e)
      go w f s (no e) = omega (arith, other w e)
