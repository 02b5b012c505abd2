-- A record of 33 words that is put on the synthesized stack: a token's, or that of a rule's left side. Assumes nothing.
use Rattle.std.specs.Prelude.{ℕ, ◌+◌, ◌*◌, ◌≤◌, ◌<◌, ◌≡◌, length, set, replicate}
use Rattle.std.proofs.Math.Path.{sym, ap}
use Rattle.std.proofs.Common.{◌∙◌, arith, length-set, get_or-set_same}
use mathlib.Core.List.{List}
use Rattle.std.proofs.Math.Decide.{ℕ_discrete, dec_lt}
use Rattle.std.proofs.Math.ListN.{get_or, get_or-replicate}
use Rattle.std.proofs.Math.Seq.{get_or-set_other}
use Rattle.grammar.specs.Evaluator.Decorated.{Values, token, values, synthesized_of, token_value_of}
use Rattle.cells.specs.Cells.{cleared}
use Rattle.cells.specs.CellsLaws.{cleared-long, cleared_at, cleared-before}
use Rattle.cells.specs.Frames.{record_value, ResultIn}
use Rattle.cells.specs.FramesLaws.{record-word, record-past, Agree}

-- the first n words of a record stand from a place on, and the words before it are as they were
pub record Stored (place : ℕ) (fresh old : List ℕ) (n : ℕ) (new : List ℕ) : Type 0 where
  pub long : length new ≡ length old
  pub before : Agree place old new
  pub word_is : (k : ℕ) → k < n → get_or new (place + k) 0 ≡ get_or fresh k 0

-- words that are cleared
pub stored-cleared : (place n : ℕ) (old : List ℕ) → place + n ≤ length old → Stored place (replicate n 0) old n (cleared place n old)
stored-cleared place n old room = record {
  long = cleared-long place n old;
  before = record { same_word = cleared-before place n old };
  word_is = λ k h. cleared_at place n old k h room ∙ sym (get_or-replicate {A = ℕ} n k 0 0 h);
}

-- a word of the record
pub stored-set : {place n : ℕ} {fresh old new : List ℕ} → Stored place fresh old n new → (k v : ℕ) → k < n → k < length fresh → place + n ≤ length old
    → Stored place (set fresh k v) old n (set new (place + k) v)
stored-set {place} {n} {fresh} {old} {new} S k v low there room = record {
  long = length-set new (place + k) v ∙ S.long;
  before = record { same_word = λ i l. get_or-set_other new (place + k) i v 0 (λ e. omega arith) ∙ S.before.same_word i l };
  word_is = λ j l. by j l (ℕ_discrete j k);
}
  where
    by : (j : ℕ) → j < n → Dec (j ≡ k) → get_or (set new (place + k) v) (place + j) 0 ≡ get_or (set fresh k v) j 0
    by j l (yes e) = rw e (get_or-set_same new (place + k) v 0 (omega (arith, S.long)) ∙ sym (get_or-set_same fresh k v 0 there))
    by j l (no d) =
        get_or-set_other new (place + k) (place + j) v 0 (λ e. d (omega arith)) ∙ S.word_is j l ∙ sym (get_or-set_other fresh k j v 0 d)

-- a record on the stack is what its words say
module _ (n : ℕ) {fresh old new : List ℕ} (S : Stored (33 * n) fresh old 33 new) where
  first_word : get_or new (33 * n) 0 ≡ get_or fresh 0 0
  first_word = let e : 33 * n + 0 ≡ 33 * n = omega arith in rw e at (S.word_is 0 (omega arith))

  attribute-word : (K : ℕ) → K < 32 → record_value new n K ≡ get_or fresh (1 + K) 0
  attribute-word K h =
      let e : 33 * n + (1 + K) ≡ 33 * n + 1 + K = omega arith in
      record-word new n K h ∙ rw e at (S.word_is (1 + K) (omega arith))

  -- a token's
  pub token-in : (v : ℕ) → fresh ≡ set (replicate 33 0) 0 v → ResultIn (token v) new n
  unfolding token_value_of synthesized_of
  token-in v e = record {
    value_is = sym (first_word ∙ ap (λ (l : List ℕ). get_or l 0 0) e);
    attributes_are = λ K. by K (dec_lt K 32);
  }
    where
      by : (K : ℕ) → Dec (K < 32) → 0 ≡ record_value new n K
      by K (yes h) =
          sym (attribute-word K h ∙ ap (λ (l : List ℕ). get_or l (1 + K) 0) e ∙ get_or-set_other (replicate 33 0) 0 (1 + K) v 0 (λ z. omega arith)
          ∙ get_or-replicate {A = ℕ} 33 (1 + K) 0 0 (omega arith))
      by K (no h) = sym (record-past new n K (omega arith))

  -- a left side's
  pub values-in : (s : Values) → get_or fresh 0 0 ≡ 0 → ((K : ℕ) → K < 32 → s K ≡ get_or fresh (1 + K) 0) → ((K : ℕ) → 32 ≤ K → s K ≡ 0)
      → ResultIn (values s) new n
  unfolding token_value_of synthesized_of
  values-in s z low past = record {
    value_is = sym (first_word ∙ z);
    attributes_are = λ K. by K (dec_lt K 32);
  }
    where
      by : (K : ℕ) → Dec (K < 32) → s K ≡ record_value new n K
      by K (yes h) = low K h ∙ sym (attribute-word K h)
      by K (no h) = past K (omega arith) ∙ sym (record-past new n K (omega arith))
