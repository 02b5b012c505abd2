-- Arrays of nine words a rule, one for each dot: filling one rule's words, dot by dot, and rule after rule.
-- Assumes nothing.
use Rattle.std.specs.Prelude.{ℕ, ◌+◌, ◌*◌, ◌-◌, ◌≤◌, ◌<◌, ◌≡◌, refl, Bool, true, false, List, [], ◌∷◌, eqb, length, get_or, set, drop}
use Rattle.std.proofs.Common.{sym, ap, ◌∙◌, subst, arith, add-one, length-set, get_or-set_same, get_or-set_other, eqb-true}
use Rattle.std.proofs.lemmas.Bool.{eqb-false}
use Rattle.sets.specs.Bits.{below_suc}
use Rattle.grammar.specs.Data.Symbol.{Symbol, right_of, after}
use Rattle.items.specs.GrammarOf.{
  symbol_of,
  size_word,
  symbol_word,
  right_in,
  grammar_of,
  rest-none,
  rest-before,
  right-size,
  grammar-size,
  right_is,
  RuleFits,
  GrammarFits,
}

-- from `place` on, the words of the dots from low up to high have what `value` says of each; words below are as they were
pub record Filled (value : ℕ → ℕ) (place low high : ℕ) (old now : List ℕ) : Type 0 where
  pub long : length now ≡ length old
  pub word_is : (D : ℕ) → low ≤ D → D < high → get_or now (place + D) 0 ≡ value D
  pub below : (i : ℕ) → i < place → get_or now i 0 ≡ get_or old i 0

pub fill_none : {value : ℕ → ℕ} {place low high : ℕ} {old : List ℕ} → high ≤ low → Filled value place low high old old
fill_none h = record { long = refl; word_is = λ D l m. absurd (omega arith); below = λ i l. refl }

module _ {value : ℕ → ℕ} {place low high : ℕ} {old now : List ℕ} (F : Filled value place low high old now) (d : ℕ) {w : ℕ}
    (h : place + d < length old) (e : w ≡ value d) where
  stored : {a b : ℕ} → ((D : ℕ) → a ≤ D → D < b → (D ≡ d → ⊥) → (low ≤ D) × (D < high)) → Filled value place a b old (set now (place + d) w)
  stored within = record {
    long = length-set now (place + d) w ∙ F.long;
    word_is = λ D l m. by-dot D (within D l m);
    below = λ i l. get_or-set_other now (place + d) i w 0 (λ q. omega arith) ∙ F.below i l;
  }
    where
      by-dot : (D : ℕ) → ((D ≡ d → ⊥) → (low ≤ D) × (D < high)) → get_or (set now (place + d) w) (place + D) 0 ≡ value D
      by-dot D t = go (eqb D d) refl
        where
          go : (q : Bool) → eqb D d ≡ q → get_or (set now (place + d) w) (place + D) 0 ≡ value D
          go true q = rw (eqb-true D d q) (get_or-set_same now (place + d) w 0 (omega (arith, F.long)) ∙ e)
          go false q =
              let n : D ≡ d → ⊥ = eqb-false D d q in
              get_or-set_other now (place + d) (place + D) w 0 (λ z. n (omega arith)) ∙ F.word_is D (t n).0 (t n).1

  -- one dot more, at the lower end or at the upper
  pub fill-down : low ≡ d + 1 → Filled value place d high old (set now (place + d) w)
  fill-down q = stored (λ D l m n. (omega arith, omega arith))

  pub fill-up : high ≡ d → Filled value place low (d + 1) old (set now (place + d) w)
  fill-up q = stored (λ D l m n. (omega arith, omega arith))

-- the words of the rules below p, where rule P has dots 0 to `last P`
pub record RulesFilled (value : ℕ → ℕ → ℕ) (last : ℕ → ℕ) (old now : List ℕ) (p : ℕ) : Type 0 where
  pub long : length now ≡ length old
  pub word_is : (P D : ℕ) → P < p → D ≤ last P → get_or now (9 * P + D) 0 ≡ value P D

module _ {value : ℕ → ℕ → ℕ} {last : ℕ → ℕ} {old : List ℕ} where
  rules-begin : RulesFilled value last old old 0
  rules-begin = record { long = refl; word_is = λ P D h l. absurd (omega arith) }

  rules-turn : {now next : List ℕ} {p : ℕ} → RulesFilled value last old now p → ((P : ℕ) → P < p → last P ≤ 8)
      → Filled (value p) (9 * p) 0 (last p + 1) now next → RulesFilled value last old next (p + 1)
  rules-turn {now} {next} {p} R short F = record {
    long = F.long ∙ R.long;
    word_is = λ P D h. below_suc (λ n. D ≤ last n → get_or next (9 * n + D) 0 ≡ value n D) p P (rw (add-one p) at h)
        (λ q l. F.below (9 * P + D) (omega (arith, short P q)) ∙ R.word_is P D q l) (λ l. F.word_is D (omega arith) (omega arith));
  }

-- ---- what is told of every rest of every rule

-- of rule P after D symbols, what f tells of the rest
abbrev pub of_rest : (List Symbol → ℕ) → List ℕ → ℕ → ℕ → ℕ
of_rest f words P D = f (drop D (right_in words P))

-- the words of rule P's dots tell it, and words below are as they were
abbrev pub RestsAre : (List Symbol → ℕ) → List ℕ → ℕ → List ℕ → List ℕ → Type 0
RestsAre f words P old now = Filled (of_rest f words P) (9 * P) 0 (size_word words P + 1) old now

-- from the last dot down: what is told of the rest after d symbols is known, and stored of all shorter ones
pub record Backward (f : List Symbol → ℕ) (words : List ℕ) (P : ℕ) (old now : List ℕ) (d behind : ℕ) : Type 0 where
  pub within : d ≤ size_word words P
  pub filled : Filled (of_rest f words P) (9 * P) (d + 1) (size_word words P + 1) old now
  pub behind_is : behind ≡ f (drop d (right_in words P))

module _ (f : List Symbol → ℕ) {words : List ℕ} {P : ℕ} {old : List ℕ} where
  pub backward-begins : {last w : ℕ} → last ≡ size_word words P → w ≡ f [] → Backward f words P old old last w
  backward-begins {last} e q = record {
    within = omega arith;
    filled = fill_none (omega arith);
    behind_is = q ∙ ap f (sym (rest-none words P last (omega arith)));
  }

  module _ (R : RuleFits words P) (long : 9 * P + 9 ≤ length old) {now : List ℕ} {d behind : ℕ} (B : Backward f words P old now d behind) where
    kept : Filled (of_rest f words P) (9 * P) d (size_word words P + 1) old (set now (9 * P + d) behind)
    kept = fill-down B.filled d (omega (arith, R.below, R.size_low, B.within)) B.behind_is refl

    pub backward-turn : 0 < d → {word next : ℕ} → word ≡ symbol_word words P (d - 1) → next ≡ f (symbol_of word ∷ drop d (right_in words P))
        → Backward f words P old (set now (9 * P + d) behind) (d - 1) next
    backward-turn l {word} e q = record {
      within = omega (arith, B.within);
      filled =
          let one : d ≡ d - 1 + 1 = omega arith in
          subst (λ (n : ℕ). Filled (of_rest f words P) (9 * P) n (size_word words P + 1) old (set now (9 * P + d) behind)) one kept;
      behind_is = q ∙ ap f (rw e (sym (rest-before words P d l B.within)));
    }

    pub backward-ends : d ≤ 0 → RestsAre f words P old (set now (9 * P) behind)
    backward-ends h =
        let q : d ≡ 0 = omega arith in
        let i : 9 * P + d ≡ 9 * P = omega arith in
        subst (λ (n : ℕ). RestsAre f words P old (set now n behind)) i
        (subst (λ (n : ℕ). Filled (of_rest f words P) (9 * P) n (size_word words P + 1) old (set now (9 * P + d) behind)) q kept)

-- rule after rule
pub record RestsFilled (f : List Symbol → ℕ) (words : List ℕ) (count : ℕ) (old now : List ℕ) (p : ℕ) : Type 0 where
  pub within : p ≤ count
  pub rules : RulesFilled (of_rest f words) (size_word words) old now p

module _ (f : List Symbol → ℕ) {words : List ℕ} {count : ℕ} {old : List ℕ} where
  pub rests-begin : RestsFilled f words count old old 0
  rests-begin = record { within = omega arith; rules = rules-begin }

  module _ {now : List ℕ} {p : ℕ} (R : RestsFilled f words count old now p) where
    pub rests-turn : GrammarFits words count → p < count → {next : List ℕ} → RestsAre f words p now next → RestsFilled f words count old next (p + 1)
    rests-turn G h F = record { within = omega arith; rules = rules-turn R.rules (λ P l. (G.rule_fits P (omega (arith, R.within))).size_low) F }

    pub rests-end : count ≤ p → (P D : ℕ) → P < length (grammar_of words count) → D ≤ length (right_of (grammar_of words count) P)
        → get_or now (9 * P + D) 0 ≡ f (after (grammar_of words count) P D)
    rests-end h P D l m =
        let i : P < count = rw (grammar-size words count) at l in
        let e : right_of (grammar_of words count) P ≡ right_in words P = right_is words count P i in
        let n : D ≤ size_word words P = rw (e, right-size words P) at m in
        R.rules.word_is P D (omega arith) n ∙ ap (λ (β : List Symbol). f (drop D β)) (sym e)
