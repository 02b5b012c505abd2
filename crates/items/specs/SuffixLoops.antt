-- What the loops that fill the arrays of null and FIRST of every rest keep true: over a right side, and over the rules.
-- Each also tells whether something can follow wherever a rest stands. Assumes nothing.
use Rattle.std.specs.Prelude.{ℕ, ◌+◌, ◌*◌, ◌-◌, ◌<◌, ◌≤◌, ◌≡◌, refl, Bool, true, false, not, ◌&&◌, List, [], ◌∷◌, length, set, drop}
use Rattle.std.proofs.Common.{arith, sym, ap, ◌∙◌}
use Rattle.std.specs.Int.{from_bool}
use Rattle.std.proofs.Math.Decide.{ℕ_discrete}
use Rattle.std.proofs.lemmas.Bool.{not-true}
use Rattle.grammar.specs.Data.Symbol.{Symbol}
use Rattle.grammar.specs.Automaton.TestLaws.{both_true}
use Rattle.grammar.specs.Automaton.FirstSets.{null_in, first_in, Sets, sets, null, first}
use Rattle.grammar.specs.Automaton.ReachSets.{dead}
use Rattle.items.specs.Arrays.{flag, SuffixesIn}
use Rattle.items.specs.Filling.{
  Backward,
  backward-begins,
  backward-turn,
  backward-ends,
  RestsAre,
  RestsFilled,
  rests-begin,
  rests-turn,
  rests-end,
}
use Rattle.items.specs.GrammarOf.{
  symbol_of,
  size_word,
  symbol_word,
  right_in,
  grammar_of,
  rest-none,
  rest-before,
  right-size,
  grammar-size,
  right_is,
  RuleFits,
  GrammarFits,
}
use Rattle.items.specs.Living.{Living}
use Rattle.items.specs.Rests.{RestIs, from-flag, flag-same}

-- of rule P, something can follow after the dots from d on
abbrev pub LivesFrom : (words : List ℕ) (nulls : ℕ) (firsts : List ℕ) (P d : ℕ) → Type 0
LivesFrom words nulls firsts P d = (D : ℕ) → d ≤ D → D ≤ size_word words P → dead (sets nulls firsts) (drop D (right_in words P)) ≡ false

-- ---- one rule's words, from the last dot to the first

pub record RuleSuffixes (words : List ℕ) (P nulls : ℕ) (firsts old_nullables now_nullables old_begins now_begins : List ℕ) (alive : Bool) : Type 0 where
  pub nulls_are : RestsAre (λ β. flag (null_in nulls β)) words P old_nullables now_nullables
  pub firsts_are : RestsAre (first_in nulls firsts) words P old_begins now_begins
  pub living : alive ≡ true → LivesFrom words nulls firsts P 0

pub record Suffixing (words : List ℕ) (P nulls : ℕ) (firsts old_nullables now_nullables old_begins now_begins : List ℕ) (d : ℕ) (nullable : Bool) (begins : ℕ)
    (alive : Bool) : Type 0 where
  pub nullables-back : Backward (λ β. flag (null_in nulls β)) words P old_nullables now_nullables d (flag nullable)
  pub begins-back : Backward (first_in nulls firsts) words P old_begins now_begins d begins
  pub living : alive ≡ true → LivesFrom words nulls firsts P d

end-lives : (nulls : ℕ) (firsts : List ℕ) → dead (sets nulls firsts) [] ≡ false
unfolding dead null null_in
end-lives nulls firsts = refl

module _ {words : List ℕ} {P nulls : ℕ} {firsts old_nullables old_begins : List ℕ} where
  pub suffixing-begins : {last : ℕ} → last ≡ size_word words P → Suffixing words P nulls firsts old_nullables old_nullables old_begins old_begins last true 0 true
  unfolding flag null_in first_in
  suffixing-begins {last} e = record {
    nullables-back = backward-begins (λ β. flag (null_in nulls β)) e refl;
    begins-back = backward-begins (first_in nulls firsts) e refl;
    living = λ _ D l h. rw (rest-none words P D (omega arith)) (end-lives nulls firsts);
  }

  module _ (R : RuleFits words P) (m : 9 * P + 9 ≤ length old_nullables) (n : 9 * P + 9 ≤ length old_begins)
      {now_nullables now_begins : List ℕ} {d : ℕ} {nullable : Bool} {begins : ℕ} {alive : Bool}
      (S : Suffixing words P nulls firsts old_nullables now_nullables old_begins now_begins d nullable begins alive) where
    module _ (h : 0 < d) {word begins₁ : ℕ} {nullable₁ dies : Bool} (w : word ≡ symbol_word words P (d - 1))
        (step : (β : List Symbol) → RestIs (sets nulls firsts) β nullable begins → RestIs (sets nulls firsts) (symbol_of word ∷ β) nullable₁ begins₁)
        (told : (F : Sets) (β : List Symbol) → RestIs F β nullable₁ begins₁ → dies ≡ dead F β) where
      next : RestIs (sets nulls firsts) (symbol_of word ∷ drop d (right_in words P)) nullable₁ begins₁
      unfolding null first
      next = step (drop d (right_in words P)) (record { null_is = flag-same _ _ S.nullables-back.behind_is; first_is = S.begins-back.behind_is })

      longer : symbol_of word ∷ drop d (right_in words P) ≡ drop (d - 1) (right_in words P)
      longer = rw w (sym (rest-before words P d h S.nullables-back.within))

      lives : {alive₁ : Bool} → alive₁ ≡ (alive && not dies) → alive₁ ≡ true → LivesFrom words nulls firsts P (d - 1)
      lives e q D l k =
          let (before, now) = both_true alive (not dies) (sym e ∙ q) in
          go before now (ℕ_discrete D (d - 1))
        where
          go : alive ≡ true → not dies ≡ true → Dec (D ≡ d - 1) → dead (sets nulls firsts) (drop D (right_in words P)) ≡ false
          go before now (yes z) =
              rw z (ap (dead (sets nulls firsts)) (sym longer) ∙ sym (told (sets nulls firsts) _ next) ∙ not-true dies now)
          go before now (no z) = S.living before D (omega arith) k

      pub suffixing-turn : {alive₁ : Bool} {place stored : ℕ} → place ≡ 9 * P + d → stored ≡ from_bool nullable → alive₁ ≡ (alive && not dies)
          → Suffixing words P nulls firsts old_nullables (set now_nullables place stored) old_begins (set now_begins place begins) (d - 1)
          nullable₁ begins₁ alive₁
      unfolding null first
      suffixing-turn at s e = rw (at, s, from-flag nullable) (record {
        nullables-back = backward-turn _ R m S.nullables-back h w (ap flag next.null_is);
        begins-back = backward-turn _ R n S.begins-back h w next.first_is;
        living = lives e;
      })

    pub suffixing-ends : {stored : ℕ} → d ≤ 0 → stored ≡ from_bool nullable
        → RuleSuffixes words P nulls firsts old_nullables (set now_nullables (9 * P) stored) old_begins (set now_begins (9 * P) begins) alive
    suffixing-ends h s = rw (s, from-flag nullable) (record {
      nulls_are = backward-ends _ R m S.nullables-back h;
      firsts_are = backward-ends _ R n S.begins-back h;
      living = λ q D l k. S.living q D (omega arith) k;
    })

-- ---- rule after rule

pub record SuffixesFilled (words : List ℕ) (count nulls : ℕ) (firsts old_nullables now_nullables old_begins now_begins : List ℕ) (alive : Bool) (p : ℕ)
    : Type 0 where
  pub nullables-filled : RestsFilled (λ β. flag (null_in nulls β)) words count old_nullables now_nullables p
  pub begins-filled : RestsFilled (first_in nulls firsts) words count old_begins now_begins p
  pub living : alive ≡ true → (P : ℕ) → P < p → LivesFrom words nulls firsts P 0

module _ {words : List ℕ} {count nulls : ℕ} {firsts old_nullables old_begins : List ℕ} where
  pub suffixes-begin : SuffixesFilled words count nulls firsts old_nullables old_nullables old_begins old_begins true 0
  suffixes-begin = record { nullables-filled = rests-begin _; begins-filled = rests-begin _; living = λ _ P h. absurd (omega arith) }

  module _ {now_nullables now_begins : List ℕ} {alive : Bool} {p : ℕ} (S : SuffixesFilled words count nulls firsts old_nullables now_nullables old_begins now_begins alive p)
    where
      pub suffixes-turn : GrammarFits words count → p < count → {next_nullables next_begins : List ℕ} {lives alive₁ : Bool}
          → RuleSuffixes words p nulls firsts now_nullables next_nullables now_begins next_begins lives → alive₁ ≡ (alive && lives)
          → SuffixesFilled words count nulls firsts old_nullables next_nullables old_begins next_begins alive₁ (p + 1)
      suffixes-turn G h {lives = lives} {alive₁} R e = record {
        nullables-filled = rests-turn _ S.nullables-filled G h R.nulls_are;
        begins-filled = rests-turn _ S.begins-filled G h R.firsts_are;
        living = λ q P l. let (before, now) = both_true alive lives (sym e ∙ q) in go before now P l (ℕ_discrete P p);
      }
        where
          go : alive ≡ true → lives ≡ true → (P : ℕ) → P < p + 1 → Dec (P ≡ p) → LivesFrom words nulls firsts P 0
          go before now P l (yes z) = rw z (R.living now)
          go before now P l (no z) = S.living before P (omega arith)

      module _ (h : count ≤ p) where
        pub suffixes-end : 9 * count ≤ length old_nullables → 9 * count ≤ length old_begins
            → SuffixesIn (grammar_of words count) (sets nulls firsts) now_nullables now_begins
        unfolding null first
        suffixes-end m n = record {
          nullables_long = omega (arith, m, S.nullables-filled.rules.long, grammar-size words count);
          begins_long = omega (arith, n, S.begins-filled.rules.long, grammar-size words count);
          null_is = rests-end (λ β. flag (null_in nulls β)) S.nullables-filled h;
          first_is = rests-end (first_in nulls firsts) S.begins-filled h;
        }

        pub living-end : alive ≡ true → Living (grammar_of words count) (sets nulls firsts)
        living-end q P l D k =
            let inside : P < count = rw (grammar-size words count) at l in
            let e = right_is words count P inside in
            rw e (S.living q P (omega arith) D (omega arith) (rw (e, right-size words P) at k))
