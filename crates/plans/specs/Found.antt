-- The lines of the definitions whose items reach a terminal, item by item (01, "Partial states and chains": the items "from which zero or more direct
-- derivations reach an item with a after its dot or a complete one with lookahead a"). Assumes nothing.
use Rattle.std.specs.Prelude.{ℕ, ◌+◌, ◌*◌, ◌-◌, ◌^◌, ◌<◌, ◌≤◌, ◌≡◌, refl, Bool, true, false, length, get_or}
use Rattle.std.proofs.Common.{arith, sym, ◌∙◌}
use Rattle.std.proofs.Math.Decide.{ℕ_discrete, dec_lt}
use mathlib.Core.List.Memᴰ.{head as in_head}
use mathlib.Core.List.Memᴰ.{tail as in_Tail}
use mathlib.Core.List.{List, ◌∷◌, ◌++◌, Memᴰ as Mem}
use Rattle.std.proofs.Math.Seq.{slice}
use Rattle.sets.specs.Sets.{bit, empty}
use Rattle.sets.proofs.SetsLaws.{bit-empty}
use Rattle.grammar.specs.Conditions.Decides.{Decides, decides-same}
use Rattle.grammar.specs.Data.Symbol.{left_of, after}
use Rattle.grammar.specs.Data.Book.{Book, Kernel}
use Rattle.grammar.specs.Format.Ordered.{Ordered}
use Rattle.grammar.specs.Conditions.Meaning.{WithinLimits, Declared}
use Rattle.grammar.specs.Automaton.FirstSets.{Sets, sets_of}
use Rattle.grammar.specs.Automaton.ReachSets.{reach_sets, reach_with}
use Rattle.grammar.specs.Automaton.TestLaws.{true-false}
use Rattle.grammar.specs.Automaton.CoreItems.{Core, core, of_kernels, of_rules, core_items}
use Rattle.grammar.specs.Formulas.FormulaCheck as grammar
use Rattle.grammar.specs.Formulas.FormulaCheck.{dot_of, line_at}
use Rattle.grammar.proofs.Formulas.FormulaCheckLaws.{Tells}
use Rattle.attributes.specs.Checking.{CheckHeld}
use Rattle.attributes.specs.Marks.{ItemReaches}
use Rattle.attributes.specs.MarkFronts.{LooksIn, front_word, front-none, front-behind, front-first, front-decides}
use Rattle.attributes.specs.MarkLines.{item_of, lines_start, lines-turn}
use Rattle.attributes.specs.Telling.{core-decides}
use Rattle.plans.specs.Lines.{line_bit, LinesIn}
use Rattle.plans.specs.LinesAdded.{Added, Adding}
use Rattle.plans.specs.DefinitionLines.{item_at, lines-ascend}
use Rattle.plans.specs.Places.{PlacesIn, FrontFree, front-empty}

-- a word without terminals
pub no-bit : (a : ℕ) {w : ℕ} → 0 ≡ w → bit w a ≡ false
unfolding empty
no-bit a e = rw (← e) (bit-empty a)

module _ (b : Book) (F : Sets) (R : List ℕ) (a : ℕ) where
  -- the lines whose items reach the terminal, by a list of items
  pub record FoundIn (items : List Core) (found : List ℕ) : Type 0 where
    pub long : length found ≡ 2
    pub few : grammar.definitions b ≤ 128
    pub dot_low : (d : ℕ) → d < grammar.definitions b → dot_of (line_at b d) < 9
    pub line_is : (d : ℕ) → d < grammar.definitions b → Decides (line_bit found d) (ItemReaches b F R items (line_at b d).rule (dot_of (line_at b d)) a)
    pub none_behind : (d : ℕ) → grammar.definitions b ≤ d → d < 128 → line_bit found d ≡ false

  -- Items with the dot in front

  -- of the first n lines
  pub record FrontsFound (looks : List ℕ) (n : ℕ) (found : List ℕ) : Type 0 where
    pub long : length found ≡ 2
    pub line_is : (d : ℕ) → d < n → line_bit found d ≡ bit (front_word b.rules F R looks (line_at b d).rule (dot_of (line_at b d))) a
    pub none : (d : ℕ) → n ≤ d → d < 128 → line_bit found d ≡ false

  module _ {looks : List ℕ} {n : ℕ} {found : List ℕ} (H : FrontsFound looks n found) where
    -- a line that is not found
    pub fronts-less : n < 128 → bit (front_word b.rules F R looks (line_at b n).rule (dot_of (line_at b n))) a ≡ false → FrontsFound looks (n + 1) found
    fronts-less l e = record {
      long = H.long;
      line_is = λ d h. by d h (ℕ_discrete d n);
      none = λ d h m. H.none d (omega arith) m;
    }
      where
        by : (d : ℕ) → d < n + 1 → Dec (d ≡ n) → line_bit found d ≡ bit (front_word b.rules F R looks (line_at b d).rule (dot_of (line_at b d))) a
        by d h (yes q) = rw q (H.none n (omega arith) l ∙ sym e)
        by d h (no m) = H.line_is d (omega (arith, m))

    -- one that is
    pub fronts-more : n < 128 → {more : List ℕ} → Added n found more
        → bit (front_word b.rules F R looks (line_at b n).rule (dot_of (line_at b n))) a ≡ true → FrontsFound looks (n + 1) more
    fronts-more l {more} A e = record {
      long = A.long;
      line_is = λ d h. by d h (ℕ_discrete d n);
      none = λ d h m. A.other d m (λ q. let w : ⊥ = omega (arith, q) in w) ∙ H.none d (omega arith) m;
    }
      where
        by : (d : ℕ) → d < n + 1 → Dec (d ≡ n) → line_bit more d ≡ bit (front_word b.rules F R looks (line_at b d).rule (dot_of (line_at b d))) a
        by d h (yes q) = rw q (A.here ∙ sym e)
        by d h (no m) = A.other d (omega arith) m ∙ H.line_is d (omega (arith, m))

  -- all lines
  pub fronts-found : {definitions rules owned masks : List ℕ} → CheckHeld b definitions rules owned masks → {looks : List ℕ} {lines : ℕ} {found : List ℕ}
      → lines ≡ grammar.definitions b → FrontsFound looks lines found → FoundIn (of_rules b.rules looks (length b.rules)) found
  fronts-found C {looks} e H = record {
    long = H.long;
    few = C.premises.definitions_limit;
    dot_low = λ d l. omega (arith, (C.line_in d l).position_high);
    line_is = λ d l.
        rw (H.line_is d (omega arith)) (front-decides b looks F R (line_at b d).rule (dot_of (line_at b d)) a (C.line_in d l).rule_there);
    none_behind = λ d h m. H.none d (omega arith) m;
  }

  -- a closure that has nothing at the front of a rule with a definition there
  module _ {definitions rules owned masks : List ℕ} (C : CheckHeld b definitions rules owned masks) {looks words places : List ℕ} {first : ℕ}
      (L : LooksIn b.rules rules looks words first) (P : PlacesIn b 0 places) (free : FrontFree words first places 32)
      (fits : (i : ℕ) → get_or words i 0 < 2 ^ 32) where
    front-zero : (d : ℕ) → d < grammar.definitions b → Dec (dot_of (line_at b d) ≡ 0)
        → 0 ≡ front_word b.rules F R looks (line_at b d).rule (dot_of (line_at b d))
    front-zero d l (yes z) =
        let there = (C.line_in d l).rule_there in
        let left = left_of b.rules (line_at b d).rule in
        let none = front-empty free left (L.left_low (line_at b d).rule there) (P.front_is d (omega arith) l z) (fits (first + left)) in
        front-none L (line_at b d).rule there F R (sym (L.rules_in.left_is (line_at b d).rule there)) none ∙ front-first b.rules F R looks refl z
    front-zero d l (no n) = front-behind b.rules F R looks (line_at b d).rule (dot_of (line_at b d)) n

    pub fronts-free : {lines : ℕ} {found : List ℕ} → lines ≡ grammar.definitions b → FrontsFound looks 0 found → FrontsFound looks lines found
    fronts-free e H = record {
      long = H.long;
      line_is = λ d h.
          H.none d (omega arith) (omega (arith, C.premises.definitions_limit))
          ∙ sym (no-bit a (front-zero d (omega arith) (ℕ_discrete (dot_of (line_at b d)) 0)));
      none = λ d h m. H.none d (omega arith) m;
    }

  -- One item more

  module _ {items : List Core} {found : List ℕ} (H : FoundIn items found) (Q E N : ℕ) (low : E < 9) where
    abbrev reach : ℕ
    reach = reach_with F R (after b.rules Q E) N

    -- the lines of the item are there, if it reaches the terminal, and the others are as they were
    pub record Joined (new : List ℕ) : Type 0 where
      pub long : length new ≡ 2
      pub of_item : (d : ℕ) → d < grammar.definitions b → item_at b d ≡ 9 * Q + E → bit reach a ≡ true → line_bit new d ≡ true
      pub other : (d : ℕ) → d < 128 → (d < grammar.definitions b → item_at b d ≡ 9 * Q + E → bit reach a ≡ true → ⊥) → line_bit new d ≡ line_bit found d

    pub found-item : {new : List ℕ} → Joined new → FoundIn (core Q E N ∷ items) new
    found-item {new} J = record {
      long = J.long;
      few = H.few;
      dot_low = H.dot_low;
      line_is = λ d l. line d l (ℕ_discrete (item_at b d) (9 * Q + E)) (bit reach a) refl;
      none_behind = λ d h m. J.other d m (λ l. let w : ⊥ = omega arith in absurd w) ∙ H.none_behind d h m;
    }
      where
        same : (d : ℕ) → d < grammar.definitions b → (item_at b d ≡ 9 * Q + E → bit reach a ≡ true → ⊥)
            → Decides (line_bit new d) (ItemReaches b F R (core Q E N ∷ items) (line_at b d).rule (dot_of (line_at b d)) a)
        same d l n =
            let is = J.other d (omega (arith, H.few)) (λ _. n) in
            record {
              sound = λ t. let (M, m, r) = (H.line_is d l).sound (sym is ∙ t) in (M, in_Tail m, r);
              complete = λ (M, m, r). is ∙ before M m r;
            }
          where
            before : (M : ℕ) → Mem (core (line_at b d).rule (dot_of (line_at b d)) M) (core Q E N ∷ items)
                → bit (reach_with F R (after b.rules (line_at b d).rule (dot_of (line_at b d))) M) a ≡ true → line_bit found d ≡ true
            before M (in_head s) r =
                let x : (line_at b d).rule ≡ Q = cc in
                let y : dot_of (line_at b d) ≡ E = cc in
                let z : M ≡ N = cc in
                absurd (n (omega arith) (rw (x, y, z) at r))
            before M (in_Tail m) r = (H.line_is d l).complete (M, m, r)

        line : (d : ℕ) → d < grammar.definitions b → Dec (item_at b d ≡ 9 * Q + E) → (t : Bool) → bit reach a ≡ t
            → Decides (line_bit new d) (ItemReaches b F R (core Q E N ∷ items) (line_at b d).rule (dot_of (line_at b d)) a)
        line d l (yes e) true q =
            let x : (line_at b d).rule ≡ Q = omega (arith, H.dot_low d l) in
            let y : dot_of (line_at b d) ≡ E = omega (arith, H.dot_low d l) in
            record { sound = λ t. (N, rw (x, y) (in_head refl), rw (x, y) q); complete = λ _. J.of_item d l e q }
        line d l (yes e) false q = same d l (λ _ t. true-false t q)
        line d l (no n) t q = same d l (λ e _. n e)

    -- no definition is of the item, or the item does not reach the terminal
    pub joined-none : ((d : ℕ) → d < grammar.definitions b → item_at b d ≡ 9 * Q + E → ⊥) → Joined found
    joined-none n = record { long = H.long; of_item = λ d l e t. absurd (n d l e); other = λ d l m. refl }

    pub joined-idle : bit reach a ≡ false → Joined found
    joined-idle f = record { long = H.long; of_item = λ d l e t. true-false t f; other = λ d l m. refl }

    -- its lines were added, up to one that is another item's
    pub joined-lines : {definitions rules owned masks : List ℕ} → Ordered b → CheckHeld b definitions rules owned masks → {first line : ℕ} {new : List ℕ}
        → Adding first line found new → bit reach a ≡ true → line ≤ grammar.definitions b
        → ((d : ℕ) → first ≤ d → d < line → item_at b d ≡ 9 * Q + E) → ((d : ℕ) → d < grammar.definitions b → item_at b d ≡ 9 * Q + E → first ≤ d)
        → (line < grammar.definitions b → (item_at b line ≡ 9 * Q + E → ⊥) × (9 * Q + E ≤ item_at b line)) → Joined new
    joined-lines ordered C {first} {line} {new} A t high each least end = record {
      long = A.long;
      of_item = λ d l e _. A.within d (least d l e) (before d l e (dec_lt d line));
      other = λ d l n. A.without d l (λ h m. n (omega arith) (each d h m) t);
    }
      where
        before : (d : ℕ) → d < grammar.definitions b → item_at b d ≡ 9 * Q + E → Dec (d < line) → d < line
        before d l e (yes m) = m
        before d l e (no m) =
            let (n, above) = end (omega arith) in
            let order = lines-ascend ordered C line d (omega arith) l in
            absurd (n (omega (arith, order, e, above)))

  -- Kernel lines, from the last on

  pub found-start : (ks : List Kernel) (last : ℕ) {items : List Core} {found : List ℕ} → FoundIn items found
      → FoundIn (of_kernels (slice last last ks) ++ items) found
  found-start ks last {found = found} H = lines_start (λ items. FoundIn items found) ks last H

  pub found_turn : (ks : List Kernel) (i last : ℕ) (items : List Core) {found : List ℕ} → 0 < i → i ≤ last → last ≤ length ks
      → FoundIn (item_of ks (i - 1) ∷ (of_kernels (slice i last ks) ++ items)) found → FoundIn (of_kernels (slice (i - 1) last ks) ++ items) found
  found_turn ks i last items {found} o l f H = lines-turn (λ items. FoundIn items found) ks i last items o l f H

-- All items of a state: the lines are those of its partial state
pub found-lines : {b : Book} → WithinLimits b → Declared b → Ordered b → {S a : ℕ} {found : List ℕ}
    → FoundIn b (sets_of b.rules) (reach_sets b.rules (sets_of b.rules)) a (core_items b (sets_of b.rules) S) found
    → {member : ℕ → ℕ → Bool} → Tells b S a member → LinesIn b member found
found-lines {b} limits declared ordered {S} {a} H tells = record {
  long = H.long;
  line_is = λ d l.
      decides-same (core-decides limits declared ordered S a (line_at b d).rule (dot_of (line_at b d)) (H.line_is d l)) (tells (line_at b d).rule (dot_of (line_at b d)));
  none_behind = H.none_behind;
}

-- one line more is of the item
pub each_more : (b : Book) {place first line : ℕ} → ((d : ℕ) → first ≤ d → d < line → item_at b d ≡ place) → item_at b line ≡ place
    → (d : ℕ) → first ≤ d → d < line + 1 → item_at b d ≡ place
each_more b {place} {first} {line} each e d h l = by (ℕ_discrete d line)
  where
    by : Dec (d ≡ line) → item_at b d ≡ place
    by (yes q) = rw q e
    by (no n) = each d h (omega (arith, n))

-- Lines from `first` on were added while they are of an item's place
pub record ItemLines (b : Book) (lines place first : ℕ) (old new : List ℕ) : Type 0 where
  pub line : ℕ
  pub adding : Adding first line old new
  pub high : line ≤ lines
  pub each : (d : ℕ) → first ≤ d → d < line → item_at b d ≡ place
  pub ended : line < lines → item_at b line ≡ place → ⊥
