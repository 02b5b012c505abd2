-- The closure of a state, from what its kernel lines give on; and the closures of all states in one array.
-- Assumes nothing.
use Rattle.std.specs.Prelude.{ℕ, ◌+◌, ◌*◌, ◌-◌, ◌<◌, ◌≤◌, ◌≡◌, Bool, false, List, length, get_or, take, drop, replicate}
use Rattle.std.proofs.Common.{sym, ap, ◌∙◌, arith, length-drop, length-take-le, get_or-take, get_or-drop, ext_get_or}
use Rattle.std.proofs.lemmas.List.{length-replicate}
use Rattle.text.proofs.Positional.{by_less}
use Rattle.grammar.specs.Limits.{MAX_STATES}
use Rattle.grammar.specs.Data.Book.{Book}
use Rattle.grammar.specs.Automaton.Fixpoint.{set_at, least}
use Rattle.grammar.specs.Automaton.FirstSets.{Sets}
use Rattle.grammar.specs.Automaton.ClosureSets.{from_kernels, closure_rule, closure_sets}
use Rattle.items.specs.Arrays.{BoundsIn, ClosuresIn}
use Rattle.items.specs.Part.{put_back, back_long, back-before, back-within, back-behind}
use Rattle.items.specs.ClosurePasses.{none-at, none-least}
use Rattle.items.specs.KernelLines.{lines, KernelItemsIn, StateIn, Begun}

pub none-long : {sets : List ℕ} → sets ≡ replicate 32 0 → length sets ≡ 32
none-long e = ap length e ∙ length-replicate {A = ℕ} 32 0

module _ {b : Book} {F : Sets} {rules kernels nullables begins : List ℕ} (H : KernelItemsIn b F rules kernels nullables begins)
    {count S from to : ℕ} (e : length b.rules ≡ count) (L : StateIn b.kernels S from to)
    {first mid : List ℕ} {changed : Bool} (z : first ≡ replicate 32 0) (B : Begun (from_kernels b F (lines b.kernels from to) first) first mid changed) where
  -- the closure from the sets that the lines give
  after-lines : least (closure_rule b F) count mid ≡ closure_sets b F S
  unfolding closure_sets
  after-lines = rw (B.now_is, z, ← L.lines_are, ← e)

  -- by passes
  pub closure-done : {now : List ℕ} → now ≡ least (closure_rule b F) count mid → now ≡ closure_sets b F S
  closure-done q = q ∙ after-lines

  -- without any, where the lines gave nothing
  pub closure-none : changed ≡ false → mid ≡ closure_sets b F S
  closure-none q =
      let none : mid ≡ replicate 32 0 = B.same_is q ∙ z in
      none ∙ sym (none-least H.grammar_in e) ∙ ap (least (closure_rule b F) count) (sym none) ∙ after-lines

-- a book's items in arrays, and where the kernel lines of each state begin
pub record StateItemsIn (b : Book) (F : Sets) (rules : List ℕ) (count : ℕ) (kernels bounds : List ℕ) (states : ℕ) (nullables begins : List ℕ) : Type 0 where
  pub items_in : KernelItemsIn b F rules kernels nullables begins
  pub bounds_in : BoundsIn b.kernels states bounds
  pub counted : length b.rules ≡ count
  pub states_are : b.states ≡ states
  pub few : states ≤ MAX_STATES

-- the states below s are done
pub record Closed (rules : List ℕ) (count : ℕ) (kernels bounds : List ℕ) (states : ℕ) (nullables begins : List ℕ) (closures : List ℕ) (s : ℕ) : Type 0 where
  pub within : s ≤ states
  pub long : 32 * states ≤ length closures
  pub rest : (i : ℕ) → 32 * s ≤ i → get_or closures i 0 ≡ 0
  pub done : (b : Book) (F : Sets) → StateItemsIn b F rules count kernels bounds states nullables begins
      → (S B : ℕ) → S < s → B < 32 → get_or closures (32 * S + B) 0 ≡ set_at (closure_sets b F S) B

-- room for the closures of a number of states, with nothing in it
pub record Blank (states : ℕ) (closures : List ℕ) : Type 0 where
  pub long : 32 * states ≤ length closures
  pub none : closures ≡ replicate (length closures) 0

-- ---- the array of all closures, state by state

module _ {rules : List ℕ} {count : ℕ} {kernels bounds : List ℕ} {states : ℕ} {nullables begins : List ℕ} where
  pub closed_none : {closures : List ℕ} → Blank states closures → Closed rules count kernels bounds states nullables begins closures 0
  closed_none {closures} e = record {
    within = omega arith;
    long = e.long;
    rest = λ i h. ap (λ (l : List ℕ). get_or l i 0) e.none ∙ none-at (length closures) i;
    done = λ b F H S B h l. absurd (omega arith);
  }

  module _ {closures : List ℕ} {s : ℕ} (C : Closed rules count kernels bounds states nullables begins closures s) where
    -- the words of state s are empty
    pub part_none : s < states → states ≤ MAX_STATES → take (32 * s + 32 - 32 * s) (drop (32 * s) closures) ≡ replicate 32 0
    part_none h few =
        ext_get_or 0 part (replicate 32 0) (part-long ∙ sym (length-replicate {A = ℕ} 32 0))
        (λ i l. let m : i < 32 = omega (arith, part-long) in
        get_or-take (32 * s + 32 - 32 * s) (drop (32 * s) closures) i 0 (omega arith) ∙ get_or-drop (32 * s) closures i 0
        ∙ C.rest (32 * s + i) (omega arith) ∙ sym (none-at 32 i))
      where
        part : List ℕ
        part = take (32 * s + 32 - 32 * s) (drop (32 * s) closures)

        part-long : length part ≡ 32
        part-long = length-take-le (32 * s + 32 - 32 * s) (drop (32 * s) closures) (omega (arith, length-drop (32 * s) closures, C.long)) ∙ omega arith

    -- and then they are its closure
    pub closed-more : (looks : List ℕ)
        → ((b : Book) (F : Sets) → StateItemsIn b F rules count kernels bounds states nullables begins → looks ≡ closure_sets b F s)
        → s < states → states ≤ MAX_STATES → length looks ≡ 32
        → Closed rules count kernels bounds states nullables begins (put_back (32 * s) (32 * s + 32 - 32 * s) closures looks) (s + 1)
    closed-more looks is h few long = record {
      within = omega arith;
      long = omega (arith, back_long (32 * s) size closures looks fits exact, C.long);
      rest = λ i m. back-behind (32 * s) size closures looks fits exact i (omega arith) ∙ C.rest i (omega arith);
      done = λ b F H S B m n. by_less S s
          (λ o. back-before (32 * s) size closures looks fits exact (32 * S + B) (omega arith) ∙ C.done b F H S B o n)
          (λ o. let q : S ≡ s = omega arith in
          rw q (back-within (32 * s) size closures looks fits exact B (omega arith) ∙ ap (λ (x : List ℕ). get_or x B 0) (is b F H)));
    }
      where
        size : ℕ
        size = 32 * s + 32 - 32 * s

        fits : 32 * s + size ≤ length closures
        fits = omega (arith, C.long)

        exact : length looks ≡ size
        exact = omega arith

    pub closed_all : states ≤ s → (b : Book) (F : Sets) → StateItemsIn b F rules count kernels bounds states nullables begins → ClosuresIn b F closures
    closed_all h b F H = record { long = omega (arith, C.long, H.states_are); set_is = λ S B m n. C.done b F H S B (omega (arith, H.states_are)) n }
