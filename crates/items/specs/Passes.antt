-- Loops that find a least family of sets (`least`) in place: a visit of one constraint, a pass over all of them, passes until one changes nothing.
-- Each tells whether it changed the sets. One law for a turn, one for the end and one for the measure of each loop. Assumes nothing.
use Rattle.std.specs.Prelude.{ℕ, ◌+◌, ◌-◌, ◌^◌, ◌<◌, ◌≤◌, ◌≡◌, Bool, true, false, ◌||◌, length}
use Rattle.std.proofs.Math.Path.{refl, sym, ap}
use Rattle.std.proofs.Common.{◌∙◌, subst, ⊎_elim, arith, add-one, get_or-set_same}
use mathlib.Core.List.{List}
use Rattle.std.proofs.Math.Bool.{or-true, or-false}
use Rattle.std.proofs.Math.ListN.{set}
use Rattle.std.proofs.Math.Seq.{set-get_or}
use Rattle.sets.specs.Sets.{union}
use Rattle.grammar.specs.Automaton.TestLaws.{true-false}
use Rattle.grammar.specs.Automaton.Fixpoint.{set_at, Constraint, visit, visits, least}
use Rattle.grammar.specs.Automaton.LeastLaws.{Family, total, Fits, visit-family, visit-grows, growing, least-again, least_stays}

-- what a visit and a pass tell: the sets are the new ones afterwards, and the flag says whether they are other than the old ones
pub record Told (new old now : List ℕ) (changed : Bool) : Type 0 where
  pub now_is : now ≡ new
  pub same_is : changed ≡ false → now ≡ old
  pub more_is : changed ≡ true → total old < total now

pub told_same : {new old : List ℕ} → new ≡ old → Told new old old false
told_same e = record { now_is = sym e; same_is = λ _. refl; more_is = λ q. true-false q refl }

pub told_more : {new old : List ℕ} → total old < total new → Told new old new true
told_more m = record { now_is = refl; same_is = λ q. true-false refl q; more_is = λ _. m }

-- ---- one visit

-- the sets with what is given to the one at `target`
unfoldable pub given : ℕ → ℕ → List ℕ → List ℕ
given target more sets = set sets target (union (set_at sets target) more)

-- a visit gives what its constraint says
pub visit-given : (c : Constraint) (sets : List ℕ) → visit c sets ≡ given c.target (c.gives sets) sets
unfolding visit given
visit-given c sets = refl

pub visit-told : (c : Constraint) {now next : List ℕ} {target more : ℕ} {r : Bool} → target ≡ c.target → more ≡ c.gives now
    → Told (given target more now) now next r → Told (visit c now) now next r
visit-told c {now} e f told = rw (e, f, ← visit-given c now) at told

-- by the union that was worked out: it is the set that stands there, or another
module _ {sets : List ℕ} {new : ℕ} (target more : ℕ) (e : new ≡ union (set_at sets target) more) where
  pub given-same : new ≡ set_at sets target → Told (given target more sets) sets sets false
  unfolding given
  given-same q = told_same (ap (set sets target) (sym e ∙ q) ∙ set-get_or sets target 0)

  pub given-more : {n : ℕ} → Family n sets → target < n → (new ≡ set_at sets target → ⊥) → Told (given target more sets) sets (set sets target new) true
  unfolding given visit
  given-more S t h =
      rw e (told_more (⊎_elim (λ q. absurd (h (there q))) (λ m. m) (visit-grows (record { target = target; gives = λ _. more }) S t)))
    where
      there : set sets target (union (set_at sets target) more) ≡ sets → new ≡ set_at sets target
      there q = e ∙ sym (get_or-set_same sets target _ 0 (omega (arith, S.long))) ∙ ap (λ (l : List ℕ). set_at l target) q

-- ---- a pass

-- before constraint p
pub record Passing (constraint : ℕ → Constraint) (count : ℕ) (first now : List ℕ) (changed : Bool) (p : ℕ) : Type 0 where
  pub within : p ≤ count
  pub family : Family (length first) now
  pub told : Told (visits constraint p first) first now changed

module _ {constraint : ℕ → Constraint} {count : ℕ} {first : List ℕ} (F : Fits constraint count first) where
  pub pass-begins : Passing constraint count first first false 0
  unfolding visits
  pass-begins = record { within = omega arith; family = record { long = refl; low = F.low }; told = told_same refl }

  pub pass-ends : {now : List ℕ} {changed : Bool} {p : ℕ} → Passing constraint count first now changed p → count ≤ p
      → Told (visits constraint count first) first now changed
  pass-ends {now} {changed} {p} P h =
      let e : p ≡ count = omega (arith, P.within) in
      subst (λ (n : ℕ). Told (visits constraint n first) first now changed) e P.told

  module _ {now next : List ℕ} {changed r : Bool} {p : ℕ} (P : Passing constraint count first now changed p) (h : p < count)
      (T : Told (visit (constraint p) now) now next r) where
    here : next ≡ visits constraint (p + 1) first
    unfolding visits
    here = T.now_is ∙ ap (visit (constraint p)) P.told.now_is ∙ rw (add-one p)

    there : Family (length first) next
    there = rw T.now_is (visit-family (constraint p) P.family (F.target_low p h))

    pub turn_more : r ≡ true → Passing constraint count first next true (p + 1)
    turn_more e = record {
      within = omega arith;
      family = there;
      told = record { now_is = here; same_is = λ q. true-false refl q; more_is = λ _. larger changed refl };
    }
      where
        larger : (t : Bool) → changed ≡ t → total first < total next
        larger true q = omega (arith, T.more_is e, P.told.more_is q)
        larger false q = omega (arith, T.more_is e, ap total (P.told.same_is q))

    pub turn-same : r ≡ false → Passing constraint count first next changed (p + 1)
    turn-same e = record {
      within = omega arith;
      family = there;
      told = record {
        now_is = here;
        same_is = λ q. T.same_is e ∙ P.told.same_is q;
        more_is = λ q. omega (arith, ap total (T.same_is e), P.told.more_is q);
      };
    }

    pub turn : Passing constraint count first next (changed || r) (p + 1)
    turn = go r refl
      where
        go : (t : Bool) → r ≡ t → Passing constraint count first next (changed || t) (p + 1)
        go true e = rw (or-true changed) (turn_more e)
        go false e = rw (or-false changed) (turn-same e)

-- ---- passes until one changes nothing

pub record Closing (constraint : ℕ → Constraint) (count : ℕ) (first now : List ℕ) : Type 0 where
  pub family : Family (length first) now
  pub goes : least constraint count now ≡ least constraint count first

-- how far the sets can still grow
abbrev pub left : List ℕ → ℕ
left sets = 2 ^ 40 - total sets

module _ {constraint : ℕ → Constraint} {count : ℕ} {first : List ℕ} (F : Fits constraint count first) where
  pub closing-begins : Closing constraint count first first
  closing-begins = record { family = record { long = refl; low = F.low }; goes = refl }

  -- a pass that changed something made the sets larger
  pub pass-told : {now next : List ℕ} → Closing constraint count first now → next ≡ visits constraint count now → (next ≡ now → ⊥)
      → Told (visits constraint count now) now next true
  pass-told {now} C e h =
      rw e (told_more (⊎_elim (λ q. absurd (h (e ∙ q))) (λ m. m) ((growing F).grows now C.family)))

  module _ {now next : List ℕ} {r : Bool} (C : Closing constraint count first now) (T : Told (visits constraint count now) now next r) where
    pub closing-turn : Closing constraint count first next
    closing-turn = rw T.now_is (record { family = (growing F).keeps now C.family; goes = least-again F now C.family ∙ C.goes })

    pub closing-ends : r ≡ false → next ≡ least constraint count first
    closing-ends e =
        let same : next ≡ now = T.same_is e in
        let still : visits constraint count now ≡ now = sym T.now_is ∙ same in
        same ∙ sym (least_stays F now C.family still) ∙ C.goes

    pub closing-less : r ≡ true → left next < left now
    closing-less e = omega (arith, T.more_is e, (growing F).below next closing-turn.family)

-- opens every definition of this module
unfoldable pub opens : Unit {0}
unfolding given
opens = tt
