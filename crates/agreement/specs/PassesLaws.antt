-- Laws of the passes of the one-formula check over words: each pass leaves their end as it is, and the last one is at it. Assumes nothing.
use Rattle.std.specs.Prelude.{ℕ, ◌≤◌, ◌≡◌, Bool, true, false, Some, None, List}
use Rattle.std.proofs.Math.Path.{sym, ap}
use Rattle.std.proofs.Common.{◌∙◌, inl, inr, arith}
use Rattle.grammar.specs.Data.Book.{Book}
use Rattle.grammar.specs.Formulas.Slots.{Slots}
use Rattle.grammar.specs.Formulas.Passes.{visits, passes, Larger, Keeps, visits-keep, passes-turn, passes-end}
use Rattle.grammar.specs.Formulas.FormulaCheck as grammar
use Rattle.grammar.specs.Formulas.FormulaCheck.{progress, split, advance, unsplit, definitions, visit}
use Rattle.grammar.proofs.Formulas.FormulaCheckSteps.{Long, growing, done-length}
use Rattle.grammar.proofs.Formulas.FormulaCheckAll.{split-ends}
use Rattle.agreement.specs.declared.check.Progress.{Progress}
use Rattle.agreement.specs.Progress.{ProgressIn, Reached}
use Rattle.agreement.specs.PassLaws.{reached-stands, reached-split}

module _ (b : Book) (member : ℕ → ℕ → Bool) where
  abbrev end : grammar.Progress → grammar.Progress
  end = passes (visit b member) advance (definitions b)

  -- a pass does not undo what is done
  further : (s : grammar.Progress) → Long s → advance s ≤ advance (visits (visit b member) (definitions b) s)
  further s long = (visits-keep (visit b member) (λ t. Long t × (advance s ≤ advance t)) (definitions b) keep s (long, omega arith)).1
    where
      more : {t u : grammar.Progress} → Larger advance t u → advance s ≤ advance t → advance s ≤ advance u
      more (inl e) h = rw e h
      more (inr l) h = omega arith

      keep : Keeps (visit b member) (λ t. Long t × (advance s ≤ advance t)) (definitions b)
      keep d l t (k, h) = ((growing b member).keeps d l t k, more ((growing b member).grows d l t k) h)

  -- where the passes are, on the way from `start` to its end
  pub record Passing (start : grammar.Progress) (words marks table heads nexts : List ℕ) (p : Progress) : Type 0 where
    pub slots : Slots
    pub done : List Bool
    pub holds : ProgressIn slots done words marks table heads nexts p
    pub same_end : end (progress slots done) ≡ end start

  module _ {start : grammar.Progress} {words marks table heads nexts : List ℕ} {p : Progress} (P : Passing start words marks table heads nexts p) where
    pub few-done : p.count ≤ 128
    few-done = omega (arith, P.holds.count_is, done-length P.done, P.holds.long.1)

    module _ {words' marks' table' heads' nexts' : List ℕ} {n : ℕ} (all : n ≡ definitions b) where
      pub passing-split : Reached words' marks' table' heads' nexts' None (visits (visit b member) n (progress P.slots P.done))
          → false ≡ unsplit (end start)
      unfolding unsplit
      passing-split R =
          let is : visits (visit b member) (definitions b) (progress P.slots P.done) ≡ split = rw all at (reached-split R) in
          let at : end (progress P.slots P.done) ≡ split = split-ends b member (progress P.slots P.done) P.holds.long is in
          ap unsplit (sym at ∙ P.same_end)

      module _ {q : Progress} (pass : Reached words' marks' table' heads' nexts' (Some q) (visits (visit b member) n (progress P.slots P.done))) where
        R : Reached words' marks' table' heads' nexts' (Some q) (visits (visit b member) (definitions b) (progress P.slots P.done))
        R = rw all at pass

        pub passing-turn : Passing start words' marks' table' heads' nexts' q
        passing-turn =
            let (slots, done, is, Q) = reached-stands R in
            record {
              slots = slots;
              done = done;
              holds = Q;
              same_end = ap end (sym is) ∙ passes-turn (growing b member) (progress P.slots P.done) P.holds.long ∙ P.same_end;
            }

        size : advance (visits (visit b member) (definitions b) (progress P.slots P.done)) ≡ q.count
        unfolding advance
        size = let (slots, done, is, Q) = reached-stands R in ap advance is ∙ sym Q.count_is

        size-before : advance (progress P.slots P.done) ≡ p.count
        unfolding advance
        size-before = sym P.holds.count_is

        pub passing-further : p.count ≤ q.count
        passing-further = omega (arith, further (progress P.slots P.done) P.holds.long, size, size-before)

        pub passing-end : q.count ≡ p.count → true ≡ unsplit (end start)
        unfolding unsplit
        passing-end same =
            let at : end (progress P.slots P.done) ≡ progress P.slots P.done =
            passes-end (growing b member) (progress P.slots P.done) P.holds.long (size ∙ same ∙ sym size-before) in
            ap unsplit (sym at ∙ P.same_end)
