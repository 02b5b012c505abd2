-- A book that is taken meets what demand 3 takes from a book, with the tables that are worked out of it.
-- Assumes nothing.
use Rattle.std.specs.Prelude.{ℕ, suc, ◌≡◌, refl, [], ◌∷◌, length}
use Rattle.std.proofs.Common.{arith, sym, ap, ◌∙◌}
use Rattle.grammar.specs.Data.Symbol.{nonterminal, right_of, first_symbol, goal}
use Rattle.grammar.specs.Data.LeavesLaws.{leaves_map, leaves-join}
use Rattle.grammar.specs.Data.Book.{Place, own, at, val, Book}
use Rattle.grammar.specs.Format.Ordered.{Spelled}
use Rattle.grammar.specs.Conditions.Meaning.{DeclaredPlace, OwnedPlace, Before}
use Rattle.grammar.specs.Automaton.FirstSets.{sets_of}
use Rattle.grammar.specs.Automaton.ReachSets.{reach_sets}
use Rattle.grammar.specs.Automaton.Compiled.{compiled}
use Rattle.grammar.specs.Evaluator.Premises.{MayRead, reads_own, reads_at, reads_val, Premises}
use Rattle.grammar.specs.Automaton.WellNamed.{WellNamed}
use Rattle.grammar.specs.Automaton.ItemsRight.{ItemsRight}
use Rattle.grammar.specs.BookFacts.{well_named, small-book}
use Rattle.grammar.specs.Automaton.ItemsRightLaws.{book-items-right}
use Rattle.grammar.specs.Automaton.ActionsLaws.{found-acts, acts-found}
use Rattle.grammar.specs.Formulas.FormulaPremises.{FormulaPremises, formula-premises}
use Rattle.grammar.proofs.Formulas.FormulaTable.{formula-some, formula_there}
use Rattle.grammar.specs.Refusal.{Sound}
use Rattle.grammar.specs.Engine.{tables_from, tables_of}

module _ {b : Book} (spelled : Spelled b) (s : Sound b) where
  start_right : right_of b.rules 0 ≡ goal b.rules ∷ []
  start_right = let (B, e) = s.names.start_right in e ∙ ap (λ X. X ∷ []) (sym (ap first_symbol e))

  -- what stands left of the target may be read
  left-read : (P J : ℕ) (place : Place) → (DeclaredPlace b P place × OwnedPlace b P place) × Before J place → MayRead b P J place
  left-read P J (own K) h = reads_own h.0.1
  left-read P J (at I K) h = reads_at h.0.0.0.low h.1
  left-read P J (val I) h = reads_val h.0.0.low h.1

  -- the whole right side may be read
  right-read : (P : ℕ) (place : Place) → DeclaredPlace b P place × OwnedPlace b P place → MayRead b P (suc (length (right_of b.rules P))) place
  right-read P (own K) h = reads_own h.1
  right-read P (at I K) h = reads_at h.0.0.low (omega (arith, h.0.0.high))
  right-read P (val I) h = reads_val h.0.low (omega (arith, h.0.high))

  pub premises : Premises b (tables_of b)
  unfolding tables_of tables_from compiled
  premises =
      let named : WellNamed b = well_named spelled.ordered s.limits s.names in
      let right : ItemsRight b (sets_of b.rules) (reach_sets b.rules (sets_of b.rules)) =
      book-items-right b (small-book spelled.ordered s.limits s.names) in
      let formulas : FormulaPremises b = formula-premises s.limits s.names s.attributes s.kernel-rules in
      record {
        start_left = s.names.start_left;
        start_right = start_right;
        start_apart = λ r m n. absurd (omega (arith, (s.names.right_symbols r m (nonterminal 0) n).low));
        start_bare = λ m. absurd (omega (arith, (s.names.inherited-owners 0 m).low));
        inherited_reads = λ d m.
            let there = s.names.inherited-declared d m in
            let owned = s.attributes.inherited_owned d m in
            leaves_map (left-read d.rule d.position) (leaves-join (leaves-join there.leaves_there owned.leaves-owned) owned.leaves_before);
        synthesized_reads = λ d m.
            leaves_map (right-read d.rule) (leaves-join (s.names.synthesized-declared d m).leaves_there (s.attributes.synthesized_owned d m).leaves-owned);
        kernel-rules = s.kernel-rules;
        go-rules = s.go-rules;
        go_table = λ S X. refl;
        act_when = acts-found named right s.no-conflict;
        act_only = found-acts named right;
        formula_there = formula_there right formulas s.one-formula;
        formula_only = formula-some right formulas s.one-formula;
      }
