-- The sets that are worked out from a book with small symbols are right.
-- Assumes nothing.
use Rattle.grammar.specs.Data.Book.{Book}
use Rattle.grammar.specs.Automaton.Small.{SmallBook}
use Rattle.grammar.specs.Automaton.FirstSets.{Sets, sets_of}
use Rattle.grammar.specs.Automaton.FirstSetsLaws.{SetsRight, sets-right}
use Rattle.grammar.specs.Automaton.ReachSets.{reach_sets}
use Rattle.grammar.specs.Automaton.ReachLaws.{reaches-with, with-reaches}
use Rattle.grammar.specs.Automaton.CoreItemsLaws.{core-low, core_some, core_closure, closure_core}
use Rattle.grammar.specs.Automaton.ItemsRight.{ItemsRight}

pub items-right : {b : Book} {F : Sets} → SmallBook b → SetsRight b.rules F → ItemsRight b F (reach_sets b.rules F)
items-right H R = record {
  closure_core = closure_core H R;
  core_closure = core_closure H R;
  core_some = core_some H R;
  reaches_core = λ S P D M a c m. reaches-with H.small_rules R P D M a c (core-low H R S P D M m);
  core_reaches = λ S P D M a m. let (d, q) = core_some H R S P D M m in with-reaches H.small_rules R P D M a d q;
}

pub book-items-right : (b : Book) → SmallBook b → ItemsRight b (sets_of b.rules) (reach_sets b.rules (sets_of b.rules))
book-items-right b H = items-right H (sets-right b.rules H.small_rules)
