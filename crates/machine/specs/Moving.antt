-- What a move over the arrays asks, and what it tells: the next configuration, or the answer with which the run stops. Assumes nothing.
use Rattle.std.specs.Prelude.{ℕ, ◌≡◌, List, Result, MatchResult, Option, MatchOption}
use Rattle.grammar.specs.Data.Book.{Book}
use Rattle.grammar.specs.Evaluator.Tree.{Token}
use Rattle.grammar.specs.Evaluator.Machine.{Config, refused, accepted, stop, step}
use Rattle.grammar.specs.Engine.{tables_of}
use Rattle.book.specs.declared.refusal.Refusal.{Refusal}
use Rattle.book.specs.Refusals.{number_of}
use Rattle.plans.specs.Plans.{PlansHeld}
use Rattle.stack.specs.declared.top.Top.{Top}
use Rattle.stack.specs.Page.{RowsIn}
use Rattle.stack.specs.Standing.{BookIn, Message, ConfigIn, CellIn, rows_of, GoesOn}

-- a book that is taken, in the arrays that moves read
pub record Driven (b : Book) (rules definitions : List ℕ) (lines : ℕ)
    (owned kernels bounds closures nullables reaches places table : List ℕ) : Type 0 where
  pub book_in : BookIn b rules definitions table
  pub plans-held : PlansHeld b rules definitions lines owned kernels bounds closures nullables reaches places

-- a configuration over a message, in the arrays that moves change, with its top cell set
pub record Poised (b : Book) (ks : List Token) (c : Config) (states inherited synthesized starts rows : List ℕ) (top : Top) : Type 0 where
  pub config_in : ConfigIn b ks states inherited synthesized starts rows top c
  pub cell_in : CellIn b inherited c
  pub message : Message b ks

-- the machine accepts, and its rows stand in the lent words from their start on
pub record Accepts (b : Book) (c : Config) (rows : List ℕ) : Type 0 where
  pub stops : step b (tables_of b) c ≡ stop (accepted (rows_of c))
  pub rows_in : RowsIn (rows_of c) rows

module _ (b : Book) (ks : List Token) (c : Config) (states inherited synthesized starts rows : List ℕ) where
  -- what a shift or a reduce tells
  pub record Moved (m : Result Top Refusal) : Type 0 where
    pub tells : MatchResult m (λ next. GoesOn b ks c states inherited synthesized starts rows next)
        (λ r. step b (tables_of b) c ≡ stop (refused (number_of r)))

  -- what a move tells: none comes after it where the machine accepts
  pub record Told (m : Result (Option Top) Refusal) : Type 0 where
    pub tells : MatchResult m
        (λ o. MatchOption o (Accepts b c rows) (λ next. GoesOn b ks c states inherited synthesized starts rows next))
        (λ r. step b (tables_of b) c ≡ stop (refused (number_of r)))
