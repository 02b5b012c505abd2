-- The answers with which a run stops: none is due (15), accepted, no row is left (16), no symbol is left (17). Assumes that the book is taken.
use Rattle.std.specs.Prelude.{ℕ, ◌<◌, ◌≡◌, refl, ◌≢◌, List, [], ◌∷◌, length}
use Rattle.std.proofs.Math.Path.{ap}
use Rattle.std.proofs.Math.Option.{none, some}
use Rattle.std.proofs.Common.{arith}
use Rattle.grammar.specs.Limits.{MAX_STACK}
use Rattle.grammar.specs.Data.Symbol.{Symbol, right_of}
use Rattle.grammar.specs.Data.Book.{Book}
use Rattle.grammar.specs.Automaton.States.{shift, accept, reduce}
use Rattle.grammar.specs.Evaluator.Tree.{Token}
use Rattle.grammar.specs.Evaluator.Machine.{Config, config, refused, accepted, stop, perform, step}
use Rattle.grammar.proofs.Evaluator.Moves.{shift-16, shift-17, reduce-16, reduce-17}
use Rattle.grammar.specs.Engine.{tables_of}
use Rattle.stack.specs.declared.top.Top.{Top}
use Rattle.stack.specs.Goes.{shift-goes}
use Rattle.stack.specs.Standing.{BookIn, ConfigIn, stands, rows_of, action_of}

module _ (b : Book) where
  pub none-refused : (c : Config) → action_of b c ≡ none → step b (tables_of b) c ≡ stop (refused 15)
  unfolding step perform
  none-refused (config st S z p rs) e = ap (λ a. perform b (tables_of b) a st S z p rs) e

  pub accept-stops : (c : Config) → action_of b c ≡ some accept → step b (tables_of b) c ≡ stop (accepted (rows_of c))
  unfolding step perform
  accept-stops (config st S z p rs) e = ap (λ a. perform b (tables_of b) a st S z p rs) e

module _ {b : Book} {rules definitions table : List ℕ} (B : BookIn b rules definitions table) {ks : List Token}
    {states inherited synthesized starts rows : List ℕ} {top : Top} where
  -- a shift is of a token
  pub shift-rows : {c : Config} → ConfigIn b ks states inherited synthesized starts rows top c → action_of b c ≡ some shift → top.rows ≡ 512
      → step b (tables_of b) c ≡ stop (refused 16)
  shift-rows (stands {S = S} {z = []} C) e h = let g = shift-goes B.spelled B.sound S 0 e in absurd (omega (arith, g.low))
  shift-rows (stands {st = st} {p = p} {z = k ∷ z} {rs = rs} C) e h = shift-16 b (tables_of b) k st z p rs e (λ l. omega (arith, C.count_is))

  pub shift-symbols : {c : Config} → ConfigIn b ks states inherited synthesized starts rows top c → action_of b c ≡ some shift → top.rows ≢ 512
      → top.depth ≡ MAX_STACK → step b (tables_of b) c ≡ stop (refused 17)
  shift-symbols (stands {S = S} {z = []} C) e n h = let g = shift-goes B.spelled B.sound S 0 e in absurd (omega (arith, g.low))
  shift-symbols (stands {st = st} {p = p} {z = k ∷ z} {rs = rs} C) e n h =
      shift-17 b (tables_of b) k st z p rs e (omega (arith, C.count_is, C.count_low)) (λ l. omega (arith, C.depth_is))

  module _ (P : ℕ) where
    pub reduce-rows : {c : Config} → ConfigIn b ks states inherited synthesized starts rows top c → action_of b c ≡ some (reduce P) → top.rows ≡ 512
        → step b (tables_of b) c ≡ stop (refused 16)
    reduce-rows (stands {st = st} {p = p} {z = z} {rs = rs} C) e h = reduce-16 b (tables_of b) st z p rs e (λ l. omega (arith, C.count_is))

    pub reduce-symbols : {c : Config} → ConfigIn b ks states inherited synthesized starts rows top c → action_of b c ≡ some (reduce P) → top.rows ≢ 512
        → length (right_of b.rules P) ≡ 0 → top.depth ≡ MAX_STACK → step b (tables_of b) c ≡ stop (refused 17)
    reduce-symbols (stands {st = st} {p = p} {z = z} {rs = rs} C) e n s h =
        reduce-17 b (tables_of b) st z p rs e (omega (arith, C.count_is, C.count_low)) (nothing (right_of b.rules P) s) (λ l. omega (arith, C.depth_is))
      where
        nothing : (γ : List Symbol) → length γ ≡ 0 → γ ≡ []
        nothing [] q = refl
        nothing (X ∷ γ) q = absurd (omega arith)

  -- there is room, where the tests do not refuse
  pub room-left : {c : Config} → ConfigIn b ks states inherited synthesized starts rows top c → top.rows ≢ 512 → top.rows < 512
  room-left (stands C) n = omega (arith, C.count_is, C.count_low)
