-- Runs of the stack evaluator as relations: from one configuration to another, and to an answer. Assumes nothing.
use Rattle.std.specs.Prelude.{◌≡◌}
use Rattle.grammar.specs.Data.Book.{Book}
use Rattle.grammar.specs.Evaluator.Machine.{Tables, Config, Answer, more, stop, step}

module _ (b : Book) (T : Tables) where
  -- c comes to d
  pub data Reach : Config → Config → Type 0 where
    stay : {c : Config} → Reach c c
    move : {c d e : Config} → step b T c ≡ more d → Reach d e → Reach c e

  -- c ends with the answer x
  pub data Ends : Config → Answer → Type 0 where
    halts : {c : Config} {x : Answer} → step b T c ≡ stop x → Ends c x
    moves : {c d : Config} {x : Answer} → step b T c ≡ more d → Ends d x → Ends c x

  pub reach-then : {c d e : Config} → Reach c d → Reach d e → Reach c e
  reach-then stay q = q
  reach-then (move s p) q = move s (reach-then p q)

  pub reach-ends : {c d : Config} {x : Answer} → Reach c d → Ends d x → Ends c x
  reach-ends stay q = q
  reach-ends (move s p) q = moves s (reach-ends p q)

  -- the machine answers once
  pub ends-once : {c : Config} {x y : Answer} → Ends c x → Ends c y → x ≡ y
  ends-once (halts p) (halts q) = cc
  ends-once (halts p) (moves q s) = cc
  ends-once (moves p r) (halts q) = cc
  ends-once (moves {d = d} p r) (moves {d = d'} q s) =
      let e : d' ≡ d = cc in
      ends-once r (rw e at s)
