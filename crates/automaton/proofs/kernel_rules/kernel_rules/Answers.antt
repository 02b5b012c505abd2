use Prim.Native.Nat.{◌<◌}
use native.Mathlib.Omega.{arith}
use mathlib.Core.Path.{◌≡◌}
use lib.ListN.{length, set}
use Rattle.grammar.specs.Data.Book.{Book}
use Rattle.automaton.specs.KernelRules.{RuledIn, Walked, walked_start, ruled-none, ruled-first, ruled-lines, ruled-last}
use Rattle.automaton.proofs.kernel_rules.kernel_rules.Goals as goal
use Rattle.automaton.proofs.kernel_rules.kernel_rules.Goals.{Else-count-eq0, Else-not-start_line}

-- there is a line
some : (c : Else-count-eq0) → (b : Book) → RuledIn b c.args.rules.now c.args.kernels.now c.args.count
    → 0 < length b.kernels
some c = λ _ H. omega (arith, H.counted, c.if-count-eq0.false)

-- the first one is right
walked : (c : Else-not-start_line) → (b : Book) → RuledIn b c.args.rules.now c.args.kernels.now c.args.count
    → c.args.states ≡ b.states → Walked b (set (set c.args.bounds.now 0 0) 1 1) 1
walked c =
    let some : (b : Book) → RuledIn b c.args.rules.now c.args.kernels.now c.args.count
    → 0 < length b.kernels = λ _ H. omega (arith, H.counted, c.if-count-eq0.false) in
    λ b H s. walked_start H c.args.bounds.now c.if-count-eq0.false s c.requires.1
    (c.start_line.ensures b.kernels H.named_in.spelled_in (some _ H)) c.if-not-start_line.false

pub returns-then-count-eq0 : goal.returns-then-count-eq0
returns-then-count-eq0 c = λ b H s. ruled-none H c.if-count-eq0.true

pub returns-then-not-start_line : goal.returns-then-not-start_line
returns-then-not-start_line c =
    λ b H s.
    ruled-first H (c.start_line.ensures b.kernels H.named_in.spelled_in ((some (goal.at.returns-then-not-start_line c).Else-count-eq0) _ H)) c.if-not-start_line.true

pub returns-then-not-lines_right : goal.returns-then-not-lines_right
returns-then-not-lines_right c =
    λ b H s. ruled-lines H (c.lines_right.ensures b H ((walked (goal.at.returns-then-not-lines_right c).Else-not-start_line) _ H s)) c.if-not-lines_right.true

pub returns : goal.returns
returns c =
    λ b H s. ruled-last H (c.lines_right.ensures b H ((walked (goal.at.returns c).Else-not-start_line) _ H s)) c.if-not-lines_right.false s c.word.ensures
