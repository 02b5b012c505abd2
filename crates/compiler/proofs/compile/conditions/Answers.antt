use mathlib.Core.Path.{◌≡◌, sym, ◌∙◌}
use mathlib.Core.Bool.{true}
use Rattle.grammar.specs.Data.Book.{Book as Lines}
use Rattle.grammar.specs.Conditions.Tests.{within_limits}
use Rattle.conditions.specs.DeclaredTests.{names_declared}
use Rattle.conditions.specs.SoundTests.{definitions_sound}
use Rattle.book.specs.Refusals.{answer_of, number_of}
use Rattle.compiler.specs.InArrays.{KeptIn}
use Rattle.compiler.specs.Conditions.{asked-limits, asked-names, asked-lines, asked-sound, asked-definitions, names-missing, sound-declared, sound-owned, limits-refused, names-refused, sound-refused, definitions-refused, conditions-met}
use Rattle.compiler.proofs.compile.conditions.Goals as goal
use Rattle.compiler.proofs.compile.conditions.Goals.{Else-not-names_declared, Else-not-sound, Else-not-within_limits}

-- the conditions that a book that is held meets where the next one is asked

limits : (c : Else-not-within_limits) (b : Lines) → KeptIn c.args.book c.args.lines.now b → within_limits b ≡ true
limits c b h = sym (c.within_limits.ensures.for_all b (asked-limits h)) ∙ c.if-not-within_limits.false

names : (c : Else-not-names_declared) (b : Lines) → KeptIn c.args.book c.args.lines.now b → within_limits b ≡ true
    → names_declared b ≡ true
names c b h w = sym (c.names_declared.ensures.for_all b (asked-names h w)) ∙ c.if-not-names_declared.false

definitions : (c : Else-not-sound) (b : Lines) → KeptIn c.args.book c.args.lines.now b → within_limits b ≡ true
    → names_declared b ≡ true → definitions_sound b ≡ true
definitions c b h w n = sym (c.sound.ensures.for_all b (asked-sound h w n)) ∙ c.if-not-sound.false

pub within_limits-requires : goal.within_limits-requires
within_limits-requires c = (c.requires.0, asked-limits c.requires.1)

pub returns-then-not-within_limits : goal.returns-then-not-within_limits
unfolding answer_of number_of
returns-then-not-within_limits c = λ b h. sym (limits-refused b (sym (c.within_limits.ensures.for_all b (asked-limits h)) ∙ c.if-not-within_limits.true))

pub names_declared-requires : goal.names_declared-requires
names_declared-requires c =
    let (b, h) = c.requires in (b, asked-names h (limits (goal.at.names_declared-requires c).Else-not-within_limits b h))

pub returns-then-not-names_declared : goal.returns-then-not-names_declared
unfolding answer_of number_of
returns-then-not-names_declared c = λ b h.
    let w = limits (goal.at.returns-then-not-names_declared c).Else-not-within_limits b h in
    sym (names-refused b w (names-missing b (sym (c.names_declared.ensures.for_all b (asked-names h w)) ∙ c.if-not-names_declared.true)))

pub sound-requires : goal.sound-requires
sound-requires c =
    let (b, h) = c.requires in
    let w = limits (goal.at.sound-requires c).Else-not-within_limits b h in
    (b, asked-sound h w (names (goal.at.sound-requires c).Else-not-names_declared b h w))

pub definitions_refused-requires : goal.definitions_refused-requires
definitions_refused-requires c =
    let (b, h) = c.requires in (b, asked-lines h (limits (goal.at.definitions_refused-requires c).Else-not-within_limits b h))

pub returns-then-not-sound : goal.returns-then-not-sound
unfolding answer_of number_of
returns-then-not-sound c = λ b h.
    let at = goal.at.returns-then-not-sound c in
    let w = limits at.Else-not-within_limits b h in
    let n = names at.Else-not-names_declared b h w in
    c.definitions_refused.ensures b (asked-lines h w)
    ∙ sym (sound-refused b w n (sym (c.sound.ensures.for_all b (asked-sound h w n)) ∙ c.if-not-sound.true))

pub defined-requires : goal.defined-requires
defined-requires c =
    let (b, h) = c.requires in
    let at = goal.at.defined-requires c in
    let w = limits at.Else-not-within_limits b h in
    let n = names at.Else-not-names_declared b h w in
    (b, asked-definitions h w n (definitions at.Else-not-sound b h w n))

pub returns-then-not-defined : goal.returns-then-not-defined
unfolding answer_of number_of
returns-then-not-defined c = λ b h.
    let at = goal.at.returns-then-not-defined c in
    let w = limits at.Else-not-within_limits b h in
    let n = names at.Else-not-names_declared b h w in
    let s = definitions at.Else-not-sound b h w n in
    sym (definitions-refused b w (sound-declared b n s) (sound-owned b s)
    (sym (c.defined.ensures.for_all b (asked-definitions h w n s)) ∙ c.if-not-defined.true))

pub returns : goal.returns
unfolding answer_of number_of
returns c = λ b h.
    let at = goal.at.returns c in
    let w = limits at.Else-not-within_limits b h in
    let n = names at.Else-not-names_declared b h w in
    let s = definitions at.Else-not-sound b h w n in
    sym (conditions-met b w (sound-declared b n s) (sound-owned b s)
    (sym (c.defined.ensures.for_all b (asked-definitions h w n s)) ∙ c.if-not-defined.false))
