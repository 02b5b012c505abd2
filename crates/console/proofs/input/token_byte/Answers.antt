use Rattle.book.specs.Refusals.{number_of}
use Rattle.console.specs.Lines.{numbers_in}
use Rattle.console.proofs.HoldsLaws.{tokens-full, tokens-go-on, token-misspelt, token-read}
use native.Mathlib.Omega.{arith}
use mathlib.Core.Path.{sym, ◌∙◌}
use Rattle.console.proofs.input.token_byte.Goals as goal

pub returns-then-book-at : goal.returns-then-book-at
unfolding number_of
returns-then-book-at c = λ i h. tokens-full h _ c.if-book-at.true

pub returns-then-not-is_feed : goal.returns-then-not-is_feed
returns-then-not-is_feed c = λ i h. tokens-go-on h _ (omega arith) c.if-book-at.false (sym c.is_feed.ensures ∙ c.if-not-is_feed.true)

pub returns-in_default : goal.returns-in_default
unfolding number_of numbers_in
returns-in_default c = λ i h.
    token-misspelt h _ (omega arith) c.if-book-at.false
    (sym c.is_feed.ensures ∙ c.if-not-is_feed.false)
    c.in_default.ensures

pub returns : goal.returns
unfolding numbers_in
returns c = λ i h.
    let inside = c.if-book-at.false in
    token-read h _ (omega (arith, c.requires.0.text_room, h.short, inside)) inside
    (sym c.is_feed.ensures ∙ c.if-not-is_feed.false)
    c.in-Some.ensures (c.put_token-kept.ensures _ h.kept)
