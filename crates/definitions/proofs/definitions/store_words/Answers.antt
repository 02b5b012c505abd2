use mathlib.Core.Path.{◌≡◌}
use lib.ListN.{length}
use Rattle.definitions.specs.Expressions.{DEFINITION_WORDS}
use Rattle.definitions.specs.DefinitionsLoop.{stores-in, stores-out}
use borrow.Author.Rules.{rules}
use Rattle.definitions.proofs.definitions.store_words.Goals as goal

pub returns-then-i-room : goal.returns-then-i-room
returns-then-i-room c =
    let long : length c.words.new.line ≡ DEFINITION_WORDS = search rules in
    stores-in c.words.ensures c.if-i-room.true c.requires.1 long

pub returns : goal.returns
returns c = stores-out c.words-2.ensures c.if-i-room.false
