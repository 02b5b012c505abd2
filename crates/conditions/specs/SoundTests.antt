-- What conditions 4 and 5 ask of definitions, in the parts that code asks one by one: of what a node reads, then of lines.
-- Assumes nothing.
use Rattle.std.specs.Prelude.{ℕ, ◌+◌, ◌*◌, Bool, true, ◌&&◌, List, ltb, eqb, get_or, Option, None, Some}
use Rattle.grammar.specs.Conditions.Decides.{all}
use Rattle.grammar.specs.Data.Book.{InheritedDefinition, SynthesizedDefinition, Book as Lines}
use Rattle.grammar.specs.Conditions.Tests.{
  all_leaves,
  before,
  declared_inherited,
  declared_synthesized,
  owned_place,
  owned_inherited,
  owned_synthesized,
  owned,
}
use Rattle.conditions.specs.declared.place.Place.{Place}
use Rattle.conditions.specs.declared.place.Place.TheVariants.{Own, At, Val}
use Rattle.conditions.specs.Asked.{Entry}
use Rattle.conditions.specs.DeclaredTests.{leaves_declared, definitions_declared}

-- what a node reads, in rule p and left of a position: condition 5
unfoldable pub owned_code : List ℕ → List ℕ → List ℕ → ℕ → ℕ → Option Place → Bool
owned_code inherited synthesized rules p limit None = true
owned_code inherited synthesized rules p limit (Some (Own K)) = eqb (get_or inherited K 0) (get_or rules (10 * p) 0)
owned_code inherited synthesized rules p limit (Some (At J K)) = eqb (get_or rules (10 * p + 1 + J) 0) (32 + get_or synthesized K 0) && ltb J limit
owned_code inherited synthesized rules p limit (Some (Val J)) = ltb (get_or rules (10 * p + 1 + J) 0) 32 && ltb J limit

unfoldable pub leaves_owned : ℕ → Entry → Bool
leaves_owned limit x = all_leaves (owned_place x.book x.line.rule) x.line.expression && all_leaves (before limit) x.line.expression

-- both conditions
unfoldable pub leaves_sound : ℕ → Entry → Bool
leaves_sound limit x = leaves_declared x && leaves_owned limit x

abbrev pub sound_inherited : Lines → InheritedDefinition → Bool
sound_inherited b d = declared_inherited b d && owned_inherited b d

abbrev pub sound_synthesized : Lines → SynthesizedDefinition → Bool
sound_synthesized b d = declared_synthesized b d && owned_synthesized b d

unfoldable pub inherited_line_sound : Entry → Bool
inherited_line_sound x = sound_inherited x.book x.line

unfoldable pub synthesized_line_sound : Entry → Bool
synthesized_line_sound x =
    sound_synthesized x.book (record { rule = x.line.rule; attribute = x.line.attribute; expression = x.line.expression })

unfoldable pub inherited_sound : Lines → Bool
inherited_sound b = all (sound_inherited b) b.inherited_definitions

unfoldable pub synthesized_sound : Lines → Bool
synthesized_sound b = all (sound_synthesized b) b.synthesized_definitions

unfoldable pub definitions_sound : Lines → Bool
definitions_sound b = definitions_declared b && owned b

-- opens every definition of this module
unfoldable pub opens : Unit {0}
unfolding owned_code leaves_owned leaves_sound inherited_line_sound synthesized_line_sound inherited_sound synthesized_sound definitions_sound
opens = tt
