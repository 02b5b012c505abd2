-- What is answered of both sections of definitions, one after the other. Assumes nothing.
use Rattle.std.specs.Prelude.{ℕ, List}
use Rattle.text.specs.Rest.{rest}
use Rattle.book.specs.declared.kind.Kind.TheVariants.{Inherited, Synthesized}
use Rattle.definitions.specs.Definitions.{definitions}
use Rattle.definitions.specs.DefinitionsLoop.{Defines}

-- the definitions of inherited attributes, and after them those of synthesized ones: i and s lines, in one array
pub record DefinesBoth (text : List ℕ) (room : ℕ) (out₀ : List ℕ) (at i s next : ℕ) (out : List ℕ) : Type 0 where
  pub synthesized-at : ℕ
  pub out₁ : List ℕ
  pub inherited_read : Defines (definitions Inherited (rest text at)) room 0 text out₀ i synthesized-at out₁
  pub synthesized_read : Defines (definitions Synthesized (rest text synthesized-at)) room i text out₁ s next out
