-- Printers: what a text puts in front of a rest. Composed, they need no `++` and no law about it.
-- Assumes nothing.
use Rattle.std.specs.Prelude.{ℕ, suc, List, [], ◌∷◌, ◌++◌}
use Prim.Native.Char.{code}
use Prim.Native.String.{String, [] as []ˢ, ◌∷◌ as ◌∷ˢ◌}
use Rattle.text.specs.Numeral.{decimal, write}

abbrev pub Printer : Type 0
Printer = List ℕ → List ℕ

infixr 60 ◌·◌
abbrev pub ◌·◌ : Printer → Printer → Printer
◌·◌ p q = λ r. p (q r)

unfoldable pub bytes : String → List ℕ
bytes []ˢ = []
bytes (c ∷ˢ s) = code c ∷ bytes s

-- the bytes of a literal
unfoldable pub literal : String → Printer
literal s r = bytes s ++ r

-- a decimal number without leading zero
abbrev pub numeral : ℕ → Printer
numeral n = write decimal n

-- one after another
unfoldable pub each : {A : Type 0} → (A → Printer) → List A → Printer
each print [] r = r
each print (x ∷ xs) r = print x (each print xs r)

-- one after another, numbered from K on
unfoldable pub numbered : {A : Type 0} → (ℕ → A → Printer) → ℕ → List A → Printer
numbered print K [] r = r
numbered print K (x ∷ xs) r = print K x (numbered print (suc K) xs r)

-- opens every definition of this module
unfoldable pub opens : Unit {0}
unfolding bytes literal each numbered
opens = tt
