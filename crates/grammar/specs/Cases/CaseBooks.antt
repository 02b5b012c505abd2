-- The books of the cases, by their lines: 01's book S and those that 01's table makes of it, 003's binary numbers, and small books on which an engine
-- with one of 01's plausible slips would go wrong. Assumes nothing.
use Rattle.std.specs.Prelude.{ℕ, zero, suc, List, [], ◌∷◌, ◌++◌}
use Prim.Native.String.{String}
use Rattle.grammar.specs.Format.Printer.{bytes}

-- a text given by its lines
unfoldable pub unlines : List String → List ℕ
unlines [] = []
unlines (line ∷ lines) = bytes line ++ (10 ∷ unlines lines)

-- the lines with line n, counted from 0, written anew; and without it
unfoldable pub change : ℕ → String → List String → List String
change n new [] = []
change zero new (line ∷ lines) = new ∷ lines
change (suc n) new (line ∷ lines) = line ∷ change n new lines

unfoldable pub without : ℕ → List String → List String
without n [] = []
without zero (line ∷ lines) = lines
without (suc n) (line ∷ lines) = line ∷ without n lines

-- 01, "S, run by the desk program"
unfoldable pub S : List String
S =
    "(book 2 2 6)"
    ∷ "(inh i0 n2)"
    ∷ "(syn s0 n1)"
    ∷ "(syn s1 n2)"
    ∷ "(rule 0 n0 n1)"
    ∷ "(rule 1 n1 t1 n2)"
    ∷ "(rule 2 n2)"
    ∷ "(rule 3 n2 t2 n2)"
    ∷ "(inhdef 1 2 i0 (val 1))"
    ∷ "(inhdef 3 2 i0 (add (own i0) (val 1)))"
    ∷ "(syndef 1 s0 (at 2 s1))"
    ∷ "(syndef 2 s1 (own i0))"
    ∷ "(syndef 3 s1 (at 2 s1))"
    ∷ "(kernel 0 0 0 t0)"
    ∷ "(kernel 1 1 1 t0)"
    ∷ "(kernel 2 0 1 t0)"
    ∷ "(kernel 3 3 1 t0)"
    ∷ "(kernel 4 1 2 t0)"
    ∷ "(kernel 5 3 2 t0)"
    ∷ "(go 0 t1 1)"
    ∷ "(go 0 n1 2)"
    ∷ "(go 1 t2 3)"
    ∷ "(go 1 n2 4)"
    ∷ "(go 3 t2 3)"
    ∷ "(go 3 n2 5)"
    ∷ "(end)"
    ∷ []

-- S with rule 3 the other way round: two chains of the partial state (1, t0) end before n2, of one item and of two (row 10)
unfoldable pub left-recursive : List String
left-recursive =
    "(book 2 2 5)"
    ∷ "(inh i0 n2)"
    ∷ "(syn s0 n1)"
    ∷ "(syn s1 n2)"
    ∷ "(rule 0 n0 n1)"
    ∷ "(rule 1 n1 t1 n2)"
    ∷ "(rule 2 n2)"
    ∷ "(rule 3 n2 n2 t2)"
    ∷ "(inhdef 1 2 i0 (val 1))"
    ∷ "(inhdef 3 1 i0 (add (own i0) 1))"
    ∷ "(syndef 1 s0 (at 2 s1))"
    ∷ "(syndef 2 s1 (own i0))"
    ∷ "(syndef 3 s1 (at 1 s1))"
    ∷ "(kernel 0 0 0 t0)"
    ∷ "(kernel 1 1 1 t0)"
    ∷ "(kernel 2 0 1 t0)"
    ∷ "(kernel 3 1 2 t0)"
    ∷ "(kernel 3 3 1 t0 t2)"
    ∷ "(kernel 4 3 2 t0 t2)"
    ∷ "(go 0 t1 1)"
    ∷ "(go 0 n1 2)"
    ∷ "(go 1 n2 3)"
    ∷ "(go 3 t2 4)"
    ∷ "(end)"
    ∷ []

-- 003: binary numbers, their value and length
unfoldable pub binary : List String
binary =
    "(book 2 3 7)"
    ∷ "(syn s0 n1)"
    ∷ "(syn s1 n1)"
    ∷ "(syn s2 n2)"
    ∷ "(syn s3 n2)"
    ∷ "(syn s4 n3)"
    ∷ "(rule 0 n0 n1)"
    ∷ "(rule 1 n1 n2)"
    ∷ "(rule 2 n2 n2 n3)"
    ∷ "(rule 3 n2 n3)"
    ∷ "(rule 4 n3 t1)"
    ∷ "(rule 5 n3 t2)"
    ∷ "(syndef 1 s0 (at 1 s2))"
    ∷ "(syndef 1 s1 (at 1 s3))"
    ∷ "(syndef 2 s2 (add (add (at 1 s2) (at 1 s2)) (at 2 s4)))"
    ∷ "(syndef 2 s3 (add (at 1 s3) 1))"
    ∷ "(syndef 3 s2 (at 1 s4))"
    ∷ "(syndef 3 s3 1)"
    ∷ "(syndef 4 s4 0)"
    ∷ "(syndef 5 s4 1)"
    ∷ "(kernel 0 0 0 t0)"
    ∷ "(kernel 1 4 1 t0 t1 t2)"
    ∷ "(kernel 2 5 1 t0 t1 t2)"
    ∷ "(kernel 3 0 1 t0)"
    ∷ "(kernel 4 1 1 t0)"
    ∷ "(kernel 4 2 1 t0 t1 t2)"
    ∷ "(kernel 5 3 1 t0 t1 t2)"
    ∷ "(kernel 6 2 2 t0 t1 t2)"
    ∷ "(go 0 t1 1)"
    ∷ "(go 0 t2 2)"
    ∷ "(go 0 n1 3)"
    ∷ "(go 0 n2 4)"
    ∷ "(go 0 n3 5)"
    ∷ "(go 4 t1 1)"
    ∷ "(go 4 t2 2)"
    ∷ "(go 4 n3 6)"
    ∷ "(end)"
    ∷ []

-- 000, Ex 4.6: n2 inherits 1 before t1 and 2 before t2, so that only the partial states have one formula
unfoldable pub two-lookaheads : List String
two-lookaheads =
    "(book 2 2 5)"
    ∷ "(inh i0 n2)"
    ∷ "(syn s0 n1)"
    ∷ "(syn s1 n2)"
    ∷ "(rule 0 n0 n1)"
    ∷ "(rule 1 n1 n2 t1)"
    ∷ "(rule 2 n1 n2 t2)"
    ∷ "(rule 3 n2)"
    ∷ "(inhdef 1 1 i0 1)"
    ∷ "(inhdef 2 1 i0 2)"
    ∷ "(syndef 1 s0 (at 1 s1))"
    ∷ "(syndef 2 s0 (at 1 s1))"
    ∷ "(syndef 3 s1 (own i0))"
    ∷ "(kernel 0 0 0 t0)"
    ∷ "(kernel 1 0 1 t0)"
    ∷ "(kernel 2 1 1 t0)"
    ∷ "(kernel 2 2 1 t0)"
    ∷ "(kernel 3 1 2 t0)"
    ∷ "(kernel 4 2 2 t0)"
    ∷ "(go 0 n1 1)"
    ∷ "(go 0 n2 2)"
    ∷ "(go 2 t1 3)"
    ∷ "(go 2 t2 4)"
    ∷ "(end)"
    ∷ []

-- after 000, Ex 4.2: state 3 gives n2 the first token of rule 1, below the top, or of rule 3, at the top: the same words, other offsets
unfoldable pub two-offsets : List String
two-offsets =
    "(book 2 3 9)"
    ∷ "(inh i0 n2)"
    ∷ "(rule 0 n0 n1)"
    ∷ "(rule 1 n1 t1 t2 n2 t1)"
    ∷ "(rule 2 n1 t1 n3 t2)"
    ∷ "(rule 3 n3 t2 n2)"
    ∷ "(rule 4 n2 t1)"
    ∷ "(inhdef 1 3 i0 (val 1))"
    ∷ "(inhdef 3 2 i0 (val 1))"
    ∷ "(kernel 0 0 0 t0)"
    ∷ "(kernel 1 1 1 t0)"
    ∷ "(kernel 1 2 1 t0)"
    ∷ "(kernel 2 0 1 t0)"
    ∷ "(kernel 3 1 2 t0)"
    ∷ "(kernel 3 3 1 t2)"
    ∷ "(kernel 4 2 2 t0)"
    ∷ "(kernel 5 4 1 t1 t2)"
    ∷ "(kernel 6 1 3 t0)"
    ∷ "(kernel 6 3 2 t2)"
    ∷ "(kernel 7 2 3 t0)"
    ∷ "(kernel 8 1 4 t0)"
    ∷ "(go 0 t1 1)"
    ∷ "(go 0 n1 2)"
    ∷ "(go 1 t2 3)"
    ∷ "(go 1 n3 4)"
    ∷ "(go 3 t1 5)"
    ∷ "(go 3 n2 6)"
    ∷ "(go 4 t2 7)"
    ∷ "(go 6 t1 8)"
    ∷ "(end)"
    ∷ []

-- the cell below t2 is set when t2 is pushed, and still holds 105 when the rule is reduced at the end mark
unfoldable pub set-once : List String
set-once =
    "(book 2 2 6)"
    ∷ "(inh i0 n2)"
    ∷ "(syn s0 n1)"
    ∷ "(syn s1 n2)"
    ∷ "(rule 0 n0 n1)"
    ∷ "(rule 1 n1 t1 n2)"
    ∷ "(rule 2 n2 t2)"
    ∷ "(rule 3 n2 t2 n2)"
    ∷ "(inhdef 1 2 i0 (val 1))"
    ∷ "(inhdef 3 2 i0 (add (own i0) (val 1)))"
    ∷ "(syndef 1 s0 (at 2 s1))"
    ∷ "(syndef 2 s1 (add (own i0) (val 1)))"
    ∷ "(syndef 3 s1 (at 2 s1))"
    ∷ "(kernel 0 0 0 t0)"
    ∷ "(kernel 1 1 1 t0)"
    ∷ "(kernel 2 0 1 t0)"
    ∷ "(kernel 3 2 1 t0)"
    ∷ "(kernel 3 3 1 t0)"
    ∷ "(kernel 4 1 2 t0)"
    ∷ "(kernel 5 3 2 t0)"
    ∷ "(go 0 t1 1)"
    ∷ "(go 0 n1 2)"
    ∷ "(go 1 t2 3)"
    ∷ "(go 1 n2 4)"
    ∷ "(go 3 t2 3)"
    ∷ "(go 3 n2 5)"
    ∷ "(end)"
    ∷ []

-- nothing can follow n2 in rule 1, since n3 neither vanishes nor begins with a terminal: rule 1 reaches nothing, and only rule 2 gives n2 its value
unfoldable pub dead_end : List String
dead_end =
    "(book 2 3 7)"
    ∷ "(inh i0 n2)"
    ∷ "(syn s0 n2)"
    ∷ "(rule 0 n0 n1)"
    ∷ "(rule 1 n1 n2 n3)"
    ∷ "(rule 2 n1 n2 t2)"
    ∷ "(rule 3 n2 t1)"
    ∷ "(rule 4 n3 n3 t1)"
    ∷ "(inhdef 1 1 i0 1)"
    ∷ "(inhdef 2 1 i0 2)"
    ∷ "(syndef 3 s0 (own i0))"
    ∷ "(kernel 0 0 0 t0)"
    ∷ "(kernel 1 3 1 t2)"
    ∷ "(kernel 2 0 1 t0)"
    ∷ "(kernel 3 1 1 t0)"
    ∷ "(kernel 3 2 1 t0)"
    ∷ "(kernel 4 2 2 t0)"
    ∷ "(kernel 5 1 2 t0)"
    ∷ "(kernel 5 4 1 t0 t1)"
    ∷ "(kernel 6 4 2 t0 t1)"
    ∷ "(go 0 t1 1)"
    ∷ "(go 0 n1 2)"
    ∷ "(go 0 n2 3)"
    ∷ "(go 3 t2 4)"
    ∷ "(go 3 n3 5)"
    ∷ "(go 5 t1 6)"
    ∷ "(end)"
    ∷ []

-- opens every definition of this module
unfoldable pub opens : Unit {0}
unfolding unlines change without S left-recursive binary two-lookaheads two-offsets set-once dead_end
opens = tt
