-- The tests of the conditions 3 to 6 at work: 01's book S passes all four, and books that differ from it in a line or two are refused by the
-- condition that 01's table names. Assumes nothing.
use Rattle.std.specs.Prelude.{ℕ, zero, suc, ◌≡◌, refl, Bool, true, false, List, [], ◌∷◌, ◌++◌, take, drop, replicate}
use Rattle.grammar.specs.Data.Symbol.{Symbol, terminal, nonterminal, Rule, opens as opens-symbol}
use Rattle.grammar.specs.Data.Term.{add, number, leaf, both, pick, opens as opens-term}
use Rattle.grammar.specs.Data.Book.{Expr, own, at, val, InheritedDefinition, SynthesizedDefinition, Kernel, Go, Book}
use Rattle.grammar.specs.Conditions.Decides.{opens as opens-decides}
use Rattle.grammar.specs.Conditions.Tests.{within_limits, declared, owned, defined, opens as opens-tests}

-- the answers of the four tests, in order
verdict : Book → List Bool
verdict b = within_limits b ∷ declared b ∷ owned b ∷ defined b ∷ []

-- lines
rule : ℕ → List Symbol → Rule
rule A right = record { left = A; right = right }

inhdef : ℕ → ℕ → ℕ → Expr → InheritedDefinition
inhdef P J K e = record { rule = P; position = J; attribute = K; expression = e }

syndef : ℕ → ℕ → Expr → SynthesizedDefinition
syndef P K e = record { rule = P; attribute = K; expression = e }

kernel : ℕ → ℕ → ℕ → Kernel
kernel S P D = record { state = S; rule = P; dot = D; lookaheads = 0 ∷ [] }

go : ℕ → Symbol → ℕ → Go
go S X M = record { state = S; symbol = X; target = M }

-- S, its parts by name
S-rules : List Rule
S-rules =
    rule 0 (nonterminal 1 ∷ []) ∷ rule 1 (terminal 1 ∷ nonterminal 2 ∷ []) ∷ rule 2 [] ∷ rule 2 (terminal 2 ∷ nonterminal 2 ∷ []) ∷ []

S-inherited : List InheritedDefinition
S-inherited = inhdef 1 2 0 (leaf (val 1)) ∷ inhdef 3 2 0 (both add (leaf (own 0)) (leaf (val 1))) ∷ []

S-synthesized : List SynthesizedDefinition
S-synthesized = syndef 1 0 (leaf (at 2 1)) ∷ syndef 2 1 (leaf (own 0)) ∷ syndef 3 1 (leaf (at 2 1)) ∷ []

S-kernels : List Kernel
S-kernels = kernel 0 0 0 ∷ kernel 1 1 1 ∷ kernel 2 0 1 ∷ kernel 3 3 1 ∷ kernel 4 1 2 ∷ kernel 5 3 2 ∷ []

S-goes : List Go
S-goes =
    go 0 (terminal 1) 1 ∷ go 0 (nonterminal 1) 2 ∷ go 1 (terminal 2) 3 ∷ go 1 (nonterminal 2) 4 ∷ go 3 (terminal 2) 3 ∷ go 3 (nonterminal 2) 5 ∷ []

book : ℕ → List ℕ → List Rule → List InheritedDefinition → List SynthesizedDefinition → List Kernel → List Go → Book
book T owners rules inherited synthesized kernels goes = record {
  terminals = T;
  nonterminals = 2;
  states = 6;
  inherited_owners = owners;
  synthesized_owners = 1 ∷ 2 ∷ [];
  rules = rules;
  inherited_definitions = inherited;
  synthesized_definitions = synthesized;
  kernels = kernels;
  goes = goes;
}

-- S with another number of terminals, other owners of inherited attributes, other lines of one kind
with-terminals : ℕ → Book
with-terminals T = book T (2 ∷ []) S-rules S-inherited S-synthesized S-kernels S-goes

with-owners : List ℕ → Book
with-owners owners = book 2 owners S-rules S-inherited S-synthesized S-kernels S-goes

with-rules : List Rule → Book
with-rules rules = book 2 (2 ∷ []) rules S-inherited S-synthesized S-kernels S-goes

with-inherited : List InheritedDefinition → Book
with-inherited inherited = book 2 (2 ∷ []) S-rules inherited S-synthesized S-kernels S-goes

with-synthesized : List SynthesizedDefinition → Book
with-synthesized synthesized = book 2 (2 ∷ []) S-rules S-inherited synthesized S-kernels S-goes

with-kernels : List Kernel → Book
with-kernels kernels = book 2 (2 ∷ []) S-rules S-inherited S-synthesized kernels S-goes

with-goes : List Go → Book
with-goes goes = book 2 (2 ∷ []) S-rules S-inherited S-synthesized S-kernels goes

-- S with another expression in `(inhdef 1 2 i0 ..)`, in `(syndef 1 s0 ..)`
with-inhdef : Expr → Book
with-inhdef e = with-inherited (inhdef 1 2 0 e ∷ drop 1 S-inherited)

with-syndef : Expr → Book
with-syndef e = with-synthesized (syndef 1 0 e ∷ drop 1 S-synthesized)

-- n kernel lines of state 7, from dot D on
kernels-of-7 : ℕ → ℕ → List Kernel
kernels-of-7 zero D = []
kernels-of-7 (suc n) D = kernel 7 0 D ∷ kernels-of-7 n (suc D)

-- a sum of n + 1 numbers: 2 n + 1 nodes
sum : ℕ → Expr
sum zero = number 1
sum (suc n) = both add (sum n) (number 1)

-- opens all that the cases compute with
opens : Unit {0}
unfolding verdict rule inhdef syndef kernel go S-rules S-inherited S-synthesized S-kernels S-goes book with-terminals with-owners with-rules
    with-inherited with-synthesized with-kernels with-goes with-inhdef with-syndef kernels-of-7 sum opens-symbol opens-term opens-decides opens-tests
opens = tt

-- S itself
S-passes : verdict (with-terminals 2) ≡ true ∷ true ∷ true ∷ true ∷ []
unfolding opens
S-passes = refl

-- 3: `(book 32 2 6)`; no rules; 16 nodes; 5 attributes of one nonterminal and 17 kernels of one state, which here are undeclared besides (4)
terminals-32 : verdict (with-terminals 32) ≡ false ∷ true ∷ true ∷ true ∷ []
unfolding opens
terminals-32 = refl

no-rules : within_limits (with-rules []) ≡ false
unfolding opens
no-rules = refl

nodes-15 : verdict (with-inhdef (sum 7)) ≡ true ∷ true ∷ true ∷ true ∷ []
unfolding opens
nodes-15 = refl

nodes-16 : verdict (with-inhdef (pick (sum 6) (number 1) (number 1))) ≡ false ∷ true ∷ true ∷ true ∷ []
unfolding opens
nodes-16 = refl

attributes-4 : verdict (with-owners (2 ∷ replicate 4 9)) ≡ true ∷ false ∷ true ∷ true ∷ []
unfolding opens
attributes-4 = refl

attributes-5 : verdict (with-owners (2 ∷ replicate 5 9)) ≡ false ∷ false ∷ true ∷ true ∷ []
unfolding opens
attributes-5 = refl

kernels-16 : verdict (with-kernels (S-kernels ++ kernels-of-7 16 0)) ≡ true ∷ false ∷ true ∷ true ∷ []
unfolding opens
kernels-16 = refl

kernels-17 : verdict (with-kernels (S-kernels ++ kernels-of-7 17 0)) ≡ false ∷ false ∷ true ∷ true ∷ []
unfolding opens
kernels-17 = refl

-- 4: `(rule 1 n1 t3 n2)`; `(rule 4 n1 n0)`, which lacks a definition besides (6); `(rule 4 n0 t1)`; rule 0 with two symbols; `(inh i1 n0)`; `(val 0)`; a dot past the end; `(go 0 t0 1)`, but not `(go 0 n0 1)`
terminal-undeclared : verdict (with-rules (take 1 S-rules ++ rule 1 (terminal 3 ∷ nonterminal 2 ∷ []) ∷ drop 2 S-rules)) ≡ true ∷ false ∷ true ∷ true ∷ []
unfolding opens
terminal-undeclared = refl

start_right : verdict (with-rules (S-rules ++ rule 1 (nonterminal 0 ∷ []) ∷ [])) ≡ true ∷ false ∷ true ∷ false ∷ []
unfolding opens
start_right = refl

start_left : verdict (with-rules (S-rules ++ rule 0 (terminal 1 ∷ []) ∷ [])) ≡ true ∷ false ∷ true ∷ true ∷ []
unfolding opens
start_left = refl

start-longer : verdict (with-rules (rule 0 (nonterminal 1 ∷ terminal 1 ∷ []) ∷ drop 1 S-rules)) ≡ true ∷ false ∷ true ∷ true ∷ []
unfolding opens
start-longer = refl

start-owns : verdict (with-owners (2 ∷ 0 ∷ [])) ≡ true ∷ false ∷ true ∷ true ∷ []
unfolding opens
start-owns = refl

position-0 : verdict (with-inhdef (leaf (val 0))) ≡ true ∷ false ∷ true ∷ true ∷ []
unfolding opens
position-0 = refl

dot-past : verdict (with-kernels (S-kernels ++ kernel 5 3 3 ∷ [])) ≡ true ∷ false ∷ true ∷ true ∷ []
unfolding opens
dot-past = refl

go-end : verdict (with-goes (go 0 (terminal 0) 1 ∷ S-goes)) ≡ true ∷ false ∷ true ∷ true ∷ []
unfolding opens
go-end = refl

go-start : verdict (with-goes (take 1 S-goes ++ go 0 (nonterminal 0) 1 ∷ drop 1 S-goes)) ≡ true ∷ true ∷ true ∷ true ∷ []
unfolding opens
go-start = refl

-- 5: `(inhdef 1 2 i0 (val 2))`; `(inhdef 1 2 i0 (at 2 s1))`; an inhdef of a terminal; `(syndef 1 s0 (val 2))`; `(syndef 1 s0 (own i0))`; a syndef of n0
val-not-left : verdict (with-inhdef (leaf (val 2))) ≡ true ∷ true ∷ false ∷ true ∷ []
unfolding opens
val-not-left = refl

at-not-left : verdict (with-inhdef (leaf (at 2 1))) ≡ true ∷ true ∷ false ∷ true ∷ []
unfolding opens
at-not-left = refl

terminal-target : verdict (with-inherited (inhdef 1 1 0 (number 1) ∷ S-inherited)) ≡ true ∷ true ∷ false ∷ true ∷ []
unfolding opens
terminal-target = refl

val-of-nonterminal : verdict (with-syndef (leaf (val 2))) ≡ true ∷ true ∷ false ∷ true ∷ []
unfolding opens
val-of-nonterminal = refl

own-of-another : verdict (with-syndef (leaf (own 0))) ≡ true ∷ true ∷ false ∷ true ∷ []
unfolding opens
own-of-another = refl

start-defined : verdict (with-synthesized (syndef 0 0 (number 1) ∷ S-synthesized)) ≡ true ∷ true ∷ false ∷ true ∷ []
unfolding opens
start-defined = refl

-- 6: S without `(syndef 2 ..)`; without `(inhdef 3 ..)`
synthesized-missing : verdict (with-synthesized (take 1 S-synthesized ++ drop 2 S-synthesized)) ≡ true ∷ true ∷ true ∷ false ∷ []
unfolding opens
synthesized-missing = refl

inherited-missing : verdict (with-inherited (take 1 S-inherited)) ≡ true ∷ true ∷ true ∷ false ∷ []
unfolding opens
inherited-missing = refl
