-- Laws of unions as equations between the numbers. Assumes nothing.
use Rattle.std.specs.Prelude.{ℕ, ◌^◌, ◌<◌, ◌≡◌, refl, Bool, true, false, ◌||◌}
use Rattle.sets.specs.Sets.{bit, empty, union}
use Rattle.sets.proofs.SetsLaws.{bit-empty, bit-union, union-lt, same_set, subset-true, subset-union}
use Rattle.grammar.specs.Automaton.Members.{none_in}

pub union-none : (a : ℕ) → a < 2 ^ 32 → union a 0 ≡ a
union-none a l = subset-union a 0 l (subset-true 0 a (λ i h e. none_in i e))

pub none-union : (a : ℕ) → a < 2 ^ 32 → union 0 a ≡ a
unfolding empty
none-union a l = same_set (union 0 a) a (union-lt 0 a) l (λ i h. rw (bit-union 0 a i h, bit-empty i))

or_assoc : (s t u : Bool) → ((s || t) || u) ≡ (s || (t || u))
or_assoc true t u = refl
or_assoc false t u = refl

pub union_assoc : (a b c : ℕ) → union (union a b) c ≡ union a (union b c)
union_assoc a b c =
    same_set (union (union a b) c) (union a (union b c)) (union-lt _ _) (union-lt _ _)
    (λ i h. rw (bit-union (union a b) c i h, bit-union a b i h, bit-union a (union b c) i h, bit-union b c i h) (or_assoc (bit a i) (bit b i) (bit c i)))
