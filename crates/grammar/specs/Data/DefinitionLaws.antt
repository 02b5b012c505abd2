-- The expression that a book has for an attribute in a rule: that of a line, or the number 0 where no line defines it. Assumes nothing.
use Rattle.std.specs.Prelude.{ℕ, ◌≡◌, refl, Bool, true, false, ◌&&◌, eqb}
use Rattle.std.proofs.Common.{ap}
use mathlib.Core.List.Memᴰ.{head as in_head}
use mathlib.Core.List.Memᴰ.{not-nil as not-in-nil}
use mathlib.Core.List.Memᴰ.{tail as in_Tail}
use mathlib.Core.List.{List, [], ◌∷◌, Memᴰ as Mem}
use Rattle.grammar.specs.Conditions.Decides.{Decides, refutes, equivalent, eq-decides, and-decides}
use Rattle.grammar.specs.Data.Term.{number}
use Rattle.grammar.specs.Data.Book.{Expr, InheritedDefinition, SynthesizedDefinition, inherited_in, synthesized_in}
use Rattle.grammar.specs.Conditions.Meaning.{InheritedOf, SynthesizedOf}

-- the value of the first element that passes the test; the number 0 where there is none
first : {A : Type 0} → (A → Bool) → (A → Expr) → List A → Expr
first f value [] = number 0
first f value (x ∷ l) = elim (f x) [ true ↦ value x | false ↦ first f value l ]

module _ {A : Type 0} {f : A → Bool} {Q : A → Type 0} (decides : (x : A) → Decides (f x) (Q x)) (value : A → Expr) (R : Expr → Type 0) where
  first_by : (l : List A) → (((x : A) → Mem x l → Q x → ⊥) → R (number 0)) → ((x : A) → Mem x l → Q x → R (value x)) → R (first f value l)
  unfolding first
  first_by [] n s = n λ x m q. not-in-nil m
  first_by (y ∷ l) n s = go (decides y) λ no-y. first_by l (λ no-x. n (none no-y no-x)) (λ x m. s x (in_Tail m))
    where
      none : (Q y → ⊥) → ((x : A) → Mem x l → Q x → ⊥) → (x : A) → Mem x (y ∷ l) → Q x → ⊥
      none no-y no-x x (in_head e) q = no-y (rw e at q)
      none no-y no-x x (in_Tail m) q = no-x x m q

      go : {t : Bool} → Decides t (Q y) → ((Q y → ⊥) → R (first f value l)) → R (elim t [ true ↦ value y | false ↦ first f value l ])
      go {t = true} d rest = s y (in_head refl) (d.sound refl)
      go {t = false} d rest = rest (refutes d)

-- the expression found for (P, J, K) is that of a line that defines it, or the number 0 where no line does; and so for (P, K)
pub inherited-by : (R : Expr → Type 0) (P J K : ℕ) (lines : List InheritedDefinition)
    → (((d : InheritedDefinition) → Mem d lines → InheritedOf P J K d → ⊥) → R (number 0))
    → ((d : InheritedDefinition) → Mem d lines → InheritedOf P J K d → R d.expression) → R (inherited_in lines P J K)
unfolding inherited_in first
inherited-by R P J K lines n s = rw (as_first lines) (first_by decides (λ d. d.expression) R lines n s)
  where
    test : InheritedDefinition → Bool
    test d = eqb d.rule P && (eqb d.position J && eqb d.attribute K)

    as_first : (l : List InheritedDefinition) → inherited_in l P J K ≡ first test (λ d. d.expression) l
    as_first [] = refl
    as_first (d ∷ l) = ap (λ e. elim (test d) [ true ↦ d.expression | false ↦ e ]) (as_first l)

    decides : (d : InheritedDefinition) → Decides (test d) (InheritedOf P J K d)
    decides d = equivalent (λ (r, (p, a)). (r, p, a)) (λ (r, p, a). (r, (p, a)))
        (and-decides (eq-decides d.rule P) (and-decides (eq-decides d.position J) (eq-decides d.attribute K)))

pub synthesized-by : (R : Expr → Type 0) (P K : ℕ) (lines : List SynthesizedDefinition)
    → (((d : SynthesizedDefinition) → Mem d lines → SynthesizedOf P K d → ⊥) → R (number 0))
    → ((d : SynthesizedDefinition) → Mem d lines → SynthesizedOf P K d → R d.expression) → R (synthesized_in lines P K)
unfolding synthesized_in first
synthesized-by R P K lines n s = rw (as_first lines) (first_by decides (λ d. d.expression) R lines n s)
  where
    test : SynthesizedDefinition → Bool
    test d = eqb d.rule P && eqb d.attribute K

    as_first : (l : List SynthesizedDefinition) → synthesized_in l P K ≡ first test (λ d. d.expression) l
    as_first [] = refl
    as_first (d ∷ l) = ap (λ e. elim (test d) [ true ↦ d.expression | false ↦ e ]) (as_first l)

    decides : (d : SynthesizedDefinition) → Decides (test d) (SynthesizedOf P K d)
    decides d = and-decides (eq-decides d.rule P) (eq-decides d.attribute K)
