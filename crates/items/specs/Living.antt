-- Where no rest of any rule is a dead end, the same terminals are reached that can begin: FIRST serves for both.
-- Assumes nothing.
use Rattle.std.specs.Prelude.{ℕ, zero, suc, ◌<◌, ◌≤◌, ◌≡◌, refl, Bool, true, false, List, [], ◌∷◌, length, drop, replicate}
use Rattle.std.proofs.Common.{sym, ◌∙◌, subst, ⊎_elim, arith}
use Rattle.sets.specs.Sets.{bit, union}
use Rattle.sets.proofs.SetsLaws.{bit-lt, union-lt, union_left, union_right, union-either}
use Rattle.grammar.specs.Data.Symbol.{Symbol, terminal, nonterminal, Rule, right_of, after}
use Rattle.grammar.specs.Automaton.Fixpoint.{Constraint, set_at}
use Rattle.grammar.specs.Automaton.LeastLaws.{Fits, none-family, none_within, least-family, least-closed}
use Rattle.grammar.specs.Automaton.FirstSets.{first_in, first_rule, first_sets, nullable, Sets, sets, sets_of, first}
use Rattle.grammar.specs.Automaton.ReachSets.{dead, reach_in, reach_rule, reach_sets}
use Rattle.items.specs.GrammarOf.{grammar_of, grammar-size, GrammarFits}
use Rattle.items.specs.Rests.{null-one, nulls_of}
use Rattle.items.specs.Searches.{first_fits, reach-fits, first_more, first-rising, reach-rising}
use Rattle.items.specs.Turned.{Inside, same-family, least-inside}

-- something can follow wherever a rest of the string stands
abbrev pub LivingString : Sets → List Symbol → Type 0
LivingString F β = (D : ℕ) → D ≤ length β → dead F (drop D β) ≡ false

-- and of every rule
abbrev pub Living : List Rule → Sets → Type 0
Living G F = (P : ℕ) → P < length G → LivingString F (right_of G P)

-- ---- one string

module _ (nulls : ℕ) (firsts reached : List ℕ) (B : ℕ) (β : List Symbol) (l : dead (sets nulls firsts) β ≡ false) where
  past : bit nulls B ≡ true → reach_in (sets nulls firsts) reached (nonterminal B ∷ β) ≡ union (set_at reached B) (first_in nulls firsts β)
  unfolding reach_in nulls_of first
  past v = rw (l, null-one (sets nulls firsts) B ∙ v, reach_in)

  stops : bit nulls B ≡ false → reach_in (sets nulls firsts) reached (nonterminal B ∷ β) ≡ set_at reached B
  unfolding reach_in nulls_of
  stops v = rw (l, null-one (sets nulls firsts) B ∙ v, reach_in)

tail-lives : (F : Sets) (X : Symbol) (β : List Symbol) → LivingString F (X ∷ β) → dead F β ≡ false
tail-lives F X β l = l 1 (omega arith)

-- FIRST itself as what is reached
pub living-rest : (nulls : ℕ) (firsts : List ℕ) (β : List Symbol) → LivingString (sets nulls firsts) β
    → reach_in (sets nulls firsts) firsts β ≡ first_in nulls firsts β
unfolding reach_in first_in
living-rest nulls firsts [] l = refl
living-rest nulls firsts (terminal a ∷ β) l = refl
living-rest nulls firsts (nonterminal B ∷ β) l = go (bit nulls B) refl
  where
    lives : dead (sets nulls firsts) β ≡ false
    lives = tail-lives (sets nulls firsts) (nonterminal B) β l

    go : (t : Bool) → bit nulls B ≡ t → reach_in (sets nulls firsts) firsts (nonterminal B ∷ β) ≡ first_in nulls firsts (nonterminal B ∷ β)
    go true v = past nulls firsts firsts B β lives v ∙ rw (v, first_in)
    go false v = stops nulls firsts firsts B β lives v ∙ rw (v, first_in)

-- what begins by smaller sets is reached by them
begins-reached : (nulls : ℕ) (firsts reached : List ℕ) → Inside reached firsts → (β : List Symbol) → LivingString (sets nulls firsts) β → (a : ℕ)
    → bit (first_in nulls reached β) a ≡ true → bit (reach_in (sets nulls firsts) reached β) a ≡ true
unfolding reach_in first_in
begins-reached nulls firsts reached w [] l a e = e
begins-reached nulls firsts reached w (terminal c ∷ β) l a e = e
begins-reached nulls firsts reached w (nonterminal B ∷ β) l a e = go (bit nulls B) refl
  where
    lives : dead (sets nulls firsts) β ≡ false
    lives = tail-lives (sets nulls firsts) (nonterminal B) β l

    go : (t : Bool) → bit nulls B ≡ t → bit (reach_in (sets nulls firsts) reached (nonterminal B ∷ β)) a ≡ true
    go true v =
        let u : bit (union (set_at reached B) (first_in nulls reached β)) a ≡ true = rw (v, first_in) at e in
        let s : a < 32 = bit-lt _ a (union-lt _ _) u in
        rw (past nulls firsts reached B β lives v)
        (⊎_elim (union_left (set_at reached B) _ a s) (λ q. union_right (set_at reached B) _ a s (first_more nulls reached firsts w β a q))
        (union-either _ _ a s u))
    go false v = rw (stops nulls firsts reached B β lives v) (rw (v, first_in) at e)

later : (F : Sets) (D : ℕ) (β : List Symbol) → LivingString F β → LivingString F (drop D β)
later F zero β l = l
later F (suc D) [] l = l
later F (suc D) (X ∷ β) l = later F D β (λ E h. l (suc E) (omega arith))

-- ---- the sets of a grammar

module _ {words : List ℕ} {count : ℕ} (W : GrammarFits words count) where
  abbrev G : List Rule
  G = grammar_of words count

  all : (constraint : ℕ → Constraint) → Fits constraint count (replicate 32 0) → Fits constraint (length G) (replicate 32 0)
  all constraint = subst (λ (n : ℕ). Fits constraint n (replicate 32 0)) (sym (grammar-size words count))

  module _ (nulls : ℕ) (L : Living G (sets nulls (first_sets G nulls))) where
    abbrev F : Sets
    F = sets nulls (first_sets G nulls)

    first-all-fits : Fits (first_rule G nulls) (length G) (replicate 32 0)
    first-all-fits = all (first_rule G nulls) (first_fits W nulls (none-family 32))

    reach-all-fits : Fits (reach_rule G F) (length G) (replicate 32 0)
    reach-all-fits = all (reach_rule G F) (reach-fits W F (none-family 32))

    reached-begins : Inside (reach_sets G F) (first_sets G nulls)
    unfolding reach_sets first_sets reach_rule first_rule
    reached-begins =
        least-inside reach-all-fits (reach-rising G F (length G)) (first_sets G nulls) (none_within _ 32)
        (λ P a p e. least-closed first-all-fits P a p (rw (living-rest nulls (first_sets G nulls) (right_of G P) (L P p)) at e))

    first-reached : Inside (first_sets G nulls) (reach_sets G F)
    unfolding reach_sets first_sets reach_rule first_rule
    first-reached =
        least-inside first-all-fits (first-rising G nulls (length G)) (reach_sets G F) (none_within _ 32)
        (λ P a p e. least-closed reach-all-fits P a p (begins-reached nulls (first_sets G nulls) (reach_sets G F) reached-begins (right_of G P) (L P p) a e))

    same-sets : reach_sets G F ≡ first_sets G nulls
    unfolding reach_sets first_sets
    same-sets = same-family (least-family reach-all-fits) (least-family first-all-fits) reached-begins first-reached

  -- of the rests of its rules
  pub living-reaches : Living G (sets_of G) → (P D : ℕ) → P < length G → D ≤ length (right_of G P)
      → reach_in (sets_of G) (reach_sets G (sets_of G)) (after G P D) ≡ first (sets_of G) (after G P D)
  unfolding sets_of first
  living-reaches L P D p d =
      rw (same-sets (nullable G) L) (living-rest (nullable G) (first_sets G (nullable G)) (after G P D) (later (sets_of G) D (right_of G P) (L P p)))
