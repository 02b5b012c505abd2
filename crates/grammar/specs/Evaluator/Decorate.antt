-- Every tree has the values that the rules give, from left to right, and no others. Uniqueness and obedience assume the premises of demand 3:
-- a definition of an inherited attribute reads only to the left.
use Rattle.std.specs.Prelude.{ℕ, suc, ◌-◌, ◌≡◌, List, [], ◌∷◌, ◌++◌, length}
use Rattle.std.proofs.Common.{arith, ap, ap₂, sym, subst, append_assoc, length-append}
use Rattle.std.proofs.Math.Path.{refl}
use Rattle.std.proofs.Math.ListN.{get_or-append}
use Rattle.grammar.specs.Data.Book.{Book}
use Rattle.grammar.specs.Evaluator.Tree.{Tree, leaf, node, Trees, nil, cons}
use Rattle.grammar.specs.Evaluator.Decorated.{Values, Result, token, inherited_from, synthesized_from, Decorated, AllDecorated, erase, erase_all, result_of}
use Rattle.grammar.specs.Evaluator.Decorated.{results, Inherits, leaf_inherits, node_inherits, Obeys, leaf_obeys, node_obeys, AllObey, nil_obey, cons_obey}
use Rattle.grammar.specs.Evaluator.DecoratedLaws.{inherited_from-same}
use Rattle.grammar.specs.Evaluator.Machine.{Tables}
use Rattle.grammar.specs.Evaluator.Premises.{Premises}

module _ (b : Book) where
  unfoldable mutual
    -- the tree with the inherited values i at its root
    pub decorate : Tree → Values → Decorated
    decorate (leaf k) i = Decorated.leaf k
    decorate (node P ts) i = let ds = decorate_all ts P i [] in Decorated.node P i (synthesized_from b P i (results ds)) ds

    -- the further children of a node with rule P and inherited values i, those before them having handed up cs
    pub decorate_all : Trees → ℕ → Values → List Result → AllDecorated
    decorate_all nil P i cs = AllDecorated.nil
    decorate_all (cons t ts) P i cs =
        let d = decorate t (inherited_from b P (suc (length cs)) i cs) in
        AllDecorated.cons d (decorate_all ts P i (cs ++ (result_of d ∷ [])))

  mutual
    unfolding decorate decorate_all

    pub decorate-erases : (t : Tree) (i : Values) → erase (decorate t i) ≡ t
    decorate-erases (leaf k) i = refl
    decorate-erases (node P ts) i = ap (node P) (decorate_all-erases ts P i [])

    decorate_all-erases : (ts : Trees) (P : ℕ) (i : Values) (cs : List Result) → erase_all (decorate_all ts P i cs) ≡ ts
    decorate_all-erases nil P i cs = refl
    decorate_all-erases (cons t ts) P i cs = ap₂ cons (decorate-erases t _) (decorate_all-erases ts P i _)

  pub decorate-inherits : (t : Tree) (i : Values) → Inherits i (decorate t i)
  unfolding decorate
  decorate-inherits (leaf k) i = leaf_inherits
  decorate-inherits (node P ts) i = node_inherits refl

module _ (b : Book) (T : Tables) (H : Premises b T) where
  -- what the children before hand up is enough
  inherited_from-left : (P J : ℕ) (i : Values) (cs ds all : List Result) → J ≡ suc (length cs) → all ≡ cs ++ ds
      → inherited_from b P (suc (length cs)) i cs ≡ inherited_from b P J i all
  inherited_from-left P J i cs ds all j e =
      rw (j, e) (inherited_from-same b T H P (suc (length cs)) i i cs (cs ++ ds) (λ K o. refl)
      (λ I p q. sym (get_or-append cs ds (token 0) (I - 1) (omega arith))))

  mutual
    unfolding decorate decorate_all

    pub decorate-obeys : (t : Tree) (i : Values) → Obeys b (decorate b t i)
    decorate-obeys (leaf k) i = leaf_obeys
    decorate-obeys (node P ts) i = node_obeys (decorate_all-obeys ts P i [] 1 refl _ refl) refl

    decorate_all-obeys : (ts : Trees) (P : ℕ) (i : Values) (cs : List Result) (J : ℕ) → J ≡ suc (length cs) → (all : List Result)
        → all ≡ cs ++ results (decorate_all b ts P i cs) → AllObey b P i all J (decorate_all b ts P i cs)
    decorate_all-obeys nil P i cs J j all e = nil_obey
    decorate_all-obeys (cons t ts) P i cs J j all e =
        let f = inherited_from b P (suc (length cs)) i cs in
        let d = decorate b t f in
        cons_obey (decorate-obeys t f) (subst (λ g. Inherits g d) (inherited_from-left P J i cs _ all j e) (decorate-inherits b t f))
        (decorate_all-obeys ts P i (cs ++ (result_of d ∷ [])) (suc J) (simp length-append (omega arith)) all (rw append_assoc e))

  -- the decoration is the only one
  mutual
    unfolding decorate decorate_all

    pub decorate-only : (d : Decorated) (i : Values) → Obeys b d → Inherits i d → d ≡ decorate b (erase d) i
    decorate-only (Decorated.leaf k) i leaf_obeys leaf_inherits = refl
    decorate-only (Decorated.node P j s ds) i (node_obeys oo es) (node_inherits e) =
        let h = decorate_all-only ds P j [] 1 refl (results ds) refl oo in
        rw (← e, ← h, es)

    decorate_all-only : (ds : AllDecorated) (P : ℕ) (i : Values) (cs : List Result) (J : ℕ) → J ≡ suc (length cs) → (all : List Result)
        → all ≡ cs ++ results ds → AllObey b P i all J ds → ds ≡ decorate_all b (erase_all ds) P i cs
    decorate_all-only AllDecorated.nil P i cs J j all e nil_obey = refl
    decorate_all-only (AllDecorated.cons d ds) P i cs J j all e (cons_obey o g oo) =
        let f = inherited_from b P (suc (length cs)) i cs in
        let g' : Inherits f d = subst (λ x. Inherits x d) (sym (inherited_from-left P J i cs _ all j e)) g in
        let h = decorate-only d f o g' in
        let hs = decorate_all-only ds P i (cs ++ (result_of d ∷ [])) (suc J) (simp length-append (omega arith)) all (rw append_assoc e) oo in
        rw (← h) (ap (AllDecorated.cons d) hs)

-- opens every definition of this module
unfoldable pub opens : Unit {0}
unfolding decorate decorate_all
opens = tt
