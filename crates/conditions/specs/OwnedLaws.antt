-- Condition 5: what the words of symbols and nodes say where names and the node are declared.
-- Assumes nothing.
use Rattle.std.specs.Prelude.{ℕ, ◌+◌, ◌*◌, ◌-◌, ◌≤◌, ◌<◌, ◌≡◌, Bool, true, ◌&&◌, List, get_or}
use Rattle.std.proofs.Math.Path.{refl, sym, ap, ap₂}
use Rattle.std.proofs.Common.{◌∙◌}
use native.Mathlib.Omega.{arith}
use Rattle.std.proofs.Math.Dec.{eqb, ltb}
use Rattle.std.proofs.Math.ListN.{length}
use borrow.Author.Tests.{ltb-true, lt-ltb, le-ltb, ne_eqb}
use Rattle.grammar.specs.Limits.{MAX_RIGHT}
use Rattle.grammar.specs.Conditions.Decides.{decides-same, equivalent, eq-decides, one_to-decides}
use Rattle.grammar.specs.Data.Symbol.{Symbol, terminal, nonterminal, rule_at, right_of, symbol_at}
use Rattle.grammar.specs.Data.Postfix.{Step, push, load, operate, select}
use Rattle.grammar.specs.Data.Book.{Place, own, at, val, Book as Lines, inherited_owner, synthesized_owner}
use Rattle.grammar.specs.Conditions.Meaning.{IsPosition, RightSymbol, IsNonterminal}
use Rattle.grammar.specs.Conditions.Tests.{is_nonterminal, is_terminal, before, is_position, declared_place, nonterminal_at, owned_place}
use Rattle.grammar.specs.Conditions.MeaningLaws.{right-length}
use Rattle.grammar.specs.Data.ListLaws.{at-member}
use Rattle.std.proofs.Math.Bool.{and-true}
use Rattle.std.proofs.lemmas.Bool.{and_parts}
use Rattle.book.specs.Layout.{symbol_code}
use Rattle.conditions.specs.Asked.{SymbolsIn, DeclaredIn, InReach, PlaceThere}
use Rattle.conditions.specs.Leaves.{of_leaf}
use Rattle.conditions.specs.Places.{place_of_step}
use Rattle.conditions.specs.SymbolWords.{terminal-code, nonterminal-code}
use Rattle.conditions.specs.SoundTests.{owned_code}

module _ {rules : List ℕ} {b : Lines} (h : SymbolsIn rules b) where
  -- owners are small
  pub inherited-owner : (K : ℕ) → K < length b.inherited_owners → IsNonterminal b (inherited_owner b K)
  inherited-owner K l = h.inherited-owners _ (at-member b.inherited_owners K 32 l)

  pub synthesized-owner : (K : ℕ) → K < length b.synthesized_owners → IsNonterminal b (synthesized_owner b K)
  synthesized-owner K l = h.synthesized-owners _ (at-member b.synthesized_owners K 32 l)

  -- Right symbol J of rule P

  module _ (P J : ℕ) (there : P < length b.rules) (position : IsPosition b P J) where
    right_there : RightSymbol b (symbol_at b.rules P J)
    unfolding symbol_at rule_at
    right_there = h.right_symbols (rule_at b.rules P) (at-member b.rules P _ there) _
        (at-member (right_of b.rules P) (J - 1) (terminal 0) (omega arith))

    right-word : get_or rules (10 * P + 1 + J) 0 ≡ symbol_code (symbol_at b.rules P J)
    unfolding symbol_at
    right-word =
        let e : 10 * P + 1 + J ≡ 10 * P + 2 + (J - 1) = omega arith in
        rw e (h.rules_in.symbol_is P (J - 1) there (omega arith) (omega (arith, right-length h.within P)))

    pub right_low : get_or rules (10 * P + 1 + J) 0 < 64
    right_low = rw right-word (go (symbol_at b.rules P J) right_there)
      where
        go : (X : Symbol) → RightSymbol b X → symbol_code X < 64
        go (terminal t) r = rw (terminal-code h.within r) (omega (arith, r.high, h.within.terminals_limit.high))
        go (nonterminal B) r = rw (nonterminal-code h.within r) (omega (arith, r.high, h.within.nonterminals_limit.high))

    pub nonterminal-word : (A : ℕ) → A < 32 → eqb (get_or rules (10 * P + 1 + J) 0) (32 + A) ≡ nonterminal_at b P J A
    unfolding nonterminal_at is_nonterminal
    nonterminal-word A l = ap (λ (code : ℕ). eqb code (32 + A)) right-word ∙ go (symbol_at b.rules P J) right_there
      where
        go : (X : Symbol) → RightSymbol b X → eqb (symbol_code X) (32 + A) ≡ is_nonterminal A X
        go (terminal t) r =
            rw (terminal-code h.within r) (ne_eqb t (32 + A) (λ e. omega (arith, r.high, h.within.terminals_limit.high)))
        go (nonterminal B) r =
            rw (nonterminal-code h.within r)
            (decides-same (eq-decides (32 + B) (32 + A)) (equivalent (λ (e : B ≡ A). ap (λ (k : ℕ). 32 + k) e) (λ e. omega arith) (eq-decides B A)))

    pub terminal-word : ltb (get_or rules (10 * P + 1 + J) 0) 32 ≡ is_terminal (symbol_at b.rules P J)
    unfolding is_terminal
    terminal-word = ap (λ (code : ℕ). ltb code 32) right-word ∙ go (symbol_at b.rules P J) right_there
      where
        go : (X : Symbol) → RightSymbol b X → ltb (symbol_code X) 32 ≡ is_terminal X
        go (terminal t) r = rw (terminal-code h.within r) (lt-ltb t 32 (omega (arith, r.high, h.within.terminals_limit.high)))
        go (nonterminal B) r = rw (nonterminal-code h.within r) (le-ltb (32 + B) 32 (omega arith))

module _ {inherited synthesized rules : List ℕ} {b : Lines} (h : DeclaredIn inherited synthesized rules b) where
  -- Nodes

  module _ (P : ℕ) (there : P < length b.rules) where
    position_is : (J : ℕ) → is_position b P J ≡ true → IsPosition b P J
    unfolding is_position
    position_is J d = (one_to-decides (length (right_of b.rules P)) J).sound d

    low : (J : ℕ) → is_position b P J ≡ true → J ≤ MAX_RIGHT
    low J d = omega (arith, (position_is J d).high, right-length h.symbols_in.within P)

    in-reach : (s : Step Place) → of_leaf (declared_place b P) s ≡ true → InReach inherited synthesized (place_of_step s)
    unfolding of_leaf place_of_step declared_place
    in-reach (push n) d = tt
    in-reach (load (own K)) d = omega (arith, ltb-true K (length b.inherited_owners) d, h.inherited-in.long, h.inherited-in.fits)
    in-reach (load (at J K)) d =
        let l : K < length b.synthesized_owners = ltb-true K (length b.synthesized_owners) (and_parts (is_position b P J) _ d).1 in (
          low J (and_parts _ _ d).0,
          omega (arith, h.synthesized-in.long, h.synthesized-in.fits),
          omega (arith, h.synthesized-in.owner_is K l, (synthesized-owner h.symbols_in K l).high, h.symbols_in.within.nonterminals_limit.high),
        )
    in-reach (load (val J)) d = low J d
    in-reach (operate o) d = tt
    in-reach select d = tt

    -- what is declared of a node is in reach
    pub place-there : (s : Step Place) → of_leaf (declared_place b P) s ≡ true → PlaceThere inherited synthesized rules P (place_of_step s)
    place-there s d = record { rule_there = omega (arith, h.symbols_in.rules_in.long); in_reach = in-reach s d }

    pub owned-code : (limit : ℕ) (s : Step Place) → of_leaf (declared_place b P) s ≡ true
        → owned_code inherited synthesized rules P limit (place_of_step s) ≡ of_leaf (owned_place b P) s && of_leaf (before limit) s
    unfolding of_leaf place_of_step owned_code declared_place owned_place before
    owned-code limit (push n) d = refl
    owned-code limit (load (own K)) d =
        ap₂ eqb (h.inherited-in.owner_is K (ltb-true K (length b.inherited_owners) d)) (h.symbols_in.rules_in.left_is P there) ∙ sym (and-true _)
    owned-code limit (load (at J K)) d =
        let l : K < length b.synthesized_owners = ltb-true K (length b.synthesized_owners) (and_parts (is_position b P J) _ d).1 in
        ap (λ (t : Bool). t && ltb J limit) (ap (λ (A : ℕ). eqb (get_or rules (10 * P + 1 + J) 0) (32 + A)) (h.synthesized-in.owner_is K l)
        ∙ nonterminal-word h.symbols_in P J there (position_is J (and_parts _ _ d).0) (synthesized_owner b K)
        (omega (arith, (synthesized-owner h.symbols_in K l).high, h.symbols_in.within.nonterminals_limit.high)))
    owned-code limit (load (val J)) d = ap (λ (t : Bool). t && ltb J limit) (terminal-word h.symbols_in P J there (position_is J d))
    owned-code limit (operate o) d = refl
    owned-code limit select d = refl

    -- every position is left of 9
    pub before-nine : (s : Step Place) → of_leaf (declared_place b P) s ≡ true → of_leaf (before 9) s ≡ true
    unfolding of_leaf declared_place before
    before-nine (push n) d = refl
    before-nine (load (own K)) d = refl
    before-nine (load (at J K)) d = lt-ltb J 9 (omega (arith, low J (and_parts _ _ d).0))
    before-nine (load (val J)) d = lt-ltb J 9 (omega (arith, low J d))
    before-nine (operate o) d = refl
    before-nine select d = refl
