-- What the laws of formulas take from conditions 3 to 5 and 7, in the form in which they use it. Assumes nothing.
use Rattle.std.specs.Prelude.{ℕ, ◌<◌, ◌≤◌, ◌≡◌, ◌≢◌, List, ◌∷◌, length}
use Rattle.grammar.specs.Limits.{MAX_INHERITED}
use Rattle.grammar.specs.Data.Symbol.{Symbol, nonterminal, left_of, after}
use Rattle.grammar.specs.Data.Term.{Leaves}
use Rattle.grammar.specs.Data.LeavesLaws.{leaves_map}
use Rattle.grammar.specs.Data.Book.{Place, own, at, val, Book, inherited_owner, inherited_expr}
use Rattle.grammar.specs.Automaton.Items.{Reaches, before, complete, further, KernelItem, Closure, close, Chain}
use Rattle.grammar.specs.Formulas.ChainLaws.{chain-closure, chain-reaches}
use Rattle.grammar.specs.Automaton.States.{KernelRules}
use Rattle.grammar.specs.Automaton.KernelItems.{start_dot as kernel-start}
use Rattle.grammar.specs.Conditions.Meaning.{WithinLimits, Declared, Owned}
use Rattle.grammar.specs.Conditions.MeaningLaws.{inherited-exists, no-inherited-start, right-declared, Reads, inherited_reads, closure-declared}

-- what is read as own in rule P is of its left side
abbrev pub OwnLeft : Book → ℕ → Place → Type 0
OwnLeft b P (own K) = inherited_owner b K ≡ left_of b.rules P
OwnLeft b P (at J K) = Unit {0}
OwnLeft b P (val J) = Unit {0}

pub record FormulaPremises (b : Book) : Type 0 where
  -- 3
  pub attributes_limit : length b.inherited_owners ≤ MAX_INHERITED
  -- 4: n0 is rule 0's left side and owns nothing; what is named is declared
  pub start_left : left_of b.rules 0 ≡ 0
  pub start_bare : (K : ℕ) → inherited_owner b K ≢ 0
  pub next_owned : (P D B K : ℕ) (β : List Symbol) → after b.rules P D ≡ nonterminal B ∷ β → inherited_owner b K ≡ B → K < length b.inherited_owners
  pub chain_state : (S a P D c : ℕ) → Chain b S a P D c → S < b.states
  pub chain_terminal : (S a P D c : ℕ) → Chain b S a P D c → a ≤ b.terminals
  -- 5
  pub own_left : (P J K : ℕ) → Leaves (OwnLeft b P) (inherited_expr b P J K)
  -- 7: "State 0 has the one kernel (0,0)", and no other dot is 0
  pub start_dot : (S P a : ℕ) → KernelItem b S P 0 a → P ≡ 0

module _ {b : Book} (limits : WithinLimits b) (declared : Declared b) (owned : Owned b) (kernels : KernelRules b) where
  -- what the items of a closure reach is a terminal of the book or the end mark
  reaches-terminal : {S a P D c : ℕ} → Closure b S P D c → Reaches b.rules a P D c → a ≤ b.terminals
  reaches-terminal closure (before {P = P} {D = D} h) = (right-declared declared P D h).high
  reaches-terminal closure (complete h e) = rw e at (closure-declared declared closure).lookahead_there
  reaches-terminal closure (further d r) = reaches-terminal (close closure d) r

  own-reads : (P J : ℕ) (place : Place) → Reads b P J place → OwnLeft b P place
  own-reads P J (own K) h = h.1
  own-reads P J (at I K) h = tt
  own-reads P J (val I) h = tt

  pub formula-premises : FormulaPremises b
  formula-premises = record {
    attributes_limit = limits.inherited_limit;
    start_left = declared.start_left;
    start_bare = no-inherited-start declared;
    next_owned = λ P D B K β h o. inherited-exists limits K (rw o (right-declared declared P D h));
    chain_state = λ S a P D c chain. (closure-declared declared (chain-closure b chain)).state_there;
    chain_terminal = λ S a P D c chain. reaches-terminal (chain-closure b chain) (chain-reaches b chain);
    own_left = λ P J K. leaves_map (own-reads P J) (inherited_reads declared owned P J K);
    start_dot = λ S P a. kernel-start kernels;
  }
