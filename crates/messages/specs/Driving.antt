-- A book that is taken, and a message, as the machine asks for them. Assumes nothing.
use Rattle.std.specs.Prelude.{ℕ, ◌+◌, ◌*◌, ◌≤◌, ◌≡◌, List, ◌++◌, length, take, drop, replicate}
use Rattle.std.proofs.Math.Option.{some}
use Rattle.std.proofs.Common.{ap, subst, ◌∙◌, arith, length-take-le}
use Rattle.grammar.specs.Data.Book.{Book as Lines}
use Rattle.grammar.specs.Evaluator.Tree.{Token}
use Rattle.grammar.specs.Engine.{tokens_of}
use Rattle.book.specs.declared.Book.{Book}
use Rattle.conditions.specs.AskedLaws.{counted}
use Rattle.attributes.specs.Checking.{CheckHeld}
use Rattle.attributes.specs.FormulasHeld.{held-check, rules-low}
use Rattle.plans.specs.Places.{PlacesIn}
use Rattle.plans.specs.Plans.{PlansIn, NoneNoted, NoneListed}
use Rattle.plans.specs.PlansLaws.{plans-none, none-noted}
use Rattle.machine.specs.Moving.{Driven}
use Rattle.machine.specs.Running.{RunIn}
use Rattle.stack.specs.Standing.{Message as Tokens}
use Rattle.compiler.specs.Compiling.{asked-formulas}
use Rattle.messages.specs.Messages.{TakenBook, Message, message-tokens}
use Rattle.messages.specs.Sides.{SidesIn}
use Rattle.messages.specs.Zeros.{zeros}

module _ {numbers : Book} {inherited synthesized rules definitions kernels goes : List ℕ} {nullables reaches bounds closures table actions : List ℕ}
    {b : Lines} (h : TakenBook numbers inherited synthesized rules definitions kernels goes nullables reaches bounds closures table actions b)
    {own spans down up : List ℕ} (s : SidesIn b definitions own spans down up) where
  -- as the places of the definitions ask for it
  pub places-asked : CheckHeld b definitions rules own (replicate (9 * length b.rules) 0)
  places-asked = held-check (asked-formulas h.ready) s.owned_in (omega (arith, zeros (9 * length b.rules)))

  -- and with them
  module _ {places : List ℕ} (L : PlacesIn b 0 places) where
    driven : Driven b rules definitions numbers.inherited_definitions own kernels bounds closures nullables reaches places table
    driven = record {
      book_in = record {
        spelled = h.spelled;
        sound = h.sound;
        rules_in = h.ready.arrays_in.rules_in;
        definitions_in = h.ready.arrays_in.definitions_in;
        table_in = h.ready.tables-in.table_in;
      };
      plans-held = record {
        begins = h.ready.begins;
        count = numbers.rules;
        terminals = numbers.terminals;
        states = numbers.states;
        formulas_held = asked-formulas h.ready;
        owned_in = s.owned_in;
        places_in = L;
      };
    }

    pub run_in : {tokens : List ℕ} {ks : List Token} → tokens_of tokens ≡ some ks
        → RunIn b ks rules definitions numbers.inherited_definitions own kernels bounds closures nullables reaches places spans down up
        table actions tokens
    run_in e = record { driven = driven; left_in = s.left_in; actions_in = h.ready.tables-in.actions_in; tokens-in = e }

module _ {numbers : Book} {inherited synthesized rules definitions kernels goes : List ℕ} {nullables reaches bounds closures table actions : List ℕ}
    {b : Lines} (h : TakenBook numbers inherited synthesized rules definitions kernels goes nullables reaches bounds closures table actions b) where
  pub tokens-of : {tokens : List ℕ} (m : Message numbers.terminals tokens) → Tokens b m.list
  tokens-of m = record { tokens = message-tokens b m (counted b h.ready.numbers_are).terminals_are; few = m.few }

  -- no plan is worked out where the slots in front are cleared
  pub plans-of : (old : List ℕ) {front lists : List ℕ} → 32 * numbers.states ≤ length old
      → front ≡ replicate (length (take (32 * numbers.states) old)) 0 → NoneListed lists
      → PlansIn b (front ++ drop (32 * numbers.states) old) lists
  plans-of old {front} long e =
      let n : ℕ = 32 * numbers.states in
      let cleared : front ≡ replicate n 0 = e ∙ ap (λ (k : ℕ). replicate k 0) (length-take-le n old long) in
      let noted = none-noted numbers.states old long (ap (λ (l : List ℕ). l ++ drop n old) cleared) in
      plans-none b (subst (λ (k : ℕ). NoneNoted k (front ++ drop n old)) (counted b h.ready.numbers_are).states_are noted)

  -- words for the places of its definitions
  pub places-room : 32 + 9 * length b.rules ≤ 608
  places-room = omega (arith, rules-low (asked-formulas h.ready))
