-- What follows from numbers and arrays of one book, for the functions over the lines of one kind.
-- Assumes nothing.
use Rattle.std.specs.Prelude.{ℕ, zero, suc, ◌+◌, ◌<◌, ◌≡◌, refl, true, ◌&&◌, List, [], ◌∷◌, eqb, length, get_or, take}
use Rattle.std.proofs.Common.{ap₂, ◌∙◌, arith, length-take, get_or-take, ext_get_or}
use Rattle.grammar.specs.Data.Book.{SynthesizedDefinition, Book as Lines}
use Rattle.grammar.specs.Data.Symbol.{Symbol, terminal, nonterminal, left_of, right_of}
use Rattle.grammar.specs.Conditions.Decides.{Decides, and-decides, one_to-decides, all-decides, all_below}
use Rattle.grammar.specs.Conditions.Meaning.{WithinLimits, RightSymbol}
use Rattle.grammar.specs.Format.Ordered.{Ordered}
use Rattle.grammar.specs.Conditions.Tests.{within_limits, one_nonterminal, right_symbol, declared, owned}
use Rattle.grammar.specs.Conditions.TestsLaws.{within_limits-decides, declared-decides, owned-decides}
use Rattle.grammar.specs.Conditions.MeaningLaws.{right-length}
use Rattle.grammar.specs.Data.ListLaws.{at-member}
use Rattle.book.specs.declared.Book.{Book}
use Rattle.book.specs.Held.{inherited_at, synthesized_at, OwnersIn, RulesIn, DefinitionsIn, Held, HasRoom, kept}
use Rattle.book.specs.HeldLaws.{kept-all, within-room}
use Rattle.book.specs.Counts.{counts_of}
use Rattle.conditions.specs.Asked.{
  Counted,
  RuleLines,
  DefinitionLines,
  KernelLines,
  Kept,
  Stored,
  RulesOf,
  RuleOf,
  DefinitionsOf,
  Entry,
  LineIs,
  EntryOf,
  KernelsOf,
  GoesOf,
  GrammarOf,
  Within,
  SymbolsIn,
  NamedBook,
  OwnedBook,
}
use Rattle.std.proofs.lemmas.Bool.{and_parts}
use Rattle.conditions.specs.Answers.{holds}
use Rattle.conditions.specs.DeclaredTests.{left_declared, grammar_declared, names_declared}

-- where there is room, what is kept is all
pub stored-kept : {numbers : Book} {inherited synthesized rules definitions kernels : List ℕ} {b : Lines}
    → Kept numbers inherited synthesized rules definitions kernels b → HasRoom b → Stored numbers inherited synthesized rules definitions kernels b
stored-kept {b = b} k h =
    let e : kept b ≡ b = kept-all b h in
    record {
      counted = k.counted;
      ordered = k.ordered;
      inherited-in = rw e at k.inherited-in;
      synthesized-in = rw e at k.synthesized-in;
      rules_in = rw e at k.rules_in;
      definitions_in = rw e at k.definitions_in;
      kernels-in = rw e at k.kernels-in;
    }

-- within a list no default is read
within : (xs : List ℕ) (i d e : ℕ) → i < length xs → get_or xs i d ≡ get_or xs i e
within [] i d e l = absurd (omega arith)
within (x ∷ xs) zero d e l = refl
within (x ∷ xs) (suc i) d e l = within xs i d e (omega arith)

-- owners are the first words of their array
pub owners-are : {room n : ℕ} {owners array : List ℕ} → OwnersIn room owners array → n ≡ length owners → take n array ≡ owners
owners-are {room} {n} {owners} {array} h e =
    let size : length (take n array) ≡ length owners = length-take n array ∙ omega (arith, h.long, h.fits) in
    ext_get_or 0 (take n array) owners size λ i l. get_or-take n array i 0 (omega arith) ∙ (h.owner_is i (omega arith) ∙ within owners i 32 0 (omega arith))

module _ {numbers : Book} {inherited synthesized rules definitions kernels : List ℕ} {b : Lines}
    (h : Stored numbers inherited synthesized rules definitions kernels b) where
  pub rule-lines : RuleLines rules numbers.rules b.rules
  rule-lines = record { count = h.counted.rules_are; lines = h.rules_in }

  pub definition-lines : DefinitionLines definitions (numbers.inherited_definitions + numbers.synthesized_definitions) b
  definition-lines =
      record { count = ap₂ ◌+◌ h.counted.inherited_definitions_are h.counted.synthesized_definitions_are; lines = h.definitions_in }

  pub kernel-lines : KernelLines kernels numbers.kernels b.kernels
  kernel-lines = record { count = h.counted.kernels_are; lines = h.kernels-in; ascend = h.ordered.kernels }

pub rule-of : {numbers : Book} {rules : List ℕ} {b : Lines} (P : ℕ) → RulesOf numbers rules b → P < length b.rules → RuleOf numbers rules P b
rule-of P h l = record { rules_of = h; rule_there = l; size_is = h.rules_in.size_is P l; few_right = right-length h.within P }

-- A definition's line and its rule

abbrev pub inherited_entry : Lines → ℕ → Entry
inherited_entry b i = record { book = b; line = inherited_at b.inherited_definitions i }

abbrev pub synthesized_entry : Lines → ℕ → Entry
synthesized_entry b i =
    let d : SynthesizedDefinition = synthesized_at b.synthesized_definitions i in
    record { book = b; line = record { rule = d.rule; position = 0; attribute = d.attribute; expression = d.expression } }

module _ {definitions : List ℕ} {b : Lines} (w : WithinLimits b) (h : DefinitionsIn b.inherited_definitions b.synthesized_definitions definitions)
    (i : ℕ) where
  pub inherited-line : i < length b.inherited_definitions → LineIs definitions i (inherited_entry b i).line
  inherited-line l =
      record {
        long = omega (arith, h.long);
        room = omega (arith, h.fits);
        few_nodes = w.inherited_nodes _ (at-member b.inherited_definitions i _ l);
        line_in = h.inherited_is i l;
      }

  pub synthesized-line : {n : ℕ} → n ≡ length b.inherited_definitions → i < length b.synthesized_definitions
      → LineIs definitions (n + i) (synthesized_entry b i).line
  synthesized-line e l =
      record {
        long = omega (arith, h.long);
        room = omega (arith, h.fits);
        few_nodes = w.synthesized_nodes _ (at-member b.synthesized_definitions i _ l);
        line_in = rw e (h.synthesized_is i l);
      }

module _ {numbers : Book} {rules definitions : List ℕ} {b : Lines} (h : DefinitionsOf numbers rules definitions b) (i : ℕ) where
  pub inherited-entry : i < length b.inherited_definitions → EntryOf numbers rules definitions i (inherited_entry b i)
  inherited-entry l = record { rules_of = h.rules_of; line_is = inherited-line h.rules_of.within h.definitions_in i l }

  pub synthesized-entry : {n : ℕ} → n ≡ length b.inherited_definitions → i < length b.synthesized_definitions
      → EntryOf numbers rules definitions (n + i) (synthesized_entry b i)
  synthesized-entry e l = record { rules_of = h.rules_of; line_is = synthesized-line h.rules_of.within h.definitions_in i e l }

-- The parts of a whole book within its limits

module _ {numbers : Book} {inherited synthesized rules definitions kernels goes : List ℕ} {b : Lines}
    (h : Within numbers inherited synthesized rules definitions kernels goes b) where
  pub within-limits : WithinLimits b
  within-limits = (within_limits-decides b).sound h.within

  pub rules_of : RulesOf numbers rules b
  rules_of = record { counted = h.stored.counted; within = within-limits; rules_in = h.stored.rules_in }

  pub grammar-of : GrammarOf numbers inherited synthesized rules b
  grammar-of = record { rules_of = rules_of; inherited-in = h.stored.inherited-in; synthesized-in = h.stored.synthesized-in }

  pub definitions-of : DefinitionsOf numbers rules definitions b
  definitions-of = record { rules_of = rules_of; definitions_in = h.stored.definitions_in }

  pub kernels_of : KernelsOf numbers rules kernels b
  kernels_of = record { rules_of = rules_of; ordered = h.stored.ordered; kernels-in = h.stored.kernels-in }

  pub goes_of : GoesOf numbers goes b
  goes_of = record { counted = h.stored.counted; within = within-limits; goes_in = h.goes_in }

-- Owners and right symbols that are declared

symbol-decides : (b : Lines) (X : Symbol) → Decides (right_symbol b X) (RightSymbol b X)
unfolding right_symbol
symbol-decides b (terminal t) = one_to-decides b.terminals t
symbol-decides b (nonterminal A) = one_to-decides b.nonterminals A

symbols-named : {rules : List ℕ} {b : Lines} → WithinLimits b → RulesIn b.rules rules → grammar_declared b ≡ true → SymbolsIn rules b
unfolding grammar_declared
symbols-named {rules} {b} w r e =
    let owners =
    and-decides (all-decides (one_to-decides b.nonterminals) b.inherited_owners) (all-decides (one_to-decides b.nonterminals) b.synthesized_owners) in
    let start = holds (eqb (left_of b.rules 0) 0 && one_nonterminal (right_of b.rules 0) && all_below (length b.rules) (λ P. left_declared P b)) in
    let symbols = all-decides (λ r. all-decides (symbol-decides b) r.right) b.rules in
    let ((inherited, synthesized), (_, rights)) = (and-decides owners (and-decides start symbols)).sound e in
    record { within = w; inherited-owners = inherited; synthesized-owners = synthesized; right_symbols = rights; rules_in = r }

-- From arrays in which a book is stored to what each condition is asked of

pub counted : {numbers : Book} (b : Lines) → numbers ≡ counts_of b → Counted numbers b
unfolding counts_of
counted b e =
    rw e (record {
      terminals_are = refl;
      nonterminals_are = refl;
      states_are = refl;
      inherited_are = refl;
      synthesized_are = refl;
      rules_are = refl;
      inherited_definitions_are = refl;
      synthesized_definitions_are = refl;
      kernels_are = refl;
      goes_are = refl;
    })

pub held_all : {inherited synthesized rules definitions kernels goes : List ℕ} {b : Lines} → within_limits b ≡ true
    → Held (kept b) inherited synthesized rules definitions kernels goes → Held b inherited synthesized rules definitions kernels goes
held_all {b = b} w h = rw (kept-all b (within-room ((within_limits-decides b).sound w))) at h

module _ {numbers : Book} {inherited synthesized rules definitions kernels goes : List ℕ} {b : Lines} where
  pub kept-book : numbers ≡ counts_of b → Ordered b → Held (kept b) inherited synthesized rules definitions kernels goes
      → Kept numbers inherited synthesized rules definitions kernels b
  kept-book e o h =
      record {
        counted = counted b e;
        ordered = o;
        inherited-in = h.inherited-in;
        synthesized-in = h.synthesized-in;
        rules_in = h.rules_in;
        definitions_in = h.definitions_in;
        kernels-in = h.kernels-in;
      }

  -- after condition 3
  pub within-book : numbers ≡ counts_of b → Ordered b → Held (kept b) inherited synthesized rules definitions kernels goes → within_limits b ≡ true
      → Within numbers inherited synthesized rules definitions kernels goes b
  within-book e o h w =
      record {
        stored = stored-kept (kept-book e o h) (within-room ((within_limits-decides b).sound w));
        goes_in = (held_all w h).goes_in;
        within = w;
      }

  -- after the names of condition 4
  pub named-book : Within numbers inherited synthesized rules definitions kernels goes b → names_declared b ≡ true
      → NamedBook numbers inherited synthesized rules definitions b
  unfolding names_declared
  named-book h n =
      record {
        counted = h.stored.counted;
        declared_in = record {
          symbols_in = symbols-named (within-limits h) h.stored.rules_in (and_parts (grammar_declared b) _ n).0;
          inherited-in = h.stored.inherited-in;
          synthesized-in = h.stored.synthesized-in;
        };
        definitions_in = h.stored.definitions_in;
      }

  -- after condition 5
  pub owned-book : Within numbers inherited synthesized rules definitions kernels goes b → names_declared b ≡ true → declared b ≡ true → owned b ≡ true
      → OwnedBook numbers inherited synthesized rules b
  owned-book h n d o =
      record {
        counted = h.stored.counted;
        ordered = h.stored.ordered;
        declared_in = (named-book h n).declared_in;
        declared = (declared-decides b).sound d;
        owned = (owned-decides b).sound o;
      }
