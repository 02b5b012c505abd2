-- What is answered of what a book declares: its first line, and the sections inh, syn and rule. Assumes nothing.
use Rattle.std.specs.Prelude.{ℕ, List}
use Rattle.text.specs.Rest.{rest}
use Rattle.text.specs.Numeral.{word_of}
use Rattle.grammar.specs.Limits.{MAX_INHERITED, MAX_SYNTHESIZED}
use Rattle.grammar.specs.Format.Parse.{owner_lines, rule_lines}
use Rattle.book.specs.Layout.{owner_words, rule_words}
use Rattle.book.specs.Sections.{Gives, Fills}
use Rattle.book.specs.Header.{Numbers, header}

-- the first line, the attributes' owners and the rules, as far as there is room for them: i, s and r lines of each kind
pub record Declares (room : ℕ) (text inherited₀ synthesized₀ rules₀ : List ℕ) (numbers : Numbers) (i s r next : ℕ) (inherited synthesized rules : List ℕ) : Type 0 where
  pub inherited-at : ℕ
  pub synthesized-at : ℕ
  pub rules_at : ℕ
  pub head_read : Gives (header (rest text 0)) text numbers inherited-at
  pub inherited_read
      : Fills owner_words MAX_INHERITED (owner_lines (word_of "inh") (word_of "i") (rest text inherited-at)) text inherited₀ i synthesized-at inherited
  pub synthesized_read
      : Fills owner_words MAX_SYNTHESIZED (owner_lines (word_of "syn") (word_of "s") (rest text synthesized-at)) text synthesized₀ s rules_at synthesized
  pub rules_read : Fills rule_words room (rule_lines (rest text rules_at)) text rules₀ r next rules
