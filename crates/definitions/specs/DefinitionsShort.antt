-- What a line of a definition defines, where its numbers are short: by the bytes.
-- Assumes nothing.
use Rattle.std.specs.Prelude.{ℕ, ◌+◌, ◌-◌, ◌≤◌, ◌≡◌, List, ◌∷◌, length, get_or, drop}
use Rattle.std.proofs.Common.{arith, sym, ap, ◌∙◌}
use Rattle.text.specs.Rest.{rest, left}
use Rattle.text.proofs.RestLaws.{rest_in, drop_more}
use Rattle.text.specs.Numeral.{decimal, write, word_of}
use Rattle.grammar.specs.Format.Reader.{naming}
use Rattle.grammar.specs.Format.ReaderLaws.{reading, word-ends}
use Rattle.book.specs.declared.kind.Kind.TheVariants.{Inherited, Synthesized}
use Rattle.book.specs.Sections.{Gives}
use Rattle.definitions.specs.Ended.{Stands, stands-stop, stands-reads, stands-space}
use Rattle.definitions.specs.Definitions.{defined_by}
use Rattle.definitions.specs.DefinitionsLoop.{inherited-names, synthesized-names}

-- a space, the letter of a name and its number
names-inherited : (K : ℕ) (r : List ℕ) → naming (word_of "i") (left (32 ∷ 105 ∷ write decimal K r)) ≡ left (write decimal K r)
unfolding reading
names-inherited K r = rw (word-ends _ K r)

names-synthesized : (K : ℕ) (r : List ℕ) → naming (word_of "s") (left (32 ∷ 115 ∷ write decimal K r)) ≡ left (write decimal K r)
unfolding reading
names-synthesized K r = rw (word-ends _ K r)

-- a name of that letter after a number and a space
module _ {text : List ℕ} {at P a K b : ℕ} (letter word : ℕ)
    (names : (K : ℕ) (r : List ℕ) → naming word (left (32 ∷ letter ∷ write decimal K r)) ≡ left (write decimal K r)) where
  named : Stands text at P 32 a → get_or text a 0 ≡ letter → Stands text (a + 1) K 32 b → b ≤ length text
      → rest text (a + 1) ≡ naming word (rest text (a - 1))
  named p e k h =
      let here : rest text (a + 1) ≡ left (write decimal K (32 ∷ drop b text)) =
      rest_in text (a + 1) (omega (arith, k.far)) ∙ ap left k.bytes_are in
      here ∙ sym (ap (naming word) (stands-stop p (omega (arith, k.far))
      ∙ ap (λ r. left (32 ∷ r)) (drop_more text a (omega (arith, k.far)) ∙ (ap (λ (x : ℕ). x ∷ drop (a + 1) text) e ∙ ap (λ r. letter ∷ r) k.bytes_are)))
      ∙ names K (32 ∷ drop b text))

module _ {text : List ℕ} {at P a : ℕ} (l : at + 10 ≤ length text) (p : Stands text at P 32 a) where
  pub inherited-short : {J b K c : ℕ} → Stands text a J 32 b → get_or text b 0 ≡ 105 → Stands text (b + 1) K 32 c
      → Gives (defined_by Inherited (rest text at)) text (record { rule = P; position = J; attribute = K }) (c - 1)
  inherited-short {b = b} j e k =
      inherited-names a (b + 1) (stands-reads p (omega (arith, p.near))) (stands-space p (omega (arith, p.near)))
      (stands-reads j (omega (arith, p.near, j.near))) (named 105 (word_of "i") names-inherited j e k (omega (arith, p.near, j.near, k.near)))
      (stands-reads k (omega (arith, p.near, j.near, k.near)))

  pub synthesized-short : {K b : ℕ} → get_or text a 0 ≡ 115 → Stands text (a + 1) K 32 b
      → Gives (defined_by Synthesized (rest text at)) text (record { rule = P; position = 0; attribute = K }) (b - 1)
  synthesized-short e k =
      synthesized-names (a + 1) (stands-reads p (omega (arith, p.near)))
      (named 115 (word_of "s") names-synthesized p e k (omega (arith, p.near, k.near))) (stands-reads k (omega (arith, p.near, k.near)))
