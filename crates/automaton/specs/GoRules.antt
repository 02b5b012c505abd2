-- The go rules (8) from their two halves, over the table of the listed items.
-- Assumes nothing.
use Prim.Native.Nat.{ℕ, zero, suc, ◌<◌, ◌≤◌}
use Rattle.std.proofs.Common.{arith, ap, ◌∙◌}
use Rattle.std.specs.Prelude.{◌≡◌, Bool, true, false, ◌&&◌}
use Rattle.std.proofs.Math.Path.{refl, sym}
use mathlib.Core.List.Memᴰ.{head as in_head}
use mathlib.Core.List.Memᴰ.{tail as in_Tail}
use mathlib.Core.List.{List, [], ◌∷◌, Memᴰ as Mem}
use Rattle.grammar.specs.Data.Book.{Book, Kernel, Go}
use Rattle.grammar.specs.Conditions.Meaning.{Declared}
use Rattle.grammar.specs.Automaton.FirstSets.{Sets}
use Rattle.grammar.specs.Automaton.ClosureSets.{kernels_in}
use Rattle.grammar.specs.Automaton.CoreItems.{Core, core_items}
use Rattle.grammar.specs.Automaton.StatesCheck.{all_advance, states_advance, all_come, some_kernel, go_lines, go_rules}
use Rattle.grammar.specs.Automaton.Compiled.{items_table, items_at}
use Rattle.grammar.specs.Automaton.CompiledTables.{items_table-at}

both : {s t u v : Bool} → s ≡ t → u ≡ v → ◌≡◌ {A = Bool} (elim s [ true ↦ u | false ↦ false ]) (elim t [ true ↦ v | false ↦ false ])
both {t = true} e f = rw (e, f)
both {t = false} e f = rw e

-- the tests look at the items of the book's states only
module _ (b : Book) (items others : ℕ → List Core) (same : (S : ℕ) → S < b.states → items S ≡ others S) where
  same-states : (n : ℕ) → n ≤ b.states → states_advance b items n ≡ states_advance b others n
  unfolding states_advance
  same-states zero l = refl
  same-states (suc n) l = both (ap (all_advance b n) (same n (omega arith))) (same-states n (omega arith))

  same_lines : (gs : List Go) → ((g : Go) → Mem g gs → g.state < b.states) → go_lines b items gs ≡ go_lines b others gs
  unfolding go_lines
  same_lines [] d = refl
  same_lines (g ∷ gs) d =
      let ks : List Kernel = kernels_in b.kernels g.target in
      both (ap (λ (cs : List Core). some_kernel ks && all_come b.rules g.symbol cs ks) (same g.state (d g (in_head refl))))
      (same_lines gs (λ h m. d h (in_Tail m)))

module _ {b : Book} (d : Declared b) (F : Sets) where
  listed : go_rules b (core_items b F) ≡ go_rules b (items_at b (items_table b F))
  unfolding go_rules
  listed =
      let same : (S : ℕ) → S < b.states → core_items b F S ≡ items_at b (items_table b F) S = λ S l. sym (items_table-at b F S l) in
      rw (
        same-states b (core_items b F) (items_at b (items_table b F)) same b.states (omega arith),
        same_lines b (core_items b F) (items_at b (items_table b F)) same b.goes (λ g m. (d.goes_declared g m).state_there),
      )

  -- a state does not advance
  pub go-fail : {states : ℕ} → states ≡ b.states → false ≡ states_advance b (core_items b F) states → false ≡ go_rules b (items_at b (items_table b F))
  unfolding go_rules
  go-fail e q = sym (rw (sym (rw e at q))) ∙ listed

  -- all states do
  pub go-rest : {states : ℕ} → states ≡ b.states → true ≡ states_advance b (core_items b F) states → {r : Bool}
      → r ≡ go_lines b (core_items b F) b.goes → r ≡ go_rules b (items_at b (items_table b F))
  unfolding go_rules
  go-rest e q p = p ∙ sym (rw (sym (rw e at q))) ∙ listed
