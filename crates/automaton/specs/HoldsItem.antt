-- A kernel line of an item, searched for among the lines of an array.
-- Assumes nothing.
use Rattle.std.specs.Prelude.{ℕ, ◌+◌, ◌*◌, ◌<◌, ◌≤◌, ◌≡◌, refl, Bool, true, false, ◌&&◌, List, eqb, length, get_or}
use Rattle.std.proofs.Common.{arith, ◌∙◌}
use Rattle.std.proofs.Math.Path.{sym, ap}
use Rattle.std.proofs.Math.Seq.{slice, slice_empty}
use Rattle.std.proofs.Math.Bool.{and_assoc}
use Rattle.sets.specs.Sets.{subset}
use Rattle.grammar.specs.Data.Book.{Kernel}
use Rattle.grammar.specs.Automaton.ClosureSets.{set_of}
use Rattle.grammar.specs.Automaton.StatesCheck.{holds_item}
use Rattle.book.specs.Held.{KernelsIn, kernel_at}
use Rattle.automaton.specs.StatesIn.{lines_next}

-- kernel line i is of (P, D) with at least the lookaheads M
unfoldable pub is_item : List ℕ → ℕ → ℕ → ℕ → ℕ → Bool
is_item kernels i P D M = eqb (get_or kernels (5 * i + 1) 0) P && (eqb (get_or kernels (5 * i + 2) 0) D && subset M (get_or kernels (5 * i + 4) 0))

-- by its words, and then by its lookaheads
module _ (kernels : List ℕ) (i P D M : ℕ) where
  abbrev pub named : Bool
  named = eqb (get_or kernels (5 * i + 1) 0) P && eqb (get_or kernels (5 * i + 2) 0) D

  is-named : (named && subset M (get_or kernels (5 * i + 4) 0)) ≡ is_item kernels i P D M
  unfolding is_item
  is-named =
      and_assoc (eqb (get_or kernels (5 * i + 1) 0) P) (eqb (get_or kernels (5 * i + 2) 0) D) (subset M (get_or kernels (5 * i + 4) 0))

  pub other-item : named ≡ false → named ≡ is_item kernels i P D M
  other-item e = e ∙ (rw e at is-named)

  pub same-item : named ≡ true → {t : Bool} → t ≡ subset M (get_or kernels (5 * i + 4) 0) → t ≡ is_item kernels i P D M
  same-item e q = q ∙ (rw e at is-named)

-- ---- a kernel line of an item

-- none of the lines before i is of the item
pub record Searched (kernels : List ℕ) (first last P D M i : ℕ) : Type 0 where
  pub within : i ≤ last
  pub same : (ks : List Kernel) → KernelsIn ks kernels → last ≤ length ks → holds_item P D M (slice i last ks) ≡ holds_item P D M (slice first last ks)

line-tested : {ks : List Kernel} {kernels : List ℕ} → KernelsIn ks kernels → (i P D M : ℕ) → i < length ks
    → is_item kernels i P D M
    ≡ (eqb (kernel_at ks i).rule P && (eqb (kernel_at ks i).dot D && subset M (set_of (kernel_at ks i).lookaheads)))
unfolding is_item
line-tested h i P D M l = rw (h.rule_is i l, h.dot_is i l, h.set_is i l)

-- the next line is of the item, or it is passed over
module _ {ks : List Kernel} {kernels : List ℕ} (h : KernelsIn ks kernels) {i last : ℕ} (l : i < last) (f : last ≤ length ks) where
  line-found : (P D M : ℕ) → is_item kernels i P D M ≡ true → holds_item P D M (slice i last ks) ≡ true
  unfolding holds_item
  line-found P D M e = ap (holds_item P D M) (lines_next ks l f) ∙ rw (sym (line-tested h i P D M (omega arith)) ∙ e, holds_item)

  line-passed : (P D M : ℕ) → is_item kernels i P D M ≡ false → holds_item P D M (slice i last ks) ≡ holds_item P D M (slice (i + 1) last ks)
  unfolding holds_item
  line-passed P D M e = ap (holds_item P D M) (lines_next ks l f) ∙ rw (sym (line-tested h i P D M (omega arith)) ∙ e, holds_item)

pub searched-none : (kernels : List ℕ) (first last P D M : ℕ) → first ≤ last → Searched kernels first last P D M first
searched-none kernels first last P D M l = record { within = l; same = λ ks h f. refl }

module _ {kernels : List ℕ} {first last P D M i : ℕ} (s : Searched kernels first last P D M i) where
  pub searched-more : i < last → is_item kernels i P D M ≡ false → Searched kernels first last P D M (i + 1)
  searched-more l e = record { within = omega arith; same = λ ks h f. sym (line-passed h l f P D M e) ∙ s.same ks h f }

  pub searched-found : i < last → is_item kernels i P D M ≡ true
      → (ks : List Kernel) → KernelsIn ks kernels → last ≤ length ks → true ≡ holds_item P D M (slice first last ks)
  searched-found l e ks h f = sym (line-found h l f P D M e) ∙ s.same ks h f

  pub searched-all : last ≤ i → (ks : List Kernel) → KernelsIn ks kernels → last ≤ length ks → false ≡ holds_item P D M (slice first last ks)
  unfolding holds_item
  searched-all l ks h f =
      let e : i ≡ last = omega (arith, s.within) in
      sym (rw (e, slice_empty last ks)) ∙ s.same ks h f

-- opens every definition of this module
unfoldable pub opens : Unit {0}
unfolding is_item
opens = tt
