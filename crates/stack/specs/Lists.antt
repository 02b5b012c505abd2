-- The attributes of each nonterminal as lists, five words for each: how many they are, and their numbers in order. A row's values are read by them
-- (`owned` of `Evaluator/Rows` of the grammar). Assumes nothing.
use Rattle.std.specs.Prelude.{ℕ, zero, suc, ◌+◌, ◌*◌, ◌≤◌, ◌<◌, ◌≡◌, refl, Bool, true, false, List, [], ◌∷◌, ◌++◌, map, eqb, length, set, take, drop, replicate}
use Rattle.std.proofs.Math.Path.{sym, ap}
use Rattle.std.proofs.Common.{◌∙◌, append-nil, add-one, arith, length-append, length-set, get_or-set_same, get_or-set_other, get_or-take, ext_get_or}
use Rattle.std.proofs.Math.Decide.{ℕ_discrete, dec_lt}
use Rattle.std.proofs.Math.ListN.{get_or, length-map, length-drop, get_or-append}
use Rattle.std.proofs.lemmas.List.{length-replicate, get_or-replicate}
use Rattle.std.proofs.Math.Seq.{get_or-append_seam, get_or-drop, length-take-le}
use borrow.Author.Tests.{eq-eqb, ne_eqb}
use Rattle.grammar.specs.Limits.{MAX_SYNTHESIZED, MAX_OWNED}
use Rattle.grammar.specs.Data.Book.{owner_at}
use Rattle.grammar.specs.Conditions.Decides.{count}
use Rattle.grammar.specs.Evaluator.Decorated.{Values}
use Rattle.grammar.specs.Evaluator.Rows.{owned_below, owned}
use Rattle.book.specs.Layout.{write_at}
use Rattle.book.specs.LayoutLaws.{Writing, writing-turn, writing-done}
use Rattle.book.specs.Held.{OwnersIn}

-- the numbers below n of the attributes that A owns
abbrev pub numbers_below : List ℕ → ℕ → ℕ → List ℕ
numbers_below owners n A = owned_below owners n A (λ K. K)

-- the lists of the attributes below n
pub record ListsBelow (owners : List ℕ) (n : ℕ) (lists : List ℕ) : Type 0 where
  pub long : length lists ≡ 160
  pub count_is : (A : ℕ) → A < 32 → get_or lists (5 * A) 0 ≡ length (numbers_below owners n A)
  pub number_is : (A j : ℕ) → A < 32 → j < length (numbers_below owners n A) → get_or lists (5 * A + 1 + j) 0 ≡ get_or (numbers_below owners n A) j 0

-- the lists of all attributes; none is longer than a row has words
pub record ListsIn (owners : List ℕ) (lists : List ℕ) : Type 0 where
  pub all : ListsBelow owners (length owners) lists
  pub short : (A : ℕ) → A < 32 → get_or lists (5 * A) 0 ≤ MAX_OWNED

-- owners in an array, each a nonterminal and none of more than a row has words for
pub record Listable (room : ℕ) (owners array : List ℕ) (n : ℕ) : Type 0 where
  pub owners_in : OwnersIn room owners array
  pub counted : length owners ≡ n
  pub small : n ≤ MAX_SYNTHESIZED
  pub low : (K : ℕ) → K < n → owner_at owners K < 32
  pub few : (A : ℕ) → count A owners ≤ MAX_OWNED

-- the numbers in the list of A
unfoldable pub list_at : List ℕ → ℕ → List ℕ
list_at lists A = take (get_or lists (5 * A) 0) (drop (5 * A + 1) lists)

-- the words that they name, from a place on
unfoldable pub gathered : List ℕ → ℕ → List ℕ → ℕ → List ℕ
gathered lists A source from = map (λ K. get_or source (from + K) 0) (list_at lists A)

-- the list of A is within the array and names words of the source from a place on
pub record Gathers (lists : List ℕ) (A : ℕ) (source : List ℕ) (from : ℕ) : Type 0 where
  pub there : 5 * A + 5 ≤ length lists
  pub short : get_or lists (5 * A) 0 ≤ MAX_OWNED
  pub low : (j : ℕ) → j < get_or lists (5 * A) 0 → from + get_or lists (5 * A + 1 + j) 0 < length source

-- opens every definition of this module
unfoldable pub opens : Unit {0}
unfolding list_at gathered
opens = tt

-- ---- one attribute more

module _ (owners : List ℕ) (A : ℕ) where
  numbers-is : (n : ℕ) → owner_at owners n ≡ A → numbers_below owners (n + 1) A ≡ numbers_below owners n A ++ (n ∷ [])
  unfolding owned_below
  numbers-is n e = rw (add-one n, eq-eqb (owner_at owners n) A e, owned_below)

  numbers-not : (n : ℕ) → (owner_at owners n ≡ A → ⊥) → numbers_below owners (n + 1) A ≡ numbers_below owners n A
  unfolding owned_below
  numbers-not n h = rw (add-one n, ne_eqb (owner_at owners n) A h, owned_below) (append-nil (owned_below owners n A (λ K. K)))

pub lists-none : {owners lists : List ℕ} → lists ≡ replicate 160 0 → ListsBelow owners 0 lists
unfolding owned_below
lists-none e = record {
  long = ap (length {A = ℕ}) e ∙ length-replicate {A = ℕ} 160 0;
  count_is = λ A l. ap (λ (s : List ℕ). get_or s (5 * A) 0) e ∙ get_or-replicate {A = ℕ} 160 (5 * A) 0 0 (omega arith);
  number_is = λ A j l m. absurd (omega arith);
}

-- the number n goes behind those of its owner
abbrev pub listed : List ℕ → ℕ → ℕ → List ℕ
listed lists A n = set (set lists (5 * A + 1 + get_or lists (5 * A) 0) n) (5 * A) (get_or lists (5 * A) 0 + 1)

module _ {owners lists : List ℕ} {n : ℕ} (L : ListsBelow owners n lists) (few : (B : ℕ) → length (numbers_below owners n B) ≤ MAX_OWNED)
    (A : ℕ) (e : owner_at owners n ≡ A) (h : A < 32) (room : length (numbers_below owners n A) < MAX_OWNED) where
  abbrev place : ℕ
  place = 5 * A + 1 + get_or lists (5 * A) 0

  abbrev stored : List ℕ
  stored = set lists place n

  stored-long : length stored ≡ 160
  stored-long = length-set lists place n ∙ L.long

  -- words of other lists, and those of A's list before the new one, are as they were
  kept : (i : ℕ) → (i ≡ 5 * A → ⊥) → (i ≡ place → ⊥) → get_or (listed lists A n) i 0 ≡ get_or lists i 0
  kept i p q = get_or-set_other stored (5 * A) i (get_or lists (5 * A) 0 + 1) 0 p ∙ get_or-set_other lists place i n 0 q

  more-count : get_or (listed lists A n) (5 * A) 0 ≡ length (numbers_below owners (n + 1) A)
  more-count =
      get_or-set_same stored (5 * A) (get_or lists (5 * A) 0 + 1) 0 (omega (arith, stored-long))
      ∙ rw (numbers-is owners A n e, length-append) (ap (λ (m : ℕ). m + 1) (L.count_is A h))

  more-number : (j : ℕ) → j < length (numbers_below owners (n + 1) A)
      → get_or (listed lists A n) (5 * A + 1 + j) 0 ≡ get_or (numbers_below owners (n + 1) A) j 0
  more-number j l = by (ℕ_discrete j (length (numbers_below owners n A)))
    where
      known : List ℕ
      known = numbers_below owners n A

      by : Dec (j ≡ length known) → get_or (listed lists A n) (5 * A + 1 + j) 0 ≡ get_or (numbers_below owners (n + 1) A) j 0
      by (yes p) =
          let i : 5 * A + 1 + j ≡ place = omega (arith, L.count_is A h) in
          rw (i, numbers-is owners A n e, p)
          (get_or-set_other stored (5 * A) place (get_or lists (5 * A) 0 + 1) 0 (λ z. omega arith)
          ∙ get_or-set_same lists place n 0 (omega (arith, L.long, L.count_is A h)) ∙ sym (get_or-append_seam known n [] 0))
      by (no q) =
          let m : j < length known = omega (arith, ap (length {A = ℕ}) (numbers-is owners A n e), length-append known (n ∷ [])) in
          rw (numbers-is owners A n e)
          (kept (5 * A + 1 + j) (λ z. omega arith) (λ z. omega (arith, L.count_is A h)) ∙ L.number_is A j h m
          ∙ sym (get_or-append known (n ∷ []) 0 j m))

  pub lists-more : ListsBelow owners (n + 1) (listed lists A n)
  lists-more = record {
    long = length-set stored (5 * A) (get_or lists (5 * A) 0 + 1) ∙ stored-long;
    count_is = λ B l. count_by B l (ℕ_discrete B A);
    number_is = λ B j l. number_by B j l (ℕ_discrete B A);
  }
    where
      -- where A's list and B's meet, they are one
      other : (B : ℕ) → (B ≡ A → ⊥) → numbers_below owners (n + 1) B ≡ numbers_below owners n B
      other B q = numbers-not owners B n (λ z. q (sym z ∙ e))

      count_by : (B : ℕ) → B < 32 → Dec (B ≡ A) → get_or (listed lists A n) (5 * B) 0 ≡ length (numbers_below owners (n + 1) B)
      count_by B l (yes p) = rw p more-count
      count_by B l (no q) =
          rw (other B q) (kept (5 * B) (λ z. q (omega arith)) (λ z. q (omega (arith, L.count_is A h))) ∙ L.count_is B l)

      number_by : (B j : ℕ) → B < 32 → Dec (B ≡ A) → j < length (numbers_below owners (n + 1) B)
          → get_or (listed lists A n) (5 * B + 1 + j) 0 ≡ get_or (numbers_below owners (n + 1) B) j 0
      number_by B j l (yes p) m = rw p (more-number j (rw p at m))
      number_by B j l (no q) m =
          let m' : j < length (numbers_below owners n B) = rw (other B q) at m in
          rw (other B q)
          (kept (5 * B + 1 + j) (λ z. q (omega (arith, few B))) (λ z. q (omega (arith, few B, L.count_is A h))) ∙ L.number_is B j l m')

-- ---- how many they are

-- the numbers of a longer list of owners: the first, and those of the rest, each one more
numbers-length : (o : ℕ) (owners : List ℕ) (n A : ℕ) (f : Values)
    → length (owned_below (o ∷ owners) (suc n) A f) ≡ length (owned_below owners n A (λ K. f (suc K))) + length (owned_below (o ∷ owners) 1 A f)
unfolding owned_below
numbers-length o owners zero A f = omega arith
numbers-length o owners (suc n) A f =
    let ih = numbers-length o owners n A f in
    rw (length-append (owned_below (o ∷ owners) (suc n) A f) _, length-append (owned_below owners n A (λ K. f (suc K))) _) (omega arith)

-- no more than the owners that are counted
pub numbers-few : (owners : List ℕ) (n A : ℕ) (f : Values) → n ≤ length owners → length (owned_below owners n A f) ≤ count A owners
unfolding owned_below count
numbers-few owners zero A f h = omega arith
numbers-few [] (suc n) A f h = absurd (omega arith)
numbers-few (o ∷ owners) (suc n) A f h =
    let ih : length (owned_below owners n A (λ K. f (suc K))) ≤ count A owners = numbers-few owners n A (λ K. f (suc K)) (omega arith) in
    let s = numbers-length o owners n A f in
    by (eqb o A) ih s
  where
    by : (t : Bool) → length (owned_below owners n A (λ K. f (suc K))) ≤ count A owners
        → length (owned_below (o ∷ owners) (suc n) A f)
        ≡ length (owned_below owners n A (λ K. f (suc K))) + length {A = ℕ} (elim t [ true ↦ f 0 ∷ [] | false ↦ [] ])
        → length (owned_below (o ∷ owners) (suc n) A f) ≤ elim t [ true ↦ suc (count A owners) | false ↦ count A owners ]
    by true ih s = omega arith
    by false ih s = omega arith

-- more below a greater number
numbers-grow : (owners : List ℕ) (A m n : ℕ) → m ≤ n → length (numbers_below owners m A) ≤ length (numbers_below owners n A)
unfolding owned_below
numbers-grow owners A m zero h =
    let e : m ≡ 0 = omega arith in
    rw e (omega arith)
numbers-grow owners A m (suc n) h = by (ℕ_discrete m (suc n)) (numbers-grow owners A m n)
  where
    by : Dec (m ≡ suc n) → (m ≤ n → length (numbers_below owners m A) ≤ length (numbers_below owners n A))
        → length (numbers_below owners m A) ≤ length (numbers_below owners (suc n) A)
    by (yes e) ih = rw e (omega arith)
    by (no d) ih = omega (arith, ih (omega arith), length-append (numbers_below owners n A) (elim (eqb (owner_at owners n) A) [ true ↦ n ∷ [] | false ↦ [] ]))

-- n numbers of A that ascend are among those
pub ascending-few : (owners : List ℕ) (A : ℕ) (number : ℕ → ℕ) (n m : ℕ) → ((i : ℕ) → i < n → (number i < m) × (owner_at owners (number i) ≡ A))
    → ((i j : ℕ) → i < j → j < n → number i < number j) → n ≤ length (numbers_below owners m A)
ascending-few owners A number zero m owns ascend = omega arith
ascending-few owners A number (suc n) m owns ascend =
    let (low, own) = owns n (omega arith) in
    let below : n ≤ length (numbers_below owners (number n) A) =
    ascending-few owners A number n (number n) (λ i l. (ascend i n l (omega arith), (owns i (omega arith)).1)) (λ i j l h. ascend i j l (omega arith)) in
    omega (
      arith,
      below,
      ap (length {A = ℕ}) (numbers-is owners A (number n) own),
      length-append (numbers_below owners (number n) A) (number n ∷ []),
      numbers-grow owners A (number n + 1) m (omega arith),
    )

-- ---- the values of a row

owned-map : (owners : List ℕ) (n A : ℕ) (f : Values) → owned_below owners n A f ≡ map f (numbers_below owners n A)
unfolding owned_below
owned-map owners zero A f = refl
owned-map owners (suc n) A f = by (eqb (owner_at owners n) A) (owned-map owners n A f)
  where
    snoc : (xs : List ℕ) → map f (xs ++ (n ∷ [])) ≡ map f xs ++ (f n ∷ [])
    snoc [] = refl
    snoc (x ∷ xs) = ap (λ (l : List ℕ). f x ∷ l) (snoc xs)

    by : (t : Bool) → owned_below owners n A f ≡ map f (numbers_below owners n A)
        → owned_below owners n A f ++ elim t [ true ↦ f n ∷ [] | false ↦ [] ]
        ≡ map f (numbers_below owners n A ++ elim t [ true ↦ n ∷ [] | false ↦ [] ])
    by true ih = ap (λ (l : List ℕ). l ++ (f n ∷ [])) ih ∙ sym (snoc (numbers_below owners n A))
    by false ih = rw (append-nil (owned_below owners n A f), append-nil (numbers_below owners n A)) ih

numbers-low : (owners : List ℕ) (n A j : ℕ) → j < length (numbers_below owners n A) → get_or (numbers_below owners n A) j 0 < n
unfolding owned_below
numbers-low owners zero A j l = absurd (omega arith)
numbers-low owners (suc n) A j l = by (eqb (owner_at owners n) A) l (numbers-low owners n A j)
  where
    known : List ℕ
    known = numbers_below owners n A

    before : (rest : List ℕ) → j < length known → get_or known j 0 < n → get_or (known ++ rest) j 0 < suc n
    before rest m low = rw (get_or-append known rest 0 j m) (omega arith)

    last : j < length (known ++ (n ∷ [])) → (j < length known → ⊥) → get_or (known ++ (n ∷ [])) j 0 < suc n
    last m q =
        let e : j ≡ length known = omega (arith, length-append known (n ∷ [])) in
        rw (e, get_or-append_seam known n [] 0) (omega arith)

    by : (t : Bool) → j < length (known ++ elim t [ true ↦ n ∷ [] | false ↦ [] ]) → (j < length known → get_or known j 0 < n)
        → get_or (known ++ elim t [ true ↦ n ∷ [] | false ↦ [] ]) j 0 < suc n
    by true m ih = of (dec_lt j (length known))
      where
        of : Dec (j < length known) → get_or (known ++ (n ∷ [])) j 0 < suc n
        of (yes p) = before (n ∷ []) p (ih p)
        of (no q) = last m q
    by false m ih =
        let m' : j < length known = rw (append-nil known) at m in
        before [] m' (ih m')

get_or-map : (f : ℕ → ℕ) (l : List ℕ) (j : ℕ) → j < length l → get_or (map f l) j 0 ≡ f (get_or l j 0)
get_or-map f [] j h = absurd (omega arith)
get_or-map f (x ∷ l) zero h = refl
get_or-map f (x ∷ l) (suc j) h = get_or-map f l j (omega arith)

-- word j of what is gathered
module _ {lists : List ℕ} {A : ℕ} {source : List ℕ} {from : ℕ} (G : Gathers lists A source from) where
  list_length : length (list_at lists A) ≡ get_or lists (5 * A) 0
  unfolding list_at
  list_length = length-take-le (get_or lists (5 * A) 0) (drop (5 * A + 1) lists) (omega (arith, length-drop (5 * A + 1) lists, G.there, G.short))

  pub gathered-length : length (gathered lists A source from) ≡ get_or lists (5 * A) 0
  unfolding gathered
  gathered-length = length-map (list_at lists A) (λ K. get_or source (from + K) 0) ∙ list_length

  pub gathered-word : (j : ℕ) → j < get_or lists (5 * A) 0 → get_or (gathered lists A source from) j 0 ≡ get_or source (from + get_or lists (5 * A + 1 + j) 0) 0
  unfolding gathered list_at
  gathered-word j l =
      get_or-map (λ K. get_or source (from + K) 0) (list_at lists A) j (omega (arith, list_length))
      ∙ ap (λ K. get_or source (from + K) 0) (get_or-take (get_or lists (5 * A) 0) (drop (5 * A + 1) lists) j 0 l ∙ get_or-drop (5 * A + 1) lists j 0)

  -- a word more is written
  pub gather-turn : {place : ℕ} {old out : List ℕ} {j n number : ℕ} → n ≡ get_or lists (5 * A) 0 → j < n → number ≡ get_or lists (5 * A + 1 + j) 0
      → Writing place (gathered lists A source from) old j out
      → Writing place (gathered lists A source from) old (j + 1) (set out (place + j) (get_or source (from + number) 0))
  gather-turn {place} {old} {out} {j} e l q w =
      rw (q, ← gathered-word j (omega arith)) (writing-turn place (gathered lists A source from) old w (omega (arith, gathered-length)))

  -- all are
  pub gather-end : {place : ℕ} {old out : List ℕ} {j n : ℕ} → n ≡ get_or lists (5 * A) 0 → n ≤ j
      → Writing place (gathered lists A source from) old j out → out ≡ write_at place (gathered lists A source from) old
  gather-end {place} {old} e l w = writing-done place (gathered lists A source from) old w (omega (arith, gathered-length))

module _ {owners lists : List ℕ} (L : ListsIn owners lists) {A : ℕ} (h : A < 32) where
  pub gathers : {source : List ℕ} {from : ℕ} → from + length owners ≤ length source → Gathers lists A source from
  gathers {source} {from} room = record {
    there = omega (arith, L.all.long);
    short = L.short A h;
    low = λ j l.
        let m : j < length (numbers_below owners (length owners) A) = omega (arith, L.all.count_is A h) in
        omega (arith, L.all.number_is A j h m, numbers-low owners (length owners) A j m);
  }

  -- what is gathered is what A owns
  pub gathered-owned : (source : List ℕ) (from : ℕ) → from + length owners ≤ length source
      → gathered lists A source from ≡ owned owners A (λ K. get_or source (from + K) 0)
  unfolding gathered owned list_at
  gathered-owned source from room =
      ap (map (λ K. get_or source (from + K) 0)) numbers ∙ sym (owned-map owners (length owners) A (λ K. get_or source (from + K) 0))
    where
      G : Gathers lists A source from
      G = gathers room

      numbers : list_at lists A ≡ numbers_below owners (length owners) A
      numbers = ext_get_or 0 (list_at lists A) (numbers_below owners (length owners) A) (list_length G ∙ L.all.count_is A h)
          λ j l.
          let m : j < get_or lists (5 * A) 0 = omega (arith, list_length G) in
          get_or-take (get_or lists (5 * A) 0) (drop (5 * A + 1) lists) j 0 m ∙ get_or-drop (5 * A + 1) lists j 0
          ∙ L.all.number_is A j h (omega (arith, L.all.count_is A h))

-- ---- the loop

module _ {room : ℕ} {owners array lists : List ℕ} {n i : ℕ} (O : Listable room owners array n) (L : ListsBelow owners i lists) (h : i < n) where
  pub turn-owner : get_or array i 0 < 32
  turn-owner = omega (arith, O.owners_in.owner_is i (omega (arith, O.counted)), O.low i h)

  turn-room : length (numbers_below owners i (get_or array i 0)) < MAX_OWNED
  turn-room =
      let A : ℕ = get_or array i 0 in
      let e : owner_at owners i ≡ A = sym (O.owners_in.owner_is i (omega (arith, O.counted))) in
      omega (
        arith,
        ap (length {A = ℕ}) (numbers-is owners A i e),
        length-append (numbers_below owners i A) (i ∷ []),
        numbers-few owners (i + 1) A (λ K. K) (omega (arith, O.counted)),
        O.few A,
      )

  -- there is a word for one number more
  pub turn-count : get_or lists (5 * get_or array i 0) 0 < MAX_OWNED
  turn-count = omega (arith, L.count_is (get_or array i 0) turn-owner, turn-room)

  pub turn-listed : ListsBelow owners (i + 1) (listed lists (get_or array i 0) i)
  turn-listed =
      lists-more L (λ B. omega (arith, numbers-few owners i B (λ K. K) (omega (arith, O.counted)), O.few B)) (get_or array i 0)
      (sym (O.owners_in.owner_is i (omega (arith, O.counted)))) turn-owner turn-room

pub lists-done : {room : ℕ} {owners array lists : List ℕ} {n i : ℕ} → Listable room owners array n → ListsBelow owners i lists → i ≡ n → ListsIn owners lists
lists-done {owners = owners} {lists = lists} {i = i} O L e =
    let all : i ≡ length owners = omega (arith, O.counted) in
    record {
      all = rw all at L;
      short = λ A h. omega (arith, L.count_is A h, numbers-few owners i A (λ K. K) (omega arith), O.few A);
    }
