-- From lines that are stored one after another to what the arrays hold (`Held`).
-- Assumes nothing.
use Prim.Native.Nat.{ℕ, zero, suc, ◌+◌, ◌*◌, ◌-◌, ◌≤◌, ◌<◌, min}
use Rattle.std.specs.Prelude.{◌≡◌, Bool, true, false, ltb, set, get_or, take}
use Rattle.std.proofs.Math.Path.{refl}
use Rattle.std.proofs.Common.{sym, ap, ◌∙◌, mul_comm, length-set, get_or-set_same, get_or-set_other, get_or-take, take_all, ltb-true, ltb-false}
use mathlib.Core.List.Memᴰ.{head as in_head}
use mathlib.Core.List.Memᴰ.{tail as in_Tail}
use mathlib.Core.List.{List, [], ◌∷◌, map, Memᴰ as Mem}
use native.Mathlib.Omega.{arith}
use Rattle.std.proofs.Math.Nat.{mul-suc}
use Rattle.std.proofs.Math.ListN.{length, length-take}
use Rattle.text.proofs.Positional.{by_less}
use Rattle.grammar.specs.Limits.{
  MAX_INHERITED,
  MAX_SYNTHESIZED,
  MAX_RULES,
  MAX_DEFINITIONS,
  MAX_KERNELS,
  MAX_GOES,
}
use Rattle.grammar.specs.Data.Symbol.{Symbol, terminal, Rule, rule_at, right_of}
use Rattle.grammar.specs.Data.Term.{add, sub, min as least, max as greatest}
use Rattle.grammar.specs.Data.Postfix.{Step, push, load, operate, select, postfix, length-postfix}
use Rattle.grammar.specs.Data.Book.{Place, own, at, val, Expr, InheritedDefinition, SynthesizedDefinition, Kernel, Go, Book}
use Rattle.grammar.specs.Conditions.Meaning.{WithinLimits}
use Rattle.book.specs.Layout.{
  write_at,
  put_line,
  store_lines,
  symbol_code,
  codes,
  owner_words,
  rule_words,
  kernel_words,
  go_words,
  node_words,
  nodes_words,
  definition_words,
}
use Rattle.book.specs.Held.{
  no_kernel,
  no_go,
  inherited_at,
  synthesized_at,
  node_kind,
  node_first,
  node_second,
  inherited_words,
  synthesized_words,
  OwnersIn,
  RulesIn,
  NodeIn,
  DefinitionIn,
  DefinitionsIn,
  KernelsIn,
  GoesIn,
  Held,
  HasRoom,
  kept,
}
use Rattle.book.specs.declared.Room.{Room}
use Rattle.book.specs.Counts.{counts_of}
use Rattle.book.specs.Spelling.{Arrays, Roomy, stored_in, Complete}
use Rattle.book.specs.LayoutLaws.{length-put, length-store, put_in, put-out, room_for}

-- a word before the place is kept
write-before : (place : ℕ) (ws out : List ℕ) (w : ℕ) → w < place → get_or (write_at place ws out) w 0 ≡ get_or out w 0
unfolding write_at
write-before place [] out w h = refl
write-before place (x ∷ ws) out w h =
    write-before (suc place) ws (set out place x) w (omega arith) ∙ get_or-set_other out place w x 0 (λ e. omega arith)

write-at : (place : ℕ) (ws out : List ℕ) (j : ℕ) → place + length ws ≤ length out → j < length ws → get_or (write_at place ws out) (place + j) 0 ≡ get_or ws j 0
unfolding write_at
write-at place [] out j h l = absurd (omega arith)
write-at place (x ∷ ws) out zero h l =
    let e : place + 0 ≡ place = omega arith in
    rw e (write-before (suc place) ws (set out place x) place (omega arith) ∙ get_or-set_same out place x 0 (omega arith))
write-at place (x ∷ ws) out (suc j) h l =
    let e : place + suc j ≡ suc place + j = omega arith in
    rw e (write-at (suc place) ws (set out place x) j (simp length-set (omega arith)) (omega arith))

module _ {A : Type 0} (words : A → List ℕ) (stride room : ℕ) (each : (x : A) → length (words x) ≡ stride) where
  place : (k : ℕ) (x : A) → k * length (words x) ≡ stride * k
  place k x = ap (λ (n : ℕ). k * n) (each x) ∙ mul_comm k stride

  put-before : (k : ℕ) (x : A) (out : List ℕ) (w : ℕ) → w < stride * k → get_or (put_line room k (words x) out) w 0 ≡ get_or out w 0
  put-before k x out w h = go (ltb k room) refl
    where
      go : (t : Bool) → ltb k room ≡ t → get_or (put_line room k (words x) out) w 0 ≡ get_or out w 0
      go true q = rw (put_in room k (words x) out (ltb-true k room q)) (write-before (k * length (words x)) (words x) out w (omega (arith, place k x)))
      go false q = rw (put-out room k (words x) out (ltb-false k room q))

  put-at : (k : ℕ) (x : A) (out : List ℕ) (j : ℕ) → stride * room ≤ length out → k < room → j < stride
      → get_or (put_line room k (words x) out) (stride * k + j) 0 ≡ get_or (words x) j 0
  put-at k x out j h l m =
      let fits : k * length (words x) + length (words x) ≤ length out =
      room_for (length (words x)) l (omega (arith, h, mul_comm room stride, ap (λ (n : ℕ). room * n) (each x))) in
      rw (put_in room k (words x) out l, ← place k x) (write-at (k * length (words x)) (words x) out j fits (omega (arith, each x)))

  -- words of earlier lines are kept
  pub store-before : (k : ℕ) (xs : List A) (out : List ℕ) (w : ℕ) → w < stride * k → get_or (store_lines words room k xs out) w 0 ≡ get_or out w 0
  unfolding store_lines
  store-before k [] out w h = refl
  store-before k (x ∷ xs) out w h =
      store-before (suc k) xs (put_line room k (words x) out) w (omega (arith, mul-suc stride k)) ∙ put-before k x out w h

  -- line i of those that are stored from line k on
  pub store_at : (d : A) (k : ℕ) (xs : List A) (out : List ℕ) (i j : ℕ) → stride * room ≤ length out → i < length xs → k + i < room → j < stride
      → get_or (store_lines words room k xs out) (stride * (k + i) + j) 0 ≡ get_or (words (get_or xs i d)) j 0
  unfolding store_lines
  store_at d k [] out i j h l m n = absurd (omega arith)
  store_at d k (x ∷ xs) out zero j h l m n =
      let e : k + 0 ≡ k = omega arith in
      rw e (store-before (suc k) xs (put_line room k (words x) out) (stride * k + j) (omega (arith, mul-suc stride k)) ∙ put-at k x out j h (omega arith) n)
  store_at d k (x ∷ xs) out (suc i) j h l m n =
      let e : k + suc i ≡ suc k + i = omega arith in
      rw e (store_at d (suc k) xs (put_line room k (words x) out) i j (rw (length-put room k (words x) out) h) (omega arith) (omega arith) n)

  -- a word of a line that has room, where lines are stored from the first on
  pub store_line : (d : A) (xs : List A) (out : List ℕ) → length out ≡ stride * room → (i j w : ℕ) → i < length (take room xs) → j < stride
      → w ≡ stride * i + j → get_or (store_lines words room 0 xs out) w 0 ≡ get_or (words (get_or (take room xs) i d)) j 0
  store_line d xs out h i j w l n e =
      let within : i < min room (length xs) = rw (length-take room xs) at l in
      let first : w ≡ stride * (0 + i) + j = e ∙ ap (λ (k : ℕ). stride * k + j) (omega arith) in
      rw (get_or-take room xs i d (omega arith), first) (store_at d 0 xs out i j (omega arith) (omega arith) (omega arith) n)

-- lines are stored alike if their words are the same
pub store-map : {A B : Type 0} (words : A → List ℕ) (words' : B → List ℕ) (f : A → B) (room k : ℕ) (xs : List A) (out : List ℕ)
    → ((x : A) → Mem x xs → words' (f x) ≡ words x) → store_lines words' room k (map f xs) out ≡ store_lines words room k xs out
unfolding store_lines
store-map words words' f room k [] out h = refl
store-map words words' f room k (x ∷ xs) out h =
    ap (λ (line : List ℕ). store_lines words' room (suc k) (map f xs) (put_line room k line out)) (h x (in_head refl))
    ∙ store-map words words' f room (suc k) xs (put_line room k (words x) out) (λ y m. h y (in_Tail m))

few : {A : Type 0} (room : ℕ) (xs : List A) → length (take room xs) ≤ room
few room xs = rw (length-take room xs) (omega arith)

pub owners_in : (room : ℕ) (owners out : List ℕ) → length out ≡ room → OwnersIn room (take room owners) (store_lines owner_words room 0 owners out)
unfolding owner_words
owners_in room owners out h =
    record {
      long = length-store owner_words room 0 owners out ∙ h;
      fits = few room owners;
      owner_is = λ K l. store_line owner_words 1 room (λ A. refl) 32 owners out (omega arith) K 0 K l (omega arith) (omega arith);
    }

code_at : (β : List Symbol) (D : ℕ) → D < length β → get_or (codes β) D 0 ≡ symbol_code (get_or β D (terminal 0))
unfolding codes
code_at [] D h = absurd (omega arith)
code_at (X ∷ β) zero h = refl
code_at (X ∷ β) (suc D) h = code_at β D (omega arith)

-- the word of right symbol D
right-word : (r : Rule) (D : ℕ) → D < 8 → get_or (rule_words r) (2 + D) 0 ≡ get_or (codes r.right) D 0
unfolding rule_words
right-word r zero h = refl
right-word r (suc zero) h = refl
right-word r (suc (suc zero)) h = refl
right-word r (suc (suc (suc zero))) h = refl
right-word r (suc (suc (suc (suc zero)))) h = refl
right-word r (suc (suc (suc (suc (suc zero))))) h = refl
right-word r (suc (suc (suc (suc (suc (suc zero)))))) h = refl
right-word r (suc (suc (suc (suc (suc (suc (suc zero))))))) h = refl
right-word r (suc (suc (suc (suc (suc (suc (suc (suc D)))))))) h = absurd (omega arith)

pub rules_in : (room : ℕ) (G : List Rule) (out : List ℕ) → room ≤ MAX_RULES → length out ≡ 10 * room
    → RulesIn (take room G) (store_lines rule_words room 0 G out)
unfolding rule_words rule_at
rules_in room G out most h =
    let word = store_line rule_words 10 room (λ r. refl) (record { left = 0; right = [] }) G out h in
    record {
      long = omega (arith, few room G, length-store rule_words room 0 G out, h);
      fits = omega (arith, few room G, most);
      left_is = λ P l. word P 0 (10 * P) l (omega arith) (omega arith);
      size_is = λ P l. word P 1 (10 * P + 1) l (omega arith) (omega arith);
      symbol_is = λ P D l m n. word P (2 + D) (10 * P + 2 + D) l (omega arith) (omega arith)
          ∙ (right-word (rule_at (take room G) P) D n ∙ code_at (right_of (take room G) P) D m);
    }

pub kernels-in : (room : ℕ) (ks : List Kernel) (out : List ℕ) → room ≤ MAX_KERNELS → length out ≡ 5 * room
    → KernelsIn (take room ks) (store_lines kernel_words room 0 ks out)
unfolding kernel_words
kernels-in room ks out most h =
    let word = store_line kernel_words 5 room (λ k. refl) no_kernel ks out h in
    record {
      long = omega (arith, few room ks, length-store kernel_words room 0 ks out, h);
      fits = omega (arith, few room ks, most);
      state_is = λ i l. word i 0 (5 * i) l (omega arith) (omega arith);
      rule_is = λ i l. word i 1 (5 * i + 1) l (omega arith) (omega arith);
      dot_is = λ i l. word i 2 (5 * i + 2) l (omega arith) (omega arith);
      last_is = λ i l. word i 3 (5 * i + 3) l (omega arith) (omega arith);
      set_is = λ i l. word i 4 (5 * i + 4) l (omega arith) (omega arith);
    }

pub goes_in : (room : ℕ) (gs : List Go) (out : List ℕ) → room ≤ MAX_GOES → length out ≡ 3 * room
    → GoesIn (take room gs) (store_lines go_words room 0 gs out)
unfolding go_words
goes_in room gs out most h =
    let word = store_line go_words 3 room (λ g. refl) no_go gs out h in
    record {
      long = omega (arith, few room gs, length-store go_words room 0 gs out, h);
      fits = omega (arith, few room gs, most);
      state_is = λ i l. word i 0 (3 * i) l (omega arith) (omega arith);
      symbol_is = λ i l. word i 1 (3 * i + 1) l (omega arith) (omega arith);
      target_is = λ i l. word i 2 (3 * i + 2) l (omega arith) (omega arith);
    }

node-words : (s : Step Place) (rest : List ℕ) → node_words s rest ≡ node_kind s ∷ node_first s ∷ node_second s ∷ rest
unfolding node_words node_kind node_first node_second
node-words (push n) rest = refl
node-words (load (own K)) rest = refl
node-words (load (at J K)) rest = refl
node-words (load (val J)) rest = refl
node-words (operate add) rest = refl
node-words (operate sub) rest = refl
node-words (operate least) rest = refl
node-words (operate greatest) rest = refl
node-words select rest = refl

-- a node stands wherever the same three words stand
node-same : {s : Step Place} {xs ys : List ℕ} {p q : ℕ} → ((j : ℕ) → j < 3 → get_or ys (q + j) 0 ≡ get_or xs (p + j) 0) → NodeIn s xs p → NodeIn s ys q
node-same {s} {xs} {ys} {p} {q} f h =
    let a : p + 0 ≡ p = omega arith in
    let b : q + 0 ≡ q = omega arith in
    let first : get_or ys q 0 ≡ get_or xs p 0 = rw (a, b) at (f 0 (omega arith)) in
    record { kind_is = first ∙ h.kind_is; first_is = f 1 (omega arith) ∙ h.first_is; second_is = f 2 (omega arith) ∙ h.second_is }

-- the three words of node n
node-word : (room : ℕ) (steps : List (Step Place)) (n : ℕ) → n < room → n < length steps
    → NodeIn (get_or steps n select) (nodes_words room steps) (3 * n)
unfolding nodes_words
node-word zero steps n h l = absurd (omega arith)
node-word (suc room) [] n h l = absurd (omega arith)
node-word (suc room) (s ∷ steps) zero h l = rw (node-words s (nodes_words room steps)) (record { kind_is = refl; first_is = refl; second_is = refl })
node-word (suc room) (s ∷ steps) (suc n) h l =
    rw (node-words s (nodes_words room steps)) (node-same further (node-word room steps n (omega arith) (omega arith)))
  where
    further : (j : ℕ) → j < 3 → get_or (node_kind s ∷ node_first s ∷ node_second s ∷ nodes_words room steps) (3 * suc n + j) 0
        ≡ get_or (nodes_words room steps) (3 * n + j) 0
    further j m = let e : 3 * suc n + j ≡ suc (suc (suc (3 * n + j))) = omega arith in rw e

length-nodes : (room : ℕ) (steps : List (Step Place)) → length (nodes_words room steps) ≡ 3 * room
unfolding nodes_words
length-nodes zero steps = refl
length-nodes (suc room) [] = omega (arith, length-nodes room [])
length-nodes (suc room) (s ∷ steps) = rw (node-words s (nodes_words room steps)) (omega (arith, length-nodes room steps))

length-definition : (P J K : ℕ) (steps : List (Step Place)) → length (definition_words P J K steps) ≡ 49
unfolding definition_words
length-definition P J K steps = omega (arith, length-nodes 15 steps)

-- a definition stands where its words stand
definition-in : {definitions : List ℕ} {i P J K : ℕ} {e : Expr}
    → ((j w : ℕ) → j < 49 → w ≡ 49 * i + j → get_or definitions w 0 ≡ get_or (definition_words P J K (postfix e)) j 0) → DefinitionIn P J K e definitions i
unfolding definition_words
definition-in {definitions} {i} {P} {J} {K} {e} f =
    record {
      rule_is = f 0 (49 * i) (omega arith) (omega arith);
      position_is = f 1 (49 * i + 1) (omega arith) (omega arith);
      attribute_is = f 2 (49 * i + 2) (omega arith) (omega arith);
      nodes_is = f 3 (49 * i + 3) (omega arith) (omega arith) ∙ length-postfix e;
      node_is = λ n h l. node-same (further n l) (node-word 15 (postfix e) n l (rw (length-postfix e) h));
    }
  where
    further : (n : ℕ) → n < 15 → (j : ℕ) → j < 3 → get_or definitions (49 * i + 4 + 3 * n + j) 0 ≡ get_or (nodes_words 15 (postfix e)) (3 * n + j) 0
    further n l j m = let q : 4 + (3 * n + j) ≡ suc (suc (suc (suc (3 * n + j)))) = omega arith in
        rw q at (f (4 + (3 * n + j)) (49 * i + 4 + 3 * n + j) (omega arith) (omega arith))

-- the synthesized attributes' definitions are stored after the inherited ones'
module _ (room : ℕ) (most : room ≤ MAX_DEFINITIONS) (inherited : List InheritedDefinition) (synthesized : List SynthesizedDefinition) (out : List ℕ)
    (h : length out ≡ 49 * room) where
  inherited_lines : List ℕ
  inherited_lines = store_lines inherited_words room 0 inherited out

  definition_lines : List ℕ
  definition_lines = store_lines synthesized_words room (length inherited) synthesized inherited_lines

  long : length inherited_lines ≡ 49 * room
  unfolding inherited_lines
  long = length-store inherited_words room 0 inherited out ∙ h

  inherited-line : (i : ℕ) → i < length (take room inherited)
      → let d : InheritedDefinition = inherited_at (take room inherited) i in
      DefinitionIn d.rule d.position d.attribute d.expression definition_lines i
  unfolding inherited_lines definition_lines
  inherited-line i l =
      let within : i < min room (length inherited) = rw (length-take room inherited) at l in
      definition-in λ j w m e.
      store-before synthesized_words 49 room (λ d. length-definition _ _ _ _) (length inherited) synthesized inherited_lines w (omega arith)
      ∙ store_line inherited_words 49 room (λ d. length-definition _ _ _ _) _ inherited out h i j w l m e

  synthesized-line : (i : ℕ) → i < length (take (room - length inherited) synthesized)
      → let d : SynthesizedDefinition = synthesized_at (take (room - length inherited) synthesized) i in
      DefinitionIn d.rule 0 d.attribute d.expression definition_lines (length (take room inherited) + i)
  unfolding definition_lines
  synthesized-line i l =
      let within : i < min (room - length inherited) (length synthesized) = rw (length-take (room - length inherited) synthesized) at l in
      let before : length (take room inherited) ≡ length inherited = length-take room inherited ∙ omega arith in
      rw (get_or-take (room - length inherited) synthesized i _ (omega arith)) (definition-in λ j w m e.
      let q : w ≡ 49 * (length inherited + i) + j = omega arith in
      rw q (store_at synthesized_words 49 room (λ d. length-definition _ _ _ _) _ (length inherited) synthesized inherited_lines i j
      (omega (arith, long))
      (omega arith) (omega arith) m))

  pub definitions_in : DefinitionsIn (take room inherited) (take (room - length inherited) synthesized)
      (store_lines synthesized_words room (length inherited) synthesized (store_lines inherited_words room 0 inherited out))
  unfolding definition_lines inherited_lines
  definitions_in =
      record {
        long = rw (length-take room inherited, length-take (room - length inherited) synthesized)
            (omega (arith, length-store synthesized_words room (length inherited) synthesized inherited_lines, long));
        fits = rw (length-take room inherited, length-take (room - length inherited) synthesized) (omega (arith, most));
        inherited_is = inherited-line;
        synthesized_is = synthesized-line;
      }

-- what has room is what is kept, where nothing was left out or there is room for all that a limit allows
kept_same : {A : Type 0} (room limit : ℕ) (xs : List A) → room ≤ limit → (room < limit → length xs ≤ room) → take room xs ≡ take limit xs
kept_same room limit xs most fit =
    by_less room limit (λ less. take_all room xs (fit less) ∙ sym (take_all limit xs (omega (arith, fit less))))
    (λ equal. let e : room ≡ limit = omega arith in rw e)

-- what is kept of a book is held by arrays in which its lines are stored
module _ (room : Room) (b : Book) (complete : Complete room (counts_of b)) where
  definitions-same : room.definitions ≤ MAX_DEFINITIONS
      → (take room.definitions b.inherited_definitions ≡ take MAX_DEFINITIONS b.inherited_definitions)
      × (take (room.definitions - length b.inherited_definitions) b.synthesized_definitions
      ≡ take (MAX_DEFINITIONS - length b.inherited_definitions) b.synthesized_definitions)
  unfolding counts_of
  definitions-same most = (
    kept_same room.definitions MAX_DEFINITIONS b.inherited_definitions most (λ less. omega (arith, complete.definitions-fit less)),
    kept_same (room.definitions - length b.inherited_definitions) (MAX_DEFINITIONS - length b.inherited_definitions) b.synthesized_definitions
        (omega arith) (λ less. omega (arith, complete.definitions-fit (omega arith))),
  )

  pub held : (a : Arrays) → Roomy room a
      → let s : Arrays = stored_in room a b in Held (kept b) s.inherited s.synthesized s.rules s.definitions s.kernels s.goes
  unfolding kept stored_in counts_of
  held a r =
      record {
        inherited-in = owners_in MAX_INHERITED b.inherited_owners a.inherited r.inherited_long;
        synthesized-in = owners_in MAX_SYNTHESIZED b.synthesized_owners a.synthesized r.synthesized_long;
        rules_in =
            rw (kept_same room.rules MAX_RULES b.rules r.rules_few complete.rules-fit)
            at (rules_in room.rules b.rules a.rules r.rules_few r.rules_long);
        definitions_in =
            rw ((definitions-same r.definitions_few).0, (definitions-same r.definitions_few).1)
            at (definitions_in room.definitions r.definitions_few b.inherited_definitions b.synthesized_definitions a.definitions
            r.definitions_long);
        kernels-in =
            rw (kept_same room.kernels MAX_KERNELS b.kernels r.kernels_few complete.kernels_fit)
            at (kernels-in room.kernels b.kernels a.kernels r.kernels_few r.kernels_long);
        goes_in =
            rw (kept_same room.goes MAX_GOES b.goes r.goes_few complete.goes_fit) at (goes_in room.goes b.goes a.goes r.goes_few r.goes_long);
      }

-- where there is room, all of a book is kept
pub kept-all : (b : Book) → HasRoom b → kept b ≡ b
unfolding kept
kept-all b h =
    rw (
      take_all MAX_INHERITED b.inherited_owners h.inherited_room,
      take_all MAX_SYNTHESIZED b.synthesized_owners h.synthesized_room,
      take_all MAX_RULES b.rules h.rules_room,
      take_all MAX_DEFINITIONS b.inherited_definitions (omega (arith, h.definitions_room)),
      take_all (MAX_DEFINITIONS - length b.inherited_definitions) b.synthesized_definitions (omega (arith, h.definitions_room)),
      take_all MAX_KERNELS b.kernels h.kernels_room,
      take_all MAX_GOES b.goes h.goes_room,
    )

pub within-room : {b : Book} → WithinLimits b → HasRoom b
within-room w =
    record {
      inherited_room = w.inherited_limit;
      synthesized_room = w.synthesized_limit;
      rules_room = w.rules_limit.high;
      definitions_room = w.definitions_limit;
      kernels_room = w.kernels_limit;
      goes_room = w.goes_limit;
    }
