-- An accepted run has a tree: it has the tokens for its leaves and stands for rule 0's right symbol. Assumes the premises of demand 3.
use Prim.Native.Nat.{ℕ, zero, suc, ◌<◌}
use native.Mathlib.Omega.{arith}
use Rattle.std.proofs.Math.Path.{◌≡◌, refl}
use Rattle.std.specs.Prelude.{◌≢◌, length}
use Rattle.std.proofs.Math.Option.{Option, none, some}
use mathlib.Core.List.{List, [], ◌∷◌, ◌++◌, append_assoc, append-nil}
use Rattle.std.proofs.Math.Seq.{drop-length}
use Rattle.grammar.specs.Data.Symbol.{Symbol, right_of, after, goal}
use Rattle.grammar.specs.Data.Book.{Book}
use Rattle.grammar.specs.Automaton.Items.{derives, Closure, kernel, close}
use Rattle.grammar.specs.Automaton.States.{Action, shift, accept, reduce, Acts, reduces, accepts}
use Rattle.grammar.specs.Evaluator.Tree.{Token, Tree, Trees, nil, cons, leaves, leaves_all, next, TokenOf, TokensOf, and_tokens, Stands, leaf_stands}
use Rattle.grammar.specs.Evaluator.Tree.{node_stands, AllStand, nil_stands, cons_stands}
use Rattle.grammar.specs.Evaluator.Decorated.{Values, Result}
use Rattle.grammar.specs.Evaluator.Rows.{Row}
use Rattle.grammar.specs.Evaluator.Machine.{Tables, Frame, frame, Config, config, accepted, more, stop, start, Popped, popped, pop, shift_token, push_left}
use Rattle.grammar.specs.Evaluator.Machine.{perform, step}
use Rattle.grammar.specs.Evaluator.Runs.{Ends, halts, moves}
use Rattle.grammar.proofs.Evaluator.Moves.{row_more, symbol-more, rule-more, arrive-more, row-accepted, symbol-accepted, rule-accepted, arrive-accepted}
use Rattle.grammar.specs.Evaluator.Premises.{Premises}
use Rattle.grammar.specs.Data.ListLaws.{drop-step}
use Rattle.grammar.specs.Automaton.KernelItems.{start_dot}
use Rattle.grammar.specs.Evaluator.PremisesLaws.{dotted, start-length, start-unreached, start_only, start_lookahead, go-back}

module _ (b : Book) where
  -- ks is the leaves of a tree of a whole message
  abbrev pub Parsed : List Token → Type 0
  Parsed ks = (t : Tree) × Stands b t (goal b.rules) × (leaves t ≡ ks)

  token-at : (w : List Token) (k : Token) (z : List Token) → TokensOf b (w ++ (k ∷ z)) → TokenOf b k
  token-at [] k z (and_tokens o os) = o
  token-at (j ∷ w) k z (and_tokens o os) = token-at w k z os

  tokens-end : (w : List Token) {z : List Token} → TokensOf b (w ++ z) → next z ≡ 0 → z ≡ []
  tokens-end [] {z = []} os e = refl
  tokens-end [] {z = k ∷ z} (and_tokens o os) e = let h = o.not_end in absurd (omega arith)
  tokens-end (k ∷ w) (and_tokens o os) e = tokens-end w os e

  reduce-item : {S a P : ℕ} → Acts b S a (reduce P) → (P ≢ 0) × Closure b S P (length (right_of b.rules P)) a
  reduce-item (reduces n c) = (n, c)

  accept-item : {S a : ℕ} → Acts b S a accept → Closure b S 0 (length (right_of b.rules 0)) a
  accept-item (accepts c) = c

module _ (b : Book) (T : Tables) where
  -- the frames are a path of the states from 0, and there are trees that stand for its symbols, whose leaves are w
  data Along : ℕ → List Frame → List Token → Type 0 where
    bottom : Along 0 [] []
    above : {S M p : ℕ} {i : Values} {c : Result} {X : Symbol} {t : Tree} {st : List Frame} {w v : List Token}
        → Along S st w → T.go S X ≡ some M → Stands b t X → w ++ leaves t ≡ v → Along M (frame S i c p ∷ st) v

  -- rule P's right side was popped
  data Unwound (P : ℕ) (v : List Token) : Popped → Type 0 where
    unwound : {S a p : ℕ} {i : Values} {st : List Frame} {ts : Trees} {cs : List Result} {w : List Token}
        → Along S st w → Closure b S P 0 a → AllStand b ts (right_of b.rules P) → w ++ leaves_all ts ≡ v → Unwound P v (popped S i p st cs)

  -- the tokens shifted and those left are ks
  data Good (ks : List Token) : Config → Type 0 where
    good : {S p : ℕ} {st : List Frame} {w z : List Token} {rs : List Row} → Along S st w → w ++ z ≡ ks → Good ks (config st S z p rs)

  push_left-accepted : (P : ℕ) (q : Popped) (z : List Token) (p : ℕ) (rs : List Row) {qs : List Row} → push_left b T P q z p rs ≡ stop (accepted qs) → ⊥
  unfolding push_left
  push_left-accepted P (popped S i q st cs) z p rs e = arrive-accepted _ _ z p _ e

  module _ (H : Premises b T) where
    -- where rule P begins, and is not rule 0, it was added by the closure
    in-range : {S P a : ℕ} → Closure b S P 0 a → P ≢ 0 → P < length b.rules
    in-range (close c (derives h p e f)) n = p
    in-range (kernel k) n = absurd (n (start_dot H.kernel-rules k))

    -- where rule 0 begins, the stack is empty
    lowest : {S a : ℕ} {st : List Frame} {w : List Token} → Along S st w → Closure b S 0 0 a → w ≡ []
    lowest al (close {P = P} {D = D} c (derives h p e f)) = absurd (start-unreached b T H P D h e)
    lowest bottom (kernel k) = refl
    lowest (above al g s y) (kernel k) = let e = (go-back b T H g k).3 in absurd (omega arith)

    unwind : {S P a : ℕ} {st : List Frame} {ts : Trees} {w : List Token} (i : Values) (p : ℕ) (cs : List Result) → Along S st w → (D : ℕ) → Closure b S P D a
        → AllStand b ts (after b.rules P D) → Unwound P (w ++ leaves_all ts) (pop D S i p st cs)
    unfolding pop
    unwind i p cs al zero c s = unwound al c s refl
    unwind i p cs bottom (suc D) c s = let e = (start_only b T H (dotted b c)).1 in absurd (omega arith)
    unwind {P = P} {ts = ts} i p cs (above {S = S'} {p = q} {i = j} {c = r} {X = X} {t = t} al g st y) (suc D) c s =
        let (D', a, β, e, c', h') = go-back b T H g (dotted b c) in
        let d : D' ≡ D = omega arith in
        let h : after b.rules P D ≡ X ∷ β = rw d at h' in
        let ss : AllStand b (cons t ts) (after b.rules P D) = rw h (cons_stands st (rw (drop-step D (right_of b.rules P) h) at s)) in
        rw (← y, append_assoc) (unwind {S = S'} j q (r ∷ cs) al D (rw d at c') ss)

    after-reduce : {ks : List Token} {P : ℕ} (v : List Token) (z : List Token) (p : ℕ) (rs : List Row) {c : Config} {q : Popped} → P ≢ 0 → v ++ z ≡ ks
        → Unwound P (v ++ []) q → push_left b T P q z p rs ≡ more c → Good ks c
    unfolding push_left
    after-reduce v z p rs n y (unwound {ts = ts} {w = w} al cl ss u) e =
        let (M, g, ec) = arrive-more _ _ z p _ e in
        let u' : w ++ leaves_all ts ≡ v = rw append-nil at u in
        rw ec (good {z = z} (above al g (node_stands n (in-range cl n) refl ss) u') y)

    after-shift : {ks : List Token} {S : ℕ} {st : List Frame} {w : List Token} (k : Token) (z : List Token) (p : ℕ) (rs : List Row) {c : Config}
        → TokenOf b k → Along S st w → w ++ (k ∷ z) ≡ ks → shift_token b T k st S z p rs ≡ more c → Good ks c
    unfolding shift_token
    after-shift k z p rs o al y e =
        let (M, g, ec) = arrive-more _ _ z (suc p) _ e in
        rw ec (good {z = z} (above al g (leaf_stands {k = k} o refl) refl) (rw append_assoc y))

    keeps : {ks : List Token} {S : ℕ} {w : List Token} (st : List Frame) (z : List Token) (p : ℕ) (rs : List Row) {c : Config} (x : Option Action)
        → TokensOf b ks → Along S st w → w ++ z ≡ ks → T.act S (next z) ≡ x → perform b T x st S z p rs ≡ more c → Good ks c
    unfolding perform
    keeps st z p rs none os al y a e = let f : ◌≡◌ {A = ℕ} 0 1 = cc in absurd (omega arith)
    keeps st z p rs (some accept) os al y a e = let f : ◌≡◌ {A = ℕ} 0 1 = cc in absurd (omega arith)
    keeps st [] p rs (some shift) os al y a e = let f : ◌≡◌ {A = ℕ} 0 1 = cc in absurd (omega arith)
    keeps {w = w} st (k ∷ z) p rs (some shift) os al y a e =
        after-shift k z p rs (token-at b w k z (rw y os)) al y (symbol-more st (row_more rs e).1)
    keeps {S = S} {w = w} st z p rs (some (reduce P)) os al y a e =
        let (n, c) = reduce-item b (H.act_only S (next z) (reduce P) a) in
        after-reduce w z p rs n y (unwind {ts = nil} _ p [] al (length (right_of b.rules P)) c (rw drop-length nil_stands))
        (rule-more (right_of b.rules P) st (row_more rs e).1)

    good-moves : {ks : List Token} {c d : Config} → TokensOf b ks → Good ks c → step b T c ≡ more d → Good ks d
    unfolding step
    good-moves os (good {S = S} {p = p} {st = st} {z = z} {rs = rs} al y) e = keeps st z p rs (T.act S (next z)) os al y refl e

    -- the tree on top, where the machine accepts
    topmost : {ks : List Token} {S : ℕ} {st : List Frame} {v : List Token} (z : List Token) → TokensOf b ks → Along S st v → v ++ z ≡ ks
        → Closure b S 0 (length (right_of b.rules 0)) (next z) → Parsed b ks
    topmost z os bottom y c =
        let e = (start_only b T H (dotted b {D = 0} (rw (start-length b T H) at c))).1 in
        absurd (omega arith)
    topmost {ks} z os (above {X = X} {t = t} {w = w} {v = v} al g s u) y c =
        let item = dotted b {D = 0} (rw (start-length b T H) at c) in
        let (D', a, β, d', c', h') = go-back b T H g item in
        let d : D' ≡ 0 = omega arith in
        let h : right_of b.rules 0 ≡ X ∷ β = rw d at h' in
        let r = H.start_right in
        let x : X ≡ goal b.rules = cc in
        let low : w ≡ [] = lowest al (rw d at c') in
        let z' : z ≡ [] = tokens-end b v (rw y os) (start_lookahead b T H item) in
        (t, rw (← x) s, rw (← u, low, z', append-nil) at y)

    takes : {ks : List Token} {S : ℕ} {w : List Token} (st : List Frame) (z : List Token) (p : ℕ) (rs : List Row) {qs : List Row} (x : Option Action)
        → TokensOf b ks → Along S st w → w ++ z ≡ ks → T.act S (next z) ≡ x → perform b T x st S z p rs ≡ stop (accepted qs) → Parsed b ks
    unfolding perform shift_token
    takes st z p rs none os al y a e = let f : ◌≡◌ {A = ℕ} 0 1 = cc in absurd (omega arith)
    takes {S = S} st z p rs (some accept) os al y a e = topmost z os al y (accept-item b (H.act_only S (next z) accept a))
    takes st [] p rs (some shift) os al y a e = let f : ◌≡◌ {A = ℕ} 0 1 = cc in absurd (omega arith)
    takes st (k ∷ z) p rs (some shift) os al y a e = absurd (arrive-accepted _ _ z (suc p) _ (symbol-accepted st (row-accepted rs e)))
    takes st z p rs (some (reduce P)) os al y a e = absurd (push_left-accepted P _ z p rs (rule-accepted (right_of b.rules P) st (row-accepted rs e)))

    sound-from : {ks : List Token} {c : Config} {rs : List Row} → TokensOf b ks → Ends b T c (accepted rs) → Good ks c → Parsed b ks
    unfolding step
    sound-from os (halts e) (good {S = S} {p = p} {st = st} {z = z} {rs = rs} al y) = takes st z p rs (T.act S (next z)) os al y refl e
    sound-from os (moves e s) g = sound-from os s (good-moves os g e)

    pub sound : {ks : List Token} {rs : List Row} → TokensOf b ks → Ends b T (start ks) (accepted rs) → Parsed b ks
    sound os e = sound-from os e (good bottom refl)
