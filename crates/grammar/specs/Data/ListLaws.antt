-- Laws of lists: the first element after some are dropped, members and their places. Assumes nothing.
use Rattle.std.specs.Prelude.{ℕ, zero, suc, ◌<◌, ◌≡◌, refl, ◌≢◌, length, get_or, drop}
use Rattle.std.proofs.Common.{arith, sym}
use mathlib.Core.List.Memᴰ.{head as in_head}
use mathlib.Core.List.Memᴰ.{tail as in_Tail}
use mathlib.Core.List.{List, [], ◌∷◌, nil≢cons, Memᴰ as Mem}

pub drop-step : {A : Type 0} (D : ℕ) (l : List A) {x : A} {r : List A} → drop D l ≡ x ∷ r → drop (suc D) l ≡ r
drop-step zero [] e = absurd (nil≢cons e)
drop-step zero (y ∷ l) e = cc
drop-step (suc D) [] e = absurd (nil≢cons e)
drop-step (suc D) (y ∷ l) e = drop-step D l e

pub drop_get : {A : Type 0} (D : ℕ) (l : List A) {x : A} {r : List A} (y : A) → drop D l ≡ x ∷ r → x ≡ get_or l D y
drop_get zero [] y e = absurd (nil≢cons e)
drop_get zero (w ∷ l) y e = cc
drop_get (suc D) [] y e = absurd (nil≢cons e)
drop_get (suc D) (w ∷ l) y e = drop_get D l y e

pub drop-member : {A : Type 0} (D : ℕ) (l : List A) {x : A} {r : List A} → drop D l ≡ x ∷ r → Mem x l
drop-member zero [] e = absurd (nil≢cons e)
drop-member zero (y ∷ l) {x} e = let first : x ≡ y = cc in in_head first
drop-member (suc D) [] e = absurd (nil≢cons e)
drop-member (suc D) (y ∷ l) e = in_Tail (drop-member D l e)

-- an element other than the default is a member
pub get_or-member : {A : Type 0} (l : List A) (n : ℕ) (d : A) → get_or l n d ≢ d → Mem (get_or l n d) l
get_or-member [] n d h = absurd (h refl)
get_or-member (x ∷ l) zero d h = in_head refl
get_or-member (x ∷ l) (suc n) d h = in_Tail (get_or-member l n d h)

pub at-member : {A : Type 0} (l : List A) (i : ℕ) (d : A) → i < length l → Mem (get_or l i d) l
at-member [] i d h = absurd (omega arith)
at-member (x ∷ l) zero d h = in_head refl
at-member (x ∷ l) (suc i) d h = in_Tail (at-member l i d (omega arith))

pub member-at : {A : Type 0} (l : List A) (d : A) {x : A} → Mem x l → (i : ℕ) × (i < length l) × (get_or l i d ≡ x)
member-at [] d m = elim m [ ]
member-at (y ∷ l) d (in_head e) = (zero, omega arith, sym e)
member-at (y ∷ l) d (in_Tail m) = let (i, h, e) = member-at l d m in (suc i, omega arith, e)
