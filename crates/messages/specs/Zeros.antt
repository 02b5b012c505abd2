-- Arrays of zeros. Assumes nothing.
use Rattle.std.specs.Prelude.{ℕ, zero, suc, ◌≡◌, refl, length, get_or}
use Rattle.std.proofs.Math.ListN.{replicate}
use Rattle.std.proofs.lemmas.List.{length-replicate}

pub zeros : (n : ℕ) → length {A = ℕ} (replicate n 0) ≡ n
zeros n = length-replicate n 0

pub no_words : (n k : ℕ) → get_or {A = ℕ} (replicate n 0) k 0 ≡ 0
no_words zero k = refl
no_words (suc n) zero = refl
no_words (suc n) (suc k) = no_words n k
