-- A text in front and a line after it that stand at the beginning of a buffer: up to m and from m to n.
-- Assumes nothing.
use Rattle.std.specs.Prelude.{ℕ, ◌+◌, ◌-◌, ◌<◌, ◌≡◌, refl, List, [], ◌∷◌, ◌++◌, length, take, drop, set}
use Rattle.std.proofs.Common.{sym, ap, ◌∙◌, append-nil, append_assoc, arith, add-one, length-set, length-append, take-suc-set, take-add, take_at, drop_at, length-take-le}
use Rattle.console.proofs.Steps.{◌▷◌, length_more}
use Rattle.console.specs.Stands.{Stands}

-- nothing stands in front of nothing
pub stands-nothing : (buffer : List ℕ) → Stands buffer [] [] 0 0
stands-nothing buffer = record { text_is = refl; front_is = refl; line_is = refl; within = omega arith }

module _ {buffer front line : List ℕ} {m n : ℕ} (s : Stands buffer front line m n) where
  pub stands-more : (b : ℕ) → n < length buffer → Stands (set buffer n b) front (line ▷ b) m (n + 1)
  stands-more b h =
      record {
        text_is = rw (add-one n, take-suc-set buffer n b h, s.text_is) (append_assoc front line (b ∷ []));
        front_is = s.front_is;
        line_is = omega (arith, s.line_is, length_more line b);
        within = omega (arith, length-set buffer n b);
      }

  -- the line becomes a part of the front
  pub stands-joined : Stands buffer (front ++ line) [] n n
  stands-joined =
      record {
        text_is = s.text_is ∙ sym (append-nil (front ++ line));
        front_is = s.line_is ∙ sym (length-append front line);
        line_is = omega (arith, s.line_is, length-append front line);
        within = s.within;
      }

  parts : take m buffer ++ take (n - m) (drop m buffer) ≡ front ++ line
  parts =
      let e : m + (n - m) ≡ n = omega (arith, s.front_is, s.line_is) in
      sym (take-add m (n - m) buffer) ∙ (ap (λ (k : ℕ). take k buffer) e ∙ s.text_is)

  long : length (take m buffer) ≡ m
  long = length-take-le m buffer (omega (arith, s.front_is, s.line_is, s.within))

  pub stands-front : take m buffer ≡ front
  stands-front = sym (take_at (take m buffer) (take (n - m) (drop m buffer)) m long) ∙ (ap (take m) parts ∙ take_at front line m (sym s.front_is))

  pub stands-line : take (n - m) (drop m buffer) ≡ line
  stands-line = sym (drop_at (take m buffer) (take (n - m) (drop m buffer)) m long) ∙ (ap (drop m) parts ∙ drop_at front line m (sym s.front_is))

  -- the line is dropped
  pub stands-alone : Stands buffer front [] m m
  stands-alone =
      record {
        text_is = stands-front ∙ sym (append-nil front);
        front_is = s.front_is;
        line_is = omega (arith, s.front_is);
        within = omega (arith, s.front_is, s.line_is, s.within);
      }
