-- Rows whose blocks are moved by one.
use Rattle.std.proofs.Common.{◌≡◌, ℕ, zero, suc, ◌+◌, ◌-◌, ◌*◌, ◌<◌, ◌≤◌, List, [], ◌∷◌, ◌++◌, length, take, drop, replicate, get_or, All, refl, sym, ap, ◌∙◌, subst, arith, length-append}
use Rattle.std.proofs.lemmas.List.{same_lists, get_or-take, get_or-drop, length-drop, length-take-le, length-replicate}
use Rattle.std.proofs.lemmas.List.Elements.{All-head, All-tail, All-append, All-drop}
use Rattle.std.proofs.Math.Seq.{take_at}
use Rattle.polys.specs.Curve.{data_of}
use Rattle.digit_laws.specs.Digits.{AreDigits}
use Rattle.digit_space.specs.Model.{DigitData, IsDigitSpace, IsDigitRow, IsDigitsOf, HasZeroBlock, times_denominator, value_of, width}
use Rattle.digit_space.proofs.Spaced.{finite, blocks, laws}
use Rattle.digit_laws.proofs.Blocks.{zeros_row}
use Rattle.digit_space.proofs.Added.{no_entries}

module _ (g : DigitData) (s : IsDigitSpace g) where
  abbrev N : ℕ
  N = length g.basis

  -- at depth 0 each row has the digits of everything
  pub no_depth : (row out : List ℕ) → g.depth ≡ 0 → length out ≡ width g → IsDigitsOf g (times_denominator g (value_of g row)) out
  no_depth row out z l =
      let none : N * g.depth ≡ 0 = ap (λ d. N * d) z ∙ (let w : N * 0 ≡ 0 = omega arith in w) in
      no_entries g s g.depth g.curve.denominator.terms row out none (l ∙ none) s.fit.denominator.poly

  -- with a block of zeros in front, and without the last block, a row is that of d times its polynomial
  pub moved_up : (row : List ℕ) → IsDigitRow g row → 0 < g.depth → IsDigitsOf g (times_denominator g (value_of g row)) (replicate N 0 ++ take (width g - N) row)
  moved_up row h p = go g.depth refl p
    where
      go : (D : ℕ) → D ≡ g.depth → 0 < D → IsDigitsOf g (times_denominator g (value_of g row)) (replicate N 0 ++ take (width g - N) row)
      go zero e l = absurd (omega arith)
      go (suc T) e l =
          let v = value_of g row in
          let r = (laws g s).row row h in
          let deep : AreDigits (data_of g.curve) g.basis (T + 1) v row = subst (λ D. AreDigits (data_of g.curve) g.basis D v row) (sym e ∙ (let w : suc T ≡ T + 1 = omega arith in w)) r.1 in
          let front : AreDigits (data_of g.curve) g.basis T v (take (N * T) row) = (blocks g s).truncated T 1 v row r.0 deep in
          let up : AreDigits (data_of g.curve) g.basis (suc T) (times_denominator g v) (replicate N 0 ++ take (N * T) row) = ((blocks g s).up T v (take (N * T) row) r.0).0 front in
          let w : width g ≡ N + N * T = ap (λ D. N * D) (sym e) ∙ (let u : N * suc T ≡ N + N * T = omega arith in u) in
          subst (λ D. AreDigits (data_of g.curve) g.basis D (times_denominator g v) (replicate N 0 ++ take (width g - N) row)) e
          (subst (λ k. AreDigits (data_of g.curve) g.basis (suc T) (times_denominator g v) (replicate N 0 ++ take k row)) (let u : N * T ≡ width g - N = omega arith in u) up)

  zeros_first : (n : ℕ) (row : List ℕ) → n ≤ length row → All (λ e. e ≡ 0) (take n row) → replicate n 0 ++ drop n row ≡ row
  zeros_first zero row l h = refl
  zeros_first (suc n) [] l h = absurd (omega arith)
  zeros_first (suc n) (x ∷ row) l h =
      let e : x ≡ 0 = All-head (λ z. z ≡ 0) x (take n row) h in
      let r = zeros_first n row (omega arith) (All-tail (λ z. z ≡ 0) x (take n row) h) in
      λ i. sym e i ∷ r i

  -- and back
  pub moved_down : (row new : List ℕ) → IsDigitRow g row → HasZeroBlock g row → 0 < g.depth → new ≡ drop N row ++ replicate N 0 → IsDigitRow g new
      → IsDigitsOf g (times_denominator g (value_of g new)) row
  moved_down row new h z p e hn =
      let wide : N ≤ width g = go g.depth p in
      let cut : take (width g - N) new ≡ drop N row = ap (take (width g - N)) e ∙ take_at (drop N row) (replicate N 0) (width g - N) (let l = length-drop N row in let k = h.0 in omega arith) in
      subst (IsDigitsOf g (times_denominator g (value_of g new))) (ap (λ k. replicate N 0 ++ k) cut ∙ zeros_first N row (let k = h.0 in omega arith) z) (moved_up new hn p)
    where
      go : (D : ℕ) → 0 < D → N ≤ N * D
      go zero l = absurd (omega arith)
      go (suc D) l = let w : N * suc D ≡ N + N * D = omega arith in omega arith

-- ---- copies within a row

pub copied_down : (n kept : ℕ) (row copied : List ℕ) → length copied ≡ length row → length row ≡ kept + n
    → ((k d : ℕ) → 0 ≤ k → k < 0 + kept → get_or copied k d ≡ get_or row (n + (k - 0)) d) → take kept copied ≡ drop n row
copied_down n kept row copied l e h =
    let a : length (take kept copied) ≡ kept = length-take-le kept copied (omega arith) in
    let b = length-drop n row in
    same_lists (take kept copied) (drop n row) (omega arith)
    (λ k d j. get_or-take kept copied k d (omega arith) ∙ h k d (omega arith) (omega arith) ∙ ap (λ m. get_or row m d) (let w : n + (k - 0) ≡ n + k = omega arith in w) ∙ sym (get_or-drop n row k d))

pub copied_up : (n kept : ℕ) (row copied : List ℕ) → length copied ≡ length row → length row ≡ kept + n
    → ((k d : ℕ) → n ≤ k → k < n + (kept - 0) → get_or copied k d ≡ get_or row (0 + (k - n)) d) → drop n copied ≡ take kept row
copied_up n kept row copied l e h =
    let a : length (take kept row) ≡ kept = length-take-le kept row (omega arith) in
    let b = length-drop n copied in
    same_lists (drop n copied) (take kept row) (omega arith)
    (λ k d j. get_or-drop n copied k d ∙ h (n + k) d (omega arith) (omega arith) ∙ ap (λ m. get_or row m d) (let w : 0 + (n + k - n) ≡ k = omega arith in w) ∙ sym (get_or-take kept row k d (omega arith)))

-- a block fits into the row
pub block_fits : (g : DigitData) (row : List ℕ) → IsDigitRow g row → 0 < g.depth → length g.basis ≤ length row
block_fits g row h p = go g.depth p h.0
  where
    go : (D : ℕ) → 0 < D → length row ≡ length g.basis * D → length g.basis ≤ length row
    go zero l e = absurd (omega arith)
    go (suc D) l e = let w : length g.basis * suc D ≡ length g.basis + length g.basis * D = omega arith in omega arith

-- the row without its first block, and with a block of zeros behind
pub down_fits : (g : DigitData) (s : IsDigitSpace g) (row : List ℕ) → IsDigitRow g row → 0 < g.depth → IsDigitRow g (drop (length g.basis) row ++ replicate (length g.basis) 0)
down_fits g s row h p = (
  (let n = length g.basis in let a = block_fits g row h p in let b = length-drop n row in let z : length {A = ℕ} (replicate n 0) ≡ n = length-replicate n 0 in let k : length row ≡ width g = h.0 in
      let t : length (drop n row ++ replicate n 0) ≡ length (drop n row) + length {A = ℕ} (replicate n 0) = length-append (drop n row) (replicate n 0) in omega arith),
  All-append (λ e. e < g.curve.prime) (drop (length g.basis) row) (replicate (length g.basis) 0) (All-drop (λ e. e < g.curve.prime) (length g.basis) row h.1)
      (zeros_row (data_of g.curve) (finite g s) g.basis s.corners (length g.basis)),
)
