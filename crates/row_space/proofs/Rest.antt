-- What is left of a row when it was made 0 at the pivots.
use Rattle.std.proofs.Common.{◌≡◌, ℕ, ◌+◌, ◌-◌, ◌*◌, ◌%◌, ◌<◌, List, [], ◌∷◌, ◌++◌, length, get_or, take, sym, ap, ◌∙◌, arith}
use Rattle.std.proofs.lemmas.List.{length-map, get_or-map, get_or-take, take_more, length-take}
use Rattle.std.proofs.Math.Seq.{take-length}
use Rattle.std.proofs.Math.Nat.{mod-mod, mod-add-mod, mod-eq_of_lt}
use Rattle.row_space.specs.Sums.{entry, weighted, IsWeighted}
use Rattle.row_space.specs.Echelon.{IsEchelon, IsRest, IsRow, entries_at}
use Rattle.row_space.proofs.Weights.{weighted-one, weighted-none, weighted-append, weighted-same, cancel-mod, multiple-mod}

-- a sum of basis rows has its coefficients at the pivots
pub coefficient : (p width : ℕ) (us : List (List ℕ)) (pivots cs : List ℕ) → IsEchelon p width us pivots → length cs ≡ length us → (j : ℕ) → j < length us
    → weighted cs us (get_or pivots j 0) ≡ get_or cs j 0
coefficient p width us pivots cs e long j h = weighted-one cs us (get_or pivots j 0) j long h (e.own j h) (λ i l ne. e.others i j l h ne)

pub entries_long : (p width : ℕ) (us : List (List ℕ)) (pivots row : List ℕ) → IsEchelon p width us pivots → length (entries_at pivots row) ≡ length us
entries_long p width us pivots row e = length-map pivots (λ q. get_or row q 0) ∙ e.count

-- a row of the space leaves nothing
pub rest_of_member : (p width : ℕ) (us : List (List ℕ)) (pivots row rest : List ℕ) → 0 < p → IsEchelon p width us pivots → IsRow p width rest → IsRest p width us pivots row rest
    → IsWeighted p width us (λ k. get_or row k 0) → (k : ℕ) → k < width → get_or rest k 0 ≡ 0
rest_of_member p width us pivots row rest pos e fits r m k h =
    cancel-mod p (get_or rest k 0) (weighted (entries_at pivots row) us k) pos (fits.1 k 0 (omega (arith, fits.0))) (same k h)
  where
    long : length (entries_at pivots row) ≡ length us
    long = entries_long p width us pivots row e

    coefficients : (j : ℕ) → j < length us → get_or (entries_at pivots row) j 0 % p ≡ get_or m.0 j 0 % p
    coefficients j l =
        let inside : j < length pivots = omega (arith, e.count) in
        ap (λ n. n % p) (get_or-map (λ q. get_or row q 0) pivots j 0 0 inside) ∙ m.2 (get_or pivots j 0) (e.within j l)
        ∙ ap (λ n. n % p) (coefficient p width us pivots m.0 e m.1 j l)

    same : (k : ℕ) → k < width → (get_or rest k 0 + weighted (entries_at pivots row) us k) % p ≡ weighted (entries_at pivots row) us k % p
    same k l =
        sym (mod-mod (get_or rest k 0 + weighted (entries_at pivots row) us k) p)
        ∙ ap (λ n. n % p) (r.sum k l) ∙ m.2 k l ∙ sym (weighted-same p (entries_at pivots row) m.0 us k long m.1 coefficients)

-- and a row that leaves nothing is the sum that its entries at the pivots say
pub member_of_rest : (p width : ℕ) (us : List (List ℕ)) (pivots row rest : List ℕ) → IsRest p width us pivots row rest → ((k : ℕ) → k < width → get_or rest k 0 ≡ 0)
    → (k : ℕ) → k < width → get_or row k 0 % p ≡ weighted (entries_at pivots row) us k % p
member_of_rest p width us pivots row rest r none k h =
    ap (λ n. n % p) (sym (r.sum k h)) ∙ mod-mod (get_or rest k 0 + weighted (entries_at pivots row) us k) p
    ∙ ap (λ n. (n + weighted (entries_at pivots row) us k) % p) (none k h) ∙ ap (λ n. n % p) (omega arith)

-- p times y in two parts, beside x and w
parts : (p c x y w : ℕ) → c < p → x + (p - c) * y + (w + c * y) ≡ x + w + p * y
parts p c x y w less =
    let d : ℕ = p - c in
    let whole : p ≡ d + c = omega arith in
    let split : p * y ≡ (p - c) * y + c * y = ap (λ n. n * y) whole ∙ omega arith in
    omega arith

module _ (p width : ℕ) (us : List (List ℕ)) (pivots row : List ℕ) (pos : 0 < p) (e : IsEchelon p width us pivots) where
  entry_is : (j : ℕ) → j < length us → get_or (entries_at pivots row) j 0 ≡ get_or row (get_or pivots j 0) 0
  entry_is j h = get_or-map (λ q. get_or row q 0) pivots j 0 0 (omega (arith, e.count))

  -- one more multiple is taken from what is left
  pub rest_more : (i : ℕ) (left next : List ℕ) → i < length us
      → ((k : ℕ) → k < width → get_or left k 0 < p)
      → ((k : ℕ) → k < width → (get_or left k 0 + weighted (take i (entries_at pivots row)) (take i us) k) % p ≡ get_or row k 0)
      → ((k : ℕ) → k < width → get_or next k 0 ≡ (get_or left k 0 + (p - get_or left (get_or pivots i 0) 0) * entry us i k) % p)
      → (k : ℕ) → k < width → (get_or next k 0 + weighted (take (i + 1) (entries_at pivots row)) (take (i + 1) us) k) % p ≡ get_or row k 0
  rest_more i left next h small before change k l =
      ap (λ n. (get_or next k 0 + n) % p) longer
      ∙ ap (λ n. (n + (weighted (take i (entries_at pivots row)) (take i us) k + get_or left (get_or pivots i 0) 0 * entry us i k)) % p) (change k l)
      ∙ mod-add-mod (get_or left k 0 + (p - get_or left (get_or pivots i 0) 0) * entry us i k) p (weighted (take i (entries_at pivots row)) (take i us) k + get_or left (get_or pivots i 0) 0 * entry us i k)
      ∙ ap (λ n. n % p) (parts p (get_or left (get_or pivots i 0) 0) (get_or left k 0) (entry us i k) (weighted (take i (entries_at pivots row)) (take i us) k) (small (get_or pivots i 0) (e.within i h)))
      ∙ multiple-mod p (get_or left k 0 + weighted (take i (entries_at pivots row)) (take i us) k) (entry us i k)
      ∙ before k l
    where
      long : i < length (entries_at pivots row)
      long = omega (arith, length-map pivots (λ q. get_or row q 0), e.count)

      none : (j : ℕ) → j < length (take i us) → entry (take i us) j (get_or pivots i 0) ≡ 0
      none j b =
          let less : j < i = omega (arith, length-take i us) in
          ap (λ r. get_or r (get_or pivots i 0) 0) (get_or-take i us j [] less) ∙ e.others j i (omega arith) h (omega arith)

      same : get_or left (get_or pivots i 0) 0 ≡ get_or row (get_or pivots i 0) 0
      same =
          sym (mod-eq_of_lt (small (get_or pivots i 0) (e.within i h)))
          ∙ ap (λ n. n % p) (let z : get_or left (get_or pivots i 0) 0 ≡ get_or left (get_or pivots i 0) 0 + 0 = omega arith in z)
          ∙ ap (λ n. (get_or left (get_or pivots i 0) 0 + n) % p) (sym (weighted-none (take i (entries_at pivots row)) (take i us) (get_or pivots i 0) none))
          ∙ before (get_or pivots i 0) (e.within i h)

      longer : weighted (take (i + 1) (entries_at pivots row)) (take (i + 1) us) k ≡ weighted (take i (entries_at pivots row)) (take i us) k + get_or left (get_or pivots i 0) 0 * entry us i k
      longer =
          ap (λ cs. weighted cs (take (i + 1) us) k) (take_more (entries_at pivots row) i 0 long)
          ∙ ap (λ vs. weighted (take i (entries_at pivots row) ++ get_or (entries_at pivots row) i 0 ∷ []) vs k) (take_more us i [] h)
          ∙ weighted-append (take i (entries_at pivots row)) (take i us) (get_or (entries_at pivots row) i 0) (get_or us i []) k (omega (arith, length-take i us, length-take i (entries_at pivots row), entries_long p width us pivots row e))
          ∙ ap (λ c. weighted (take i (entries_at pivots row)) (take i us) k + c * entry us i k) (entry_is i h ∙ sym same)

  pub rest_all : (n : ℕ) (left : List ℕ) → n ≡ length us → ((k : ℕ) → k < width → get_or row k 0 < p) → ((k : ℕ) → k < width → get_or left k 0 < p)
      → ((k : ℕ) → k < width → (get_or left k 0 + weighted (take n (entries_at pivots row)) (take n us) k) % p ≡ get_or row k 0)
      → IsRest p width us pivots row left
  rest_all n left end small small_left sums = record { sum = whole; zero = zeros }
    where
      long : length (entries_at pivots row) ≡ length us
      long = length-map pivots (λ q. get_or row q 0) ∙ e.count

      coefficients : take n (entries_at pivots row) ≡ entries_at pivots row
      coefficients = ap (λ m. take m (entries_at pivots row)) (end ∙ sym long) ∙ take-length (entries_at pivots row)

      all_rows : take n us ≡ us
      all_rows = ap (λ m. take m us) end ∙ take-length us

      whole : (k : ℕ) → k < width → (get_or left k 0 + weighted (entries_at pivots row) us k) % p ≡ get_or row k 0
      whole k h = ap (λ cs. (get_or left k 0 + weighted cs us k) % p) (sym coefficients) ∙ ap (λ vs. (get_or left k 0 + weighted (take n (entries_at pivots row)) vs k) % p) (sym all_rows) ∙ sums k h

      zeros : (j : ℕ) → j < length us → get_or left (get_or pivots j 0) 0 ≡ 0
      zeros j h =
          let inside = e.within j h in
          let is : weighted (entries_at pivots row) us (get_or pivots j 0) ≡ get_or row (get_or pivots j 0) 0 = coefficient p width us pivots (entries_at pivots row) e long j h ∙ entry_is j h in
          cancel-mod p (get_or left (get_or pivots j 0) 0) (weighted (entries_at pivots row) us (get_or pivots j 0)) pos (small_left (get_or pivots j 0) inside)
          (whole (get_or pivots j 0) inside ∙ sym (ap (λ n. n % p) is ∙ mod-eq_of_lt (small (get_or pivots j 0) inside)))
