-- Entries of sums of rows, as the program adds them.
use Rattle.std.proofs.Common.{◌≡◌, ◌≢◌, ℕ, zero, suc, ◌+◌, ◌-◌, ◌*◌, ◌%◌, ◌<◌, ◌≤◌, List, [], ◌∷◌, ◌++◌, length, take, drop, set, get_or, min, refl, sym, ap, ◌∙◌, arith, mod-eq_of_lt, ⊎_elim, append-nil}
use Rattle.std.proofs.lemmas.Bool.{cases_lt}
use native.Mathlib.Decide.{ℕ_discrete}
use borrow.Rule.Slice.PartMut.{put_mid}
use Rattle.std.proofs.lemmas.Simd.{get_or-zip2, length-zip2}
use Rattle.std.proofs.lemmas.List.{get_or-take, get_or-drop, get_or_append_left, get_or-append_right, get_or_past, get_or-set_same, get_or-set_other, length-take-le, length-drop, drop_all}
use Rattle.comm_ring.proofs.Residues.{mod_ring, mod_quote}
use Rattle.lane_rows.specs.Rows.{AreResidues, plus_multiple}
use Rattle.digit_space.specs.Adding.{sum_at, unit_at}

-- an entry that is a residue stays where nothing is added
nothing : (p c o : ℕ) → o < p → o ≡ (o + c * 0) % p
nothing p c o h = let e : o + c * 0 ≡ o = omega arith in sym (ap (λ n. n % p) e ∙ mod-eq_of_lt h)

-- a multiple is added as far as the row and the sum both reach
pub front_added : (p c n : ℕ) (out new row : List ℕ) → AreResidues p out → n ≡ min (length row) (length out) → new ≡ plus_multiple p c (take n out) (take n row)
    → (t : ℕ) → t < length out → get_or (new ++ drop n out) t 0 ≡ (get_or out t 0 + c * get_or row t 0) % p
front_added p c n out new row r m e t h = ⊎_elim inside behind (cases_lt t n)
  where
    to : length (take n out) ≡ n
    to = length-take-le n out (omega arith)

    tr : length (take n row) ≡ n
    tr = length-take-le n row (omega arith)

    long : length new ≡ n
    long = ap length e ∙ length-zip2 (λ x y. (x + c * y) % p) (take n out) (take n row) (to ∙ sym tr) ∙ to

    inside : t < n → get_or (new ++ drop n out) t 0 ≡ (get_or out t 0 + c * get_or row t 0) % p
    inside l =
        get_or_append_left new (drop n out) 0 t (omega (arith, long))
        ∙ ap (λ xs. get_or xs t 0) e
        ∙ get_or-zip2 (λ x y. (x + c * y) % p) (take n out) (take n row) t 0 0 0 (omega (arith, to)) (omega (arith, tr))
        ∙ ap (λ x. (x + c * get_or (take n row) t 0) % p) (get_or-take n out t 0 l)
        ∙ ap (λ y. (get_or out t 0 + c * y) % p) (get_or-take n row t 0 l)

    behind : n ≤ t → get_or (new ++ drop n out) t 0 ≡ (get_or out t 0 + c * get_or row t 0) % p
    behind l =
        get_or-append_right new (drop n out) n t 0 long l
        ∙ get_or-drop n out (t - n) 0
        ∙ ap (λ k. get_or out k 0) (let k : n + (t - n) ≡ t = omega arith in k)
        ∙ nothing p c (get_or out t 0) (r t 0 h)
        ∙ ap (λ y. (get_or out t 0 + c * y) % p) (sym (get_or_past row t 0 (omega (arith, m))))

-- the row that is 1 at j
pub unit_own : (j : ℕ) → get_or (unit_at j) j 0 ≡ 1
unit_own zero = refl
unit_own (suc j) = unit_own j

pub unit_other : (j t : ℕ) → t ≢ j → get_or (unit_at j) t 0 ≡ 0
unit_other zero zero h = absurd (h refl)
unit_other zero (suc t) h = get_or_past [] t 0 (omega arith)
unit_other (suc j) zero h = refl
unit_other (suc j) (suc t) h = unit_other j t (λ e. h (ap suc e))

-- one entry gains c
pub corner_added : (p c j x : ℕ) (out : List ℕ) → AreResidues p out → j < length out → x ≡ (get_or out j 0 + c) % p
    → (t : ℕ) → t < length out → get_or (set out j x) t 0 ≡ (get_or out t 0 + c * get_or (unit_at j) t 0) % p
corner_added p c j x out r l e t h = go (ℕ_discrete t j)
  where
    go : Dec (t ≡ j) → get_or (set out j x) t 0 ≡ (get_or out t 0 + c * get_or (unit_at j) t 0) % p
    go (yes q) =
        ap (λ k. get_or (set out j x) k 0) q ∙ get_or-set_same out j x 0 l ∙ e
        ∙ ap (λ y. (get_or out j 0 + y) % p) (let k : c ≡ c * 1 = omega arith in k)
        ∙ ap (λ y. (get_or out j 0 + c * y) % p) (sym (unit_own j))
        ∙ ap (λ k. (get_or out k 0 + c * get_or (unit_at j) k 0) % p) (sym q)
    go (no q) = get_or-set_other out j t x 0 q ∙ nothing p c (get_or out t 0) (r t 0 h) ∙ ap (λ y. (get_or out t 0 + c * y) % p) (sym (unit_other j t q))

-- one number more of a sum
pub sum_more : (cs : List ℕ) (f : ℕ → List ℕ) (i t : ℕ) → i < length cs → sum_at (take (i + 1) cs) f t ≡ sum_at (take i cs) f t + get_or cs i 0 * get_or (f i) t 0
sum_more [] f i t h = absurd (omega arith)
sum_more (c ∷ cs) f zero t h = let e : c * get_or (f 0) t 0 + 0 ≡ 0 + c * get_or (f 0) t 0 = omega arith in e
sum_more (c ∷ cs) f (suc i) t h =
    let r = sum_more cs (λ k. f (suc k)) i t (omega arith) in
    let e : sum_at (take (suc i + 1) (c ∷ cs)) f t ≡ c * get_or (f 0) t 0 + sum_at (take (i + 1) cs) (λ k. f (suc k)) t = ap (λ k. sum_at (take k (c ∷ cs)) f t) (let q : suc i + 1 ≡ suc (i + 1) = omega arith in q) in
    omega arith

-- and the step of the loop that adds it
pub step_added : (p : ℕ) → 0 < p → (o w c x : ℕ) → ((o + w) % p + c * x) % p ≡ (o + (w + c * x)) % p
step_added p positive o w c x = mod_ring p positive (o ∷ w ∷ c ∷ x ∷ []) ((o + w) % p + c * x) (o + (w + c * x)) (search mod_quote depth 20) tt

-- and one that is 0
pub step_none : (o w c x p : ℕ) → c ≡ 0 → (o + w) % p ≡ (o + (w + c * x)) % p
step_none o w c x p e = ap (λ n. n % p) (let k : o + w ≡ o + (w + 0 * x) = omega arith in k ∙ ap (λ z. o + (w + z * x)) (sym e))

-- the last part of a list is written anew
pub last_put : (to k : ℕ) (out rest : List ℕ) → length out ≤ to + k → take to out ++ rest ≡ put_mid to k out rest
last_put to k out rest h =
    ap (λ z. take to out ++ z) (sym (append-nil rest) ∙ ap (λ z. rest ++ z) (sym (drop_all k (drop to out) (let w = length-drop to out in omega arith))))
