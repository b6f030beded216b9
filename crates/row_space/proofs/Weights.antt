-- Sums of multiples of rows, as functions of the place.
use Rattle.std.proofs.Common.{◌≡◌, ◌≢◌, ℕ, zero, suc, ◌+◌, ◌-◌, ◌*◌, ◌/◌, ◌%◌, ◌<◌, List, [], ◌∷◌, ◌++◌, length, get_or, replicate, take, drop, refl, sym, ap, ◌∙◌, arith}
use Rattle.std.proofs.lemmas.Nat.{mul-mod_second}
use Rattle.std.proofs.lemmas.List.{length-replicate}
use Rattle.std.proofs.Math.Nat.{add-mod, mod-add-mod, add-mul-mod_self_left, mod-eq_of_lt, div-add-mod}
use Rattle.row_space.specs.Sums.{entry, weighted, IsWeighted, Covers}

-- ---- numbers modulo p

pub more-mod : (p a x y x' y' : ℕ) → x % p ≡ x' % p → y % p ≡ y' % p → (x + a * y) % p ≡ (x' + a * y') % p
more-mod p a x y x' y' hx hy =
    add-mod x (a * y) p
    ∙ ap (λ n. (n + (a * y) % p) % p) hx
    ∙ ap (λ n. (x' % p + n) % p) (sym (mul-mod_second a y p) ∙ ap (λ n. (a * n) % p) hy ∙ mul-mod_second a y' p)
    ∙ sym (add-mod x' (a * y') p)

pub multiple-mod : (p n t : ℕ) → (n + p * t) % p ≡ n % p
multiple-mod p n t = add-mul-mod_self_left n p t

-- w drops out of both sides
pub cancel-mod : (p r w : ℕ) → 0 < p → r < p → (r + w) % p ≡ w % p → r ≡ 0
cancel-mod p r w pos small e =
    let t : ℕ = w / p + 1 in
    let m : ℕ = p * t - w in
    let back : w + m ≡ p * t = omega (arith, div-add-mod w p) in
    let left : ((r + w) % p + m) % p ≡ r % p =
    mod-add-mod (r + w) p m ∙ ap (λ n. n % p) (let e : r + w + m ≡ r + p * t = omega arith in e) ∙ multiple-mod p r t in
    let right : (w % p + m) % p ≡ 0 % p =
    mod-add-mod w p m ∙ ap (λ n. n % p) (let e : w + m ≡ 0 + p * t = omega arith in e) ∙ multiple-mod p 0 t in
    sym (mod-eq_of_lt small) ∙ sym left ∙ ap (λ n. (n + m) % p) e ∙ right ∙ mod-eq_of_lt pos

-- ---- coefficients

-- each coefficient of cs with a times the one of ds
abbrev pub plus : ℕ → List ℕ → List ℕ → List ℕ
plus a [] ds = []
plus a (c ∷ cs) [] = []
plus a (c ∷ cs) (d ∷ ds) = (c + a * d) ∷ plus a cs ds

length-plus : (a : ℕ) (cs ds : List ℕ) → length cs ≡ length ds → length (plus a cs ds) ≡ length cs
length-plus a [] ds h = refl
length-plus a (c ∷ cs) [] h = absurd (omega arith)
length-plus a (c ∷ cs) (d ∷ ds) h = ap suc (length-plus a cs ds (omega arith))

weighted-plus : (a : ℕ) (cs ds : List ℕ) (us : List (List ℕ)) (k : ℕ) → length cs ≡ length us → length ds ≡ length us
    → weighted (plus a cs ds) us k ≡ weighted cs us k + a * weighted ds us k
weighted-plus a [] [] us k hc hd = omega arith
weighted-plus a [] (d ∷ ds) [] k hc hd = absurd (omega arith)
weighted-plus a [] (d ∷ ds) (u ∷ us) k hc hd = absurd (omega arith)
weighted-plus a (c ∷ cs) [] [] k hc hd = absurd (omega arith)
weighted-plus a (c ∷ cs) [] (u ∷ us) k hc hd = absurd (omega arith)
weighted-plus a (c ∷ cs) (d ∷ ds) [] k hc hd = absurd (omega arith)
weighted-plus a (c ∷ cs) (d ∷ ds) (u ∷ us) k hc hd = omega (arith, weighted-plus a cs ds us k (omega arith) (omega arith))

weighted-zeros : (us : List (List ℕ)) (k : ℕ) → weighted (replicate (length us) 0) us k ≡ 0
weighted-zeros [] k = refl
weighted-zeros (u ∷ us) k = omega (arith, weighted-zeros us k)

-- 1 at the place i among n, and 0 elsewhere
abbrev pub unit : ℕ → ℕ → List ℕ
unit zero i = []
unit (suc n) zero = 1 ∷ replicate n 0
unit (suc n) (suc i) = 0 ∷ unit n i

length-unit : (n i : ℕ) → length (unit n i) ≡ n
length-unit zero i = refl
length-unit (suc n) zero = ap suc (length-replicate n 0)
length-unit (suc n) (suc i) = ap suc (length-unit n i)

pub weighted-unit : (us : List (List ℕ)) (i k : ℕ) → i < length us → weighted (unit (length us) i) us k ≡ entry us i k
weighted-unit [] i k h = absurd (omega arith)
weighted-unit (u ∷ us) zero k h = omega (arith, weighted-zeros us k)
weighted-unit (u ∷ us) (suc i) k h = omega (arith, weighted-unit us i k (omega arith))

pub weighted-append : (cs : List ℕ) (us : List (List ℕ)) (c : ℕ) (u : List ℕ) (k : ℕ) → length cs ≡ length us
    → weighted (cs ++ c ∷ []) (us ++ u ∷ []) k ≡ weighted cs us k + c * get_or u k 0
weighted-append [] [] c u k h = omega arith
weighted-append [] (v ∷ us) c u k h = absurd (omega arith)
weighted-append (d ∷ cs) [] c u k h = absurd (omega arith)
weighted-append (d ∷ cs) (v ∷ us) c u k h = omega (arith, weighted-append cs us c u k (omega arith))

pub weighted-none : (cs : List ℕ) (us : List (List ℕ)) (k : ℕ) → ((i : ℕ) → i < length us → entry us i k ≡ 0) → weighted cs us k ≡ 0
weighted-none [] us k h = refl
weighted-none (c ∷ cs) [] k h = refl
weighted-none (c ∷ cs) (u ∷ us) k h =
    let here : get_or u k 0 ≡ 0 = h 0 (omega arith) in
    let rest = weighted-none cs us k (λ i l. h (suc i) (omega arith)) in
    rw (here, rest) (omega arith)

-- where one row is 1 and the others are 0
pub weighted-one : (cs : List ℕ) (us : List (List ℕ)) (k j : ℕ) → length cs ≡ length us → j < length us → entry us j k ≡ 1
    → ((i : ℕ) → i < length us → i ≢ j → entry us i k ≡ 0) → weighted cs us k ≡ get_or cs j 0
weighted-one [] us k j e h one others = absurd (omega arith)
weighted-one (c ∷ cs) [] k j e h one others = absurd (omega arith)
weighted-one (c ∷ cs) (u ∷ us) k zero e h one others =
    let here : get_or u k 0 ≡ 1 = one in
    let rest = weighted-none cs us k (λ i l. others (suc i) (omega arith) (omega arith)) in
    rw (here, rest) (omega arith)
weighted-one (c ∷ cs) (u ∷ us) k (suc j) e h one others =
    let here : get_or u k 0 ≡ 0 = others 0 (omega arith) (omega arith) in
    let rest = weighted-one cs us k j (omega arith) (omega arith) one (λ i l ne. others (suc i) (omega arith) (omega arith)) in
    rw (here, rest) (omega arith)

-- coefficients that are equal modulo p
pub weighted-same : (p : ℕ) (cs ds : List ℕ) (us : List (List ℕ)) (k : ℕ) → length cs ≡ length us → length ds ≡ length us
    → ((j : ℕ) → j < length us → get_or cs j 0 % p ≡ get_or ds j 0 % p) → weighted cs us k % p ≡ weighted ds us k % p
weighted-same p [] [] us k hc hd h = refl
weighted-same p [] (d ∷ ds) [] k hc hd h = absurd (omega arith)
weighted-same p [] (d ∷ ds) (u ∷ us) k hc hd h = absurd (omega arith)
weighted-same p (c ∷ cs) [] [] k hc hd h = absurd (omega arith)
weighted-same p (c ∷ cs) [] (u ∷ us) k hc hd h = absurd (omega arith)
weighted-same p (c ∷ cs) (d ∷ ds) [] k hc hd h = absurd (omega arith)
weighted-same p (c ∷ cs) (d ∷ ds) (u ∷ us) k hc hd h =
    let rest = weighted-same p cs ds us k (omega arith) (omega arith) (λ j l. h (suc j) (omega arith)) in
    let here : c % p ≡ d % p = h 0 (omega arith) in
    let left : c * get_or u k 0 + weighted cs us k ≡ weighted cs us k + get_or u k 0 * c = omega arith in
    let right : d * get_or u k 0 + weighted ds us k ≡ weighted ds us k + get_or u k 0 * d = omega arith in
    ap (λ n. n % p) left ∙ more-mod p (get_or u k 0) (weighted cs us k) c (weighted ds us k) d rest here ∙ ap (λ n. n % p) (sym right)

-- ---- what sums of multiples are closed under

pub zero_in : (p width : ℕ) (us : List (List ℕ)) → IsWeighted p width us (λ _. 0)
zero_in p width us = (replicate (length us) 0, length-replicate (length us) 0, λ k h. ap (λ n. n % p) (sym (weighted-zeros us k)))

pub same_in : (p width : ℕ) (us : List (List ℕ)) (f g : ℕ → ℕ) → ((k : ℕ) → k < width → f k % p ≡ g k % p) → IsWeighted p width us g → IsWeighted p width us f
same_in p width us f g e h = (h.0, h.1, λ k l. e k l ∙ h.2 k l)

pub more_in : (p width : ℕ) (us : List (List ℕ)) (f g : ℕ → ℕ) (a : ℕ) → IsWeighted p width us f → IsWeighted p width us g → IsWeighted p width us (λ k. f k + a * g k)
more_in p width us f g a hf hg = (
  plus a hf.0 hg.0,
  length-plus a hf.0 hg.0 (hf.1 ∙ sym hg.1) ∙ hf.1,
  λ k l. more-mod p a (f k) (g k) (weighted hf.0 us k) (weighted hg.0 us k) (hf.2 k l) (hg.2 k l) ∙ ap (λ n. n % p) (sym (weighted-plus a hf.0 hg.0 us k hf.1 hg.1)),
)

pub member_in : (p width : ℕ) (us : List (List ℕ)) (i : ℕ) → i < length us → IsWeighted p width us (entry us i)
member_in p width us i h = (unit (length us) i, length-unit (length us) i, λ k l. ap (λ n. n % p) (sym (weighted-unit us i k h)))

weighted_in : (p width : ℕ) (us : List (List ℕ)) (cs : List ℕ) (vs : List (List ℕ)) → Covers p width us vs → IsWeighted p width us (weighted cs vs)
weighted_in p width us [] vs h = zero_in p width us
weighted_in p width us (c ∷ cs) [] h = zero_in p width us
weighted_in p width us (c ∷ cs) (v ∷ vs) h =
    same_in p width us (λ k. c * get_or v k 0 + weighted cs vs k) (λ k. weighted cs vs k + c * get_or v k 0)
    (λ k l. ap (λ n. n % p) (omega arith))
    (more_in p width us (weighted cs vs) (λ k. get_or v k 0) c (weighted_in p width us cs vs (λ i l. h (suc i) (omega arith))) (h 0 (omega arith)))

pub through : (p width : ℕ) (us vs : List (List ℕ)) (f : ℕ → ℕ) → Covers p width us vs → IsWeighted p width vs f → IsWeighted p width us f
through p width us vs f h m = same_in p width us f (weighted m.0 vs) m.2 (weighted_in p width us m.0 vs h)

pub covers_trans : (p width : ℕ) (us vs ws : List (List ℕ)) → Covers p width us vs → Covers p width vs ws → Covers p width us ws
covers_trans p width us vs ws h m = λ i l. through p width us vs (entry ws i) h (m i l)

pub covers_self : (p width : ℕ) (us : List (List ℕ)) → Covers p width us us
covers_self p width us = λ i l. member_in p width us i l

pub covers_cons : (p width : ℕ) (us : List (List ℕ)) (v : List ℕ) (vs : List (List ℕ)) → IsWeighted p width us (λ k. get_or v k 0) → Covers p width us vs → Covers p width us (v ∷ vs)
covers_cons p width us v vs h m = λ i l. at i l
  where
    at : (i : ℕ) → i < length (v ∷ vs) → IsWeighted p width us (entry (v ∷ vs) i)
    at zero l = h
    at (suc i) l = m i (omega arith)

pub covers_tail : (p width : ℕ) (v : List ℕ) (vs : List (List ℕ)) → Covers p width (v ∷ vs) vs
covers_tail p width v vs = λ i l. member_in p width (v ∷ vs) (suc i) (omega arith)

-- a sum over two lists of rows in its two parts
pub weighted-split : (cs : List ℕ) (us vs : List (List ℕ)) (k : ℕ) → length cs ≡ length us + length vs
    → weighted cs (us ++ vs) k ≡ weighted (take (length us) cs) us k + weighted (drop (length us) cs) vs k
weighted-split cs [] vs k h = omega arith
weighted-split [] (u ∷ us) vs k h = absurd (omega arith)
weighted-split (c ∷ cs) (u ∷ us) vs k h = omega (arith, weighted-split cs us vs k (omega arith))

pub weighted_twice : (cs ds : List ℕ) (us vs : List (List ℕ)) (k : ℕ) → length cs ≡ length us → weighted (cs ++ ds) (us ++ vs) k ≡ weighted cs us k + weighted ds vs k
weighted_twice [] ds [] vs k h = omega arith
weighted_twice [] ds (u ∷ us) vs k h = absurd (omega arith)
weighted_twice (c ∷ cs) ds [] vs k h = absurd (omega arith)
weighted_twice (c ∷ cs) ds (u ∷ us) vs k h = omega (arith, weighted_twice cs ds us vs k (omega arith))
