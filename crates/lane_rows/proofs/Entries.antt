-- Rows from what is known of their entries.
use Rattle.std.proofs.Common.{◌≡◌, ℕ, ◌+◌, ◌*◌, ◌%◌, ◌<◌, ◌≤◌, ◌^◌, List, [], ◌∷◌, ◌++◌, length, get_or, take, drop, arith, ap, sym, ◌∙◌, suc, ◌-◌, ⊎_elim}
use Rattle.std.proofs.lemmas.Grind.{same_number_lists}
use Rattle.std.proofs.lemmas.List.{get_or-map, get_or_default, length-map, length-take, take-append-drop, take_more, length-drop}
use Rattle.std.proofs.lemmas.Bool.{cases_lt}
use Rattle.std.proofs.Math.Nat.{mod-add-mod}
use Rattle.std.proofs.lemmas.List.Elements.{All-take, All-drop}
use Rattle.std.proofs.lemmas.Simd.{get_or-zip2, length-zip2}
use Rattle.std.proofs.Math.Seq.{take-add, take-length}
use Rattle.std.proofs.lemmas.Nat.{mod_below, mul-le}
use lib.Lanes.{chunk}
use Rattle.lane_rows.specs.Rows.{AreResidues, multiple, plus_multiple, sum_of_products}

pub plus_multiple_is : (p c : ℕ) (xs ys zs : List ℕ) → length zs ≡ length xs → length ys ≡ length xs
    → ((k : ℕ) → k < length xs → get_or zs k 0 ≡ (get_or xs k 0 + c * get_or ys k 0) % p) → zs ≡ plus_multiple p c xs ys
plus_multiple_is p c xs ys zs same other entries =
    same_number_lists zs (plus_multiple p c xs ys) (same ∙ sym (length-zip2 _ xs ys (sym other)))
    (λ k h.
    let in_xs : k < length xs = omega arith in
    let in_ys : k < length ys = omega arith in
    entries k in_xs ∙ sym (get_or-zip2 (λ x y. (x + c * y) % p) xs ys k 0 0 0 in_xs in_ys))

pub multiple_is : (p c : ℕ) (xs zs : List ℕ) → length zs ≡ length xs
    → ((k : ℕ) → k < length xs → get_or zs k 0 ≡ (c * get_or xs k 0) % p) → zs ≡ multiple p c xs
multiple_is p c xs zs same entries =
    same_number_lists zs (multiple p c xs) (omega (arith, length-map xs (λ x. (c * x) % p)))
    (λ k h.
    let in_xs : k < length xs = omega arith in
    entries k in_xs ∙ sym (get_or-map (λ x. (c * x) % p) xs k 0 0 in_xs))

pub residues_of : (p : ℕ) (zs : List ℕ) (f : ℕ → ℕ) → 0 < p → ((k : ℕ) → k < length zs → get_or zs k 0 ≡ f k % p) → AreResidues p zs
residues_of p zs f pos entries = λ k d h.
    let small : f k % p < p = mod_below (f k) p pos in
    let is : get_or zs k d ≡ f k % p = get_or_default zs k d 0 h ∙ entries k h in
    omega arith

-- the sum over two rows that are cut at one place
pub sum_of_products-append : (xs ys us vs : List ℕ) → length xs ≡ length ys → sum_of_products (xs ++ us) (ys ++ vs) ≡ sum_of_products xs ys + sum_of_products us vs
sum_of_products-append [] [] us vs h = omega arith
sum_of_products-append [] (y ∷ ys) us vs h = absurd (omega arith)
sum_of_products-append (x ∷ xs) [] us vs h = absurd (omega arith)
sum_of_products-append (x ∷ xs) (y ∷ ys) us vs h = omega (arith, sum_of_products-append xs ys us vs (omega arith))

pub sum_of_products-bound : (xs ys : List ℕ) → AreResidues 32768 xs → AreResidues 32768 ys → sum_of_products xs ys ≤ length xs * 2 ^ 30
sum_of_products-bound [] ys hx hy = omega arith
sum_of_products-bound (x ∷ xs) [] hx hy = omega arith
sum_of_products-bound (x ∷ xs) (y ∷ ys) hx hy =
    let first : x * y ≤ 32768 * 32768 = mul-le x y 32768 32768 (omega (arith, hx 0 0 (omega arith))) (omega (arith, hy 0 0 (omega arith))) in
    let rest = sum_of_products-bound xs ys (λ k d h. hx (suc k) d (omega arith)) (λ k d h. hy (suc k) d (omega arith)) in
    omega arith

pub sum_of_products-take : (n m : ℕ) (xs ys : List ℕ) → length xs ≡ length ys
    → sum_of_products (take (n + m) xs) (take (n + m) ys) ≡ sum_of_products (take n xs) (take n ys) + sum_of_products (chunk n m xs) (chunk n m ys)
sum_of_products-take n m xs ys h =
    rw (take-add n m xs, take-add n m ys) (sum_of_products-append (take n xs) (take n ys) (chunk n m xs) (chunk n m ys) (omega (arith, length-take n xs, length-take n ys)))

pub sum_of_products-take_drop : (n : ℕ) (xs ys : List ℕ) → length xs ≡ length ys
    → sum_of_products xs ys ≡ sum_of_products (take n xs) (take n ys) + sum_of_products (drop n xs) (drop n ys)
sum_of_products-take_drop n xs ys h =
    let whole = sum_of_products-append (take n xs) (take n ys) (drop n xs) (drop n ys) (omega (arith, length-take n xs, length-take n ys)) in
    rw (take-append-drop n xs, take-append-drop n ys) at whole

pub sum_of_products_more : (k : ℕ) (xs ys : List ℕ) → length xs ≡ length ys → k < length xs
    → sum_of_products (take (k + 1) xs) (take (k + 1) ys) ≡ sum_of_products (take k xs) (take k ys) + get_or xs k 0 * get_or ys k 0
sum_of_products_more k xs ys h inside =
    let other : k < length ys = omega arith in
    rw (take_more xs k 0 inside, take_more ys k 0 other)
    (sum_of_products-append (take k xs) (take k ys) (get_or xs k 0 ∷ []) (get_or ys k 0 ∷ []) (omega (arith, length-take k xs, length-take k ys)) ∙ omega arith)

pub sum_of_products-chunk_bound : (n m : ℕ) (xs ys : List ℕ) → AreResidues 32768 xs → AreResidues 32768 ys
    → sum_of_products (chunk n m xs) (chunk n m ys) ≤ m * 2 ^ 30
sum_of_products-chunk_bound n m xs ys hx hy =
    let bound = sum_of_products-bound (chunk n m xs) (chunk n m ys) (All-take (λ x. x < 32768) m (drop n xs) (All-drop (λ x. x < 32768) n xs hx)) (All-take (λ x. x < 32768) m (drop n ys) (All-drop (λ x. x < 32768) n ys hy)) in
    omega (arith, length-take m (drop n xs), mul-le (length (chunk n m xs)) (2 ^ 30) m (2 ^ 30) (omega (arith, length-take m (drop n xs))) (omega arith))

-- a row whose entries below start were changed first, and the others after them
pub entries_of_parts : (f : ℕ → ℕ → ℕ) (n start : ℕ) (old mid new : List ℕ)
    → ((k : ℕ) → k < start → get_or mid k 0 ≡ f k (get_or old k 0)) → ((k : ℕ) → start ≤ k → get_or mid k 0 ≡ get_or old k 0)
    → ((k : ℕ) → k < start → get_or new k 0 ≡ get_or mid k 0) → ((k : ℕ) → start ≤ k → k < n → get_or new k 0 ≡ f k (get_or mid k 0))
    → (k : ℕ) → k < n → get_or new k 0 ≡ f k (get_or old k 0)
entries_of_parts f n start old mid new done kept below above k h = ⊎_elim
    (λ low. below k low ∙ done k low)
    (λ high. above k high h ∙ ap (f k) (kept k high))
    (cases_lt k start)

-- a step and the end of the sum by blocks
pub blocks_more : (p i total block : ℕ) (xs ys : List ℕ) → length xs ≡ length ys
    → total ≡ sum_of_products (take (i * 1048576) xs) (take (i * 1048576) ys) % p
    → block ≡ sum_of_products (chunk (i * 1048576) ((i + 1) * 1048576 - i * 1048576) xs) (chunk (i * 1048576) ((i + 1) * 1048576 - i * 1048576) ys)
    → (total + block) % p ≡ sum_of_products (take ((i + 1) * 1048576) xs) (take ((i + 1) * 1048576) ys) % p
blocks_more p i total block xs ys h before here =
    let next : (i + 1) * 1048576 ≡ i * 1048576 + 1048576 = omega arith in
    let size : (i + 1) * 1048576 - i * 1048576 ≡ 1048576 = omega arith in
    let this = rw size at here in
    ap (λ n. (n + block) % p) before
    ∙ mod-add-mod (sum_of_products (take (i * 1048576) xs) (take (i * 1048576) ys)) p block
    ∙ ap (λ n. (sum_of_products (take (i * 1048576) xs) (take (i * 1048576) ys) + n) % p) this
    ∙ ap (λ n. n % p) (sym (sum_of_products-take (i * 1048576) 1048576 xs ys h))
    ∙ ap (λ n. sum_of_products (take n xs) (take n ys) % p) (sym next)

pub blocks_all : (p n total block : ℕ) (xs ys : List ℕ) → length xs ≡ length ys
    → total ≡ sum_of_products (take n xs) (take n ys) % p
    → block ≡ sum_of_products (take (length xs - n) (drop n xs)) (take (length ys - n) (drop n ys))
    → (total + block) % p ≡ sum_of_products xs ys % p
blocks_all p n total block xs ys h before here =
    ap (λ t. (t + block) % p) before
    ∙ mod-add-mod (sum_of_products (take n xs) (take n ys)) p block
    ∙ ap (λ t. (sum_of_products (take n xs) (take n ys) + t) % p) (here ∙ rest)
    ∙ ap (λ t. t % p) (sym (sum_of_products-take_drop n xs ys h))
  where
    rest : sum_of_products (take (length xs - n) (drop n xs)) (take (length ys - n) (drop n ys)) ≡ sum_of_products (drop n xs) (drop n ys)
    rest = rw (← length-drop n xs, ← length-drop n ys, take-length (drop n xs), take-length (drop n ys))
