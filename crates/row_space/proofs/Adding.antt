-- A row that is added to reduced rows.
use Rattle.std.proofs.Common.{◌≡◌, ◌≢◌, ℕ, zero, suc, ◌+◌, ◌-◌, ◌*◌, ◌%◌, ◌<◌, ◌≤◌, List, [], ◌∷◌, ◌++◌, length, get_or, refl, sym, subst, ap, ◌∙◌, arith, ⊎_elim, length-append}
use Rattle.std.proofs.lemmas.Bool.{cases_lt}
use Rattle.std.proofs.lemmas.Nat.{mul-mod_second}
use Rattle.std.proofs.lemmas.List.{get_or_append_left, get_or_push}
use Rattle.std.proofs.lemmas.List.Elements.{All-push}
use Rattle.std.proofs.Math.Nat.{mod-mod, mod_self, mod-add-mod, mod-eq_of_lt, zero-mod}
use Rattle.row_space.specs.Sums.{entry, IsWeighted, Covers}
use Rattle.row_space.specs.Echelon.{IsEchelon, IsRow, IsCleared}
use Rattle.row_space.proofs.Weights.{multiple-mod, more-mod, member_in, more_in, same_in, zero_in}

-- what is known of a row that is 0 at the pivots, of its inverse multiple and of the rows that are cleared by it
pub record IsStep (p width pivot inverse : ℕ) (us vs : List (List ℕ)) (pivots row new : List ℕ) : Type 0 where
  pub two : 2 ≤ p
  pub echelon : IsEchelon p width us pivots
  pub inside : pivot < width
  pub nonzero : (get_or row pivot 0 * inverse) % p ≡ 1
  pub front : (k : ℕ) → k < pivot → get_or row k 0 ≡ 0
  pub zeros : (j : ℕ) → j < length us → get_or row (get_or pivots j 0) 0 ≡ 0
  pub fits : IsRow p width new
  pub multiple : (k : ℕ) → k < width → get_or new k 0 ≡ (inverse * get_or row k 0) % p
  pub long : length vs ≡ length us
  pub cleared : IsCleared p width pivot new us vs

-- p times y in two parts
parts : (p c x y : ℕ) → c < p → x + (p - c) * y + c * y ≡ x + p * y
parts p c x y less =
    let d : ℕ = p - c in
    let whole : p ≡ d + c = omega arith in
    let split : p * y ≡ (p - c) * y + c * y = ap (λ n. n * y) whole ∙ omega arith in
    omega arith

module _ (p width pivot inverse : ℕ) (us vs : List (List ℕ)) (pivots row new : List ℕ) (s : IsStep p width pivot inverse us vs pivots row new) where
  old_entry : (i k : ℕ) → i < length us → entry (vs ++ new ∷ []) i k ≡ entry vs i k
  old_entry i k h = ap (λ r. get_or r k 0) (get_or_append_left vs (new ∷ []) [] i (omega (arith, s.long)))

  new_entry : (i k : ℕ) → i ≡ length us → entry (vs ++ new ∷ []) i k ≡ get_or new k 0
  new_entry i k h = ap (λ r. get_or r k 0) (get_or_push vs new [] i (omega (arith, s.long)))

  old_pivot : (j : ℕ) → j < length us → get_or (pivots ++ pivot ∷ []) j 0 ≡ get_or pivots j 0
  old_pivot j h = get_or_append_left pivots (pivot ∷ []) 0 j (omega (arith, s.echelon.count))

  new_pivot : (j : ℕ) → j ≡ length us → get_or (pivots ++ pivot ∷ []) j 0 ≡ pivot
  new_pivot j h = get_or_push pivots pivot 0 j (omega (arith, s.echelon.count))

  new_at_pivot : get_or new pivot 0 ≡ 1
  new_at_pivot = s.multiple pivot s.inside ∙ ap (λ n. n % p) (let e : inverse * get_or row pivot 0 ≡ get_or row pivot 0 * inverse = omega arith in e) ∙ s.nonzero

  new_zero : (k : ℕ) → k < width → get_or row k 0 ≡ 0 → get_or new k 0 ≡ 0
  new_zero k h z = s.multiple k h ∙ ap (λ n. (inverse * n) % p) z ∙ ap (λ n. n % p) (let e : inverse * 0 ≡ 0 = omega arith in e) ∙ zero-mod p

  new_front : (k : ℕ) → k < pivot → get_or new k 0 ≡ 0
  new_front k h = new_zero k (omega (arith, s.inside)) (s.front k h)

  new_at_old : (j : ℕ) → j < length us → get_or new (get_or pivots j 0) 0 ≡ 0
  new_at_old j h = new_zero (get_or pivots j 0) (s.echelon.within j h) (s.zeros j h)

  small : (i k : ℕ) → i < length us → k < width → entry us i k < p
  small i k h l = (s.echelon.rows i [] h).1 k 0 (omega (arith, (s.echelon.rows i [] h).0))

  -- where the new row is 0, the others stay
  stays : (i k : ℕ) → i < length us → k < width → get_or new k 0 ≡ 0 → entry vs i k ≡ entry us i k
  stays i k h l z =
      s.cleared.entries i k h l
      ∙ ap (λ n. (entry us i k + (p - entry us i pivot) * n) % p) z
      ∙ ap (λ n. n % p) (let e : entry us i k + (p - entry us i pivot) * 0 ≡ entry us i k = omega arith in e)
      ∙ mod-eq_of_lt (small i k h l)

  -- and at the pivot they become 0
  vanishes : (i : ℕ) → i < length us → entry vs i pivot ≡ 0
  vanishes i h =
      s.cleared.entries i pivot h s.inside
      ∙ ap (λ n. (entry us i pivot + (p - entry us i pivot) * n) % p) new_at_pivot
      ∙ ap (λ n. n % p) (let e : entry us i pivot + (p - entry us i pivot) * 1 ≡ p = omega (arith, small i pivot h s.inside) in e)
      ∙ mod_self p

  -- before its own pivot a row stays
  before_old : (i k : ℕ) → i < length us → k < get_or pivots i 0 → entry vs i k ≡ 0
  before_old i k h l = ⊎_elim
      (λ (a : k < pivot). stays i k h inside (new_front k a) ∙ s.echelon.before i k h l)
      (λ (a : pivot ≤ k).
      let none : entry us i pivot ≡ 0 = s.echelon.before i pivot h (omega arith) in
      s.cleared.entries i k h inside
      ∙ ap (λ n. (n + (p - entry us i pivot) * get_or new k 0) % p) (s.echelon.before i k h l)
      ∙ ap (λ n. (0 + (p - n) * get_or new k 0) % p) none
      ∙ ap (λ n. (0 + n * get_or new k 0) % p) (let e : p - 0 ≡ p = omega arith in e)
      ∙ multiple-mod p 0 (get_or new k 0) ∙ zero-mod p)
      (cases_lt k pivot)
    where
      inside : k < width
      inside = omega (arith, s.echelon.within i h)

  own : (i : ℕ) → i < length (vs ++ new ∷ []) → entry (vs ++ new ∷ []) i (get_or (pivots ++ pivot ∷ []) i 0) ≡ 1
  own i h = ⊎_elim
      (λ (a : i < length us). ap (λ k. entry (vs ++ new ∷ []) i k) (old_pivot i a) ∙ old_entry i (get_or pivots i 0) a ∙ stays i (get_or pivots i 0) a (s.echelon.within i a) (new_at_old i a) ∙ s.echelon.own i a)
      (λ (a : length us ≤ i). let last : i ≡ length us = omega (arith, length-append vs (new ∷ []), s.long) in
      ap (λ k. entry (vs ++ new ∷ []) i k) (new_pivot i last) ∙ new_entry i pivot last ∙ new_at_pivot)
      (cases_lt i (length us))

  others : (i j : ℕ) → i < length (vs ++ new ∷ []) → j < length (vs ++ new ∷ []) → i ≢ j → entry (vs ++ new ∷ []) i (get_or (pivots ++ pivot ∷ []) j 0) ≡ 0
  others i j h l ne = ⊎_elim
      (λ (a : i < length us). ⊎_elim
      (λ (b : j < length us). ap (λ k. entry (vs ++ new ∷ []) i k) (old_pivot j b) ∙ old_entry i (get_or pivots j 0) a ∙ stays i (get_or pivots j 0) a (s.echelon.within j b) (new_at_old j b) ∙ s.echelon.others i j a b ne)
      (λ (b : length us ≤ j). let last : j ≡ length us = omega (arith, length-append vs (new ∷ []), s.long) in
      ap (λ k. entry (vs ++ new ∷ []) i k) (new_pivot j last) ∙ old_entry i pivot a ∙ vanishes i a)
      (cases_lt j (length us)))
      (λ (a : length us ≤ i).
      let last : i ≡ length us = omega (arith, length-append vs (new ∷ []), s.long) in
      let b : j < length us = omega (arith, length-append vs (new ∷ []), s.long) in
      ap (λ k. entry (vs ++ new ∷ []) i k) (old_pivot j b) ∙ new_entry i (get_or pivots j 0) last ∙ new_at_old j b)
      (cases_lt i (length us))

  before : (i k : ℕ) → i < length (vs ++ new ∷ []) → k < get_or (pivots ++ pivot ∷ []) i 0 → entry (vs ++ new ∷ []) i k ≡ 0
  before i k h l = ⊎_elim
      (λ (a : i < length us). old_entry i k a ∙ before_old i k a (omega (arith, old_pivot i a)))
      (λ (a : length us ≤ i). let last : i ≡ length us = omega (arith, length-append vs (new ∷ []), s.long) in
      new_entry i k last ∙ new_front k (omega (arith, new_pivot i last)))
      (cases_lt i (length us))

  within : (i : ℕ) → i < length (vs ++ new ∷ []) → get_or (pivots ++ pivot ∷ []) i 0 < width
  within i h = ⊎_elim
      (λ (a : i < length us). omega (arith, old_pivot i a, s.echelon.within i a))
      (λ (a : length us ≤ i). let last : i ≡ length us = omega (arith, length-append vs (new ∷ []), s.long) in omega (arith, new_pivot i last, s.inside))
      (cases_lt i (length us))

  pub added : IsEchelon p width (vs ++ new ∷ []) (pivots ++ pivot ∷ [])
  added = record {
    count = omega (arith, length-append pivots (pivot ∷ []), length-append vs (new ∷ []), s.long, s.echelon.count);
    rows = All-push (IsRow p width) vs new s.cleared.rows s.fits;
    within = within;
    own = own;
    others = others;
    before = before;
  }

  new_in : IsWeighted p width (vs ++ new ∷ []) (λ k. get_or new k 0)
  new_in =
      let last : length vs < length (vs ++ new ∷ []) = omega (arith, length-append vs (new ∷ [])) in
      same_in p width (vs ++ new ∷ []) (λ k. get_or new k 0) (entry (vs ++ new ∷ []) (length vs)) (λ k h. ap (λ n. n % p) (sym (new_entry (length vs) k s.long))) (member_in p width (vs ++ new ∷ []) (length vs) last)

  -- the row is a multiple of the new one
  row_in : IsWeighted p width (vs ++ new ∷ []) (λ k. get_or row k 0)
  row_in =
      same_in p width (vs ++ new ∷ []) (λ k. get_or row k 0) (λ k. 0 + get_or row pivot 0 * get_or new k 0) back
      (more_in p width (vs ++ new ∷ []) (λ _. 0) (λ k. get_or new k 0) (get_or row pivot 0) (zero_in p width (vs ++ new ∷ [])) new_in)
    where
      back : (k : ℕ) → k < width → get_or row k 0 % p ≡ (0 + get_or row pivot 0 * get_or new k 0) % p
      back k h =
          sym (
          ap (λ n. (0 + get_or row pivot 0 * n) % p) (s.multiple k h)
          ∙ ap (λ n. n % p) (let e : 0 + get_or row pivot 0 * ((inverse * get_or row k 0) % p) ≡ get_or row pivot 0 * ((inverse * get_or row k 0) % p) = omega arith in e)
          ∙ mul-mod_second (get_or row pivot 0) (inverse * get_or row k 0) p
          ∙ ap (λ n. n % p) (let e : get_or row pivot 0 * (inverse * get_or row k 0) ≡ get_or row k 0 * (get_or row pivot 0 * inverse) = omega arith in e)
          ∙ sym (mul-mod_second (get_or row k 0) (get_or row pivot 0 * inverse) p)
          ∙ ap (λ n. (get_or row k 0 * n) % p) s.nonzero
          ∙ ap (λ n. n % p) (let e : get_or row k 0 * 1 ≡ get_or row k 0 = omega arith in e)
          )

  old_in : (i : ℕ) → i < length us → IsWeighted p width (vs ++ new ∷ []) (entry us i)
  old_in i h =
      let inside : i < length (vs ++ new ∷ []) = omega (arith, length-append vs (new ∷ []), s.long) in
      same_in p width (vs ++ new ∷ []) (entry us i) (λ k. entry (vs ++ new ∷ []) i k + entry us i pivot * get_or new k 0) back
      (more_in p width (vs ++ new ∷ []) (entry (vs ++ new ∷ []) i) (λ k. get_or new k 0) (entry us i pivot) (member_in p width (vs ++ new ∷ []) i inside) new_in)
    where
      back : (k : ℕ) → k < width → entry us i k % p ≡ (entry (vs ++ new ∷ []) i k + entry us i pivot * get_or new k 0) % p
      back k l =
          let less : entry us i pivot < p = small i pivot h s.inside in
          sym (
          ap (λ n. (n + entry us i pivot * get_or new k 0) % p) (old_entry i k h ∙ s.cleared.entries i k h l)
          ∙ mod-add-mod (entry us i k + (p - entry us i pivot) * get_or new k 0) p (entry us i pivot * get_or new k 0)
          ∙ ap (λ n. n % p) (parts p (entry us i pivot) (entry us i k) (get_or new k 0) less)
          ∙ multiple-mod p (entry us i k) (get_or new k 0)
          )

  pub covers : Covers p width (vs ++ new ∷ []) (row ∷ us)
  covers = λ i h. at i h
    where
      at : (i : ℕ) → i < length (row ∷ us) → IsWeighted p width (vs ++ new ∷ []) (entry (row ∷ us) i)
      at zero h = row_in
      at (suc i) h = old_in i (omega arith)

  pub covered : Covers p width (row ∷ us) (vs ++ new ∷ [])
  covered = λ i h. ⊎_elim
      (λ (a : i < length us).
      let next : suc i < length (row ∷ us) = omega arith in
      same_in p width (row ∷ us) (entry (vs ++ new ∷ []) i) (λ k. entry us i k + ((p - entry us i pivot) * inverse) * get_or row k 0)
      (λ k l. ap (λ n. n % p) (old_entry i k a ∙ s.cleared.entries i k a l ∙ forward (entry us i k) (p - entry us i pivot) k l) ∙ mod-mod _ p)
      (more_in p width (row ∷ us) (entry us i) (λ k. get_or row k 0) ((p - entry us i pivot) * inverse) (member_in p width (row ∷ us) (suc i) next) (member_in p width (row ∷ us) 0 (omega arith))))
      (λ (a : length us ≤ i). let last : i ≡ length us = omega (arith, length-append vs (new ∷ []), s.long) in
      same_in p width (row ∷ us) (entry (vs ++ new ∷ []) i) (λ k. 0 + inverse * get_or row k 0)
      (λ k l. ap (λ n. n % p) (new_entry i k last ∙ s.multiple k l) ∙ mod-mod (inverse * get_or row k 0) p ∙ ap (λ n. n % p) (omega arith))
      (more_in p width (row ∷ us) (λ _. 0) (λ k. get_or row k 0) inverse (zero_in p width (row ∷ us)) (member_in p width (row ∷ us) 0 (omega arith))))
      (cases_lt i (length us))
    where
      forward : (x c k : ℕ) → k < width → (x + c * get_or new k 0) % p ≡ (x + (c * inverse) * get_or row k 0) % p
      forward x c k l =
          more-mod p c x (get_or new k 0) x (inverse * get_or row k 0) refl (ap (λ n. n % p) (s.multiple k l) ∙ mod-mod (inverse * get_or row k 0) p)
          ∙ ap (λ n. n % p) (omega arith)

pub cleared_same : (p p' width width' pivot : ℕ) (row row' : List ℕ) (us us' vs : List (List ℕ)) → p ≡ p' → width ≡ width' → row ≡ row' → us ≡ us'
    → IsCleared p width pivot row us vs → IsCleared p' width' pivot row' us' vs
cleared_same p p' width width' pivot row row' us us' vs ep ew er eu h =
    subst (λ q. IsCleared q width' pivot row' us' vs) ep
    (subst (λ w. IsCleared p w pivot row' us' vs) ew
    (subst (λ r. IsCleared p width pivot r us' vs) er
    (subst (λ u. IsCleared p width pivot row u vs) eu h)))
