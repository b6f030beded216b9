-- The right parts of sums whose left part is 0.
use Rattle.std.proofs.Common.{◌≡◌, ◌⊎◌, ℕ, suc, ◌+◌, ◌*◌, ◌%◌, ◌<◌, ◌≤◌, List, [], ◌∷◌, ◌++◌, length, get_or, drop, refl, sym, ap, subst, ◌∙◌, arith, ⊎_elim, inl, inr, length-append}
use Rattle.std.proofs.lemmas.Bool.{cases_lt}
use Rattle.std.proofs.lemmas.List.{get_or-drop, get_or_append_left, get_or_push}
use Rattle.row_space.specs.Sums.{entry, weighted, IsWeighted, Covers, IsRightPart}
use Rattle.row_space.specs.Echelon.{IsEchelon}
use Rattle.row_space.specs.Subspace.{Subspace, Joins}
use Rattle.row_space.proofs.Weights.{more-mod, zero_in, more_in, same_in, member_in, through, covers_trans}
use Rattle.row_space.proofs.Gathering.{covers_left, covers_right}
use Rattle.row_space.proofs.Rest.{coefficient}

right_zero : (p left width : ℕ) (us : List (List ℕ)) → IsRightPart p left width us (λ _. 0)
right_zero p left width us = ((λ _. 0), zero_in p (left + width) us, (λ k h. refl), (λ k h. refl))

right_more : (p left width : ℕ) (us : List (List ℕ)) (f g : ℕ → ℕ) (a : ℕ) → IsRightPart p left width us f → IsRightPart p left width us g → IsRightPart p left width us (λ k. f k + a * g k)
right_more p left width us f g a hf hg = (
  (λ k. hf.0 k + a * hg.0 k),
  more_in p (left + width) us hf.0 hg.0 a hf.1 hg.1,
  (λ k h. more-mod p a (hf.0 k) (hg.0 k) 0 0 (hf.2 k h) (hg.2 k h) ∙ ap (λ n. n % p) (omega arith)),
  (λ k h. more-mod p a (f k) (g k) (hf.0 (left + k)) (hg.0 (left + k)) (hf.3 k h) (hg.3 k h)),
)

pub right_same : (p left width : ℕ) (us : List (List ℕ)) (f g : ℕ → ℕ) → ((k : ℕ) → k < width → f k % p ≡ g k % p) → IsRightPart p left width us g → IsRightPart p left width us f
right_same p left width us f g e h = (h.0, h.1, h.2, (λ k l. e k l ∙ h.3 k l))

right_sum : (p left width : ℕ) (us : List (List ℕ)) (cs : List ℕ) (vs : List (List ℕ)) → ((i : ℕ) → i < length vs → IsRightPart p left width us (entry vs i)) → IsRightPart p left width us (weighted cs vs)
right_sum p left width us [] vs h = right_zero p left width us
right_sum p left width us (c ∷ cs) [] h = right_zero p left width us
right_sum p left width us (c ∷ cs) (v ∷ vs) h =
    right_same p left width us (λ k. c * get_or v k 0 + weighted cs vs k) (λ k. weighted cs vs k + c * get_or v k 0)
    (λ k l. ap (λ n. n % p) (omega arith))
    (right_more p left width us (weighted cs vs) (λ k. get_or v k 0) c (right_sum p left width us cs vs (λ i l. h (suc i) (omega arith))) (h 0 (omega arith)))

pub right_through : (p left width : ℕ) (us vs : List (List ℕ)) (f : ℕ → ℕ) → ((i : ℕ) → i < length vs → IsRightPart p left width us (entry vs i)) → IsWeighted p width vs f → IsRightPart p left width us f
right_through p left width us vs f h m = right_same p left width us f (weighted m.0 vs) m.2 (right_sum p left width us m.0 vs h)

-- the same right parts come from rows that span the same
pub right_covers : (p left width : ℕ) (us vs : List (List ℕ)) (f : ℕ → ℕ) → Covers p (left + width) us vs → IsRightPart p left width vs f → IsRightPart p left width us f
right_covers p left width us vs f h m = (m.0, through p (left + width) us vs m.0 h m.1, m.2, m.3)

-- a sum of right parts, where each row is in or has the coefficient 0
tails_in : (p left width : ℕ) (ts : List (List ℕ)) (cs : List ℕ) (us : List (List ℕ)) → length cs ≡ length us
    → ((j : ℕ) → j < length us → (get_or cs j 0 % p ≡ 0 % p) ⊎ IsWeighted p width ts (λ k. entry us j (left + k))) → IsWeighted p width ts (λ k. weighted cs us (left + k))
tails_in p left width ts [] [] e h = zero_in p width ts
tails_in p left width ts [] (u ∷ us) e h = absurd (omega arith)
tails_in p left width ts (c ∷ cs) [] e h = absurd (omega arith)
tails_in p left width ts (c ∷ cs) (u ∷ us) e h =
    let rest : IsWeighted p width ts (λ k. weighted cs us (left + k)) = tails_in p left width ts cs us (omega arith) (λ j l. h (suc j) (omega arith)) in
    ⊎_elim
    (λ (z : c % p ≡ 0 % p).
    same_in p width ts (λ k. c * get_or u (left + k) 0 + weighted cs us (left + k)) (λ k. weighted cs us (left + k))
    (λ k l. ap (λ n. n % p) (let e : c * get_or u (left + k) 0 + weighted cs us (left + k) ≡ weighted cs us (left + k) + get_or u (left + k) 0 * c = omega arith in e)
    ∙ more-mod p (get_or u (left + k) 0) (weighted cs us (left + k)) c (weighted cs us (left + k)) 0 refl z
    ∙ ap (λ n. n % p) (let e : weighted cs us (left + k) + get_or u (left + k) 0 * 0 ≡ weighted cs us (left + k) = omega arith in e))
    rest)
    (λ (m : IsWeighted p width ts (λ k. get_or u (left + k) 0)).
    same_in p width ts (λ k. c * get_or u (left + k) 0 + weighted cs us (left + k)) (λ k. weighted cs us (left + k) + c * get_or u (left + k) 0)
    (λ k l. ap (λ n. n % p) (omega arith))
    (more_in p width ts (λ k. weighted cs us (left + k)) (λ k. get_or u (left + k) 0) c rest m))
    (h 0 (omega arith))

-- the rows so far that have their pivot on the right are in, and nothing else is
pub record HasRightParts (left i : ℕ) (us : List (List ℕ)) (pivots : List ℕ) (old new : Subspace) : Type 0 where
  pub prime : new.prime ≡ old.prime
  pub width : new.width ≡ old.width
  pub kept : (j : ℕ) → j < i → left ≤ get_or pivots j 0 → IsWeighted old.prime old.width new.basis (λ k. entry us j (left + k))
  pub parts : (m : ℕ) → m < length new.basis → IsRightPart old.prime left old.width us (entry new.basis m)

module _ (left : ℕ) (us : List (List ℕ)) (pivots : List ℕ) (s : Subspace) (e : IsEchelon s.prime (left + s.width) us pivots) where
  pub parts_skip : (i : ℕ) (t : Subspace) → get_or pivots i 0 < left → HasRightParts left i us pivots s t → HasRightParts left (i + 1) us pivots s t
  parts_skip i t h r = record {
    prime = r.prime;
    width = r.width;
    kept = λ j l m. ⊎_elim
        (λ (a : j < i). r.kept j a m)
        (λ (a : i ≤ j). let same : i ≡ j = omega arith in absurd (let less = ap (λ n. get_or pivots n 0) same in omega arith))
        (cases_lt j i);
    parts = r.parts;
  }

  pub parts_more : (i : ℕ) (t u : Subspace) → i < length us → left ≤ get_or pivots i 0 → HasRightParts left i us pivots s t → Joins t (drop left (get_or us i []) ∷ []) u → HasRightParts left (i + 1) us pivots s u
  parts_more i t u inside right r joins = record {
    prime = joins.prime ∙ r.prime;
    width = joins.width ∙ r.width;
    kept = λ j l m. ⊎_elim
        (λ (a : j < i). through s.prime s.width u.basis t.basis (λ k. entry us j (left + k)) u_t (r.kept j a m))
        (λ (a : i ≤ j). let same : i ≡ j = omega arith in subst (λ n. IsWeighted s.prime s.width u.basis (λ k. entry us n (left + k))) same new_in)
        (cases_lt j i);
    parts = λ m h. right_through s.prime left s.width us (t.basis ++ drop left (get_or us i []) ∷ []) (entry u.basis m) all_parts (moved (t.basis ++ drop left (get_or us i []) ∷ []) u.basis joins.covered m h);
  }
    where
      moved : (xs ys : List (List ℕ)) → Covers t.prime t.width xs ys → Covers s.prime s.width xs ys
      moved xs ys h = subst (λ q. Covers q s.width xs ys) r.prime (subst (λ v. Covers t.prime v xs ys) r.width h)

      u_all : Covers s.prime s.width u.basis (t.basis ++ drop left (get_or us i []) ∷ [])
      u_all = moved u.basis (t.basis ++ drop left (get_or us i []) ∷ []) joins.covers

      u_t : Covers s.prime s.width u.basis t.basis
      u_t = covers_trans s.prime s.width u.basis (t.basis ++ drop left (get_or us i []) ∷ []) t.basis u_all (covers_left s.prime s.width t.basis (drop left (get_or us i []) ∷ []))

      new_in : IsWeighted s.prime s.width u.basis (λ k. entry us i (left + k))
      new_in =
          same_in s.prime s.width u.basis (λ k. entry us i (left + k)) (λ k. get_or (drop left (get_or us i [])) k 0) (λ k l. ap (λ n. n % s.prime) (sym (get_or-drop left (get_or us i []) k 0)))
          (covers_trans s.prime s.width u.basis (t.basis ++ drop left (get_or us i []) ∷ []) (drop left (get_or us i []) ∷ []) u_all (covers_right s.prime s.width t.basis (drop left (get_or us i []) ∷ [])) 0 (omega arith))

      -- the row itself is 0 on the left
      new_part : IsRightPart s.prime left s.width us (λ k. get_or (drop left (get_or us i [])) k 0)
      new_part = (
        entry us i,
        member_in s.prime (left + s.width) us i inside,
        (λ k h. ap (λ n. n % s.prime) (e.before i k inside (omega arith))),
        (λ k h. ap (λ n. n % s.prime) (get_or-drop left (get_or us i []) k 0)),
      )

      all_parts : (m : ℕ) → m < length (t.basis ++ drop left (get_or us i []) ∷ []) → IsRightPart s.prime left s.width us (entry (t.basis ++ drop left (get_or us i []) ∷ []) m)
      all_parts m h = ⊎_elim
          (λ (a : m < length t.basis). subst (λ x. IsRightPart s.prime left s.width us (λ k. get_or x k 0)) (sym (get_or_append_left t.basis (drop left (get_or us i []) ∷ []) [] m a)) (r.parts m a))
          (λ (a : length t.basis ≤ m). subst (λ x. IsRightPart s.prime left s.width us (λ k. get_or x k 0))
          (sym (get_or_push t.basis (drop left (get_or us i [])) [] m (omega (arith, length-append t.basis (drop left (get_or us i []) ∷ []))))) new_part)
          (cases_lt m (length t.basis))

  pub parts_all : (n : ℕ) (t : Subspace) → n ≡ length us → HasRightParts left n us pivots s t → (f : ℕ → ℕ) → (IsWeighted s.prime s.width t.basis f → IsRightPart s.prime left s.width us f) × (IsRightPart s.prime left s.width us f → IsWeighted s.prime s.width t.basis f)
  parts_all n t end r f = (right_through s.prime left s.width us t.basis f r.parts, back)
    where
      back : IsRightPart s.prime left s.width us f → IsWeighted s.prime s.width t.basis f
      back h =
          same_in s.prime s.width t.basis f (λ k. weighted h.1.0 us (left + k)) (λ k l. h.3 k l ∙ h.1.2 (left + k) (omega arith))
          (tails_in s.prime left s.width t.basis h.1.0 us h.1.1 (λ j l. ⊎_elim
          (λ (a : get_or pivots j 0 < left). inl (
          ap (λ n. n % s.prime) (sym (coefficient s.prime (left + s.width) us pivots h.1.0 e h.1.1 j l))
          ∙ sym (h.1.2 (get_or pivots j 0) (e.within j l)) ∙ h.2 (get_or pivots j 0) a
          ))
          (λ (a : left ≤ get_or pivots j 0). inr (r.kept j (omega arith) a))
          (cases_lt (get_or pivots j 0) left)))
