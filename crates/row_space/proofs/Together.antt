-- The sum of two spaces.
use Rattle.std.proofs.Common.{◌≡◌, ℕ, ◌+◌, ◌*◌, ◌%◌, ◌↔◌, List, [], ◌++◌, length, get_or, take, drop, refl, sym, ap, subst, ◌∙◌, arith, length-append}
use Rattle.std.proofs.lemmas.List.{length-take, length-drop}
use Rattle.std.proofs.Math.Nat.{mod-mod, add-mod}
use Rattle.comm_ring.specs.Modules.{combination}
use Rattle.comm_ring.specs.Rows.{rows}
use Rattle.row_space.specs.Sums.{weighted, IsWeighted, Covers}
use Rattle.row_space.specs.Subspace.{Subspace, IsIn, IsSumOf, Joins}
use Rattle.row_space.proofs.Weights.{weighted-split, through, covers_trans, more_in, same_in}
use Rattle.row_space.proofs.Gathering.{covers_append, covers_left, covers_right}
use Rattle.row_space.proofs.Members.{combination-entry, weighted_of, span_of}
use Rattle.comm_ring.proofs.Rows.{row-entry}

abbrev pub zero_space : Subspace → Subspace
zero_space s = record { prime = s.prime; width = s.width; basis = [] }

module _ (s o t u : Subspace) (prime : o.prime ≡ s.prime) (width : o.width ≡ s.width) (first : Joins (zero_space s) s.basis t) (next : Joins t o.basis u) where
  moved : (xs ys : List (List ℕ)) → Covers t.prime t.width xs ys → Covers s.prime s.width xs ys
  moved xs ys h = subst (λ q. Covers q s.width xs ys) first.prime (subst (λ v. Covers t.prime v xs ys) first.width h)

  covers : Covers s.prime s.width u.basis (s.basis ++ o.basis)
  covers =
      let all = moved u.basis (t.basis ++ o.basis) next.covers in
      let u_t = covers_trans s.prime s.width u.basis (t.basis ++ o.basis) t.basis all (covers_left s.prime s.width t.basis o.basis) in
      covers_append s.prime s.width u.basis s.basis o.basis (covers_trans s.prime s.width u.basis t.basis s.basis u_t first.covers)
      (covers_trans s.prime s.width u.basis (t.basis ++ o.basis) o.basis all (covers_right s.prime s.width t.basis o.basis))

  covered : Covers s.prime s.width (s.basis ++ o.basis) u.basis
  covered = covers_trans s.prime s.width (s.basis ++ o.basis) (t.basis ++ o.basis) u.basis
      (covers_append s.prime s.width (s.basis ++ o.basis) t.basis o.basis
      (covers_trans s.prime s.width (s.basis ++ o.basis) s.basis t.basis (covers_left s.prime s.width s.basis o.basis) first.covered)
      (covers_right s.prime s.width s.basis o.basis))
      (moved (t.basis ++ o.basis) u.basis next.covered)

  to_weighted : (f : List ℕ) → IsIn u f → IsWeighted s.prime s.width u.basis (λ k. get_or f k 0)
  to_weighted f h = subst (λ q. IsWeighted q s.width u.basis (λ k. get_or f k 0)) (next.prime ∙ first.prime) (subst (λ v. IsWeighted u.prime v u.basis (λ k. get_or f k 0)) (next.width ∙ first.width) (weighted_of u.prime u.width u.basis f h))

  from_weighted : (f : List ℕ) → IsWeighted s.prime s.width u.basis (λ k. get_or f k 0) → IsIn u f
  from_weighted f h = span_of u.prime u.width u.basis f (subst (λ v. IsWeighted u.prime v u.basis (λ k. get_or f k 0)) (sym (next.width ∙ first.width)) (subst (λ q. IsWeighted q s.width u.basis (λ k. get_or f k 0)) (sym (next.prime ∙ first.prime)) h))

  to_sum : (f : List ℕ) → IsIn u f → IsSumOf s o f
  to_sum f h =
      let w = through s.prime s.width (s.basis ++ o.basis) u.basis (λ k. get_or f k 0) covered (to_weighted f h) in
      let long : length w.0 ≡ length s.basis + length o.basis = omega (arith, w.1, length-append s.basis o.basis) in
      let cs : List ℕ = take (length s.basis) w.0 in
      let ds : List ℕ = drop (length s.basis) w.0 in (
        combination (rows s.prime s.width) cs s.basis,
        combination (rows o.prime o.width) ds o.basis,
        (cs, omega (arith, length-take (length s.basis) w.0), λ k l. refl),
        (ds, omega (arith, length-drop (length s.basis) w.0), λ k l. refl),
        λ k l.
            let right : get_or (combination (rows o.prime o.width) ds o.basis) k 0 ≡ weighted ds o.basis k % s.prime =
            combination-entry o.prime o.width ds o.basis k (omega (arith, width)) ∙ ap (λ q. weighted ds o.basis k % q) prime in
            w.2 k l
            ∙ ap (λ n. n % s.prime) (weighted-split w.0 s.basis o.basis k long)
            ∙ add-mod (weighted cs s.basis k) (weighted ds o.basis k) s.prime
            ∙ sym (
            ap (λ n. n % s.prime) (row-entry s.width _ k l ∙ ap (λ n. (n + get_or (combination (rows o.prime o.width) ds o.basis) k 0) % s.prime) (combination-entry s.prime s.width cs s.basis k l)
            ∙ ap (λ n. (weighted cs s.basis k % s.prime + n) % s.prime) right)
            ∙ mod-mod (weighted cs s.basis k % s.prime + weighted ds o.basis k % s.prime) s.prime
            ),
      )

  from_sum : (f : List ℕ) → IsSumOf s o f → IsIn u f
  from_sum f h =
      let one = weighted_of s.prime s.width s.basis h.0 h.2 in
      let two = subst (λ q. IsWeighted q s.width o.basis (λ k. get_or h.1 k 0)) prime (subst (λ v. IsWeighted o.prime v o.basis (λ k. get_or h.1 k 0)) width (weighted_of o.prime o.width o.basis h.1 h.3)) in
      from_weighted f (through s.prime s.width u.basis (s.basis ++ o.basis) (λ k. get_or f k 0) covers
      (same_in s.prime s.width (s.basis ++ o.basis) (λ k. get_or f k 0) (λ k. get_or h.0 k 0 + 1 * get_or h.1 k 0)
      (λ k l. h.4 k l ∙ ap (λ n. n % s.prime) (row-entry s.width _ k l) ∙ mod-mod (get_or h.0 k 0 + get_or h.1 k 0) s.prime ∙ ap (λ n. n % s.prime) (omega arith))
      (more_in s.prime s.width (s.basis ++ o.basis) (λ k. get_or h.0 k 0) (λ k. get_or h.1 k 0) 1
      (through s.prime s.width (s.basis ++ o.basis) s.basis (λ k. get_or h.0 k 0) (covers_left s.prime s.width s.basis o.basis) one)
      (through s.prime s.width (s.basis ++ o.basis) o.basis (λ k. get_or h.1 k 0) (covers_right s.prime s.width s.basis o.basis) two))))

  pub sum_members : (f : List ℕ) → IsIn u f ↔ IsSumOf s o f
  sum_members f = (to_sum f, from_sum f)
