-- As many rows behind zeros.
use Rattle.std.proofs.Common.{◌≡◌, ℕ, ◌+◌, ◌-◌, ◌*◌, ◌%◌, ◌<◌, ◌≤◌, List, [], ◌∷◌, map, length, get_or, drop, All, refl, sym, ap, ap₂, ◌∙◌, subst, arith}
use Rattle.std.proofs.lemmas.List.{length-map, get_or-drop}
use Rattle.prime_field.specs.Primes.{IsPrime}
use Rattle.prime_field.proofs.Table.{positive_of_prime}
use Rattle.comm_ring.specs.Modules.{InSpan}
use Rattle.comm_ring.specs.Rows.{rows}
use Rattle.comm_ring.proofs.Exchange as Exchange
use Rattle.comm_ring.proofs.Fields.{residue_field}
use Rattle.comm_ring.proofs.Residues.{residues}
use Rattle.comm_ring.proofs.Rows.{row_module}
use Rattle.row_space.specs.Sums.{weighted}
use Rattle.row_space.specs.Subspace.{Subspace, IsReduced}
use Rattle.row_space.proofs.Members.{weighted_of, span_of}
use Rattle.over_module.specs.Raising.{behind_zeros, IsRaised}
use Rattle.over_module.proofs.ZeroRows.{behind, fits_of, independent_of, own_row, raised_sum}
use Rattle.over_module.proofs.SummedRows.{by_other_names}

sum_dropped : (z k : ℕ) (cs : List ℕ) (us : List (List ℕ)) → weighted cs (map (drop z) us) k ≡ weighted cs us (z + k)
sum_dropped z k [] us = refl
sum_dropped z k (c ∷ cs) [] = refl
sum_dropped z k (c ∷ cs) (u ∷ us) = ap₂ ◌+◌ (ap (λ x. c * x) (get_or-drop z u k 0)) (sum_dropped z k cs us)

module _ (z p w : ℕ) (prime : IsPrime p) (us vs : List (List ℕ)) where
  abbrev low : Subspace
  low = record { prime = p; width = w; basis = us }

  abbrev high : Subspace
  high = record { prime = p; width = z + w; basis = vs }

  module _ (r : IsRaised z low high) (el : IsReduced low) (eh : IsReduced high) where
    positive : 0 < p
    positive = positive_of_prime p prime

    high_in : All (InSpan (rows p (z + w)) (map (behind_zeros z) us)) vs
    high_in i d l =
        let row = get_or vs i d in
        let t = r.down row (fits_of high eh i d l) (own_row high i d l) in
        subst (InSpan (rows p (z + w)) (map (behind_zeros z) us)) (sym t.1)
        (span_of p (z + w) (map (behind_zeros z) us) (behind_zeros z t.0) (raised_sum p z w us t.0 (weighted_of p w us t.0 t.2)))

    low_in : All (InSpan (rows p w) (map (drop z) vs)) us
    low_in i d l =
        let row = get_or us i d in
        let t = weighted_of p (z + w) vs (behind_zeros z row) (r.up row (fits_of low el i d l) (own_row low i d l)) in
        span_of p w (map (drop z) vs) row (
          t.0,
          t.1 ∙ sym (length-map vs (drop z)),
          λ k m.
              let at : get_or (behind_zeros z row) (z + k) 0 ≡ get_or row k 0 = behind z (z + k) row (omega arith) ∙ ap (λ n. get_or row n 0) (let q : z + k - z ≡ k = omega arith in q) in
              ap (λ x. x % p) (sym at) ∙ t.2 (z + k) (omega arith) ∙ ap (λ x. x % p) (sym (sum_dropped z k t.0 vs)),
        )

    as_many : length vs ≡ length us
    as_many =
        let a : length vs ≤ length (map (behind_zeros z) us) =
        Exchange.independent_few (residues p positive) (residue_field p prime) (row_module p positive (z + w)) vs (map (behind_zeros z) us) (independent_of high eh) high_in in
        let b : length us ≤ length (map (drop z) vs) =
        Exchange.independent_few (residues p positive) (residue_field p prime) (row_module p positive w) us (map (drop z) vs) (independent_of low el) low_in in
        let m : length (map (behind_zeros z) us) ≡ length us = length-map us (behind_zeros z) in
        let n : length (map (drop z) vs) ≡ length vs = length-map vs (drop z) in
        omega arith

-- a space and the one with its rows behind zeros have as many rows
pub same_rank : (z : ℕ) (low high : Subspace) → IsPrime low.prime → IsRaised z low high → IsReduced low → IsReduced high → length high.basis ≡ length low.basis
same_rank z low high prime r el eh =
    let e = by_other_names high low.prime (z + low.width) r.prime r.width in
    as_many z low.prime low.width prime low.basis high.basis (subst (IsRaised z low) e r) el (subst IsReduced e eh)
