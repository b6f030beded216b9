-- Sums of multiples of rows in the module of all rows.
use Rattle.std.proofs.Common.{◌≡◌, ℕ, ◌+◌, ◌*◌, ◌%◌, ◌<◌, List, [], ◌∷◌, get_or, sym, ap, ◌∙◌}
use Rattle.std.proofs.Math.Nat.{mod-mod, add-mod, zero-mod}
use Rattle.comm_ring.specs.Modules.{combine, combination, InSpan}
use Rattle.comm_ring.specs.Rows.{rows}
use Rattle.comm_ring.proofs.Rows.{row-entry}
use Rattle.row_space.specs.Sums.{weighted, IsWeighted}

pub combination-entry : (p width : ℕ) (cs : List ℕ) (us : List (List ℕ)) (k : ℕ) → k < width → get_or (combination (rows p width) cs us) k 0 ≡ weighted cs us k % p
unfolding combine
combination-entry p width [] us k h = row-entry width (λ _. 0) k h ∙ sym (zero-mod p)
combination-entry p width (c ∷ cs) [] k h = row-entry width (λ _. 0) k h ∙ sym (zero-mod p)
combination-entry p width (c ∷ cs) (u ∷ us) k h =
    row-entry width _ k h
    ∙ ap (λ n. (n + get_or (combination (rows p width) cs us) k 0) % p) (row-entry width (λ i. (c * get_or u i 0) % p) k h)
    ∙ ap (λ n. ((c * get_or u k 0) % p + n) % p) (combination-entry p width cs us k h)
    ∙ sym (add-mod (c * get_or u k 0) (weighted cs us k) p)

pub weighted_of : (p width : ℕ) (us : List (List ℕ)) (f : List ℕ) → InSpan (rows p width) us f → IsWeighted p width us (λ k. get_or f k 0)
weighted_of p width us f h = (h.0, h.1, λ k l. h.2 k l ∙ ap (λ n. n % p) (combination-entry p width h.0 us k l) ∙ mod-mod (weighted h.0 us k) p)

pub span_of : (p width : ℕ) (us : List (List ℕ)) (f : List ℕ) → IsWeighted p width us (λ k. get_or f k 0) → InSpan (rows p width) us f
span_of p width us f h = (h.0, h.1, λ k l. h.2 k l ∙ sym (ap (λ n. n % p) (combination-entry p width h.0 us k l) ∙ mod-mod (weighted h.0 us k) p))
