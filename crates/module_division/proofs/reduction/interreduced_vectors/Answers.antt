use Rattle.std.proofs.Common.{ℕ, ◌<◌, get_or, length, sym, ap, ◌∙◌, subst}
use Rattle.std.specs.List.{All, Contains}
use Rattle.std.specs.List.Sorted.{IsPermutation}
use Rattle.polys.specs.Poly.{Polynomial, terms_of}
use Rattle.module_division.specs.Division.{IsDivisor}
use Rattle.module_division.specs.Reduction.{IsCore, IsTailReduced}
use Rattle.module_division.proofs.Interreducing.{kept_divisors, interreduction}
use Rattle.module_division.proofs.reduction.interreduced_vectors.Goals as goal

pub with_reduced_tails-requires : goal.with_reduced_tails-requires
with_reduced_tails-requires c =
    let perm = subst (λ xs. IsPermutation xs c.sort_by_leads.new.vectors.items) c.in_ok-sorted.ensures c.in_ok-sort_by_leads.ensures.same in
    subst (All (IsDivisor c.args.p)) (sym c.deref-2.ensures.value)
    (kept_divisors c.args.p c.args.vectors.now c.sort_by_leads.new.vectors.items c.in_ok-kept.kept.items c.requires perm
    (λ f h. subst (λ xs. Contains xs f) c.deref.ensures.value (c.in_ok-kept.ensures.same f h)))

pub returns : goal.returns
returns c =
    let perm = subst (λ xs. IsPermutation xs c.sort_by_leads.new.vectors.items) c.in_ok-sorted.ensures c.in_ok-sort_by_leads.ensures.same in
    let kept = c.in_ok-kept.kept.items in
    let qs = c.in_ok-reduced.reduced.items in
    interreduction c.args.p c.args.vectors.now c.sort_by_leads.new.vectors.items kept qs perm
    (subst (λ xs. IsCore (terms_of xs) (terms_of kept)) c.deref.ensures.value c.in_ok-kept.ensures.core)
    (c.in_ok-reduced.ensures.as_many ∙ ap length c.deref-2.ensures.value) c.in_ok-reduced.ensures.primes
    (subst (λ xs. (k : ℕ) (d e : Polynomial) → k < length xs → IsTailReduced c.args.p (terms_of xs) (get_or xs k d).terms (get_or qs k e).terms) c.deref-2.ensures.value c.in_ok-reduced.ensures.tails)
