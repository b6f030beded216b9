use Rattle.std.proofs.Common.{◌∙◌, ℕ, List, [], get_or, subst}
use Rattle.std.proofs.lemmas.List.{get_or_default}
use Rattle.prime_field.specs.Primes.{IsPrime}
use Rattle.finite_algebra.specs.Elements.{elements, times}
use Rattle.frobenius_split.proofs.IdempotentLaws.{own_square}
use Rattle.frobenius_split.proofs.FrameLaws.{inside_times}
use Rattle.frobenius_split.proofs.frames.grown.Goals as goal

pub loop-exponent-init : goal.loop-exponent-init
loop-exponent-init c =
    let A = c.args.a.now in
    let es = c.args.es.now in
    let k = c.args.k in
    let prime = subst IsPrime (c.get-p.ensures.value ∙ c.prime.ensures) c.get-p.ensures.prime in
    let laws = c.one-one.ensures.laws in
    let row_is = c.as_slice.ensures ∙ c.index-es-k.is ∙ get_or_default es k c.index-es-k.result [] c.requires.k in
    record {
      frame = c.requires.frame;
      prime = c.requires.space.0;
      width = c.requires.space.1;
      row = c.in_ok-row.ensures.element;
      inside = inside_times A prime laws c.args.y.now (get_or es k []) (get_or es k []) c.in_ok-row.row (own_square A prime laws A.one es c.requires.es k c.requires.k)
          (subst (λ (r : List ℕ). (elements A).◌≋◌ c.in_ok-row.row (times A c.args.y.now r)) row_is c.in_ok-row.ensures.product);
    }

pub loop-exponent-preserved : goal.loop-exponent-preserved
loop-exponent-preserved c =
    let A = c.args.a.now in
    let es = c.args.es.now in
    let prime = subst IsPrime (c.get-p.ensures.value ∙ c.prime.ensures) c.get-p.ensures.prime in
    record {
      frame = c.in_ok-more.ensures.frame;
      prime = c.in_ok-more.ensures.space.0;
      width = c.in_ok-more.ensures.space.1;
      row = c.in_ok-row-2.ensures.element;
      inside = inside_times A prime c.one-one.ensures.laws c.args.y.now c.loop-exponent.row (get_or es c.args.k []) c.in_ok-row-2.row c.loop-exponent.invariant.inside
          (subst (λ (r : List ℕ). (elements A).◌≋◌ c.in_ok-row-2.row (times A c.args.y.now r)) c.as_slice-in-loop-exponent-2.ensures c.in_ok-row-2.ensures.product);
    }
