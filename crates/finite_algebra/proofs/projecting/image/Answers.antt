use Rattle.std.proofs.Common.{◌≡◌, ◌<◌, ◌+◌, ◌*◌, ◌%◌, ℕ, length, get_or, arith, ap, ◌∙◌}
use Rattle.std.proofs.lemmas.List.{length-replicate}
use Rattle.row_space.specs.Sums.{weighted}
use Rattle.finite_algebra.proofs.Summing.{image_is}
use Rattle.finite_algebra.proofs.projecting.image.Goals as goal
use Rattle.row_space.proofs.Written.{written_whole}

pub returns : goal.returns
returns c =
    let out = c.add_multiples.new.out in
    let positive : 0 < c.args.prime = omega (arith, c.get-p.ensures.range, c.get-p.ensures.value) in
    let started = c.as_mut_slice.ensures.value ∙ c.in_ok-out.ensures in
    let long : length out ≡ c.args.columns = omega (arith, c.add_multiples.auto.out, ap length started, length-replicate {A = ℕ} c.args.columns 0) in
    c.of_vec.ensures ∙ written_whole c.in_ok-out.out.len out c.in_ok-out.out.items (omega (arith, c.as_mut_slice.ensures.len, c.add_multiples.auto.out))
    ∙ image_is c.args.prime c.args.columns positive c.args.v.now c.args.matrix.now out long
    (λ t h. c.add_multiples.ensures.entries t (omega (arith, c.add_multiples.auto.out, long))
    ∙ ap (λ r. (get_or r t 0 + 1 * weighted c.args.v.now c.args.matrix.now t) % c.args.prime) started)
