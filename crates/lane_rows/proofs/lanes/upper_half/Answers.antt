use Rattle.std.proofs.Common.{◌<◌, ◌/◌, ◌^◌, length, arith, ap, ◌∙◌, replicate, get_or}
use Rattle.std.proofs.lemmas.Simd.{get_or-replicate, get_or-zip2}
use Rattle.lane_rows.proofs.lanes.upper_half.Goals as goal

pub returns : goal.returns
returns c = λ j h.
    let within : j < length c.args.a = omega (arith, c.fits-a.0) in
    get_or-zip2 _ c.args.a (replicate 8 16) j 0 0 0 within h
    ∙ ap (λ k. get_or c.args.a j 0 / 2 ^ k) (get_or-replicate 8 j 16 0 h)
