use Rattle.std.proofs.Common.{◌≡◌, ◌<◌, length, arith, ap, ◌∙◌, get_or, cond, ltb, false}
use Rattle.std.proofs.lemmas.Simd.{get_or-sel_l, get_or-zip2, tops_compared, length-zip2}
use lib.Lanes.{sel_l, zip2}
use mir.Syntax.{w32}
use Rattle.lane_rows.proofs.Residues.{cond-min}
use Rattle.lane_rows.proofs.lanes.least.Goals as goal

pub returns : goal.returns
returns c = λ j h.
    let la : j < length c.args.a = omega (arith, c.fits-a.0) in
    let lb : j < length c.args.b = omega (arith, c.fits-b.0) in
    let same : length c.args.a ≡ length c.args.b = omega (arith, c.fits-a.0, c.fits-b.0) in
    let lm : j < length (zip2 ltb c.args.a c.args.b) = omega (arith, length-zip2 ltb c.args.a c.args.b same) in
    ap (λ ms. get_or (sel_l ms c.args.a c.args.b) j 0) (tops_compared w32 ltb c.args.a c.args.b)
    ∙ get_or-sel_l (zip2 ltb c.args.a c.args.b) c.args.a c.args.b j 0 lm la lb
    ∙ ap (λ t. cond t (get_or c.args.a j 0) (get_or c.args.b j 0)) (get_or-zip2 ltb c.args.a c.args.b j 0 0 false la lb)
    ∙ cond-min (get_or c.args.a j 0) (get_or c.args.b j 0)
