use Rattle.std.proofs.Common.{◌+◌, ◌-◌, ◌*◌, ◌/◌, ◌<◌, arith, sym}
use Rattle.lane_rows.proofs.Residues.{estimates, residue}
use Rattle.lane_rows.proofs.multiples.product_modulo.Goals as goal

pub overflow_sub-rest : goal.overflow_sub-rest
overflow_sub-rest c =
    (estimates c.args.p c.args.c c.args.factor c.args.y c.requires.range.0 c.requires.range.1 c.requires.range.2 c.requires.factor c.requires.residue).low

pub returns-then-rest-p : goal.returns-then-rest-p
returns-then-rest-p c =
    let e = estimates c.args.p c.args.c c.args.factor c.args.y c.requires.range.0 c.requires.range.1 c.requires.range.2 c.requires.factor c.requires.residue in
    let low = e.low in
    sym (residue (c.args.c * c.args.y) c.args.p (c.args.factor * c.args.y / 65536) _ c.if-rest-p.true (omega arith))

pub returns-else-rest-p : goal.returns-else-rest-p
returns-else-rest-p c =
    let e = estimates c.args.p c.args.c c.args.factor c.args.y c.requires.range.0 c.requires.range.1 c.requires.range.2 c.requires.factor c.requires.residue in
    let low = e.low in
    let high = e.high in
    let less : c.args.c * c.args.y - c.args.factor * c.args.y / 65536 * c.args.p - c.args.p < c.args.p = omega arith in
    sym (residue (c.args.c * c.args.y) c.args.p (c.args.factor * c.args.y / 65536 + 1) _ less (omega arith))
