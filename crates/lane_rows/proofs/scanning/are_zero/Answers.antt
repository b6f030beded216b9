use Rattle.std.proofs.Common.{◌≡◌, ℕ, get_or, arith, w32, eqb, not, false, sym, ◌∙◌}
use Rattle.std.proofs.lemmas.Simd.{bitmask_splat, none_from_empty_mask, length-chunk}
use Rattle.std.proofs.lemmas.Bool.Decides.{nat_tests}
use Rattle.std.proofs.lemmas.Bool.{eqb-true}
use lib.Lanes.{chunk}
use Rattle.lane_rows.proofs.scanning.are_zero.Goals as goal

is_zero : (x : ℕ) → not (eqb x 0) ≡ false → x ≡ 0
is_zero x h = grind (arith, nat_tests)

pub returns : goal.returns
returns c = λ t k low high.
    let v = chunk c.args.at 8 c.args.row.now in
    let long = length-chunk c.args.at 8 c.args.row.now c.requires in
    let hits = bitmask_splat w32 (λ x y. not (eqb x y)) v 8 0 long (omega arith) in
    let none = sym hits ∙ eqb-true _ 0 t in
    is_zero (get_or c.args.row.now k 0) (none_from_empty_mask (λ x. not (eqb x 0)) c.args.row.now c.args.at 8 0 c.requires none k low high)
