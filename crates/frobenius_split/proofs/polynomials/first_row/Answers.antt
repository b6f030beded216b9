use Rattle.std.proofs.Common.{◌<◌, ◌∙◌, inr, [], length, get_or, subst, sym, ap, arith}
use Rattle.std.proofs.lemmas.List.{get_or_default}
use Rattle.comm_ring.proofs.Modules as Modules
use Rattle.comm_ring.proofs.Residues.{residues}
use Rattle.comm_ring.proofs.Rows.{row_module}
use Rattle.row_space.specs.Echelon.{IsRow}
use Rattle.row_space.specs.Subspace.{IsIn}
use Rattle.frobenius_split.proofs.polynomials.first_row.Goals as goal

pub returns : goal.returns
returns c =
    let s = c.args.space.now in
    let positive : 0 < c.args.space.now.prime = omega (arith, c.get-p.ensures.range, c.get-p.ensures.value, c.requires) in
    let inside : 0 < length c.rows-rows.result.now = omega (arith, c.if-rows-eq0.false) in
    let here : 0 < length c.args.space.now.basis = omega (arith, inside, ap length c.rows-rows.ensures.basis) in
    let row_is = c.of_vec.ensures ∙ c.in_ok-row.ensures ∙ c.as_slice.ensures ∙ c.index-rows-0.is ∙ get_or_default c.rows-rows.result.now 0 c.index-rows-0.result [] inside ∙ ap (λ rs. get_or rs 0 []) c.rows-rows.ensures.basis in
    inr (
      subst (IsRow s.prime s.width) (sym row_is) (c.rows-rows.ensures.reduced.1.rows 0 [] here),
      subst (IsIn s) (sym row_is) (Modules.span_self (residues s.prime positive) (row_module s.prime positive s.width) s.basis 0 [] here),
    )
