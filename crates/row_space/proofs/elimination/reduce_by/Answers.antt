use Rattle.std.proofs.Common.{[], length, get_or, arith, ap, sym, subst, ◌∙◌, ◌+◌, ◌-◌, ◌*◌, ◌%◌}
use Rattle.std.proofs.lemmas.List.{get_or_default}
use Rattle.row_space.specs.Echelon.{IsEchelon, IsRest}
use Rattle.row_space.proofs.Rest.{rest_more, rest_all}
use Rattle.row_space.proofs.elimination.reduce_by.Goals as goal

pub loop-i-preserved : goal.loop-i-preserved
loop-i-preserved c =
    let p = c.get-p.result in
    let echelon = subst (λ q. IsEchelon q (length c.args.row.now) c.args.rows.now c.args.pivots.now) (sym c.get-p.ensures.value) c.requires.echelon in
    let taken = c.as_slice.ensures ∙ c.index-rows-i.is ∙ get_or_default c.args.rows.now c.loop-i.i c.index-rows-i.result [] c.loop-i-test.true in
    record {
      residues = c.subtract_multiple.ensures.residues;
      sum = rest_more p (length c.args.row.now) c.args.rows.now c.args.pivots.now c.args.row.now (omega (arith, c.get-p.ensures.range)) echelon c.loop-i.i c.loop-i.row c.subtract_multiple.new.row c.loop-i-test.true
          (λ k h. c.loop-i.invariant.residues k 0 (omega arith)) c.loop-i.invariant.sum
          (λ k h. c.subtract_multiple.ensures.entries k (omega arith) ∙ ap (λ r. (get_or c.loop-i.row k 0 + (p - get_or c.loop-i.row (get_or c.args.pivots.now c.loop-i.i 0) 0) * get_or r k 0) % p) taken);
    }

pub returns-clause-rest : goal.returns-clause-rest
returns-clause-rest c =
    let p = c.get-p.result in
    let echelon = subst (λ q. IsEchelon q (length c.args.row.now) c.args.rows.now c.args.pivots.now) (sym c.get-p.ensures.value) c.requires.echelon in
    subst (λ q. IsRest q (length c.args.row.now) c.args.rows.now c.args.pivots.now c.args.row.now c.loop-i.row) c.get-p.ensures.value
    (rest_all p (length c.args.row.now) c.args.rows.now c.args.pivots.now c.args.row.now (omega (arith, c.get-p.ensures.range)) echelon c.loop-i.i c.loop-i.row (omega arith)
    (λ k h. omega (arith, c.get-p.ensures.value, c.requires.row k 0 h)) (λ k h. c.loop-i.invariant.residues k 0 (omega arith)) c.loop-i.invariant.sum)
