use Rattle.std.proofs.Common.{◌≡◌, ◌∷◌, ◌++◌, [], length, take, sym, ap, ◌∙◌, arith}
use Rattle.std.proofs.lemmas.List.{take_all, take_more, length-replicate}
use Rattle.polys.specs.declared.term.Term.{Term}
use Rattle.polys.specs.Terms.{normal}
use Rattle.polys.proofs.Units.{canonical_same}
use Rattle.module_division.specs.declared.rows.TheConstants.{ENTRY_LIMIT}
use Rattle.module_division.specs.Rows.{row_terms}
use Rattle.module_division.proofs.RowTerms.{row_zero, sum_more, zeros_low}
use Rattle.module_division.proofs.rows.row_of.Goals as goal

pub loop-u-init : goal.loop-u-init
loop-u-init c =
    let n = length c.args.columns.now in
    let e = c.in_ok-row.ensures in
    record {
      same_length = ap length e ∙ length-replicate n 0;
      entries = zeros_low ENTRY_LIMIT n c.in_ok-row.row.items e (omega arith);
      sum = ap (λ cs. normal c.args.p (row_terms c.args.columns.now cs)) e ∙ row_zero c.args.p c.args.columns.now n;
    }

pub loop-u-preserved : goal.loop-u-preserved
loop-u-preserved c =
    let p = c.args.p in
    let v = c.args.v.now in
    let ms = c.args.columns.now in
    let j = c.loop-u.u-index in
    let x : Term = record { coeff = c.from.result; mono = c.u-item.result.mono } in
    let e : x ≡ c.u-item.result = λ i. record { coeff = c.from.ensures i; mono = c.u-item.result.mono } in
    record {
      same_length = c.add_at.ensures.same_length ∙ c.loop-u.invariant.same_length;
      entries = c.add_at.ensures.entries;
      sum =
          sum_more p (row_terms ms c.loop-u.row.items) [] (take j v) x (row_terms ms c.add_at.new.row.items) c.loop-u.invariant.sum (c.add_at.ensures.sum c.if-not-add_at.false)
          ∙ ap (normal p) (ap (λ x. take j v ++ x ∷ []) (e ∙ c.u-item.is) ∙ sym (take_more v j c.u-item.result c.loop-u-test.true));
    }

pub returns-clause-value : goal.returns-clause-value
returns-clause-value c =
    c.loop-u.invariant.sum ∙ ap (normal c.args.p) (take_all c.loop-u.u-index c.args.v.now c.loop-u-test.false) ∙ canonical_same c.args.p c.args.v.now c.requires.vector.canonical
