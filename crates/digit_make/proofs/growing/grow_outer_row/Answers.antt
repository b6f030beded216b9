use Rattle.std.proofs.Common.{◌+◌, ◌<◌, length, ap, sym, ◌∙◌, subst}
use Rattle.digit_make.proofs.Ready.{mono_read}
use Rattle.digit_make.proofs.Growth.{grown_row}
use Rattle.digit_make.proofs.Ready.{outer_ready}
use Rattle.digit_make.proofs.Steps.{grown_list}
use Rattle.digit_make.proofs.growing.grow_outer_row.Goals as goal

pub returns-clause-rows : goal.returns-clause-rows
returns-clause-rows c = record {
  border = c.requires.rows.border;
  outer = grown_list c.args.plan.now c.requires.plan c.args.t c.args.plan.now.outer c.args.rows.now.outer c.replace-list.result c.in_ok-rows.field-0 c.as_slice.result.now c.args.j c.index-as_slice-j-2.result c.index-as_slice-j.result
      c.in_ok-block.block.items c.as_slice-4.result.now c.len.result c.len-2.result c.requires.rows.outer c.requires.plan.outer c.requires.j c.replace-list.ensures.value c.in_ok-rows.ensures c.as_slice-4.ensures.value
      (mono_read c.args.plan.now.outer c.as_slice-2.result.now c.args.j c.index-as_slice-j-2.result c.as_slice-2.ensures c.requires.j c.index-as_slice-j-2.is)
      c.index-as_slice-j.is c.as_slice.ensures c.len.ensures c.if-len-t.false c.len-2.ensures c.in_ok-block.ensures;
}

pub returns-clause-grown : goal.returns-clause-grown
returns-clause-grown c =
    grown_row (length c.args.plan.now.corners) c.args.t c.args.most c.args.j c.args.rows.now.outer c.replace-list.result c.in_ok-rows.field-0 c.as_slice.result.now c.index-as_slice-j.result c.as_slice-4.result.now
    c.len.result c.len-2.result c.requires.grown c.requires.deep.0 (subst (λ z. c.args.j < z) (sym c.requires.rows.outer.count) c.requires.j) c.replace-list.ensures.value c.in_ok-rows.ensures
    (ap length c.as_slice-4.ensures.value ∙ c.in_ok-block.ensures.fits.0) c.index-as_slice-j.is c.as_slice.ensures c.len.ensures c.if-len-t.false c.len-2.ensures

pub block_of-requires-clause-ready : goal.block_of-requires-clause-ready
block_of-requires-clause-ready c =
    outer_ready c.args.plan.now c.requires.plan c.args.rows.now c.requires.rows c.args.t (c.args.most + 1) c.args.most c.args.j c.as_slice-3.result.now c.index-as_slice-j-3.result c.requires.border c.requires.grown
    c.requires.j c.as_slice-3.ensures c.index-as_slice-j-3.is
