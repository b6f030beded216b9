use Rattle.std.proofs.Common.{map, ap, ◌∙◌}
use Rattle.std.proofs.lemmas.List.{take_all}
use Rattle.polys.proofs.Products.{map_more}
use Rattle.polys.proofs.Merge.{coeff_at}
use Rattle.lift_colon.specs.Parts.{opposed}
use Rattle.lift_colon.proofs.parts.opposed_terms.Goals as goal

pub opposed_term-requires : goal.opposed_term-requires
opposed_term-requires c = record { residue = (coeff_at c.args.p c.args.v.now c.loop-t.t-index c.t-item.result c.requires.canonical c.loop-t-test.true c.t-item.is).1 }

pub loop-t-preserved : goal.loop-t-preserved
loop-t-preserved c =
    map_more (opposed c.args.p) c.args.v.now c.loop-t.terms.items c.push.new.self.items c.loop-t.t-index c.t-item.result c.opposed_term.result c.loop-t-test.true c.t-item.is c.loop-t.invariant
    c.opposed_term.ensures c.in_ok-push.ensures.items

pub returns : goal.returns
returns c = c.loop-t.invariant ∙ ap (map (opposed c.args.p)) (take_all c.loop-t.t-index c.args.v.now c.loop-t-test.false)
