use Rattle.std.proofs.Common.{arith}
use Rattle.homogenising.proofs.Terms.{lifted_room}
use Rattle.polys.proofs.Products.{degree_at}
use Rattle.homogenising.proofs.lifting.lifted_terms.Goals as goal

pub overflow_sub-degree : goal.overflow_sub-degree
overflow_sub-degree c =
    let h = degree_at c.args.f.now c.loop-t.t-index c.t-item.result c.loop-t-test.true c.t-item.is in
    let e = c.degree.ensures.value in
    let l = c.requires.no_smaller in
    omega arith

pub with_hom-mono-requires : goal.with_hom-mono-requires
with_hom-mono-requires c =
    lifted_room c.args.f.now c.loop-t.t-index c.t-item.result c.args.degree c.degree.result c.requires.monos c.loop-t-test.true c.t-item.is c.degree.ensures.value c.requires.no_smaller c.requires.room
