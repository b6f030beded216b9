use Rattle.homogenising.proofs.Terms.{lowered_room}
use Rattle.homogenising.proofs.lifting.lowered_terms.Goals as goal

pub with_hom-requires : goal.with_hom-requires
with_hom-requires c = lowered_room c.args.f.now c.loop-t.t-index c.t-item.result c.requires c.loop-t-test.true c.t-item.is
