use Rattle.module_division.proofs.Cores.{core_next, core_whole}
use Rattle.module_division.proofs.reduction.without_superfluous.Goals as goal

pub loop-k-preserved : goal.loop-k-preserved
loop-k-preserved c =
    core_next c.args.vectors.now c.loop-k.kept.items c.keep_unless_superfluous.new.kept.items c.loop-k.k c.index-vectors-k.result c.requires c.loop-k-test.true c.index-vectors-k.is c.loop-k.invariant
    c.in_ok-keep_unless_superfluous.ensures

pub returns-clause-core : goal.returns-clause-core
returns-clause-core c = core_whole c.args.vectors.now c.loop-k.kept.items c.loop-k.k c.loop-k-test.false c.loop-k.invariant

pub returns-clause-same : goal.returns-clause-same
returns-clause-same c f h = let x = c.loop-k.invariant.inside f h in (x.0, x.2, x.3)
