use Rattle.std.proofs.Common.{refl}
use Rattle.graded_modules.specs.Vector.{lead_mono}
use Rattle.module_division.specs.Reduction.IsKept.{superfluous}
use Rattle.module_division.proofs.Interreducing.{found_multiple}
use Rattle.module_division.proofs.reduction.keep_unless_superfluous.Goals as goal

pub returns-in-Some : goal.returns-in-Some
returns-in-Some c =
    superfluous refl (found_multiple c.deref-3.result.now c.args.kept.now.items c.in-Some.field-0 c.lead_mono.result (lead_mono c.args.f.now.terms) c.deref-3.ensures.value c.lead_mono.ensures c.in-Some.ensures.0 c.in-Some.ensures.1)
