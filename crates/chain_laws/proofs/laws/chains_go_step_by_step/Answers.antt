use Rattle.chain_laws.proofs.StepLaws.{one_module_law, radical_holds_law, enlarged_ring_law, all_local_law, dimensions_law}
use Rattle.chain_laws.proofs.laws.chains_go_step_by_step.Goals as goal

pub returns : goal.returns
returns c = record { one = one_module_law; radical = radical_holds_law; enlarged = enlarged_ring_law; local = all_local_law; dimensions = dimensions_law }
