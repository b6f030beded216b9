use Rattle.module_basis.proofs.Adding.{nothing_gained}
use Rattle.module_basis.proofs.growing.Growing.take_generator.Goals as goal

pub returns-then-degree_at-from-clause-gains : goal.returns-then-degree_at-from-clause-gains
returns-then-degree_at-from-clause-gains c = nothing_gained c.args.gens.now c.args.e c.args.self.now
