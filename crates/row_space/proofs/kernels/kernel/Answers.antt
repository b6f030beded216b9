use Rattle.std.proofs.Common.{◌↔◌, subst}
use Rattle.row_space.specs.Subspace.{Subspace, IsIn, product}
use Rattle.row_space.proofs.Finding.{zero_found}
use Rattle.row_space.proofs.kernels.kernel.Goals as goal

pub returns-clause-members : goal.returns-clause-members
returns-clause-members c = λ v long.
    let zero = zero_found c.args.prime c.args.columns (product c.args.prime c.args.columns v c.args.matrix.now) in
    let taken = subst (λ (z : Subspace). IsIn c.in_ok-taken.taken v ↔ IsIn z (product z.prime z.width v c.args.matrix.now)) c.new-zero.ensures (c.in_ok-taken.ensures.members v long) in
    ((λ h. zero.0 (taken.0 h)), (λ h. taken.1 (zero.1 h)))
