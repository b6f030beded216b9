use Rattle.basis_existence.proofs.Corners.{leads_law, corners_law}
use Rattle.basis_existence.proofs.Reducing.{reduced_bases_law}
use Rattle.basis_existence.proofs.laws.finite_ideals_have_reduced_bases.Goals as goal

pub returns : goal.returns
returns c = record { leads = leads_law; corners = corners_law; reduced = reduced_bases_law }
