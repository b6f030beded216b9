use Rattle.standard_monomials.proofs.Search.{leads_law}
use Rattle.standard_monomials.proofs.laws.pure_powers_are_leads.Goals as goal

pub returns : goal.returns
returns c = leads_law
