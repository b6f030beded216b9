use Rattle.quotient_laws.proofs.OverQuotients.{space_law}
use Rattle.quotient_laws.proofs.ProductRows.{products_law}
use Rattle.quotient_laws.proofs.QuotientRows.{member_law}
use Rattle.quotient_laws.proofs.laws.products_are_spaces.Goals as goal

pub returns-clause-members : goal.returns-clause-members
returns-clause-members c = member_law

pub returns-clause-products : goal.returns-clause-products
returns-clause-products c = products_law

pub returns-clause-modules : goal.returns-clause-modules
returns-clause-modules c = space_law
