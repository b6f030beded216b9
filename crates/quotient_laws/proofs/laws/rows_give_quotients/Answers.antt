use Rattle.quotient_laws.proofs.OverQuotients.{algebra_law, radical_law}
use Rattle.quotient_laws.proofs.QuotientRows.{quotient_rows_law}
use Rattle.quotient_laws.proofs.laws.rows_give_quotients.Goals as goal

pub returns-clause-products : goal.returns-clause-products
returns-clause-products c = quotient_rows_law

pub returns-clause-algebra : goal.returns-clause-algebra
returns-clause-algebra c = algebra_law

pub returns-clause-radical : goal.returns-clause-radical
returns-clause-radical c = radical_law
