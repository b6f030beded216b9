use Rattle.prime_field.proofs.Table.{characteristics-are_prime, positive_of_prime}
use Rattle.comm_ring.proofs.Rows.{row_laws, equal_rows}
use Rattle.comm_ring.proofs.rows_are_a_module.Goals as goal

pub returns : goal.returns
returns c = record {
  laws = λ p width table. row_laws p (positive_of_prime p (characteristics-are_prime p table)) width;
  equal = equal_rows;
}
