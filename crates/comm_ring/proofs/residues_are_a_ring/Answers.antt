use Rattle.prime_field.proofs.Table.{characteristics-are_prime}
use Rattle.comm_ring.proofs.Residues.{residue_laws}
use Rattle.comm_ring.proofs.Fields.{residue_field}
use Rattle.comm_ring.proofs.residues_are_a_ring.Goals as goal

pub returns : goal.returns
returns c = record {
  ring = λ n positive. residue_laws n positive;
  field = λ p table. residue_field p (characteristics-are_prime p table);
}
