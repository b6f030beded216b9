use Rattle.prime_field.specs.Primes.{IsCharacteristic}
use Rattle.prime_field.proofs.Table.{characteristics-are_prime, positive_of_prime}
use Rattle.std.proofs.Common.{ℕ}
use Rattle.comm_ring.specs.Residues.{residue_ops}
use Rattle.comm_ring.specs.Rows.{rows}
use Rattle.comm_ring.specs.Ring.{CommRing}
use Rattle.comm_ring.specs.Modules.{IsField, InSpan}
use Rattle.comm_ring.proofs.Residues.{residues}
use Rattle.comm_ring.proofs.Fields.{residue_field}
use Rattle.comm_ring.proofs.Modules as Modules
use Rattle.comm_ring.proofs.Modules.{Module}
use Rattle.comm_ring.proofs.Rows.{row_module}
use Rattle.comm_ring.proofs.Exchange as Exchange
use Rattle.comm_ring.proofs.Dimension as Dimension
use Rattle.comm_ring.proofs.spans_have_a_dimension.Goals as goal

-- the numbers modulo p, that they are a field, and the rows of one width
abbrev ring : (p : ℕ) → IsCharacteristic p → CommRing
ring p table = residues p (positive_of_prime p (characteristics-are_prime p table))

field : (p : ℕ) → IsCharacteristic p → IsField (residue_ops p)
field p table = residue_field p (characteristics-are_prime p table)

abbrev space : (p width : ℕ) (table : IsCharacteristic p) → Module (ring p table)
space p width table = row_module p (positive_of_prime p (characteristics-are_prime p table)) width

pub returns : goal.returns
returns c = record {
  exchange = λ p width table fs us h. Exchange.exchange (ring p table) (field p table) (space p width table) fs us h;
  few = λ p width table fs us i h. Exchange.independent_few (ring p table) (field p table) (space p width table) fs us i h;
  basis = λ p width table gs us b. Dimension.dimension_of_basis (ring p table) (field p table) (space p width table) (InSpan (rows p width) gs) us b;
  independent = λ p width table gs n d. Dimension.basis_of_dimension (ring p table) (field p table) (space p width table) (InSpan (rows p width) gs) n d;
  least = λ p width table gs vs n d s. Dimension.dimension_least (ring p table) (field p table) (space p width table) (InSpan (rows p width) gs) n d vs s;
  unique = λ p width table gs m n d e. Dimension.dimension_unique (ring p table) (field p table) (space p width table) (InSpan (rows p width) gs) m n d e;
  coordinates = λ p width table us i cs es l k e. Dimension.unique_coordinates (ring p table) (field p table) (space p width table) us i cs es l k e;
  additive = λ p width table gs hs ks a b m n d e. Dimension.dimension_adds (ring p table) (field p table) (space p width table)
      (InSpan (rows p width) gs) (InSpan (rows p width) hs) (InSpan (rows p width) ks)
      (Modules.span_submodule (ring p table) (space p width table) gs) (Modules.span_submodule (ring p table) (space p width table) hs) (Modules.span_submodule (ring p table) (space p width table) ks)
      (Modules.span_through (ring p table) (space p width table) gs hs a) (Modules.span_through (ring p table) (space p width table) hs ks b) m n d e;
}
