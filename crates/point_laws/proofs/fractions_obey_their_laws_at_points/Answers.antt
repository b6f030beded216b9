use Rattle.std.proofs.Common.{◌≡◌, ◌≢◌, ◌⊎◌, inl, inr, ◌∙◌, ℕ, ◌*◌, ◌%◌, mod-eq_of_lt}
use Rattle.prime_field.specs.Primes.{IsPrime}
use Rattle.prime_field.proofs.Table.{characteristics-are_prime, positive_of_prime}
use Rattle.comm_ring.specs.Residues.{residue_ops}
use Rattle.comm_ring.proofs.Residues.{residues}
use Rattle.comm_ring.proofs.Fields.{residue_field}
use Rattle.point_laws.specs.Laws.{PointLaws}
use Rattle.fraction_laws.proofs.Units.{identity, regular, none}
use Rattle.point_laws.proofs.PointLawsHold.{point_laws}
use Rattle.point_laws.proofs.CurvePoints.{curve_point_laws}
use Rattle.point_laws.proofs.fractions_obey_their_laws_at_points.Goals as goal

at_unit : (p : ℕ) (prime : IsPrime p) (d : ℕ) → d % p ≢ 0 → (d % p ≡ 0 % p) ⊎ ((e : ℕ) × ((e * d) % p) % p ≡ 1 % p) → PointLaws (residue_ops p) d p (λ c. c)
at_unit p prime d nonzero (inl z) = absurd (nonzero (z ∙ mod-eq_of_lt (positive_of_prime p prime)))
at_unit p prime d nonzero (inr i) = point_laws (residues p (positive_of_prime p prime)) d (regular p prime d i) p prime (λ c. c) (identity p) 0 (none p prime d i)

pub returns : goal.returns
returns c = record {
  curves = λ p table I d r n D. curve_point_laws (residues p (positive_of_prime p (characteristics-are_prime p table))) I d r p (characteristics-are_prime p table) (λ e. e) (identity p) n D;
  units = λ p table d nonzero. at_unit p (characteristics-are_prime p table) d nonzero ((residue_field p (characteristics-are_prime p table)).zero_or_inverse d);
}
