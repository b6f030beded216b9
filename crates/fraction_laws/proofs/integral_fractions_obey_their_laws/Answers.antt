use Rattle.std.proofs.Common.{◌≡◌, ◌≢◌, ◌⊎◌, inl, inr, ◌∙◌, ℕ, ◌*◌, ◌%◌, mod-eq_of_lt}
use Rattle.prime_field.specs.Primes.{IsPrime}
use Rattle.prime_field.proofs.Table.{characteristics-are_prime, positive_of_prime}
use Rattle.comm_ring.specs.Residues.{residue_ops}
use Rattle.comm_ring.proofs.Residues.{residues}
use Rattle.comm_ring.proofs.Fields.{residue_field}
use Rattle.fraction_laws.specs.Laws.{FractionLaws}
use Rattle.fraction_laws.proofs.Units.{identity, regular, none}
use Rattle.fraction_laws.proofs.LawsHold.{fraction_laws}
use Rattle.fraction_laws.proofs.CurveLaws.{curve_laws}
use Rattle.fraction_laws.proofs.integral_fractions_obey_their_laws.Goals as goal

at_unit : (p : ℕ) (prime : IsPrime p) (d : ℕ) → d % p ≢ 0 → (d % p ≡ 0 % p) ⊎ ((e : ℕ) × ((e * d) % p) % p ≡ 1 % p) → FractionLaws (residue_ops p) d p (λ c. c)
at_unit p prime d nonzero (inl z) = absurd (nonzero (z ∙ mod-eq_of_lt (positive_of_prime p prime)))
at_unit p prime d nonzero (inr i) = fraction_laws (residues p (positive_of_prime p prime)) d (regular p prime d i) p prime (λ c. c) (identity p) 0 (none p prime d i)

pub returns : goal.returns
returns c = record {
  curves = λ p table I d r n D. curve_laws (residues p (positive_of_prime p (characteristics-are_prime p table))) I d r p (characteristics-are_prime p table) (λ e. e) (identity p) n D;
  units = λ p table d nonzero. at_unit p (characteristics-are_prime p table) d nonzero ((residue_field p (characteristics-are_prime p table)).zero_or_inverse d);
}
