-- The polynomials in n variables obey the laws of a commutative ring.
use Rattle.std.proofs.Common.{ℕ, ◌-◌, ◌<◌, refl, sym, ap, ◌∙◌}
use Rattle.comm_ring.specs.Ring.{CommRing}
use Rattle.polys.specs.Terms.{add, mul, multiple}
use Rattle.polys.specs.Ring.{polynomial_ops, PolynomialsAreARing}
use Rattle.polys.proofs.Affine.{positive, sevens_of}
use Rattle.polys.proofs.Stated.{closed_law}
use Rattle.polys.proofs.Sums as sums
use Rattle.polys.proofs.Units as units

pub polynomial_laws : PolynomialsAreARing
polynomial_laws p n h closed = record {
  rfl = λ f. refl;
  symm = λ {x} {y} e. sym e;
  trans = λ {x} {y} {z} e d. e ∙ d;
  add_cong = λ {x} {x'} {y} {y'} e d. (λ i. add p (e i) (d i));
  mul_cong = λ {x} {x'} {y} {y'} e d. (λ i. mul p (e i) (d i));
  neg_cong = λ {x} {x'} e. ap (multiple p (p - 1)) e;
  add_assoc = λ f g k. sums.add_assoc p f.terms g.terms k.terms;
  add_comm = λ f g. sums.add_comm p f.terms g.terms;
  add_zero = λ f. units.add_none p f.terms f.is_poly.canonical;
  add_neg = λ f. units.sub_self p f.terms (positive p h);
  mul_assoc = λ f g k. sums.mul_assoc p f.terms g.terms k.terms;
  mul_comm = λ f g. sums.mul_comm p f.terms g.terms;
  mul_one = λ f. units.mul_one p f.terms f.is_poly.canonical (sevens_of p n f.terms f.is_poly);
  distrib = λ f g k. sums.mul-add p f.terms g.terms k.terms;
}

-- the ring of polynomials in n variables
abbrev pub polynomials : (p n : ℕ) → 1 < p → CommRing
polynomials p n h = record { ops = polynomial_ops p n (closed_law p n h); laws = polynomial_laws p n h (closed_law p n h) }
