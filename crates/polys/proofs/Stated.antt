-- The stated laws of sums, products, leads and degrees.
use Rattle.std.proofs.Common.{◌≡◌, ◌⊎◌, inl, inr, ℕ, ◌*◌, ◌%◌, List, [], ◌∷◌, refl, sym, ap, ◌∙◌}
use Rattle.monomials.specs.Mono.{times}
use Rattle.prime_field.specs.Primes.{IsPrime}
use Rattle.polys.specs.declared.term.Term.{Term}
use Rattle.polys.specs.Terms.{IsPoly, mul, lead}
use Rattle.polys.specs.Laws.{RingLaws, LeadLaws, DegreeLaws}
use Rattle.polys.specs.Ring.{PolynomialsAreClosed}
use Rattle.polys.proofs.Affine.{positive, poly_none, poly_one, poly_add, poly_sub, poly_multiple, poly_mul, poly_power, sevens_of}
use Rattle.polys.proofs.Degrees.{degree_of-add, degree_of-mul, degree_of-power}
use Rattle.polys.proofs.Leads.{lead_of_mul}
use Rattle.polys.proofs.Sums as sums
use Rattle.polys.proofs.Units as units

pub closed_law : PolynomialsAreClosed
closed_law p n h = record {
  none = poly_none p n;
  one = poly_one p n h;
  sum = λ f g a b. poly_add p n f g (positive p h) a b;
  difference = λ f g a b. poly_sub p n f g (positive p h) a b;
  multiple = λ c f a. poly_multiple p n c f (positive p h) a;
  product = λ f g a b. poly_mul p n f g (positive p h) a b;
  power = λ f k a. poly_power p n f k h a;
}

pub ring_law : RingLaws
ring_law = record {
  add_assoc = sums.add_assoc;
  add_comm = sums.add_comm;
  add_zero = λ p n f h. units.add_none p f h.canonical;
  sub_self = units.sub_self;
  mul_assoc = sums.mul_assoc;
  mul_comm = sums.mul_comm;
  mul_one = λ p n f h. units.mul_one p f h.canonical (sevens_of p n f h);
  distributes = sums.mul-add;
}

lead_is : (p n : ℕ) (t u : Term) (f g : List Term) → IsPrime p → IsPoly p n (t ∷ f) → IsPoly p n (u ∷ g)
    → (h : List Term) × (mul p (t ∷ f) (u ∷ g) ≡ record { coeff = (t.coeff * u.coeff) % p; mono = times t.mono u.mono } ∷ h)
lead_is p n t u f g prime a b = lead_of_mul p t u f g prime a.canonical b.canonical (sevens_of p n (t ∷ f) a) (sevens_of p n (u ∷ g) b)

no_zero_divisors : (p n : ℕ) (f g : List Term) → IsPrime p → IsPoly p n f → IsPoly p n g → mul p f g ≡ [] → (f ≡ []) ⊎ (g ≡ [])
no_zero_divisors p n [] g prime a b e = inl refl
no_zero_divisors p n (t ∷ f) [] prime a b e = inr refl
no_zero_divisors p n (t ∷ f) (u ∷ g) prime a b e =
    let h = lead_is p n t u f g prime a b in
    let no : record { coeff = (t.coeff * u.coeff) % p; mono = times t.mono u.mono } ∷ h.0 ≡ [] = sym h.1 ∙ e in
    absurd (cc)

pub lead_law : LeadLaws
lead_law = record { lead = λ p n t u f g prime a b. ap lead (lead_is p n t u f g prime a b).1; no_zero_divisors = no_zero_divisors }

pub degree_law : DegreeLaws
degree_law = record { sum = degree_of-add; product = degree_of-mul; power = degree_of-power }
