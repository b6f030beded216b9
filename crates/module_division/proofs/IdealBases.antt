-- The reduced basis of an ideal from vectors reduced by one another.
use Rattle.std.proofs.Common.{◌≡◌, ℕ, ◌<◌, ◌≤◌, List, [], ◌∷◌, length, get_or, refl, sym, arith}
use Rattle.std.specs.List.{All}
use Rattle.std.specs.declared.cmp.Ordering.{Ordering}
use Rattle.std.specs.declared.cmp.Ordering.TheVariants.{Less, Equal, Greater}
use Rattle.std.specs.Ordering.{nat_cmp, ordering_then}
use Rattle.std.specs.Cmp.{ranked}
use Rattle.prime_field.specs.Primes.{IsPrime}
use Rattle.monomials.specs.Mono.{Monomial, total_degree, cmp_last, cmp_dp}
use Rattle.polys.specs.declared.term.Term.{Term}
use Rattle.polys.specs.Poly.{Polynomial, terms_of}
use Rattle.polys.specs.Terms.{IsAffine, IsPoly, IsMonic}
use Rattle.polys.specs.Curve.{IsOver}
use Rattle.polys.specs.Ideal.{InIdeal}
use Rattle.polys.specs.Reduced.{IsReducedBasis}
use Rattle.polys.proofs.Each.{every_more, every_zip}
use Rattle.graded_modules.specs.Vector.{lead_mono}
use Rattle.graded_modules.proofs.Tops.{tail_below}
use Rattle.homogenising.specs.Laws.{HasAffineLeads, ReducedByAffineLeads}
use Rattle.module_division.specs.Division.{IsDivisor}
use Rattle.module_division.specs.Reduction.{IsInterreduced}
use Rattle.module_division.proofs.Lists.{divisor_vectors, place_of}
use Rattle.module_division.proofs.Reductions.{IsTight}
use Rattle.module_division.proofs.Reduced.{monic_all, covered, rising_all, apart_all, outside_all, polys_all, ideal_all}

-- ---- the degree of an affine polynomial is that of its lead

degree_falls : (l u : Monomial) → l.component ≡ 0 → u.component ≡ 0 → cmp_dp u l ≡ Less → total_degree u.exponents ≤ total_degree l.exponents
degree_falls l u zl zu e = first (nat_cmp l.component u.component) refl e
  where
    second : (r : Ordering) → nat_cmp (total_degree u.exponents) (total_degree l.exponents) ≡ r → ordering_then r (cmp_last u.exponents l.exponents) ≡ Less → total_degree u.exponents ≤ total_degree l.exponents
    second Less p q = let h : total_degree u.exponents < total_degree l.exponents = ranked (total_degree u.exponents) (total_degree l.exponents) Less (sym p) in omega arith
    second Equal p q = let h : total_degree u.exponents ≡ total_degree l.exponents = ranked (total_degree u.exponents) (total_degree l.exponents) Equal (sym p) in omega arith
    second Greater p q = absurd (grind arith)

    first : (r : Ordering) → nat_cmp l.component u.component ≡ r
        → ordering_then r (ordering_then (nat_cmp (total_degree u.exponents) (total_degree l.exponents)) (cmp_last u.exponents l.exponents)) ≡ Less → total_degree u.exponents ≤ total_degree l.exponents
    first Less p q = let h : l.component < u.component = ranked l.component u.component Less (sym p) in absurd (omega arith)
    first Equal p q = second (nat_cmp (total_degree u.exponents) (total_degree l.exponents)) refl q
    first Greater p q = absurd (grind arith)

pub affine_tight : (p n : ℕ) (f : List Term) → IsPoly p n f → IsTight f
affine_tight p n [] h = tt
affine_tight p n (t ∷ f) h = (
  omega arith,
  every_more (λ u. (cmp_dp u t.mono ≡ Less) × IsAffine n u) (λ u. total_degree u.exponents ≤ total_degree t.mono.exponents) f
      (λ u k. degree_falls t.mono u h.affine.0.plain k.1.plain k.0) (every_zip (λ u. cmp_dp u t.mono ≡ Less) (IsAffine n) f (tail_below p t f h.canonical) h.affine.1),
)

pub lead_seven_affine : (p n : ℕ) (f : List Term) → IsPoly p n f → length (lead_mono f).exponents ≡ 7
lead_seven_affine p n [] h = refl
lead_seven_affine p n (t ∷ f) h = h.affine.0.seven

-- ---- the reduced basis of an ideal

pub record IsIdealBasis (p n : ℕ) (is : List (List Term)) (ds : List Polynomial) : Type 0 where
  pub over : All (IsOver p n) ds
  pub basis : IsReducedBasis p n (InIdeal p n is) (terms_of ds)
  pub leads : HasAffineLeads p n is (terms_of ds)

pub ideal_basis : (law : ReducedByAffineLeads) (p n : ℕ) (is : List (List Term)) (fs ds : List Polynomial) → IsPrime p → All (IsPoly p n) is → All (IsPoly p n) (terms_of fs) → All IsMonic (terms_of fs)
    → All (IsDivisor p) fs → All (InIdeal p n is) (terms_of fs) → HasAffineLeads p n is (terms_of fs) → IsInterreduced p (terms_of fs) ds → IsIdealBasis p n is ds
ideal_basis law p n is fs ds prime ispolys polys monic divs members leads h =
    let bs = terms_of fs in
    let vectors = divisor_vectors p fs divs in
    let tight : All IsTight bs = (λ k d l. affine_tight p n (get_or bs k d) (polys k d l)) in
    let seven : All (λ b. length (lead_mono b).exponents ≡ 7) bs = (λ k d l. lead_seven_affine p n (get_or bs k d) (polys k d l)) in
    let dpolys = polys_all p n prime bs monic polys vectors tight ds h seven in
    let dleads : HasAffineLeads p n is (terms_of ds) = (λ t f i. covered p bs monic seven ds h t.mono (leads t f i)) in
    record {
      over = λ k d l. record { prime = h.primes k d l; poly = place_of (IsPoly p n) ds dpolys k d l };
      basis = law p n is (terms_of ds) prime ispolys dpolys (ideal_all p n prime bs monic polys vectors tight ds h seven is members) dleads (monic_all p bs monic seven ds h)
          (rising_all p bs monic seven ds h) (apart_all p bs monic seven ds h) (outside_all p bs monic seven ds h);
      leads = dleads;
    }
