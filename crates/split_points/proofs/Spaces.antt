-- The ideal of a point as a space of rows of digits.
use Rattle.std.proofs.Common.{◌≡◌, ◌↔◌, ℕ, zero, suc, ◌+◌, ◌-◌, ◌*◌, ◌<◌, ◌≤◌, List, [], ◌∷◌, ◌++◌, map, length, get_or, take, refl, sym, ap, ◌∙◌, subst, arith}
use Rattle.std.specs.List.{AllZip, range_with_len}
use Rattle.std.proofs.lemmas.List.{length-map, take_all}
use Rattle.std.proofs.lemmas.List.Elements.{All-cons, All-head, All-tail, All-map, All-weaker}
use Rattle.std.proofs.lemmas.List.FromFn.{get_or-map-range_with_len, length-range_with_len}
use Rattle.prime_field.specs.Primes.{IsPrime}
use Rattle.prime_field.proofs.Table.{positive_of_prime}
use Rattle.comm_ring.specs.Ideals.{InIdeal}
use Rattle.comm_ring.specs.Modules.{InSpan}
use Rattle.comm_ring.specs.Rows.{rows}
use Rattle.comm_ring.proofs.Modules as Modules
use Rattle.monomials.specs.Mono.{Monomial}
use Rattle.polys.specs.declared.term.Term.{Term}
use Rattle.polys.specs.Terms.{IsPoly, one, sub, mul}
use Rattle.polys.specs.Ideal as Polys
use Rattle.polys.specs.Curve.{CurveData}
use Rattle.polys.proofs.Affine.{poly_mul, poly_sub}
use Rattle.polys.proofs.Sums.{add_comm, mul_comm}
use Rattle.ideal_laws.proofs.Differences.{add_sub, sub_swap}
use Rattle.ideal_laws.proofs.Ideals.{in_larger, in_multiple, in_poly}
use Rattle.curve_model.specs.Fraction.{denominator_power}
use Rattle.curve_model.specs.Laws.{IsFinite, ArePolys}
use Rattle.curve_model.specs.OneExponent.{InPower}
use Rattle.curve_model.specs.Point.{IsPoint}
use Rattle.row_space.specs.Subspace.{Subspace, IsIn, DifferIn, Joins}
use Rattle.row_space.proofs.Weights.{covers_self}
use Rattle.finite_algebra.specs.Elements.{FiniteAlgebra, AreProducts, IsAlgebra, IsElement, elements, ring_of, times, unit_row}
use Rattle.finite_algebra.specs.Projections.{IsGeneratedBy}
use Rattle.finite_algebra.proofs.Generated.{none_generated, one_more_generated}
use Rattle.finite_algebra.proofs.Products.{times_fits}
use Rattle.frobenius_map.proofs.Ground as Ground
use Rattle.frobenius_split.specs.Points.{IsMaximalIdeal}
use Rattle.digit_laws.specs.Digits.{AreCornersOf, AreDigits, value}
use Rattle.over_laws.specs.BaseIdeals.{GeneratedByDigits, IsDigitAlgebra}
use Rattle.split_points.proofs.Classes as Classes

-- ---- the ideal of an algebra that elements generate

module _ (B : FiniteAlgebra) (prime : IsPrime B.prime) (alg : IsAlgebra B) (gs : List (List ℕ)) where
  positive : 0 < B.prime
  positive = positive_of_prime B.prime prime

  abbrev table : List ℕ → List (List ℕ)
  table g = map (λ k. times B (unit_row B.dimension k) g) (range_with_len 0 B.dimension)

  multiples_of : (g : List ℕ) → AreProducts B g (table g)
  multiples_of g = record {
    count = length-map (range_with_len 0 B.dimension) (λ k. times B (unit_row B.dimension k) g) ∙ length-range_with_len 0 B.dimension;
    rows = All-map (IsElement B) (λ k. times B (unit_row B.dimension k) g) (range_with_len 0 B.dimension)
        (λ j d h. times_fits B positive (unit_row B.dimension (get_or (range_with_len 0 B.dimension) j d)) g);
    products = λ k h. get_or-map-range_with_len (λ j. times B (unit_row B.dimension j) g) 0 B.dimension k k [] h (omega arith);
  }

  abbrev joined : Subspace → List ℕ → Subspace
  joined s g = record { prime = s.prime; width = s.width; basis = s.basis ++ table g }

  joins : (s : Subspace) (g : List ℕ) → Joins s (table g) (joined s g)
  joins s g = record { prime = refl; width = refl; covers = covers_self s.prime s.width (s.basis ++ table g); covered = covers_self s.prime s.width (s.basis ++ table g) }

  first : (i : ℕ) → i ≤ length gs → (s : Subspace) × IsGeneratedBy B (take i gs) s
  first zero h = (record { prime = B.prime; width = B.dimension; basis = [] }, none_generated B positive alg (record { prime = B.prime; width = B.dimension; basis = [] }) refl refl refl)
  first (suc i) h =
      let s = first i (omega arith) in
      let g = get_or gs i [] in
      let e : i + 1 ≡ suc i = omega arith in (
        joined s.0 g,
        subst (λ n. IsGeneratedBy B (take n gs) (joined s.0 g)) e
            (one_more_generated B positive alg gs i (let l : i < length gs = omega arith in l) g refl (table g) (multiples_of g) s.0 (joined s.0 g) s.1 (joins s.0 g) alg.unit),
      )

  pub generated : (s : Subspace) × IsGeneratedBy B gs s
  generated = let s = first (length gs) (omega arith) in (s.0, subst (λ hs. IsGeneratedBy B hs s.0) (take_all (length gs) gs (omega arith)) s.1)

  -- it holds exactly the sums of multiples
  pub members : (s : Subspace) → IsGeneratedBy B gs s → (x : List ℕ) → IsIn s x ↔ InIdeal (ring_of B) gs x
  members s w x = (
    w.multiples x,
    (λ h. Ground.outward B prime alg s w.ideal x (Modules.span_least (Ground.R B prime alg) (Modules.own (Ground.R B prime alg)) (InSpan (elements B) s.basis)
        (Ground.members_ideal B prime alg s w.ideal) gs (All-weaker (IsIn s) (InSpan (elements B) s.basis) (Ground.inward B prime alg s w.ideal) gs w.holds) x h)),
  )

-- ---- the ideal of a point

module _ (A : CurveData) (c : IsFinite A) (ms : List Monomial) (k : AreCornersOf A ms) (one_row : List ℕ) (products : List (List ℕ)) where
  abbrev a : FiniteAlgebra
  a = record { prime = A.prime; dimension = length ms * 1; one = one_row; products = products }

  module _ (generated_law : GeneratedByDigits) (alg : IsAlgebra a) (w : IsDigitAlgebra A ms 1 a) (first_row : AreDigits A ms 1 one one_row) (qs : List (List Term)) (h : IsPoint A qs) where
    abbrev Poly : List Term → Type 0
    Poly f = IsPoly A.prime A.variables f

    abbrev Holds : List Term → Type 0
    Holds f = Polys.InIdeal A.prime A.variables qs f

    pos : 0 < A.prime
    pos = positive_of_prime A.prime c.curve.prime

    gs : (gs : List (List ℕ)) × AllZip (AreDigits A ms 1) qs gs
    gs = Classes.listed A c ms k qs h.reduced.polys

    holds : (f : List Term) → InPower A 1 f → Polys.InIdeal A.prime A.variables qs f
    holds f i = in_larger A.prime A.variables (denominator_power A 1 ∷ A.ideal) qs f pos
        (All-cons Holds (denominator_power A 1) A.ideal (subst Holds (sym (Classes.power_is A c ms k)) h.holds_denominator) h.holds_ideal) i

    space : (s : Subspace) × IsGeneratedBy a gs.0 s
    space = generated a c.curve.prime alg gs.0

    -- a polynomial is in the point's ideal exactly where its digits are in the space
    exact : (f : List Term) (x : List ℕ) → Poly f → AreDigits A ms 1 f x → Polys.InIdeal A.prime A.variables qs f ↔ IsIn space.0 x
    exact f x hf r =
        let g = generated_law A c ms k a w qs h.reduced.polys holds gs.0 gs.1 f x hf r in
        let m = members a c.curve.prime alg gs.0 space.0 space.1 x in
        (λ i. m.1 (g.0 i), λ i. g.1 (m.0 i))

    inverses : (x : List ℕ) → IsElement a x → ¬ (IsIn space.0 x) → (y : List ℕ) × IsElement a y × DifferIn space.0 (times a x y) one_row
    inverses x fits out =
        let v = value A ms 1 x in
        let hv = Classes.val_poly A c ms k x in
        let own = Classes.own A c ms k x fits in
        go (h.maximal v hv (λ i. out ((exact v x hv own).0 i)))
      where
        go : Polys.InIdeal A.prime A.variables (value A ms 1 x ∷ qs) one → (y : List ℕ) × IsElement a y × DifferIn space.0 (times a x y) one_row
        go i = parted i.factors i.polys i.as_many i.combined
          where
            parted : (fs : List (List Term)) → ArePolys A fs → length fs ≡ length (value A ms 1 x ∷ qs) → one ≡ Polys.combination A.prime fs (value A ms 1 x ∷ qs)
                → (y : List ℕ) × IsElement a y × DifferIn space.0 (times a x y) one_row
            parted [] polys l e = absurd (omega arith)
            parted (q ∷ fs) polys l e =
                let p = A.prime in
                let n = A.variables in
                let v = value A ms 1 x in
                let hv = Classes.val_poly A c ms k x in
                let hq : Poly q = All-head Poly q fs polys in
                let r = (Classes.laws A c ms k).exist q hq in
                let rest = Polys.combination p fs qs in
                let inside : Holds rest =
                record { factors = fs; polys = All-tail Poly q fs polys; as_many = (let z : length (q ∷ fs) ≡ length (v ∷ qs) = l in let y : length fs ≡ length qs = omega arith in y); combined = refl } in
                let hr : Poly rest = in_poly p n qs rest pos h.reduced.polys inside in
                let qv = mul p q v in
                let vq = mul p v q in
                let hvq : Poly vq = poly_mul p n v q pos hv hq in
                let h1 = Classes.one_is_poly A c ms k in
                let apart : sub p one vq ≡ rest = ap (sub p one) (mul_comm p v q) ∙ ap (λ z. sub p z qv) (e ∙ add_comm p qv rest) ∙ add_sub p rest qv pos hr.canonical in
                let near : Holds (sub p vq one) = subst Holds (sym (sub_swap p one vq rest pos apart)) (in_multiple p n qs (p - 1) rest pos hr inside) in
                let V = rows p (length ms * 1) in
                let t = times a x r.0 in
                let dt = Classes.times_digits A c ms k (times a) w.product v q x r.0 hv hq (Classes.own A c ms k x fits) r.1 in
                let d = Classes.sub_digits A c ms k vq one t one_row hvq h1 dt first_row in
                let i = (exact (sub p vq one) (V.◌⊞◌ t (V.opposite one_row)) (poly_sub p n vq one pos hvq h1) d).0 near in
                (r.0, r.1.fits, Ground.differ_outward a c.curve.prime alg space.0 space.1.ideal t one_row (Ground.inward a c.curve.prime alg space.0 space.1.ideal (V.◌⊞◌ t (V.opposite one_row)) i))

    -- it is a maximal ideal of the algebra
    maximal : IsMaximalIdeal a space.0
    maximal = record {
      ideal = space.1.ideal;
      proper = λ i. h.proper ((exact one one_row (Classes.one_is_poly A c ms k) first_row).1 i);
      inverses = λ x fits out. inverses x fits out;
    }

    pub ideal_of_point : (M : Subspace) × IsMaximalIdeal a M
        × ((f : List Term) (x : List ℕ) → Poly f → AreDigits A ms 1 f x → Polys.InIdeal A.prime A.variables qs f ↔ IsIn M x)
    ideal_of_point = (space.0, maximal, exact)
