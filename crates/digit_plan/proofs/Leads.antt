-- The corners by a reduced basis, and the rule of a lead.
use Rattle.std.proofs.Common.{◌≡◌, ℕ, ◌<◌, ◌≤◌, List, [], ◌∷◌, ◌++◌, length, get_or, sym, ap, ap₂, ◌∙◌, subst, arith}
use Rattle.std.proofs.lemmas.List.{get_or_default, get_or-map, length-map}
use Rattle.std.specs.List.{All, Contains}
use Rattle.std.proofs.lemmas.List.Elements.{All-cons, All-weaker, All-contains, All-contains_itself, All-get_or, All-map}
use Rattle.comm_ring.specs.Ring.{CommRing}
use Rattle.comm_ring.proofs.Quote.{ring, quote}
use Rattle.prime_field.proofs.Table.{positive_of_prime, above_one}
use Rattle.monomials.specs.Mono.{Monomial}
use Rattle.polys.specs.declared.term.Term.{Term}
use Rattle.polys.specs.Terms.{EachMono, IsAffine, IsPoly, normal, add, sub, mul}
use Rattle.polys.specs.Ideal.{InIdeal, HasDim, HasInfiniteDim, Spans, number_combination}
use Rattle.polys.specs.Poly.{Polynomial, terms_of}
use Rattle.polys.specs.Curve.{IsOver}
use Rattle.polys.proofs.Affine.{poly_sub}
use Rattle.polys.proofs.Units.{canonical_same}
use Rattle.ideal_laws.proofs.Ideals.{in_generator, in_poly}
use Rattle.standard_monomials.specs.Finding.{HasDimAbove}
use Rattle.standard_monomials.specs.Standard.{AreStandard, IsRising, IsStandardBasis, polynomial_of}
use Rattle.standard_monomials.proofs.Bases.{reduced_law}
use Rattle.standard_monomials.proofs.Space as Space
use Rattle.lift_colon.specs.Lifted.{LiftedData, IsLifted, IsLift}
use Rattle.digit_laws.specs.Digits.{AreCornersOf}
use Rattle.digit_plan.specs.declared.plan.Share.{Share}
use Rattle.digit_plan.specs.Lifts.{AreLifts, curve_of_lifted}
use Rattle.digit_plan.proofs.Found.{each_push}
use Rattle.digit_plan.specs.Planned.{IsLeadSumIn, terms_in}

module _ (C : CommRing) where
  open C use {carrier, ◌≈◌, ◌⊕◌, ◌⊗◌, neg}

  infix 40 ◌≈◌
  infixl 60 ◌⊕◌
  infixl 70 ◌⊗◌
  rest_is : (x d u g : carrier) → x ⊕ neg (d ⊗ u ⊕ (x ⊕ neg g)) ≈ g ⊕ neg (u ⊗ d)
  rest_is x d u g = ring C (x ∷ d ∷ u ∷ g ∷ []) (search quote depth 20) tt

terms_poly : (p n : ℕ) (fs : List Polynomial) → All (IsOver p n) fs → All (IsPoly p n) (terms_of fs)
terms_poly p n fs a = All-map (IsPoly p n) (λ (f : Polynomial). f.terms) fs (All-weaker (IsOver p n) (λ (f : Polynomial). IsPoly p n f.terms) (λ f o. o.poly) fs a)

module _ (l : LiftedData) (h : IsLifted l) where
  positive : 0 < l.prime
  positive = positive_of_prime l.prime h.prime

  pub sum_polys : All (IsPoly l.prime l.variables) (terms_of l.sum)
  sum_polys = terms_poly l.prime l.variables l.sum h.sum_over

  gens : All (IsPoly l.prime l.variables) (l.denominator.terms ∷ terms_of l.ideal)
  gens = All-cons (IsPoly l.prime l.variables) l.denominator.terms (terms_of l.ideal) h.denominator.poly (terms_poly l.prime l.variables l.ideal h.ideal_over)

  pub standard : IsStandardBasis l.prime l.variables (l.denominator.terms ∷ terms_of l.ideal) (terms_of l.sum)
  standard =
      let base = reduced_law l.prime l.variables (terms_of l.sum) h.prime h.sum.reduced in record {
        members = All-weaker (Contains (terms_of l.sum)) (InIdeal l.prime l.variables (l.denominator.terms ∷ terms_of l.ideal))
            (λ f c. (h.sum.exact f (All-contains (IsPoly l.prime l.variables) (terms_of l.sum) f sum_polys c)).0
            (in_generator l.prime l.variables (terms_of l.sum) f (above_one l.prime h.prime) sum_polys c))
            (terms_of l.sum) (All-contains_itself (terms_of l.sum));
        monic = base.monic;
        leads = λ t f i. base.leads t f ((h.sum.exact (t ∷ f) (in_poly l.prime l.variables (l.denominator.terms ∷ terms_of l.ideal) (t ∷ f) positive gens i)).1 i);
      }

  pub corners_by : (ms : List Monomial) → AreStandard l.variables (terms_of l.sum) ms → IsRising ms → AreCornersOf (curve_of_lifted l) ms
  corners_by ms a r = record { basis = terms_of l.sum; standard = standard; all = a; rising = r }

  -- what spans modulo the ideal and the denominator spans modulo their basis
  pub spans_sum : (us : List (List Term)) → Spans l.prime l.variables (l.denominator.terms ∷ terms_of l.ideal) us → Spans l.prime l.variables (terms_of l.sum) us
  spans_sum us s = record {
    polys = s.polys;
    each = λ f hf. let k = s.each f hf in record {
      residues = k.residues;
      below = k.below;
      as_many = k.as_many;
      close = (h.sum.exact (sub l.prime f (number_combination l.prime k.residues us)) (in_poly l.prime l.variables (l.denominator.terms ∷ terms_of l.ideal) (sub l.prime f (number_combination l.prime k.residues us)) positive gens k.close)).1 k.close;
    };
  }

  -- a dimension of at most 256 is not infinite, nor above 256
  pub not_wide : (N : ℕ) × (N ≤ 256) × HasDim l.prime l.variables (l.denominator.terms ∷ terms_of l.ideal) N → HasDimAbove l.prime l.variables (terms_of l.sum) 256 → ⊥
  not_wide n w = let e = n.2.as_many in w.2.least n.2.basis (let a = n.1 in let b = w.1 in omega arith) (spans_sum n.2.basis n.2.spans)

  pub not_infinite : (N : ℕ) × (N ≤ 256) × HasDim l.prime l.variables (l.denominator.terms ∷ terms_of l.ideal) N → HasInfiniteDim l.prime l.variables (terms_of l.sum) → ⊥
  not_infinite n w = w n.2.basis (spans_sum n.2.basis n.2.spans)

  -- each member of the basis is in the ideal of the denominator and the generators
  pub members : All (InIdeal l.prime l.variables (l.denominator.terms ∷ terms_of l.ideal)) (terms_of l.sum)
  members = standard.members

  -- the rule of a lead by a lift of a polynomial
  pub lead_by : (corners border outer : List Monomial) (m : Monomial) (g u tail : List Term) (tail_shares lift_shares : List Share) → IsAffine l.variables m → IsPoly l.prime l.variables g
      → IsLift l g u → tail ≡ sub l.prime (polynomial_of m) g → terms_in corners border outer tail_shares ≡ tail → terms_in corners border outer lift_shares ≡ u
      → IsLeadSumIn (curve_of_lifted l) corners border outer m tail_shares lift_shares
  lead_by corners border outer m g u tail tail_shares lift_shares a hg k e q r = subst (InIdeal l.prime l.variables (terms_of l.ideal)) (sym same) k.lifts
    where
      R : CommRing
      R = Space.Ring l.prime l.variables h.prime

      m_poly : IsPoly l.prime l.variables (polynomial_of m)
      m_poly = record { canonical = ((omega arith), above_one l.prime h.prime, tt, tt); affine = (a, tt) }

      t_poly : IsPoly l.prime l.variables (sub l.prime (polynomial_of m) g)
      t_poly = poly_sub l.prime l.variables (polynomial_of m) g positive m_poly hg

      same : sub l.prime (polynomial_of m) (add l.prime (mul l.prime l.denominator.terms (normal l.prime (terms_in corners border outer lift_shares))) (normal l.prime (terms_in corners border outer tail_shares)))
          ≡ sub l.prime g (mul l.prime u l.denominator.terms)
      same =
          ap₂ (λ x y. sub l.prime (polynomial_of m) (add l.prime (mul l.prime l.denominator.terms x) y))
          (ap (normal l.prime) r ∙ canonical_same l.prime u k.poly.canonical)
          (ap (normal l.prime) (q ∙ e) ∙ canonical_same l.prime (sub l.prime (polynomial_of m) g) t_poly.canonical)
          ∙ rest_is (Space.Ring l.prime l.variables h.prime) (record { terms = polynomial_of m; is_poly = m_poly }) (record { terms = l.denominator.terms; is_poly = h.denominator.poly })
          (record { terms = u; is_poly = k.poly }) (record { terms = g; is_poly = hg })

-- what holds of the terms of each polynomial holds of those that are read
pub low_read : (P : List Term → Type 0) (fs list : List Polynomial) (i : ℕ) (f : Polynomial) → All P (terms_of fs) → list ≡ fs → i < length list → f ≡ get_or list i f → P f.terms
low_read P fs list i f h e l q =
    let short : i < length fs = (let w = ap length e in omega arith) in
    subst P (get_or-map (λ (g : Polynomial). g.terms) fs i f [] short ∙ ap (λ (g : Polynomial). g.terms) (ap (λ z. get_or z i f) (sym e) ∙ sym q))
    (All-get_or P (terms_of fs) i [] (let w = length-map fs (λ (g : Polynomial). g.terms) in omega arith) h)

-- the lift that is read is of the member that is read
pub lift_read : (l : LiftedData) (lifts read basis : List Polynomial) (i : ℕ) (u g : Polynomial) → AreLifts l lifts → read ≡ lifts → basis ≡ l.sum → i < length basis
    → u ≡ get_or read i u → g ≡ get_or basis i g → (u.prime ≡ l.prime) × IsLift l g.terms u.terms
lift_read l lifts read basis i u g h e q k a b =
    let inside : i < length lifts = (let w = h.count in let z = ap length q in omega arith) in
    subst (λ (z : Polynomial). (z.prime ≡ l.prime) × IsLift l g.terms z.terms) (sym (a ∙ ap (λ z. get_or z i u) e))
    (subst (λ (z : Polynomial). ((get_or lifts i u).prime ≡ l.prime) × IsLift l z.terms (get_or lifts i u).terms) (sym (b ∙ ap (λ z. get_or z i g) q)) (h.each i u g inside))

-- a lift more
pub lifts_push : (l : LiftedData) (lifts basis : List Polynomial) (i : ℕ) (u g : Polynomial) → length lifts ≡ i → basis ≡ l.sum → i < length basis → g ≡ get_or basis i g
    → ((j : ℕ) (d e : Polynomial) → j < length lifts → ((get_or lifts j d).prime ≡ l.prime) × IsLift l (get_or l.sum j e).terms (get_or lifts j d).terms)
    → (u.prime ≡ l.prime) × IsLift l g.terms u.terms
    → (j : ℕ) (d e : Polynomial) → j < length (lifts ++ u ∷ []) → ((get_or (lifts ++ u ∷ []) j d).prime ≡ l.prime) × IsLift l (get_or l.sum j e).terms (get_or (lifts ++ u ∷ []) j d).terms
lifts_push l lifts basis i u g n q k b h new j d e m =
    each_push P lifts u (λ t x w y. h t x y w) (subst (λ t. P t u) (sym n) here) j d m e
  where
    P : ℕ → Polynomial → Type 0
    P t x = (y : Polynomial) → (x.prime ≡ l.prime) × IsLift l (get_or l.sum t y).terms x.terms

    here : P i u
    here y = subst (λ (z : Polynomial). (u.prime ≡ l.prime) × IsLift l z.terms u.terms) (b ∙ get_or_default basis i g y k ∙ ap (λ z. get_or z i y) q) new

-- the monomials of lifts are affine
pub lifts_affine : (l : LiftedData) (lifts read : List Polynomial) (n : ℕ) → AreLifts l lifts → read ≡ lifts → n ≡ l.variables → All (λ f. EachMono (IsAffine n) f.terms) read
lifts_affine l lifts read n h e q =
    subst (All (λ (f : Polynomial). EachMono (IsAffine n) f.terms)) (sym e)
    (λ j d k. subst (λ z. EachMono (IsAffine z) (get_or lifts j d).terms) (sym q) (h.each j d d k).1.poly.affine)
