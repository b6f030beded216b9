-- The steps of a chain of rings of local fractions, and of a sum of parts.
use Rattle.std.proofs.Common.{◌≡◌, ◌↔◌, ◌⊎◌, inl, inr, ℕ, ◌+◌, ◌-◌, ◌<◌, List, [], ◌∷◌, ◌++◌, map, length, All, sym, ap, ◌∙◌, subst, arith}
use Rattle.std.specs.List.{Contains, AllZip}
use Rattle.std.proofs.lemmas.List.{append-nil}
use Rattle.std.proofs.lemmas.List.Elements.{All-nil, All-cons, All-head, All-tail, All-weaker, All-contains, All-contains_itself}
use Rattle.comm_ring.specs.Ring.{CommRing, pow}
use Rattle.comm_ring.specs.Residues.{residue_ops}
use Rattle.comm_ring.specs.Modules.{IsSubmodule, InSpan, own_module, Dependent, Independent}
use Rattle.comm_ring.specs.Ideals as Ideals
use Rattle.comm_ring.proofs.Derived.{pow-zero, pow-one}
use Rattle.comm_ring.proofs.Quote.{ring, quote}
use Rattle.comm_ring.proofs.Fields.{residue_field}
use Rattle.comm_ring.proofs.Modules as Modules
use Rattle.comm_ring.proofs.Exchange as Exchange
use Rattle.fraction_laws.specs.Fractions as Fr
use Rattle.fraction_laws.proofs.Settings.{IsRing, IsModule}
use Rattle.fraction_laws.proofs.Basic.{gen_resp, gen_module, gen_one}
use Rattle.fraction_laws.proofs.Independence as Independence
use Rattle.polys.specs.declared.term.Term.{Term}
use Rattle.polys.specs.Terms.{IsPoly, one}
use Rattle.polys.specs.Curve.{CurveData}
use Rattle.curve_model.specs.Fraction.{Fraction, IsFraction, AreEqual, InA, over, sum_of, product_of, multiple_of}
use Rattle.curve_model.specs.Local.{Local}
use Rattle.curve_model.specs.Point.{IsPoint}
use Rattle.curve_model.specs.Closure.{InModule}
use Rattle.curve_model.specs.Delta as Delta
use Rattle.curve_model.specs.Laws.{IsFinite, ArePolys, SumOfParts, total, power_of}
use Rattle.curve_model.specs.Rings.{IsFractionRing, IsProduct, no_product, one_more, InRadical, KeepsRadical}
use Rattle.curve_model.specs.Enlarging.{IsLocalRing, IsBasisModuloA, difference_of}
use Rattle.curve_model.specs.Steps.{LiesWithin, AreOneModule, DependsOnFractions, LocalRingIsItsModule, RadicalHolds, RadicalsHoldPoints, EnlargedIsLocalRing, RingsAreLocal, DimensionsDecide, EqualDimensionsAreEqual, IsSumOfTwo, SumsGrow}
use Rattle.ideal_laws.proofs.Members.{lift, terms-lift}
use Rattle.curve_laws.proofs.Facts.{contains_member}
use Rattle.curve_laws.proofs.Chains.{mul_both}
use Rattle.curve_laws.proofs.Base.{Ring, Poly, Q, Curve as RingOf, d, member, equal_down}
use Rattle.curve_laws.proofs.Scalars.{scalar}
use Rattle.curve_laws.proofs.Regulars.{regular_curve}
use Rattle.curve_laws.proofs.StatedLaws.{frac, sum_poly, product_poly, sum-frac, product-frac}
use Rattle.curve_laws.proofs.SplitLaws.{Frac, unfrac, frac_all, in_up, in_down, total_poly}
use Rattle.curve_laws.proofs.DeltaLaws.{scal, multiple_poly, combination_poly, combination-frac, curve_map}
use Rattle.curve_laws.proofs.CountingLaws.{unfrac_all, length-frac_all, independent_up}
use Rattle.curve_laws.proofs.DescentLaws.{Frs, B', module_up, module_down, ring_up, radical_down}
use Rattle.curve_laws.proofs.EnlargingLaws.{enlargement_law, point'}
use Rattle.chain_laws.proofs.ChainLaws.{transfer, itself, one_poly, starts_law, whole}
use Rattle.chain_laws.proofs.OneExponent.{eq_refl, eq_sym, eq_trans, eq_sum}

-- ---- rings that are given

module _ (C : CommRing) where
  open C use {ops, carrier, ◌≈◌, ◌⊕◌, ◌⊗◌, neg, 𝟘, 𝟙}

  infix 40 ◌≈◌
  infixl 60 ◌⊕◌
  infixl 70 ◌⊗◌
  whole_sum : (x y u : carrier) → u ≈ 𝟙 → ((x ⊗ u) ⊕ (y ⊗ u)) ⊗ u ≈ (x ⊕ y) ⊗ u
  whole_sum x y u e = C.mul_cong (C.add_cong (C.trans (C.mul_cong (C.rfl x) e) (C.mul_one x)) (C.trans (C.mul_cong (C.rfl y) e) (C.mul_one y))) (C.rfl u)

  regroup : (w t h : carrier) → (w ⊕ t) ⊕ h ≈ w ⊕ (h ⊕ t)
  regroup w t h = ring C (w ∷ t ∷ h ∷ []) (search quote depth 20) tt

  back : (x y : carrier) → x ⊕ neg (x ⊕ neg y) ≈ y
  back x y = ring C (x ∷ y ∷ []) (search quote depth 20) tt

  pow_none : (x : carrier) → pow ops x 0 ≈ 𝟙
  pow_none x = pow-zero C x

  -- what lies in products of P and B lies in them as a first power
  first_power : (P B : carrier → Type 0) (x : carrier) → Ideals.ProductOf ops P B x → Ideals.ProductOf ops P B (pow ops x 1)
  first_power P B x h = gen_resp C P B x (pow ops x 1) (C.symm (pow-one C x)) h

module _ (A : CurveData) (c : IsFinite A) where
  pub all_local : (P : List (List Term)) → IsPoint A P → (K : ℕ) (L : List (List Term)) → ArePolys A L → IsLocalRing A P K L → (f : Fraction) → IsFraction A f → InModule A K L f → Local A P f
  all_local P point K L l w f h i = let e = enlargement_law A c P point K L l w in e.local f h (e.holds f h i)

  pub whole_local : (P : List (List Term)) → IsPoint A P → (f : Fraction) → IsFraction A f → InA A f → Local A P f
  whole_local P point f h i = all_local P point 0 (one ∷ []) (All-cons (IsPoly A.prime A.variables) one [] (one_poly A c) (All-nil (IsPoly A.prime A.variables))) (starts_law A c P point) f h ((whole A c f h).0 i)

  product_more : (P : List (List Term)) (B W : Fraction → Type 0) → ((f : Fraction) → IsFraction A f → B f → W f) → (f : Fraction) → IsProduct A P B f → IsProduct A P W f
  product_more P B W e _ (no_product f h z) = no_product f h z
  product_more P B W e _ (one_more f b g q hf hb hg cq bb hy z) = one_more f b g q hf hb hg cq (e b hb bb) (product_more P B W e g hy) z

  radical_more : (P : List (List Term)) (B W : Fraction → Type 0) → ((f : Fraction) → IsFraction A f → B f → W f) → (f : Fraction) → IsFraction A f → InRadical A P B f → InRadical A P W f
  radical_more P B W e f h r = (e f h r.0, (r.1.0, product_more P B W e (power_of A f r.1.0) r.1.1))

  module _ (P : List (List Term)) (point : IsPoint A P) (K : ℕ) (L : List (List Term)) (l : ArePolys A L) where
    abbrev B : Fraction → Type 0
    B = InModule A K L

    module _ (N : ℕ) (M : List (List Term)) (m : ArePolys A M) where
      abbrev W : Fraction → Type 0
      W = InModule A N M

      over_local : (w : IsLocalRing A P K L) → ((f : Fraction) → IsFraction A f → W f → Local A P f) → All (λ b. Local A P (over b N)) M
      over_local w e = All-weaker (Contains M) (λ b. Local A P (over b N))
          (λ b k. let h = All-contains (IsPoly A.prime A.variables) M b m k in e (over b N) (All-contains (IsPoly A.prime A.variables) M b m k) (itself A c N M m b k))
          M (All-contains_itself M)

      pub same_ring : AreOneModule A K L N M → IsLocalRing A P K L → IsLocalRing A P N M
      same_ring e w = record {
        ring = transfer A c B W e w.ring;
        holds = λ f h i. (e f h).0 (w.holds f h i);
        local = over_local w (λ f h i. all_local P point K L l w f h ((e f h).1 i));
      }

      pub depends : AreOneModule A K L N M → DependsOnFractions A P K L N M
      depends e = record {
        ring = same_ring e;
        radical = λ f h r. radical_more P B W (λ g k. (e g k).0) f h r;
        keeps = λ h hh k f hf r. radical_more P B W (λ g z. (e g z).0) (product_of A h f) (product_poly A c h f hh hf) (k f hf (radical_more P W B (λ g z. (e g z).1) f hf r));
      }

      pub enlarged_ring : IsLocalRing A P K L → ((f : Fraction) → IsFraction A f → W f ↔ KeepsRadical A P B f) → IsLocalRing A P N M × LiesWithin A K L N M
      enlarged_ring w e =
          let n = enlargement_law A c P point K L l w in (
            record {
              ring = transfer A c (KeepsRadical A P B) W (λ f h. ((e f h).1, (e f h).0)) n.ring;
              holds = λ f h i. (e f h).1 (n.holds f h (w.holds f h i));
              local = over_local w (λ f h i. n.local f h ((e f h).0 i));
            },
            λ f h i. (e f h).1 (n.holds f h i),
          )

    module _ (w : IsLocalRing A P K L) where
      abbrev P' : List (Poly A c.curve)
      P' = lift A.prime A.variables P point.reduced.polys

      abbrev B'' : Frac A c → Type 0
      B'' = B' A c K L l

      abbrev Whole : Frac A c → Type 0
      Whole = Fr.Whole (Q A c.curve) (d A c.curve) P'

      abbrev Pb : Frac A c → Type 0
      Pb = Ideals.ProductOf (Frs A c).ops Whole B''

      up : Fr.IsFractionRing (Q A c.curve) (d A c.curve) B''
      up = ring_up A c K L l w.ring

      ring_above : IsRing (Frs A c).ops B''
      ring_above = record { resp = up.resp; one = up.one; add = up.add; mul = up.mul; neg = up.neg }

      in_b : (x : Poly A c.curve) → B'' (x, 0)
      in_b x = module_up A c K L l (x, 0) (w.holds (over x.terms 0) x.is_poly (x.terms, x.is_poly, eq_refl A c (over x.terms 0) x.is_poly))

      pb : IsModule (Frs A c).ops B'' Pb
      pb = gen_module (Frs A c) Whole B'' ring_above

      -- the polynomials that lie in PB
      numerators : IsSubmodule (own_module (Q A c.curve)) (λ x. Pb (x, 0))
      numerators = record {
        resp = λ x y e h. pb.resp (x, 0) (y, 0) (mul_both (RingOf A c.curve) x y (pow (Q A c.curve) (d A c.curve) 0) (pow (Q A c.curve) (d A c.curve) 0) e ((RingOf A c.curve).rfl (pow (Q A c.curve) (d A c.curve) 0))) h;
        none = pb.none;
        add = λ x y h k. pb.resp ((Frs A c).◌⊕◌ (x, 0) (y, 0)) ((Q A c.curve).◌⊕◌ x y, 0) (whole_sum (RingOf A c.curve) x y (pow (Q A c.curve) (d A c.curve) 0) (pow_none (RingOf A c.curve) (d A c.curve))) (pb.add (x, 0) (y, 0) h k);
        scale = λ z x h. pb.mul (z, 0) (x, 0) (in_b z) h;
      }

      generator_in : (p : Poly A c.curve) → Contains P' p → Pb (p, 0)
      generator_in p k = gen_one (Frs A c) Whole B'' up.one (p, 0) (p, k, (Frs A c).rfl (p, 0))

      denominator_in : Pb (d A c.curve, 0)
      denominator_in = Modules.span_least (RingOf A c.curve) (Modules.own (RingOf A c.curve)) (λ x. Pb (x, 0)) numerators P'
          (All-weaker (Contains P') (λ x. Pb (x, 0)) generator_in P' (All-contains_itself P')) (d A c.curve) (point' A c P point K L l w).0

      radical_of : (x : Frac A c) → B'' x → Pb x → Fr.RadicalAt (Q A c.curve) (d A c.curve) P' B'' x
      radical_of x b h = (b, (1, first_power (Frs A c) Whole B'' x h))

      pub holds_points : RadicalHolds A P B
      holds_points = record {
        denominator = λ f hf i.
            let y = frac A c f hf in
            let q = product_poly A c (over A.denominator 0) f c.curve.denominator hf in
            let b : B'' (frac A c f hf) = module_up A c K L l (frac A c f hf) i in
            let z = (Frs A c).◌⊗◌ (d A c.curve, 0) (frac A c f hf) in
            radical_down A c K L l P point.reduced.polys (product_of A (over A.denominator 0) f) (product_poly A c (over A.denominator 0) f c.curve.denominator hf)
            (subst (Fr.RadicalAt (Q A c.curve) (d A c.curve) P' B'') (product-frac A c (over A.denominator 0) f c.curve.denominator hf)
            (radical_of ((Frs A c).◌⊗◌ (d A c.curve, 0) (frac A c f hf)) (up.mul (d A c.curve, 0) (frac A c f hf) (in_b (d A c.curve)) b)
            (pb.resp ((Frs A c).◌⊗◌ (frac A c f hf) (d A c.curve, 0)) ((Frs A c).◌⊗◌ (d A c.curve, 0) (frac A c f hf)) ((Frs A c).mul_comm (frac A c f hf) (d A c.curve, 0)) (pb.mul (frac A c f hf) (d A c.curve, 0) b denominator_in))));
        point = λ q k.
            let hq = All-contains (IsPoly A.prime A.variables) P q point.reduced.polys k in
            let x = member A c.curve q (All-contains (IsPoly A.prime A.variables) P q point.reduced.polys k) in
            radical_down A c K L l P point.reduced.polys (over q 0) hq
            (radical_of (x, 0) (in_b x) (generator_in x (contains_member P' x (subst (λ g. Contains g q) (sym (terms-lift A.prime A.variables P point.reduced.polys)) k))));
      }

  -- ---- dimensions modulo A

  abbrev Residue : CommRing
  Residue = Independence.K (RingOf A c.curve) (d A c.curve) (regular_curve A c.curve) A.prime c.curve.prime (scalar A c) (curve_map A c)

  abbrev Space : Modules.Module Residue
  Space = Independence.FractionSpace (RingOf A c.curve) (d A c.curve) (regular_curve A c.curve) A.prime c.curve.prime (scalar A c) (curve_map A c)

  abbrev Spanned : List Fraction → Fraction → Type 0
  Spanned vs f = (cs : List ℕ) × All (λ e. e < A.prime) cs × length cs ≡ length vs × InA A (difference_of A f (Delta.combination A cs vs))

  span_up : (vs : List Fraction) (h : All (IsFraction A) vs) (x : Frac A c) → Spanned vs (unfrac A c x) → InSpan Space.ops (frac_all A c vs h) x
  span_up vs h x s =
      let xs = frac_all A c vs h in
      let cs : List ℕ = s.0 in
      let g : Fraction = Delta.combination A cs (map (unfrac A c) xs) in
      let gp : IsFraction A g = combination_poly A c cs xs in
      let e : map (unfrac A c) xs ≡ vs = unfrac_all A c vs h in (
        cs,
        s.2 ∙ sym (length-frac_all A c vs h),
        subst (λ y. Fr.InA (Q A c.curve) (d A c.curve) ((Fr.fraction_ops (Q A c.curve) (d A c.curve)).◌⊕◌ x ((Fr.fraction_ops (Q A c.curve) (d A c.curve)).neg y))) (sym (combination-frac A c cs xs))
            (subst (Fr.InA (Q A c.curve) (d A c.curve)) (sym (sum-frac A c (unfrac A c x) (multiple_of A (A.prime - 1) g) x.0.is_poly (multiple_poly A c (A.prime - 1) g gp)))
            (in_up A c (difference_of A (unfrac A c x) g) (sum_poly A c (unfrac A c x) (multiple_of A (A.prime - 1) g) x.0.is_poly (multiple_poly A c (A.prime - 1) g gp)) (subst (λ z. InA A (difference_of A (unfrac A c x) (Delta.combination A cs z))) (sym e) s.3))),
      )

  spans_up : (vs : List Fraction) (h : All (IsFraction A) vs) (us : List Fraction) (k : All (IsFraction A) us) → All (Spanned vs) us → All (InSpan Space.ops (frac_all A c vs h)) (frac_all A c us k)
  unfolding frac_all
  spans_up vs h [] k s = All-nil (InSpan Space.ops (frac_all A c vs h))
  spans_up vs h (u ∷ us) k s = All-cons (InSpan Space.ops (frac_all A c vs h)) (frac A c u (All-head (IsFraction A) u us k)) (frac_all A c us (All-tail (IsFraction A) u us k))
      (span_up vs h (frac A c u (All-head (IsFraction A) u us k)) (All-head (Spanned vs) u us s)) (spans_up vs h us (All-tail (IsFraction A) u us k) (All-tail (Spanned vs) u us s))

  module _ (K : ℕ) (L : List (List Term)) (l : ArePolys A L) (r : IsFractionRing A (InModule A K L)) (holds : (f : Fraction) → IsFraction A f → InA A f → InModule A K L f) where
    abbrev Up : Frac A c → Type 0
    Up = B' A c K L l

    up_ring : Fr.IsFractionRing (Q A c.curve) (d A c.curve) Up
    up_ring = ring_up A c K L l r

    in_a : (x : Frac A c) → Fr.InA (Q A c.curve) (d A c.curve) x → Up x
    in_a x i = module_up A c K L l x (holds (unfrac A c x) x.0.is_poly (in_down A c (unfrac A c x) x.0.is_poly i))

    scalar_in : (e : ℕ) → Up (scal A c e)
    scalar_in e = module_up A c K L l (scal A c e) (holds (over (scalar A c e).terms 0) (scalar A c e).is_poly ((scalar A c e).terms, (scalar A c e).is_poly, eq_refl A c (over (scalar A c e).terms 0) (scalar A c e).is_poly))

    submodule : IsSubmodule Space.ops Up
    submodule = record {
      resp = λ x y e h. up_ring.resp ((Frs A c).◌⊕◌ x ((Frs A c).neg ((Frs A c).◌⊕◌ x ((Frs A c).neg y)))) y (back (Frs A c) x y)
          (up_ring.add x ((Frs A c).neg ((Frs A c).◌⊕◌ x ((Frs A c).neg y))) h (up_ring.neg ((Frs A c).◌⊕◌ x ((Frs A c).neg y)) (in_a ((Frs A c).◌⊕◌ x ((Frs A c).neg y)) e)));
      none = module_up A c K L l (Frs A c).𝟘 (holds (over [] 0) (Ring A c.curve).𝟘.is_poly ([], (Ring A c.curve).𝟘.is_poly, eq_refl A c (over [] 0) (Ring A c.curve).𝟘.is_poly));
      add = up_ring.add;
      scale = λ e x h. up_ring.mul (scal A c e) x (scalar_in e) h;
    }

    ups : (fs : List Fraction) (h : All (IsFraction A) fs) → All (InModule A K L) fs → All Up (frac_all A c fs h)
    unfolding frac_all
    ups [] h k = All-nil Up
    ups (f ∷ fs) h k = All-cons Up (frac A c f (All-head (IsFraction A) f fs h)) (frac_all A c fs (All-tail (IsFraction A) f fs h))
        (module_up A c K L l (frac A c f (All-head (IsFraction A) f fs h)) (All-head (InModule A K L) f fs k)) (ups fs (All-tail (IsFraction A) f fs h) (All-tail (InModule A K L) f fs k))

    module _ (N : ℕ) (M : List (List Term)) (m : ArePolys A M) (within : LiesWithin A K L N M) (us vs : List Fraction) (b : IsBasisModuloA A (InModule A K L) us) (e : IsBasisModuloA A (InModule A N M) vs) where
      abbrev xs : List (Frac A c)
      xs = frac_all A c us b.fractions

      abbrev ys : List (Frac A c)
      ys = frac_all A c vs e.fractions

      spanned : (fs : List Fraction) → All (IsFraction A) fs → All (InModule A K L) fs → All (Spanned vs) fs
      spanned [] h k = All-nil (Spanned vs)
      spanned (f ∷ fs) h k = All-cons (Spanned vs) f fs
          (e.spans f (All-head (IsFraction A) f fs h) (within f (All-head (IsFraction A) f fs h) (All-head (InModule A K L) f fs k)))
          (spanned fs (All-tail (IsFraction A) f fs h) (All-tail (InModule A K L) f fs k))

      independent : Independent (residue_ops A.prime) Space.ops xs
      independent = independent_up A c us b.fractions b.independent

      in_span : All (InSpan Space.ops ys) xs
      in_span = spans_up vs e.fractions us b.fractions (spanned us b.fractions b.members)

      abbrev Exchanged : Type 0
      Exchanged = Exchange.Exchanged Residue (residue_field A.prime c.curve.prime) Space xs ys

      exchanged : Exchanged
      exchanged = go (Exchange.exchange Residue (residue_field A.prime c.curve.prime) Space xs ys in_span)
        where
          go : Dependent (residue_ops A.prime) Space.ops xs ⊎ Exchanged → Exchanged
          go (inl z) = absurd (Exchange.not_both Residue (residue_field A.prime c.curve.prime) Space xs independent z)
          go (inr z) = z

      lengths : length us + length exchanged.0 ≡ length vs
      lengths =
          let a : length xs + length exchanged.0 ≡ length ys = exchanged.1 in
          let u : length xs ≡ length us = length-frac_all A c us b.fractions in
          let v : length ys ≡ length vs = length-frac_all A c vs e.fractions in
          omega arith

      back_in : length us ≡ length vs → All (InSpan Space.ops xs) ys
      back_in q = go exchanged.0 exchanged.3 (let a = lengths in let z : length us ≡ length vs = q in omega arith)
        where
          go : (rest : List (Frac A c)) → All (InSpan Space.ops (xs ++ rest)) ys → length rest ≡ 0 → All (InSpan Space.ops xs) ys
          go [] h z = subst (λ t. All (InSpan Space.ops t) ys) (append-nil xs) h
          go (x ∷ rest) h z = absurd (omega arith)

      pub decide : DimensionsDecide A K L N M (length us) (length vs)
      decide = record {
        most = let a = lengths in omega arith;
        equal = λ q f h i. module_down A c K L l (frac A c f h)
            (Modules.span_least Residue Space Up submodule xs (ups us b.fractions b.members) (frac A c f h)
            (Modules.span_through Residue Space ys xs (back_in q) (frac A c f h) (span_up vs e.fractions (frac A c f h) (e.spans f h i))));
      }

  -- ---- sums of parts

  by_frac : (f g : Fraction) (a : IsFraction A f) (b : IsFraction A g) (x y : Frac A c) → x ≡ frac A c f a → y ≡ frac A c g b → (Frs A c).◌≈◌ x y → AreEqual A f g
  by_frac f g a b x y s t e = equal_down A c.curve f g a b (subst (λ z. (Frs A c).◌≈◌ (frac A c f a) z) t (subst (λ z. (Frs A c).◌≈◌ z y) s e))

  module _ (w t h : Fraction) (a : IsFraction A w) (b : IsFraction A t) (k : IsFraction A h) where
    left_poly : IsFraction A (sum_of A (sum_of A w t) h)
    left_poly = sum_poly A c (sum_of A w t) h (sum_poly A c w t a b) k

    right_poly : IsFraction A (sum_of A w (sum_of A h t))
    right_poly = sum_poly A c w (sum_of A h t) a (sum_poly A c h t k b)

    regrouped : AreEqual A (sum_of A (sum_of A w t) h) (sum_of A w (sum_of A h t))
    unfolding left_poly right_poly
    regrouped = by_frac (sum_of A (sum_of A w t) h) (sum_of A w (sum_of A h t)) left_poly right_poly
        ((Frs A c).◌⊕◌ ((Frs A c).◌⊕◌ (frac A c w a) (frac A c t b)) (frac A c h k)) ((Frs A c).◌⊕◌ (frac A c w a) ((Frs A c).◌⊕◌ (frac A c h k) (frac A c t b)))
        (ap (λ z. (Frs A c).◌⊕◌ z (frac A c h k)) (sum-frac A c w t a b) ∙ sum-frac A c (sum_of A w t) h (sum_poly A c w t a b) k)
        (ap (λ z. (Frs A c).◌⊕◌ (frac A c w a) z) (sum-frac A c h t k b) ∙ sum-frac A c w (sum_of A h t) a (sum_poly A c h t k b))
        (regroup (Frs A c) (frac A c w a) (frac A c t b) (frac A c h k))

  module _ (S : List (List (List Term))) (P : List (List Term)) (f : Fraction) (hf : IsFraction A f) where
    pub sums_up : SumOfParts A (P ∷ S) f → IsSumOfTwo A (SumOfParts A S) (Local A P) f
    sums_up s = go s.parts s.fractions s.local s.equal
      where
        go : (parts : List Fraction) → All (IsFraction A) parts → AllZip (Local A) (P ∷ S) parts → AreEqual A f (sum_of A s.whole (total A parts)) → IsSumOfTwo A (SumOfParts A S) (Local A P) f
        go [] b z e = absurd z
        go (h ∷ ts) b z e =
            let hh = All-head (IsFraction A) h ts b in
            let ht = All-tail (IsFraction A) h ts b in
            let tp = total_poly A c ts (All-tail (IsFraction A) h ts b) in
            let g : Fraction = sum_of A s.whole (total A ts) in
            let gp : IsFraction A g = sum_poly A c s.whole (total A ts) s.whole_fraction (total_poly A c ts (All-tail (IsFraction A) h ts b)) in
            record {
              left = g;
              right = h;
              left_fraction = gp;
              right_fraction = hh;
              in_left = record { whole = s.whole; parts = ts; whole_fraction = s.whole_fraction; fractions = ht; whole_in = s.whole_in; local = z.1; equal = eq_refl A c g gp };
              in_right = z.0;
              equal = eq_trans A c f (sum_of A s.whole (sum_of A h (total A ts))) (sum_of A g h) hf (right_poly s.whole (total A ts) h s.whole_fraction tp hh) (left_poly s.whole (total A ts) h s.whole_fraction tp hh) e
                  (eq_sym A c (sum_of A g h) (sum_of A s.whole (sum_of A h (total A ts))) (left_poly s.whole (total A ts) h s.whole_fraction tp hh) (right_poly s.whole (total A ts) h s.whole_fraction tp hh)
                  (regrouped s.whole (total A ts) h s.whole_fraction tp hh));
            }

    pub sums_down : IsSumOfTwo A (SumOfParts A S) (Local A P) f → SumOfParts A (P ∷ S) f
    sums_down s =
        let p = s.in_left in
        let tp = total_poly A c p.parts p.fractions in
        let g : Fraction = sum_of A p.whole (total A p.parts) in
        let gp : IsFraction A g = sum_poly A c p.whole (total A p.parts) p.whole_fraction (total_poly A c p.parts p.fractions) in
        record {
          whole = p.whole;
          parts = s.right ∷ p.parts;
          whole_fraction = p.whole_fraction;
          fractions = All-cons (IsFraction A) s.right p.parts s.right_fraction p.fractions;
          whole_in = p.whole_in;
          local = (s.in_right, p.local);
          equal = eq_trans A c f (sum_of A s.left s.right) (sum_of A p.whole (sum_of A s.right (total A p.parts))) hf (sum_poly A c s.left s.right s.left_fraction s.right_fraction) (right_poly p.whole (total A p.parts) s.right p.whole_fraction tp s.right_fraction) s.equal
              (eq_trans A c (sum_of A s.left s.right) (sum_of A g s.right) (sum_of A p.whole (sum_of A s.right (total A p.parts)))
              (sum_poly A c s.left s.right s.left_fraction s.right_fraction) (left_poly p.whole (total A p.parts) s.right p.whole_fraction tp s.right_fraction) (right_poly p.whole (total A p.parts) s.right p.whole_fraction tp s.right_fraction)
              (eq_sum A c s.left s.right g s.right s.left_fraction s.right_fraction gp s.right_fraction p.equal (eq_refl A c s.right s.right_fraction))
              (regrouped p.whole (total A p.parts) s.right p.whole_fraction tp s.right_fraction));
        }

pub one_module_law : LocalRingIsItsModule
one_module_law A c P point K L l N M m e = depends A c P point K L l N M m e

pub radical_holds_law : RadicalsHoldPoints
radical_holds_law A c P point K L l w = holds_points A c P point K L l w

pub enlarged_ring_law : EnlargedIsLocalRing
enlarged_ring_law A c P point K L l w N M m e = enlarged_ring A c P point K L l N M m w e

pub all_local_law : RingsAreLocal
all_local_law A c P point K L l w = record { whole = whole_local A c P point; members = all_local A c P point K L l w }

pub dimensions_law : EqualDimensionsAreEqual
dimensions_law A c K L l r h N M m within us vs b e = decide A c K L l r h N M m within us vs b e

pub sums_law : SumsGrow
sums_law A c S q P a f hf = (sums_up A c S P f hf, sums_down A c S P f hf)
