-- Members with all leads of a graded ideal give members with all leads of the ideal where the variable is 1.
use Rattle.std.proofs.Common.{◌≡◌, ℕ, ◌+◌, ◌-◌, ◌≤◌, ◌<◌, zero, suc, List, [], ◌∷◌, length, get_or, refl, sym, ap, ◌∙◌, subst, arith}
use Rattle.std.specs.List.{All, Contains}
use Rattle.std.proofs.lemmas.List.Elements.{All-nil, All-cons, All-head, All-tail, All-contains}
use Rattle.std.proofs.lemmas.List.{length-map}
use Rattle.monomials.specs.Mono.{Monomial, total_degree, Divides}
use Rattle.prime_field.proofs.Table.{positive_of_prime}
use Rattle.polys.specs.declared.term.Term.{Term}
use Rattle.polys.specs.Terms.{EachMono, IsAffine, IsPoly, normal, add, mul, degree_of}
use Rattle.polys.specs.Poly.{IsPlain}
use Rattle.polys.specs.Ideal.{InIdeal, combination}
use Rattle.polys.proofs.Affine.{poly_normal}
use Rattle.polys.proofs.Each.{every_zip, every_more, every_normal}
use Rattle.ideal_laws.proofs.Ideals.{in_poly}
use Rattle.polys.proofs.Units.{canonical_same}
use Rattle.polys.proofs.Weights.{normal_canon, is_canonical}
use Rattle.graded_modules.specs.Vector.{IsGraded, IsFactor, lead_mono}
use Rattle.graded_modules.specs.Module.{InModule, IsModuleLead}
use Rattle.graded_modules.specs.Bases.{HasAllLeads}
use Rattle.homogenising.specs.Homogenised.{dehomogenised, all_dehomogenised}
use Rattle.homogenising.specs.Laws.{IsHomogeneousPoly, HasAffineLeads, LeadsStayLeads}
use Rattle.homogenising.proofs.Order.{lift}
use Rattle.homogenising.proofs.Images.{image, sent, sent-add, sent-mul, image_image, image_self, every_image}
use Rattle.homogenising.proofs.Monomials.{lower, lower_times, lower_divides, affine_lower, degree_lower, lift_lower, lift_times, graded_lift, lower_lift}
use Rattle.homogenising.proofs.Lifted.{Fits, fits, lifted, lowered, lowered_poly, lowered_lead, IsLevel, levels}

module _ (p n : ℕ) (six : n ≤ 6) (pos : 0 < p) where
  abbrev pub Both : Monomial → Type 0
  Both m = IsGraded n m × IsPlain m

  pub both : (q : List Term) → IsFactor p n q → EachMono Both q
  both q h = every_zip (IsGraded n) IsPlain q h.vector.graded h.plain

  pub factor_of : (g : List Term) → IsHomogeneousPoly p n g → IsFactor p n g
  factor_of g h = record { vector = h.generator.vector; plain = h.plain }

  -- ---- from the graded ideal to the ideal

  pub lower_factor : (q : List Term) → IsFactor p n q → IsPoly p n (dehomogenised p q)
  lower_factor q h = poly_normal p n (image lower q) pos (every_image Both (IsAffine n) lower q (λ m x. affine_lower n six m x.0 x.1) (both q h))

  pub lower_product : (q g : List Term) → IsFactor p n q → IsFactor p n g → dehomogenised p (mul p q g) ≡ mul p (dehomogenised p q) (dehomogenised p g)
  lower_product q g h k = sent-mul Both Both lower lower lower (λ a b x y. lower_times a b x.0.seven x.1 y.0.seven y.1) p q g (both q h) (both g k)

  pub ideal_cons : (q g f : List Term) (gs : List (List Term)) → IsPoly p n q → InIdeal p n gs f → InIdeal p n (g ∷ gs) (add p (mul p q g) f)
  ideal_cons q g f gs h r =
      record {
        factors = q ∷ r.factors;
        polys = All-cons (IsPoly p n) q r.factors h r.polys;
        as_many = (let l = r.as_many in omega arith);
        combined = λ i. add p (mul p q g) (r.combined i);
      }

  lower_combination : (qs gs : List (List Term)) → All (IsFactor p n) qs → All (IsHomogeneousPoly p n) gs → length qs ≡ length gs
      → InIdeal p n (all_dehomogenised p gs) (dehomogenised p (combination p qs gs))
  lower_combination [] [] a b l = record { factors = []; polys = All-nil (IsPoly p n); as_many = refl; combined = refl }
  lower_combination [] (g ∷ gs) a b l = absurd (omega arith)
  lower_combination (q ∷ qs) [] a b l = absurd (omega arith)
  lower_combination (q ∷ qs) (g ∷ gs) a b l =
      let hq = All-head (IsFactor p n) q qs a in
      let hg = factor_of g (All-head (IsHomogeneousPoly p n) g gs b) in
      let ih = lower_combination qs gs (All-tail (IsFactor p n) q qs a) (All-tail (IsHomogeneousPoly p n) g gs b) (omega arith) in
      let e : dehomogenised p (add p (mul p q g) (combination p qs gs)) ≡ add p (mul p (dehomogenised p q) (dehomogenised p g)) (dehomogenised p (combination p qs gs)) =
      sent-add p lower (mul p q g) (combination p qs gs) ∙ (λ i. add p (lower_product q g hq hg i) (dehomogenised p (combination p qs gs)))
      in
      subst (InIdeal p n (all_dehomogenised p (g ∷ gs))) (sym e)
      (ideal_cons (dehomogenised p q) (dehomogenised p g) (dehomogenised p (combination p qs gs)) (all_dehomogenised p gs) (lower_factor q hq) ih)

  pub lower_member : (gs : List (List Term)) (f : List Term) → All (IsHomogeneousPoly p n) gs → InModule p n gs f → InIdeal p n (all_dehomogenised p gs) (dehomogenised p f)
  lower_member gs f a r = subst (λ w. InIdeal p n (all_dehomogenised p gs) (dehomogenised p w)) (sym r.combined) (lower_combination r.factors gs r.polys a r.as_many)

  pub lower_members : (gs qs : List (List Term)) → All (IsHomogeneousPoly p n) gs → All (InModule p n gs) qs → All (InIdeal p n (all_dehomogenised p gs)) (all_dehomogenised p qs)
  lower_members gs [] a b = All-nil (InIdeal p n (all_dehomogenised p gs))
  lower_members gs (q ∷ qs) a b =
      All-cons (InIdeal p n (all_dehomogenised p gs)) (dehomogenised p q) (all_dehomogenised p qs) (lower_member gs q a (All-head (InModule p n gs) q qs b))
      (lower_members gs qs a (All-tail (InModule p n gs) q qs b))

  -- ---- from the ideal to the graded ideal

  -- a monomial that a factor of degree e lifts to at most K
  abbrev Leaves : ℕ → ℕ → Monomial → Type 0
  Leaves K e m = IsAffine n m × (total_degree m.exponents + e ≤ K)

  leaves : (K e : ℕ) (q : List Term) → IsPoly p n q → degree_of q + e ≤ K → EachMono (Leaves K e) q
  leaves K e q h l = every_more (Fits p n six (degree_of q)) (Leaves K e) q (λ m x. (x.0, (let d = x.1 in omega arith))) (fits p n six q h)

  pub lift_factor : (K : ℕ) (q : List Term) → IsPoly p n q → IsFactor p n (sent p (lift K) q)
  lift_factor K q h =
      record {
        vector = record {
          canonical = is_canonical p (sent p (lift K) q) pos (normal_canon p (image (lift K) q));
          graded = every_normal (IsGraded n) p (image (lift K) q) (every_image (IsAffine n) (IsGraded n) (lift K) q (graded_lift n six K) h.affine);
        };
        plain = every_normal IsPlain p (image (lift K) q) (every_image (IsAffine n) IsPlain (lift K) q (λ m x. x.plain) h.affine);
      }

  pub lift_back : (g : List Term) (h : IsHomogeneousPoly p n g) → sent p (lift h.generator.homogeneous.0) (dehomogenised p g) ≡ g
  lift_back g h =
      ap (sent p (lift h.generator.homogeneous.0)) (lowered p n six g h)
      ∙ ap (normal p)
      (image_image (lift h.generator.homogeneous.0) lower g
      ∙ image_self (IsLevel p n six h.generator.homogeneous.0) (λ m. lift h.generator.homogeneous.0 (lower m)) g
      (λ m x. lift_lower n six h.generator.homogeneous.0 m x.graded x.plain x.degree) (levels p n six g h))
      ∙ canonical_same p g h.generator.vector.canonical

  lowered_fits : (g : List Term) (h : IsHomogeneousPoly p n g) → EachMono (Fits p n six h.generator.homogeneous.0) (dehomogenised p g)
  lowered_fits g h =
      subst (EachMono (Fits p n six h.generator.homogeneous.0)) (sym (lowered p n six g h))
      (every_image (IsLevel p n six h.generator.homogeneous.0) (Fits p n six h.generator.homogeneous.0) lower g
      (λ m x. (affine_lower n six m x.graded x.plain, (let d = degree_lower n six m x.graded x.plain in let e = x.degree in omega arith))) (levels p n six g h))

  pub lift_product : (K : ℕ) (q g : List Term) (h : IsHomogeneousPoly p n g) → IsPoly p n q → degree_of q + h.generator.homogeneous.0 ≤ K
      → sent p (lift K) (mul p q (dehomogenised p g)) ≡ mul p (sent p (lift (K - h.generator.homogeneous.0)) q) g
  lift_product K q g h k l =
      let e = h.generator.homogeneous.0 in
      sent-mul (Leaves K e) (Fits p n six e) (lift (K - e)) (lift e) (lift K) (λ a b x y. lift_times n six K e a b x.0 y.0 x.1 y.1) p q (dehomogenised p g)
      (leaves K e q k l) (lowered_fits g h)
      ∙ ap (mul p (sent p (lift (K - e)) q)) (lift_back g h)

  pub module_cons : (q g f : List Term) (gs : List (List Term)) → IsFactor p n q → InModule p n gs f → InModule p n (g ∷ gs) (add p (mul p q g) f)
  module_cons q g f gs h r =
      record {
        factors = q ∷ r.factors;
        polys = All-cons (IsFactor p n) q r.factors h r.polys;
        as_many = (let l = r.as_many in omega arith);
        combined = λ i. add p (mul p q g) (r.combined i);
      }

  lift_step : (q g rest : List Term) (gs : List (List Term)) (h : IsHomogeneousPoly p n g) → IsPoly p n q → (k K : ℕ) → ((K : ℕ) → k ≤ K → InModule p n gs (sent p (lift K) rest))
      → degree_of q + h.generator.homogeneous.0 + k ≤ K → InModule p n (g ∷ gs) (sent p (lift K) (add p (mul p q (dehomogenised p g)) rest))
  lift_step q g rest gs h a k K r l =
      subst (InModule p n (g ∷ gs))
      (sym (sent-add p (lift K) (mul p q (dehomogenised p g)) rest ∙ (λ i. add p (lift_product K q g h a (omega arith) i) (sent p (lift K) rest))))
      (module_cons (sent p (lift (K - h.generator.homogeneous.0)) q) g (sent p (lift K) rest) gs (lift_factor (K - h.generator.homogeneous.0) q a) (r K (omega arith)))

  -- lifted far enough a combination over the ideal is one over the graded ideal
  pub lift_combination : (qs gs : List (List Term)) → All (IsPoly p n) qs → All (IsHomogeneousPoly p n) gs → length qs ≡ length gs
      → (k : ℕ) × ((K : ℕ) → k ≤ K → InModule p n gs (sent p (lift K) (combination p qs (all_dehomogenised p gs))))
  lift_combination [] [] a b l = (0, λ K h. record { factors = []; polys = All-nil (IsFactor p n); as_many = refl; combined = refl })
  lift_combination [] (g ∷ gs) a b l = absurd (omega arith)
  lift_combination (q ∷ qs) [] a b l = absurd (omega arith)
  lift_combination (q ∷ qs) (g ∷ gs) a b l =
      let hq = All-head (IsPoly p n) q qs a in
      let hg = All-head (IsHomogeneousPoly p n) g gs b in
      let ih = lift_combination qs gs (All-tail (IsPoly p n) q qs a) (All-tail (IsHomogeneousPoly p n) g gs b) (omega arith) in
      (degree_of q + hg.generator.homogeneous.0 + ih.0, λ K h. lift_step q g (combination p qs (all_dehomogenised p gs)) gs hg hq ih.0 K ih.1 h)

  pub lower_polys : (gs : List (List Term)) → All (IsHomogeneousPoly p n) gs → All (IsPoly p n) (all_dehomogenised p gs)
  lower_polys [] a = All-nil (IsPoly p n)
  lower_polys (g ∷ gs) a =
      All-cons (IsPoly p n) (dehomogenised p g) (all_dehomogenised p gs) (lowered_poly p n six g (All-head (IsHomogeneousPoly p n) g gs a))
      (lower_polys gs (All-tail (IsHomogeneousPoly p n) g gs a))

  -- the lead of a member of the ideal, lifted far enough, is that of a member of the graded ideal
  lift_lead : (gs : List (List Term)) (t : Term) (f : List Term) → All (IsHomogeneousPoly p n) gs → InIdeal p n (all_dehomogenised p gs) (t ∷ f)
      → (K : ℕ) × IsModuleLead p n gs (lift K t.mono)
  lift_lead gs t f a r =
      let h = in_poly p n (all_dehomogenised p gs) (t ∷ f) pos (lower_polys gs a) r in
      let c = lift_combination r.factors gs r.polys a (r.as_many ∙ length-map gs (dehomogenised p)) in
      let K = c.0 + degree_of (t ∷ f) in
      let fit = every_more (Fits p n six (degree_of (t ∷ f))) (Fits p n six K) (t ∷ f) (λ m x. (x.0, (let d = x.1 in omega arith))) (fits p n six (t ∷ f) h) in
      let e : sent p (lift K) (t ∷ f) ≡ image (lift K) (t ∷ f) = canonical_same p (image (lift K) (t ∷ f)) (lifted p n six K (t ∷ f) h.canonical fit).generator.vector.canonical in
      let m : InModule p n gs (sent p (lift K) (t ∷ f)) = subst (λ w. InModule p n gs (sent p (lift K) w)) (sym r.combined) (c.1 K (omega arith)) in
      (K, (record { coeff = t.coeff; mono = lift K t.mono }, image (lift K) f, subst (InModule p n gs) e m, refl))

  pub contains_map : (qs : List (List Term)) (b : List Term) → Contains qs b → Contains (all_dehomogenised p qs) (dehomogenised p b)
  contains_map qs b (i, l, e) = (i, (let k = length-map qs (dehomogenised p) in omega arith), at qs i b l e)
    where
      at : (qs : List (List Term)) (i : ℕ) (b : List Term) → i < length qs → get_or qs i b ≡ b → get_or (all_dehomogenised p qs) i (dehomogenised p b) ≡ dehomogenised p b
      at [] i b l e = absurd (omega arith)
      at (q ∷ qs) zero b l e = ap (dehomogenised p) e
      at (q ∷ qs) (suc i) b l e = at qs i b (omega arith) e

  pub lead_seven : (b : List Term) → IsHomogeneousPoly p n b → (length (lead_mono b).exponents ≡ 7) × IsPlain (lead_mono b)
  lead_seven [] h = (refl, refl)
  lead_seven (t ∷ f) h = (h.generator.vector.graded.0.seven, h.plain.0)

  pub lower_leads : (gs qs : List (List Term)) → All (IsHomogeneousPoly p n) gs → All (IsHomogeneousPoly p n) qs → HasAllLeads p n gs qs
      → HasAffineLeads p n (all_dehomogenised p gs) (all_dehomogenised p qs)
  lower_leads gs qs a b h t f r =
      let aff = (in_poly p n (all_dehomogenised p gs) (t ∷ f) pos (lower_polys gs a) r).affine.0 in
      let l = lift_lead gs t f a r in
      let d = h (lift l.0 t.mono) l.1 in
      let q = All-contains (IsHomogeneousPoly p n) qs d.0 b d.1 in
      let k = lead_seven d.0 q in
      let e = lower_divides (lead_mono d.0) (lift l.0 t.mono) k.0 k.1 (graded_lift n six l.0 t.mono aff).seven d.2 in (
        dehomogenised p d.0,
        contains_map qs d.0 d.1,
        subst (Divides (lead_mono (dehomogenised p d.0))) (lower_lift n six l.0 t.mono aff)
            (subst (λ w. Divides w (lower (lift l.0 t.mono))) (sym (lowered_lead p n six d.0 q)) e),
      )

pub stays_law : LeadsStayLeads
stays_law p n gs qs prime six a b c h =
    let pos = positive_of_prime p prime in
    record { members = lower_members p n six pos gs qs a c; leads = lower_leads p n six pos gs qs a b h }
