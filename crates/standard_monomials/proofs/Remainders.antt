-- Each polynomial has one remainder: a lead that is a multiple is cancelled, one that is standard is set aside.
use Rattle.std.proofs.Common.{◌≡◌, ◌⊎◌, inl, inr, ℕ, ◌-◌, ◌<◌, List, [], ◌∷◌, length, refl, sym, ap, ◌∙◌, subst}
use Rattle.std.specs.declared.cmp.Ordering.TheVariants.{Less}
use Rattle.std.specs.List.{All, Contains}
use Rattle.std.proofs.lemmas.List.Elements.{All-contains, All-weaker}
use Rattle.monomials.specs.Mono.{Monomial, Divides, cmp_dp}
use Rattle.prime_field.specs.Primes.{IsPrime}
use Rattle.polys.specs.declared.term.Term.{Term}
use Rattle.polys.specs.Terms.{EachMono, IsPoly, IsMonic, normal, add, sub, mul, multiple}
use Rattle.polys.specs.Ideal.{InIdeal}
use Rattle.polys.proofs.Affine.{constant, mul_constant, poly_none, poly_add, poly_sub, poly_mul, sevens_of}
use Rattle.polys.proofs.Each.{every_add, every_multiple}
use Rattle.ideal_laws.proofs.Ideals.{in_none, in_add, in_sub, in_mul, in_poly}
use Rattle.polys.proofs.Leads.{Seven}
use Rattle.polys.proofs.Sums.{add_assoc, add_comm, mul_normal_right}
use Rattle.polys.proofs.Units.{add_none}
use Rattle.monomials.proofs.Order.{turn_down}
use Rattle.graded_modules.specs.Vector.{lead_mono}
use Rattle.graded_modules.specs.Module.{IsLeadMultiple}
use Rattle.homogenising.proofs.Descent.{Step, descent}
use Rattle.homogenising.proofs.Found.{search_lead}
use Rattle.homogenising.proofs.Spanning.{pos, Low, cancel}
use Rattle.ideal_laws.proofs.Differences.{sub_cons, sub_add, less_difference as taken}
use Rattle.standard_monomials.specs.Standard.{IsStandardBasis, IsStandard, IsRemainder}
use Rattle.standard_monomials.specs.Laws.{RemaindersAreUnique}

-- what is added to the first part can be added at the end
add_last : (p : ℕ) (g q r : List Term) → sub p (add p g q) r ≡ add p (sub p g r) q
add_last p g q r =
    add_assoc p g q (multiple p (p - 1) r)
    ∙ ap (add p g) (add_comm p q (multiple p (p - 1) r))
    ∙ sym (add_assoc p g (multiple p (p - 1) r) q)

multiple_normal : (p c : ℕ) (f : List Term) → EachMono Seven f → EachMono Seven (normal p f) → multiple p c (normal p f) ≡ multiple p c f
multiple_normal p c f h k = sym (mul_constant p c (normal p f) k) ∙ mul_normal_right p (constant p c) f ∙ mul_constant p c f h

-- the lead of a polynomial in n variables has component 0
pub plain_lead : (p n : ℕ) (b : List Term) → IsPoly p n b → (lead_mono b).component ≡ 0
plain_lead p n [] h = refl
plain_lead p n (t ∷ f) h = h.affine.0.plain

module _ (p n : ℕ) (prime : IsPrime p) (gs ds : List (List Term)) (hi : All (IsPoly p n) gs) (base : IsStandardBasis p n gs ds) where
  abbrev Standard : Monomial → Type 0
  Standard m = IsStandard n ds m

  abbrev above : 0 < p
  above = pos p n prime

  pub basis_polys : All (IsPoly p n) ds
  basis_polys = All-weaker (InIdeal p n gs) (IsPoly p n) (λ d r. in_poly p n gs d above hi r) ds base.members

  -- a member of the ideal with standard monomials alone is 0
  pub only_zero : (f : List Term) → EachMono Standard f → InIdeal p n gs f → f ≡ []
  only_zero [] s r = refl
  only_zero (t ∷ f) s r = absurd (s.0.outside (base.leads t f r))

  pub same_remainder : (f r s : List Term) → IsPoly p n f → IsRemainder p n gs ds f r → IsRemainder p n gs ds f s → s ≡ r
  same_remainder f r s hf a b =
      sym (sub_add p s r above b.poly.canonical) ∙ ap (λ z. add p z r) zero ∙ add_comm p [] r ∙ add_none p r a.poly.canonical
    where
      -- s - r is (f - r) - (f - s)
      difference : sub p s r ≡ sub p (sub p f r) (sub p f s)
      difference =
          ap (λ z. sub p z r) (sym (taken p f s above hf.canonical b.poly.canonical))
          ∙ turned
        where
          turned : sub p (sub p f (sub p f s)) r ≡ sub p (sub p f r) (sub p f s)
          turned = add_last p f (multiple p (p - 1) (sub p f s)) r

      zero : sub p s r ≡ []
      zero =
          only_zero (sub p s r) (every_add Standard p s (multiple p (p - 1) r) b.standard (every_multiple Standard p (p - 1) r a.standard))
          (subst (InIdeal p n gs) (sym difference) (in_sub p n gs (sub p f r) (sub p f s) above (poly_sub p n f s above hf b.poly) a.close b.close))

  abbrev Has : List Term → Type 0
  Has f = (r : List Term) × IsRemainder p n gs ds f r

  none : Has []
  none = ([], record { poly = poly_none p n; standard = tt; close = in_none p n gs })

  abbrev Down : Monomial → Type 0
  Down m = (t : Term) (f : List Term) → t.mono ≡ m → IsPoly p n (t ∷ f) → Has (t ∷ f)

  -- with what was cancelled put back
  back : (f q : List Term) → IsPoly p n f → InIdeal p n gs q → Has (sub p f q) → Has f
  back f q hf i h = (
    h.0,
    record {
      poly = h.1.poly;
      standard = h.1.standard;
      close =
          subst (λ z. InIdeal p n gs (sub p z h.0)) (sub_add p f q above hf.canonical)
          (subst (InIdeal p n gs) (sym (add_last p (sub p f q) q h.0)) (in_add p n gs (sub p (sub p f q) h.0) q above h.1.close i));
    },
  )

  -- with the standard lead put back
  aside : (t : Term) (f : List Term) → IsPoly p n (t ∷ f) → Standard t.mono → Has f → Has (t ∷ f)
  aside t f hf s h = (
    add p (t ∷ []) h.0,
    record {
      poly = poly_add p n (t ∷ []) h.0 above first h.1.poly;
      standard = every_add Standard p (t ∷ []) h.0 (s, tt) h.1.standard;
      close = subst (InIdeal p n gs) (sym whole) h.1.close;
    },
  )
    where
      first : IsPoly p n (t ∷ [])
      first = record { canonical = (hf.canonical.0, hf.canonical.1, tt, tt); affine = (hf.affine.0, tt) }

      sevens : EachMono Seven (t ∷ h.0)
      sevens = (hf.affine.0.seven, sevens_of p n h.0 h.1.poly)

      whole : sub p (t ∷ f) (normal p (t ∷ h.0)) ≡ sub p f h.0
      whole =
          ap (add p (t ∷ f)) (multiple_normal p (p - 1) (t ∷ h.0) sevens (sevens_of p n (normal p (t ∷ h.0)) (poly_add p n (t ∷ []) h.0 above first h.1.poly)))
          ∙ sub_cons p t f h.0 above

  lower : (m : Monomial) → ((w : Monomial) → length w.exponents ≡ 7 → w.component ≡ 0 → cmp_dp w m ≡ Less → Down w)
      → (f : List Term) → IsPoly p n f → EachMono (Low p n prime m) f → Has f
  lower m ih [] hf l = none
  lower m ih (u ∷ f) hf l = ih u.mono hf.affine.0.seven hf.affine.0.plain l.0 u f refl hf

  down_step : Step Down
  down_step m s ih t f e hf = go (search_lead ds t.mono (λ b c. plain_lead p n b (All-contains (IsPoly p n) ds b basis_polys c) ∙ sym hf.affine.0.plain))
    where
      below : (g : List Term) → IsPoly p n g → EachMono (Low p n prime t.mono) g → Has g
      below g hg l = lower t.mono (λ w k z c. ih w (record { seven = k; plain = z }) (ap (cmp_dp w) (sym e) ∙ c)) g hg l

      tail : (f : List Term) → IsPoly p n (t ∷ f) → Has f
      tail [] h = none
      tail (u ∷ f) h =
          let a = h.affine.1.0 in
          ih u.mono (record { seven = a.seven; plain = a.plain }) (ap (cmp_dp u.mono) (sym e) ∙ turn_down t.mono u.mono h.canonical.2) u f refl
          (record { canonical = h.canonical.3; affine = h.affine.1 })

      go : IsLeadMultiple ds t.mono ⊎ ((b : List Term) → Contains ds b → Divides (lead_mono b) t.mono → ⊥) → Has (t ∷ f)
      go (inl d) =
          let hb = All-contains (IsPoly p n) ds d.0 basis_polys d.1 in
          let c = cancel p n prime t f d.0 hf hb (All-contains IsMonic ds d.0 base.monic d.1) d.2 in
          back (t ∷ f) (mul p c.0 d.0) hf (in_mul p n gs c.0 d.0 above c.1 (All-contains (InIdeal p n gs) ds d.0 base.members d.1))
          (below (sub p (t ∷ f) (mul p c.0 d.0)) (poly_sub p n (t ∷ f) (mul p c.0 d.0) above hf (poly_mul p n c.0 d.0 above c.1 hb)) c.2)
      go (inr k) =
          aside t f hf (record { affine = hf.affine.0; outside = λ d. k d.0 d.1 d.2 })
          (tail f hf)

  pub remainder : (f : List Term) → IsPoly p n f → Has f
  remainder [] hf = none
  remainder (t ∷ f) hf = descent Down down_step t.mono (record { seven = hf.affine.0.seven; plain = hf.affine.0.plain }) t f refl hf

pub remainders_law : RemaindersAreUnique
remainders_law p n gs ds f prime hi base hf =
    let r = remainder p n prime gs ds hi base f hf in
    (r.0, r.1, λ s b. same_remainder p n prime gs ds hi base f r.0 s hf r.1 b)
