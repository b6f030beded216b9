-- The second parts of a basis of the module generate the colon ideal, which is the ideal exactly for a regular denominator.
use Rattle.std.proofs.Common.{◌≡◌, ℕ, ◌+◌, ◌-◌, ◌≤◌, ◌<◌, List, [], ◌∷◌, sym, ap, ◌∙◌, subst, arith}
use Rattle.std.specs.List.{All}
use Rattle.std.proofs.lemmas.List.{length-map}
use Rattle.std.proofs.lemmas.List.Elements.{All-nil, All-cons, All-head, All-tail, All-contains}
use Rattle.monomials.specs.Mono.{Divides}
use Rattle.polys.specs.declared.term.Term.{Term}
use Rattle.polys.specs.Terms.{EachMono, IsPoly, IsMonic, add, sub, mul, multiple, degree_of}
use Rattle.polys.specs.Ideal.{InIdeal, combination, Regular}
use Rattle.polys.proofs.Affine.{constant, poly_constant, mul_constant, poly_mul, poly_add, poly_none, sevens_of}
use Rattle.polys.proofs.Each.{every_more}
use Rattle.ideal_laws.proofs.Ideals.{in_none, in_add, in_mul}
use Rattle.polys.proofs.Sums.{mul_assoc, mul_comm, mul-add, mul_none}
use Rattle.polys.proofs.Units.{canonical_same}
use Rattle.ideal_laws.proofs.Unique.{unique_law}
use Rattle.graded_modules.specs.Vector.{IsGradedVector, IsFactor, IsGenerator, lead_mono}
use Rattle.graded_modules.specs.Module.{InModule, IsLeadMultiple}
use Rattle.graded_modules.proofs.Members as members
use Rattle.homogenising.specs.Homogenised.{homogenised, dehomogenised, all_homogenised, all_dehomogenised}
use Rattle.homogenising.specs.Laws.{IsHomogeneousPoly}
use Rattle.homogenising.proofs.Lifted.{homogenised_law, dehomogenised_law, Fits, fits, lifted}
use Rattle.homogenising.proofs.Order.{lift}
use Rattle.homogenising.proofs.Images.{image, sent}
use Rattle.homogenising.proofs.Monomials.{lower, lower_divides, lower_lift, graded_lift}
use Rattle.homogenising.proofs.Stays.{factor_of, lower_product, lower_member, lower_polys, lift_factor, lift_product, lift_combination, contains_map, lead_seven}
use Rattle.homogenising.proofs.Spanning.{IsIdeal, held, spans}
use Rattle.ideal_laws.proofs.Differences.{add_sub}
use Rattle.denominator_module.specs.Module.{module_of, first, second, colon_members, InColon}
use Rattle.denominator_module.specs.Laws.{AreGiven, IsModuleBasis, Generates, RegularByColon}
use Rattle.denominator_module.proofs.Pairs.{pos, two, homogeneous_d, homogeneous_gs, pairs, heightened, embedded, embedded_inside}
use Rattle.denominator_module.proofs.Firsts.{lower_all, inside, all_from, lead_known}
use Rattle.denominator_module.proofs.Seconds.{seconds_of, colons_are, all_seconds, contains_seconds, lead_second, monic_second, second_alone, second_homogeneous}

module _ (p n : ℕ) (d : List Term) (gs : List (List Term)) (given : AreGiven p n d gs) where
  above : 0 < p
  above = pos p n d gs given

  -- ---- the colon ideal is an ideal

  abbrev pub Colon : List Term → Type 0
  Colon f = IsPoly p n f × InIdeal p n gs (mul p d f)

  colon_add : (f g : List Term) → Colon f → Colon g → Colon (add p f g)
  colon_add f g a b =
      (poly_add p n f g above a.0 b.0, subst (InIdeal p n gs) (sym (mul-add p d f g)) (in_add p n gs (mul p d f) (mul p d g) above a.1 b.1))

  colon_mul : (a f : List Term) → IsPoly p n a → Colon f → Colon (mul p a f)
  colon_mul a f h b = (
    poly_mul p n a f above h b.0,
    subst (InIdeal p n gs) (sym (mul_assoc p a d f) ∙ (λ i. mul p (mul_comm p a d i) f) ∙ mul_assoc p d a f) (in_mul p n gs a (mul p d f) above h b.1),
  )

  colon_sub : (f g : List Term) → Colon f → Colon g → Colon (sub p f g)
  colon_sub f g a b =
      let e : mul p (constant p (p - 1)) g ≡ multiple p (p - 1) g = mul_constant p (p - 1) g (sevens_of p n g b.0) in
      colon_add f (multiple p (p - 1) g) a (subst Colon e (colon_mul (constant p (p - 1)) g (poly_constant p n (p - 1) above) b))

  pub colon_ideal : IsIdeal p n given.prime Colon
  colon_ideal =
      record {
        polys = λ f c. c.0;
        none = (poly_none p n, subst (InIdeal p n gs) (sym (mul_none p d)) (in_none p n gs));
        add = colon_add;
        sub = colon_sub;
        mul = colon_mul;
      }

  -- ---- second parts are in the colon ideal

  lower_d : dehomogenised p (homogenised d) ≡ d
  lower_d = homogenised_law.back p n d given.six given.denominator

  -- where a - b d^h is in the graded ideal and a is 0, b d^h is
  pub second_times : (v : List Term) → InModule p n (module_of d gs) v → first v ≡ [] → InModule p n (all_homogenised gs) (mul p (second v) (homogenised d))
  second_times v r z =
      let q = pairs p n d gs given v r in
      let c = (members.in_mul p n (homogenised d ∷ []) (second v) (homogenised d) above q.factor (members.in_head p n (homogenised d) [] (two p n d gs given) (homogeneous_d p n d gs given).generator.vector)) in
      let vec = members.in_vector p n (homogenised d ∷ []) (mul p (second v) (homogenised d)) above (All-cons (IsGradedVector p n) (homogenised d) [] (homogeneous_d p n d gs given).generator.vector (All-nil (IsGradedVector p n))) c in
      let e : sub p [] q.rest ≡ mul p (second v) (homogenised d) = (λ i. sub p ((sym z ∙ q.sum) i) q.rest) ∙ add_sub p (mul p (second v) (homogenised d)) q.rest above vec.canonical in
      subst (InModule p n (all_homogenised gs)) e (members.in_sub p n (all_homogenised gs) [] q.rest above (members.in_none p n (all_homogenised gs)) q.inside)

  pub lower_times_d : (b : List Term) → IsFactor p n b → InModule p n (all_homogenised gs) (mul p b (homogenised d)) → InIdeal p n gs (mul p (dehomogenised p b) d)
  lower_times_d b h r =
      let k = lower_member p n given.six above (all_homogenised gs) (mul p b (homogenised d)) (homogeneous_gs p n d gs given) r in
      let e : dehomogenised p (mul p b (homogenised d)) ≡ mul p (dehomogenised p b) d =
      lower_product p n given.six above b (homogenised d) h (factor_of p n given.six above (homogenised d) (homogeneous_d p n d gs given)) ∙ ap (mul p (dehomogenised p b)) lower_d
      in
      subst (InIdeal p n gs) e (subst (λ w. InIdeal p n w (dehomogenised p (mul p b (homogenised d)))) (lower_all p n d gs given gs given.generators) k)

  module _ (bs : List (List Term)) (mb : IsModuleBasis p n d gs bs) where
    homogeneous_seconds : All (IsHomogeneousPoly p n) (seconds_of bs)
    homogeneous_seconds = all_seconds (IsGenerator p n (degree_of d)) (IsHomogeneousPoly p n) bs (λ b h z. second_homogeneous p n (degree_of d) b h) mb.vectors

    ms : List (List Term)
    ms = all_dehomogenised p (seconds_of bs)

    Known : List Term → Type 0
    Known b = IsGenerator p n (degree_of d) b × InModule p n (module_of d gs) b

    second_colon : (b : List Term) → IsGenerator p n (degree_of d) b × InModule p n (module_of d gs) b → ((lead_mono b).component ≡ 0 → ⊥) → Colon (dehomogenised p (second b))
    second_colon b k z =
        let h = second_homogeneous p n (degree_of d) b k.0 in
        let r = second_times b k.1 (second_alone p b k.0.vector.canonical z) in (
          dehomogenised_law.poly p n (second b) given.six h,
          subst (InIdeal p n gs) (mul_comm p (dehomogenised p (second b)) d) (lower_times_d (second b) (factor_of p n given.six above (second b) h) r),
        )

    all_colon : (fs : List (List Term)) → All (λ f. Colon (dehomogenised p f)) fs → All Colon (all_dehomogenised p fs)
    all_colon [] a = All-nil Colon
    all_colon (f ∷ fs) a =
        All-cons Colon (dehomogenised p f) (all_dehomogenised p fs) (All-head (λ f. Colon (dehomogenised p f)) f fs a) (all_colon fs (All-tail (λ f. Colon (dehomogenised p f)) f fs a))

    both_known : All (λ b. IsGenerator p n (degree_of d) b × InModule p n (module_of d gs) b) bs
    both_known =
        all_from (λ b. IsGenerator p n (degree_of d) b × InModule p n (module_of d gs) b) bs
        (λ b c. (All-contains (IsGenerator p n (degree_of d)) bs b mb.vectors c, inside p n d gs given bs mb b c))

    pub colon_inside : All Colon (all_dehomogenised p (seconds_of bs))
    colon_inside =
        all_colon (seconds_of bs)
        (all_seconds (λ b. IsGenerator p n (degree_of d) b × InModule p n (module_of d gs) b) (λ f. Colon (dehomogenised p f)) bs second_colon both_known)

    lower_monic : (fs : List (List Term)) → All (IsHomogeneousPoly p n) fs → All IsMonic fs → All IsMonic (all_dehomogenised p fs)
    lower_monic [] a b = All-nil IsMonic
    lower_monic (f ∷ fs) a b =
        All-cons IsMonic (dehomogenised p f) (all_dehomogenised p fs) (dehomogenised_law.monic p n f given.six (All-head (IsHomogeneousPoly p n) f fs a) (All-head IsMonic f fs b))
        (lower_monic fs (All-tail (IsHomogeneousPoly p n) f fs a) (All-tail IsMonic f fs b))

    colon_monic : All IsMonic (all_dehomogenised p (seconds_of bs))
    colon_monic = lower_monic (seconds_of bs) homogeneous_seconds (all_seconds IsMonic IsMonic bs monic_second mb.monic)

    -- ---- and they have all leads

    -- a member of the colon ideal, lifted far enough, is the second part of a member
    lifted_member : (t : Term) (f : List Term) → Colon (t ∷ f) → (K : ℕ) × (g : List Term) × InModule p n (module_of d gs) (record { coeff = t.coeff; mono = heightened (lift K t.mono) } ∷ g)
    lifted_member t f c = (K, image heightened (image (lift K) f), subst (InModule p n (module_of d gs)) head (embedded_inside p n d gs given b factor product))
      where
        F : List Term
        F = t ∷ f

        e : ℕ
        e = (homogeneous_d p n d gs given).generator.homogeneous.0

        r : InIdeal p n (all_dehomogenised p (all_homogenised gs)) (mul p d F)
        r = subst (λ w. InIdeal p n w (mul p d F)) (sym (lower_all p n d gs given gs given.generators)) c.1

        far : (k : ℕ) × ((K : ℕ) → k ≤ K → InModule p n (all_homogenised gs) (sent p (lift K) (combination p r.factors (all_dehomogenised p (all_homogenised gs)))))
        far =
            lift_combination p n given.six above r.factors (all_homogenised gs) r.polys (homogeneous_gs p n d gs given)
            (r.as_many ∙ length-map (all_homogenised gs) (dehomogenised p))

        K : ℕ
        K = far.0 + degree_of F

        b : List Term
        b = sent p (lift K) F

        factor : IsFactor p n b
        factor = lift_factor p n given.six above K F c.0

        turned : mul p d F ≡ mul p F (dehomogenised p (homogenised d))
        turned = mul_comm p d F ∙ sym (ap (mul p F) lower_d)

        less : K + e - e ≡ K
        less = omega arith

        product : InModule p n (all_homogenised gs) (mul p b (homogenised d))
        product =
            subst (InModule p n (all_homogenised gs))
            (ap (sent p (lift (K + e))) (sym r.combined ∙ turned)
            ∙ lift_product p n given.six above (K + e) F (homogenised d) (homogeneous_d p n d gs given) c.0 (omega arith)
            ∙ (λ i. mul p (sent p (lift (less i)) F) (homogenised d))) (far.1 (K + e) (omega arith))

        fit : EachMono (Fits p n given.six K) F
        fit = every_more (Fits p n given.six (degree_of F)) (Fits p n given.six K) F (λ m x. (x.0, (let a = x.1 in omega arith))) (fits p n given.six F c.0)

        same : b ≡ image (lift K) F
        same = canonical_same p (image (lift K) F) (lifted p n given.six K F c.0.canonical fit).generator.vector.canonical

        head : embedded p n d gs given b ≡ record { coeff = t.coeff; mono = heightened (lift K t.mono) } ∷ image heightened (image (lift K) f)
        head = ap (image heightened) same

    colon_leads : (t : Term) (f : List Term) → Colon (t ∷ f) → IsLeadMultiple (all_dehomogenised p (seconds_of bs)) t.mono
    colon_leads t f c =
        let l = lifted_member t f c in
        let k = lead_known p n d gs given bs mb (record { coeff = t.coeff; mono = heightened (lift l.0 t.mono) }) l.1 l.2 in
        let one : (lead_mono k.0).component ≡ 1 = k.2.same in
        let z : (lead_mono k.0).component ≡ 0 → ⊥ = (λ e. absurd (omega arith)) in
        let h = second_homogeneous p n (degree_of d) k.0 (All-contains (IsGenerator p n (degree_of d)) bs k.0 mb.vectors k.1) in
        let s = lead_seven p n given.six above (second k.0) h in
        let a = c.0.affine.0 in
        let low : Divides (lead_mono (second k.0)) (lift l.0 t.mono) =
        subst (λ w. Divides w (lift l.0 t.mono)) (sym (lead_second k.0 z)) (record { same = sym a.plain; none_greater = k.2.none_greater })
        in
        let down = lower_divides (lead_mono (second k.0)) (lift l.0 t.mono) s.0 s.1 (graded_lift n given.six l.0 t.mono a).seven low in (
          dehomogenised p (second k.0),
          contains_map p n given.six above (seconds_of bs) (second k.0) (contains_seconds bs k.0 k.1 z),
          subst (Divides (lead_mono (dehomogenised p (second k.0)))) (lower_lift n given.six l.0 t.mono a)
              (subst (λ w. Divides w (lower (lift l.0 t.mono))) (sym (dehomogenised_law.lead p n (second k.0) given.six h)) down),
        )

    pub colon_law : Generates p n (InColon p n gs d) (colon_members p bs)
    colon_law =
        subst (Generates p n (InColon p n gs d)) (sym (colons_are p bs))
        (record {
          polys = lower_polys p n given.six above (seconds_of bs) homogeneous_seconds;
          monic = colon_monic;
          leads = λ t f r. colon_leads t f (held p n given.prime Colon (all_dehomogenised p (seconds_of bs)) colon_ideal colon_inside (t ∷ f) r);
          exact = λ f h. (
            λ r. (held p n given.prime Colon (all_dehomogenised p (seconds_of bs)) colon_ideal colon_inside f r).1,
            λ c. spans p n given.prime Colon colon_ideal (all_dehomogenised p (seconds_of bs)) colon_inside colon_monic colon_leads f (h, c),
          );
        })

pub regular_law : RegularByColon
regular_law p n d gs is cs given hi hc = (one, back)
  where
    above' : 0 < p
    above' = pos p n d gs given

    one : Regular p n gs d → is ≡ cs
    one reg =
        unique_law p n is cs given.prime hi.reduced hc.reduced
        (λ f h. (
          λ r. (hc.exact f h).1 (in_mul p n gs d f above' given.denominator ((hi.exact f h).0 r)),
          λ r. (hi.exact f h).1 (reg f h ((hc.exact f h).0 r)),
        ))

    back : is ≡ cs → Regular p n gs d
    back e a h r = (hi.exact a h).0 (subst (λ w. InIdeal p n w a) (sym e) ((hc.exact a h).1 r))
