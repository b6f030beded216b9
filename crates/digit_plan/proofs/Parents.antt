-- Tails of the basis are corners, and what is no lead has a quotient outside the corners.
use Rattle.std.proofs.Common.{Bool, true, false, None, Some, ◌≡◌, ◌⊎◌, inl, inr, ℕ, ◌+◌, ◌-◌, ◌*◌, ◌%◌, ◌<◌, ◌≤◌, List, [], ◌∷◌, length, get_or, map, refl, sym, ap, ◌∙◌, subst, arith}
use native.Mathlib.Decide.{ℕ_discrete}
use Rattle.std.specs.Ordering.{nat_cmp, MatchOrdering}
use Rattle.std.specs.declared.cmp.Ordering.{Ordering}
use Rattle.std.specs.declared.cmp.Ordering.TheVariants.{Less, Equal, Greater}
use Rattle.std.specs.Cmp.{ranks}
use Rattle.std.specs.List.{Contains}
use Rattle.std.proofs.lemmas.List.{get_or_default}
use Rattle.std.proofs.lemmas.List.Elements.{All-contains, All-get_or}
use Rattle.monomials.specs.Mono.{Monomial, cmp_dp, Divides, times, total_degree, unit, variable}
use Rattle.monomials.proofs.Exponents.{get_or-pointwise, plus_comm}
use Rattle.monomials.proofs.Factors.{divides_law, divides_trans}
use Rattle.monomials.proofs.Order.{same_dp, self_dp, times_assoc, times_cancel, times_comm, times_one}
use Rattle.prime_field.specs.Primes.{IsPrime}
use Rattle.prime_field.proofs.Table.{above_one, positive_of_prime}
use Rattle.polys.specs.declared.term.Term.{Term}
use Rattle.polys.specs.Terms.{EachMono, IsAffine, IsMonic, IsPoly, OnlyFirst, lead, mul, multiple, sub}
use Rattle.polys.specs.Ideal.{InIdeal}
use Rattle.polys.specs.Poly.{Polynomial, terms_of}
use Rattle.polys.specs.Reduced.{IsLead, Reduced}
use Rattle.polys.proofs.Affine.{affine_times, sevens_of}
use Rattle.polys.proofs.Each.{every_add, every_more, every_multiple}
use Rattle.polys.proofs.Leads.{lead_of_mul}
use Rattle.ideal_laws.proofs.Differences.{sub_cons}
use Rattle.ideal_laws.proofs.Ideals.{in_generator, in_mul}
use Rattle.ideal_laws.proofs.Unique.{contains_head, contains_tail}
use Rattle.graded_modules.specs.Module.{IsLeadMultiple}
use Rattle.graded_modules.specs.Vector.{lead_mono}
use Rattle.homogenising.proofs.Found.{search_lead}
use Rattle.standard_monomials.specs.Standard.{IsStandardBasis, polynomial_of}
use Rattle.standard_monomials.proofs.Lists.{contained_map, contains_map}
use Rattle.standard_monomials.proofs.Powers.{at_place, length_power, off_place, affine_power}
use Rattle.standard_monomials.proofs.Remainders.{plain_lead}
use Rattle.lift_colon.specs.Lifted.{LiftedData, IsLifted}
use Rattle.digit_laws.specs.Digits.{AreCornersOf}
use Rattle.digit_plan.specs.Lifts.{curve_of_lifted}
use Rattle.digit_plan.specs.Playing.{AreClosed, AreRising, AreVariables, HasLead, HasParent, HasQuotientIn, IsBorder, IsCovered, IsInPlay, chosen, seen, IsOutsideProduct, IsQuotient}
use Rattle.digit_plan.specs.Planned.{IsPlay}
use Rattle.digit_plan.specs.declared.rules.Play.{Play}
use Rattle.digit_plan.proofs.Leads.{standard, sum_polys}
use Rattle.digit_plan.proofs.Playing.{border_affine, one_by, only_left, placed_at, quotient_of}

-- a lead of a member is a multiple of a lead of a standard basis
moved : (p n : ℕ) (gs bs ds : List (List Term)) → IsStandardBasis p n gs bs → IsStandardBasis p n gs ds → (m : Monomial) → IsLeadMultiple bs m → IsLeadMultiple ds m
moved p n gs bs ds h k m (b, c, d) = go b (All-contains IsMonic bs b h.monic c) (All-contains (InIdeal p n gs) bs b h.members c) d
  where
    go : (b : List Term) → IsMonic b → InIdeal p n gs b → Divides (lead_mono b) m → IsLeadMultiple ds m
    go [] w i q = absurd w
    go (t ∷ f) w i q = let l = k.leads t f i in (l.0, l.1, divides_trans (lead_mono l.0) t.mono m l.2 q)

-- a factor of an affine monomial is affine
right_affine : (n : ℕ) (a b m : Monomial) → IsAffine n m → times a b ≡ m → length a.exponents ≡ length b.exponents → length a.exponents ≡ 7 → b.component ≡ 0 → IsAffine n b
right_affine n a b m h e same seven plain = record {
  seven = sym same ∙ seven;
  first = only_left n b.exponents a.exponents (subst (OnlyFirst n) (ap (λ (z : Monomial). z.exponents) (sym e) ∙ plus_comm a.exponents b.exponents) h.first) (sym same);
  plain = plain;
}

-- a multiple of a lead of the basis is a lead
lead_by_multiple : (p n : ℕ) (qs : List (List Term)) → 1 < p → Reduced p n qs → IsPrime p → (m : Monomial) → IsAffine n m → IsLeadMultiple qs m → IsLead p n qs m
lead_by_multiple p n qs high r prime m a (b, c, d) =
    go b (All-contains IsMonic qs b r.monic c) (All-contains (IsPoly p n) qs b r.polys c) (in_generator p n qs b high r.polys c) d
  where
    go : (b : List Term) → IsMonic b → IsPoly p n b → InIdeal p n qs b → Divides (lead_mono b) m → IsLead p n qs m
    go [] w hb i q = absurd w
    go (u ∷ f) w hb i q = (record { coeff = (1 * u.coeff) % p; mono = times x.0 u.mono }, k.0, subst (InIdeal p n qs) k.1 (in_mul p n qs (polynomial_of x.0) (u ∷ f) (omega arith) hx i), times_comm x.0 u.mono ∙ sym x.3)
      where
        x : (w : Monomial) × (length u.mono.exponents ≡ length w.exponents) × (w.component ≡ 0) × (m ≡ times u.mono w)
        x = (divides_law u.mono m (hb.affine.0.seven ∙ sym a.seven)).0 q

        hx : IsPoly p n (polynomial_of x.0)
        hx = record {
          canonical = (omega arith, high, tt, tt);
          affine = (right_affine n u.mono x.0 m a (sym x.3) x.1 (hb.affine.0.seven) x.2, tt);
        }

        k : (h : List Term) × (mul p (polynomial_of x.0) (u ∷ f) ≡ record { coeff = (1 * u.coeff) % p; mono = times x.0 u.mono } ∷ h)
        k = lead_of_mul p (record { coeff = 1; mono = x.0 }) u [] f prime hx.canonical hb.canonical (sevens_of p n (polynomial_of x.0) hx) (sevens_of p n (u ∷ f) hb)

module _ (l : LiftedData) (h : IsLifted l) (corners : List Monomial) (k : AreCornersOf (curve_of_lifted l) corners) where
  abbrev p : ℕ
  p = l.prime

  abbrev n : ℕ
  n = l.variables

  abbrev six : n ≤ 6
  six = h.six_variables

  gs : List (List Term)
  gs = l.denominator.terms ∷ terms_of l.ideal

  -- what no lead of the basis divides is a corner
  corner_by : (m : Monomial) → IsAffine n m → (IsLeadMultiple (terms_of l.sum) m → ⊥) → Contains corners m
  corner_by m a o = (k.all.exact m).1 (record { affine = a; outside = λ d. o (moved p n (l.denominator.terms ∷ terms_of l.ideal) k.basis (terms_of l.sum) k.standard (standard l h) m d) })

  -- and a corner is no multiple of one
  no_corner : (m : Monomial) → IsLeadMultiple (terms_of l.sum) m → Contains corners m → ⊥
  no_corner m d c = ((k.all.exact m).0 c).outside (moved p n (l.denominator.terms ∷ terms_of l.ideal) (terms_of l.sum) k.basis (standard l h) k.standard m d)

  -- what is outside the corners is a multiple of a lead
  lead_of : (m : Monomial) → IsAffine n m → (Contains corners m → ⊥) → IsLeadMultiple (terms_of l.sum) m
  lead_of m a o = go (search_lead (terms_of l.sum) m (λ b c. plain_lead p n b (All-contains (IsPoly p n) (terms_of l.sum) b (sum_polys l h) c) ∙ sym a.plain))
    where
      go : IsLeadMultiple (terms_of l.sum) m ⊎ ((b : List Term) → Contains (terms_of l.sum) b → Divides (lead_mono b) m → ⊥) → IsLeadMultiple (terms_of l.sum) m
      go (inl d) = d
      go (inr none) = absurd (o (corner_by m a (λ d. none d.0 d.1 d.2)))

  lower_each : (f : List Term) → EachMono (IsAffine n) f → ((m : Monomial) → Contains (map (λ u. u.mono) f) m → IsLead p n (terms_of l.sum) m → ⊥) → EachMono (Contains corners) f
  lower_each [] a o = tt
  lower_each (t ∷ f) a o = (
    corner_by t.mono a.0 (λ d. o t.mono (contains_head t.mono (map (λ u. u.mono) f)) (lead_by_multiple p n (terms_of l.sum) (above_one p h.prime) h.sum.reduced h.prime t.mono a.0 d)),
    lower_each f a.1 (λ m c. o m (contains_tail t.mono m (map (λ u. u.mono) f) c)),
  )

  -- the tail of a member of the basis
  pub tail_corners : (m : Monomial) (g : List Term) → Contains (terms_of l.sum) g → HasLead g m → EachMono (Contains corners) (sub p (polynomial_of m) g)
  tail_corners m [] c e = absurd e
  tail_corners m (t ∷ f) c e =
      subst (EachMono (Contains corners)) (sym same)
      (every_add (Contains corners) p [] (multiple p (p - 1) f) tt (every_multiple (Contains corners) p (p - 1) f (lower_each f hg.affine.1 (h.sum.reduced.lower (t ∷ f) c))))
    where
      hg : IsPoly p n (t ∷ f)
      hg = All-contains (IsPoly p n) (terms_of l.sum) (t ∷ f) (sum_polys l h) c

      first : record { coeff = 1; mono = m } ≡ t
      first = let w = All-contains IsMonic (terms_of l.sum) (t ∷ f) h.sum.reduced.monic c in λ i. record { coeff = sym w i; mono = sym e i }

      same : sub p (polynomial_of m) (t ∷ f) ≡ sub p [] f
      same = ap (λ z. sub p (z ∷ []) (t ∷ f)) first ∙ sub_cons p t [] f (positive_of_prime p h.prime)

  module _ (border : List Monomial) (a : AreClosed n corners) (b : IsBorder n corners border) where
    -- a quotient of a monomial of the border by another variable is in the border, if it is no corner
    other : (v w i : ℕ) (u m : Monomial) → v < n → w < n → i < length corners → IsAffine n u → times u (variable v) ≡ m → times (get_or corners i unit) (variable w) ≡ m → (Contains corners u → ⊥) → Contains border u
    other v w i u m lv lw li hu e q o = go (ℕ_discrete v w)
      where
        c : Monomial
        c = get_or corners i unit

        hc : IsAffine n c
        hc = All-get_or (IsAffine n) corners i unit li a.affine

        in_corners : Contains corners c
        in_corners = (i, li, get_or_default corners i c unit li)

        var_seven : (x : ℕ) → length (variable x).exponents ≡ 7
        var_seven x = length_power 7 x 1

        go : Dec (v ≡ w) → Contains border u
        go (yes same) =
            absurd (o (subst (Contains corners) (sym (times_cancel u c (variable v) (hu.seven ∙ sym hc.seven) (e ∙ sym q ∙ ap (λ z. times c (variable z)) (sym same)))) in_corners))
        go (no apart) =
            (b.members u).1 (w, lw, record { place = at.0; among = at.1; product = ap (λ z. times z (variable w)) at.2 ∙ sym product; outside = o })
          where
            exponents : get_or u.exponents v 0 + get_or (variable v).exponents v 0 ≡ get_or c.exponents v 0 + get_or (variable w).exponents v 0
            exponents =
                sym (get_or-pointwise (λ x y. x + y) u.exponents (variable v).exponents v (hu.seven ∙ sym (var_seven v)) (let s = hu.seven in let t = six in omega arith))
                ∙ ap (λ (z : Monomial). get_or z.exponents v 0) (e ∙ sym q)
                ∙ get_or-pointwise (λ x y. x + y) c.exponents (variable w).exponents v (hc.seven ∙ sym (var_seven w)) (let s = hc.seven in let t = six in omega arith)

            some : 1 ≤ get_or c.exponents v 0
            some =
                let x = exponents in
                let y : get_or (variable v).exponents v 0 ≡ 1 = at_place 7 v 1 (let t = six in omega arith) in
                let z : get_or (variable w).exponents v 0 ≤ 0 = off_place 7 w 1 v apart in
                omega arith

            divides : Divides (variable v) c
            divides = record { same = sym hc.plain; none_greater = λ j. each j (ℕ_discrete j v) }
              where
                each : (j : ℕ) → Dec (j ≡ v) → get_or (variable v).exponents j 0 ≤ get_or c.exponents j 0
                each j (yes s) =
                    subst (λ z. get_or (variable v).exponents z 0 ≤ get_or c.exponents z 0) (sym s)
                    (let x = some in let y : get_or (variable v).exponents v 0 ≡ 1 = at_place 7 v 1 (let t = six in omega arith) in omega arith)
                each j (no d) = let x : get_or (variable v).exponents j 0 ≤ 0 = off_place 7 v 1 j d in omega arith

            x : (r : Monomial) × (length (variable v).exponents ≡ length r.exponents) × (r.component ≡ 0) × (c ≡ times (variable v) r)
            x = (divides_law (variable v) c (var_seven v ∙ sym hc.seven)).0 divides

            whole : times x.0 (variable v) ≡ c
            whole = times_comm x.0 (variable v) ∙ sym x.3

            lower : Contains corners x.0
            lower = a.closed x.0 v (right_affine n (variable v) x.0 c hc (sym x.3) x.1 (var_seven v) x.2) lv (subst (Contains corners) (sym whole) in_corners)

            at : (j : ℕ) × (j < length corners) × (get_or corners j unit ≡ x.0)
            at = placed_at corners x.0 lower

            product : u ≡ times x.0 (variable w)
            product =
                times_cancel u (times x.0 (variable w)) (variable v) (hu.seven ∙ sym (affine_times n x.0 (variable w) (right_affine n (variable v) x.0 c hc (sym x.3) x.1 (var_seven v) x.2) (affine_power n w 1 lw)).seven)
                (e ∙ sym q ∙ ap (λ z. times z (variable w)) (sym whole) ∙ times_assoc x.0 (variable v) (variable w) ∙ ap (times x.0) (times_comm (variable v) (variable w)) ∙ sym (times_assoc x.0 (variable w) (variable v)))

    -- a monomial of the border that is no lead of the basis
    pub border_parent : (m : Monomial) → Contains border m → ((g : List Term) → Contains (terms_of l.sum) g → HasLead g m → ⊥) → HasParent n border [] m
    border_parent m c none = go d.0 (All-contains (IsPoly p n) (terms_of l.sum) d.0 (sum_polys l h) d.1) (All-contains IsMonic (terms_of l.sum) d.0 h.sum.reduced.monic d.1) d.1 d.2
      where
        o : (v : ℕ) × (v < n) × IsOutsideProduct v (length corners) corners m
        o = (b.members m).0 c

        hm : IsAffine n m
        hm = subst (IsAffine n) o.2.product (affine_times n (get_or corners o.2.place unit) (variable o.0) (All-get_or (IsAffine n) corners o.2.place unit o.2.among a.affine) (affine_power n o.0 1 o.1))

        d : IsLeadMultiple (terms_of l.sum) m
        d = lead_of m hm o.2.outside

        go : (g : List Term) → IsPoly p n g → IsMonic g → Contains (terms_of l.sum) g → Divides (lead_mono g) m → HasParent n border [] m
        go [] hg w i q = absurd w
        go (t ∷ f) hg w i q = pick (nat_cmp 0 (total_degree x.0.exponents)) (ranks 0 (total_degree x.0.exponents))
          where
            x : (r : Monomial) × (length t.mono.exponents ≡ length r.exponents) × (r.component ≡ 0) × (m ≡ times t.mono r)
            x = (divides_law t.mono m (hg.affine.0.seven ∙ sym hm.seven)).0 q

            hx : IsAffine n x.0
            hx = right_affine n t.mono x.0 m hm (sym x.3) x.1 hg.affine.0.seven x.2

            none_left : total_degree x.0.exponents ≡ 0 → ⊥
            none_left z = none (t ∷ f) i (sym (times_one t.mono hg.affine.0.seven) ∙ ap (times t.mono) (sym (one_by n x.0 hx z)) ∙ sym x.3)

            more : 0 < total_degree x.0.exponents → HasParent n border [] m
            more s = record { rest = u; factor = r.1.factor; among = r.1.among; product = product; seven = hu.seven; outside = inl inside }
              where
                r : (y : Monomial) × IsQuotient n x.0 y
                r = quotient_of n x.0 hx s

                u : Monomial
                u = times t.mono r.0

                hu : IsAffine n u
                hu = affine_times n t.mono r.0 hg.affine.0 r.1.affine

                product : times u (variable r.1.factor) ≡ m
                product = times_assoc t.mono r.0 (variable r.1.factor) ∙ ap (times t.mono) r.1.product ∙ sym x.3

                multiple : IsLeadMultiple (terms_of l.sum) u
                multiple = (t ∷ f, i, (divides_law t.mono u (hg.affine.0.seven ∙ sym hu.seven)).1 (r.0, hg.affine.0.seven ∙ sym r.1.affine.seven, r.1.affine.plain, refl))

                inside : Contains border u
                inside = other r.1.factor o.0 o.2.place u m r.1.among o.1 o.2.among hu product o.2.product (no_corner u multiple)

            pick : (s : Ordering) → MatchOrdering s (0 < total_degree x.0.exponents) (0 ≡ total_degree x.0.exponents) (total_degree x.0.exponents < 0) → HasParent n border [] m
            pick Less s = more s
            pick Equal s = absurd (none_left (sym s))
            pick Greater s = absurd (omega arith)

-- ---- leads and quotients as they are read

pub lead_some : (f : List Term) (t : Term) (m : Monomial) → Some t ≡ lead f → Equal ≡ cmp_dp t.mono m → HasLead f m
lead_some [] t m e q = absurd (cc)
lead_some (u ∷ f) t m e q = let s : t ≡ u = (let x : Some t ≡ Some u = e in cc) in ap (λ (z : Term). z.mono) (sym s) ∙ same_dp t.mono m (sym q)

pub lead_other : (f : List Term) (t : Term) (m : Monomial) → Some t ≡ lead f → (cmp_dp t.mono m ≡ Equal → ⊥) → HasLead f m → ⊥
lead_other [] t m e q h = h
lead_other (u ∷ f) t m e q h = let s : t ≡ u = (let x : Some t ≡ Some u = e in cc) in q (subst (λ z. cmp_dp z m ≡ Equal) (sym (ap (λ (z : Term). z.mono) s ∙ h)) (self_dp m))

pub lead_none : (f : List Term) (m : Monomial) → None ≡ lead f → HasLead f m → ⊥
lead_none [] m e h = h
lead_none (u ∷ f) m e h = let x : None ≡ Some u = e in absurd (cc)

pub none_leads : (basis : List Polynomial) (m : Monomial) (n : ℕ) → length basis ≤ n → ((j : ℕ) (d : Polynomial) → j < n → HasLead (get_or basis j d).terms m → ⊥) → (g : List Term) → Contains (terms_of basis) g → HasLead g m → ⊥
none_leads basis m n l h g c e = go (contained_map (λ (f : Polynomial). f.terms) basis g c)
  where
    go : (x : Polynomial) × Contains basis x × (x.terms ≡ g) → ⊥
    go (x, (j, k, q), s) = h j x (omega arith) (subst (λ (z : Polynomial). HasLead z.terms m) (sym q) (subst (λ z. HasLead z m) (sym s) e))

pub quotient_exponent : (v : ℕ) (m : Monomial) (border outer : List Monomial) → v < 6 → HasQuotientIn v border outer m → get_or m.exponents v 0 ≡ 0 → ⊥
quotient_exponent v m border outer l q z =
    let e : get_or q.rest.exponents v 0 + get_or (variable v).exponents v 0 ≡ get_or m.exponents v 0 =
    sym (get_or-pointwise (λ x y. x + y) q.rest.exponents (variable v).exponents v (q.seven ∙ sym (length_power 7 v 1)) (let s = q.seven in omega arith)) ∙ ap (λ (w : Monomial). get_or w.exponents v 0) q.product in
    let f : get_or (variable v).exponents v 0 ≡ 1 = at_place 7 v 1 (omega arith) in
    absurd (omega arith)

pub quotient_placed : (v : ℕ) (m w : Monomial) (border outer : List Monomial) → times w (variable v) ≡ m → length w.exponents ≡ 7 → (Contains border w ⊎ Contains outer w → ⊥) → HasQuotientIn v border outer m → ⊥
quotient_placed v m w border outer e s o q = o (subst (λ z. Contains border z ⊎ Contains outer z) (times_cancel q.rest w (variable v) (q.seven ∙ sym s) (q.product ∙ sym e)) q.outside)

pub order_ends : (n k : ℕ) (order : List ℕ) (m : Monomial) (border outer : List Monomial) → AreVariables n order → length order ≤ k → HasParent n border outer m
    → ((j : ℕ) → j < k → HasQuotientIn (get_or order j 0) border outer m → ⊥) → ⊥
order_ends n k order m border outer a l p h =
    let c = (a.exact p.factor).1 p.among in
    h c.0 (let x = c.1 in omega arith)
    (subst (λ v. HasQuotientIn v border outer m) (sym (get_or_default order c.0 0 p.factor c.1 ∙ c.2)) (record { rest = p.rest; product = p.product; seven = p.seven; outside = p.outside }))

-- ---- a monomial of the border, or an outer one

module _ (l : LiftedData) (h : IsLifted l) (play : Play) (k : IsPlay l play) where
  pub affine_of : (inside : Bool) (m : Monomial) → Contains (chosen inside play.border play.outer) m → IsAffine l.variables m
  affine_of true m c = All-contains (IsAffine l.variables) play.border m (border_affine l.variables play.corners play.border h.six_variables k.closed k.border) c
  affine_of false m c = All-contains (IsAffine l.variables) play.outer m k.outer.affine c

  pub parent_of : (inside : Bool) (m : Monomial) → Contains (chosen inside play.border play.outer) m → ((g : List Term) → Contains (terms_of l.sum) g → HasLead g m → ⊥)
      → HasParent l.variables play.border (seen inside play.outer) m
  parent_of true m c none = border_parent l h play.corners k.corners play.border k.closed k.border m c none
  parent_of false m c none = k.outer.parents m c

  pub rising_of : AreRising play.corners play.border play.outer
  rising_of = record { corners = k.closed.rising; around = k.border.rising; further = k.outer.rising }

  pub tail_inner : (basis : List Polynomial) (i : ℕ) (g : Polynomial) (m : Monomial) → basis ≡ l.sum → i < length basis → g ≡ get_or basis i g → ((d : Polynomial) → HasLead (get_or basis i d).terms m)
      → EachMono (Contains play.corners) (sub l.prime (polynomial_of m) g.terms)
  tail_inner basis i g m e q r s =
      tail_corners l h play.corners k.corners m g.terms (contains_map (λ (f : Polynomial). f.terms) l.sum g (subst (λ z. Contains z g) e (i, q, sym r))) (subst (λ (z : Polynomial). HasLead z.terms m) (sym r) (s g))

  pub tail_covered : (basis : List Polynomial) (i : ℕ) (g : Polynomial) (m : Monomial) → basis ≡ l.sum → i < length basis → g ≡ get_or basis i g → ((d : Polynomial) → HasLead (get_or basis i d).terms m)
      → IsCovered play.corners play.border play.outer (sub l.prime (polynomial_of m) g.terms)
  tail_covered basis i g m e q r s =
      every_more (Contains play.corners) (IsInPlay play.corners play.border play.outer) (sub l.prime (polynomial_of m) g.terms) (λ w c. inl c)
      (tail_inner basis i g m e q r s)

  pub lift_covered : (lifts : List Polynomial) (i : ℕ) (u : Polynomial) → lifts ≡ play.lifts → i < length play.lifts → u ≡ get_or lifts i u → IsCovered play.corners play.border play.outer u.terms
  lift_covered lifts i u e q r =
      subst (λ (z : Polynomial). IsCovered play.corners play.border play.outer z.terms) (sym (r ∙ ap (λ z. get_or z i u) e)) (k.covered i u q)
