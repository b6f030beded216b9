-- Where all pairs up to a degree are settled, the lead of each sum of multiples of that degree is a multiple of a lead.
use Rattle.std.proofs.Common.{◌≡◌, ◌⊎◌, inl, inr, ℕ, ◌+◌, ◌*◌, ◌%◌, ◌<◌, ◌≤◌, zero, suc, List, [], ◌∷◌, ◌++◌, map, refl, sym, ap, ◌∙◌, subst, arith}
use native.Mathlib.Nat.{mod-lt}
use Rattle.std.specs.List.{All, Contains}
use Rattle.std.proofs.lemmas.List.Elements.{All-nil, All-cons, All-head, All-tail, All-append, All-weaker, All-contains}
use Rattle.std.specs.declared.cmp.Ordering.{Ordering}
use Rattle.std.specs.declared.cmp.Ordering.TheVariants.{Less, Equal, Greater}
use Rattle.monomials.specs.Mono.{Monomial, times, cmp_dp, Divides}
use Rattle.monomials.proofs.Order.{same_dp, dp_total, cmp_dp-times, turn_down}
use Rattle.monomials.proofs.Factors.{lcm_law}
use Rattle.prime_field.specs.Primes.{IsPrime}
use Rattle.polys.specs.declared.term.Term.{Term}
use Rattle.polys.specs.Terms.{EachMono, IsMonic, normal, add, sub, mul, multiple, products}
use Rattle.polys.proofs.Sums.{add_comm, add_assoc, add_medial}
use Rattle.polys.proofs.Each.{every_normal, every_products, every_zip, every_more, every_add}
use Rattle.polys.proofs.Leads.{Seven}
use Rattle.polys.proofs.Products.{times_term, pos_product, mul_by_none}
use Rattle.graded_modules.specs.Vector.{IsGraded, IsGenerator, degree_at, lead_mono}
use Rattle.graded_modules.specs.Module.{IsLeadMultiple}
use Rattle.graded_modules.specs.SVector.{cofactor, raised, lead_lcm, Multiple, total, top, IsBelow, IsSumBelow, IsSettled}
use Rattle.graded_modules.proofs.Graded.{graded_times, lead_graded, each_seven}
use Rattle.graded_modules.proofs.Cofactors.{same_shape, cofactor_times, divides_by, divides_degree}
use Rattle.ideal_laws.proofs.Multiples.{multiple_term, mul_two}
use Rattle.ideal_laws.proofs.Differences.{sub_times}
use Rattle.graded_modules.proofs.Multiples.{normal-total, total-append, below_multiple}
use Rattle.graded_modules.proofs.Tops.{Lower, tail_below, product_is, product_below, lead_of_sum}
use Rattle.graded_modules.proofs.SVectors.{lifted}
use Rattle.prime_field.proofs.Table.{positive_of_prime}
use Rattle.graded_modules.proofs.Ranks.{rank, rank_rises}

-- a multiple of a member of bs by a term, of the degree e
pub record IsSummand (p n shift : ℕ) (bs : List (List Term)) (e : ℕ) (s : Multiple) : Type 0 where
  pub member : Contains bs s.vector
  pub residue : s.term.coeff < p
  pub graded : IsGraded n s.term.mono
  pub plain : s.term.mono.component ≡ 0
  pub degree : degree_at shift (top s) ≡ e

abbrev pub value : ℕ → Multiple → List Term
value p s = mul p s.vector (s.term ∷ [])

module _ (p n shift : ℕ) (bs : List (List Term)) (e : ℕ) where
  -- such a multiple with a top of a rank below N
  abbrev pub IsAt : ℕ → Multiple → Type 0
  IsAt N s = IsSummand p n shift bs e s × (rank e (top s) < N)

  -- f is a multiple whose lead stays, and others below it
  pub record IsTopped (N : ℕ) (f : List Term) : Type 0 where
    pub first : Multiple
    pub is : IsAt N first
    pub positive : 0 < first.term.coeff
    pub rest : List Multiple
    pub lower : All (IsBelow p n shift bs (top first)) rest
    pub sum : f ≡ total p (first ∷ rest)

  abbrev pub HasTop : ℕ → List Term → Type 0
  HasTop N f = (f ≡ []) ⊎ IsTopped N f

  summand_below : (m : Monomial) (s : Multiple) → degree_at shift m ≡ e → cmp_dp (top s) m ≡ Less → IsSummand p n shift bs e s → IsBelow p n shift bs m s
  summand_below m s d c h = record { member = h.member; residue = h.residue; graded = h.graded; plain = h.plain; below = c; degree = h.degree ∙ sym d }

  below_trans : (k m : Monomial) (s : Multiple) → cmp_dp k m ≡ Less → degree_at shift k ≡ degree_at shift m → IsBelow p n shift bs k s → IsBelow p n shift bs m s
  below_trans k m s c d h = record {
    member = h.member;
    residue = h.residue;
    graded = h.graded;
    plain = h.plain;
    below = dp_total.trans (top s) k m h.below c;
    degree = h.degree ∙ d;
  }

  more_rank : (N : ℕ) (f : List Term) → HasTop N f → HasTop (suc N) f
  more_rank N f (inl z) = inl z
  more_rank N f (inr t) = let l = t.is.1 in inr (record { first = t.first; is = (t.is.0, (omega arith)); positive = t.positive; rest = t.rest; lower = t.lower; sum = t.sum })

  normal_top : (N : ℕ) (f : List Term) → HasTop N f → normal p f ≡ f
  normal_top N f (inl z) = ap (normal p) z ∙ sym z
  normal_top N f (inr t) = ap (normal p) t.sum ∙ normal-total p (t.first ∷ t.rest) ∙ sym t.sum

  module _ (prime : IsPrime p) (vectors : All (IsGenerator p n shift) bs) (monic : All IsMonic bs)
      (settled : (b c : List Term) → Contains bs b → Contains bs c → (lead_mono b).component ≡ (lead_mono c).component → degree_at shift (lead_lcm b c) ≤ e → IsSettled p n shift bs b c) where
    pos : 0 < p
    pos = positive_of_prime p prime

    lead_g : (b : List Term) → Contains bs b → IsGraded n (lead_mono b)
    lead_g b c = lead_graded n b (All-contains (IsGenerator p n shift) bs b vectors c).vector.graded

    top_g : (s : Multiple) → IsSummand p n shift bs e s → IsGraded n (top s)
    top_g s h = graded_times n (lead_mono s.vector) s.term.mono (lead_g s.vector h.member) h.graded h.plain

    top_divides : (s : Multiple) → IsSummand p n shift bs e s → Divides (lead_mono s.vector) (top s)
    top_divides s h = divides_by n (lead_mono s.vector) s.term.mono (lead_g s.vector h.member) h.graded h.plain

    below_summand : (m : Monomial) (s : Multiple) → degree_at shift m ≡ e → IsBelow p n shift bs m s → IsSummand p n shift bs e s
    below_summand m s d h = record { member = h.member; residue = h.residue; graded = h.graded; plain = h.plain; degree = h.degree ∙ d }

    -- of two multiples with one top the first is a multiple of the second and others below
    exchange : (s r : Multiple) → IsSummand p n shift bs e s → IsSummand p n shift bs e r → top s ≡ top r
        → (z : List Term) × IsSumBelow p n shift bs (top r) z × (value p s ≡ add p (mul p r.vector (record { coeff = s.term.coeff; mono = r.term.mono } ∷ [])) z)
    exchange s r hs hr same =
        let m = top r in
        let b = s.vector in
        let c = r.vector in
        let gb = lead_g b hs.member in
        let gc = lead_g c hr.member in
        let gm = top_g r hr in
        let db : Divides (lead_mono b) m = subst (Divides (lead_mono b)) same (top_divides s hs) in
        let dc : Divides (lead_mono c) m = top_divides r hr in
        let l = lcm_law.least (lead_mono b) (lead_mono c) m (same_shape n (lead_mono b) (lead_mono c) gb gc) db dc in
        let one : (lead_mono b).component ≡ (lead_mono c).component = db.same ∙ sym dc.same in
        let deg : degree_at shift (lead_lcm b c) ≤ e = let x = divides_degree shift (lead_lcm b c) m l in let y = hr.degree in omega arith in
        let x = raised p b m in
        let y = raised p c m in
        let a = lifted p n shift bs pos vectors b c m gb gc one gm l (settled b c hs.member hr.member one deg) in
        let k = s.term.coeff in
        let u : k * 1 ≡ k = omega arith in
        let wb : cofactor (lead_mono b) m ≡ s.term.mono = ap (cofactor (lead_mono b)) (sym same) ∙ cofactor_times n (lead_mono b) s.term.mono gb hs.graded (top_g s hs) hs.plain in
        let wc : cofactor (lead_mono c) m ≡ r.term.mono = cofactor_times n (lead_mono c) r.term.mono gc hr.graded gm hr.plain in
        let left : multiple p k x ≡ value p s = multiple_term p k b (record { coeff = 1; mono = cofactor (lead_mono b) m }) ∙ (λ i. mul p b (record { coeff = u i; mono = wb i } ∷ [])) in
        let right : multiple p k y ≡ mul p c (record { coeff = k; mono = r.term.mono } ∷ []) =
        multiple_term p k c (record { coeff = 1; mono = cofactor (lead_mono c) m }) ∙ (λ i. mul p c (record { coeff = u i; mono = wc i } ∷ [])) in
        (multiple p k (sub p x y), below_multiple p n shift bs m k (sub p x y) pos a, sym left ∙ sub_times p k x y (sub p x y) pos refl ∙ ap (λ w. add p w (multiple p k (sub p x y))) right)

    below_at : (N : ℕ) (m : Monomial) (ss : List Multiple) → IsGraded n m → degree_at shift m ≡ e → rank e m < suc N → All (IsBelow p n shift bs m) ss → All (IsAt N) ss
    below_at N m ss gm dm r h =
        All-weaker (IsBelow p n shift bs m) (IsAt N)
        (λ s b.
        let is = below_summand m s dm b in
        let l = rank_rises n shift e (top s) m (top_g s is) gm is.degree dm b.below in
        (is, (omega arith))) ss h

    module _ (N : ℕ) (ih : (ss : List Multiple) → All (IsAt N) ss → HasTop N (total p ss)) where
      -- two multiples with one top, and others below
      merge : (s : Multiple) → IsAt (suc N) s → (g : List Term) → (t : IsTopped (suc N) g) → top s ≡ top t.first → HasTop (suc N) (add p (value p s) g)
      merge s hs g t same = go ((s.term.coeff + r.term.coeff) % p) refl
        where
          r : Multiple
          r = t.first

          x : (z : List Term) × IsSumBelow p n shift bs (top r) z × (value p s ≡ add p (mul p r.vector (record { coeff = s.term.coeff; mono = r.term.mono } ∷ [])) z)
          x = exchange s r hs.0 t.is.0 same

          others : List Multiple
          others = x.1.multiples ++ t.rest

          each : All (IsBelow p n shift bs (top r)) others
          each = All-append (IsBelow p n shift bs (top r)) x.1.multiples t.rest x.1.each t.lower

          joined : add p (value p s) g ≡ add p (mul p r.vector (record { coeff = (s.term.coeff + r.term.coeff) % p; mono = r.term.mono } ∷ [])) (total p others)
          joined =
              (λ i. add p (x.2 i) (t.sum i))
              ∙ add_medial p (mul p r.vector (record { coeff = s.term.coeff; mono = r.term.mono } ∷ [])) x.0 (value p r) (total p t.rest)
              ∙ (λ i. add p (mul_two p s.term.coeff r.term.coeff r.term.mono r.vector i) (add p (x.1.sum i) (total p t.rest)))
              ∙ ap (add p (mul p r.vector (record { coeff = (s.term.coeff + r.term.coeff) % p; mono = r.term.mono } ∷ []))) (sym (total-append p x.1.multiples t.rest))

          go : (c : ℕ) → (s.term.coeff + r.term.coeff) % p ≡ c → HasTop (suc N) (add p (value p s) g)
          go zero q =
              let none : mul p r.vector (record { coeff = (s.term.coeff + r.term.coeff) % p; mono = r.term.mono } ∷ []) ≡ [] =
              mul_by_none p (record { coeff = (s.term.coeff + r.term.coeff) % p; mono = r.term.mono }) r.vector q in
              subst (HasTop (suc N)) (sym (joined ∙ ap (λ w. add p w (total p others)) none ∙ normal-total p others))
              (more_rank N (total p others) (ih others (below_at N (top r) others (top_g r t.is.0) t.is.0.degree t.is.1 each)))
          go (suc c) q = inr (record {
            first = record { vector = r.vector; term = record { coeff = (s.term.coeff + r.term.coeff) % p; mono = r.term.mono } };
            is = (record { member = t.is.0.member; residue = mod-lt (s.term.coeff + r.term.coeff) pos; graded = t.is.0.graded; plain = t.is.0.plain; degree = t.is.0.degree }, t.is.1);
            positive = (omega arith);
            rest = others;
            lower = each;
            sum = joined;
          })

      insert : (s : Multiple) → IsAt (suc N) s → (g : List Term) → HasTop (suc N) g → HasTop (suc N) (add p (value p s) g)
      insert s hs g h = go s.term.coeff refl
        where
          beside : 0 < s.term.coeff → HasTop (suc N) g → HasTop (suc N) (add p (value p s) g)
          beside l (inl z) =
              inr (record { first = s; is = hs; positive = l; rest = []; lower = All-nil (IsBelow p n shift bs (top s)); sum = ap (add p (value p s)) z })
          beside l (inr t) = by (cmp_dp (top s) (top t.first)) refl
            where
              r : Multiple
              r = t.first

              by : (o : Ordering) → cmp_dp (top s) (top r) ≡ o → HasTop (suc N) (add p (value p s) g)
              by Greater q =
                  let low = turn_down (top s) (top r) q in
                  inr (record {
                    first = s;
                    is = hs;
                    positive = l;
                    rest = r ∷ t.rest;
                    lower = All-cons (IsBelow p n shift bs (top s)) r t.rest (summand_below (top s) r hs.0.degree low t.is.0)
                        (All-weaker (IsBelow p n shift bs (top r)) (IsBelow p n shift bs (top s)) (λ v b. below_trans (top r) (top s) v low (t.is.0.degree ∙ sym hs.0.degree) b) t.rest t.lower);
                    sum = ap (add p (value p s)) t.sum;
                  })
              by Less q = inr (record {
                first = r;
                is = t.is;
                positive = t.positive;
                rest = s ∷ t.rest;
                lower = All-cons (IsBelow p n shift bs (top r)) s t.rest (summand_below (top r) s t.is.0.degree q hs.0) t.lower;
                sum =
                    ap (add p (value p s)) t.sum
                    ∙ sym (add_assoc p (value p s) (value p r) (total p t.rest))
                    ∙ ap (λ w. add p w (total p t.rest)) (add_comm p (value p s) (value p r))
                    ∙ add_assoc p (value p r) (value p s) (total p t.rest);
              })
              by Equal q = merge s hs g t (same_dp (top s) (top r) q)

          go : (c : ℕ) → s.term.coeff ≡ c → HasTop (suc N) (add p (value p s) g)
          go zero q = subst (HasTop (suc N)) (sym (ap (λ w. add p w g) (mul_by_none p s.term s.vector q) ∙ normal_top (suc N) g h)) h
          go (suc c) q = beside (omega arith) h

      each_inserted : (ss : List Multiple) → All (IsAt (suc N)) ss → HasTop (suc N) (total p ss)
      each_inserted [] h = inl refl
      each_inserted (s ∷ ss) h = insert s (All-head (IsAt (suc N)) s ss h) (total p ss) (each_inserted ss (All-tail (IsAt (suc N)) s ss h))

    none_at : (ss : List Multiple) → All (IsAt 0) ss → HasTop 0 (total p ss)
    none_at [] h = inl refl
    none_at (s ∷ ss) h = let l = (All-head (IsAt 0) s ss h).1 in absurd (omega arith)

    descend : (N : ℕ) (ss : List Multiple) → All (IsAt N) ss → HasTop N (total p ss)
    descend zero ss h = none_at ss h
    descend (suc N) ss h = each_inserted N (descend N) ss h

    bounded : (ss : List Multiple) → All (IsSummand p n shift bs e) ss → (N : ℕ) × All (IsAt N) ss
    bounded [] h = (0, All-nil (IsAt 0))
    bounded (s ∷ ss) h =
        let rest = bounded ss (All-tail (IsSummand p n shift bs e) s ss h) in
        let N = suc (rank e (top s)) + rest.0 in
        (N, All-cons (IsAt N) s ss (All-head (IsSummand p n shift bs e) s ss h, (omega arith)) (All-weaker (IsAt rest.0) (IsAt N) (λ v a. let l = a.1 in (a.0, (omega arith))) ss rest.1))

    -- ---- the lead that stays

    abbrev AtMost : Multiple → Monomial → Type 0
    AtMost s w = ((w ≡ lead_mono s.vector) ⊎ Lower (lead_mono s.vector) w) × Seven w

    at_most : (s : Multiple) → Contains bs s.vector → EachMono (AtMost s) s.vector
    at_most s c = go s.vector (All-contains (IsGenerator p n shift) bs s.vector vectors c)
      where
        go : (f : List Term) → IsGenerator p n shift f → EachMono (λ w. ((w ≡ lead_mono f) ⊎ Lower (lead_mono f) w) × Seven w) f
        go [] h = tt
        go (u ∷ f) h =
            let sevens = each_seven n (u ∷ f) h.vector.graded in (
              (inl refl, sevens.0),
              every_more (λ w. Lower u.mono w × Seven w) (λ w. ((w ≡ u.mono) ⊎ Lower u.mono w) × Seven w) f (λ w q. (inr q.0, q.1))
                  (every_zip (Lower u.mono) Seven f (tail_below p u f h.vector.canonical) sevens.1),
            )

    value_below : (m : Monomial) (s : Multiple) → IsBelow p n shift bs m s → EachMono (Lower m) (value p s)
    value_below m s b =
        every_normal (Lower m) p (products s.vector (s.term ∷ []))
        (every_products (AtMost s) (λ w. w ≡ s.term.mono) (Lower m) s.vector (s.term ∷ []) each (at_most s b.member) (refl, tt))
      where
        each : (w v : Monomial) → AtMost s w → v ≡ s.term.mono → Lower m (times w v)
        each w v (inl q, k) a = (λ i. cmp_dp (times (q i) (a i)) m) ∙ b.below
        each w v (inr q, k) a =
            dp_total.trans (times w v) (top s) m
            ((λ i. cmp_dp (times w (a i)) (top s)) ∙ cmp_dp-times w (lead_mono s.vector) s.term.mono (k ∙ sym (lead_g s.vector b.member).seven) ∙ q) b.below

    total_below : (m : Monomial) (ss : List Multiple) → All (IsBelow p n shift bs m) ss → EachMono (Lower m) (total p ss)
    total_below m [] h = tt
    total_below m (s ∷ ss) h =
        every_add (Lower m) p (value p s) (total p ss) (value_below m s (All-head (IsBelow p n shift bs m) s ss h)) (total_below m ss (All-tail (IsBelow p n shift bs m) s ss h))

    first_stays : (b : List Term) (t : Term) (g : List Term) → Contains bs b → 0 < t.coeff → t.coeff < p → EachMono (Lower (times (lead_mono b) t.mono)) g
        → (u : Term) × (h : List Term) × (add p (mul p b (t ∷ [])) g ≡ u ∷ h) × (u.mono ≡ times (lead_mono b) t.mono)
    first_stays [] t g c l k low = absurd (All-contains IsMonic bs [] monic c)
    first_stays (u ∷ f) t g c l k low =
        let v = (All-contains (IsGenerator p n shift) bs (u ∷ f) vectors c).vector in
        let sevens = each_seven n (u ∷ f) v.graded in
        let x = lead_of_sum p (times_term p t u) (map (times_term p t) f) g (pos_product p u.coeff t.coeff prime v.canonical.0 v.canonical.1 l k) (mod-lt (u.coeff * t.coeff) pos)
        (product_below p t u f v.canonical sevens) low in
        (times_term p t u, x.0, ap (λ w. add p w g) (product_is p t u f prime l k v.canonical sevens) ∙ x.1, refl)

    top_is_lead : (N : ℕ) (v : Term) (f : List Term) → IsTopped N (v ∷ f) → IsLeadMultiple bs v.mono
    top_is_lead N v f t =
        let s = t.first in
        let x = first_stays s.vector s.term (total p t.rest) t.is.0.member t.positive t.is.0.residue (total_below (top s) t.rest t.lower) in
        let same : v.mono ≡ top s = ap lead_mono (t.sum ∙ x.2) ∙ x.3 in
        (s.vector, t.is.0.member, subst (Divides (lead_mono s.vector)) (sym same) (top_divides s t.is.0))

    -- the lead of a sum of multiples of the degree e
    pub lead_of_total : (v : Term) (f : List Term) (ss : List Multiple) → All (IsSummand p n shift bs e) ss → v ∷ f ≡ total p ss → IsLeadMultiple bs v.mono
    lead_of_total v f ss h q =
        let b = bounded ss h in
        go b.0 (descend b.0 ss b.1)
      where
        go : (N : ℕ) → HasTop N (total p ss) → IsLeadMultiple bs v.mono
        go N (inl z) = let no : v ∷ f ≡ [] = q ∙ z in absurd (cc)
        go N (inr t) = top_is_lead N v f (subst (IsTopped N) (sym q) t)
