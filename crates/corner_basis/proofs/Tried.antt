-- The monomials that the program has tried: before the first, after one more, and what the relations between them give.
use Rattle.std.proofs.Common.{◌≡◌, ◌⊎◌, inl, inr, ◌↔◌, ℕ, ◌+◌, ◌-◌, ◌*◌, ◌<◌, ◌≤◌, List, [], ◌∷◌, ◌++◌, map, length, get_or, set, take, drop, replicate, All, refl, sym, ap, ap₂, ◌∙◌, subst, arith, ⊎_elim}
use Rattle.std.specs.List.{Contains}
use Rattle.std.proofs.lemmas.Bool.{cases_lt}
use Rattle.std.proofs.lemmas.List.{get_or_append_left, get_or_default, get_or-map, get_or_push, length-append, length-drop, length-map, length_push, take_all}
use Rattle.std.proofs.lemmas.List.Elements.{All-from_get_or, Contains-append_cases}
use Rattle.monomials.specs.Mono.{Monomial, IsMono, total_degree, unit}
use Rattle.polys.specs.declared.term.Term.{Term}
use Rattle.polys.specs.Terms.{EachMono, IsAffine}
use Rattle.polys.specs.Poly.{IsVector, Polynomial, terms_of}
use Rattle.polys.specs.Ideal.{number_combination}
use Rattle.polys.specs.Curve.{CurveData, IsOver, data_of}
use Rattle.polys.specs.Reduced.{IsReducedBasis}
use Rattle.polys.proofs.Each.{every_more}
use Rattle.curve_model.specs.Laws.{IsFinite}
use Rattle.row_space.specs.Subspace.{Subspace, DifferIn, FitsIn, Gains, IsIn, IsReduced, IsSumOfBasis, IsZeroAtPivots, Joins, product}
use Rattle.standard_monomials.specs.Standard.{polynomial_of}
use Rattle.digit_laws.specs.Digits.{AreDigits, IsOfDigits}
use Rattle.digit_space.specs.Model.{DigitData, IsDigitSpace, IsDigitsOf}
use Rattle.corner_basis.specs.Fronts.{IsFrontIn}
use Rattle.corner_basis.specs.Staircase.{HasDivisor, IsNormalRow, IsPassed, IsStaircase}
use Rattle.corner_basis.specs.Tried.{AreTried, HasRelations, HaveDigits, IsFront, IsMember, IsNew, IsSearched}
use Rattle.corner_basis.specs.declared.front.Front.{Front}
use Rattle.corner_basis.specs.declared.staircase.Staircase.{Staircase}
use Rattle.corner_basis.proofs.Started.{rank_within, staircase_start}
use Rattle.corner_basis.proofs.Growing.{put_lead, put_standard}
use Rattle.corner_basis.proofs.Search.{above, here}
use Rattle.corner_basis.proofs.Relations.{all_of, related, tailed}
use Rattle.corner_basis.proofs.Reduced.{reduced}
use Rattle.corner_basis.proofs.Fronts.{digits_push, finite, front_digits, front_ideal, front_inside, rows_together}

no_digits : (g : DigitData) (ws : List Monomial) (rows : List (List ℕ)) → ws ≡ [] → rows ≡ [] → HaveDigits g ws rows
no_digits g ws rows e f =
    subst (λ z. HaveDigits g z rows) (sym e) (subst (HaveDigits g []) (sym f) (record { count = refl; digits = λ i l. absurd (omega arith) }))

-- the first members, so many of them
abbrev pub AreMembers : Front → Staircase → ℕ → List Polynomial → Type 0
AreMembers f s n fs = (length fs ≡ n) × ((j : ℕ) (d : Polynomial) → j < n → ((get_or fs j d).prime ≡ f.digits.now.curve.prime) × IsMember f s j (get_or fs j d).terms)

pub members_push : (f : Front) (s : Staircase) (n : ℕ) (fs : List Polynomial) (q : Polynomial) → AreMembers f s n fs → q.prime ≡ f.digits.now.curve.prime → IsMember f s n q.terms → AreMembers f s (n + 1) (fs ++ q ∷ [])
members_push f s n fs q a e m = ((let l = length_push fs q in let k = a.0 in omega arith), each)
  where
    Good : ℕ → Polynomial → Type 0
    Good j x = (x.prime ≡ f.digits.now.curve.prime) × IsMember f s j x.terms

    each : (j : ℕ) (d : Polynomial) → j < n + 1 → Good j (get_or (fs ++ q ∷ []) j d)
    each j d l = ⊎_elim
        (λ (b : j < n). subst (Good j) (sym (get_or_append_left fs (q ∷ []) d j (let k = a.0 in omega arith))) (a.1 j d b))
        (λ (b : n ≤ j).
        let same : n ≡ j = omega arith in
        subst (Good j) (sym (get_or_push fs q d j (let k = a.0 in omega arith))) (e, subst (λ z. IsMember f s z q.terms) same m))
        (cases_lt j n)

module _ (f : Front) (i : IsFront f) (s : IsDigitSpace f.digits.now) where
  abbrev g : DigitData
  g = f.digits.now

  abbrev A : CurveData
  A = data_of f.digits.now.curve

  abbrev W : ℕ
  W = length f.digits.now.basis * f.blocks

  c : IsFinite (data_of f.digits.now.curve)
  c = finite f.digits.now s

  o : IsOfDigits (data_of f.digits.now.curve) f.digits.now.basis f.blocks f.space.now
  o = i.ideal.of_digits

  pub tried_start : (none : Subspace) (t : Staircase) → none.basis ≡ [] → none.prime ≡ f.space.now.prime → none.width ≡ length f.digits.now.basis * f.blocks → Joins none f.space.now.basis t.span → IsReduced t.span
      → t.standard ≡ [] → t.standard_rows ≡ [] → t.leads ≡ [] → t.lead_rows ≡ [] → AreTried f t
  tried_start none t empty prime width j r e1 e2 e3 e4 = record {
    monomials = subst (λ z. IsStaircase A g.basis f.blocks f.space.now t.span z t.leads) (sym e1) (subst (IsStaircase A g.basis f.blocks f.space.now t.span []) (sym e3)
        (staircase_start A c g.basis s.corners f.blocks f.space.now t.span o none empty (prime ∙ o.prime) width j r));
    standard_rows = no_digits g t.standard t.standard_rows e1 e2;
    lead_rows = no_digits g t.leads t.lead_rows e3 e4;
  }

  module _ (old : Staircase) (h : AreTried f old) where
    abbrev Stairs : Subspace → List Monomial → List Monomial → Type 0
    Stairs span ss ls = IsStaircase A g.basis f.blocks f.space.now span ss ls

    -- the monomial that is next in the queue
    pub is_new : (next : ℕ) (queue : List Monomial) (m : Monomial) → IsSearched f next queue old → next < length queue → m ≡ get_or queue next m → (HasDivisor old.leads m → ⊥) → IsNew f.digits.now.curve.variables old m
    is_new next queue m q l e out =
        let there = here f.digits.now.curve.variables next queue old.standard old.leads q l m e in
        record {
          affine = q.affine m there;
          above = above f.digits.now.curve.variables next queue old.standard old.leads q l m e;
          outside = out;
          low = q.low m there;
        }

    pub standard_affine : All (IsAffine f.digits.now.curve.variables) old.standard
    standard_affine = all_of (IsAffine f.digits.now.curve.variables) old.standard (λ w d. h.monomials.affine w (inl d))

    -- the rows are long enough
    pub rows_long : (ws : List Monomial) (rows : List (List ℕ)) → HaveDigits f.digits.now ws rows → All (λ row. length f.digits.now.basis * f.blocks ≤ length row) rows
    rows_long ws rows d = All-from_get_or (λ row. length f.digits.now.basis * f.blocks ≤ length row) rows []
        (λ j l. front_inside f.digits.now s f.blocks i.shallow (polynomial_of (get_or ws j unit)) (get_or rows j []) (d.digits j (let n = d.count in omega arith)))

    module _ (m : Monomial) (row front : List ℕ) (n : IsNew f.digits.now.curve.variables old m) (d : IsDigitsOf f.digits.now (polynomial_of m) row) (is : front ≡ take (length f.digits.now.basis * f.blocks) row) where
      digits : AreDigits (data_of f.digits.now.curve) f.digits.now.basis f.blocks (polynomial_of m) front
      digits = subst (AreDigits (data_of f.digits.now.curve) f.digits.now.basis f.blocks (polynomial_of m)) (sym is) (front_digits f.digits.now s f.blocks i.shallow m n.affine row d)

      moved : (ws vs : List Monomial) (xs ys : List (List ℕ)) → ws ≡ vs → xs ≡ ys → HaveDigits f.digits.now vs ys → HaveDigits f.digits.now ws xs
      moved ws vs xs ys a b k = subst (λ z. HaveDigits f.digits.now z xs) (sym a) (subst (HaveDigits f.digits.now vs) (sym b) k)

      pub tried_standard : (new : Staircase) → (IsIn old.span front → ⊥) → Gains old.span front new.span → IsReduced new.span → new.standard ≡ old.standard ++ m ∷ []
          → new.standard_rows ≡ old.standard_rows ++ row ∷ [] → new.leads ≡ old.leads → new.lead_rows ≡ old.lead_rows → AreTried f new
      tried_standard new out gain r e1 e2 e3 e4 =
          let room = rank_within new.span r in
          let wide : new.span.width ≡ length f.digits.now.basis * f.blocks = gain.width ∙ h.monomials.of_digits.width in
          record {
            monomials = subst (λ z. Stairs new.span z new.leads) (sym e1) (subst (Stairs new.span (old.standard ++ m ∷ [])) (sym e3)
                (put_standard A c g.basis s.corners f.blocks f.space.now old.span old.standard old.leads h.monomials m n.affine n.above n.outside n.low front digits new.span out gain (omega arith)));
            standard_rows = moved new.standard (old.standard ++ m ∷ []) new.standard_rows (old.standard_rows ++ row ∷ []) e1 e2
                (digits_push f.digits.now old.standard old.standard_rows m row h.standard_rows d);
            lead_rows = moved new.leads old.leads new.lead_rows old.lead_rows e3 e4 h.lead_rows;
          }

      pub tried_lead : (new : Staircase) (residues : List ℕ) → IsSumOfBasis old.span residues front → new.span ≡ old.span → new.standard ≡ old.standard
          → new.standard_rows ≡ old.standard_rows → new.leads ≡ old.leads ++ m ∷ [] → new.lead_rows ≡ old.lead_rows ++ row ∷ [] → AreTried f new
      tried_lead new residues sum same e1 e2 e3 e4 = record {
        monomials = subst (λ z. Stairs new.span z new.leads) (sym e1) (subst (Stairs new.span old.standard) (sym e3) (subst (λ z. Stairs z old.standard (old.leads ++ m ∷ [])) (sym same)
            (put_lead A c g.basis s.corners f.blocks f.space.now old.span old.standard old.leads h.monomials m n.affine n.above n.outside n.low front digits residues sum)));
        standard_rows = moved new.standard old.standard new.standard_rows old.standard_rows e1 e2 h.standard_rows;
        lead_rows = moved new.leads (old.leads ++ m ∷ []) new.lead_rows (old.lead_rows ++ row ∷ []) e3 e4 (digits_push f.digits.now old.leads old.lead_rows m row h.lead_rows d);
      }

    -- ---- relations

    affine_all : All (IsAffine f.digits.now.curve.variables) (old.leads ++ old.standard)
    affine_all = all_of (IsAffine f.digits.now.curve.variables) (old.leads ++ old.standard) (λ w d. pick w (Contains-append_cases old.leads old.standard w d))
      where
        pick : (w : Monomial) → Contains old.leads w ⊎ Contains old.standard w → IsAffine f.digits.now.curve.variables w
        pick w (inl d) = h.monomials.affine w (inr d)
        pick w (inr d) = h.monomials.affine w (inl d)

    module _ (matrix : List (List ℕ)) (e : matrix ≡ map (take (length f.digits.now.basis * f.blocks)) (old.lead_rows ++ old.standard_rows)) where
      many : length matrix ≡ length old.leads + length old.standard
      many =
          let a = length-map (old.lead_rows ++ old.standard_rows) (take (length f.digits.now.basis * f.blocks)) in
          let b = length-append old.lead_rows old.standard_rows in
          let x = h.lead_rows.count in
          let y = h.standard_rows.count in
          let z : length matrix ≡ length (map (take (length f.digits.now.basis * f.blocks)) (old.lead_rows ++ old.standard_rows)) = ap length e in
          omega arith

      front_of : (ws : List Monomial) (xs : List (List ℕ)) → HaveDigits f.digits.now ws xs → ((w : Monomial) → Contains ws w → IsAffine f.digits.now.curve.variables w)
          → (j : ℕ) → j < length ws → AreDigits A g.basis f.blocks (polynomial_of (get_or ws j unit)) (take (length f.digits.now.basis * f.blocks) (get_or xs j []))
      front_of ws xs d a j l = front_digits f.digits.now s f.blocks i.shallow (get_or ws j unit) (a (get_or ws j unit) (j, l, get_or_default ws j (get_or ws j unit) unit l)) (get_or xs j []) (d.digits j l)

      rows : (j : ℕ) → j < length (old.leads ++ old.standard) → AreDigits A g.basis f.blocks (polynomial_of (get_or (old.leads ++ old.standard) j unit)) (get_or matrix j [])
      rows = subst (λ z. (j : ℕ) → j < length (old.leads ++ old.standard) → AreDigits A g.basis f.blocks (polynomial_of (get_or (old.leads ++ old.standard) j unit)) (get_or z j [])) (sym e)
          (rows_together A g.basis f.blocks (length f.digits.now.basis * f.blocks) old.leads old.standard old.lead_rows old.standard_rows h.lead_rows.count h.standard_rows.count
          (front_of old.leads old.lead_rows h.lead_rows (λ w d. h.monomials.affine w (inr d))) (front_of old.standard old.standard_rows h.standard_rows (λ w d. h.monomials.affine w (inl d))))

      pub matrix_fits : All (FitsIn f.space.now) matrix
      matrix_fits = All-from_get_or (FitsIn f.space.now) matrix [] each
        where
          each : (j : ℕ) → j < length matrix → FitsIn f.space.now (get_or matrix j [])
          each j l =
              let d = rows j (let n = many in let m = length-append old.leads old.standard in omega arith) in
              (d.fits.0 ∙ sym o.width, subst (λ p. All (λ x. x < p) (get_or matrix j [])) (sym o.prime) d.fits.1)

      pub has_relations : (relations : Subspace) → relations.prime ≡ f.space.now.prime → relations.width ≡ length matrix
          → ((v : List ℕ) → length v ≡ length matrix → IsIn relations v ↔ IsIn f.space.now (product f.space.now.prime f.space.now.width v matrix)) → HasRelations f old relations
      has_relations relations prime width members = record {
        prime = prime ∙ o.prime;
        width = width ∙ many;
        members = λ v l.
            let one = members v (l ∙ sym many) in
            let two = related A c g.basis s.corners f.blocks f.space.now o v (old.leads ++ old.standard) matrix (many ∙ sym (length-append old.leads old.standard)) affine_all rows in
            (λ x. two.0 (one.0 x), λ x. one.1 (two.1 x));
      }

    module _ (relations : Subspace) (r : HasRelations f old relations) (reduced_rows : IsReduced relations) (j : ℕ) (inside : j < length old.leads) where
      -- the member that is read off the relation
      pub is_member : (row z : List ℕ) → row ≡ set (replicate (length old.leads + length old.standard) 0) j (relations.prime - 1)
          → ((other : List ℕ) → FitsIn relations other → DifferIn relations row other → IsZeroAtPivots relations other → other ≡ z) → (t : List Term)
          → t ≡ record { coeff = 1; mono = get_or old.leads j unit } ∷ number_combination relations.prime (drop (length old.leads) z) (map polynomial_of old.standard) → IsMember f old j t
      is_member row z row_is only t e =
          tailed A c g.basis s.corners f.blocks f.space.now o old.span old.standard old.leads h.monomials relations r reduced_rows.1.rows j (get_or old.leads j unit) inside
          (get_or_default old.leads j unit (get_or old.leads j unit) inside) row z
          (row_is ∙ ap (λ p. set (replicate (length old.leads + length old.standard) 0) j (p - 1)) r.prime) only t
          (e ∙ ap (λ p. record { coeff = 1; mono = get_or old.leads j unit } ∷ number_combination p (drop (length old.leads) z) (map polynomial_of old.standard)) r.prime)

    -- the member as the program reads it off
    pub read_member : (relations : Subspace) → HasRelations f old relations → IsReduced relations → (j : ℕ) → j < length old.leads → (leads standard : List Monomial) (a z : List ℕ) (p : ℕ) (l : Monomial)
        → leads ≡ old.leads → standard ≡ old.standard → a ≡ z → p ≡ relations.prime → l ≡ get_or leads j l
        → IsNormalRow relations (set (replicate (length leads + length standard) 0) j (relations.prime - 1)) z
        → IsMember f old j (record { coeff = 1; mono = l } ∷ number_combination p (take (length a - length leads) (drop (length leads) a)) (map polynomial_of standard))
    read_member relations r reduced_rows j inside leads standard a z p l e1 e2 e3 e4 e5 only =
        is_member relations r reduced_rows j inside (set (replicate (length old.leads + length old.standard) 0) j (relations.prime - 1)) z refl
        (subst (λ n. IsNormalRow relations (set (replicate n 0) j (relations.prime - 1)) z) sizes only)
        (record { coeff = 1; mono = l } ∷ number_combination p (take (length a - length leads) (drop (length leads) a)) (map polynomial_of standard))
        (ap₂ (λ w g. record { coeff = 1; mono = w } ∷ g) lead tail)
      where
        sizes : length leads + length standard ≡ length old.leads + length old.standard
        sizes = let x : length leads ≡ length old.leads = ap length e1 in let y : length standard ≡ length old.standard = ap length e2 in omega arith

        lead : l ≡ get_or old.leads j unit
        lead = e5 ∙ ap (λ ls. get_or ls j l) e1 ∙ get_or_default old.leads j l unit inside

        whole : take (length a - length leads) (drop (length leads) a) ≡ drop (length leads) a
        whole = take_all (length a - length leads) (drop (length leads) a) (let n = length-drop (length leads) a in omega arith)

        row : take (length a - length leads) (drop (length leads) a) ≡ drop (length old.leads) z
        row = whole ∙ ap₂ drop (ap length e1) e3

        tail : number_combination p (take (length a - length leads) (drop (length leads) a)) (map polynomial_of standard)
            ≡ number_combination relations.prime (drop (length old.leads) z) (map polynomial_of old.standard)
        tail = ap₂ (λ q cs. number_combination q cs (map polynomial_of standard)) e4 row ∙ ap (λ ws. number_combination relations.prime (drop (length old.leads) z) (map polynomial_of ws)) e2

    is_mono : (w : Monomial) → IsAffine f.digits.now.curve.variables w → total_degree w.exponents ≤ 60000 → IsMono w
    is_mono w a l = record { seven = a.seven; bounded = l; one_of_two = (let e = a.plain in omega arith) }

    -- its monomials are those of the program
    pub member_vector : length f.digits.now.basis * f.blocks ≤ 51200 → (j : ℕ) → j < length old.leads → (t : List Term) → IsMember f old j t → IsVector f.digits.now.curve.prime t
    member_vector small j l t q = record {
      canonical = q.poly.canonical;
      monos = subst (EachMono IsMono) (sym q.whole) (
        is_mono (get_or old.leads j unit) (h.monomials.affine (get_or old.leads j unit) (inr there)) (let a = h.monomials.reach (get_or old.leads j unit) there in let b = h.monomials.few in let x = h.monomials.within in omega arith),
        every_more (Contains old.standard) IsMono q.rest (λ w d. is_mono w (h.monomials.affine w (inl d)) (let a = h.monomials.low w d in let b = h.monomials.few in let x = h.monomials.within in omega arith)) q.monos,
      );
    }
      where
        there : Contains old.leads (get_or old.leads j unit)
        there = (j, l, get_or_default old.leads j (get_or old.leads j unit) unit l)

    pub basis_reduced : IsReduced f.space.now → ((m : Monomial) → IsAffine f.digits.now.curve.variables m → IsPassed old.standard old.leads m) → (fs : List (List Term)) → length fs ≡ length old.leads
        → ((j : ℕ) → j < length old.leads → IsMember f old j (get_or fs j [])) → IsReducedBasis f.digits.now.curve.prime f.digits.now.curve.variables (IsFrontIn f.digits.now f.blocks f.space.now) fs
    basis_reduced r whole fs n each =
        reduced A c g.basis s.corners f.blocks f.space.now old.span (front_ideal f.digits.now s f.blocks f.space.now i.ideal r) old.standard old.leads h.monomials whole fs (record { count = n; each = each })

    -- ---- the list of the members

    pub members_over : (fs : List Polynomial) → AreMembers f old (length old.leads) fs → All (IsOver f.digits.now.curve.prime f.digits.now.curve.variables) fs
    members_over fs a = All-from_get_or (IsOver f.digits.now.curve.prime f.digits.now.curve.variables) fs (record { prime = 0; terms = [] })
        (λ j l. let q = a.1 j (record { prime = 0; terms = [] }) (let n = a.0 in omega arith) in record { prime = q.0; poly = q.1.poly })

    pub members_reduced : IsReduced f.space.now → ((m : Monomial) → IsAffine f.digits.now.curve.variables m → IsPassed old.standard old.leads m) → (fs : List Polynomial) → AreMembers f old (length old.leads) fs
        → IsReducedBasis f.digits.now.curve.prime f.digits.now.curve.variables (IsFrontIn f.digits.now f.blocks f.space.now) (terms_of fs)
    members_reduced r whole fs a = basis_reduced r whole (terms_of fs) (length-map fs (λ q. q.terms) ∙ a.0) each
      where
        each : (j : ℕ) → j < length old.leads → IsMember f old j (get_or (terms_of fs) j [])
        each j l =
            let d : Polynomial = record { prime = 0; terms = [] } in
            subst (IsMember f old j) (sym (get_or-map (λ q. q.terms) fs j d [] (let n = a.0 in omega arith))) (a.1 j d l).1
