-- What is known of a denominator that was tried, and of the one that is chosen.
use Rattle.std.proofs.Common.{◌≡◌, ◌↔◌, inl, inr, append_assoc, ◌<◌, ◌≤◌, ◌+◌, ℕ, List, [], ◌∷◌, ◌++◌, length, take, drop, get_or, sym, ap, ◌∙◌, subst, arith, refl, Some, None, Bool, true, false, IsTrue}
use Rattle.std.specs.Prelude.{Result, Ok, Err, IfOk, IfErr, IfSome, option_map}
use Rattle.std.specs.List.{All}
use Rattle.std.proofs.lemmas.List.{take-append-drop, drop_more, map-append}
use Rattle.std.proofs.lemmas.List.Elements.{All-nil, All-cons, All-head, All-tail, All-push, All-append}
use Rattle.prime_field.specs.Primes.{IsPrime}
use Rattle.polys.specs.declared.term.Term.{Term}
use Rattle.polys.specs.Curve.{IsOver, Fit, HasRegular, HasDimModulo, data_of}
use Rattle.polys.specs.Ideal.{InIdeal, Regular, HasDim, HasInfiniteDim, Spans}
use Rattle.polys.specs.Poly.{Polynomial, terms_of}
use Rattle.polys.specs.Reduced.{IsReducedBasis}
use Rattle.polys.specs.Terms.{IsCanonical, IsPoly, IsMonicOf, mul, degree_of, one}
use Rattle.polys.proofs.Affine.{affine_unit}
use Rattle.ideal_laws.proofs.Ideals.{in_head, in_more, in_generator, in_larger, in_poly}
use Rattle.denominator_module.proofs.Firsts.{all_from}
use Rattle.denominator_module.specs.Module.{IsDeepDenominator}
use Rattle.lift_colon.specs.Lifted.{LiftedData, IsLifted}
use Rattle.problem.specs.declared.problem.Problem.{Problem}
use Rattle.problem.specs.Problem.{ProblemData, curve_of, IsFit, HasFitPolynomials, problem_data}
use Rattle.jacobian_pick.specs.Candidates.{AreFirst, jacobian_of, number_sums_of, variable_sums_of}
use Rattle.jacobian_pick.specs.Choice.{HasDeepIdeal, HasProperIdeal, HasDeepModule, IsInfinite, IsGood, IsPassedOver, IsGoodMultiple, IsFirstGood, sums_of, IsChosen, IsChosenBy, HasNoDenominator, IsReason, IsCause, IsLiftedOf, IsFound, IsPicked, curve_of_lifted}
use Rattle.jacobian_pick.specs.Lists.{IsBasisOf, IsUpTo}
use Rattle.jacobian_pick.specs.declared.choosing.PickStop.{PickStop}
use Rattle.jacobian_pick.specs.declared.choosing.PickStop.TheVariants.{Deep, Unit, DenominatorDeep, ZeroDivisor, Infinite, Wide, NoDenominator, Memory}
use Rattle.jacobian_pick.proofs.Memberships.{monic_low, next, fit_up_to, fits_up_to}

-- ---- ideals with the same members have the same dimension

spans_same : (p n : ℕ) (xs ys us : List (List Term)) → ((f : List Term) → InIdeal p n xs f → InIdeal p n ys f) → Spans p n xs us → Spans p n ys us
spans_same p n xs ys us k s = record {
  polys = s.polys;
  each = λ f h. record { residues = (s.each f h).residues; below = (s.each f h).below; as_many = (s.each f h).as_many; close = k _ (s.each f h).close };
}

dim_same : (p n N : ℕ) (xs ys : List (List Term)) → ((f : List Term) → InIdeal p n xs f → InIdeal p n ys f) → ((f : List Term) → InIdeal p n ys f → InIdeal p n xs f) → HasDim p n xs N → HasDim p n ys N
dim_same p n N xs ys k l h = record {
  basis = h.basis;
  as_many = h.as_many;
  spans = spans_same p n xs ys h.basis k h.spans;
  least = λ us x s. h.least us x (spans_same p n ys xs us l s);
}

larger : (p n : ℕ) (d : List Term) (xs ys : List (List Term)) → 1 < p → IsPoly p n d → All (IsPoly p n) xs → ((f : List Term) → InIdeal p n xs f → InIdeal p n ys f) → (f : List Term)
    → InIdeal p n (d ∷ xs) f → InIdeal p n (d ∷ ys) f
larger p n d xs ys two h a k f r =
    in_larger p n (d ∷ xs) (d ∷ ys) f (omega arith)
    (All-cons (InIdeal p n (d ∷ ys)) d xs (in_head p n d ys two h) (all_from (InIdeal p n (d ∷ ys)) xs (λ g c. in_more p n d ys g (k g (in_generator p n xs g two a c))))) r

pub polys_of : (p n D : ℕ) (fs : List Polynomial) → All (IsUpTo p n D) fs → All (IsPoly p n) (terms_of fs)
polys_of p n D [] a = All-nil (IsPoly p n)
polys_of p n D (f ∷ fs) a = All-cons (IsPoly p n) f.terms (terms_of fs) (All-head (IsUpTo p n D) f fs a).over.poly (polys_of p n D fs (All-tail (IsUpTo p n D) f fs a))

-- ---- a denominator that was tried

module _ (problem : Problem) (cap : ℕ) (d : Polynomial) (v : ℕ) (gens : List Polynomial) (ev : v ≡ length problem.letters) (eg : gens ≡ problem.generators) where
  pub deep_module : IsDeepDenominator problem.prime v d.terms (terms_of gens) cap → HasDeepModule (problem_data problem) cap d.terms
  deep_module x =
      subst (λ (m : ℕ). IsDeepDenominator problem.prime m d.terms (terms_of problem.generators) cap) ev (subst (λ w. IsDeepDenominator problem.prime v d.terms (terms_of w) cap) eg x)

  pub no_deep_module : (IsDeepDenominator problem.prime v d.terms (terms_of gens) cap → ⊥) → HasDeepModule (problem_data problem) cap d.terms → ⊥
  no_deep_module h x =
      h (subst (λ w. IsDeepDenominator problem.prime v d.terms (terms_of w) cap) (sym eg) (subst (λ (m : ℕ). IsDeepDenominator problem.prime m d.terms (terms_of problem.generators) cap) (sym ev) x))

-- a copy of the basis is the basis
pub basis_as : (problem : Problem) (basis ideal : List Polynomial) → IsBasisOf problem basis → ideal ≡ basis
    → IsReducedBasis problem.prime (length problem.letters) (InIdeal problem.prime (length problem.letters) (terms_of problem.generators)) (terms_of ideal)
basis_as problem basis ideal known e =
    subst (λ w. IsReducedBasis problem.prime (length problem.letters) (InIdeal problem.prime (length problem.letters) (terms_of problem.generators)) (terms_of w)) (sym e) known.reduced

module _ (problem : Problem) (prime : IsPrime problem.prime) (ready : HasFitPolynomials problem) (d : Polynomial) (l : LiftedData) (od : IsOver problem.prime (length problem.letters) d)
    (ep : l.prime ≡ problem.prime) (en : l.variables ≡ length problem.letters) (ed : l.denominator ≡ d)
    (basis : IsReducedBasis problem.prime (length problem.letters) (InIdeal problem.prime (length problem.letters) (terms_of problem.generators)) (terms_of l.ideal)) where
  two : 1 < problem.prime
  two = let h = prime.0 in omega arith

  polys : All (IsPoly problem.prime (length problem.letters)) (terms_of problem.generators)
  polys = polys_of problem.prime (length problem.letters) 60 problem.generators (fits_up_to problem.prime (length problem.letters) problem.generators ready.generators)

  into : (f : List Term) → InIdeal problem.prime (length problem.letters) (terms_of problem.generators) f → InIdeal problem.prime (length problem.letters) (terms_of l.ideal) f
  into f r = (basis.exact f (in_poly problem.prime (length problem.letters) (terms_of problem.generators) f (let t = two in omega arith) polys r)).1 r

  from : (f : List Term) → InIdeal problem.prime (length problem.letters) (terms_of l.ideal) f → InIdeal problem.prime (length problem.letters) (terms_of problem.generators) f
  from f r = (basis.exact f (in_poly problem.prime (length problem.letters) (terms_of l.ideal) f (let t = two in omega arith) basis.reduced.polys r)).0 r

  at : (F : ℕ → ℕ → Polynomial → Type 0) → F l.prime l.variables l.denominator → F problem.prime (length problem.letters) d
  at F x = subst (F problem.prime (length problem.letters)) ed (subst (λ (m : ℕ). F problem.prime m l.denominator) en (subst (λ (q : ℕ). F q l.variables l.denominator) ep x))

  back : (F : ℕ → ℕ → Polynomial → Type 0) → F problem.prime (length problem.letters) d → F l.prime l.variables l.denominator
  back F x = subst (λ (q : ℕ). F q l.variables l.denominator) (sym ep) (subst (λ (m : ℕ). F problem.prime m l.denominator) (sym en) (subst (F problem.prime (length problem.letters)) (sym ed) x))

  pub regular : Regular l.prime l.variables (terms_of l.ideal) l.denominator.terms ↔ HasRegular (curve_of (problem_data problem) d.terms)
  regular = (
    λ r. (λ a h m. from a (at (λ q n g. Regular q n (terms_of l.ideal) g.terms) r a h (into (mul problem.prime d.terms a) m))),
    λ r. back (λ q n g. Regular q n (terms_of l.ideal) g.terms) (λ a h m. into a (r a h (from (mul problem.prime d.terms a) m))),
  )

  pub dimension : (N : ℕ) → HasDim l.prime l.variables (l.denominator.terms ∷ terms_of l.ideal) N → HasDimModulo (curve_of (problem_data problem) d.terms) N
  dimension N h =
      dim_same problem.prime (length problem.letters) N (d.terms ∷ terms_of l.ideal) (d.terms ∷ terms_of problem.generators)
      (larger problem.prime (length problem.letters) d.terms (terms_of l.ideal) (terms_of problem.generators) two od.poly basis.reduced.polys from)
      (larger problem.prime (length problem.letters) d.terms (terms_of problem.generators) (terms_of l.ideal) two od.poly polys into)
      (at (λ q n g. HasDim q n (g.terms ∷ terms_of l.ideal) N) h)

  pub dimension_back : (N : ℕ) → HasDimModulo (curve_of (problem_data problem) d.terms) N → HasDim l.prime l.variables (l.denominator.terms ∷ terms_of l.ideal) N
  dimension_back N h =
      back (λ q n g. HasDim q n (g.terms ∷ terms_of l.ideal) N)
      (dim_same problem.prime (length problem.letters) N (d.terms ∷ terms_of problem.generators) (d.terms ∷ terms_of l.ideal)
      (larger problem.prime (length problem.letters) d.terms (terms_of problem.generators) (terms_of l.ideal) two od.poly polys into)
      (larger problem.prime (length problem.letters) d.terms (terms_of l.ideal) (terms_of problem.generators) two od.poly basis.reduced.polys from) h)

  pub one_back : InIdeal l.prime l.variables (terms_of l.ideal) one → InIdeal problem.prime (length problem.letters) (terms_of problem.generators) one
  one_back r = from one (at (λ q n g. InIdeal q n (terms_of l.ideal) one) r)

  pub infinite : HasInfiniteDim l.prime l.variables (l.denominator.terms ∷ terms_of l.ideal) → IsInfinite (problem_data problem) d.terms
  infinite h us s =
      at (λ q n g. HasInfiniteDim q n (g.terms ∷ terms_of l.ideal)) h us
      (spans_same problem.prime (length problem.letters) (d.terms ∷ terms_of problem.generators) (d.terms ∷ terms_of l.ideal) us
      (larger problem.prime (length problem.letters) d.terms (terms_of problem.generators) (terms_of l.ideal) two od.poly polys into) s)

-- ---- the first good one of a list

-- a denominator with a reason is not good
pub dim_unique : (p n M N : ℕ) (gs : List (List Term)) → HasDim p n gs M → HasDim p n gs N → M < N → ⊥
dim_unique p n M N gs a b h = b.least a.basis (let e = a.as_many in omega arith) a.spans

pub reason_is_bad : (problem : ProblemData) (cap : ℕ) (d : List Term) (stop : PickStop) → (stop ≡ Memory → ⊥) → IsReason problem cap d stop → IsGood problem cap d → ⊥
reason_is_bad problem cap d Deep m r g = r
reason_is_bad problem cap d Unit m r g = r
reason_is_bad problem cap d NoDenominator m r g = r
reason_is_bad problem cap d DenominatorDeep m r g = g.allowed.not_deep r
reason_is_bad problem cap d ZeroDivisor m r g = r.not_regular g.allowed.regular
reason_is_bad problem cap d Infinite m r g = r.1 g.narrow.2.basis g.narrow.2.spans
reason_is_bad problem cap d Wide m r g =
    dim_unique problem.prime (length problem.letters) g.narrow.0 r.1.0 (d ∷ problem.generators) g.narrow.2 r.1.2 (let a = g.narrow.1 in let b = r.1.1 in omega arith)
reason_is_bad problem cap d Memory m r g = m refl

-- ---- the chosen one

pub handed_over : (problem : Problem) (d m : Polynomial) → IsPrime problem.prime → HasFitPolynomials problem → problem.denominator ≡ Some d → m.prime ≡ d.prime → IsMonicOf d.prime d.terms m.terms
    → IsUpTo problem.prime (length problem.letters) 60 m × IsMonicOf problem.prime d.terms m.terms
handed_over problem d m prime ready given e h =
    let u : IsUpTo problem.prime (length problem.letters) 60 d =
    fit_up_to problem.prime (length problem.letters) d (subst (λ o. IfSome o (IsFit problem.prime (length problem.letters))) given ready.denominator) in
    let k : IsMonicOf problem.prime d.terms m.terms = subst (λ (q : ℕ). IsMonicOf q d.terms m.terms) u.over.prime h in
    let low = monic_low problem.prime (length problem.letters) 60 d.terms m.terms (let t = prime.0 in omega arith) (record { poly = u.over.poly; low = u.low }) k in
    (record { over = record { prime = e ∙ u.over.prime; poly = low.poly }; low = low.low }, k)

module _ (problem : Problem) (cap : ℕ) (d m : Polynomial) (given : problem.denominator ≡ Some d) (monic : IsMonicOf problem.prime d.terms m.terms) where
  handed : (problem_data problem).denominator ≡ Some d.terms
  handed = ap (option_map (λ (f : Polynomial). f.terms)) given

  pub picked_by_hand : {E : Type 0} (r : Result LiftedData E) → IsUpTo problem.prime (length problem.letters) 60 m → IfOk r (λ l. IsLiftedOf (problem_data problem) l) → IfOk r (λ l. IsLifted l)
      → IfOk r (λ l. l.denominator ≡ m) → IfOk r (λ l. IsGood (problem_data problem) cap m.terms) → IfOk r (λ l. IsPicked (problem_data problem) cap l)
  picked_by_hand (Err e) u a b c g = a
  picked_by_hand (Ok l) u a b c g = record {
    lifted = a;
    known = b;
    low = subst (λ (f : Polynomial). degree_of f.terms ≤ 119) (sym c) (let k = u.low in omega arith);
    good = subst (λ (f : Polynomial). IsGood (problem_data problem) cap f.terms) (sym c) g;
    chosen = subst (λ (f : Polynomial). IsChosen (problem_data problem) cap f.terms) (sym c) (subst (λ o. IsChosenBy (problem_data problem) cap o m.terms) (sym handed) (monic, g));
  }

  cause : (stop : PickStop) → HasProperIdeal (problem_data problem) cap → IsReason (problem_data problem) cap m.terms stop → IsCause (problem_data problem) cap stop
  cause Deep p r = absurd r
  cause Unit p r = absurd r
  cause NoDenominator p r = absurd r
  cause DenominatorDeep p r = (p, (m.terms, (d.terms, handed, monic), r))
  cause ZeroDivisor p r = (p, (m.terms, (d.terms, handed, monic), r))
  cause Infinite p r = (p, (m.terms, (d.terms, handed, monic), r))
  cause Wide p r = (p, (m.terms, (d.terms, handed, monic), r))
  cause Memory p r = r

  pub cause_by_hand : {T : Type 0} (r : Result T PickStop) → HasProperIdeal (problem_data problem) cap → IfErr r (λ stop. IsReason (problem_data problem) cap m.terms stop)
      → IfErr r (λ stop. IsCause (problem_data problem) cap stop)
  cause_by_hand (Ok l) p r = r
  cause_by_hand (Err stop) p r = cause stop p r

module _ (problem : Problem) (cap : ℕ) (none : problem.denominator ≡ None) where
  missing : (problem_data problem).denominator ≡ None
  missing = ap (option_map (λ (f : Polynomial). f.terms)) none

  picked_as : (l : LiftedData) → IsFound (problem_data problem) (λ d. IsGood (problem_data problem) cap d × IsChosenBy (problem_data problem) cap None d) l → IsPicked (problem_data problem) cap l
  picked_as l h = record {
    lifted = h.lifted;
    known = h.known;
    low = h.low;
    good = h.meets.0;
    chosen = subst (λ o. IsChosenBy (problem_data problem) cap o l.denominator.terms) (sym missing) h.meets.1;
  }

  pub picked_by_entries : (l : LiftedData) → IsFound (problem_data problem) (IsFirstGood (problem_data problem) cap (jacobian_of (problem_data problem))) l → IsPicked (problem_data problem) cap l
  picked_by_entries l h = picked_as l (record { lifted = h.lifted; known = h.known; low = h.low; meets = (h.meets.multiple.good, inl h.meets) })

  module _ (first : List (List Term)) (are_first : AreFirst (problem_data problem) first) (passed : All (IsPassedOver (problem_data problem) cap) (jacobian_of (problem_data problem))) where
    pub picked_by_sums : (l : LiftedData) → IsFound (problem_data problem) (IsFirstGood (problem_data problem) cap (sums_of (problem_data problem) first)) l → IsPicked (problem_data problem) cap l
    picked_by_sums l h =
        picked_as l
        (record {
          lifted = h.lifted;
          known = h.known;
          low = h.low;
          meets = (h.meets.multiple.good, inr (record { first = first; are_first = are_first; passed = passed; sum = h.meets }));
        })

    pub no_denominator : All (IsPassedOver (problem_data problem) cap) (number_sums_of (problem_data problem) first)
        → All (IsPassedOver (problem_data problem) cap) (variable_sums_of (problem_data problem) first) → HasNoDenominator (problem_data problem) cap
    no_denominator a b = record {
      none = missing;
      first = first;
      are_first = are_first;
      passed = passed;
      sums_passed = All-append (IsPassedOver (problem_data problem) cap) (number_sums_of (problem_data problem) first) (variable_sums_of (problem_data problem) first) a b;
    }

-- ---- the curve

picked_prime : (problem : Problem) (cap : ℕ) (l : LiftedData) → IsPicked (problem_data problem) cap l → IsPrime problem.prime
picked_prime problem cap l h = subst IsPrime h.lifted.prime h.known.prime

picked_over : (problem : Problem) (cap : ℕ) (l : LiftedData) → IsPicked (problem_data problem) cap l → IsOver problem.prime (length problem.letters) l.denominator
picked_over problem cap l h =
    subst (λ (n : ℕ). IsOver problem.prime n l.denominator) h.lifted.variables (subst (λ (q : ℕ). IsOver q l.variables l.denominator) h.lifted.prime h.known.denominator)

pub fit : (problem : Problem) (cap : ℕ) (l : LiftedData) → HasFitPolynomials problem → HasProperIdeal (problem_data problem) cap → IsPicked (problem_data problem) cap l → Fit (curve_of_lifted l)
fit problem cap l ready p h = record {
  some_variables = h.known.some_variables;
  six_variables = h.known.six_variables;
  ideal = h.known.ideal_over;
  denominator = h.known.denominator;
  reduced = h.known.ideal.reduced;
  proper = λ r. p.not_unit (one_back problem prime ready l.denominator l od h.lifted.prime h.lifted.variables refl h.lifted.ideal r);
  regular = (regular problem prime ready l.denominator l od h.lifted.prime h.lifted.variables refl h.lifted.ideal).1 h.good.allowed.regular;
  low = h.low;
  finite = (h.good.narrow.0, h.good.narrow.1, dimension_back problem prime ready l.denominator l od h.lifted.prime h.lifted.variables refl h.lifted.ideal h.good.narrow.0 h.good.narrow.2);
}
  where
    prime : IsPrime problem.prime
    prime = picked_prime problem cap l h

    od : IsOver problem.prime (length problem.letters) l.denominator
    od = picked_over problem cap l h

-- the dimension modulo the denominator is that of the bases
pub same_dimension : {E : Type 0} (problem : Problem) (cap : ℕ) (r : Result LiftedData E) → HasFitPolynomials problem → IfOk r (λ l. IsPicked (problem_data problem) cap l)
    → IfOk r (λ l. (N : ℕ) → HasDimModulo (data_of (curve_of_lifted l)) N ↔ HasDimModulo (curve_of (problem_data problem) l.denominator.terms) N)
same_dimension problem cap (Err e) ready h = h
same_dimension problem cap (Ok l) ready h =
    λ N. (
      dimension problem prime ready l.denominator l od h.lifted.prime h.lifted.variables refl h.lifted.ideal N,
      dimension_back problem prime ready l.denominator l od h.lifted.prime h.lifted.variables refl h.lifted.ideal N,
    )
  where
    prime : IsPrime problem.prime
    prime = picked_prime problem cap l h

    od : IsOver problem.prime (length problem.letters) l.denominator
    od = picked_over problem cap l h

pub fit_all : {E : Type 0} (problem : Problem) (cap : ℕ) (r : Result LiftedData E) → HasFitPolynomials problem → HasProperIdeal (problem_data problem) cap → IfOk r (λ l. IsPicked (problem_data problem) cap l)
    → IfOk r (λ l. Fit (curve_of_lifted l))
fit_all problem cap (Ok l) ready p h = fit problem cap l ready p h
fit_all problem cap (Err e) ready p h = h

pub proper_all : {T E : Type 0} (problem : Problem) (cap : ℕ) (r : Result T E) → HasProperIdeal (problem_data problem) cap → IfOk r (λ l. HasProperIdeal (problem_data problem) cap)
proper_all problem cap (Ok l) p = p
proper_all problem cap (Err e) p = tt

-- ---- a list that is searched

pub split : (list : List Polynomial) (i : ℕ) (d : Polynomial) → i < length list → d ≡ get_or list i d → terms_of list ≡ terms_of (take i list) ++ d.terms ∷ terms_of (drop (i + 1) list)
split list i d h e =
    ap terms_of (sym (take-append-drop i list) ∙ ap (λ w. take i list ++ w) (drop_more list i d h ∙ (λ j. sym e j ∷ drop (i + 1) list)))
    ∙ map-append (λ f. f.terms) (take i list) (d ∷ drop (i + 1) list)

module _ (problem : ProblemData) (cap : ℕ) where
  abbrev Passed : List Term → Type 0
  Passed f = IsPassedOver problem cap f

  -- in a longer list
  pub first_in_front : (xs ys : List (List Term)) (d : List Term) → IsFirstGood problem cap xs d → IsFirstGood problem cap (xs ++ ys) d
  first_in_front xs ys d h = record {
    before = h.before;
    member = h.member;
    after = h.after ++ ys;
    place = ap (λ w. w ++ ys) h.place ∙ append_assoc h.before (h.member ∷ h.after) ys;
    passed = h.passed;
    multiple = h.multiple;
  }

  pub first_behind : (xs ys : List (List Term)) (d : List Term) → All Passed xs → IsFirstGood problem cap ys d → IsFirstGood problem cap (xs ++ ys) d
  first_behind xs ys d a h = record {
    before = xs ++ h.before;
    member = h.member;
    after = h.after;
    place = ap (λ w. xs ++ w) h.place ∙ sym (append_assoc xs h.before (h.member ∷ h.after));
    passed = All-append Passed xs h.before a h.passed;
    multiple = h.multiple;
  }

  pub found_more : (V W : List Term → Type 0) (l : LiftedData) → ((d : List Term) → V d → W d) → IsFound problem V l → IsFound problem W l
  found_more V W l k h = record { lifted = h.lifted; known = h.known; low = h.low; meets = k l.denominator.terms h.meets }

  pub found_at : (list : List Polynomial) (i : ℕ) (f : Polynomial) (l : LiftedData) → i < length list → f ≡ get_or list i f → All Passed (terms_of (take i list))
      → IsFound problem (IsGoodMultiple problem cap f.terms) l → IsFound problem (IsFirstGood problem cap (terms_of list)) l
  found_at list i f l h e passed found =
      found_more (IsGoodMultiple problem cap f.terms) (IsFirstGood problem cap (terms_of list)) l
      (λ d m. record {
        before = terms_of (take i list);
        member = f.terms;
        after = terms_of (drop (i + 1) list);
        place = split list i f h e;
        passed = passed;
        multiple = m;
      }) found

  pub one_more_passed : (list : List Polynomial) (i : ℕ) (f : Polynomial) → i < length list → f ≡ get_or list i f → All Passed (terms_of (take i list)) → Passed f.terms
      → All Passed (terms_of (take (i + 1) list))
  one_more_passed list i f h e passed more =
      subst (All Passed) (sym (next problem.prime 0 [] list i f h e)) (All-push Passed (terms_of (take i list)) f.terms passed more)

-- what is false is not true
pub not_true : (b : Bool) → b ≡ false → IsTrue b → ⊥
not_true true e t = absurd (cc)
not_true false e t = absurd (cc)

-- one polynomial that is tried
module _ (problem : Problem) (cap : ℕ) (f m : Polynomial) (pos : 0 < problem.prime) (up : IsUpTo problem.prime (length problem.letters) 119 f)
    (outside : InIdeal problem.prime (length problem.letters) (terms_of problem.generators) f.terms → ⊥) (mp : m.prime ≡ f.prime) (mm : IsMonicOf f.prime f.terms m.terms) where
  monic_of : IsMonicOf problem.prime f.terms m.terms
  monic_of = subst (λ (q : ℕ). IsMonicOf q f.terms m.terms) up.over.prime mm

  pub tried_low : IsUpTo problem.prime (length problem.letters) 119 m
  tried_low =
      let low = monic_low problem.prime (length problem.letters) 119 f.terms m.terms pos (record { poly = up.over.poly; low = up.low }) monic_of in
      record { over = record { prime = mp ∙ up.over.prime; poly = low.poly }; low = low.low }

  pub found_alone : (l : LiftedData) → IsLiftedOf (problem_data problem) l → IsLifted l → l.denominator ≡ m → IsGood (problem_data problem) cap m.terms
      → IsFound (problem_data problem) (IsGoodMultiple (problem_data problem) cap f.terms) l
  found_alone l lifted known e good = record {
    lifted = lifted;
    known = known;
    low = subst (λ (g : Polynomial). degree_of g.terms ≤ 119) (sym e) tried_low.low;
    meets = subst (λ (g : Polynomial). IsGoodMultiple (problem_data problem) cap f.terms g.terms) (sym e) (record { outside = outside; monic = monic_of; good = good });
  }

  pub passed_alone : (stop : PickStop) → (stop ≡ Memory → ⊥) → IsReason (problem_data problem) cap m.terms stop → IsPassedOver (problem_data problem) cap f.terms
  passed_alone stop n r = inr (outside, m.terms, monic_of, reason_is_bad (problem_data problem) cap m.terms stop n r)

-- ---- 1 is not in the ideal

pub one_over : (p n : ℕ) (f : Polynomial) → f ≡ record { prime = p; terms = one } → IsCanonical f.prime f.terms → IsOver p n f
one_over p n f e c = record {
  prime = ap (λ (g : Polynomial). g.prime) e;
  poly = subst (λ (g : Polynomial). IsPoly p n g.terms) (sym e) (record { canonical = subst (λ (g : Polynomial). IsCanonical g.prime g.terms) e c; affine = (affine_unit n, tt) });
}

pub proper_by : (problem : Problem) (cap : ℕ) (f : Polynomial) (b : Bool) → (HasDeepIdeal (problem_data problem) cap → ⊥) → f ≡ record { prime = problem.prime; terms = one }
    → IsTrue b ↔ InIdeal problem.prime (length problem.letters) (terms_of problem.generators) f.terms → b ≡ false → HasProperIdeal (problem_data problem) cap
proper_by problem cap f b h e m z = record {
  not_deep = h;
  not_unit = λ r. (let t : IsTrue b = m.1 (subst (λ (g : Polynomial). InIdeal problem.prime (length problem.letters) (terms_of problem.generators) g.terms) (sym e) r) in cc);
}

pub unit_by : (problem : Problem) (cap : ℕ) (f : Polynomial) (b : Bool) → (HasDeepIdeal (problem_data problem) cap → ⊥) → f ≡ record { prime = problem.prime; terms = one }
    → IsTrue b ↔ InIdeal problem.prime (length problem.letters) (terms_of problem.generators) f.terms → IsTrue b → IsCause (problem_data problem) cap Unit
unit_by problem cap f b h e m z = (h, subst (λ (g : Polynomial). InIdeal problem.prime (length problem.letters) (terms_of problem.generators) g.terms) e (m.0 z))
