-- In a book in which all work is done and no delta is above the limit, the sum has exactly the fractions that are local at the points.
use Rattle.std.proofs.Common.{◌≡◌, ◌≢◌, ◌↔◌, ◌⊎◌, inl, inr, ℕ, zero, suc, ◌+◌, ◌-◌, ◌<◌, ◌≤◌, List, [], ◌∷◌, map, length, get_or, take, reverse, All, Contains, arith, refl, sym, ap, subst, ◌∙◌}
use native.Mathlib.Decide.{ℕ_discrete}
use Rattle.std.proofs.lemmas.List.{take_all, get_or-map, length-map}
use Rattle.std.proofs.lemmas.List.Elements.{All-nil, All-cons, All-head, All-tail, All-contains}
use Rattle.ideal_laws.proofs.Unique.{contains_head, contains_tail, contains_cases}
use Rattle.polys.specs.declared.term.Term.{Term}
use Rattle.polys.specs.declared.curve.Curve.{Curve}
use Rattle.polys.specs.declared.curve.TheConstants.{LARGEST_DIMENSION}
use Rattle.polys.specs.Curve.{CurveData, data_of}
use Rattle.curve_model.specs.declared.point.Point.{Point}
use Rattle.curve_model.specs.Closure.{Suffices}
use Rattle.curve_model.specs.Delta.{HasDelta, IsDeltaAbove}
use Rattle.curve_model.specs.Fraction.{Fraction, IsFraction, EqualsOver}
use Rattle.curve_model.specs.Laws.{IsFinite, ArePoints}
use Rattle.curve_model.specs.Local.{LocalAt}
use Rattle.curve_model.specs.Point.{IsPoint, IsPointOf, basis_of}
use Rattle.curve_model.specs.PowerBound.{HasDeltaUpTo}
use Rattle.curve_laws.proofs.FitLaws.{fit_law}
use Rattle.curve_laws.proofs.PointSetLaws.{sets_law, fit_few_law}
use Rattle.curve_laws.proofs.SplitLaws.{parts_law}
use Rattle.chain_laws.proofs.ClosureBound.{suffices}
use Rattle.over_laws.specs.Over.{OverData, InOver, HaveSameFractions, IsLeastPower}
use Rattle.over_module.specs.Done.{DoneData, IsDone, Says}
use Rattle.over_module.specs.declared.done.Verdict.{Verdict}
use Rattle.over_module.specs.declared.done.Verdict.TheVariants.{Finished, TooLarge}
use Rattle.join_book.specs.Book.{BookData, BookIs, IsWorkOf, IsVacant, ArePointsOf, settled_points}
use Rattle.join_book.specs.Whole.{IsWhole}
use Rattle.join_book.proofs.Strata.{delta_within, HasModule, member_of, member_into, contains_reversed, contains_turned, are_settled_points}
use Rattle.local_closure.specs.Closing.{HoldsLocalAt}
use Rattle.curve_answer.specs.Deltas.{IsWithin}
use Rattle.curve_answer.proofs.Lists.{pairs_of_images}

-- ---- entries

-- work for the stratum
abbrev pub HasEntry : List DoneData → ℕ → Type 0
HasEntry entries i = (d : DoneData) × Contains entries d × (d.stratum ≡ i)

-- a list has work for the stratum, or none
found : (i : ℕ) (ds : List DoneData) → HasEntry ds i ⊎ IsVacant ds i
found i [] = inr (All-nil (λ d. d.stratum ≢ i))
found i (d ∷ ds) = here (ℕ_discrete d.stratum i) (found i ds)
  where
    later : HasEntry ds i ⊎ IsVacant ds i → (d.stratum ≢ i) → HasEntry (d ∷ ds) i ⊎ IsVacant (d ∷ ds) i
    later (inl h) other = inl (h.0, contains_tail d h.0 ds h.1, h.2)
    later (inr v) other = inr (All-cons (λ d. d.stratum ≢ i) d ds other v)

    here : Dec (d.stratum ≡ i) → HasEntry ds i ⊎ IsVacant ds i → HasEntry (d ∷ ds) i ⊎ IsVacant (d ∷ ds) i
    here (yes e) rest = inl (d, contains_head d ds, e)
    here (no other) rest = later rest other

-- ---- points

-- the points of a book are points of its curve, each once
pub are_points : (c : Curve) (Ps : List Point) → ArePointsOf c Ps → ArePoints (data_of c) (map basis_of Ps)
are_points c Ps h = record {
  points = of_points Ps h.each;
  distinct = pairs_of_images basis_of (λ P R. P ≢ R) Ps h.once;
}
  where
    of_points : (Qs : List Point) → All (IsPointOf (data_of c)) Qs → All (IsPoint (data_of c)) (map basis_of Qs)
    of_points [] a = All-nil (IsPoint (data_of c))
    of_points (Q ∷ Qs) a =
        All-cons (IsPoint (data_of c)) (basis_of Q) (map basis_of Qs) (All-head (IsPointOf (data_of c)) Q Qs a).is_point (of_points Qs (All-tail (IsPointOf (data_of c)) Q Qs a))

-- an image of a member is a member
member_image : {X Y : Type 0} (f : X → Y) (xs : List X) (x : X) → Contains xs x → Contains (map f xs) (f x)
member_image f [] x c = absurd (let l : c.0 < 0 = c.1 in omega arith)
member_image {X} {Y} f (y ∷ xs) x c = which (member_image f xs x) (contains_cases y x xs c)
  where
    which : (Contains xs x → Contains (map f xs) (f x)) → (y ≡ x) ⊎ Contains xs x → Contains (f y ∷ map f xs) (f x)
    which later (inl e) = subst (Contains (f y ∷ map f xs)) (ap f e) (contains_head (f y) (map f xs))
    which later (inr t) = contains_tail (f y) (f x) (map f xs) (later t)

-- they are few
pub few_points : (b : BookData) → BookIs b → length b.points ≤ LARGEST_DIMENSION
few_points b keeps =
    let n : length (map basis_of b.points) ≤ LARGEST_DIMENSION =
    fit_few_law b.curve keeps.prime keeps.fit (map basis_of b.points) (are_points b.curve b.points keeps.points) in
    let e : length (map basis_of b.points) ≡ length b.points = length-map b.points basis_of in
    omega arith

module _ (b : BookData) (keeps : BookIs b) (whole : IsWhole b.curve b.points b.limit b) where
  abbrev A : CurveData
  A = data_of b.curve

  abbrev S : List (List (List Term))
  S = map basis_of b.points

  pub finite : IsFinite A
  finite = fit_law b.curve keeps.prime keeps.fit

  pub points : ArePoints A S
  points = are_points b.curve b.points keeps.points

  -- there is work for each stratum
  pub entry_of : (i : ℕ) → 1 ≤ i → i ≤ length b.points → HasEntry b.entries i
  entry_of i some most = which (found i b.entries)
    where
      which : HasEntry b.entries i ⊎ IsVacant b.entries i → HasEntry b.entries i
      which (inl h) = h
      which (inr v) = absurd (whole.each i some most v)

  -- on the point at its place
  place_of : (d : DoneData) → Contains b.entries d → (e : Point) → d.point ≡ get_or b.points (d.stratum - 1) e
  place_of d c e =
      let w = All-contains (IsWorkOf b.curve b.points b.limit) b.entries d keeps.entries c in
      let l : d.stratum - 1 < length b.points = let m : d.stratum ≤ length b.points = w.stratum in let s : 1 ≤ d.stratum = w.some_stratum in omega arith in
      sym w.point ∙ any_default b.points (d.stratum - 1) d.point e l
    where
      any_default : (xs : List Point) (k : ℕ) (x y : Point) → k < length xs → get_or xs k x ≡ get_or xs k y
      any_default [] k x y m = absurd (omega arith)
      any_default (z ∷ zs) zero x y m = refl
      any_default (z ∷ zs) (suc k) x y m = any_default zs k x y (omega arith)

  point_member : (d : DoneData) → Contains b.entries d → Contains S (basis_of d.point)
  point_member d c =
      let w = All-contains (IsWorkOf b.curve b.points b.limit) b.entries d keeps.entries c in
      let l : d.stratum - 1 < length b.points = let m : d.stratum ≤ length b.points = w.stratum in let s : 1 ≤ d.stratum = w.some_stratum in omega arith in
      member_image basis_of b.points d.point (d.stratum - 1, l, w.point)

  -- the entries that are settled are all of them
  settled_all : take b.settled b.entries ≡ b.entries
  settled_all = take_all b.settled b.entries (let e : b.settled ≡ length b.entries = whole.settled in omega arith)

  module _ (within : IsWithin A b.limit S) where
    -- each entry has a module
    has_module : (d : DoneData) → Contains b.entries d → HasModule d
    has_module d c = go d.verdict refl
      where
        go : (v : Verdict) → d.verdict ≡ v → HasModule d
        go (Finished o) q = (o, q)
        go TooLarge q =
            let done = All-contains IsDone b.entries d keeps.done c in
            let w = All-contains (IsWorkOf b.curve b.points b.limit) b.entries d keeps.entries c in
            let says : IsDeltaAbove (data_of d.curve) (basis_of d.point) d.limit = subst (Says d.curve d.point d.limit) q done.says in
            let here : IsDeltaAbove A (basis_of d.point) b.limit = subst (λ L. IsDeltaAbove A (basis_of d.point) L) w.limit (subst (λ C. IsDeltaAbove (data_of C) (basis_of d.point) d.limit) w.curve says) in
            let h = All-contains (λ P. (r : ℕ) × HasDelta A P r × (r ≤ b.limit)) S (basis_of d.point) within (point_member d c) in
            absurd (delta_within A finite (basis_of d.point) h.0 b.limit h.1 h.2 here)

    abbrev T : List (List (List Term))
    T = map basis_of (settled_points b.settled b.entries)

    -- the points of the settled entries are the points of the book
    into_points : (P : List (List Term)) → Contains T P → Contains S P
    into_points P c =
        let m = member_of (reverse (take b.settled b.entries)) P c in
        let inside = subst (λ ds. Contains ds m.0) settled_all (contains_turned m.0 (take b.settled b.entries) m.1) in
        subst (Contains S) m.3 (point_member m.0 inside)

    from_points : (P : List (List Term)) → Contains S P → Contains T P
    from_points P c =
        let k = c.0 in
        let long : k < length b.points = let l : k < length S = c.1 in let e : length S ≡ length b.points = length-map b.points basis_of in omega arith in
        let h = entry_of (k + 1) (omega arith) (omega arith) in
        let d = h.0 in
        let at : d.stratum ≡ k + 1 = h.2 in
        let place : d.stratum - 1 ≡ k = omega arith in
        let point : basis_of (get_or b.points k d.point) ≡ P = sym (get_or-map basis_of b.points k d.point P long) ∙ c.2 in
        let same : basis_of d.point ≡ P = ap basis_of (place_of d h.1 d.point) ∙ (ap (λ n. basis_of (get_or b.points n d.point)) place ∙ point) in
        let taken = subst (λ ds. Contains ds d) (sym settled_all) h.1 in
        subst (Contains T) same (member_into (reverse (take b.settled b.entries)) d (contains_reversed d (take b.settled b.entries) taken) (has_module d h.1))

    -- the sum has exactly what is local at the points
    pub sum_is_local : (f : Fraction) → IsFraction A f → InOver b.sum f ↔ LocalAt A S f
    sum_is_local f hf =
        let sum = keeps.sum f hf in
        let sets = sets_law A finite S T points (are_settled_points b keeps b.settled) (λ P. (into_points P, from_points P)) f hf in
        let parts = parts_law A finite S points f hf in
        ((λ i. parts.1 (sets.1 (sum.0 i))), λ l. sum.1 (sets.0 (parts.0 l)))

    -- and so has each module with its fractions
    pub holds_local : (o : OverData) → o.curve ≡ b.curve → HaveSameFractions b.sum o → HoldsLocalAt o S
    holds_local o e same =
        let here : (f : Fraction) → IsFraction A f → InOver b.sum f ↔ InOver o f = subst (λ C. (f : Fraction) → IsFraction (data_of C) f → InOver b.sum f ↔ InOver o f) keeps.over same in
        subst (λ C. (f : Fraction) → IsFraction (data_of C) f → InOver o f ↔ LocalAt (data_of C) S f) (sym e)
        (λ f hf. ((λ i. (sum_is_local f hf).0 ((here f hf).1 i)), λ l. (here f hf).0 ((sum_is_local f hf).1 l)))

    -- whose least power is at most the limit
    pub low_power : (o : OverData) → o.curve ≡ b.curve → HaveSameFractions b.sum o → IsLeastPower o → o.power ≤ b.limit
    low_power o e same least =
        let enough : Suffices A S b.limit = suffices A finite b.limit S points (deltas S within) in
        let here = subst (λ C. (f : Fraction) → IsFraction (data_of C) f → InOver o f ↔ LocalAt (data_of C) S f) e (holds_local o e same) in
        let high : b.limit < o.power → ⊥ =
        λ l. least b.limit l (subst (λ C. (f : Fraction) → IsFraction (data_of C) f → InOver o f → EqualsOver (data_of C) b.limit f) (sym e) (λ f hf i. enough f hf ((here f hf).0 i)))
        in
        omega arith
      where
        deltas : (R : List (List (List Term))) → All (λ P. (r : ℕ) × HasDelta A P r × (r ≤ b.limit)) R → All (HasDeltaUpTo A b.limit) R
        deltas [] a = All-nil (HasDeltaUpTo A b.limit)
        deltas (P ∷ R) a =
            let h = All-head (λ P. (r : ℕ) × HasDelta A P r × (r ≤ b.limit)) P R a in
            All-cons (HasDeltaUpTo A b.limit) P R (h.0, h.2, h.1) (deltas R (All-tail (λ P. (r : ℕ) × HasDelta A P r × (r ≤ b.limit)) P R a))
