-- The sum of a book depends on the strata that are settled.
use Rattle.std.proofs.Common.{◌≡◌, ◌≢◌, ◌↔◌, ◌⊎◌, inl, inr, ℕ, suc, ◌+◌, ◌-◌, ◌<◌, ◌≤◌, List, [], ◌∷◌, ◌++◌, map, length, get_or, take, reverse, All, Contains, arith, refl, sym, ap, subst, ◌∙◌}
use Rattle.std.specs.List.{AllPairs}
use Rattle.std.proofs.lemmas.List.{reverse-reverse}
use Rattle.std.proofs.lemmas.List.Elements.{All-take, Contains-append_left, Contains-append_right, All-contains}
use Rattle.ideal_laws.proofs.Unique.{contains_head, contains_tail, contains_cases}
use Rattle.polys.specs.declared.term.Term.{Term}
use Rattle.polys.specs.declared.curve.Curve.{Curve}
use Rattle.polys.specs.Curve.{CurveData, data_of}
use Rattle.curve_model.specs.declared.point.Point.{Point}
use Rattle.curve_model.specs.Delta.{HasDelta, HasIndependent, IsDeltaAbove}
use Rattle.curve_model.specs.Fraction.{Fraction, IsFraction}
use Rattle.curve_model.specs.Laws.{IsFinite, ArePoints, SumOfParts}
use Rattle.curve_model.specs.Point.{basis_of}
use Rattle.curve_laws.proofs.FitLaws.{fit_law}
use Rattle.curve_laws.proofs.PointSetLaws.{sets_law}
use Rattle.chain_laws.proofs.FewerLaws.{fewer_law}
use Rattle.over_laws.specs.Over.{OverData, InOver}
use Rattle.over_module.specs.Done.{DoneData, IsDone, Says, finished_of, finished_points}
use Rattle.over_module.specs.declared.done.Verdict.{Verdict}
use Rattle.over_module.specs.declared.done.Verdict.TheVariants.{Finished, TooLarge}
use Rattle.join_book.specs.Book.{BookData, BookIs, IsWorkOf, settled_points}
use Rattle.join_book.specs.Sums.{HasSettled, SumsDependOnStrata}
use Rattle.join_book.proofs.Books.{settled_are_points}
use Rattle.join_book.proofs.Parts.{all_reversed, pairs_reversed, pairs_taken, reversed, finished_apart, same_place}

-- a delta that is at most the limit is not above it
pub delta_within : (A : CurveData) → IsFinite A → (P : List (List Term)) (r L : ℕ) → HasDelta A P r → r ≤ L → IsDeltaAbove A P L → ⊥
delta_within A c P r L h le above =
    let n : suc L ≡ (L - r) + suc r = omega arith in
    h.no_more (fewer_law A c P (suc r) (L - r) (subst (HasIndependent A P) n above))

-- a work with a module
abbrev pub HasModule : DoneData → Type 0
HasModule d = (o : OverData) × (d.verdict ≡ Finished o)

-- the points with finished modules are those of such works
pub member_of : (ds : List DoneData) (P : List (List Term)) → Contains (map basis_of (finished_points ds)) P → (d : DoneData) × Contains ds d × HasModule d × (basis_of d.point ≡ P)
member_of [] P c = absurd (let l : c.0 < 0 = c.1 in omega arith)
member_of (d ∷ ds) P c = go (member_of ds P) d.verdict refl c
  where
    go : (Contains (map basis_of (finished_points ds)) P → (e : DoneData) × Contains ds e × HasModule e × (basis_of e.point ≡ P)) → (v : Verdict) → d.verdict ≡ v
        → Contains (map basis_of (finished_of d.point v ++ finished_points ds)) P → (e : DoneData) × Contains (d ∷ ds) e × HasModule e × (basis_of e.point ≡ P)
    go later (Finished o) q w = which (contains_cases (basis_of d.point) P (map basis_of (finished_points ds)) w)
      where
        which : (basis_of d.point ≡ P) ⊎ Contains (map basis_of (finished_points ds)) P → (e : DoneData) × Contains (d ∷ ds) e × HasModule e × (basis_of e.point ≡ P)
        which (inl e) = (d, contains_head d ds, (o, q), e)
        which (inr t) = let m = later t in (m.0, contains_tail d m.0 ds m.1, m.2, m.3)
    go later TooLarge q w = let m = later w in (m.0, contains_tail d m.0 ds m.1, m.2, m.3)

pub member_into : (ds : List DoneData) (d : DoneData) → Contains ds d → HasModule d → Contains (map basis_of (finished_points ds)) (basis_of d.point)
member_into [] d c m = absurd (let l : c.0 < 0 = c.1 in omega arith)
member_into (e ∷ ds) d c m = which (λ t. member_into ds d t m) (contains_cases e d ds c)
  where
    past : (v : Verdict) → Contains (map basis_of (finished_points ds)) (basis_of d.point) → Contains (map basis_of (finished_of e.point v ++ finished_points ds)) (basis_of d.point)
    past (Finished o) w = contains_tail (basis_of e.point) (basis_of d.point) (map basis_of (finished_points ds)) w
    past TooLarge w = w

    here : (v : Verdict) → v ≡ Finished m.0 → basis_of e.point ≡ basis_of d.point → Contains (map basis_of (finished_of e.point v ++ finished_points ds)) (basis_of d.point)
    here v q same = subst (λ v. Contains (map basis_of (finished_of e.point v ++ finished_points ds)) (basis_of d.point)) (sym q)
        (subst (Contains (basis_of e.point ∷ map basis_of (finished_points ds))) same (contains_head (basis_of e.point) (map basis_of (finished_points ds))))

    which : (Contains ds d → Contains (map basis_of (finished_points ds)) (basis_of d.point)) → (e ≡ d) ⊎ Contains ds d → Contains (map basis_of (finished_of e.point e.verdict ++ finished_points ds)) (basis_of d.point)
    which later (inl q) = here e.verdict (ap (λ x. x.verdict) q ∙ m.1) (ap (λ x. basis_of x.point) q)
    which later (inr t) = past e.verdict (later t)

pub contains_reversed : {X : Type 0} (x : X) (xs : List X) → Contains xs x → Contains (reverse xs) x
contains_reversed x [] c = c
contains_reversed x (y ∷ xs) c = subst (λ l. Contains l x) (sym (reversed y xs)) (which (contains_reversed x xs) (contains_cases y x xs c))
  where
    which : (Contains xs x → Contains (reverse xs) x) → (y ≡ x) ⊎ Contains xs x → Contains (reverse xs ++ y ∷ []) x
    which later (inl e) = Contains-append_right (reverse xs) (y ∷ []) x (subst (Contains (y ∷ [])) e (contains_head y []))
    which later (inr t) = Contains-append_left (reverse xs) (y ∷ []) x (later t)

pub contains_turned : {X : Type 0} (x : X) (xs : List X) → Contains (reverse xs) x → Contains xs x
contains_turned x xs c = subst (λ l. Contains l x) (reverse-reverse xs) (contains_reversed x (reverse xs) c)

-- the points of the settled entries, each once
pub are_settled_points : (b : BookData) → BookIs b → (n : ℕ) → ArePoints (data_of b.curve) (map basis_of (settled_points n b.entries))
are_settled_points b keeps n = record {
  points = settled_are_points b keeps n;
  distinct = finished_apart b.curve b.points b.limit keeps.points (reverse (take n b.entries))
      (all_reversed (IsWorkOf b.curve b.points b.limit) (take n b.entries) (All-take (IsWorkOf b.curve b.points b.limit) n b.entries keeps.entries))
      (pairs_reversed (λ x y. x.stratum ≢ y.stratum) (λ x y ne e. ne (sym e)) (take n b.entries) (pairs_taken (λ x y. x.stratum ≢ y.stratum) n b.entries keeps.once));
}

-- of two works for one stratum of a curve, both have a module or none has
one_verdict : (c : Curve) → IsFinite (data_of c) → (Ps : List Point) (L : ℕ) (d e : DoneData) → IsWorkOf c Ps L d → IsWorkOf c Ps L e → IsDone d → IsDone e → d.stratum ≡ e.stratum → HasModule d → HasModule e
one_verdict c fin Ps L d e wd we hd he at m = go e.verdict refl
  where
    go : (v : Verdict) → e.verdict ≡ v → HasModule e
    go (Finished o) q = (o, q)
    go TooLarge q =
        let says_d = subst (Says d.curve d.point d.limit) m.1 hd.says in
        let says_e : IsDeltaAbove (data_of e.curve) (basis_of e.point) e.limit = subst (Says e.curve e.point e.limit) q he.says in
        let delta = subst (λ C. HasDelta (data_of C) (basis_of d.point) (length m.0.rows.basis)) wd.curve says_d.delta in
        let above = subst (λ C. IsDeltaAbove (data_of C) (basis_of e.point) e.limit) we.curve says_e in
        let here = subst (λ p. IsDeltaAbove (data_of c) (basis_of p) e.limit) (sym (same_place Ps d e wd.some_stratum wd.stratum at wd.point we.point)) above in
        let le : length m.0.rows.basis ≤ d.limit = says_d.few in
        let l : d.limit ≡ L = wd.limit in
        let l' : e.limit ≡ L = we.limit in
        absurd (delta_within (data_of c) fin (basis_of d.point) (length m.0.rows.basis) e.limit delta (omega arith) here)

module _ (b c : BookData) (hb : BookIs b) (hc : BookIs c) (curve : c.curve ≡ b.curve) (points : c.points ≡ b.points) (limit : c.limit ≡ b.limit) where
  -- a point that is settled in the one is settled in the other
  moved : ((i : ℕ) → HasSettled b i → HasSettled c i) → (P : List (List Term)) → Contains (map basis_of (settled_points b.settled b.entries)) P → Contains (map basis_of (settled_points c.settled c.entries)) P
  moved strata P w =
      let m = member_of (reverse (take b.settled b.entries)) P w in
      let d = m.0 in
      let in_b = contains_turned m.0 (take b.settled b.entries) m.1 in
      let s = strata m.0.stratum (m.0, in_b, refl) in
      let e = s.0 in
      let wd = All-contains (IsWorkOf b.curve b.points b.limit) (take b.settled b.entries) d (All-take (IsWorkOf b.curve b.points b.limit) b.settled b.entries hb.entries) in_b in
      let we' = All-contains (IsWorkOf c.curve c.points c.limit) (take c.settled c.entries) e (All-take (IsWorkOf c.curve c.points c.limit) c.settled c.entries hc.entries) s.1 in
      let we = subst (λ C. IsWorkOf C b.points b.limit e) curve (subst (λ Ps. IsWorkOf c.curve Ps b.limit e) points (subst (λ L. IsWorkOf c.curve c.points L e) limit we')) in
      let hd = All-contains IsDone (take b.settled b.entries) d (All-take IsDone b.settled b.entries hb.done) in_b in
      let he = All-contains IsDone (take c.settled c.entries) e (All-take IsDone c.settled c.entries hc.done) s.1 in
      let fin : IsFinite (data_of b.curve) = fit_law b.curve hb.prime hb.fit in
      let module_e = one_verdict b.curve fin b.points b.limit d e wd we hd he (sym s.2) m.2 in
      let at : d.point ≡ e.point = same_place b.points d e wd.some_stratum wd.stratum (sym s.2) wd.point we.point in
      subst (Contains (map basis_of (settled_points c.settled c.entries))) (ap basis_of (sym at) ∙ m.3)
      (member_into (reverse (take c.settled c.entries)) e (contains_reversed e (take c.settled c.entries) s.1) module_e)

pub sums_law : SumsDependOnStrata
sums_law b c hb hc curve points limit strata f hf =
    let fin : IsFinite (data_of b.curve) = fit_law b.curve hb.prime hb.fit in
    let S = map basis_of (settled_points b.settled b.entries) in
    let T = map basis_of (settled_points c.settled c.entries) in
    let at = subst (λ C. ArePoints (data_of C) (map basis_of (settled_points c.settled c.entries))) curve (are_settled_points c hc c.settled) in
    let sums = subst (λ C. (f : Fraction) → IsFraction (data_of C) f → InOver c.sum f ↔ SumOfParts (data_of C) (map basis_of (settled_points c.settled c.entries)) f) curve hc.sum in
    let same = sets_law (data_of b.curve) fin S T (are_settled_points b hb b.settled) at
    (λ P. (moved c b hc hb (sym curve) (sym points) (sym limit) (λ i. (strata i).1) P, moved b c hb hc curve points limit (λ i. (strata i).0) P)) f hf in (
      (λ i. (sums f hf).1 (same.0 ((hb.sum f hf).0 i))),
      λ i. (hb.sum f hf).1 (same.1 ((sums f hf).0 i)),
    )
