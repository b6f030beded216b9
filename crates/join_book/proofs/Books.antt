-- What joins and settles keep.
use Rattle.std.proofs.Common.{◌≡◌, ◌≢◌, ◌↔◌, ℕ, ◌+◌, ◌-◌, ◌<◌, ◌≤◌, List, [], ◌∷◌, ◌++◌, length, get_or, take, map, reverse, All, arith, refl, sym, ap, subst, ◌∙◌, length-append}
use Rattle.std.specs.List.{AllPairs}
use Rattle.std.proofs.Math.Nat.{lt_of_not-le}
use Rattle.std.proofs.lemmas.List.{take-append-le, take_more, map-append, reverse-append}
use Rattle.std.proofs.lemmas.List.Elements.{All-nil, All-push, All-take}
use Rattle.std.proofs.lemmas.List.Quantifiers.{all_pairs_push}
use Rattle.prime_field.specs.Primes.{IsPrime}
use Rattle.comm_ring.specs.Pigeonhole.{HasTwice}
use Rattle.comm_ring.proofs.Pigeons.{pigeonhole}
use Rattle.polys.specs.declared.curve.Curve.{Curve}
use Rattle.polys.specs.declared.term.Term.{Term}
use Rattle.polys.specs.Curve.{Fit, data_of}
use Rattle.curve_model.specs.declared.point.Point.{Point}
use Rattle.curve_model.specs.Fraction.{Fraction, IsFraction, InA}
use Rattle.curve_model.specs.Point.{IsPoint, IsPointOf, basis_of}
use Rattle.curve_model.specs.Local.{Local}
use Rattle.curve_model.specs.Laws.{IsFinite, ArePolys, ArePoints, SumOfParts}
use Rattle.curve_model.specs.Steps.{IsSumOfTwo}
use Rattle.curve_laws.proofs.FitLaws.{fit_law}
use Rattle.curve_laws.proofs.SplitLaws.{none_law, parts_law}
use Rattle.chain_laws.proofs.StepLaws.{sums_law}
use Rattle.over_laws.specs.Over.{OverData, InOver}
use Rattle.over_module.specs.Done.{DoneData, IsDone, Says, finished_of, finished_points}
use Rattle.over_module.specs.declared.done.Verdict.{Verdict}
use Rattle.over_module.specs.declared.done.Verdict.TheVariants.{Finished, TooLarge}
use Rattle.join_book.specs.Answers.{Takes, IsTaken, Adds, AddsVerdict, with_entry}
use Rattle.join_book.specs.Book.{BookData, BookIs, ArePointsOf, IsWorkOf, IsVacant, settled_points}
use Rattle.join_book.proofs.Parts.{all_reversed, finished_are_points}

-- items with different numbers from 1 to n are at most n
few : {X : Type 0} (f : X → ℕ) (d : X) (n : ℕ) (xs : List X) → AllPairs (λ a b. f a ≢ f b) xs → All (λ a. (1 ≤ f a) × (f a ≤ n)) xs → n < length xs → ⊥
few {X} f d n xs apart within long =
    let h : ℕ → ℕ = λ k. f (get_or xs k d) - 1 in
    let below : (j : ℕ) → j ≤ n → h j < n = λ j le. let w = within j d (omega (arith, long)) in omega (arith, w.0, w.1) in
    let twice : HasTwice h n = pigeonhole n h below in
    let i = twice.0 in
    let j = twice.1 in
    let wi = within i d (omega (arith, twice.2, twice.3, long)) in
    let wj = within j d (omega (arith, twice.3, long)) in
    apart i j d twice.2 (omega (arith, twice.3, long)) (let e : f (get_or xs i d) ≡ f (get_or xs j d) = omega (arith, twice.4, wi.0, wj.0) in e)

-- what the test of a join shows
pub took : (b : BookData) (won : ℕ × ℕ) (d : DoneData) (c : Curve) (Ps : List Point) (entries : List DoneData)
    → c ≡ b.curve → Ps ≡ b.points → entries ≡ b.entries → IsTaken c Ps b.limit entries won.0 d → Takes b won d
took b won d c Ps entries curve points same t = record {
  work = record {
    curve = t.3 ∙ curve;
    limit = t.2;
    some_stratum = omega (arith, t.1, t.0.0);
    stratum = omega (arith, t.1, t.0.1, ap length points);
    point = subst (λ (l : List Point). get_or l (d.stratum - 1) d.point ≡ d.point) points (subst (λ (n : ℕ). get_or Ps (n - 1) d.point ≡ d.point) (sym t.1) t.0.2);
  };
  stratum = t.1;
  vacant = subst (λ (l : List DoneData). IsVacant l won.0) same t.4;
}

-- and what it asks
pub asked : (b : BookData) (won : ℕ × ℕ) (d : DoneData) (c : Curve) (Ps : List Point) (entries : List DoneData)
    → c ≡ b.curve → Ps ≡ b.points → entries ≡ b.entries → Takes b won d → IsTaken c Ps b.limit entries won.0 d
asked b won d c Ps entries curve points same t = (
  (
    (let a : 1 ≤ d.stratum = t.work.some_stratum in let e : d.stratum ≡ won.0 = t.stratum in let z : 1 ≤ won.0 = omega arith in z),
    (let a : d.stratum ≤ length b.points = t.work.stratum in let e : d.stratum ≡ won.0 = t.stratum in let l : length Ps ≡ length b.points = ap length points in let z : won.0 ≤ length Ps = omega arith in z),
    subst (λ (n : ℕ). get_or Ps (n - 1) d.point ≡ d.point) t.stratum (subst (λ (l : List Point). get_or l (d.stratum - 1) d.point ≡ d.point) (sym points) t.work.point),
  ),
  t.stratum,
  t.work.limit,
  t.work.curve ∙ sym curve,
  subst (λ (l : List DoneData). IsVacant l won.0) (sym same) t.vacant,
)

module _ (b : BookData) (won : ℕ × ℕ) (d : DoneData) (keeps : BookIs b) (is_done : IsDone d) (takes : Takes b won d) where
  apart : AllPairs (λ x y. x.stratum ≢ y.stratum) (b.entries ++ d ∷ [])
  apart = all_pairs_push (λ (x : DoneData) (y : DoneData). x.stratum ≢ y.stratum) b.entries d keeps.once (λ k e below same. takes.vacant k e below (same ∙ takes.stratum))

  worked : All (IsWorkOf b.curve b.points b.limit) (b.entries ++ d ∷ [])
  worked = All-push (IsWorkOf b.curve b.points b.limit) b.entries d keeps.entries takes.work

  crowded : length b.points < length b.entries + 1 → ⊥
  crowded long = few (λ (x : DoneData). x.stratum) d (length b.points) (b.entries ++ d ∷ []) apart
      (λ k e below. let w = worked k e below in (w.some_stratum, w.stratum)) (omega (arith, long, length-append b.entries (d ∷ [])))

  -- there is room for one more entry
  pub room : length b.entries < length b.points
  room = lt_of_not-le (λ le. crowded (omega (arith, le)))

  pub joins : BookIs (with_entry b won d)
  joins = record {
    prime = keeps.prime;
    fit = keeps.fit;
    points = keeps.points;
    some_limit = keeps.some_limit;
    low_limit = keeps.low_limit;
    entries = worked;
    done = All-push IsDone b.entries d keeps.done is_done;
    once = apart;
    strata = map-append (λ (p : ℕ × ℕ). p.0) b.joined (won ∷ []) ∙ (ap (λ (l : List ℕ). l ++ won.0 ∷ []) keeps.strata ∙ (ap (λ (n : ℕ). map (λ (x : DoneData). x.stratum) b.entries ++ n ∷ []) (sym takes.stratum) ∙ sym (map-append (λ (x : DoneData). x.stratum) b.entries (d ∷ []))));
    settled = omega (arith, keeps.settled, length-append b.entries (d ∷ []));
    over = keeps.over;
    sum = subst (λ (l : List DoneData). (f : Fraction) → IsFraction (data_of b.curve) f → InOver b.sum f ↔ SumOfParts (data_of b.curve) (map basis_of (finished_points (reverse l))) f)
        (sym (take-append-le b.settled b.entries (d ∷ []) keeps.settled)) keeps.sum;
  }

-- the book with one more entry settled
abbrev pub with_sum : BookData → OverData → BookData
with_sum b sum = record b { settled = b.settled + 1; sum = sum }

-- the points of the first n entries are points
pub settled_are_points : (b : BookData) → BookIs b → (n : ℕ) → All (IsPoint (data_of b.curve)) (map basis_of (settled_points n b.entries))
settled_are_points b keeps n =
    let each : All (λ d. IsPoint (data_of b.curve) (basis_of d.point)) b.entries =
    λ k d l. subst (λ C. IsPoint (data_of C) (basis_of (get_or b.entries k d).point)) (keeps.entries k d l).curve (keeps.done k d l).point.is_point in
    finished_are_points (data_of b.curve) (reverse (take n b.entries)) (all_reversed (λ d. IsPoint (data_of b.curve) (basis_of d.point)) (take n b.entries) (All-take (λ d. IsPoint (data_of b.curve) (basis_of d.point)) n b.entries each))

module _ (b : BookData) (d : DoneData) (keeps : BookIs b) (left : b.settled < length b.entries) (next : get_or b.entries b.settled d ≡ d) where
  more : settled_points (b.settled + 1) b.entries ≡ finished_of d.point d.verdict ++ settled_points b.settled b.entries
  more = ap (λ l. finished_points (reverse l)) (take_more b.entries b.settled d left ∙ ap (λ (x : DoneData). take b.settled b.entries ++ x ∷ []) next)
      ∙ ap finished_points (reverse-append (take b.settled b.entries) (d ∷ []))

  curve : d.curve ≡ b.curve
  curve = subst (λ (x : DoneData). x.curve ≡ b.curve) next (keeps.entries b.settled d left).curve

  point : IsPoint (data_of b.curve) (basis_of d.point)
  point = subst (λ C. IsPoint (data_of C) (basis_of d.point)) curve (subst (λ (x : DoneData). IsDone x) next (keeps.done b.settled d left)).point.is_point

  c : IsFinite (data_of b.curve)
  c = fit_law b.curve keeps.prime keeps.fit

  of_points : (S : List (List (List Term))) → All (IsPoint (data_of b.curve)) S → All (ArePolys (data_of b.curve)) S
  of_points S h k e l = (h k e l).reduced.polys

  grown : (v : Verdict) (new : OverData) → AddsVerdict b.curve d.point b.sum v new → (f : Fraction) → IsFraction (data_of b.curve) f
      → InOver new f ↔ SumOfParts (data_of b.curve) (map basis_of (finished_of d.point v ++ settled_points b.settled b.entries)) f
  grown (Finished over) new adds f hf =
      let S = map basis_of (settled_points b.settled b.entries) in
      let law = sums_law (data_of b.curve) c S (of_points S (settled_are_points b keeps b.settled)) (basis_of d.point) point.reduced.polys f hf in (
        (λ i. let s = (adds f hf).0 i in law.1 (record {
          left = s.left;
          right = s.right;
          left_fraction = s.left_fraction;
          right_fraction = s.right_fraction;
          in_left = (keeps.sum s.left s.left_fraction).0 s.in_left;
          in_right = s.in_right;
          equal = s.equal;
        })),
        λ i. let s = law.0 i in (adds f hf).1 (record {
          left = s.left;
          right = s.right;
          left_fraction = s.left_fraction;
          right_fraction = s.right_fraction;
          in_left = (keeps.sum s.left s.left_fraction).1 s.in_left;
          in_right = s.in_right;
          equal = s.equal;
        }),
      )
  grown TooLarge new same f hf = subst (λ o. InOver o f ↔ SumOfParts (data_of b.curve) (map basis_of (settled_points b.settled b.entries)) f) (sym same) (keeps.sum f hf)

  pub settles : (sum : OverData) → sum.curve ≡ b.sum.curve → Adds b.sum d sum → BookIs (with_sum b sum)
  settles sum same adds = record {
    prime = keeps.prime;
    fit = keeps.fit;
    points = keeps.points;
    some_limit = keeps.some_limit;
    low_limit = keeps.low_limit;
    entries = keeps.entries;
    done = keeps.done;
    once = keeps.once;
    strata = keeps.strata;
    settled = let l : b.settled < length b.entries = left in omega arith;
    over = same ∙ keeps.over;
    sum = λ f hf.
        subst (λ (l : List Point). InOver sum f ↔ SumOfParts (data_of b.curve) (map basis_of l) f) (sym more)
        (grown d.verdict sum (subst (λ (C : Curve). AddsVerdict C d.point b.sum d.verdict sum) curve adds) f hf);
  }

-- a sum with a finished module adds what is local at its point
pub adds_finished : (sum : OverData) (d : DoneData) (over new : OverData) → d.verdict ≡ Finished over → IsDone d → d.curve ≡ sum.curve
    → ((f : Fraction) → IsFraction (data_of sum.curve) f → InOver new f ↔ IsSumOfTwo (data_of sum.curve) (InOver sum) (InOver over) f) → Adds sum d new
adds_finished sum d over new e done curve is =
    let says = subst (Says d.curve d.point d.limit) e done.says in
    let at_d : (f : Fraction) → IsFraction (data_of d.curve) f → InOver new f ↔ IsSumOfTwo (data_of d.curve) (InOver sum) (InOver over) f =
    subst (λ C. (f : Fraction) → IsFraction (data_of C) f → InOver new f ↔ IsSumOfTwo (data_of C) (InOver sum) (InOver over) f) (sym curve) is in
    subst (λ (v : Verdict). AddsVerdict d.curve d.point sum v new) (sym e) (λ f hf. (
      (λ i. let s = (at_d f hf).0 i in record {
        left = s.left;
        right = s.right;
        left_fraction = s.left_fraction;
        right_fraction = s.right_fraction;
        in_left = s.in_left;
        in_right = (says.exact s.right s.right_fraction).0 s.in_right;
        equal = s.equal;
      }),
      λ s. (at_d f hf).1 (record {
        left = s.left;
        right = s.right;
        left_fraction = s.left_fraction;
        right_fraction = s.right_fraction;
        in_left = s.in_left;
        in_right = (says.exact s.right s.right_fraction).1 s.in_right;
        equal = s.equal;
      }),
    ))

-- a book without entries, whose sum is A
pub opened : (c : Curve) (Ps : List Point) (L : ℕ) (sum : OverData) → IsPrime c.prime → Fit c → ArePointsOf c Ps → 1 ≤ L → L ≤ 64 → sum.curve ≡ c
    → ((f : Fraction) → IsFraction (data_of c) f → InOver sum f ↔ InA (data_of c) f)
    → BookIs (record { curve = c; points = Ps; limit = L; entries = []; joined = []; settled = 0; sum = sum })
opened c Ps L sum prime fit points some low over plain =
    let fin : IsFinite (data_of c) = fit_law c prime fit in
    let none : ArePoints (data_of c) [] = record { points = All-nil (IsPoint (data_of c)); distinct = λ i j d l m. absurd (let e : j < 0 = m in omega arith) } in
    record {
      prime = prime;
      fit = fit;
      points = points;
      some_limit = some;
      low_limit = low;
      entries = All-nil (IsWorkOf c Ps L);
      done = All-nil IsDone;
      once = λ i j d l m. absurd (let e : j < 0 = m in omega arith);
      strata = refl;
      settled = omega arith;
      over = over;
      sum = λ f hf.
          let at_none = none_law (data_of c) fin f hf in
          let parts = parts_law (data_of c) fin [] none f hf in
          ((λ i. parts.0 (at_none.1 ((plain f hf).0 i))), λ i. (plain f hf).1 (at_none.0 (parts.1 i)));
    }
