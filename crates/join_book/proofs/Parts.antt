-- Points with finished modules.
use Rattle.std.proofs.Common.{◌≡◌, ◌≢◌, ◌⊎◌, inl, inr, ℕ, zero, suc, ◌+◌, ◌-◌, ◌<◌, ◌≤◌, List, [], ◌∷◌, ◌++◌, map, length, get_or, take, reverse, All, Contains, arith, refl, sym, ap, subst, ◌∙◌}
use native.Mathlib.Decide.{ℕ_discrete}
use Rattle.std.specs.List.{AllPairs}
use Rattle.std.proofs.lemmas.List.{reverse-append, take_more}
use Rattle.std.proofs.lemmas.List.Elements.{All-nil, All-cons, All-head, All-tail, All-push, All-take}
use Rattle.std.proofs.lemmas.List.Quantifiers.{all_pairs_push}
use Rattle.ideal_laws.proofs.Unique.{contains_head, contains_tail, contains_cases}
use Rattle.polys.specs.declared.term.Term.{Term}
use Rattle.polys.specs.declared.curve.Curve.{Curve}
use Rattle.polys.specs.Curve.{CurveData, data_of}
use Rattle.curve_model.specs.declared.point.Point.{Point}
use Rattle.curve_model.specs.Point.{IsPoint, IsPointOf, basis_of}
use Rattle.curve_model.specs.Laws.{ArePoints}
use Rattle.over_module.specs.Done.{DoneData, finished_of, finished_points}
use Rattle.over_module.specs.declared.done.Verdict.{Verdict}
use Rattle.over_module.specs.declared.done.Verdict.TheVariants.{Finished, TooLarge}
use Rattle.join_book.specs.Book.{ArePointsOf, IsWorkOf}

-- ---- lists that are turned round

pub reversed : {X : Type 0} (x : X) (xs : List X) → reverse (x ∷ xs) ≡ reverse xs ++ x ∷ []
reversed x xs = reverse-append (x ∷ []) xs

pub all_reversed : {X : Type 0} (P : X → Type 0) (xs : List X) → All P xs → All P (reverse xs)
all_reversed P [] h = All-nil P
all_reversed P (x ∷ xs) h = subst (All P) (sym (reversed x xs)) (All-push P (reverse xs) x (all_reversed P xs (All-tail P x xs h)) (All-head P x xs h))

pairs_head : {X : Type 0} (R : X → X → Type 0) (x : X) (xs : List X) → AllPairs R (x ∷ xs) → All (R x) xs
pairs_head R x xs h k d l = h 0 (suc k) d (omega arith) (omega arith)

pairs_tail : {X : Type 0} (R : X → X → Type 0) (x : X) (xs : List X) → AllPairs R (x ∷ xs) → AllPairs R xs
pairs_tail R x xs h i j d l m = h (suc i) (suc j) d (omega arith) (omega arith)

pairs_cons : {X : Type 0} (R : X → X → Type 0) (x : X) (xs : List X) → All (R x) xs → AllPairs R xs → AllPairs R (x ∷ xs)
pairs_cons R x xs h p zero zero d l m = absurd (omega arith)
pairs_cons R x xs h p zero (suc j) d l m = h j d (omega arith)
pairs_cons R x xs h p (suc i) zero d l m = absurd (omega arith)
pairs_cons R x xs h p (suc i) (suc j) d l m = p i j d (omega arith) (omega arith)

pub pairs_reversed : {X : Type 0} (R : X → X → Type 0) → ((x y : X) → R x y → R y x) → (xs : List X) → AllPairs R xs → AllPairs R (reverse xs)
pairs_reversed R turn [] h = λ i j d l m. absurd (let e : j < 0 = m in omega arith)
pairs_reversed R turn (x ∷ xs) h =
    let a = all_reversed (λ y. R y x) xs (λ k d l. turn x (get_or xs k d) (pairs_head R x xs h k d l)) in
    subst (AllPairs R) (sym (reversed x xs)) (all_pairs_push R (reverse xs) x (pairs_reversed R turn xs (pairs_tail R x xs h)) a)

pub pairs_taken : {X : Type 0} (R : X → X → Type 0) (n : ℕ) (xs : List X) → AllPairs R xs → AllPairs R (take n xs)
pairs_taken R zero xs h = λ i j d l m. absurd (let e : j < 0 = m in omega arith)
pairs_taken R (suc n) [] h = λ i j d l m. absurd (let e : j < 0 = m in omega arith)
pairs_taken R (suc n) (x ∷ xs) h = pairs_cons R x (take n xs) (All-take (R x) n xs (pairs_head R x xs h)) (pairs_taken R n xs (pairs_tail R x xs h))

-- what stands at one place
any_default : {X : Type 0} (xs : List X) (k : ℕ) (x y : X) → k < length xs → get_or xs k x ≡ get_or xs k y
any_default [] k x y m = absurd (omega arith)
any_default (z ∷ zs) zero x y m = refl
any_default (z ∷ zs) (suc k) x y m = any_default zs k x y (omega arith)

-- work for one stratum is on one point
pub same_place : (Ps : List Point) (d e : DoneData) → 1 ≤ d.stratum → d.stratum ≤ length Ps → d.stratum ≡ e.stratum
    → get_or Ps (d.stratum - 1) d.point ≡ d.point → get_or Ps (e.stratum - 1) e.point ≡ e.point → d.point ≡ e.point
same_place Ps d e some most at wd we =
    sym wd ∙ any_default Ps (d.stratum - 1) d.point e.point (omega arith) ∙ ap (λ n. get_or Ps (n - 1) e.point) at ∙ we

-- ---- the points

module _ (A : CurveData) where
  of_finished : (p : Point) (v : Verdict) (T : List Point) → IsPoint A (basis_of p) → All (IsPoint A) (map basis_of T) → All (IsPoint A) (map basis_of (finished_of p v ++ T))
  of_finished p (Finished o) T h t = All-cons (IsPoint A) (basis_of p) (map basis_of T) h t
  of_finished p TooLarge T h t = t

  -- points of the curve
  pub finished_are_points : (ds : List DoneData) → All (λ d. IsPoint A (basis_of d.point)) ds → All (IsPoint A) (map basis_of (finished_points ds))
  finished_are_points [] h = All-nil (IsPoint A)
  finished_are_points (d ∷ ds) h =
      of_finished d.point d.verdict (finished_points ds) (All-head (λ x. IsPoint A (basis_of x.point)) d ds h) (finished_are_points ds (All-tail (λ x. IsPoint A (basis_of x.point)) d ds h))

module _ (c : Curve) (Ps : List Point) (L : ℕ) (points : ArePointsOf c Ps) where
  -- work for two strata is on two points
  pub strata_apart : (d e : DoneData) → IsWorkOf c Ps L d → IsWorkOf c Ps L e → d.stratum ≢ e.stratum → basis_of d.point ≢ basis_of e.point
  strata_apart d e wd we ne same = go (ℕ_discrete d.stratum e.stratum)
    where
      at_d : get_or Ps (d.stratum - 1) e.point ≡ d.point
      at_d =
          let a : 1 ≤ d.stratum = wd.some_stratum in
          let b : d.stratum ≤ length Ps = wd.stratum in
          any_default Ps (d.stratum - 1) e.point d.point (omega arith) ∙ wd.point

      low : d.stratum < e.stratum → ⊥
      low l =
          let a : 1 ≤ d.stratum = wd.some_stratum in
          let b : e.stratum ≤ length Ps = we.stratum in
          points.once (d.stratum - 1) (e.stratum - 1) e.point (omega arith) (omega arith)
          (ap basis_of at_d ∙ same ∙ ap basis_of (sym we.point))

      high : e.stratum < d.stratum → ⊥
      high l =
          let a : 1 ≤ e.stratum = we.some_stratum in
          let b : d.stratum ≤ length Ps = wd.stratum in
          points.once (e.stratum - 1) (d.stratum - 1) e.point (omega arith) (omega arith)
          (ap basis_of we.point ∙ sym same ∙ ap basis_of (sym at_d))

      go : Dec (d.stratum ≡ e.stratum) → ⊥
      go (yes q) = ne q
      go (no q) = let s : d.stratum < e.stratum → ⊥ = low in let t : e.stratum < d.stratum → ⊥ = high in omega arith

  apart_from : (d : DoneData) → IsWorkOf c Ps L d → (ds : List DoneData) → All (IsWorkOf c Ps L) ds → All (λ e. d.stratum ≢ e.stratum) ds
      → All (λ R. basis_of d.point ≢ R) (map basis_of (finished_points ds))
  apart_from d w [] h n = All-nil (λ R. basis_of d.point ≢ R)
  apart_from d w (e ∷ ds) h n = put e.verdict (apart_from d w ds (All-tail (IsWorkOf c Ps L) e ds h) (All-tail (λ x. d.stratum ≢ x.stratum) e ds n))
    where
      put : (v : Verdict) → All (λ R. basis_of d.point ≢ R) (map basis_of (finished_points ds)) → All (λ R. basis_of d.point ≢ R) (map basis_of (finished_of e.point v ++ finished_points ds))
      put (Finished o) t = All-cons (λ R. basis_of d.point ≢ R) (basis_of e.point) (map basis_of (finished_points ds))
          (strata_apart d e w (All-head (IsWorkOf c Ps L) e ds h) (All-head (λ x. d.stratum ≢ x.stratum) e ds n)) t
      put TooLarge t = t

  -- each once
  pub finished_apart : (ds : List DoneData) → All (IsWorkOf c Ps L) ds → AllPairs (λ d e. d.stratum ≢ e.stratum) ds → AllPairs (λ P R. P ≢ R) (map basis_of (finished_points ds))
  finished_apart [] h n = λ i j d l m. absurd (let e : j < 0 = m in omega arith)
  finished_apart (d ∷ ds) h n = put d.verdict (finished_apart ds (All-tail (IsWorkOf c Ps L) d ds h) (pairs_tail (λ x y. x.stratum ≢ y.stratum) d ds n))
    where
      put : (v : Verdict) → AllPairs (λ P R. P ≢ R) (map basis_of (finished_points ds)) → AllPairs (λ P R. P ≢ R) (map basis_of (finished_of d.point v ++ finished_points ds))
      put (Finished o) t = pairs_cons (λ P R. P ≢ R) (basis_of d.point) (map basis_of (finished_points ds))
          (apart_from d (All-head (IsWorkOf c Ps L) d ds h) ds (All-tail (IsWorkOf c Ps L) d ds h) (pairs_head (λ x y. x.stratum ≢ y.stratum) d ds n)) t
      put TooLarge t = t
