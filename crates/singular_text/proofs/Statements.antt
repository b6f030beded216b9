-- The values of denominators and of `at` statements, as they are read.
use Rattle.std.proofs.Common.{◌≡◌, ℕ, ◌+◌, ◌-◌, ◌<◌, ◌≤◌, List, [], ◌∷◌, ◌++◌, take, drop, suc, refl, sym, ap, ◌∙◌, subst, arith, Option, Some, None, Result, Ok}
use Rattle.std.specs.Prelude.{codes, MatchOption, IfSome}
use Rattle.std.specs.Option.{option_to_list}
use Rattle.std.specs.List.{AllByRecursion, last_or}
use Rattle.polys.specs.Poly.{Polynomial}
use Rattle.singular_text.specs.declared.faults.ReadFault.{ReadFault}
use Rattle.problem_form.specs.Reading.{begun_at}
use Rattle.singular_text.specs.Evaluating.{IsFault, and_then, evaluate, new_frame}
use Rattle.singular_text.specs.Checks.{denominator_by, denominator_at, points_at}
use Rattle.singular_text.proofs.Handing.{fault_through}

-- ---- the last item

last_end : (o : Option Polynomial) (kept : List Polynomial) (x : Polynomial) → last_or o (kept ++ x ∷ []) ≡ Some x
last_end o [] x = refl
last_end o (y ∷ kept) x = last_end (Some y) kept x

none_kept : (n : ℕ) (items : List Polynomial) → n ≡ 0 → take (n - 1) items ≡ []
none_kept n items none = let e : n - 1 ≡ 0 = omega arith in ap (λ (k : ℕ). take k items) e

pub popped : (values items kept : List Polynomial) (o : Option Polynomial) (n : ℕ) (M : Type 0) (Q : Polynomial → Type 0) → items ≡ values → items ≡ kept ++ option_to_list o → kept ≡ take (n - 1) items
    → MatchOption o ((n ≡ 0) × M) Q → last_or None values ≡ o
popped values items kept (Some x) n M Q same are rest cases = ap (last_or None) (sym same ∙ are) ∙ last_end None kept x
popped values items kept None n M Q same are rest cases =
    ap (last_or None) (sym same ∙ are ∙ ap (λ (xs : List Polynomial). xs ++ []) (rest ∙ none_kept n items cases.0))

pub popped_fits : (P : Polynomial → Type 0) (values items kept : List Polynomial) (o : Option Polynomial) → items ≡ values → items ≡ kept ++ option_to_list o → AllByRecursion P values → IfSome o P
popped_fits P values items kept None same are all = tt
popped_fits P values items kept (Some x) same are all =
    let A : List Polynomial → Type 0 = λ (xs : List Polynomial). AllByRecursion P xs in go kept (subst A (sym same ∙ are) all)
  where
    go : (xs : List Polynomial) → AllByRecursion P (xs ++ x ∷ []) → P x
    go [] h = h.0
    go (y ∷ xs) h = go xs h.1

pub denominator_is : (p : ℕ) (letters : List ℕ) (ts behind rest : List (List ℕ)) (values : List Polynomial) (o : Option Polynomial) → begun_at (codes "poly") ts ≡ Some behind
    → evaluate p letters [] new_frame [] behind ≡ Ok (values, rest) → last_or None values ≡ o → denominator_at p letters ts ≡ Ok (o, rest)
unfolding denominator_at
denominator_is p letters ts behind rest values o begun value last =
    ap (denominator_by p letters ts) begun ∙ ap (λ (r : Result (List Polynomial × List (List ℕ)) ReadFault). and_then r (λ s. Ok (last_or None s.0, s.1))) value
    ∙ ap (λ (x : Option Polynomial). Ok (x, rest)) last

-- ---- the loop over `at` statements, which began at start

points_next : (p : ℕ) (letters : List ℕ) (before : List (List Polynomial)) (n k : ℕ) (ts : List (List ℕ)) → n ≡ suc k
    → points_at p letters before n ts ≡ and_then (evaluate p letters [] new_frame [] (drop 1 ts)) (λ r. points_at p letters (before ++ r.0 ∷ []) k r.1)
unfolding points_at
points_next p letters before n k ts is = rw is refl

points_end : (p : ℕ) (letters : List ℕ) (before : List (List Polynomial)) (n : ℕ) (ts : List (List ℕ)) → n ≡ 0 → points_at p letters before n ts ≡ Ok before
unfolding points_at
points_end p letters before n ts is = rw is refl

module _ (p : ℕ) (letters : List ℕ) (before : List (List Polynomial)) (n k : ℕ) (ts behind : List (List ℕ)) (start : Result (List (List Polynomial)) ReadFault)
    (same : points_at p letters before (n - k) ts ≡ start) where
  pub points_done : n ≤ k → start ≡ Ok before
  points_done done = sym same ∙ points_end p letters before (n - k) ts (omega (arith, done))

  turn : k < n → behind ≡ drop 1 ts → start ≡ and_then (evaluate p letters [] new_frame [] behind) (λ r. points_at p letters (before ++ r.0 ∷ []) (n - (k + 1)) r.1)
  turn less is =
      sym same ∙ points_next p letters before (n - k) (n - (k + 1)) ts (omega (arith, less))
      ∙ ap (λ (b : List (List ℕ)). and_then (evaluate p letters [] new_frame [] b) (λ r. points_at p letters (before ++ r.0 ∷ []) (n - (k + 1)) r.1)) (sym is)

  pub points_fault : (fault : ReadFault) → k < n → behind ≡ drop 1 ts → IsFault fault (evaluate p letters [] new_frame [] behind) → IsFault fault start
  points_fault fault less is h =
      let P : Result (List (List Polynomial)) ReadFault → Type 0 = λ (r : Result (List (List Polynomial)) ReadFault). IsFault fault r in
      subst P (sym (turn less is)) (fault_through fault (evaluate p letters [] new_frame [] behind) (λ r. points_at p letters (before ++ r.0 ∷ []) (n - (k + 1)) r.1) h)

  pub points_on : (values : List Polynomial) (now : List (List Polynomial)) (after : List (List ℕ)) → k < n → behind ≡ drop 1 ts → evaluate p letters [] new_frame [] behind ≡ Ok (values, after)
      → now ≡ before ++ values ∷ [] → points_at p letters now (n - (k + 1)) after ≡ start
  points_on values now after less is value pushed =
      sym (turn less is ∙ ap (λ (r : Result (List Polynomial × List (List ℕ)) ReadFault). and_then r (λ s. points_at p letters (before ++ s.0 ∷ []) (n - (k + 1)) s.1)) value
      ∙ ap (λ (xs : List (List Polynomial)). points_at p letters xs (n - (k + 1)) after) (sym pushed))

pub all_pushed : {A : Type 0} (P : A → Type 0) (xs : List A) (x : A) (now : List A) → now ≡ xs ++ x ∷ [] → AllByRecursion P xs → P x → AllByRecursion P now
all_pushed {A} P xs x now is all one = let Q : List A → Type 0 = λ (ys : List A). AllByRecursion P ys in subst Q (sym is) (go xs all)
  where
    go : (ys : List A) → AllByRecursion P ys → AllByRecursion P (ys ++ x ∷ [])
    go [] h = (one, tt)
    go (y ∷ ys) h = (h.0, go ys h.1)
