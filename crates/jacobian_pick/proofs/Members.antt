-- What holds of each member of the lists of candidates.
use Rattle.std.proofs.Common.{◌≡◌, ℕ, ◌+◌, ◌<◌, List, [], ◌∷◌, ◌++◌, map, zero, suc, refl, sym, ap, ◌∙◌, arith, append_assoc}
use Rattle.std.specs.List.{All, flat_map, range_with_len}
use Rattle.std.proofs.lemmas.List.{map-append}
use Rattle.std.proofs.lemmas.List.FromFn.{map-range_with_len_more}
use Rattle.std.proofs.lemmas.List.Elements.{All-nil, All-cons, All-head, All-tail, All-append}
use Rattle.polys.specs.declared.term.Term.{Term}
use Rattle.polys.specs.Poly.{Polynomial, terms_of}
use Rattle.jacobian_pick.specs.Candidates.{over_pairs, over_others}
use Rattle.jacobian_pick.specs.Lists.{polynomials}

pub lists_of : (p : ℕ) (fs : List (List Term)) → terms_of (polynomials p fs) ≡ fs
lists_of p [] = refl
lists_of p (f ∷ fs) = λ i. f ∷ lists_of p fs i

module _ (Q R : List Term → Type 0) where
  pub all_flat : (H : List Term → List (List Term)) → ((f : List Term) → Q f → All R (H f)) → (fs : List (List Term)) → All Q fs → All R (flat_map H fs)
  all_flat H k [] a = All-nil R
  all_flat H k (f ∷ fs) a = All-append R (H f) (flat_map H fs) (k f (All-head Q f fs a)) (all_flat H k fs (All-tail Q f fs a))

  pub all_pairs : (h : List Term → List Term → List (List Term)) → ((f g : List Term) → Q f → Q g → All R (h f g)) → (fs : List (List Term)) → All Q fs → All R (over_pairs h fs)
  all_pairs h k [] a = All-nil R
  all_pairs h k (f ∷ fs) a =
      All-append R (flat_map (h f) fs) (over_pairs h fs) (all_flat (h f) (λ g. k f g (All-head Q f fs a)) fs (All-tail Q f fs a)) (all_pairs h k fs (All-tail Q f fs a))

  pub all_others : (h : List Term → List Term → List (List Term)) → ((f g : List Term) → Q f → Q g → All R (h f g)) → (before fs : List (List Term)) → All Q before → All Q fs
      → All R (over_others h before fs)
  all_others h k before [] b a = All-nil R
  all_others h k before (f ∷ fs) b a =
      All-append R (flat_map (h f) (before ++ fs)) (over_others h (before ++ f ∷ []) fs)
      (all_flat (h f) (λ g. k f g (All-head Q f fs a)) (before ++ fs) (All-append Q before fs b (All-tail Q f fs a)))
      (all_others h k (before ++ f ∷ []) fs (All-append Q before (f ∷ []) b (All-cons Q f [] (All-head Q f fs a) (All-nil Q))) (All-tail Q f fs a))

pub all_range : (R : List Term → Type 0) (F : ℕ → List Term) (a k : ℕ) → ((v : ℕ) → v < a + k → R (F v)) → All R (map F (range_with_len a k))
all_range R F a zero h = All-nil R
all_range R F a (suc k) h = All-cons R (F a) (map F (range_with_len (a + 1) k)) (h a (omega arith)) (all_range R F (a + 1) k (λ v l. h v (omega arith)))

-- one more sum at the end
pub more_sums : (p a n : ℕ) (F : ℕ → List Term) (old into more : List Polynomial) (sum : Polynomial) → into ≡ old ++ polynomials p (map F (range_with_len a n)) → more ≡ into ++ sum ∷ []
    → sum ≡ record { prime = p; terms = F (a + n) } → more ≡ old ++ polynomials p (map F (range_with_len a (n + 1)))
more_sums p a n F old into more sum e m s =
    m
    ∙ (λ i. e i ++ s i ∷ [])
    ∙ append_assoc old (polynomials p (map F (range_with_len a n))) (record { prime = p; terms = F (a + n) } ∷ [])
    ∙ ap (λ w. old ++ w) (sym (ap (polynomials p) (map-range_with_len_more F a n (a + n) refl) ∙ map-append (λ f. record { prime = p; terms = f }) (map F (range_with_len a n)) (F (a + n) ∷ [])))
