-- One more turn of the loops over the vectors of a basis.
use Rattle.std.proofs.Common.{◌≡◌, ℕ, ◌+◌, ◌<◌, List, [], ◌∷◌, ◌++◌, cond, Bool, true, false, ◌==◌, length, take, get_or, refl, sym, ap, ◌∙◌, subst, eqb-true}
use Rattle.std.proofs.lemmas.Bool.{eqb-false}
use Rattle.std.proofs.lemmas.List.{take_more, append-nil}
use Rattle.std.specs.List.{All}
use Rattle.std.proofs.lemmas.List.Elements.{All-nil, All-cons, All-head, All-tail}
use Rattle.polys.specs.declared.term.Term.{Term}
use Rattle.polys.specs.Poly.{Polynomial, terms_of}
use Rattle.graded_modules.specs.Vector.{lead_mono}
use Rattle.homogenising.specs.Homogenised.{dehomogenised}
use Rattle.homogenising.specs.Laws.{IsHomogeneousPoly}
use Rattle.denominator_module.specs.Module.{first, second, sum_members, colon_members}
use Rattle.denominator_module.proofs.Firsts.{first_generator}
use Rattle.denominator_module.proofs.Seconds.{second_homogeneous}
use Rattle.module_basis.specs.Gens.{IsHomogeneousOver}

-- ---- the members of joined lists

sum-append : (p : ℕ) (a b : List (List Term)) → sum_members p (a ++ b) ≡ sum_members p a ++ sum_members p b
sum-append p [] b = refl
sum-append p (f ∷ a) b = go ((lead_mono f).component == 0) (sum-append p a b)
  where
    go : (k : Bool) → sum_members p (a ++ b) ≡ sum_members p a ++ sum_members p b
        → cond k (dehomogenised p (first f) ∷ sum_members p (a ++ b)) (sum_members p (a ++ b)) ≡ cond k (dehomogenised p (first f) ∷ sum_members p a) (sum_members p a) ++ sum_members p b
    go true ih = λ i. dehomogenised p (first f) ∷ ih i
    go false ih = ih

colon-append : (p : ℕ) (a b : List (List Term)) → colon_members p (a ++ b) ≡ colon_members p a ++ colon_members p b
colon-append p [] b = refl
colon-append p (f ∷ a) b = go ((lead_mono f).component == 0) (colon-append p a b)
  where
    go : (k : Bool) → colon_members p (a ++ b) ≡ colon_members p a ++ colon_members p b
        → cond k (colon_members p (a ++ b)) (dehomogenised p (second f) ∷ colon_members p (a ++ b)) ≡ cond k (colon_members p a) (dehomogenised p (second f) ∷ colon_members p a) ++ colon_members p b
    go true ih = ih
    go false ih = λ i. dehomogenised p (second f) ∷ ih i

lists-append : (a b : List Polynomial) → terms_of (a ++ b) ≡ terms_of a ++ terms_of b
lists-append [] b = refl
lists-append (f ∷ a) b = λ i. f.terms ∷ lists-append a b i

all_append : (P : Polynomial → Type 0) (a : List Polynomial) (q : Polynomial) → All P a → P q → All P (a ++ q ∷ [])
all_append P [] q h k = All-cons P q [] k (All-nil P)
all_append P (f ∷ a) q h k = All-cons P f (a ++ q ∷ []) (All-head P f a h) (all_append P a q (All-tail P f a h) k)

next : (vs : List Polynomial) (i : ℕ) (v : Polynomial) → i < length vs → v ≡ get_or vs i v → terms_of (take (i + 1) vs) ≡ terms_of (take i vs) ++ v.terms ∷ []
next vs i v h e = ap terms_of (take_more vs i v h ∙ (λ j. take i vs ++ sym e j ∷ [])) ∙ lists-append (take i vs) (v ∷ [])

-- ---- the parts gathered so far

abbrev pub AreSums : ℕ → List Polynomial → List Polynomial → Type 0
AreSums p ps vs = All (λ f. f.prime ≡ p) ps × (terms_of ps ≡ sum_members p (terms_of vs))

abbrev pub AreColons : ℕ → List Polynomial → List Polynomial → Type 0
AreColons p ps vs = All (λ f. f.prime ≡ p) ps × (terms_of ps ≡ colon_members p (terms_of vs))

module _ (p : ℕ) (ps vs : List Polynomial) (i : ℕ) (v : Polynomial) (h : i < length vs) (e : v ≡ get_or vs i v) where
  pub sum_kept : (ws : List Polynomial) (q : Polynomial) → AreSums p ps (take i vs) → ((lead_mono v.terms).component ≡ 0) → q.prime ≡ p → q.terms ≡ dehomogenised p (first v.terms)
      → ws ≡ ps ++ q ∷ [] → AreSums p ws (take (i + 1) vs)
  sum_kept ws q a z k t w =
      subst (λ x. AreSums p x (take (i + 1) vs)) (sym w) (
        all_append (λ f. f.prime ≡ p) ps q a.0 k,
        lists-append ps (q ∷ []) ∙ (λ j. a.1 j ++ t j ∷ []) ∙ ap (λ x. sum_members p (terms_of (take i vs)) ++ x) (go ((lead_mono v.terms).component == 0) refl)
            ∙ sym (ap (sum_members p) (next vs i v h e) ∙ sum-append p (terms_of (take i vs)) (v.terms ∷ [])),
      )
    where
      go : (k : Bool) → ((lead_mono v.terms).component == 0) ≡ k → dehomogenised p (first v.terms) ∷ [] ≡ cond k (dehomogenised p (first v.terms) ∷ []) []
      go true s = refl
      go false s = absurd (eqb-false (lead_mono v.terms).component 0 s z)

  pub sum_left : AreSums p ps (take i vs) → ((lead_mono v.terms).component ≡ 0 → ⊥) → AreSums p ps (take (i + 1) vs)
  sum_left a z = (
    a.0,
    a.1 ∙ sym (ap (sum_members p) (next vs i v h e) ∙ sum-append p (terms_of (take i vs)) (v.terms ∷ [])
        ∙ ap (λ x. sum_members p (terms_of (take i vs)) ++ x) (go ((lead_mono v.terms).component == 0) refl) ∙ append-nil (sum_members p (terms_of (take i vs)))),
  )
    where
      go : (k : Bool) → ((lead_mono v.terms).component == 0) ≡ k → cond k (dehomogenised p (first v.terms) ∷ []) [] ≡ []
      go true s = absurd (z (eqb-true (lead_mono v.terms).component 0 s))
      go false s = refl

  pub colon_kept : (ws : List Polynomial) (q : Polynomial) → AreColons p ps (take i vs) → ((lead_mono v.terms).component ≡ 0 → ⊥) → q.prime ≡ p
      → q.terms ≡ dehomogenised p (second v.terms) → ws ≡ ps ++ q ∷ [] → AreColons p ws (take (i + 1) vs)
  colon_kept ws q a z k t w =
      subst (λ x. AreColons p x (take (i + 1) vs)) (sym w) (
        all_append (λ f. f.prime ≡ p) ps q a.0 k,
        lists-append ps (q ∷ []) ∙ (λ j. a.1 j ++ t j ∷ []) ∙ ap (λ x. colon_members p (terms_of (take i vs)) ++ x) (go ((lead_mono v.terms).component == 0) refl)
            ∙ sym (ap (colon_members p) (next vs i v h e) ∙ colon-append p (terms_of (take i vs)) (v.terms ∷ [])),
      )
    where
      go : (k : Bool) → ((lead_mono v.terms).component == 0) ≡ k → dehomogenised p (second v.terms) ∷ [] ≡ cond k [] (dehomogenised p (second v.terms) ∷ [])
      go true s = absurd (z (eqb-true (lead_mono v.terms).component 0 s))
      go false s = refl

  pub colon_left : AreColons p ps (take i vs) → ((lead_mono v.terms).component ≡ 0) → AreColons p ps (take (i + 1) vs)
  colon_left a z = (
    a.0,
    a.1 ∙ sym (ap (colon_members p) (next vs i v h e) ∙ colon-append p (terms_of (take i vs)) (v.terms ∷ [])
        ∙ ap (λ x. colon_members p (terms_of (take i vs)) ++ x) (go ((lead_mono v.terms).component == 0) refl) ∙ append-nil (colon_members p (terms_of (take i vs)))),
  )
    where
      go : (k : Bool) → ((lead_mono v.terms).component == 0) ≡ k → cond k [] (dehomogenised p (second v.terms) ∷ []) ≡ []
      go true s = refl
      go false s = absurd (eqb-false (lead_mono v.terms).component 0 s z)

-- ---- the parts are homogeneous

pub first_at : (p n shift : ℕ) (vs : List Polynomial) (i : ℕ) (v : Polynomial) (q : ℕ) (g : List Term) → All (IsHomogeneousOver p n shift) vs → i < length vs → v ≡ get_or vs i v
    → q ≡ v.prime → g ≡ first v.terms → IsHomogeneousPoly q n g
first_at p n shift vs i v q g a h e k t =
    let at : IsHomogeneousOver p n shift v = subst (IsHomogeneousOver p n shift) (sym e) (a i v h) in
    subst (λ r. IsHomogeneousPoly r n g) (sym (k ∙ at.prime)) (subst (IsHomogeneousPoly p n) (sym t) (first_generator p n shift v.terms at.vector))

pub second_at : (p n shift : ℕ) (vs : List Polynomial) (i : ℕ) (v : Polynomial) (q : ℕ) (g : List Term) → All (IsHomogeneousOver p n shift) vs → i < length vs → v ≡ get_or vs i v
    → q ≡ v.prime → g ≡ second v.terms → IsHomogeneousPoly q n g
second_at p n shift vs i v q g a h e k t =
    let at : IsHomogeneousOver p n shift v = subst (IsHomogeneousOver p n shift) (sym e) (a i v h) in
    subst (λ r. IsHomogeneousPoly r n g) (sym (k ∙ at.prime)) (subst (IsHomogeneousPoly p n) (sym t) (second_homogeneous p n shift v.terms at.vector))

-- ---- as the calls leave them

module _ (p n shift : ℕ) (vs : List Polynomial) (a : All (IsHomogeneousOver p n shift) vs) (i : ℕ) (v : Polynomial) (h : i < length vs) (e : v ≡ get_or vs i v) (r q : Polynomial) (k : r.prime ≡ v.prime)
    (l : q.prime ≡ r.prime) (m : q.terms ≡ dehomogenised r.prime r.terms) where
  over : v.prime ≡ p
  over = (subst (IsHomogeneousOver p n shift) (sym e) (a i v h)).prime

  pub sum_turn : (ps ws : List Polynomial) → r.terms ≡ first v.terms → AreSums p ps (take i vs) → ((lead_mono v.terms).component ≡ 0) → ws ≡ ps ++ q ∷ [] → AreSums p ws (take (i + 1) vs)
  sum_turn ps ws t s z w = sum_kept p ps vs i v h e ws q s z (l ∙ k ∙ over) (m ∙ (λ j. dehomogenised ((k ∙ over) j) (t j))) w

  pub colon_turn : (ps ws : List Polynomial) → r.terms ≡ second v.terms → AreColons p ps (take i vs) → ((lead_mono v.terms).component ≡ 0 → ⊥) → ws ≡ ps ++ q ∷ [] → AreColons p ws (take (i + 1) vs)
  colon_turn ps ws t s z w = colon_kept p ps vs i v h e ws q s z (l ∙ k ∙ over) (m ∙ (λ j. dehomogenised ((k ∙ over) j) (t j))) w
