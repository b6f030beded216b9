-- Which polynomials are in the ideal of a problem, and which are kept.
use Rattle.std.proofs.Common.{◌≡◌, ◌↔◌, inl, inr, ℕ, ◌<◌, ◌+◌, IsTrue, Bool, true, false, List, [], ◌∷◌, ◌++◌, length, take, get_or, refl, sym, ap, ◌∙◌, subst, Option, not}
use Rattle.std.specs.Option.{is_some}
use Rattle.std.specs.List.{All}
use Rattle.std.proofs.lemmas.List.{take_more, map-append}
use Rattle.std.proofs.lemmas.List.Elements.{All-nil, All-cons, All-head, All-tail, All-weaker}
use Rattle.prime_field.specs.Primes.{IsPrime}
use Rattle.polys.specs.declared.term.Term.{Term}
use Rattle.polys.specs.Curve.{IsOver}
use Rattle.polys.specs.Ideal.{InIdeal}
use Rattle.polys.specs.Poly.{Polynomial, terms_of}
use Rattle.polys.specs.Terms.{IsMonicOf, lead}
use Rattle.homogenising.proofs.Found.{has_leads_law}
use Rattle.homogenising.proofs.Spanning.{decides_law}
use Rattle.module_division.specs.Ideals.{IsDivisionRemainder}
use Rattle.problem.specs.declared.problem.Problem.{Problem}
use Rattle.problem.specs.Problem.{IsFit}
use Rattle.jacobian_pick.specs.Candidates.{AreKept}
use Rattle.jacobian_pick.specs.Lists.{polynomials, IsBasisOf, IsUpTo}
use Rattle.jacobian_pick.proofs.Lows.{IsLow, multiple_low}
use Rattle.jacobian_pick.proofs.Members.{lists_of}

-- ---- polynomials of a problem

pub fit_up_to : (p n : ℕ) (f : Polynomial) → IsFit p n f → IsUpTo p n 60 f
fit_up_to p n f fit = record { over = record { prime = fit.prime; poly = fit.poly }; low = fit.degree }

pub fits_up_to : (p n : ℕ) (fs : List Polynomial) → All (IsFit p n) fs → All (IsUpTo p n 60) fs
fits_up_to p n fs a = All-weaker (IsFit p n) (IsUpTo p n 60) (λ f h. fit_up_to p n f h) fs a

-- ---- a remainder decides

pub is_nil : (r : List Term) (o : Option Term) (b : Bool) → o ≡ lead r → is_some o ≡ not b → IsTrue b ↔ (r ≡ [])
is_nil [] o true e h = (λ x. refl, λ x. refl)
is_nil [] o false e h = absurd (cc)
is_nil (t ∷ r) o true e h = absurd (cc)
is_nil (t ∷ r) o false e h = (λ x. absurd (cc), λ x. absurd (cc))

pub decides : (problem : Problem) (basis : List Polynomial) (n : ℕ) (f r : Polynomial) → IsPrime problem.prime → IsBasisOf problem basis → IsOver problem.prime (length problem.letters) f
    → n ≡ length problem.letters → IsDivisionRemainder f.prime n (terms_of basis) f.terms r.terms
    → (r.terms ≡ []) ↔ InIdeal problem.prime (length problem.letters) (terms_of problem.generators) f.terms
decides problem basis n f r prime b o e h =
    let ds = terms_of basis in
    let k : IsDivisionRemainder problem.prime (length problem.letters) (terms_of basis) f.terms r.terms =
    subst (λ (q : ℕ). IsDivisionRemainder q (length problem.letters) (terms_of basis) f.terms r.terms) o.prime (subst (λ (m : ℕ). IsDivisionRemainder f.prime m (terms_of basis) f.terms r.terms) e h)
    in
    let d =
    decides_law problem.prime (length problem.letters) (terms_of basis) (terms_of basis) f.terms r.terms prime b.reduced.reduced.polys
    (has_leads_law problem.prime (length problem.letters) (terms_of basis) prime b.reduced.reduced) o.poly k.poly k.difference k.outside
    in
    let x = b.reduced.exact f.terms o.poly in
    (λ z. x.0 (d.0 z), λ z. d.1 (x.1 z))

-- ---- what is kept of joined lists

pub monic_low : (p n D : ℕ) (f m : List Term) → 0 < p → IsLow p n D f → IsMonicOf p f m → IsLow p n D m
monic_low p n D [] m pos x h = subst (IsLow p n D) (sym h) x
monic_low p n D (t ∷ f) m pos x (h, (c, l, e)) = subst (IsLow p n D) (sym e) (multiple_low p n c D (t ∷ f) pos x)

module _ (p n : ℕ) (gs : List (List Term)) where
  -- a member of the ideal is left out
  pub kept_without : (fs ms : List (List Term)) (f : List Term) → AreKept p n gs fs ms → InIdeal p n gs f → AreKept p n gs (fs ++ f ∷ []) ms
  kept_without [] ms f k i = inl (i, k)
  kept_without (g ∷ fs) ms f (inl (a, k)) i = inl (a, kept_without fs ms f k i)
  kept_without (g ∷ fs) ms f (inr (a, m, rest, b, e, k)) i = inr (a, m, rest, b, e, kept_without fs rest f k i)

  -- and another polynomial is kept
  pub kept_with : (fs ms : List (List Term)) (f m : List Term) → AreKept p n gs fs ms → (InIdeal p n gs f → ⊥) → IsMonicOf p f m → AreKept p n gs (fs ++ f ∷ []) (ms ++ m ∷ [])
  kept_with [] ms f m k i h = inr (i, m, [], h, ap (λ w. w ++ m ∷ []) k, refl)
  kept_with (g ∷ fs) ms f m (inl (a, k)) i h = inl (a, kept_with fs ms f m k i h)
  kept_with (g ∷ fs) ms f m (inr (a, x, rest, b, e, k)) i h = inr (a, x, rest ++ m ∷ [], b, ap (λ w. w ++ m ∷ []) e, kept_with fs rest f m k i h)

  -- what is kept is as low as what there was
  pub kept_low : (D : ℕ) (fs ms : List (List Term)) → 0 < p → AreKept p n gs fs ms → All (IsLow p n D) fs → All (IsLow p n D) ms
  kept_low D [] ms pos k a = subst (All (IsLow p n D)) (sym k) (All-nil (IsLow p n D))
  kept_low D (f ∷ fs) ms pos (inl (i, k)) a = kept_low D fs ms pos k (All-tail (IsLow p n D) f fs a)
  kept_low D (f ∷ fs) ms pos (inr (i, m, rest, h, e, k)) a =
      subst (All (IsLow p n D)) (sym e)
      (All-cons (IsLow p n D) m rest (monic_low p n D f m pos (All-head (IsLow p n D) f fs a) h) (kept_low D fs rest pos k (All-tail (IsLow p n D) f fs a)))

  -- one more turn of the loop
  pub next : (xs : List Polynomial) (i : ℕ) (x : Polynomial) → i < length xs → x ≡ get_or xs i x → terms_of (take (i + 1) xs) ≡ terms_of (take i xs) ++ x.terms ∷ []
  next xs i x h e = ap terms_of (take_more xs i x h ∙ (λ j. take i xs ++ sym e j ∷ [])) ∙ map-append (λ f. f.terms) (take i xs) (x ∷ [])

  pub still : (xs ms : List Polynomial) (i : ℕ) (x : Polynomial) → i < length xs → x ≡ get_or xs i x → AreKept p n gs (terms_of (take i xs)) (terms_of ms) → InIdeal p n gs x.terms
      → AreKept p n gs (terms_of (take (i + 1) xs)) (terms_of ms)
  still xs ms i x h e k a = subst (λ w. AreKept p n gs w (terms_of ms)) (sym (next xs i x h e)) (kept_without (terms_of (take i xs)) (terms_of ms) x.terms k a)

  pub one_more : (xs ms more : List Polynomial) (i : ℕ) (x m : Polynomial) → i < length xs → x ≡ get_or xs i x → AreKept p n gs (terms_of (take i xs)) (terms_of ms)
      → (InIdeal p n gs x.terms → ⊥) → IsMonicOf p x.terms m.terms → more ≡ ms ++ m ∷ [] → AreKept p n gs (terms_of (take (i + 1) xs)) (terms_of more)
  one_more xs ms more i x m h e k a b c =
      subst (λ w. AreKept p n gs (terms_of (take (i + 1) xs)) w) (sym (ap terms_of c ∙ map-append (λ f. f.terms) ms (m ∷ [])))
      (subst (λ w. AreKept p n gs w (terms_of ms ++ m.terms ∷ [])) (sym (next xs i x h e)) (kept_with (terms_of (take i xs)) (terms_of ms) x.terms m.terms k a b))

-- ---- polynomials of the program

module _ (p n D : ℕ) where
  pub up_to : (fs : List Polynomial) → All (λ f. f.prime ≡ p) fs → All (IsLow p n D) (terms_of fs) → All (IsUpTo p n D) fs
  up_to [] a b = All-nil (IsUpTo p n D)
  up_to (f ∷ fs) a b =
      let h = All-head (IsLow p n D) f.terms (terms_of fs) b in
      All-cons (IsUpTo p n D) f fs (record { over = record { prime = All-head (λ (g : Polynomial). g.prime ≡ p) f fs a; poly = h.poly }; low = h.low })
      (up_to fs (All-tail (λ (g : Polynomial). g.prime ≡ p) f fs a) (All-tail (IsLow p n D) f.terms (terms_of fs) b))

  pub lows : (fs : List Polynomial) → All (IsUpTo p n D) fs → All (IsLow p n D) (terms_of fs)
  lows [] a = All-nil (IsLow p n D)
  lows (f ∷ fs) a =
      let h = All-head (IsUpTo p n D) f fs a in
      All-cons (IsLow p n D) f.terms (terms_of fs) (record { poly = h.over.poly; low = h.low }) (lows fs (All-tail (IsUpTo p n D) f fs a))

  pub overs : (fs : List Polynomial) → All (IsUpTo p n D) fs → All (IsOver p n) fs
  overs [] a = All-nil (IsOver p n)
  overs (f ∷ fs) a = All-cons (IsOver p n) f fs (All-head (IsUpTo p n D) f fs a).over (overs fs (All-tail (IsUpTo p n D) f fs a))

  -- what is kept of a list of polynomials
  pub listed : (gs xs : List (List Term)) (raw ms : List Polynomial) → 0 < p → All (IsUpTo p n D) raw → terms_of raw ≡ xs → All (λ m. m.prime ≡ p) ms
      → AreKept p n gs (terms_of raw) (terms_of ms) → All (IsUpTo p n D) ms × AreKept p n gs xs (terms_of ms)
  listed gs xs raw ms pos a e b k =
      (up_to ms b (kept_low p n gs D (terms_of raw) (terms_of ms) pos k (lows raw a)), subst (λ w. AreKept p n gs w (terms_of ms)) e k)

  -- polynomials that are made of low lists of terms
  pub up_to_raw : (xs : List (List Term)) (raw : List Polynomial) → raw ≡ polynomials p xs → All (IsLow p n D) xs → All (IsUpTo p n D) raw × (terms_of raw ≡ xs)
  up_to_raw xs raw e a = (subst (All (IsUpTo p n D)) (sym e) (go xs a), ap terms_of e ∙ lists_of p xs)
    where
      go : (xs : List (List Term)) → All (IsLow p n D) xs → All (IsUpTo p n D) (polynomials p xs)
      go [] a = All-nil (IsUpTo p n D)
      go (x ∷ xs) a =
          let h = All-head (IsLow p n D) x xs a in
          All-cons (IsUpTo p n D) (record { prime = p; terms = x }) (polynomials p xs) (record { over = record { prime = refl; poly = h.poly }; low = h.low })
          (go xs (All-tail (IsLow p n D) x xs a))
