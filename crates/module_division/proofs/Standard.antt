-- What the calls on polynomials owe.
use Rattle.std.proofs.Common.{◌≡◌, ℕ, ◌+◌, ◌≤◌, ◌<◌, List, [], ◌∷◌, length, get_or, sym, ◌∙◌, subst, arith}
use Rattle.std.specs.List.{All}
use Rattle.std.specs.declared.cmp.Ordering.{Ordering}
use Rattle.std.specs.declared.cmp.Ordering.TheVariants.{Less, Equal, Greater}
use Rattle.std.specs.Ordering.{nat_cmp, MatchOrdering}
use Rattle.std.specs.Cmp.{ranks}
use Rattle.std.proofs.lemmas.List.{get_or_default}
use Rattle.std.proofs.lemmas.List.Elements.{All-nil, All-cons, All-head, All-tail}
use Rattle.prime_field.specs.Primes.{IsPrime}
use Rattle.polys.specs.declared.term.Term.{Term}
use Rattle.polys.specs.Curve.{IsOver}
use Rattle.polys.specs.Ideal.{InIdeal}
use Rattle.polys.specs.Poly.{Polynomial, IsVector, terms_of}
use Rattle.polys.specs.Terms.{EachMono, IsMonic, IsPoly, degree_of}
use Rattle.polys.proofs.Degrees.{AtMost, each_degree, degree_le}
use Rattle.polys.proofs.Each.{every_more}
use Rattle.ideal_laws.proofs.Ideals.{in_generator}
use Rattle.graded_modules.specs.Module.{IsLeadMultiple}
use Rattle.graded_modules.specs.Vector.{lead_mono}
use Rattle.homogenising.proofs.Spanning.{reduced_law}
use Rattle.module_division.specs.Ideals.{IsMonicStandardBasis, IsDivisionRemainder}
use Rattle.module_division.specs.Division.{IsDivisor, Reduces}
use Rattle.module_division.specs.Reduction.{IsInterreduced}
use Rattle.module_division.proofs.Lists.{divisor_vectors}
use Rattle.module_division.proofs.IdealBases.{affine_tight, lead_seven_affine, IsIdealBasis, ideal_basis}
use Rattle.module_division.proofs.Reduced.{degrees_all}
use Rattle.module_division.proofs.Reductions.{IsTight, affine_remainder, each_at}

-- ---- one more turn of the loop

pub one_more : (P : Polynomial → Type 0) (fs : List Polynomial) (i : ℕ) (f : Polynomial) → f ≡ get_or fs i f → i < length fs → P f → ((k : ℕ) (d : Polynomial) → k < i → P (get_or fs k d))
    → (k : ℕ) (d : Polynomial) → k < i + 1 → P (get_or fs k d)
one_more P fs i f e h p before k d l = go (nat_cmp k i) (ranks k i)
  where
    go : (r : Ordering) → MatchOrdering r (k < i) (k ≡ i) (i < k) → P (get_or fs k d)
    go Less m = before k d m
    go Equal m = subst (λ j. P (get_or fs j d)) (sym m) (subst P (e ∙ get_or_default fs i f d h) p)
    go Greater m = absurd (omega arith)

-- ---- divisors

module _ (p n : ℕ) (prime : IsPrime p) where
  two : 1 < p
  two = let h = prime.0 in omega arith

  polys_of : (fs : List Polynomial) → All (IsOver p n) fs → All (IsPoly p n) (terms_of fs)
  polys_of [] a = All-nil (IsPoly p n)
  polys_of (f ∷ fs) a = All-cons (IsPoly p n) f.terms (terms_of fs) (All-head (IsOver p n) f fs a).poly (polys_of fs (All-tail (IsOver p n) f fs a))

  pub divisors_of : (fs : List Polynomial) → All (IsOver p n) fs → All IsMonic (terms_of fs) → All (λ f. IsVector f.prime f.terms) fs → All (IsDivisor p) fs
  divisors_of [] a b c = All-nil (IsDivisor p)
  divisors_of (f ∷ fs) a b c =
      let h = All-head (IsOver p n) f fs a in
      All-cons (IsDivisor p) f fs
      (record {
        prime = h.prime;
        vector = subst (λ q. IsVector q f.terms) h.prime (All-head (λ f. IsVector f.prime f.terms) f fs c);
        monic = All-head IsMonic f.terms (terms_of fs) b;
        tight = affine_tight p n f.terms h.poly;
      })
      (divisors_of fs (All-tail (IsOver p n) f fs a) (All-tail IsMonic f.terms (terms_of fs) b) (All-tail (λ f. IsVector f.prime f.terms) f fs c))

  all_generated : (gs : List (List Term)) → All (IsPoly p n) gs → All (InIdeal p n gs) gs
  all_generated gs a k d l = in_generator p n gs (get_or gs k d) two a (k, l, get_or_default gs k (get_or gs k d) d l)

  -- ---- interreduced members

  module _ (fs ds : List Polynomial) (s : IsMonicStandardBasis p n fs) (v : All (λ f. IsVector f.prime f.terms) fs) (h : IsInterreduced p (terms_of fs) ds) where
    pub basis : IsIdealBasis p n (terms_of fs) ds
    basis =
        let polys = polys_of fs s.over in
        ideal_basis reduced_law p n (terms_of fs) fs ds prime polys polys s.monic (divisors_of fs s.over s.monic v) (all_generated (terms_of fs) polys) s.leads h

    pub low : (D : ℕ) → All (λ f. degree_of f ≤ D) (terms_of fs) → All (λ f. degree_of f ≤ D) (terms_of ds)
    low D a =
        let polys = polys_of fs s.over in
        let vectors = divisor_vectors p fs (divisors_of fs s.over s.monic v) in
        let tight : All IsTight (terms_of fs) = (λ k d l. affine_tight p n (get_or (terms_of fs) k d) (polys k d l)) in
        let seven : All (λ b. length (lead_mono b).exponents ≡ 7) (terms_of fs) = (λ k d l. lead_seven_affine p n (get_or (terms_of fs) k d) (polys k d l)) in
        let each : All (EachMono (AtMost D)) (terms_of fs) =
        (λ k d l. every_more (AtMost (degree_of (get_or (terms_of fs) k d))) (AtMost D) (get_or (terms_of fs) k d) (λ m x. (let b = a k d l in omega arith)) (each_degree (get_or (terms_of fs) k d)))
        in
        let r = degrees_all p n prime (terms_of fs) s.monic polys vectors tight ds h seven D each in
        (λ k d l. degree_le D (get_or (terms_of ds) k d) (r k d l))

  -- ---- remainders

  pub is_remainder : (fs : List Polynomial) (v r : List Term) → All (IsOver p n) fs → All IsMonic (terms_of fs) → All (λ f. IsVector f.prime f.terms) fs → IsPoly p n v → Reduces p (terms_of fs) v r → IsVector p r
      → EachMono (λ m. IsLeadMultiple (terms_of fs) m → ⊥) r → IsDivisionRemainder p n (terms_of fs) v r
  is_remainder fs v r a b c hv d hr out =
      let polys = polys_of fs a in
      let vectors = divisor_vectors p fs (divisors_of fs a b c) in
      let tight : All IsTight (terms_of fs) = (λ k d l. affine_tight p n (get_or (terms_of fs) k d) (polys k d l)) in
      let x = affine_remainder p n prime (terms_of fs) polys vectors tight v r hv d hr.canonical in
      record {
        poly = x.poly;
        difference = x.member (terms_of fs) (all_generated (terms_of fs) polys);
        outside = λ m k l. each_at (λ m. IsLeadMultiple (terms_of fs) m → ⊥) r m out k l;
        low = degree_le (degree_of v) r (x.degree (degree_of v) (each_degree v));
      }
