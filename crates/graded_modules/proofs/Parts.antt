-- The terms of one degree of a member are a sum of multiples of that degree.
use Rattle.std.proofs.Common.{◌≡◌, ℕ, ◌+◌, ◌*◌, ◌%◌, List, [], ◌∷◌, ◌++◌, cond, Bool, true, false, ◌==◌, refl, sym, ap, ◌∙◌, subst, arith, eqb-true, eq-eqb}
use Rattle.std.specs.List.{All, Contains}
use Rattle.std.proofs.lemmas.List.Elements.{All-nil, All-cons, All-head, All-tail, All-append, All-contains, All-contains_itself}
use Rattle.std.specs.declared.cmp.Ordering.TheVariants.{Greater}
use Rattle.monomials.specs.Mono.{Monomial, times, cmp_dp}
use Rattle.polys.specs.declared.term.Term.{Term}
use Rattle.polys.specs.Terms.{IsCanonical, EachMono, mul, scale, products}
use Rattle.polys.specs.Poly.{IsPlain}
use Rattle.polys.specs.Ideal.{combination}
use Rattle.polys.proofs.Weights.{weigh, weigh-append, weigh-normal, canon, normal_ext, mod_plus}
use Rattle.polys.proofs.Sums.{mul_comm}
use Rattle.polys.proofs.Units.{canonical_same}
use Rattle.polys.proofs.Each.{every_scale, every_under}
use Rattle.polys.proofs.Leads.{every_low}
use Rattle.graded_modules.specs.Vector.{IsGraded, IsFactor, IsGenerator, IsOfDegree, degree_at, lead_mono}
use Rattle.graded_modules.specs.Module.{InModule}
use Rattle.graded_modules.specs.SVector.{Multiple, total, top}
use Rattle.graded_modules.proofs.Graded.{degree_times}
use Rattle.graded_modules.proofs.Multiples.{normal-total, total-append}
use Rattle.graded_modules.proofs.SVectors.{same_degrees}
use Rattle.graded_modules.proofs.Descent.{IsSummand, value}

-- ---- the terms of one degree

pub part : ℕ → ℕ → List Term → List Term
part shift d [] = []
part shift d (t ∷ f) = cond (degree_at shift t.mono == d) (t ∷ part shift d f) (part shift d f)

-- a weight at this degree alone
abbrev at : ℕ → ℕ → (Monomial → ℕ) → Monomial → ℕ
at shift d χ m = cond (degree_at shift m == d) (χ m) 0

module _ (shift d : ℕ) where
  weigh-part : (χ : Monomial → ℕ) (f : List Term) → weigh χ (part shift d f) ≡ weigh (at shift d χ) f
  unfolding part weigh
  weigh-part χ [] = refl
  weigh-part χ (t ∷ f) = go (weigh-part χ f) (degree_at shift t.mono == d)
    where
      go : weigh χ (part shift d f) ≡ weigh (at shift d χ) f → (b : Bool) → weigh χ (cond b (t ∷ part shift d f) (part shift d f)) ≡ t.coeff * cond b (χ t.mono) 0 + weigh (at shift d χ) f
      go ih true = ap (λ (k : ℕ). t.coeff * χ t.mono + k) ih
      go ih false = omega arith

  every_part : (P : Monomial → Type 0) (f : List Term) → EachMono P f → EachMono P (part shift d f)
  unfolding part
  every_part P [] h = tt
  every_part P (t ∷ f) h = go (every_part P f h.1) (degree_at shift t.mono == d)
    where
      go : EachMono P (part shift d f) → (b : Bool) → EachMono P (cond b (t ∷ part shift d f) (part shift d f))
      go ih true = (h.0, ih)
      go ih false = ih

  canonical_part : (p : ℕ) (f : List Term) → IsCanonical p f → IsCanonical p (part shift d f)
  unfolding part
  canonical_part p [] h = tt
  canonical_part p (t ∷ f) h = go (canonical_part p f h.3) (degree_at shift t.mono == d)
    where
      Low : Monomial → Type 0
      Low w = cmp_dp t.mono w ≡ Greater

      go : IsCanonical p (part shift d f) → (b : Bool) → IsCanonical p (cond b (t ∷ part shift d f) (part shift d f))
      go ih true = (h.0, h.1, every_under Low t.mono (part shift d f) (λ w q. q) (every_part Low f (every_low p t.mono f (canon p f h.3) h.2)), ih)
      go ih false = ih

  pub part_head : (t : Term) (f : List Term) → degree_at shift t.mono ≡ d → part shift d (t ∷ f) ≡ t ∷ part shift d f
  unfolding part
  part_head t f e = ap (λ b. cond b (t ∷ part shift d f) (part shift d f)) (eq-eqb (degree_at shift t.mono) d e)

  -- ---- weights of homogeneous lists

  weigh_at : (χ : Monomial → ℕ) (f : List Term) → IsOfDegree shift d f → weigh (at shift d χ) f ≡ weigh χ f
  unfolding weigh
  weigh_at χ [] h = refl
  weigh_at χ (t ∷ f) h = λ i. t.coeff * cond (eq-eqb (degree_at shift t.mono) d h.0 i) (χ t.mono) 0 + weigh_at χ f h.1 i

  weigh_off : (k : ℕ) (χ : Monomial → ℕ) (f : List Term) → (k == d) ≡ false → IsOfDegree shift k f → weigh (at shift d χ) f ≡ 0
  unfolding weigh
  weigh_off k χ [] q h = refl
  weigh_off k χ (t ∷ f) q h =
      let off : cond (degree_at shift t.mono == d) (χ t.mono) 0 ≡ 0 = ap (λ (x : ℕ). cond (x == d) (χ t.mono) 0) h.0 ∙ ap (λ b. cond b (χ t.mono) 0) q in
      let ih = weigh_off k χ f q h.1 in
      rw (off, ih) (omega arith)

  -- ---- members

  module _ (p n : ℕ) (gs : List (List Term)) (vectors : All (IsGenerator p n shift) gs) where
    -- multiples whose sum has the weights of the part of f
    record IsPart (f : List Term) : Type 0 where
      multiples : List Multiple
      each : All (IsSummand p n shift gs d) multiples
      same : (χ : Monomial → ℕ) → weigh (at shift d χ) f % p ≡ weigh χ (total p multiples) % p

    scale_degree : (t : Term) (g : List Term) → IsGenerator p n shift g → IsOfDegree shift (degree_at shift (times (lead_mono g) t.mono)) (scale t g)
    scale_degree t g h =
        every_scale (λ m. degree_at shift m ≡ degree_at shift (lead_mono g)) (λ m. degree_at shift m ≡ degree_at shift (times (lead_mono g) t.mono)) t g
        (λ m q. degree_times shift t.mono m ∙ (let x = degree_times shift (lead_mono g) t.mono in omega arith)) (same_degrees p n shift g h)

    weigh_value : (χ : Monomial → ℕ) (s : Multiple) → weigh χ (value p s) % p ≡ weigh χ (scale s.term s.vector) % p
    unfolding weigh
    weigh_value χ s =
        ap (λ w. weigh χ w % p) (mul_comm p s.vector (s.term ∷ []))
        ∙ weigh-normal p χ (scale s.term s.vector ++ [])
        ∙ ap (λ (k : ℕ). k % p) (weigh-append χ (scale s.term s.vector) [] ∙ (let x : weigh χ (scale s.term s.vector) + 0 ≡ weigh χ (scale s.term s.vector) = omega arith in x))

    product_part : (q g : List Term) → Contains gs g → IsCanonical p q → EachMono (IsGraded n) q → EachMono IsPlain q → IsPart (products q g)
    unfolding weigh
    product_part [] g c k a z = record { multiples = []; each = All-nil (IsSummand p n shift gs d); same = λ χ. refl }
    product_part (t ∷ q) g c k a z = go (product_part q g c k.3 a.1 z.1) (degree_at shift (top s) == d) refl
      where
        s : Multiple
        s = record { vector = g; term = t }

        hg : IsGenerator p n shift g
        hg = All-contains (IsGenerator p n shift) gs g vectors c

        go : IsPart (products q g) → (b : Bool) → (degree_at shift (top s) == d) ≡ b → IsPart (products (t ∷ q) g)
        go rest true e =
            let deg : degree_at shift (top s) ≡ d = eqb-true (degree_at shift (top s)) d e in
            record {
              multiples = s ∷ rest.multiples;
              each = All-cons (IsSummand p n shift gs d) s rest.multiples (record { member = c; residue = k.1; graded = a.0; plain = z.0; degree = deg }) rest.each;
              same = λ χ.
                  ap (λ (x : ℕ). x % p) (weigh-append (at shift d χ) (scale t g) (products q g))
                  ∙ mod_plus p (weigh (at shift d χ) (scale t g)) (weigh χ (value p s)) (weigh (at shift d χ) (products q g)) (weigh χ (total p rest.multiples))
                  (ap (λ (x : ℕ). x % p) (weigh_at χ (scale t g) (subst (λ (x : ℕ). IsOfDegree shift x (scale t g)) deg (scale_degree t g hg))) ∙ sym (weigh_value χ s)) (rest.same χ)
                  ∙ ap (λ (x : ℕ). x % p) (sym (weigh-append χ (value p s) (total p rest.multiples)))
                  ∙ sym (weigh-normal p χ (value p s ++ total p rest.multiples));
            }
        go rest false e = record {
          multiples = rest.multiples;
          each = rest.each;
          same = λ χ.
              ap (λ (x : ℕ). x % p) (weigh-append (at shift d χ) (scale t g) (products q g) ∙ ap (λ (x : ℕ). x + weigh (at shift d χ) (products q g)) (weigh_off (degree_at shift (top s)) χ (scale t g) e (scale_degree t g hg)) ∙ (let x : 0 + weigh (at shift d χ) (products q g) ≡ weigh (at shift d χ) (products q g) = omega arith in x))
              ∙ rest.same χ;
        }

    none_part : IsPart []
    unfolding weigh
    none_part = record { multiples = []; each = All-nil (IsSummand p n shift gs d); same = λ χ. refl }

    combination_part : (qs hs : List (List Term)) → All (Contains gs) hs → All (IsFactor p n) qs → IsPart (combination p qs hs)
    combination_part [] hs c a = none_part
    combination_part (q ∷ qs) [] c a = none_part
    combination_part (q ∷ qs) (g ∷ hs) c a =
        let fq = All-head (IsFactor p n) q qs a in
        let x = product_part q g (All-head (Contains gs) g hs c) fq.vector.canonical fq.vector.graded fq.plain in
        let y = combination_part qs hs (All-tail (Contains gs) g hs c) (All-tail (IsFactor p n) q qs a) in
        record {
          multiples = x.multiples ++ y.multiples;
          each = All-append (IsSummand p n shift gs d) x.multiples y.multiples x.each y.each;
          same = λ χ.
              weigh-normal p (at shift d χ) (mul p q g ++ combination p qs hs)
              ∙ ap (λ (k : ℕ). k % p) (weigh-append (at shift d χ) (mul p q g) (combination p qs hs))
              ∙ mod_plus p (weigh (at shift d χ) (mul p q g)) (weigh χ (total p x.multiples)) (weigh (at shift d χ) (combination p qs hs)) (weigh χ (total p y.multiples))
              (weigh-normal p (at shift d χ) (products q g) ∙ x.same χ) (y.same χ)
              ∙ ap (λ (k : ℕ). k % p) (sym (weigh-append χ (total p x.multiples) (total p y.multiples)))
              ∙ sym (weigh-normal p χ (total p x.multiples ++ total p y.multiples))
              ∙ ap (λ w. weigh χ w % p) (sym (total-append p x.multiples y.multiples));
        }

    -- the part of a member is a sum of multiples of this degree
    pub member_part : (f : List Term) → IsCanonical p f → InModule p n gs f → (ss : List Multiple) × All (IsSummand p n shift gs d) ss × (part shift d f ≡ total p ss)
    member_part f k h =
        let x = combination_part h.factors gs (All-contains_itself gs) h.polys in (
          x.multiples,
          x.each,
          sym (canonical_same p (part shift d f) (canonical_part p f k))
              ∙ normal_ext p (part shift d f) (total p x.multiples) (λ χ. ap (λ (w : ℕ). w % p) (weigh-part χ f ∙ ap (weigh (at shift d χ)) h.combined) ∙ x.same χ)
              ∙ normal-total p x.multiples,
        )
