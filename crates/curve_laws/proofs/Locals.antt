-- Fractions that are local at a list of polynomials, as fractions of the ring modulo I.
use Rattle.std.proofs.Common.{◌≡◌, ℕ, List, [], ◌∷◌, All, refl, sym, ap, ap₂, ◌∙◌, subst}
use Rattle.std.specs.List.{Contains}
use Rattle.std.proofs.lemmas.List.{length-map}
use Rattle.std.proofs.lemmas.List.Elements.{All-nil, All-cons, All-head, All-tail, All-weaker, All-contains}
use Rattle.comm_ring.specs.Ring.{pow}
use Rattle.comm_ring.specs.Sums as Sums
use Rattle.comm_ring.specs.Sums.{joined}
use Rattle.fraction_laws.specs.Fractions.{MultipleOf, LocalTo}
use Rattle.polys.specs.declared.term.Term.{Term}
use Rattle.polys.specs.Terms.{IsPoly, mul, product}
use Rattle.polys.specs.Ideal.{InIdeal}
use Rattle.polys.specs.Curve.{CurveData}
use Rattle.polys.specs.Ring.{Member}
use Rattle.curve_model.specs.Fraction.{Fraction, IsFraction, denominator_power}
use Rattle.curve_model.specs.Local.{Local}
use Rattle.curve_model.specs.Laws.{IsRegular}
use Rattle.curve_laws.proofs.Members.{ideal_up, ideal_down}
use Rattle.ideal_laws.proofs.Members.{terms_of, lift, terms-lift, length-lift}
use Rattle.curve_laws.proofs.Facts.{contains_terms, contains_member}
use Rattle.curve_laws.proofs.Chains.{multiple_in, multiple_out}
use Rattle.curve_laws.proofs.Base.{high, Ring, Poly, I, d, Q, member, pow_d}
use Rattle.curve_laws.proofs.Equations.{integral_up, integral_down}

-- members of a list of polynomials are polynomials
pub members_poly : (p n : ℕ) (P l : List (List Term)) → All (IsPoly p n) P → All (Contains P) l → All (IsPoly p n) l
members_poly p n P l a h = All-weaker (Contains P) (IsPoly p n) (λ f c. All-contains (IsPoly p n) P f a c) l h

-- lists of members of P, of the two kinds
pub contained_up : (p n : ℕ) (P : List (List Term)) (a : All (IsPoly p n) P) (l : List (List Term)) (b : All (IsPoly p n) l) → All (Contains P) l → All (Contains (lift p n P a)) (lift p n l b)
unfolding lift
contained_up p n P a [] b h = All-nil (Contains (lift p n P a))
contained_up p n P a (f ∷ l) b h = All-cons (Contains (lift p n P a)) (record { terms = f; is_poly = All-head (IsPoly p n) f l b }) (lift p n l (All-tail (IsPoly p n) f l b))
    (contains_member (lift p n P a) (record { terms = f; is_poly = All-head (IsPoly p n) f l b }) (subst (λ g. Contains g f) (sym (terms-lift p n P a)) (All-head (Contains P) f l h)))
    (contained_up p n P a l (All-tail (IsPoly p n) f l b) (All-tail (Contains P) f l h))

pub contained_down : (p n : ℕ) (P : List (List Term)) (a : All (IsPoly p n) P) (l : List (Member p n)) → All (Contains (lift p n P a)) l → All (Contains P) (terms_of l)
contained_down p n P a [] h = All-nil (Contains P)
contained_down p n P a (f ∷ l) h = All-cons (Contains P) f.terms (terms_of l)
    (subst (λ g. Contains g f.terms) (terms-lift p n P a) (contains_terms (lift p n P a) f (All-head (Contains (lift p n P a)) f l h)))
    (contained_down p n P a l (All-tail (Contains (lift p n P a)) f l h))

module _ (A : CurveData) (c : IsRegular A) where
  pub product-terms : (l : List (Poly A c)) → (Sums.product (Q A c) (λ x. x) l).terms ≡ product A.prime (terms_of l)
  unfolding joined
  product-terms [] = refl
  product-terms (f ∷ l) = ap (mul A.prime f.terms) (product-terms l)

  -- what lies in the ideal of I with d^k is a multiple of d^k modulo I
  module _ (k : ℕ) where
    e : Poly A c
    e = pow (Q A c) (d A c) k

    generators : terms_of (pow (Q A c) (d A c) k ∷ I A c) ≡ denominator_power A k ∷ A.ideal
    generators = ap₂ ◌∷◌ (pow_d A c k) (terms-lift A.prime A.variables A.ideal c.ideal)

    pub taken_up : (x : Poly A c) → InIdeal A.prime A.variables (denominator_power A k ∷ A.ideal) x.terms → MultipleOf (Q A c) (d A c) k x
    taken_up x h = multiple_in (Ring A c) (I A c) (pow (Q A c) (d A c) k) x
        (ideal_up A.prime A.variables (high A c) (pow (Q A c) (d A c) k ∷ I A c) x (subst (λ g. InIdeal A.prime A.variables g x.terms) (sym generators) h))

    pub taken_down : (x : Poly A c) → MultipleOf (Q A c) (d A c) k x → InIdeal A.prime A.variables (denominator_power A k ∷ A.ideal) x.terms
    taken_down x h = subst (λ g. InIdeal A.prime A.variables g x.terms) generators
        (ideal_down A.prime A.variables (high A c) (pow (Q A c) (d A c) k ∷ I A c) x (multiple_out (Ring A c) (I A c) (pow (Q A c) (d A c) k) x h.0 h.1))

  module _ (P : List (List Term)) (a : All (IsPoly A.prime A.variables) P) (f : Fraction) (h : IsFraction A f) where
    abbrev Points : List (Poly A c)
    Points = lift A.prime A.variables P a

    pub local_up : Local A P f → LocalTo (Q A c) (d A c) (Contains Points) (member A c f.numerator h) f.exponent
    local_up w = (
      integral_up A c f h w.integral,
      (
        w.m,
        λ l s q. taken_up f.exponent ((Q A c).◌⊗◌ (Sums.product (Q A c) (λ x. x) l) (member A c f.numerator h))
            (subst (λ z. InIdeal A.prime A.variables (denominator_power A f.exponent ∷ A.ideal) (mul A.prime z f.numerator)) (sym (product-terms l))
            (w.takes (terms_of l) (record { as_many = length-map l (λ g. g.terms) ∙ s; members = contained_down A.prime A.variables P a l q }))),
      ),
    )

    pub local_down : LocalTo (Q A c) (d A c) (Contains Points) (member A c f.numerator h) f.exponent → Local A P f
    local_down w = record {
      integral = integral_down A c f h w.0;
      m = w.1.0;
      takes = λ l s.
          let b = members_poly A.prime A.variables P l a s.members in
          let ms = lift A.prime A.variables l b in
          subst (λ z. InIdeal A.prime A.variables (denominator_power A f.exponent ∷ A.ideal) (mul A.prime z f.numerator)) (product-terms ms ∙ ap (product A.prime) (terms-lift A.prime A.variables l b))
          (taken_down f.exponent ((Q A c).◌⊗◌ (Sums.product (Q A c) (λ x. x) ms) (member A c f.numerator h))
          (w.1.1 ms (length-lift A.prime A.variables l b ∙ s.as_many) (contained_up A.prime A.variables P a l b s.members)));
    }
