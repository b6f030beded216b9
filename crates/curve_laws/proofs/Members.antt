-- Polynomials as members of a commutative ring: lists, ideals and powers of the two kinds.
use Rattle.std.proofs.Common.{◌≡◌, ℕ, zero, suc, ◌<◌, List, [], ◌∷◌, length, All, refl, sym, ap, ◌∙◌, subst}
use Rattle.std.proofs.lemmas.List.{length-map}
use Rattle.comm_ring.specs.Ring.{CommRing, pow}
use Rattle.comm_ring.specs.Modules.{combine, combination, own_module}
use Rattle.comm_ring.specs.Ideals as Ideals
use Rattle.polys.specs.declared.term.Term.{Term}
use Rattle.polys.specs.Terms.{IsPoly, add, mul, power}
use Rattle.polys.specs.Ideal as Polys
use Rattle.polys.specs.Ideal.{InIdeal}
use Rattle.polys.specs.Ring.{Member}
use Rattle.polys.proofs.Instance.{polynomials}
use Rattle.ideal_laws.proofs.Members.{terms_of, lift, terms-lift, polys_of}

module _ (p n : ℕ) (h : 1 < p) where
  abbrev pub R : CommRing
  R = polynomials p n h

  pub combination-terms : (qs gs : List (Member p n)) → (combination (own_module R.ops) qs gs).terms ≡ Polys.combination p (terms_of qs) (terms_of gs)
  unfolding combine
  combination-terms [] gs = refl
  combination-terms (q ∷ qs) [] = refl
  combination-terms (q ∷ qs) (g ∷ gs) = ap (λ z. add p (mul p q.terms g.terms) z) (combination-terms qs gs)

  -- an ideal of members, as one of polynomials
  pub ideal_down : (gs : List (Member p n)) (f : Member p n) → Ideals.InIdeal R.ops gs f → InIdeal p n (terms_of gs) f.terms
  ideal_down gs f i = record {
    factors = terms_of i.0;
    polys = polys_of p n i.0;
    as_many = simp length-map i.1;
    combined = i.2 ∙ combination-terms i.0 gs;
  }

  pub ideal_up : (gs : List (Member p n)) (f : Member p n) → InIdeal p n (terms_of gs) f.terms → Ideals.InIdeal R.ops gs f
  ideal_up gs f i = (
    lift p n i.factors i.polys,
    (let e : length (lift p n i.factors i.polys) ≡ length i.factors = sym (length-map _ _) ∙ ap length (terms-lift p n i.factors i.polys) in let l : length i.factors ≡ length gs = simp length-map at i.as_many in e ∙ l),
    i.combined ∙ ap (λ l. Polys.combination p l (terms_of gs)) (sym (terms-lift p n i.factors i.polys)) ∙ sym (combination-terms (lift p n i.factors i.polys) gs),
  )

  -- a list of polynomials in place of the members
  pub ideal_from : (fs : List (List Term)) (a : All (IsPoly p n) fs) (f : Member p n) → InIdeal p n fs f.terms → Ideals.InIdeal R.ops (lift p n fs a) f
  ideal_from fs a f i = ideal_up (lift p n fs a) f (subst (λ l. InIdeal p n l f.terms) (sym (terms-lift p n fs a)) i)

  pub ideal_to : (fs : List (List Term)) (a : All (IsPoly p n) fs) (f : Member p n) → Ideals.InIdeal R.ops (lift p n fs a) f → InIdeal p n fs f.terms
  ideal_to fs a f i = subst (λ l. InIdeal p n l f.terms) (terms-lift p n fs a) (ideal_down (lift p n fs a) f i)

  pub pow-terms : (f : Member p n) (k : ℕ) → (pow R.ops f k).terms ≡ power p f.terms k
  unfolding pow
  pow-terms f zero = refl
  pow-terms f (suc k) = ap (mul p f.terms) (pow-terms f k)
