-- The polynomials modulo an ideal as a module over the residues.
use Rattle.std.proofs.Common.{◌≡◌, ◌⊎◌, inl, inr, ℕ, List, [], ◌∷◌, All, refl, sym, ap, ap₂, ◌∙◌, subst, mod-eq_of_lt}
use Rattle.std.specs.List.{Contains}
use Rattle.std.proofs.lemmas.List.Elements.{All-head, All-tail}
use Rattle.prime_field.specs.Primes.{IsPrime}
use Rattle.comm_ring.specs.Ring.{CommRing, IsRingMap}
use Rattle.comm_ring.specs.Residues.{residue_ops}
use Rattle.comm_ring.specs.Modules.{IsSubmodule, combine, combination, InSpan, module_through}
use Rattle.comm_ring.proofs.Residues.{residues}
use Rattle.comm_ring.proofs.Modules.{Module, through}
use Rattle.comm_ring.proofs.Quotients.{quotient, equal_modulo, modulo_origin}
use Rattle.monomials.specs.Mono.{unit}
use Rattle.polys.specs.declared.term.Term.{Term}
use Rattle.polys.specs.Terms.{IsPoly, keep, add, sub, mul}
use Rattle.polys.specs.Ideal.{InIdeal, number_combination, Spans}
use Rattle.polys.specs.Ring.{Member}
use Rattle.polys.proofs.Affine.{constant, poly_constant, mul_constant, sevens_of}
use Rattle.ideal_laws.proofs.Ideals.{in_none, in_add, in_mul}
use Rattle.polys.proofs.Instance.{polynomials}
use Rattle.ideal_laws.proofs.Unique.{contains_head, contains_tail, contains_cases, contains_none}
use Rattle.homogenising.proofs.Spanning.{pos, two}
use Rattle.ideal_laws.proofs.Constants.{constant_sum, constant_product}
use Rattle.ideal_laws.proofs.Members.{lift, length-lift}

-- ---- lists of polynomials as lists of members

pub contains_lift : (p n : ℕ) (fs : List (List Term)) (a : All (IsPoly p n) fs) (f : List Term) → Contains fs f → (u : Member p n) × Contains (lift p n fs a) u × (u.terms ≡ f)
unfolding lift
contains_lift p n [] a f c = absurd (contains_none f c)
contains_lift p n (g ∷ fs) a f c = go (contains_cases g f fs c) (contains_lift p n fs rest f)
  where
    rest : All (IsPoly p n) fs
    rest = All-tail (IsPoly p n) g fs a

    first : Member p n
    first = record { terms = g; is_poly = All-head (IsPoly p n) g fs a }

    Found : List (Member p n) → Type 0
    Found us = (u : Member p n) × Contains us u × (u.terms ≡ f)

    go : (g ≡ f) ⊎ Contains fs f → (Contains fs f → Found (lift p n fs rest)) → Found (first ∷ lift p n fs rest)
    go (inl e) k = (first, contains_head first (lift p n fs rest), e)
    go (inr d) k = let u = k d in (u.0, contains_tail first u.0 (lift p n fs rest) u.1, u.2)

module _ (p n : ℕ) (prime : IsPrime p) where
  abbrev pub Poly : Type 0
  Poly = Member p n

  abbrev pub Ring : CommRing
  Ring = polynomials p n (two p n prime)

  abbrev pub K : CommRing
  K = residues p (pos p n prime)

  abbrev pub scalar : ℕ → Poly
  scalar e = record { terms = constant p e; is_poly = poly_constant p n e (pos p n prime) }

  pub scalar_map : IsRingMap (residue_ops p) Ring.ops scalar
  scalar_map = record {
    resp = λ x y e. ap (λ r. keep r unit []) e;
    one = ap (λ r. keep r unit []) (mod-eq_of_lt (two p n prime));
    add = constant_sum p (pos p n prime);
    mul = constant_product p (pos p n prime);
  }

  pub combination-numbers : (cs : List ℕ) (us : List (List Term)) (a : All (IsPoly p n) us)
      → (combination (module_through Ring.ops scalar) cs (lift p n us a)).terms ≡ number_combination p cs us
  unfolding combine lift
  combination-numbers [] us a = refl
  combination-numbers (e ∷ cs) [] a = refl
  combination-numbers (e ∷ cs) (u ∷ us) a =
      ap₂ (add p) (mul_constant p e u (sevens_of p n u (All-head (IsPoly p n) u us a))) (combination-numbers cs us (All-tail (IsPoly p n) u us a))

  module _ (gs : List (List Term)) where
    abbrev pub Inside : Poly → Type 0
    Inside f = InIdeal p n gs f.terms

    pub ideal : IsSubmodule (module_through Ring.ops scalar) Inside
    ideal = record {
      resp = λ x y e h. subst (InIdeal p n gs) e h;
      none = in_none p n gs;
      add = λ x y h k. in_add p n gs x.terms y.terms (pos p n prime) h k;
      scale = λ e x h. in_mul p n gs (constant p e) x.terms (pos p n prime) (poly_constant p n e (pos p n prime)) h;
    }

    abbrev pub space : Module K
    space = quotient K (through K Ring scalar scalar_map) Inside ideal

    -- polynomials with one list of terms are equal
    pub equal : (x y : Poly) → x.terms ≡ y.terms → space.◌≋◌ x y
    equal x y e = equal_modulo K (through K Ring scalar scalar_map) Inside ideal x y e

    -- what spans up to the ideal spans the module
    pub spanned : (us : List (List Term)) (s : Spans p n gs us) (f : Poly) → InSpan space.ops (lift p n us s.polys) f
    spanned us s f =
        let w = s.each f.terms f.is_poly in (
          w.residues,
          w.as_many ∙ sym (length-lift p n us s.polys),
          subst (InIdeal p n gs) (sym (ap (sub p f.terms) (combination-numbers w.residues us s.polys))) w.close,
        )

    -- a combination that is 0 in the module is in the ideal
    pub vanishing : (cs : List ℕ) (us : List (List Term)) (a : All (IsPoly p n) us) → space.◌≋◌ (combination space.ops cs (lift p n us a)) space.origin
        → InIdeal p n gs (number_combination p cs us)
    vanishing cs us a h =
        subst (InIdeal p n gs) (combination-numbers cs us a)
        (modulo_origin K (through K Ring scalar scalar_map) Inside ideal (combination (module_through Ring.ops scalar) cs (lift p n us a)) h)
