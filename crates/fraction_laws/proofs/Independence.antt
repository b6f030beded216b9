-- Independence modulo A, over the numbers modulo p and over coefficients below p.
use Rattle.std.proofs.Common.{◌≡◌, sym, subst, ◌∙◌, ℕ, ◌<◌, ◌%◌, List, [], ◌∷◌, map, All, mod-lt, mod-eq_of_lt}
use Rattle.std.proofs.lemmas.List.{length-map}
use Rattle.std.proofs.lemmas.List.Elements.{All-nil, All-cons, All-head, All-tail}
use native.Mathlib.Nat.{mod-mod}
use Rattle.std.specs.List.{Contains}
use Rattle.prime_field.specs.Primes.{IsPrime}
use Rattle.comm_ring.specs.Ring.{CommRing, IsRingMap, pow}
use Rattle.comm_ring.specs.Residues.{residue_ops}
use Rattle.comm_ring.specs.Modules.{ModuleOps, IsSubmodule, combination, module_through}
use Rattle.comm_ring.specs.Modules as Linear
use Rattle.comm_ring.proofs.Residues.{residues}
use Rattle.prime_field.proofs.Table.{positive_of_prime}
use Rattle.comm_ring.proofs.Modules.{Module, through, combination-map}
use Rattle.comm_ring.proofs.Quotients.{quotient, origin_modulo, modulo_origin}
use Rattle.fraction_laws.specs.Fractions.{Frac, InA, LocalTo, fraction_space, LocalIndependent}
use Rattle.fraction_laws.proofs.Settings.{Each, EachN, Local, Independent, Beyond}
use Rattle.fraction_laws.proofs.Forms as Forms
use Rattle.fraction_laws.proofs.Forms.{fraction_ground}
use Rattle.fraction_laws.proofs.FractionRing.{fractions, whole_ring}
use Rattle.fraction_laws.proofs.WrittenOut.{Gens, local_up, local_down, em_whole}
use Rattle.fraction_laws.proofs.Premises.{combination_is, scalar-zero}
use Rattle.fraction_laws.proofs.Translations.{local_in, local_out}

module _ (Q : CommRing) (d : Q.carrier) (cancel : (x : Q.carrier) → Q.◌≈◌ (Q.◌⊗◌ d x) Q.𝟘 → Q.◌≈◌ x Q.𝟘)
    (p : ℕ) (prime : IsPrime p) (scalar : ℕ → Q.carrier) (m : IsRingMap (residue_ops p) Q.ops scalar) where
  open Q use {ops, carrier, ◌≈◌, ◌⊕◌, ◌⊗◌, neg, 𝟘, 𝟙, rfl, symm, trans, add_cong, mul_cong, mul_one}

  infix 40 ◌≈◌
  infixl 60 ◌⊕◌
  infixl 70 ◌⊗◌
  pub positive : 0 < p
  positive = positive_of_prime p prime

  abbrev pub K : CommRing
  K = residues p positive

  abbrev pub Fr : CommRing
  Fr = fractions Q d cancel

  -- the residues as fractions
  abbrev pub scal : ℕ → Frac ops d
  scal c = (scalar c, 0)

  pub scalar_map : IsRingMap (residue_ops p) Fr.ops scal
  unfolding pow
  scalar_map = record {
    resp = λ x y e. mul_cong (m.resp x y e) (rfl 𝟙);
    one = mul_cong m.one (rfl 𝟙);
    add = λ x y. mul_cong (trans (m.add x y) (symm (add_cong (mul_one (scalar x)) (mul_one (scalar y))))) (rfl 𝟙);
    mul = λ x y. mul_cong (m.mul x y) (rfl 𝟙);
  }

  abbrev pub whole : Module K
  whole = through K Fr scal scalar_map

  pub A_submodule : IsSubmodule (module_through Fr.ops scal) (InA ops d)
  A_submodule = record {
    resp = (whole_ring Q d cancel).resp;
    none = (whole_ring Q d cancel).resp (scal 0) (𝟘, 0) (scal_none) (em_whole Q d cancel (scalar 0));
    add = (whole_ring Q d cancel).add;
    scale = λ c x h. (whole_ring Q d cancel).mul (scal c) x (em_whole Q d cancel (scalar c)) h;
  }
    where
      scal_none : Fr.◌≈◌ (scal 0) (𝟘, 0)
      scal_none = mul_cong (scalar-zero Q p prime scalar m) (rfl (pow ops d 0))

  -- fractions modulo A over the numbers modulo p
  abbrev pub FractionSpace : Module K
  FractionSpace = quotient K whole (InA ops d) A_submodule

  abbrev Space : ModuleOps ℕ
  Space = fraction_space ops d p scalar

  abbrev Ind : List (Frac ops d) → Type 0
  Ind fs = Linear.Independent (residue_ops p) Space fs

  abbrev Low : List (Frac ops d) → Type 0
  Low fs = Independent (fraction_ground ops d) p scal fs

  zeros_in : (cs : List ℕ) → EachN (λ c. c < p) cs → All (λ c. c % p ≡ 0 % p) cs → EachN (λ c. c ≡ 0) cs
  zeros_in [] s h = tt
  zeros_in (c ∷ cs) s h = (sym (mod-eq_of_lt s.0) ∙ All-head (λ e. e % p ≡ 0 % p) c cs h ∙ mod-eq_of_lt positive, zeros_in cs s.1 (All-tail (λ e. e % p ≡ 0 % p) c cs h))

  zeros_out : (cs : List ℕ) → EachN (λ c. c ≡ 0) (map (λ c. c % p) cs) → All (λ c. c % p ≡ 0 % p) cs
  zeros_out [] h = All-nil (λ c. c % p ≡ 0 % p)
  zeros_out (c ∷ cs) h = All-cons (λ e. e % p ≡ 0 % p) c cs (h.0 ∙ sym (mod-eq_of_lt positive)) (zeros_out cs h.1)

  reduced : (cs : List ℕ) → EachN (λ c. c < p) (map (λ c. c % p) cs)
  reduced [] = tt
  reduced (c ∷ cs) = (mod-lt c positive, reduced cs)

  pub independent_in : (fs : List (Frac ops d)) → Ind fs → Low fs
  independent_in fs i cs l s h = zeros_in cs s (i cs l
      (origin_modulo K whole (InA ops d) A_submodule (combination (module_through Fr.ops scal) cs fs)
      (subst (InA ops d) (combination_is Fr.ops scal cs fs) h)))

  pub independent_out : (fs : List (Frac ops d)) → Low fs → Ind fs
  independent_out fs i cs l h = zeros_out cs (i (map (λ c. c % p) cs) (simp length-map l) (reduced cs)
      (subst (InA ops d) (sym (combination_is Fr.ops scal (map (λ c. c % p) cs) fs))
      ((whole_ring Q d cancel).resp (combination (module_through Fr.ops scal) cs fs) (combination (module_through Fr.ops scal) (map (λ c. c % p) cs) fs)
      (whole.symm (combination-map K whole (λ c. c % p) (λ c. mod-mod c p) cs fs))
      (modulo_origin K whole (InA ops d) A_submodule (combination (module_through Fr.ops scal) cs fs) h))))

  module _ (P : List carrier) where
    abbrev Gn : Frac ops d → Type 0
    Gn = Gens Q d cancel (Forms.Mem ops d P)

    abbrev Loc : Frac ops d → Type 0
    Loc f = LocalTo ops d (Contains P) f.0 f.1

    locals_in : (fs : List (Frac ops d)) → All Loc fs → Each Fr.ops (Local (fraction_ground ops d) Gn) fs
    locals_in [] h = tt
    locals_in (f ∷ fs) h = (local_up Q d cancel (Forms.Mem ops d P) f.0 f.1 (local_in Q d P f.0 f.1 (All-head Loc f fs h)), locals_in fs (All-tail Loc f fs h))

    locals_out : (fs : List (Frac ops d)) → Each Fr.ops (Local (fraction_ground ops d) Gn) fs → All Loc fs
    locals_out [] h = All-nil Loc
    locals_out (f ∷ fs) h = All-cons Loc f fs (local_out Q d P f.0 f.1 (local_down Q d cancel (Forms.Mem ops d P) f.0 f.1 h.0)) (locals_out fs h.1)

    pub beyond_in : (r : ℕ) → LocalIndependent ops d p scalar P r → Beyond (fraction_ground ops d) p scal Gn r
    beyond_in r b = (b.0, b.1, locals_in b.0 b.2, independent_in b.0 b.3)

    pub beyond_out : (r : ℕ) → Beyond (fraction_ground ops d) p scal Gn r → LocalIndependent ops d p scalar P r
    beyond_out r b = (b.0, b.1, locals_out b.0 b.2, independent_out b.0 b.3)
