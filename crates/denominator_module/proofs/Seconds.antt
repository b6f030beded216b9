-- The second parts of the members of a basis whose leads lie there.
use Rattle.std.proofs.Common.{◌≡◌, ◌⊎◌, inl, inr, ℕ, ◌+◌, ◌-◌, ◌*◌, ◌≤◌, zero, suc, List, [], ◌∷◌, cond, Bool, true, false, ◌==◌, refl, sym, ap, ◌∙◌, subst, arith, eqb-true}
use Rattle.std.proofs.lemmas.Bool.{eqb-false}
use Rattle.std.specs.declared.cmp.Ordering.TheVariants.{Greater}
use Rattle.std.specs.List.{All, Contains}
use Rattle.std.proofs.lemmas.List.Elements.{All-nil, All-cons, All-head, All-tail}
use Rattle.monomials.specs.Mono.{Monomial, total_degree, cmp_dp}
use Rattle.polys.specs.declared.term.Term.{Term}
use Rattle.polys.specs.Terms.{EachMono, IsCanonical, IsMonic}
use Rattle.polys.specs.Poly.{IsPlain}
use Rattle.polys.proofs.Each.{every_more, every_zip}
use Rattle.polys.proofs.Leads.{every_low}
use Rattle.ideal_laws.proofs.Unique.{contains_head, contains_tail, contains_cases, contains_none}
use Rattle.polys.proofs.Weights.{canon}
use Rattle.graded_modules.specs.Vector.{IsGraded, IsGenerator, degree_at, lead_mono}
use Rattle.homogenising.specs.Homogenised.{dehomogenised, all_dehomogenised}
use Rattle.homogenising.specs.Laws.{IsHomogeneousPoly}
use Rattle.denominator_module.specs.Module.{first, second, colon_members}
use Rattle.denominator_module.proofs.Components.{lowered, IsFirstOrSecond, every_second, canonical_second}
use Rattle.denominator_module.proofs.Firsts.{none_first, stays_second}

-- the second parts, still homogeneous
abbrev pub seconds_of : List (List Term) → List (List Term)
seconds_of [] = []
seconds_of (b ∷ bs) = cond ((lead_mono b).component == 0) (seconds_of bs) (second b ∷ seconds_of bs)

pub colons_are : (p : ℕ) (bs : List (List Term)) → colon_members p bs ≡ all_dehomogenised p (seconds_of bs)
colons_are p [] = refl
colons_are p (b ∷ bs) = go ((lead_mono b).component == 0) (colons_are p bs)
  where
    go : (c : Bool) → colon_members p bs ≡ all_dehomogenised p (seconds_of bs)
        → cond c (colon_members p bs) (dehomogenised p (second b) ∷ colon_members p bs) ≡ all_dehomogenised p (cond c (seconds_of bs) (second b ∷ seconds_of bs))
    go true ih = ih
    go false ih = λ i. dehomogenised p (second b) ∷ ih i

pub all_seconds : (P Q : List Term → Type 0) (bs : List (List Term)) → ((b : List Term) → P b → ((lead_mono b).component ≡ 0 → ⊥) → Q (second b)) → All P bs → All Q (seconds_of bs)
all_seconds P Q [] h a = All-nil Q
all_seconds P Q (b ∷ bs) h a = go ((lead_mono b).component == 0) refl (all_seconds P Q bs h (All-tail P b bs a))
  where
    go : (c : Bool) → ((lead_mono b).component == 0) ≡ c → All Q (seconds_of bs) → All Q (cond c (seconds_of bs) (second b ∷ seconds_of bs))
    go true e ih = ih
    go false e ih = All-cons Q (second b) (seconds_of bs) (h b (All-head P b bs a) (eqb-false (lead_mono b).component 0 e)) ih

pub contains_seconds : (bs : List (List Term)) (b : List Term) → Contains bs b → ((lead_mono b).component ≡ 0 → ⊥) → Contains (seconds_of bs) (second b)
contains_seconds [] b c z = absurd (contains_none b c)
contains_seconds (q ∷ bs) b c z = go ((lead_mono q).component == 0) refl (contains_cases q b bs c) (contains_seconds bs b)
  where
    go : (k : Bool) → ((lead_mono q).component == 0) ≡ k → (q ≡ b) ⊎ Contains bs b → (Contains bs b → ((lead_mono b).component ≡ 0 → ⊥) → Contains (seconds_of bs) (second b))
        → Contains (cond k (seconds_of bs) (second q ∷ seconds_of bs)) (second b)
    go true e (inl s) ih = absurd (z (sym (ap (λ w. (lead_mono w).component) s) ∙ eqb-true (lead_mono q).component 0 e))
    go true e (inr c) ih = ih c z
    go false e (inl s) ih = subst (λ w. Contains (second q ∷ seconds_of bs) (second w)) s (contains_head (second q) (seconds_of bs))
    go false e (inr c) ih = contains_tail (second q) (second b) (seconds_of bs) (ih c z)

pub lead_second : (b : List Term) → ((lead_mono b).component ≡ 0 → ⊥) → lead_mono (second b) ≡ lowered (lead_mono b)
lead_second [] z = absurd (z refl)
lead_second (t ∷ f) z = go (t.mono.component == 0) refl
  where
    go : (c : Bool) → (t.mono.component == 0) ≡ c
        → lead_mono (cond c (second f) (record { coeff = t.coeff; mono = record { exponents = t.mono.exponents; component = 0 } } ∷ second f)) ≡ lowered t.mono
    go true e = absurd (z (eqb-true t.mono.component 0 e))
    go false e = refl

pub monic_second : (b : List Term) → IsMonic b → ((lead_mono b).component ≡ 0 → ⊥) → IsMonic (second b)
monic_second [] m z = absurd m
monic_second (t ∷ f) m z = go (t.mono.component == 0) refl
  where
    go : (c : Bool) → (t.mono.component == 0) ≡ c
        → IsMonic (cond c (second f) (record { coeff = t.coeff; mono = record { exponents = t.mono.exponents; component = 0 } } ∷ second f))
    go true e = absurd (z (eqb-true t.mono.component 0 e))
    go false e = m

-- a vector that begins in the second component has no first part
pub second_alone : (p : ℕ) (b : List Term) → IsCanonical p b → ((lead_mono b).component ≡ 0 → ⊥) → first b ≡ []
second_alone p [] c z = refl
second_alone p (t ∷ f) c z =
    none_first (t ∷ f) (z, every_more (λ w. cmp_dp t.mono w ≡ Greater) (λ m. m.component ≡ 0 → ⊥) f (λ w x. stays_second t.mono w z x) (every_low p t.mono f (canon p f c.3) c.2))

pub one_of : (a : ℕ) → (a ≡ 0 → ⊥) → a ≤ 1 → a ≡ 1
one_of zero h x = absurd (h refl)
one_of (suc a) h x = omega arith

pub second_homogeneous : (p n shift : ℕ) (b : List Term) → IsGenerator p n shift b → IsHomogeneousPoly p n (second b)
second_homogeneous p n shift b h =
    record {
      generator = record {
        vector = record {
          canonical = canonical_second p b (every_more (IsGraded n) IsFirstOrSecond b (λ m x. x.two) h.vector.graded) h.vector.canonical;
          graded = every_second (IsGraded n) (IsGraded n) b (λ m z x. record { seven = x.seven; first = x.first; two = (omega arith) }) h.vector.graded;
        };
        homogeneous = (h.homogeneous.0 - shift, degrees);
      };
      plain = every_second (IsGraded n) IsPlain b (λ m z x. refl) h.vector.graded;
    }
  where
    degrees : EachMono (λ m. degree_at 0 m ≡ h.homogeneous.0 - shift) (second b)
    degrees =
        every_second (λ m. IsGraded n m × (degree_at shift m ≡ h.homogeneous.0)) (λ m. degree_at 0 m ≡ h.homogeneous.0 - shift) b
        (λ m z x. at m (one_of m.component z x.0.two) x.1) (every_zip (IsGraded n) (λ m. degree_at shift m ≡ h.homogeneous.0) b h.vector.graded h.homogeneous.1)
      where
        at : (m : Monomial) → m.component ≡ 1 → degree_at shift m ≡ h.homogeneous.0 → degree_at 0 (lowered m) ≡ h.homogeneous.0 - shift
        at m c e =
            let d : total_degree m.exponents + 1 * shift ≡ h.homogeneous.0 = sym (λ i. total_degree m.exponents + c i * shift) ∙ e in
            omega arith
