-- Homogenising a polynomial, and setting the variable to 1 in a homogeneous one.
use Rattle.std.proofs.Common.{◌≡◌, ℕ, ◌≤◌, List, [], ◌∷◌, refl, sym, ap, ◌∙◌, subst, arith}
use Rattle.monomials.specs.Mono.{Monomial, total_degree}
use Rattle.polys.specs.declared.term.Term.{Term}
use Rattle.polys.specs.Terms.{EachMono, IsCanonical, IsAffine, IsPoly, IsMonic, normal, degree_of}
use Rattle.polys.specs.Poly.{IsPlain}
use Rattle.polys.proofs.Degrees.{AtMost, each_degree}
use Rattle.polys.proofs.Each.{every_zip, every_more}
use Rattle.polys.proofs.Units.{canonical_same}
use Rattle.graded_modules.specs.Vector.{IsGraded, IsOfDegree, degree_at, lead_mono}
use Rattle.homogenising.specs.Homogenised.{dehomogenised}
use Rattle.homogenising.specs.Laws.{IsHomogeneousPoly, HomogenisedLaws, DehomogenisedLaws}
use Rattle.homogenising.proofs.Order.{lift}
use Rattle.homogenising.proofs.Images.{image, image_image, image_self, canonical_image, every_image}
use Rattle.homogenising.proofs.Monomials.{lower, lift_order, lower_lift, graded_lift, degree_lift, affine_lower, lower_order}

module _ (p n : ℕ) (six : n ≤ 6) where
  -- a monomial of a polynomial of degree at most K
  abbrev pub Fits : ℕ → Monomial → Type 0
  Fits K m = IsAffine n m × AtMost K m

  pub fits : (f : List Term) → IsPoly p n f → EachMono (Fits (degree_of f)) f
  fits f h = every_zip (IsAffine n) (AtMost (degree_of f)) f h.affine (each_degree f)

  -- a polynomial lifted to a degree that is no smaller than its own
  pub lifted : (K : ℕ) (f : List Term) → IsCanonical p f → EachMono (Fits K) f → IsHomogeneousPoly p n (image (lift K) f)
  lifted K f c h =
      record {
        generator = record {
          vector = record {
            canonical = canonical_image p (Fits K) (lift K) f (λ a b x y. lift_order n six K a b x.0 x.1 y.0 y.1) h c;
            graded = every_image (Fits K) (IsGraded n) (lift K) f (λ m x. graded_lift n six K m x.0) h;
          };
          homogeneous = (K, degrees K f h);
        };
        plain = every_image (Fits K) IsPlain (lift K) f (λ m x. x.0.plain) h;
      }
    where
      degrees : (K : ℕ) (f : List Term) → EachMono (Fits K) f → IsOfDegree 0 K (image (lift K) f)
      degrees K f h = every_image (Fits K) (λ m. degree_at 0 m ≡ K) (lift K) f (λ m x. let d = degree_lift n six K m x.0 x.1 in omega arith) h

  pub degrees_lifted : (K : ℕ) (f : List Term) → EachMono (Fits K) f → IsOfDegree 0 K (image (lift K) f)
  degrees_lifted K f h = every_image (Fits K) (λ m. degree_at 0 m ≡ K) (lift K) f (λ m x. let d = degree_lift n six K m x.0 x.1 in omega arith) h

  pub lowered_lifted : (K : ℕ) (f : List Term) → IsPoly p n f → dehomogenised p (image (lift K) f) ≡ f
  lowered_lifted K f h =
      ap (normal p) (image_image lower (lift K) f ∙ image_self (IsAffine n) (λ m. lower (lift K m)) f (lower_lift n six K) h.affine) ∙ canonical_same p f h.canonical

  -- ---- homogeneous polynomials

  -- a monomial of a homogeneous polynomial of degree e
  pub record IsLevel (e : ℕ) (m : Monomial) : Type 0 where
    pub graded : IsGraded n m
    pub plain : IsPlain m
    pub degree : total_degree m.exponents ≡ e

  pub levels : (g : List Term) (h : IsHomogeneousPoly p n g) → EachMono (IsLevel h.generator.homogeneous.0) g
  levels g h =
      every_more (λ m. (IsGraded n m × IsPlain m) × (degree_at 0 m ≡ h.generator.homogeneous.0)) (IsLevel h.generator.homogeneous.0) g
      (λ m x. let d = x.1 in record { graded = x.0.0; plain = x.0.1; degree = (omega arith) })
      (every_zip (λ m. IsGraded n m × IsPlain m) (λ m. degree_at 0 m ≡ h.generator.homogeneous.0) g (every_zip (IsGraded n) IsPlain g h.generator.vector.graded h.plain) h.generator.homogeneous.1)

  pub lowered_canonical : (g : List Term) → IsHomogeneousPoly p n g → IsCanonical p (image lower g)
  lowered_canonical g h =
      canonical_image p (IsLevel h.generator.homogeneous.0) lower g
      (λ a b x y. lower_order n six h.generator.homogeneous.0 a b x.graded x.plain x.degree y.graded y.plain y.degree) (levels g h) h.generator.vector.canonical

  pub lowered : (g : List Term) → IsHomogeneousPoly p n g → dehomogenised p g ≡ image lower g
  lowered g h = canonical_same p (image lower g) (lowered_canonical g h)

  pub lowered_poly : (g : List Term) → IsHomogeneousPoly p n g → IsPoly p n (dehomogenised p g)
  lowered_poly g h =
      subst (IsPoly p n) (sym (lowered g h))
      (record {
        canonical = lowered_canonical g h;
        affine = every_image (IsLevel h.generator.homogeneous.0) (IsAffine n) lower g (λ m x. affine_lower n six m x.graded x.plain) (levels g h);
      })

  pub lowered_lead : (g : List Term) → IsHomogeneousPoly p n g → lead_mono (dehomogenised p g) ≡ lower (lead_mono g)
  lowered_lead g h = ap lead_mono (lowered g h) ∙ go g
    where
      go : (g : List Term) → lead_mono (image lower g) ≡ lower (lead_mono g)
      go [] = refl
      go (t ∷ f) = refl

  lowered_monic : (g : List Term) → IsHomogeneousPoly p n g → IsMonic g → IsMonic (dehomogenised p g)
  lowered_monic g h k = subst IsMonic (sym (lowered g h)) (go g k)
    where
      go : (g : List Term) → IsMonic g → IsMonic (image lower g)
      go [] k = k
      go (t ∷ f) k = k

pub homogenised_law : HomogenisedLaws
homogenised_law = record {
  homogeneous = λ p n f six h. lifted p n six (degree_of f) f h.canonical (fits p n six f h);
  degree = λ p n f six h. degrees_lifted p n six (degree_of f) f (fits p n six f h);
  back = λ p n f six h. lowered_lifted p n six (degree_of f) f h;
}

pub dehomogenised_law : DehomogenisedLaws
dehomogenised_law = record {
  terms = λ p n g six h. lowered p n six g h;
  poly = λ p n g six h. lowered_poly p n six g h;
  lead = λ p n g six h. lowered_lead p n six g h;
  monic = λ p n g six h k. lowered_monic p n six g h k;
}
