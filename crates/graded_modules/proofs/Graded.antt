-- Sums and products of vectors are vectors.
use Rattle.std.proofs.Common.{◌≡◌, ℕ, ◌+◌, ◌-◌, ◌<◌, ◌≤◌, zero, suc, List, [], ◌∷◌, ◌++◌, take, refl, arith}
use Rattle.monomials.specs.Mono.{Monomial, pointwise, times, unit}
use Rattle.monomials.proofs.Exponents.{length-pointwise, total_degree-plus}
use Rattle.polys.specs.declared.term.Term.{Term}
use Rattle.polys.specs.Terms.{EachMono, OnlyFirst, normal, add, sub, multiple, scaled, mul, products, one}
use Rattle.polys.specs.Poly.{IsPlain}
use Rattle.polys.proofs.Weights.{is_canonical, normal_canon}
use Rattle.polys.proofs.Each.{every_normal, every_add, every_multiple, every_more, every_products, every_zip}
use Rattle.polys.proofs.Affine.{only_zeros}
use Rattle.polys.proofs.Units.{plain_times, canonical_one}
use Rattle.polys.proofs.Leads.{Seven}
use Rattle.graded_modules.specs.Vector.{IsGraded, IsGradedVector, IsFactor, degree_at, lead_mono}

-- ---- monomials

only_pointwise : (f : ℕ → ℕ → ℕ) → ((x y : ℕ) → x ≡ 0 → y ≡ 0 → f x y ≡ 0) → (n k : ℕ) (a b : List ℕ) → OnlyFirst n (take k a) → OnlyFirst n (take k b) → OnlyFirst n (take k (pointwise f a b))
only_pointwise f z n zero a b h k = tt
only_pointwise f z n (suc k) [] b h q = q
only_pointwise f z n (suc k) (x ∷ a) [] h q = h
only_pointwise f z zero (suc k) (x ∷ a) (y ∷ b) h q = (z x y h.0 q.0, only_pointwise f z zero k a b h.1 q.1)
only_pointwise f z (suc n) (suc k) (x ∷ a) (y ∷ b) h q = only_pointwise f z n k a b h q

pub graded_pointwise : (f : ℕ → ℕ → ℕ) → ((x y : ℕ) → x ≡ 0 → y ≡ 0 → f x y ≡ 0) → (n c : ℕ) (a b : Monomial) → c ≤ 1 → IsGraded n a → IsGraded n b
    → IsGraded n (record { exponents = pointwise f a.exponents b.exponents; component = c })
graded_pointwise f z n c a b l h k = record {
  seven = length-pointwise f 7 a.exponents b.exponents h.seven k.seven;
  first = only_pointwise f z n 6 a.exponents b.exponents h.first k.first;
  two = l;
}

pub graded_times : (n : ℕ) (a b : Monomial) → IsGraded n a → IsGraded n b → IsPlain b → IsGraded n (times a b)
graded_times n a b h k z =
    let s : a.component + b.component ≤ 1 = let t = h.two in omega arith in
    graded_pointwise (λ x y. x + y) (λ x y p q. omega arith) n (a.component + b.component) a b s h k

pub graded_unit : (n : ℕ) → IsGraded n unit
graded_unit n = record { seven = refl; first = only_zeros n 6; two = omega arith }

pub degree_times : (shift : ℕ) (a b : Monomial) → degree_at shift (times a b) ≡ degree_at shift a + degree_at shift b
degree_times shift a b = omega (arith, total_degree-plus a.exponents b.exponents)

-- ---- vectors

pub each_seven : (n : ℕ) (f : List Term) → EachMono (IsGraded n) f → EachMono Seven f
each_seven n f h = every_more (IsGraded n) Seven f (λ m k. k.seven) h

pub lead_graded : (n : ℕ) (f : List Term) → EachMono (IsGraded n) f → IsGraded n (lead_mono f)
lead_graded n [] h = graded_unit n
lead_graded n (t ∷ f) h = h.0

module _ (p n : ℕ) where
  pub vector_normal : (f : List Term) → 0 < p → EachMono (IsGraded n) f → IsGradedVector p n (normal p f)
  vector_normal f h k = record { canonical = is_canonical p (normal p f) h (normal_canon p f); graded = every_normal (IsGraded n) p f k }

  pub vector_none : IsGradedVector p n []
  vector_none = record { canonical = tt; graded = tt }

  pub vector_add : (f g : List Term) → 0 < p → IsGradedVector p n f → IsGradedVector p n g → IsGradedVector p n (add p f g)
  vector_add f g h a b = record { canonical = is_canonical p (add p f g) h (normal_canon p (f ++ g)); graded = every_add (IsGraded n) p f g a.graded b.graded }

  pub vector_multiple : (c : ℕ) (f : List Term) → 0 < p → IsGradedVector p n f → IsGradedVector p n (multiple p c f)
  vector_multiple c f h a = record { canonical = is_canonical p (multiple p c f) h (normal_canon p (scaled c f)); graded = every_multiple (IsGraded n) p c f a.graded }

  pub vector_sub : (f g : List Term) → 0 < p → IsGradedVector p n f → IsGradedVector p n g → IsGradedVector p n (sub p f g)
  vector_sub f g h a b = vector_add f (multiple p (p - 1) g) h a (vector_multiple (p - 1) g h b)

  -- a vector's product with a polynomial
  pub graded_products : (f a : List Term) → EachMono (IsGraded n) f → EachMono (IsGraded n) a → EachMono IsPlain a → EachMono (IsGraded n) (products f a)
  graded_products f a h k z =
      every_products (IsGraded n) (λ m. IsGraded n m × IsPlain m) (IsGraded n) f a (λ m w x y. graded_times n m w x y.0 y.1) h (every_zip (IsGraded n) IsPlain a k z)

  pub vector_mul : (f a : List Term) → 0 < p → EachMono (IsGraded n) f → EachMono (IsGraded n) a → EachMono IsPlain a → IsGradedVector p n (mul p f a)
  vector_mul f a h k l z = vector_normal (products f a) h (graded_products f a k l z)

  -- ---- factors

  pub factor_none : IsFactor p n []
  factor_none = record { vector = vector_none; plain = tt }

  pub factor_one : 1 < p → IsFactor p n one
  factor_one h = record { vector = record { canonical = canonical_one p h; graded = (graded_unit n, tt) }; plain = (refl, tt) }

  pub factor_normal : (f : List Term) → 0 < p → EachMono (IsGraded n) f → EachMono IsPlain f → IsFactor p n (normal p f)
  factor_normal f h k z = record { vector = vector_normal f h k; plain = every_normal IsPlain p f z }

  pub factor_add : (f g : List Term) → 0 < p → IsFactor p n f → IsFactor p n g → IsFactor p n (add p f g)
  factor_add f g h a b = record { vector = vector_add f g h a.vector b.vector; plain = every_add IsPlain p f g a.plain b.plain }

  pub factor_mul : (f g : List Term) → 0 < p → IsFactor p n f → IsFactor p n g → IsFactor p n (mul p f g)
  factor_mul f g h a b = record {
    vector = vector_mul f g h a.vector.graded b.vector.graded b.plain;
    plain = every_normal IsPlain p (products f g) (every_products IsPlain IsPlain IsPlain f g plain_times a.plain b.plain);
  }

  pub factor_multiple : (c : ℕ) (f : List Term) → 0 < p → IsFactor p n f → IsFactor p n (multiple p c f)
  factor_multiple c f h a = record { vector = vector_multiple c f h a.vector; plain = every_multiple IsPlain p c f a.plain }
