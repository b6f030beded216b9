-- Sums and products of polynomials in n variables are such polynomials.
use Rattle.std.proofs.Common.{◌≡◌, ℕ, ◌-◌, ◌*◌, ◌<◌, zero, suc, List, [], ◌∷◌, ◌++◌, length, get_or, replicate, refl, ap, ◌∙◌, arith, append-nil}
use Rattle.std.specs.List.{All}
use Rattle.std.proofs.lemmas.List.Elements.{All-head, All-tail}
use Rattle.monomials.specs.Mono.{Monomial, IsMono, times, unit}
use Rattle.monomials.proofs.Exponents.{plus}
use Rattle.monomials.proofs.Order.{times_comm, times_one}
use Rattle.polys.specs.declared.term.Term.{Term}
use Rattle.polys.specs.Terms.{EachMono, OnlyFirst, IsAffine, IsPoly, normal, add, sub, multiple, scaled, scale, mul, products, one, power, product}
use Rattle.polys.proofs.Weights.{is_canonical, normal_canon}
use Rattle.polys.proofs.Each.{every_normal, every_add, every_mul, every_multiple, every_more}
use Rattle.polys.proofs.Units.{seven_times, plain_times, canonical_one}
use Rattle.polys.proofs.Sums.{mul_normal_left}
use Rattle.polys.proofs.Leads.{Seven}

only_plus : (n : ℕ) (a b : List ℕ) → OnlyFirst n a → OnlyFirst n b → OnlyFirst n (plus a b)
only_plus n [] b h k = k
only_plus n (x ∷ a) [] h k = h
only_plus zero (x ∷ a) (y ∷ b) h k = let p = h.0 in let q = k.0 in (omega arith, only_plus zero a b h.1 k.1)
only_plus (suc n) (x ∷ a) (y ∷ b) h k = only_plus n a b h k

pub only_zeros : (n k : ℕ) → OnlyFirst n (replicate k 0)
only_zeros n zero = tt
only_zeros zero (suc k) = (refl, only_zeros zero k)
only_zeros (suc n) (suc k) = only_zeros n k

pub zeros : (n : ℕ) (a : List ℕ) → length a ≡ n → OnlyFirst zero a → a ≡ replicate n 0
zeros zero [] e h = refl
zeros zero (x ∷ a) e h = absurd (omega arith)
zeros (suc n) [] e h = absurd (omega arith)
zeros (suc n) (x ∷ a) e h = λ i. h.0 i ∷ zeros n a (omega arith) h.1 i

-- in a list of n + 1 numbers the last one is 0 if and only if the first n alone may be above 0
only_last : (n : ℕ) (a : List ℕ) → length a ≡ suc n → get_or a n 0 ≡ 0 → OnlyFirst n a
only_last n [] l z = tt
only_last zero (x ∷ []) l z = (z, tt)
only_last zero (x ∷ y ∷ a) l z = absurd (omega arith)
only_last (suc n) (x ∷ a) l z = only_last n a (omega arith) z

last_none : (n : ℕ) (a : List ℕ) → length a ≡ suc n → OnlyFirst n a → get_or a n 0 ≡ 0
last_none n [] l o = absurd (omega arith)
last_none zero (x ∷ a) l o = o.0
last_none (suc n) (x ∷ a) l o = last_none n a (omega arith) o

pub affine_mono : (m : Monomial) → IsMono m → get_or m.exponents 6 0 ≡ 0 → m.component ≡ 0 → IsAffine 6 m
affine_mono m h z c = record { seven = h.seven; first = only_last 6 m.exponents h.seven z; plain = c }

pub affine_hom : (m : Monomial) → IsAffine 6 m → get_or m.exponents 6 0 ≡ 0
affine_hom m a = last_none 6 m.exponents a.seven a.first

pub affine_times : (n : ℕ) (m w : Monomial) → IsAffine n m → IsAffine n w → IsAffine n (times m w)
affine_times n m w h k = record {
  seven = seven_times m w h.seven k.seven;
  first = only_plus n m.exponents w.exponents h.first k.first;
  plain = plain_times m w h.plain k.plain;
}

pub affine_unit : (n : ℕ) → IsAffine n unit
affine_unit n = record { seven = refl; first = only_zeros n 7; plain = refl }

module _ (p n : ℕ) where
  pub poly_normal : (f : List Term) → 0 < p → EachMono (IsAffine n) f → IsPoly p n (normal p f)
  poly_normal f h k = record { canonical = is_canonical p (normal p f) h (normal_canon p f); affine = every_normal (IsAffine n) p f k }

  pub poly_none : IsPoly p n []
  poly_none = record { canonical = tt; affine = tt }

  pub poly_one : 1 < p → IsPoly p n one
  poly_one h = record { canonical = canonical_one p h; affine = (affine_unit n, tt) }

  pub poly_add : (f g : List Term) → 0 < p → IsPoly p n f → IsPoly p n g → IsPoly p n (add p f g)
  poly_add f g h a b = record { canonical = is_canonical p (add p f g) h (normal_canon p (f ++ g)); affine = every_add (IsAffine n) p f g a.affine b.affine }

  pub poly_multiple : (c : ℕ) (f : List Term) → 0 < p → IsPoly p n f → IsPoly p n (multiple p c f)
  poly_multiple c f h a = record { canonical = is_canonical p (multiple p c f) h (normal_canon p (scaled c f)); affine = every_multiple (IsAffine n) p c f a.affine }

  pub poly_sub : (f g : List Term) → 0 < p → IsPoly p n f → IsPoly p n g → IsPoly p n (sub p f g)
  poly_sub f g h a b = poly_add f (multiple p (p - 1) g) h a (poly_multiple (p - 1) g h b)

  pub poly_mul : (f g : List Term) → 0 < p → IsPoly p n f → IsPoly p n g → IsPoly p n (mul p f g)
  poly_mul f g h a b =
      record { canonical = is_canonical p (mul p f g) h (normal_canon p (products f g)); affine = every_mul (IsAffine n) p f g (affine_times n) a.affine b.affine }

  pub poly_power : (f : List Term) (k : ℕ) → 1 < p → IsPoly p n f → IsPoly p n (power p f k)
  poly_power f zero h a = poly_one h
  poly_power f (suc k) h a = poly_mul f (power p f k) (omega arith) a (poly_power f k h a)

  pub poly_product : (fs : List (List Term)) → 1 < p → All (IsPoly p n) fs → IsPoly p n (product p fs)
  poly_product [] h a = poly_one h
  poly_product (f ∷ fs) h a =
      poly_mul f (product p fs) (omega arith) (All-head (IsPoly p n) f fs a) (poly_product fs h (All-tail (IsPoly p n) f fs a))

pub sevens_of : (p n : ℕ) (f : List Term) → IsPoly p n f → EachMono Seven f
sevens_of p n f h = every_more (IsAffine n) Seven f (λ m k. k.seven) h.affine

-- ---- constants

abbrev pub constant : ℕ → ℕ → List Term
constant p c = normal p (record { coeff = c; mono = unit } ∷ [])

pub poly_constant : (p n c : ℕ) → 0 < p → IsPoly p n (constant p c)
poly_constant p n c h = poly_normal p n (record { coeff = c; mono = unit } ∷ []) h (affine_unit n, tt)

scale_unit : (c : ℕ) (f : List Term) → EachMono Seven f → scale (record { coeff = c; mono = unit }) f ≡ scaled c f
scale_unit c [] h = refl
scale_unit c (t ∷ f) h =
    let m : times unit t.mono ≡ t.mono = times_comm unit t.mono ∙ times_one t.mono h.0 in
    λ i. record { coeff = c * t.coeff; mono = m i } ∷ scale_unit c f h.1 i

-- the multiple by a number is the product with a constant
pub mul_constant : (p c : ℕ) (f : List Term) → EachMono Seven f → mul p (constant p c) f ≡ multiple p c f
mul_constant p c f h =
    mul_normal_left p (record { coeff = c; mono = unit } ∷ []) f
    ∙ ap (normal p) (append-nil (scale (record { coeff = c; mono = unit }) f) ∙ scale_unit c f h)

pub positive : (p : ℕ) → 1 < p → 0 < p
positive p h = omega arith
