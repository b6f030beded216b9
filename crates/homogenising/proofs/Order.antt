-- Lifting monomials to a degree by the homogenising variable, which keeps dp and products.
use Rattle.std.proofs.Common.{◌≡◌, ℕ, ◌+◌, ◌-◌, ◌≤◌, ◌<◌, List, [], ◌∷◌, ◌++◌, length, take, set, refl, sym, ◌∙◌, subst, arith}
use Rattle.std.specs.declared.cmp.Ordering.{Ordering}
use Rattle.std.specs.declared.cmp.Ordering.TheVariants.{Less, Equal, Greater}
use Rattle.std.specs.Ordering.{ordering_then, nat_cmp, MatchOrdering}
use Rattle.std.specs.Cmp.{nat_cmp_is, ranks}
use Rattle.monomials.specs.Mono.{Monomial, total_degree, cmp_last, cmp_dp}
use Rattle.polys.specs.Terms.{OnlyFirst, IsAffine}
use Rattle.graded_modules.specs.Vector.{IsGraded}
use Rattle.homogenising.specs.Homogenised.{with_hom}
use Rattle.homogenising.proofs.Places.{split_last, set_last, take_last, only_last, only_with}
use Rattle.monomials.proofs.Last.{cmp_last-push, level}
use Rattle.monomials.proofs.Exponents.{total_degree-push}

-- the monomial with these exponents of the six variables and of the homogenising one
abbrev pub placed : List ℕ → ℕ → ℕ → Monomial
placed a y c = record { exponents = a ++ y ∷ []; component = c }

-- a monomial of component 0, taken apart
pub record IsPlaced (m : Monomial) : Type 0 where
  pub six : List ℕ
  pub last : ℕ
  pub as_many : length six ≡ 6
  pub is : m ≡ placed six last 0

pub placed_at : (m : Monomial) → length m.exponents ≡ 7 → m.component ≡ 0 → IsPlaced m
placed_at m l c =
    let r = split_last 6 m.exponents l in
    record { six = r.0; last = r.1; as_many = r.2; is = λ i. record { exponents = r.3 i; component = c i } }

-- the monomial of degree K that becomes m where the variable is 1
abbrev pub lift : ℕ → Monomial → Monomial
lift K m = with_hom (K - total_degree m.exponents) m

pub set_six : (a : List ℕ) (y e : ℕ) → length a ≡ 6 → set (a ++ y ∷ []) 6 e ≡ a ++ e ∷ []
set_six a y e l = subst (λ (k : ℕ). set (a ++ y ∷ []) k e ≡ a ++ e ∷ []) l (set_last a y e)

pub with-placed : (a : List ℕ) (y c e : ℕ) → length a ≡ 6 → with_hom e (placed a y c) ≡ placed a e c
with-placed a y c e l = λ i. record { exponents = set_six a y e l i; component = c }

pub lift-placed : (K : ℕ) (a : List ℕ) (c : ℕ) → length a ≡ 6 → lift K (placed a 0 c) ≡ placed a (K - total_degree a) c
lift-placed K a c l =
    let d : total_degree (a ++ 0 ∷ []) ≡ total_degree a = total_degree-push a 0 ∙ (omega arith) in
    with-placed a 0 c (K - total_degree (a ++ 0 ∷ [])) l ∙ (λ i. placed a (K - d i) c)

turned : (K x y : ℕ) → x ≤ K → y ≤ K → nat_cmp (K - y) (K - x) ≡ nat_cmp x y
turned K x y h k = go (nat_cmp x y) (ranks x y)
  where
    go : (r : Ordering) → MatchOrdering r (x < y) (x ≡ y) (y < x) → nat_cmp (K - y) (K - x) ≡ r
    go Less g = sym (nat_cmp_is (K - y) (K - x) Less (omega arith))
    go Equal g = sym (nat_cmp_is (K - y) (K - x) Equal (omega arith))
    go Greater g = sym (nat_cmp_is (K - y) (K - x) Greater (omega arith))

-- ---- the order

pub lifted_order : (K : ℕ) (a b : List ℕ) → length a ≡ length b → total_degree a ≤ K → total_degree b ≤ K
    → cmp_dp (placed a (K - total_degree a) 0) (placed b (K - total_degree b) 0) ≡ cmp_dp (placed a 0 0) (placed b 0 0)
lifted_order K a b l h k =
    (λ i. ordering_then (nat_cmp 0 0) (ordering_then (nat_cmp (da i) (db i)) (cmp_last-push a b (K - total_degree a) (K - total_degree b) l i)))
    ∙ (λ i. ordering_then (nat_cmp 0 0) (ordering_then (level K i) (ordering_then (turned K (total_degree a) (total_degree b) h k i) (cmp_last a b))))
    ∙ sym (λ i. ordering_then (nat_cmp 0 0) (ordering_then (nat_cmp (za i) (zb i)) (cmp_last-push a b 0 0 l i)))
  where
    da : total_degree (a ++ (K - total_degree a) ∷ []) ≡ K
    da = total_degree-push a (K - total_degree a) ∙ (omega arith)

    db : total_degree (b ++ (K - total_degree b) ∷ []) ≡ K
    db = total_degree-push b (K - total_degree b) ∙ (omega arith)

    za : total_degree (a ++ 0 ∷ []) ≡ total_degree a
    za = total_degree-push a 0 ∙ (omega arith)

    zb : total_degree (b ++ 0 ∷ []) ≡ total_degree b
    zb = total_degree-push b 0 ∙ (omega arith)

-- ---- the monomials of polynomials

-- a monomial in the first n variables, taken apart
pub record IsFlat (n : ℕ) (m : Monomial) : Type 0 where
  pub six : List ℕ
  pub as_many : length six ≡ 6
  pub first : OnlyFirst n six
  pub is : m ≡ placed six 0 0

pub flat_at : (n : ℕ) (m : Monomial) → n ≤ 6 → IsAffine n m → IsFlat n m
flat_at n m h a =
    let r = split_last 6 m.exponents a.seven in
    let l = r.2 in
    let o = only_last n r.0 r.1 (omega arith) (subst (OnlyFirst n) r.3 a.first) in
    record { six = r.0; as_many = r.2; first = o.0; is = λ i. record { exponents = (r.3 ∙ (λ j. r.0 ++ o.1 j ∷ [])) i; component = a.plain i } }

length_last : (a : List ℕ) (y : ℕ) → length (a ++ y ∷ []) ≡ length a + 1
length_last [] y = refl
length_last (x ∷ a) y = let h = length_last a y in omega arith

pub seven_last : (a : List ℕ) (y : ℕ) → length a ≡ 6 → length (a ++ y ∷ []) ≡ 7
seven_last a y l = length_last a y ∙ (omega arith)

pub affine_of : (n : ℕ) (a : List ℕ) → n ≤ 6 → length a ≡ 6 → OnlyFirst n a → IsAffine n (placed a 0 0)
affine_of n a h l o = record { seven = seven_last a 0 l; first = only_with n a (omega arith) o; plain = refl }

pub graded_of : (n : ℕ) (a : List ℕ) (y : ℕ) → length a ≡ 6 → OnlyFirst n a → IsGraded n (placed a y 0)
graded_of n a y l o =
    record {
      seven = seven_last a y l;
      first = subst (λ k. OnlyFirst n (take k (a ++ y ∷ []))) l (subst (OnlyFirst n) (sym (take_last a y)) o);
      two = (omega arith);
    }

-- a monomial of component 0 in the first n variables and the homogenising one, taken apart
pub record IsSteep (n : ℕ) (m : Monomial) : Type 0 where
  pub six : List ℕ
  pub last : ℕ
  pub as_many : length six ≡ 6
  pub first : OnlyFirst n six
  pub is : m ≡ placed six last 0

pub steep_at : (n : ℕ) (m : Monomial) → IsGraded n m → m.component ≡ 0 → IsSteep n m
steep_at n m g c =
    let r = split_last 6 m.exponents g.seven in
    let taken : take 6 m.exponents ≡ r.0 = (λ i. take (sym r.2 i) (r.3 i)) ∙ take_last r.0 r.1 in
    record { six = r.0; last = r.1; as_many = r.2; first = subst (OnlyFirst n) taken g.first; is = λ i. record { exponents = r.3 i; component = c i } }
