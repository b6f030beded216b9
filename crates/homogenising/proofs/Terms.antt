-- What the calls that lift and lower terms owe.
use Rattle.std.proofs.Common.{◌≡◌, ℕ, ◌+◌, ◌-◌, ◌≤◌, ◌<◌, List, [], ◌∷◌, ◌++◌, length, get_or, set, refl, sym, ap, ◌∙◌, subst, arith}
use Rattle.monomials.specs.Mono.{Monomial, IsMono, total_degree}
use Rattle.monomials.proofs.Exponents.{total_degree-set}
use Rattle.polys.specs.declared.term.Term.{Term}
use Rattle.polys.specs.Poly.{IsVector}
use Rattle.polys.specs.Terms.{EachMono, IsAffine, IsPoly, degree_of}
use Rattle.polys.proofs.Each.{every_more, every_zip}
use Rattle.polys.proofs.Merge.{mono_at}
use Rattle.polys.proofs.Products.{degree_at}
use Rattle.homogenising.specs.Homogenised.{homogenised_to, without_hom, IsUnlifted}
use Rattle.homogenising.specs.Laws.{IsHomogeneousPoly}
use Rattle.homogenising.proofs.Images.{every_image}
use Rattle.homogenising.proofs.Lifted.{Fits, fits, lifted, IsLevel, levels, lowered_canonical}
use Rattle.homogenising.proofs.Monomials.{lower, graded_lift, degree_lift, degree_lower, seven_lower}
use Rattle.homogenising.proofs.Order.{lift, flat_at}

get_last : (a : List ℕ) (y : ℕ) → get_or (a ++ y ∷ []) (length a) 0 ≡ y
get_last [] y = refl
get_last (x ∷ a) y = get_last a y

pub unlifted : (n : ℕ) (m : Monomial) → n ≤ 6 → IsAffine n m → IsUnlifted m
unlifted n m h a =
    let f = flat_at n m h a in
    let e : get_or m.exponents 6 0 ≡ get_or (f.six ++ 0 ∷ []) (length f.six) 0 = λ i. get_or ((ap (λ (w : Monomial). w.exponents) f.is) i) (sym f.as_many i) 0 in
    record { seven = a.seven; none = e ∙ get_last f.six 0 }

pub all_unlifted : (p n : ℕ) (f : List Term) → n ≤ 6 → IsPoly p n f → EachMono IsUnlifted f
all_unlifted p n f h a = every_more (IsAffine n) IsUnlifted f (λ m x. unlifted n m h x) a.affine

pub lifted_room : (f : List Term) (i : ℕ) (t : Term) (K d : ℕ) → EachMono IsUnlifted f → i < length f → t ≡ get_or f i t → d ≡ total_degree t.mono.exponents → degree_of f ≤ K → K ≤ 60000
    → total_degree (set t.mono.exponents 6 (K - d)) ≤ 60000
lifted_room f i t K d u h e q l k =
    let a = mono_at IsUnlifted f i t u h e in
    let z = a.none in
    let b = degree_at f i t h e in
    let s = total_degree-set t.mono.exponents 6 (K - d) (let n = a.seven in omega arith) in
    omega arith

pub lowered_room : (f : List Term) (i : ℕ) (t : Term) → EachMono IsMono f → i < length f → t ≡ get_or f i t → total_degree (set t.mono.exponents 6 0) ≤ 60000
lowered_room f i t u h e =
    let a = mono_at IsMono f i t u h e in
    let b = a.bounded in
    let s = total_degree-set t.mono.exponents 6 0 (let n = a.seven in omega arith) in
    omega arith

pub lifted_vector : (p n K : ℕ) (f : List Term) → n ≤ 6 → IsPoly p n f → degree_of f ≤ K → K ≤ 60000 → IsVector p (homogenised_to K f)
lifted_vector p n K f h a l k =
    record {
      canonical = (lifted p n h K f a.canonical fit).generator.vector.canonical;
      monos = every_image (Fits p n h K) IsMono (lift K) f (λ m x. record { seven = (graded_lift n h K m x.0).seven; bounded = (let d = degree_lift n h K m x.0 x.1 in omega arith); one_of_two = (let z = x.0.plain in omega arith) }) fit;
    }
  where
    fit : EachMono (Fits p n h K) f
    fit = every_more (Fits p n h (degree_of f)) (Fits p n h K) f (λ m x. (x.0, (let d = x.1 in omega arith))) (fits p n h f a)

pub lowered_vector : (p n : ℕ) (f : List Term) → n ≤ 6 → IsHomogeneousPoly p n f → IsVector p f → IsVector p (without_hom f)
lowered_vector p n f h a v =
    record {
      canonical = lowered_canonical p n h f a;
      monos = every_image (λ m. IsMono m × IsLevel p n h a.generator.homogeneous.0 m) IsMono lower f
          (λ m x. record { seven = seven_lower m x.1.graded.seven x.1.plain; bounded = (let d = degree_lower n h m x.1.graded x.1.plain in let b = x.0.bounded in omega arith); one_of_two = (let z = x.1.plain in omega arith) })
          (every_zip IsMono (IsLevel p n h a.generator.homogeneous.0) f v.monos (levels p n h f a));
    }

pub vector_of : (p q : ℕ) (v w : List Term) → IsVector p v → q ≡ p → w ≡ v → IsVector q w
vector_of p q v w h e f = subst (λ r. IsVector r w) (sym e) (subst (IsVector p) (sym f) h)
