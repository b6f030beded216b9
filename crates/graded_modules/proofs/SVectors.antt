-- S-vectors and what settles a pair.
use Rattle.std.proofs.Common.{◌≡◌, ℕ, ◌+◌, ◌-◌, ◌*◌, ◌%◌, ◌<◌, List, [], ◌∷◌, map, refl, sym, ap, ◌∙◌, subst, arith}
use native.Mathlib.Nat.{mod-eq_of_lt}
use Rattle.std.specs.List.{All}
use Rattle.std.specs.declared.cmp.Ordering.TheVariants.{Less}
use Rattle.monomials.specs.Mono.{Monomial, times, cmp_dp, Divides}
use Rattle.monomials.proofs.Factors.{lcm_law}
use Rattle.prime_field.specs.Primes.{IsPrime}
use Rattle.prime_field.proofs.Table.{positive_of_prime, above_one}
use Rattle.polys.specs.declared.term.Term.{Term}
use Rattle.polys.specs.Terms.{EachMono, IsMonic, sub, mul, multiple, products}
use Rattle.polys.proofs.Units.{sub_self}
use Rattle.polys.proofs.Each.{every_add, every_normal, every_multiple, every_more, every_products}
use Rattle.polys.proofs.Products.{times_term}
use Rattle.graded_modules.specs.Vector.{IsGraded, IsGradedVector, IsGenerator, IsOfDegree, degree_at, lead_mono}
use Rattle.graded_modules.specs.Module.{InModule}
use Rattle.graded_modules.specs.SVector.{cofactor, raised, lead_lcm, s_vector, IsSumBelow, IsSettled}
use Rattle.graded_modules.specs.Laws.{ArePaired, SVectorLaws}
use Rattle.graded_modules.proofs.Graded.{degree_times, lead_graded, each_seven, vector_mul, vector_sub}
use Rattle.graded_modules.proofs.Members.{in_product, in_sub}
use Rattle.graded_modules.proofs.Cofactors.{same_shape, cofactor_steps, graded_cofactor, graded_lcm, times_cofactor, lcm_left, lcm_right, lcm_comm}
use Rattle.ideal_laws.proofs.Multiples.{mul_terms}
use Rattle.ideal_laws.proofs.Differences.{sub_cons, sub_chain, sub_swap, sub_by}
use Rattle.graded_modules.proofs.Multiples.{below_none, below_add, below_multiple, below_mul}
use Rattle.graded_modules.proofs.Tops.{Lower, product_is, product_below}

-- ---- raised vectors

-- up to a multiple of m in two steps
pub raised_steps : (p n : ℕ) (f : List Term) (l m : Monomial) → IsGraded n (lead_mono f) → IsGraded n l → IsGraded n m → Divides (lead_mono f) l → Divides l m
    → mul p (raised p f l) (record { coeff = 1; mono = cofactor l m } ∷ []) ≡ raised p f m
raised_steps p n f l m gf gl gm h k =
    mul_terms p f (record { coeff = 1; mono = cofactor (lead_mono f) l }) (record { coeff = 1; mono = cofactor l m })
    ∙ ap (λ w. mul p f (record { coeff = 1; mono = w } ∷ [])) (cofactor_steps n (lead_mono f) l m gf gl gm h k)

module _ (p n shift : ℕ) (bs : List (List Term)) (pos : 0 < p) (vectors : All (IsGenerator p n shift) bs) where
  -- what a pair's S-vector says of both vectors at each common multiple
  pub lifted : (f g : List Term) (m : Monomial) → IsGraded n (lead_mono f) → IsGraded n (lead_mono g) → (lead_mono f).component ≡ (lead_mono g).component → IsGraded n m
      → Divides (lead_lcm f g) m → IsSettled p n shift bs f g → IsSumBelow p n shift bs m (sub p (raised p f m) (raised p g m))
  lifted f g m gf gg same gm d a =
      let l = lead_lcm f g in
      let gl : IsGraded n l = graded_lcm n (lead_mono f) (lead_mono g) gf gg in
      let v : Term = record { coeff = 1; mono = cofactor l m } in
      let moved : sub p (raised p f m) (raised p g m) ≡ mul p (s_vector p f g) (v ∷ []) =
      (λ i. sub p (sym (raised_steps p n f l m gf gl gm (lcm_left n (lead_mono f) (lead_mono g) gf gg same) d) i)
      (sym (raised_steps p n g l m gg gl gm (lcm_right n (lead_mono f) (lead_mono g) gf gg same) d) i))
      ∙ sub_by p (raised p f l) (raised p g l) (s_vector p f g) v pos refl in
      subst (IsSumBelow p n shift bs m) (sym moved)
      (subst (λ w. IsSumBelow p n shift bs w (mul p (s_vector p f g) (v ∷ []))) (times_cofactor l m (same_shape n l m gl gm) d)
      (below_mul p n shift bs pos vectors l v (s_vector p f g) gl (graded_cofactor n l m gl gm) refl a))

  pub swap_settled : (f g : List Term) → (lead_mono f).component ≡ (lead_mono g).component → IsSettled p n shift bs f g → IsSettled p n shift bs g f
  swap_settled f g same a =
      subst (λ w. IsSumBelow p n shift bs w (sub p (raised p g w) (raised p f w))) (lcm_comm (lead_mono f) (lead_mono g) same)
      (subst (IsSumBelow p n shift bs (lead_lcm f g)) (sym (sub_swap p (raised p f (lead_lcm f g)) (raised p g (lead_lcm f g)) (s_vector p f g) pos refl))
      (below_multiple p n shift bs (lead_lcm f g) (p - 1) (s_vector p f g) pos a))

  pub self_settled : (f : List Term) → IsSettled p n shift bs f f
  self_settled f = subst (IsSumBelow p n shift bs (lead_lcm f f)) (sym (sub_self p (raised p f (lead_lcm f f)) pos)) (below_none p n shift bs (lead_lcm f f))

  pub chain_settled : (f g h : List Term) → IsGraded n (lead_mono f) → IsGraded n (lead_mono g) → IsGraded n (lead_mono h)
      → (lead_mono f).component ≡ (lead_mono g).component → (lead_mono f).component ≡ (lead_mono h).component
      → Divides (lead_mono h) (lead_lcm f g) → IsSettled p n shift bs f h → IsSettled p n shift bs h g → IsSettled p n shift bs f g
  chain_settled f g h gf gg gh fg fh d a b =
      let m = lead_lcm f g in
      let gm : IsGraded n m = graded_lcm n (lead_mono f) (lead_mono g) gf gg in
      let left = lcm_left n (lead_mono f) (lead_mono g) gf gg fg in
      let right = lcm_right n (lead_mono f) (lead_mono g) gf gg fg in
      let x = lifted f h m gf gh fh gm (lcm_law.least (lead_mono f) (lead_mono h) m (same_shape n (lead_mono f) (lead_mono h) gf gh) left d) a in
      let y = lifted h g m gh gg (sym fh ∙ fg) gm (lcm_law.least (lead_mono h) (lead_mono g) m (same_shape n (lead_mono h) (lead_mono g) gh gg) d right) b in
      subst (IsSumBelow p n shift bs m)
      (sym (sub_chain p (raised p f m) (raised p h m) (raised p g m) (sub p (raised p f m) (raised p h m)) (sub p (raised p h m) (raised p g m)) pos refl refl))
      (below_add p n shift bs m (sub p (raised p h m) (raised p g m)) (sub p (raised p f m) (raised p h m)) y x)

-- ---- S-vectors

module _ (p n shift : ℕ) where
  lead_g : (f : List Term) → IsGenerator p n shift f → IsGraded n (lead_mono f)
  lead_g f h = lead_graded n f h.vector.graded

  pub raised_vector : (f : List Term) (m : Monomial) → 0 < p → IsGenerator p n shift f → IsGraded n m → IsGradedVector p n (raised p f m)
  raised_vector f m pos h gm = vector_mul p n f (record { coeff = 1; mono = cofactor (lead_mono f) m } ∷ []) pos h.vector.graded (graded_cofactor n (lead_mono f) m (lead_g f h) gm, tt) (refl, tt)

  lcm_graded : (f g : List Term) → ArePaired p n shift f g → IsGraded n (lead_lcm f g)
  lcm_graded f g a = graded_lcm n (lead_mono f) (lead_mono g) (lead_g f a.first) (lead_g g a.second)

  s_is_vector : (f g : List Term) → ArePaired p n shift f g → IsGradedVector p n (s_vector p f g)
  s_is_vector f g a =
      let pos = positive_of_prime p a.prime in
      let m = lead_lcm f g in
      vector_sub p n (raised p f m) (raised p g m) pos (raised_vector f m pos a.first (lcm_graded f g a)) (raised_vector g m pos a.second (lcm_graded f g a))

  -- a multiple of a homogeneous vector is homogeneous
  pub same_degrees : (f : List Term) → IsGenerator p n shift f → IsOfDegree shift (degree_at shift (lead_mono f)) f
  same_degrees [] h = tt
  same_degrees (t ∷ f) h =
      let e = h.homogeneous.0 in
      every_more (λ m. degree_at shift m ≡ e) (λ m. degree_at shift m ≡ degree_at shift t.mono) (t ∷ f) (λ m q. q ∙ sym (h.homogeneous.1.0)) h.homogeneous.1

  pub product_degree : (f : List Term) (t : Term) → IsGenerator p n shift f → IsOfDegree shift (degree_at shift (times (lead_mono f) t.mono)) (mul p f (t ∷ []))
  product_degree f t h =
      every_normal P p (products f (t ∷ []))
      (every_products (λ m. degree_at shift m ≡ degree_at shift (lead_mono f)) (λ m. m ≡ t.mono) P f (t ∷ [])
      (λ m w a b. degree_times shift m w ∙ (λ i. a i + degree_at shift (b i)) ∙ sym (degree_times shift (lead_mono f) t.mono)) (same_degrees f h) (refl, tt))
    where
      P : Monomial → Type 0
      P m = degree_at shift m ≡ degree_at shift (times (lead_mono f) t.mono)

  pub raised_degree : (f : List Term) (m : Monomial) → IsGenerator p n shift f → IsGraded n m → Divides (lead_mono f) m → IsOfDegree shift (degree_at shift m) (raised p f m)
  raised_degree f m h gm d =
      subst (λ w. IsOfDegree shift (degree_at shift w) (raised p f m)) (times_cofactor (lead_mono f) m (same_shape n (lead_mono f) m (lead_g f h) gm) d)
      (product_degree f (record { coeff = 1; mono = cofactor (lead_mono f) m }) h)

  s_degree : (f g : List Term) → ArePaired p n shift f g → IsOfDegree shift (degree_at shift (lead_lcm f g)) (s_vector p f g)
  s_degree f g a =
      let m = lead_lcm f g in
      let gm = lcm_graded f g a in
      let left = lcm_left n (lead_mono f) (lead_mono g) (lead_g f a.first) (lead_g g a.second) a.one_component in
      let right = lcm_right n (lead_mono f) (lead_mono g) (lead_g f a.first) (lead_g g a.second) a.one_component in
      every_add (λ w. degree_at shift w ≡ degree_at shift m) p (raised p f m) (multiple p (p - 1) (raised p g m)) (raised_degree f m a.first gm left)
      (every_multiple (λ w. degree_at shift w ≡ degree_at shift m) p (p - 1) (raised p g m) (raised_degree g m a.second gm right))

  -- the leads cancel
  pub raised_is : (f : List Term) (m : Monomial) → IsPrime p → IsGenerator p n shift f → IsMonic f → IsGraded n m → Divides (lead_mono f) m
      → (h : List Term) × (raised p f m ≡ record { coeff = 1; mono = m } ∷ h) × EachMono (Lower m) h
  raised_is [] m prime h monic gm d = absurd monic
  raised_is (u ∷ f) m prime h monic gm d =
      let v : Term = record { coeff = 1; mono = cofactor u.mono m } in
      let sevens = each_seven n (u ∷ f) h.vector.graded in
      let top_is : times u.mono (cofactor u.mono m) ≡ m = times_cofactor u.mono m (same_shape n u.mono m (h.vector.graded.0) gm) d in
      let coeff_is : (u.coeff * 1) % p ≡ 1 = let q : u.coeff * 1 ≡ 1 = omega (arith, monic) in ap (λ (k : ℕ). k % p) q ∙ mod-eq_of_lt (above_one p prime) in (
        map (times_term p v) f,
        product_is p v u f prime (omega arith) (above_one p prime) h.vector.canonical sevens ∙ (λ i. record { coeff = coeff_is i; mono = top_is i } ∷ map (times_term p v) f),
        subst (λ w. EachMono (Lower w) (map (times_term p v) f)) top_is (product_below p v u f h.vector.canonical sevens),
      )

  pub difference_below : (f g : List Term) (m : Monomial) → IsPrime p → IsGenerator p n shift f → IsGenerator p n shift g → IsMonic f → IsMonic g → IsGraded n m
      → Divides (lead_mono f) m → Divides (lead_mono g) m → EachMono (Lower m) (sub p (raised p f m) (raised p g m))
  difference_below f g m prime hf hg mf mg gm df dg =
      let x = raised_is f m prime hf mf gm df in
      let y = raised_is g m prime hg mg gm dg in
      let one : Term = record { coeff = 1; mono = m } in
      let drops : sub p (raised p f m) (raised p g m) ≡ sub p x.0 y.0 = (λ i. sub p (x.1 i) (y.1 i)) ∙ sub_cons p one x.0 y.0 (positive_of_prime p prime) in
      subst (EachMono (Lower m)) (sym drops) (every_add (Lower m) p x.0 (multiple p (p - 1) y.0) x.2 (every_multiple (Lower m) p (p - 1) y.0 y.2))

  s_below : (f g : List Term) → ArePaired p n shift f g → EachMono (λ m. cmp_dp m (lead_lcm f g) ≡ Less) (s_vector p f g)
  s_below f g a =
      difference_below f g (lead_lcm f g) a.prime a.first a.second a.first_monic a.second_monic (lcm_graded f g a)
      (lcm_left n (lead_mono f) (lead_mono g) (lead_g f a.first) (lead_g g a.second) a.one_component)
      (lcm_right n (lead_mono f) (lead_mono g) (lead_g f a.first) (lead_g g a.second) a.one_component)

  s_member : (gs : List (List Term)) (f g : List Term) → ArePaired p n shift f g → InModule p n gs f → InModule p n gs g → InModule p n gs (s_vector p f g)
  s_member gs f g a x y =
      let pos = positive_of_prime p a.prime in
      let m = lead_lcm f g in
      let gm = lcm_graded f g a in
      in_sub p n gs (raised p f m) (raised p g m) pos
      (in_product p n gs f (record { coeff = 1; mono = cofactor (lead_mono f) m } ∷ []) pos (graded_cofactor n (lead_mono f) m (lead_g f a.first) gm, tt) (refl, tt) x)
      (in_product p n gs g (record { coeff = 1; mono = cofactor (lead_mono g) m } ∷ []) pos (graded_cofactor n (lead_mono g) m (lead_g g a.second) gm, tt) (refl, tt) y)

pub s_vector_law : SVectorLaws
s_vector_law = record { vector = s_is_vector; degree = s_degree; below = s_below; member = s_member }
