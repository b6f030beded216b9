-- The members of the module of a denominator, as pairs.
use Rattle.std.proofs.Common.{◌≡◌, ℕ, ◌+◌, ◌*◌, ◌<◌, List, [], ◌∷◌, ◌++◌, length, replicate, refl, sym, ap, ◌∙◌, subst, arith}
use Rattle.std.specs.declared.cmp.Ordering.TheVariants.{Greater}
use Rattle.std.specs.Ordering.{nat_cmp}
use Rattle.std.proofs.lemmas.List.{append-nil}
use Rattle.std.specs.List.{All}
use Rattle.std.proofs.lemmas.List.Elements.{All-nil, All-cons, All-head, All-tail}
use Rattle.monomials.specs.Mono.{Monomial, total_degree, times, cmp_dp}
use Rattle.monomials.proofs.Exponents.{plus_zeros}
use Rattle.monomials.proofs.Last.{by_component}
use Rattle.polys.specs.declared.term.Term.{Term}
use Rattle.polys.specs.Terms.{EachMono, IsCanonical, IsPoly, Under, normal, one, add, sub, mul, products, degree_of}
use Rattle.polys.specs.Poly.{IsPlain}
use Rattle.polys.specs.Ideal.{combination}
use Rattle.prime_field.proofs.Table.{positive_of_prime, above_one}
use Rattle.polys.proofs.Affine.{only_zeros}
use Rattle.polys.proofs.Each.{every_append, every_more, every_zip, every_normal, every_products, every_add, every_mul}
use Rattle.polys.proofs.Sums.{add_comm, mul-add}
use Rattle.polys.proofs.Units.{canonical_same, mul_one, add_none}
use Rattle.graded_modules.specs.Vector.{IsGraded, IsGradedVector, IsFactor, IsGenerator, IsOfDegree, degree_at}
use Rattle.graded_modules.specs.Module.{InModule}
use Rattle.graded_modules.proofs.Members.{in_sub, in_mul, in_more, in_head}
use Rattle.homogenising.specs.Homogenised.{homogenised, all_homogenised}
use Rattle.homogenising.specs.Laws.{IsHomogeneousPoly}
use Rattle.homogenising.proofs.Lifted.{homogenised_law}
use Rattle.homogenising.proofs.Stays.{module_cons}
use Rattle.homogenising.proofs.Images.{image, canonical_image}
use Rattle.ideal_laws.proofs.Differences.{add_sub}
use Rattle.denominator_module.specs.Module.{with_unit, module_of, first, second}
use Rattle.denominator_module.specs.Laws.{AreGiven}
use Rattle.denominator_module.proofs.Components.{IsFirstOrSecond, cmp_lowered, first-append, first-add, first-mul, first_plain, second-append, second-add, second-mul, second_plain}

-- the second unit vector
abbrev pub second_mono : Monomial
second_mono = record { exponents = replicate 7 0; component = 1 }

abbrev pub second_unit : List Term
second_unit = record { coeff = 1; mono = second_mono } ∷ []

-- the monomial in the second component
abbrev pub heightened : Monomial → Monomial
heightened m = record { exponents = m.exponents; component = 1 }

graded_second : (n : ℕ) → IsGraded n second_mono
graded_second n = record { seven = refl; first = only_zeros n 6; two = (omega arith) }

-- in the first component the shift does not count
pub plain_degree : (shift : ℕ) (m : Monomial) → IsPlain m → degree_at shift m ≡ degree_at 0 m
plain_degree shift m h =
    let none : total_degree m.exponents + 0 * shift ≡ total_degree m.exponents + 0 * 0 = omega arith in
    (λ i. total_degree m.exponents + h i * shift) ∙ none ∙ (λ i. total_degree m.exponents + sym h i * 0)

module _ (p n : ℕ) (d : List Term) (gs : List (List Term)) (given : AreGiven p n d gs) where
  pub pos : 0 < p
  pos = positive_of_prime p given.prime

  pub two : 1 < p
  two = above_one p given.prime

  pub homogeneous_d : IsHomogeneousPoly p n (homogenised d)
  homogeneous_d = homogenised_law.homogeneous p n d given.six given.denominator

  all_homogeneous : (gs : List (List Term)) → All (IsPoly p n) gs → All (IsHomogeneousPoly p n) (all_homogenised gs)
  all_homogeneous [] a = All-nil (IsHomogeneousPoly p n)
  all_homogeneous (g ∷ gs) a =
      All-cons (IsHomogeneousPoly p n) (homogenised g) (all_homogenised gs) (homogenised_law.homogeneous p n g given.six (All-head (IsPoly p n) g gs a))
      (all_homogeneous gs (All-tail (IsPoly p n) g gs a))

  pub homogeneous_gs : All (IsHomogeneousPoly p n) (all_homogenised gs)
  homogeneous_gs = all_homogeneous gs given.generators

  -- ---- the vector (d, 1)

  unit_below : (f : List Term) → EachMono IsPlain f → EachMono (λ m. cmp_dp m second_mono ≡ Greater) f
  unit_below [] h = tt
  unit_below (t ∷ f) h =
      let differ : t.mono.component ≡ 1 → ⊥ = (λ e. absurd (let z = h.0 in omega arith)) in
      let g : nat_cmp 1 t.mono.component ≡ Greater = (λ i. nat_cmp 1 (h.0 i)) in
      (sym (by_component t.mono second_mono differ) ∙ g, unit_below f h.1)

  canonical_append : (f : List Term) → IsCanonical p f → EachMono (λ m. cmp_dp m second_mono ≡ Greater) f → IsCanonical p (f ++ second_unit)
  canonical_append [] c h = ((omega arith), two, tt, tt)
  canonical_append (t ∷ f) c h = (c.0, c.1, under f c.2, canonical_append f c.3 h.1)
    where
      under : (f : List Term) → Under t.mono f → Under t.mono (f ++ second_unit)
      under [] u = h.0
      under (v ∷ f) u = u

  pub unit_vector : IsGradedVector p n (with_unit d)
  unit_vector =
      record {
        canonical = canonical_append (homogenised d) homogeneous_d.generator.vector.canonical (unit_below (homogenised d) homogeneous_d.plain);
        graded = every_append (IsGraded n) (homogenised d) second_unit homogeneous_d.generator.vector.graded (graded_second n, tt);
      }

  degrees_at : (shift e : ℕ) (f : List Term) → EachMono IsPlain f → IsOfDegree 0 e f → IsOfDegree shift e f
  degrees_at shift e f h k =
      every_more (λ m. IsPlain m × (degree_at 0 m ≡ e)) (λ m. degree_at shift m ≡ e) f (λ m x. plain_degree shift m x.0 ∙ x.1) (every_zip IsPlain (λ m. degree_at 0 m ≡ e) f h k)

  pub unit_generator : IsGenerator p n (degree_of d) (with_unit d)
  unit_generator =
      record {
        vector = unit_vector;
        homogeneous = (
          degree_of d,
          every_append (λ m. degree_at (degree_of d) m ≡ degree_of d) (homogenised d) second_unit
              (degrees_at (degree_of d) (degree_of d) (homogenised d) homogeneous_d.plain (homogenised_law.degree p n d given.six given.denominator)) ((omega arith), tt),
        );
      }

  pub shifted : (shift : ℕ) (g : List Term) → IsHomogeneousPoly p n g → IsGenerator p n shift g
  shifted shift g h = record { vector = h.generator.vector; homogeneous = (h.generator.homogeneous.0, degrees_at shift h.generator.homogeneous.0 g h.plain h.generator.homogeneous.1) }

  all_shifted : (shift : ℕ) (gs : List (List Term)) → All (IsHomogeneousPoly p n) gs → All (IsGenerator p n shift) gs
  all_shifted shift [] a = All-nil (IsGenerator p n shift)
  all_shifted shift (g ∷ gs) a =
      All-cons (IsGenerator p n shift) g gs (shifted shift g (All-head (IsHomogeneousPoly p n) g gs a)) (all_shifted shift gs (All-tail (IsHomogeneousPoly p n) g gs a))

  pub module_generators : All (IsGenerator p n (degree_of d)) (module_of d gs)
  module_generators = All-cons (IsGenerator p n (degree_of d)) (with_unit d) (all_homogenised gs) unit_generator (all_shifted (degree_of d) (all_homogenised gs) homogeneous_gs)

  -- ---- the parts of members

  lows : (f : List Term) → EachMono (IsGraded n) f → EachMono IsFirstOrSecond f
  lows f h = every_more (IsGraded n) IsFirstOrSecond f (λ m x. x.two) h

  first_combination : (qs hs : List (List Term)) → All (IsFactor p n) qs → All (IsHomogeneousPoly p n) hs → EachMono IsPlain (combination p qs hs)
  first_combination [] hs a b = tt
  first_combination (q ∷ qs) [] a b = tt
  first_combination (q ∷ qs) (h ∷ hs) a b =
      every_add IsPlain p (mul p q h) (combination p qs hs)
      (every_mul IsPlain p q h (λ m w x y. omega arith) (All-head (IsFactor p n) q qs a).plain (All-head (IsHomogeneousPoly p n) h hs b).plain)
      (first_combination qs hs (All-tail (IsFactor p n) q qs a) (All-tail (IsHomogeneousPoly p n) h hs b))

  -- a member is a pair (a, b) in which a - b d^h is in the graded ideal of the generators
  pub record IsPair (v : List Term) : Type 0 where
    pub factor : IsFactor p n (second v)
    pub rest : List Term
    pub inside : InModule p n (all_homogenised gs) rest
    pub sum : first v ≡ add p (mul p (second v) (homogenised d)) rest

  -- the parts of q (d^h, 1) + (w, 0)
  module _ (q w : List Term) (h : IsFactor p n q) (k : EachMono IsPlain w) where
    low_q : EachMono IsFirstOrSecond (mul p q (with_unit d))
    low_q = every_normal IsFirstOrSecond p (products q (with_unit d)) (every_products IsPlain IsFirstOrSecond IsFirstOrSecond q (with_unit d) (λ m x a b. omega arith) h.plain (lows (with_unit d) unit_vector.graded))

    low_w : EachMono IsFirstOrSecond w
    low_w = every_more IsPlain IsFirstOrSecond w (λ m x. omega arith) k

    unit_second : second (with_unit d) ≡ one
    unit_second = second-append (homogenised d) second_unit ∙ (λ i. second_plain (homogenised d) homogeneous_d.plain i ++ one)

    unit_first : first (with_unit d) ≡ homogenised d
    unit_first = first-append (homogenised d) second_unit ∙ (λ i. first_plain (homogenised d) homogeneous_d.plain i ++ []) ∙ append-nil (homogenised d)

    pub seconds : second (add p (mul p q (with_unit d)) w) ≡ q
    seconds =
        second-add p (mul p q (with_unit d)) w pos low_q low_w
        ∙ (λ i. add p (second-mul p q (with_unit d) pos h.plain (lows (with_unit d) unit_vector.graded) i) (second_plain w k i))
        ∙ (λ i. add p (mul p q (unit_second i)) [])
        ∙ (λ i. add p (mul_one p q h.vector.canonical (every_more (IsGraded n) (λ m. length m.exponents ≡ 7) q (λ m x. x.seven) h.vector.graded) i) [])
        ∙ add_none p q h.vector.canonical

    pub firsts : first (add p (mul p q (with_unit d)) w) ≡ add p (mul p q (homogenised d)) w
    firsts =
        first-add p (mul p q (with_unit d)) w pos
        ∙ (λ i. add p (first-mul p q (with_unit d) pos h.plain i) (first_plain w k i))
        ∙ (λ i. add p (mul p q (unit_first i)) w)

  pair_of : (q w : List Term) → IsFactor p n q → InModule p n (all_homogenised gs) w → EachMono IsPlain w → IsPair (add p (mul p q (with_unit d)) w)
  pair_of q w h r k =
      record {
        factor = subst (IsFactor p n) (sym (seconds q w h k)) h;
        rest = w;
        inside = r;
        sum = firsts q w h k ∙ (λ i. add p (mul p (sym (seconds q w h k) i) (homogenised d)) w);
      }

  pub pairs : (v : List Term) → InModule p n (module_of d gs) v → IsPair v
  pairs v r = go r.factors r.polys r.as_many r.combined
    where
      go : (qs : List (List Term)) → All (IsFactor p n) qs → length qs ≡ length (module_of d gs) → v ≡ combination p qs (module_of d gs) → IsPair v
      go [] a l e = absurd (omega arith)
      go (q ∷ qs) a l e =
          subst IsPair (sym e)
          (pair_of q (combination p qs (all_homogenised gs)) (All-head (IsFactor p n) q qs a)
          (record { factors = qs; polys = All-tail (IsFactor p n) q qs a; as_many = (omega arith); combined = refl })
          (first_combination qs (all_homogenised gs) (All-tail (IsFactor p n) q qs a) homogeneous_gs))

  -- ---- members with given parts

  -- each member of the graded ideal of d and the generators is the first part of a member
  pub has_first : (a : List Term) → InModule p n (homogenised d ∷ all_homogenised gs) a → (v : List Term) × InModule p n (module_of d gs) v × (first v ≡ a)
  has_first a r = go r.factors r.polys r.as_many r.combined
    where
      go : (qs : List (List Term)) → All (IsFactor p n) qs → length qs ≡ length (homogenised d ∷ all_homogenised gs) → a ≡ combination p qs (homogenised d ∷ all_homogenised gs)
          → (v : List Term) × InModule p n (module_of d gs) v × (first v ≡ a)
      go [] x l e = absurd (omega arith)
      go (q ∷ qs) x l e =
          let w = combination p qs (all_homogenised gs) in
          let h = All-head (IsFactor p n) q qs x in
          let r : InModule p n (all_homogenised gs) w = record { factors = qs; polys = All-tail (IsFactor p n) q qs x; as_many = (omega arith); combined = refl } in
          let k = first_combination qs (all_homogenised gs) (All-tail (IsFactor p n) q qs x) homogeneous_gs in (
            add p (mul p q (with_unit d)) w,
            module_cons p n given.six pos q (with_unit d) w (all_homogenised gs) h r,
            firsts q w h k ∙ sym e,
          )

  -- ---- pairs (0, b)

  height_times : (m : Monomial) → length m.exponents ≡ 7 → IsPlain m → times m second_mono ≡ heightened m
  height_times m l h = λ i. record { exponents = plus_zeros 7 m.exponents l i; component = (let e : m.component + 1 ≡ 1 = omega arith in e) i }

  abbrev pub embedded : List Term → List Term
  embedded b = image heightened b

  products_unit : (b : List Term) → EachMono (λ m. (length m.exponents ≡ 7) × IsPlain m) b → products b second_unit ≡ embedded b
  products_unit [] h = refl
  products_unit (t ∷ b) h =
      let c : t.coeff * 1 ≡ t.coeff = omega arith in
      let e = height_times t.mono h.0.0 h.0.1 in
      λ i. record { coeff = c i; mono = e i } ∷ products_unit b h.1 i

  heights : (b : List Term) → IsFactor p n b → EachMono (λ m. (length m.exponents ≡ 7) × IsPlain m) b
  heights b h =
      every_zip (λ m. length m.exponents ≡ 7) IsPlain b (every_more (IsGraded n) (λ m. length m.exponents ≡ 7) b (λ m x. x.seven) h.vector.graded) h.plain

  pub embedded_canonical : (b : List Term) → IsFactor p n b → IsCanonical p (embedded b)
  embedded_canonical b h = canonical_image p IsPlain heightened b (λ x y i j. cmp_heightened x y (i ∙ sym j)) h.plain h.vector.canonical
    where
      cmp_heightened : (a b : Monomial) → a.component ≡ b.component → cmp_dp (heightened a) (heightened b) ≡ cmp_dp a b
      cmp_heightened a b e = sym (cmp_lowered (heightened a) (heightened b) refl) ∙ cmp_lowered a b e

  unit_sum : with_unit d ≡ add p (homogenised d) second_unit
  unit_sum = sym (canonical_same p (with_unit d) unit_vector.canonical)

  -- b (d^h, 1) less (b d^h, 0) is (0, b)
  embedded_is : (b : List Term) → IsFactor p n b → sub p (mul p b (with_unit d)) (mul p b (homogenised d)) ≡ embedded b
  embedded_is b h =
      (λ i. sub p (mul p b (unit_sum i)) (mul p b (homogenised d)))
      ∙ (λ i. sub p (mul-add p b (homogenised d) second_unit i) (mul p b (homogenised d)))
      ∙ (λ i. sub p (add_comm p (mul p b (homogenised d)) (mul p b second_unit) i) (mul p b (homogenised d)))
      ∙ (λ i. sub p (add p (products_are i) (mul p b (homogenised d))) (mul p b (homogenised d)))
      ∙ add_sub p (embedded b) (mul p b (homogenised d)) pos (embedded_canonical b h)
    where
      products_are : mul p b second_unit ≡ embedded b
      products_are = ap (normal p) (products_unit b (heights b h)) ∙ canonical_same p (embedded b) (embedded_canonical b h)

  pub embedded_inside : (b : List Term) → IsFactor p n b → InModule p n (all_homogenised gs) (mul p b (homogenised d)) → InModule p n (module_of d gs) (embedded b)
  embedded_inside b h r =
      subst (InModule p n (module_of d gs)) (embedded_is b h)
      (in_sub p n (module_of d gs) (mul p b (with_unit d)) (mul p b (homogenised d)) pos
      (in_mul p n (module_of d gs) b (with_unit d) pos h (in_head p n (with_unit d) (all_homogenised gs) two unit_vector))
      (in_more p n (with_unit d) (all_homogenised gs) (mul p b (homogenised d)) r))
