-- What settles a pair: a division, and two criteria.
use Rattle.std.proofs.Common.{◌≡◌, ◌≢◌, ℕ, ◌+◌, ◌-◌, ◌*◌, ◌%◌, ◌<◌, ◌≤◌, zero, suc, List, [], ◌∷◌, ◌++◌, length, map, max, refl, sym, ap, ◌∙◌, subst, arith}
use native.Mathlib.Nat.{mod-eq_of_lt}
use Rattle.std.specs.List.{Contains}
use Rattle.std.proofs.lemmas.List.Elements.{All-nil, All-cons, Contains-append_left, Contains-push}
use Rattle.monomials.specs.Mono.{Monomial, pointwise, times, unit, total_degree, cmp_dp}
use Rattle.monomials.proofs.Exponents.{plus}
use Rattle.monomials.proofs.Order.{times_one, times_comm, cmp_dp-times}
use Rattle.prime_field.specs.Primes.{IsPrime}
use Rattle.polys.specs.declared.term.Term.{Term}
use Rattle.polys.specs.Terms.{IsCanonical, EachMono, IsMonic, IsMonicOf, normal, add, sub, mul, multiple, products, scaled}
use Rattle.polys.specs.Poly.{IsPlain}
use Rattle.polys.proofs.Sums.{normal_normal, add_comm, add_assoc, add_normal_right, mul_comm, mul_none}
use Rattle.polys.proofs.Units.{canonical_same}
use Rattle.polys.proofs.Each.{every_scaled, every_normal}
use Rattle.polys.proofs.Products.{times_residue, multiple_by_residue, mul-append}
use Rattle.graded_modules.specs.Vector.{IsGraded, IsGradedVector, IsOfDegree, degree_at, lead_mono}
use Rattle.graded_modules.specs.SVector.{cofactor, raised, lead_lcm, s_vector, Multiple, top, IsBelow, IsSumBelow, IsSettled}
use Rattle.graded_modules.specs.Laws.{ArePaired, SettledLaws}
use Rattle.graded_modules.proofs.Graded.{graded_times, graded_unit, degree_times, lead_graded, each_seven}
use Rattle.graded_modules.proofs.Cofactors.{cofactor_times}
use Rattle.ideal_laws.proofs.Multiples.{mul_number, multiple_multiple, multiple_residue, multiple_one, multiple_zero}
use Rattle.ideal_laws.proofs.Differences.{from_sub, to_sub, sub_none}
use Rattle.graded_modules.proofs.Multiples.{below_more, below_add, below_multiple}
use Rattle.graded_modules.proofs.Tops.{Lower, tail_below}
use Rattle.graded_modules.proofs.SVectors.{swap_settled, chain_settled, same_degrees}
use Rattle.prime_field.proofs.Table.{positive_of_prime, above_one}

-- ---- a division

-- the inverse of the number that made r monic is its lead's coefficient
pub unscaled : (p c : ℕ) (t : Term) (r b : List Term) → IsPrime p → c < p → IsCanonical p (t ∷ r) → IsMonic b → b ≡ multiple p c (t ∷ r)
    → ((t.coeff * c) % p ≡ 1) × (lead_mono b ≡ t.mono)
unscaled p zero t r b prime l k monic e = absurd (subst IsMonic (e ∙ multiple_zero p (t ∷ r)) monic)
unscaled p (suc c) t r b prime l k monic e =
    let s : map (times_residue p (suc c)) (t ∷ r) ≡ b = multiple_by_residue p (suc c) (t ∷ r) prime (omega arith) l k ∙ sym e in
    let one : (suc c * t.coeff) % p ≡ 1 = subst IsMonic (sym s) monic in
    let turn : t.coeff * suc c ≡ suc c * t.coeff = omega arith in
    (ap (λ (n : ℕ). n % p) turn ∙ one, ap lead_mono (sym s))

module _ (p n shift : ℕ) where
  nothing_left : (bs : List (List Term)) (m : Monomial) (f : List Term) → IsPrime p → IsGradedVector p n f → IsSumBelow p n shift bs m (sub p f []) → IsSumBelow p n shift bs m f
  nothing_left bs m f prime h a = subst (IsSumBelow p n shift bs m) (sub_none p f (positive_of_prime p prime) ∙ canonical_same p f h.canonical) a

  -- one multiple alone
  one_below : (bs : List (List Term)) (m : Monomial) (s : Multiple) → IsBelow p n shift bs m s → IsSumBelow p n shift bs m (mul p s.vector (s.term ∷ []))
  one_below bs m s h = record {
    multiples = s ∷ [];
    each = All-cons (IsBelow p n shift bs m) s [] h (All-nil (IsBelow p n shift bs m));
    sum = sym (add_comm p (mul p s.vector (s.term ∷ [])) [] ∙ normal_normal p (products s.vector (s.term ∷ [])));
  }

  remainder : (bs : List (List Term)) (m : Monomial) (f r b : List Term) → IsPrime p → IsGradedVector p n f → IsGradedVector p n r
      → r ≢ [] → EachMono (Lower m) r → IsOfDegree shift (degree_at shift m) r → IsMonicOf p r b
      → IsSumBelow p n shift bs m (sub p f r) → IsSumBelow p n shift (bs ++ b ∷ []) m f
  remainder bs m f [] b prime hf hr some low deg monic a = absurd (some refl)
  remainder bs m f (t ∷ r) b prime hf hr some low deg monic a =
      let pos = positive_of_prime p prime in
      let c = monic.1.0 in
      let back = unscaled p c t r b prime monic.1.1 hr.canonical monic.0 monic.1.2 in
      let s : Multiple = record { vector = b; term = record { coeff = t.coeff; mono = unit } } in
      let top_is : top s ≡ t.mono = ap (λ w. times w unit) back.1 ∙ times_one t.mono hr.graded.0.seven in
      let is : IsBelow p n shift (bs ++ b ∷ []) m s = record {
        member = Contains-push bs b;
        residue = hr.canonical.1;
        graded = graded_unit n;
        plain = refl;
        below = ap (λ w. cmp_dp w m) top_is ∙ low.0;
        degree = ap (degree_at shift) top_is ∙ deg.0;
      } in
      let sevens_b = subst (EachMono (λ w. length w.exponents ≡ 7)) (sym (monic.1.2)) (sevens c) in
      let r_is : mul p b (record { coeff = t.coeff; mono = unit } ∷ []) ≡ t ∷ r =
      mul_number p t.coeff b sevens_b
      ∙ ap (multiple p t.coeff) (monic.1.2)
      ∙ multiple_multiple p t.coeff c (t ∷ r)
      ∙ multiple_residue p (t.coeff * c) 1 (t ∷ r) (back.0 ∙ sym (mod-eq_of_lt (above_one p prime)))
      ∙ multiple_one p (t ∷ r)
      ∙ canonical_same p (t ∷ r) hr.canonical in
      subst (IsSumBelow p n shift (bs ++ b ∷ []) m)
      ((λ i. add p (r_is i) (sub p f (t ∷ r))) ∙ sym (from_sub p f (t ∷ r) (sub p f (t ∷ r)) pos refl) ∙ canonical_same p f hf.canonical)
      (below_add p n shift (bs ++ b ∷ []) m (mul p b (record { coeff = t.coeff; mono = unit } ∷ [])) (sub p f (t ∷ r)) (one_below (bs ++ b ∷ []) m s is)
      (below_more p n shift bs (bs ++ b ∷ []) m (sub p f (t ∷ r)) (λ x k. Contains-append_left bs (b ∷ []) x k) a))
    where
      use_every : (c : ℕ) → EachMono (λ w. length w.exponents ≡ 7) (scaled c (t ∷ r))
      use_every c = every_scaled (λ w. length w.exponents ≡ 7) c (t ∷ r) (each_seven n (t ∷ r) hr.graded)

      sevens : (c : ℕ) → EachMono (λ w. length w.exponents ≡ 7) (multiple p c (t ∷ r))
      sevens c = every_normal (λ w. length w.exponents ≡ 7) p (scaled c (t ∷ r)) (use_every c)

-- ---- the product criterion

-- where the sum of the greater exponents is the sum of all, at each place one is 0
max_plus : (a b : List ℕ) → length a ≡ length b → total_degree (pointwise max a b) ≡ total_degree a + total_degree b → pointwise max a b ≡ plus a b
max_plus a b e h = go a b e (omega arith)
  where
    under : (a b : List ℕ) → total_degree (pointwise max a b) ≤ total_degree a + total_degree b
    under [] b = omega arith
    under (x ∷ a) [] = omega arith
    under (x ∷ a) (y ∷ b) = omega (arith, under a b)

    go : (a b : List ℕ) → length a ≡ length b → total_degree a + total_degree b ≤ total_degree (pointwise max a b) → pointwise max a b ≡ plus a b
    go [] b e h = refl
    go (x ∷ a) [] e h = refl
    go (x ∷ a) (y ∷ b) e h =
        let l = under a b in
        let s : max x y ≡ x + y = omega arith in
        λ i. s i ∷ go a b (omega arith) (omega arith) i

cancel : (p : ℕ) (x w a : List Term) → 0 < p → add p x a ≡ add p w a → normal p x ≡ normal p w
cancel p x w a h e =
    sym (to_sub p (add p x a) a x h (normal_normal p (x ++ a) ∙ add_comm p x a))
    ∙ ap (λ v. sub p v a) e
    ∙ to_sub p (add p w a) a w h (normal_normal p (w ++ a) ∙ add_comm p w a)

module _ (p n shift : ℕ) (bs : List (List Term)) where
  products_below : (g f : List Term) (u : Monomial) → Contains bs g → IsGraded n u → IsGraded n (lead_mono g) → IsCanonical p f → EachMono (IsGraded n) f → EachMono IsPlain f
      → EachMono (Lower u) f → IsOfDegree shift (degree_at shift u) f → IsSumBelow p n shift bs (times (lead_mono g) u) (mul p g f)
  products_below g [] u c gu gg k a z l d = record { multiples = []; each = All-nil (IsBelow p n shift bs (times (lead_mono g) u)); sum = mul_none p g }
  products_below g (t ∷ f) u c gu gg k a z l d =
      let m = times (lead_mono g) u in
      let s : Multiple = record { vector = g; term = t } in
      let is : IsBelow p n shift bs m s = record {
        member = c;
        residue = k.1;
        graded = a.0;
        plain = z.0;
        below = (λ i. cmp_dp (times_comm (lead_mono g) t.mono i) (times_comm (lead_mono g) u i)) ∙ cmp_dp-times t.mono u (lead_mono g) (a.0.seven ∙ sym gu.seven) ∙ l.0;
        degree = degree_times shift (lead_mono g) t.mono ∙ ap (λ (k : ℕ). degree_at shift (lead_mono g) + k) d.0 ∙ sym (degree_times shift (lead_mono g) u);
      } in
      subst (IsSumBelow p n shift bs m) (sym (mul-append p g (t ∷ []) f))
      (below_add p n shift bs m (mul p g (t ∷ [])) (mul p g f) (one_below p n shift bs m s is) (products_below g f u c gu gg k.3 a.1 z.1 l.1 d.1))

  coprime : (f g : List Term) → ArePaired p n shift f g → Contains bs f → Contains bs g → EachMono IsPlain f → EachMono IsPlain g
      → total_degree (lead_lcm f g).exponents ≡ total_degree (lead_mono f).exponents + total_degree (lead_mono g).exponents → IsSettled p n shift bs f g
  coprime [] g a cf cg zf zg e = absurd a.first_monic
  coprime (u ∷ f) [] a cf cg zf zg e = absurd a.second_monic
  coprime (u ∷ f) (v ∷ g) a cf cg zf zg e =
      subst (IsSumBelow p n shift bs m) (sym s_is)
      (below_add p n shift bs m right (multiple p (p - 1) left)
      (subst (λ w. IsSumBelow p n shift bs w right) (times_comm v.mono u.mono ∙ sym m_is)
      (products_below (v ∷ g) f u.mono cg hu hv a.first.vector.canonical.3 a.first.vector.graded.1 zf.1 (tail_below p u f a.first.vector.canonical) (same_degrees p n shift (u ∷ f) a.first).1))
      (below_multiple p n shift bs m (p - 1) left pos
      (subst (λ w. IsSumBelow p n shift bs w left) (sym m_is)
      (products_below (u ∷ f) g v.mono cf hv hu a.second.vector.canonical.3 a.second.vector.graded.1 zg.1 (tail_below p v g a.second.vector.canonical) (same_degrees p n shift (v ∷ g) a.second).1))))
    where
      pos : 0 < p
      pos = positive_of_prime p a.prime

      m : Monomial
      m = lead_lcm (u ∷ f) (v ∷ g)

      hu : IsGraded n u.mono
      hu = a.first.vector.graded.0

      hv : IsGraded n v.mono
      hv = a.second.vector.graded.0

      m_is : m ≡ times u.mono v.mono
      m_is =
          let x = max_plus u.mono.exponents v.mono.exponents (hu.seven ∙ sym hv.seven) e in
          let c : u.mono.component ≡ u.mono.component + v.mono.component = let q = zg.0 in omega arith in
          λ i. record { exponents = x i; component = c i }

      -- f times the tail of g, and g times the tail of f
      left : List Term
      left = mul p (u ∷ f) g

      right : List Term
      right = mul p (v ∷ g) f

      first : List Term
      first = mul p (u ∷ f) (v ∷ [])

      second : List Term
      second = mul p (v ∷ g) (u ∷ [])

      raised_first : raised p (u ∷ f) m ≡ first
      raised_first =
          let w : cofactor u.mono m ≡ v.mono = ap (cofactor u.mono) m_is ∙ cofactor_times n u.mono v.mono hu hv (graded_times n u.mono v.mono hu hv zg.0) zg.0 in
          let one : 1 ≡ v.coeff = sym a.second_monic in
          λ i. mul p (u ∷ f) (record { coeff = one i; mono = w i } ∷ [])

      raised_second : raised p (v ∷ g) m ≡ second
      raised_second =
          let w : cofactor v.mono m ≡ u.mono = ap (cofactor v.mono) (m_is ∙ times_comm u.mono v.mono) ∙ cofactor_times n v.mono u.mono hv hu (graded_times n v.mono u.mono hv hu zf.0) zf.0 in
          let one : 1 ≡ u.coeff = sym a.first_monic in
          λ i. mul p (v ∷ g) (record { coeff = one i; mono = w i } ∷ [])

      both : add p first left ≡ add p second right
      both = sym (mul-append p (u ∷ f) (v ∷ []) g) ∙ mul_comm p (u ∷ f) (v ∷ g) ∙ mul-append p (v ∷ g) (u ∷ []) f

      moved : normal p first ≡ add p second (sub p right left)
      moved =
          cancel p first (add p second (sub p right left)) left pos
          (both
          ∙ sym (add_normal_right p second right)
          ∙ ap (add p second) (from_sub p right left (sub p right left) pos refl ∙ add_comm p left (sub p right left))
          ∙ sym (add_assoc p second (sub p right left) left))
          ∙ normal_normal p (second ++ sub p right left)

      s_is : s_vector p (u ∷ f) (v ∷ g) ≡ sub p right left
      s_is =
          (λ i. sub p (raised_first i) (raised_second i))
          ∙ to_sub p first second (sub p right left) pos moved
          ∙ normal_normal p (right ++ multiple p (p - 1) left)

pub settled_law : SettledLaws
settled_law = record {
  more = below_more;
  nothing_left = nothing_left;
  remainder = remainder;
  chain = λ p n shift bs f g h v a b d x y.
      chain_settled p n shift bs (positive_of_prime p a.prime) v f g h (lead_graded n f a.first.vector.graded) (lead_graded n g a.second.vector.graded) (lead_graded n h b.second.vector.graded)
      a.one_component b.one_component d x y;
  swapped = λ p n shift bs f g v a x. swap_settled p n shift bs (positive_of_prime p a.prime) v f g a.one_component x;
  coprime = coprime;
}
