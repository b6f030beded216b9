-- What a division leaves, and what it takes away.
use Rattle.std.proofs.Common.{◌≡◌, ℕ, ◌+◌, ◌-◌, ◌%◌, ◌<◌, ◌≤◌, zero, suc, List, [], ◌∷◌, map, take, length, get_or, refl, sym, ap, ◌∙◌, subst, arith}
use Rattle.std.specs.List.{All, Contains}
use Rattle.std.specs.declared.cmp.Ordering.TheVariants.{Less}
use Rattle.std.proofs.lemmas.List.Elements.{All-nil, All-cons, All-head, All-tail, All-contains}
use native.Mathlib.Nat.{mod_self}
use Rattle.prime_field.specs.Primes.{IsPrime}
use Rattle.monomials.specs.Mono.{Monomial, IsMono, times, total_degree, cmp_dp}
use Rattle.monomials.proofs.Exponents.{total_degree-plus, plus}
use Rattle.monomials.proofs.Order.{cmp_dp-times, dp_total}
use Rattle.polys.specs.declared.term.Term.{Term}
use Rattle.polys.specs.Terms.{IsCanonical, EachMono, OnlyFirst, IsAffine, IsPoly, normal, add, sub, mul, products}
use Rattle.polys.specs.Poly.{IsVector, IsPlain}
use Rattle.polys.specs.Ideal.{InIdeal}
use Rattle.polys.proofs.Sums.{add_comm, add_medial, mul_comm, mul_normal_right}
use Rattle.polys.proofs.Each.{every_add, every_normal, every_products, every_more, every_zip}
use Rattle.polys.proofs.Units.{canonical_same}
use Rattle.polys.proofs.Products.{mul_by_none}
use Rattle.polys.proofs.Affine.{poly_normal, affine_times}
use Rattle.ideal_laws.proofs.Ideals.{in_none, in_add, in_mul}
use Rattle.graded_modules.specs.Vector.{IsGraded, IsGradedVector, IsGenerator, IsOfDegree, degree_at, lead_mono}
use Rattle.graded_modules.specs.Module.{InModule}
use Rattle.graded_modules.specs.SVector.{Multiple, total, top, IsBelow, IsSumBelow}
use Rattle.graded_modules.proofs.Graded.{graded_times, degree_times}
use Rattle.graded_modules.proofs.Members as Modules
use Rattle.graded_modules.proofs.Multiples.{normal-total}
use Rattle.ideal_laws.proofs.Multiples.{mul_two}
use Rattle.ideal_laws.proofs.Differences.{to_sub}
use Rattle.graded_modules.proofs.SVectors.{same_degrees}
use Rattle.graded_modules.proofs.Tops.{tail_below}
use Rattle.module_division.specs.Division.{AreSteps, Reduces, after}

pub each_at : (P : Monomial → Type 0) (f : List Term) (m : Monomial) → EachMono P f → Contains (map (λ t. t.mono) f) m → P m
each_at P f m h w = go f w.0 w.1 w.2 h
  where
    go : (f : List Term) (k : ℕ) → k < length (map (λ (t : Term). t.mono) f) → get_or (map (λ (t : Term). t.mono) f) k m ≡ m → EachMono P f → P m
    go [] k l e h = absurd (omega arith)
    go (t ∷ f) zero l e h = subst P e h.0
    go (t ∷ f) (suc k) l e h = go f k (omega arith) e h.1

-- P is kept by each multiple of a member whose lead becomes a monomial with P
abbrev pub Keeps : (Monomial → Type 0) → List (List Term) → Type 0
Keeps P bs = (b : List Term) → Contains bs b → (w : Monomial) → IsMono w → IsPlain w → P (times (lead_mono b) w) → EachMono (λ u. P (times u w)) b

-- the step taken back
abbrev pub back : ℕ → Multiple → Multiple
back p s = record { vector = s.vector; term = record { coeff = p - s.term.coeff; mono = s.term.mono } }

module _ (p : ℕ) (bs : List (List Term)) (v : List Term) where
  each_after : (P : Monomial → Type 0) → Keeps P bs → EachMono P v → (ss : List Multiple) → AreSteps bs p v ss → EachMono P (after p v ss) × All (λ s. P (top s)) ss
  each_after P keeps h [] steps = (h, All-nil (λ s. P (top s)))
  each_after P keeps h (s ∷ ss) steps =
      let ih = each_after P keeps h ss steps.1 in
      let step = steps.0 in
      let here : P (top s) = each_at P (after p v ss) (top s) ih.0 step.there in
      let multiple : EachMono P (mul p s.vector (s.term ∷ [])) =
      every_normal P p (products s.vector (s.term ∷ []))
      (every_products (λ u. P (times u s.term.mono)) (λ m. m ≡ s.term.mono) P s.vector (s.term ∷ []) (λ m w a e. subst (λ x. P (times m x)) (sym e) a)
      (keeps s.vector step.member s.term.mono step.mono step.plain here) (refl, tt)) in
      (every_add P p (after p v ss) (mul p s.vector (s.term ∷ [])) ih.0 multiple, All-cons (λ s. P (top s)) s ss here ih.1)

  pub each_left : (P : Monomial → Type 0) (r : List Term) → Keeps P bs → EachMono P v → Reduces p bs v r → EachMono P r
  each_left P r keeps h d = subst (EachMono P) (sym d.left) (each_after P keeps h d.steps d.each).0

  pub each_top : (P : Monomial → Type 0) (r : List Term) → Keeps P bs → EachMono P v → (d : Reduces p bs v r) → All (λ s. P (top s)) d.steps
  each_top P r keeps h d = (each_after P keeps h d.steps d.each).1

  undone : (ss : List Multiple) → IsCanonical p v → AreSteps bs p v ss → v ≡ add p (total p (map (back p) ss)) (after p v ss)
  undone [] c steps = sym (canonical_same p v c)
  undone (s ∷ ss) c steps =
      let b = s.vector in
      let m = s.term.mono in
      let k = s.term.coeff in
      let step = steps.0 in
      let low = step.residue in
      let X : List Term = mul p b (s.term ∷ []) in
      let Y : List Term = mul p b ((back p s).term ∷ []) in
      let T : List Term = total p (map (back p) ss) in
      let u : List Term = after p v ss in
      let whole : (p - k) + k ≡ p = omega arith in
      let none : add p Y X ≡ [] =
      mul_two p (p - k) k m b ∙ mul_by_none p (record { coeff = ((p - k) + k) % p; mono = m }) b (ap (λ (n : ℕ). n % p) whole ∙ mod_self p) in
      sym (ap (add p (add p Y T)) (add_comm p u X)
      ∙ add_medial p Y T X u
      ∙ (λ i. add p (none i) (sym (undone ss c steps.1) i))
      ∙ canonical_same p v c)

  pub difference : (r : List Term) → 0 < p → IsCanonical p v → (d : Reduces p bs v r) → sub p v r ≡ total p (map (back p) d.steps)
  difference r pos c d =
      let T : List Term = total p (map (back p) d.steps) in
      to_sub p v r T pos (canonical_same p v c ∙ undone d.steps c d.each ∙ ap (add p T) (sym d.left) ∙ add_comm p T r)
      ∙ normal-total p (map (back p) d.steps)

-- ---- what is kept

only_part : (n k : ℕ) (a b : List ℕ) → OnlyFirst n (take k (plus a b)) → length a ≡ length b → OnlyFirst n (take k b)
only_part n zero a b h e = tt
only_part n (suc k) [] [] h e = tt
only_part n (suc k) [] (y ∷ b) h e = absurd (omega arith)
only_part n (suc k) (x ∷ a) [] h e = tt
only_part zero (suc k) (x ∷ a) (y ∷ b) h e = let z = h.0 in (omega arith, only_part zero k a b h.1 (omega arith))
only_part (suc n) (suc k) (x ∷ a) (y ∷ b) h e = only_part n k a b h (omega arith)

only_whole : (n : ℕ) (a b : List ℕ) → OnlyFirst n (plus a b) → length a ≡ length b → OnlyFirst n b
only_whole n [] [] h e = tt
only_whole n [] (y ∷ b) h e = absurd (omega arith)
only_whole n (x ∷ a) [] h e = tt
only_whole zero (x ∷ a) (y ∷ b) h e = let z = h.0 in (omega arith, only_whole zero a b h.1 (omega arith))
only_whole (suc n) (x ∷ a) (y ∷ b) h e = only_whole n a b h (omega arith)

-- the factor of a graded monomial is graded
pub factor_graded : (n : ℕ) (l w : Monomial) → length l.exponents ≡ 7 → IsMono w → IsPlain w → IsGraded n (times l w) → IsGraded n w
factor_graded n l w seven m z g = record {
  seven = m.seven;
  first = only_part n 6 l.exponents w.exponents g.first (seven ∙ sym m.seven);
  two = omega arith;
}

pub factor_affine : (n : ℕ) (l w : Monomial) → length l.exponents ≡ 7 → IsMono w → IsPlain w → IsAffine n (times l w) → IsAffine n w
factor_affine n l w seven m z g = record {
  seven = m.seven;
  first = only_whole n l.exponents w.exponents g.first (seven ∙ sym m.seven);
  plain = z;
}

pub lead_seven : (P : Monomial → Type 0) (b : List Term) → ((m : Monomial) → P m → length m.exponents ≡ 7) → EachMono P b → length (lead_mono b).exponents ≡ 7
lead_seven P [] h e = refl
lead_seven P (t ∷ b) h e = h t.mono e.0

pub keeps_graded : (p n shift : ℕ) (bs : List (List Term)) → All (IsGenerator p n shift) bs → Keeps (IsGraded n) bs
keeps_graded p n shift bs all b c w m z g =
    let h : IsGenerator p n shift b = All-contains (IsGenerator p n shift) bs b all c in
    let f = factor_graded n (lead_mono b) w (lead_seven (IsGraded n) b (λ m k. k.seven) h.vector.graded) m z g in
    every_more (IsGraded n) (λ u. IsGraded n (times u w)) b (λ u k. graded_times n u w k f z) h.vector.graded

pub keeps_degree : (p n shift e : ℕ) (bs : List (List Term)) → All (IsGenerator p n shift) bs → Keeps (λ m. degree_at shift m ≡ e) bs
keeps_degree p n shift e bs all b c w m z g =
    let h : IsGenerator p n shift b = All-contains (IsGenerator p n shift) bs b all c in
    every_more (λ u. degree_at shift u ≡ degree_at shift (lead_mono b)) (λ u. degree_at shift (times u w) ≡ e) b
    (λ u k. degree_times shift u w ∙ ap (λ (d : ℕ). d + degree_at shift w) k ∙ sym (degree_times shift (lead_mono b) w) ∙ g) (same_degrees p n shift b h)

pub keeps_below : (p : ℕ) (bound : Monomial) (bs : List (List Term)) → All (IsVector p) bs → Keeps (λ m. cmp_dp m bound ≡ Less) bs
keeps_below p bound bs all b c w m z g = go b (All-contains (IsVector p) bs b all c) g
  where
    go : (b : List Term) → IsVector p b → cmp_dp (times (lead_mono b) w) bound ≡ Less → EachMono (λ u. cmp_dp (times u w) bound ≡ Less) b
    go [] h g = tt
    go (t ∷ f) h g = (
      g,
      every_more (λ u. (cmp_dp u t.mono ≡ Less) × IsMono u) (λ u. cmp_dp (times u w) bound ≡ Less) f
          (λ u k. dp_total.trans (times u w) (times t.mono w) bound (cmp_dp-times u t.mono w (k.1.seven ∙ sym h.monos.0.seven) ∙ k.0) g)
          (every_zip (λ u. cmp_dp u t.mono ≡ Less) IsMono f (tail_below p t f h.canonical) h.monos.1),
    )

pub keeps_affine : (p n : ℕ) (bs : List (List Term)) → All (IsPoly p n) bs → Keeps (IsAffine n) bs
keeps_affine p n bs all b c w m z g =
    let h : IsPoly p n b = All-contains (IsPoly p n) bs b all c in
    let f = factor_affine n (lead_mono b) w (lead_seven (IsAffine n) b (λ m k. k.seven) h.affine) m z g in
    every_more (IsAffine n) (λ u. IsAffine n (times u w)) b (λ u k. affine_times n u w k f) h.affine

-- no monomial of f has a greater degree than the lead, with unit vectors not counted
abbrev pub IsTight : List Term → Type 0
IsTight f = EachMono (λ m. total_degree m.exponents ≤ total_degree (lead_mono f).exponents) f

pub keeps_degree_bound : (d : ℕ) (bs : List (List Term)) → All IsTight bs → Keeps (λ m. total_degree m.exponents ≤ d) bs
keeps_degree_bound d bs all b c w m z g =
    every_more (λ u. total_degree u.exponents ≤ total_degree (lead_mono b).exponents) (λ u. total_degree (times u w).exponents ≤ d) b
    (λ u k. omega (arith, total_degree-plus u.exponents w.exponents, total_degree-plus (lead_mono b).exponents w.exponents)) (All-contains IsTight bs b all c)

-- ---- the remainder of a homogeneous vector

module _ (p n : ℕ) (pos : 0 < p) (gs : List (List Term)) where
  in_total : (bs : List (List Term)) (v : List Term) (ss : List Multiple) → AreSteps bs p v ss → All (InModule p n gs) bs → All (λ s. IsGraded n s.term.mono) ss
      → InModule p n gs (total p (map (back p) ss))
  in_total bs v [] steps all h = Modules.in_none p n gs
  in_total bs v (s ∷ ss) steps all h =
      Modules.in_add p n gs (mul p s.vector ((back p s).term ∷ [])) (total p (map (back p) ss)) pos
      (Modules.in_product p n gs s.vector ((back p s).term ∷ []) pos (All-head (λ s. IsGraded n s.term.mono) s ss h, tt) (steps.0.plain, tt)
      (All-contains (InModule p n gs) bs s.vector all steps.0.member))
      (in_total bs v ss steps.1 all (All-tail (λ s. IsGraded n s.term.mono) s ss h))

-- what holds of the remainder r of a homogeneous vector v of degree e
pub record IsGradedRemainder (p n shift : ℕ) (bs : List (List Term)) (v r : List Term) (e : ℕ) : Type 0 where
  pub vector : IsGradedVector p n r
  pub degree : IsOfDegree shift e r
  pub member : (gs : List (List Term)) → All (InModule p n gs) bs → InModule p n gs (sub p v r)
  pub low : (m : Monomial) → EachMono (λ w. cmp_dp w m ≡ Less) v → EachMono (λ w. cmp_dp w m ≡ Less) r
  pub below : (m : Monomial) → degree_at shift m ≡ e → EachMono (λ w. cmp_dp w m ≡ Less) v → IsSumBelow p n shift bs m (sub p v r)

module _ (p n shift : ℕ) (prime : IsPrime p) (bs : List (List Term)) (generators : All (IsGenerator p n shift) bs) (vectors : All (IsVector p) bs) (v r : List Term) (e : ℕ)
    (graded : IsGradedVector p n v) (degrees : IsOfDegree shift e v) (d : Reduces p bs v r) (canonical : IsCanonical p r) where
  positive : 0 < p
  positive = let two = prime.0 in omega arith

  tops_graded : All (λ s. IsGraded n (top s)) d.steps
  tops_graded = each_top p bs v (IsGraded n) r (keeps_graded p n shift bs generators) graded.graded d

  factors_graded : (ss : List Multiple) → AreSteps bs p v ss → All (λ s. IsGraded n (top s)) ss → All (λ s. IsGraded n s.term.mono) ss
  factors_graded [] steps h = All-nil (λ s. IsGraded n s.term.mono)
  factors_graded (s ∷ ss) steps h =
      All-cons (λ s. IsGraded n s.term.mono) s ss
      (factor_graded n (lead_mono s.vector) s.term.mono
      (lead_seven IsMono s.vector (λ m k. k.seven) (All-contains (IsVector p) bs s.vector vectors steps.0.member).monos) steps.0.mono steps.0.plain
      (All-head (λ s. IsGraded n (top s)) s ss h))
      (factors_graded ss steps.1 (All-tail (λ s. IsGraded n (top s)) s ss h))

  each_below : (m : Monomial) → degree_at shift m ≡ e → (ss : List Multiple) → AreSteps bs p v ss → All (λ s. IsGraded n s.term.mono) ss
      → All (λ s. degree_at shift (top s) ≡ e) ss → All (λ s. cmp_dp (top s) m ≡ Less) ss → All (IsBelow p n shift bs m) (map (back p) ss)
  each_below m q [] steps g h k = All-nil (IsBelow p n shift bs m)
  each_below m q (s ∷ ss) steps g h k =
      let high = steps.0.not_zero in
      All-cons (IsBelow p n shift bs m) (back p s) (map (back p) ss)
      (record {
        member = steps.0.member;
        residue = let pos = positive in omega arith;
        graded = All-head (λ s. IsGraded n s.term.mono) s ss g;
        plain = steps.0.plain;
        below = All-head (λ s. cmp_dp (top s) m ≡ Less) s ss k;
        degree = All-head (λ s. degree_at shift (top s) ≡ e) s ss h ∙ sym q;
      })
      (each_below m q ss steps.1 (All-tail (λ s. IsGraded n s.term.mono) s ss g) (All-tail (λ s. degree_at shift (top s) ≡ e) s ss h) (All-tail (λ s. cmp_dp (top s) m ≡ Less) s ss k))

  pub graded_remainder : IsGradedRemainder p n shift bs v r e
  graded_remainder =
      let factors = factors_graded d.steps d.each tops_graded in
      let taken = difference p bs v r positive graded.canonical d in
      record {
        vector = record { canonical = canonical; graded = each_left p bs v (IsGraded n) r (keeps_graded p n shift bs generators) graded.graded d };
        degree = each_left p bs v (λ m. degree_at shift m ≡ e) r (keeps_degree p n shift e bs generators) degrees d;
        member = λ gs all. subst (InModule p n gs) (sym taken) (in_total p n positive gs bs v d.steps d.each all factors);
        low = λ m h. each_left p bs v (λ w. cmp_dp w m ≡ Less) r (keeps_below p m bs vectors) h d;
        below = λ m q h. record {
          multiples = map (back p) d.steps;
          each = each_below m q d.steps d.each factors
              (each_top p bs v (λ m. degree_at shift m ≡ e) r (keeps_degree p n shift e bs generators) degrees d)
              (each_top p bs v (λ w. cmp_dp w m ≡ Less) r (keeps_below p m bs vectors) h d);
          sum = taken;
        };
      }

-- ---- the remainder of an affine polynomial

module _ (p n : ℕ) (pos : 0 < p) (is : List (List Term)) where
  in_ideal_total : (bs : List (List Term)) (v : List Term) (ss : List Multiple) → AreSteps bs p v ss → All (InIdeal p n is) bs → All (λ s. IsAffine n s.term.mono) ss
      → InIdeal p n is (total p (map (back p) ss))
  in_ideal_total bs v [] steps all h = in_none p n is
  in_ideal_total bs v (s ∷ ss) steps all h =
      let t : Term = (back p s).term in
      in_add p n is (mul p s.vector (t ∷ [])) (total p (map (back p) ss)) pos
      (subst (InIdeal p n is) (mul_comm p (normal p (t ∷ [])) s.vector ∙ mul_normal_right p s.vector (t ∷ []))
      (in_mul p n is (normal p (t ∷ [])) s.vector pos (poly_normal p n (t ∷ []) pos (All-head (λ s. IsAffine n s.term.mono) s ss h, tt))
      (All-contains (InIdeal p n is) bs s.vector all steps.0.member)))
      (in_ideal_total bs v ss steps.1 all (All-tail (λ s. IsAffine n s.term.mono) s ss h))

-- what holds of the remainder r of a polynomial v
pub record IsAffineRemainder (p n : ℕ) (bs : List (List Term)) (v r : List Term) : Type 0 where
  pub poly : IsPoly p n r
  pub member : (is : List (List Term)) → All (InIdeal p n is) bs → InIdeal p n is (sub p v r)
  pub low : (m : Monomial) → EachMono (λ w. cmp_dp w m ≡ Less) v → EachMono (λ w. cmp_dp w m ≡ Less) r
  pub degree : (k : ℕ) → EachMono (λ w. total_degree w.exponents ≤ k) v → EachMono (λ w. total_degree w.exponents ≤ k) r

module _ (p n : ℕ) (prime : IsPrime p) (bs : List (List Term)) (polys : All (IsPoly p n) bs) (vectors : All (IsVector p) bs) (tight : All IsTight bs) (v r : List Term)
    (poly : IsPoly p n v) (d : Reduces p bs v r) (canonical : IsCanonical p r) where
  positive-a : 0 < p
  positive-a = let two = prime.0 in omega arith

  factors_affine : (ss : List Multiple) → AreSteps bs p v ss → All (λ s. IsAffine n (top s)) ss → All (λ s. IsAffine n s.term.mono) ss
  factors_affine [] steps h = All-nil (λ s. IsAffine n s.term.mono)
  factors_affine (s ∷ ss) steps h =
      All-cons (λ s. IsAffine n s.term.mono) s ss
      (factor_affine n (lead_mono s.vector) s.term.mono
      (lead_seven IsMono s.vector (λ m k. k.seven) (All-contains (IsVector p) bs s.vector vectors steps.0.member).monos) steps.0.mono steps.0.plain
      (All-head (λ s. IsAffine n (top s)) s ss h))
      (factors_affine ss steps.1 (All-tail (λ s. IsAffine n (top s)) s ss h))

  pub affine_remainder : IsAffineRemainder p n bs v r
  affine_remainder =
      let keeps = keeps_affine p n bs polys in
      let factors = factors_affine d.steps d.each (each_top p bs v (IsAffine n) r keeps poly.affine d) in
      record {
        poly = record { canonical = canonical; affine = each_left p bs v (IsAffine n) r keeps poly.affine d };
        member = λ is all. subst (InIdeal p n is) (sym (difference p bs v r positive-a poly.canonical d)) (in_ideal_total p n positive-a is bs v d.steps d.each all factors);
        low = λ m h. each_left p bs v (λ w. cmp_dp w m ≡ Less) r (keeps_below p m bs vectors) h d;
        degree = λ k h. each_left p bs v (λ w. total_degree w.exponents ≤ k) r (keeps_degree_bound k bs tight) h d;
      }
