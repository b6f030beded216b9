-- Sums of multiples of the members of a list, by factors of any kind that is closed under sums and products.
use Rattle.std.proofs.Common.{◌≡◌, ℕ, ◌<◌, zero, suc, List, [], ◌∷◌, ◌++◌, length, map, get_or, refl, sym, ap, ◌∙◌, subst, arith}
use Rattle.std.specs.List.{All, Contains}
use Rattle.std.proofs.lemmas.List.{length-map}
use Rattle.std.proofs.lemmas.List.Elements.{All-nil, All-cons, All-head, All-tail}
use Rattle.polys.specs.declared.term.Term.{Term}
use Rattle.polys.specs.Terms.{EachMono, IsCanonical, normal, add, multiple, mul, one, products}
use Rattle.polys.specs.Ideal.{combination}
use Rattle.polys.proofs.Leads.{Seven}
use Rattle.ideal_laws.proofs.Multiples.{multiple-add, multiple-mul}
use Rattle.polys.proofs.Sums.{normal_normal, add_comm, add_medial, add-mul, mul-add, mul_assoc, mul_none}
use Rattle.polys.proofs.Units.{one_mul, canonical_same}

-- ---- sums and multiples of lists of factors

unfoldable plus_each : ℕ → List (List Term) → List (List Term) → List (List Term)
plus_each p [] rs = rs
plus_each p (q ∷ qs) [] = q ∷ qs
plus_each p (q ∷ qs) (r ∷ rs) = add p q r ∷ plus_each p qs rs

length-plus_each : (p : ℕ) (qs rs : List (List Term)) (k : ℕ) → length qs ≡ k → length rs ≡ k → length (plus_each p qs rs) ≡ k
unfolding plus_each
length-plus_each p [] rs k a b = b
length-plus_each p (q ∷ qs) [] k a b = a
length-plus_each p (q ∷ qs) (r ∷ rs) zero a b = absurd (omega arith)
length-plus_each p (q ∷ qs) (r ∷ rs) (suc k) a b = let ih = length-plus_each p qs rs k (omega arith) (omega arith) in omega arith

normal-combination : (p : ℕ) (qs gs : List (List Term)) → normal p (combination p qs gs) ≡ combination p qs gs
normal-combination p [] gs = refl
normal-combination p (q ∷ qs) [] = refl
normal-combination p (q ∷ qs) (g ∷ gs) = normal_normal p (mul p q g ++ combination p qs gs)

combination_plus : (p : ℕ) (qs rs gs : List (List Term)) → combination p (plus_each p qs rs) gs ≡ add p (combination p qs gs) (combination p rs gs)
unfolding plus_each
combination_plus p [] rs gs = sym (normal-combination p rs gs)
combination_plus p (q ∷ qs) [] gs = sym (add_comm p (combination p (q ∷ qs) gs) [] ∙ normal-combination p (q ∷ qs) gs)
combination_plus p (q ∷ qs) (r ∷ rs) [] = refl
combination_plus p (q ∷ qs) (r ∷ rs) (g ∷ gs) =
    (λ i. add p (add-mul p q r g i) (combination_plus p qs rs gs i))
    ∙ add_medial p (mul p q g) (mul p r g) (combination p qs gs) (combination p rs gs)

combination_times : (p : ℕ) (a : List Term) (qs gs : List (List Term)) → combination p (map (mul p a) qs) gs ≡ mul p a (combination p qs gs)
combination_times p a [] gs = sym (mul_none p a)
combination_times p a (q ∷ qs) [] = sym (mul_none p a)
combination_times p a (q ∷ qs) (g ∷ gs) =
    (λ i. add p (mul_assoc p a q g i) (combination_times p a qs gs i))
    ∙ sym (mul-add p a (mul p q g) (combination p qs gs))

combination_multiple : (p c : ℕ) (qs gs : List (List Term)) → combination p (map (multiple p c) qs) gs ≡ multiple p c (combination p qs gs)
combination_multiple p c [] gs = refl
combination_multiple p c (q ∷ qs) [] = refl
combination_multiple p c (q ∷ qs) (g ∷ gs) =
    (λ i. add p (multiple-mul p c q g i) (combination_multiple p c qs gs i))
    ∙ sym (multiple-add p c (mul p q g) (combination p qs gs))

-- ---- factors of which Q holds

-- f is a sum of multiples of the members of gs by factors of which Q holds
pub record IsCombined (p : ℕ) (Q : List Term → Type 0) (gs : List (List Term)) (f : List Term) : Type 0 where
  pub factors : List (List Term)
  pub each : All Q factors
  pub as_many : length factors ≡ length gs
  pub is : f ≡ combination p factors gs

module _ (p : ℕ) (Q : List Term → Type 0) where
  all_plus : (qs rs : List (List Term)) → ((q r : List Term) → Q q → Q r → Q (add p q r)) → All Q qs → All Q rs → All Q (plus_each p qs rs)
  unfolding plus_each
  all_plus [] rs h a b = b
  all_plus (q ∷ qs) [] h a b = a
  all_plus (q ∷ qs) (r ∷ rs) h a b =
      All-cons Q (add p q r) (plus_each p qs rs) (h q r (All-head Q q qs a) (All-head Q r rs b))
      (all_plus qs rs h (All-tail Q q qs a) (All-tail Q r rs b))

  all_map : (change : List Term → List Term) (qs : List (List Term)) → ((q : List Term) → Q q → Q (change q)) → All Q qs → All Q (map change qs)
  all_map change [] h a = All-nil Q
  all_map change (q ∷ qs) h a = All-cons Q (change q) (map change qs) (h q (All-head Q q qs a)) (all_map change qs h (All-tail Q q qs a))

  pub combined_none : Q [] → (gs : List (List Term)) → IsCombined p Q gs []
  combined_none z [] = record { factors = []; each = All-nil Q; as_many = refl; is = refl }
  combined_none z (g ∷ gs) =
      let r = combined_none z gs in
      record { factors = [] ∷ r.factors; each = All-cons Q [] r.factors z r.each; as_many = (let e = r.as_many in omega arith); is = ap (normal p) r.is }

  pub combined_add : ((q r : List Term) → Q q → Q r → Q (add p q r)) → (gs : List (List Term)) (f g : List Term) → IsCombined p Q gs f → IsCombined p Q gs g → IsCombined p Q gs (add p f g)
  combined_add h gs f g a b = record {
    factors = plus_each p a.factors b.factors;
    each = all_plus a.factors b.factors h a.each b.each;
    as_many = length-plus_each p a.factors b.factors (length gs) a.as_many b.as_many;
    is = (λ i. add p (a.is i) (b.is i)) ∙ sym (combination_plus p a.factors b.factors gs);
  }

  -- the multiple by a polynomial, and by a number
  pub combined_mul : (a : List Term) → ((q : List Term) → Q q → Q (mul p a q)) → (gs : List (List Term)) (f : List Term) → IsCombined p Q gs f → IsCombined p Q gs (mul p a f)
  combined_mul a h gs f b = record {
    factors = map (mul p a) b.factors;
    each = all_map (mul p a) b.factors h b.each;
    as_many = length-map b.factors (mul p a) ∙ b.as_many;
    is = ap (mul p a) b.is ∙ sym (combination_times p a b.factors gs);
  }

  pub combined_multiple : (c : ℕ) → ((q : List Term) → Q q → Q (multiple p c q)) → (gs : List (List Term)) (f : List Term) → IsCombined p Q gs f → IsCombined p Q gs (multiple p c f)
  combined_multiple c h gs f b = record {
    factors = map (multiple p c) b.factors;
    each = all_map (multiple p c) b.factors h b.each;
    as_many = length-map b.factors (multiple p c) ∙ b.as_many;
    is = ap (multiple p c) b.is ∙ sym (combination_multiple p c b.factors gs);
  }

  -- a list with one member more
  pub combined_more : Q [] → (g : List Term) (gs : List (List Term)) (f : List Term) → IsCombined p Q gs f → IsCombined p Q (g ∷ gs) f
  combined_more z g gs f b = record {
    factors = [] ∷ b.factors;
    each = All-cons Q [] b.factors z b.each;
    as_many = (let e = b.as_many in omega arith);
    is = b.is ∙ sym (normal-combination p b.factors gs);
  }

  pub combined_head : Q [] → Q one → (g : List Term) (gs : List (List Term)) → EachMono Seven g → IsCanonical p g → IsCombined p Q (g ∷ gs) g
  combined_head z o g gs s c =
      let r = combined_none z gs in
      record {
        factors = one ∷ r.factors;
        each = All-cons Q one r.factors o r.each;
        as_many = (let e = r.as_many in omega arith);
        is =
            sym (ap (λ r. add p (mul p one g) r) (sym r.is)
            ∙ add_comm p (mul p one g) []
            ∙ normal_normal p (products one g)
            ∙ one_mul p g s
            ∙ canonical_same p g c);
      }

  -- a member of the list
  pub combined_member : Q [] → Q one → (gs : List (List Term)) (g : List Term) → EachMono Seven g → IsCanonical p g → Contains gs g → IsCombined p Q gs g
  combined_member z o gs g s n c = go gs c.0 c.1 c.2
    where
      go : (gs : List (List Term)) → (k : ℕ) → k < length gs → get_or gs k g ≡ g → IsCombined p Q gs g
      go [] k l e = absurd (omega arith)
      go (x ∷ gs) zero l e = subst (λ y. IsCombined p Q (y ∷ gs) g) (sym e) (combined_head z o g gs s n)
      go (x ∷ gs) (suc k) l e = combined_more z x gs g (go gs k (omega arith) e)

  -- what holds of sums, and of the multiples of the members, holds of all combinations
  pub combined_holds : (P S : List Term → Type 0) → S [] → ((f g : List Term) → S f → S g → S (add p f g)) → ((q g : List Term) → Q q → P g → S (mul p q g))
      → (gs : List (List Term)) (f : List Term) → All P gs → IsCombined p Q gs f → S f
  combined_holds P S z add_holds mul_holds gs f a b = subst S (sym b.is) (go b.factors gs b.each a)
    where
      go : (qs gs : List (List Term)) → All Q qs → All P gs → S (combination p qs gs)
      go [] gs h a = z
      go (q ∷ qs) [] h a = z
      go (q ∷ qs) (g ∷ gs) h a =
          add_holds (mul p q g) (combination p qs gs) (mul_holds q g (All-head Q q qs h) (All-head P g gs a)) (go qs gs (All-tail Q q qs h) (All-tail P g gs a))
