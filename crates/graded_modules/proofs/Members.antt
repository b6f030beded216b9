-- Modules are closed under sums, differences and multiples.
use Rattle.std.proofs.Common.{ℕ, ◌-◌, ◌<◌, List, [], ◌∷◌, ◌∙◌, subst}
use Rattle.std.specs.List.{All, Contains}
use Rattle.std.proofs.lemmas.List.Elements.{All-contains}
use Rattle.polys.specs.Poly.{IsPlain}
use Rattle.polys.specs.declared.term.Term.{Term}
use Rattle.polys.specs.Terms.{EachMono, normal, add, sub, multiple, mul}
use Rattle.ideal_laws.proofs.Combinations.{IsCombined, combined_none, combined_add, combined_mul, combined_multiple, combined_more, combined_head, combined_member, combined_holds}
use Rattle.polys.proofs.Sums.{mul_comm, mul_normal_right}
use Rattle.graded_modules.specs.Vector.{IsGraded, IsGradedVector, IsFactor}
use Rattle.graded_modules.specs.Module.{InModule}
use Rattle.graded_modules.specs.Laws.{ModuleLaws}
use Rattle.graded_modules.proofs.Graded.{each_seven, vector_none, vector_add, vector_mul, factor_none, factor_one, factor_normal, factor_add, factor_mul, factor_multiple}

module _ (p n : ℕ) where
  combined : {gs : List (List Term)} {f : List Term} → InModule p n gs f → IsCombined p (IsFactor p n) gs f
  combined a = record { factors = a.factors; each = a.polys; as_many = a.as_many; is = a.combined }

  member : {gs : List (List Term)} {f : List Term} → IsCombined p (IsFactor p n) gs f → InModule p n gs f
  member a = record { factors = a.factors; polys = a.each; as_many = a.as_many; combined = a.is }

  pub in_none : (gs : List (List Term)) → InModule p n gs []
  in_none gs = member (combined_none p (IsFactor p n) (factor_none p n) gs)

  pub in_add : (gs : List (List Term)) (f g : List Term) → 0 < p → InModule p n gs f → InModule p n gs g → InModule p n gs (add p f g)
  in_add gs f g h a b = member (combined_add p (IsFactor p n) (λ q r. factor_add p n q r h) gs f g (combined a) (combined b))

  pub in_mul : (gs : List (List Term)) (a f : List Term) → 0 < p → IsFactor p n a → InModule p n gs f → InModule p n gs (mul p a f)
  in_mul gs a f h c b = member (combined_mul p (IsFactor p n) a (λ q. factor_mul p n a q h c) gs f (combined b))

  -- the factor on the right, and not yet of residues
  pub in_product : (gs : List (List Term)) (f a : List Term) → 0 < p → EachMono (IsGraded n) a → EachMono IsPlain a → InModule p n gs f → InModule p n gs (mul p f a)
  in_product gs f a h k z b =
      subst (InModule p n gs) (mul_comm p (normal p a) f ∙ mul_normal_right p f a) (in_mul gs (normal p a) f h (factor_normal p n a h k z) b)

  pub in_multiple : (gs : List (List Term)) (c : ℕ) (f : List Term) → 0 < p → InModule p n gs f → InModule p n gs (multiple p c f)
  in_multiple gs c f h b = member (combined_multiple p (IsFactor p n) c (λ q. factor_multiple p n c q h) gs f (combined b))

  pub in_sub : (gs : List (List Term)) (f g : List Term) → 0 < p → InModule p n gs f → InModule p n gs g → InModule p n gs (sub p f g)
  in_sub gs f g h a b = in_add gs f (multiple p (p - 1) g) h a (in_multiple gs (p - 1) g h b)

  -- a list with one generator more
  pub in_more : (g : List Term) (gs : List (List Term)) (f : List Term) → InModule p n gs f → InModule p n (g ∷ gs) f
  in_more g gs f b = member (combined_more p (IsFactor p n) (factor_none p n) g gs f (combined b))

  pub in_head : (g : List Term) (gs : List (List Term)) → 1 < p → IsGradedVector p n g → InModule p n (g ∷ gs) g
  in_head g gs h c = member (combined_head p (IsFactor p n) (factor_none p n) (factor_one p n h) g gs (each_seven n g c.graded) c.canonical)

  pub in_generator : (gs : List (List Term)) (g : List Term) → 1 < p → All (IsGradedVector p n) gs → Contains gs g → InModule p n gs g
  in_generator gs g h a c =
      let k = All-contains (IsGradedVector p n) gs g a c in
      member (combined_member p (IsFactor p n) (factor_none p n) (factor_one p n h) gs g (each_seven n g k.graded) k.canonical c)

  pub in_larger : (gs hs : List (List Term)) (f : List Term) → 0 < p → All (InModule p n hs) gs → InModule p n gs f → InModule p n hs f
  in_larger gs hs f h a b =
      combined_holds p (IsFactor p n) (InModule p n hs) (InModule p n hs) (in_none hs) (λ f g. in_add hs f g h) (λ q g. in_mul hs q g h) gs f a (combined b)

  pub in_vector : (gs : List (List Term)) (f : List Term) → 0 < p → All (IsGradedVector p n) gs → InModule p n gs f → IsGradedVector p n f
  in_vector gs f h a b =
      combined_holds p (IsFactor p n) (IsGradedVector p n) (IsGradedVector p n) (vector_none p n) (λ f g. vector_add p n f g h)
      (λ q g c k. subst (IsGradedVector p n) (mul_comm p g q) (vector_mul p n g q h k.graded c.vector.graded c.plain)) gs f a (combined b)

pub module_law : ModuleLaws
module_law = record {
  none = in_none;
  generator = in_generator;
  sum = in_add;
  difference = in_sub;
  multiple = in_mul;
  larger = in_larger;
  vectors = in_vector;
}
