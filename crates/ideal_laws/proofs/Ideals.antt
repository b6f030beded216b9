-- Ideals are closed under sums and multiples.
use Rattle.std.proofs.Common.{ℕ, ◌-◌, ◌<◌, List, [], ◌∷◌, subst}
use Rattle.std.specs.List.{All, Contains}
use Rattle.std.proofs.lemmas.List.Elements.{All-contains}
use Rattle.polys.specs.declared.term.Term.{Term}
use Rattle.polys.specs.Terms.{IsPoly, add, sub, multiple, mul}
use Rattle.polys.specs.Ideal.{InIdeal}
use Rattle.ideal_laws.specs.Laws.{IdealLaws}
use Rattle.polys.proofs.Affine.{constant, mul_constant, poly_constant, poly_none, poly_one, poly_add, poly_mul, sevens_of}
use Rattle.ideal_laws.proofs.Combinations.{IsCombined, combined_none, combined_add, combined_mul, combined_more, combined_head, combined_member, combined_holds}

module _ (p n : ℕ) where
  combined : {gs : List (List Term)} {f : List Term} → InIdeal p n gs f → IsCombined p (IsPoly p n) gs f
  combined a = record { factors = a.factors; each = a.polys; as_many = a.as_many; is = a.combined }

  member : {gs : List (List Term)} {f : List Term} → IsCombined p (IsPoly p n) gs f → InIdeal p n gs f
  member a = record { factors = a.factors; polys = a.each; as_many = a.as_many; combined = a.is }

  pub in_none : (gs : List (List Term)) → InIdeal p n gs []
  in_none gs = member (combined_none p (IsPoly p n) (poly_none p n) gs)

  pub in_add : (gs : List (List Term)) (f g : List Term) → 0 < p → InIdeal p n gs f → InIdeal p n gs g → InIdeal p n gs (add p f g)
  in_add gs f g h a b = member (combined_add p (IsPoly p n) (λ q r. poly_add p n q r h) gs f g (combined a) (combined b))

  pub in_mul : (gs : List (List Term)) (a f : List Term) → 0 < p → IsPoly p n a → InIdeal p n gs f → InIdeal p n gs (mul p a f)
  in_mul gs a f h c b = member (combined_mul p (IsPoly p n) a (λ q. poly_mul p n a q h c) gs f (combined b))

  pub in_multiple : (gs : List (List Term)) (c : ℕ) (f : List Term) → 0 < p → IsPoly p n f → InIdeal p n gs f → InIdeal p n gs (multiple p c f)
  in_multiple gs c f h k b = subst (InIdeal p n gs) (mul_constant p c f (sevens_of p n f k)) (in_mul gs (constant p c) f h (poly_constant p n c h) b)

  pub in_sub : (gs : List (List Term)) (f g : List Term) → 0 < p → IsPoly p n g → InIdeal p n gs f → InIdeal p n gs g → InIdeal p n gs (sub p f g)
  in_sub gs f g h k a b = in_add gs f (multiple p (p - 1) g) h a (in_multiple gs (p - 1) g h k b)

  -- a list with one generator more
  pub in_more : (g : List Term) (gs : List (List Term)) (f : List Term) → InIdeal p n gs f → InIdeal p n (g ∷ gs) f
  in_more g gs f b = member (combined_more p (IsPoly p n) (poly_none p n) g gs f (combined b))

  pub in_head : (g : List Term) (gs : List (List Term)) → 1 < p → IsPoly p n g → InIdeal p n (g ∷ gs) g
  in_head g gs h c = member (combined_head p (IsPoly p n) (poly_none p n) (poly_one p n h) g gs (sevens_of p n g c) c.canonical)

  pub in_generator : (gs : List (List Term)) (g : List Term) → 1 < p → All (IsPoly p n) gs → Contains gs g → InIdeal p n gs g
  in_generator gs g h a c =
      let k = All-contains (IsPoly p n) gs g a c in
      member (combined_member p (IsPoly p n) (poly_none p n) (poly_one p n h) gs g (sevens_of p n g k) k.canonical c)

  pub in_larger : (gs hs : List (List Term)) (f : List Term) → 0 < p → All (InIdeal p n hs) gs → InIdeal p n gs f → InIdeal p n hs f
  in_larger gs hs f h a b =
      combined_holds p (IsPoly p n) (InIdeal p n hs) (InIdeal p n hs) (in_none hs) (λ f g. in_add hs f g h) (λ q g. in_mul hs q g h) gs f a (combined b)

  pub in_poly : (gs : List (List Term)) (f : List Term) → 0 < p → All (IsPoly p n) gs → InIdeal p n gs f → IsPoly p n f
  in_poly gs f h a b =
      combined_holds p (IsPoly p n) (IsPoly p n) (IsPoly p n) (poly_none p n) (λ f g. poly_add p n f g h) (λ q g. poly_mul p n q g h) gs f a (combined b)

pub ideal_law : IdealLaws
ideal_law = record {
  none = in_none;
  generator = in_generator;
  sum = in_add;
  multiple = in_mul;
  larger = in_larger;
  polys = in_poly;
}
