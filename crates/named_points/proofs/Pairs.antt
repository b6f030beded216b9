-- What holds of each item of a list of images and each later one.
use Rattle.std.proofs.Common.{◌<◌, List, map, length, get_or, sym, subst, arith}
use Rattle.std.specs.List.{AllPairs}
use Rattle.std.proofs.lemmas.List.{get_or-map, length-map}

module _ {X Y : Type 0} (R : Y → Y → Type 0) (f : X → Y) where
  -- some item stands for what lies past the end
  pub pairs_map : (Y → X) → (xs : List X) → AllPairs (λ a b. R (f a) (f b)) xs → AllPairs R (map f xs)
  pairs_map start xs h i j e less within =
      let d = start e in
      let long : j < length xs = subst (λ n. j < n) (length-map xs f) within in
      subst (λ v. R v (get_or (map f xs) j e)) (sym (get_or-map f xs i d e (omega arith)))
      (subst (λ v. R (f (get_or xs i d)) v) (sym (get_or-map f xs j d e long)) (h i j d less long))

  pub pairs_unmap : (xs : List X) → AllPairs R (map f xs) → AllPairs (λ a b. R (f a) (f b)) xs
  pairs_unmap xs h i j d less within =
      subst (λ v. R v (f (get_or xs j d))) (get_or-map f xs i d (f d) (omega arith))
      (subst (λ v. R (get_or (map f xs) i (f d)) v) (get_or-map f xs j d (f d) within)
      (h i j (f d) less (subst (λ n. j < n) (sym (length-map xs f)) within)))
