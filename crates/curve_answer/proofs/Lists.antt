-- Lists and what is read from them.
use Rattle.std.proofs.Common.{◌≡◌, ℕ, zero, suc, ◌<◌, List, [], ◌∷◌, ◌++◌, map, length, get_or, take, All, Bool, true, false, arith, refl, sym, ap, subst}
use Rattle.std.specs.Prelude.{filter}
use Rattle.std.proofs.Math.Bool.{cond}
use Rattle.std.specs.List.{AllPairs}
use Rattle.std.proofs.lemmas.List.{get_or-map, length-map}
use Rattle.std.proofs.lemmas.List.Elements.{All-nil, All-cons, All-head, All-tail}

-- what holds of the images of pairs holds of pairs of images
pub pairs_of_images : {X Y : Type 0} (f : X → Y) (R : Y → Y → Type 0) (xs : List X) → AllPairs (λ x y. R (f x) (f y)) xs → AllPairs R (map f xs)
pairs_of_images {X} {Y} f R xs h i j d less within = go xs h i j d less within
  where
    long : (xs : List X) (j : ℕ) → j < length (map f xs) → j < length xs
    long xs j l = let e : length (map f xs) ≡ length xs = length-map xs f in omega arith

    go : (xs : List X) → AllPairs (λ x y. R (f x) (f y)) xs → (i j : ℕ) (d : Y) → i < j → j < length (map f xs) → R (get_or (map f xs) i d) (get_or (map f xs) j d)
    go [] h i j d less within = absurd (let l : j < 0 = within in omega arith)
    go (x ∷ xs) h i j d less within =
        let inside = long (x ∷ xs) j within in
        let first : get_or (map f (x ∷ xs)) i d ≡ f (get_or (x ∷ xs) i x) = get_or-map f (x ∷ xs) i x d (omega arith) in
        let second : get_or (map f (x ∷ xs)) j d ≡ f (get_or (x ∷ xs) j x) = get_or-map f (x ∷ xs) j x d inside in
        subst (λ y. R y (get_or (map f (x ∷ xs)) j d)) (sym first) (subst (R (f (get_or (x ∷ xs) i x))) (sym second) (h i j x less inside))

-- a list around one of its places
pub cut_at : {X : Type 0} (xs : List X) (i : ℕ) (d : X) → i < length xs → (after : List X) × (xs ≡ take i xs ++ get_or xs i d ∷ after)
cut_at [] i d l = absurd (omega arith)
cut_at (x ∷ xs) zero d l = (xs, refl)
cut_at (x ∷ xs) (suc i) d l = let r = cut_at xs i d (omega arith) in (r.0, ap (λ t. x ∷ t) r.1)

-- images of what is filtered are what is filtered of the images
pub filtered_images : {X Y : Type 0} (f : X → Y) (q : Y → Bool) (xs : List X) → map f (filter (λ x. q (f x)) xs) ≡ filter q (map f xs)
filtered_images f q [] = refl
filtered_images f q (x ∷ xs) = go (q (f x)) (filtered_images f q xs)
  where
    go : (t : Bool) → map f (filter (λ x. q (f x)) xs) ≡ filter q (map f xs)
        → map f (cond t (x ∷ filter (λ x. q (f x)) xs) (filter (λ x. q (f x)) xs)) ≡ cond t (f x ∷ filter q (map f xs)) (filter q (map f xs))
    go true e = ap (λ l. f x ∷ l) e
    go false e = e

-- what holds of all holds of those that are kept
pub all_filtered : {X : Type 0} (q : X → Bool) (P : X → Type 0) (xs : List X) → All P xs → All P (filter q xs)
all_filtered q P [] h = All-nil P
all_filtered q P (x ∷ xs) h = go (q x) (all_filtered q P xs (All-tail P x xs h))
  where
    go : (t : Bool) → All P (filter q xs) → All P (cond t (x ∷ filter q xs) (filter q xs))
    go true rest = All-cons P x (filter q xs) (All-head P x xs h) rest
    go false rest = rest

-- what holds of all images holds of what they are images of
pub all_of_images : {X Y : Type 0} (f : X → Y) (P : Y → Type 0) (xs : List X) → All P (map f xs) → All (λ x. P (f x)) xs
all_of_images f P [] h = All-nil (λ x. P (f x))
all_of_images f P (x ∷ xs) h =
    All-cons (λ x. P (f x)) x xs (All-head P (f x) (map f xs) h) (all_of_images f P xs (All-tail P (f x) (map f xs) h))
