-- Texts joined by a separator.
use Rattle.std.proofs.Common.{◌≡◌, ℕ, ◌+◌, ◌<◌, suc, List, [], ◌∷◌, ◌++◌, Bool, true, false, length, drop, get_or, refl, sym, ap, ◌∙◌, append_assoc, append-nil, add-one, drop-cons}
use Rattle.std.specs.Prelude.{map}
use Rattle.poly_text.specs.PolyText.{join}
use Rattle.norm_text.specs.Joined.{separator_part, joined_rest}

later : (between x : List ℕ) (xs : List (List ℕ)) → x ++ joined_rest between false xs ≡ join between (x ∷ xs)
later between x [] = append-nil x
later between x (y ∷ xs) = ap (λ (t : List ℕ). x ++ (between ++ t)) (later between y xs)

-- from the first place on they are joined
pub joined_rest-first : (between : List ℕ) (xs : List (List ℕ)) → join between xs ≡ joined_rest between true xs
joined_rest-first between [] = refl
joined_rest-first between (x ∷ xs) = sym (later between x xs)

-- the next text and the rest
pub joined_rest-next : {X : Type 0} (between text done : List ℕ) (f : X → List ℕ) (items : List X) (is_first : Bool) (i : ℕ) (x d : X) → i < length items → x ≡ get_or items i d
    → text ≡ done ++ joined_rest between is_first (map f (drop i items))
    → text ≡ ((done ++ separator_part is_first between) ++ f x) ++ joined_rest between false (map f (drop (i + 1) items))
joined_rest-next {X = X} between text done f items is_first i x d within is_x whole =
    whole
    ∙ ap (λ (rest : List (List ℕ)). done ++ joined_rest between is_first rest) (ap (map f) here)
    ∙ sym (append_assoc done (separator_part is_first between) (f x ++ joined_rest between false (map f (drop (i + 1) items))))
    ∙ sym (append_assoc (done ++ separator_part is_first between) (f x) (joined_rest between false (map f (drop (i + 1) items))))
  where
    here : drop i items ≡ x ∷ drop (i + 1) items
    here = rw (add-one, drop-cons items i d) (ap (λ (u : X). u ∷ drop (suc i) items) (sym is_x))

-- two texts printed behind what was printed
pub printed-two : (new mid out old done a b : List ℕ) → new ≡ mid ++ b → mid ≡ out ++ a → out ≡ old ++ done → new ≡ old ++ ((done ++ a) ++ b)
printed-two new mid out old done a b e1 e2 e3 = rw (e1, e2, e3) (simp append_assoc)
