-- What holds at each place of a list.
use Rattle.std.proofs.Common.{◌≡◌, ℕ, ◌<◌, List, [], ◌∷◌, ◌++◌, length, get_or, arith, refl, sym, subst, ⊎_elim}
use Rattle.std.proofs.lemmas.Bool.{cases_lt}
use Rattle.std.proofs.lemmas.List.{get_or_append_left, get_or_push, length-append}
use Rattle.race_table.specs.Views.{front, back}
use Rattle.race_table.specs.declared.view.View.{View}
use Rattle.worker_gate.specs.Crews.{IsBlank}

pub each-push : {X : Type 0} (P : ℕ → X → Type 0) (xs : List X) (y : X) → ((k : ℕ) (d : X) → k < length xs → P k (get_or xs k d)) → P (length xs) y
    → (k : ℕ) (d : X) → k < length (xs ++ y ∷ []) → P k (get_or (xs ++ y ∷ []) k d)
each-push P xs y each last k d inside = ⊎_elim
    (λ below. subst (P k) (sym (get_or_append_left xs (y ∷ []) d k below)) (each k d below))
    (λ above.
    let at : length xs ≡ k = omega (arith, length-append xs (y ∷ [])) in
    subst (P k) (sym (get_or_push xs y d k at)) (subst (λ j. P j y) at last))
    (cases_lt k (length xs))

pub each-front : {X : Type 0} (P : ℕ → X → Type 0) (xs : List X) (y : X) → ((k : ℕ) (d : X) → k < length (xs ++ y ∷ []) → P k (get_or (xs ++ y ∷ []) k d))
    → (k : ℕ) (d : X) → k < length xs → P k (get_or xs k d)
each-front P xs y each k d inside = subst (P k) (get_or_append_left xs (y ∷ []) d k inside) (each k d (omega (arith, length-append xs (y ∷ []))))

pub each-last : {X : Type 0} (P : ℕ → X → Type 0) (xs : List X) (y : X) → ((k : ℕ) (d : X) → k < length (xs ++ y ∷ []) → P k (get_or (xs ++ y ∷ []) k d)) → P (length xs) y
each-last P xs y each = subst (P (length xs)) (get_or_push xs y y (length xs) refl) (each (length xs) y (omega (arith, length-append xs (y ∷ []))))

pub blank-front : (v : View) → IsBlank v → IsBlank (front v)
blank-front v blank = record { drawn = blank.drawn; won = blank.won; untold = blank.untold }

pub blank-back : (v : View) → IsBlank (back v)
blank-back v = record { drawn = refl; won = refl; untold = refl }
