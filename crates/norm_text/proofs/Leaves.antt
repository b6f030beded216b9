-- Items that are read one after the other.
use Rattle.std.proofs.Common.{◌≡◌, ℕ, List, [], ◌∷◌, ◌++◌, map, refl, sym, ap, ◌∙◌, append_assoc, append-nil}
use Rattle.std.specs.List.{All}

-- of all items those that are done were read, and the bytes are the text of the others
pub record Leaves {X : Type 0} (text : List X → List ℕ) (P : X → Type 0) (all done : List X) (bytes : List ℕ) : Type 0 where
  pub left : List X
  pub whole : done ++ left ≡ all
  pub others : bytes ≡ text left
  pub good : All P left

-- the next of them, whose text is the piece, and the bytes behind it
pub record Next {X : Type 0} (text : List X → List ℕ) (own : X → List ℕ) (P : X → Type 0) (all done : List X) (piece bytes : List ℕ) : Type 0 where
  pub first : X
  pub left : List X
  pub whole : done ++ (first ∷ left) ≡ all
  pub here : piece ≡ own first
  pub others : bytes ≡ text left
  pub fits : P first
  pub good : All P left

map_append : {X Y : Type 0} (view : Y → X) (ys : List Y) (y : Y) → map view (ys ++ (y ∷ [])) ≡ map view ys ++ (view y ∷ [])
map_append view [] y = refl
map_append view (z ∷ ys) y = ap (λ xs. view z ∷ xs) (map_append view ys y)

-- it was read
pub advance : {X Y : Type 0} (view : Y → X) (text : List X → List ℕ) (own : X → List ℕ) (P : X → Type 0) (all : List X) (items more : List Y) (y : Y) (piece bytes : List ℕ)
    → (n : Next text own P all (map view items) piece bytes) → view y ≡ n.first → more ≡ items ++ (y ∷ []) → Leaves text P all (map view more) bytes
advance view text own P all items more y piece bytes n is e = record {
  left = n.left;
  whole = ap (λ ys. map view ys ++ n.left) e ∙ ap (λ xs. xs ++ n.left) (map_append view items y)
      ∙ append_assoc (map view items) (view y ∷ []) n.left ∙ ap (λ x. map view items ++ (x ∷ n.left)) is ∙ n.whole;
  others = n.others;
  good = n.good;
}

-- none are left
pub finish : {X : Type 0} (text : List X → List ℕ) (P : X → Type 0) (all done : List X) (bytes : List ℕ) → (l : Leaves text P all done bytes)
    → ((x : X) (xs : List X) → l.left ≡ x ∷ xs → ⊥) → (done ≡ all) × (bytes ≡ text [])
finish {X = X} text P all done bytes l none = go l.left l.whole l.others none
  where
    go : (left : List X) → done ++ left ≡ all → bytes ≡ text left → ((x : X) (xs : List X) → left ≡ x ∷ xs → ⊥) → (done ≡ all) × (bytes ≡ text [])
    go [] whole others nothing = (sym (append-nil done) ∙ whole, others)
    go (x ∷ xs) whole others nothing = absurd (nothing x xs refl)
