-- Texts with a separator between neighbours, in the order in which they are printed.
use Rattle.std.specs.Prelude.{ℕ, if◌then◌else◌, Bool, false, List, [], ◌∷◌, ◌++◌}

-- the separator before a text, unless it comes first
abbrev pub separator_part : Bool → List ℕ → List ℕ
separator_part is_first between = if is_first then [] else between

-- the texts from some place on
abbrev pub joined_rest : List ℕ → Bool → List (List ℕ) → List ℕ
joined_rest between is_first [] = []
joined_rest between is_first (x ∷ xs) = separator_part is_first between ++ (x ++ joined_rest between false xs)
