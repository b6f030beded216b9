-- Residues as constant polynomials.
use Rattle.std.proofs.Common.{◌≡◌, ℕ, ◌+◌, ◌*◌, ◌%◌, ◌<◌, [], ◌∷◌, sym, ◌∙◌}
use Rattle.comm_ring.proofs.Residues.{mod_ring, mod_quote}
use Rattle.monomials.specs.Mono.{unit}
use Rattle.polys.specs.declared.term.Term.{Term}
use Rattle.polys.specs.Terms.{add, mul, products}
use Rattle.polys.proofs.Affine.{constant}
use Rattle.polys.proofs.Sums.{add_normal_left, add_normal_right, mul_normal_left, mul_normal_right}
use Rattle.polys.proofs.Weights.{Alike, weigh, normal_ext}

-- the number as a term
abbrev at_unit : ℕ → Term
at_unit c = record { coeff = c; mono = unit }

sum_alike : (p : ℕ) → 0 < p → (x y : ℕ) → Alike p (at_unit ((x + y) % p) ∷ []) (at_unit x ∷ at_unit y ∷ [])
unfolding weigh
sum_alike p h x y χ = mod_ring p h (x ∷ y ∷ χ unit ∷ []) _ _ (search mod_quote depth 20) tt

product_alike : (p : ℕ) → 0 < p → (x y : ℕ) → Alike p (at_unit ((x * y) % p) ∷ []) (products (at_unit x ∷ []) (at_unit y ∷ []))
unfolding weigh
product_alike p h x y χ = mod_ring p h (x ∷ y ∷ χ unit ∷ []) _ _ (search mod_quote depth 20) tt

pub constant_sum : (p : ℕ) → 0 < p → (x y : ℕ) → constant p ((x + y) % p) ≡ add p (constant p x) (constant p y)
constant_sum p h x y =
    normal_ext p (at_unit ((x + y) % p) ∷ []) (at_unit x ∷ at_unit y ∷ []) (sum_alike p h x y)
    ∙ sym (add_normal_left p (at_unit x ∷ []) (constant p y) ∙ add_normal_right p (at_unit x ∷ []) (at_unit y ∷ []))

pub constant_product : (p : ℕ) → 0 < p → (x y : ℕ) → constant p ((x * y) % p) ≡ mul p (constant p x) (constant p y)
constant_product p h x y =
    normal_ext p (at_unit ((x * y) % p) ∷ []) (products (at_unit x ∷ []) (at_unit y ∷ [])) (product_alike p h x y)
    ∙ sym (mul_normal_left p (at_unit x ∷ []) (constant p y) ∙ mul_normal_right p (at_unit x ∷ []) (at_unit y ∷ []))
