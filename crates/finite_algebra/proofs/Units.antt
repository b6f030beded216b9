-- Rows as sums of multiples of unit rows; linear maps that agree on unit rows agree everywhere.
use Rattle.std.proofs.Common.{◌≡◌, ◌≢◌, ℕ, ◌+◌, ◌*◌, ◌%◌, ◌<◌, List, [], ◌∷◌, length, get_or, replicate, refl, sym, ap, ◌∙◌, arith, get_or-set_same, get_or-set_other, length-set}
use Rattle.std.proofs.lemmas.List.{get_or-replicate, length-replicate}
use Rattle.std.proofs.Math.Nat.{mod-mod}
use Rattle.comm_ring.specs.Sums.{joined, sum, below}
use Rattle.comm_ring.specs.Residues.{residue_ops}
use Rattle.comm_ring.specs.Rows.{rows}
use Rattle.comm_ring.proofs.Modules as Modules
use Rattle.comm_ring.proofs.Modules.{Module}
use Rattle.comm_ring.proofs.Residues.{residues}
use Rattle.comm_ring.proofs.Rows.{row-entry, row_module}
use Rattle.comm_ring.proofs.Sums.{sum_below-single}
use Rattle.finite_algebra.specs.Elements.{total, unit_row}
use Rattle.finite_algebra.proofs.Totals.{IsLinear, of_path, total_ext, total-add, total-scale, total-single, linear-total}

-- the entry of a sum of rows is the sum of their entries
pub joined-entry : (p width : ℕ) (f : ℕ → List ℕ) (xs : List ℕ) (t : ℕ) → t < width
    → let V = rows p width in get_or (joined V.◌⊞◌ V.origin f xs) t 0 ≡ sum (residue_ops p) (λ k. get_or (f k) t 0) xs
unfolding joined
joined-entry p width f [] t h = row-entry width (λ _. 0) t h
joined-entry p width f (x ∷ xs) t h = row-entry width _ t h ∙ ap (λ n. (get_or (f x) t 0 + n) % p) (joined-entry p width f xs t h)

pub length-unit_row : (n k : ℕ) → length (unit_row n k) ≡ n
length-unit_row n k = length-set (replicate n 0) k 1 ∙ length-replicate {A = ℕ} n 0

-- a unit row is 1 at its place, and 0 elsewhere
pub unit-own : (n k : ℕ) → k < n → get_or (unit_row n k) k 0 ≡ 1
unit-own n k h = get_or-set_same (replicate n 0) k 1 0 (omega (arith, length-replicate {A = ℕ} n 0))

pub unit-other : (n k t : ℕ) → t < n → t ≢ k → get_or (unit_row n k) t 0 ≡ 0
unit-other n k t h d = get_or-set_other (replicate n 0) k t 1 0 d ∙ get_or-replicate n t 0 0 h

module _ (p : ℕ) (positive : 0 < p) (n : ℕ) (M : Module (residues p positive)) where
  open M use {ops, carrier, ◌≋◌, ◌⊞◌, origin, ◌·◌, rfl, symm, trans, add_cong, scale_cong, sum_scale, product_scale, one_scale}

  infix 40 ◌≋◌
  infixl 60 ◌⊞◌
  infixr 65 ◌·◌
  infixr 30 ◌⨾◌
  ◌⨾◌ : {x y z : carrier} → x ≋ y → y ≋ z → x ≋ z
  ◌⨾◌ e f = trans e f

  -- c_0 u_0 + .. + c_(n-1) u_(n-1) for the entries of the row c
  abbrev pub along : (ℕ → carrier) → List ℕ → carrier
  along u c = total ops (λ k. get_or c k 0 · u k) n

  -- it is linear in the row
  pub along_linear : (u : ℕ → carrier) → IsLinear (rows p n) ops (along u)
  along_linear u = record {
    resp = λ x y e. total_ext (residues p positive) M _ _ n (λ k h. scale_cong (e k h) (rfl (u k)));
    add = λ x y. total_ext (residues p positive) M _ _ n (λ k h. of_path (residues p positive) M (ap (λ c. c · u k) (row-entry n _ k h)) ⨾ sum_scale (get_or x k 0) (get_or y k 0) (u k))
        ⨾ total-add (residues p positive) M (λ k. get_or x k 0 · u k) (λ k. get_or y k 0 · u k) n;
    scale = λ c x. total_ext (residues p positive) M _ _ n (λ k h. of_path (residues p positive) M (ap (λ e. e · u k) (row-entry n _ k h)) ⨾ product_scale c (get_or x k 0) (u k))
        ⨾ total-scale (residues p positive) M c (λ k. get_or x k 0 · u k) n;
  }

  -- at a unit row it is one summand
  pub along-unit : (u : ℕ → carrier) (k : ℕ) → k < n → along u (unit_row n k) ≋ u k
  along-unit u k h =
      total-single (residues p positive) M (λ j. get_or (unit_row n k) j 0 · u j) n k h
      (λ j l d. of_path (residues p positive) M (ap (λ c. c · u j) (unit-other n k j l d)) ⨾ Modules.zero_scale (residues p positive) M (u j))
      ⨾ of_path (residues p positive) M (ap (λ c. c · u k) (unit-own n k h)) ⨾ one_scale (u k)

module _ (p : ℕ) (positive : 0 < p) (n : ℕ) where
  -- a row is the sum of its entries times the unit rows
  pub expand : (v : List ℕ) → (rows p n).◌≋◌ v (along p positive n (row_module p positive n) (unit_row n) v)
  expand v t h = sym (ap (λ m. m % p) (joined-entry p n _ (below n) t h)
      ∙ sum_below-single (residues p positive) _ n t h
      (λ j l d. ap (λ m. m % p) (row-entry n _ t h ∙ ap (λ e. (get_or v j 0 * e) % p) (unit-other n j t h (λ e. d (sym e))) ∙ ap (λ m. m % p) (let z : get_or v j 0 * 0 ≡ 0 = omega arith in z)) ∙ mod-mod 0 p)
      ∙ ap (λ m. m % p) (row-entry n _ t h ∙ ap (λ e. (get_or v t 0 * e) % p) (unit-own n t h) ∙ ap (λ m. m % p) (let z : get_or v t 0 * 1 ≡ get_or v t 0 = omega arith in z))
      ∙ mod-mod (get_or v t 0) p)

module _ (p : ℕ) (positive : 0 < p) (n : ℕ) (M : Module (residues p positive)) where
  pub agree : (f g : List ℕ → M.carrier) → IsLinear (rows p n) M.ops f → IsLinear (rows p n) M.ops g → ((k : ℕ) → k < n → M.◌≋◌ (f (unit_row n k)) (g (unit_row n k)))
      → (v : List ℕ) → M.◌≋◌ (f v) (g v)
  agree f g l m e v = M.trans (M.trans (l.resp _ _ (expand p positive n v)) (spread f l))
      (M.trans (total_ext (residues p positive) M _ _ n (λ k h. M.scale_cong refl (e k h)))
      (M.symm (M.trans (m.resp _ _ (expand p positive n v)) (spread g m))))
    where
      spread : (h : List ℕ → M.carrier) → IsLinear (rows p n) M.ops h → M.◌≋◌ (h (along p positive n (row_module p positive n) (unit_row n) v)) (along p positive n M (λ k. h (unit_row n k)) v)
      spread h i = M.trans (linear-total (residues p positive) (row_module p positive n) M h i (λ k. (rows p n).◌·◌ (get_or v k 0) (unit_row n k)) n)
          (total_ext (residues p positive) M _ _ n (λ k r. i.scale (get_or v k 0) (unit_row n k)))
