-- Rows of one width are a module over the numbers modulo p.
use Rattle.std.proofs.Common.{◌≡◌, ℕ, zero, suc, ◌<◌, [], ◌∷◌, length, map, get_or, refl, sym, ap₂, ◌∙◌, arith, mod-eq_of_lt}
use Rattle.std.proofs.lemmas.List.Elements.{All-head, All-tail}
use Rattle.std.specs.List.{range_with_len}
use Rattle.std.proofs.lemmas.List.FromFn.{get_or-map-range_with_len}
use Rattle.comm_ring.specs.Residues.{residue_ops}
use Rattle.comm_ring.specs.Modules.{IsModule}
use Rattle.comm_ring.specs.Rows.{rows}
use Rattle.comm_ring.specs.Laws.{RowsAreEqual}
use Rattle.comm_ring.proofs.Derived as Derived
use Rattle.comm_ring.proofs.Residues.{residues, residue_laws}
use Rattle.comm_ring.proofs.Modules.{Module}

-- the entry of a row that is given by its entries
pub row-entry : (width : ℕ) (f : ℕ → ℕ) (i : ℕ) → i < width → get_or (map f (range_with_len 0 width)) i 0 ≡ f i
row-entry width f i l = get_or-map-range_with_len f 0 width i i 0 l (omega arith)

module _ (p : ℕ) (positive : 0 < p) (width : ℕ) where
  -- rows obey the laws of a module, entry by entry
  pub row_laws : IsModule (residue_ops p) (rows p width)
  row_laws = record {
    rfl = λ x i l. refl;
    symm = λ {x} {y} e i l. sym (e i l);
    trans = λ {x} {y} {z} e f i l. e i l ∙ f i l;
    add_cong = λ {x} {x'} {y} {y'} e f i l. simp row-entry ((residue_laws p positive).add_cong {x = get_or x i 0} {x' = get_or x' i 0} {y = get_or y i 0} {y' = get_or y' i 0} (e i l) (f i l));
    opposite_cong = λ {x} {x'} e i l. simp row-entry ((residue_laws p positive).neg_cong {x = get_or x i 0} {x' = get_or x' i 0} (e i l));
    scale_cong = λ {c} {c'} {x} {x'} e f i l. simp row-entry ((residue_laws p positive).mul_cong {x = c} {x' = c'} {y = get_or x i 0} {y' = get_or x' i 0} e (f i l));
    add_assoc = λ x y z i l. simp row-entry ((residue_laws p positive).add_assoc (get_or x i 0) (get_or y i 0) (get_or z i 0));
    add_comm = λ x y i l. simp row-entry ((residue_laws p positive).add_comm (get_or x i 0) (get_or y i 0));
    add_origin = λ x i l. simp row-entry ((residue_laws p positive).add_zero (get_or x i 0));
    add_opposite = λ x i l. simp row-entry ((residue_laws p positive).add_neg (get_or x i 0));
    scale_sum = λ c x y i l. simp row-entry ((residue_laws p positive).distrib c (get_or x i 0) (get_or y i 0));
    sum_scale = λ c e x i l. simp row-entry (Derived.distrib_right (residues p positive) c e (get_or x i 0));
    product_scale = λ c e x i l. simp row-entry ((residue_laws p positive).mul_assoc c e (get_or x i 0));
    one_scale = λ x i l. simp row-entry (Derived.one_mul (residues p positive) (get_or x i 0));
  }

  -- the module of rows
  abbrev pub row_module : Module (residues p positive)
  row_module = record { ops = rows p width; laws = row_laws }

-- rows of one width with entries below p are equal where their entries are equal modulo p
pub equal_rows : RowsAreEqual
equal_rows p zero [] [] l k a b e = refl
equal_rows p zero (c ∷ x) y l k a b e = absurd (omega arith)
equal_rows p zero [] (d ∷ y) l k a b e = absurd (omega arith)
equal_rows p (suc width) [] y l k a b e = absurd (omega arith)
equal_rows p (suc width) (c ∷ x) [] l k a b e = absurd (omega arith)
equal_rows p (suc width) (c ∷ x) (d ∷ y) l k a b e = ap₂ ◌∷◌
    (sym (mod-eq_of_lt (All-head (λ n. n < p) c x a)) ∙ e 0 (omega arith) ∙ mod-eq_of_lt (All-head (λ n. n < p) d y b))
    (equal_rows p width x y (let q : length (c ∷ x) ≡ suc width = l in omega arith) (let q : length (d ∷ y) ≡ suc width = k in omega arith)
    (All-tail (λ n. n < p) c x a) (All-tail (λ n. n < p) d y b) (λ i h. e (suc i) (omega arith)))
