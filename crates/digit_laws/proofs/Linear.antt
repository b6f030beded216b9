-- Combinations by the entries of rows.
use Rattle.std.proofs.Common.{◌≡◌, ℕ, suc, ◌+◌, ◌-◌, ◌*◌, ◌%◌, ◌<◌, List, [], ◌∷◌, length, map, get_or, refl, sym, ap, ◌∙◌, subst, arith, mod-eq_of_lt}
use Rattle.comm_ring.specs.Modules.{combine, combination}
use Rattle.comm_ring.specs.Rows.{rows}
use Rattle.comm_ring.proofs.Residues.{residues, mod_ring, mod_quote}
use Rattle.comm_ring.proofs.Modules.{Module}
use Rattle.comm_ring.proofs.Modules as Modules
use Rattle.row_space.specs.Sums.{weighted}
use Rattle.comm_ring.proofs.Rows.{row-entry, row_module}
use Rattle.row_space.proofs.Members.{combination-entry}
use Rattle.std.specs.List.{range_with_len}
use Rattle.std.proofs.lemmas.List.{length-map}
use Rattle.std.proofs.lemmas.List.FromFn.{length-range_with_len}
use native.Mathlib.Nat.{mod-mod}

pub row-length : (width : ℕ) (f : ℕ → ℕ) → length (map f (range_with_len 0 width)) ≡ width
row-length width f = length-map (range_with_len 0 width) f ∙ length-range_with_len 0 width

-- p - 1 times a row is its opposite
pub opposite_row : (p width : ℕ) → 1 < p → (positive : 0 < p) → (y : List ℕ) → (rows p width).◌≋◌ ((rows p width).◌·◌ (p - 1) y) ((rows p width).opposite y)
opposite_row p width high positive y = let R = row_module p positive width in R.trans (R.scale_cong {x = y} {x' = y} same (R.rfl y)) (Modules.opposite_is (residues p positive) R y)
  where
    same : (p - 1) % p ≡ ((p - 1 % p) % p) % p
    same =
        let one : 1 % p ≡ 1 = mod-eq_of_lt high in
        let less : (p - 1) % p ≡ p - 1 = mod-eq_of_lt (omega arith) in
        sym (ap (λ z. ((p - z) % p) % p) one ∙ ap (λ z. z % p) less)

module _ (p : ℕ) (positive : 0 < p) (V : Module (residues p positive)) where
  open V use {carrier, ◌≋◌, ◌⊞◌, origin, ◌·◌}

  infix 40 ◌≋◌
  infixl 60 ◌⊞◌
  infixr 65 ◌·◌
  -- f 0 u_0 + f 1 u_1 + ..
  unfoldable at : (ℕ → ℕ) → List carrier → carrier
  at f [] = origin
  at f (u ∷ us) = (f 0 · u) ⊞ at (λ k. f (suc k)) us

  at_row : (row : List ℕ) (us : List carrier) → length row ≡ length us → combination V.ops row us ≡ at (λ k. get_or row k 0) us
  unfolding at combine
  at_row [] [] l = refl
  at_row [] (u ∷ us) l = absurd (omega arith)
  at_row (c ∷ row) [] l = absurd (omega arith)
  at_row (c ∷ row) (u ∷ us) l = ap (λ z. (c · u) ⊞ z) (at_row row us (let k : length (c ∷ row) ≡ length (u ∷ us) = l in omega arith))

  at_same : (f g : ℕ → ℕ) (us : List carrier) → ((k : ℕ) → k < length us → f k % p ≡ g k % p) → at f us ≋ at g us
  unfolding at
  at_same f g [] e = V.rfl origin
  at_same f g (u ∷ us) e = V.add_cong (V.scale_cong (e 0 (omega arith)) (V.rfl u)) (at_same (λ k. f (suc k)) (λ k. g (suc k)) us (λ k l. e (suc k) (let q : k < length us = l in omega arith)))

  at_zero : (us : List carrier) → at (λ k. 0) us ≋ origin
  unfolding at
  at_zero [] = V.rfl origin
  at_zero (u ∷ us) = V.trans (V.add_cong (Modules.zero_scale (residues p positive) V u) (at_zero us)) (Modules.origin_add (residues p positive) V origin)

  step : (c x y : ℕ) (u : carrier) (F G : carrier) → (c * x + y) · u ⊞ (c · F ⊞ G) ≋ c · (x · u ⊞ F) ⊞ (y · u ⊞ G)
  step c x y u F G = V.trans
      (V.add_cong (V.scale_cong (mod_ring p positive (c ∷ x ∷ y ∷ []) (c * x + y) (((c * x) % p + y) % p) (search mod_quote depth 20) tt) (V.rfl u)) (V.rfl (c · F ⊞ G)))
      (V.trans (V.add_cong (V.sum_scale ((c * x) % p) y u) (V.rfl (c · F ⊞ G)))
      (V.trans (Modules.add_exchange (residues p positive) V (((c * x) % p) · u) (y · u) (c · F) G)
      (V.add_cong (V.trans (V.add_cong (V.product_scale c x u) (V.rfl (c · F))) (V.symm (V.scale_sum c (x · u) F))) (V.rfl (y · u ⊞ G)))))

  at_step : (c : ℕ) (f g : ℕ → ℕ) (us : List carrier) → at (λ k. c * f k + g k) us ≋ c · at f us ⊞ at g us
  unfolding at
  at_step c f g [] = V.symm (V.trans (V.add_cong (Modules.scale_origin (residues p positive) V c) (V.rfl origin)) (Modules.origin_add (residues p positive) V origin))
  at_step c f g (u ∷ us) = V.trans (V.add_cong (V.rfl ((c * f 0 + g 0) · u)) (at_step c (λ k. f (suc k)) (λ k. g (suc k)) us))
      (step c (f 0) (g 0) u (at (λ k. f (suc k)) us) (at (λ k. g (suc k)) us))

  at_weighted : (cs : List ℕ) (vs : List (List ℕ)) (us : List carrier) → at (weighted cs vs) us ≋ combination V.ops cs (map (λ b. at (λ k. get_or b k 0) us) vs)
  unfolding combine
  at_weighted [] vs us = at_zero us
  at_weighted (c ∷ cs) [] us = at_zero us
  at_weighted (c ∷ cs) (b ∷ vs) us = V.trans (at_step c (λ k. get_or b k 0) (weighted cs vs) us) (V.add_cong (V.rfl (c · at (λ k. get_or b k 0) us)) (at_weighted cs vs us))

  -- equal rows have equal combinations
  pub same_rows : (row other : List ℕ) (us : List carrier) → length row ≡ length us → length other ≡ length us → (rows p (length us)).◌≋◌ row other → combination V.ops row us ≋ combination V.ops other us
  same_rows row other us l k e =
      subst (λ z. z ≋ combination V.ops other us) (sym (at_row row us l)) (subst (λ z. at (λ i. get_or row i 0) us ≋ z) (sym (at_row other us k)) (at_same (λ i. get_or row i 0) (λ i. get_or other i 0) us e))

  all_rows : (vs : List (List ℕ)) (us : List carrier) → ((i : ℕ) → i < length vs → length (get_or vs i []) ≡ length us) → map (λ b. at (λ k. get_or b k 0) us) vs ≡ map (λ b. combination V.ops b us) vs
  all_rows [] us l = refl
  all_rows (b ∷ vs) us l = λ i. sym (at_row b us (l 0 (omega arith))) i ∷ all_rows vs us (λ k h. l (suc k) (let q : k < length vs = h in omega arith)) i

  -- a combination by a row that combines the rows vs combines the combinations by them
  pub combined_rows : (cs row : List ℕ) (vs : List (List ℕ)) (us : List carrier) → length row ≡ length us → ((i : ℕ) → i < length vs → length (get_or vs i []) ≡ length us)
      → (rows p (length us)).◌≋◌ row (combination (rows p (length us)) cs vs) → combination V.ops row us ≋ combination V.ops cs (map (λ b. combination V.ops b us) vs)
  combined_rows cs row vs us l k e =
      subst (λ z. z ≋ combination V.ops cs (map (λ b. combination V.ops b us) vs)) (sym (at_row row us l))
      (subst (λ z. at (λ i. get_or row i 0) us ≋ combination V.ops cs z) (all_rows vs us k)
      (V.trans (at_same (λ i. get_or row i 0) (weighted cs vs) us (λ i h. e i h ∙ ap (λ n. n % p) (combination-entry p (length us) cs vs i h) ∙ mod-mod (weighted cs vs i) p))
      (at_weighted cs vs us)))

  -- combinations by sums and multiples of rows
  pub sum_rows : (row other : List ℕ) (us : List carrier) → length row ≡ length us → length other ≡ length us
      → combination V.ops ((rows p (length us)).◌⊞◌ row other) us ≋ combination V.ops row us ⊞ combination V.ops other us
  sum_rows row other us l k =
      let x : List ℕ = (rows p (length us)).◌⊞◌ row other in
      subst (λ z. z ≋ combination V.ops row us ⊞ combination V.ops other us) (sym (at_row x us (row-length (length us) (λ i. (get_or row i 0 + get_or other i 0) % p))))
      (subst (λ z. at (λ i. get_or x i 0) us ≋ z ⊞ combination V.ops other us) (sym (at_row row us l))
      (subst (λ z. at (λ i. get_or x i 0) us ≋ at (λ i. get_or row i 0) us ⊞ z) (sym (at_row other us k))
      (V.trans (at_same (λ i. get_or x i 0) (λ i. 1 * get_or row i 0 + get_or other i 0) us
      (λ i h. ap (λ n. n % p) (row-entry (length us) (λ j. (get_or row j 0 + get_or other j 0) % p) i h) ∙ mod-mod (get_or row i 0 + get_or other i 0) p ∙ ap (λ n. n % p) (let e : get_or row i 0 + get_or other i 0 ≡ 1 * get_or row i 0 + get_or other i 0 = omega arith in e)))
      (V.trans (at_step 1 (λ i. get_or row i 0) (λ i. get_or other i 0) us) (V.add_cong (V.one_scale (at (λ i. get_or row i 0) us)) (V.rfl (at (λ i. get_or other i 0) us)))))))

  pub multiple_row : (c : ℕ) (row : List ℕ) (us : List carrier) → length row ≡ length us → combination V.ops ((rows p (length us)).◌·◌ c row) us ≋ c · combination V.ops row us
  multiple_row c row us l =
      let x : List ℕ = (rows p (length us)).◌·◌ c row in
      subst (λ z. z ≋ c · combination V.ops row us) (sym (at_row x us (row-length (length us) (λ i. (c * get_or row i 0) % p))))
      (subst (λ z. at (λ i. get_or x i 0) us ≋ c · z) (sym (at_row row us l))
      (V.trans (at_same (λ i. get_or x i 0) (λ i. c * get_or row i 0 + 0) us
      (λ i h. ap (λ n. n % p) (row-entry (length us) (λ j. (c * get_or row j 0) % p) i h) ∙ mod-mod (c * get_or row i 0) p ∙ ap (λ n. n % p) (let e : c * get_or row i 0 ≡ c * get_or row i 0 + 0 = omega arith in e)))
      (V.trans (at_step c (λ i. get_or row i 0) (λ i. 0) us)
      (V.trans (V.add_cong (V.rfl (c · at (λ i. get_or row i 0) us)) (at_zero us)) (V.add_origin (c · at (λ i. get_or row i 0) us))))))
