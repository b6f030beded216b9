-- Multiples of rows, and a multiple taken off a row.
use Rattle.std.proofs.Common.{◌≡◌, sym, ap, subst, ◌∙◌, ℕ, ◌+◌, ◌-◌, ◌*◌, ◌%◌, ◌<◌, List, length, get_or, set, arith, get_or-set_same, get_or-set_other, mod-eq_of_lt, mod-lt}
use native.Mathlib.Nat.{add-mod-mod, mod-mod, mod_self}
use native.Mathlib.Decide.{ℕ_discrete}
use Rattle.std.proofs.lemmas.List.{get_or-map, length-map}
use Rattle.std.proofs.lemmas.List.Elements.{All-from_get_or}
use Rattle.std.proofs.lemmas.Simd.{get_or-zip2, length-zip2}
use Rattle.comm_ring.specs.Rows.{rows}
use Rattle.comm_ring.proofs.Modules as Modules
use Rattle.comm_ring.proofs.Residues.{residues}
use Rattle.comm_ring.proofs.Rows.{row_module, row-entry}
use Rattle.row_space.specs.Echelon.{IsRow}
use Rattle.finite_algebra.specs.Elements.{unit_row}
use Rattle.finite_algebra.proofs.Units.{unit-own, unit-other}
use Rattle.lane_rows.specs.Rows.{AreResidues, multiple, plus_multiple}
use Rattle.row_matrices.specs.Rows.{IsLess, IsScaled}

-- the entry that is less, and the others
at_place : (p a c x : ℕ) → c < p → x ≡ c → ((a + (p - c)) % p) % p ≡ ((a + (p - x % p) % p) % p) % p
at_place p a c x l e =
    let h : x % p ≡ c = ap (λ z. z % p) e ∙ mod-eq_of_lt l in
    ap (λ z. z % p) (sym (add-mod-mod a (p - c) p) ∙ ap (λ z. (a + (p - z) % p) % p) (sym h))

elsewhere : (p a x : ℕ) → 0 < p → x ≡ 0 → a % p ≡ ((a + (p - x % p) % p) % p) % p
elsewhere p a x l e =
    let h : x % p ≡ 0 = ap (λ z. z % p) e ∙ mod-eq_of_lt l in
    let k : (p - x % p) % p ≡ 0 = ap (λ z. (p - z) % p) h ∙ (ap (λ z. z % p) (let q : p - 0 ≡ p = omega arith in q) ∙ mod_self p) in
    sym (mod-mod a p) ∙ ap (λ z. z % p) (ap (λ z. z % p) (let q : a ≡ a + 0 = omega arith in q) ∙ ap (λ z. (a + z) % p) (sym k))

pub less_row : (p n c k : ℕ) (row made : List ℕ) → 0 < p → c < p → k < n → IsRow p n row → made ≡ set row k ((get_or row k 0 + (p - c)) % p)
    → let V = rows p n in V.◌≋◌ made (V.◌⊞◌ row (V.opposite (V.◌·◌ c (unit_row n k))))
less_row p n c k row made positive small inside fits e = λ t l. ap (λ r. get_or r t 0 % p) e ∙ (go t l (ℕ_discrete t k) ∙ ap (λ z. z % p) (sym (written t l)))
  where
    written : (t : ℕ) → t < n → get_or ((rows p n).◌⊞◌ row ((rows p n).opposite ((rows p n).◌·◌ c (unit_row n k)))) t 0 ≡ (get_or row t 0 + (p - get_or ((rows p n).◌·◌ c (unit_row n k)) t 0 % p) % p) % p
    written t l = row-entry n _ t l ∙ ap (λ z. (get_or row t 0 + z) % p) (row-entry n _ t l)

    go : (t : ℕ) → t < n → Dec (t ≡ k) → get_or (set row k ((get_or row k 0 + (p - c)) % p)) t 0 % p ≡ ((get_or row t 0 + (p - get_or ((rows p n).◌·◌ c (unit_row n k)) t 0 % p) % p) % p) % p
    go t l (yes q) =
        let x : get_or ((rows p n).◌·◌ c (unit_row n k)) t 0 ≡ c = row-entry n _ t l ∙ (ap (λ z. (c * z) % p) (ap (λ z. get_or (unit_row n k) z 0) q ∙ unit-own n k inside) ∙ (ap (λ z. z % p) (let w : c * 1 ≡ c = omega arith in w) ∙ mod-eq_of_lt small)) in
        ap (λ z. z % p) (ap (λ z. get_or (set row k ((get_or row k 0 + (p - c)) % p)) z 0) q ∙ get_or-set_same row k ((get_or row k 0 + (p - c)) % p) 0 (omega (arith, fits.0)))
        ∙ (ap (λ z. ((get_or row z 0 + (p - c)) % p) % p) (sym q) ∙ at_place p (get_or row t 0) c _ small x)
    go t l (no q) =
        let x : get_or ((rows p n).◌·◌ c (unit_row n k)) t 0 ≡ 0 = row-entry n _ t l ∙ (ap (λ z. (c * z) % p) (unit-other n k t l q) ∙ (ap (λ z. z % p) (let w : c * 0 ≡ 0 = omega arith in w) ∙ mod-eq_of_lt positive)) in
        ap (λ z. z % p) (get_or-set_other row k t ((get_or row k 0 + (p - c)) % p) 0 q) ∙ elsewhere p (get_or row t 0) _ positive x

-- multiples of whole rows
pub scaled_is : (p c : ℕ) (row made : List ℕ) → 0 < p → made ≡ multiple p c row → IsScaled p (length row) c row made
scaled_is p c row made positive e = subst (IsScaled p (length row) c row) (sym e) (record {
  fits = (
    length-map row (λ x. (c * x) % p),
    All-from_get_or (λ x. x < p) (multiple p c row) 0 (λ t l.
        let inside : t < length row = omega (arith, length-map row (λ x. (c * x) % p)) in
        subst (λ x. x < p) (sym (get_or-map (λ x. (c * x) % p) row t 0 0 inside)) (mod-lt (c * get_or row t 0) positive)),
  );
  is = λ t l. ap (λ z. z % p) (get_or-map (λ x. (c * x) % p) row t 0 0 l ∙ sym (row-entry (length row) _ t l));
})

pub less_is : (p c d : ℕ) (row other made : List ℕ) → 0 < p → c < p → d ≡ (p - c) % p → length other ≡ length row → made ≡ plus_multiple p d row other → AreResidues p made → IsLess p (length row) row c other made
less_is p c d row other made positive small d_is long e residues_made = record {
  fits = (ap length e ∙ length-zip2 (λ x y. (x + d * y) % p) row other (sym long), residues_made);
  is = V.trans added (V.add_cong (V.rfl row) (V.trans (V.scale_cong {c = d} {c' = (residues p positive).neg c} same (V.rfl other)) (Modules.neg_scale (residues p positive) V c other)));
}
  where
    V : Modules.Module (residues p positive)
    V = row_module p positive (length row)

    same : d % p ≡ ((p - c % p) % p) % p
    same = ap (λ z. z % p) (d_is ∙ ap (λ z. (p - z) % p) (sym (mod-eq_of_lt small)))

    added : V.◌≋◌ made (V.◌⊞◌ row (V.◌·◌ d other))
    added t l =
        ap (λ r. get_or r t 0 % p) e ∙ (ap (λ z. z % p) (get_or-zip2 (λ x y. (x + d * y) % p) row other t 0 0 0 l (omega (arith, long)) ∙ sym (add-mod-mod (get_or row t 0) (d * get_or other t 0) p))
        ∙ sym (ap (λ z. z % p) (row-entry (length row) _ t l ∙ ap (λ z. (get_or row t 0 + z) % p) (row-entry (length row) _ t l))))
