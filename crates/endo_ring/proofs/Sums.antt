-- Sums of multiples of rows that are taken into a space.
use Rattle.std.proofs.Common.{◌≡◌, ◌↔◌, ℕ, ◌<◌, List, [], map, length, get_or, All, refl, sym, ◌∙◌, subst}
use Rattle.std.proofs.lemmas.List.{length-map}
use Rattle.std.proofs.lemmas.List.Elements.{All-map}
use Rattle.comm_ring.specs.Rows.{rows}
use Rattle.comm_ring.specs.Modules.{combination, InSpan}
use Rattle.comm_ring.proofs.Residues.{residues}
use Rattle.comm_ring.proofs.Modules.{Module}
use Rattle.comm_ring.proofs.Rows.{row_module}
use Rattle.row_space.specs.Echelon.{IsRow}
use Rattle.row_space.specs.Subspace.{Subspace, IsIn, IsReduced, product}
use Rattle.over_module.specs.Raising.{IsSpannedBy}
use Rattle.endo_ring.specs.Taken.{IsTakenSum}
use Rattle.digit_laws.proofs.Linear.{combined_rows}
use Rattle.finite_algebra.proofs.Summing.{combination_fits}

module _ (p width : ℕ) (positive : 0 < p) (us : List (List ℕ)) (m : ℕ) (long : length us ≡ m) (vs : List (List ℕ)) (fit : All (IsRow p m) vs) where
  V : Module (residues p positive)
  V = row_module p positive width

  abbrev image : List ℕ → List ℕ
  image v = product p width v us

  -- an image of a combination combines the images
  linear : (cs v : List ℕ) → length v ≡ m → (rows p m).◌≋◌ v (combination (rows p m) cs vs) → (rows p width).◌≋◌ (image v) (combination (rows p width) cs (map image vs))
  unfolding V
  linear cs v l e = combined_rows p positive (row_module p positive width) cs v vs us (l ∙ sym long) (λ i h. (fit i [] h).0 ∙ sym long)
      (subst (λ n. (rows p n).◌≋◌ v (combination (rows p n) cs vs)) (sym long) e)

  pub span_out : (x : List ℕ) → InSpan (rows p width) (map image vs) x → (v : List ℕ) × (length v ≡ m) × InSpan (rows p m) vs v × (rows p width).◌≋◌ x (image v)
  span_out x h =
      let v = combination (rows p m) h.0 vs in
      let l = (combination_fits p m positive h.0 vs).0 in (
        v,
        l,
        (h.0, h.1 ∙ length-map vs image, λ i k. refl),
        λ i k. h.2 i k ∙ sym (linear h.0 v l (λ j n. refl) i k),
      )

  pub span_in : (x v : List ℕ) → length v ≡ m → InSpan (rows p m) vs v → (rows p width).◌≋◌ x (image v) → InSpan (rows p width) (map image vs) x
  span_in x v l h e = (h.0, h.1 ∙ sym (length-map vs image), λ i k. e i k ∙ linear h.0 v l h.2 i k)

pub products_fit : (p width : ℕ) → 0 < p → (us vs : List (List ℕ)) → All (IsRow p width) (map (λ v. product p width v us) vs)
products_fit p width positive us vs = All-map (IsRow p width) (λ v. product p width v us) vs (λ i d h. combination_fits p width positive (get_or vs i d) us)

pub taken_members : (space coefficients found : Subspace) (images us : List (List ℕ)) (width : ℕ) → 0 < space.prime → length images ≡ length us
    → coefficients.prime ≡ space.prime → coefficients.width ≡ length images → IsReduced coefficients
    → ((v : List ℕ) → length v ≡ length images → IsIn coefficients v ↔ IsIn space (product space.prime space.width v images))
    → IsSpannedBy space.prime width (map (λ v. product space.prime width v us) coefficients.basis) found
    → (x : List ℕ) → IsIn found x ↔ IsTakenSum space images width us x
taken_members space coefficients found images us width positive count ep ew r mem s x = (
  λ h. let s = span_out space.prime width positive us (length images) (sym count) coefficients.basis fit x ((s.members x).0 h) in (s.0, s.1, (inner s.0 s.1).0 s.2, s.3),
  λ t. (s.members x).1 (span_in space.prime width positive us (length images) (sym count) coefficients.basis fit x t.0 t.1 ((inner t.0 t.1).1 t.2) t.3),
)
  where
    fit : All (IsRow space.prime (length images)) coefficients.basis
    fit = subst (λ n. All (IsRow space.prime n) coefficients.basis) ew (subst (λ q. All (IsRow q coefficients.width) coefficients.basis) ep r.1.rows)

    inner : (v : List ℕ) → length v ≡ length images → InSpan (rows space.prime (length images)) coefficients.basis v ↔ IsIn space (product space.prime space.width v images)
    inner v l =
        subst (λ n. InSpan (rows space.prime n) coefficients.basis v ↔ IsIn space (product space.prime space.width v images)) ew
        (subst (λ q. InSpan (rows q coefficients.width) coefficients.basis v ↔ IsIn space (product space.prime space.width v images)) ep (mem v l))
