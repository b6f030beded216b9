-- Rows whose first entries are in a space.
use Rattle.std.proofs.Common.{◌≡◌, ℕ, ◌+◌, ◌-◌, ◌*◌, ◌%◌, ◌<◌, ◌≤◌, List, [], ◌++◌, length, take, replicate, get_or, All, min, sym, ap, ap₂, ◌∙◌, subst, arith, ⊎_elim}
use Rattle.std.proofs.lemmas.Bool.{cases_lt}
use Rattle.std.proofs.lemmas.List.{length-append, length-replicate, get_or-take, get_or-replicate, get_or_append_left, get_or-append_right, length-take}
use Rattle.std.proofs.Math.ListN.{get_or-eq_default}
use Rattle.std.proofs.lemmas.List.Elements.{All-append, All-from_get_or, All-replicate}
use native.Mathlib.Nat.{zero-mod}
use Rattle.comm_ring.specs.Ring.{CommRing}
use Rattle.comm_ring.specs.Rows.{rows, row_of}
use Rattle.comm_ring.specs.Modules.{InSpan, IsSubmodule}
use Rattle.comm_ring.proofs.Modules as Modules
use Rattle.comm_ring.proofs.Modules.{Module}
use Rattle.comm_ring.proofs.Residues.{residues}
use Rattle.comm_ring.proofs.Rows.{row_module, row-entry}
use Rattle.row_space.specs.Echelon.{IsRow}
use Rattle.finite_algebra.specs.Elements.{total, unit_row}
use Rattle.finite_algebra.proofs.Totals.{IsLinear, linear-origin, total_in}
use Rattle.std.proofs.Math.Seq.{take-append_seam}
use Rattle.finite_algebra.proofs.Classes.{unit_fits}
use Rattle.finite_algebra.proofs.Units.{expand, unit-other}
use Rattle.point_quotient.specs.Quotients.{AreGenerators}

module _ (p : ℕ) (positive : 0 < p) (m w : ℕ) (short : m ≤ w) where
  abbrev K : CommRing
  K = residues p positive

  abbrev Low : Module (residues p positive)
  Low = row_module p positive m

  abbrev High : Module (residues p positive)
  High = row_module p positive w

  -- the first entries
  pub front_linear : IsLinear (rows p w) (rows p m) (take m)
  front_linear = record {
    resp = λ x y e i l. ap (λ z. z % p) (get_or-take m x i 0 l) ∙ e i (omega arith) ∙ sym (ap (λ z. z % p) (get_or-take m y i 0 l));
    add = λ x y i l. ap (λ z. z % p) (get_or-take m ((rows p w).◌⊞◌ x y) i 0 l ∙ row-entry w (λ i. (get_or x i 0 + get_or y i 0) % p) i (omega arith)
        ∙ ap₂ (λ a b. (a + b) % p) (sym (get_or-take m x i 0 l)) (sym (get_or-take m y i 0 l)) ∙ sym (row-entry m (λ i. (get_or (take m x) i 0 + get_or (take m y) i 0) % p) i l));
    scale = λ c x i l. ap (λ z. z % p) (get_or-take m ((rows p w).◌·◌ c x) i 0 l ∙ row-entry w (λ i. (c * get_or x i 0) % p) i (omega arith)
        ∙ ap (λ a. (c * a) % p) (sym (get_or-take m x i 0 l)) ∙ sym (row-entry m (λ i. (c * get_or (take m x) i 0) % p) i l));
  }

  -- the first entries, and zeros behind them
  abbrev widened : List ℕ → List ℕ
  widened x = row_of w (λ i. get_or (take m x) i 0)

  widened_entry : (x : List ℕ) (i : ℕ) → i < w → get_or (widened x) i 0 ≡ get_or (take m x) i 0
  widened_entry x i l = row-entry w (λ i. get_or (take m x) i 0) i l

  late : (x : List ℕ) (i : ℕ) → m ≤ i → get_or (take m x) i 0 ≡ 0
  late x i l = get_or-eq_default (take m x) 0 {n = i} (let e : length (take m x) ≡ min m (length x) = length-take m x in omega arith)

  widened_linear : IsLinear (rows p m) (rows p w) widened
  widened_linear = record {
    resp = λ x y e i l. ap (λ z. z % p) (widened_entry x i l) ∙ both x y e i ∙ sym (ap (λ z. z % p) (widened_entry y i l));
    add = λ x y i l. ap (λ z. z % p) (widened_entry ((rows p m).◌⊞◌ x y) i l ∙ sum x y i
        ∙ ap₂ (λ a b. (a + b) % p) (sym (widened_entry x i l)) (sym (widened_entry y i l)) ∙ sym (row-entry w (λ i. (get_or (widened x) i 0 + get_or (widened y) i 0) % p) i l));
    scale = λ c x i l. ap (λ z. z % p) (widened_entry ((rows p m).◌·◌ c x) i l ∙ multiple c x i
        ∙ ap (λ a. (c * a) % p) (sym (widened_entry x i l)) ∙ sym (row-entry w (λ i. (c * get_or (widened x) i 0) % p) i l));
  }
    where
      both : (x y : List ℕ) → (rows p m).◌≋◌ x y → (i : ℕ) → get_or (take m x) i 0 % p ≡ get_or (take m y) i 0 % p
      both x y e i = ⊎_elim
          (λ (l : i < m). ap (λ z. z % p) (get_or-take m x i 0 l) ∙ e i l ∙ sym (ap (λ z. z % p) (get_or-take m y i 0 l)))
          (λ (l : m ≤ i). ap (λ z. z % p) (late x i l ∙ sym (late y i l)))
          (cases_lt i m)

      sum : (x y : List ℕ) (i : ℕ) → get_or (take m ((rows p m).◌⊞◌ x y)) i 0 ≡ (get_or (take m x) i 0 + get_or (take m y) i 0) % p
      sum x y i = ⊎_elim
          (λ (l : i < m). get_or-take m ((rows p m).◌⊞◌ x y) i 0 l ∙ row-entry m (λ i. (get_or x i 0 + get_or y i 0) % p) i l ∙ ap₂ (λ a b. (a + b) % p) (sym (get_or-take m x i 0 l)) (sym (get_or-take m y i 0 l)))
          (λ (l : m ≤ i). late ((rows p m).◌⊞◌ x y) i l ∙ sym (zero-mod p) ∙ ap₂ (λ a b. (a + b) % p) (sym (late x i l)) (sym (late y i l)))
          (cases_lt i m)

      multiple : (c : ℕ) (x : List ℕ) (i : ℕ) → get_or (take m ((rows p m).◌·◌ c x)) i 0 ≡ (c * get_or (take m x) i 0) % p
      multiple c x i = ⊎_elim
          (λ (l : i < m). get_or-take m ((rows p m).◌·◌ c x) i 0 l ∙ row-entry m (λ i. (c * get_or x i 0) % p) i l ∙ ap (λ a. (c * a) % p) (sym (get_or-take m x i 0 l)))
          (λ (l : m ≤ i). late ((rows p m).◌·◌ c x) i l ∙ sym (zero-mod p) ∙ ap (λ z. z % p) (let z : 0 ≡ c * 0 = omega arith in z) ∙ ap (λ a. (c * a) % p) (sym (late x i l)))
          (cases_lt i m)

  module _ (basis : List (List ℕ)) (fit : All (IsRow p m) basis) (made : List (List ℕ)) (g : AreGenerators m w basis made) where
    abbrev In : List ℕ → Type 0
    In row = InSpan (rows p w) made row

    span : IsSubmodule (rows p w) In
    span = Modules.span_submodule K High made

    low : IsSubmodule (rows p m) (InSpan (rows p m) basis)
    low = Modules.span_submodule K Low basis

    -- the rows whose first entries are in the span of the basis
    abbrev Front : List ℕ → Type 0
    Front row = InSpan (rows p m) basis (take m row)

    fronts : IsSubmodule (rows p w) Front
    fronts = record {
      resp = λ x y e h. low.resp (take m x) (take m y) (front_linear.resp x y e) h;
      none = low.resp (rows p m).origin (take m (rows p w).origin) (Low.symm {x = take m (rows p w).origin} {y = (rows p m).origin} (linear-origin K High Low (take m) front_linear)) low.none;
      add = λ x y h k. low.resp ((rows p m).◌⊞◌ (take m x) (take m y)) (take m ((rows p w).◌⊞◌ x y))
          (Low.symm {x = take m ((rows p w).◌⊞◌ x y)} {y = (rows p m).◌⊞◌ (take m x) (take m y)} (front_linear.add x y)) (low.add (take m x) (take m y) h k);
      scale = λ c x h. low.resp ((rows p m).◌·◌ c (take m x)) (take m ((rows p w).◌·◌ c x))
          (Low.symm {x = take m ((rows p w).◌·◌ c x)} {y = (rows p m).◌·◌ c (take m x)} (front_linear.scale c x)) (low.scale c (take m x) h);
    }

    fit_low : (i : ℕ) → i < length basis → IsRow p m (get_or basis i [])
    fit_low i l = fit i [] l

    -- a row of the basis with zeros behind it
    filled : (i : ℕ) → i < length basis → get_or made i [] ≡ get_or basis i [] ++ replicate (w - m) 0
    filled i l = g.filled i l

    filled_entry : (b : List ℕ) → length b ≡ m → (i : ℕ) → i < w → get_or (b ++ replicate (w - m) 0) i 0 ≡ get_or (widened b) i 0
    filled_entry b e i l = ⊎_elim
        (λ (h : i < m). get_or_append_left b (replicate (w - m) 0) 0 i (let q = e in omega arith) ∙ sym (get_or-take m b i 0 h) ∙ sym (widened_entry b i l))
        (λ (h : m ≤ i). get_or-append_right b (replicate (w - m) 0) m i 0 e h ∙ get_or-replicate (w - m) (i - m) 0 0 (omega arith) ∙ sym (late b i h) ∙ sym (widened_entry b i l))
        (cases_lt i m)

    -- the generators are in the span of the fronts
    generator_front : (i : ℕ) → i < length made → Front (get_or made i [])
    generator_front i l = ⊎_elim
        (λ (h : i < length basis). subst Front (sym (filled i h)) (subst (InSpan (rows p m) basis) (sym (front_of (get_or basis i []) (fit_low i h).0)) (Modules.span_self K Low basis i [] h)))
        (λ (h : length basis ≤ i).
        let j = i - length basis in
        let c = g.count in
        let q : j < w - m = omega arith in
        let e : length basis + j ≡ i = omega arith in
        subst Front (sym (g.units j q) ∙ ap (λ n. get_or made n []) e) (unit_front j q))
        (cases_lt i (length basis))
      where
        front_of : (b : List ℕ) → length b ≡ m → take m (b ++ replicate (w - m) 0) ≡ b
        front_of b e = subst (λ n. take n (b ++ replicate (w - m) 0) ≡ b) e (take-append_seam b (replicate (w - m) 0))

        unit_front : (j : ℕ) → j < w - m → Front (unit_row w (m + j))
        unit_front j q = low.resp (rows p m).origin (take m (unit_row w (m + j)))
            (λ i l. ap (λ z. z % p) (row-entry m (λ _. 0) i l ∙ sym (get_or-take m (unit_row w (m + j)) i 0 l ∙ unit-other w (m + j) i (omega arith) (λ e. let z : ⊥ = omega (arith, e) in z)))) low.none

    pub into : (row : List ℕ) → InSpan (rows p w) made row → InSpan (rows p m) basis (take m row)
    into row h = Modules.span_least K High Front fronts made (All-from_get_or Front made [] generator_front) row h

    -- the unit rows for the other places
    unit_in : (i : ℕ) → m ≤ i → i < w → In (unit_row w i)
    unit_in i h l =
        let j = i - m in
        let q : j < w - m = omega arith in
        let e : m + j ≡ i = omega arith in
        let c = g.count in
        let k : length basis + j < length made = omega arith in
        subst In (g.units j q ∙ ap (unit_row w) e) (Modules.span_self K High made (length basis + j) [] k)

    widened_in : (x : List ℕ) → InSpan (rows p m) basis x → In (widened x)
    widened_in x h = Modules.span_least K Low (λ y. In (widened y)) pulled basis (All-from_get_or (λ y. In (widened y)) basis [] basis_in) x h
      where
        pulled : IsSubmodule (rows p m) (λ y. In (widened y))
        pulled = record {
          resp = λ x y e h. span.resp (widened x) (widened y) (widened_linear.resp x y e) h;
          none = span.resp (rows p w).origin (widened (rows p m).origin) (High.symm {x = widened (rows p m).origin} {y = (rows p w).origin} (linear-origin K Low High widened widened_linear)) span.none;
          add = λ x y h k. span.resp ((rows p w).◌⊞◌ (widened x) (widened y)) (widened ((rows p m).◌⊞◌ x y))
              (High.symm {x = widened ((rows p m).◌⊞◌ x y)} {y = (rows p w).◌⊞◌ (widened x) (widened y)} (widened_linear.add x y)) (span.add (widened x) (widened y) h k);
          scale = λ c x h. span.resp ((rows p w).◌·◌ c (widened x)) (widened ((rows p m).◌·◌ c x))
              (High.symm {x = widened ((rows p m).◌·◌ c x)} {y = (rows p w).◌·◌ c (widened x)} (widened_linear.scale c x)) (span.scale c (widened x) h);
        }

        basis_in : (i : ℕ) → i < length basis → In (widened (get_or basis i []))
        basis_in i l =
            let c = g.count in
            let k : i < length made = omega arith in
            span.resp (get_or made i []) (widened (get_or basis i [])) (λ t q. ap (λ z. z % p) (ap (λ b. get_or b t 0) (filled i l) ∙ filled_entry (get_or basis i []) (fit_low i l).0 t q)) (Modules.span_self K High made i [] k)

    pub out : (row : List ℕ) → InSpan (rows p m) basis (take m row) → InSpan (rows p w) made row
    out row h =
        let f = widened (take m row) in
        let z = (rows p w).◌⊞◌ row ((rows p w).opposite f) in
        span.resp ((rows p w).◌⊞◌ z f) row (Modules.sub_undo K High row f)
        (span.add z f (span.resp (total (rows p w) (λ i. (rows p w).◌·◌ (get_or z i 0) (unit_row w i)) w) z (High.symm {x = z} {y = total (rows p w) (λ i. (rows p w).◌·◌ (get_or z i 0) (unit_row w i)) w} (expand p positive w z))
        (total_in K High In span (λ i. (rows p w).◌·◌ (get_or z i 0) (unit_row w i)) w each)) (widened_in (take m row) h))
      where
        zero_at : (i : ℕ) → i < w → i < m → get_or ((rows p w).◌⊞◌ row ((rows p w).opposite (widened (take m row)))) i 0 % p ≡ 0 % p
        zero_at i l q =
            let f = widened (take m row) in
            let here : get_or f i 0 ≡ get_or row i 0 = widened_entry (take m row) i l ∙ get_or-take m (take m row) i 0 q ∙ get_or-take m row i 0 q in
            ap (λ t. t % p) (row-entry w (λ i. (get_or row i 0 + get_or ((rows p w).opposite f) i 0) % p) i l
            ∙ ap (λ t. (get_or row i 0 + t) % p) (row-entry w (λ i. (p - get_or f i 0 % p) % p) i l ∙ ap (λ t. (p - t % p) % p) here ∙ sym (row-entry w (λ i. (p - get_or row i 0 % p) % p) i l))
            ∙ sym (row-entry w (λ i. (get_or row i 0 + get_or ((rows p w).opposite row) i 0) % p) i l))
            ∙ High.add_opposite row i l ∙ ap (λ t. t % p) (row-entry w (λ _. 0) i l)

        nothing : (i : ℕ) → i < w → i < m → (rows p w).◌≋◌ (rows p w).origin ((rows p w).◌·◌ (get_or ((rows p w).◌⊞◌ row ((rows p w).opposite (widened (take m row)))) i 0) (unit_row w i))
        nothing i l q =
            let c = get_or ((rows p w).◌⊞◌ row ((rows p w).opposite (widened (take m row)))) i 0 in
            let u = unit_row w i in
            High.symm {x = (rows p w).◌·◌ c u} {y = (rows p w).origin} (High.trans {x = (rows p w).◌·◌ c u} {y = (rows p w).◌·◌ 0 u} {z = (rows p w).origin}
            (High.scale_cong {c = c} {c' = 0} {x = u} {x' = u} (zero_at i l q) (High.rfl u)) (Modules.zero_scale K High u))

        each : (i : ℕ) → i < w → In ((rows p w).◌·◌ (get_or ((rows p w).◌⊞◌ row ((rows p w).opposite (widened (take m row)))) i 0) (unit_row w i))
        each i l = ⊎_elim
            (λ (q : i < m). span.resp (rows p w).origin ((rows p w).◌·◌ (get_or ((rows p w).◌⊞◌ row ((rows p w).opposite (widened (take m row)))) i 0) (unit_row w i)) (nothing i l q) span.none)
            (λ (q : m ≤ i). span.scale (get_or ((rows p w).◌⊞◌ row ((rows p w).opposite (widened (take m row)))) i 0) (unit_row w i) (unit_in i q l))
            (cases_lt i m)

  -- the generators are rows of residues
  pub generators_fit : 1 < p → (basis : List (List ℕ)) → All (IsRow p m) basis → (made : List (List ℕ)) → AreGenerators m w basis made → All (IsRow p w) made
  generators_fit two basis fit made g = All-from_get_or (IsRow p w) made [] (λ i l. ⊎_elim
      (λ (h : i < length basis). subst (IsRow p w) (sym (g.filled i h)) (filled_fits (get_or basis i []) (fit i [] h)))
      (λ (h : length basis ≤ i).
      let c = g.count in
      let j = i - length basis in
      let e : length basis + j ≡ i = omega arith in
      subst (IsRow p w) (sym (g.units j (omega arith)) ∙ ap (λ n. get_or made n []) e) (unit_fits p w (m + j) two))
      (cases_lt i (length basis)))
    where
      filled_fits : (b : List ℕ) → IsRow p m b → IsRow p w (b ++ replicate (w - m) 0)
      filled_fits b h = (
        (let e : length (b ++ replicate (w - m) 0) ≡ length b + length {A = ℕ} (replicate (w - m) 0) = length-append b (replicate (w - m) 0) in
            let f : length {A = ℕ} (replicate (w - m) 0) ≡ w - m = length-replicate (w - m) 0 in
            let g : length b ≡ m = h.0 in omega arith),
        All-append (λ x. x < p) b (replicate (w - m) 0) h.1 (All-replicate (λ x. x < p) (w - m) 0 positive),
      )
