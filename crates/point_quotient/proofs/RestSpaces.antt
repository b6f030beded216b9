-- The space of what is left of rows modulo a space.
use Rattle.std.proofs.Common.{◌≡◌, ℕ, zero, suc, ◌+◌, ◌%◌, ◌<◌, ◌≤◌, List, [], ◌∷◌, ◌++◌, length, get_or, replicate, All, refl, sym, ap, ◌∙◌, subst, arith, ⊎_elim, length-append, mod-eq_of_lt}
use Rattle.std.proofs.lemmas.Bool.{cases_lt}
use Rattle.std.proofs.lemmas.List.{get_or_append_left, get_or_push, get_or-replicate, length-replicate}
use Rattle.std.proofs.lemmas.List.Elements.{All-from_get_or}
use Rattle.std.proofs.Math.Nat.{zero-mod}
use Rattle.comm_ring.specs.Modules.{InSpan, IsModule, IsSubmodule, combination, modulo}
use Rattle.comm_ring.specs.Rows.{rows}
use Rattle.comm_ring.proofs.Fields.{residue_coefficients}
use Rattle.comm_ring.proofs.Modules as Modules
use Rattle.comm_ring.proofs.Modules.{Module}
use Rattle.comm_ring.proofs.Quotients as Quotients
use Rattle.comm_ring.proofs.Residues.{residues}
use Rattle.comm_ring.proofs.Rows.{row_module, row-entry}
use Rattle.lane_rows.specs.Rows.{IsFirstNonzero}
use Rattle.row_space.specs.Sums.{weighted}
use Rattle.row_space.specs.Echelon.{IsRow}
use Rattle.row_space.specs.Subspace.{Subspace, IsIn, DifferIn, IsZeroAtPivots, IsReduced, IsSumOfBasis}
use Rattle.row_space.proofs.Weights.{weighted-none, weighted-one, weighted-same}
use Rattle.row_space.proofs.Members.{combination-entry, weighted_of}
use Rattle.finite_algebra.proofs.Summing.{combination_fits}
use Rattle.point_quotient.specs.Complements.{IsRestModulo, AreFirstRests, AreRests, IsComplement, IsInWhole, AreCoordinates}
use Rattle.over_module.specs.Raising.{IsSpannedBy}
use Rattle.over_module.proofs.SummedRows.{by_other_names}
use Rattle.over_module.proofs.ZeroRows.{own_row, independent_of}

-- one more rest
pub rests_more : (part : Subspace) (list made new : List (List ℕ)) (i : ℕ) (rest : List ℕ) → AreFirstRests part i list made → new ≡ made ++ rest ∷ [] → IsRestModulo part (get_or list i []) rest
    → AreFirstRests part (i + 1) list new
rests_more part list made new i rest t e d =
    let k : length made ≡ i = t.count in
    record {
      count = ap length e ∙ length-append made (rest ∷ []) ∙ omega arith;
      each = λ j h. subst (IsRestModulo part (get_or list j [])) (sym (ap (λ rs. get_or rs j []) e)) (⊎_elim
          (λ (a : j < i). subst (IsRestModulo part (get_or list j [])) (sym (get_or_append_left made (rest ∷ []) [] j (omega arith))) (t.each j a))
          (λ (a : i ≤ j).
          let same : i ≡ j = omega arith in
          subst (IsRestModulo part (get_or list j [])) (sym (get_or_push made rest [] j (omega arith))) (subst (λ z. IsRestModulo part (get_or list z []) rest) same d))
          (cases_lt j i));
    }

nothing : (n : ℕ) (us : List (List ℕ)) (k : ℕ) → weighted (replicate n 0) us k ≡ 0
nothing zero us k = refl
nothing (suc n) [] k = refl
nothing (suc n) (u ∷ us) k = omega (arith, nothing n us k)

module _ (p w : ℕ) (two : 2 ≤ p) (us : List (List ℕ)) (reduced : (let s : Subspace = record { prime = p; width = w; basis = us } in IsReduced s)) where
  positive : 0 < p
  positive = omega arith

  abbrev part : Subspace
  part = record { prime = p; width = w; basis = us }

  abbrev V : Module (residues p positive)
  V = row_module p positive w

  us_span : IsSubmodule (rows p w) (InSpan (rows p w) us)
  us_span = Modules.span_submodule (residues p positive) V us

  laws : IsModule (residues p positive).ops (modulo (rows p w) (InSpan (rows p w) us))
  laws = Quotients.modulo_laws (residues p positive) V (InSpan (rows p w) us) us_span

  pivot : ℕ → ℕ
  pivot j = get_or reduced.0 j 0

  -- a pivot is the place of the first entry that is not 0
  pivot_first : (j : ℕ) → j < length us → IsFirstNonzero (get_or us j []) (get_or reduced.0 j 0)
  pivot_first j h = record {
    within = omega (arith, (reduced.1.rows j [] h).0, reduced.1.within j h);
    nonzero = λ z. absurd (omega (arith, reduced.1.own j h));
    before = λ k l. reduced.1.before j k h l;
  }

  -- sums of multiples of rows that are 0 at the pivots are 0 there
  pub zero_sum : (ms : List (List ℕ)) → All (IsZeroAtPivots part) ms → (x : List ℕ) → IsZeroAtPivots part (combination (rows p w) x ms)
  zero_sum ms zeros x i q l f =
      let within : q < w = omega (arith, f.within, (reduced.1.rows i [] l).0) in
      combination-entry p w x ms q within ∙ ap (λ n. n % p) (weighted-none x ms q (λ k h. zeros k [] h i q l f)) ∙ zero-mod p

  -- a row of the part that is 0 at the pivots is 0
  pub no_rest : (row : List ℕ) → InSpan (rows p w) us row → IsZeroAtPivots part row → (rows p w).◌≋◌ row (rows p w).origin
  no_rest row h zeros k l =
      let s = weighted_of p w us row h in
      s.2 k l ∙ weighted-same p s.0 (replicate (length us) 0) us k s.1 (length-replicate (length us) 0) (each s.0 s.1 s.2)
      ∙ ap (λ n. n % p) (nothing (length us) us k ∙ sym (row-entry w (λ _. 0) k l))
    where
      each : (cs : List ℕ) → length cs ≡ length us → ((k : ℕ) → k < w → get_or row k 0 % p ≡ weighted cs us k % p)
          → (j : ℕ) → j < length us → get_or cs j 0 % p ≡ get_or (replicate (length us) 0) j 0 % p
      each cs long e j h =
          let one : weighted cs us (get_or reduced.0 j 0) ≡ get_or cs j 0 = weighted-one cs us (get_or reduced.0 j 0) j long h (reduced.1.own j h) (λ i l ne. reduced.1.others i j l h ne) in
          ap (λ n. n % p) (sym one) ∙ sym (e (get_or reduced.0 j 0) (reduced.1.within j h))
          ∙ ap (λ n. n % p) (zeros j (get_or reduced.0 j 0) h (pivot_first j h) ∙ sym (get_or-replicate (length us) j 0 0 h))

  module _ (ws : List (List ℕ)) (into : All (InSpan (rows p w) ws) us) (rests : List (List ℕ)) (r : AreRests part ws rests)
      (ms : List (List ℕ)) (s : (let space : Subspace = record { prime = p; width = w; basis = ms } in IsSpannedBy p w rests space)) where
    abbrev whole : Subspace
    whole = record { prime = p; width = w; basis = ws }

    abbrev made : Subspace
    made = record { prime = p; width = w; basis = ms }

    ws_span : IsSubmodule (rows p w) (InSpan (rows p w) ws)
    ws_span = Modules.span_submodule (residues p positive) V ws

    ms_span : IsSubmodule (rows p w) (InSpan (rows p w) ms)
    ms_span = Modules.span_submodule (residues p positive) V ms

    up : (row : List ℕ) → InSpan (rows p w) us row → InSpan (rows p w) ws row
    up row h = Modules.span_through (residues p positive) V us ws into row h

    rest_inside : (i : ℕ) → i < length rests → InSpan (rows p w) ws (get_or rests i [])
    rest_inside i l =
        let l' : i < length ws = omega (arith, r.count) in
        let v = get_or rests i [] in
        let u = get_or ws i [] in
        let d : InSpan (rows p w) us ((rows p w).◌⊞◌ v ((rows p w).opposite u)) = laws.symm {x = u} {y = v} (r.each i l').same in
        ws_span.resp ((rows p w).◌⊞◌ ((rows p w).◌⊞◌ v ((rows p w).opposite u)) u) v (Modules.sub_undo (residues p positive) V v u)
        (ws_span.add ((rows p w).◌⊞◌ v ((rows p w).opposite u)) u (up ((rows p w).◌⊞◌ v ((rows p w).opposite u)) d) (Modules.span_self (residues p positive) V ws i [] l'))

    inside : All (InSpan (rows p w) ws) ms
    inside i d l = Modules.span_through (residues p positive) V rests ws (All-from_get_or (InSpan (rows p w) ws) rests [] rest_inside) (get_or ms i d) ((s.members (get_or ms i d)).0 (own_row made i d l))

    rests_zero : All (IsZeroAtPivots part) rests
    rests_zero = All-from_get_or (IsZeroAtPivots part) rests [] (λ i l. (r.each i (omega (arith, r.count))).zero)

    zeros : All (IsZeroAtPivots part) ms
    zeros i d l j q h f =
        let row = get_or ms i d in
        let fit : IsRow p w (get_or ms i d) = s.reduced.1.rows i d l in
        let within : q < w = omega (arith, f.within, (reduced.1.rows j [] h).0) in
        let t = (s.members (get_or ms i d)).0 (own_row made i d l) in
        sym (mod-eq_of_lt (fit.1 q 0 (omega (arith, fit.0)))) ∙ t.2 q within ∙ ap (λ n. n % p) (zero_sum rests rests_zero t.0 j q h f) ∙ zero-mod p

    -- the row differs from one of the made space by one of the part
    abbrev IsReached : List ℕ → Type 0
    IsReached row = (y : List ℕ) × InSpan (rows p w) ms y × InSpan (rows p w) us ((rows p w).◌⊞◌ row ((rows p w).opposite y))

    reached : IsSubmodule (rows p w) IsReached
    reached = record {
      resp = λ x y e h. (h.0, h.1, laws.trans {x = y} {y = x} {z = h.0} (Quotients.equal_modulo (residues p positive) V (InSpan (rows p w) us) us_span y x (V.symm {x = x} {y = y} e)) h.2);
      none = ((rows p w).origin, ms_span.none, laws.rfl (rows p w).origin);
      add = λ x y h k. ((rows p w).◌⊞◌ h.0 k.0, ms_span.add h.0 k.0 h.1 k.1, laws.add_cong {x = x} {x' = h.0} {y = y} {y' = k.0} h.2 k.2);
      scale = λ c x h. ((rows p w).◌·◌ c h.0, ms_span.scale c h.0 h.1, laws.scale_cong {c = c} {c' = c} {x = x} {x' = h.0} refl h.2);
    }

    each_reached : (i : ℕ) → i < length ws → IsReached (get_or ws i [])
    each_reached i l = (
      get_or rests i [],
      (s.members (get_or rests i [])).1 (Modules.span_self (residues p positive) V rests i [] (omega (arith, r.count))),
      (r.each i l).same,
    )

    onto : (row : List ℕ) → InSpan (rows p w) ws row → (x : List ℕ) × IsRow p (length ms) x × DifferIn part row (combination (rows p w) x ms)
    onto row h =
        let t = Modules.span_least (residues p positive) V IsReached reached ws (All-from_get_or IsReached ws [] each_reached) row h in
        let c = residue_coefficients p positive V ms t.0 t.1 in (
          c.0,
          (c.1, c.2),
          laws.trans {x = row} {y = t.0} {z = combination (rows p w) c.0 ms} t.2 (Quotients.equal_modulo (residues p positive) V (InSpan (rows p w) us) us_span t.0 (combination (rows p w) c.0 ms) c.3),
        )

    none : (x : List ℕ) → IsRow p (length ms) x → InSpan (rows p w) us (combination (rows p w) x ms) → All (λ c. c ≡ 0) x
    none x fit h i d l =
        sym (mod-eq_of_lt (fit.1 i d l)) ∙ independent_of made s.reduced x fit.0 (no_rest (combination (rows p w) x ms) h (zero_sum ms zeros x)) i d l ∙ zero-mod p

    complement_is : IsComplement part whole made
    complement_is = record {
      part_prime = refl;
      part_width = refl;
      prime = refl;
      width = refl;
      reduced = s.reduced;
      inside = inside;
      pivots = zeros;
      onto = λ row f h. onto row h;
      zero = none;
    }

-- the space of the rests of the whole's basis is a complement of the part
pub rests_complement : (part whole made : Subspace) → 2 ≤ whole.prime → part.prime ≡ whole.prime → part.width ≡ whole.width → IsReduced part → All (IsIn whole) part.basis
    → (rests : List (List ℕ)) → AreRests part whole.basis rests → IsSpannedBy whole.prime whole.width rests made → IsComplement part whole made
rests_complement part whole made two prime width reduced into rests r s =
    let p = whole.prime in
    let w = whole.width in
    let other : Subspace = record { prime = p; width = w; basis = part.basis } in
    let part_is : part ≡ other = by_other_names part p w prime width in
    let same : Subspace = record { prime = p; width = w; basis = made.basis } in
    let made_is : made ≡ same = by_other_names made p w s.prime s.width in
    subst (λ z. IsComplement z whole made) (sym part_is) (subst (IsComplement other whole) (sym made_is)
    (complement_is p w two part.basis (subst IsReduced part_is reduced) whole.basis into rests (subst (λ z. AreRests z whole.basis rests) part_is r) made.basis (subst (IsSpannedBy p w rests) made_is s)))

-- the rest of a row of the whole is in the complement
pub rest_inside_made : (part made : Subspace) (row rest : List ℕ) → 2 ≤ part.prime → IsReduced part → IsInWhole part made row
    → ((other : List ℕ) → IsRestModulo part row other → other ≡ rest) → IsIn made rest
rest_inside_made part made row rest two reduced h only = there
    (subst (λ z. IsComplement part z made) (by_other_names h.0 part.prime part.width (sym h.1.part_prime) (sym h.1.part_width)) h.1)
  where
    there : (let whole : Subspace = record { prime = part.prime; width = part.width; basis = h.0.basis } in IsComplement part whole made) → IsIn made rest
    there c =
        let p = part.prime in
        let w = part.width in
        let g = h.1.onto row h.2 h.3 in
        let x = g.0 in
        let y = combination (rows p w) x made.basis in
        let d : DifferIn part row y = subst (λ z. DifferIn part row (combination (rows z w) x made.basis)) (sym h.1.part_prime) (subst (λ z. DifferIn part row (combination (rows h.0.prime z) x made.basis)) (sym h.1.part_width) g.2) in
        let is : y ≡ rest = only y (record {
          fits = combination_fits p w (omega arith) x made.basis;
          same = d;
          zero = zero_sum p w two part.basis reduced made.basis c.pivots x;
        }) in
        let own : InSpan (rows p w) made.basis y = (x, g.1.0, λ i l. refl) in
        let own_made : IsIn made y = subst (λ z. InSpan (rows z made.width) made.basis y) (sym c.prime) (subst (λ z. InSpan (rows p z) made.basis y) (sym c.width) own) in
        subst (IsIn made) is own_made

-- what the rest of a row is over the complement's rows, the row is modulo the part
pub rest_coordinates : (part made : Subspace) (row rest x : List ℕ) → 2 ≤ part.prime → IsReduced part → IsInWhole part made row → IsRestModulo part row rest → IsSumOfBasis made x rest
    → AreCoordinates part made row x
rest_coordinates part made row rest x two reduced h r s =
    let p = part.prime in
    let w = part.width in
    let y = combination (rows p w) x made.basis in
    let prime : made.prime ≡ part.prime = h.1.prime ∙ sym h.1.part_prime in
    let width : made.width ≡ part.width = h.1.width ∙ sym h.1.part_width in
    let sum : (rows p w).◌≋◌ rest (combination (rows p w) x made.basis) = subst (λ z. (rows z w).◌≋◌ rest (combination (rows z w) x made.basis)) prime (subst (λ z. (rows made.prime z).◌≋◌ rest (combination (rows made.prime z) x made.basis)) width s.sum) in
    let L = laws p w two part.basis reduced in
    record {
      fit = subst (λ z. IsRow z (length made.basis) x) prime s.fit;
      same = L.trans {x = row} {y = rest} {z = y} r.same
          (Quotients.equal_modulo (residues p (positive p w two part.basis reduced)) (row_module p (positive p w two part.basis reduced) w) (InSpan (rows p w) part.basis) (us_span p w two part.basis reduced) rest y sum);
    }
