-- The vectors of a sorted list whose leads no earlier lead divides.
use Rattle.std.proofs.Common.{◌≡◌, ◌≢◌, inl, inr, ℕ, ◌+◌, ◌-◌, ◌<◌, ◌≤◌, zero, suc, Bool, true, false, List, [], ◌∷◌, ◌++◌, length, get_or, refl, sym, ap, ◌∙◌, subst, arith}
use Rattle.std.specs.List.{Contains}
use Rattle.std.specs.declared.cmp.Ordering.{Ordering}
use Rattle.std.specs.declared.cmp.Ordering.TheVariants.{Less, Equal, Greater}
use Rattle.std.specs.Ordering.{is_lt}
use Rattle.std.specs.List.Sorted.{IsSortedBy}
use Rattle.std.proofs.Math.Nat.{eq-or-lt_of_le}
use Rattle.std.proofs.lemmas.List.{get_or-map, get_or_default}
use Rattle.std.proofs.lemmas.List.Elements.{Contains-get_or, Contains-append_left, Contains-push, Contains-push_cases}
use Rattle.std.proofs.lemmas.List.Quantifiers.{all_pairs_push}
use Rattle.monomials.specs.Mono.{Monomial, Divides, cmp_dp}
use Rattle.monomials.proofs.Order.{same_dp, chain_up, turn_down}
use Rattle.polys.specs.declared.term.Term.{Term}
use Rattle.polys.specs.Poly.{Polynomial, terms_of}
use Rattle.graded_modules.specs.Vector.{lead_mono}
use Rattle.graded_modules.specs.Module.{IsLeadMultiple}
use Rattle.module_division.specs.Reduction.{AreSorted, AreRising, IsCore, IsKept}
use Rattle.module_division.specs.Reduction.IsKept.{superfluous, needed}
use Rattle.module_division.proofs.Lists.{count_lists, lists_append}

-- ---- sorted lists

abbrev pub key : Polynomial → Monomial
key f = lead_mono f.terms

abbrev pub lt : Polynomial → Polynomial → Bool
lt f g = is_lt (cmp_dp (key f) (key g))

-- no less by two steps
chain : (a b c : Monomial) → is_lt (cmp_dp b a) ≡ false → is_lt (cmp_dp c b) ≡ false → is_lt (cmp_dp c a) ≡ false
chain a b c h k = go (cmp_dp b a) refl (cmp_dp c b) refl h k
  where
    go : (r : Ordering) → cmp_dp b a ≡ r → (s : Ordering) → cmp_dp c b ≡ s → is_lt r ≡ false → is_lt s ≡ false → is_lt (cmp_dp c a) ≡ false
    go Less p s q x y = absurd (cc)
    go r p Less q x y = absurd (cc)
    go Equal p s q x y = subst (λ w. is_lt (cmp_dp c w) ≡ false) (same_dp b a p) (ap is_lt q ∙ y)
    go Greater p Equal q x y = subst (λ w. is_lt (cmp_dp w a) ≡ false) (sym (same_dp c b q)) (ap is_lt p ∙ x)
    go Greater p Greater q x y = ap is_lt (chain_up c b a q p)

later : (fs : List Polynomial) (d : Polynomial) → IsSortedBy lt fs → (i n : ℕ) → i + suc n < length fs → lt (get_or fs (i + suc n) d) (get_or fs i d) ≡ false
later fs d h i zero l = let e : i + suc zero ≡ i + 1 = omega arith in subst (λ m. lt (get_or fs m d) (get_or fs i d) ≡ false) (sym e) (h i d (omega arith) (omega arith))
later fs d h i (suc n) l =
    let e : i + suc (suc n) ≡ (i + suc n) + 1 = omega arith in
    subst (λ m. lt (get_or fs m d) (get_or fs i d) ≡ false) (sym e)
    (chain (key (get_or fs i d)) (key (get_or fs (i + suc n) d)) (key (get_or fs ((i + suc n) + 1) d)) (later fs d h i n (omega arith)) (h (i + suc n) d (omega arith) (omega arith)))

pub sorted_pairs : (fs : List Polynomial) → IsSortedBy lt fs → AreSorted fs
sorted_pairs fs h i j d l m g = go (j - suc i) (omega arith)
  where
    go : (n : ℕ) → j ≡ i + suc n → ⊥
    go n e =
        let x : lt (get_or fs (i + suc n) d) (get_or fs i d) ≡ false = later fs d h i n (omega arith) in
        let y : lt (get_or fs j d) (get_or fs i d) ≡ true = ap is_lt (turn_down (key (get_or fs i d)) (key (get_or fs j d)) g) in
        let z : lt (get_or fs j d) (get_or fs i d) ≡ false = subst (λ m. lt (get_or fs m d) (get_or fs i d) ≡ false) (sym e) x in
        absurd (cc)

-- ---- the core of a sorted list

-- what was kept of the first k vectors
pub record IsCoreSoFar (fs ks : List Polynomial) (k : ℕ) : Type 0 where
  pub inside : (f : Polynomial) → Contains ks f → (i : ℕ) × (i < k) × (i < length fs) × (get_or fs i f ≡ f)
  pub covers : (i : ℕ) (d : Polynomial) → i < k → i < length fs → IsLeadMultiple (terms_of ks) (key (get_or fs i d))
  pub rising : AreRising (terms_of ks)

pub core_start : (fs ks : List Polynomial) → ks ≡ [] → IsCoreSoFar fs ks 0
core_start fs ks e = record {
  inside = λ f c. let q : length ks ≡ 0 = ap length e in let l = c.1 in absurd (omega arith);
  covers = λ i d h. absurd (omega arith);
  rising = λ i j d h l. let q : length (terms_of ks) ≡ 0 = ap (λ xs. length (terms_of xs)) e in absurd (omega arith);
}

more_multiple : (bs cs : List (List Term)) (m : Monomial) → IsLeadMultiple bs m → IsLeadMultiple (bs ++ cs) m
more_multiple bs cs m (b, c, d) = (b, Contains-append_left bs cs b c, d)

not_greater : (a b : Monomial) → cmp_dp a b ≢ Greater → (Divides a b → ⊥) → cmp_dp a b ≡ Less
not_greater a b h k = go (cmp_dp a b) refl
  where
    go : (r : Ordering) → cmp_dp a b ≡ r → r ≡ Less
    go Less e = refl
    go Equal e = absurd (k (subst (Divides a) (same_dp a b e) (record { same = refl; none_greater = λ i. omega arith })))
    go Greater e = absurd (h e)

pub core_next : (fs ks ms : List Polynomial) (k : ℕ) (f : Polynomial) → AreSorted fs → k < length fs → f ≡ get_or fs k f → IsCoreSoFar fs ks k → IsKept ks f ms → IsCoreSoFar fs ms (k + 1)
core_next fs ks ms k f sorted l e h (superfluous q w) = record {
  inside = λ g c. let x = h.inside g (subst (λ xs. Contains xs g) q c) in let y = x.1 in (x.0, omega arith, x.2, x.3);
  covers = λ i d a b. subst (λ xs. IsLeadMultiple (terms_of xs) (key (get_or fs i d))) (sym q) (
      let le : i ≤ k = omega arith in
      elim (eq-or-lt_of_le le) [
        | inl s ↦ subst (λ g. IsLeadMultiple (terms_of ks) (key g)) (e ∙ get_or_default fs k f d l ∙ ap (λ x. get_or fs x d) (sym s)) w
        | inr r ↦ h.covers i d r b
      ]);
  rising = subst (λ xs. AreRising (terms_of xs)) (sym q) h.rising;
}
core_next fs ks ms k f sorted l e h (needed q w) =
    let cs : terms_of ms ≡ terms_of ks ++ f.terms ∷ [] = ap terms_of q ∙ lists_append ks (f ∷ []) in
    record {
      inside = λ g c. elim (Contains-push_cases ks f g (subst (λ xs. Contains xs g) q c)) [
        | inl x ↦ let y = h.inside g x in let z = y.1 in (y.0, omega arith, y.2, y.3)
        | inr s ↦ (k, omega arith, l, ap (get_or fs k) (sym s) ∙ sym e ∙ s)
      ];
      covers = λ i d a b. subst (λ xs. IsLeadMultiple xs (key (get_or fs i d))) (sym cs) (
          let le : i ≤ k = omega arith in
          elim (eq-or-lt_of_le le) [
            | inl s ↦ (f.terms, Contains-push (terms_of ks) f.terms, subst (λ g. Divides (key f) (key g)) (e ∙ get_or_default fs k f d l ∙ ap (λ x. get_or fs x d) (sym s)) (record { same = refl; none_greater = λ j. omega arith }))
            | inr r ↦ more_multiple (terms_of ks) (f.terms ∷ []) (key (get_or fs i d)) (h.covers i d r b)
          ]);
      rising = subst AreRising (sym cs)
          (all_pairs_push (λ x y. (cmp_dp (lead_mono x) (lead_mono y) ≡ Less) × (Divides (lead_mono x) (lead_mono y) → ⊥)) (terms_of ks) f.terms h.rising (λ i d r.
          let n = count_lists ks in
          let D : Polynomial = record { prime = 0; terms = d } in
          let g : Polynomial = get_or ks i D in
          let at : get_or (terms_of ks) i d ≡ g.terms = get_or-map (λ (x : Polynomial). x.terms) ks i D d (omega arith) in
          let place = h.inside g (Contains-get_or ks i D (omega arith)) in
          let before = place.1 in
          let not_multiple : Divides (lead_mono g.terms) (key f) → ⊥ = λ v. w (g.terms, subst (Contains (terms_of ks)) at (Contains-get_or (terms_of ks) i d r), v) in
          let order : cmp_dp (key g) (key f) ≢ Greater = subst (λ x. cmp_dp (key x) (key f) ≢ Greater) place.3 (subst (λ x. cmp_dp (key (get_or fs place.0 g)) (key x) ≢ Greater) (sym (e ∙ get_or_default fs k f g l)) (sorted place.0 k g before l)) in
          subst (λ x. (cmp_dp (lead_mono x) (key f) ≡ Less) × (Divides (lead_mono x) (key f) → ⊥)) (sym at) (not_greater (key g) (key f) order not_multiple, not_multiple)));
    }

pub core_whole : (fs ks : List Polynomial) (k : ℕ) → length fs ≤ k → IsCoreSoFar fs ks k → IsCore (terms_of fs) (terms_of ks)
core_whole fs ks k l h = record {
  inside = λ b (i, r, e).
      let n = count_lists ks in
      let D : Polynomial = record { prime = 0; terms = b } in
      let at : get_or (terms_of ks) i b ≡ (get_or ks i D).terms = get_or-map (λ (x : Polynomial). x.terms) ks i D b (omega arith) in
      let place = h.inside (get_or ks i D) (Contains-get_or ks i D (omega arith)) in
      let m = count_lists fs in
      let inside = place.2 in
      (place.0, omega arith, get_or-map (λ (x : Polynomial). x.terms) fs place.0 (get_or ks i D) b inside ∙ ap (λ (x : Polynomial). x.terms) place.3 ∙ sym at ∙ e);
  covers = λ b (i, r, e).
      let n = count_lists fs in
      let D : Polynomial = record { prime = 0; terms = b } in
      let at : get_or (terms_of fs) i b ≡ (get_or fs i D).terms = get_or-map (λ (x : Polynomial). x.terms) fs i D b (omega arith) in
      subst (λ x. IsLeadMultiple (terms_of ks) (lead_mono x)) (sym at ∙ e) (h.covers i D (omega arith) (omega arith));
  rising = h.rising;
}
