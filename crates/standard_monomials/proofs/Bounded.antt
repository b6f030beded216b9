-- Where each variable has a power among leads of low degree, each standard monomial has a low degree.
use Rattle.std.proofs.Common.{◌≡◌, ◌⊎◌, inl, inr, ℕ, ◌*◌, ◌<◌, ◌≤◌, zero, suc, List, [], ◌∷◌, get_or, sym, ◌∙◌, subst, arith}
use native.Mathlib.Decide.{ℕ_discrete}
use Rattle.std.specs.List.{All}
use Rattle.std.proofs.lemmas.Bool.{cases_lt}
use Rattle.std.proofs.lemmas.List.Elements.{All-contains}
use Rattle.monomials.specs.Mono.{Monomial, total_degree}
use Rattle.monomials.proofs.Exponents.{exponent_le}
use Rattle.polys.specs.declared.term.Term.{Term}
use Rattle.polys.specs.Terms.{IsPoly, OnlyFirst}
use Rattle.graded_modules.specs.Vector.{lead_mono}
use Rattle.standard_monomials.specs.Standard.{IsStandard}
use Rattle.standard_monomials.specs.Finding.{HasLowLeads, HasLowStandard, HasPowerLead}
use Rattle.standard_monomials.proofs.Remainders.{plain_lead}

total_below : (n : ℕ) (a : List ℕ) → OnlyFirst n a → ((v : ℕ) → v < n → get_or a v 0 ≤ 9000) → total_degree a ≤ n * 9000
total_below n [] o h = omega arith
total_below zero (x ∷ a) o h = let ih = total_below zero a o.1 (λ v l. absurd (omega arith)) in let z = o.0 in omega arith
total_below (suc n) (x ∷ a) o h =
    let ih = total_below n a o (λ v l. h (suc v) (omega arith)) in
    let z : x ≤ 9000 = h 0 (omega arith) in
    omega arith

module _ (p n : ℕ) (ds : List (List Term)) (six : n ≤ 6) (polys : All (IsPoly p n) ds) (low : HasLowLeads ds) (powers : (v : ℕ) → v < n → HasPowerLead ds v) where
  exponent_low : (m : Monomial) → IsStandard n ds m → (v : ℕ) → v < n → get_or m.exponents v 0 ≤ 9000
  exponent_low m s v l = go (cases_lt 9000 (get_or m.exponents v 0)) (powers v l)
    where
      go : (9000 < get_or m.exponents v 0) ⊎ (get_or m.exponents v 0 ≤ 9000) → HasPowerLead ds v → get_or m.exponents v 0 ≤ 9000
      go (inr h) w = h
      go (inl h) (b, c, only) =
          absurd (s.outside (b, c, record { same = plain_lead p n b (All-contains (IsPoly p n) ds b polys c) ∙ sym s.affine.plain; none_greater = λ i. at i (ℕ_discrete i v) }))
        where
          at : (i : ℕ) → Dec (i ≡ v) → get_or (lead_mono b).exponents i 0 ≤ get_or m.exponents i 0
          at i (yes e) =
              subst (λ j. get_or (lead_mono b).exponents j 0 ≤ get_or m.exponents j 0) (sym e)
              (let x = exponent_le (lead_mono b).exponents v in let y = All-contains (λ f. total_degree (lead_mono f).exponents ≤ 9000) ds b low c in omega arith)
          at i (no d) = let x = only i d in omega arith

  pub standard_low : HasLowStandard n ds
  standard_low m s = let t = total_below n m.exponents s.affine.first (exponent_low m s) in omega arith
