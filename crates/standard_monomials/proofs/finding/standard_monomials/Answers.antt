use Rattle.std.proofs.Common.{◌≤◌, inl, inr, arith, length, refl, sym, subst}
use Rattle.prime_field.specs.Primes.{IsPrime}
use Rattle.polys.specs.Ideal.{HasDim, HasInfiniteDim}
use Rattle.standard_monomials.specs.Standard.{AreStandard}
use Rattle.standard_monomials.specs.Finding.{terms_of, HasDimAbove, HasDimUpTo}
use Rattle.standard_monomials.proofs.Answered.{all_standard, infinite_by, above_by, dimension_by, not_above, not_up_to, not_finite}
use Rattle.standard_monomials.proofs.Bounded.{standard_low}
use Rattle.standard_monomials.proofs.finding.standard_monomials.Goals as goal

pub search-requires-clause-reach : goal.search-requires-clause-reach
search-requires-clause-reach c =
    elim c.requires.limit [
      | inl h ↦ inl h
      | inr h ↦ inr (standard_low c.args.prime c.args.variables (terms_of c.args.basis.now) c.requires.variables c.requires.reduced.polys h c.if-not-has_all_power_leads.ensures)
    ]

pub returns-then-not-has_all_power_leads-clause-all : goal.returns-then-not-has_all_power_leads-clause-all
returns-then-not-has_all_power_leads-clause-all c =
    let v = c.if-not-has_all_power_leads.ensures in
    let i : HasInfiniteDim c.args.prime c.args.variables (terms_of c.args.basis.now) = infinite_by c.args.prime c.args.variables (terms_of c.args.basis.now) (subst IsPrime c.get-prime.ensures.value c.get-prime.ensures.prime) c.requires.variables c.requires.reduced v.0 v.1 v.2 in
    (λ h. absurd h, λ h. not_up_to c.args.prime c.args.variables (terms_of c.args.basis.now) c.args.limit i h)

pub returns-then-not-has_all_power_leads-clause-wide : goal.returns-then-not-has_all_power_leads-clause-wide
returns-then-not-has_all_power_leads-clause-wide c =
    let v = c.if-not-has_all_power_leads.ensures in
    let i : HasInfiniteDim c.args.prime c.args.variables (terms_of c.args.basis.now) = infinite_by c.args.prime c.args.variables (terms_of c.args.basis.now) (subst IsPrime c.get-prime.ensures.value c.get-prime.ensures.prime) c.requires.variables c.requires.reduced v.0 v.1 v.2 in
    (λ e. absurd (cc), λ h. absurd (not_finite c.args.prime c.args.variables (terms_of c.args.basis.now) c.args.limit i h))

pub returns-then-not-has_all_power_leads-clause-infinite : goal.returns-then-not-has_all_power_leads-clause-infinite
returns-then-not-has_all_power_leads-clause-infinite c =
    let v = c.if-not-has_all_power_leads.ensures in
    let i : HasInfiniteDim c.args.prime c.args.variables (terms_of c.args.basis.now) = infinite_by c.args.prime c.args.variables (terms_of c.args.basis.now) (subst IsPrime c.get-prime.ensures.value c.get-prime.ensures.prime) c.requires.variables c.requires.reduced v.0 v.1 v.2 in
    (λ e. i, λ h. refl)

pub returns-then-len-limit-clause-all : goal.returns-then-len-limit-clause-all
returns-then-len-limit-clause-all c =
    let found = c.in_ok-found.ensures in
    let a : HasDimAbove c.args.prime c.args.variables (terms_of c.args.basis.now) c.args.limit =
    above_by c.args.prime c.args.variables (terms_of c.args.basis.now) (subst IsPrime c.get-prime.ensures.value c.get-prime.ensures.prime) c.requires.variables c.requires.reduced c.if-not-has_all_power_leads.ensures
    c.in_ok-found.found.items c.args.limit found.rising found.each (omega (arith, c.if-len-limit.true, c.len.ensures)) in
    (λ h. absurd h, λ h. not_above c.args.prime c.args.variables (terms_of c.args.basis.now) c.args.limit h a)

pub returns-then-len-limit-clause-wide : goal.returns-then-len-limit-clause-wide
returns-then-len-limit-clause-wide c =
    let found = c.in_ok-found.ensures in
    let a : HasDimAbove c.args.prime c.args.variables (terms_of c.args.basis.now) c.args.limit =
    above_by c.args.prime c.args.variables (terms_of c.args.basis.now) (subst IsPrime c.get-prime.ensures.value c.get-prime.ensures.prime) c.requires.variables c.requires.reduced c.if-not-has_all_power_leads.ensures
    c.in_ok-found.found.items c.args.limit found.rising found.each (omega (arith, c.if-len-limit.true, c.len.ensures)) in
    (λ e. a, λ h. refl)

pub returns-then-len-limit-clause-infinite : goal.returns-then-len-limit-clause-infinite
returns-then-len-limit-clause-infinite c =
    let found = c.in_ok-found.ensures in
    let a : HasDimAbove c.args.prime c.args.variables (terms_of c.args.basis.now) c.args.limit =
    above_by c.args.prime c.args.variables (terms_of c.args.basis.now) (subst IsPrime c.get-prime.ensures.value c.get-prime.ensures.prime) c.requires.variables c.requires.reduced c.if-not-has_all_power_leads.ensures
    c.in_ok-found.found.items c.args.limit found.rising found.each (omega (arith, c.if-len-limit.true, c.len.ensures)) in
    (λ e. absurd (cc), λ h. absurd (not_finite c.args.prime c.args.variables (terms_of c.args.basis.now) c.args.limit h a))

pub returns-clause-standard : goal.returns-clause-standard
returns-clause-standard c =
    let found = c.in_ok-found.ensures in
    let few : length c.in_ok-found.found.items ≤ c.args.limit = omega (arith, c.if-len-limit.false, c.len.ensures) in
    let s : AreStandard c.args.variables (terms_of c.args.basis.now) c.in_ok-found.found.items =
    all_standard c.args.variables (terms_of c.args.basis.now) c.in_ok-found.found.items found.rising found.each (found.whole few) in
    subst (AreStandard c.args.variables (terms_of c.args.basis.now)) (sym c.of_vec.ensures) s

pub returns-clause-dimension : goal.returns-clause-dimension
returns-clause-dimension c =
    let found = c.in_ok-found.ensures in
    let few : length c.in_ok-found.found.items ≤ c.args.limit = omega (arith, c.if-len-limit.false, c.len.ensures) in
    let s : AreStandard c.args.variables (terms_of c.args.basis.now) c.in_ok-found.found.items =
    all_standard c.args.variables (terms_of c.args.basis.now) c.in_ok-found.found.items found.rising found.each (found.whole few) in
    let d : HasDim c.args.prime c.args.variables (terms_of c.args.basis.now) (length c.in_ok-found.found.items) = dimension_by c.args.prime c.args.variables (terms_of c.args.basis.now) (subst IsPrime c.get-prime.ensures.value c.get-prime.ensures.prime) c.requires.variables c.requires.reduced c.in_ok-found.found.items s in
    subst (λ (ms : _). HasDim c.args.prime c.args.variables (terms_of c.args.basis.now) (length ms)) (sym c.of_vec.ensures) d

pub returns-clause-all : goal.returns-clause-all
returns-clause-all c =
    let found = c.in_ok-found.ensures in
    let few : length c.in_ok-found.found.items ≤ c.args.limit = omega (arith, c.if-len-limit.false, c.len.ensures) in
    let s : AreStandard c.args.variables (terms_of c.args.basis.now) c.in_ok-found.found.items =
    all_standard c.args.variables (terms_of c.args.basis.now) c.in_ok-found.found.items found.rising found.each (found.whole few) in
    let d : HasDim c.args.prime c.args.variables (terms_of c.args.basis.now) (length c.in_ok-found.found.items) = dimension_by c.args.prime c.args.variables (terms_of c.args.basis.now) (subst IsPrime c.get-prime.ensures.value c.get-prime.ensures.prime) c.requires.variables c.requires.reduced c.in_ok-found.found.items s in
    let u : HasDimUpTo c.args.prime c.args.variables (terms_of c.args.basis.now) c.args.limit = (length c.in_ok-found.found.items, few, d) in
    (λ h. u, λ h. tt)

pub returns-clause-wide : goal.returns-clause-wide
returns-clause-wide c =
    let found = c.in_ok-found.ensures in
    let few : length c.in_ok-found.found.items ≤ c.args.limit = omega (arith, c.if-len-limit.false, c.len.ensures) in
    let s : AreStandard c.args.variables (terms_of c.args.basis.now) c.in_ok-found.found.items =
    all_standard c.args.variables (terms_of c.args.basis.now) c.in_ok-found.found.items found.rising found.each (found.whole few) in
    let d : HasDim c.args.prime c.args.variables (terms_of c.args.basis.now) (length c.in_ok-found.found.items) = dimension_by c.args.prime c.args.variables (terms_of c.args.basis.now) (subst IsPrime c.get-prime.ensures.value c.get-prime.ensures.prime) c.requires.variables c.requires.reduced c.in_ok-found.found.items s in
    let u : HasDimUpTo c.args.prime c.args.variables (terms_of c.args.basis.now) c.args.limit = (length c.in_ok-found.found.items, few, d) in
    (λ e. absurd (cc), λ h. absurd (not_above c.args.prime c.args.variables (terms_of c.args.basis.now) c.args.limit u h))

pub returns-clause-infinite : goal.returns-clause-infinite
returns-clause-infinite c =
    let found = c.in_ok-found.ensures in
    let few : length c.in_ok-found.found.items ≤ c.args.limit = omega (arith, c.if-len-limit.false, c.len.ensures) in
    let s : AreStandard c.args.variables (terms_of c.args.basis.now) c.in_ok-found.found.items =
    all_standard c.args.variables (terms_of c.args.basis.now) c.in_ok-found.found.items found.rising found.each (found.whole few) in
    let d : HasDim c.args.prime c.args.variables (terms_of c.args.basis.now) (length c.in_ok-found.found.items) = dimension_by c.args.prime c.args.variables (terms_of c.args.basis.now) (subst IsPrime c.get-prime.ensures.value c.get-prime.ensures.prime) c.requires.variables c.requires.reduced c.in_ok-found.found.items s in
    let u : HasDimUpTo c.args.prime c.args.variables (terms_of c.args.basis.now) c.args.limit = (length c.in_ok-found.found.items, few, d) in
    (λ e. absurd (cc), λ h. absurd (not_up_to c.args.prime c.args.variables (terms_of c.args.basis.now) c.args.limit h u))
