use Rattle.std.proofs.Common.{◌≡◌, inl, inr, ◌≤◌, length, get_or, sym, ap, ◌∙◌, subst, arith}
use Rattle.std.proofs.Math.Nat.{eq-or-lt_of_le}
use Rattle.std.proofs.lemmas.List.{get_or-map, get_or_default}
use Rattle.prime_field.specs.Primes.{IsPrime}
use Rattle.polys.specs.Poly.{Polynomial, terms_of}
use Rattle.graded_modules.specs.Vector.{degree_at, lead_mono}
use Rattle.graded_modules.specs.Module.{InModule}
use Rattle.module_basis.specs.Gens.{IsHomogeneousOver}
use Rattle.module_division.proofs.Lists.{count_lists}
use Rattle.module_basis.proofs.Adding.{nothing_gained, gained_twice, in_still}
use Rattle.module_basis.proofs.Advancing.{generator_in}
use Rattle.module_basis.proofs.growing.Growing.take_generators.Goals as goal

pub loop-k-init : goal.loop-k-init
loop-k-init c = record {
  growing = c.requires.growing;
  gains = nothing_gained c.args.gens.now c.args.e c.args.self.now;
  members = λ j d h q. absurd (omega arith);
}

pub take_generator-requires-clause-vector : goal.take_generator-requires-clause-vector
take_generator-requires-clause-vector c =
    let gens = c.args.gens.now in
    let r = c.index-vectors-k.result in
    let n = ap length c.as_slice-vectors.ensures in
    subst (IsHomogeneousOver gens.prime gens.variables gens.shift) (sym (c.index-vectors-k.is ∙ ap (λ xs. get_or xs c.loop-k.k r) c.as_slice-vectors.ensures))
    (c.requires.gens.vectors c.loop-k.k r (omega arith))

pub take_generator-requires-clause-member : goal.take_generator-requires-clause-member
take_generator-requires-clause-member c =
    let gens = c.args.gens.now in
    let r = c.index-vectors-k.result in
    let n = ap length c.as_slice-vectors.ensures in
    generator_in gens c.requires.gens (subst IsPrime c.get-prime.ensures.value c.get-prime.ensures.prime) c.loop-k.k r (omega arith)
    (c.index-vectors-k.is ∙ ap (λ xs. get_or xs c.loop-k.k r) c.as_slice-vectors.ensures)

pub loop-k-preserved : goal.loop-k-preserved
loop-k-preserved c =
    let gens = c.args.gens.now in
    let e = c.args.e in
    let now = c.loop-k.self in
    let new = c.take_generator.new.self in
    let g = c.in_ok-take_generator.ensures.gains in
    let inv = c.loop-k.invariant in
    let vs = c.as_slice-vectors.result.now in
    let prime = subst IsPrime c.get-prime.ensures.value c.get-prime.ensures.prime in
    let here : (d : Polynomial) → get_or vs c.loop-k.k d ≡ c.index-vectors-k.result =
    λ d. get_or_default vs c.loop-k.k d c.index-vectors-k.result c.loop-k-test.true ∙ sym c.index-vectors-k.is in
    record {
      growing = c.in_ok-take_generator.ensures.growing;
      gains = gained_twice gens e c.args.self.now now new inv.gains g;
      members = λ j d h q.
          let le : j ≤ c.loop-k.k = omega arith in
          elim (eq-or-lt_of_le le) [
            | inl s ↦
                let at : get_or vs j d ≡ c.index-vectors-k.result = ap (λ m. get_or vs m d) s ∙ here d in
                subst (λ (f : Polynomial). InModule gens.prime gens.variables (terms_of new.basis.items) f.terms) (sym at)
                (c.in_ok-take_generator.ensures.member (subst (λ (f : Polynomial). degree_at gens.shift (lead_mono f.terms) ≡ e) at q))
            | inr l ↦ in_still gens e now.basis.items new.basis.items g.more (get_or vs j d).terms prime g.vectors c.in_ok-take_generator.ensures.growing.grown (inv.members j d l q)
          ];
    }

pub returns-clause-members : goal.returns-clause-members
returns-clause-members c f (k, l, e) q =
    let gens = c.args.gens.now in
    let vs = c.as_slice-vectors.result.now in
    let n = count_lists gens.vectors in
    let m = ap length c.as_slice-vectors.ensures in
    let d : Polynomial = record { prime = 0; terms = f } in
    let at : (get_or vs k d).terms ≡ f =
    ap (λ xs. (get_or xs k d).terms) c.as_slice-vectors.ensures ∙ sym (get_or-map (λ (g : Polynomial). g.terms) gens.vectors k d f (omega arith)) ∙ e in
    subst (InModule gens.prime gens.variables (terms_of c.loop-k.self.basis.items)) at
    (c.loop-k.invariant.members k d (omega arith) (subst (λ g. degree_at gens.shift (lead_mono g) ≡ c.args.e) (sym at) q))
