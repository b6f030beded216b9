use Rattle.std.proofs.Common.{◌≡◌, ℕ, ◌<◌, List, [], ◌∷◌, ◌++◌, length, sym, ◌∙◌, subst, arith, inl, inr}
use Rattle.std.specs.List.{Contains}
use Rattle.std.proofs.lemmas.List.Elements.{Contains-push}
use Rattle.prime_field.specs.Primes.{IsPrime}
use Rattle.monomials.specs.Mono.{common_multiple}
use Rattle.polys.specs.Poly.{IsPlain, Polynomial, terms_of}
use Rattle.polys.specs.Terms.{EachMono}
use Rattle.graded_modules.specs.Vector.{lead_mono}
use Rattle.module_division.specs.Vectors.{member}
use Rattle.module_basis.specs.declared.gens.Gens.{Gens}
use Rattle.module_basis.specs.declared.pairs.Pair.{Pair}
use Rattle.module_basis.specs.Growing.{AreOfOneComponent, pair_of, pair_degree}
use Rattle.module_basis.proofs.Pairing.{total_max, low_lead}
use Rattle.module_division.proofs.Lists.{member_is, count_lists}
use Rattle.module_basis.proofs.Joining.{joined_deep, joined_late, joined_coprime, one_gain, growing_pair, computed_degree, computed_component, coprime_at}
use Rattle.module_basis.proofs.growing.Growing.join.Goals as goal
use Rattle.module_basis.proofs.growing.Growing.join.Goals.{After-degree_at-degree}

pub lcm-m-requires-clause-room : goal.lcm-m-requires-clause-room
lcm-m-requires-clause-room c =
    let gens = c.args.gens.now in
    let fs = c.args.self.now.basis.items in
    let r = c.requires.rising in
    let hj : c.args.second < length fs = c.requires.inside in
    let a = low_lead gens c.args.e fs c.args.first c.index-f.result.now c.requires.growing.grown (omega arith) c.index-f.ensures in
    let b = low_lead gens c.args.e fs c.args.second c.index-g.result.now c.requires.growing.grown hj c.index-g.ensures in
    let k = c.get-cap.ensures.within in
    let cap = c.get-cap.ensures.value in
    let low = c.requires.degree in
    rw (c.lead_mono-a.ensures, c.lead_mono-b.ensures) (omega (arith, total_max (lead_mono c.index-f.result.now.terms).exponents (lead_mono c.index-g.result.now.terms).exponents))

-- what is known of the pair once its degree is
record IsJoint (gens : Gens) (fs : List Polynomial) (i j e : ℕ) : Type 0 where
  prime : IsPrime gens.prime
  before : i < length fs
  inside : j < length (terms_of fs)
  one : AreOfOneComponent (terms_of fs) i j
  degree : e ≡ pair_degree gens.shift (terms_of fs) i j

joint : (c : After-degree_at-degree) → IsJoint c.args.gens.now c.args.self.now.basis.items c.args.first c.args.second c.degree_at-degree.result
joint c =
    let fs = c.args.self.now.basis.items in
    let n = count_lists fs in
    let r = c.requires.rising in
    let hj : c.args.second < length fs = c.requires.inside in
    let hi : c.args.first < length fs = omega arith in
    record {
      prime = subst IsPrime c.get-prime.ensures.value c.get-prime.ensures.prime;
      before = hi;
      inside = omega arith;
      one = computed_component fs c.args.first c.args.second c.index-f.result.now c.index-g.result.now c.lead_mono-a.result c.lead_mono-b.result hi hj
          c.index-f.ensures c.index-g.ensures c.lead_mono-a.ensures c.lead_mono-b.ensures (sym c.component.ensures ∙ c.if-component.false ∙ c.component-2.ensures);
      degree = computed_degree c.args.gens.now.shift fs c.args.first c.args.second c.index-f.result.now c.index-g.result.now c.lead_mono-a.result c.lead_mono-b.result c.lcm-m.result c.degree_at-degree.result hi hj
          c.index-f.ensures c.index-g.ensures c.lead_mono-a.ensures c.lead_mono-b.ensures c.lcm-m.ensures.value c.degree_at-degree.ensures;
    }

pub returns-then-degree-from-clause-deep : goal.returns-then-degree-from-clause-deep
returns-then-degree-from-clause-deep c =
    let g = c.args.self.now in
    let x = joint (goal.at.returns-then-degree-from-clause-deep c).After-degree_at-degree in
    let d = x.degree in
    let from = c.from.ensures in
    let t = c.if-degree-from.true in
    λ _. joined_deep c.args.gens.now c.requires.gens x.prime c.args.e g.cap c.requires.degree (terms_of g.basis.items) c.requires.growing.grown c.args.first c.args.second
    c.requires.rising x.inside c.requires.last x.one (omega arith)

pub returns-then-are_coprime-clause-awaited : goal.returns-then-are_coprime-clause-awaited
returns-then-are_coprime-clause-awaited c one =
    let g = c.args.self.now in
    let fs = g.basis.items in
    let bs = terms_of fs in
    let x = joint (goal.at.returns-then-are_coprime-clause-awaited c).After-degree_at-degree in
    let d = x.degree in
    let from = c.from.ensures in
    let t = c.if-degree-from.false in
    let plain = c.are_coprime.ensures.0 c.if-are_coprime.true in
    let ef = member_is fs c.args.first c.index-f.result.now x.before c.index-f.ensures in
    let eg = member_is fs c.args.second c.index-g.result.now c.requires.inside c.index-g.ensures in
    let lcm : c.lcm-m.result ≡ common_multiple (lead_mono c.index-f.result.now.terms) (lead_mono c.index-g.result.now.terms) =
    c.lcm-m.ensures.value ∙ (λ k. common_multiple (c.lead_mono-a.ensures k) (c.lead_mono-b.ensures k)) in
    record {
      low = omega arith;
      waits = inl (joined_coprime c.args.gens.now c.requires.gens x.prime c.args.e g.cap c.requires.degree bs c.requires.growing.grown c.args.first c.args.second
          c.requires.rising x.inside c.requires.last one (subst (EachMono IsPlain) (sym ef) plain.1) (subst (EachMono IsPlain) (sym eg) plain.2)
          (coprime_at c.index-f.result.now.terms c.index-g.result.now.terms (member bs c.args.first) (member bs c.args.second) c.lcm-m.result (sym ef) (sym eg) lcm plain.0));
    }

pub returns-clause-growing : goal.returns-clause-growing
returns-clause-growing c =
    let x = joint (goal.at.returns-clause-growing c).After-degree_at-degree in
    growing_pair c.args.gens.now c.args.e c.args.self.now c.wait.new.self (record { first = c.args.first; second = c.args.second; degree = c.degree_at-degree.result })
    c.requires.growing c.in_ok-wait.ensures.vectors c.in_ok-wait.ensures.pairs (record { rising = c.requires.rising; inside = x.inside; one_component = x.one; degree = x.degree })

pub returns-clause-gains : goal.returns-clause-gains
returns-clause-gains c =
    let g = c.args.self.now in
    let x = joint (goal.at.returns-clause-gains c).After-degree_at-degree in
    let d = x.degree in
    let l = joined_late c.args.gens.now c.requires.gens x.prime c.args.e g.cap c.requires.degree (terms_of g.basis.items) c.requires.growing.grown c.args.first c.args.second
    c.requires.rising x.inside c.requires.last x.one in
    one_gain c.args.e g c.wait.new.self (record { first = c.args.first; second = c.args.second; degree = c.degree_at-degree.result }) c.in_ok-wait.ensures.cap c.in_ok-wait.ensures.vectors
    c.in_ok-wait.ensures.pairs (omega arith)

pub returns-clause-awaited : goal.returns-clause-awaited
returns-clause-awaited c one =
    let ps = c.args.self.now.pairs.items in
    let d = (joint (goal.at.returns-clause-awaited c).After-degree_at-degree).degree in
    let from = c.from.ensures in
    let t = c.if-degree-from.false in
    let q : Pair = record { first = c.args.first; second = c.args.second; degree = c.degree_at-degree.result } in
    record {
      low = omega arith;
      waits = inr (subst (λ l. Contains l (pair_of c.args.gens.now.shift (terms_of c.args.self.now.basis.items) c.args.first c.args.second)) (sym c.in_ok-wait.ensures.pairs)
          (subst (λ (k : ℕ). Contains (ps ++ q ∷ []) (record { first = c.args.first; second = c.args.second; degree = k })) d (Contains-push ps q)));
    }
