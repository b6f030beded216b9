use Rattle.std.proofs.Common.{◌≡◌, ◌≤◌, subst, arith}
use Rattle.monomials.specs.Mono.{total_degree}
use Rattle.polys.specs.Terms.{degree_of}
use Rattle.polys.specs.Poly.{IsVector}
use Rattle.polys.proofs.Degrees.{AtMost, each_degree}
use Rattle.polys.proofs.Each.{every_more}
use Rattle.graded_modules.specs.Vector.{lead_mono}
use Rattle.module_division.proofs.tests.is_divisor.Goals as goal

pub returns : goal.returns
returns c sure =
    let f = c.args.f.now in
    let e : f.prime ≡ c.args.p = cc in
    let top : degree_of f.terms ≤ total_degree (lead_mono f.terms).exponents =
    subst (λ m. degree_of f.terms ≤ total_degree m.exponents) c.lead_mono.ensures (let h = c.if-degree.false in omega arith) in
    record {
      prime = e;
      vector = subst (λ p. IsVector p f.terms) e c.terms-terms.ensures.known;
      monic = c.is_monic.ensures sure;
      tight = every_more (AtMost (degree_of f.terms)) (λ m. total_degree m.exponents ≤ total_degree (lead_mono f.terms).exponents) f.terms (λ m h. omega arith) (each_degree f.terms);
    }
