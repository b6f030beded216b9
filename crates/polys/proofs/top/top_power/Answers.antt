use Rattle.std.proofs.Common.{◌<◌, arith, sym, ap, subst, ◌∙◌}
use Rattle.polys.specs.Terms.{degree_of}
use Rattle.polys.specs.Frobenius.{frobenius}
use Rattle.polys.specs.Top.{Agrees, cut_degree, cut_raised}
use Rattle.polys.proofs.Raised.{frobenius_degree}
use Rattle.polys.proofs.Tops.{agrees_raised, cut_raised_degree, reach_times}
use Rattle.polys.proofs.top.top_power.Goals as goal

pub returns-clause-value : goal.returns-clause-value
returns-clause-value c g h =
    let p = c.args.p in
    let t = c.args.top.now in
    let e = c.in_ok-terms.ensures.value ∙ ap (frobenius p) c.deref.ensures.value in
    let pos : 0 < p = (let r = c.get-modulus.ensures.range.0 in let v = c.get-modulus.ensures.value in omega (arith, r, v)) in
    subst (λ d. Agrees p d c.in_ok-terms.terms.items (frobenius p g)) (sym c.cut_power-cut.ensures.value)
    (subst (λ l. Agrees p (cut_raised p t.cut) l (frobenius p g)) (sym e)
    (agrees_raised p p t.cut t.terms.items g pos c.requires.top.cut h))

pub returns-clause-reach : goal.returns-clause-reach
returns-clause-reach c =
    let p = c.args.p in
    let t = c.args.top.now in
    let e = ap degree_of (c.in_ok-terms.ensures.value ∙ ap (frobenius p) c.deref.ensures.value) ∙ frobenius_degree p t.terms.items in
    let d = ap cut_degree c.cut_power-cut.ensures.value ∙ cut_raised_degree p t.cut in
    reach_times (degree_of t.terms.items) (cut_degree t.cut) (degree_of c.in_ok-terms.terms.items) (cut_degree c.cut_power-cut.result) p e d
