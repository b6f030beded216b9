use Rattle.std.proofs.Common.{length, ◌∙◌, subst, sym, ap, Ok}
use Rattle.singular_text.specs.declared.evaluation.Frame.{Frame}
use Rattle.singular_text.specs.Evaluating.{IsFitFrame}
use Rattle.singular_text.proofs.Steps.{close_some, close_none, last_fits, no_more}
use Rattle.singular_text.proofs.evaluation.Ground.step.Goals as goal

pub returns-in-Some-clause-exact : goal.returns-in-Some-clause-exact
returns-in-Some-clause-exact c =
    close_some c.args.self.now.prime c.args.self.now.letters c.args.token.now c.args.class c.args.frame c.in-Some.outer c.args.frames.now.items c.pop.new.self.items c.in_ok-value-in-Close.value
    c.in-Close.is c.in-Some.ensures.items c.in_ok-value-in-Close.ensures.exact
    ∙ ap (λ (f : Frame). Ok (f, c.pop.new.self.items)) (sym c.with_factor.ensures)

pub returns-in-Some-clause-fit : goal.returns-in-Some-clause-fit
returns-in-Some-clause-fit c =
    let p = c.args.self.now.prime in
    let n = length c.args.self.now.letters in
    let outer : IsFitFrame p n c.in-Some.outer = last_fits p n c.pop.new.self.items c.in-Some.outer c.args.frames.now.items c.in-Some.ensures.items c.requires.outer in
    let P : Frame → Type 0 = λ (f : Frame). IsFitFrame p n f in
    subst P (sym c.with_factor.ensures) (record { sum = outer.sum; product = outer.product; factor = c.in_ok-value-in-Close.ensures.fit })

pub returns-in-None-clause-exact : goal.returns-in-None-clause-exact
returns-in-None-clause-exact c =
    close_none c.args.self.now.prime c.args.self.now.letters c.args.token.now c.args.class c.args.frame c.args.frames.now.items c.pop.new.self.items c.in_ok-value-in-Close.value c.in-Close.is
    c.in-None.ensures.items (c.in-None.ensures.rest ∙ no_more c.args.frames.now.items _ c.in-None.ensures.cases.0) c.in_ok-value-in-Close.ensures.exact
