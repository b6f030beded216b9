use Rattle.std.proofs.Common.{◌≡◌, ◌<◌, length, get_or, ap, sym, subst, ◌∙◌}
use Rattle.std.proofs.lemmas.List.{get_or_default}
use Rattle.std.specs.List.{Contains}
use Rattle.monomials.specs.Mono.{unit, times, variable, total_degree}
use Rattle.digit_space.specs.Model.{IsDigitSpace, corner}
use Rattle.digit_space.proofs.Found.{corner_there, factor_there, factor_before, degree_one}
use Rattle.digit_space.proofs.digits.Digits.parent.Goals as goal

-- src/digits.rt:238:13
pub returns-then-degree-eq0-clause-none : goal.returns-then-degree-eq0-clause-none
returns-then-degree-eq0-clause-none c = λ e.
    let g = c.args.self.now in
    let s = subst IsDigitSpace c.self.view_is c.self.invariant.0 in
    let eb = c.as_slice.ensures ∙ ap (λ z. z.basis) c.self.view_is in
    let same : c.index-as_slice-i.result ≡ corner g c.args.i =
    c.index-as_slice-i.is ∙ get_or_default c.as_slice.result.now c.args.i c.index-as_slice-i.result unit (subst (λ b. c.args.i < length b) (sym eb) c.requires.i) ∙ ap (λ b. get_or b c.args.i unit) eb in
    degree_one g s c.args.i c.requires.i (ap (λ m. total_degree m.exponents) (sym same) ∙ sym c.degree.ensures.value ∙ c.if-degree-eq0.true)

-- src/digits.rt:227:5
pub returns-in-None-clause-none : goal.returns-in-None-clause-none
returns-in-None-clause-none c = λ e.
    let g = c.args.self.now in
    let s = subst IsDigitSpace c.self.view_is c.self.invariant.0 in
    let eb = c.as_slice.ensures ∙ ap (λ z. z.basis) c.self.view_is in
    let same : c.index-as_slice-i.result ≡ corner g c.args.i =
    c.index-as_slice-i.is ∙ get_or_default c.as_slice.result.now c.args.i c.index-as_slice-i.result unit (subst (λ b. c.args.i < length b) (sym eb) c.requires.i) ∙ ap (λ b. get_or b c.args.i unit) eb in
    let f = c.by_variable-found.result in
    let ev = c.deref.ensures ∙ ap (λ z. z.curve) c.self.view_is in
    let there = factor_there g s (corner g c.args.i) f.factor f.variable (corner_there g s c.args.i c.requires.i) (subst (λ z. f.variable < z.variables) ev c.by_variable-found.ensures.among)
    (c.by_variable-found.ensures.product ∙ same) c.by_variable-found.ensures.known in
    absurd (c.in-None.ensures.none e (subst (λ b. Contains b f.factor) (sym (c.as_slice-2.ensures ∙ ap (λ z. z.basis) c.self.view_is)) there))

-- src/digits.rt:227:5
pub returns-in-Some-clause-some : goal.returns-in-Some-clause-some
returns-in-Some-clause-some c =
    let g = c.args.self.now in
    let s = subst IsDigitSpace c.self.view_is c.self.invariant.0 in
    let eb = c.as_slice.ensures ∙ ap (λ z. z.basis) c.self.view_is in
    let eb2 = c.as_slice-2.ensures ∙ ap (λ z. z.basis) c.self.view_is in
    let same : c.index-as_slice-i.result ≡ corner g c.args.i =
    c.index-as_slice-i.is ∙ get_or_default c.as_slice.result.now c.args.i c.index-as_slice-i.result unit (subst (λ b. c.args.i < length b) (sym eb) c.requires.i) ∙ ap (λ b. get_or b c.args.i unit) eb in
    let f = c.by_variable-found.result in
    let ev = c.deref.ensures ∙ ap (λ z. z.curve) c.self.view_is in
    let lv : f.variable < g.curve.variables = subst (λ z. f.variable < z.variables) ev c.by_variable-found.ensures.among in
    let j = c.in-Some.corner in
    let lj : j < length g.basis = subst (λ b. j < length b) eb2 c.in-Some.ensures.some.0 in
    let fj : corner g j ≡ f.factor = ap (λ b. get_or b j unit) (sym eb2) ∙ c.in-Some.ensures.some.1 in
    let whole : times (corner g j) (variable f.variable) ≡ corner g c.args.i = ap (λ w. times w (variable f.variable)) fj ∙ c.by_variable-found.ensures.product ∙ same in
    (lv, factor_before g s c.args.i j f.variable c.requires.i lj lv whole, whole)
