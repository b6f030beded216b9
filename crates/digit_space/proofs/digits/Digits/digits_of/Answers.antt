use Rattle.std.proofs.Common.{◌≡◌, ◌+◌, ◌-◌, ◌*◌, [], ◌∷◌, length, drop, replicate, ap, ap₂, sym, subst, ◌∙◌, arith}
use Rattle.std.proofs.lemmas.List.{drop_all, drop_more}
use Rattle.polys.specs.Terms.{IsPoly}
use Rattle.row_space.proofs.Written.{written_whole}
use Rattle.digit_space.specs.Model.{IsDigitSpace, IsDigitsOf, width}
use Rattle.digit_space.proofs.Spaced.{width_small}
use Rattle.digit_space.proofs.TermRows.{poly_drop, first_term, one_term_more, no_width, none_yet}
use Rattle.digit_space.proofs.digits.Digits.digits_of.Goals as goal

pub overflow_mul-entries : goal.overflow_mul-entries
overflow_mul-entries c =
    let g = c.args.self.now in
    let s = subst IsDigitSpace c.self.view_is c.self.invariant.0 in
    let same : c.len.result * c.self.inside.depth ≡ width g = ap₂ (λ n d. n * d) (c.len.ensures ∙ ap (λ z. length z.basis) c.self.view_is) (ap (λ z. z.depth) c.self.view_is) in
    let w = width_small g s in
    omega arith

pub returns-then-entries-eq0 : goal.returns-then-entries-eq0
returns-then-entries-eq0 c =
    let g = c.args.self.now in
    let s = subst IsDigitSpace c.self.view_is c.self.invariant.0 in
    let same : c.len.result * c.self.inside.depth ≡ width g = ap₂ (λ n d. n * d) (c.len.ensures ∙ ap (λ z. length z.basis) c.self.view_is) (ap (λ z. z.depth) c.self.view_is) in
    no_width g s c.args.f.now.terms c.new.result c.requires.poly (sym same ∙ c.if-entries-eq0.true) (ap length c.new.ensures)

pub add_term-requires-clause-some : goal.add_term-requires-clause-some
add_term-requires-clause-some c =
    let g = c.args.self.now in
    let same : c.len.result * c.self.inside.depth ≡ width g = ap₂ (λ n d. n * d) (c.len.ensures ∙ ap (λ z. length z.basis) c.self.view_is) (ap (λ z. z.depth) c.self.view_is) in
    let some = c.if-entries-eq0.false in
    omega arith

pub loop-k-init : goal.loop-k-init
loop-k-init c =
    let g = c.args.self.now in
    let s = subst IsDigitSpace c.self.view_is c.self.invariant.0 in
    let same : c.len.result * c.self.inside.depth ≡ width g = ap₂ (λ n d. n * d) (c.len.ensures ∙ ap (λ z. length z.basis) c.self.view_is) (ap (λ z. z.depth) c.self.view_is) in
    let fs = c.terms-terms.result.now in
    record {
      within = omega arith;
      digits = subst (λ z. IsDigitsOf g z c.in_ok-out.out.items) (sym (drop_all (length fs) fs (omega arith)))
          (subst (IsDigitsOf g []) (sym (c.in_ok-out.ensures ∙ ap (λ n. replicate n 0) same)) (none_yet g s));
    }

pub add_term-requires-clause-term : goal.add_term-requires-clause-term
add_term-requires-clause-term c =
    let g = c.args.self.now in
    let s = subst IsDigitSpace c.self.view_is c.self.invariant.0 in
    let fs = c.terms-terms.result.now in
    let t = c.index-terms-k.result in
    let k = c.loop-k.k - 1 in
    let hf = subst (IsPoly g.curve.prime g.curve.variables) (sym c.terms-terms.ensures.value) c.requires.poly in
    let w = c.loop-k.invariant.within in
    let p = c.loop-k-test.true in
    let whole : drop k fs ≡ t ∷ drop (k + 1) fs = drop_more fs k t (omega arith) ∙ ap (λ z. z ∷ drop (k + 1) fs) (sym c.index-terms-k.is) in
    first_term g s t (drop (k + 1) fs) (subst (IsPoly g.curve.prime g.curve.variables) whole (poly_drop g s k fs hf))

pub loop-k-preserved : goal.loop-k-preserved
loop-k-preserved c =
    let g = c.args.self.now in
    let s = subst IsDigitSpace c.self.view_is c.self.invariant.0 in
    let fs = c.terms-terms.result.now in
    let t = c.index-terms-k.result in
    let k = c.loop-k.k - 1 in
    let hf = subst (IsPoly g.curve.prime g.curve.variables) (sym c.terms-terms.ensures.value) c.requires.poly in
    let w = c.loop-k.invariant.within in
    let p = c.loop-k-test.true in
    let new = c.add_term.new.out in
    let next : c.loop-k.k ≡ k + 1 = omega arith in
    let old : IsDigitsOf g (drop (k + 1) fs) c.as_mut_slice.result.now = subst (IsDigitsOf g (drop (k + 1) fs)) (sym c.as_mut_slice.ensures.value) (subst (λ n. IsDigitsOf g (drop n fs) c.loop-k.out.items) next c.loop-k.invariant.digits) in
    let more = c.in_ok-add_term.ensures (drop (k + 1) fs) (poly_drop g s (k + 1) fs hf) old in
    record {
      within = omega arith;
      digits = subst (IsDigitsOf g (drop k fs)) (sym (written_whole c.loop-k.out.len new c.loop-k.out.items (omega (arith, c.as_mut_slice.ensures.len, c.add_term.auto.out))))
          (one_term_more g s fs k t new hf (omega arith) c.index-terms-k.is more);
    }
