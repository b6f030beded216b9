use Rattle.std.proofs.Common.{◌≡◌, ◌-◌, ◌<◌, ◌++◌, length, take, drop, replicate, ap, sym, subst, ◌∙◌, arith}
use Rattle.std.proofs.lemmas.List.{length-take-le}
use Rattle.digit_space.specs.Model.{IsDigitSpace, IsDigitsOf, times_denominator, value_of, width}
use Rattle.digit_space.proofs.Shifts.{moved_up, no_depth, copied_up, block_fits}
use Rattle.digit_space.proofs.digits.Digits.shift_up.Goals as goal

-- src/digits.rt:178:5
pub returns-then-self-gt0 : goal.returns-then-self-gt0
returns-then-self-gt0 c =
    let g = c.args.self.now in
    let s = subst IsDigitSpace c.self.view_is c.self.invariant.0 in
    let row = c.args.row.now in
    let en : c.len-corners.result ≡ length g.basis = c.len-corners.ensures ∙ ap (λ z. length z.basis) c.self.view_is in
    let deep : 0 < g.depth = subst (λ z. 0 < z.depth) c.self.view_is c.if-self-gt0.true in
    let fits = block_fits g row c.requires deep in
    let lr : length row ≡ width g = c.requires.0 in
    let n = c.len-corners.result in
    let kept = length row - n in
    let part : drop n c.copy_within.new.self ≡ take kept row = copied_up n kept row c.copy_within.new.self c.copy_within.ensures.len (omega arith) c.copy_within.ensures.by_index.0 in
    let zeros : c.fill.new.self ≡ replicate n 0 = c.fill.ensures.after (λ y q. q) ∙ ap (λ k. replicate k 0) (length-take-le n c.copy_within.new.self (let l = c.copy_within.ensures.len in omega arith)) in
    let e : replicate (length g.basis) 0 ++ take (width g - length g.basis) row ≡ c.fill.new.self ++ drop n c.copy_within.new.self =
    ap (λ k. replicate k 0 ++ take (width g - k) row) (sym en)
    ∙ ap (λ k. replicate n 0 ++ take (k - n) row) (sym lr)
    ∙ ap (λ z. replicate n 0 ++ z) (sym part) ∙ ap (λ z. z ++ drop n c.copy_within.new.self) (sym zeros) in
    subst (IsDigitsOf g (times_denominator g (value_of g row))) e (moved_up g s row c.requires deep)

-- src/digits.rt:178:5
pub returns-else-self-gt0 : goal.returns-else-self-gt0
returns-else-self-gt0 c =
    let g = c.args.self.now in
    let s = subst IsDigitSpace c.self.view_is c.self.invariant.0 in
    let none : g.depth ≡ 0 = sym (ap (λ z. z.depth) c.self.view_is) ∙ (let w = c.if-self-gt0.false in omega arith) in
    no_depth g s c.args.row.now c.args.row.now none c.requires.0
