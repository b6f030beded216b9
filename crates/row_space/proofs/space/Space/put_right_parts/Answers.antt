use Rattle.std.proofs.Common.{◌+◌, ◌<◌, ◌≤◌, ◌∷◌, [], drop, get_or, length, arith, refl, ap, sym, subst, ◌∙◌, ⊎_elim}
use Rattle.std.proofs.lemmas.Bool.{cases_lt}
use Rattle.std.proofs.lemmas.List.{get_or_default}
use Rattle.row_space.specs.Subspace.{Joins}
use Rattle.row_space.proofs.RightParts.{HasRightParts, parts_skip, parts_more, parts_all}
use Rattle.row_space.proofs.space.Space.put_right_parts.Goals as goal

pub loop-i-init : goal.loop-i-init
loop-i-init c = record {
  prime = refl;
  width = refl;
  kept = λ j l m. absurd (omega arith);
  parts = λ m h. absurd (omega (arith, ap length c.requires.empty));
}

pub loop-i-preserved : goal.loop-i-preserved
loop-i-preserved c =
    let i = c.loop-i.i in
    let s = c.args.self.now in
    let us = c.args.rows.now in
    let pivots = c.args.pivots.now in
    let row_is = c.as_slice.ensures ∙ c.index-rows-i.is ∙ get_or_default us i c.index-rows-i.result [] c.loop-i-test.true in
    ⊎_elim
    (λ (a : get_or pivots i 0 < c.args.left).
    subst (HasRightParts c.args.left (i + 1) us pivots s) (sym (c.in_ok-put_right_part.ensures.skipped a)) (parts_skip c.args.left us pivots s c.requires.echelon i c.loop-i.self a c.loop-i.invariant))
    (λ (a : c.args.left ≤ get_or pivots i 0).
    parts_more c.args.left us pivots s c.requires.echelon i c.loop-i.self c.put_right_part.new.self c.loop-i-test.true a c.loop-i.invariant
    (subst (λ r. Joins c.loop-i.self (drop c.args.left r ∷ []) c.put_right_part.new.self) row_is (c.in_ok-put_right_part.ensures.joined a)))
    (cases_lt (get_or pivots i 0) c.args.left)

pub returns-clause-members : goal.returns-clause-members
returns-clause-members c = parts_all c.args.left c.args.rows.now c.args.pivots.now c.args.self.now c.requires.echelon c.loop-i.i c.loop-i.self (omega arith) c.loop-i.invariant
