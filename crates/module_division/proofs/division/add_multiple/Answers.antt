use Rattle.std.proofs.Common.{◌≡◌, ◌++◌, map, sym, ap, ◌∙◌, subst}
use Rattle.polys.specs.Terms.{add}
use Rattle.polys.specs.Poly.{IsVector}
use Rattle.polys.proofs.Merge.{add_vector}
use Rattle.module_division.specs.Division.{term_product}
use Rattle.module_division.proofs.Merging.{multiple_vector, product_of_term}
use Rattle.module_division.proofs.division.add_multiple.Goals as goal
use Rattle.module_division.proofs.division.add_multiple.Goals.{In_ok-append_multiple}

-- the multiple in the buffer
made : (c : In_ok-append_multiple) → c.append_multiple.new.out.items ≡ map (term_product c.args.p c.args.t.now) c.args.b.now
made c = c.in_ok-append_multiple.ensures ∙ ap (λ x. x ++ map (term_product c.args.p c.args.t.now) c.args.b.now) c.clear.ensures.items

pub merge_sum-requires-clause-right : goal.merge_sum-requires-clause-right
merge_sum-requires-clause-right c =
    subst (IsVector c.args.p) (sym (c.deref.ensures.value ∙ made (goal.at.merge_sum-requires-clause-right c).In_ok-append_multiple))
    (multiple_vector c.args.p c.args.t.now c.args.b.now c.requires.prime c.requires.not_zero c.requires.residue c.requires.mono c.requires.plain c.requires.room c.requires.right)

pub returns-clause-value : goal.returns-clause-value
returns-clause-value c =
    c.in_ok-merge_sum.ensures ∙ ap (add c.args.p c.args.a.now) (c.deref.ensures.value ∙ made (goal.at.returns-clause-value c).In_ok-append_multiple
    ∙ product_of_term c.args.p c.args.t.now c.args.b.now c.requires.prime c.requires.not_zero c.requires.residue c.requires.right)

pub returns-clause-known : goal.returns-clause-known
returns-clause-known c =
    subst (IsVector c.args.p) (sym c.in_ok-merge_sum.ensures) (add_vector c.args.p c.args.a.now c.deref.result.now c.requires.left
    (subst (IsVector c.args.p) (sym (c.deref.ensures.value ∙ made (goal.at.returns-clause-known c).In_ok-append_multiple))
    (multiple_vector c.args.p c.args.t.now c.args.b.now c.requires.prime c.requires.not_zero c.requires.residue c.requires.mono c.requires.plain c.requires.room c.requires.right)))
