use Rattle.std.proofs.Common.{◌*◌, ◌+◌, ◌%◌, ap, sym, subst, get_or, ◌∙◌, length}
use Rattle.digit_space.specs.Adding.{IsWithin, product_row}
use Rattle.digit_space.proofs.Entries.{corner_added}
use Rattle.digit_space.proofs.multiplying.add_product.Goals as goal

-- src/multiplying.rt:25:1
pub returns-in-Corner-clause-entries : goal.returns-in-Corner-clause-entries
returns-in-Corner-clause-entries c = λ t h.
    let within = subst (IsWithin c.args.prime (length c.args.out.now) c.args.border.now) c.in-Corner.is c.requires.product in
    corner_added c.args.prime c.args.c c.in-Corner.j c.add.result c.args.out.now c.requires.out within c.add.ensures.sum t h
    ∙ ap (λ q. (get_or c.args.out.now t 0 + c.args.c * get_or (product_row c.args.border.now q) t 0) % c.args.prime) (sym c.in-Corner.is)
