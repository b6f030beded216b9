use Rattle.frobenius_split.proofs.FrameLaws.{frame_pushed}
use Rattle.std.proofs.Common.{◌∙◌, ℕ, List, [], get_or, sym, subst}
use Rattle.finite_algebra.specs.Elements.{IsElement, elements, times}
use Rattle.frobenius_split.proofs.frames.offered.Goals as goal

pub returns-clause-frame : goal.returns-clause-frame
returns-clause-frame c =
    let row_is = c.of_vec-copy.ensures ∙ c.in_ok-copy_of.ensures in
    let A = c.args.a.now in
    frame_pushed c.args.a.now c.args.es.now c.args.frame.rows c.in_ok-more.more.rows c.args.frame.numbers c.in_ok-more.more.numbers c.of_vec-copy.result c.args.k
    c.in_ok-more.ensures.rows c.in_ok-more.ensures.numbers (subst (IsElement A) (sym row_is) c.requires.row) c.requires.k
    (subst (λ (r : List ℕ). (elements A).◌≋◌ (times A r (get_or c.args.es.now c.args.k [])) r) (sym row_is) c.requires.inside) c.requires.frame
