use Rattle.std.proofs.Common.{◌≡◌, sym, ◌∙◌}
use Rattle.join_book.proofs.Books.{adds_finished}
use Rattle.join_book.proofs.adding.add_done.Goals as goal

pub returns-in_ok-sum-in-Finished-clause-adds : goal.returns-in_ok-sum-in-Finished-clause-adds
returns-in_ok-sum-in-Finished-clause-adds c =
    adds_finished c.args.sum.now c.args.done.now c.in-Finished.over c.in_ok-sum-in-Finished.field-0 (sym c.verdict.ensures.value ∙ c.in-Finished.is) c.verdict.ensures.known c.requires c.in_ok-sum-in-Finished.ensures.fractions
