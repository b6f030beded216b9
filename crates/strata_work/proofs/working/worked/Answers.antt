use Rattle.std.proofs.Common.{rules, ◌≡◌, List, length, arith, subst, ◌∙◌}
use Rattle.over_module.specs.Done.{DoneData}
use Rattle.join_book.specs.Answers.{IsOf}
use Rattle.join_book.specs.Book.{IsVacant}
use Rattle.strata_work.proofs.working.worked.Goals as goal

pub returns : goal.returns
returns g c =
    let of : IsOf c.args.curve.value c.args.points c.args.limit c.in_ok-book.book = c.in_ok-book.ensures.same in
    let rest = c.work_rest.ensures.same in
    let all = c.settle_all.ensures in
    let count : c.strata_among-strata.result ≡ length c.args.points = search rules in
    record {
      same = record {
        curve = all.same.curve ∙ (rest.curve ∙ of.curve);
        points = all.same.points ∙ (rest.points ∙ of.points);
        limit = all.same.limit ∙ (rest.limit ∙ of.limit);
      };
      each = λ i some_i most vacant. c.in_ok-work_rest.ensures.worked i some_i (omega (arith, most, count)) (subst (λ (l : List DoneData). IsVacant l i) all.entries vacant);
      settled = c.in_ok-settle_all.ensures.settled;
    }
