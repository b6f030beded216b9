use Rattle.std.proofs.Common.{◌≡◌, List, length, arith, subst, ◌∙◌}
use Rattle.over_module.specs.Done.{DoneData}
use Rattle.join_book.specs.Book.{IsVacant}
use Rattle.strata_race.proofs.racing.finish.Goals as goal

pub returns : goal.returns
returns g c =
    let rest = c.work_rest.ensures.same in
    let all = c.settle_all.ensures in
    let count : c.args.strata ≡ length c.args.book.points = c.requires.strata.0 in
    record {
      same = record {
        curve = all.same.curve ∙ rest.curve;
        points = all.same.points ∙ rest.points;
        limit = all.same.limit ∙ rest.limit;
      };
      each = λ i some_i most vacant. c.in_ok-work_rest.ensures.worked i some_i (omega (arith, most, count))
          (subst (λ (l : List DoneData). IsVacant l i) all.entries vacant);
      settled = c.in_ok-settle_all.ensures.settled;
    }
