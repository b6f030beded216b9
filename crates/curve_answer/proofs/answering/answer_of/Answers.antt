-- The first point above is told.
use Rattle.std.proofs.Common.{subst}
use Rattle.polys.specs.Curve.{data_of}
use Rattle.curve_answer.specs.Reading.{AreRead}
use Rattle.curve_answer.proofs.OneRing.{IsOneRing}
use Rattle.curve_answer.proofs.Parts.{first-above}
use Rattle.curve_answer.proofs.answering.answer_of.Goals as goal

pub returns-in-Above : goal.returns-in-Above
returns-in-Above c =
    let problem = c.args.problem.now in
    let b = c.args.book.now in
    let l = c.args.lifted.now in
    let keeps = c.sum-known.ensures.known in
    let ring : IsOneRing problem b.curve l = record {
      fit = c.requires.problem.ready;
      bases = c.requires.bases;
      lifted = c.requires.lifted;
      prime = keeps.prime;
      fits = keeps.fit;
    } in
    let read = subst (AreRead (data_of b.curve) b.limit b.points) c.in-Above.is c.in_ok-lines.ensures in
    first-above c.one_ideal_has_one_closure.ensures problem b l keeps ring c.in-Above.point c.requires.named read.0 read.1
