-- The answer has its parts.
use Rattle.std.proofs.Common.{◌∙◌, ap, refl}
use Rattle.polys.specs.Curve.{data_of}
use Rattle.problem.specs.Problem.{problem_data}
use Rattle.norm_text.specs.Answers.{named_number}
use Rattle.curve_answer.proofs.OneRing.{IsOneRing}
use Rattle.curve_answer.proofs.Parts.{HasParts, right, within_all}
use Rattle.curve_answer.proofs.answering.right.Goals as goal

pub closure_at-requires-clause-within : goal.closure_at-requires-clause-within
closure_at-requires-clause-within c = within_all (data_of c.args.book.now.curve) c.args.book.now.limit c.args.book.now.points c.args.lines c.requires.lines

pub returns : goal.returns
returns c =
    let problem = c.args.problem.now in
    let b = c.args.book.now in
    let l = c.args.lifted.now in
    let keeps = c.sum-known.ensures.known in
    let ring : IsOneRing problem b.curve l = record {
      fit = c.requires.problem.ready;
      bases = c.requires.bases;
      lifted = c.requires.lifted;
      prime = keeps.prime;
      fits = keeps.fit;
    } in
    let parts : HasParts problem b l c.args.dimension c.args.lines _ = record {
      keeps = keeps;
      ring = ring;
      named = c.requires.named;
      dimension = c.requires.dimension;
      lines = c.requires.lines;
      prime = refl;
      letters = c.copy_of_letters.ensures;
      denominator = c.in_ok-clone_poly.ensures ∙ c.denominator.ensures;
      same_dimension = refl;
      number = c.named_of-named.ensures ∙ ap (named_number (problem_data problem).at) c.count_of.ensures.count;
      points = c.in_ok-without_zeros.ensures;
      over = c.in_ok-made.ensures.over;
      closure = c.in_ok-made.ensures.closure;
    } in
    right c.one_ideal_has_one_closure.ensures problem b l c.args.dimension c.args.lines _ parts
