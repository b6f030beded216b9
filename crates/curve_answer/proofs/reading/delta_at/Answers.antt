-- The places of the points are small numbers.
use Rattle.std.proofs.Common.{◌≤◌, ◌<◌, length, arith}
use Rattle.curve_answer.proofs.Sums.{few_points}
use Rattle.curve_answer.proofs.reading.delta_at.Goals as goal

pub overflow_cast-place : goal.overflow_cast-place
overflow_cast-place c =
    let few : length c.args.book.now.points ≤ 256 = few_points c.args.book.now c.sum-known.ensures.known in
    let inside : c.args.place < length c.args.book.now.points = c.requires.place in
    omega arith

pub overflow_add-place : goal.overflow_add-place
overflow_add-place c =
    let few : length c.args.book.now.points ≤ 256 = few_points c.args.book.now c.sum-known.ensures.known in
    let inside : c.args.place < length c.args.book.now.points = c.requires.place in
    omega arith
