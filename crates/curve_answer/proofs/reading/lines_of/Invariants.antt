-- The points so far have their lines.
use Rattle.std.proofs.Common.{take}
use Rattle.polys.specs.Curve.{data_of}
use Rattle.curve_answer.specs.Reading.{AreLinesOf}
use Rattle.curve_answer.proofs.reading.lines_of.Given as goal

abbrev pub invariant-loop-place : goal.invariant-loop-place
invariant-loop-place l = AreLinesOf (data_of l.fn.book.curve) l.fn.book.limit (take l.place l.points) l.lines
