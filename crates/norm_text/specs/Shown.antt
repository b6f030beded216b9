-- The plain data of an answer of the program.
use Rattle.std.specs.Prelude.{map}
use Rattle.curve_model.specs.Point.{basis_of}
use Rattle.norm_text.specs.declared.answer.Answer.{Answer}
use Rattle.norm_text.specs.declared.answer.PointLine.{PointLine}
use Rattle.norm_text.specs.Answer.{PointData, AnswerData}

abbrev pub point_of : PointLine → PointData
point_of line = record { basis = basis_of line.point; degree = line.point.degree; delta = line.delta }

abbrev pub data_of : Answer → AnswerData
data_of a = record {
  prime = a.prime;
  letters = a.letters;
  denominator = a.denominator.terms;
  dimension = a.dimension;
  named = a.named;
  points = map point_of a.points;
  power = a.power;
  numerators = map (λ f. f.terms) a.numerators;
}
