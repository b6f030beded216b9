-- Problems on the cusp over F_7 whose `at` statements were tried.
use Rattle.std.specs.Prelude.{List, [], ◌∷◌, None, codes}
use Rattle.polys.specs.declared.term.Term.{Term}
use Rattle.curve_model.specs.Examples.{term_of, cusp, origin}
use Rattle.problem.specs.Problem.{ProblemData}
use Rattle.norm_text.specs.Named.{IsNamed}

-- the cusp, with these statements
abbrev pub cusp_at : List (List (List Term)) → ProblemData
cusp_at statements = record {
  prime = 7;
  letters = codes "xy";
  generators = (term_of 1 3 0 ∷ term_of 6 0 2 ∷ []) ∷ [];
  denominator = None;
  at = statements;
}

-- `at x, y;` names the origin
abbrev pub AtNames : Type 0
AtNames = IsNamed (cusp_at (((term_of 1 1 0 ∷ []) ∷ (term_of 1 0 1 ∷ []) ∷ []) ∷ [])) cusp origin

-- `at x-1;` does not
abbrev pub AtPassesBy : Type 0
AtPassesBy = IsNamed (cusp_at (((term_of 1 1 0 ∷ term_of 6 0 0 ∷ []) ∷ []) ∷ [])) cusp origin → ⊥
