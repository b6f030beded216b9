-- How the statements behind the ring are read for their form and their counts: a step for each token.
use Rattle.std.specs.Prelude.{ℕ, ◌+◌, ◌-◌, ◌≤◌, ◌==◌, ◌&&◌, max, codes, if◌then◌else◌, Bool, true, false, List, [], ◌∷◌, Option, None, Some, option_and_then}
use Rattle.problem_form.specs.Words.{is_name, class_of, digits_in, same_token}
use Rattle.problem_form.specs.declared.words.Class.{Class}
use Rattle.problem_form.specs.declared.words.Class.TheVariants.{Open, Close, Star, Plus, Minus, Comma, Semicolon, Number, Variable, Run}
use Rattle.problem_form.specs.declared.words.Class.TheVariants as class
use Rattle.problem_form.specs.declared.scanning.Place.{Place}
use Rattle.problem_form.specs.declared.scanning.Place.TheVariants.{Start, Operand, Base, Caret, Factor, Between, PolyName, PolyEquals}
use Rattle.problem_form.specs.declared.scanning.Part.{Part}
use Rattle.problem_form.specs.declared.scanning.Part.TheVariants.{Ideal, Poly, At}
use Rattle.problem_form.specs.declared.scanning.Scan.{Scan}

-- behind `ideal`, its name and `=`
abbrev pub first_scan : Scan
first_scan = record {
  place = Start;
  part = Ideal;
  depth = 0;
  nesting = 0;
  digits = 0;
  expressions = 0;
  generators = 0;
  statements = 0;
  longest = 0;
}

-- the number that begins an operand, a variable, a run or an open parenthesis
abbrev pub operand : Class → Scan → Option Scan
operand Open s = Some (record s { place = Start; depth = s.depth + 1; nesting = max s.nesting (s.depth + 1) })
operand Number s = Some (record s { place = Base })
operand Variable s = Some (record s { place = Base })
operand Run s = Some (record s { place = Factor })
operand _ s = None

abbrev pub start : Class → Scan → Option Scan
start Plus s = Some (record s { place = Operand })
start Minus s = Some (record s { place = Operand })
start c s = operand c s

-- a statement ends with one whole expression more
abbrev pub end_statement_of : Part → Scan → Scan
end_statement_of Ideal s = record s { place = Between; generators = s.expressions + 1 }
end_statement_of Poly s = record s { place = Between }
end_statement_of At s = record s { place = Between; longest = max s.longest (s.expressions + 1) }

abbrev pub end_statement : Scan → Scan
end_statement s = end_statement_of s.part s

abbrev pub is_poly : Part → Bool
is_poly Poly = true
is_poly _ = false

-- a comma behind an expression; there is none in the statement of a denominator
abbrev pub end_expression : Scan → Option Scan
end_expression s = if s.depth == 0 then (if is_poly s.part then None else Some (record s { place = Start; expressions = s.expressions + 1 })) else None

abbrev pub after_factor : Class → Scan → Option Scan
after_factor Star s = Some (record s { place = Operand })
after_factor Plus s = Some (record s { place = Operand })
after_factor Minus s = Some (record s { place = Operand })
after_factor Close s = if s.depth == 0 then None else Some (record s { place = Base; depth = s.depth - 1 })
after_factor Comma s = end_expression s
after_factor Semicolon s = if s.depth == 0 then Some (end_statement s) else None
after_factor _ s = None

abbrev pub after_base : Class → Scan → Option Scan
after_base class.Caret s = Some (record s { place = Caret })
after_base c s = after_factor c s

abbrev pub exponent : Class → Scan → Option Scan
exponent Number s = Some (record s { place = Factor })
exponent _ s = None

abbrev pub in_expression_at : Place → Class → Scan → Option Scan
in_expression_at Start c s = start c s
in_expression_at Operand c s = operand c s
in_expression_at Base c s = after_base c s
in_expression_at Caret c s = exponent c s
in_expression_at Factor c s = after_factor c s
in_expression_at _ c s = None

abbrev pub in_expression : Class → Scan → Option Scan
in_expression c s = in_expression_at s.place c s

abbrev pub is_ideal : Part → Bool
is_ideal Ideal = true
is_ideal _ = false

-- `poly` stands behind the ideal alone, `at` behind each statement
abbrev pub next_statement : List ℕ → Scan → Option Scan
next_statement token s =
    if same_token token (codes "at") then Some (record s { place = Start; part = At; expressions = 0; statements = s.statements + 1 })
    else (if same_token token (codes "poly") && is_ideal s.part then Some (record s { place = PolyName; part = Poly; expressions = 0 })
    else None)

-- with the digits of the token counted
abbrev pub counting : List ℕ → Scan → Scan
counting token s = record s { digits = max s.digits (digits_in token) }

abbrev pub poly_name : List ℕ → Scan → Option Scan
poly_name token s = if is_name token then Some (record s { place = PolyEquals }) else None

abbrev pub poly_equals : List ℕ → Scan → Option Scan
poly_equals token s = if same_token token (codes "=") then Some (record s { place = Start }) else None

abbrev pub step_at : List ℕ → Place → Scan → List ℕ → Option Scan
step_at letters Between s token = next_statement token s
step_at letters PolyName s token = poly_name token s
step_at letters PolyEquals s token = poly_equals token s
step_at letters _ s token = in_expression (class_of letters token) (counting token s)

-- the place behind the token, if it may stand here
unfoldable pub step : List ℕ → Scan → List ℕ → Option Scan
step letters s token = step_at letters s.place s token

-- the place behind all tokens
unfoldable pub scan : List ℕ → Scan → List (List ℕ) → Option Scan
scan letters s [] = Some s
scan letters s (t ∷ ts) = option_and_then (λ next. scan letters next ts) (step letters s t)

-- each count is at most one more
pub record Grows (s next : Scan) : Type 0 where
  pub depth : next.depth ≤ s.depth + 1
  pub expressions : next.expressions ≤ s.expressions + 1
  pub statements : next.statements ≤ s.statements + 1
