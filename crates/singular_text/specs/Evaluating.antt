-- How expressions are evaluated: a step for each token, on what was read since each open parenthesis.
use Rattle.std.specs.Prelude.{ℕ, ◌≡◌, ◌%◌, if◌then◌else◌, Bool, true, false, List, [], ◌∷◌, ◌++◌, Option, None, Some, IfSome, Result, Ok, Err}
use Rattle.monomials.specs.Mono.{unit, variable}
use Rattle.polys.specs.Poly.{Polynomial, sum_of, difference_of, product_of, power_of}
use Rattle.problem.specs.Letters.{place}
use Rattle.problem.specs.Problem.{IsFit}
use Rattle.problem_form.specs.Words.{class_of}
use Rattle.poly_text.specs.Digits.{number}
use Rattle.singular_text.specs.Values.{front_number, run_monomial, term_of, is_small}
use Rattle.problem_form.specs.declared.words.Class.{Class}
use Rattle.problem_form.specs.declared.words.Class.TheVariants as class
use Rattle.singular_text.specs.declared.faults.ReadFault.{ReadFault}
use Rattle.singular_text.specs.declared.faults.ReadFault.TheVariants.{Syntax, Limit, Memory}
use Rattle.singular_text.specs.declared.faults.Which.TheVariants.{Size}
use Rattle.singular_text.specs.declared.evaluation.Frame.{Frame}

-- what a function returned, seen by view, is what evaluation gives, unless memory ran out
abbrev pub IsFault : {Y : Type 0} → ReadFault → Result Y ReadFault → Type 0
IsFault Memory read = Unit {0}
IsFault fault read = read ≡ Err fault

abbrev pub IsReadAs : {X Y : Type 0} → (X → Y) → Result X ReadFault → Result Y ReadFault → Type 0
IsReadAs view (Ok x) read = read ≡ Ok (view x)
IsReadAs view (Err fault) read = IsFault fault read

-- the same of a step, which leaves these frames
abbrev pub IsStepReadAs : Result Frame ReadFault → List Frame → Result (Frame × List Frame) ReadFault → Type 0
IsStepReadAs (Ok frame) frames read = read ≡ Ok (frame, frames)
IsStepReadAs (Err fault) frames read = IsFault fault read

-- the next step of a value, or the fault so far
abbrev pub and_then : {A B : Type 0} → Result A ReadFault → (A → Result B ReadFault) → Result B ReadFault
and_then (Ok x) next = next x
and_then (Err fault) next = Err fault

-- the value, where it is small
abbrev pub checked : Polynomial → Result Polynomial ReadFault
checked f = if is_small f.terms then Ok f else Err (Limit Size)

-- the polynomial 0
abbrev pub zero_poly : ℕ → Polynomial
zero_poly p = record { prime = p; terms = [] }

-- the term that ends with this factor
abbrev pub term_with : Option Polynomial → Polynomial → Result Polynomial ReadFault
term_with None f = Ok f
term_with (Some t) f = checked (product_of t f)

-- the same of a factor that may be missing
abbrev pub last_term : Option Polynomial → Option Polynomial → Result Polynomial ReadFault
last_term product None = Err Syntax
last_term product (Some f) = term_with product f

-- the expression that ends with this term
abbrev pub sum_with : ℕ → Option Polynomial → Bool → Polynomial → Result Polynomial ReadFault
sum_with p None false t = Ok t
sum_with p None true t = checked (difference_of (zero_poly p) t)
sum_with p (Some e) false t = checked (sum_of e t)
sum_with p (Some e) true t = checked (difference_of e t)

-- the whole expression of a frame
unfoldable pub close : ℕ → Frame → Result Polynomial ReadFault
close p frame = and_then (last_term frame.product frame.factor) (sum_with p frame.sum frame.is_negative)

-- behind an open parenthesis or at the start of an expression
abbrev pub new_frame : Frame
new_frame = record { sum = None; is_negative = false; product = None; factor = None; is_raised = false }

-- behind a factor
abbrev pub with_factor : Frame → Polynomial → Frame
with_factor frame f = record frame { factor = Some f; is_raised = false }

-- behind a star
abbrev pub star : Frame → Result Frame ReadFault
star frame = and_then (last_term frame.product frame.factor) (λ t. Ok (record frame { product = Some t; factor = None }))

-- behind a sign
abbrev pub signed_frame : Option Polynomial → Bool → Frame
signed_frame sum is_negative = record { sum = sum; is_negative = is_negative; product = None; factor = None; is_raised = false }

-- a sign ends the expression before it, where there is one
abbrev pub sign_step_by : Option Polynomial → ℕ → Frame → Bool → Result Frame ReadFault
sign_step_by None p frame is_negative = Ok (signed_frame None is_negative)
sign_step_by (Some f) p frame is_negative = and_then (close p frame) (λ e. Ok (signed_frame (Some e) is_negative))

abbrev pub sign_step : ℕ → Frame → Bool → Result Frame ReadFault
sign_step p frame is_negative = sign_step_by frame.factor p frame is_negative

-- the value of a number
abbrev pub constant : ℕ → List ℕ → Result Polynomial ReadFault
constant p digits = checked (record { prime = p; terms = term_of p (number digits % p) unit })

-- the value of a letter
abbrev pub variable_value : ℕ → List ℕ → ℕ → Result Polynomial ReadFault
variable_value p letters x = checked (record { prime = p; terms = term_of p 1 (variable (place letters x)) })

abbrev pub variable_token : ℕ → List ℕ → List ℕ → Result Polynomial ReadFault
variable_token p letters (x ∷ []) = variable_value p letters x
variable_token p letters _ = Err Syntax

-- the value of a run
abbrev pub run_value : ℕ → List ℕ → List ℕ → Result Polynomial ReadFault
run_value p letters word = checked (record { prime = p; terms = term_of p (front_number word % p) (run_monomial letters word) })

-- the power of a value by an exponent
abbrev pub power_value : Polynomial → List ℕ → Result Polynomial ReadFault
power_value base digits = checked (power_of base (number digits))

abbrev pub raised_value : Option Polynomial → List ℕ → Result Polynomial ReadFault
raised_value None digits = Err Syntax
raised_value (Some base) digits = power_value base digits

-- a number is an exponent behind a caret, and a base otherwise
abbrev pub number_value : ℕ → Frame → List ℕ → Result Polynomial ReadFault
number_value p frame digits = if frame.is_raised then raised_value frame.factor digits else constant p digits

abbrev pub number_step : ℕ → Frame → List ℕ → Result Frame ReadFault
number_step p frame digits = and_then (number_value p frame digits) (λ f. Ok (with_factor frame f))

-- a token that leaves the open parentheses as they are
abbrev pub inner_step : ℕ → List ℕ → Class → List ℕ → Frame → Result Frame ReadFault
inner_step p letters class.Caret token frame = Ok (record frame { is_raised = true })
inner_step p letters class.Star token frame = star frame
inner_step p letters class.Plus token frame = sign_step p frame false
inner_step p letters class.Minus token frame = sign_step p frame true
inner_step p letters class.Number token frame = number_step p frame token
inner_step p letters class.Variable token frame = and_then (variable_token p letters token) (λ f. Ok (with_factor frame f))
inner_step p letters class.Run token frame = and_then (run_value p letters token) (λ f. Ok (with_factor frame f))
inner_step p letters _ token frame = Err Syntax

-- the same where a frame stands before them
abbrev pub pop_behind : Frame → Option (List Frame × Frame) → Option (List Frame × Frame)
pop_behind frame None = Some ([], frame)
pop_behind frame (Some found) = Some (frame ∷ found.0, found.1)

-- the last of the outer frames, and those before it
unfoldable pub pop : List Frame → Option (List Frame × Frame)
pop [] = None
pop (frame ∷ frames) = pop_behind frame (pop frames)

-- the frame outside a closing parenthesis, with the value inside as its factor
abbrev pub closed : Option (List Frame × Frame) → Polynomial → Result (Frame × List Frame) ReadFault
closed None f = Err Syntax
closed (Some found) f = Ok (with_factor found.1 f, found.0)

-- a token of an expression, and the frames that it leaves
abbrev pub step : ℕ → List ℕ → Class → List ℕ → Frame → List Frame → Result (Frame × List Frame) ReadFault
step p letters class.Open token frame frames = Ok (new_frame, frames ++ frame ∷ [])
step p letters class.Close token frame frames = and_then (close p frame) (closed (pop frames))
step p letters c token frame frames = and_then (inner_step p letters c token frame) (λ f. Ok (f, frames))

-- at a semicolon, at a comma, and at another token
abbrev pub by_class : {A : Type 0} → Class → A → A → A → A
by_class class.Semicolon last next other = last
by_class class.Comma last next other = next
by_class _ last next other = other

-- the values of the expressions up to a semicolon, behind those that were read, and the tokens behind it
unfoldable pub evaluate : ℕ → List ℕ → List Polynomial → Frame → List Frame → List (List ℕ) → Result (List Polynomial × List (List ℕ)) ReadFault
evaluate p letters values frame frames [] = Err Syntax
evaluate p letters values frame frames (t ∷ ts) =
    by_class (class_of letters t) (and_then (close p frame) (λ f. Ok (values ++ f ∷ [], ts)))
    (and_then (close p frame) (λ f. evaluate p letters (values ++ f ∷ []) new_frame frames ts))
    (and_then (step p letters (class_of letters t) t frame frames) (λ s. evaluate p letters values s.0 s.1 ts))

-- ---- what calls of polynomials need

-- what was read of an expression is fit
pub record IsFitFrame (p n : ℕ) (frame : Frame) : Type 0 where
  pub sum : IfSome frame.sum (IsFit p n)
  pub product : IfSome frame.product (IsFit p n)
  pub factor : IfSome frame.factor (IsFit p n)
