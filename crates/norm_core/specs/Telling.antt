-- What a run tells of its input.
use Rattle.std.specs.Prelude.{ℕ, ◌≡◌, ◌≢◌, ◌<◌, ◌≤◌, ◌⊎◌, List, length, take, Option, None, Some, Result, Ok, Err}
use Rattle.std.specs.Io.KnownBytes.{Consumes, IsAtEnd, Appends}
use Rattle.polys.specs.declared.term.Term.{Term}
use Rattle.problem.specs.Problem.{ProblemData}
use Rattle.problem_form.specs.ProblemText.{ProblemText, IsTextOf, HasText}
use Rattle.singular_text.specs.Meanings.{first_fault, problem_of}
use Rattle.singular_text.specs.declared.faults.ReadFault.{ReadFault}
use Rattle.singular_text.specs.declared.faults.ReadFault.TheVariants.{Syntax}
use Rattle.jacobian_pick.specs.Choice.{HasProperIdeal, IsChosen, IsCause}
use Rattle.jacobian_pick.specs.declared.choosing.PickStop.{PickStop}
use Rattle.jacobian_pick.specs.declared.choosing.PickStop.TheVariants.{Memory}
use Rattle.norm_core.specs.declared.refusals.Refusal.{Refusal}
use Rattle.norm_core.specs.Refusals.{usage_line, bytes_line, fault_line, fault_status, stop_line, stop_status, status_of}
use Rattle.norm_core.specs.Solved.{IsWithinLimit, IsSolved, IsRefusedByDelta}

-- ---- problems

-- the ideal of the problem is proper, and d is its denominator
pub record HasDenominator (problem : ProblemData) (cap : ℕ) (d : List Term) : Type 0 where
  pub proper : HasProperIdeal problem cap
  pub chosen : IsChosen problem cap d

-- the status and the text that a problem has under the limit of delta: it has no denominator, and this is the cause; delta of
-- some named point is above the limit; or it has an answer
pub data Solves (problem : ProblemData) (cap limit status : ℕ) (text : List ℕ) : Type 0 where
  stopped : (stop : PickStop) → stop ≢ Memory → IsCause problem cap stop → status ≡ stop_status stop → text ≡ stop_line stop
      → Solves problem cap limit status text
  too_large : (d : List Term) → HasDenominator problem cap d → IsRefusedByDelta problem d limit text → status ≡ 10
      → Solves problem cap limit status text
  answered : (d : List Term) → HasDenominator problem cap d → IsSolved problem d limit text → status ≡ 0
      → Solves problem cap limit status text

-- the problem has a denominator, and delta is at most the limit at each named point
abbrev pub IsSolvable : ProblemData → ℕ → ℕ → Type 0
IsSolvable problem cap limit = (d : List Term) × HasDenominator problem cap d × IsWithinLimit problem d limit

-- ---- inputs

-- the most bytes that are read
abbrev pub byte_limit : ℕ
byte_limit = 1048576

-- the status and the text that an input has: it is too long; it is not of the grammar; this is the first that is wrong
-- with its text; or what the problem has that the text states
pub data Tells (cap limit : ℕ) (input : List ℕ) (status : ℕ) (text : List ℕ) : Type 0 where
  too_long : byte_limit < length input → status ≡ 4 → text ≡ bytes_line → Tells cap limit input status text
  no_text : length input ≤ byte_limit → (HasText input → ⊥) → status ≡ 3 → text ≡ fault_line Syntax → Tells cap limit input status text
  faulty : (t : ProblemText) (fault : ReadFault) → length input ≤ byte_limit → IsTextOf input t → first_fault t ≡ Some fault
      → status ≡ fault_status fault → text ≡ fault_line fault → Tells cap limit input status text
  stated : (t : ProblemText) → length input ≤ byte_limit → IsTextOf input t → first_fault t ≡ None
      → Solves (problem_of t) cap limit status text → Tells cap limit input status text

-- the input states a problem within the limits that has a denominator, with delta at most the limit at each named point
pub record HasAnswer (cap limit : ℕ) (input : List ℕ) : Type 0 where
  pub parts : ProblemText
  pub short : length input ≤ byte_limit
  pub text : IsTextOf input parts
  pub sound : first_fault parts ≡ None
  pub solvable : IsSolvable (problem_of parts) cap limit

-- these bytes were taken from the source, to its end unless they are too long, and this is told of them
pub record Told (cap limit : ℕ) (left left_now : Option (List ℕ)) (status : ℕ) (text : List ℕ) : Type 0 where
  pub bytes : List ℕ
  pub taken : Consumes left left_now bytes
  pub ended : length bytes ≤ byte_limit → IsAtEnd left_now
  pub tells : Tells cap limit bytes status text

-- ---- runs

-- what a top call serves of its words: each cap and limit under which they ask for an answer
abbrev pub Service : Type 1
Service = ℕ → ℕ → Type 0

-- this one
abbrev pub OnlyUnder : ℕ → ℕ → Service
OnlyUnder cap limit other_cap other_limit = (other_cap ≡ cap) × (other_limit ≡ limit)

-- they ask for nothing that it serves
abbrev pub AsksNothing : Service → Type 0
AsksNothing serves = (cap limit : ℕ) → serves cap limit → ⊥

-- what is told of the words and of this source, before any fault of the sink
abbrev pub ToTell : Service → Option (List ℕ) → Option (List ℕ) → ℕ → List ℕ → Type 0
ToTell serves left left_now status text =
    (AsksNothing serves × (status ≡ 2) × (text ≡ usage_line)) ⊎ ((cap : ℕ) × (limit : ℕ) × serves cap limit × Told cap limit left left_now status text)

-- the status of a run that neither a fault nor want of memory cut short; the sink gained the text
abbrev pub IsTold : Service → Option (List ℕ) → Option (List ℕ) → Option (List ℕ) → Option (List ℕ) → ℕ → Type 0
IsTold serves left left_now held held_now status = (text : List ℕ) × ToTell serves left left_now status text × Appends held held_now text

-- the sink gained less than the whole of what was to be told
pub record IsCutShort (serves : Service) (left left_now held held_now : Option (List ℕ)) : Type 0 where
  pub status : ℕ
  pub text : List ℕ
  pub written : ℕ
  pub meant : ToTell serves left left_now status text
  pub part : written < length text
  pub gained : Appends held held_now (take written text)

-- the status is that of a fault of the source or the sink, or of want of memory
abbrev pub IsStopped : ℕ → Type 0
IsStopped status = (status ≡ 20) ⊎ (status ≡ 21) ⊎ (status ≡ 30)

-- over a source that tells its bytes, what is told of the whole of them decides the status
abbrev pub IsExact : ℕ → ℕ → Option (List ℕ) → ℕ → Type 0
IsExact cap limit left result =
    (input text : List ℕ) (status : ℕ) → left ≡ Some input → Tells cap limit input status text → (result ≡ status) ⊎ IsStopped result

-- and where the source tells the bytes of an input that has an answer, it is answered
abbrev pub IsComplete : ℕ → ℕ → Option (List ℕ) → ℕ → Type 0
IsComplete cap limit left result = (input : List ℕ) → left ≡ Some input → HasAnswer cap limit input → (result ≡ 0) ⊎ IsStopped result

-- ---- answers before they are written

-- the status of an answer
abbrev pub outcome_status : {T : Type 0} → Result T Refusal → ℕ
outcome_status (Ok text) = 0
outcome_status (Err refusal) = status_of refusal

-- the answer has this status, unless a read failed or memory ran out
abbrev pub HasStatus : {T : Type 0} → Result T Refusal → ℕ → Type 0
HasStatus result status = (outcome_status result ≡ status) ⊎ IsStopped (outcome_status result)
