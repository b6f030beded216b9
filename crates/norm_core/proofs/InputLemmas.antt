-- What an input has, by what was read of it.
use Rattle.std.proofs.Common.{◌≡◌, ◌<◌, ◌≤◌, ◌⊎◌, ℕ, List, ◌++◌, length, refl, sym, ap, ◌∙◌, subst, inl, inr, arith, append-nil, length-append, Some, None}
use Rattle.std.specs.Prelude.{Option, Result, Ok, Err, IfErr}
use native.Mathlib.Nat.{le_trans}
use Rattle.std.specs.Io.KnownBytes.{Consumes, IsAtEnd}
use Rattle.norm_outside.specs.Bytes.{ReadToEnd, TookMore}
use Rattle.singular_text.specs.declared.faults.ReadFault.{ReadFault}
use Rattle.singular_text.specs.declared.faults.ReadFault.TheVariants.{Syntax, Characteristic, Limit, Memory}
use Rattle.problem.specs.declared.problem.Problem.{Problem}
use Rattle.problem.specs.Problem.{problem_data}
use Rattle.problem_form.specs.ProblemText.{ProblemText, IsTextOf, HasText}
use Rattle.singular_text.specs.Meanings.{Answers, IsOfText, first_fault}
use Rattle.norm_core.specs.declared.refusals.Refusal.{Refusal}
use Rattle.norm_core.specs.declared.refusals.Refusal.TheVariants as refusal
use Rattle.norm_core.specs.Refusals.{status_of, line_of, bytes_line}
use Rattle.norm_core.specs.Telling.{IsSolvable, Solves, Tells, too_long, no_text, faulty, stated, HasAnswer, Told, HasStatus, byte_limit}

pub le_not_lt : {a b : ℕ} → a ≤ b → b < a → ⊥
le_not_lt le lt = omega arith

some_not_none : {T : Type 0} {x : T} {o : Option T} → o ≡ Some x → o ≡ None → ⊥
some_not_none e f = cc

-- ---- a text that states no problem

abbrev failed : ReadFault → Result Problem ReadFault
failed fault = Err fault

-- the fault that was answered is told
fault-told : (cap limit : ℕ) (input : List ℕ) (fault : ReadFault) → length input ≤ byte_limit
    → (failed fault ≡ Err Syntax → HasText input → ⊥)
    → (IsOfText (Err fault) → HasText input)
    → ((t : ProblemText) → IsTextOf input t → Answers (Err fault) t)
    → (status_of (refusal.Text fault) ≡ 30) ⊎ Tells cap limit input (status_of (refusal.Text fault)) (line_of (refusal.Text fault))
fault-told cap limit input Syntax short syntax spelled exact = inr (no_text short (syntax refl) refl refl)
fault-told cap limit input Characteristic short syntax spelled exact =
    let text = spelled tt in
    inr (faulty text.0 Characteristic short text.1 (exact text.0 text.1) refl refl)
fault-told cap limit input (Limit which) short syntax spelled exact =
    let text = spelled tt in
    inr (faulty text.0 (Limit which) short text.1 (exact text.0 text.1) refl refl)
fault-told cap limit input Memory short syntax spelled exact = inl refl

pub fault-refused : (cap limit : ℕ) (input : List ℕ) (fault : ReadFault) (r : Result (List ℕ) Refusal) (refused : Refusal) → r ≡ Err refused → refused ≡ refusal.Text fault
    → length input ≤ byte_limit → (failed fault ≡ Err Syntax → HasText input → ⊥) → (IsOfText (Err fault) → HasText input)
    → ((t : ProblemText) → IsTextOf input t → Answers (Err fault) t)
    → IfErr r (λ x. (status_of x ≡ 30) ⊎ Tells cap limit input (status_of x) (line_of x))
fault-refused cap limit input fault r refused is e short syntax spelled exact =
    subst (λ y. IfErr y (λ x. (status_of x ≡ 30) ⊎ Tells cap limit input (status_of x) (line_of x))) (sym (is ∙ ap Err e)) (fault-told cap limit input fault short syntax spelled exact)

-- a fault is one
same_fault : {f g : ReadFault} {o : Option ReadFault} → o ≡ Some f → o ≡ Some g → f ≡ g
same_fault e h = cc

-- a fault of a text is no fault of bytes that are no text
fault_of_text : (cap limit : ℕ) (input : List ℕ) (fault : ReadFault) → (IsOfText (Err fault) → HasText input) → (HasText input → ⊥)
    → HasStatus {T = List ℕ} (Err (refusal.Text fault)) 3
fault_of_text cap limit input Syntax spelled none = inl refl
fault_of_text cap limit input Characteristic spelled none = absurd (none (spelled tt))
fault_of_text cap limit input (Limit which) spelled none = absurd (none (spelled tt))
fault_of_text cap limit input Memory spelled none = inr (inr (inr refl))

-- a text has the fault that was answered
fault_of : (fault f : ReadFault) (t : ProblemText) → Answers (Err fault) t → first_fault t ≡ Some f
    → HasStatus {T = List ℕ} (Err (refusal.Text fault)) (status_of (refusal.Text f))
fault_of Syntax f t a e = inl (ap (λ x. status_of (refusal.Text x)) (same_fault a e))
fault_of Characteristic f t a e = inl (ap (λ x. status_of (refusal.Text x)) (same_fault a e))
fault_of (Limit which) f t a e = inl (ap (λ x. status_of (refusal.Text x)) (same_fault a e))
fault_of Memory f t a e = inr (inr (inr refl))

-- a text with a fault states no problem
fault_of_problem : (fault : ReadFault) (t : ProblemText) (status : ℕ) → Answers (Err fault) t → first_fault t ≡ None
    → HasStatus {T = List ℕ} (Err (refusal.Text fault)) status
fault_of_problem Syntax t status a e = absurd (some_not_none a e)
fault_of_problem Characteristic t status a e = absurd (some_not_none a e)
fault_of_problem (Limit which) t status a e = absurd (some_not_none a e)
fault_of_problem Memory t status a e = inr (inr (inr refl))

-- the status of the fault that was answered is the one that the input has
pub fault-has_status : (cap limit : ℕ) (input : List ℕ) (fault : ReadFault) → length input ≤ byte_limit
    → (IsOfText (Err fault) → HasText input)
    → ((t : ProblemText) → IsTextOf input t → Answers (Err fault) t)
    → (status : ℕ) (text : List ℕ) → Tells cap limit input status text → HasStatus {T = List ℕ} (Err (refusal.Text fault)) status
fault-has_status cap limit input fault short spelled exact status text (too_long long e _) = absurd (le_not_lt short long)
fault-has_status cap limit input fault short spelled exact status text (no_text _ none e _) =
    subst (λ s. HasStatus {T = List ℕ} (Err (refusal.Text fault)) s) (sym e) (fault_of_text cap limit input fault spelled none)
fault-has_status cap limit input fault short spelled exact status text (faulty t f _ is first e _) =
    subst (λ s. HasStatus {T = List ℕ} (Err (refusal.Text fault)) s) (sym e) (fault_of fault f t (exact t is) first)
fault-has_status cap limit input fault short spelled exact status text (stated t _ is none _) = fault_of_problem fault t status (exact t is) none

pub fault-of_answer : (cap limit : ℕ) (input : List ℕ) (fault : ReadFault) → ((t : ProblemText) → IsTextOf input t → Answers (Err fault) t)
    → HasAnswer cap limit input → HasStatus {T = List ℕ} (Err (refusal.Text fault)) 0
fault-of_answer cap limit input fault exact h = fault_of_problem fault h.parts 0 (exact h.parts h.text) h.sound

-- ---- a text that states a problem

-- what the problem has is told of the text
pub problem-told : (cap limit : ℕ) (input : List ℕ) (problem : Problem) (status : ℕ) (text : List ℕ) → length input ≤ byte_limit → HasText input
    → ((t : ProblemText) → IsTextOf input t → Answers (Ok problem) t)
    → Solves (problem_data problem) cap limit status text → Tells cap limit input status text
problem-told cap limit input problem status text short has exact solves =
    let read = exact has.0 has.1 in
    stated has.0 short has.1 read.0 (subst (λ P. Solves P cap limit status text) read.1 solves)

pub problem-refused : (cap limit : ℕ) (input : List ℕ) (problem : Problem) (r : Result (List ℕ) Refusal) → length input ≤ byte_limit → HasText input
    → ((t : ProblemText) → IsTextOf input t → Answers (Ok problem) t)
    → IfErr r (λ x. (status_of x ≡ 30) ⊎ Solves (problem_data problem) cap limit (status_of x) (line_of x))
    → IfErr r (λ x. (status_of x ≡ 30) ⊎ Tells cap limit input (status_of x) (line_of x))
problem-refused cap limit input problem (Ok text) short has exact h = tt
problem-refused cap limit input problem (Err x) short has exact (inl memory) = inl memory
problem-refused cap limit input problem (Err x) short has exact (inr solves) = inr (problem-told cap limit input problem (status_of x) (line_of x) short has exact solves)

-- an answer with the status of the problem has the status of the text
pub problem-has_status : (cap limit : ℕ) (input : List ℕ) (problem : Problem) (result : Result (List ℕ) Refusal) → length input ≤ byte_limit → HasText input
    → ((t : ProblemText) → IsTextOf input t → Answers (Ok problem) t)
    → ((status : ℕ) (text : List ℕ) → Solves (problem_data problem) cap limit status text → HasStatus result status)
    → (status : ℕ) (text : List ℕ) → Tells cap limit input status text → HasStatus result status
problem-has_status cap limit input problem result short has exact solved status text (too_long long e _) = absurd (le_not_lt short long)
problem-has_status cap limit input problem result short has exact solved status text (no_text _ none e _) = absurd (none has)
problem-has_status cap limit input problem result short has exact solved status text (faulty t f _ is first e _) =
    absurd (some_not_none first (exact t is).0)
problem-has_status cap limit input problem result short has exact solved status text (stated t _ is none solves) =
    solved status text (subst (λ P. Solves P cap limit status text) (sym (exact t is).1) solves)

pub problem-of_answer : (cap limit : ℕ) (input : List ℕ) (problem : Problem) (result : Result (List ℕ) Refusal)
    → ((t : ProblemText) → IsTextOf input t → Answers (Ok problem) t)
    → (IsSolvable (problem_data problem) cap limit → HasStatus result 0)
    → HasAnswer cap limit input → HasStatus result 0
problem-of_answer cap limit input problem result exact solved h =
    let same = (exact h.parts h.text).1 in
    solved (subst (λ P. IsSolvable P cap limit) (sym same) h.solvable)

-- ---- from a source

-- bytes taken to the end of an input are all of it
whole : (input : List ℕ) (now : Option (List ℕ)) (bytes : List ℕ) → Consumes (Some input) now bytes → IsAtEnd now → input ≡ bytes
whole input None bytes taken ended = absurd taken
whole input (Some rest) bytes taken ended = taken ∙ ap (λ t. bytes ++ t) ended ∙ append-nil bytes

-- bytes taken are no more than the input
no_more : (input : List ℕ) (now : Option (List ℕ)) (bytes : List ℕ) → Consumes (Some input) now bytes → length bytes ≤ length input
no_more input None bytes taken = absurd taken
no_more input (Some rest) bytes taken = omega (arith, ap (λ t. length t) taken, length-append bytes rest)

pub read-told : (cap limit : ℕ) (left now : Option (List ℕ)) (bytes : List ℕ) (status : ℕ) (text : List ℕ) → ReadToEnd left now bytes
    → Tells cap limit bytes status text → Told cap limit left now status text
read-told cap limit left now bytes status text read tells = record { bytes = bytes; taken = read.gave; ended = λ _. read.ended; tells = tells }

pub read-has_status : (cap limit : ℕ) (left now : Option (List ℕ)) (bytes : List ℕ) (result : Result (List ℕ) Refusal) → ReadToEnd left now bytes
    → ((status : ℕ) (text : List ℕ) → Tells cap limit bytes status text → HasStatus result status)
    → (input text : List ℕ) (status : ℕ) → left ≡ Some input → Tells cap limit input status text → HasStatus result status
read-has_status cap limit left now bytes result read told input text status known tells =
    told status text
    (subst (λ b. Tells cap limit b status text) (whole input now bytes (subst (λ l. Consumes l now bytes) known read.gave) read.ended) tells)

pub read-of_answer : (cap limit : ℕ) (left now : Option (List ℕ)) (bytes : List ℕ) (result : Result (List ℕ) Refusal) → ReadToEnd left now bytes
    → (HasAnswer cap limit bytes → HasStatus result 0) → (input : List ℕ) → left ≡ Some input → HasAnswer cap limit input → HasStatus result 0
read-of_answer cap limit left now bytes result read answered input known h =
    answered (subst (HasAnswer cap limit) (whole input now bytes (subst (λ l. Consumes l now bytes) known read.gave) read.ended) h)

pub long-told : (cap limit : ℕ) (left now : Option (List ℕ)) → TookMore left now byte_limit → Told cap limit left now 4 bytes_line
long-told cap limit left now took =
    record { bytes = took.0; taken = took.1; ended = λ short. absurd (le_not_lt short took.2); tells = too_long took.2 refl refl }

pub long-has_status : (cap limit : ℕ) (left now : Option (List ℕ)) → TookMore left now byte_limit
    → (input text : List ℕ) (status : ℕ) → left ≡ Some input → Tells cap limit input status text → HasStatus {T = List ℕ} (Err refusal.LimitBytes) status
long-has_status cap limit left now took input text status known tells =
    by_telling tells
  where
    within : length took.0 ≤ length input
    within = no_more input now took.0 (subst (λ l. Consumes l now took.0) known took.1)

    not_short : length input ≤ byte_limit → ⊥
    not_short short = le_not_lt (le_trans within short) took.2

    by_telling : Tells cap limit input status text → HasStatus {T = List ℕ} (Err refusal.LimitBytes) status
    by_telling (too_long _ e _) = inl (sym e)
    by_telling (no_text short _ _ _) = absurd (not_short short)
    by_telling (faulty _ _ short _ _ _ _) = absurd (not_short short)
    by_telling (stated _ short _ _ _) = absurd (not_short short)

pub long-of_answer : (cap limit : ℕ) (left now : Option (List ℕ)) → TookMore left now byte_limit
    → (input : List ℕ) → left ≡ Some input → HasAnswer cap limit input → HasStatus {T = List ℕ} (Err refusal.LimitBytes) 0
long-of_answer cap limit left now took input known h =
    absurd (le_not_lt (le_trans (no_more input now took.0 (subst (λ l. Consumes l now took.0) known took.1)) h.short) took.2)
