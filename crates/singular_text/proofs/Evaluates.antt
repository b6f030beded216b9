-- The evaluation of the tokens that spell an expression gives its value.
use Rattle.std.proofs.Common.{◌≡◌, ℕ, ◌≤◌, List, [], ◌∷◌, ◌++◌, Bool, true, false, refl, sym, ap, ◌∙◌, arith, append_assoc, Option, Some, None, Result, Ok, Err}
use Rattle.std.specs.Prelude.{codes, IsTrue, ◌≢◌}
use Rattle.std.specs.Char.{is_ascii_alphabetic}
use Rattle.polys.specs.Poly.{Polynomial, product_of}
use Rattle.problem_form.specs.declared.words.Class.{Class}
use Rattle.problem_form.specs.declared.words.Class.TheVariants as class
use Rattle.singular_text.specs.declared.faults.ReadFault.{ReadFault}
use Rattle.singular_text.specs.declared.evaluation.Frame.{Frame}
use Rattle.problem.specs.Letters.{is_among}
use Rattle.problem_form.specs.Words.{is_number, is_run, class_of}
use Rattle.problem_form.specs.Expressions.{Expression, Letter, Number, Parentheses, Run, Power, Product, Signed, Sum, rank, IsFormed, sign, spelling}
use Rattle.singular_text.specs.Evaluating.{and_then, checked, term_with, sum_with, close, new_frame, with_factor, constant, variable_value, run_value, power_value, inner_step, step, closed, evaluate}
use Rattle.problem_form.proofs.Marks.{open_class, close_class, caret_class, star_class, sign_has_class, number_class, run_class, letter_class, semicolon_class, comma_class}
use Rattle.singular_text.proofs.Steps.{pop_end, inner_next, semicolon_next, comma_next}

pub is_true : (b : Bool) → IsTrue b → b ≡ true
is_true b h = h

-- ---- chains of results

pub chain : {A B C : Type 0} (r : Result A ReadFault) (f : A → Result B ReadFault) (g : B → Result C ReadFault) → and_then (and_then r f) g ≡ and_then r (λ x. and_then (f x) g)
chain (Ok x) f g = refl
chain (Err e) f g = refl

pub same_after : {A B : Type 0} (r : Result A ReadFault) (f g : A → Result B ReadFault) → ((x : A) → f x ≡ g x) → and_then r f ≡ and_then r g
same_after (Ok x) f g h = h x
same_after (Err e) f g h = refl

unit_right : {A : Type 0} (r : Result A ReadFault) → and_then r (λ x. Ok x) ≡ r
unit_right (Ok x) = refl
unit_right (Err e) = refl

-- ---- values with their checks

-- the value of an expression, where all that it is made of is small
unfoldable pub checked_value : ℕ → List ℕ → Expression → Result Polynomial ReadFault
checked_value p letters (Letter x) = variable_value p letters x
checked_value p letters (Number digits) = constant p digits
checked_value p letters (Parentheses inner) = checked_value p letters inner
checked_value p letters (Run word) = run_value p letters word
checked_value p letters (Power base exponent) = and_then (checked_value p letters base) (λ f. power_value f exponent)
checked_value p letters (Product term factor) = and_then (checked_value p letters term) (λ t. and_then (checked_value p letters factor) (λ f. checked (product_of t f)))
checked_value p letters (Signed is_negative term) = and_then (checked_value p letters term) (λ t. sum_with p None is_negative t)
checked_value p letters (Sum earlier is_negative term) = and_then (checked_value p letters earlier) (λ e. and_then (checked_value p letters term) (λ t. sum_with p (Some e) is_negative t))

-- the product and the factor behind a term
record Open : Type 0 where
  product : Option Polynomial
  factor : Polynomial

unfoldable open_term : ℕ → List ℕ → Expression → Result Open ReadFault
open_term p letters (Product term factor) =
    and_then (checked_value p letters term) (λ t. and_then (checked_value p letters factor) (λ f. Ok (record { product = Some t; factor = f })))
open_term p letters e = and_then (checked_value p letters e) (λ f. Ok (record { product = None; factor = f }))

abbrev frame_behind : Option Polynomial → Bool → Open → Frame
frame_behind sum is_negative open_one = record { sum = sum; is_negative = is_negative; product = open_one.product; factor = Some open_one.factor; is_raised = false }

-- the sum, the sign and the term behind an expression
record Behind : Type 0 where
  sum : Option Polynomial
  is_negative : Bool
  last : Open

abbrev frame_of : Behind → Frame
frame_of b = frame_behind b.sum b.is_negative b.last

abbrev behind : Option Polynomial → Bool → Open → Behind
behind sum is_negative o = record { sum = sum; is_negative = is_negative; last = o }

unfoldable open_expression : ℕ → List ℕ → Expression → Result Behind ReadFault
open_expression p letters (Signed is_negative term) = and_then (open_term p letters term) (λ o. Ok (behind None is_negative o))
open_expression p letters (Sum earlier is_negative term) =
    and_then (checked_value p letters earlier) (λ e. and_then (open_term p letters term) (λ o. Ok (behind (Some e) is_negative o)))
open_expression p letters e = and_then (open_term p letters e) (λ o. Ok (behind None false o))

-- ---- closing what is open

term_closes : (p : ℕ) (letters : List ℕ) (e : Expression) → and_then (open_term p letters e) (λ o. term_with o.product o.factor) ≡ checked_value p letters e
unfolding open_term checked_value
term_closes p letters (Product term factor) =
    chain (checked_value p letters term) _ _
    ∙ same_after (checked_value p letters term) _ _ (λ t. chain (checked_value p letters factor) _ _)
term_closes p letters (Letter x) = chain (checked_value p letters (Letter x)) _ _ ∙ unit_right (checked_value p letters (Letter x))
term_closes p letters (Number digits) = chain (checked_value p letters (Number digits)) _ _ ∙ unit_right (checked_value p letters (Number digits))
term_closes p letters (Parentheses inner) = chain (checked_value p letters inner) _ _ ∙ unit_right (checked_value p letters inner)
term_closes p letters (Run word) = chain (checked_value p letters (Run word)) _ _ ∙ unit_right (checked_value p letters (Run word))
term_closes p letters (Power base exponent) = chain (checked_value p letters (Power base exponent)) _ _ ∙ unit_right (checked_value p letters (Power base exponent))
term_closes p letters (Signed is_negative term) = chain (checked_value p letters (Signed is_negative term)) _ _ ∙ unit_right (checked_value p letters (Signed is_negative term))
term_closes p letters (Sum earlier is_negative term) = chain (checked_value p letters (Sum earlier is_negative term)) _ _ ∙ unit_right (checked_value p letters (Sum earlier is_negative term))

close_frame : (p : ℕ) (sum : Option Polynomial) (is_negative : Bool) (o : Open) → close p (frame_behind sum is_negative o) ≡ and_then (term_with o.product o.factor) (sum_with p sum is_negative)
unfolding close
close_frame p sum is_negative o = refl

-- a term behind a sum and a sign
closes_behind : (p : ℕ) (letters : List ℕ) (sum : Option Polynomial) (is_negative : Bool) (e : Expression)
    → and_then (and_then (open_term p letters e) (λ o. Ok (behind sum is_negative o))) (λ b. close p (frame_of b)) ≡ and_then (checked_value p letters e) (sum_with p sum is_negative)
closes_behind p letters sum is_negative e =
    chain (open_term p letters e) _ (λ (b : Behind). close p (frame_of b))
    ∙ same_after (open_term p letters e) _ _ (λ o. close_frame p sum is_negative o)
    ∙ sym (chain (open_term p letters e) (λ o. term_with o.product o.factor) (sum_with p sum is_negative))
    ∙ ap (λ (r : Result Polynomial ReadFault). and_then r (sum_with p sum is_negative)) (term_closes p letters e)

expression_closes : (p : ℕ) (letters : List ℕ) (e : Expression) → and_then (open_expression p letters e) (λ b. close p (frame_of b)) ≡ checked_value p letters e
unfolding open_expression checked_value
expression_closes p letters (Signed is_negative term) = closes_behind p letters None is_negative term
expression_closes p letters (Sum earlier is_negative term) =
    chain (checked_value p letters earlier) _ (λ (b : Behind). close p (frame_of b))
    ∙ same_after (checked_value p letters earlier) _ _ (λ e. closes_behind p letters (Some e) is_negative term)
expression_closes p letters (Letter x) = closes_behind p letters None false (Letter x) ∙ unit_right (checked_value p letters (Letter x))
expression_closes p letters (Number digits) = closes_behind p letters None false (Number digits) ∙ unit_right (checked_value p letters (Number digits))
expression_closes p letters (Parentheses inner) = closes_behind p letters None false (Parentheses inner) ∙ unit_right (checked_value p letters (Parentheses inner))
expression_closes p letters (Run word) = closes_behind p letters None false (Run word) ∙ unit_right (checked_value p letters (Run word))
expression_closes p letters (Power base exponent) = closes_behind p letters None false (Power base exponent) ∙ unit_right (checked_value p letters (Power base exponent))
expression_closes p letters (Product term factor) = closes_behind p letters None false (Product term factor) ∙ unit_right (checked_value p letters (Product term factor))

-- ---- reading

module _ (p : ℕ) (letters : List ℕ) (values : List Polynomial) (are_letters : (x : ℕ) → is_among letters x ≡ true → is_ascii_alphabetic x ≡ true) where
  abbrev Answer : Type 0
  Answer = Result (List Polynomial × List (List ℕ)) ReadFault

  abbrev run : Frame → List Frame → List (List ℕ) → Answer
  run frame frames ts = evaluate p letters values frame frames ts

  abbrev waiting : Option Polynomial → Bool → Option Polynomial → Frame
  waiting sum is_negative product = record { sum = sum; is_negative = is_negative; product = product; factor = None; is_raised = false }

  abbrev having : Option Polynomial → Bool → Option Polynomial → Polynomial → Frame
  having sum is_negative product f = record { sum = sum; is_negative = is_negative; product = product; factor = Some f; is_raised = false }

  -- one token inside the parentheses
  inner : (c : Class) (frame : Frame) (frames : List Frame) (t : List ℕ) (ts : List (List ℕ)) → class_of letters t ≡ c → c ≢ class.Semicolon → c ≢ class.Comma
      → step p letters c t frame frames ≡ and_then (inner_step p letters c t frame) (λ f. Ok (f, frames))
      → run frame frames (t ∷ ts) ≡ and_then (inner_step p letters c t frame) (λ f. run f frames ts)
  inner c frame frames t ts is no_semicolon no_comma steps =
      inner_next p letters values frame frames t ts c is no_semicolon no_comma
      ∙ ap (λ (r : Result (Frame × List Frame) ReadFault). and_then r (λ (s : Frame × List Frame). run s.0 s.1 ts)) steps
      ∙ chain (inner_step p letters c t frame) _ _

  read_variable : (frame : Frame) (frames : List Frame) (x : ℕ) (ts : List (List ℕ)) → is_among letters x ≡ true
      → run frame frames ((x ∷ []) ∷ ts) ≡ and_then (variable_value p letters x) (λ f. run (with_factor frame f) frames ts)
  read_variable frame frames x ts among =
      inner class.Variable frame frames (x ∷ []) ts (letter_class letters x (are_letters x among) among) (λ e. cc) (λ e. cc) refl ∙ chain (variable_value p letters x) _ _

  read_run : (frame : Frame) (frames : List Frame) (word : List ℕ) (ts : List (List ℕ)) → is_run letters word ≡ true
      → run frame frames (word ∷ ts) ≡ and_then (run_value p letters word) (λ f. run (with_factor frame f) frames ts)
  read_run frame frames word ts is = inner class.Run frame frames word ts (run_class letters word is) (λ e. cc) (λ e. cc) refl ∙ chain (run_value p letters word) _ _

  read_number : (sum : Option Polynomial) (is_negative : Bool) (product : Option Polynomial) (frames : List Frame) (digits : List ℕ) (ts : List (List ℕ)) → is_number digits ≡ true
      → run (waiting sum is_negative product) frames (digits ∷ ts) ≡ and_then (constant p digits) (λ f. run (having sum is_negative product f) frames ts)
  read_number sum is_negative product frames digits ts is =
      inner class.Number (waiting sum is_negative product) frames digits ts (number_class letters digits is) (λ e. cc) (λ e. cc) refl ∙ chain (constant p digits) _ _

  read_exponent : (sum : Option Polynomial) (is_negative : Bool) (product : Option Polynomial) (f : Polynomial) (frames : List Frame) (digits : List ℕ) (ts : List (List ℕ)) → is_number digits ≡ true
      → run (having sum is_negative product f) frames (codes "^" ∷ digits ∷ ts) ≡ and_then (power_value f digits) (λ g. run (having sum is_negative product g) frames ts)
  read_exponent sum is_negative product f frames digits ts is =
      inner class.Caret (having sum is_negative product f) frames (codes "^") (digits ∷ ts) (caret_class letters) (λ e. cc) (λ e. cc) refl
      ∙ inner class.Number (record (having sum is_negative product f) { is_raised = true }) frames digits ts (number_class letters digits is) (λ e. cc) (λ e. cc) refl
      ∙ chain (power_value f digits) _ _

  read_star : (sum : Option Polynomial) (is_negative : Bool) (o : Open) (frames : List Frame) (ts : List (List ℕ))
      → run (frame_behind sum is_negative o) frames (codes "*" ∷ ts) ≡ and_then (term_with o.product o.factor) (λ t. run (waiting sum is_negative (Some t)) frames ts)
  read_star sum is_negative o frames ts =
      inner class.Star (frame_behind sum is_negative o) frames (codes "*") ts (star_class letters) (λ e. cc) (λ e. cc) refl ∙ chain (term_with o.product o.factor) _ _

  read_first_sign : (is_negative : Bool) (frames : List Frame) (ts : List (List ℕ)) → run new_frame frames (sign is_negative ∷ ts) ≡ run (waiting None is_negative None) frames ts
  read_first_sign true frames ts = inner class.Minus new_frame frames (sign true) ts (sign_has_class letters true) (λ e. cc) (λ e. cc) refl
  read_first_sign false frames ts = inner class.Plus new_frame frames (sign false) ts (sign_has_class letters false) (λ e. cc) (λ e. cc) refl

  read_sign : (b : Behind) (is_negative : Bool) (frames : List Frame) (ts : List (List ℕ))
      → run (frame_of b) frames (sign is_negative ∷ ts) ≡ and_then (close p (frame_of b)) (λ e. run (waiting (Some e) is_negative None) frames ts)
  read_sign b true frames ts = inner class.Minus (frame_of b) frames (sign true) ts (sign_has_class letters true) (λ e. cc) (λ e. cc) refl ∙ chain (close p (frame_of b)) _ _
  read_sign b false frames ts = inner class.Plus (frame_of b) frames (sign false) ts (sign_has_class letters false) (λ e. cc) (λ e. cc) refl ∙ chain (close p (frame_of b)) _ _

  read_open : (frame : Frame) (frames : List Frame) (ts : List (List ℕ)) → run frame frames (codes "(" ∷ ts) ≡ run new_frame (frames ++ frame ∷ []) ts
  read_open frame frames ts = inner_next p letters values frame frames (codes "(") ts class.Open (open_class letters) (λ e. cc) (λ e. cc)

  read_close : (frame outer : Frame) (frames : List Frame) (ts : List (List ℕ))
      → run frame (frames ++ outer ∷ []) (codes ")" ∷ ts) ≡ and_then (close p frame) (λ f. run (with_factor outer f) frames ts)
  read_close frame outer frames ts =
      inner_next p letters values frame (frames ++ outer ∷ []) (codes ")") ts class.Close (close_class letters) (λ e. cc) (λ e. cc)
      ∙ ap (λ (o : Option (List Frame × Frame)). and_then (and_then (close p frame) (closed o)) (λ (s : Frame × List Frame). run s.0 s.1 ts)) (pop_end frames outer)
      ∙ chain (close p frame) _ _

  -- what reading an expression gives, by its kind
  record Reads (e : Expression) : Type 0 where
    factor : rank e ≤ 1 → (sum : Option Polynomial) (is_negative : Bool) (product : Option Polynomial) (frames : List Frame) (rest : List (List ℕ))
        → run (waiting sum is_negative product) frames (spelling e ++ rest) ≡ and_then (checked_value p letters e) (λ f. run (having sum is_negative product f) frames rest)
    term : rank e ≤ 2 → (sum : Option Polynomial) (is_negative : Bool) (frames : List Frame) (rest : List (List ℕ))
        → run (waiting sum is_negative None) frames (spelling e ++ rest) ≡ and_then (open_term p letters e) (λ o. run (frame_behind sum is_negative o) frames rest)
    whole : (frames : List Frame) (rest : List (List ℕ)) → run new_frame frames (spelling e ++ rest) ≡ and_then (open_expression p letters e) (λ b. run (frame_of b) frames rest)

  of_term : (e : Expression)
      → ((h : rank e ≤ 1) (sum : Option Polynomial) (is_negative : Bool) (product : Option Polynomial) (frames : List Frame) (rest : List (List ℕ))
      → run (waiting sum is_negative product) frames (spelling e ++ rest) ≡ and_then (checked_value p letters e) (λ f. run (having sum is_negative product f) frames rest))
      → ((sum : Option Polynomial) (is_negative : Bool) (frames : List Frame) (rest : List (List ℕ))
      → run (waiting sum is_negative None) frames (spelling e ++ rest) ≡ and_then (open_term p letters e) (λ o. run (frame_behind sum is_negative o) frames rest))
      → open_expression p letters e ≡ and_then (open_term p letters e) (λ o. Ok (behind None false o)) → Reads e
  of_term e factor term opens = record {
    factor = factor;
    term = λ h. term;
    whole = λ frames rest.
        term None false frames rest ∙ sym (chain (open_term p letters e) _ _)
        ∙ ap (λ (r : Result Behind ReadFault). and_then r (λ (b : Behind). run (frame_of b) frames rest)) (sym opens);
  }

  of_factor : (e : Expression)
      → ((sum : Option Polynomial) (is_negative : Bool) (product : Option Polynomial) (frames : List Frame) (rest : List (List ℕ))
      → run (waiting sum is_negative product) frames (spelling e ++ rest) ≡ and_then (checked_value p letters e) (λ f. run (having sum is_negative product f) frames rest))
      → open_term p letters e ≡ and_then (checked_value p letters e) (λ f. Ok (record { product = None; factor = f }))
      → open_expression p letters e ≡ and_then (open_term p letters e) (λ o. Ok (behind None false o)) → Reads e
  of_factor e factor opens_term opens =
      of_term e (λ h. factor)
      (λ sum is_negative frames rest.
      factor sum is_negative None frames rest ∙ sym (chain (checked_value p letters e) _ _)
      ∙ ap (λ (r : Result Open ReadFault). and_then r (λ (o : Open). run (frame_behind sum is_negative o) frames rest)) (sym opens_term))
      opens

  reads : (e : Expression) → IsFormed letters e → Reads e
  unfolding checked_value open_term open_expression
  reads (Letter x) formed = of_factor (Letter x) (λ sum is_negative product frames rest. read_variable (waiting sum is_negative product) frames x rest (is_true _ formed)) refl refl
  reads (Number digits) formed = of_factor (Number digits) (λ sum is_negative product frames rest. read_number sum is_negative product frames digits rest (is_true _ formed)) refl refl
  reads (Run word) formed = of_factor (Run word) (λ sum is_negative product frames rest. read_run (waiting sum is_negative product) frames word rest (is_true _ formed)) refl refl
  reads (Parentheses e) formed =
      of_factor (Parentheses e)
      (λ sum is_negative product frames rest.
      ap (λ (ts : List (List ℕ)). run (waiting sum is_negative product) frames (codes "(" ∷ ts)) (append_assoc (spelling e) (codes ")" ∷ []) rest)
      ∙ read_open (waiting sum is_negative product) frames (spelling e ++ (codes ")" ∷ rest))
      ∙ (reads e formed).whole (frames ++ waiting sum is_negative product ∷ []) (codes ")" ∷ rest)
      ∙ same_after (open_expression p letters e) _ _ (λ b. read_close (frame_of b) (waiting sum is_negative product) frames rest)
      ∙ sym (chain (open_expression p letters e) (λ (b : Behind). close p (frame_of b)) _)
      ∙ ap (λ (r : Result Polynomial ReadFault). and_then r (λ (f : Polynomial). run (having sum is_negative product f) frames rest)) (expression_closes p letters e))
      refl refl
  reads (Power base exponent) formed =
      of_factor (Power base exponent)
      (λ sum is_negative product frames rest.
      ap (run (waiting sum is_negative product) frames) (append_assoc (spelling base) (codes "^" ∷ exponent ∷ []) rest)
      ∙ (reads base formed.1).factor (omega (arith, formed.0)) sum is_negative product frames (codes "^" ∷ exponent ∷ rest)
      ∙ same_after (checked_value p letters base) _ _ (λ f. read_exponent sum is_negative product f frames exponent rest (is_true _ formed.2))
      ∙ sym (chain (checked_value p letters base) _ _))
      refl refl
  reads (Product t f) formed =
      of_term (Product t f) (λ h. absurd (omega arith))
      (λ sum is_negative frames rest.
      ap (run (waiting sum is_negative None) frames) (append_assoc (spelling t) (codes "*" ∷ spelling f) rest)
      ∙ (reads t formed.1).term formed.0 sum is_negative frames (codes "*" ∷ (spelling f ++ rest))
      ∙ same_after (open_term p letters t) _ _ (λ o. read_star sum is_negative o frames (spelling f ++ rest))
      ∙ sym (chain (open_term p letters t) (λ (o : Open). term_with o.product o.factor) _)
      ∙ ap (λ (r : Result Polynomial ReadFault). and_then r (λ (a : Polynomial). run (waiting sum is_negative (Some a)) frames (spelling f ++ rest))) (term_closes p letters t)
      ∙ same_after (checked_value p letters t) _ _ (λ a. (reads f formed.3).factor formed.2 sum is_negative (Some a) frames rest)
      ∙ sym (chain (checked_value p letters t) _ _ ∙ same_after (checked_value p letters t) _ _ (λ a. chain (checked_value p letters f) _ _)))
      refl
  reads (Signed is_negative t) formed = record {
    factor = λ h. absurd (omega arith);
    term = λ h. absurd (omega arith);
    whole = λ frames rest.
        read_first_sign is_negative frames (spelling t ++ rest)
        ∙ (reads t formed.1).term formed.0 None is_negative frames rest
        ∙ sym (chain (open_term p letters t) _ _);
  }
  reads (Sum e is_negative t) formed = record {
    factor = λ h. absurd (omega arith);
    term = λ h. absurd (omega arith);
    whole = λ frames rest.
        ap (run new_frame frames) (append_assoc (spelling e) (sign is_negative ∷ spelling t) rest)
        ∙ (reads e formed.0).whole frames (sign is_negative ∷ (spelling t ++ rest))
        ∙ same_after (open_expression p letters e) _ _ (λ b. read_sign b is_negative frames (spelling t ++ rest))
        ∙ sym (chain (open_expression p letters e) (λ (b : Behind). close p (frame_of b)) _)
        ∙ ap (λ (r : Result Polynomial ReadFault). and_then r (λ (v : Polynomial). run (waiting (Some v) is_negative None) frames (spelling t ++ rest))) (expression_closes p letters e)
        ∙ same_after (checked_value p letters e) _ _ (λ v. (reads t formed.2).term formed.1 (Some v) is_negative frames rest)
        ∙ sym (chain (checked_value p letters e) _ _ ∙ same_after (checked_value p letters e) _ _ (λ v. chain (open_term p letters t) _ _));
  }

  -- an expression and the mark that ends it
  pub reads_to_semicolon : (e : Expression) (rest : List (List ℕ)) → IsFormed letters e
      → run new_frame [] (spelling e ++ (codes ";" ∷ rest)) ≡ and_then (checked_value p letters e) (λ f. Ok (values ++ f ∷ [], rest))
  reads_to_semicolon e rest formed =
      (reads e formed).whole [] (codes ";" ∷ rest)
      ∙ same_after (open_expression p letters e) _ _ (λ b. semicolon_next p letters values (frame_of b) [] (codes ";") rest (semicolon_class letters))
      ∙ sym (chain (open_expression p letters e) (λ (b : Behind). close p (frame_of b)) _)
      ∙ ap (λ (r : Result Polynomial ReadFault). and_then r (λ (f : Polynomial). Ok (values ++ f ∷ [], rest))) (expression_closes p letters e)

  pub reads_to_comma : (e : Expression) (rest : List (List ℕ)) → IsFormed letters e
      → run new_frame [] (spelling e ++ (codes "," ∷ rest)) ≡ and_then (checked_value p letters e) (λ f. evaluate p letters (values ++ f ∷ []) new_frame [] rest)
  reads_to_comma e rest formed =
      (reads e formed).whole [] (codes "," ∷ rest)
      ∙ same_after (open_expression p letters e) _ _ (λ b. comma_next p letters values (frame_of b) [] (codes ",") rest (comma_class letters))
      ∙ sym (chain (open_expression p letters e) (λ (b : Behind). close p (frame_of b)) _)
      ∙ ap (λ (r : Result Polynomial ReadFault). and_then r (λ (f : Polynomial). evaluate p letters (values ++ f ∷ []) new_frame [] rest)) (expression_closes p letters e)
