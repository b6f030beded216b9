-- The checked value of an expression is its value exactly where all that it is made of is small.
use Rattle.std.proofs.Common.{◌≡◌, ℕ, List, [], ◌∷◌, ◌++◌, Bool, true, false, cond, ◌&&◌, refl, sym, ap, ◌∙◌, None, Result, Ok, Err, append_assoc}
use Rattle.std.specs.Prelude.{codes, map}
use Rattle.std.specs.Char.{is_ascii_alphabetic}
use Rattle.std.specs.List.{list_all, AllByRecursion}
use Rattle.polys.specs.declared.term.Term.{Term}
use Rattle.polys.specs.Poly.{Polynomial, product_of, sum_of, difference_of}
use Rattle.singular_text.specs.declared.faults.ReadFault.{ReadFault}
use Rattle.singular_text.specs.declared.faults.ReadFault.TheVariants.{Limit}
use Rattle.singular_text.specs.declared.faults.Which.TheVariants.{Size}
use Rattle.problem.specs.Letters.{is_among}
use Rattle.problem_form.specs.Expressions.{Expression, Letter, Number, Parentheses, Run, Power, Product, Signed, Sum, IsFormed, spelling}
use Rattle.singular_text.specs.Values.{value, subexpressions, is_small}
use Rattle.singular_text.specs.Meanings.{has_small_values}
use Rattle.problem_form.specs.ProblemText.{list_spelling}
use Rattle.singular_text.specs.Evaluating.{and_then, checked, sum_with, power_value, evaluate, new_frame}
use Rattle.singular_text.proofs.Evaluates.{checked_value, reads_to_semicolon, reads_to_comma}

-- the polynomial, or the fault of size
abbrev pub where_small : {A : Type 0} → Bool → A → Result A ReadFault
where_small b x = cond b (Ok x) (Err (Limit Size))

all_both : {A : Type 0} (test : A → Bool) (xs ys : List A) → list_all test (xs ++ ys) ≡ (list_all test xs && list_all test ys)
all_both test [] ys = refl
all_both test (x ∷ xs) ys = ap (λ (b : Bool). test x && b) (all_both test xs ys) ∙ turn (test x) (list_all test xs) (list_all test ys)
  where
    turn : (a b c : Bool) → (a && (b && c)) ≡ ((a && b) && c)
    turn true b c = refl
    turn false b c = refl

and_true : (b : Bool) → (b && true) ≡ b
and_true true = refl
and_true false = refl

and_again : (a b : Bool) → (a && (a && b)) ≡ (a && b)
and_again true b = refl
and_again false b = refl

leaf : {A : Type 0} (b : Bool) (x : A) → where_small b x ≡ where_small (b && true) x
leaf b x = ap (λ (c : Bool). where_small c x) (sym (and_true b))

one_part : {A B : Type 0} (r : Result A ReadFault) (h : Bool) (x : A) (g : A → Result B ReadFault) (s : Bool) (y : B) → r ≡ where_small h x → g x ≡ where_small s y
    → and_then r g ≡ where_small (s && h) y
one_part {A} {B} r h x g s y is gives = ap (λ (q : Result A ReadFault). and_then q g) is ∙ by_case h s gives
  where
    by_case : (h s : Bool) → g x ≡ where_small s y → and_then (where_small h x) g ≡ where_small (s && h) y
    by_case true s e = e ∙ leaf s y
    by_case false true e = refl
    by_case false false e = refl

two_parts : {A B C : Type 0} (r : Result A ReadFault) (h : Bool) (x : A) (q : Result B ReadFault) (k : Bool) (y : B) (g : A → B → Result C ReadFault) (s : Bool) (z : C)
    → r ≡ where_small h x → q ≡ where_small k y → g x y ≡ where_small s z → and_then r (λ a. and_then q (λ b. g a b)) ≡ where_small (s && (h && k)) z
two_parts {A} {B} r h x q k y g s z first second gives =
    one_part r h x (λ (a : A). and_then q (λ (b : B). g a b)) (s && k) z first (one_part q k y (g x) s z second gives) ∙ ap (λ (b : Bool). where_small b z) (turn s h k)
  where
    turn : (s h k : Bool) → ((s && k) && h) ≡ (s && (h && k))
    turn true true true = refl
    turn true true false = refl
    turn true false true = refl
    turn true false false = refl
    turn false h k = refl

abbrev pub poly : ℕ → List Term → Polynomial
poly p f = record { prime = p; terms = f }

-- an expression comes first among its own parts
abbrev parts : ℕ → List ℕ → Expression → Bool
parts p letters (Letter x) = true
parts p letters (Number digits) = true
parts p letters (Parentheses inner) = has_small_values p letters inner
parts p letters (Run word) = true
parts p letters (Power base exponent) = has_small_values p letters base
parts p letters (Product term factor) = list_all (λ s. is_small (value p letters s)) (subexpressions term ++ subexpressions factor)
parts p letters (Signed is_negative term) = has_small_values p letters term
parts p letters (Sum earlier is_negative term) = list_all (λ s. is_small (value p letters s)) (subexpressions earlier ++ subexpressions term)

first_of : (p : ℕ) (letters : List ℕ) (e : Expression) → has_small_values p letters e ≡ (is_small (value p letters e) && parts p letters e)
first_of p letters (Letter x) = refl
first_of p letters (Number digits) = refl
first_of p letters (Parentheses inner) = refl
first_of p letters (Run word) = refl
first_of p letters (Power base exponent) = refl
first_of p letters (Product term factor) = refl
first_of p letters (Signed is_negative term) = refl
first_of p letters (Sum earlier is_negative term) = refl

-- what has the value of its part is small where the part is
same_small : (p : ℕ) (letters : List ℕ) (e : Expression) → has_small_values p letters e ≡ (is_small (value p letters e) && has_small_values p letters e)
same_small p letters e =
    first_of p letters e ∙ sym (and_again (is_small (value p letters e)) (parts p letters e))
    ∙ ap (λ (b : Bool). is_small (value p letters e) && b) (sym (first_of p letters e))

pub small_value : (p : ℕ) (letters : List ℕ) (e : Expression) → checked_value p letters e ≡ where_small (has_small_values p letters e) (poly p (value p letters e))
unfolding checked_value
small_value p letters (Letter x) = leaf (is_small (value p letters (Letter x))) (poly p (value p letters (Letter x)))
small_value p letters (Number digits) = leaf (is_small (value p letters (Number digits))) (poly p (value p letters (Number digits)))
small_value p letters (Run word) = leaf (is_small (value p letters (Run word))) (poly p (value p letters (Run word)))
small_value p letters (Parentheses e) = small_value p letters e ∙ ap (λ (b : Bool). where_small b (poly p (value p letters e))) (same_small p letters e)
small_value p letters (Power base exponent) =
    one_part (checked_value p letters base) (has_small_values p letters base) (poly p (value p letters base)) (λ (f : Polynomial). power_value f exponent)
    (is_small (value p letters (Power base exponent))) (poly p (value p letters (Power base exponent))) (small_value p letters base) refl
small_value p letters (Product t f) =
    two_parts (checked_value p letters t) (has_small_values p letters t) (poly p (value p letters t)) (checked_value p letters f) (has_small_values p letters f) (poly p (value p letters f))
    (λ (a b : Polynomial). checked (product_of a b)) (is_small (value p letters (Product t f))) (poly p (value p letters (Product t f))) (small_value p letters t) (small_value p letters f) refl
    ∙ ap (λ (b : Bool). where_small (is_small (value p letters (Product t f)) && b) (poly p (value p letters (Product t f))))
    (sym (all_both (λ (s : Expression). is_small (value p letters s)) (subexpressions t) (subexpressions f)))
small_value p letters (Signed true t) =
    one_part (checked_value p letters t) (has_small_values p letters t) (poly p (value p letters t)) (λ (f : Polynomial). sum_with p None true f)
    (is_small (value p letters (Signed true t))) (poly p (value p letters (Signed true t))) (small_value p letters t) refl
small_value p letters (Signed false t) =
    one_part (checked_value p letters t) (has_small_values p letters t) (poly p (value p letters t)) (λ (f : Polynomial). sum_with p None false f) true (poly p (value p letters t))
    (small_value p letters t) refl
    ∙ ap (λ (b : Bool). where_small b (poly p (value p letters t))) (same_small p letters t)
small_value p letters (Sum e true t) =
    two_parts (checked_value p letters e) (has_small_values p letters e) (poly p (value p letters e)) (checked_value p letters t) (has_small_values p letters t) (poly p (value p letters t))
    (λ (a b : Polynomial). checked (difference_of a b)) (is_small (value p letters (Sum e true t))) (poly p (value p letters (Sum e true t))) (small_value p letters e) (small_value p letters t) refl
    ∙ ap (λ (b : Bool). where_small (is_small (value p letters (Sum e true t)) && b) (poly p (value p letters (Sum e true t))))
    (sym (all_both (λ (s : Expression). is_small (value p letters s)) (subexpressions e) (subexpressions t)))
small_value p letters (Sum e false t) =
    two_parts (checked_value p letters e) (has_small_values p letters e) (poly p (value p letters e)) (checked_value p letters t) (has_small_values p letters t) (poly p (value p letters t))
    (λ (a b : Polynomial). checked (sum_of a b)) (is_small (value p letters (Sum e false t))) (poly p (value p letters (Sum e false t))) (small_value p letters e) (small_value p letters t) refl
    ∙ ap (λ (b : Bool). where_small (is_small (value p letters (Sum e false t)) && b) (poly p (value p letters (Sum e false t))))
    (sym (all_both (λ (s : Expression). is_small (value p letters s)) (subexpressions e) (subexpressions t)))

-- ---- lists

-- the values of a list where all are small
pub list_values : (p : ℕ) (letters : List ℕ) (are_letters : (x : ℕ) → is_among letters x ≡ true → is_ascii_alphabetic x ≡ true) (values : List Polynomial) (e : Expression) (es : List Expression)
    (rest : List (List ℕ)) → AllByRecursion (IsFormed letters) (e ∷ es)
    → evaluate p letters values new_frame [] (list_spelling (e ∷ es) ++ rest)
    ≡ where_small (list_all (has_small_values p letters) (e ∷ es)) (values ++ map (λ x. poly p (value p letters x)) (e ∷ es), rest)
list_values p letters are_letters values e [] rest formed =
    ap (evaluate p letters values new_frame []) (append_assoc (spelling e) (codes ";" ∷ []) rest)
    ∙ reads_to_semicolon p letters values are_letters e rest formed.0
    ∙ one_part (checked_value p letters e) (has_small_values p letters e) (poly p (value p letters e)) (λ (f : Polynomial). Ok (values ++ f ∷ [], rest)) true (values ++ poly p (value p letters e) ∷ [], rest)
    (small_value p letters e) refl
    ∙ leaf (has_small_values p letters e) (values ++ poly p (value p letters e) ∷ [], rest)
list_values p letters are_letters values e (f ∷ es) rest formed =
    ap (evaluate p letters values new_frame []) (append_assoc (spelling e) (codes "," ∷ list_spelling (f ∷ es)) rest)
    ∙ reads_to_comma p letters values are_letters e (list_spelling (f ∷ es) ++ rest) formed.0
    ∙ one_part (checked_value p letters e) (has_small_values p letters e) (poly p (value p letters e))
    (λ (v : Polynomial). evaluate p letters (values ++ v ∷ []) new_frame [] (list_spelling (f ∷ es) ++ rest)) (list_all (has_small_values p letters) (f ∷ es))
    (values ++ map (λ x. poly p (value p letters x)) (e ∷ f ∷ es), rest) (small_value p letters e)
    (
    list_values p letters are_letters (values ++ poly p (value p letters e) ∷ []) f es rest formed.1
    ∙ ap (λ (vs : List Polynomial). where_small (list_all (has_small_values p letters) (f ∷ es)) (vs, rest))
    (append_assoc values (poly p (value p letters e) ∷ []) (map (λ x. poly p (value p letters x)) (f ∷ es)))
    )
    ∙ ap (λ (b : Bool). where_small b (values ++ map (λ x. poly p (value p letters x)) (e ∷ f ∷ es), rest)) (swap (list_all (has_small_values p letters) (f ∷ es)) (has_small_values p letters e))
  where
    swap : (a b : Bool) → (a && b) ≡ (b && a)
    swap true true = refl
    swap true false = refl
    swap false true = refl
    swap false false = refl
