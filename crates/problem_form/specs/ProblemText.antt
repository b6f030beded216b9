-- The grammar of a problem's text.
use Rattle.std.specs.Prelude.{ℕ, ◌≡◌, ◌≢◌, ◌≤◌, max, length, map, codes, Bool, true, false, IsTrue, List, [], ◌∷◌, ◌++◌, Option, None, Some, All, AllPairs, flat_map}
use Rattle.std.specs.List.{AllByRecursion}
use Rattle.problem.specs.Letters.{IsLetter}
use Rattle.problem_form.specs.Tokens.{tokens}
use Rattle.problem_form.specs.Words.{is_name, is_number}
use Rattle.problem_form.specs.Expressions.{Expression, IsFormed, spelling}

-- the statement of a denominator
pub record DenominatorText : Type 0 where
  pub name : List ℕ
  pub expression : Expression

-- the parts of a problem's text
pub record ProblemText : Type 0 where
  pub ring_name : List ℕ
  pub characteristic : List ℕ
  pub is_bare : Bool
  pub letters : List ℕ
  pub ideal_name : List ℕ
  pub generators : List Expression
  pub denominator : Option DenominatorText
  pub at : List (List Expression)

-- letters with a comma between two neighbours and a parenthesis behind the last
abbrev pub closed_letters : List ℕ → List (List ℕ)
closed_letters [] = []
closed_letters (x ∷ []) = (x ∷ []) ∷ codes ")" ∷ []
closed_letters (x ∷ y ∷ letters) = (x ∷ []) ∷ codes "," ∷ closed_letters (y ∷ letters)

-- a single letter may stand without parentheses
abbrev pub letters_spelling : Bool → List ℕ → List (List ℕ)
letters_spelling true letters = map (λ x. x ∷ []) letters
letters_spelling false letters = codes "(" ∷ closed_letters letters

-- expressions with a comma between two neighbours and a semicolon behind the last
abbrev pub list_spelling : List Expression → List (List ℕ)
list_spelling [] = []
list_spelling (e ∷ []) = spelling e ++ (codes ";" ∷ [])
list_spelling (e ∷ f ∷ es) = spelling e ++ (codes "," ∷ list_spelling (f ∷ es))

abbrev pub ring_spelling : ProblemText → List (List ℕ)
ring_spelling t =
    codes "ring" ∷ t.ring_name ∷ codes "=" ∷ t.characteristic ∷ codes "," ∷ (letters_spelling t.is_bare t.letters ++ (codes "," ∷ codes "dp" ∷ codes ";" ∷ []))

abbrev pub ideal_spelling : ProblemText → List (List ℕ)
ideal_spelling t = codes "ideal" ∷ t.ideal_name ∷ codes "=" ∷ list_spelling t.generators

abbrev pub denominator_spelling : Option DenominatorText → List (List ℕ)
denominator_spelling None = []
denominator_spelling (Some d) = codes "poly" ∷ d.name ∷ codes "=" ∷ (spelling d.expression ++ (codes ";" ∷ []))

abbrev pub at_spelling : List (List Expression) → List (List ℕ)
at_spelling [] = []
at_spelling (es ∷ statements) = codes "at" ∷ (list_spelling es ++ at_spelling statements)

-- the tokens of a problem: the ring, the ideal, a denominator or none, and `at` statements
abbrev pub problem_spelling : ProblemText → List (List ℕ)
problem_spelling t = ring_spelling t ++ (ideal_spelling t ++ (denominator_spelling t.denominator ++ at_spelling t.at))

-- one expression or more over the letters
pub record AreExpressions (letters : List ℕ) (es : List Expression) : Type 0 where
  pub some : 1 ≤ length es
  pub formed : AllByRecursion (IsFormed letters) es

abbrev pub IsDenominator : List ℕ → Option DenominatorText → Type 0
IsDenominator letters None = Unit {0}
IsDenominator letters (Some d) = IsTrue (is_name d.name) × IsFormed letters d.expression

-- the parts are of the grammar
pub record IsGrammatical (t : ProblemText) : Type 0 where
  pub ring_name : IsTrue (is_name t.ring_name)
  pub characteristic : IsTrue (is_number t.characteristic)
  pub bare : t.is_bare ≡ true → length t.letters ≡ 1
  pub some : 1 ≤ length t.letters
  pub letters : All IsLetter t.letters
  pub distinct : AllPairs (λ x y. x ≢ y) t.letters
  pub ideal_name : IsTrue (is_name t.ideal_name)
  pub generators : AreExpressions t.letters t.generators
  pub denominator : IsDenominator t.letters t.denominator
  pub at : AllByRecursion (AreExpressions t.letters) t.at

-- the bytes are the text of a problem with these parts
pub record IsTextOf (bytes : List ℕ) (t : ProblemText) : Type 0 where
  pub grammatical : IsGrammatical t
  pub spelled : tokens bytes ≡ problem_spelling t

-- the bytes are the text of some problem
abbrev pub HasText : List ℕ → Type 0
HasText bytes = (t : ProblemText) × IsTextOf bytes t

-- ---- what is counted

abbrev pub denominators : Option DenominatorText → List Expression
denominators None = []
denominators (Some d) = d.expression ∷ []

-- all expressions of the text
abbrev pub expressions : ProblemText → List Expression
expressions t = t.generators ++ (denominators t.denominator ++ flat_map (λ es. es) t.at)

-- the greatest value of f on the list, and 0 on the empty list
abbrev pub greatest : {X : Type 0} → (X → ℕ) → List X → ℕ
greatest f [] = 0
greatest f (x ∷ xs) = max (f x) (greatest f xs)
