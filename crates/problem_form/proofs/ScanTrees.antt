-- What a scan takes as an expression is spelled by a tree.
use Rattle.std.proofs.Common.{◌≡◌, ℕ, ◌+◌, ◌-◌, ◌≤◌, List, [], ◌∷◌, ◌++◌, Bool, true, false, cond, ◌==◌, length, refl, sym, ap, ◌∙◌, subst, arith, append_assoc, append-nil, Option, Some, None, inl, inr}
use Rattle.std.specs.Prelude.{codes, option_and_then, ◌⊎◌}
use Rattle.std.proofs.lemmas.Bool.Decides.{nat_tests}
use Rattle.problem_form.specs.declared.words.Class.{Class}
use Rattle.problem_form.specs.declared.words.Class.TheVariants as class
use Rattle.problem_form.specs.declared.scanning.Place.{Place}
use Rattle.problem_form.specs.declared.scanning.Place.TheVariants.{Start, Operand, Base, Caret, Factor, Between, PolyName, PolyEquals}
use Rattle.problem_form.specs.declared.scanning.Scan.{Scan}
use Rattle.problem_form.specs.Words.{class_of}
use Rattle.problem_form.specs.Expressions.{Expression, Letter, Number, Parentheses, Run, Power, Product, Signed, Sum, rank, IsFormed, sign, spelling}
use Rattle.problem_form.specs.Scanning.{scan, step, step_at, in_expression_at, counting, after_base, after_factor, operand, start, exponent}
use Rattle.problem_form.proofs.TokensOf.{IsOf, is_of}
use Rattle.problem_form.proofs.ScanReads.{IsInside}

-- ---- what stands before the factor that is read

-- before the term: nothing, a first sign, or an expression and a sign
data Before : Type 0 where
  Nothing : Before
  Lead : (is_negative : Bool) → Before
  Behind : (earlier : Expression) → (is_negative : Bool) → Before

-- and the term up to the last star
record Frame : Type 0 where
  before : Before
  product : Option Expression

abbrev before_tokens : Before → List (List ℕ)
before_tokens Nothing = []
before_tokens (Lead is_negative) = sign is_negative ∷ []
before_tokens (Behind earlier is_negative) = spelling earlier ++ (sign is_negative ∷ [])

abbrev product_tokens : Option Expression → List (List ℕ)
product_tokens None = []
product_tokens (Some t) = spelling t ++ (codes "*" ∷ [])

abbrev front : Frame → List (List ℕ)
front g = before_tokens g.before ++ product_tokens g.product

abbrev outer_front : List Frame → List (List ℕ)
outer_front [] = []
outer_front (g ∷ outer) = outer_front outer ++ (front g ++ (codes "(" ∷ []))

-- the term and the expression that a factor ends
abbrev term_with : Option Expression → Expression → Expression
term_with None f = f
term_with (Some t) f = Product t f

abbrev sum_with : Before → Expression → Expression
sum_with Nothing t = t
sum_with (Lead is_negative) t = Signed is_negative t
sum_with (Behind earlier is_negative) t = Sum earlier is_negative t

abbrev ended : Frame → Expression → Expression
ended g f = sum_with g.before (term_with g.product f)

term_spelled : (product : Option Expression) (f : Expression) → spelling (term_with product f) ≡ product_tokens product ++ spelling f
term_spelled None f = refl
term_spelled (Some t) f = sym (append_assoc (spelling t) (codes "*" ∷ []) (spelling f))

sum_spelled : (before : Before) (t : Expression) → spelling (sum_with before t) ≡ before_tokens before ++ spelling t
sum_spelled Nothing t = refl
sum_spelled (Lead is_negative) t = refl
sum_spelled (Behind earlier is_negative) t = sym (append_assoc (spelling earlier) (sign is_negative ∷ []) (spelling t))

ended_spelled : (g : Frame) (f : Expression) → spelling (ended g f) ≡ front g ++ spelling f
ended_spelled g f =
    sum_spelled g.before (term_with g.product f) ∙ ap (λ (ts : List (List ℕ)). before_tokens g.before ++ ts) (term_spelled g.product f)
    ∙ sym (append_assoc (before_tokens g.before) (product_tokens g.product) (spelling f))

-- ---- the parts are of the grammar

module _ (letters : List ℕ) where
  abbrev IsFormedBefore : Before → Type 0
  IsFormedBefore Nothing = Unit {0}
  IsFormedBefore (Lead is_negative) = Unit {0}
  IsFormedBefore (Behind earlier is_negative) = IsFormed letters earlier

  abbrev IsFormedProduct : Option Expression → Type 0
  IsFormedProduct None = Unit {0}
  IsFormedProduct (Some t) = (rank t ≤ 2) × IsFormed letters t

  record IsFormedFrame (g : Frame) : Type 0 where
    before : IsFormedBefore g.before
    product : IsFormedProduct g.product

  abbrev AreFormed : List Frame → Type 0
  AreFormed [] = Unit {0}
  AreFormed (g ∷ outer) = IsFormedFrame g × AreFormed outer

  record IsFactor (f : Expression) : Type 0 where
    rank : rank f ≤ 1
    formed : IsFormed letters f

  term_formed : (product : Option Expression) (f : Expression) → IsFormedProduct product → IsFactor f → (rank (term_with product f) ≤ 2) × IsFormed letters (term_with product f)
  term_formed None f h factor = (omega (arith, factor.rank), factor.formed)
  term_formed (Some t) f h factor = (omega arith, (h.0, h.1, factor.rank, factor.formed))

  ended_formed : (g : Frame) (f : Expression) → IsFormedFrame g → IsFactor f → IsFormed letters (ended g f)
  ended_formed g f h factor = by_case g.before h.before (term_formed g.product f h.product factor)
    where
      by_case : (before : Before) → IsFormedBefore before → (rank (term_with g.product f) ≤ 2) × IsFormed letters (term_with g.product f) → IsFormed letters (sum_with before (term_with g.product f))
      by_case Nothing b t = t.1
      by_case (Lead is_negative) b t = t
      by_case (Behind earlier is_negative) b t = (b, t.0, t.1)

closed : (a b c : List (List ℕ)) → a ++ (b ++ (codes "(" ∷ (c ++ (codes ")" ∷ [])))) ≡ ((a ++ (b ++ (codes "(" ∷ []))) ++ c) ++ (codes ")" ∷ [])
closed a b c =
    sym
    (
    append_assoc (a ++ (b ++ (codes "(" ∷ []))) c (codes ")" ∷ []) ∙ append_assoc a (b ++ (codes "(" ∷ [])) (c ++ (codes ")" ∷ []))
    ∙ ap (λ (xs : List (List ℕ)). a ++ xs) (append_assoc b (codes "(" ∷ []) (c ++ (codes ")" ∷ [])))
    )

-- ---- reading token by token

some_same : (a b : Scan) → Some a ≡ Some b → a ≡ b
some_same a b h = cc

module _ (letters : List ℕ) where
  -- what is known at a place of the frame and the last factor
  abbrev Holds : Place → Frame → Expression → Type 0
  Holds Start g f = (g.before ≡ Nothing) × (g.product ≡ None)
  Holds Operand g f = Unit {0}
  Holds Base g f = (rank f ≡ 0) × IsFormed letters f
  Holds Caret g f = (rank f ≡ 0) × IsFormed letters f
  Holds Factor g f = IsFactor letters f
  Holds _ g f = ⊥

  abbrev tail_tokens : Place → Expression → List (List ℕ)
  tail_tokens Base f = spelling f
  tail_tokens Caret f = spelling f ++ (codes "^" ∷ [])
  tail_tokens Factor f = spelling f
  tail_tokens _ f = []

  -- all tokens of the expression up to here
  abbrev so_far : Place → List Frame → Frame → Expression → List (List ℕ)
  so_far place outer g f = outer_front outer ++ (front g ++ tail_tokens place f)

  -- these tokens begin with an expression and the mark that ends it
  pub record Found (ts : List (List ℕ)) : Type 0 where
    pub tree : Expression
    pub mark : List ℕ
    pub rest : List (List ℕ)
    pub spelled : ts ≡ spelling tree ++ (mark ∷ rest)
    pub formed : IsFormed letters tree
    pub ends : (mark ≡ codes ",") ⊎ (mark ≡ codes ";")

  found_behind : (pre now : List (List ℕ)) (t : List ℕ) (ts : List (List ℕ)) → now ≡ pre ++ (t ∷ []) → Found (now ++ ts) → Found (pre ++ (t ∷ ts))
  found_behind pre now t ts is found =
      record {
        tree = found.tree;
        mark = found.mark;
        rest = found.rest;
        spelled = sym (ap (λ (xs : List (List ℕ)). xs ++ ts) is ∙ append_assoc pre (t ∷ []) ts) ∙ found.spelled;
        formed = found.formed;
        ends = found.ends;
      }

  abbrev More : List (List ℕ) → Scan → Type 0
  More ts final = (s : Scan) (place : Place) (outer : List Frame) (g : Frame) (f : Expression) → s.place ≡ place → s.depth ≡ length outer → IsFormedFrame letters g → AreFormed letters outer
      → Holds place g f → scan letters s ts ≡ Some final → Found (so_far place outer g f ++ ts)

  -- one token more inside the same parentheses
  on : (ts : List (List ℕ)) (final s next : Scan) (t : List ℕ) (place now : Place) (outer : List Frame) (g h : Frame) (f e : Expression) → More ts final → next.place ≡ now
      → s.depth ≡ length outer → next.depth ≡ s.depth → IsFormedFrame letters h → AreFormed letters outer → Holds now h e
      → scan letters next ts ≡ Some final → front h ++ tail_tokens now e ≡ (front g ++ tail_tokens place f) ++ (t ∷ []) → Found (so_far place outer g f ++ (t ∷ ts))
  on ts final s next t place now outer g h f e more is_now deep same formed outer_formed holds run fronts =
      found_behind (outer_front outer ++ (front g ++ tail_tokens place f)) (outer_front outer ++ (front h ++ tail_tokens now e)) t ts
      (ap (λ (xs : List (List ℕ)). outer_front outer ++ xs) fronts ∙ sym (append_assoc (outer_front outer) (front g ++ tail_tokens place f) (t ∷ [])))
      (more next now outer h e is_now (same ∙ deep) formed outer_formed holds run)

module _ (letters : List ℕ) (ts : List (List ℕ)) (final s next : Scan) (t : List ℕ) (outer : List Frame) (g : Frame) (f : Expression) (more : More letters ts final)
    (deep : s.depth ≡ length outer) (formed : IsFormedFrame letters g) (outer_formed : AreFormed letters outer) (run : scan letters next ts ≡ Some final) where
  abbrev Goal : Place → Type 0
  Goal place = Found letters (so_far letters place outer g f ++ (t ∷ ts))

  no_tail : (place : Place) (e : List (List ℕ)) → tail_tokens letters place f ≡ [] → e ≡ t ∷ [] → front g ++ e ≡ (front g ++ tail_tokens letters place f) ++ (t ∷ [])
  no_tail place e none is = ap (λ (xs : List (List ℕ)). front g ++ xs) is ∙ sym (ap (λ (xs : List (List ℕ)). (front g ++ xs) ++ (t ∷ [])) none ∙ ap (λ (xs : List (List ℕ)). xs ++ (t ∷ [])) (append-nil (front g)))

  operand_case : (place : Place) → tail_tokens letters place f ≡ [] → (c : Class) → IsOf letters c t → operand c (counting t s) ≡ Some next → Goal place
  operand_case place none class.Open is moves =
      let here = some_same _ next moves in
      found_behind letters (so_far letters place outer g f) (so_far letters Start (g ∷ outer) (record { before = Nothing; product = None }) f) t ts
      (append-nil (outer_front outer ++ (front g ++ (codes "(" ∷ [])))
      ∙ ap (λ (xs : List (List ℕ)). outer_front outer ++ xs) (no_tail place (codes "(" ∷ []) none (ap (λ (x : List ℕ). x ∷ []) (sym is)))
      ∙ sym (append_assoc (outer_front outer) (front g ++ tail_tokens letters place f) (t ∷ [])))
      (more next Start (g ∷ outer) (record { before = Nothing; product = None }) f (ap (λ (z : Scan). z.place) (sym here))
      (ap (λ (z : Scan). z.depth) (sym here) ∙ ap (λ (n : ℕ). n + 1) deep ∙ omega arith) (record { before = tt; product = tt }) (formed, outer_formed) (refl, refl) run)
  operand_case place none class.Number is moves =
      let here = some_same _ next moves in
      on letters ts final s next t place Base outer g g f (Number t) more (ap (λ (z : Scan). z.place) (sym here)) deep (ap (λ (z : Scan). z.depth) (sym here)) formed outer_formed (refl, is) run
      (no_tail place (t ∷ []) none refl)
  operand_case place none class.Variable is moves =
      let here = some_same _ next moves in
      on letters ts final s next t place Base outer g g f (Letter is.0) more (ap (λ (z : Scan). z.place) (sym here)) deep (ap (λ (z : Scan). z.depth) (sym here)) formed outer_formed (refl, is.2) run
      (no_tail place ((is.0 ∷ []) ∷ []) none (ap (λ (x : List ℕ). x ∷ []) (sym is.1)))
  operand_case place none class.Run is moves =
      let here = some_same _ next moves in
      on letters ts final s next t place Factor outer g g f (Run t) more (ap (λ (z : Scan). z.place) (sym here)) deep (ap (λ (z : Scan). z.depth) (sym here)) formed outer_formed
      (record { rank = omega arith; formed = is }) run (no_tail place (t ∷ []) none refl)
  operand_case place none class.Close is moves = absurd (cc)
  operand_case place none class.Caret is moves = absurd (cc)
  operand_case place none class.Star is moves = absurd (cc)
  operand_case place none class.Plus is moves = absurd (cc)
  operand_case place none class.Minus is moves = absurd (cc)
  operand_case place none class.Comma is moves = absurd (cc)
  operand_case place none class.Semicolon is moves = absurd (cc)
  operand_case place none class.Other is moves = absurd (cc)

  sign_first : (is_negative : Bool) → g.before ≡ Nothing → g.product ≡ None → t ≡ sign is_negative → Some (record (counting t s) { place = Operand }) ≡ Some next → Goal Start
  sign_first is_negative no_before no_product is moves =
      let here = some_same _ next moves in
      on letters ts final s next t Start Operand outer g (record { before = Lead is_negative; product = None }) f f more (ap (λ (z : Scan). z.place) (sym here)) deep (ap (λ (z : Scan). z.depth) (sym here))
      (record { before = tt; product = tt }) outer_formed tt run
      (sym (ap (λ (x : List ℕ). x ∷ []) is) ∙ sym (λ i. ((before_tokens (no_before i) ++ product_tokens (no_product i)) ++ []) ++ (t ∷ [])))

  start_case : Holds letters Start g f → (c : Class) → IsOf letters c t → start c (counting t s) ≡ Some next → Goal Start
  start_case holds class.Plus is moves = sign_first false holds.0 holds.1 is moves
  start_case holds class.Minus is moves = sign_first true holds.0 holds.1 is moves
  start_case holds class.Open is moves = operand_case Start refl class.Open is moves
  start_case holds class.Close is moves = operand_case Start refl class.Close is moves
  start_case holds class.Caret is moves = operand_case Start refl class.Caret is moves
  start_case holds class.Star is moves = operand_case Start refl class.Star is moves
  start_case holds class.Number is moves = operand_case Start refl class.Number is moves
  start_case holds class.Variable is moves = operand_case Start refl class.Variable is moves
  start_case holds class.Run is moves = operand_case Start refl class.Run is moves
  start_case holds class.Comma is moves = operand_case Start refl class.Comma is moves
  start_case holds class.Semicolon is moves = operand_case Start refl class.Semicolon is moves
  start_case holds class.Other is moves = operand_case Start refl class.Other is moves

  -- behind a factor
  behind_spelled : (place : Place) → tail_tokens letters place f ≡ spelling f → front g ++ tail_tokens letters place f ≡ spelling (ended g f)
  behind_spelled place tail = ap (λ (xs : List (List ℕ)). front g ++ xs) tail ∙ sym (ended_spelled g f)

  star_case : (place : Place) → IsFactor letters f → tail_tokens letters place f ≡ spelling f → t ≡ codes "*" → Some (record (counting t s) { place = Operand }) ≡ Some next → Goal place
  star_case place factor tail is moves =
      let here = some_same _ next moves in
      on letters ts final s next t place Operand outer g (record { before = g.before; product = Some (term_with g.product f) }) f f more (ap (λ (z : Scan). z.place) (sym here)) deep
      (ap (λ (z : Scan). z.depth) (sym here)) (record { before = formed.before; product = term_formed letters g.product f formed.product factor }) outer_formed tt run
      (append-nil (before_tokens g.before ++ (spelling (term_with g.product f) ++ (codes "*" ∷ [])))
      ∙ ap (λ (xs : List (List ℕ)). before_tokens g.before ++ (xs ++ (codes "*" ∷ []))) (term_spelled g.product f)
      ∙ ap (λ (x : List ℕ). before_tokens g.before ++ ((product_tokens g.product ++ spelling f) ++ (x ∷ []))) (sym is)
      ∙ sym (append_assoc (before_tokens g.before) (product_tokens g.product ++ spelling f) (t ∷ []))
      ∙ ap (λ (xs : List (List ℕ)). xs ++ (t ∷ [])) (sym (append_assoc (before_tokens g.before) (product_tokens g.product) (spelling f)))
      ∙ ap (λ (xs : List (List ℕ)). (front g ++ xs) ++ (t ∷ [])) (sym tail))

  sign_case : (place : Place) (is_negative : Bool) → IsFactor letters f → tail_tokens letters place f ≡ spelling f → t ≡ sign is_negative → Some (record (counting t s) { place = Operand }) ≡ Some next
      → Goal place
  sign_case place is_negative factor tail is moves =
      let here = some_same _ next moves in
      on letters ts final s next t place Operand outer g (record { before = Behind (ended g f) is_negative; product = None }) f f more (ap (λ (z : Scan). z.place) (sym here)) deep
      (ap (λ (z : Scan). z.depth) (sym here)) (record { before = ended_formed letters g f formed factor; product = tt }) outer_formed tt run
      (append-nil ((spelling (ended g f) ++ (sign is_negative ∷ [])) ++ []) ∙ append-nil (spelling (ended g f) ++ (sign is_negative ∷ []))
      ∙ sym (λ i. behind_spelled place tail i ++ (is i ∷ [])))

  close_case : (place : Place) → IsFactor letters f → tail_tokens letters place f ≡ spelling f → t ≡ codes ")"
      → cond (s.depth == 0) None (Some (record (counting t s) { place = Base; depth = s.depth - 1 })) ≡ Some next → Goal place
  close_case place factor tail is moves = by_outer outer deep outer_formed
    where
      by_outer : (os : List Frame) → s.depth ≡ length os → AreFormed letters os → Found letters (so_far letters place os g f ++ (t ∷ ts))
      by_outer [] none os_formed = let e : (s.depth == 0) ≡ true = grind (arith, nat_tests) in
          let bad : None ≡ Some next = ap (λ (b : Bool). cond b None (Some (record (counting t s) { place = Base; depth = s.depth - 1 }))) (sym e) ∙ moves in absurd (cc)
      by_outer (h ∷ os) some os_formed =
          let e : (s.depth == 0) ≡ false = grind (arith, nat_tests) in
          let here = some_same _ next (ap (λ (b : Bool). cond b None (Some (record (counting t s) { place = Base; depth = s.depth - 1 }))) (sym e) ∙ moves) in
          found_behind letters (so_far letters place (h ∷ os) g f) (so_far letters Base os h (Parentheses (ended g f))) t ts
          (
          closed (outer_front os) (front h) (spelling (ended g f))
          ∙ sym (λ i. ((outer_front os ++ (front h ++ (codes "(" ∷ []))) ++ behind_spelled place tail i) ++ (is i ∷ []))
          )
          (more next Base os h (Parentheses (ended g f)) (ap (λ (z : Scan). z.place) (sym here)) (ap (λ (z : Scan). z.depth) (sym here) ∙ omega arith) os_formed.0 os_formed.1
          (refl, ended_formed letters g f formed factor) run)

  -- the mark that ends the expression
  end_case : (place : Place) → IsFactor letters f → tail_tokens letters place f ≡ spelling f → (t ≡ codes ",") ⊎ (t ≡ codes ";") → (s.depth == 0) ≡ true → Goal place
  end_case place factor tail is none = record {
    tree = ended g f;
    mark = t;
    rest = ts;
    spelled = ap (λ (xs : List (List ℕ)). (xs ++ (front g ++ tail_tokens letters place f)) ++ (t ∷ ts)) (no_outer outer deep)
        ∙ ap (λ (xs : List (List ℕ)). xs ++ (t ∷ ts)) (behind_spelled place tail);
    formed = ended_formed letters g f formed factor;
    ends = is;
  }
    where
      no_outer : (os : List Frame) → s.depth ≡ length os → outer_front os ≡ []
      no_outer [] e = refl
      no_outer (h ∷ os) e = let zero_depth : s.depth ≡ 0 = grind (arith, nat_tests) in absurd (omega (arith, e, zero_depth))

  when_done : (b : Bool) (x : Option Scan) → cond b x None ≡ Some next → b ≡ true
  when_done true x h = refl
  when_done false x h = absurd (cc)

  after_case : (place : Place) → IsFactor letters f → tail_tokens letters place f ≡ spelling f → (c : Class) → IsOf letters c t → after_factor c (counting t s) ≡ Some next → Goal place
  after_case place factor tail class.Star is moves = star_case place factor tail is moves
  after_case place factor tail class.Plus is moves = sign_case place false factor tail is moves
  after_case place factor tail class.Minus is moves = sign_case place true factor tail is moves
  after_case place factor tail class.Close is moves = close_case place factor tail is moves
  after_case place factor tail class.Comma is moves = end_case place factor tail (inl is) (when_done (s.depth == 0) _ moves)
  after_case place factor tail class.Semicolon is moves = end_case place factor tail (inr is) (when_done (s.depth == 0) _ moves)
  after_case place factor tail class.Open is moves = absurd (cc)
  after_case place factor tail class.Caret is moves = absurd (cc)
  after_case place factor tail class.Number is moves = absurd (cc)
  after_case place factor tail class.Variable is moves = absurd (cc)
  after_case place factor tail class.Run is moves = absurd (cc)
  after_case place factor tail class.Other is moves = absurd (cc)

  base_case : Holds letters Base g f → (c : Class) → IsOf letters c t → after_base c (counting t s) ≡ Some next → Goal Base
  base_case holds class.Caret is moves =
      let here = some_same _ next moves in
      on letters ts final s next t Base Caret outer g g f f more (ap (λ (z : Scan). z.place) (sym here)) deep (ap (λ (z : Scan). z.depth) (sym here)) formed outer_formed holds run
      (ap (λ (x : List ℕ). front g ++ (spelling f ++ (x ∷ []))) (sym is) ∙ sym (append_assoc (front g) (spelling f) (t ∷ [])))
  base_case holds class.Star is moves = after_case Base (record { rank = omega (arith, holds.0); formed = holds.1 }) refl class.Star is moves
  base_case holds class.Plus is moves = after_case Base (record { rank = omega (arith, holds.0); formed = holds.1 }) refl class.Plus is moves
  base_case holds class.Minus is moves = after_case Base (record { rank = omega (arith, holds.0); formed = holds.1 }) refl class.Minus is moves
  base_case holds class.Close is moves = after_case Base (record { rank = omega (arith, holds.0); formed = holds.1 }) refl class.Close is moves
  base_case holds class.Comma is moves = after_case Base (record { rank = omega (arith, holds.0); formed = holds.1 }) refl class.Comma is moves
  base_case holds class.Semicolon is moves = after_case Base (record { rank = omega (arith, holds.0); formed = holds.1 }) refl class.Semicolon is moves
  base_case holds class.Open is moves = absurd (cc)
  base_case holds class.Number is moves = absurd (cc)
  base_case holds class.Variable is moves = absurd (cc)
  base_case holds class.Run is moves = absurd (cc)
  base_case holds class.Other is moves = absurd (cc)

  caret_case : Holds letters Caret g f → (c : Class) → IsOf letters c t → exponent c (counting t s) ≡ Some next → Goal Caret
  caret_case holds class.Number is moves =
      let here = some_same _ next moves in
      on letters ts final s next t Caret Factor outer g g f (Power f t) more (ap (λ (z : Scan). z.place) (sym here)) deep (ap (λ (z : Scan). z.depth) (sym here)) formed outer_formed
      (record { rank = omega arith; formed = (holds.0, holds.1, is) }) run
      (ap (λ (xs : List (List ℕ)). front g ++ xs) (sym (append_assoc (spelling f) (codes "^" ∷ []) (t ∷ []))) ∙ sym (append_assoc (front g) (spelling f ++ (codes "^" ∷ [])) (t ∷ [])))
  caret_case holds class.Open is moves = absurd (cc)
  caret_case holds class.Close is moves = absurd (cc)
  caret_case holds class.Caret is moves = absurd (cc)
  caret_case holds class.Star is moves = absurd (cc)
  caret_case holds class.Plus is moves = absurd (cc)
  caret_case holds class.Minus is moves = absurd (cc)
  caret_case holds class.Comma is moves = absurd (cc)
  caret_case holds class.Semicolon is moves = absurd (cc)
  caret_case holds class.Variable is moves = absurd (cc)
  caret_case holds class.Run is moves = absurd (cc)
  caret_case holds class.Other is moves = absurd (cc)

  -- at each place
  at_place : (place : Place) → Holds letters place g f → (c : Class) → IsOf letters c t → in_expression_at place c (counting t s) ≡ Some next → Goal place
  at_place Start holds c is moves = start_case holds c is moves
  at_place Operand holds c is moves = operand_case Operand refl c is moves
  at_place Base holds c is moves = base_case holds c is moves
  at_place Caret holds c is moves = caret_case holds c is moves
  at_place Factor holds c is moves = after_case Factor holds refl c is moves
  at_place Between holds c is moves = absurd holds
  at_place PolyName holds c is moves = absurd holds
  at_place PolyEquals holds c is moves = absurd holds

pub some_of : (o : Option Scan) (letters : List ℕ) (ts : List (List ℕ)) (final : Scan) → option_and_then (λ n. scan letters n ts) o ≡ Some final
    → (n : Scan) × (o ≡ Some n) × (scan letters n ts ≡ Some final)
some_of None letters ts final h = absurd (cc)
some_of (Some n) letters ts final h = (n, refl, h)

inside_of : (letters : List ℕ) (place : Place) (g : Frame) (f : Expression) → Holds letters place g f → IsInside place
inside_of letters Start g f h = tt
inside_of letters Operand g f h = tt
inside_of letters Base g f h = tt
inside_of letters Caret g f h = tt
inside_of letters Factor g f h = tt
inside_of letters Between g f h = absurd h
inside_of letters PolyName g f h = absurd h
inside_of letters PolyEquals g f h = absurd h

-- the step at a place inside an expression
step_is : (letters : List ℕ) (s : Scan) (t : List ℕ) (place : Place) → s.place ≡ place → IsInside place → step letters s t ≡ in_expression_at place (class_of letters t) (counting t s)
unfolding step
step_is letters s t place is inside = ap (λ (p : Place). step_at letters p s t) is ∙ by_case place is inside
  where
    by_case : (p : Place) → s.place ≡ p → IsInside p → step_at letters p s t ≡ in_expression_at p (class_of letters t) (counting t s)
    by_case Start e h = ap (λ (q : Place). in_expression_at q (class_of letters t) (counting t s)) e
    by_case Operand e h = ap (λ (q : Place). in_expression_at q (class_of letters t) (counting t s)) e
    by_case Base e h = ap (λ (q : Place). in_expression_at q (class_of letters t) (counting t s)) e
    by_case Caret e h = ap (λ (q : Place). in_expression_at q (class_of letters t) (counting t s)) e
    by_case Factor e h = ap (λ (q : Place). in_expression_at q (class_of letters t) (counting t s)) e
    by_case Between e h = absurd h
    by_case PolyName e h = absurd h
    by_case PolyEquals e h = absurd h

scan_is : (letters : List ℕ) (s : Scan) (t : List ℕ) (ts : List (List ℕ)) → scan letters s (t ∷ ts) ≡ option_and_then (λ n. scan letters n ts) (step letters s t)
unfolding scan
scan_is letters s t ts = refl

pub scan_none : (letters : List ℕ) (s final : Scan) → scan letters s [] ≡ Some final → s ≡ final
unfolding scan
scan_none letters s final h = some_same s final h

parse : (letters : List ℕ) (final : Scan) → final.place ≡ Between → (ts : List (List ℕ)) → More letters ts final
parse letters final end [] s place outer g f is deep formed outer_formed holds run =
    let P : Place → Type 0 = λ (q : Place). Holds letters q g f in
    absurd (subst P (sym is ∙ ap (λ (z : Scan). z.place) (scan_none letters s final run) ∙ end) holds)
parse letters final end (t ∷ ts) s place outer g f is deep formed outer_formed holds run =
    let found : (n : Scan) × (step letters s t ≡ Some n) × (scan letters n ts ≡ Some final) = some_of (step letters s t) letters ts final (sym (scan_is letters s t ts) ∙ run) in
    at_place letters ts final s found.0 t outer g f (parse letters final end ts) deep formed outer_formed found.2 place holds (class_of letters t) (is_of letters t)
    (sym (step_is letters s t place is (inside_of letters place g f holds)) ∙ found.1)

-- where a scan that begins an expression ends between statements, an expression and a mark stand in front
pub scan_finds : (letters : List ℕ) (s final : Scan) (ts : List (List ℕ)) → s.place ≡ Start → s.depth ≡ 0 → final.place ≡ Between → scan letters s ts ≡ Some final → Found letters ts
scan_finds letters s final ts is deep end run =
    parse letters final end ts s Start [] (record { before = Nothing; product = None }) (Number []) is deep (record { before = tt; product = tt }) tt (refl, refl) run
