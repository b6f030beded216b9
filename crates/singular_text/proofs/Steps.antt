-- The evaluation of expressions, token by token.
use Rattle.std.proofs.Common.{◌≡◌, ℕ, List, [], ◌∷◌, ◌++◌, take, ◌-◌, ◌≢◌, refl, sym, ap, ◌∙◌, subst, arith, Option, Some, None, Result, Ok, Err}
use Rattle.std.specs.List.{AllByRecursion}
use Rattle.polys.specs.Poly.{Polynomial}
use Rattle.problem_form.specs.declared.words.Class.{Class}
use Rattle.problem_form.specs.declared.words.Class.TheVariants as class
use Rattle.singular_text.specs.declared.faults.ReadFault.{ReadFault}
use Rattle.singular_text.specs.declared.faults.ReadFault.TheVariants.{Syntax}
use Rattle.singular_text.specs.declared.evaluation.Frame.{Frame}
use Rattle.problem_form.specs.Words.{class_of}
use Rattle.singular_text.specs.Evaluating.{IsFault, and_then, close, closed, pop, pop_behind, step, with_factor, new_frame, by_class, evaluate, IsFitFrame}
use Rattle.problem.specs.Problem.{IsFit}
use Rattle.singular_text.proofs.Handing.{fault_through}

pub pop_end : (frames : List Frame) (frame : Frame) → pop (frames ++ frame ∷ []) ≡ Some (frames, frame)
unfolding pop
pop_end [] frame = refl
pop_end (x ∷ frames) frame = ap (pop_behind x) (pop_end frames frame)

pop_none : pop [] ≡ None
unfolding pop
pop_none = refl

pub close_some : (p : ℕ) (letters token : List ℕ) (c : Class) (frame outer : Frame) (frames rest : List Frame) (value : Polynomial) → c ≡ class.Close → frames ≡ rest ++ outer ∷ []
    → close p frame ≡ Ok value → step p letters c token frame frames ≡ Ok (with_factor outer value, rest)
close_some p letters token c frame outer frames rest value is_close are is =
    (λ i. step p letters (is_close i) token frame frames)
    ∙ (λ i. and_then (is i) (closed (pop frames)))
    ∙ ap (λ (o : Option (List Frame × Frame)). closed o value) (ap pop are ∙ pop_end rest outer)

pub close_none : (p : ℕ) (letters token : List ℕ) (c : Class) (frame : Frame) (frames rest : List Frame) (value : Polynomial) → c ≡ class.Close → frames ≡ rest ++ [] → rest ≡ []
    → close p frame ≡ Ok value → step p letters c token frame frames ≡ Err Syntax
close_none p letters token c frame frames rest value is_close are empty is =
    (λ i. step p letters (is_close i) token frame frames)
    ∙ (λ i. and_then (is i) (closed (pop frames)))
    ∙ ap (λ (o : Option (List Frame × Frame)). closed o value) (ap pop (are ∙ ap (λ (r : List Frame). r ++ []) empty) ∙ pop_none)

pub no_more : (frames : List Frame) (n : ℕ) → n ≡ 0 → take (n - 1) frames ≡ []
no_more frames n none = let e : n - 1 ≡ 0 = omega arith in ap (λ (k : ℕ). take k frames) e

pub last_fits : (p n : ℕ) (rest : List Frame) (outer : Frame) (frames : List Frame) → frames ≡ rest ++ outer ∷ [] → AllByRecursion (IsFitFrame p n) frames → IsFitFrame p n outer
last_fits p n rest outer frames are all =
    let P : List Frame → Type 0 = λ (fs : List Frame). AllByRecursion (IsFitFrame p n) fs in
    go rest (subst P are all)
  where
    go : (r : List Frame) → AllByRecursion (IsFitFrame p n) (r ++ outer ∷ []) → IsFitFrame p n outer
    go [] h = h.0
    go (x ∷ r) h = go r h.1

-- ---- the loop

pub at_end : (p : ℕ) (letters : List ℕ) (values : List Polynomial) (frame : Frame) (frames : List Frame) (ts : List (List ℕ)) → ts ≡ []
    → evaluate p letters values frame frames ts ≡ Err Syntax
unfolding evaluate
at_end p letters values frame frames ts is = rw is refl

evaluate_next : (p : ℕ) (letters : List ℕ) (values : List Polynomial) (frame : Frame) (frames : List Frame) (t : List ℕ) (ts : List (List ℕ)) (c : Class) → class_of letters t ≡ c
    → evaluate p letters values frame frames (t ∷ ts)
    ≡ by_class c (and_then (close p frame) (λ f. Ok (values ++ f ∷ [], ts))) (and_then (close p frame) (λ f. evaluate p letters (values ++ f ∷ []) new_frame frames ts))
    (and_then (step p letters c t frame frames) (λ s. evaluate p letters values s.0 s.1 ts))
unfolding evaluate
evaluate_next p letters values frame frames t ts c is =
    λ i.
    by_class (is i) (and_then (close p frame) (λ f. Ok (values ++ f ∷ [], ts))) (and_then (close p frame) (λ f. evaluate p letters (values ++ f ∷ []) new_frame frames ts))
    (and_then (step p letters (is i) t frame frames) (λ s. evaluate p letters values s.0 s.1 ts))

-- a semicolon ends the list
pub semicolon_next : (p : ℕ) (letters : List ℕ) (values : List Polynomial) (frame : Frame) (frames : List Frame) (t : List ℕ) (ts : List (List ℕ)) → class_of letters t ≡ class.Semicolon
    → evaluate p letters values frame frames (t ∷ ts) ≡ and_then (close p frame) (λ f. Ok (values ++ f ∷ [], ts))
semicolon_next p letters values frame frames t ts is = evaluate_next p letters values frame frames t ts class.Semicolon is

-- a comma ends an expression
pub comma_next : (p : ℕ) (letters : List ℕ) (values : List Polynomial) (frame : Frame) (frames : List Frame) (t : List ℕ) (ts : List (List ℕ)) → class_of letters t ≡ class.Comma
    → evaluate p letters values frame frames (t ∷ ts) ≡ and_then (close p frame) (λ f. evaluate p letters (values ++ f ∷ []) new_frame frames ts)
comma_next p letters values frame frames t ts is = evaluate_next p letters values frame frames t ts class.Comma is

pub inner_next : (p : ℕ) (letters : List ℕ) (values : List Polynomial) (frame : Frame) (frames : List Frame) (t : List ℕ) (ts : List (List ℕ)) (c : Class) → class_of letters t ≡ c
    → c ≢ class.Semicolon → c ≢ class.Comma
    → evaluate p letters values frame frames (t ∷ ts) ≡ and_then (step p letters c t frame frames) (λ s. evaluate p letters values s.0 s.1 ts)
inner_next p letters values frame frames t ts c is no_semicolon no_comma =
    evaluate_next p letters values frame frames t ts c is
    ∙ by_case c no_semicolon no_comma _ _ (and_then (step p letters c t frame frames) (λ s. evaluate p letters values s.0 s.1 ts))
  where
    by_case : (k : Class) → k ≢ class.Semicolon → k ≢ class.Comma → (last next other : Result (List Polynomial × List (List ℕ)) ReadFault) → by_class k last next other ≡ other
    by_case class.Semicolon h g last next other = absurd (h refl)
    by_case class.Comma h g last next other = absurd (g refl)
    by_case class.Open h g last next other = refl
    by_case class.Close h g last next other = refl
    by_case class.Caret h g last next other = refl
    by_case class.Star h g last next other = refl
    by_case class.Plus h g last next other = refl
    by_case class.Minus h g last next other = refl
    by_case class.Number h g last next other = refl
    by_case class.Variable h g last next other = refl
    by_case class.Run h g last next other = refl
    by_case class.Other h g last next other = refl

-- ---- the exits and turns of the loop, which began at start

module _ (p : ℕ) (letters : List ℕ) (values : List Polynomial) (frame : Frame) (frames : List Frame) (t : List ℕ) (ts later : List (List ℕ)) (start : Result (List Polynomial × List (List ℕ)) ReadFault) where
  turn : (r : Result (List Polynomial × List (List ℕ)) ReadFault) → evaluate p letters values frame frames ts ≡ start → ts ≡ t ∷ later → evaluate p letters values frame frames (t ∷ later) ≡ r → r ≡ start
  turn r same are is = sym is ∙ ap (evaluate p letters values frame frames) (sym are) ∙ same

  handed : (fault : ReadFault) (r : Result (List Polynomial × List (List ℕ)) ReadFault) → r ≡ start → IsFault fault r → IsFault fault start
  handed fault r is h = let P : Result (List Polynomial × List (List ℕ)) ReadFault → Type 0 = λ (s : Result (List Polynomial × List (List ℕ)) ReadFault). IsFault fault s in subst P is h

  pub semicolon_fault : (fault : ReadFault) → evaluate p letters values frame frames ts ≡ start → ts ≡ t ∷ later → class_of letters t ≡ class.Semicolon → IsFault fault (close p frame) → IsFault fault start
  semicolon_fault fault same are is h =
      handed fault _ (turn _ same are (semicolon_next p letters values frame frames t later is))
      (fault_through fault (close p frame) (λ (f : Polynomial). Ok (values ++ f ∷ [], later)) h)

  pub semicolon_ok : (f : Polynomial) → evaluate p letters values frame frames ts ≡ start → ts ≡ t ∷ later → class_of letters t ≡ class.Semicolon → close p frame ≡ Ok f
      → start ≡ Ok (values ++ f ∷ [], later)
  semicolon_ok f same are is h =
      sym (turn _ same are (semicolon_next p letters values frame frames t later is ∙ ap (λ (r : Result Polynomial ReadFault). and_then r (λ (g : Polynomial). Ok (values ++ g ∷ [], later))) h))

  pub comma_fault : (fault : ReadFault) → evaluate p letters values frame frames ts ≡ start → ts ≡ t ∷ later → class_of letters t ≡ class.Comma → IsFault fault (close p frame) → IsFault fault start
  comma_fault fault same are is h =
      handed fault _ (turn _ same are (comma_next p letters values frame frames t later is))
      (fault_through fault (close p frame) (λ (f : Polynomial). evaluate p letters (values ++ f ∷ []) new_frame frames later) h)

  pub comma_on : (f : Polynomial) → evaluate p letters values frame frames ts ≡ start → ts ≡ t ∷ later → class_of letters t ≡ class.Comma → close p frame ≡ Ok f
      → evaluate p letters (values ++ f ∷ []) new_frame frames later ≡ start
  comma_on f same are is h =
      turn _ same are
      (comma_next p letters values frame frames t later is ∙ ap (λ (r : Result Polynomial ReadFault). and_then r (λ (g : Polynomial). evaluate p letters (values ++ g ∷ []) new_frame frames later)) h)

  pub inner_fault : (fault : ReadFault) (c : Class) → evaluate p letters values frame frames ts ≡ start → ts ≡ t ∷ later → class_of letters t ≡ c → c ≢ class.Semicolon → c ≢ class.Comma
      → IsFault fault (step p letters c t frame frames) → IsFault fault start
  inner_fault fault c same are is no_semicolon no_comma h =
      handed fault _ (turn _ same are (inner_next p letters values frame frames t later c is no_semicolon no_comma))
      (fault_through fault (step p letters c t frame frames) (λ (s : Frame × List Frame). evaluate p letters values s.0 s.1 later) h)

  pub inner_on : (c : Class) (next : Frame) (outer : List Frame) → evaluate p letters values frame frames ts ≡ start → ts ≡ t ∷ later → class_of letters t ≡ c → c ≢ class.Semicolon → c ≢ class.Comma
      → step p letters c t frame frames ≡ Ok (next, outer) → evaluate p letters values next outer later ≡ start
  inner_on c next outer same are is no_semicolon no_comma h =
      turn _ same are
      (inner_next p letters values frame frames t later c is no_semicolon no_comma
      ∙ ap (λ (r : Result (Frame × List Frame) ReadFault). and_then r (λ (s : Frame × List Frame). evaluate p letters values s.0 s.1 later)) h)

pub all_push : (p n : ℕ) (values : List Polynomial) (f : Polynomial) (now : List Polynomial) → now ≡ values ++ f ∷ [] → AllByRecursion (IsFit p n) values → IsFit p n f
    → AllByRecursion (IsFit p n) now
all_push p n values f now is all fit =
    let P : List Polynomial → Type 0 = λ (fs : List Polynomial). AllByRecursion (IsFit p n) fs in subst P (sym is) (go values all)
  where
    go : (fs : List Polynomial) → AllByRecursion (IsFit p n) fs → AllByRecursion (IsFit p n) (fs ++ f ∷ [])
    go [] h = (fit, tt)
    go (g ∷ fs) h = (h.0, go fs h.1)

pub class_is : (letters names token : List ℕ) (found c : Class) → names ≡ letters → found ≡ class_of names token → found ≡ c → class_of letters token ≡ c
class_is letters names token found c same is_found is = ap (λ (l : List ℕ). class_of l token) (sym same) ∙ sym is_found ∙ is
