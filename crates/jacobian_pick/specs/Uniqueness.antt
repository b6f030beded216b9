-- That a problem has one answer.
use Rattle.std.specs.Prelude.{◌≡◌, ◌≢◌, ◌↔◌, ℕ, List, ◌∷◌, ◌++◌, All, None}
use Rattle.polys.specs.declared.term.Term.{Term}
use Rattle.polys.specs.Terms.{IsMonicOf}
use Rattle.problem.specs.Problem.{ProblemData}
use Rattle.jacobian_pick.specs.Candidates.{AreKept, AreCandidates}
use Rattle.jacobian_pick.specs.Choice.{HasProperIdeal, IsGood, IsChosen, IsCause}
use Rattle.jacobian_pick.specs.declared.choosing.PickStop.{PickStop}
use Rattle.jacobian_pick.specs.declared.choosing.PickStop.TheVariants.{Memory}

-- a polynomial has one monic multiple, and so one list is kept of a list, and a problem has one list of candidates
pub record CandidatesAreUnique : Type 0 where
  pub monic : (p : ℕ) (f g h : List Term) → IsMonicOf p f g → IsMonicOf p f h → g ≡ h
  pub kept : (p n : ℕ) (gs fs ms ns : List (List Term)) → AreKept p n gs fs ms → AreKept p n gs fs ns → ms ≡ ns
  pub candidates : (problem : ProblemData) (cs ds : List (List Term)) → AreCandidates problem cs → AreCandidates problem ds → cs ≡ ds

-- one denominator is chosen; but for want of memory there is one cause of a refusal; and where there is one, there is
-- no proper ideal with a chosen denominator
pub record ChoicesAreUnique : Type 0 where
  pub chosen : (problem : ProblemData) (cap : ℕ) (d e : List Term) → IsChosen problem cap d → IsChosen problem cap e → d ≡ e
  pub cause : (problem : ProblemData) (cap : ℕ) (s t : PickStop) → s ≢ Memory → t ≢ Memory → IsCause problem cap s → IsCause problem cap t → s ≡ t
  pub not_both : (problem : ProblemData) (cap : ℕ) (s : PickStop) (d : List Term) → s ≢ Memory → IsCause problem cap s → HasProperIdeal problem cap → IsChosen problem cap d → ⊥

-- d is good and those before it in the list are not
pub record IsFirstOf (problem : ProblemData) (cap : ℕ) (cs : List (List Term)) (d : List Term) : Type 0 where
  pub before : List (List Term)
  pub after : List (List Term)
  pub place : cs ≡ before ++ d ∷ after
  pub bad : All (λ f. IsGood problem cap f → ⊥) before
  pub good : IsGood problem cap d

-- where no denominator is handed in, the chosen one is the first good one of the candidates
abbrev pub FirstCandidatesAreChosen : Type 0
FirstCandidatesAreChosen =
    (problem : ProblemData) (cap : ℕ) (cs : List (List Term)) → problem.denominator ≡ None → AreCandidates problem cs → (d : List Term) → IsChosen problem cap d ↔ IsFirstOf problem cap cs d
