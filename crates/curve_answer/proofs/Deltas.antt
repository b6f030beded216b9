-- Deltas are not both within a limit and above it.
use Rattle.std.proofs.Common.{ℕ, ◌≤◌, List, [], ◌∷◌, ◌++◌, subst}
use Rattle.std.specs.List.{All}
use Rattle.std.proofs.lemmas.List.Elements.{All-head, All-tail}
use Rattle.polys.specs.declared.term.Term.{Term}
use Rattle.curve_model.specs.Delta.{HasDelta}
use Rattle.join_book.proofs.Strata.{delta_within}
use Rattle.curve_answer.specs.Deltas.{IsWithin, DeltasDecide}

-- what holds of all holds of one behind others
behind : {X : Type 0} (P : X → Type 0) (before : List X) (x : X) (after : List X) → All P (before ++ x ∷ after) → P x
behind P [] x after h = All-head P x after h
behind P (y ∷ before) x after h = behind P before x after (All-tail P y (before ++ x ∷ after) h)

pub not_both : DeltasDecide
not_both A c L S P within first =
    let Small : List (List Term) → Type 0 = λ R. (r : ℕ) × HasDelta A R r × (r ≤ L) in
    let h = behind Small first.before P first.after (subst (IsWithin A L) first.place within) in
    delta_within A c P h.0 L h.1 h.2 first.above
