-- A scan, token by token.
use Rattle.std.proofs.Common.{◌≡◌, ℕ, List, [], ◌∷◌, None, Some, refl, ap, ◌∙◌}
use Rattle.std.specs.Prelude.{option_and_then}
use Rattle.problem_form.specs.Scanning.{scan, step}
use Rattle.problem_form.specs.declared.scanning.Scan.{Scan}

pub scan_end : (letters : List ℕ) (s : Scan) (ts : List (List ℕ)) → ts ≡ [] → scan letters s ts ≡ Some s
unfolding scan
scan_end letters s ts is = rw is refl

pub scan_next : (letters : List ℕ) (s : Scan) (t : List ℕ) (ts : List (List ℕ)) → scan letters s (t ∷ ts) ≡ option_and_then (λ (next : Scan). scan letters next ts) (step letters s t)
unfolding scan
scan_next letters s t ts = refl

pub scan_on : (letters : List ℕ) (s next : Scan) (t : List ℕ) (ts later : List (List ℕ)) → ts ≡ t ∷ later → step letters s t ≡ Some next
    → scan letters s ts ≡ scan letters next later
scan_on letters s next t ts later is steps =
    ap (scan letters s) is ∙ scan_next letters s t later ∙ ap (option_and_then (λ (n : Scan). scan letters n later)) steps

pub scan_off : (letters : List ℕ) (s : Scan) (t : List ℕ) (ts later : List (List ℕ)) → ts ≡ t ∷ later → step letters s t ≡ None → scan letters s ts ≡ None
scan_off letters s t ts later is steps =
    ap (scan letters s) is ∙ scan_next letters s t later ∙ ap (option_and_then (λ (n : Scan). scan letters n later)) steps
