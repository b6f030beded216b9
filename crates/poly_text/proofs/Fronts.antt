-- Texts that are printed one after another.
use Rattle.std.proofs.Common.{◌≡◌, ℕ, ◌+◌, ◌≤◌, List, [], ◌++◌, length, take, sym, ap, ◌∙◌, append_assoc, append-nil, arith}
use Rattle.std.proofs.Math.Seq.{take-append-add}
use Rattle.std.proofs.lemmas.List.{take-append-le, take_min}
use Rattle.std.specs.Prelude.{min, Result, Ok, Err}
use Rattle.poly_text.specs.Printing.{Prints}

-- a front of a text
abbrev pub IsFrontOf : List ℕ → List ℕ → List ℕ → Type 0
IsFrontOf old new text = (n : ℕ) × (new ≡ old ++ take n text)

min_le : (a b : ℕ) → min a b ≤ b
min_le a b = omega arith

-- a front of a part behind what was printed is a front of the whole
pub front_behind : (old mid new done part more text : List ℕ) → mid ≡ old ++ done → text ≡ done ++ (part ++ more)
    → IsFrontOf mid new part → IsFrontOf old new text
front_behind old mid new done part more text is whole front = (length done + min front.0 (length part), all)
  where
    n : ℕ
    n = min front.0 (length part)

    inside : take n (part ++ more) ≡ take front.0 part
    inside = take-append-le n part more (min_le front.0 (length part)) ∙ take_min front.0 part

    all : new ≡ old ++ take (length done + n) text
    all =
        front.1
        ∙ ap (λ (t : List ℕ). t ++ take front.0 part) is
        ∙ append_assoc old done (take front.0 part)
        ∙ ap (λ (t : List ℕ). old ++ (done ++ t)) (sym inside)
        ∙ ap (λ (t : List ℕ). old ++ t) (sym (take-append-add done (part ++ more) n))
        ∙ ap (λ (t : List ℕ). old ++ take (length done + n) t) (sym whole)

-- a front of the first part is a front of the whole
pub front_first : (old new part more text : List ℕ) → text ≡ part ++ more → IsFrontOf old new part → IsFrontOf old new text
front_first old new part more text whole front = front_behind old old new [] part more text (sym (append-nil old)) whole front

-- a part printed behind what was printed
pub prints_behind : {T E : Type 0} (r : Result T E) (old mid new done part text : List ℕ) → mid ≡ old ++ done → text ≡ done ++ part
    → Prints r mid new part → Prints r old new text
prints_behind (Ok v) old mid new done part text is whole printed =
    printed ∙ ap (λ (t : List ℕ). t ++ part) is ∙ append_assoc old done part ∙ ap (λ (t : List ℕ). old ++ t) (sym whole)
prints_behind (Err e) old mid new done part text is whole printed =
    front_behind old mid new done part [] text is (whole ∙ ap (λ (t : List ℕ). done ++ t) (sym (append-nil part))) printed
