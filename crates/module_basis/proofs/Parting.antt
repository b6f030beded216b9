-- The pairs of one degree, taken out of a list.
use Rattle.std.proofs.Common.{◌≡◌, ◌≢◌, ◌⊎◌, inl, inr, ℕ, ◌+◌, ◌<◌, ◌≤◌, List, [], ◌∷◌, ◌++◌, length, get_or, sym, ap, ◌∙◌, subst, arith}
use Rattle.std.specs.List.{All, Contains}
use Rattle.std.proofs.Math.Nat.{eq-or-lt_of_le}
use Rattle.std.proofs.lemmas.List.{get_or_default}
use Rattle.std.proofs.lemmas.List.Elements.{All-push, Contains-append_left, Contains-append_right, Contains-append_cases, Contains-push}
use Rattle.module_basis.specs.declared.pairs.Pair.{Pair}
use Rattle.module_basis.specs.Growing.{IsParted}

-- so are the first pairs
pub record ArePartedTo (e k : ℕ) (ps due later : List Pair) : Type 0 where
  pub of_degree : All (λ q. (q.degree ≡ e) × Contains ps q) due
  pub others : All (λ q. (q.degree ≢ e) × Contains ps q) later
  pub first : (i : ℕ) (d : Pair) → i < k → Contains (later ++ due) (get_or ps i d)

-- and one more, wherever it went
next_first : (k : ℕ) (ps old new : List Pair) (q : Pair) → k < length ps → q ≡ get_or ps k q → ((i : ℕ) (d : Pair) → i < k → Contains old (get_or ps i d))
    → ((x : Pair) → Contains old x → Contains new x) → Contains new q → (i : ℕ) (d : Pair) → i < k + 1 → Contains new (get_or ps i d)
next_first k ps old new q l is before more here i d h = go (eq-or-lt_of_le le)
  where
    le : i ≤ k
    le = omega arith

    go : (i ≡ k) ⊎ (i < k) → Contains new (get_or ps i d)
    go (inl e) = subst (Contains new) (is ∙ get_or_default ps k q d l ∙ ap (λ j. get_or ps j d) (sym e)) here
    go (inr b) = more (get_or ps i d) (before i d b)

pub to_due : (e k : ℕ) (ps due later : List Pair) (q : Pair) → k < length ps → q ≡ get_or ps k q → q.degree ≡ e → ArePartedTo e k ps due later
    → ArePartedTo e (k + 1) ps (due ++ q ∷ []) later
to_due e k ps due later q l is degree h = record {
  of_degree = All-push (λ q. (q.degree ≡ e) × Contains ps q) due q h.of_degree (degree, (k, l, sym is));
  others = h.others;
  first = next_first k ps (later ++ due) (later ++ (due ++ q ∷ [])) q l is h.first
      (λ x c. elim (Contains-append_cases later due x c) [
        | inl a ↦ Contains-append_left later (due ++ q ∷ []) x a
        | inr b ↦ Contains-append_right later (due ++ q ∷ []) x (Contains-append_left due (q ∷ []) x b)
      ])
      (Contains-append_right later (due ++ q ∷ []) q (Contains-push due q));
}

pub to_later : (e k : ℕ) (ps due later : List Pair) (q : Pair) → k < length ps → q ≡ get_or ps k q → q.degree ≢ e → ArePartedTo e k ps due later
    → ArePartedTo e (k + 1) ps due (later ++ q ∷ [])
to_later e k ps due later q l is degree h = record {
  of_degree = h.of_degree;
  others = All-push (λ q. (q.degree ≢ e) × Contains ps q) later q h.others (degree, (k, l, sym is));
  first = next_first k ps (later ++ due) ((later ++ q ∷ []) ++ due) q l is h.first
      (λ x c. elim (Contains-append_cases later due x c) [
        | inl a ↦ Contains-append_left (later ++ q ∷ []) due x (Contains-append_left later (q ∷ []) x a)
        | inr b ↦ Contains-append_right (later ++ q ∷ []) due x b
      ])
      (Contains-append_left (later ++ q ∷ []) due q (Contains-push later q));
}

pub all_parted : (e k : ℕ) (ps due later : List Pair) → length ps ≤ k → ArePartedTo e k ps due later → IsParted e ps due later
all_parted e k ps due later l h = record {
  of_degree = h.of_degree;
  others = h.others;
  whole = λ q (i, b, is). subst (Contains (later ++ due)) is (h.first i q (omega arith));
}
