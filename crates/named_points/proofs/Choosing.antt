-- The named ones of the points that were found.
use Rattle.std.proofs.Common.{◌≡◌, ◌≢◌, ◌⊎◌, inl, inr, ℕ, List, [], ◌∷◌, ◌++◌, length, get_or, refl, sym, ap, ◌∙◌, subst, arith}
use Rattle.std.specs.List.{AllPairs, Contains}
use Rattle.std.proofs.lemmas.List.{get_or_append_left, get_or_push, map-append, length_push}
use Rattle.std.proofs.lemmas.List.Elements.{Contains-append_left, Contains-get_or, Contains-push, Contains-push_cases}
use Rattle.std.proofs.lemmas.List.Quantifiers.{all_pairs_push}
use Rattle.ideal_laws.proofs.Unique.{contains_none}
use Rattle.curve_model.specs.declared.point.Point.{Point}
use Rattle.curve_model.specs.Point.{basis_of}
use Rattle.digit_space.specs.Model.{DigitData}
use Rattle.split_points.specs.declared.splitting.CurvePoint.{CurvePoint}
use Rattle.named_points.specs.Deciding.{AreChosen, IsNamedBy}

-- ---- pairs of a list with an item more

module _ {X : Type 0} (R : X → X → Type 0) where
  pairs_front : (xs : List X) (y : X) → AllPairs R (xs ++ y ∷ []) → AllPairs R xs
  pairs_front xs y h i j d less within =
      subst (λ v. R v (get_or xs j d)) (get_or_append_left xs (y ∷ []) d i (omega arith))
      (subst (λ v. R (get_or (xs ++ y ∷ []) i d) v) (get_or_append_left xs (y ∷ []) d j within)
      (h i j d less (let long = length_push xs y in omega arith)))

  pair_last : (xs : List X) (y : X) → AllPairs R (xs ++ y ∷ []) → (x : X) → Contains xs x → R x y
  pair_last xs y h x (k, l, e) =
      subst (λ v. R v y) (get_or_append_left xs (y ∷ []) x k l ∙ e)
      (subst (λ v. R (get_or (xs ++ y ∷ []) k x) v) (get_or_push xs y x (length xs) refl)
      (h k (length xs) x l (let long = length_push xs y in omega arith)))

-- ---- one point after another

module _ (g : DigitData) (statements : List (List (List ℕ))) where
  abbrev Named : CurvePoint → Type 0
  Named local = IsNamedBy g statements local

  pub chosen_start : AreChosen g statements [] []
  chosen_start = record {
    chosen = [];
    same = refl;
    inside = λ local w. absurd (contains_none local w);
    covers = λ local w n. absurd (contains_none local w);
    distinct = λ h. h;
  }

  module _ (found : List CurvePoint) (points : List Point) (local : CurvePoint) (w : AreChosen g statements found points) where
    -- a named point is taken
    pub chosen_more : IsNamedBy g statements local → AreChosen g statements (found ++ local ∷ []) (points ++ local.point ∷ [])
    chosen_more named = record {
      chosen = w.chosen ++ local ∷ [];
      same = ap (λ ps. ps ++ local.point ∷ []) w.same ∙ sym (map-append (λ l. l.point) w.chosen (local ∷ []));
      inside = λ other c. inside other (Contains-push_cases w.chosen local other c);
      covers = λ other c n. covers other n (Contains-push_cases found local other c);
      distinct = λ h. all_pairs_push (λ a b. basis_of a.point ≢ basis_of b.point) w.chosen local
          (w.distinct (pairs_front (λ a b. basis_of a.point ≢ basis_of b.point) found local h))
          (λ k d l. pair_last (λ a b. basis_of a.point ≢ basis_of b.point) found local h (get_or w.chosen k d)
          (w.inside (get_or w.chosen k d) (Contains-get_or w.chosen k d l)).0);
    }
      where
        inside : (other : CurvePoint) → Contains w.chosen other ⊎ (local ≡ other) → Contains (found ++ local ∷ []) other × Named other
        inside other (inl c) = let r = w.inside other c in (Contains-append_left found (local ∷ []) other r.0, r.1)
        inside other (inr e) = subst (λ l. Contains (found ++ local ∷ []) l × Named l) e (Contains-push found local, named)

        covers : (other : CurvePoint) → Named other → Contains found other ⊎ (local ≡ other) → Contains (w.chosen ++ local ∷ []) other
        covers other n (inl c) = Contains-append_left w.chosen (local ∷ []) other (w.covers other c n)
        covers other n (inr e) = subst (Contains (w.chosen ++ local ∷ [])) e (Contains-push w.chosen local)

    -- another one is left out
    pub chosen_same : (IsNamedBy g statements local → ⊥) → AreChosen g statements (found ++ local ∷ []) points
    chosen_same unnamed = record {
      chosen = w.chosen;
      same = w.same;
      inside = λ other c. let r = w.inside other c in (Contains-append_left found (local ∷ []) other r.0, r.1);
      covers = λ other c n. covers other n (Contains-push_cases found local other c);
      distinct = λ h. w.distinct (pairs_front (λ a b. basis_of a.point ≢ basis_of b.point) found local h);
    }
      where
        covers : (other : CurvePoint) → Named other → Contains found other ⊎ (local ≡ other) → Contains w.chosen other
        covers other n (inl c) = w.covers other c n
        covers other n (inr e) = absurd (unnamed (subst Named (sym e) n))
