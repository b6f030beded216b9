-- Lists of which no lead divides another one, and their leads.
use Rattle.std.proofs.Common.{◌≡◌, ◌⊎◌, inl, inr, ◌<◌, List, [], ◌∷◌, get_or, sym, ◌∙◌, subst}
use Rattle.std.specs.declared.cmp.Ordering.{Ordering}
use Rattle.std.specs.declared.cmp.Ordering.TheVariants.{Less, Equal, Greater}
use Rattle.std.specs.Ordering.{nat_cmp, MatchOrdering}
use Rattle.std.specs.Cmp.{ranks}
use Rattle.std.specs.List.{All, Contains}
use Rattle.std.proofs.lemmas.List.Elements.{All-head, All-tail}
use Rattle.std.proofs.lemmas.List.{get_or_default}
use Rattle.monomials.specs.Mono.{Monomial, Divides}
use Rattle.polys.specs.declared.term.Term.{Term}
use Rattle.polys.specs.Terms.{IsMonic}
use Rattle.polys.specs.Reduced.{leads}
use Rattle.ideal_laws.proofs.Unique.{contains_head, contains_tail, contains_cases, contains_none}
use Rattle.graded_modules.specs.Vector.{lead_mono}
use Rattle.graded_modules.specs.Bases.{AreApart}

-- a lead that divides another one is that one
pub apart_same : (ds : List (List Term)) (b c : List Term) → AreApart ds → Contains ds b → Contains ds c → Divides (lead_mono c) (lead_mono b) → c ≡ b
apart_same ds b c a (i, l, e) (j, k, f) d = go (nat_cmp i j) (ranks i j)
  where
    go : (r : Ordering) → MatchOrdering r (i < j) (i ≡ j) (j < i) → c ≡ b
    go Less h =
        let pair = a i j b h k in
        let other : get_or ds j b ≡ c = get_or_default ds j b c k ∙ f in
        absurd (pair.1 (subst (λ w. Divides (lead_mono w) (lead_mono (get_or ds i b))) (sym other) (subst (λ w. Divides (lead_mono c) (lead_mono w)) (sym e) d)))
    go Equal h = sym f ∙ (λ x. get_or ds (sym h x) c) ∙ get_or_default ds i c b l ∙ e
    go Greater h =
        let pair = a j i c h l in
        let other : get_or ds i c ≡ b = get_or_default ds i c b l ∙ e in
        absurd (pair.0 (subst (λ w. Divides (lead_mono w) (lead_mono (get_or ds i c))) (sym f) (subst (λ w. Divides (lead_mono c) (lead_mono w)) (sym other) d)))

-- the leads of monic members are those of the list
pub lead_contained : (ds : List (List Term)) (b : List Term) → All IsMonic ds → Contains ds b → Contains (leads ds) (lead_mono b)
lead_contained [] b m c = absurd (contains_none b c)
lead_contained ([] ∷ ds) b m c = absurd (All-head IsMonic [] ds m)
lead_contained ((t ∷ f) ∷ ds) b m c = go (contains_cases (t ∷ f) b ds c) (lead_contained ds b (All-tail IsMonic (t ∷ f) ds m))
  where
    go : ((t ∷ f) ≡ b) ⊎ Contains ds b → (Contains ds b → Contains (leads ds) (lead_mono b)) → Contains (t.mono ∷ leads ds) (lead_mono b)
    go (inl e) ih = subst (λ w. Contains (t.mono ∷ leads ds) (lead_mono w)) e (contains_head t.mono (leads ds))
    go (inr k) ih = contains_tail t.mono (lead_mono b) (leads ds) (ih k)

-- and each lead of the list is that of a member
pub contained_lead : (ds : List (List Term)) (m : Monomial) → Contains (leads ds) m → (t : Term) × (f : List Term) × Contains ds (t ∷ f) × (t.mono ≡ m)
contained_lead [] m c = absurd (contains_none m c)
contained_lead ([] ∷ ds) m c = let r = contained_lead ds m c in (r.0, r.1, contains_tail [] (r.0 ∷ r.1) ds r.2, r.3)
contained_lead ((t ∷ f) ∷ ds) m c = go (contains_cases t.mono m (leads ds) c) (contained_lead ds m)
  where
    go : (t.mono ≡ m) ⊎ Contains (leads ds) m → (Contains (leads ds) m → (t : Term) × (f : List Term) × Contains ds (t ∷ f) × (t.mono ≡ m))
        → (u : Term) × (g : List Term) × Contains ((t ∷ f) ∷ ds) (u ∷ g) × (u.mono ≡ m)
    go (inl e) ih = (t, f, contains_head (t ∷ f) ds, e)
    go (inr k) ih = let r = ih k in (r.0, r.1, contains_tail (t ∷ f) (r.0 ∷ r.1) ds r.2, r.3)
