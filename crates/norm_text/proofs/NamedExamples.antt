-- An `at` statement that names the origin of the cusp, and one that does not.
use Rattle.std.proofs.Common.{◌≡◌, ℕ, ◌<◌, List, [], ◌∷◌, zero, suc, slice_index_or, refl, sym, subst, inr, ⊎_elim, arith}
use Rattle.std.specs.List.{All, Any}
use Rattle.std.proofs.lemmas.List.Elements.{All-nil, All-cons, All-head, All-tail}
use Rattle.polys.specs.declared.term.Term.{Term}
use Rattle.polys.specs.Terms.{IsPoly, sub, one}
use Rattle.polys.specs.Ideal.{InIdeal}
use Rattle.ideal_laws.proofs.Ideals.{in_head, in_more, in_sub, in_poly}
use Rattle.curve_model.specs.Examples.{term_of, origin}
use Rattle.curve_model.proofs.OriginPoint.{origin_is_point}
use Rattle.norm_text.specs.Examples.{AtNames, AtPassesBy}

abbrev x : List Term
x = term_of 1 1 0 ∷ []

abbrev y : List Term
y = term_of 1 0 1 ∷ []

abbrev x_less_one : List Term
x_less_one = term_of 1 1 0 ∷ term_of 6 0 0 ∷ []

polys : All (IsPoly 7 2) origin
polys = origin_is_point.reduced.polys

poly_y : IsPoly 7 2 y
poly_y = All-head (IsPoly 7 2) y (x ∷ []) polys

poly_x : IsPoly 7 2 x
poly_x = All-head (IsPoly 7 2) x [] (All-tail (IsPoly 7 2) y (x ∷ []) polys)

holds_x : InIdeal 7 2 origin x
holds_x = in_more 7 2 y (x ∷ []) x (in_head 7 2 x [] (omega arith) poly_x)

holds_y : InIdeal 7 2 origin y
holds_y = in_head 7 2 y (x ∷ []) (omega arith) poly_y

pub names : AtNames
names = record {
  point = origin_is_point;
  named = inr (0, x ∷ y ∷ [], omega arith, refl, All-cons (InIdeal 7 2 origin) x (y ∷ []) holds_x (All-cons (InIdeal 7 2 origin) y [] holds_y (All-nil (InIdeal 7 2 origin))));
}

-- x is in the ideal, and x - 1 is not, since 1 is not
not_held : InIdeal 7 2 origin x_less_one → ⊥
not_held h =
    let whole : sub 7 x x_less_one ≡ one = refl in
    origin_is_point.proper (subst (InIdeal 7 2 origin) whole (in_sub 7 2 origin x x_less_one (omega arith) (in_poly 7 2 origin x_less_one (omega arith) polys h) holds_x h))

-- the one statement
stated : (k : ℕ) (s : List (List Term)) → k < 1 → slice_index_or ((x_less_one ∷ []) ∷ []) k s ≡ s → x_less_one ∷ [] ≡ s
stated zero s h e = e
stated (suc k) s h e = absurd (omega arith)

pub passes_by : AtPassesBy
passes_by h = ⊎_elim
    (λ (e : (x_less_one ∷ []) ∷ [] ≡ []). absurd (cc))
    (λ (w : Any (λ statement. All (InIdeal 7 2 origin) statement) ((x_less_one ∷ []) ∷ [])).
    not_held (All-head (InIdeal 7 2 origin) x_less_one [] (subst (All (InIdeal 7 2 origin)) (sym (stated w.0 w.1 w.2 w.3)) w.4)))
    h.named
