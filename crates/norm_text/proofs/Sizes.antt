-- The numbers of an answer and those of its data.
use Rattle.std.proofs.Common.{◌≤◌, List, [], ◌∷◌, length, map, sym, subst}
use Rattle.std.specs.Prelude.{IfSome}
use Rattle.std.specs.List.{All}
use Rattle.std.proofs.lemmas.List.{length-map}
use Rattle.std.proofs.lemmas.List.Elements.{All-head, All-tail, All-nil, All-cons}
use Rattle.polys.specs.declared.curve.TheConstants.{LARGEST_DIMENSION}
use Rattle.norm_text.specs.declared.limits.TheConstants.{MAX_POINTS, MAX_POWER}
use Rattle.norm_text.specs.declared.answer.Answer.{Answer}
use Rattle.norm_text.specs.Ranges.{IsSizedPoint, AreSized}
use Rattle.norm_text.specs.Shown.{point_of, data_of}

pub all_map : {X Y : Type 0} (view : Y → X) (P : X → Type 0) (ys : List Y) → All (λ y. P (view y)) ys → All P (map view ys)
all_map view P [] h = All-nil P
all_map view P (y ∷ ys) h = All-cons P (view y) (map view ys) (All-head (λ z. P (view z)) y ys h) (all_map view P ys (All-tail (λ z. P (view z)) y ys h))

pub map_all : {X Y : Type 0} (view : Y → X) (P : X → Type 0) (ys : List Y) → All P (map view ys) → All (λ y. P (view y)) ys
map_all view P [] h = All-nil (λ y. P (view y))
map_all view P (y ∷ ys) h = All-cons (λ z. P (view z)) y ys (All-head P (view y) (map view ys) h) (map_all view P ys (All-tail P (view y) (map view ys) h))

abbrev pub Numbers : Answer → Type 0
Numbers a = (a.dimension ≤ LARGEST_DIMENSION) × IfSome a.named (λ n. n ≤ MAX_POINTS) × (a.power ≤ MAX_POWER)

abbrev pub Lists : Answer → Type 0
Lists a = (length a.points ≤ MAX_POINTS) × All (λ line. IsSizedPoint (point_of line)) a.points × (1 ≤ length a.numerators)

pub sizes_of : (a : Answer) → Numbers a → Lists a → AreSized (data_of a)
sizes_of a n l = record {
  dimension = n.0;
  named = n.1;
  few = subst (λ k. k ≤ MAX_POINTS) (sym (length-map a.points point_of)) l.0;
  points = all_map point_of IsSizedPoint a.points l.1;
  power = n.2;
  some = subst (λ k. 1 ≤ k) (sym (length-map a.numerators (λ f. f.terms))) l.2;
}

pub numbers_of : (a : Answer) → AreSized (data_of a) → Numbers a
numbers_of a h = (h.dimension, h.named, h.power)

pub lists_of : (a : Answer) → AreSized (data_of a) → Lists a
lists_of a h = (
  subst (λ k. k ≤ MAX_POINTS) (length-map a.points point_of) h.few,
  map_all point_of IsSizedPoint a.points h.points,
  subst (λ k. 1 ≤ k) (length-map a.numerators (λ f. f.terms)) h.some,
)
