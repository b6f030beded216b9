-- The text of data in range tells the data.
use Rattle.std.proofs.Common.{◌≡◌, ℕ, ◌<◌, ◌≤◌, List, [], ◌∷◌, ◌++◌, false, Option, None, Some, length, map, drop, refl, sym, ap, ap₂, subst, ◌∙◌, arith, append_assoc}
use Rattle.std.specs.Prelude.{codes, decimal, is_some, IfSome}
use Rattle.std.specs.Str.{bytes_eq}
use Rattle.std.specs.List.{All, flat_map}
use Rattle.std.proofs.lemmas.List.Elements.{All-head, All-tail}
use Rattle.polys.specs.declared.term.Term.{Term}
use Rattle.poly_text.specs.PolyText.{join, poly_text, list_text}
use Rattle.poly_text.specs.PolyReading.{TextsTellPolynomials}
use Rattle.norm_text.specs.Answer.{PointData, AnswerData, line, first_line, named_line, point_line, numerator_line, answer_text}
use Rattle.norm_text.specs.Cutting.{until, behind, without, begins}
use Rattle.norm_text.specs.Ranges.{IsPrintable, IsInRange}
use Rattle.norm_text.specs.Reading.{AnswerTextsTell}
use Rattle.norm_text.specs.ReadingSteps.{AreKnown, IsPointInRange, point_body}
use Rattle.norm_text.proofs.Cuts.{Free, free_of, line_end, decimal_piece, decimals_tell, line_field, line_behind}
use Rattle.norm_text.proofs.NextItems.{off}
use Rattle.norm_text.proofs.TextCuts.{prime_small, poly_piece, letters_free, letters_kept, list_until, list_behind, list_some, body_list, body_degree, body_delta, body_free}
use Rattle.norm_text.proofs.Told.{head_parts, version_second, version_behind}
use Rattle.norm_text.proofs.Whole.{whole_text, behind_points}

-- ---- lines

-- two lines with one word
lines_tell : (word f g r s : List ℕ) → Free 10 word → Free 10 f → Free 10 g → line word f ++ r ≡ line word g ++ s → (f ≡ g) × (r ≡ s)
lines_tell word f g r s w h k e = (
  sym (line_field word f r w h) ∙ ap (λ (t : List ℕ). drop (length word) (until 10 t)) e ∙ line_field word g s w k,
  sym (line_behind word f r w h) ∙ ap (behind 10) e ∙ line_behind word g s w k,
)

-- two lines with one word and a number
numbers_tell : (word r s : List ℕ) (n k : ℕ) → Free 10 word → n ≤ 60000 → k ≤ 60000 → line word (decimal n) ++ r ≡ line word (decimal k) ++ s → (n ≡ k) × (r ≡ s)
numbers_tell word r s n k w small few e =
    let t = lines_tell word (decimal n) (decimal k) r s w (decimal_piece 10 line_end n small).free (decimal_piece 10 line_end k few).free e in
    (decimals_tell n k small few t.0, t.1)

-- two texts with the line of a version
versions_tell : (named other : Option ℕ) (r s : List ℕ) → first_line named ++ r ≡ first_line other ++ s → (is_some named ≡ is_some other) × (r ≡ s)
versions_tell named other r s e = (
  sym (version_second named r) ∙ ap (λ (t : List ℕ). bytes_eq (until 10 t) (codes "locnormal 2")) e ∙ version_second other s,
  sym (version_behind named r) ∙ ap (behind 10) e ∙ version_behind other s,
)

named_tell : (named other : Option ℕ) (r s : List ℕ) → is_some named ≡ is_some other → IfSome named (λ n. n ≤ 256) → IfSome other (λ n. n ≤ 256)
    → named_line named ++ r ≡ named_line other ++ s → (named ≡ other) × (r ≡ s)
named_tell None None r s same h k e = (refl, e)
named_tell None (Some n) r s same h k e = absurd (cc)
named_tell (Some n) None r s same h k e = absurd (cc)
named_tell (Some n) (Some m) r s same h k e =
    let t = numbers_tell (codes "named ") r s n m (free_of 10 (codes "named ") refl) (omega arith) (omega arith) e in
    (ap Some t.0, t.1)

-- ---- polynomials

module _ (tells : TextsTellPolynomials) (p : ℕ) (letters : List ℕ) (ground : AreKnown p letters) where
  poly_tells : (f g : List Term) → IsPrintable p letters f → IsPrintable p letters g → poly_text p letters f ≡ poly_text p letters g → f ≡ g
  poly_tells f g h k e =
      tells p letters (poly_text p letters f) f g ground.prime ground.names (record { poly = h.poly; low = h.low; text = refl }) (record { poly = k.poly; low = k.low; text = e })

  list_none : (f : List Term) (fs : List (List Term)) → All (IsPrintable p letters) (f ∷ fs) → list_text p letters (f ∷ fs) ≡ [] → ⊥
  list_none f fs h e =
      let some : 0 < length (list_text p letters (f ∷ fs)) = list_some p (prime_small p ground.prime) letters ground.names.each f fs h in
      let none : length (list_text p letters (f ∷ fs)) ≡ 0 = ap length e in
      omega arith

  lists_tell : (fs gs : List (List Term)) → All (IsPrintable p letters) fs → All (IsPrintable p letters) gs → list_text p letters fs ≡ list_text p letters gs → fs ≡ gs
  lists_tell [] [] h k e = refl
  lists_tell [] (g ∷ gs) h k e = absurd (list_none g gs k (sym e))
  lists_tell (f ∷ fs) [] h k e = absurd (list_none f fs h e)
  lists_tell (f ∷ fs) (g ∷ gs) h k e =
      let few = prime_small p ground.prime in
      let first : poly_text p letters f ≡ poly_text p letters g =
      sym (list_until p few letters ground.names.each f fs h) ∙ ap (until 44) e ∙ list_until p few letters ground.names.each g gs k
      in
      let others : list_text p letters fs ≡ list_text p letters gs =
      sym (list_behind p few letters ground.names.each f fs h) ∙ ap (λ (t : List ℕ). drop 1 (behind 44 t)) e ∙ list_behind p few letters ground.names.each g gs k
      in
      ap₂ ◌∷◌ (poly_tells f g (All-head (IsPrintable p letters) f fs h) (All-head (IsPrintable p letters) g gs k) first)
      (lists_tell fs gs (All-tail (IsPrintable p letters) f fs h) (All-tail (IsPrintable p letters) g gs k) others)

  -- ---- points

  body_tells : (P Q : PointData) → IsPointInRange p letters P → IsPointInRange p letters Q → point_body p letters P ≡ point_body p letters Q → P ≡ Q
  body_tells P Q h k e =
      let few = prime_small p ground.prime in
      let names = ground.names.each in
      let low : P.degree ≤ 256 = h.sizes.degree in
      let less : Q.degree ≤ 256 = k.sizes.degree in
      let small : P.delta ≤ 64 = h.sizes.delta in
      let little : Q.delta ≤ 64 = k.sizes.delta in
      let basis : P.basis ≡ Q.basis =
      lists_tell P.basis Q.basis h.basis k.basis (sym (body_list p few letters names P h) ∙ ap (until 59) e ∙ body_list p few letters names Q k)
      in
      let degree : P.degree ≡ Q.degree =
      decimals_tell P.degree Q.degree (omega arith) (omega arith)
      (sym (body_degree p few letters names P h) ∙ ap (λ (t : List ℕ). drop 8 (until 59 (behind 59 t))) e ∙ body_degree p few letters names Q k)
      in
      let delta : P.delta ≡ Q.delta =
      decimals_tell P.delta Q.delta (omega arith) (omega arith)
      (sym (body_delta p few letters names P h) ∙ ap (λ (t : List ℕ). drop 7 (behind 59 (behind 59 t))) e ∙ body_delta p few letters names Q k)
      in
      (λ i. record { basis = basis i; degree = degree i; delta = delta i })

  points_tell : (Ps Qs : List PointData) (r s : List ℕ) → All (IsPointInRange p letters) Ps → All (IsPointInRange p letters) Qs
      → begins (codes "point ") r ≡ false → begins (codes "point ") s ≡ false
      → flat_map (point_line p letters) Ps ++ r ≡ flat_map (point_line p letters) Qs ++ s → (Ps ≡ Qs) × (r ≡ s)
  points_tell [] [] r s h k no_r no_s e = (refl, e)
  points_tell [] (Q ∷ Qs) r s h k no_r no_s e = absurd (off (flat_map (point_line p letters) (Q ∷ Qs) ++ s) r (codes "point ") (sym e) refl no_r)
  points_tell (P ∷ Ps) [] r s h k no_r no_s e = absurd (off (flat_map (point_line p letters) (P ∷ Ps) ++ r) s (codes "point ") e refl no_s)
  points_tell (P ∷ Ps) (Q ∷ Qs) r s h k no_r no_s e =
      let few = prime_small p ground.prime in
      let first = All-head (IsPointInRange p letters) P Ps h in
      let second = All-head (IsPointInRange p letters) Q Qs k in
      let t = lines_tell (codes "point ") (point_body p letters P) (point_body p letters Q) (flat_map (point_line p letters) Ps ++ r) (flat_map (point_line p letters) Qs ++ s)
      (free_of 10 (codes "point ") refl) (body_free p few letters ground.names.each P first) (body_free p few letters ground.names.each Q second)
      (sym (append_assoc (point_line p letters P) (flat_map (point_line p letters) Ps) r) ∙ e ∙ append_assoc (point_line p letters Q) (flat_map (point_line p letters) Qs) s) in
      let rest = points_tell Ps Qs r s (All-tail (IsPointInRange p letters) P Ps h) (All-tail (IsPointInRange p letters) Q Qs k) no_r no_s t.1 in
      (ap₂ ◌∷◌ (body_tells P Q first second t.0) rest.0, rest.1)

  -- ---- numerators

  numerators_tell : (fs gs : List (List Term)) (r s : List ℕ) → All (IsPrintable p letters) fs → All (IsPrintable p letters) gs
      → begins (codes "numerator ") r ≡ false → begins (codes "numerator ") s ≡ false
      → flat_map (numerator_line p letters) fs ++ r ≡ flat_map (numerator_line p letters) gs ++ s → fs ≡ gs
  numerators_tell [] [] r s h k no_r no_s e = refl
  numerators_tell [] (g ∷ gs) r s h k no_r no_s e = absurd (off (flat_map (numerator_line p letters) (g ∷ gs) ++ s) r (codes "numerator ") (sym e) refl no_r)
  numerators_tell (f ∷ fs) [] r s h k no_r no_s e = absurd (off (flat_map (numerator_line p letters) (f ∷ fs) ++ r) s (codes "numerator ") e refl no_s)
  numerators_tell (f ∷ fs) (g ∷ gs) r s h k no_r no_s e =
      let few = prime_small p ground.prime in
      let first = All-head (IsPrintable p letters) f fs h in
      let second = All-head (IsPrintable p letters) g gs k in
      let t = lines_tell (codes "numerator ") (poly_text p letters f) (poly_text p letters g) (flat_map (numerator_line p letters) fs ++ r) (flat_map (numerator_line p letters) gs ++ s)
      (free_of 10 (codes "numerator ") refl) (poly_piece 10 line_end p few letters ground.names.each f first).free (poly_piece 10 line_end p few letters ground.names.each g second).free
      (sym (append_assoc (numerator_line p letters f) (flat_map (numerator_line p letters) fs) r) ∙ e ∙ append_assoc (numerator_line p letters g) (flat_map (numerator_line p letters) gs) s) in
      ap₂ ◌∷◌ (poly_tells f g first second t.0) (numerators_tell fs gs r s (All-tail (IsPrintable p letters) f fs h) (All-tail (IsPrintable p letters) g gs k) no_r no_s t.1)

-- ---- all lines

-- the lines behind the letters
abbrev behind_letters : ℕ → List ℕ → AnswerData → List ℕ
behind_letters p letters a =
    line (codes "denominator ") (poly_text p letters a.denominator)
    ++ (line (codes "dimension ") (decimal a.dimension) ++ (named_line a.named ++ (flat_map (point_line p letters) a.points ++ behind_points p letters a)))

-- the data over a prime and letters, and the text of these lines
record Rests (a : AnswerData) (text : List ℕ) (p : ℕ) (letters : List ℕ) : Type 0 where
  ground : AreKnown p letters
  denominator : IsPrintable p letters a.denominator
  points : All (IsPointInRange p letters) a.points
  numerators : All (IsPrintable p letters) a.numerators
  whole : text ≡ behind_letters p letters a

rests : (a : AnswerData) → IsInRange a → Rests a (behind_letters a.prime a.letters a) a.prime a.letters
rests a h = record {
  ground = record { prime = h.prime; names = h.letters };
  denominator = h.denominator;
  points = λ k d within. record { sizes = h.sizes.points k d within; basis = h.points k d within };
  numerators = h.numerators;
  whole = refl;
}

lines_of : (a : AnswerData) → answer_text a
    ≡ first_line a.named ++ (line (codes "characteristic ") (decimal a.prime) ++ (line (codes "variables ") (join (codes ",") (map (λ x. x ∷ []) a.letters)) ++ behind_letters a.prime a.letters a))
lines_of a =
    whole_text a (answer_text a) refl
    ∙ head_parts (first_line a.named) (line (codes "characteristic ") (decimal a.prime)) (line (codes "variables ") (join (codes ",") (map (λ x. x ∷ []) a.letters)))
    (line (codes "denominator ") (poly_text a.prime a.letters a.denominator)) (line (codes "dimension ") (decimal a.dimension)) (named_line a.named)
    (flat_map (point_line a.prime a.letters) a.points ++ behind_points a.prime a.letters a)

rests_tell : TextsTellPolynomials → (a b : AnswerData) → IsInRange a → IsInRange b → is_some a.named ≡ is_some b.named → a.prime ≡ b.prime → a.letters ≡ b.letters
    → Rests a (behind_letters a.prime a.letters a) a.prime a.letters → Rests b (behind_letters a.prime a.letters a) a.prime a.letters → a ≡ b
rests_tell tells a b h k version prime letters x y =
    let p = a.prime in
    let names = a.letters in
    let few = prime_small p h.prime in
    let low : a.dimension ≤ 256 = h.sizes.dimension in
    let less : b.dimension ≤ 256 = k.sizes.dimension in
    let small : a.power ≤ 64 = h.sizes.power in
    let little : b.power ≤ 64 = k.sizes.power in
    let one = lines_tell (codes "denominator ") (poly_text p names a.denominator) (poly_text p names b.denominator) _ _ (free_of 10 (codes "denominator ") refl)
    (poly_piece 10 line_end p few names h.letters.each a.denominator x.denominator).free (poly_piece 10 line_end p few names h.letters.each b.denominator y.denominator).free y.whole in
    let two = numbers_tell (codes "dimension ") _ _ a.dimension b.dimension (free_of 10 (codes "dimension ") refl) (omega arith) (omega arith) one.1 in
    let three = named_tell a.named b.named _ _ version h.sizes.named k.sizes.named two.1 in
    let points = points_tell tells p names x.ground a.points b.points (behind_points p names a) (behind_points p names b) x.points y.points refl refl three.1 in
    let power = numbers_tell (codes "power ") _ _ a.power b.power (free_of 10 (codes "power ") refl) (omega arith) (omega arith) points.1 in
    let numerators = numerators_tell tells p names x.ground a.numerators b.numerators (codes "end\n") (codes "end\n") x.numerators y.numerators refl refl power.1 in
    let denominator = poly_tells tells p names x.ground a.denominator b.denominator x.denominator y.denominator one.0 in
    (λ i. record {
      prime = prime i;
      letters = letters i;
      denominator = denominator i;
      dimension = two.0 i;
      named = three.0 i;
      points = points.0 i;
      power = power.0 i;
      numerators = numerators i;
    })

pub texts_tell_law : TextsTellPolynomials → AnswerTextsTell
texts_tell_law tells a b h k e =
    let version = versions_tell a.named b.named _ _ (sym (lines_of a) ∙ e ∙ lines_of b) in
    let prime = numbers_tell (codes "characteristic ") _ _ a.prime b.prime (free_of 10 (codes "characteristic ") refl) (prime_small a.prime h.prime) (prime_small b.prime k.prime) version.1 in
    let variables = lines_tell (codes "variables ") (join (codes ",") (map (λ x. x ∷ []) a.letters)) (join (codes ",") (map (λ x. x ∷ []) b.letters)) _ _
    (free_of 10 (codes "variables ") refl)
    (letters_free 10 line_end a.prime (prime_small a.prime h.prime) a.letters h.letters.each (free_of 10 (codes ",") refl) a.letters h.letters.each)
    (letters_free 10 line_end b.prime (prime_small b.prime k.prime) b.letters k.letters.each (free_of 10 (codes ",") refl) b.letters k.letters.each) prime.1 in
    let letters : a.letters ≡ b.letters = sym (letters_kept a.letters h.letters.each) ∙ ap (without 44) variables.0 ∙ letters_kept b.letters k.letters.each in
    rests_tell tells a b h k version.0 prime.0 letters (rests a h)
    (subst (λ q. Rests b (behind_letters a.prime a.letters a) q a.letters) (sym prime.0)
    (subst (λ names. Rests b (behind_letters a.prime a.letters a) b.prime names) (sym letters)
    (subst (λ t. Rests b t b.prime b.letters) (sym variables.1) (rests b k))))
