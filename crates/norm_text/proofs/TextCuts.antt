-- The texts of polynomials, of lists of them and of points have no mark inside, so each is cut at its place.
use Rattle.std.proofs.Common.{◌≡◌, ◌≢◌, inl, inr, ℕ, ◌-◌, ◌/◌, ◌==◌, ◌<◌, ◌≤◌, List, [], ◌∷◌, ◌++◌, Bool, true, false, cond, length, map, drop, refl, sym, ap, ◌∙◌, arith, append_assoc}
use Rattle.std.specs.Prelude.{codes, decimal, nat_le}
use Rattle.std.specs.List.{All, list_all}
use Rattle.std.proofs.lemmas.Bool.Decides.{nat_tests}
use Rattle.std.proofs.lemmas.List.Elements.{All-head, All-tail}
use Rattle.prime_field.specs.Primes.{IsCharacteristic, characteristics}
use Rattle.prime_field.specs.Primes as primes
use Rattle.monomials.specs.Mono.{total_degree}
use Rattle.polys.specs.declared.term.Term.{Term}
use Rattle.polys.specs.Terms.{EachMono, IsCanonical}
use Rattle.problem.specs.Letters.{IsLetter}
use Rattle.poly_text.specs.PolyText.{join, power_text, factors, is_shown_negative, shown_size, size_text, term_text, later_text, poly_text, list_text}
use Rattle.poly_text.specs.PolyReading.{IsWithinDegree}
use Rattle.norm_text.specs.Answer.{PointData}
use Rattle.norm_text.specs.Cutting.{until, behind, without}
use Rattle.norm_text.specs.Ranges.{IsPrintable}
use Rattle.norm_text.specs.ReadingSteps.{point_body, IsPointInRange}
use Rattle.norm_text.proofs.Cuts.{Free, free_append, free_of, until_mark, behind_mark, until_all, behind_all, IsMark, comma, semicolon, line_end, IsPiece, front_piece, back_piece, decimal_piece}

small_among : (ps : List ℕ) (p : ℕ) → list_all (λ q. nat_le q 60000) ps ≡ true → primes.is_among ps p ≡ true → p ≤ 60000
small_among [] p all one = absurd (cc)
small_among (q ∷ qs) p all one = grind (arith, nat_tests, small_among qs p)

-- each characteristic is below the numbers that are read
pub prime_small : (p : ℕ) → IsCharacteristic p → p ≤ 60000
prime_small p known = small_among characteristics p refl known

-- ---- the text of a polynomial

ArePieces : ℕ → List (List ℕ) → Type 0
ArePieces m [] = Unit {0}
ArePieces m (x ∷ xs) = IsPiece m x × ArePieces m xs

either : (P : List ℕ → Type 0) (b : Bool) (x y : List ℕ) → P x → P y → P (cond b x y)
either P true x y h k = h
either P false x y h k = k

either_all : (m : ℕ) (b : Bool) (xs ys : List (List ℕ)) → ArePieces m xs → ArePieces m ys → ArePieces m (cond b xs ys)
either_all m true xs ys h k = h
either_all m false xs ys h k = k

join_piece : (m : ℕ) (between : List ℕ) → Free m between → (x : List ℕ) (xs : List (List ℕ)) → IsPiece m x → ArePieces m xs → IsPiece m (join between (x ∷ xs))
unfolding ArePieces
join_piece m between free x [] h k = h
join_piece m between free x (y ∷ xs) h k =
    front_piece m x (between ++ join between (y ∷ xs)) h (free_append m between (join between (y ∷ xs)) free (join_piece m between free y xs k.0 k.1).free)

small_size : (b : Bool) (p c : ℕ) → c < p → p ≤ 60000 → cond b c (p - c) ≤ 60000
small_size true p c less few = omega arith
small_size false p c less few = omega arith

module _ (m : ℕ) (mark : IsMark m) where
  letter_free : (x : ℕ) → IsLetter x → x ≢ m
  letter_free x (inl h) = mark.letter x (omega arith) (omega arith)
  letter_free x (inr h) = mark.letter x (omega arith) (omega arith)

  power_piece : (x e : ℕ) → IsLetter x → e ≤ 60000 → IsPiece m (power_text x e)
  power_piece x e letter small = either (IsPiece m) (e == 1) (x ∷ []) (x ∷ (codes "^" ++ decimal e))
      (record { free = (letter_free x letter, tt); some = omega arith })
      (record { free = (letter_free x letter, (mark.letter 94 (omega arith) (omega arith), (decimal_piece m mark e small).free)); some = omega arith })

  factor_pieces : (letters es : List ℕ) → All IsLetter letters → total_degree es ≤ 60000 → ArePieces m (factors letters es)
  unfolding ArePieces
  factor_pieces [] es named low = tt
  factor_pieces (x ∷ letters) [] named low = tt
  factor_pieces (x ∷ letters) (e ∷ es) named low =
      let rest = factor_pieces letters es (All-tail IsLetter x letters named) (omega arith) in
      either_all m (e == 0) (factors letters es) (power_text x e ∷ factors letters es) rest (power_piece x e (All-head IsLetter x letters named) (omega arith), rest)

  size_piece : (n : ℕ) (fs : List (List ℕ)) → n ≤ 60000 → ArePieces m fs → IsPiece m (size_text n fs)
  unfolding ArePieces
  size_piece n [] small h = decimal_piece m mark n small
  size_piece n (f ∷ fs) small h = either (IsPiece m) (n == 1) (join (codes "*") (f ∷ fs)) (join (codes "*") (decimal n ∷ f ∷ fs))
      (join_piece m (codes "*") (mark.star, tt) f fs h.0 h.1)
      (join_piece m (codes "*") (mark.star, tt) (decimal n) (f ∷ fs) (decimal_piece m mark n small) h)

  module _ (p : ℕ) (few : p ≤ 60000) (letters : List ℕ) (named : All IsLetter letters) where
    term_piece : (t : Term) → t.coeff < p → IsWithinDegree t.mono → IsPiece m (term_text p letters t)
    term_piece t less low =
        size_piece (shown_size p t.coeff) (factors letters t.mono.exponents) (small_size (nat_le t.coeff (p / 2)) p t.coeff less few)
        (factor_pieces letters t.mono.exponents named low)

    later_free : (f : List Term) → IsCanonical p f → EachMono IsWithinDegree f → Free m (later_text p letters f)
    later_free [] canonical low = tt
    later_free (t ∷ f) canonical low =
        free_append m (cond (is_shown_negative p t.coeff) (codes "-") (codes "+")) (term_text p letters t ++ later_text p letters f)
        (either (Free m) (is_shown_negative p t.coeff) (codes "-") (codes "+") (mark.minus, tt) (mark.plus, tt))
        (free_append m (term_text p letters t) (later_text p letters f) (term_piece t canonical.1 low.0).free (later_free f canonical.3 low.1))

    poly_terms : (f : List Term) → IsCanonical p f → EachMono IsWithinDegree f → IsPiece m (poly_text p letters f)
    poly_terms [] canonical low = record { free = (mark.digit 48 (omega arith) (omega arith), tt); some = omega arith }
    poly_terms (t ∷ f) canonical low =
        back_piece m (cond (is_shown_negative p t.coeff) (codes "-") []) (term_text p letters t ++ later_text p letters f)
        (either (Free m) (is_shown_negative p t.coeff) (codes "-") [] (mark.minus, tt) tt)
        (front_piece m (term_text p letters t) (later_text p letters f) (term_piece t canonical.1 low.0) (later_free f canonical.3 low.1))

    pub poly_piece : (f : List Term) → IsPrintable p letters f → IsPiece m (poly_text p letters f)
    poly_piece f h = poly_terms f h.poly.canonical h.low

    -- a list of polynomials has no mark but the comma
    pub list_free : Free m (codes ", ") → (fs : List (List Term)) → All (IsPrintable p letters) fs → Free m (list_text p letters fs)
    list_free between [] h = tt
    list_free between (f ∷ []) h = (poly_piece f (All-head (IsPrintable p letters) f [] h)).free
    list_free between (f ∷ g ∷ fs) h =
        free_append m (poly_text p letters f) (codes ", " ++ list_text p letters (g ∷ fs)) (poly_piece f (All-head (IsPrintable p letters) f (g ∷ fs) h)).free
        (free_append m (codes ", ") (list_text p letters (g ∷ fs)) between (list_free between (g ∷ fs) (All-tail (IsPrintable p letters) f (g ∷ fs) h)))

    -- letters with commas between them
    pub letters_free : Free m (codes ",") → (names : List ℕ) → All IsLetter names → Free m (join (codes ",") (map (λ x. x ∷ []) names))
    letters_free between [] h = tt
    letters_free between (x ∷ []) h = (letter_free x (All-head IsLetter x [] h), tt)
    letters_free between (x ∷ y ∷ names) h =
        free_append m (x ∷ []) (codes "," ++ join (codes ",") (map (λ x. x ∷ []) (y ∷ names))) (letter_free x (All-head IsLetter x (y ∷ names) h), tt)
        (free_append m (codes ",") (join (codes ",") (map (λ x. x ∷ []) (y ∷ names))) between (letters_free between (y ∷ names) (All-tail IsLetter x (y ∷ names) h)))

-- ---- cuts

module _ (p : ℕ) (few : p ≤ 60000) (letters : List ℕ) (named : All IsLetter letters) where
  -- the first polynomial of a list
  pub list_until : (f : List Term) (fs : List (List Term)) → All (IsPrintable p letters) (f ∷ fs) → until 44 (list_text p letters (f ∷ fs)) ≡ poly_text p letters f
  list_until f [] h = until_all 44 (poly_text p letters f) (poly_piece 44 comma p few letters named f (All-head (IsPrintable p letters) f [] h)).free
  list_until f (g ∷ fs) h =
      until_mark 44 (poly_text p letters f) (32 ∷ list_text p letters (g ∷ fs)) (poly_piece 44 comma p few letters named f (All-head (IsPrintable p letters) f (g ∷ fs) h)).free

  -- and the others
  pub list_behind : (f : List Term) (fs : List (List Term)) → All (IsPrintable p letters) (f ∷ fs) → drop 1 (behind 44 (list_text p letters (f ∷ fs))) ≡ list_text p letters fs
  list_behind f [] h = ap (drop 1) (behind_all 44 (poly_text p letters f) (poly_piece 44 comma p few letters named f (All-head (IsPrintable p letters) f [] h)).free)
  list_behind f (g ∷ fs) h =
      ap (drop 1) (behind_mark 44 (poly_text p letters f) (32 ∷ list_text p letters (g ∷ fs)) (poly_piece 44 comma p few letters named f (All-head (IsPrintable p letters) f (g ∷ fs) h)).free)

  -- a list that is not empty has a text that is not
  pub list_some : (f : List Term) (fs : List (List Term)) → All (IsPrintable p letters) (f ∷ fs) → 0 < length (list_text p letters (f ∷ fs))
  list_some f [] h = (poly_piece 44 comma p few letters named f (All-head (IsPrintable p letters) f [] h)).some
  list_some f (g ∷ fs) h =
      longer (poly_text p letters f) (codes ", " ++ list_text p letters (g ∷ fs)) (poly_piece 44 comma p few letters named f (All-head (IsPrintable p letters) f (g ∷ fs) h)).some
    where
      longer : (a b : List ℕ) → 0 < length a → 0 < length (a ++ b)
      longer [] b h = absurd (omega arith)
      longer (x ∷ a) b h = omega arith

  -- the parts of a point's line
  module _ (P : PointData) (h : IsPointInRange p letters P) where
    list_part : Free 59 (list_text p letters P.basis)
    list_part = list_free 59 semicolon p few letters named (free_of 59 (codes ", ") refl) P.basis h.basis

    degree_small : P.degree ≤ 60000
    degree_small = let e : P.degree ≤ 256 = h.sizes.degree in omega arith

    delta_small : P.delta ≤ 60000
    delta_small = let e : P.delta ≤ 64 = h.sizes.delta in omega arith

    degree_part : Free 59 (codes " degree " ++ decimal P.degree)
    degree_part = free_append 59 (codes " degree ") (decimal P.degree) (free_of 59 (codes " degree ") refl) (decimal_piece 59 semicolon P.degree degree_small).free

    pub body_list : until 59 (point_body p letters P) ≡ list_text p letters P.basis
    body_list = until_mark 59 (list_text p letters P.basis) (codes " degree " ++ (decimal P.degree ++ (codes "; delta " ++ decimal P.delta))) list_part

    behind_list : behind 59 (point_body p letters P) ≡ (codes " degree " ++ decimal P.degree) ++ (59 ∷ (codes " delta " ++ decimal P.delta))
    behind_list =
        behind_mark 59 (list_text p letters P.basis) (codes " degree " ++ (decimal P.degree ++ (codes "; delta " ++ decimal P.delta))) list_part
        ∙ sym (append_assoc (codes " degree ") (decimal P.degree) (59 ∷ (codes " delta " ++ decimal P.delta)))

    pub body_degree : drop 8 (until 59 (behind 59 (point_body p letters P))) ≡ decimal P.degree
    body_degree =
        ap (λ (t : List ℕ). drop 8 (until 59 t)) behind_list
        ∙ ap (drop 8) (until_mark 59 (codes " degree " ++ decimal P.degree) (codes " delta " ++ decimal P.delta) degree_part)

    pub body_delta : drop 7 (behind 59 (behind 59 (point_body p letters P))) ≡ decimal P.delta
    body_delta =
        ap (λ (t : List ℕ). drop 7 (behind 59 t)) behind_list
        ∙ ap (drop 7) (behind_mark 59 (codes " degree " ++ decimal P.degree) (codes " delta " ++ decimal P.delta) degree_part)

    -- the line of the point has one end
    pub body_free : Free 10 (point_body p letters P)
    body_free =
        free_append 10 (list_text p letters P.basis) (codes "; degree " ++ (decimal P.degree ++ (codes "; delta " ++ decimal P.delta)))
        (list_free 10 line_end p few letters named (free_of 10 (codes ", ") refl) P.basis h.basis)
        (free_append 10 (codes "; degree ") (decimal P.degree ++ (codes "; delta " ++ decimal P.delta)) (free_of 10 (codes "; degree ") refl)
        (free_append 10 (decimal P.degree) (codes "; delta " ++ decimal P.delta) (decimal_piece 10 line_end P.degree degree_small).free
        (free_append 10 (codes "; delta ") (decimal P.delta) (free_of 10 (codes "; delta ") refl) (decimal_piece 10 line_end P.delta delta_small).free)))

-- ---- the letters

unequal : (b m : ℕ) → b ≢ m → (b == m) ≡ false
unequal b m differ = grind (arith, nat_tests)

-- the letters without the commas
pub letters_kept : (names : List ℕ) → All IsLetter names → without 44 (join (codes ",") (map (λ x. x ∷ []) names)) ≡ names
letters_kept [] h = refl
letters_kept (x ∷ []) h = ap (λ (t : Bool). cond t [] (x ∷ [])) (unequal x 44 (letter_free 44 comma x (All-head IsLetter x [] h)))
letters_kept (x ∷ y ∷ names) h =
    ap (λ (t : Bool). cond t (without 44 (44 ∷ join (codes ",") (map (λ x. x ∷ []) (y ∷ names)))) (x ∷ without 44 (44 ∷ join (codes ",") (map (λ x. x ∷ []) (y ∷ names)))))
    (unequal x 44 (letter_free 44 comma x (All-head IsLetter x (y ∷ names) h)))
    ∙ ap (λ (t : List ℕ). x ∷ t) (letters_kept (y ∷ names) (All-tail IsLetter x (y ∷ names) h))
