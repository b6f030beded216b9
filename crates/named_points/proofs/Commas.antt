-- The text of a polynomial has no comma, so the text of a list tells its polynomials.
use Rattle.std.proofs.Common.{◌≡◌, ◌≢◌, inl, inr, ℕ, ◌+◌, ◌-◌, ◌/◌, ◌%◌, ◌==◌, ◌<◌, ◌≤◌, List, [], ◌∷◌, ◌++◌, Bool, true, false, cond, length, map, refl, sym, ap, ap₂, arith}
use Rattle.std.specs.Prelude.{codes, decimal, nat_le}
use Rattle.std.specs.List.{All}
use Rattle.std.proofs.lemmas.Fmt.{decimal_by_steps}
use Rattle.std.proofs.lemmas.List.Elements.{All-head, All-tail}
use Rattle.prime_field.specs.Primes.{IsCharacteristic}
use Rattle.monomials.specs.Mono.{total_degree}
use Rattle.polys.specs.declared.term.Term.{Term}
use Rattle.polys.specs.Terms.{EachMono, IsCanonical, IsPoly}
use Rattle.problem.specs.Letters.{AreLetters, IsLetter}
use Rattle.poly_text.specs.PolyText.{join, power_text, factors, is_shown_negative, shown_size, size_text, term_text, later_text, poly_text, list_text}
use Rattle.poly_text.specs.PolyReading.{IsWithinDegree, IsPolyText, TextsTellPolynomials}

-- no byte of the text is a comma
abbrev NoComma : List ℕ → Type 0
NoComma [] = Unit {0}
NoComma (x ∷ xs) = (x ≢ 44) × NoComma xs

-- a text of some bytes, none of them a comma
record IsPiece (text : List ℕ) : Type 0 where
  plain : NoComma text
  some : 0 < length text

abbrev ArePieces : List (List ℕ) → Type 0
ArePieces [] = Unit {0}
ArePieces (x ∷ xs) = IsPiece x × ArePieces xs

-- ---- texts that are put together

plain_append : (a b : List ℕ) → NoComma a → NoComma b → NoComma (a ++ b)
plain_append [] b h k = k
plain_append (x ∷ a) b h k = (h.0, plain_append a b h.1 k)

front_piece : (a b : List ℕ) → IsPiece a → NoComma b → IsPiece (a ++ b)
front_piece [] b h k = let some = h.some in absurd (omega arith)
front_piece (x ∷ a) b h k = record { plain = plain_append (x ∷ a) b h.plain k; some = omega arith }

back_piece : (a b : List ℕ) → NoComma a → IsPiece b → IsPiece (a ++ b)
back_piece [] b h k = k
back_piece (x ∷ a) b h k = record { plain = plain_append (x ∷ a) b h k.plain; some = omega arith }

either : (P : List ℕ → Type 0) (b : Bool) (x y : List ℕ) → P x → P y → P (cond b x y)
either P true x y h k = h
either P false x y h k = k

either_all : (b : Bool) (xs ys : List (List ℕ)) → ArePieces xs → ArePieces ys → ArePieces (cond b xs ys)
either_all true xs ys h k = h
either_all false xs ys h k = k

join_piece : (between : List ℕ) → NoComma between → (x : List ℕ) (xs : List (List ℕ)) → IsPiece x → ArePieces xs → IsPiece (join between (x ∷ xs))
join_piece between plain x [] h k = h
join_piece between plain x (y ∷ xs) h k =
    front_piece x (between ++ join between (y ∷ xs)) h (plain_append between (join between (y ∷ xs)) plain (join_piece between plain y xs k.0 k.1).plain)

-- ---- the parts of a polynomial's text

one_digit : (n : ℕ) → n < 10 → IsPiece ((48 + n) ∷ [])
one_digit n h = record { plain = ((λ e. omega (arith, e)), tt); some = omega arith }

more_digits : (n : ℕ) (ds : List ℕ) → 10 ≤ n → IsPiece ds → IsPiece (ds ++ ((48 + n % 10) ∷ []))
more_digits n ds h k = front_piece ds ((48 + n % 10) ∷ []) k ((λ e. omega (arith, e)), tt)

decimal_piece : (n : ℕ) → n ≤ 60000 → IsPiece (decimal n)
decimal_piece n small = decimal_by_steps (λ k ds. IsPiece ds) one_digit more_digits n (omega arith)

letter_plain : (x : ℕ) → IsLetter x → x ≢ 44
letter_plain x (inl h) e = omega arith
letter_plain x (inr h) e = omega arith

power_piece : (x e : ℕ) → IsLetter x → e ≤ 60000 → IsPiece (power_text x e)
power_piece x e letter small = either IsPiece (e == 1) (x ∷ []) (x ∷ (codes "^" ++ decimal e))
    (record { plain = (letter_plain x letter, tt); some = omega arith })
    (record { plain = (letter_plain x letter, ((λ (h : 94 ≡ 44). omega arith), (decimal_piece e small).plain)); some = omega arith })

factor_pieces : (letters es : List ℕ) → All IsLetter letters → total_degree es ≤ 60000 → ArePieces (factors letters es)
factor_pieces [] es named low = tt
factor_pieces (x ∷ letters) [] named low = tt
factor_pieces (x ∷ letters) (e ∷ es) named low =
    let rest = factor_pieces letters es (All-tail IsLetter x letters named) (omega arith) in
    either_all (e == 0) (factors letters es) (power_text x e ∷ factors letters es) rest (power_piece x e (All-head IsLetter x letters named) (omega arith), rest)

star_plain : NoComma (codes "*")
star_plain = ((λ (h : 42 ≡ 44). omega arith), tt)

size_piece : (n : ℕ) (fs : List (List ℕ)) → n ≤ 60000 → ArePieces fs → IsPiece (size_text n fs)
size_piece n [] small h = decimal_piece n small
size_piece n (f ∷ fs) small h = either IsPiece (n == 1) (join (codes "*") (f ∷ fs)) (join (codes "*") (decimal n ∷ f ∷ fs))
    (join_piece (codes "*") star_plain f fs h.0 h.1)
    (join_piece (codes "*") star_plain (decimal n) (f ∷ fs) (decimal_piece n small) h)

small_size : (b : Bool) (p c : ℕ) → c < p → p ≤ 60000 → cond b c (p - c) ≤ 60000
small_size true p c less few = omega arith
small_size false p c less few = omega arith

module _ (p : ℕ) (few : p ≤ 60000) (letters : List ℕ) (named : All IsLetter letters) where
  term_piece : (t : Term) → t.coeff < p → IsWithinDegree t.mono → IsPiece (term_text p letters t)
  term_piece t less low =
      size_piece (shown_size p t.coeff) (factors letters t.mono.exponents) (small_size (nat_le t.coeff (p / 2)) p t.coeff less few)
      (factor_pieces letters t.mono.exponents named low)

  later_plain : (f : List Term) → IsCanonical p f → EachMono IsWithinDegree f → NoComma (later_text p letters f)
  later_plain [] canonical low = tt
  later_plain (t ∷ f) canonical low =
      plain_append (cond (is_shown_negative p t.coeff) (codes "-") (codes "+")) (term_text p letters t ++ later_text p letters f)
      (either NoComma (is_shown_negative p t.coeff) (codes "-") (codes "+") ((λ (h : 45 ≡ 44). omega arith), tt) ((λ (h : 43 ≡ 44). omega arith), tt))
      (plain_append (term_text p letters t) (later_text p letters f) (term_piece t canonical.1 low.0).plain (later_plain f canonical.3 low.1))

  poly_piece : (f : List Term) → IsCanonical p f → EachMono IsWithinDegree f → IsPiece (poly_text p letters f)
  poly_piece [] canonical low = record { plain = ((λ (h : 48 ≡ 44). omega arith), tt); some = omega arith }
  poly_piece (t ∷ f) canonical low =
      back_piece (cond (is_shown_negative p t.coeff) (codes "-") []) (term_text p letters t ++ later_text p letters f)
      (either NoComma (is_shown_negative p t.coeff) (codes "-") [] ((λ (h : 45 ≡ 44). omega arith), tt) tt)
      (front_piece (term_text p letters t) (later_text p letters f) (term_piece t canonical.1 low.0) (later_plain f canonical.3 low.1))

-- ---- pieces with commas between them

-- the first comma tells where the first piece ends
cut : (a b s t : List ℕ) → NoComma a → NoComma b → a ++ (44 ∷ s) ≡ b ++ (44 ∷ t) → (a ≡ b) × (s ≡ t)
cut [] [] s t h k e = (refl, cc)
cut [] (y ∷ b) s t h k e = absurd (k.0 (cc))
cut (x ∷ a) [] s t h k e = absurd (h.0 (cc))
cut (x ∷ a) (y ∷ b) s t h k e =
    let first : x ≡ y = cc in
    let r = cut a b s t h.1 k.1 (cc) in
    (ap₂ ◌∷◌ first r.0, r.1)

uncut : (a b t : List ℕ) → NoComma a → a ≡ b ++ (44 ∷ t) → ⊥
uncut [] [] t h e = absurd (cc)
uncut [] (y ∷ b) t h e = absurd (cc)
uncut (x ∷ a) [] t h e = h.0 (cc)
uncut (x ∷ a) (y ∷ b) t h e = uncut a b t h.1 (cc)

nothing : (x : List ℕ) → IsPiece x → x ≡ [] → ⊥
nothing x h e = let some = h.some in let none : length x ≡ 0 = ap length e in absurd (omega arith)

-- what is joined tells the pieces
joins_tell : (xs ys : List (List ℕ)) → ArePieces xs → ArePieces ys → join (codes ", ") xs ≡ join (codes ", ") ys → xs ≡ ys
joins_tell [] [] h k e = refl
joins_tell [] (y ∷ []) h k e = absurd (nothing y k.0 (sym e))
joins_tell [] (y ∷ y2 ∷ ys) h k e = absurd (uncut [] y (32 ∷ join (codes ", ") (y2 ∷ ys)) tt e)
joins_tell (x ∷ []) [] h k e = absurd (nothing x h.0 e)
joins_tell (x ∷ x2 ∷ xs) [] h k e = absurd (uncut [] x (32 ∷ join (codes ", ") (x2 ∷ xs)) tt (sym e))
joins_tell (x ∷ []) (y ∷ []) h k e = ap (λ (t : List ℕ). t ∷ []) e
joins_tell (x ∷ []) (y ∷ y2 ∷ ys) h k e = absurd (uncut x y (32 ∷ join (codes ", ") (y2 ∷ ys)) h.0.plain e)
joins_tell (x ∷ x2 ∷ xs) (y ∷ []) h k e = absurd (uncut y x (32 ∷ join (codes ", ") (x2 ∷ xs)) k.0.plain (sym e))
joins_tell (x ∷ x2 ∷ xs) (y ∷ y2 ∷ ys) h k e =
    let r = cut x y (32 ∷ join (codes ", ") (x2 ∷ xs)) (32 ∷ join (codes ", ") (y2 ∷ ys)) h.0.plain k.0.plain e in
    let behind : 32 ∷ join (codes ", ") (x2 ∷ xs) ≡ 32 ∷ join (codes ", ") (y2 ∷ ys) = r.1 in
    ap₂ ◌∷◌ r.0 (joins_tell (x2 ∷ xs) (y2 ∷ ys) h.1 k.1 (cc))

-- ---- lists of polynomials

-- a polynomial over the letters without monomials of great degrees
pub record IsPrintable (p : ℕ) (letters : List ℕ) (f : List Term) : Type 0 where
  pub poly : IsPoly p (length letters) f
  pub low : EachMono IsWithinDegree f

module _ (tells : TextsTellPolynomials) (p : ℕ) (few : p ≤ 60000) (known : IsCharacteristic p) (letters : List ℕ) (named : AreLetters letters) where
  pieces : (fs : List (List Term)) → All (IsPrintable p letters) fs → ArePieces (map (poly_text p letters) fs)
  pieces [] h = tt
  pieces (f ∷ fs) h =
      let first = All-head (IsPrintable p letters) f fs h in
      (poly_piece p few letters named.each f first.poly.canonical first.low, pieces fs (All-tail (IsPrintable p letters) f fs h))

  text_is : (f : List Term) → IsPrintable p letters f → (bytes : List ℕ) → bytes ≡ poly_text p letters f → IsPolyText p letters bytes f
  text_is f h bytes e = record { poly = h.poly; low = h.low; text = e }

  polys_tell : (fs gs : List (List Term)) → All (IsPrintable p letters) fs → All (IsPrintable p letters) gs
      → map (poly_text p letters) fs ≡ map (poly_text p letters) gs → fs ≡ gs
  polys_tell [] [] h k e = refl
  polys_tell [] (g ∷ gs) h k e = absurd (cc)
  polys_tell (f ∷ fs) [] h k e = absurd (cc)
  polys_tell (f ∷ fs) (g ∷ gs) h k e =
      let text : poly_text p letters f ≡ poly_text p letters g = cc in
      let first : f ≡ g = tells p letters (poly_text p letters f) f g known named
      (text_is f (All-head (IsPrintable p letters) f fs h) (poly_text p letters f) refl)
      (text_is g (All-head (IsPrintable p letters) g gs k) (poly_text p letters f) text)
      in
      ap₂ ◌∷◌ first (polys_tell fs gs (All-tail (IsPrintable p letters) f fs h) (All-tail (IsPrintable p letters) g gs k) (cc))

  -- no text is that of two lists
  pub lists_tell : (fs gs : List (List Term)) → All (IsPrintable p letters) fs → All (IsPrintable p letters) gs
      → list_text p letters fs ≡ list_text p letters gs → fs ≡ gs
  lists_tell fs gs h k e = polys_tell fs gs h k (joins_tell (map (poly_text p letters) fs) (map (poly_text p letters) gs) (pieces fs h) (pieces gs k) e)
