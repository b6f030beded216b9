-- A term that is being read stays a monomial over the letters.
use Rattle.std.proofs.Common.{◌≡◌, ℕ, ◌+◌, ◌-◌, ◌<◌, ◌≤◌, min, List, [], ◌∷◌, ◌++◌, Bool, true, false, cond, length, get_or, drop, drop-cons, add-one, ◌==◌, Option, None, Some, suc, refl, sym, ap, subst, ◌∙◌, arith}
use Rattle.std.specs.Prelude.{IfSome, unwrap_or}
use Rattle.std.specs.Char.{is_ascii_digit}
use Rattle.std.proofs.lemmas.List.{drop_all}
use Rattle.monomials.specs.Mono.{IsMono, total_degree}
use Rattle.polys.specs.declared.term.Term.{Term}
use Rattle.polys.specs.Terms.{EachMono, IsAffine, IsCanonical, Under}
use Rattle.polys.specs.Poly.{IsVector}
use Rattle.polys.proofs.Affine.{affine_unit}
use Rattle.polys.proofs.Each.{every_more}
use Rattle.problem.specs.Letters.{AreLetters, is_among}
use Rattle.poly_text.specs.PolyText.{poly_text}
use Rattle.poly_text.specs.PolyReading.{IsWithinDegree, IsPolyText}
use Rattle.poly_text.specs.declared.reading.PartialTerm.{PartialTerm}
use Rattle.poly_text.specs.TermReading.{begun, settled, settled_at, with_digit, with_letter, with_byte, residue_of, finished, is_sign, terms_in, all_terms, IsPartialTerm}
use Rattle.poly_text.proofs.VariablePowers.{raised_mono, affine_raised}
use Rattle.problem.proofs.Places.{place_within}

pub begun_partial : (n : ℕ) (b : Bool) → IsPartialTerm n (begun b)
begun_partial n b = record {
  mono = record { seven = refl; bounded = omega arith; one_of_two = omega arith };
  affine = affine_unit n;
  letter = tt;
  number = tt;
}

-- the monomial of what was read
pub settled_mono : (n : ℕ) (s : PartialTerm) → n ≤ 6 → IsPartialTerm n s → IsMono (settled s).mono × IsAffine n (settled s).mono
settled_mono n s few known = by_letter s.letter known.letter
  where
    by_letter : (o : Option ℕ) → IfSome o (λ v. v < n) → IsMono (settled_at s o).mono × IsAffine n (settled_at s o).mono
    by_letter None h = (known.mono, known.affine)
    by_letter (Some v) h =
        let low : total_degree s.mono.exponents ≤ 60000 = known.mono.bounded in
        (raised_mono s.mono v (min (unwrap_or s.number 1) (60000 - total_degree s.mono.exponents)) known.mono (omega arith) (omega arith), affine_raised n s.mono v _ h known.affine)

digit_partial : (n : ℕ) (s : PartialTerm) (b : ℕ) → IsPartialTerm n s → IsPartialTerm n (with_digit s b)
digit_partial n s b known = record { mono = known.mono; affine = known.affine; letter = known.letter; number = omega arith }

pub letter_partial : (letters : List ℕ) (s : PartialTerm) (b : ℕ) → length letters ≤ 6 → is_among letters b ≡ true → IsPartialTerm (length letters) s
    → IsPartialTerm (length letters) (with_letter letters s b)
letter_partial letters s b few among known =
    let m = settled_mono (length letters) s few known in
    record { mono = m.0; affine = m.1; letter = place_within letters b among; number = tt }

pub byte_partial : (letters : List ℕ) (s : PartialTerm) (b : ℕ) → length letters ≤ 6 → IsPartialTerm (length letters) s → IsPartialTerm (length letters) (with_byte letters s b)
byte_partial letters s b few known = by_case (is_ascii_digit b) (is_among letters b) refl
  where
    by_case : (d m : Bool) → is_among letters b ≡ m → IsPartialTerm (length letters) (cond d (with_digit s b) (cond m (with_letter letters s b) s))
    by_case true m is = digit_partial (length letters) s b known
    by_case false true is = letter_partial letters s b few is known
    by_case false false is = known

pub letter_room : (n : ℕ) (s : PartialTerm) → n ≤ 6 → IsPartialTerm n s → IfSome s.letter (λ v. v < 6)
letter_room n s few known = by_case s.letter known.letter
  where
    by_case : (o : Option ℕ) → IfSome o (λ v. v < n) → IfSome o (λ v. v < 6)
    by_case None h = tt
    by_case (Some v) h = omega arith

-- ---- a byte more

pub in_byte : (p : ℕ) (letters rest : List ℕ) (s : PartialTerm) (b : ℕ) → is_sign b ≡ false
    → terms_in p letters s (b ∷ rest) ≡ terms_in p letters (with_byte letters s b) rest
unfolding terms_in
in_byte p letters rest s b is = rw is refl

pub in_sign : (p : ℕ) (letters rest : List ℕ) (s : PartialTerm) (b : ℕ) → is_sign b ≡ true
    → terms_in p letters s (b ∷ rest) ≡ finished p s ++ terms_in p letters (begun (b == 45)) rest
unfolding terms_in
in_sign p letters rest s b is = rw is refl

pub in_end : (p : ℕ) (letters : List ℕ) (s : PartialTerm) → terms_in p letters s [] ≡ finished p s
unfolding terms_in
in_end p letters s = refl

pub bytes_next : (bytes : List ℕ) (b i : ℕ) → i < length bytes → b ≡ get_or bytes i 0 → drop i bytes ≡ b ∷ drop (i + 1) bytes
bytes_next bytes b i within is = rw (add-one, drop-cons bytes i 0) (ap (λ (x : ℕ). x ∷ drop (suc i) bytes) (sym is))

pub all_read : (p : ℕ) (letters bytes : List ℕ) (done all : List Term) (s : PartialTerm) (i : ℕ) → length bytes ≤ i
    → done ++ terms_in p letters s (drop i bytes) ≡ all → done ++ finished p s ≡ all
all_read p letters bytes done all s i end same =
    ap (λ (f : List Term). done ++ f) (sym (in_end p letters s) ∙ ap (terms_in p letters s) (sym (drop_all i bytes end))) ∙ same

-- ---- all terms that are read

Known : ℕ → List Term → Type 0
Known n f = EachMono IsMono f × EachMono (IsAffine n) f

known_more : (n : ℕ) (f g : List Term) → Known n f → Known n g → Known n (f ++ g)
unfolding Known
known_more n [] g h k = k
known_more n (t ∷ f) g h k = let r = known_more n f g (h.0.1, h.1.1) k in ((h.0.0, r.0), (h.1.0, r.1))

known_finished : (n p : ℕ) (s : PartialTerm) → n ≤ 6 → IsPartialTerm n s → Known n (finished p s)
unfolding Known
known_finished n p s few known = by_case (residue_of p s.is_negative (settled s).coeff == 0)
  where
    c : ℕ
    c = residue_of p s.is_negative (settled s).coeff

    by_case : (t : Bool) → Known n (cond t [] (record { coeff = residue_of p s.is_negative (settled s).coeff; mono = (settled s).mono } ∷ []))
    by_case true = (tt, tt)
    by_case false = let m = settled_mono n s few known in ((m.0, tt), (m.1, tt))

known_terms : (p : ℕ) (letters bytes : List ℕ) (s : PartialTerm) → length letters ≤ 6 → IsPartialTerm (length letters) s → Known (length letters) (terms_in p letters s bytes)
unfolding Known
known_terms p letters [] s few known = rw (in_end p letters s) (known_finished (length letters) p s few known)
known_terms p letters (b ∷ bytes) s few known =
    by_case (is_sign b) refl (known_terms p letters bytes (begun (b == 45)) few (begun_partial (length letters) (b == 45)))
    (known_terms p letters bytes (with_byte letters s b) few (byte_partial letters s b few known))
  where
    by_case : (t : Bool) → is_sign b ≡ t → Known (length letters) (terms_in p letters (begun (b == 45)) bytes)
        → Known (length letters) (terms_in p letters (with_byte letters s b) bytes) → Known (length letters) (terms_in p letters s (b ∷ bytes))
    by_case true is first second =
        rw (in_sign p letters bytes s b is) (known_more (length letters) (finished p s) (terms_in p letters (begun (b == 45)) bytes) (known_finished (length letters) p s few known) first)
    by_case false is first second = rw (in_byte p letters bytes s b is) second

pub known_all : (p : ℕ) (letters bytes : List ℕ) → length letters ≤ 6
    → EachMono IsMono (all_terms p letters bytes) × EachMono (IsAffine (length letters)) (all_terms p letters bytes)
unfolding Known
known_all p letters [] few = known_terms p letters [] (begun false) few (begun_partial (length letters) false)
known_all p letters (b ∷ bytes) few = by_case (b == 45)
  where
    by_case : (t : Bool) → Known (length letters) (cond t (terms_in p letters (begun true) bytes) (terms_in p letters (begun false) (b ∷ bytes)))
    by_case true = known_terms p letters bytes (begun true) few (begun_partial (length letters) true)
    by_case false = known_terms p letters (b ∷ bytes) (begun false) few (begun_partial (length letters) false)

-- ---- falling terms

pub terms_next : (f : List Term) (t : Term) (i : ℕ) → i < length f → t ≡ get_or f i t → drop i f ≡ t ∷ drop (i + 1) f
terms_next f t i within is = rw (add-one, drop-cons f i t) (ap (λ (u : Term). u ∷ drop (suc i) f) (sym is))

pub canonical_on : (p : ℕ) (f : List Term) (t : Term) (i : ℕ) → i < length f → t ≡ get_or f i t → 0 < t.coeff → t.coeff < p → Under t.mono (drop (i + 1) f)
    → IsCanonical p (drop (i + 1) f) → IsCanonical p (drop i f)
canonical_on p f t i within is some residue under rest = subst (IsCanonical p) (sym (terms_next f t i within is)) (some, residue, under, rest)

pub canonical_off : (p : ℕ) (f : List Term) (t : Term) (i : ℕ) → i < length f → t ≡ get_or f i t → IsCanonical p (drop i f)
    → (0 < t.coeff) × (t.coeff < p) × Under t.mono (drop (i + 1) f) × IsCanonical p (drop (i + 1) f)
canonical_off p f t i within is all = subst (IsCanonical p) (terms_next f t i within is) all

pub canonical_end : (p : ℕ) (f : List Term) (i : ℕ) → length f ≤ i → IsCanonical p (drop i f)
canonical_end p f i all = subst (IsCanonical p) (sym (drop_all i f all)) tt

-- the terms that were read are a vector, and a polynomial of low degree over the letters
pub read_vector : (p q : ℕ) (names bytes : List ℕ) (items slice : List Term) → q ≡ p → AreLetters names → items ≡ all_terms q names bytes → slice ≡ items → IsCanonical q slice
    → IsVector p items
read_vector p q names bytes items slice is_prime named read same canonical = record {
  canonical = subst (λ (r : ℕ). IsCanonical r items) is_prime (subst (IsCanonical q) same canonical);
  monos = subst (EachMono IsMono) (sym read) (known_all q names bytes named.six).0;
}

pub read_text : (p q : ℕ) (letters names bytes : List ℕ) (items : List Term) → names ≡ letters → AreLetters names → items ≡ all_terms q names bytes → IsVector p items
    → bytes ≡ poly_text p letters items → IsPolyText p letters bytes items
read_text p q letters names bytes items is named read known text = record {
  poly = record {
    canonical = known.canonical;
    affine = subst (λ (l : List ℕ). EachMono (IsAffine (length l)) items) is (subst (EachMono (IsAffine (length names))) (sym read) (known_all q names bytes named.six).1);
  };
  low = every_more IsMono IsWithinDegree items (λ m h. h.bounded) known.monos;
  text = text;
}
