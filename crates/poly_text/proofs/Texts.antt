-- The parts of a polynomial's text.
use Rattle.std.proofs.Common.{◌≡◌, ℕ, ◌+◌, ◌==◌, ◌<◌, ◌≤◌, List, [], ◌∷◌, ◌++◌, Bool, true, false, cond, length, drop, refl, sym, ap, ◌∙◌, arith, append_assoc, append-nil, add-one, drop-cons, ◌&&◌, ◌⊎◌, inl, inr, zero, suc, get_or, ◌≢◌}
use Rattle.std.specs.Prelude.{codes, decimal, slice_index}
use Rattle.std.proofs.lemmas.Bool.Decides.{nat_tests}
use Rattle.std.proofs.lemmas.List.{drop_all}
use Rattle.polys.specs.declared.term.Term.{Term}
use Rattle.poly_text.specs.PolyText.{join, power_text, factors, size_text, term_text, later_text, poly_text, is_shown_negative}
use Rattle.poly_text.specs.Parts.{star, factor_text, factors_text, is_some, size_part, sign_text, terms_text}

pub test_no : (a b : ℕ) → a ≢ b → (a == b) ≡ false
test_no a b not = grind (arith, nat_tests)

pub test_yes : (a b : ℕ) → a ≡ b → (a == b) ≡ true
test_yes a b same = grind (arith, nat_tests)

pub power_text-one : (x e : ℕ) → e ≡ 1 → power_text x e ≡ x ∷ []
power_text-one x e one = ap (λ (b : Bool). cond b (x ∷ []) (x ∷ (codes "^" ++ decimal e))) (test_yes e 1 one)

pub power_text-more : (x e : ℕ) → e ≢ 1 → power_text x e ≡ (x ∷ 94 ∷ []) ++ decimal e
power_text-more x e more = ap (λ (b : Bool). cond b (x ∷ []) (x ∷ (codes "^" ++ decimal e))) (test_no e 1 more)

pub factor_text-none : (is_first : Bool) (x e : ℕ) → e ≡ 0 → factor_text is_first x e ≡ []
factor_text-none is_first x e none = ap (λ (b : Bool). cond b [] (star is_first ++ power_text x e)) (test_yes e 0 none)

pub factor_text-some : (is_first : Bool) (x e : ℕ) → e ≢ 0 → factor_text is_first x e ≡ star is_first ++ power_text x e
factor_text-some is_first x e some = ap (λ (b : Bool). cond b [] (star is_first ++ power_text x e)) (test_no e 0 some)

-- one letter more
pub factors_text-next : (is_first : Bool) (letters es : List ℕ) (i x e : ℕ) → i < length letters → i < length es → x ≡ slice_index letters i → e ≡ slice_index es i
    → factors_text is_first (drop i letters) (drop i es)
    ≡ factor_text is_first x e ++ factors_text (is_first && e == 0) (drop (i + 1) letters) (drop (i + 1) es)
factors_text-next is_first letters es i x e within long is_x is_e =
    rw (add-one, drop-cons letters i 0, drop-cons es i 0) (rw (is_x, is_e) refl)

-- what is printed, the next factor and the rest
pub factors_text-split : (text done letters es : List ℕ) (is_first : Bool) (i v e : ℕ) → text ≡ done ++ factors_text is_first (drop i letters) (drop i es)
    → i < length letters → length letters ≤ 6 → length es ≡ 7 → v ≡ i → e ≡ slice_index es v
    → text ≡ done ++ (factor_text is_first (slice_index letters i) e ++ factors_text (is_first && e == 0) (drop (i + 1) letters) (drop (i + 1) es))
factors_text-split text done letters es is_first i v e whole within few seven place is_e =
    whole ∙ ap (λ (t : List ℕ). done ++ t) (factors_text-next is_first letters es i (slice_index letters i) e within (omega arith) refl (is_e ∙ ap (λ (k : ℕ). slice_index es k) place))

-- ---- a term

-- factors after another one
stars : List (List ℕ) → List ℕ
stars [] = []
stars (f ∷ fs) = codes "*" ++ (f ++ stars fs)

join-stars : (f : List ℕ) (fs : List (List ℕ)) → join (codes "*") (f ∷ fs) ≡ f ++ stars fs
unfolding stars
join-stars f [] = sym (append-nil f)
join-stars f (g ∷ fs) = ap (λ (t : List ℕ). f ++ (codes "*" ++ t)) (join-stars g fs)

pub factors-none : (x e : ℕ) (letters es : List ℕ) → e ≡ 0 → factors (x ∷ letters) (e ∷ es) ≡ factors letters es
factors-none x e letters es none = ap (λ (b : Bool). cond b (factors letters es) (power_text x e ∷ factors letters es)) (test_yes e 0 none)

pub factors-some : (x e : ℕ) (letters es : List ℕ) → e ≢ 0 → factors (x ∷ letters) (e ∷ es) ≡ power_text x e ∷ factors letters es
factors-some x e letters es some = ap (λ (b : Bool). cond b (factors letters es) (power_text x e ∷ factors letters es)) (test_no e 0 some)

-- a number is 0 or not
pub zero_or_not : (e : ℕ) → (e ≡ 0) ⊎ (e ≢ 0)
zero_or_not zero = inl refl
zero_or_not (suc e) = inr (λ same. omega (arith, same))

later_factors : (letters es : List ℕ) → factors_text false letters es ≡ stars (factors letters es)
unfolding stars
later_factors [] es = refl
later_factors (x ∷ letters) [] = refl
later_factors (x ∷ letters) (e ∷ es) = by_case (zero_or_not e) (later_factors letters es)
  where
    by_case : (e ≡ 0) ⊎ (e ≢ 0) → factors_text false letters es ≡ stars (factors letters es)
        → factor_text false x e ++ factors_text (false && e == 0) letters es ≡ stars (factors (x ∷ letters) (e ∷ es))
    by_case (inl none) ih = rw (factor_text-none false x e none, factors-none x e letters es none) ih
    by_case (inr some) ih = rw (factor_text-some false x e some, factors-some x e letters es some) (ap (λ (t : List ℕ). codes "*" ++ (power_text x e ++ t)) ih)

first_factors : (letters es : List ℕ) → factors_text true letters es ≡ join (codes "*") (factors letters es)
first_factors [] es = refl
first_factors (x ∷ letters) [] = refl
first_factors (x ∷ letters) (e ∷ es) = by_case (zero_or_not e) (first_factors letters es)
  where
    by_case : (e ≡ 0) ⊎ (e ≢ 0) → factors_text true letters es ≡ join (codes "*") (factors letters es)
        → factor_text true x e ++ factors_text (true && e == 0) letters es ≡ join (codes "*") (factors (x ∷ letters) (e ∷ es))
    by_case (inl none) ih = rw (factor_text-none true x e none, factors-none x e letters es none, test_yes e 0 none) ih
    by_case (inr some) ih =
        rw (factor_text-some true x e some, factors-some x e letters es some, test_no e 0 some, later_factors letters es) (sym (join-stars (power_text x e) (factors letters es)))

pub size_text-parts : (n : ℕ) (letters es : List ℕ) (is_first : Bool) → is_first ≡ (n == 1 && is_some (factors letters es))
    → size_text n (factors letters es) ≡ size_part is_first n ++ factors_text is_first letters es
unfolding stars
size_text-parts n letters es is_first is = by_case (factors letters es) (n == 1) refl refl
  where
    goal : Bool → List (List ℕ) → Type 0
    goal first fs = size_text n fs ≡ size_part first n ++ factors_text first letters es

    later : factors_text false letters es ≡ stars (factors letters es)
    later = later_factors letters es

    behind : (fs : List (List ℕ)) → factors letters es ≡ fs → decimal n ++ stars fs ≡ decimal n ++ factors_text false letters es
    behind fs same = ap (λ (t : List ℕ). decimal n ++ t) (sym (later ∙ ap stars same))

    by_case : (fs : List (List ℕ)) (b : Bool) → factors letters es ≡ fs → (n == 1) ≡ b
        → size_text n (factors letters es) ≡ size_part is_first n ++ factors_text is_first letters es
    by_case [] true same test =
        let first : is_first ≡ false = is ∙ (λ i. test i && is_some (same i)) in
        rw (same, first) (sym (append-nil (decimal n)) ∙ behind [] same)
    by_case [] false same test =
        let first : is_first ≡ false = is ∙ (λ i. test i && is_some (same i)) in
        rw (same, first) (sym (append-nil (decimal n)) ∙ behind [] same)
    by_case (f ∷ fs) true same test =
        let first : is_first ≡ true = is ∙ (λ i. test i && is_some (same i)) in
        rw (same, first, test) (sym (first_factors letters es ∙ ap (join (codes "*")) same))
    by_case (f ∷ fs) false same test =
        let first : is_first ≡ false = is ∙ (λ i. test i && is_some (same i)) in
        rw (same, first, test) (join-stars (decimal n) (f ∷ fs) ∙ behind (f ∷ fs) same)

-- ---- the terms

later_terms : (p : ℕ) (letters : List ℕ) (f : List Term) → terms_text p letters false f ≡ later_text p letters f
later_terms p letters [] = refl
later_terms p letters (t ∷ f) = ap (λ (rest : List ℕ). sign_text false (is_shown_negative p t.coeff) ++ (term_text p letters t ++ rest)) (later_terms p letters f)

pub poly_text-terms : (p : ℕ) (letters : List ℕ) (f : List Term) → 0 < length f → poly_text p letters f ≡ terms_text p letters true f
poly_text-terms p letters [] some = absurd (omega arith)
poly_text-terms p letters (t ∷ f) some =
    ap (λ (rest : List ℕ). sign_text true (is_shown_negative p t.coeff) ++ (term_text p letters t ++ rest)) (sym (later_terms p letters f))

-- what is printed, the next term and the rest
pub terms_text-split : (p : ℕ) (letters text done : List ℕ) (f : List Term) (t : Term) (is_first : Bool) (i : ℕ) → text ≡ done ++ terms_text p letters is_first (drop i f)
    → i < length f → t ≡ get_or f i t
    → text ≡ done ++ ((sign_text is_first (is_shown_negative p t.coeff) ++ term_text p letters t) ++ terms_text p letters false (drop (i + 1) f))
terms_text-split p letters text done f t is_first i whole within is_t =
    whole ∙ ap (λ (g : List Term). done ++ terms_text p letters is_first g) rest
    ∙ ap (λ (g : List ℕ). done ++ g) (sym (append_assoc (sign_text is_first (is_shown_negative p t.coeff)) (term_text p letters t) (terms_text p letters false (drop (i + 1) f))))
  where
    rest : drop i f ≡ t ∷ drop (i + 1) f
    rest = rw (add-one, drop-cons f i t) (ap (λ (u : Term). u ∷ drop (suc i) f) (sym is_t))

-- ---- whether there is a factor

at_letter : (letters es : List ℕ) (i : ℕ) → i < length letters → i < length es
    → factors (drop i letters) (drop i es) ≡ factors (slice_index letters i ∷ drop (i + 1) letters) (slice_index es i ∷ drop (i + 1) es)
at_letter letters es i within long = rw (add-one, drop-cons letters i 0, drop-cons es i 0) refl

pub is_some-next : (letters es : List ℕ) (i : ℕ) → i < length letters → i < length es → slice_index es i ≡ 0
    → is_some (factors (drop i letters) (drop i es)) ≡ is_some (factors (drop (i + 1) letters) (drop (i + 1) es))
is_some-next letters es i within long none =
    ap is_some (at_letter letters es i within long ∙ factors-none (slice_index letters i) (slice_index es i) (drop (i + 1) letters) (drop (i + 1) es) none)

pub is_some-here : (letters es : List ℕ) (i : ℕ) → i < length letters → i < length es → slice_index es i ≢ 0
    → is_some (factors (drop i letters) (drop i es)) ≡ true
is_some-here letters es i within long some =
    ap is_some (at_letter letters es i within long ∙ factors-some (slice_index letters i) (slice_index es i) (drop (i + 1) letters) (drop (i + 1) es) some)

pub is_some-end : (letters es : List ℕ) (i : ℕ) → length letters ≤ i → is_some (factors (drop i letters) (drop i es)) ≡ false
is_some-end letters es i all = rw (drop_all i letters all) refl

-- a list whose emptiness test fails
pub some_items : (n m : ℕ) → false ≡ (n == 0) → n ≡ m → 0 < m
some_items n m test same = grind (arith, nat_tests)
