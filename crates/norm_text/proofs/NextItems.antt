-- The next polynomial or point of a text.
use Rattle.std.proofs.Common.{◌≡◌, ℕ, ◌+◌, ◌<◌, ◌≤◌, ◌==◌, List, [], ◌∷◌, ◌++◌, Bool, true, false, length, drop, refl, sym, ap, ◌∙◌, arith, append_assoc}
use Rattle.std.specs.Prelude.{codes, IsTrue}
use Rattle.std.specs.List.{All, flat_map}
use Rattle.std.proofs.lemmas.Bool.Decides.{nat_tests}
use Rattle.std.proofs.lemmas.List.Elements.{All-head, All-tail}
use Rattle.polys.specs.declared.term.Term.{Term}
use Rattle.poly_text.specs.PolyText.{poly_text, list_text}
use Rattle.norm_text.specs.Answer.{PointData, point_line, numerator_line}
use Rattle.norm_text.specs.Cutting.{until, behind, begins}
use Rattle.norm_text.specs.Ranges.{IsPrintable}
use Rattle.norm_text.specs.ReadingSteps.{AreKnown, IsPointInRange, point_body}
use Rattle.norm_text.proofs.Cuts.{Free, free_of, line_end, line_field, line_behind}
use Rattle.norm_text.proofs.Leaves.{Leaves, Next}
use Rattle.norm_text.proofs.TextCuts.{prime_small, poly_piece, list_until, list_behind, list_some, body_free}

some_bytes : (b : Bool) (bytes : List ℕ) → b ≡ false → b ≡ (length bytes == 0) → 0 < length bytes
some_bytes b bytes none is = grind (arith, nat_tests)

no_bytes : (b : Bool) (bytes : List ℕ) → b ≡ true → b ≡ (length bytes == 0) → length bytes ≡ 0
no_bytes b bytes all is = grind (arith, nat_tests)

-- bytes that begin with the word, and do not
pub off : (bytes text : List ℕ) (word : List ℕ) → bytes ≡ text → begins word bytes ≡ true → begins word text ≡ false → ⊥
off bytes text word e starts none = absurd (let same : begins word bytes ≡ begins word text = ap (begins word) e in cc)

module _ (p : ℕ) (letters : List ℕ) (ground : AreKnown p letters) where
  -- ---- a polynomial of a list

  pub list_next : (fs done : List (List Term)) (bytes piece rest : List ℕ) (b : Bool) → b ≡ false → b ≡ (length bytes == 0)
      → Leaves (list_text p letters) (IsPrintable p letters) fs done bytes → piece ≡ until 44 bytes → rest ≡ drop 1 (behind 44 bytes)
      → Next (list_text p letters) (poly_text p letters) (IsPrintable p letters) fs done piece rest
  list_next fs done bytes piece rest b none is l is_piece is_rest = go l.left l.whole l.others l.good
    where
      go : (left : List (List Term)) → done ++ left ≡ fs → bytes ≡ list_text p letters left → All (IsPrintable p letters) left
          → Next (list_text p letters) (poly_text p letters) (IsPrintable p letters) fs done piece rest
      go [] whole others good = absurd (let some : 0 < length bytes = some_bytes b bytes none is in let e : length bytes ≡ 0 = ap length others in omega arith)
      go (f ∷ left) whole others good = record {
        first = f;
        left = left;
        whole = whole;
        here = is_piece ∙ ap (until 44) others ∙ list_until p (prime_small p ground.prime) letters ground.names.each f left good;
        others = is_rest ∙ ap (λ (t : List ℕ). drop 1 (behind 44 t)) others ∙ list_behind p (prime_small p ground.prime) letters ground.names.each f left good;
        fits = All-head (IsPrintable p letters) f left good;
        good = All-tail (IsPrintable p letters) f left good;
      }

  -- no bytes are the text of no more
  pub list_end : (fs done : List (List Term)) (bytes : List ℕ) (b : Bool) → b ≡ true → b ≡ (length bytes == 0)
      → (l : Leaves (list_text p letters) (IsPrintable p letters) fs done bytes) → (f : List Term) (left : List (List Term)) → l.left ≡ f ∷ left → ⊥
  list_end fs done bytes b all is l f left e = go l.left l.others l.good e
    where
      go : (ls : List (List Term)) → bytes ≡ list_text p letters ls → All (IsPrintable p letters) ls → ls ≡ f ∷ left → ⊥
      go [] others good same = absurd (cc)
      go (g ∷ gs) others good same =
          let some : 0 < length (list_text p letters (g ∷ gs)) = list_some p (prime_small p ground.prime) letters ground.names.each g gs good in
          let none : length bytes ≡ 0 = no_bytes b bytes all is in
          let long : length bytes ≡ length (list_text p letters (g ∷ gs)) = ap length others in
          omega arith

  -- ---- a numerator

  pub numerator_next : (fs done : List (List Term)) (bytes piece rest behind_all : List ℕ) → begins (codes "numerator ") bytes ≡ true → begins (codes "numerator ") behind_all ≡ false
      → Leaves (λ left. flat_map (numerator_line p letters) left ++ behind_all) (IsPrintable p letters) fs done bytes
      → piece ≡ drop 10 (until 10 bytes) → rest ≡ behind 10 bytes
      → Next (λ left. flat_map (numerator_line p letters) left ++ behind_all) (poly_text p letters) (IsPrintable p letters) fs done piece rest
  numerator_next fs done bytes piece rest behind_all starts none l is_piece is_rest = go l.left l.whole l.others l.good
    where
      go : (left : List (List Term)) → done ++ left ≡ fs → bytes ≡ flat_map (numerator_line p letters) left ++ behind_all → All (IsPrintable p letters) left
          → Next (λ left. flat_map (numerator_line p letters) left ++ behind_all) (poly_text p letters) (IsPrintable p letters) fs done piece rest
      go [] whole others good = absurd (off bytes behind_all (codes "numerator ") others starts none)
      go (f ∷ left) whole others good =
          let text : List ℕ = poly_text p letters f in
          let free : Free 10 (poly_text p letters f) = (poly_piece 10 line_end p (prime_small p ground.prime) letters ground.names.each f (All-head (IsPrintable p letters) f left good)).free in
          let here = others ∙ append_assoc (numerator_line p letters f) (flat_map (numerator_line p letters) left) behind_all in
          record {
            first = f;
            left = left;
            whole = whole;
            here = is_piece ∙ ap (λ (t : List ℕ). drop 10 (until 10 t)) here
                ∙ line_field (codes "numerator ") (poly_text p letters f) (flat_map (numerator_line p letters) left ++ behind_all) (free_of 10 (codes "numerator ") refl) free;
            others = is_rest ∙ ap (behind 10) here
                ∙ line_behind (codes "numerator ") (poly_text p letters f) (flat_map (numerator_line p letters) left ++ behind_all) (free_of 10 (codes "numerator ") refl) free;
            fits = All-head (IsPrintable p letters) f left good;
            good = All-tail (IsPrintable p letters) f left good;
          }

  pub numerator_end : (fs done : List (List Term)) (bytes behind_all : List ℕ) → begins (codes "numerator ") bytes ≡ false
      → (l : Leaves (λ left. flat_map (numerator_line p letters) left ++ behind_all) (IsPrintable p letters) fs done bytes)
      → (f : List Term) (left : List (List Term)) → l.left ≡ f ∷ left → ⊥
  numerator_end fs done bytes behind_all none l f left e = go l.left l.others e
    where
      go : (ls : List (List Term)) → bytes ≡ flat_map (numerator_line p letters) ls ++ behind_all → ls ≡ f ∷ left → ⊥
      go [] others same = absurd (cc)
      go (g ∷ gs) others same =
          off (flat_map (numerator_line p letters) (g ∷ gs) ++ behind_all) bytes (codes "numerator ") (sym others) refl none

  -- ---- a point

  pub point_next : (Ps done : List PointData) (bytes piece rest behind_all : List ℕ) → begins (codes "point ") bytes ≡ true → begins (codes "point ") behind_all ≡ false
      → Leaves (λ left. flat_map (point_line p letters) left ++ behind_all) (IsPointInRange p letters) Ps done bytes
      → piece ≡ drop 6 (until 10 bytes) → rest ≡ behind 10 bytes
      → Next (λ left. flat_map (point_line p letters) left ++ behind_all) (point_body p letters) (IsPointInRange p letters) Ps done piece rest
  point_next Ps done bytes piece rest behind_all starts none l is_piece is_rest = go l.left l.whole l.others l.good
    where
      go : (left : List PointData) → done ++ left ≡ Ps → bytes ≡ flat_map (point_line p letters) left ++ behind_all → All (IsPointInRange p letters) left
          → Next (λ left. flat_map (point_line p letters) left ++ behind_all) (point_body p letters) (IsPointInRange p letters) Ps done piece rest
      go [] whole others good = absurd (off bytes behind_all (codes "point ") others starts none)
      go (P ∷ left) whole others good =
          let fits : IsPointInRange p letters P = All-head (IsPointInRange p letters) P left good in
          let free : Free 10 (point_body p letters P) = body_free p (prime_small p ground.prime) letters ground.names.each P fits in
          let here = others ∙ append_assoc (point_line p letters P) (flat_map (point_line p letters) left) behind_all in
          record {
            first = P;
            left = left;
            whole = whole;
            here = is_piece ∙ ap (λ (t : List ℕ). drop 6 (until 10 t)) here
                ∙ line_field (codes "point ") (point_body p letters P) (flat_map (point_line p letters) left ++ behind_all) (free_of 10 (codes "point ") refl) free;
            others = is_rest ∙ ap (behind 10) here
                ∙ line_behind (codes "point ") (point_body p letters P) (flat_map (point_line p letters) left ++ behind_all) (free_of 10 (codes "point ") refl) free;
            fits = fits;
            good = All-tail (IsPointInRange p letters) P left good;
          }

  -- 256 points are the most, and bytes that do not begin with one more are those behind them
  pub point_end : (Ps done : List PointData) (bytes behind_all : List ℕ) (count : ℕ) (b : Bool) → b ≡ false → ((count < 256) × IsTrue (begins (codes "point ") bytes) → IsTrue b)
      → count ≡ length done → length Ps ≤ 256
      → (l : Leaves (λ left. flat_map (point_line p letters) left ++ behind_all) (IsPointInRange p letters) Ps done bytes)
      → (P : PointData) (left : List PointData) → l.left ≡ P ∷ left → ⊥
  point_end Ps done bytes behind_all count b stops goes_on counted few l P left e = go l.left l.whole l.others e
    where
      longer : (a c : List PointData) → length (a ++ c) ≡ length a + length c
      longer [] c = omega arith
      longer (x ∷ a) c = let h : length (a ++ c) ≡ length a + length c = longer a c in omega arith

      go : (ls : List PointData) → done ++ ls ≡ Ps → bytes ≡ flat_map (point_line p letters) ls ++ behind_all → ls ≡ P ∷ left → ⊥
      go [] whole others same = absurd (cc)
      go (Q ∷ Qs) whole others same =
          let long : length (done ++ (Q ∷ Qs)) ≡ length done + length (Q ∷ Qs) = longer done (Q ∷ Qs) in
          let all : length (done ++ (Q ∷ Qs)) ≡ length Ps = ap length whole in
          let room : count < 256 = omega arith in
          let starts : begins (codes "point ") bytes ≡ true = ap (begins (codes "point ")) others in
          let on : b ≡ true = goes_on (room, starts) in
          absurd (cc)
