-- One more monomial is tried: it joins those that are no leads, or the leads.
use Rattle.std.proofs.Common.{◌≡◌, ◌⊎◌, inl, inr, ℕ, zero, suc, ◌+◌, ◌-◌, ◌*◌, ◌%◌, ◌<◌, ◌≤◌, List, [], ◌∷◌, ◌++◌, length, refl, sym, ap, ◌∙◌, subst, arith}
use Rattle.std.specs.List.{AllPairs, Contains}
use Rattle.std.specs.declared.cmp.Ordering.TheVariants.{Less, Equal}
use Rattle.std.proofs.lemmas.List.{length_push}
use Rattle.std.proofs.lemmas.List.Elements.{Contains-push, Contains-push_cases, Contains-append_left}
use Rattle.comm_ring.specs.Ring.{CommRing}
use Rattle.comm_ring.specs.Rows.{rows}
use Rattle.comm_ring.proofs.Fields.{inverse}
use Rattle.comm_ring.proofs.Modules as Modules
use Rattle.comm_ring.proofs.Quote.{ring, quote}
use Rattle.monomials.specs.Mono.{Monomial, Divides, cmp_dp, total_degree}
use Rattle.monomials.proofs.Factors.{divides_law}
use Rattle.monomials.proofs.Order.{dp_total, multiple_not_less, self_dp}
use Rattle.polys.specs.declared.term.Term.{Term}
use Rattle.polys.specs.Terms.{EachMono, IsAffine, keep, add, sub, multiple}
use Rattle.polys.specs.Curve.{CurveData}
use Rattle.polys.proofs.Affine.{poly_add, poly_multiple}
use Rattle.polys.proofs.Each.{every_add, every_more, every_multiple, every_zip}
use Rattle.polys.proofs.Units.{canonical_same}
use Rattle.ideal_laws.proofs.Unique.{contains_head, contains_tail, contains_none}
use Rattle.curve_model.specs.Laws.{IsFinite}
use Rattle.curve_laws.proofs.Base.{Ring, member}
use Rattle.row_space.specs.Subspace.{Subspace, Gains, IsIn, IsSumOfBasis}
use Rattle.standard_monomials.specs.Standard.{polynomial_of}
use Rattle.standard_monomials.proofs.Lists.{pairs_cons, pairs_head, pairs_none, pairs_tail}
use Rattle.digit_laws.specs.Digits.{AreCornersOf, AreDigits}
use Rattle.digit_laws.proofs.Blocks.{multiple_none}
use Rattle.digit_laws.proofs.Spaces.{affine_poly}
use Rattle.corner_basis.specs.Staircase.{HasDivisor, IsAmong, IsClassOf, IsReducible, IsStaircase}
use Rattle.basis_existence.proofs.LeadsDecided.{below_lead}
use Rattle.corner_basis.proofs.Classes.{pos, P, W, laws, Span, RM, Scalars, In, up, down, k_row, gained_digits, gained, regained}

module _ (C : CommRing) where
  open C use {ops, carrier, ◌≈◌, ◌⊕◌, neg}

  infix 40 ◌≈◌
  infixl 60 ◌⊕◌
  in_turn : (f x h : carrier) → (f ⊕ neg x) ⊕ neg h ≈ f ⊕ neg (x ⊕ h)
  in_turn f x h = ring C (f ∷ x ∷ h ∷ []) (search quote depth 20) tt

  minus_minus : (x h : carrier) → x ⊕ neg (neg h) ≈ x ⊕ h
  minus_minus x h = ring C (x ∷ h ∷ []) (search quote depth 20) tt

-- a list whose members are in relation, and one more to which all are
pub pairs_last : {X : Type 0} (R : X → X → Type 0) (xs : List X) (x : X) → AllPairs R xs → ((z : X) → Contains xs z → R z x) → AllPairs R (xs ++ x ∷ [])
pairs_last R [] x h r = pairs_cons R x [] (λ z d. absurd (contains_none z d)) (pairs_none R)
pairs_last R (y ∷ xs) x h r = pairs_cons R y (xs ++ x ∷ []) first
    (pairs_last R xs x (pairs_tail R y xs h) (λ z d. r z (contains_tail y z xs d)))
  where
    pick : (z : _) → Contains xs z ⊎ (x ≡ z) → R y z
    pick z (inl d) = pairs_head R y xs h z d
    pick z (inr e) = subst (R y) e (r y (contains_head y xs))

    first : (z : _) → Contains (xs ++ x ∷ []) z → R y z
    first z d = pick z (Contains-push_cases xs x z d)

-- a smaller monomial is not the last one
kept_out : (ss : List Monomial) (m w : Monomial) → cmp_dp w m ≡ Less → Contains (ss ++ m ∷ []) w → Contains ss w
kept_out ss m w l d = go (Contains-push_cases ss m w d)
  where
    go : Contains ss w ⊎ (m ≡ w) → Contains ss w
    go (inl e) = e
    go (inr e) = let q : Less ≡ Equal = sym l ∙ ap (λ z. cmp_dp z m) (sym e) ∙ self_dp m in absurd (cc)

all_kept : (ss : List Monomial) (m : Monomial) (f : List Term) → EachMono (λ w. cmp_dp w m ≡ Less) f → EachMono (Contains (ss ++ m ∷ [])) f → EachMono (Contains ss) f
all_kept ss m f l h =
    every_more (λ w. (cmp_dp w m ≡ Less) × Contains (ss ++ m ∷ []) w) (Contains ss) f (λ w b. kept_out ss m w b.0 b.1) (every_zip (λ w. cmp_dp w m ≡ Less) (Contains (ss ++ m ∷ [])) f l h)

-- a multiple is no smaller
no_smaller_multiple : (m s : Monomial) → length m.exponents ≡ length s.exponents → Divides m s → cmp_dp s m ≡ Less → ⊥
no_smaller_multiple m s l d e =
    let q = (divides_law m s l).0 d in
    multiple_not_less m q.0 q.1 q.2 (subst (λ z. cmp_dp z m ≡ Less) q.3 e)

module _ (A : CurveData) (c : IsFinite A) (ms : List Monomial) (k : AreCornersOf A ms) (T : ℕ) where
  abbrev Poly : List Term → Type 0
  Poly f = P A c ms k T f

  -- a polynomial with the monomials ss and m as a multiple of m, and the rest
  record Parted (ss : List Monomial) (m : Monomial) (h : List Term) : Type 0 where
    coeff : ℕ
    rest : List Term
    small : coeff < A.prime
    poly : Poly rest
    monos : EachMono (Contains ss) rest
    whole : h ≡ add A.prime (multiple A.prime coeff (polynomial_of m)) rest
    alone : coeff ≡ 0 → h ≡ rest

  no_part : (ss : List Monomial) (m : Monomial) (h : List Term) → Poly (polynomial_of m) → Poly h → EachMono (Contains ss) h → Parted ss m h
  no_part ss m h hm hh e = record {
    coeff = 0;
    rest = h;
    small = pos A c ms k T;
    poly = hh;
    monos = e;
    whole = sym (ap (λ z. add A.prime z h) (multiple_none A c (polynomial_of m) hm) ∙ canonical_same A.prime h hh.canonical);
    alone = λ z. refl;
  }

  parted : (ss : List Monomial) (m : Monomial) (h : List Term) → ((w : Monomial) → Contains ss w → cmp_dp w m ≡ Less) → Poly (polynomial_of m) → Poly h → EachMono (Contains (ss ++ m ∷ [])) h → Parted ss m h
  parted ss m [] above hm hh e = no_part ss m [] hm hh tt
  parted ss m (t ∷ f) above hm hh e = go (Contains-push_cases ss m t.mono e.0)
    where
      low : EachMono (λ w. cmp_dp w t.mono ≡ Less) f
      low = below_lead A.prime t f hh.canonical

      tail : Poly f
      tail = record { canonical = hh.canonical.3; affine = hh.affine.1 }

      -- the first term is the multiple of its monomial
      term : multiple A.prime t.coeff (polynomial_of t.mono) ≡ t ∷ []
      term = (let q : t.coeff * 1 ≡ t.coeff = omega arith in ap (λ z. keep (z % A.prime) t.mono []) q) ∙ canonical_same A.prime (t ∷ []) (hh.canonical.0, hh.canonical.1, tt, tt)

      go : Contains ss t.mono ⊎ (m ≡ t.mono) → Parted ss m (t ∷ f)
      go (inl d) =
          no_part ss m (t ∷ f) hm hh
          (d, all_kept ss m f (every_more (λ w. cmp_dp w t.mono ≡ Less) (λ w. cmp_dp w m ≡ Less) f (λ w l. dp_total.trans w t.mono m l (above t.mono d)) low) e.1)
      go (inr d) = record {
        coeff = t.coeff;
        rest = f;
        small = hh.canonical.1;
        poly = tail;
        monos = all_kept ss m f (subst (λ z. EachMono (λ w. cmp_dp w z ≡ Less) f) (sym d) low) e.1;
        whole = sym (ap (λ z. add A.prime (multiple A.prime t.coeff (polynomial_of z)) f) d ∙ ap (λ z. add A.prime z f) term ∙ canonical_same A.prime (t ∷ f) hh.canonical);
        alone = λ z. absurd (let q = hh.canonical.0 in omega arith);
      }

  module _ (space span : Subspace) (ss ls : List Monomial) (h : IsStaircase A ms T space span ss ls) (m : Monomial) (affine : IsAffine A.variables m)
      (above : (w : Monomial) → IsAmong ss ls w → cmp_dp w m ≡ Less) (outside : HasDivisor ls m → ⊥) (low : total_degree m.exponents ≤ length ss) (row : List ℕ) (digits : AreDigits A ms T (polynomial_of m) row) where
    abbrev x : List Term
    x = polynomial_of m

    hx : Poly (polynomial_of m)
    hx = affine_poly A c ms k T m affine

    positive : 0 < A.prime
    positive = pos A c ms k T

    module _ (new : Subspace) (apart : IsIn span row → ⊥) (g : Gains span row new) (room : length new.basis ≤ W A c ms k T) where
      abbrev more : List Monomial
      more = ss ++ m ∷ []

      wider : (w : Monomial) → Contains ss w → Contains (ss ++ m ∷ []) w
      wider w d = Contains-append_left ss (m ∷ []) w d

      -- f - (e m + h) is (f - e m) - h
      turned : (e : ℕ) (f r : List Term) → Poly f → Poly r → sub A.prime (sub A.prime f (multiple A.prime e (polynomial_of m))) r ≡ sub A.prime f (add A.prime (multiple A.prime e (polynomial_of m)) r)
      turned e f r hf hr = in_turn (Ring A c.curve) (member A c.curve f hf) (member A c.curve (multiple A.prime e (polynomial_of m)) (poly_multiple A.prime A.variables e (polynomial_of m) positive hx)) (member A c.curve r hr)

      forth : (f : List Term) → Poly f → In A c ms k T new f → IsClassOf A ms T space (Contains (ss ++ m ∷ [])) f
      forth f hf i =
          let q = gained A c ms k T span new h.of_digits row g (polynomial_of m) f hx hf digits i in
          let hq = poly_multiple A.prime A.variables q.0 (polynomial_of m) positive hx in
          let s = (h.spans (sub A.prime f (multiple A.prime q.0 (polynomial_of m))) (less f q.0 hf)).0 q.1 in
          record {
            sum = add A.prime (multiple A.prime q.0 (polynomial_of m)) s.sum;
            poly = poly_add A.prime A.variables (multiple A.prime q.0 (polynomial_of m)) s.sum positive hq s.poly;
            monos = every_add (Contains (ss ++ m ∷ [])) A.prime (multiple A.prime q.0 (polynomial_of m)) s.sum
                (every_multiple (Contains (ss ++ m ∷ [])) A.prime q.0 (polynomial_of m) (Contains-push ss m, tt)) (every_more (Contains ss) (Contains (ss ++ m ∷ [])) s.sum wider s.monos);
            close = subst (In A c ms k T space) (turned q.0 f s.sum hf s.poly) s.close;
          }
        where
          less : (f : List Term) (e : ℕ) → Poly f → Poly (sub A.prime f (multiple A.prime e (polynomial_of m)))
          less f e hf = poly_add A.prime A.variables f (multiple A.prime (A.prime - 1) (multiple A.prime e (polynomial_of m))) positive hf
              (poly_multiple A.prime A.variables (A.prime - 1) (multiple A.prime e (polynomial_of m)) positive (poly_multiple A.prime A.variables e (polynomial_of m) positive hx))

      lower : (w : Monomial) → Contains ss w → cmp_dp w m ≡ Less
      lower w d = above w (inl d)

      back : (f : List Term) → Poly f → IsClassOf A ms T space (Contains (ss ++ m ∷ [])) f → In A c ms k T new f
      back f hf q =
          let s = parted ss m q.sum lower hx q.poly q.monos in
          let hs = poly_multiple A.prime A.variables s.coeff (polynomial_of m) positive hx in
          let less = poly_add A.prime A.variables f (multiple A.prime (A.prime - 1) (multiple A.prime s.coeff (polynomial_of m))) positive hf
          (poly_multiple A.prime A.variables (A.prime - 1) (multiple A.prime s.coeff (polynomial_of m)) positive hs) in
          regained A c ms k T span new h.of_digits row g s.coeff (polynomial_of m) f hx hf digits
          ((h.spans (sub A.prime f (multiple A.prime s.coeff (polynomial_of m))) less).1 (record {
            sum = s.rest;
            poly = s.poly;
            monos = s.monos;
            close = subst (In A c ms k T space) (ap (sub A.prime f) s.whole ∙ sym (turned s.coeff f s.rest hf s.poly)) q.close;
          }))

      -- a multiple of m that is a sum of the others would bring m into the span
      none : (e : ℕ) → 0 < e → e < A.prime → In A c ms k T span (multiple A.prime e (polynomial_of m)) → ⊥
      none e lo hi i =
          let V = rows A.prime (W A c ms k T) in
          let R = RM A c ms k T in
          let y : List ℕ = V.◌·◌ e row in
          let there : Span A c ms k T span.basis y =
          up A c ms k T span h.of_digits y (k_row A c ms k T span h.of_digits (multiple A.prime e (polynomial_of m)) y (poly_multiple A.prime A.variables e (polynomial_of m) positive hx)
          ((laws A c ms k T).multiple e (polynomial_of m) row hx digits) i) in
          let n = inverse A.prime c.curve.prime e lo hi in
          let S = Modules.span_submodule (Scalars A c ms k T) R span.basis in
          let one : (n.0 * e) % A.prime % A.prime ≡ 1 % A.prime = ap (λ z. z % A.prime) n.1 in
          apart (down A c ms k T span h.of_digits row
          (S.resp (V.◌·◌ n.0 y) row
          (R.trans {x = V.◌·◌ n.0 y} {y = V.◌·◌ ((n.0 * e) % A.prime) row} {z = row} (R.symm {x = V.◌·◌ ((n.0 * e) % A.prime) row} {y = V.◌·◌ n.0 y} (R.product_scale n.0 e row))
          (R.trans {x = V.◌·◌ ((n.0 * e) % A.prime) row} {y = V.◌·◌ 1 row} {z = row} (R.scale_cong {x = row} {x' = row} one (R.rfl row)) (R.one_scale row)))
          (S.scale n.0 y there)))

      free : (f : List Term) → Poly f → EachMono (Contains (ss ++ m ∷ [])) f → In A c ms k T space f → f ≡ []
      free f hf e i = go s.coeff refl
        where
          s : Parted ss m f
          s = parted ss m f lower hx hf e

          go : (n : ℕ) → s.coeff ≡ n → f ≡ []
          go zero z = let q = s.alone z in q ∙ h.free s.rest s.poly s.monos (subst (In A c ms k T space) q i)
          go (suc n) z =
              let hs = poly_multiple A.prime A.variables s.coeff (polynomial_of m) positive hx in
              let hr = poly_multiple A.prime A.variables (A.prime - 1) s.rest positive s.poly in
              absurd (none s.coeff (omega arith) s.small ((h.spans (multiple A.prime s.coeff (polynomial_of m)) hs).1 (record {
                sum = multiple A.prime (A.prime - 1) s.rest;
                poly = hr;
                monos = every_multiple (Contains ss) A.prime (A.prime - 1) s.rest s.monos;
                close = subst (In A c ms k T space) (s.whole ∙ sym (minus_minus (Ring A c.curve) (member A c.curve (multiple A.prime s.coeff (polynomial_of m)) hs) (member A c.curve s.rest s.poly))) i;
              })))

      pub put_standard : IsStaircase A ms T space new (ss ++ m ∷ []) ls
      put_standard = record {
        affine = λ w d. each_affine w d;
        rising = pairs_last (λ a b. cmp_dp a b ≡ Less) ss m h.rising lower;
        minimal = h.minimal;
        outside = λ s d q. not_multiple s q (Contains-push_cases ss m s d);
        low = λ s d. low_one s (Contains-push_cases ss m s d);
        reach = λ l d. (let a = h.reach l d in let q = length_push ss m in omega arith);
        free = free;
        reducible = λ l d. let q = h.reducible l d in record {
          sum = q.sum;
          poly = q.poly;
          monos = every_more (λ w. Contains ss w × (cmp_dp w l ≡ Less)) (λ w. Contains (ss ++ m ∷ []) w × (cmp_dp w l ≡ Less)) q.sum (λ w b. (wider w b.0, b.1)) q.monos;
          close = q.close;
        };
        of_digits = gained_digits A c ms k T span new h.of_digits row g;
        few = (let a = h.few in let b = g.more in let l = length_push ss m in omega arith);
        within = room;
        spans = λ f hf. (forth f hf, back f hf);
      }
        where
          each_affine : (w : Monomial) → IsAmong (ss ++ m ∷ []) ls w → IsAffine A.variables w
          each_affine w (inr d) = h.affine w (inr d)
          each_affine w (inl d) = go (Contains-push_cases ss m w d)
            where
              go : Contains ss w ⊎ (m ≡ w) → IsAffine A.variables w
              go (inl e) = h.affine w (inl e)
              go (inr e) = subst (IsAffine A.variables) e affine

          not_multiple : (s : Monomial) → HasDivisor ls s → Contains ss s ⊎ (m ≡ s) → ⊥
          not_multiple s q (inl d) = h.outside s d q
          not_multiple s q (inr e) = outside (subst (HasDivisor ls) (sym e) q)

          low_one : (s : Monomial) → Contains ss s ⊎ (m ≡ s) → total_degree s.exponents < length (ss ++ m ∷ [])
          low_one s (inl d) = let a = h.low s d in let l = length_push ss m in omega arith
          low_one s (inr e) = let l = length_push ss m in subst (λ z. total_degree z.exponents < length (ss ++ m ∷ [])) e (omega arith)

    -- ---- a lead

    module _ (residues : List ℕ) (sum : IsSumOfBasis span residues row) where
      there : In A c ms k T span (polynomial_of m)
      there = (row, digits, (residues, sum.fit.0, sum.sum))

      reducible : IsReducible A ms T space ss m
      reducible =
          let q = (h.spans (polynomial_of m) hx).0 there in
          record {
            sum = q.sum;
            poly = q.poly;
            monos = every_more (Contains ss) (λ w. Contains ss w × (cmp_dp w m ≡ Less)) q.sum (λ w d. (d, above w (inl d))) q.monos;
            close = q.close;
          }

      pub put_lead : IsStaircase A ms T space span ss (ls ++ m ∷ [])
      put_lead = record {
        affine = λ w d. each_affine w d;
        rising = h.rising;
        minimal = pairs_last (λ a b. (cmp_dp a b ≡ Less) × (Divides a b → ⊥)) ls m h.minimal (λ w d. (above w (inr d), λ q. outside (w, d, q)));
        outside = λ s d q. not_multiple s d q (Contains-push_cases ls m q.0 q.1);
        low = h.low;
        reach = λ l d. far l (Contains-push_cases ls m l d);
        free = h.free;
        reducible = λ l d. one l (Contains-push_cases ls m l d);
        of_digits = h.of_digits;
        few = h.few;
        within = h.within;
        spans = h.spans;
      }
        where
          each_affine : (w : Monomial) → IsAmong ss (ls ++ m ∷ []) w → IsAffine A.variables w
          each_affine w (inl d) = h.affine w (inl d)
          each_affine w (inr d) = go (Contains-push_cases ls m w d)
            where
              go : Contains ls w ⊎ (m ≡ w) → IsAffine A.variables w
              go (inl e) = h.affine w (inr e)
              go (inr e) = subst (IsAffine A.variables) e affine

          not_multiple : (s : Monomial) → Contains ss s → (q : HasDivisor (ls ++ m ∷ []) s) → Contains ls q.0 ⊎ (m ≡ q.0) → ⊥
          not_multiple s d q (inl e) = h.outside s d (q.0, e, q.2)
          not_multiple s d q (inr e) =
              no_smaller_multiple m s (affine.seven ∙ sym (h.affine s (inl d)).seven) (subst (λ z. Divides z s) (sym e) q.2) (above s (inl d))

          far : (l : Monomial) → Contains ls l ⊎ (m ≡ l) → total_degree l.exponents ≤ length ss
          far l (inl d) = h.reach l d
          far l (inr e) = subst (λ z. total_degree z.exponents ≤ length ss) e low

          one : (l : Monomial) → Contains ls l ⊎ (m ≡ l) → IsReducible A ms T space ss l
          one l (inl d) = h.reducible l d
          one l (inr e) = subst (IsReducible A ms T space ss) e reducible
