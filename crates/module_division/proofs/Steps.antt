-- Steps of a division.
use Rattle.std.proofs.Common.{◌≡◌, ℕ, ◌+◌, ◌-◌, ◌*◌, ◌%◌, ◌<◌, ◌≤◌, List, [], ◌∷◌, ◌++◌, map, length, get_or, refl, sym, ap, ◌∙◌, subst, arith, append_assoc}
use Rattle.std.specs.List.{All, Contains}
use Rattle.std.specs.declared.cmp.Ordering.TheVariants.{Greater}
use native.Mathlib.Nat.{mod-eq_of_lt, mod_self}
use Rattle.std.proofs.lemmas.List.{get_or-map, length-map, map-append}
use Rattle.std.proofs.lemmas.List.Elements.{Contains-append_right}
use Rattle.prime_field.specs.Primes.{IsPrime}
use Rattle.monomials.specs.Mono.{Monomial, IsMono, Divides, times, total_degree, cmp_dp}
use Rattle.monomials.proofs.Exponents.{total_degree-plus}
use Rattle.monomials.proofs.Order.{times_comm, turn_down, chain_up}
use Rattle.polys.specs.declared.term.Term.{Term}
use Rattle.polys.specs.Terms.{Under, IsCanonical, EachMono, IsMonic, add, mul, degree_of}
use Rattle.polys.specs.Poly.{Polynomial, IsVector, IsPlain, terms_of}
use Rattle.polys.proofs.Weights.{weigh, weigh-normal, canon, normal_same, normal_ext}
use Rattle.polys.proofs.Sums.{alike_append}
use Rattle.polys.proofs.Each.{every_append, every_add, every_under}
use Rattle.polys.proofs.Leads.{every_low}
use Rattle.polys.proofs.Merge.{merge_start, merge_none, add_vector}
use Rattle.polys.proofs.Products.{times_term}
use Rattle.polys.proofs.Degrees.{degree_le}
use Rattle.graded_modules.specs.Vector.{lead_mono}
use Rattle.graded_modules.specs.Module.{IsLeadMultiple}
use Rattle.module_division.specs.Division.{IsDivisor, Reduces}
use Rattle.module_division.proofs.Rank.{rank, first_rank, first_rank-cons, first_rank-none, rank_rises}
use Rattle.module_division.proofs.Merging.{multiple_vector, product_of_term}

-- no lead of the first i divides m
abbrev pub NoneBelow : List Polynomial → Monomial → ℕ → Type 0
NoneBelow fs m i = (k : ℕ) → k < i → (d : Polynomial) → Divides (lead_mono (get_or fs k d).terms) m → ⊥

pub none_divides : (fs : List Polynomial) (m : Monomial) → NoneBelow fs m (length fs) → IsLeadMultiple (terms_of fs) m → ⊥
none_divides fs m h w =
    let b = w.0 in
    let k = w.1.0 in
    let inside : k < length fs = subst (λ n. k < n) (length-map fs (λ f. f.terms)) w.1.1 in
    let e : get_or (terms_of fs) k b ≡ (get_or fs k (record { prime = 0; terms = b })).terms = get_or-map (λ (f : Polynomial). f.terms) fs k (record { prime = 0; terms = b }) b inside in
    h k inside (record { prime = 0; terms = b }) (subst (λ c. Divides (lead_mono c) m) (sym w.1.2 ∙ e) w.2)

-- ---- what has been done, and what is left

canonical_swap : (p : ℕ) (xs f g : List Term) → IsCanonical p (xs ++ f) → IsCanonical p g → ((w : Monomial) → Under w f → Under w g) → IsCanonical p (xs ++ g)
canonical_swap p [] f g c d low = d
canonical_swap p (x ∷ xs) f g c d low = (c.0, c.1, go xs c.2, canonical_swap p xs f g c.3 d low)
  where
    go : (ys : List Term) → Under x.mono (ys ++ f) → Under x.mono (ys ++ g)
    go [] u = low x.mono u
    go (y ∷ ys) u = u

pub canonical_back : (p : ℕ) (xs f : List Term) → IsCanonical p (xs ++ f) → IsCanonical p f
canonical_back p [] f c = c
canonical_back p (x ∷ xs) f c = canonical_back p xs f c.3

each_front : (P : Monomial → Type 0) (xs f : List Term) → EachMono P (xs ++ f) → EachMono P xs
each_front P [] f h = tt
each_front P (x ∷ xs) f h = (h.0, each_front P xs f h.1)

each_back : (P : Monomial → Type 0) (xs f : List Term) → EachMono P (xs ++ f) → EachMono P f
each_back P [] f h = h
each_back P (x ∷ xs) f h = each_back P xs f h.1

-- the steps so far take v to out and rest, and no lead divides a monomial of out
pub record Divided (p : ℕ) (bs : List (List Term)) (v out rest : List Term) : Type 0 where
  pub reduces : Reduces p bs v (out ++ rest)
  pub vector : IsVector p (out ++ rest)
  pub outside : EachMono (λ m. IsLeadMultiple bs m → ⊥) out

pub divided_start : (p : ℕ) (bs : List (List Term)) (v : List Term) → IsVector p v → Divided p bs v [] v
divided_start p bs v h = record { reduces = record { steps = []; each = tt; left = refl }; vector = h; outside = tt }

pub divided_keep : (p : ℕ) (bs : List (List Term)) (v out rest : List Term) (t : Term) → (IsLeadMultiple bs t.mono → ⊥)
    → Divided p bs v out (t ∷ rest) → Divided p bs v (out ++ t ∷ []) rest
divided_keep p bs v out rest t none d = record {
  reduces = rw append_assoc d.reduces;
  vector = rw append_assoc d.vector;
  outside = every_append (λ m. IsLeadMultiple bs m → ⊥) out (t ∷ []) d.outside (none, tt);
}

pub left_vector : (p : ℕ) (out rest : List Term) → IsVector p (out ++ rest) → IsVector p rest
left_vector p out rest h = record { canonical = canonical_back p out rest h.canonical; monos = each_back IsMono out rest h.monos }

abbrev pub Below : Monomial → Monomial → Type 0
Below m w = cmp_dp m w ≡ Greater

-- what is left after a step that takes away the first monomial
pub record TakenAway (p : ℕ) (t : Term) (f g : List Term) : Type 0 where
  pub vector : IsVector p g
  pub below : EachMono (Below t.mono) g

module _ (p : ℕ) (prime : IsPrime p) (bs : List (List Term)) (b : List Term) (s : Term) (t : Term) (f : List Term)
    (divisor : IsDivisor p (record { prime = p; terms = b })) (member : Contains bs b)
    (not_zero : 0 < s.coeff) (residue : s.coeff < p) (opposite : (t.coeff + s.coeff) % p ≡ 0)
    (mono : IsMono s.mono) (plain : IsPlain s.mono) (top_is : times (lead_mono b) s.mono ≡ t.mono)
    (room : degree_of b + total_degree s.mono.exponents ≤ 60000)
    (vector : IsVector p (t ∷ f)) where
  taken_by : (u : Term) (g : List Term) → b ≡ u ∷ g → TakenAway p t f (add p (t ∷ f) (mul p b (s ∷ [])))
  taken_by u g e =
      let B : List Term = map (times_term p s) b in
      let v : IsVector p B = multiple_vector p s b prime not_zero residue mono plain room divisor.vector in
      let x : Term = times_term p s u in
      let C : List Term = map (times_term p s) g in
      let eB : B ≡ x ∷ C = ap (map (times_term p s)) e in
      let vC : IsVector p (x ∷ C) = subst (IsVector p) eB v in
      let one : u.coeff ≡ 1 = subst IsMonic e divisor.monic in
      let same : t.mono ≡ x.mono = sym top_is ∙ ap (λ c. times (lead_mono c) s.mono) e in
      let xc : x.coeff ≡ s.coeff = ap (λ (k : ℕ). (k * s.coeff) % p) one ∙ ap (λ (k : ℕ). k % p) one_times ∙ mod-eq_of_lt residue in
      let zero' : (t.coeff + x.coeff) % p ≡ 0 = ap (λ (k : ℕ). (t.coeff + k) % p) xc ∙ opposite in
      let m = merge_none p [] t x f C (t ∷ f) (x ∷ C) (merge_start p (t ∷ f) (x ∷ C) vector.canonical vC.canonical) same zero' in
      let sum : add p f C ≡ add p (t ∷ f) (mul p b (s ∷ [])) =
      normal_ext p (f ++ C) ((t ∷ f) ++ (x ∷ C)) m.sums ∙ ap (add p (t ∷ f)) (sym eB ∙ product_of_term p s b prime not_zero residue divisor.vector) in
      record {
        vector = subst (IsVector p) sum (add_vector p f C (left_vector p (t ∷ []) f vector) (left_vector p (x ∷ []) C vC));
        below = subst (EachMono (Below t.mono)) sum
            (every_add (Below t.mono) p f C (every_low p t.mono f (canon p f vector.canonical.3) vector.canonical.2)
            (subst (λ w. EachMono (Below w) C) (sym same) (every_low p x.mono C (canon p C vC.canonical.3) vC.canonical.2)));
      }
    where
      one_times : 1 * s.coeff ≡ s.coeff
      one_times = omega arith

  pub taken : TakenAway p t f (add p (t ∷ f) (mul p b (s ∷ [])))
  taken = go b refl
    where
      go : (c : List Term) → b ≡ c → TakenAway p t f (add p (t ∷ f) (mul p b (s ∷ [])))
      go [] e = absurd (subst IsMonic e divisor.monic)
      go (u ∷ g) e = taken_by u g e

  pub divided_step : (v out : List Term) → Divided p bs v out (t ∷ f) → Divided p bs v out (add p (t ∷ f) (mul p b (s ∷ [])))
  divided_step v out d =
      let X : List Term = mul p b (s ∷ []) in
      let r : List Term = add p (t ∷ f) X in
      let c : IsCanonical p (out ++ r) =
      canonical_swap p out (t ∷ f) r d.vector.canonical taken.vector.canonical
      (λ w h. every_under (Below t.mono) w r (λ x k. chain_up w t.mono x h k) taken.below) in
      let e : add p (out ++ (t ∷ f)) X ≡ out ++ r =
      normal_ext p ((out ++ (t ∷ f)) ++ X) (out ++ r) (λ χ.
      ap (λ l. weigh χ l % p) (append_assoc out (t ∷ f) X)
      ∙ sym (alike_append p out out r ((t ∷ f) ++ X) (λ χ. refl) (λ χ. weigh-normal p χ ((t ∷ f) ++ X)) χ))
      ∙ normal_same p (out ++ r) (canon p (out ++ r) c) in
      record {
        reduces = record {
          steps = record { vector = b; term = s } ∷ d.reduces.steps;
          each = (
            record {
              member = member;
              not_zero = not_zero;
              residue = residue;
              mono = mono;
              plain = plain;
              there = subst (λ u. Contains (map (λ x. x.mono) u) (times (lead_mono b) s.mono)) d.reduces.left
                  (subst (Contains (map (λ x. x.mono) (out ++ (t ∷ f)))) (sym top_is) (mono_there out));
            },
            d.reduces.each,
          );
          left = sym e ∙ ap (λ u. add p u X) d.reduces.left;
        };
        vector = record { canonical = c; monos = every_append IsMono out r (each_front IsMono out (t ∷ f) d.vector.monos) taken.vector.monos };
        outside = d.outside;
      }
    where
      mono_there : (xs : List Term) → Contains (map (λ (x : Term). x.mono) (xs ++ (t ∷ f))) t.mono
      mono_there xs = subst (λ l. Contains l t.mono) (sym (map-append (λ (x : Term). x.mono) xs (t ∷ f)))
          (Contains-append_right (map (λ (x : Term). x.mono) xs) (map (λ (x : Term). x.mono) (t ∷ f)) t.mono (0, omega arith, refl))

-- the first monomial falls
pub rank_falls : (p : ℕ) (t : Term) (f g : List Term) → IsVector p (t ∷ f) → TakenAway p t f g → first_rank g < first_rank (t ∷ f)
rank_falls p t f [] v h = rw (first_rank-none, first_rank-cons t f) (omega arith)
rank_falls p t f (u ∷ g) v h =
    let r : rank u.mono < rank t.mono = rank_rises u.mono t.mono h.vector.monos.0 v.monos.0 (turn_down t.mono u.mono h.below.0) in
    rw (first_rank-cons u g, first_rank-cons t f) (omega arith)

pub rank_falls_on : (p : ℕ) (t : Term) (f : List Term) → IsVector p (t ∷ f) → first_rank f < first_rank (t ∷ f)
rank_falls_on p t f v =
    rank_falls p t f f v (record { vector = left_vector p (t ∷ []) f v; below = every_low p t.mono f (canon p f v.canonical.3) v.canonical.2 })

-- a divisor's multiple has room
pub divisor_room : (p : ℕ) (f : Polynomial) (s m : Monomial) → IsDivisor p f → IsMono m → times (lead_mono f.terms) s ≡ m
    → degree_of f.terms + total_degree s.exponents ≤ 60000
divisor_room p f s m h k e =
    let a : degree_of f.terms ≤ total_degree (lead_mono f.terms).exponents = degree_le (total_degree (lead_mono f.terms).exponents) f.terms h.tight in
    let b : total_degree m.exponents ≡ total_degree (lead_mono f.terms).exponents + total_degree s.exponents =
    ap (λ w. total_degree w.exponents) (sym e) ∙ total_degree-plus (lead_mono f.terms).exponents s.exponents in
    let c = k.bounded in
    omega arith

-- the multiple of a divisor by s has the opposite of t on top
pub record Opposes (p : ℕ) (bs : List (List Term)) (b : List Term) (s t : Term) : Type 0 where
  pub divisor : IsDivisor p (record { prime = p; terms = b })
  pub member : Contains bs b
  pub not_zero : 0 < s.coeff
  pub residue : s.coeff < p
  pub opposite : (t.coeff + s.coeff) % p ≡ 0
  pub mono : IsMono s.mono
  pub plain : IsPlain s.mono
  pub top_is : times (lead_mono b) s.mono ≡ t.mono
  pub room : degree_of b + total_degree s.mono.exponents ≤ 60000

pub opposes : (p : ℕ) (fs : List Polynomial) (k : ℕ) (b : Polynomial) (t : Term) (f : List Term) (q : Monomial) (c : ℕ) → k < length fs → b ≡ get_or fs k b → All (IsDivisor p) fs
    → IsVector p (t ∷ f) → ((d : Polynomial) → Divides (lead_mono (get_or fs k d).terms) t.mono) → IsMono q → times q (lead_mono b.terms) ≡ t.mono → c ≡ (p - t.coeff) % p
    → Opposes p (terms_of fs) b.terms (record { coeff = c; mono = q }) t
opposes p fs k b t f q c inside e all v divides mono e_top e_c =
    let h : IsDivisor p b = subst (IsDivisor p) (sym e) (all k b inside) in
    let d : Divides (lead_mono b.terms) t.mono = subst (λ g. Divides (lead_mono g.terms) t.mono) (sym e) (divides b) in
    let low : 0 < t.coeff = v.canonical.0 in
    let high : t.coeff < p = v.canonical.1 in
    let small : c ≡ p - t.coeff = e_c ∙ mod-eq_of_lt (omega arith) in
    let whole : t.coeff + c ≡ p = omega arith in
    let there : get_or (terms_of fs) k b.terms ≡ b.terms = get_or-map (λ (g : Polynomial). g.terms) fs k b b.terms inside ∙ ap (λ (g : Polynomial). g.terms) (sym e) in
    let count : length (terms_of fs) ≡ length fs = length-map fs (λ (g : Polynomial). g.terms) in
    let same = d.same in
    let parts : q.component + (lead_mono b.terms).component ≡ t.mono.component = ap (λ m. m.component) e_top in
    let top : times (lead_mono b.terms) q ≡ t.mono = times_comm (lead_mono b.terms) q ∙ e_top in
    record {
      divisor = record { prime = refl; vector = h.vector; monic = h.monic; tight = h.tight };
      member = (k, subst (λ n. k < n) (sym count) inside, there);
      not_zero = omega arith;
      residue = omega arith;
      opposite = ap (λ (n : ℕ). n % p) whole ∙ mod_self p;
      mono = mono;
      plain = omega arith;
      top_is = top;
      room = divisor_room p b q t.mono h v.monos.0 top;
    }

pub taken_after : (p : ℕ) (bs : List (List Term)) (b : List Term) (s t : Term) (f : List Term) → IsPrime p → Opposes p bs b s t → IsVector p (t ∷ f)
    → TakenAway p t f (add p (t ∷ f) (mul p b (s ∷ [])))
taken_after p bs b s t f prime o v = taken p prime bs b s t f o.divisor o.member o.not_zero o.residue o.opposite o.mono o.plain o.top_is o.room v

pub divided_after : (p : ℕ) (bs : List (List Term)) (b : List Term) (s t : Term) (f v out : List Term) → IsPrime p → Opposes p bs b s t → IsVector p (t ∷ f)
    → Divided p bs v out (t ∷ f) → Divided p bs v out (add p (t ∷ f) (mul p b (s ∷ [])))
divided_after p bs b s t f v out prime o h d = divided_step p prime bs b s t f o.divisor o.member o.not_zero o.residue o.opposite o.mono o.plain o.top_is o.room h v out d
