use Rattle.std.proofs.Common.{◌≡◌, ℕ, ◌-◌, ◌%◌, map, List, get_or, ◌<◌, ◌+◌, ◌≤◌, ◌∷◌, ◌++◌, [], length, drop, sym, ap, ◌∙◌, subst, arith}
use Rattle.monomials.specs.Mono.{Monomial, IsMono, Divides, times, total_degree}
use Rattle.std.specs.List.{All}
use Rattle.std.proofs.lemmas.List.{get_or_read}
use Rattle.prime_field.specs.Primes.{IsPrime}
use Rattle.polys.specs.declared.term.Term.{Term}
use Rattle.polys.specs.Terms.{add, degree_of}
use Rattle.polys.specs.Poly.{Polynomial, terms_of}
use Rattle.graded_modules.specs.Vector.{lead_mono}
use Rattle.module_division.specs.Division.{IsDivisor, term_product}
use Rattle.module_division.specs.Rows.{AreFalling, row_terms}
use Rattle.module_division.proofs.Steps.{Opposes, opposes}
use Rattle.module_division.proofs.RowSteps.{IsRow, divided_skip, divided_put, divided_by, vector_at, row_from}
use Rattle.module_division.proofs.rows.row_remainder.Goals.{then-coeff-ne0+in-None+in_ok-push-in-None, then-coeff-ne0+in-Some-find_divisor+in_ok-start-in-Some-find_divisor+else-not-found+else-residue-ne0, else-coeff-ne0}
use Rattle.module_division.proofs.rows.row_remainder.Goals as goal

-- the multiple that takes the column away
at_step : (p : ℕ) (fs : List Polynomial) (v out : List Term) (ms : List Monomial) (cs : List ℕ) (i : ℕ) (m : Monomial) (c k : ℕ) (b : Polynomial) (lead q : Monomial) (n : ℕ)
    → i < length ms → IsRow p (terms_of fs) v out ms cs i → AreFalling ms → All (IsDivisor p) fs → m ≡ get_or ms i m → c ≡ get_or cs i 0 % p → 0 < c
    → k < length fs → b ≡ get_or fs k b → ((d : Polynomial) → Divides (lead_mono (get_or fs k d).terms) m) → lead ≡ lead_mono b.terms → IsMono q → times q lead ≡ m → n ≡ (p - c) % p
    → Opposes p (terms_of fs) b.terms (record { coeff = n; mono = q }) (record { coeff = c; mono = m })
at_step p fs v out ms cs i m c k b lead q n inside r falling divisors em ec some below eb divides el mono top opposite =
    let w = vector_at p (terms_of fs) v out ms cs i inside r.same_length m c em ec falling some r.divided in
    opposes p fs k b (record { coeff = c; mono = m }) (row_from p ms cs (i + 1)) q n below eb divisors w divides mono (subst (λ x. times q x ≡ m) el top) opposite

-- the entry of the column
entry : (p : ℕ) (ms : List Monomial) (cs : List ℕ) (i x c : ℕ) → i < length ms → length cs ≡ length ms → x ≡ get_or cs i x → c ≡ x % p → c ≡ get_or cs i 0 % p
entry p ms cs i x c inside same_length e h = h ∙ ap (λ (n : ℕ). n % p) (get_or_read cs i x (omega arith) e 0)

pub add_multiple-found-requires-clause-room : goal.add_multiple-found-requires-clause-room
add_multiple-found-requires-clause-room c =
    let inv = c.loop-i.invariant in
    let e = entry c.args.p c.args.columns.now c.loop-i.row.items c.loop-i.i c.index.result.now c.residue-coeff.result c.loop-i-test.true inv.same_length c.index.ensures c.residue-coeff.ensures.value in
    subst (λ f. degree_of f + total_degree c.quotient.result.exponents ≤ 60000) (sym c.terms-terms.ensures.value)
    (at_step c.args.p c.args.divisors.now c.args.v.now c.loop-i.out.items c.args.columns.now c.loop-i.row.items c.loop-i.i c.index-columns-i.result c.residue-coeff.result c.in-Some-find_divisor.k
    c.index-divisors-k.result c.lead_mono.result c.quotient.result c.neg.result c.loop-i-test.true inv c.requires.falling c.requires.divisors c.index-columns-i.is e
    (let h = c.if-coeff-ne0.true in omega arith) c.in-Some-find_divisor.ensures.0 c.index-divisors-k.is c.in-Some-find_divisor.ensures.1 c.lead_mono.ensures c.quotient.ensures.known
    c.quotient.ensures.value c.neg.ensures.opposite).room

pub loop-i-preserved : goal.loop-i-preserved
loop-i-preserved c =
    let p = c.args.p in
    let ms = c.args.columns.now in
    let cs = c.loop-i.row.items in
    let i = c.loop-i.i in
    let v = c.args.v.now in
    let bs = terms_of c.args.divisors.now in
    let inv = c.loop-i.invariant in
    let inside : i < length ms = c.loop-i-test.true in
    let R = IsRow p bs v in
    let k = c.residue-coeff.result in
    let e = entry p ms cs i c.index.result.now k inside inv.same_length c.index.ensures c.residue-coeff.ensures.value in
    elim c.if-coeff-ne0.branch [
      | then-coeff-ne0+in-None+in_ok-push-in-None w ↦
          subst (λ out. R out ms c.if-coeff-ne0.row.items (i + 1)) (sym (ap (λ o. o.items) w.out-is ∙ w.in_ok-push-in-None.ensures.items))
          (subst (λ row. R (c.loop-i.out.items ++ record { coeff = k; mono = w.index-columns-i.result } ∷ []) ms row.items (i + 1)) (sym w.row-is) (record {
            same_length = inv.same_length;
            entries = inv.entries;
            divided = divided_put p bs v c.loop-i.out.items ms cs i inside inv.same_length w.index-columns-i.result k w.index-columns-i.is e c.requires.falling (let h = w.if-coeff-ne0.true in omega arith)
                w.in-None.ensures inv.divided;
          }))
      | then-coeff-ne0+in-Some-find_divisor+in_ok-start-in-Some-find_divisor+else-not-found+else-residue-ne0 w ↦
          let some : 0 < k = let h = w.if-coeff-ne0.true in omega arith in
          let o =
          at_step p c.args.divisors.now v c.loop-i.out.items ms cs i w.index-columns-i.result k w.in-Some-find_divisor.k w.index-divisors-k.result w.lead_mono.result
          w.quotient.result w.neg.result inside inv c.requires.falling c.requires.divisors w.index-columns-i.is e some
          w.in-Some-find_divisor.ensures.0 w.index-divisors-k.is w.in-Some-find_divisor.ensures.1 w.lead_mono.ensures w.quotient.ensures.known w.quotient.ensures.value w.neg.ensures.opposite in
          let new = w.add_multiple-found.new.row.items in
          let same = w.add_multiple-found.ensures.same_length ∙ inv.same_length in
          let at_zero : get_or new i 0 % p ≡ 0 = sym (entry p ms new i w.index-else-not-found.result.now w.residue.result inside same w.index-else-not-found.ensures w.residue.ensures.value) ∙ w.if-residue-ne0.false in
          subst (λ out. R out.items ms c.if-coeff-ne0.row.items (i + 1)) (sym w.out-is)
          (subst (λ row. R c.loop-i.out.items ms row.items (i + 1)) (sym w.row-is) (record {
            same_length = same;
            entries = w.add_multiple-found.ensures.entries;
            divided = divided_skip p bs v c.loop-i.out.items ms new i inside same at_zero
                (divided_by p bs v c.loop-i.out.items ms cs i inside inv.same_length w.index-columns-i.result k w.index-columns-i.is e c.requires.falling some
                w.index-divisors-k.result.terms (record { coeff = w.neg.result; mono = w.quotient.result }) new (subst IsPrime c.get-prime.ensures.value c.get-prime.ensures.prime) o inv.divided
                (w.add_multiple-found.ensures.sum w.if-not-found.false
                ∙ ap (λ x. add p (row_terms (drop i ms) (drop i cs)) (map (term_product p (record { coeff = w.neg.result; mono = w.quotient.result })) x)) w.terms-terms.ensures.value));
          }))
      | else-coeff-ne0 w ↦
          subst (λ out. R out.items ms c.if-coeff-ne0.row.items (i + 1)) (sym w.out-is)
          (subst (λ row. R c.loop-i.out.items ms row.items (i + 1)) (sym w.row-is) (record {
            same_length = inv.same_length;
            entries = inv.entries;
            divided = divided_skip p bs v c.loop-i.out.items ms cs i inside inv.same_length (sym e ∙ w.if-coeff-ne0.false) inv.divided;
          }))
    ]
