use Rattle.std.proofs.Common.{◌≡◌, ℕ, ◌*◌, ◌%◌, ◌<◌, [], ◌∷◌, ◌++◌, length, get_or, arith, ◌∙◌, ap, sym, subst, take, drop}
use Rattle.std.proofs.lemmas.List.{get_or-map, get_or_default}
use Rattle.lane_rows.specs.Rows.{AreResidues, multiple}
use Rattle.row_space.specs.Sums.{Covers}
use Rattle.row_space.proofs.Adding.{IsStep, cleared_same, added, covers, covered}
use Rattle.row_space.proofs.Written.{written_whole}
use Rattle.row_space.proofs.elimination.add_row.Goals as goal

row_written : (c : goal.After-push_reserved-2) → take c.args.row.len (c.scale.new.row ++ drop (length c.scale.new.row) c.args.row.items) ≡ c.scale.new.row
row_written c = written_whole c.args.row.len c.scale.new.row c.args.row.items (omega (arith, c.as_mut_slice.ensures.len, c.scale.auto.row))

rows_are : (c : goal.After-push_reserved-2) → c.push_reserved.new.self.items ≡ c.clear_column.new.rows ++ c.scale.new.row ∷ []
rows_are c =
    c.push_reserved.ensures.items
    ∙ ap (λ rows. rows ++ c.of_vec.result ∷ []) (written_whole _ c.clear_column.new.rows c.reserve.new.self.items (omega (arith, c.as_mut_slice-2.ensures.len, c.clear_column.auto.rows)))
    ∙ ap (λ row. c.clear_column.new.rows ++ row ∷ []) (c.of_vec.ensures ∙ row_written c)

pivots_are : (c : goal.After-push_reserved-2) → c.push_reserved-2.new.self.items ≡ c.args.pivots.now.items ++ c.args.pivot ∷ []
pivots_are c = c.push_reserved-2.ensures.items ∙ ap (λ pivots. pivots ++ c.args.pivot ∷ []) c.reserve-else-is_err.ensures.items

multiple_is : (c : goal.After-push_reserved-2) (k : ℕ) → k < length c.args.row.items → get_or c.scale.new.row k 0 ≡ (c.inv-inverse.result * get_or c.args.row.items k 0) % c.args.prime
multiple_is c k h =
    ap (λ row. get_or row k 0) (c.scale.ensures.product ∙ ap (multiple c.get-p.result c.inv-inverse.result) c.as_mut_slice.ensures.value)
    ∙ get_or-map (λ x. (c.inv-inverse.result * x) % c.get-p.result) c.args.row.items k 0 0 h
    ∙ ap (λ p. (c.inv-inverse.result * get_or c.args.row.items k 0) % p) c.get-p.ensures.value

step : (c : goal.After-push_reserved-2) → IsStep c.args.prime (length c.args.row.items) c.args.pivot c.inv-inverse.result c.args.rows.now.items c.clear_column.new.rows c.args.pivots.now.items c.args.row.items c.scale.new.row
step c =
    let entry_is : c.index.result.now ≡ get_or c.args.row.items c.args.pivot 0 = c.index.ensures ∙ get_or_default c.args.row.items c.args.pivot c.index.result.now 0 c.requires.first.within in
    let same_length : length c.scale.new.row ≡ length c.args.row.items = omega (arith, c.scale.auto.row, ap length c.as_mut_slice.ensures.value) in
    record {
      two = omega (arith, c.get-p.ensures.range, c.get-p.ensures.value);
      echelon = c.requires.echelon;
      inside = c.requires.first.within;
      nonzero = ap (λ n. (n * c.inv-inverse.result) % c.args.prime) (sym entry_is) ∙ c.inv-inverse.ensures.inverse;
      front = λ k h. c.requires.first.before k h;
      zeros = c.requires.zero;
      fits = (same_length, subst (λ p. AreResidues p c.scale.new.row) c.get-p.ensures.value c.scale.ensures.residues);
      multiple = multiple_is c;
      long = omega (arith, c.clear_column.auto.rows, ap length c.reserve.ensures.items, ap length c.as_mut_slice-2.ensures.value);
      cleared = (let row_is = c.as_slice.ensures.value ∙ row_written c in
          cleared_same c.get-p.result c.args.prime (length c.as_slice.result.now) (length c.args.row.items) c.args.pivot c.as_slice.result.now c.scale.new.row c.as_mut_slice-2.result.now c.args.rows.now.items c.clear_column.new.rows
          c.get-p.ensures.value (ap length row_is ∙ same_length) row_is (c.as_mut_slice-2.ensures.value ∙ c.reserve.ensures.items) c.clear_column.ensures);
    }

pub returns-clause-echelon : goal.returns-clause-echelon
returns-clause-echelon c =
    rw (rows_are c, pivots_are c)
    (added c.args.prime (length c.args.row.items) c.args.pivot c.inv-inverse.result c.args.rows.now.items c.clear_column.new.rows c.args.pivots.now.items c.args.row.items c.scale.new.row (step c))

pub returns-clause-covers : goal.returns-clause-covers
returns-clause-covers c =
    subst (λ rows. Covers c.args.prime (length c.args.row.items) rows (c.args.row.items ∷ c.args.rows.now.items)) (sym (rows_are c))
    (covers c.args.prime (length c.args.row.items) c.args.pivot c.inv-inverse.result c.args.rows.now.items c.clear_column.new.rows c.args.pivots.now.items c.args.row.items c.scale.new.row (step c))

pub returns-clause-covered : goal.returns-clause-covered
returns-clause-covered c =
    subst (λ rows. Covers c.args.prime (length c.args.row.items) (c.args.row.items ∷ c.args.rows.now.items) rows) (sym (rows_are c))
    (covered c.args.prime (length c.args.row.items) c.args.pivot c.inv-inverse.result c.args.rows.now.items c.clear_column.new.rows c.args.pivots.now.items c.args.row.items c.scale.new.row (step c))
