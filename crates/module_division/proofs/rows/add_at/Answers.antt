use Rattle.std.proofs.Common.{arith, sym}
use Rattle.std.proofs.lemmas.List.{get_or_read}
use Rattle.module_division.proofs.RowTerms.{row_set}
use Rattle.module_division.proofs.rows.add_at.Goals as goal

pub returns-clause-sum : goal.returns-clause-sum
returns-clause-sum c = λ _.
    let cs = c.args.row.now.items in
    let z = c.args.guess in
    let f = c.if-guess-from.false in
    let column = c.is_column.ensures c.if-not-is_column.false in
    let inside = column.0 in
    row_set c.args.p c.args.columns.now cs c.args.from z (record { coeff = c.args.c; mono = c.args.m.now }) c.index.result.now c.kept_small.result (omega arith) inside c.requires.same_length
    (sym (column.1 c.args.m.now)) (get_or_read cs z c.index.result.now (let q = c.requires.same_length in omega arith) c.index.ensures 0) c.kept_small.ensures.same
