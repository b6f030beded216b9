use Rattle.std.proofs.Common.{◌+◌, ◌*◌, ◌%◌, get_or, length, arith}
use Rattle.lane_rows.proofs.Entries.{plus_multiple_is, residues_of, entries_of_parts}
use Rattle.lane_rows.proofs.multiples.axpy.Goals as goal

pub returns-clause-sum : goal.returns-clause-sum
returns-clause-sum c =
    plus_multiple_is c.args.p c.args.c c.args.into.now c.args.row.now c.axpy_rest.new.into (omega arith) (omega arith)
    (entries_of_parts (λ k x. (x + c.args.c * get_or c.args.row.now k 0) % c.args.p) (length c.args.into.now) c.axpy_groups-done.result c.args.into.now c.axpy_groups-done.new.into c.axpy_rest.new.into
    c.axpy_groups-done.ensures.done c.axpy_groups-done.ensures.kept c.axpy_rest.ensures.kept (λ k a b. c.axpy_rest.ensures.done k a (omega arith)))

pub returns-clause-residues : goal.returns-clause-residues
returns-clause-residues c =
    residues_of c.args.p c.axpy_rest.new.into (λ k. get_or c.args.into.now k 0 + c.args.c * get_or c.args.row.now k 0) (omega arith)
    (λ k h. entries_of_parts (λ k x. (x + c.args.c * get_or c.args.row.now k 0) % c.args.p) (length c.args.into.now) c.axpy_groups-done.result c.args.into.now c.axpy_groups-done.new.into c.axpy_rest.new.into
    c.axpy_groups-done.ensures.done c.axpy_groups-done.ensures.kept c.axpy_rest.ensures.kept (λ k a b. c.axpy_rest.ensures.done k a (omega arith)) k (omega arith))
