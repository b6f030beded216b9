use Rattle.std.proofs.Common.{◌*◌, ◌%◌, get_or, length, arith}
use Rattle.lane_rows.proofs.Entries.{multiple_is, residues_of, entries_of_parts}
use Rattle.lane_rows.proofs.multiples.scale.Goals as goal

pub returns-clause-product : goal.returns-clause-product
returns-clause-product c =
    multiple_is c.args.p c.args.c c.args.row.now c.scale_rest.new.row (omega arith)
    (entries_of_parts (λ _ x. (c.args.c * x) % c.args.p) (length c.args.row.now) c.scale_groups-done.result c.args.row.now c.scale_groups-done.new.row c.scale_rest.new.row
    c.scale_groups-done.ensures.done c.scale_groups-done.ensures.kept c.scale_rest.ensures.kept (λ k a b. c.scale_rest.ensures.done k a (omega arith)))

pub returns-clause-residues : goal.returns-clause-residues
returns-clause-residues c =
    residues_of c.args.p c.scale_rest.new.row (λ k. c.args.c * get_or c.args.row.now k 0) (omega arith)
    (λ k h. entries_of_parts (λ _ x. (c.args.c * x) % c.args.p) (length c.args.row.now) c.scale_groups-done.result c.args.row.now c.scale_groups-done.new.row c.scale_rest.new.row
    c.scale_groups-done.ensures.done c.scale_groups-done.ensures.kept c.scale_rest.ensures.kept (λ k a b. c.scale_rest.ensures.done k a (omega arith)) k (omega arith))
