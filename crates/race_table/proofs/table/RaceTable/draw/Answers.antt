use Rattle.std.proofs.Common.{◌<◌, arith, refl, slice_index}
use Rattle.atomic_table.specs.Table.{keeps}
use Rattle.race_table.specs.Views.{drew}
use Rattle.race_table.proofs.Steps.{draws, draws-fresh}
use Rattle.race_table.proofs.table.RaceTable.draw.Goals as goal

pub fetch_add-found-requires : goal.fetch_add-found-requires
fetch_add-found-requires c =
    let table = c.args.self.now.table in
    let seat = c.args.pass.now.seat in
    let part : 0 < seat.me.0.parts = omega (arith, c.args.pass.now.size) in (
      c.requires.table.table_id,
      omega arith,
      λ s holds _ at _. (
        drew seat.me.0 (slice_index s.words 0),
        keeps,
        tt,
        draws c.soundness_is_kept.ensures c.sound_states_account.ensures table.shared.key.strata table.shared.key.seats seat.id seat.me.0 s.words s.views part c.requires.unspent holds at,
        (refl, draws-fresh table.shared.key.strata table.shared.key.seats seat.id seat.me.0 s.words s.views part holds at),
      ),
    )
