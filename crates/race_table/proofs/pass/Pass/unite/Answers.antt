use Rattle.std.proofs.Common.{◌<◌, ◌≡◌, arith, refl, ◌∙◌, sym}
use Rattle.std.proofs.lemmas.List.{set-get_or}
use Rattle.atomic_table.proofs.Lists.{set_else, set_again}
use Rattle.atomic_table.specs.Table.{keeps}
use Rattle.race_table.specs.Views.{united}
use Rattle.race_table.proofs.Cuts.{joins}
use Rattle.race_table.proofs.Whole.{knows}
use Rattle.race_table.proofs.pass.Pass.unite.Goals as goal

pub join_seat-requires : goal.join_seat-requires
join_seat-requires c =
    let table = c.args.table.now.table in
    let seat = c.args.self.now.seat in
    let other = c.args.other.seat in
    let part : 0 < seat.me.0.parts = omega (arith, c.args.self.now.size) in (
      c.requires.table.table_id,
      c.requires.other.table_id,
      c.args.other.free,
      omega (arith, c.args.table.now.sizes),
      λ s holds at apart there.
          joins table.shared.key.strata table.shared.key.seats s.words s.views holds seat.id seat.me.0 at other.id other.me.0 apart
          (sym (set_else s.views seat.id other.id (united seat.me.0 other.me.0) apart) ∙ there) c.requires.follows part,
    )

pub load-requires : goal.load-requires
load-requires c =
    let table = c.args.table.now.table in
    let seat = c.join_seat.new.seat in
    let both : seat.me ≡ (united c.args.self.now.seat.me.0 c.args.other.seat.me.0, c.args.self.now.seat.me.1) = c.join_seat.ensures.2 in
    let part : 0 < seat.me.0.parts = rw both (omega (arith, c.args.self.now.size)) in (
      c.join_seat.ensures.0 ∙ c.requires.table.table_id,
      omega (arith, c.args.table.now.sizes),
      λ s holds _ at _. (
        seat.me.0,
        keeps,
        tt,
        rw (set-get_or s.words 0 0, set_again s.views seat.id seat.me.0 at) holds,
        (refl, knows table.shared.key.strata table.shared.key.seats s.words s.views holds seat.id seat.me.0 at part),
      ),
    )
