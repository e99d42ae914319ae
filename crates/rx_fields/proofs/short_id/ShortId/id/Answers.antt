-- An id of a shorter field is an id.
use Rattle.std.proofs.Common.{arith, take}
use Rattle.rx_fields.proofs.IdLaws.{id_again}
use Rattle.rx_fields.proofs.short_id.ShortId.id.Goals as goal

pub of_text-requires : goal.of_text-requires
of_text-requires g c =
    let text = take c.self.inside.len c.self.inside.bytes in
    let id = id_again g.row.MAX 20 text text c.self.invariant.short c.self.invariant.is_id in
    record { few = omega (arith, id.0, c.self.invariant.short); again = id.1 }
