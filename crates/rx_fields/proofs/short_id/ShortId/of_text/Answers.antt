-- The text is an id, so its padded bytes are one.
use Rattle.std.proofs.Common.{arith}
use Rattle.rx_fields.proofs.IdLaws.{id_again, padded_whole}
use Rattle.rx_fields.proofs.short_id.ShortId.of_text.Goals as goal

pub padded-requires : goal.padded-requires
padded-requires g c =
    let id = id_again g.row.MAX g.row.MAX c.args.text.now c.args.text.now (omega arith) c.requires.again in
    (omega (arith, c.requires.short), id.0)

pub invariant_of-result : goal.invariant_of-result
invariant_of-result g c =
    let id = id_again g.row.MAX g.row.MAX c.args.text.now c.args.text.now (omega arith) c.requires.again in
    rw c.padded.ensures (padded_whole g.row.MAX c.args.text.now c.requires.short id.0 id.1)
