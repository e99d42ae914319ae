-- The text that was let through is an id as it stands.
use Rattle.std.proofs.Common.{sym, arith}
use Rattle.rx_fields.proofs.IdLaws.{id_again}
use Rattle.rx_fields.proofs.short_id.ShortId.new.Goals as goal

pub of_text-requires : goal.of_text-requires
of_text-requires g c =
    let id = id_again g.row.MAX g.row.MAX c.args.text.now c.in_ok-text.text.now (omega arith)
    (sym c.in_ok-text.ensures) in
    (omega (arith, c.requires), (c.requires, id.1))
