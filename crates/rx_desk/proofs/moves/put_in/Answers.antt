use Rattle.rx_books_parcel.specs.Parcels.{named_in}
use Rattle.rx_desk.proofs.Shelved.{are_out_named}
use Rattle.rx_desk.proofs.moves.put_in.Goals as goal

pub unreachable-requires : goal.unreachable-requires
unreachable-requires c =
    let taken = c.in-Err.ensures.accepts.1 (
      c.requires.period,
      are_out_named c.args.shelf.now (named_in c.args.parcel) c.requires.outside,
    ) in
    cc
