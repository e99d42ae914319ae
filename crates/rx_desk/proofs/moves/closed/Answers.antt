use Rattle.rx_desk.proofs.Shelved.{all_in}
use Rattle.rx_desk.proofs.moves.closed.Goals as goal

pub unreachable-requires : goal.unreachable-requires
unreachable-requires c =
    let all = all_in c.args.shelf c.in-Err.ensures.kept c.requires.inside in
    let given = c.in-Err.ensures.ok.1 all in
    cc
