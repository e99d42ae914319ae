use Rattle.std.proofs.Common.{length, ◌<◌, arith}
use Rattle.rx_cli.proofs.PathLemmas.{decided_by_rest, found_in_rest}
use Rattle.rx_cli.proofs.paths.+has_one_twice.Goals as goal

pub returns-then-contains : goal.returns-then-contains
returns-then-contains t c =
    let some : 0 < length c.args.paths.now = grind (arith, c.if-is_empty.false, c.is_empty.ensures) in
    found_in_rest c.args.paths.now _ c.contains.result some c.contains.ensures.value c.if-contains.true

pub returns-else-contains : goal.returns-else-contains
returns-else-contains t c =
    let some : 0 < length c.args.paths.now = grind (arith, c.if-is_empty.false, c.is_empty.ensures) in
    decided_by_rest c.args.paths.now _ c.contains.result c.has_one_twice.result some c.contains.ensures.value c.if-contains.false
    c.has_one_twice.ensures
