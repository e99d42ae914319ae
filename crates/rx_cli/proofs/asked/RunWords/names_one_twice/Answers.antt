use Rattle.std.proofs.Common.{◌≡◌, map, rules}
use Rattle.rx_cli.specs.Paths.{has_twice}
use Rattle.rx_cli.proofs.PathLemmas.{log_apart, log_found}
use Rattle.rx_cli.proofs.asked.RunWords.names_one_twice.Goals as goal

pub returns-then-contains : goal.returns-then-contains
returns-then-contains c = log_found c.args.self.now.log c.in-Some.log _ _ c.contains.result c.in-Some.is c.files-files.ensures
    c.contains.ensures.value c.if-contains.true

pub returns-else-contains : goal.returns-else-contains
returns-else-contains c =
    let rest : c.has_one_twice-else-contains.result ≡ has_twice (map (λ p. p.now) c.files-files.result) = search rules in
    log_apart c.args.self.now.log c.in-Some.log _ _ c.contains.result c.has_one_twice-else-contains.result c.in-Some.is
    c.files-files.ensures c.contains.ensures.value c.if-contains.false rest
