use Rattle.std.proofs.Common.{map, subst, Option, List, Result, Ok, Err}
use Rattle.std.specs.Prelude.{IfOk}
use Rattle.std.proofs.lemmas.Result.{IfErr-weaker, err_from_is_err_and}
use Rattle.clap.specs.Words.{Row, Text, found_of, rows_of}
use Rattle.rx_cli.specs.Asked.{Holds, NoneHolds}
use Rattle.rx_cli.specs.Faults.{IsWords}
use Rattle.rx_cli.proofs.SubcommandMet.{subcommand_met}
use Rattle.rx_cli.proofs.words.command.Goals as goal

-- what holds anyway holds of an answer
holds_of : {T E P : Type 0} (r : Result T E) → P → IfOk r (λ _. P)
holds_of (Ok t) p = p
holds_of (Err e) p = tt

pub returns-in_err-matches-clause-words : goal.returns-in_err-matches-clause-words
returns-in_err-matches-clause-words o c =
    let passed = err_from_is_err_and c.from_residual.result c.from_residual.ensures.1 in
    rw passed.1 (λ is taken. absurd (c.in_err-matches.ensures.words (subst IsWords passed.2 is) taken))

pub returns-in-Some-clause-ok : goal.returns-in-Some-clause-ok
returns-in-Some-clause-ok o c =
    let words = map o.S.AsStr.text c.args.words.now in
    let met = subcommand_met c.in_ok-matches.matches words c.in-Some.name.now (rows_of (found_of c.in-Some.found.now))
    c.in_ok-matches.ensures.subcommand c.in-Some.ensures.name c.in-Some.ensures.rows in
    subst (λ (o : Option (Text × List Row)). IfOk c.named.result (Holds o)) met c.named.ensures.ok

pub returns-in-Some-clause-words : goal.returns-in-Some-clause-words
returns-in-Some-clause-words o c =
    let words = map o.S.AsStr.text c.args.words.now in
    let met = subcommand_met c.in_ok-matches.matches words c.in-Some.name.now (rows_of (found_of c.in-Some.found.now))
    c.in_ok-matches.ensures.subcommand c.in-Some.ensures.name c.in-Some.ensures.rows in
    IfErr-weaker c.named.result _ _ (λ e h is _. subst (λ (o : Option (Text × List Row)). NoneHolds (Holds o)) met (h is))
    c.named.ensures.words

pub returns-in-Some-clause-taken : goal.returns-in-Some-clause-taken
returns-in-Some-clause-taken o c = holds_of c.named.result c.in_ok-matches.ensures.taken
