use Rattle.std.proofs.Common.{◌≡◌, ◌∙◌, [], ap, subst, map}
use Rattle.std.proofs.lemmas.Result.{err_from_is_err_and}
use Rattle.clap.specs.Words.{App, app_of, fault_of, is_simple, is_simple_and_free, subcommand_of, takes}
use Rattle.rx_cli.specs.Syntax.{whole_line}
use Rattle.rx_cli.proofs.SubcommandMet.{whole_line_free, whole_line_simple}
use Rattle.rx_cli.proofs.words.matches.Goals as goal

pub returns-in_err-try_get_matches_from-clause-words : goal.returns-in_err-try_get_matches_from-clause-words
returns-in_err-try_get_matches_from-clause-words o c =
    let words = map o.S.AsStr.text c.args.words.now in
    let line : app_of c.into_inner-line.result ≡ whole_line = ap app_of c.into_inner-line.ensures ∙ c.in_ok-line.ensures in
    let passed = err_from_is_err_and c.from_residual-in_err-try_get_matches_from.result
    c.from_residual-in_err-try_get_matches_from.ensures.1 in
    rw passed.1 (λ is taken. passed.2 is (c.in_err-try_get_matches_from.ensures.passes (ap (λ (a : App). takes a words) line ∙ taken)))

pub returns-clause-subcommand : goal.returns-clause-subcommand
returns-clause-subcommand o c =
    let words = map o.S.AsStr.text c.args.words.now in
    let line : app_of c.into_inner-line.result ≡ whole_line = ap app_of c.into_inner-line.ensures ∙ c.in_ok-line.ensures in
    let same = c.in_ok-try_get_matches_from.ensures.matches (ap is_simple line ∙ whole_line_simple) in
    same.1 ∙ ap (λ (a : App). subcommand_of a words) line

pub returns-clause-taken : goal.returns-clause-taken
returns-clause-taken o c =
    let words = map o.S.AsStr.text c.args.words.now in
    let line : app_of c.into_inner-line.result ≡ whole_line = ap app_of c.into_inner-line.ensures ∙ c.in_ok-line.ensures in
    subst (λ (a : App). fault_of a words ≡ []) line
    (c.in_ok-try_get_matches_from.ensures.kinds (ap is_simple_and_free line ∙ whole_line_free))
