use Rattle.std.proofs.Common.{◌∙◌, ap}
use Rattle.clap.specs.Simple.{app_of_fields}
use Rattle.rx_cli.specs.Syntax.{program, whole_line, with_adjudication, with_disputes, with_people, with_retracing}
use Rattle.rx_cli.specs.Syntax.{with_subcommand_required, with_upkeep, with_version}
use Rattle.rx_cli.proofs.DraftLemmas.{draws_line}
use Rattle.rx_cli.proofs.syntax.line.Goals as goal

-- the subcommands of each kind
pub returns : goal.returns
returns c =
    let required = ap app_of_fields c.subcommand_required.ensures ∙ ap with_subcommand_required c.named.ensures.shape in
    let top = ap app_of_fields c.version-top.ensures ∙ ap with_version required in
    let drawn = draws_line c.of.result top c.of.ensures in
    let adjudicates = c.takes_adjudication-adjudicates.ensures program drawn in
    let retraces = c.takes_retracing-retraces.ensures (with_adjudication program) adjudicates in
    let disputed = c.takes_disputes-disputed.ensures (with_retracing (with_adjudication program)) retraces in
    let peopled = c.takes_people-peopled.ensures (with_disputes (with_retracing (with_adjudication program))) disputed in
    let people = with_people (with_disputes (with_retracing (with_adjudication program))) in
    let kept_up = c.takes_upkeep-kept_up.ensures people peopled in
    c.line.ensures whole_line (c.takes_switch.ensures (with_upkeep people) kept_up)
