-- Meaning: the command line: its subcommands and their options (docs/CLI.md, "Commands").
use Rattle.std.specs.Prelude.{◌≡◌, true, false, Box, IfOk, Some, codes}
use Rattle.clap.specs.Lexer.{usize_max}
use Rattle.clap.specs.Words.{App, Rule, Text, app_of, new_app, new_rule, with_rule, with_subcommand}
use Rattle.clap.specs.declared.builder.command.Command.{Command}
use Rattle.clap.specs.declared.builder.command.Command.TheViews.{out-Command}
use Rattle.clap.specs.declared.builder.action.ArgAction.TheVariants.{Append, SetTrue}
use Rattle.rx_cli.specs.declared.draft.Draft.{Draft}

-- `--name VALUE`, which has to stand
abbrev pub required_option : Text → Rule
required_option name = record (new_rule name) { long = Some name; value_names = 1; required = true }

-- `--name VALUE`, which may stand
abbrev pub optional_option : Text → Rule
optional_option name = record (required_option name) { required = false }

-- `--name VALUE..`, which has to stand, once or more, and each time has a value or more
abbrev pub repeated_option : Text → Rule
repeated_option name =
    record (required_option name) { action = Some Append; range = Some (record { start_inclusive = 1; end_inclusive = usize_max }) }

-- `--workers N`, which may stand
abbrev pub workers_option : Rule
workers_option = optional_option (codes "workers")

-- VALUE, which has to stand
abbrev pub positional : Text → Rule
positional name = record (new_rule name) { value_names = 1; required = true }

-- `--name`, which may stand
abbrev pub flag : Text → Rule
flag name = record (new_rule name) { long = Some name; action = Some SetTrue }

-- `-v` or `--verbose`, which may stand
abbrev pub verbose_flag : Rule
verbose_flag = record (flag (codes "verbose")) { short = Some 118 }

-- the line with the three input files
abbrev pub with_inputs : App → App
with_inputs line = with_rule (with_rule (with_rule line (required_option (codes "sheet")))
    (required_option (codes "books"))) (required_option (codes "batch"))

-- the line with the batch file, and plan sheet and opening books or the plans file
abbrev pub with_given : App → App
with_given line = with_rule (with_rule (with_rule (with_rule line (optional_option (codes "sheet")))
    (optional_option (codes "books"))) (optional_option (codes "plans"))) (required_option (codes "batch"))

-- the line with the three output files
abbrev pub with_outputs : App → App
with_outputs line = with_rule (with_rule (with_rule line (required_option (codes "response")))
    (required_option (codes "books-out"))) (required_option (codes "settlement"))

-- the line with the output files that are compared, of which the plans file names the end books of several plans
abbrev pub with_compared : App → App
with_compared line = with_rule (with_rule (with_rule line (required_option (codes "response")))
    (optional_option (codes "books-out"))) (required_option (codes "settlement"))

-- the line with the other ways to adjudicate
abbrev pub with_ways : App → App
with_ways line = with_rule (with_rule line (flag (codes "plain"))) (flag (codes "desk"))

-- the line with the options of `run` that are no files
abbrev pub with_run_options : App → App
with_run_options line = with_ways (with_rule (with_rule line (optional_option (codes "stamp"))) workers_option)

-- the line with the options of a log
abbrev pub with_log : App → App
with_log line = with_rule (with_rule line (optional_option (codes "log"))) (flag (codes "sums"))

-- the line with the options of `run` for a run that nobody watches
abbrev pub with_watch : App → App
with_watch line = with_log (with_rule (with_rule line (flag (codes "safe"))) verbose_flag)

-- `run --sheet F --books F --batch F --response F --books-out F --settlement F [--stamp S] [--workers N] [--plain] [--desk]
-- [--safe] [-v] [--log F] [--sums]`
abbrev pub run_line : App
run_line = with_watch (with_run_options (with_outputs (with_inputs (new_app (codes "run")))))

-- `show --sheet F --batch F [--tsv]`
abbrev pub show_line : App
show_line = with_rule (with_rule (with_rule (new_app (codes "show")) (required_option (codes "sheet")))
    (required_option (codes "batch"))) (flag (codes "tsv"))

-- `plan --sheet F --books F --batch F`
abbrev pub plan_line : App
plan_line = with_inputs (new_app (codes "plan"))

-- `sample`
abbrev pub sample_line : App
sample_line = new_app (codes "sample")

-- `check (--sheet F [--books F] | --plans F) [--batch F]`
abbrev pub check_line : App
check_line = with_rule (with_rule (with_rule (with_rule (new_app (codes "check")) (optional_option (codes "sheet")))
    (optional_option (codes "books"))) (optional_option (codes "plans"))) (optional_option (codes "batch"))

-- the line with what `explain` is asked after
abbrev pub with_asked : App → App
with_asked line = with_rule (with_rule (with_rule (with_rule line (optional_option (codes "record")))
    (optional_option (codes "number"))) (optional_option (codes "rx"))) (optional_option (codes "provider"))

-- the line with the pharmacy that a text is for
abbrev pub with_reader : App → App
with_reader line = with_rule line (optional_option (codes "for-provider"))

-- `explain (--sheet F --books F | --plans F) --batch F [--record PLACE] [--number AUTHORIZATION] [--rx REFERENCE] [--provider ID]
-- [--response F] [--json] [--all] [--for-provider ID]`
abbrev pub explain_line : App
explain_line = with_reader (with_rule (with_rule (with_rule (with_asked (with_given (new_app (codes "explain"))))
    (optional_option (codes "response"))) (flag (codes "json"))) (flag (codes "all")))

-- the line with the options of `verify` that are no files
abbrev pub with_verify_options : App → App
with_verify_options line = with_ways (with_rule (with_rule line (required_option (codes "stamp"))) workers_option)

-- `verify (--sheet F --books F --books-out F | --plans F) --batch F --response F --settlement F --stamp S [--workers N] [--plain]
-- [--desk]`
abbrev pub verify_line : App
verify_line = with_verify_options (with_compared (with_given (new_app (codes "verify"))))

-- the line with the forms of a report
abbrev pub with_forms : App → App
with_forms line = with_rule (with_rule (with_rule (with_rule (with_rule line (flag (codes "tsv"))) (flag (codes "json")))
    (flag (codes "jsonl"))) (flag (codes "html"))) (optional_option (codes "html-dir"))

-- `report (--sheet F --books F | --plans F) --batch F [--stamp S] [--provider ID] [--family ID] [--for-provider ID] [--tsv] [--json]
-- [--jsonl] [--html] [--html-dir DIR]`
abbrev pub report_line : App
report_line = with_forms (with_reader (with_rule (with_rule (with_rule (with_given (new_app (codes "report")))
    (optional_option (codes "stamp"))) (optional_option (codes "provider"))) (optional_option (codes "family"))))

-- `replies --response F`
abbrev pub replies_line : App
replies_line = with_rule (new_app (codes "replies")) (required_option (codes "response"))

-- `settle --response F.. [--provider ID]`
abbrev pub settle_line : App
settle_line = with_rule (with_rule (new_app (codes "settle")) (repeated_option (codes "response")))
    (optional_option (codes "provider"))

-- `compare --sheet F --books F --batch F [--with-sheet F] [--with-books F] [--tsv] [--json]`
abbrev pub compare_line : App
compare_line = with_rule (with_rule (with_rule (with_rule (with_inputs (new_app (codes "compare")))
    (optional_option (codes "with-sheet"))) (optional_option (codes "with-books"))) (flag (codes "tsv"))) (flag (codes "json"))

-- the line with what `adjudicate` may be asked for
abbrev pub with_wishes : App → App
with_wishes line = with_rule (with_rule (with_rule (with_rule (with_rule line (optional_option (codes "stamp")))
    workers_option) (flag (codes "again"))) (flag (codes "strict"))) (flag (codes "quiet"))

-- `adjudicate --sheet F --books F --batch F --out DIR [--stamp S] [--workers N] [--again] [--strict] [--quiet]`
abbrev pub adjudicate_line : App
adjudicate_line = with_wishes (with_rule (with_inputs (new_app (codes "adjudicate"))) (required_option (codes "out")))

-- `fault N M P`
abbrev pub fault_line : App
fault_line = with_rule (with_rule (with_rule (new_app (codes "fault")) (positional (codes "N")))
    (positional (codes "M"))) (positional (codes "P"))

-- `members [--books F] [--period FIRST-LAST] --members F --books-out F [--report F] [--safe]`
abbrev pub members_line : App
members_line = with_rule (with_rule (with_rule (with_rule (with_rule (with_rule (new_app (codes "members"))
    (optional_option (codes "books"))) (optional_option (codes "period"))) (required_option (codes "members")))
    (required_option (codes "books-out"))) (optional_option (codes "report"))) (flag (codes "safe"))

-- the line with the books, the day, the period and the refill percentage
abbrev pub with_aged : App → App
with_aged line = with_rule (with_rule (with_rule (with_rule (with_rule line (required_option (codes "books")))
    (required_option (codes "before"))) (optional_option (codes "period"))) (optional_option (codes "sheet")))
    (optional_option (codes "refill-percent"))

-- `age --books F --before DAY [--period FIRST-LAST] [--sheet F] [--refill-percent N] --books-out F --dropped F [--safe]`
abbrev pub age_line : App
age_line = with_rule (with_rule (with_rule (with_aged (new_app (codes "age"))) (required_option (codes "books-out")))
    (required_option (codes "dropped"))) (flag (codes "safe"))

-- `family --books F --family ID [--person P] [--sheet F] [--tsv] [--json] [--html]`
abbrev pub family_line : App
family_line = with_rule (with_rule (with_rule (with_rule (with_rule (with_rule (with_rule (new_app (codes "family"))
    (required_option (codes "books"))) (required_option (codes "family"))) (optional_option (codes "person")))
    (optional_option (codes "sheet"))) (flag (codes "tsv"))) (flag (codes "json"))) (flag (codes "html"))

-- the line with the plans file and the batch file
abbrev pub with_switch_inputs : App → App
with_switch_inputs line = with_rule (with_rule line (required_option (codes "plans"))) (required_option (codes "batch"))

-- the line with the outputs of all plans
abbrev pub with_switch_outputs : App → App
with_switch_outputs line =
    with_rule (with_rule line (required_option (codes "response"))) (required_option (codes "settlement"))

-- the line with the stamp and the workers
abbrev pub with_route_options : App → App
with_route_options line = with_rule (with_rule line (required_option (codes "stamp"))) workers_option

-- the line with what a run of several plans says of itself
abbrev pub with_switch_watch : App → App
with_switch_watch line = with_rule (with_rule line verbose_flag) (optional_option (codes "log"))

-- `route --plans F --batch F --stamp S [--workers N] --response F --settlement F [--safe] [-v] [--log F]`
abbrev pub route_line : App
route_line = with_switch_watch (with_rule (with_switch_outputs (with_route_options (with_switch_inputs
    (new_app (codes "route"))))) (flag (codes "safe")))

-- `join --plans F --batch F --response F --settlement F [--safe]`
abbrev pub join_line : App
join_line = with_rule (with_switch_outputs (with_switch_inputs (new_app (codes "join")))) (flag (codes "safe"))

-- the line of which a subcommand has to stand
abbrev pub with_subcommand_required : App → App
with_subcommand_required line = record line { top = record line.top { subcommand_required = true } }

-- the line with `-V` or `--version`
abbrev pub with_version : App → App
with_version line = record line { top = record line.top { has_version = true } }

-- the program's name, its version, and one of its subcommands
abbrev pub program : App
program = with_version (with_subcommand_required (new_app (codes "rxbatch")))

-- the line with the subcommands that adjudicate and show
abbrev pub with_adjudication : App → App
with_adjudication line = with_subcommand (with_subcommand (with_subcommand (with_subcommand line
    run_line.top) show_line.top) plan_line.top) sample_line.top

-- the line with the subcommands that check a run's files and retrace it
abbrev pub with_retracing : App → App
with_retracing line = with_subcommand (with_subcommand (with_subcommand (with_subcommand (with_subcommand (with_subcommand
    (with_subcommand line check_line.top) explain_line.top) verify_line.top) report_line.top) replies_line.top)
    settle_line.top) compare_line.top

-- `excerpt --sheet F --books F --batch F --record P --out DIR [--response F]`
abbrev pub excerpt_line : App
excerpt_line = with_rule (with_rule (with_rule (with_inputs (new_app (codes "excerpt"))) (required_option (codes "record")))
    (required_option (codes "out"))) (optional_option (codes "response"))

-- the line with the subcommands for disputes
abbrev pub with_disputes : App → App
with_disputes line = with_subcommand line excerpt_line.top

-- the line with the subcommands that people need and no program
abbrev pub with_people : App → App
with_people line = with_subcommand (with_subcommand line adjudicate_line.top) fault_line.top

-- the line with the subcommands that keep books up, and the one that shows a family of them
abbrev pub with_upkeep : App → App
with_upkeep line = with_subcommand (with_subcommand (with_subcommand line members_line.top) age_line.top) family_line.top

-- the line with the subcommands for several plans
abbrev pub with_switch : App → App
with_switch line = with_subcommand (with_subcommand line route_line.top) join_line.top

-- `rxbatch run ..` and so on, or `rxbatch --version`
abbrev pub whole_line : App
whole_line = with_switch (with_upkeep (with_people (with_disputes (with_retracing (with_adjudication program)))))

-- no option of the line is one of its subcommands' too
abbrev pub IsLocal : Command → Type 0
IsLocal line = (out-Command line).has_globals ≡ false

-- the line in the box is this one, and no option of it is one of its subcommands' too
abbrev pub IsDrawn : {Z : Type 0} → App → Box Command Z → Type 0
IsDrawn app line = (app_of line.value ≡ app) × IsLocal line.value

-- unless memory ran out, the draft is of this line, and no option of it is one of its subcommands' too
abbrev pub Draws : App → Draft → Type 0
Draws app draft = IfOk draft.line (IsDrawn app)
