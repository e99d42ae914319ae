-- What the options give a command, and that where they aren't what it takes, no command is of that name.
use Rattle.std.proofs.Common.{◌≡◌, ◌≢◌, List, Option, Some, None, IfNone, codes, refl, subst, sym}
use Rattle.std.specs.Prelude.{IfSome, IsSomeAnd, MatchOption, is_some}
use Rattle.clap.specs.Words.{Row, Text, found_of, rows_of}
use Rattle.rx_cli.specs.Asked.{HoldsAdjudicate, HoldsAge, HoldsCheck, HoldsCompare, HoldsExcerpt, HoldsExplain, HoldsFamily}
use Rattle.rx_cli.specs.Asked.{HoldsInputs, HoldsJoin, HoldsMembers, HoldsNamed, HoldsReport, HoldsRoute, HoldsRunApart}
use Rattle.rx_cli.specs.Asked.{HoldsShow, HoldsVerify, NoneHolds}
use Rattle.rx_cli.specs.declared.asked.Command.{Command}
use Rattle.rx_cli.specs.declared.asked.Command.TheVariants.{Run, Show, Plan, Check, Explain, Verify, Report, Adjudicate, Age}
use Rattle.rx_cli.specs.declared.asked.Command.TheVariants.{Compare, Excerpt, Join, Members, Route, ShowFamily}
use Rattle.rx_cli.proofs.NamedFault.{NoneOf, none_named}
use Rattle.rx_cli.proofs.words.read.Goals as goal

some_read : {W : Type 0} (words : Option W) (command : Option Command) (to : W → Command) (P : List Row → W → Type 0) (name : Text)
    (rows : List Row) → MatchOption words (command ≡ None) (λ w. IsSomeAnd command (λ c. c ≡ to w)) → IfSome words (P rows)
    → ((w : W) → P rows w → HoldsNamed name rows (to w)) → IfSome command (HoldsNamed name rows)
some_read words None to P name rows cases holds gives = tt
some_read None (Some command) to P name rows cases holds gives = absurd cc
some_read (Some words) (Some command) to P name rows cases holds gives = subst (HoldsNamed name rows) (sym cases) (gives words holds)

none_read : {W : Type 0} (words : Option W) (command : Option Command) (name said : Text) (rows : List Row) → name ≡ said
    → is_some command ≡ is_some words → IfNone words (NoneOf said rows)
    → IfNone command (name ≢ codes "settle" → NoneHolds (HoldsNamed name rows))
none_read None None name said rows is same none = λ other. none_named name said rows is none
none_read None (Some command) name said rows is same none = tt
none_read (Some words) None name said rows is same none = absurd cc
none_read (Some words) (Some command) name said rows is same none = tt

pub returns-in-run-clause-some : goal.returns-in-run-clause-some
returns-in-run-clause-some c = some_read c.run_apart.result c.map.result Run HoldsRunApart c.args.name.now
    (rows_of (found_of c.args.found.now)) c.map.ensures.cases c.run_apart.ensures.some (λ w h. (c.in-run.is, h))

pub returns-in-run-clause-none : goal.returns-in-run-clause-none
returns-in-run-clause-none c = none_read c.run_apart.result c.map.result _ (codes "run")
    (rows_of (found_of c.args.found.now)) c.in-run.is c.map.ensures.variant c.run_apart.ensures.none

pub returns-in-show-clause-some : goal.returns-in-show-clause-some
returns-in-show-clause-some c = some_read c.show.result c.map-in-show.result Show HoldsShow c.args.name.now
    (rows_of (found_of c.args.found.now)) c.map-in-show.ensures.cases c.show.ensures.some (λ w h. (c.in-show.is, h))

pub returns-in-show-clause-none : goal.returns-in-show-clause-none
returns-in-show-clause-none c = none_read c.show.result c.map-in-show.result _ (codes "show")
    (rows_of (found_of c.args.found.now)) c.in-show.is c.map-in-show.ensures.variant c.show.ensures.none

pub returns-in-plan-clause-some : goal.returns-in-plan-clause-some
returns-in-plan-clause-some c = some_read c.inputs.result c.map-in-plan.result Plan HoldsInputs c.args.name.now
    (rows_of (found_of c.args.found.now)) c.map-in-plan.ensures.cases c.inputs.ensures.some (λ w h. (c.in-plan.is, h))

pub returns-in-plan-clause-none : goal.returns-in-plan-clause-none
returns-in-plan-clause-none c = none_read c.inputs.result c.map-in-plan.result _ (codes "plan")
    (rows_of (found_of c.args.found.now)) c.in-plan.is c.map-in-plan.ensures.variant c.inputs.ensures.none

pub returns-in-excerpt-clause-some : goal.returns-in-excerpt-clause-some
returns-in-excerpt-clause-some c = some_read c.excerpt.result c.map-in-excerpt.result Excerpt HoldsExcerpt c.args.name.now
    (rows_of (found_of c.args.found.now)) c.map-in-excerpt.ensures.cases c.excerpt.ensures.some (λ w h. (c.in-excerpt.is, h))

pub returns-in-excerpt-clause-none : goal.returns-in-excerpt-clause-none
returns-in-excerpt-clause-none c = none_read c.excerpt.result c.map-in-excerpt.result _ (codes "excerpt")
    (rows_of (found_of c.args.found.now)) c.in-excerpt.is c.map-in-excerpt.ensures.variant c.excerpt.ensures.none

pub returns-in-check-clause-some : goal.returns-in-check-clause-some
returns-in-check-clause-some c = some_read c.check.result c.map-in-check.result Check HoldsCheck c.args.name.now
    (rows_of (found_of c.args.found.now)) c.map-in-check.ensures.cases c.check.ensures.some (λ w h. (c.in-check.is, h))

pub returns-in-check-clause-none : goal.returns-in-check-clause-none
returns-in-check-clause-none c = none_read c.check.result c.map-in-check.result _ (codes "check")
    (rows_of (found_of c.args.found.now)) c.in-check.is c.map-in-check.ensures.variant c.check.ensures.none

pub returns-in-explain-clause-some : goal.returns-in-explain-clause-some
returns-in-explain-clause-some c = some_read c.explain.result c.map-in-explain.result Explain HoldsExplain c.args.name.now
    (rows_of (found_of c.args.found.now)) c.map-in-explain.ensures.cases c.explain.ensures.some (λ w h. (c.in-explain.is, h))

pub returns-in-explain-clause-none : goal.returns-in-explain-clause-none
returns-in-explain-clause-none c = none_read c.explain.result c.map-in-explain.result _ (codes "explain")
    (rows_of (found_of c.args.found.now)) c.in-explain.is c.map-in-explain.ensures.variant c.explain.ensures.none

pub returns-in-join-clause-some : goal.returns-in-join-clause-some
returns-in-join-clause-some c = some_read c.join.result c.map-in-join.result Join HoldsJoin c.args.name.now
    (rows_of (found_of c.args.found.now)) c.map-in-join.ensures.cases c.join.ensures.some (λ w h. (c.in-join.is, h))

pub returns-in-join-clause-none : goal.returns-in-join-clause-none
returns-in-join-clause-none c = none_read c.join.result c.map-in-join.result _ (codes "join")
    (rows_of (found_of c.args.found.now)) c.in-join.is c.map-in-join.ensures.variant c.join.ensures.none

pub returns-in-verify-clause-some : goal.returns-in-verify-clause-some
returns-in-verify-clause-some c = some_read c.verify.result c.map-in-verify.result Verify HoldsVerify c.args.name.now
    (rows_of (found_of c.args.found.now)) c.map-in-verify.ensures.cases c.verify.ensures.some (λ w h. (c.in-verify.is, h))

pub returns-in-verify-clause-none : goal.returns-in-verify-clause-none
returns-in-verify-clause-none c = none_read c.verify.result c.map-in-verify.result _ (codes "verify")
    (rows_of (found_of c.args.found.now)) c.in-verify.is c.map-in-verify.ensures.variant c.verify.ensures.none

pub returns-in-route-clause-some : goal.returns-in-route-clause-some
returns-in-route-clause-some c = some_read c.route.result c.map-in-route.result Route HoldsRoute c.args.name.now
    (rows_of (found_of c.args.found.now)) c.map-in-route.ensures.cases c.route.ensures.some (λ w h. (c.in-route.is, h))

pub returns-in-route-clause-none : goal.returns-in-route-clause-none
returns-in-route-clause-none c = none_read c.route.result c.map-in-route.result _ (codes "route")
    (rows_of (found_of c.args.found.now)) c.in-route.is c.map-in-route.ensures.variant c.route.ensures.none

pub returns-in-report-clause-some : goal.returns-in-report-clause-some
returns-in-report-clause-some c = some_read c.report.result c.map-in-report.result Report HoldsReport c.args.name.now
    (rows_of (found_of c.args.found.now)) c.map-in-report.ensures.cases c.report.ensures.some (λ w h. (c.in-report.is, h))

pub returns-in-report-clause-none : goal.returns-in-report-clause-none
returns-in-report-clause-none c = none_read c.report.result c.map-in-report.result _ (codes "report")
    (rows_of (found_of c.args.found.now)) c.in-report.is c.map-in-report.ensures.variant c.report.ensures.none

pub returns-in-adjudicate-clause-some : goal.returns-in-adjudicate-clause-some
returns-in-adjudicate-clause-some c = some_read c.adjudicate.result c.map-in-adjudicate.result Adjudicate HoldsAdjudicate c.args.name.now
    (rows_of (found_of c.args.found.now)) c.map-in-adjudicate.ensures.cases c.adjudicate.ensures.some (λ w h. (c.in-adjudicate.is, h))

pub returns-in-adjudicate-clause-none : goal.returns-in-adjudicate-clause-none
returns-in-adjudicate-clause-none c = none_read c.adjudicate.result c.map-in-adjudicate.result _ (codes "adjudicate")
    (rows_of (found_of c.args.found.now)) c.in-adjudicate.is c.map-in-adjudicate.ensures.variant c.adjudicate.ensures.none

pub returns-in-members-clause-some : goal.returns-in-members-clause-some
returns-in-members-clause-some c = some_read c.members.result c.map-in-members.result Members HoldsMembers c.args.name.now
    (rows_of (found_of c.args.found.now)) c.map-in-members.ensures.cases c.members.ensures.some (λ w h. (c.in-members.is, h))

pub returns-in-members-clause-none : goal.returns-in-members-clause-none
returns-in-members-clause-none c = none_read c.members.result c.map-in-members.result _ (codes "members")
    (rows_of (found_of c.args.found.now)) c.in-members.is c.map-in-members.ensures.variant c.members.ensures.none

pub returns-in-age-clause-some : goal.returns-in-age-clause-some
returns-in-age-clause-some c = some_read c.age.result c.map-in-age.result Age HoldsAge c.args.name.now
    (rows_of (found_of c.args.found.now)) c.map-in-age.ensures.cases c.age.ensures.some (λ w h. (c.in-age.is, h))

pub returns-in-age-clause-none : goal.returns-in-age-clause-none
returns-in-age-clause-none c = none_read c.age.result c.map-in-age.result _ (codes "age")
    (rows_of (found_of c.args.found.now)) c.in-age.is c.map-in-age.ensures.variant c.age.ensures.none

pub returns-in-family-clause-some : goal.returns-in-family-clause-some
returns-in-family-clause-some c = some_read c.family.result c.map-in-family.result ShowFamily HoldsFamily c.args.name.now
    (rows_of (found_of c.args.found.now)) c.map-in-family.ensures.cases c.family.ensures.some (λ w h. (c.in-family.is, h))

pub returns-in-family-clause-none : goal.returns-in-family-clause-none
returns-in-family-clause-none c = none_read c.family.result c.map-in-family.result _ (codes "family")
    (rows_of (found_of c.args.found.now)) c.in-family.is c.map-in-family.ensures.variant c.family.ensures.none

pub returns-in-compare-clause-some : goal.returns-in-compare-clause-some
returns-in-compare-clause-some c = some_read c.compare.result c.map-in-compare.result Compare HoldsCompare c.args.name.now
    (rows_of (found_of c.args.found.now)) c.map-in-compare.ensures.cases c.compare.ensures.some (λ w h. (c.in-compare.is, h))

pub returns-in-compare-clause-none : goal.returns-in-compare-clause-none
returns-in-compare-clause-none c = none_read c.compare.result c.map-in-compare.result _ (codes "compare")
    (rows_of (found_of c.args.found.now)) c.in-compare.is c.map-in-compare.ensures.variant c.compare.ensures.none

pub returns-in-fault-clause-none : goal.returns-in-fault-clause-none
returns-in-fault-clause-none c = none_read c.read_fault.result c.read_fault.result _ (codes "fault")
    (rows_of (found_of c.args.found.now)) c.in-fault.is refl c.read_fault.ensures.none
