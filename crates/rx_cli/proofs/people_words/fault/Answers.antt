use Rattle.std.proofs.Common.{codes, rules}
use Rattle.clap.specs.Words.{found_of, rows_of}
use Rattle.rx_cli.specs.Asked.{HasLongNumber, HoldsFault, NoneHolds}
use Rattle.rx_cli.proofs.people_words.fault.Goals as goal

pub returns-in_err-kind-clause-none : goal.returns-in_err-kind-clause-none
returns-in_err-kind-clause-none c =
    let rows = rows_of (found_of c.args.found.now) in
    let no_number : NoneHolds (HasLongNumber rows (codes "N")) = search rules in
    let none : NoneHolds (HoldsFault rows) = λ f h. no_number f.kind h.kind in
    rw c.from_residual.ensures none

pub returns-in_err-within-clause-none : goal.returns-in_err-within-clause-none
returns-in_err-within-clause-none c =
    let rows = rows_of (found_of c.args.found.now) in
    let no_number : NoneHolds (HasLongNumber rows (codes "M")) = search rules in
    let none : NoneHolds (HoldsFault rows) = λ f h. no_number f.within h.within in
    rw c.from_residual-in_err-within.ensures none

pub returns-in_err-place-clause-none : goal.returns-in_err-place-clause-none
returns-in_err-place-clause-none c =
    let rows = rows_of (found_of c.args.found.now) in
    let no_number : NoneHolds (HasLongNumber rows (codes "P")) = search rules in
    let none : NoneHolds (HoldsFault rows) = λ f h. no_number f.place h.place in
    rw c.from_residual-in_err-place.ensures none
