-- The next field is wrong, or the first fault is among those after it.
use Rattle.std.proofs.Common.{◌<◌, ◌≤◌, ◌+◌, get_or, length, string_bytes, arith, ◌∙◌, sym, ap}
use Rattle.std.specs.Option.{option_map}
use Rattle.rx_diagnostics.specs.BooksFields.{field_fault}
use Rattle.rx_diagnostics.specs.declared.books_field.Field.TheVariants as field
use Rattle.rx_diagnostics.proofs.FirstFaults.{later, here, none_left}
use Rattle.rx_diagnostics.proofs.books_field.first_fault.Goals as goal

pub loop-before-preserved : goal.loop-before-preserved
loop-before-preserved c =
    let fields = c.args.fields.now in
    let line = c.args.line.now in
    let i = c.loop-before.before in
    let within : i < length fields = omega arith in
    let said = ap (option_map string_bytes) (sym c.in-None.is) ∙ c.in_ok-said.ensures
    ∙ ap (field_fault (i + 2) (get_or fields i field.Family)) c.field_of.ensures in
    sym (later fields line i field.Family within said) ∙ c.loop-before.invariant

pub returns-in-Some : goal.returns-in-Some
returns-in-Some c =
    let fields = c.args.fields.now in
    let line = c.args.line.now in
    let i = c.loop-before.before in
    let within : i < length fields = omega arith in
    let said = ap (option_map string_bytes) (sym c.in-Some.is) ∙ c.in_ok-said.ensures
    ∙ ap (field_fault (i + 2) (get_or fields i field.Family)) c.field_of.ensures in
    sym (here fields line i field.Family within (string_bytes c.in-Some.said) said) ∙ c.loop-before.invariant

pub returns : goal.returns
returns c =
    let fields = c.args.fields.now in
    let past : length fields ≤ c.loop-before.before = omega arith in
    sym (none_left fields c.args.line.now c.loop-before.before past) ∙ c.loop-before.invariant
