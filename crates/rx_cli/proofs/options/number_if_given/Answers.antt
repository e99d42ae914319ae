use Rattle.std.proofs.Common.{◌≡◌, ◌∙◌, List, Some, None, ap, sym, option_map, rules}
use Rattle.clap.specs.Words.{Row, Text, first_of, found_of, rows_of}
use Rattle.rx_cli.specs.Asked.{HasNumber, MayHaveNumber, NoneHolds}
use Rattle.rx_cli.proofs.options.number_if_given.Goals as goal

-- an option that stands has a number or none may be had of it
none_may : (rows : List Row) (name text : Text) → first_of name rows ≡ Some text
    → NoneHolds (HasNumber rows name) → NoneHolds (MayHaveNumber rows name)
none_may rows name text stands none None absent =
    let both : Some text ≡ None = sym stands ∙ absent in absurd cc
none_may rows name text stands none (Some n) number = none n number

pub returns-in_err-number-in-Some-clause-none : goal.returns-in_err-number-in-Some-clause-none
returns-in_err-number-in-Some-clause-none c =
    let rows = rows_of (found_of c.args.found.now) in
    let stands = sym c.text.ensures ∙ ap (option_map (λ t. t.now)) c.in-Some.is in
    let no_number : NoneHolds (HasNumber rows c.args.name.now) = search rules in
    let none = none_may rows c.args.name.now _ stands no_number in
    rw c.from_residual.ensures none
