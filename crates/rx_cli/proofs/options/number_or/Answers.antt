use Rattle.std.proofs.Common.{◌≡◌, ◌∙◌, ℕ, List, Option, Some, None, IfNone, ap, sym, inl, inr, option_map}
use Rattle.clap.specs.Words.{Row, Text, first_of, found_of, rows_of}
use Rattle.rx_cli.specs.Asked.{HasNumber, HasNumberOr, NoneHolds}
use Rattle.rx_cli.proofs.options.number_or.Goals as goal

if_none : {T P Q : Type 0} (o : Option T) → (P → Q) → IfNone o P → IfNone o Q
if_none None from p = from p
if_none (Some x) from p = tt

-- an option that stands has a number of its own or none
none_of_its_own : (rows : List Row) (name text : Text) (other : ℕ) → first_of name rows ≡ Some text
    → NoneHolds (HasNumber rows name) → NoneHolds (HasNumberOr rows name other)
none_of_its_own rows name text other stands none n (inl absent) =
    let both : Some text ≡ None = sym stands ∙ absent.0 in absurd cc
none_of_its_own rows name text other stands none n (inr number) = none n number

pub returns-in-Some-clause-none : goal.returns-in-Some-clause-none
returns-in-Some-clause-none c =
    let rows = rows_of (found_of c.args.found.now) in
    let stands = sym c.text.ensures ∙ ap (option_map (λ t. t.now)) c.in-Some.is in
    if_none c.number.result (none_of_its_own rows c.args.name.now _ c.args.other stands) c.number.ensures.none
