-- An option that may stand several times.
use Rattle.std.proofs.Common.{◌≡◌, ◌∙◌, Option, Some, None, option_map, ap}
use Rattle.std.specs.Prelude.{IsSomeAnd}
use Rattle.clap.specs.Words.{Text, all_of, matched_of, raw_values, rows_of, rule_of}
use Rattle.clap.specs.declared.builder.action.ArgAction.TheVariants.{Append}
use Rattle.clap.specs.declared.builder.arg.Arg.{Arg}
use Rattle.clap.specs.declared.builder.range.ValueRange.{ValueRange}
use Rattle.clap.specs.declared.parser.matches.Found.{Found}
use Rattle.clap.proofs.WalkLemmas.{raw_values-rows}
use Rattle.rx_cli.specs.Syntax.{required_option}

-- `get_strs` gives the values of the option's row
pub raw_rows : (f : Found) (id : Text) → option_map raw_values (matched_of f id) ≡ all_of id (rows_of f)
raw_rows f id = raw_values-rows f id

some_of : {X : Type 0} (o : Option X) (v : X) → IsSomeAnd o (λ x. x ≡ v) → o ≡ Some v
some_of None v is = absurd is
some_of (Some x) v is = ap Some is

-- an option with this action, and this many values each time
pub repeated : (one two three : Arg) (name : Text) (range : ValueRange) → rule_of one ≡ required_option name
    → two ≡ record one { action = Some Append } → three ≡ record two { num_vals = three.num_vals }
    → IsSomeAnd three.num_vals (λ r. r ≡ range)
    → rule_of three ≡ record (required_option name) { action = Some Append; range = Some range }
repeated one two three name range is appends counts values =
    ap rule_of counts
    ∙ ap (λ (a : Arg). record (rule_of a) { range = three.num_vals }) appends
    ∙ (λ j. record (is j) { action = Some Append; range = some_of three.num_vals range values j })
