-- The subcommand that a parse met is that of `clap`'s matches of the words.
use Rattle.std.proofs.Common.{◌≡◌, ◌∙◌, true, List, Option, Some, None, option_map, refl, sym}
use Rattle.std.specs.Prelude.{Box}
use Rattle.std.specs.Box.{box_value}
use Rattle.clap.specs.Words.{Row, Text, is_simple, is_simple_and_free, subcommand_name_of}
use Rattle.clap.specs.Words.{subcommand_of, subcommand_rows, subcommand_rows_of}
use Rattle.clap.specs.declared.parser.matches.ArgMatches.{ArgMatches}
use Rattle.clap.specs.declared.parser.matches.SubCommand.{SubCommand}
use Rattle.clap.specs.declared.parser.matches.ArgMatches.TheViews.{out-ArgMatches, out-SubCommand}
use Rattle.clap.proofs.OnLiterals.{clap_on_literals}
use Rattle.rx_cli.specs.Syntax.{whole_line}

-- of this command line `clap` says what its matches are
pub whole_line_simple : is_simple whole_line ≡ true
unfolding clap_on_literals
whole_line_simple = refl

-- and which faults it finds in words
pub whole_line_free : is_simple_and_free whole_line ≡ true
unfolding clap_on_literals
whole_line_free = refl

both : {Z : Type 0} (o : Option (Box SubCommand Z)) (name : Text) (rows : List Row)
    → Some name ≡ option_map (λ b. (out-SubCommand (box_value b)).name.now) o
    → Some rows ≡ option_map (λ p. p.1) (subcommand_rows o)
    → subcommand_rows o ≡ Some (name, rows)
both None name rows named held = absurd cc
both (Some b) name rows named held = cc

-- a name and rows that a parse of the command line shows are those of the words
pub subcommand_met : (m : ArgMatches) (words : List Text) (name : Text) (rows : List Row)
    → subcommand_rows_of m ≡ subcommand_of whole_line words → Some name ≡ subcommand_name_of m
    → Some rows ≡ option_map (λ p. p.1) (subcommand_rows_of m)
    → Some (name, rows) ≡ subcommand_of whole_line words
subcommand_met m words name rows same named held =
    sym (sym same ∙ both (out-ArgMatches m).subcommand name rows named held)
