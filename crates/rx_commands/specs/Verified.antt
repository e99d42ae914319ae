-- Meaning: a run done again, and where files differ from it.
use Rattle.std.specs.Prelude.{◌≡◌, ℕ, Bool, ◌&&◌, not, List, Option, MatchOption}
use Rattle.std.specs.Option.{is_some}
use Rattle.std.specs.Borrow.{Bor}
use Rattle.rx_io.specs.declared.files.Outputs.{Outputs}
use Rattle.rx_switch.specs.Output.{Given, IsOutput, Texts}
use Rattle.rx_commands.specs.Difference.{IsFirstDifference}

-- for each output the place where a file differs, if it does
abbrev pub Differences : Type 0
Differences = Outputs (Option ℕ) (Option ℕ) (Option ℕ)

abbrev pub are_none : Differences → Bool
are_none d = not (is_some d.response) && not (is_some d.books) && not (is_some d.settlement)

abbrev pub texts_in_files : Outputs (Bor (List ℕ)) (Bor (List ℕ)) (Bor (List ℕ)) → Texts
texts_in_files files =
    record { response = files.response.now; books = files.books.now; settlement = files.settlement.now }

-- the texts are the same, or this is their first difference
abbrev pub IsDifference : List ℕ → List ℕ → Option ℕ → Type 0
IsDifference ours theirs at = MatchOption at (ours ≡ theirs) (IsFirstDifference ours theirs)

-- each file is the same as the text of the output, or this is their first difference
pub record AreDifferences (ours theirs : Texts) (d : Differences) : Type 0 where
  pub response : IsDifference ours.response theirs.response d.response
  pub books : IsDifference ours.books theirs.books d.books
  pub settlement : IsDifference ours.settlement theirs.settlement d.settlement

-- these are the texts that the definitions have, and the differences of the files from them
pub record IsVerified (given : Given) (ours theirs : Texts) (d : Differences) : Type 0 where
  pub output : IsOutput given ours
  pub differences : AreDifferences ours theirs d
