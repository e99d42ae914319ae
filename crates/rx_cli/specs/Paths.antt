-- Plumbing: paths, compared as texts.
use Rattle.std.specs.Prelude.{Bool, false, ◌||◌, List, [], ◌∷◌, ◌++◌, Option, Some, None}
use Rattle.std.specs.List.{list_any}
use Rattle.std.specs.Str.{bytes_eq}
use Rattle.std.specs.Borrow.{Bor}
use Rattle.clap.specs.Words.{Text}
use Rattle.rx_cli.specs.declared.asked.RunWords.{RunWords}

-- the path that may stand
abbrev pub path_of : Option (Bor Text) → List Text
path_of None = []
path_of (Some path) = path.now ∷ []

-- the six files of `run`, inputs before outputs
abbrev pub files_of : RunWords → List Text
files_of r = r.inputs.sheet.now ∷ r.inputs.books.now ∷ r.inputs.batch.now
    ∷ r.outputs.response.now ∷ r.outputs.books.now ∷ r.outputs.settlement.now ∷ []

-- the paths of `run`: its log, where it has one, and its six files
abbrev pub paths_of : RunWords → List Text
paths_of r = path_of r.log ++ files_of r

-- one text stands at two places
abbrev pub has_twice : List Text → Bool
has_twice [] = false
has_twice (path ∷ rest) = list_any (λ other. bytes_eq other path) rest || has_twice rest
