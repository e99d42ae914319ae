-- Meaning: names in a plan sheet that may be meant by others.
use Rattle.std.specs.Prelude.{ℕ, if◌then◌else◌, List, [], ◌∷◌, ◌++◌, codes, Option, Some, None}
use Rattle.std.specs.Fmt.{decimal}
use Rattle.toml.specs.Data.{Members, no_members, member}
use Rattle.rx_diagnostics.specs.KnownKeys.{is_among}
use Rattle.rx_diagnostics.specs.Quoting.{shown_text}
use Rattle.rx_diagnostics.specs.SheetLines.{line_of_key}

-- a name that isn't among known ones
abbrev pub unless_known : List (List ℕ) → List ℕ → List (List ℕ)
unless_known known name = if is_among name known then [] else name ∷ []

-- those of a table
abbrev pub names_in : List (List ℕ) → Members → List (List ℕ)
names_in known no_members = []
names_in known (member name value rest) = unless_known known name ++ names_in known rest

-- a comma, unless nothing follows
abbrev pub comma_before : List (List ℕ) → List ℕ
comma_before [] = []
comma_before (name ∷ names) = codes ","

-- the names, each after a blank
abbrev pub names_text : List (List ℕ) → List ℕ
names_text [] = []
names_text (name ∷ names) = (codes " " ++ (shown_text name ++ comma_before names)) ++ names_text names

-- a key of the sheet that may be meant, with its line
abbrev pub at_line : Option ℕ → List ℕ → List ℕ
at_line (Some line) name = codes "; line " ++ (decimal line ++ (codes " has " ++ (shown_text name ++ codes ": is it meant?")))
at_line None name = codes "; " ++ (shown_text name ++ codes " is no key of a sheet: is it meant?")

unfoldable pub meant_text : List ℕ → Option (List ℕ) → List ℕ
meant_text text (Some name) = at_line (line_of_key text (name ∷ [])) name
meant_text text None = []
