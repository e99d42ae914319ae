-- Meaning: lines by provider.
use Rattle.std.specs.Prelude.{ℕ, List, [], ◌∷◌, map}
use Rattle.std.specs.List.{filter}
use Rattle.std.specs.Map.{lookup}
use Rattle.std.specs.Option.{unwrap_or}
use Rattle.rx_report.specs.declared.line.Line.{Line}
use Rattle.rx_settle.specs.Counting.{field_text}
use Rattle.rx_settle.specs.Providers.{is_same, named, without}

-- the provider of a line, filled with blanks; blanks only where its field names none
abbrev pub provider_of : Line → List ℕ
provider_of l = field_text (named l.provider)

-- the providers in order of first appearance, each once
abbrev pub providers : List Line → List (List ℕ)
providers [] = []
providers (l ∷ ls) = provider_of l ∷ without (provider_of l) (providers ls)

-- a provider with its lines, in file order
abbrev pub group : List Line → List ℕ → List ℕ × List Line
group lines provider = (provider, filter (λ l. is_same provider (provider_of l)) lines)

-- each provider with its lines
abbrev pub grouped : List Line → List (List ℕ × List Line)
grouped lines = map (group lines) (providers lines)

-- the lines of a provider, none where it has no group
abbrev pub lines_at : List ℕ → List (List ℕ × List Line) → List Line
lines_at provider groups = unwrap_or (lookup (is_same provider) groups) []
