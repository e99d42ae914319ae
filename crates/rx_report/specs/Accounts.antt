-- Meaning: the lines of a portion of a report, and its tallies.
use Rattle.std.specs.Prelude.{◌≡◌, ℕ, Bool, true, false, List, [], ◌∷◌, Option, Some, None, map}
use Rattle.std.specs.List.{All, filter}
use Rattle.rx_report.specs.declared.line.Line.{Line}
use Rattle.rx_report.specs.declared.portion.Portion.{Portion}
use Rattle.rx_report.specs.declared.portion.Portion.TheVariants as portion
use Rattle.rx_report.specs.declared.section.Section.{Section}
use Rattle.rx_report.specs.Groups.{grouped, lines_at, provider_of}
use Rattle.rx_report.specs.Lines.{answer_of}
use Rattle.rx_settle.specs.Answers.{tally}
use Rattle.rx_settle.specs.Providers.{is_same, named}
use Rattle.rx_settle.specs.declared.settlement.Settled.{Settled}
use Rattle.rx_settle.specs.declared.tally.Tally.{Tally}

-- a field names the provider with this id, which is empty where the field holds none
abbrev pub names_provider : List ℕ → List ℕ → Bool
names_provider id field = is_same id (named field)

abbrev pub has_family : List ℕ → Option (List ℕ × List ℕ) → Bool
has_family id None = false
has_family id (Some m) = is_same id m.0

-- the line's member is of the family
abbrev pub names_family : List ℕ → Line → Bool
names_family id l = has_family id l.member

abbrev pub is_in : Portion → Line → Bool
is_in portion.Whole l = true
is_in (portion.Provider id) l = names_provider id.now l.provider
is_in (portion.Family id) l = names_family id.now l

-- a section's provider, what its answers come to, and its lines
abbrev pub parts_of : Section → List ℕ × (Tally × List Line)
parts_of s = (s.provider, (s.tally, s.lines.now))

-- a provider of a settlement with its tally, and the lines of its group
abbrev pub with_lines : List (List ℕ × List Line) → List ℕ × Tally → List ℕ × (Tally × List Line)
with_lines groups e = (e.0, (e.1, lines_at e.0 groups))

-- a provider's group with what its lines come to
abbrev pub with_tally : List ℕ × List Line → List ℕ × (Tally × List Line)
with_tally g = (g.0, (tally (map answer_of g.1), g.1))

-- the tally is of the provider with this id
abbrev pub is_of : List ℕ → List ℕ × Tally → Bool
is_of id e = names_provider id e.0

abbrev pub first_tally : List (List ℕ × (Tally × List Line)) → Tally
first_tally [] = tally []
first_tally (e ∷ es) = e.1.0

-- an account's sections and its total. Of a whole batch each provider of the settlement has its section, and the total is
-- the settlement's; of one provider there is its section, and its tally; of a family each provider of its lines has its
-- section, and each tally is what lines come to
abbrev pub IsAccount : Portion → Settled → List Line → List (List ℕ × List Line) → List (List ℕ × (Tally × List Line)) → Tally
    → Type 0
IsAccount portion.Whole t kept groups sections total =
    (sections ≡ map (with_lines groups) t.providers.entries) × (total ≡ t.total)
IsAccount (portion.Provider id) t kept groups sections total =
    (sections ≡ map (with_lines groups) (filter (is_of id.now) t.providers.entries)) × (total ≡ first_tally sections)
IsAccount (portion.Family id) t kept groups sections total =
    (sections ≡ map with_tally groups) × (total ≡ tally (map answer_of kept))

-- each section has the lines of its provider, and no other's
abbrev pub HasOwnLines : List Line → List (List ℕ × (Tally × List Line)) → Type 0
HasOwnLines kept sections = All (λ s. s.1.1 ≡ filter (λ l. is_same s.0 (provider_of l)) kept) sections

-- so has each of an account whose groups are those of its lines
abbrev pub SectionsHaveOwnLines : Type 0
SectionsHaveOwnLines =
    (p : Portion) (t : Settled) (kept : List Line) (sections : List (List ℕ × (Tally × List Line))) (total : Tally)
    → IsAccount p t kept (grouped kept) sections total → HasOwnLines kept sections
