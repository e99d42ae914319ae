-- Plumbing: the tallies by provider while replies are counted; each provider is a field filled with blanks.
use Rattle.std.specs.Prelude.{ℕ, ◌-◌, List, [], ◌∷◌, ◌++◌, codes, length, map, replicate, if◌then◌else◌}
use Rattle.std.specs.Option.{unwrap_or}
use Rattle.std.specs.Map.{lookup}
use Rattle.rx_settle.specs.declared.tally.Tally.{Tally}
use Rattle.rx_d0_values.specs.declared.reply.Reply.{Reply}
use Rattle.rx_settle.specs.Answers.{answers_of, tally, plus}
use Rattle.rx_settle.specs.Providers.{named, is_same, providers, replies_to}
use Rattle.rx_settle.specs.Settlement.{counts_text}

-- the provider, filled with blanks to 15 bytes
abbrev pub field_text : List ℕ → List ℕ
field_text provider = provider ++ replicate (15 - length provider) 32

-- a provider's field with the tally of the replies to it
abbrev pub tally_for : List Reply → List ℕ → List ℕ × Tally
tally_for replies provider = (field_text provider, tally (answers_of (replies_to provider replies)))

-- one for each provider, in order of first appearance
abbrev pub tallies_of : List Reply → List (List ℕ × Tally)
tallies_of replies = map (tally_for replies) (providers replies)

-- the line of a field with its tally
abbrev pub line : List ℕ × Tally → List ℕ
line e = codes "P|" ++ (named e.0 ++ counts_text e.1)

-- the tally of a field, which has none yet where it is new
abbrev pub tally_at : List ℕ → List (List ℕ × Tally) → Tally
tally_at field es = unwrap_or (lookup (is_same field) es) (tally [])

-- the tallies after more is counted: added to its field's, or as a new field's
abbrev pub counted : List ℕ → Tally → List (List ℕ × Tally) → List (List ℕ × Tally)
counted field more [] = (field, more) ∷ []
counted field more (e ∷ es) =
    if is_same field e.0 then (e.0, plus e.1 more) ∷ es else e ∷ counted field more es
