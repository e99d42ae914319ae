-- Meaning: a field of a members table (docs/FORMATS.md, "Members table").
use Rattle.std.specs.Prelude.{ℕ, Bool, not, ◌&&◌, nat_eq, ◌==◌, if◌then◌else◌, List, [], ◌∷◌, codes, Option, Some, None}
use Rattle.std.specs.Cmp.Lexicographic.{pointwise}
use Rattle.std.specs.List.{ends_with, starts_with}
use Rattle.std.specs.Result.{result_ok}
use Rattle.rx_fields.specs.Calendar.{Civil, date_of}
use Rattle.rx_fields.specs.Text.{id_of}
use Rattle.rx_text.specs.Options.{◌>>=◌}

-- the field before the first tab, and what follows the tab
unfoldable pub cut : List ℕ → Option (List ℕ × List ℕ)
cut [] = None
cut (b ∷ bs) = if b == 9 then Some ([], bs) else (cut bs >>= λ x. Some (b ∷ x.0, x.1))

-- neither a blank nor a quotation mark begins the field, and no quotation mark ends it
abbrev pub is_bare : List ℕ → Bool
is_bare bs = not (starts_with nat_eq bs (codes " ")) && not (starts_with nat_eq bs (codes "\""))
    && not (ends_with nat_eq bs (codes "\""))

-- an id of at most max bytes, as it stands: no blank ends it
unfoldable pub id_in : ℕ → List ℕ → Option (List ℕ)
id_in max bs =
    if is_bare bs then (result_ok (id_of max bs) >>= λ text. if pointwise nat_eq text bs then Some text else None) else None

-- a date of eight digits
unfoldable pub day_in : List ℕ → Option Civil
day_in bs = result_ok (date_of bs)
