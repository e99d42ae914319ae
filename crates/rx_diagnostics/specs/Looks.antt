-- Meaning: what another kind of file looks like, by the bytes with which it begins.
use Rattle.std.specs.Prelude.{ℕ, Bool, ◌||◌, nat_eq, if◌then◌else◌, List, [], ◌∷◌, ◌++◌, codes, find, take, Option, Some, None, is_some}
use Rattle.std.specs.List.{starts_with}
use Rattle.rx_text.specs.Bytes.{cut}
use Rattle.rx_diagnostics.specs.declared.looks.TheConstants.{LOOKED_AT}

abbrev pub begins : List ℕ → List ℕ → Bool
begins text front = starts_with nat_eq text front

-- a line of a plan sheet
abbrev pub is_sheet_line : List ℕ → Bool
is_sheet_line line = begins line (codes "bin = ") || begins line (codes "pcn = ") || begins line (codes "[tiers]")

-- one of the lines in front is one of a plan sheet
abbrev pub is_sheet : List ℕ → Bool
is_sheet text = is_some (find is_sheet_line (cut 10 (take LOOKED_AT text)))

-- the first kind whose files begin so; None where the bytes don't say
abbrev pub looks_like : List ℕ → Option (List ℕ)
looks_like text =
    if begins text (31 ∷ 139 ∷ []) then Some (codes "gzip")
    else (if begins text (codes "PK" ++ 3 ∷ 4 ∷ []) then Some (codes "zip")
    else (if begins text (255 ∷ 254 ∷ []) || begins text (254 ∷ 255 ∷ []) then Some (codes "UTF-16")
    else (if begins text (codes "BOOKS|") then Some (codes "a books file")
    else (if begins text (codes "SETTLE|") then Some (codes "a settlement")
    else (if begins text (codes "<02>") then Some (codes "a batch file whose control bytes are spelled out")
    else (if begins text (2 ∷ []) then Some (codes "a batch file")
    else (if is_sheet text then Some (codes "a plan sheet") else None)))))))

-- the byte order mark of UTF-8
abbrev pub has_mark : List ℕ → Bool
has_mark text = begins text (239 ∷ 187 ∷ 191 ∷ [])
