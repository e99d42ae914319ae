-- Meaning: what is an id: 1 to 20 printable bytes without a bar and without a trailing blank.
use Rattle.std.specs.Prelude.{◌≡◌, ◌≤◌, ℕ, ◌-◌, Bool, ◌&&◌, not, nat_lt, ◌==◌, if◌then◌else◌}
use Rattle.std.specs.Prelude.{List, [], ◌∷◌, length, take, drop, replicate, Result, Ok, Err}
use Rattle.std.specs.List.{list_any}
use Rattle.rx_text.specs.Bytes.{all_printable}
use Rattle.rx_fields.specs.declared.fault.IdFault.{IdFault}
use Rattle.rx_fields.specs.declared.fault.IdFault.TheVariants as fault

-- the text without the blanks at its end
abbrev pub trimmed : List ℕ → List ℕ
trimmed [] = []
trimmed (b ∷ bs) = if (b == 32) && (length (trimmed bs) == 0) then [] else b ∷ trimmed bs

-- the byte is |
abbrev pub is_bar : ℕ → Bool
is_bar b = b == 124

-- the id in a text of a field that takes max bytes, or the first fault
abbrev pub id_of : ℕ → List ℕ → Result (List ℕ) IdFault
id_of max bs =
    let t = trimmed bs in
    if length t == 0 then Err fault.Blank
    else (if nat_lt max (length t) then Err fault.TooLong
    else (if not (all_printable t) then Err fault.NotPrintable
    else (if list_any is_bar t then Err fault.Bar else Ok t)))

-- the text is an id as it stands
abbrev pub IsId : ℕ → List ℕ → Type 0
IsId max t = id_of max t ≡ Ok t

-- max bytes, of which the first len are an id and the others 0
pub record IsPadded (max len : ℕ) (bytes : List ℕ) : Type 0 where
  pub short : max ≤ 20
  pub whole : length bytes ≡ max
  pub few : len ≤ max
  pub is_id : IsId max (take len bytes)
  pub rest : drop len bytes ≡ replicate (max - len) 0
