-- Meaning: why bytes are no reply.
use Rattle.std.specs.Prelude.{◌≡◌, ℕ, ◌-◌, Bool, true, false, ◌&&◌, ◌||◌, nat_eq, nat_le, ◌==◌, if◌then◌else◌}
use Rattle.std.specs.Prelude.{List, [], ◌∷◌, length, take, drop, slice_index, Result, Ok, Err, codes}
use Rattle.std.specs.List.{list_all, starts_with}
use Rattle.rx_text.specs.declared.separators.TheConstants.{GROUP, SEGMENT}
use Rattle.rx_text.specs.Bytes.{is_printable, cut}
use Rattle.rx_d0_values.specs.declared.reply.Reply.{Reply}
use Rattle.rx_d0_reply.specs.declared.fault.ReplyFault.{ReplyFault}
use Rattle.rx_d0_reply.specs.declared.fault.ReplyFault.TheVariants as fault
use Rattle.rx_d0_reply.specs.Text.{field}

-- the numbers of the faults, in the order in which they are checked
abbrev pub fault_code : ReplyFault → ℕ
fault_code fault.Head = 1
fault_code fault.Segment = 2
fault_code fault.Field = 3
fault_code fault.Memory = 4

-- ---- the header

-- 1 to 4
abbrev pub is_count : ℕ → Bool
is_count b = nat_le 49 b && nat_le b 52

-- A or R
abbrev pub is_status : ℕ → Bool
is_status b = (b == 65) || (b == 82)

-- 31 printable bytes, with a count and a status
abbrev pub is_header : List ℕ → Bool
is_header bs =
    nat_le 31 (length bs)
    && (list_all is_printable (take 31 bs) && (is_count (slice_index bs 4) && is_status (slice_index bs 5)))

-- ---- groups and segments

-- how segments 21, 22 and 23 begin
abbrev pub labels : List (List ℕ)
labels = field (codes "AM") (codes "21") ∷ field (codes "AM") (codes "22") ∷ field (codes "AM") (codes "23") ∷ []

-- each segment begins with the label of its place
abbrev pub in_order : List (List ℕ) → List (List ℕ) → Bool
in_order [] names = true
in_order (s ∷ segments) [] = false
in_order (s ∷ segments) (name ∷ names) = starts_with nat_eq s name && in_order segments names

-- the same label by label: the segment at that place, from 0, begins with its label
abbrev pub is_labelled : ℕ → List ℕ → Bool
is_labelled place s =
    if place == 0 then starts_with nat_eq s (field (codes "AM") (codes "21"))
    else (if place == 1 then starts_with nat_eq s (field (codes "AM") (codes "22"))
    else (if place == 2 then starts_with nat_eq s (field (codes "AM") (codes "23")) else false))

-- SS, and then segments, cut at SS: 21 only, 21 and 22, or 21, 22 and 23
abbrev pub is_group : List ℕ → Bool
is_group [] = false
is_group (b ∷ bs) = (b == 30) && in_order (cut SEGMENT bs) labels

-- GS, and then that many groups, cut at GS
abbrev pub are_groups : ℕ → List ℕ → Bool
are_groups count [] = false
are_groups count (b ∷ bs) = (b == 29) && ((length (cut GROUP bs) == count) && list_all is_group (cut GROUP bs))

-- ---- the fault

-- of bytes that are no reply
abbrev pub fault_of : List ℕ → ReplyFault
fault_of bs =
    if is_header bs then (if are_groups (slice_index bs 4 - 48) (drop 31 bs) then fault.Field else fault.Segment)
    else fault.Head

-- it is the fault of these bytes, unless memory ran out
abbrev pub IsFault : List ℕ → ReplyFault → Type 0
IsFault bs fault.Memory = Unit {0}
IsFault bs fault.Head = fault_of bs ≡ fault.Head
IsFault bs fault.Segment = fault_of bs ≡ fault.Segment
IsFault bs fault.Field = fault_of bs ≡ fault.Field

-- the answer is this reply, unless memory ran out
abbrev pub IsReadAs : Result Reply ReplyFault → Reply → Type 0
IsReadAs (Ok read) r = read ≡ r
IsReadAs (Err e) r = e ≡ fault.Memory
