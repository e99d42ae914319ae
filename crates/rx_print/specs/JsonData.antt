-- Meaning: values that are written as JSON, and what a JSON reader makes of them.
use Rattle.std.specs.Prelude.{◌≡◌, ℕ, ℤ, List, [], ◌∷◌, Some, ⊤, FitsSigned}
use Rattle.std.specs.Int.{w128}
use Rattle.std.specs.Fmt.{signed_decimal}
use Rattle.std.specs.Str.{encode_utf8_all}
use Rattle.json.specs.Json as json
use Rattle.rx_print.specs.Escape.{AreBytes}

-- a text by its bytes; an object with its members in order
mutual
  pub data Value : Type 0 where
    Null : Value
    Number : ℤ → Value
    Text : List ℕ → Value
    Array : Items → Value
    Object : Members → Value

  pub data Items : Type 0 where
    no_items : Items
    item : Value → Items → Items

  pub data Members : Type 0 where
    no_members : Members
    member : List ℕ → Value → Members → Members

abbrev pub items_of : List Value → Items
items_of [] = no_items
items_of (v ∷ vs) = item v (items_of vs)

abbrev pub members_of : List (List ℕ × Value) → Members
members_of [] = no_members
members_of (m ∷ ms) = member m.0 m.1 (members_of ms)

abbrev pub array : List Value → Value
array vs = Array (items_of vs)

abbrev pub object : List (List ℕ × Value) → Value
object ms = Object (members_of ms)

-- ---- what is read: a byte of a text as the character of that number

abbrev mutual
  pub json_of : Value → json.Json
  json_of Null = json.null
  json_of (Number z) = json.number (signed_decimal z)
  json_of (Text bytes) = json.string (encode_utf8_all bytes)
  json_of (Array is) = json.array (json_items is)
  json_of (Object ms) = json.object (json_members ms)

  pub json_items : Items → json.Items
  json_items no_items = json.no_items
  json_items (item v is) = json.item (json_of v) (json_items is)

  pub json_members : Members → json.Members
  json_members no_members = json.no_members
  json_members (member name v ms) = json.member name (json_of v) (json_members ms)

-- each number fits an i128, and each byte a u8
abbrev mutual
  pub IsInRange : Value → Type 0
  IsInRange Null = ⊤
  IsInRange (Number z) = FitsSigned w128 z
  IsInRange (Text bytes) = AreBytes bytes
  IsInRange (Array is) = ItemsInRange is
  IsInRange (Object ms) = MembersInRange ms

  pub ItemsInRange : Items → Type 0
  ItemsInRange no_items = ⊤
  ItemsInRange (item v is) = IsInRange v × ItemsInRange is

  pub MembersInRange : Members → Type 0
  MembersInRange no_members = ⊤
  MembersInRange (member name v ms) = IsInRange v × MembersInRange ms

-- the whole text is one value
abbrev pub ReadsAs : List ℕ → Value → Type 0
ReadsAs text v = IsInRange v → json.document text ≡ Some (json_of v)
