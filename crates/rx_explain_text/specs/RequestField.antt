-- Meaning: the bytes of a request that a reject code speaks of (docs/FORMATS.md, "Request transmission"), also where its
-- syntax is broken.
use Rattle.std.specs.Prelude.{ℕ, ◌+◌, Bool, false, ◌&&◌, not, nat_eq, ◌==◌, if◌then◌else◌, List, length, take, drop, codes}
use Rattle.std.specs.Prelude.{Option, Some, None, is_some, find}
use Rattle.std.specs.Cmp.Lexicographic.{pointwise}
use Rattle.std.specs.List.{slice_get, slice_split}
use Rattle.std.specs.Option.{option_map}
use Rattle.rx_text.specs.declared.separators.TheConstants.{FIELD, GROUP, SEGMENT}
use Rattle.rx_fields.specs.Text.{trimmed}
use Rattle.rx_fields.specs.declared.code.Code.{Code}
use Rattle.rx_fields.specs.declared.code.Code.TheVariants as code
use Rattle.rx_d0_request.specs.declared.header.TheConstants.{HEADER_LENGTH}
use Rattle.rx_explain_text.specs.declared.request_field.Stand.{Stand}
use Rattle.rx_explain_text.specs.declared.request_field.Stand.TheVariants.{Header, Common, Group, Part}

-- the number and id of the field that a code speaks of
abbrev pub field_number : Code → Option (List ℕ)
field_number code.Bin = Some (codes "101-A1")
field_number code.Version = Some (codes "102-A2")
field_number code.TransactionCode = Some (codes "103-A3")
field_number code.ProcessorControlNumber = Some (codes "104-A4")
field_number code.TransactionCount = Some (codes "109-A9")
field_number code.Provider = Some (codes "201-B1")
field_number code.DateOfService = Some (codes "401-D1")
field_number code.Cardholder = Some (codes "302-C2")
field_number code.Person = Some (codes "303-C3")
field_number code.ReferenceQualifier = Some (codes "455-EM")
field_number code.Reference = Some (codes "402-D2")
field_number code.ProductQualifier = Some (codes "436-E1")
field_number code.ProductId = Some (codes "407-D7")
field_number code.Quantity = Some (codes "442-E7")
field_number code.DaysSupply = Some (codes "405-D5")
field_number code.Compound = Some (codes "406-D6")
field_number code.OtherCoverage = Some (codes "308-C8")
field_number code.IngredientCost = Some (codes "409-D9")
field_number code.DispensingFee = Some (codes "412-DC")
field_number code.UsualCharge = Some (codes "426-DQ")
field_number code.GrossAmount = Some (codes "430-DU")
field_number other = None

-- where it stands: this many bytes of the header from a place on, or under an id in a segment; of other codes the whole part
abbrev pub stand_of : Code → Stand
stand_of code.Bin = Header 0 6
stand_of code.Version = Header 6 2
stand_of code.TransactionCode = Header 8 2
stand_of code.ProcessorControlNumber = Header 10 10
stand_of code.TransactionCount = Header 20 1
stand_of code.Provider = Header 23 15
stand_of code.DateOfService = Header 38 8
stand_of code.Cardholder = Common (codes "04") (codes "C2")
stand_of code.Person = Common (codes "04") (codes "C3")
stand_of code.ReferenceQualifier = Group (codes "07") (codes "EM")
stand_of code.Reference = Group (codes "07") (codes "D2")
stand_of code.ProductQualifier = Group (codes "07") (codes "E1")
stand_of code.ProductId = Group (codes "07") (codes "D7")
stand_of code.Quantity = Group (codes "07") (codes "E7")
stand_of code.DaysSupply = Group (codes "07") (codes "D5")
stand_of code.Compound = Group (codes "07") (codes "D6")
stand_of code.OtherCoverage = Group (codes "07") (codes "C8")
stand_of code.IngredientCost = Group (codes "11") (codes "D9")
stand_of code.DispensingFee = Group (codes "11") (codes "DC")
stand_of code.UsualCharge = Group (codes "11") (codes "DQ")
stand_of code.GrossAmount = Group (codes "11") (codes "DU")
stand_of other = Part

-- the common part, whose number is 0, or the nth group: what the separators after the header cut
abbrev pub part_of : List ℕ → ℕ → Option (List ℕ)
part_of request nth = slice_get (slice_split (λ b. b == GROUP) (drop HEADER_LENGTH request)) nth

-- a piece of a segment is an id of two bytes and a value without its trailing blanks
abbrev pub value_of : List ℕ → List ℕ
value_of piece = trimmed (drop 2 piece)

-- the piece has this id, and a value that isn't empty
abbrev pub is_under : List ℕ → List ℕ → Bool
is_under id piece = pointwise nat_eq (take 2 piece) id && not (length (value_of piece) == 0)

-- the first value under an id in a segment
abbrev pub value_under : List ℕ → List ℕ → Option (List ℕ)
value_under id segment = option_map value_of (find (is_under id) (slice_split (λ b. b == FIELD) segment))

abbrev pub is_text : List ℕ → Option (List ℕ) → Bool
is_text text None = false
is_text text (Some value) = pointwise nat_eq value text

-- the segment has this name, which stands under AM, and a value under the id
abbrev pub has_field : List ℕ → List ℕ → List ℕ → Bool
has_field name id segment = is_text name (value_under (codes "AM") segment) && is_some (value_under id segment)

-- what f gives of a text that is there
abbrev pub within : (List ℕ → Option (List ℕ)) → Option (List ℕ) → Option (List ℕ)
within f None = None
within f (Some text) = f text

-- the value under an id in the first segment of this name that has one
abbrev pub value_in : List ℕ → List ℕ → List ℕ → Option (List ℕ)
value_in name id part = within (value_under id) (find (has_field name id) (slice_split (λ b. b == SEGMENT) part))

-- header and common part
abbrev pub front_of : List ℕ → Option (List ℕ) → List ℕ
front_of request None = request
front_of request (Some common) = take (HEADER_LENGTH + length common) request

abbrev pub bytes_at : List ℕ → ℕ → Stand → Option (List ℕ)
bytes_at request nth (Header from count) = Some (take count (drop from (take HEADER_LENGTH request)))
bytes_at request nth (Common name id) = within (value_in name id) (part_of request 0)
bytes_at request nth (Group name id) = within (value_in name id) (part_of request nth)
bytes_at request nth Part = if nth == 0 then Some (front_of request (part_of request 0)) else part_of request nth

-- the bytes that a code speaks of, in the nth group
abbrev pub field_bytes : List ℕ → ℕ → Code → Option (List ℕ)
field_bytes request nth c = bytes_at request nth (stand_of c)
