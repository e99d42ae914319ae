-- Meaning: the records of a batch file in their order, and which bytes are a file (NCPDP Batch Standard 1.2).
use Rattle.std.specs.Prelude.{◌≡◌, ◌≤◌, ◌⊎◌, ℕ, ◌+◌, Bool, true, false, not, ◌||◌, nat_lt, nat_le, ◌==◌, if◌then◌else◌, List}
use Rattle.std.specs.Prelude.{[], ◌∷◌, ◌++◌, codes, length, drop, slice_range, All, Some, Result, Ok, Err}
use Rattle.std.specs.List.{flat_map, AllZip}
use Rattle.std.specs.Option.{ok_or}
use Rattle.rx_fields.specs.declared.limits.TheConstants.{MOST_DETAILS}
use Rattle.rx_batch.specs.declared.detail.Detail.{Detail}
use Rattle.rx_batch.specs.declared.fault.BatchFault.{BatchFault}
use Rattle.rx_batch.specs.declared.fault.BatchFault.TheVariants as fault
use Rattle.rx_batch.specs.declared.front.Front.{Front}
use Rattle.rx_batch.specs.declared.front.Stage.{Stage}
use Rattle.rx_batch.specs.declared.front.Stage.TheVariants.{Start, Headed, Whole}
use Rattle.rx_batch.specs.declared.head.Head.{Head}
use Rattle.rx_batch.specs.declared.layout.TheConstants.{ETX, STX}
use Rattle.rx_batch.specs.declared.trailer.Trailer.{Trailer}
use Rattle.rx_text.specs.Bytes.{is_line_end}
use Rattle.rx_text.specs.Results.{◌>>=◌}
use Rattle.rx_batch.specs.Header.{is_kind, head_of, trailer_of}

-- CR and LF, which are skipped before, between and after records
abbrev pub is_skipped : ℕ → Bool
is_skipped = is_line_end

-- STX and ETX, which no record holds inside
abbrev pub is_mark : ℕ → Bool
is_mark b = b == STX || b == ETX

-- what may stand between a record's STX and ETX
abbrev pub IsInside : List ℕ → Type 0
IsInside body = All (λ b. is_mark b ≡ false) body

-- a record of these bytes
abbrev pub record_text : List ℕ → List ℕ
record_text body = STX ∷ (body ++ ETX ∷ [])

-- a front that is longer by some bytes
abbrev pub past : ℕ → Front → Front
past n f = record f { length = f.length + n }

-- a front with one more record
abbrev pub with_record : Front → List ℕ → Stage → List Detail → Front
with_record f body stage details = record { stage = stage; details = details; length = f.length + (length body + 2) }

-- the header: of the fields that the standard has
abbrev pub header : ℕ → List ℕ → Result Head BatchFault
header at body =
    if is_kind (codes "00") body then ok_or (head_of body) (fault.HeaderShape at) else Err (fault.NoHeader at)

-- a detail: a reference of ten bytes, and a transmission; there are at most 100,000
abbrev pub detail : ℕ → List Detail → List ℕ → Result Detail BatchFault
detail at details body =
    if nat_lt (length body) 12 then Err (fault.DetailShape at)
    else (if nat_le MOST_DETAILS (length details) then Err (fault.TooMuch at)
    else Ok (record { reference = slice_range body 2 12; text = drop 12 body }))

-- the trailer: its batch number is the header's, and its count that of the details or two more
abbrev pub agreeing : ℕ → Head → List Detail → Trailer → Result Trailer BatchFault
agreeing at head details t =
    if not (t.number == head.lot.number) then Err (fault.NumberDiffers at)
    else (if not (t.count == length details || t.count == length details + 2) then Err (fault.CountDiffers at)
    else Ok t)

abbrev pub trailer : ℕ → Head → List Detail → List ℕ → Result Trailer BatchFault
trailer at head details body = do
  t ← ok_or (trailer_of body) (fault.TrailerShape at)
  agreeing at head details t

-- what a good front is with the record that follows it, or the first fault of that record
abbrev pub with_header : Front → List ℕ → Result Front BatchFault
with_header f body = do
  head ← header f.length body
  Ok (with_record f body (Headed head) f.details)

abbrev pub with_detail : Front → List ℕ → Result Front BatchFault
with_detail f body = do
  d ← detail f.length f.details body
  Ok (with_record f body f.stage (f.details ++ d ∷ []))

abbrev pub with_trailer : Front → Head → List ℕ → Result Front BatchFault
with_trailer f head body = do
  t ← trailer f.length head f.details body
  Ok (with_record f body (Whole head) f.details)

abbrev pub record_at : Stage → Front → List ℕ → Result Front BatchFault
record_at Start f body = with_header f body
record_at (Headed head) f body =
    if is_kind (codes "G1") body then with_detail f body
    else (if is_kind (codes "99") body then with_trailer f head body else Err (fault.RecordKind f.length))
record_at (Whole head) f body = Err (fault.AfterTrailer f.length)

abbrev pub record_of : Front → List ℕ → Result Front BatchFault
record_of f body = record_at f.stage f body

-- the front before the first byte
abbrev pub no_front : Front
no_front = record { stage = Start; details = []; length = 0 }

-- the bytes are a good front: made of skipped bytes and of whole good records
pub data IsFront : List ℕ → Front → Type 0 where
  empty : IsFront [] no_front
  skipped : {bytes : List ℕ} {f : Front} (b : ℕ)
      → IsFront bytes f → is_skipped b ≡ true → IsFront (bytes ++ b ∷ []) (past 1 f)
  good : {bytes : List ℕ} {f : Front} (body : List ℕ) (g : Front)
      → IsFront bytes f → IsInside body → record_of f body ≡ Ok g → IsFront (bytes ++ record_text body) g

-- ---- a whole file

-- a record, and the bytes that are skipped before it
pub record Spaced : Type 0 where
  pub gap : List ℕ
  pub body : List ℕ

abbrev pub spaced_text : Spaced → List ℕ
spaced_text r = r.gap ++ record_text r.body

abbrev pub IsGap : List ℕ → Type 0
IsGap bytes = All (λ b. is_skipped b ≡ true) bytes

abbrev pub IsSpaced : Spaced → Type 0
IsSpaced r = IsGap r.gap × IsInside r.body

-- the body of a header of this head
abbrev pub IsHeader : List ℕ → Head → Type 0
IsHeader body head = (is_kind (codes "00") body ≡ true) × (head_of body ≡ Some head)

-- the body of this detail: G1, ten bytes of reference, and the transmission
abbrev pub IsDetail : List ℕ → Detail → Type 0
IsDetail body d =
    (is_kind (codes "G1") body ≡ true) × (12 ≤ length body)
    × (d ≡ record { reference = slice_range body 2 12; text = drop 12 body })

-- the body of a trailer with the batch number of the head, and the count of the details or two more
pub record IsTrailer (body : List ℕ) (head : Head) (details : List Detail) : Type 0 where
  pub kind : is_kind (codes "99") body ≡ true
  pub trailer : Trailer
  pub is : trailer_of body ≡ Some trailer
  pub number : trailer.number ≡ head.lot.number
  pub count : (trailer.count ≡ length details) ⊎ (trailer.count ≡ length details + 2)

-- the bytes are a file of this head and these details: one header, the details, one trailer, and what is skipped
pub record IsFile (bytes : List ℕ) (head : Head) (details : List Detail) : Type 0 where
  pub header : Spaced
  pub records : List Spaced
  pub trailer : Spaced
  pub gap : List ℕ
  pub whole : bytes ≡ spaced_text header ++ (flat_map spaced_text records ++ (spaced_text trailer ++ gap))
  pub header_is : IsSpaced header × IsHeader header.body head
  pub details_are : AllZip (λ r d. IsSpaced r × IsDetail r.body d) records details
  pub few : length details ≤ MOST_DETAILS
  pub trailer_is : IsSpaced trailer × IsTrailer trailer.body head details
  pub gap_is : IsGap gap
