-- Meaning: what a text is read as: its batch, or its first fault with the place.
use Rattle.std.specs.Prelude.{◌≡◌, ℕ, Bool, true, false, ◌==◌, if◌then◌else◌, List, [], ◌∷◌, ◌++◌, drop, Result, Ok, Err}
use Rattle.std.specs.List.{prefix_len, slice_split, list_any}
use Rattle.rx_batch.specs.declared.batch.Batch.{Batch}
use Rattle.rx_batch.specs.declared.fault.BatchFault.{BatchFault}
use Rattle.rx_batch.specs.declared.fault.BatchFault.TheVariants as fault
use Rattle.rx_batch.specs.declared.front.Front.{Front}
use Rattle.rx_batch.specs.declared.front.Stage.{Stage}
use Rattle.rx_batch.specs.declared.front.Stage.TheVariants.{Start, Headed, Whole}
use Rattle.rx_batch.specs.declared.head.Head.{Head}
use Rattle.rx_batch.specs.declared.layout.TheConstants.{ETX, STX}
use Rattle.rx_text.specs.Results.{◌>>=◌}
use Rattle.rx_batch.specs.Grammar.{is_skipped, IsInside, IsFront, past, record_of, no_front}

-- the trailer was read
abbrev pub is_whole : Stage → Bool
is_whole Start = false
is_whole (Headed head) = false
is_whole (Whole head) = true

-- the text ends with the front
abbrev pub ended_at : Stage → Front → Result Batch BatchFault
ended_at Start f = Err (fault.NoHeader f.length)
ended_at (Headed head) f = Err (fault.NoTrailer f.length)
ended_at (Whole head) f = Ok (record { head = head; details = f.details })

abbrev pub ended : Front → Result Batch BatchFault
ended f = ended_at f.stage f

-- a byte follows the front that begins no record
abbrev pub stray : Front → BatchFault
stray f = if is_whole f.stage then fault.AfterTrailer f.length else fault.Outside f.length

-- the byte begins a record: STX, where no trailer was read
abbrev pub begins : Front → ℕ → Bool
begins f b = if is_whole f.stage then false else b == STX

-- what stands before an ETX, without CR and LF in front
abbrev pub closed : Front → List ℕ → Result Front BatchFault
closed f [] = Err (stray f)
closed f (b ∷ body) =
    if begins f b then (if list_any (λ x. x == STX) body then Err (fault.Unclosed f.length) else record_of f body)
    else Err (stray f)

-- what stands after the last ETX, without CR and LF in front
abbrev pub last : Front → List ℕ → Result Batch BatchFault
last f [] = ended f
last f (b ∷ body) = if begins f b then Err (fault.Unclosed f.length) else Err (stray f)

-- the fault of what follows a good front that is as long as it can be
pub data FaultAfter (f : Front) : List ℕ → BatchFault → Type 0 where
  no_header : f.stage ≡ Start → FaultAfter f [] (fault.NoHeader f.length)
  no_trailer : (head : Head) → f.stage ≡ Headed head → FaultAfter f [] (fault.NoTrailer f.length)
  no_record : (b : ℕ) (rest : List ℕ)
      → is_skipped b ≡ false → begins f b ≡ false → FaultAfter f (b ∷ rest) (stray f)
  no_end : (body : List ℕ)
      → is_whole f.stage ≡ false → IsInside body → FaultAfter f (STX ∷ body) (fault.Unclosed f.length)
  second_start : (body rest : List ℕ)
      → is_whole f.stage ≡ false → IsInside body → FaultAfter f (STX ∷ (body ++ STX ∷ rest)) (fault.Unclosed f.length)
  bad_record : (body rest : List ℕ) (e : BatchFault)
      → is_whole f.stage ≡ false → IsInside body → record_of f body ≡ Err e → FaultAfter f (STX ∷ (body ++ ETX ∷ rest)) e

-- the bytes are no file, and have this fault
pub record HasFault (bytes : List ℕ) (e : BatchFault) : Type 0 where
  pub front : List ℕ
  pub rest : List ℕ
  pub read : Front
  pub whole : bytes ≡ front ++ rest
  pub good : IsFront front read
  pub fault_is : FaultAfter read rest e

-- a piece without the CR and LF in front of it, and the front that has these
abbrev pub gap : List ℕ → ℕ
gap piece = prefix_len is_skipped piece

abbrev pub unskipped : List ℕ → List ℕ
unskipped piece = drop (gap piece) piece

-- what follows a good front, cut at each ETX, is read record by record
abbrev pub batch_after : Front → List (List ℕ) → Result Batch BatchFault
batch_after f [] = ended f
batch_after f (piece ∷ []) = last (past (gap piece) f) (unskipped piece)
batch_after f (piece ∷ next ∷ pieces) = do
  g ← closed (past (gap piece) f) (unskipped piece)
  batch_after g (next ∷ pieces)

-- what follows a good front
abbrev pub batch_from : Front → List ℕ → Result Batch BatchFault
batch_from f bytes = batch_after f (slice_split (λ b. b == ETX) bytes)

-- the batch of a text, or its first fault
abbrev pub batch_of : List ℕ → Result Batch BatchFault
batch_of bytes = batch_from no_front bytes
