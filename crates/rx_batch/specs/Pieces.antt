-- Plumbing: what a batch that comes in pieces stands for.
use Rattle.std.specs.Prelude.{◌≡◌, ℕ, false, List, [], ◌∷◌, ◌++◌, Option, Some, None, Result, Ok, Err, MatchOption}
use Rattle.rx_batch.specs.declared.fault.BatchFault.{BatchFault}
use Rattle.rx_batch.specs.declared.front.Front.{Front}
use Rattle.rx_batch.specs.declared.layout.TheConstants.{STX}
use Rattle.rx_batch.specs.declared.reader.Reader.{Reader}
use Rattle.rx_batch.specs.Fault.{UnlessMemory}
use Rattle.rx_batch.specs.Grammar.{IsFront, IsInside}
use Rattle.rx_batch.specs.Reading.{is_whole, batch_of}

-- the bytes of a record without its ETX, or nothing
abbrev pub begun_text : Option (List ℕ) → List ℕ
begun_text None = []
begun_text (Some body) = STX ∷ body

-- no second STX stands in a record that was begun, and no record is begun after the trailer
abbrev pub CanBegin : Front → Option (List ℕ) → Type 0
CanBegin f None = Unit {0}
CanBegin f (Some body) = IsInside body × (is_whole f.stage ≡ false)

-- the text is a good front, followed by nothing or by a record without its ETX
pub record IsRead (reader : Reader) (text : List ℕ) : Type 0 where
  pub bytes : List ℕ
  pub good : IsFront bytes reader.front
  pub whole : text ≡ bytes ++ begun_text reader.begun
  pub can_begin : CanBegin reader.front reader.begun

-- every text that begins with this one has this fault
abbrev pub IsFaultOf : BatchFault → List ℕ → Type 0
IsFaultOf f text = UnlessMemory f ((more : List ℕ) → batch_of (text ++ more) ≡ Err f)

-- the pieces so far: what was read of them, and their fault if they have one
pub record Fed : Type 0 where
  pub reader : Reader
  pub fault : Option BatchFault

-- the pieces so far are this text
abbrev pub StandsFor : Fed → List ℕ → Type 0
StandsFor fed text = MatchOption fed.fault (IsRead fed.reader text) (λ f. IsFaultOf f text)

-- what each call answers once there is a fault
abbrev pub answer_of : Option BatchFault → Result Unit BatchFault
answer_of None = Ok tt
answer_of (Some f) = Err f

-- a reader has read a text up to these last bytes
pub record IsReadUpTo (reader : Reader) (text rest : List ℕ) : Type 0 where
  pub before : List ℕ
  pub whole : text ≡ before ++ rest
  pub is_read : IsRead reader before
