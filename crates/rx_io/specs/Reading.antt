-- Meaning: what reading an input to its end means (docs/RULES.md, "Limits").
use Rattle.std.specs.Prelude.{◌≡◌, ◌≤◌, ◌+◌, ℕ, Bool, true, false, List, [], ◌++◌, length, Option, Some, None, Result, Ok, Err, ⊤}
use Rattle.std.specs.Io.KnownBytes.{Consumes}
use Rattle.rx_io.specs.declared.fault.ReadFault.{ReadFault}
use Rattle.rx_io.specs.declared.fault.ReadFault.TheVariants.{Failed, Long, Memory}

-- the most bytes that an input may have
abbrev pub most_bytes : ℕ
most_bytes = 268435456

-- the most reads that an input may take, with the one that finds the end
abbrev pub most_reads : ℕ
most_reads = 4194304

-- the least room that a read is offered, in bytes
abbrev pub least_room : ℕ
least_room = 4096

-- the most calls of a reader that are made again where signals interrupt them
abbrev pub most_again : ℕ
most_again = 65536

-- at most this many reads of a source were made, each with that room: by what it counts, which has with the reads that were made
-- those that it may make again, and by what it looks at
pub record AreFewReads {S : Type 0} (reads : S → ℕ) (cramped : S → Bool) (before after : S) : Type 0 where
  pub few : reads after ≤ reads before + most_reads
  pub roomy : cramped before ≡ false → cramped after ≡ false

-- whether a fault is a failure of the device
abbrev pub is_failure : ReadFault → Bool
is_failure Failed = true
is_failure Long = false
is_failure Memory = false

-- whether reading met a failure of the device
abbrev pub has_failed : {X : Type 0} → Result X ReadFault → Bool
has_failed (Ok x) = false
has_failed (Err fault) = is_failure fault

-- the text is all the bytes that were left, and none is left now
abbrev pub IsWhole : Option (List ℕ) → Option (List ℕ) → List ℕ → Type 0
IsWhole None rest text = ⊤
IsWhole (Some bytes) rest text = (text ≡ bytes) × (rest ≡ Some [])

-- an input's text was read: it is whole, and within the limit
pub record IsRead (left rest : Option (List ℕ)) (text : List ℕ) : Type 0 where
  pub whole : IsWhole left rest text
  pub within : length text ≤ most_bytes

-- whoever took a text before, has taken these bytes after it
abbrev pub TakesOn : (List ℕ → Type 0) → (List ℕ → Type 0) → List ℕ → Type 0
TakesOn before after bytes = (text : List ℕ) → before text → after (text ++ bytes)

-- the next bytes, which are that many, went from the source to the consumer
pub record PassesPiece (left rest : Option (List ℕ)) (before after : List ℕ → Type 0) (count : ℕ) : Type 0 where
  pub bytes : List ℕ
  pub length_is : length bytes ≡ count
  pub given : Consumes left rest bytes
  pub taken : TakesOn before after bytes

-- a whole input went from the source to the consumer
pub record PassesAll (left rest : Option (List ℕ)) (before after : List ℕ → Type 0) : Type 0 where
  pub bytes : List ℕ
  pub is_read : IsRead left rest bytes
  pub taken : TakesOn before after bytes

-- the bytes are a front of those that are left, where the source reports these
abbrev pub IsFrontOf : List ℕ → Option (List ℕ) → Type 0
IsFrontOf bytes None = ⊤
IsFrontOf bytes (Some all) = (rest : List ℕ) × (all ≡ bytes ++ rest)

-- a front of an input went to the consumer
pub record PassesFront (left : Option (List ℕ)) (before after : List ℕ → Type 0) : Type 0 where
  pub bytes : List ℕ
  pub is_front : IsFrontOf bytes left
  pub taken : TakesOn before after bytes

-- whatever the consumer stood for, it stands for
abbrev pub TakesNothing : (List ℕ → Type 0) → (List ℕ → Type 0) → Type 0
TakesNothing before after = (text : List ℕ) → before text → after text
