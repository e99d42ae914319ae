-- Meaning: which texts are response files: as batch files are, but with type R (NCPDP Batch Standard 1.2).
use Rattle.std.specs.Prelude.{◌≡◌, ℕ, ◌==◌, if◌then◌else◌, List, ◌∷◌, ◌++◌, take, Result, Ok}
use Rattle.rx_batch.specs.declared.batch.Batch.{Batch}
use Rattle.rx_batch.specs.declared.detail.Detail.{Detail}
use Rattle.rx_batch.specs.declared.fault.BatchFault.{BatchFault}
use Rattle.rx_batch.specs.declared.head.Head.{Head}
use Rattle.rx_batch.specs.declared.head.Kind.TheVariants.{Response}
use Rattle.rx_text.specs.Results.{◌>>=◌}
use Rattle.rx_batch.specs.Grammar.{IsFile}
use Rattle.rx_batch.specs.Reading.{batch_of, gap, unskipped}

-- T for R, and R for T
abbrev pub exchanged : ℕ → ℕ
exchanged b = if b == 82 then 84 else (if b == 84 then 82 else b)

-- a record with the type of its header exchanged: its fourth byte, counted with the STX
abbrev pub exchanged_in : List ℕ → List ℕ
exchanged_in (stx ∷ first ∷ second ∷ kind ∷ rest) = stx ∷ first ∷ second ∷ exchanged kind ∷ rest
exchanged_in short = short

-- the text with the type of its header exchanged, after the CR and LF before it
abbrev pub as_batch : List ℕ → List ℕ
as_batch bytes = take (gap bytes) bytes ++ exchanged_in (unskipped bytes)

-- the bytes are a response file of this head and these details: with the type exchanged a batch file of them
pub record IsResponse (bytes : List ℕ) (head : Head) (details : List Detail) : Type 0 where
  pub asked : Head
  pub file : IsFile (as_batch bytes) asked details
  pub head_is : head ≡ record asked { kind = Response }

abbrev pub with_kind : Batch → Batch
with_kind batch = record batch { head = record batch.head { kind = Response } }

-- what a text is as a response file: the batch that it is with the type exchanged, or that batch's first fault, which
-- stands at the same place
abbrev pub response_of : List ℕ → Result Batch BatchFault
response_of bytes = do
  batch ← batch_of (as_batch bytes)
  Ok (with_kind batch)
