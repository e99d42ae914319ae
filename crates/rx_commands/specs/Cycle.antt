-- Meaning: the settlement of a pay cycle, from its response files and nothing else.
use Rattle.std.specs.Prelude.{◌≡◌, ℕ, ◌+◌, List, [], ◌∷◌, ◌++◌, Option, Some, None, Result, Ok, Err, length, map}
use Rattle.std.specs.List.{AllZip, flat_map}
use Rattle.std.specs.declared.vec.Vec.{Vec}
use Rattle.rx_batch.specs.declared.detail.Detail.{Detail}
use Rattle.rx_batch.specs.declared.head.Head.{Head}
use Rattle.rx_batch.specs.Reading.{HasFault}
use Rattle.rx_d0_reply.specs.declared.fault.ReplyFault.{ReplyFault}
use Rattle.rx_d0_values.specs.declared.reply.Reply.{Reply}
use Rattle.rx_settle.specs.declared.batch_run.BatchRun.{BatchRun}
use Rattle.rx_settle.specs.Together.{line_alone, together_text}
use Rattle.rx_show.specs.Found.{IsTextOf, IsUnreadable}
use Rattle.rx_show.specs.ResponseFile.{IsResponse, as_batch}
use Rattle.rx_switch.specs.Output.{Given, IsOutput, Texts}
use Rattle.rx_commands.specs.declared.cycle.fault.CycleFault.{CycleFault}
use Rattle.rx_commands.specs.declared.cycle.fault.CycleFault.TheVariants as fault

-- ---- a response file

-- a batch that was answered: the head of its response file, and the replies
pub record Answered : Type 0 where
  pub head : Head
  pub replies : List Reply

-- the details hold the texts of these replies, one each
abbrev pub AreTexts : List Detail → List Reply → Type 0
AreTexts details replies = AllZip (λ d r. IsTextOf d.text r) details replies

-- the bytes are the response file of this batch
pub record IsAnswered (bytes : List ℕ) (b : Answered) : Type 0 where
  pub details : List Detail
  pub file : IsResponse bytes b.head details
  pub texts : AreTexts details b.replies

-- what the head line of its settlement says: the batch number, and the stamp that its header has as date and time
abbrev pub run_of : Head → BatchRun
run_of head = record { lot = head.lot; stamp = record { date = head.lot.created; time = head.time } }

abbrev pub runs_in : List Answered → List BatchRun
runs_in batches = map (λ b. run_of b.head) batches

-- the replies to batches, one batch after another
abbrev pub replies_in : List Answered → List Reply
replies_in batches = flat_map (λ b. b.replies) batches

-- ---- what is printed

-- the settlement of all together, or the line of one provider
abbrev pub text_by : Option (List ℕ) → List BatchRun → List Reply → List ℕ
text_by None runs replies = together_text runs replies
text_by (Some id) runs replies = line_alone id replies

abbrev pub cycle_text : Option (List ℕ) → List Answered → List ℕ
cycle_text only batches = text_by only (runs_in batches) (replies_in batches)

-- the files are response files of batches, and this is what is printed of them
pub record IsCycleText (files : List (List ℕ)) (only : Option (List ℕ)) (text : List ℕ) : Type 0 where
  pub batches : List Answered
  pub each : AllZip IsAnswered files batches
  pub text_is : text ≡ cycle_text only batches

-- this is printed, unless memory ran out
abbrev pub IsSettledAs : {Z : Type 0} → Result (Vec ℕ Z) CycleFault → List ℕ → Type 0
IsSettledAs (Ok text) meant = text.items ≡ meant
IsSettledAs (Err f) meant = f ≡ fault.Memory

-- ---- a run

-- of the response file among the texts of a run this is printed, and it is the settlement among them
pub record IsSettlementOf (texts : Texts) (text : List ℕ) : Type 0 where
  pub printed : IsCycleText (texts.response ∷ []) None text
  pub same : text ≡ texts.settlement

-- a run of what is given has such texts
pub record IsSettledBack (given : Given) (text : List ℕ) : Type 0 where
  pub texts : Texts
  pub output : IsOutput given texts
  pub settled : IsSettlementOf texts text

-- ---- what is refused

-- the first detail that holds no reply is the one at this place, counted from 1
pub record IsFirstUnreadable (details : List Detail) (place : ℕ) (f : ReplyFault) : Type 0 where
  pub whole : List Detail
  pub detail : Detail
  pub rest : List Detail
  pub replies : List Reply
  pub cut : details ≡ whole ++ detail ∷ rest
  pub texts : AreTexts whole replies
  pub place_is : place ≡ length whole + 1
  pub unreadable : IsUnreadable detail.text f

-- the bytes are a response file with such a detail
pub record HoldsNoReply (bytes : List ℕ) (place : ℕ) (f : ReplyFault) : Type 0 where
  pub head : Head
  pub details : List Detail
  pub file : IsResponse bytes head details
  pub first : IsFirstUnreadable details place f

-- the bytes are the response file of no batch; they stand at this place among the files, counted from 0
abbrev pub IsBadFile : ℕ → List ℕ → CycleFault → Type 0
IsBadFile at bytes (fault.NoResponse file f) = (file ≡ at) × HasFault (as_batch bytes) f
IsBadFile at bytes (fault.NoReply file place f) = (file ≡ at) × HoldsNoReply bytes place f
IsBadFile at bytes fault.Memory = Unit {0}

-- the first bad file has this fault; out of memory may stand in place of any answer
pub data IsNotSettled (files : List (List ℕ)) : CycleFault → Type 0 where
  bad : (whole rest : List (List ℕ)) (batches : List Answered) (bytes : List ℕ) (f : CycleFault)
      → files ≡ whole ++ bytes ∷ rest → AllZip IsAnswered whole batches → IsBadFile (length whole) bytes f
      → IsNotSettled files f
  memory : IsNotSettled files fault.Memory
