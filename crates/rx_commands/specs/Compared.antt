-- Meaning: what stands at a place of a response file, compared with the reply of the replay.
use Rattle.std.specs.Prelude.{ℕ, nat_eq, ◌==◌, ◌&&◌, Bool, if◌then◌else◌, List, Option, Some, None}
use Rattle.std.specs.Cmp.Lexicographic.{pointwise}
use Rattle.rx_batch.specs.declared.batch.Batch.{Batch}
use Rattle.rx_batch.specs.declared.detail.Detail.{Detail}
use Rattle.rx_d0_values.specs.declared.reply.Reply.{Reply}
use Rattle.rx_explain.specs.Spots.{item}
use Rattle.rx_explain_text.specs.declared.compared.Compared.{Compared}
use Rattle.rx_explain_text.specs.declared.compared.Compared.TheVariants.{Same, Differs, Absent, OtherBatch}
use Rattle.rx_d0_reply.specs.Text.{reply_text}
use Rattle.rx_fields.specs.Numbered.{LotParts}

-- a detail has this reference and this text, byte for byte
abbrev pub is_detail : List ℕ → List ℕ → Detail → Bool
is_detail reference text d = pointwise nat_eq d.reference reference && pointwise nat_eq d.text text

abbrev pub compared_with : List ℕ → List ℕ → Option Detail → Compared
compared_with reference text None = Absent
compared_with reference text (Some d) = if is_detail reference text d then Same else Differs

-- what the file has there, next to a request and the reply to it
abbrev pub compared_to : Option Detail → Option Detail → Option Reply → Compared
compared_to found None reply = Absent
compared_to found (Some asked) None = Absent
compared_to found (Some asked) (Some r) = compared_with asked.reference (reply_text r) found

-- the details of a file at a place, from 1, next to those of the batch and the replies to them
abbrev pub compared_at : List Detail → List Reply → List Detail → ℕ → Compared
compared_at details replies found place = compared_to (item found place) (item details place) (item replies place)

-- those of a file of the batch's number; a file of another number answers another batch, whatever it has there
abbrev pub compared_of : LotParts → List Detail → List Reply → Batch → ℕ → Compared
compared_of lot details replies file place =
    if file.head.lot.number == lot.number then compared_at details replies file.details place else OtherBatch file.head.lot
