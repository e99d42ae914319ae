-- Meaning: the response file of a batch: to each detail the reply to it.
use Rattle.std.specs.Prelude.{ℕ, List, map, zip}
use Rattle.rx_fields.specs.declared.stamp.Stamp.{Stamp}
use Rattle.rx_batch.specs.declared.detail.Detail.{Detail}
use Rattle.rx_batch.specs.declared.head.Head.{Head}
use Rattle.rx_batch.specs.declared.head.Kind.TheVariants.{Response}
use Rattle.rx_batch.specs.Writing.{file_text}
use Rattle.rx_d0_values.specs.declared.reply.Reply.{Reply}
use Rattle.rx_d0_reply.specs.Text.{reply_text}

-- the batch's header as its receiver sends it back: the same batch number and file type, the stamp as date and time
abbrev pub response_head : Head → Stamp → Head
response_head head stamp =
    record {
      kind = Response;
      sender = head.receiver;
      lot = record { number = head.lot.number; created = stamp.date };
      time = stamp.time;
      file = head.file;
      receiver = head.sender;
    }

-- a detail's reference, with the text of the reply to it
abbrev pub response_detail : Detail → Reply → Detail
response_detail detail reply = record { reference = detail.reference; text = reply_text reply }

-- each detail with the reply at its place
abbrev pub response_details : List Detail → List Reply → List Detail
response_details details replies = map (λ p. response_detail p.0 p.1) (zip details replies)

-- the file of that header and these details
abbrev pub response_text : Head → Stamp → List Detail → List Reply → List ℕ
response_text head stamp details replies = file_text (response_head head stamp) (response_details details replies)
