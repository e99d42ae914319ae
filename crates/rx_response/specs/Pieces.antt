-- Plumbing: the records of a response file, made in pieces.
use Rattle.std.specs.Prelude.{ℕ, List}
use Rattle.std.specs.List.{flat_map}
use Rattle.rx_batch.specs.declared.detail.Detail.{Detail}
use Rattle.rx_batch.specs.Grammar.{record_text}
use Rattle.rx_batch.specs.Writing.{detail_text}
use Rattle.rx_d0_values.specs.declared.reply.Reply.{Reply}
use Rattle.rx_response.specs.Response.{response_detail}

-- the record of a detail's answer
abbrev pub answer_text : Detail → Reply → List ℕ
answer_text detail reply = record_text (detail_text (response_detail detail reply))

-- the records of details, one after another
abbrev pub records_text : List Detail → List ℕ
records_text details = flat_map (λ d. record_text (detail_text d)) details
