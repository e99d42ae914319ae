-- Plumbing: the texts that adjudicating a batch gives, and those of the replies among them.
use Rattle.std.specs.Prelude.{◌≡◌, List}
use Rattle.std.specs.List.{flat_map}
use Rattle.std.specs.Vec.{vec_items}
use Rattle.rx_batch.specs.declared.batch.Batch.{Batch}
use Rattle.rx_d0_values.specs.declared.reply.Reply.{Reply}
use Rattle.rx_fields.specs.declared.stamp.Stamp.{Stamp}
use Rattle.rx_response.specs.Response.{response_text}
use Rattle.rx_settle.specs.Settlement.{settlement_text}
use Rattle.rx_switch.specs.declared.adjudicating.Adjudicated.{Adjudicated}
use Rattle.rx_switch.specs.declared.adjudicating.Replied.{Replied}
use Rattle.rx_switch.specs.Job.{texts_in_pieces}
use Rattle.rx_switch.specs.Output.{Texts}

pub record IsOfReplies (batch : Batch) (stamp : Stamp) (replies : List Reply) (texts : Replied) : Type 0 where
  pub response : flat_map vec_items texts.response.items ≡ response_text batch.head stamp batch.details replies
  pub settlement : texts.settlement.items ≡ settlement_text batch.head.lot stamp replies

abbrev pub texts_made : Adjudicated → Texts
texts_made adjudicated = texts_in_pieces adjudicated.pieces
