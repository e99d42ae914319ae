-- Meaning: what a detail of a response file holds.
use Rattle.std.specs.Prelude.{◌≡◌, ℕ, List}
use Rattle.rx_d0_values.specs.declared.reply.Reply.{Reply}
use Rattle.rx_d0_reply.specs.declared.fault.ReplyFault.{ReplyFault}
use Rattle.rx_d0_reply.specs.Fault.{fault_of}
use Rattle.rx_d0_reply.specs.Limits.{IsReply}
use Rattle.rx_d0_reply.specs.Text.{reply_text}
use Rattle.rx_show.specs.declared.responses.found.Found.{Found}
use Rattle.rx_show.specs.declared.responses.found.Found.TheVariants as found

-- the text of a reply within the limits
abbrev pub IsTextOf : List ℕ → Reply → Type 0
IsTextOf text r = IsReply r × (text ≡ reply_text r)

-- the text of no reply, with its fault
abbrev pub IsUnreadable : List ℕ → ReplyFault → Type 0
IsUnreadable text fault = ((r : Reply) → IsTextOf text r → ⊥) × (fault ≡ fault_of text)

abbrev pub IsFound : List ℕ → Found → Type 0
IsFound text (found.Reply r) = IsTextOf text r
IsFound text (found.Unreadable fault) = IsUnreadable text fault
