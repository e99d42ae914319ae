-- Meaning: prescription reference numbers, and the fill keys that they make in a record.
use Rattle.std.specs.Prelude.{ℕ, Option, Some}
use Rattle.rx_fields.specs.declared.key.Key.{Key}
use Rattle.rx_d0_values.specs.declared.transaction.Transaction.{Transaction}
use Rattle.rx_d0_values.specs.declared.transaction.Transaction.TheVariants.{Bill, Reverse, Faulty}
use Rattle.rx_d0_values.specs.declared.transmission.Heard.{Heard}

-- the fill key of a prescription reference number in a record
abbrev pub key_in : Heard → ℕ → Key
key_in h reference = record { provider = h.provider; reference = reference; date = h.date }

-- the prescription reference number of a transaction, where it was read
abbrev pub reference_of : Transaction → Option ℕ
reference_of (Bill b) = Some b.reference
reference_of (Reverse v) = Some v.reference
reference_of (Faulty f) = f.reference
