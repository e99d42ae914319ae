-- Plumbing: the fill keys that a batch names.
pub use Rattle.rx_d0_values.specs.Keys.{key_in}
use Rattle.std.specs.Prelude.{Bool, false, List}
use Rattle.std.specs.List.{list_any}
use Rattle.std.specs.Ordering.{is_eq}
use Rattle.rx_fields.specs.Order.{key_cmp}
use Rattle.rx_fields.specs.declared.key.Key.{Key}
use Rattle.rx_d0_values.specs.declared.transaction.Transaction.{Transaction}
use Rattle.rx_d0_values.specs.declared.transaction.Transaction.TheVariants.{Bill, Reverse, Faulty}
use Rattle.rx_d0_values.specs.declared.transmission.Body.{Body}
use Rattle.rx_d0_values.specs.declared.transmission.Body.TheVariants.{Rejected, Heard}
use Rattle.rx_d0_values.specs.declared.transmission.Heard.{Heard as HeardRecord}
use Rattle.rx_d0_values.specs.declared.transmission.Transmission.{Transmission}

-- a transaction of the record is a billing or a reversal under the fill key
abbrev pub names : HeardRecord → Key → Transaction → Bool
names h key (Bill b) = is_eq (key_cmp (key_in h b.reference) key)
names h key (Reverse v) = is_eq (key_cmp (key_in h v.reference) key)
names h key (Faulty f) = false

-- one of the record's transactions names the fill key; a rejected header has none
abbrev pub body_names : Key → Body → Bool
body_names key (Rejected r) = false
body_names key (Heard h) = list_any (names h key) h.list

-- one of the batch's records names the fill key
abbrev pub is_named : Key → List Transmission → Bool
is_named key transmissions = list_any (λ t. body_names key t.body) transmissions
