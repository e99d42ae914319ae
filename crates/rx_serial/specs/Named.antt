-- Plumbing: the fill keys that records name.
use Rattle.std.specs.Prelude.{List, [], ◌∷◌}
use Rattle.std.specs.List.{flat_map}
use Rattle.rx_fields.specs.declared.key.Key.{Key}
use Rattle.rx_d0_values.specs.declared.transaction.Transaction.{Transaction}
use Rattle.rx_d0_values.specs.declared.transaction.Transaction.TheVariants.{Bill, Reverse, Faulty}
use Rattle.rx_d0_values.specs.declared.transmission.Body.{Body}
use Rattle.rx_d0_values.specs.declared.transmission.Body.TheVariants.{Rejected, Heard}
use Rattle.rx_d0_values.specs.declared.transmission.Heard.{Heard as HeardRecord}
use Rattle.rx_d0_values.specs.declared.transmission.Transmission.{Transmission}
use Rattle.rx_ledger.specs.Named.{key_in}
use Rattle.rx_serial.specs.declared.names.Named.{Named}

-- the fill key of a transaction
abbrev pub keys_of : HeardRecord → Transaction → List Key
keys_of h (Bill b) = key_in h b.reference ∷ []
keys_of h (Reverse v) = key_in h v.reference ∷ []
keys_of h (Faulty f) = []

-- those of a record
abbrev pub keys_in : Body → List Key
keys_in (Rejected r) = []
keys_in (Heard h) = flat_map (keys_of h) h.list

-- those of some records
abbrev pub keys_named : List Transmission → List Key
keys_named records = flat_map (λ t. keys_in t.body) records

-- a key that is named
abbrev pub named_key : Named → Key
named_key n = n.key
