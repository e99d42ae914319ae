-- Those of all records, by what is borrowed.
use Rattle.std.proofs.Common.{sym, ap, ◌∙◌}
use Rattle.std.specs.List.{flat_map}
use Rattle.std.proofs.lemmas.List.{take_all}
use Rattle.std.proofs.lemmas.List.Folds.{flat_map-map}
use Rattle.rx_d0_values.specs.declared.transmission.Transmission.{Transmission}
use Rattle.rx_serial.specs.Named.{keys_in}
use Rattle.rx_serial.proofs.names.keys_named.Goals as goal

pub returns : goal.returns
returns c =
    let records = c.args.records.now in
    c.loop-transmission.invariant
    ∙ ap (flat_map (λ t. keys_in t.now.body)) (take_all c.loop-transmission.transmission-index records c.loop-transmission-test.false)
    ∙ sym (flat_map-map (λ (t : Transmission). keys_in t.body) (λ t. t.now) records)
