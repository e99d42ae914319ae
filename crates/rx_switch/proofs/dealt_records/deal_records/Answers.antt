-- The records are read at these doors, and the places of each number are its own.
use Rattle.std.proofs.Common.{◌≡◌, ℕ, List, length, map, sym, ap, ◌∙◌, arith}
use Rattle.std.proofs.lemmas.List.{length-map}
use Rattle.rx_batch.specs.declared.detail.Detail.{Detail}
use Rattle.rx_d0_request.specs.Doors.{plan_named}
use Rattle.rx_fields.specs.declared.door.Door.{Door}
use Rattle.rx_schedule.specs.Shards.{is_of, places_of}
use Rattle.rx_schedule.specs.Waves.{number_in}
use Rattle.rx_wave.specs.AtDoors.{transmissions_routed}
use Rattle.rx_switch.specs.RouteParts.{numbers_of}
use Rattle.rx_switch.specs.Routed.{door_of, doors_of}
use Rattle.rx_switch.proofs.dealt_records.deal_records.Goals as goal

pub returns : goal.returns
returns g c = λ x stamps heads details doors.
    let given : List Door = c.args.doors.now in
    let own : List Detail = c.args.batch.now.details in
    let read : c.as_slice-details.result.now ≡ x.details = c.as_slice-details.ensures ∙ sym details in
    let numbers : c.in_ok-numbers.numbers.items ≡ numbers_of x =
    c.in_ok-numbers.ensures
    ∙ ap (λ ds. map (λ d. plan_named given d.text) ds) read
    ∙ ap (λ (ds : List Door). map (λ d. plan_named ds d.text) x.details) (sym doors) in
    let one_number : length (numbers_of x) ≡ length x.details =
    length-map x.details (λ (d : Detail). plan_named (doors_of x.plans) d.text) in
    let long_doors = length-map x.plans door_of in
    let long_given = ap length doors in
    let count = c.in_ok-places.ensures.one_each in
    record {
      lot = c.lot.ensures ∙ ap (λ h. h.lot) (sym heads);
      stamp = sym stamps;
      asked = c.in_ok-asked.ensures
          ∙ ap (λ ds. transmissions_routed given ds) read
          ∙ ap (λ (ds : List Door). transmissions_routed ds x.details) (sym doors);
      numbers = numbers;
      long = omega (arith, count, long_doors, long_given);
      places = λ k low.
          c.in_ok-places.ensures.places k (omega (arith, low, long_doors, long_given))
          ∙ ap (λ (ns : List ℕ). places_of (is_of (number_in ns) k) (length ns)) numbers
          ∙ ap (places_of (is_of (number_in (numbers_of x)) k)) one_number;
    }
