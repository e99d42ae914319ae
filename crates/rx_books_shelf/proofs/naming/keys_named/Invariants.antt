-- The names of the footprints so far, whose lists are in order.
use Rattle.std.proofs.Common.{◌≡◌, take}
use Rattle.std.specs.List.{All, flat_map}
use Rattle.rx_books_parcel.specs.Footprints.{FootprintParts, IsFootprint}
use Rattle.rx_books_shelf.proofs.naming.keys_named.Given as goal

abbrev pub invariant-loop-footprint : goal.invariant-loop-footprint
invariant-loop-footprint l = record {
  names : l.keys.items ≡ flat_map (λ (F : FootprintParts). F.keys) (take l.footprint-index l.footprints);
  in_order : All IsFootprint (take l.footprint-index l.footprints);
}
