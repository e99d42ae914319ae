use Rattle.std.proofs.Common.{◌≡◌, map, take}
use Rattle.rx_books_shelf.specs.Opened.{full_key_place}
use Rattle.rx_books_shelf.proofs.placing.key_places.Given as goal

abbrev pub invariant-loop-key : goal.invariant-loop-key
invariant-loop-key l = l.places.items ≡ map (full_key_place l.open.books) (take l.key-index l.keys)
