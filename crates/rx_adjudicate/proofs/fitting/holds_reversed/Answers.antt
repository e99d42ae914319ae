use Rattle.std.proofs.Common.{◌≡◌, true, sym, ap, ◌∙◌}
use Rattle.rx_books_family.specs.Books.{OfKey}
use Rattle.rx_books_parcel.specs.Footprints.{names, names_holder}
use Rattle.rx_books_parcel.specs.Parcels.{named_in}
use Rattle.rx_books_parcel.proofs.Held.{row_read}
use Rattle.rx_adjudicate.proofs.fitting.holds_reversed.Goals as goal

pub returns-then-has_key : goal.returns-then-has_key
returns-then-has_key c =
    let p = c.args.parcel.now in
    let key = c.args.key.now in
    let n : names (named_in p) (OfKey key) ≡ true = sym c.has_key.ensures ∙ c.if-has_key.true in
    rw n (c.holds_family_of.ensures ∙ ap (names_holder (named_in p))
    (c.row.ensures ∙ sym (row_read p c.requires.parcel c.requires.agrees key n)))
