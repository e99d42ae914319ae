-- What an order has come to, where the ledger of its parcel is the record's.
use Rattle.std.proofs.Common.{◌≡◌, Some, sym, ap, ◌∙◌}
use Rattle.rx_d0_values.specs.declared.reply.Reply.{Reply}
use Rattle.rx_ledger.specs.Basis.{Scope}
use Rattle.rx_books_family.specs.Books.{Book, OfFamily, OfKey, book}
use Rattle.rx_books_parcel.specs.Footprints.{names}
use Rattle.rx_books_parcel.specs.Parcels.{IsParcel, ParcelParts, ledger_in, named_in}
use Rattle.rx_books_parcel.proofs.Held.{books_are}
use Rattle.rx_adjudicate.specs.Orders.{IsDone, OrderParts, ledger_of, reply_of}
use Rattle.rx_adjudicate.specs.Scopes.{IsAgreed, scope_in}
use Rattle.rx_adjudicate.proofs.Names.{footprint_of, same_names}

module _ (o : OrderParts) (after : ParcelParts) (reply : Reply) (before_is : IsParcel o.parcel) (after_is : IsAgreed after)
    (replied : reply ≡ reply_of o) (ledger : ledger_in after ≡ ledger_of o) (scope : scope_in after ≡ scope_in o.parcel) where
  names_are : (b : Book) → names (named_in after) b ≡ names (named_in o.parcel) b
  names_are (OfKey k) = ap (λ (s : Scope). s.has_key k) scope
  names_are (OfFamily f) = ap (λ (s : Scope). s.has_family f) scope

  names_stay : named_in after ≡ named_in o.parcel
  names_stay = same_names (named_in after) (named_in o.parcel) (footprint_of after after_is.parcel)
      (footprint_of o.parcel before_is) names_are

  period_stays : after.period ≡ o.parcel.period
  period_stays =
      let e : Some after.period ≡ Some o.parcel.period = ap (λ (s : Scope). s.period) scope in
      cc

  pub finished : IsDone (record { order = o; after = after; reply = reply })
  finished = record {
    reply_is = replied;
    same_names = names_stay;
    same_period = period_stays;
    books = λ b n. sym (books_are after after_is.parcel after_is.agrees b (names_are b ∙ n)) ∙ ap (book b) ledger;
    agrees = after_is.agrees;
  }
