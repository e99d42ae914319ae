-- Meaning: a record with the parcel that it is adjudicated on, and what comes of it.
use Rattle.std.specs.Prelude.{◌≡◌, ℕ, ◌≤◌, true}
use Rattle.rx_fields.specs.declared.limits.TheConstants.{MOST_DETAILS}
use Rattle.rx_d0_values.specs.declared.reply.Reply.{Reply}
use Rattle.rx_d0_values.specs.declared.transmission.Transmission.{Transmission}
use Rattle.rx_ledger.specs.Fold.{ledger_after, reply_to}
use Rattle.rx_ledger.specs.Ledger.{Ledger}
use Rattle.rx_ledger.specs.TermList.{TermParts, plan_of}
use Rattle.rx_books_family.specs.Books.{Book, book}
use Rattle.rx_books_parcel.specs.Footprints.{fits, names}
use Rattle.rx_books_parcel.specs.Parcels.{Agrees, ParcelParts, ledger_in, named_in, values_of}

-- the parcel has the books of the record on its own ledger, they agree, and their totals are of the terms' period
pub record Fits (t : Transmission) (terms : TermParts) (p : ParcelParts) : Type 0 where
  pub books : fits (named_in p) t (ledger_in p) ≡ true
  pub agrees : Agrees p
  pub period : p.period ≡ terms.figures.period

-- a place in the batch, from 1, with its record, the record's terms and its books
pub record OrderParts : Type 0 where
  pub place : ℕ
  pub transmission : Transmission
  pub terms : TermParts
  pub parcel : ParcelParts

-- the place is one of a batch, and the parcel fits the record
pub record IsOrder (o : OrderParts) : Type 0 where
  pub from_one : 1 ≤ o.place
  pub in_batch : o.place ≤ MOST_DETAILS
  pub fit : Fits o.transmission o.terms o.parcel

-- what the record makes of the ledger of its books
abbrev pub reply_of : OrderParts → Reply
reply_of o = reply_to o.terms.lot (plan_of o.terms) o.place o.transmission (ledger_in o.parcel)

abbrev pub ledger_of : OrderParts → Ledger
ledger_of o = ledger_after o.terms.lot (plan_of o.terms) o.place o.transmission (ledger_in o.parcel)

-- an order, the parcel after it and the reply to it
pub record DoneParts : Type 0 where
  pub order : OrderParts
  pub after : ParcelParts
  pub reply : Reply

-- the reply is the record's; the parcel after has the books that the record's ledger has of the parcel's names, they
-- agree, and its period is the same
pub record IsDone (d : DoneParts) : Type 0 where
  pub reply_is : d.reply ≡ reply_of d.order
  pub same_names : named_in d.after ≡ named_in d.order.parcel
  pub same_period : d.after.period ≡ d.order.parcel.period
  pub books : (b : Book) → names (named_in d.order.parcel) b ≡ true → values_of d.after b ≡ book b (ledger_of d.order)
  pub agrees : Agrees d.after
