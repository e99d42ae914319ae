-- The parcel that a record is taken with fits it: its values are those that the fold has before the record.
use Rattle.std.proofs.Common.{◌≡◌, List, [], ◌∷◌, true, refl, ap, ◌∙◌, inl, inr}
use Rattle.std.specs.Prelude.{◌&&◌}
use Rattle.std.specs.List.{list_all}
use Rattle.std.proofs.lemmas.Bool.{cases_Bool}
use Rattle.rx_d0_values.specs.declared.transaction.Transaction.{Transaction}
use Rattle.rx_d0_values.specs.declared.transaction.Transaction.TheVariants.{Bill, Faulty, Reverse}
use Rattle.rx_d0_values.specs.declared.transmission.Body.{Body}
use Rattle.rx_d0_values.specs.declared.transmission.Body.TheVariants.{Heard, Rejected}
use Rattle.rx_d0_values.specs.declared.transmission.Heard.{Heard as HeardRecord}
use Rattle.rx_d0_values.specs.declared.transmission.Transmission.{Transmission}
use Rattle.rx_ledger.specs.Ledger.{Ledger}
use Rattle.rx_ledger.specs.Named.{key_in}
use Rattle.rx_ledger.specs.TermList.{TermParts}
use Rattle.rx_books_family.specs.Books.{Book, IsInOrder, OfKey, book}
use Rattle.rx_books_parcel.specs.Footprints.{FootprintParts, fits, fits_body, fits_one, names, names_holder}
use Rattle.rx_books_parcel.specs.Parcels.{ParcelParts, ledger_in, named_in, values_of}
use Rattle.rx_books_parcel.proofs.Agreed.{books_agree}
use Rattle.rx_books_parcel.proofs.Parts.{part, row_part, sub_part, sub_same}
use Rattle.rx_adjudicate.specs.Orders.{Fits}

-- what a footprint names fits alike on the ledger and on its part
module _ (F : FootprintParts) (h : HeardRecord) (L : Ledger) where
  one_alike : (t : Transaction) → fits_one F h (part F L) t ≡ fits_one F h L t
  one_alike (Bill b) = refl
  one_alike (Reverse v) = elim (cases_Bool (names F (OfKey (key_in h v.reference)))) [
    | inl n ↦ ap (λ o. names F (OfKey (key_in h v.reference)) && names_holder F o) (row_part F (key_in h v.reference) L n)
    | inr n ↦ rw n refl
  ]
  one_alike (Faulty f) = refl

  all_alike : (ts : List Transaction) → list_all (fits_one F h (part F L)) ts ≡ list_all (fits_one F h L) ts
  all_alike [] = refl
  all_alike (t ∷ ts) = (λ i. one_alike t i && all_alike ts i)

body_alike : (F : FootprintParts) (L : Ledger) (body : Body) → fits_body F (part F L) body ≡ fits_body F L body
body_alike F L (Rejected r) = refl
body_alike F L (Heard h) = all_alike F h L h.list

-- a parcel with a ledger's books, whose names fit the record there
pub fits_on : (p : ParcelParts) (terms : TermParts) (t : Transmission) (F : FootprintParts) (M : Ledger) → IsInOrder M
    → named_in p ≡ F → ((b : Book) → names F b ≡ true → values_of p b ≡ book b M) → fits F t M ≡ true
    → p.period ≡ terms.figures.period → Fits t terms p
fits_on p terms t F M order named values fit period =
    let own : (b : Book) → names (named_in p) b ≡ true → values_of p b ≡ book b M = λ b n. values b (rw named at n) in
    let ledger : ledger_in p ≡ part F M =
    sub_same (named_in p) (values_of p) (λ b. book b M) own ∙ sub_part (named_in p) M order ∙ ap (λ G. part G M) named in
    record {
      books = (λ i. fits (named i) t (ledger i)) ∙ body_alike F M t.body ∙ fit;
      agrees = books_agree (named_in p) (values_of p) M order own;
      period = period;
    }
