use Rattle.std.proofs.Common.{◌≡◌, ◌∙◌, ap}
use Rattle.rx_books_parcel.specs.Parcels.{ledger_in}
use Rattle.rx_adjudicate.specs.Orders.{ledger_of, reply_of}
use Rattle.rx_adjudicate.specs.Scopes.{IsAgreed, scope_in}
use Rattle.rx_adjudicate.proofs.Asked.{holds_record}
use Rattle.rx_adjudicate.proofs.Finished.{finished}
use Rattle.rx_adjudicate.proofs.done.answered.Goals as goal

pub new-agreed-requires : goal.new-agreed-requires
new-agreed-requires c = record {
  parcel = c.in_ok-copy.ensures.within;
  agrees = rw (c.in_ok-copy.ensures.value, c.parcel.ensures.value) c.parcel.ensures.within.fit.agrees;
}

pub answer_record-requires-clause-held : goal.answer_record-requires-clause-held
answer_record-requires-clause-held c =
    let o = c.args.order.now in
    let same : c.new-agreed.result ≡ o.parcel =
    c.new-agreed.ensures.value ∙ c.in_ok-copy.ensures.value ∙ c.parcel.ensures.value in
    rw (same, c.transmission.ensures)
    (holds_record o.parcel (ledger_in o.parcel) o.transmission.body c.place.ensures.within.fit.books)

pub returns : goal.returns
returns c =
    let o = c.args.order.now in
    let same : c.new-agreed.result ≡ o.parcel =
    c.new-agreed.ensures.value ∙ c.in_ok-copy.ensures.value ∙ c.parcel.ensures.value in
    let before_is : IsAgreed o.parcel = rw same at c.new-agreed.ensures.within in
    let after_is : IsAgreed c.into_parcel.result = rw c.into_parcel.ensures.value c.into_parcel.ensures.within in
    let replied : c.in_ok-reply.reply ≡ reply_of o =
    rw (c.terms-terms.ensures, c.place.ensures.value, c.transmission.ensures, same) at c.in_ok-reply.ensures.value in
    let ledger : ledger_in c.answer_record.new.basis ≡ ledger_of o =
    rw (c.terms-terms.ensures, c.place.ensures.value, c.transmission.ensures, same) at c.in_ok-reply.ensures.after in
    let scope : scope_in c.answer_record.new.basis ≡ scope_in o.parcel = rw same at c.in_ok-reply.ensures.scope in
    finished o c.into_parcel.result c.in_ok-reply.reply before_is.parcel after_is replied
    (ap ledger_in c.into_parcel.ensures.value ∙ ledger) (ap scope_in c.into_parcel.ensures.value ∙ scope)
