use Rattle.std.proofs.Common.{◌≡◌, ℕ, ◌+◌, List, length, Ok, Err, Option, ◌∙◌, ap, rules}
use Rattle.std.proofs.lemmas.Result.{err_from_is_err_and}
use Rattle.std.specs.Option.{ok_or}
use Rattle.rx_text.specs.Results.{◌>>=◌}
use Rattle.rx_batch.specs.declared.detail.Detail.{Detail}
use Rattle.rx_batch.specs.declared.fault.BatchFault.TheVariants as fault
use Rattle.rx_batch.specs.declared.head.Head.{Head}
use Rattle.rx_batch.specs.declared.trailer.Trailer.{Trailer}
use Rattle.rx_batch.specs.Grammar.{agreeing, trailer}
use Rattle.rx_batch.specs.Header.{trailer_of}
use Rattle.rx_batch.proofs.record.trailer.Goals as goal
use Rattle.rx_batch.proofs.record.trailer.Goals.{else-trailer-details-via-then-trailer-details+else-trailer-details-2}
use Rattle.rx_batch.proofs.record.trailer.Goals.{else-trailer-details-via-else-trailer-details}

-- with a trailer of the text, it is left whether it agrees
module _ (at : ℕ) (head : Head) (details : List Detail) (t : Trailer) where
  read_is : (body : List ℕ) (read : Option Trailer) → Ok t ≡ ok_or read (fault.TrailerShape at) → read ≡ trailer_of body
      → agreeing at head details t ≡ trailer at head details body
  read_is body read value is =
      ap (λ r. r >>= agreeing at head details) (value ∙ ap (λ o. ok_or o (fault.TrailerShape at)) is)

  number_differs : (t.number ≡ head.lot.number → ⊥) → Err (fault.NumberDiffers at) ≡ agreeing at head details t
  number_differs other = search rules

  count_differs : t.number ≡ head.lot.number → (t.count ≡ length details → ⊥) → (t.count ≡ length details + 2 → ⊥)
      → Err (fault.CountDiffers at) ≡ agreeing at head details t
  count_differs same other more = search rules

  all_counted : t.number ≡ head.lot.number → t.count ≡ length details → Ok t ≡ agreeing at head details t
  all_counted same count = search rules

  records_counted : t.number ≡ head.lot.number → t.count ≡ length details + 2 → Ok t ≡ agreeing at head details t
  records_counted same count = search rules

pub returns-in_err-trailer : goal.returns-in_err-trailer
returns-in_err-trailer c =
    let p = err_from_is_err_and c.from_residual.result c.from_residual.ensures.1 in
    rw (p.1, p.2)
    (ap (λ r. r >>= agreeing c.args.at c.args.head.now c.args.details.now)
    (c.in_err-trailer.ensures.value ∙ ap (λ o. ok_or o (fault.TrailerShape c.args.at)) c.of.ensures))

pub returns-then-trailer-from : goal.returns-then-trailer-from
returns-then-trailer-from c =
    let t = c.in_ok-trailer.trailer in
    let number = c.from.ensures ∙ c.number.ensures.value in
    let other : t.number ≡ c.args.head.now.lot.number → ⊥ = rw number at c.if-trailer-from.true in
    number_differs c.args.at c.args.head.now c.args.details.now t other
    ∙ read_is c.args.at c.args.head.now c.args.details.now t c.args.body.now c.of.result c.in_ok-trailer.ensures.value c.of.ensures

pub returns-then-trailer-details-2 : goal.returns-then-trailer-details-2
returns-then-trailer-details-2 c =
    let t = c.in_ok-trailer.trailer in
    let same = c.if-trailer-from.false ∙ c.from.ensures ∙ c.number.ensures.value in
    count_differs c.args.at c.args.head.now c.args.details.now t same c.if-trailer-details.true c.if-trailer-details-2.true
    ∙ read_is c.args.at c.args.head.now c.args.details.now t c.args.body.now c.of.result c.in_ok-trailer.ensures.value c.of.ensures

pub returns : goal.returns
returns c =
    let t = c.in_ok-trailer.trailer in
    let same = c.if-trailer-from.false ∙ c.from.ensures ∙ c.number.ensures.value in
    let agrees : Ok t ≡ agreeing c.args.at c.args.head.now c.args.details.now t = elim c.else-trailer-details.branch [
      | else-trailer-details-via-then-trailer-details+else-trailer-details-2 w ↦ records_counted c.args.at c.args.head.now
          c.args.details.now t same w.if-trailer-details-2.false
      | else-trailer-details-via-else-trailer-details w ↦ all_counted c.args.at c.args.head.now c.args.details.now t same
          w.if-trailer-details.false
    ] in
    agrees ∙ read_is c.args.at c.args.head.now c.args.details.now t c.args.body.now c.of.result c.in_ok-trailer.ensures.value c.of.ensures
