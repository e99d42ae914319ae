-- The head and the details of a file have no STX and no ETX, so that they can be written again.
use Rattle.std.proofs.Common.{◌≡◌, ℕ, zero, suc, ◌-◌, Bool, true, false, List, [], ◌∷◌, drop, replicate, Option, Some, None, refl, sym, ap, subst, ◌∙◌}
use Rattle.std.specs.Prelude.{◌&&◌, ◌==◌, codes, length, slice_get, slice_index, slice_range, if◌then◌else◌}
use Rattle.std.specs.List.{AllZip}
use Rattle.std.proofs.lemmas.List.Elements.{All-append, All-cons, All-drop, All-nil, All-replicate, All-take}
use Rattle.rx_batch.specs.Grammar.{IsDetail, IsFile, IsInside, IsSpaced, Spaced, is_mark}
use Rattle.rx_batch.specs.Header.{file_of, is_kind, lot_in}
use Rattle.rx_batch.specs.Writing.{IsPlain}
use Rattle.rx_batch.specs.declared.detail.Detail.{Detail}
use Rattle.rx_batch.specs.declared.head.FileType.{FileType}
use Rattle.rx_batch.specs.declared.head.Head.{Head}
use Rattle.rx_batch.specs.declared.head.Kind.TheVariants.{Transmission}
use Rattle.rx_batch.specs.declared.layout.TheConstants.{BATCH_NUMBER_AT, CREATION_DATE_AT, CREATION_TIME_AT}
use Rattle.rx_fields.specs.Clock.{time_of}
use Rattle.rx_fields.specs.TimeOfDay.{Clock}
use Rattle.rx_fields.specs.Numbered.{LotParts}
use Rattle.rx_text.specs.Options.{◌>>=◌}
use Rattle.rx_explain.specs.Spots.{item}
use Rattle.rx_commands.specs.ExcerptParts.{empty_detail, excerpt_details}
use Rattle.rx_commands.proofs.Items.{item_of}

-- ---- what stands inside

IsInside-range : (body : List ℕ) (a b : ℕ) → IsInside body → IsInside (slice_range body a b)
IsInside-range body a b inside =
    All-take (λ x. is_mark x ≡ false) (b - a) (drop a body) (All-drop (λ x. is_mark x ≡ false) a body inside)

-- ---- the head

pub record IsNamed (head : Head) (sender receiver : List ℕ) : Type 0 where
  pub kind_is : head.kind ≡ Transmission
  pub sender_is : head.sender ≡ sender
  pub receiver_is : head.receiver ≡ receiver

named : (test : Bool) (lot : Option LotParts) (time : Option Clock) (file : Option FileType) (sender receiver : List ℕ) (head : Head)
    → (if test then (lot >>= λ l. time >>= λ t. file >>= λ f.
    Some (record { kind = Transmission; sender = sender; lot = l; time = t; file = f; receiver = receiver })) else None) ≡ Some head
    → IsNamed head sender receiver
named false lot time file sender receiver head is = absurd (let e : None ≡ Some head = is in cc)
named true None time file sender receiver head is = absurd (let e : None ≡ Some head = is in cc)
named true (Some l) None file sender receiver head is = absurd (let e : None ≡ Some head = is in cc)
named true (Some l) (Some t) None sender receiver head is = absurd (let e : None ≡ Some head = is in cc)
named true (Some l) (Some t) (Some f) sender receiver head is =
    let made : Head = record { kind = Transmission; sender = sender; lot = l; time = t; file = f; receiver = receiver } in
    let both : Some made ≡ Some head = is in
    let same : head ≡ made = cc in
    record {
      kind_is = ap (λ (h : Head). h.kind) same;
      sender_is = ap (λ (h : Head). h.sender) same;
      receiver_is = ap (λ (h : Head). h.receiver) same;
    }

-- ---- the details

abbrev IsPlainDetail : Detail → Type 0
IsPlainDetail d = IsInside d.reference × IsInside d.text

detail_plain : (r : Spaced) (d : Detail) → IsSpaced r × IsDetail r.body d → IsPlainDetail d
detail_plain r d both =
    let inside : IsInside r.body = both.0.1 in
    let is : d ≡ record { reference = slice_range r.body 2 12; text = drop 12 r.body } = both.1.2 in
    subst IsPlainDetail (sym is)
    (IsInside-range r.body 2 12 inside, All-drop (λ x. is_mark x ≡ false) 12 r.body inside)

plain_at : (records : List Spaced) (details : List Detail) (i : ℕ) (d : Detail)
    → AllZip (λ r e. IsSpaced r × IsDetail r.body e) records details → slice_get details i ≡ Some d → IsPlainDetail d
plain_at [] [] i d all is = absurd (let e : None ≡ Some d = is in cc)
plain_at [] (e ∷ details) i d all is = absurd all
plain_at (r ∷ records) [] i d all is = absurd all
plain_at (r ∷ records) (e ∷ details) zero d all is =
    let both : Some e ≡ Some d = is in
    let same : e ≡ d = cc in
    subst IsPlainDetail same (detail_plain r e all.0)
plain_at (r ∷ records) (e ∷ details) (suc i) d all is = plain_at records details i d all.1 is

-- the head and the detail at a place of a file
pub plain_in : (bytes : List ℕ) (head : Head) (details : List Detail) (place : ℕ) (d : Detail) → IsFile bytes head details
    → item details place ≡ Some d → IsPlain head (d ∷ [])
plain_in bytes head details zero d file is = absurd (let e : None ≡ Some d = is in cc)
plain_in bytes head details (suc i) d file is =
    let body = file.header.body in
    let inside : IsInside body = file.header_is.0.1 in
    let names = named
    (length body == 73 && slice_index body 2 == 84 && is_kind (codes "12") (slice_range body 47 49))
    (lot_in (slice_range body BATCH_NUMBER_AT CREATION_DATE_AT) (slice_range body CREATION_DATE_AT CREATION_TIME_AT))
    (time_of (slice_range body CREATION_TIME_AT 46)) (file_of (slice_index body 46)) (slice_range body 3 27)
    (slice_range body 49 73) head file.header_is.1.1 in
    record {
      kind = names.kind_is;
      sender = subst IsInside (sym names.sender_is) (IsInside-range body 3 27 inside);
      receiver = subst IsInside (sym names.receiver_is) (IsInside-range body 49 73 inside);
      each = All-cons IsPlainDetail d [] (plain_at file.records details i d file.details_are (sym (item_of details i) ∙ is))
          (All-nil IsPlainDetail);
    }

-- the details of an excerpt can be written too
pub plain_excerpt : (head : Head) (place : ℕ) (d : Detail) → IsPlain head (d ∷ []) → IsPlain head (excerpt_details place d)
plain_excerpt head place d plain = record {
  kind = plain.kind;
  sender = plain.sender;
  receiver = plain.receiver;
  each = All-append IsPlainDetail (replicate (place - 1) empty_detail) (d ∷ [])
      (All-replicate IsPlainDetail (place - 1) empty_detail
      (All-replicate (λ x. is_mark x ≡ false) 10 48 refl, All-nil (λ x. is_mark x ≡ false)))
      plain.each;
}
