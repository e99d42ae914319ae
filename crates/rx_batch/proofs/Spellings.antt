-- Records are read as they were written.
use Rattle.std.proofs.Common.{◌≡◌, ◌≤◌, ◌<◌, ℕ, ◌+◌, Bool, true, false, ◌&&◌, eqb, ltb, List, [], ◌∷◌, ◌++◌, codes, length}
use Rattle.std.proofs.Common.{take, drop, get_or, slice_range, replicate, map, append_assoc, append-nil, length-append, refl}
use Rattle.std.proofs.Common.{sym, ap, ◌∙◌, subst, arith, inr, Result, Ok, Err, Option, Some}
use Rattle.std.specs.List.{All, AllZip, flat_map}
use Rattle.std.specs.Result.{OnOk}
use Rattle.std.proofs.Math.Seq.{drop-append-add}
use Rattle.std.proofs.lemmas.Bool.Decides.{nat_tests}
use Rattle.std.proofs.lemmas.List.{flat_map_more, take_all, take_more, take_at, drop_at, get_or-drop, length-replicate}
use Rattle.std.proofs.lemmas.List.Elements.{All-nil, All-cons, All-head, All-tail, All-append, All-push, All-replicate}
use Rattle.std.proofs.lemmas.List.Folds.{flat_map-map}
use Rattle.rx_text.specs.Bytes.{is_digit, all_digits}
use Rattle.rx_fields.specs.Digits.{number_of, digits_text}
use Rattle.rx_fields.specs.Calendar.{Civil, date_of, date_text}
use Rattle.rx_fields.specs.Clock.{time_of, time_text}
use Rattle.rx_fields.specs.Numbered.{LotParts}
use Rattle.rx_fields.specs.TimeOfDay.{Clock}
use Rattle.rx_fields.proofs.DigitLaws.{length-digits_text, digits_text-all}
use Rattle.rx_batch.specs.declared.detail.Detail.{Detail}
use Rattle.rx_batch.specs.declared.head.FileType.{FileType}
use Rattle.rx_batch.specs.declared.head.FileType.TheVariants.{Production, Test}
use Rattle.rx_batch.specs.declared.head.Head.{Head}
use Rattle.rx_batch.specs.declared.head.Kind.{Kind}
use Rattle.rx_batch.specs.declared.head.Kind.TheVariants.{Transmission, Response}
use Rattle.rx_batch.specs.Header.{byte_of_kind, byte_of_file, file_of, lot_in, head_of, trailer_of}
use Rattle.rx_batch.specs.Grammar.{is_skipped, is_mark, IsInside, record_text, Spaced, spaced_text, IsGap, IsSpaced, IsHeader}
use Rattle.rx_batch.specs.Grammar.{IsDetail, IsFile}
use Rattle.rx_batch.specs.Writing.{lot_text, header_text, detail_text, trailer_text, file_text, IsPlain, IsLotSpelled}

-- ---- fields of known lengths

-- a place after a field of known length
behind : (a x : List ℕ) (n k m : ℕ) → length a ≡ n → n + k ≡ m → drop m (a ++ x) ≡ drop k x
behind a x n k m len is = rw (← is, ← len) (drop-append-add a x k)

pub length-date_text : (d : Civil) → length (date_text d) ≡ 8
unfolding date_text
length-date_text d =
    omega (
      arith,
      length-append (digits_text 4 d.year) (digits_text 2 d.month ++ digits_text 2 d.day),
      length-append
          (digits_text 2 d.month) (digits_text 2 d.day),
      length-digits_text 4 d.year,
      length-digits_text 2 d.month,
      length-digits_text 2 d.day,
    )

length-time_text : (t : Clock) → length (time_text t) ≡ 4
unfolding time_text
length-time_text t =
    omega (arith, length-append (digits_text 2 t.hour) (digits_text 2 t.minute), length-digits_text 2 t.hour, length-digits_text 2 t.minute)

-- what holds at any answer holds at Ok
pub on_ok : {T E P : Type 0} (r : Result T E) → P → OnOk r P
on_ok (Ok x) p = p
on_ok (Err e) p = tt

-- ---- a header

-- the digits of a batch number and a date are read as the lot
lot_again : (lot : LotParts) → lot.number < 10000000 → number_of 7 (digits_text 7 lot.number) ≡ Ok lot.number
    → date_of (date_text lot.created) ≡ Ok lot.created → lot_in (digits_text 7 lot.number) (date_text lot.created) ≡ Some lot
lot_again lot few number date =
    let small : ltb lot.number 10000000 ≡ true = grind (arith, nat_tests) in
    rw (number, date, small) refl

-- the digits that were written are read again
pub lot_spelled : (head : Head) (n m : ℕ) (created : Civil) (digits date time : List ℕ) → n ≡ head.lot.number
    → n < 10000000 → m ≡ n → digits ≡ digits_text 7 m → number_of 7 digits ≡ Ok m → created ≡ head.lot.created
    → date ≡ date_text created → date_of date ≡ Ok created → time ≡ time_text head.time
    → time_of time ≡ Some head.time → IsLotSpelled head
lot_spelled head n m created digits date time n_is few m_is digits_are n_again created_is date_is date_again time_is time_again =
    let same : m ≡ head.lot.number = m_is ∙ n_is in
    let small : head.lot.number < 10000000 = omega arith in
    let number : number_of 7 (digits_text 7 head.lot.number) ≡ Ok head.lot.number =
    subst (λ (k : ℕ). number_of 7 (digits_text 7 k) ≡ Ok k) same (subst (λ (bs : List ℕ). number_of 7 bs ≡ Ok m) digits_are n_again) in
    let day : date_of (date_text head.lot.created) ≡ Ok head.lot.created =
    subst (λ (d : Civil). date_of (date_text d) ≡ Ok d) created_is (subst (λ (bs : List ℕ). date_of bs ≡ Ok created) date_is date_again) in
    record {
      lot = lot_again head.lot small number day;
      time = subst (λ (bs : List ℕ). time_of bs ≡ Some head.time) time_is time_again;
    }

-- a header of these fields, in order
abbrev spelled : List ℕ → List ℕ → List ℕ → List ℕ → ℕ → List ℕ → List ℕ
spelled sender number date time file receiver =
    48 ∷ 48 ∷ 84 ∷ (sender ++ (number ++ (date ++ (time ++ file ∷ 49 ∷ 50 ∷ receiver))))

abbrev head_made : List ℕ → LotParts → Clock → FileType → List ℕ → Head
head_made sender lot time file receiver =
    record { kind = Transmission; sender = sender; lot = lot; time = time; file = file; receiver = receiver }

module _ (sender number date time receiver : List ℕ) (file : ℕ) (s : length sender ≡ 24) (n : length number ≡ 7)
    (d : length date ≡ 8) (t : length time ≡ 4) (r : length receiver ≡ 24) where
  abbrev body : List ℕ
  body = spelled sender number date time file receiver

  from_number : drop 27 body ≡ number ++ (date ++ (time ++ file ∷ 49 ∷ 50 ∷ receiver))
  from_number = drop_at sender _ 24 s

  from_date : drop 34 body ≡ date ++ (time ++ file ∷ 49 ∷ 50 ∷ receiver)
  from_date = behind sender _ 24 7 31 s refl ∙ drop_at number _ 7 n

  from_time : drop 42 body ≡ time ++ file ∷ 49 ∷ 50 ∷ receiver
  from_time = behind sender _ 24 15 39 s refl ∙ behind number _ 7 8 15 n refl ∙ drop_at date _ 8 d

  from_file : drop 46 body ≡ file ∷ 49 ∷ 50 ∷ receiver
  from_file = behind sender _ 24 19 43 s refl ∙ behind number _ 7 12 19 n refl ∙ behind date _ 8 4 12 d refl ∙ drop_at time _ 4 t

  from_version : drop 47 body ≡ 49 ∷ 50 ∷ receiver
  from_version = behind sender _ 24 20 44 s refl ∙ behind number _ 7 13 20 n refl ∙ behind date _ 8 5 13 d refl ∙ behind time _ 4 1 5 t refl

  from_receiver : drop 49 body ≡ receiver
  from_receiver = behind sender _ 24 22 46 s refl ∙ behind number _ 7 15 22 n refl ∙ behind date _ 8 7 15 d refl
      ∙ behind time _ 4 3 7 t refl

  whole : eqb (length body) 73 ≡ true
  whole =
      let len : length body ≡ 73 =
      omega (
        arith,
        length-append sender (number ++ (date ++ (time ++ file ∷ 49 ∷ 50 ∷ receiver))),
        length-append
            number (date ++ (time ++ file ∷ 49 ∷ 50 ∷ receiver)),
        length-append date
            (time ++ file ∷ 49 ∷ 50 ∷ receiver),
        length-append time (file ∷ 49 ∷ 50 ∷ receiver),
      ) in
      rw len refl

  version : slice_range body 47 49 ≡ 49 ∷ 50 ∷ []
  version = ap (take 2) from_version

  the_sender : slice_range body 3 27 ≡ sender
  the_sender = take_at sender _ 24 s

  the_number : slice_range body 27 34 ≡ number
  the_number = ap (take 7) from_number ∙ take_at number _ 7 n

  the_date : slice_range body 34 42 ≡ date
  the_date = ap (take 8) from_date ∙ take_at date _ 8 d

  the_time : slice_range body 42 46 ≡ time
  the_time = ap (take 4) from_time ∙ take_at time _ 4 t

  the_file : get_or body 46 0 ≡ file
  the_file = sym (get_or-drop 46 body 0 0) ∙ ap (λ (bs : List ℕ). get_or bs 0 0) from_file

  the_receiver : slice_range body 49 73 ≡ receiver
  the_receiver = ap (take 24) from_receiver ∙ (sym (ap (take 24) (append-nil receiver)) ∙ take_at receiver [] 24 r)

  -- these fields are read as the head that they spell
  head_read : (lot : LotParts) (clock : Clock) (type : FileType) → lot_in number date ≡ Some lot
      → time_of time ≡ Some clock → file_of file ≡ Some type → head_of body ≡ Some (head_made sender lot clock type receiver)
  head_read lot clock type l c f = rw (whole, version, the_sender, the_number, the_date, the_time, the_file, the_receiver, l, c, f) refl

file_again : (type : FileType) → file_of (byte_of_file type) ≡ Some type
file_again Production = refl
file_again Test = refl

header_joined : (head : Head) → head.kind ≡ Transmission
    → header_text head ≡ spelled head.sender (digits_text 7 head.lot.number) (date_text head.lot.created)
    (time_text head.time) (byte_of_file head.file) head.receiver
header_joined head kind =
    let number = digits_text 7 head.lot.number in
    let date = date_text head.lot.created in
    let time = time_text head.time in
    let file = byte_of_file head.file in
    let joined : lot_text head ++ head.receiver ≡ number ++ (date ++ (time ++ file ∷ 49 ∷ 50 ∷ head.receiver)) =
    append_assoc number (date ++ (time ++ file ∷ codes "12")) head.receiver
    ∙ ap (λ (bs : List ℕ). number ++ bs)
    (append_assoc date (time ++ file ∷ codes "12") head.receiver
    ∙ ap (λ (bs : List ℕ). date ++ bs) (append_assoc time (file ∷ codes "12") head.receiver)) in
    ap (λ (k : Kind). codes "00" ++ (byte_of_kind k ∷ (head.sender ++ (lot_text head ++ head.receiver)))) kind
    ∙ ap (λ (bs : List ℕ). 48 ∷ 48 ∷ 84 ∷ (head.sender ++ bs)) joined

head_same : (head : Head) → head.kind ≡ Transmission → head_made head.sender head.lot head.time head.file head.receiver ≡ head
head_same head kind = ap (λ (k : Kind). record head { kind = k }) (sym kind)

abbrev here : Head → Option Head
here head = Some head

-- a header is read as its head
pub header_again : (head : Head) → head.kind ≡ Transmission → length head.sender ≡ 24 → length head.receiver ≡ 24
    → IsLotSpelled head → IsHeader (header_text head) head
header_again head kind sender receiver is = (
  refl,
  ap head_of (header_joined head kind)
      ∙ head_read head.sender (digits_text 7 head.lot.number) (date_text head.lot.created) (time_text head.time)
      head.receiver (byte_of_file head.file) sender (length-digits_text 7 head.lot.number)
      (length-date_text head.lot.created) (length-time_text head.time) receiver head.lot head.time head.file is.lot
      is.time (file_again head.file)
      ∙ ap (λ (h : Head). here h) (head_same head kind),
)

-- ---- a detail

abbrev joined_detail : List ℕ → List ℕ → Detail
joined_detail reference text = record { reference = reference; text = text }

made : (d : Detail) (reference text : List ℕ) → reference ≡ d.reference → text ≡ d.text → d ≡ record { reference = reference; text = text }
made d reference text r t =
    ap (λ (x : List ℕ). record d { reference = x }) (sym r) ∙ ap (λ (x : List ℕ). joined_detail reference x) (sym t)

pub detail_again : (d : Detail) → length d.reference ≡ 10 → IsDetail (detail_text d) d
detail_again d ten =
    let long : 12 ≤ length (detail_text d) = omega (arith, length-append d.reference d.text) in
    let reference : slice_range (detail_text d) 2 12 ≡ d.reference = take_at d.reference d.text 10 ten in
    let text : drop 12 (detail_text d) ≡ d.text = drop_at d.reference d.text 10 ten in
    (refl, long, made d (slice_range (detail_text d) 2 12) (drop 12 (detail_text d)) reference text)

-- ---- a trailer

module _ (number count blanks : List ℕ) (n : length number ≡ 7) (c : length count ≡ 10) (b : length blanks ≡ 35) where
  abbrev end : List ℕ
  end = 57 ∷ 57 ∷ (number ++ (count ++ blanks))

  end_number : slice_range end 2 9 ≡ number
  end_number = take_at number _ 7 n

  end_count : slice_range end 9 19 ≡ count
  end_count = ap (take 10) (drop_at number _ 7 n) ∙ take_at count _ 10 c

  end_long : length end ≡ 54
  end_long = omega (arith, length-append number (count ++ blanks), length-append count blanks)

  end_read : (x y : ℕ) → number_of 7 number ≡ Ok x → number_of 10 count ≡ Ok y → trailer_of end ≡ Some (record { number = x; count = y })
  end_read x y nx cy = rw (end_long, end_number, end_count, nx, cy) refl

trailer_again : (number count : ℕ) → number_of 7 (digits_text 7 number) ≡ Ok number
    → number_of 10 (digits_text 10 count) ≡ Ok count
    → trailer_of (trailer_text number count) ≡ Some (record { number = number; count = count })
trailer_again number count n c =
    end_read (digits_text 7 number) (digits_text 10 count) (replicate 35 32) (length-digits_text 7 number)
    (length-digits_text 10 count) (length-replicate {A = ℕ} 35 32) number count n c

-- the digits that were written are read again
pub trailer_spelled : (n m count : ℕ) (digits counted : List ℕ) → m ≡ n → digits ≡ digits_text 7 m
    → number_of 7 digits ≡ Ok m → counted ≡ digits_text 10 count → number_of 10 counted ≡ Ok count
    → trailer_of (trailer_text n count) ≡ Some (record { number = n; count = count })
trailer_spelled n m count digits counted same digits_are n_again counted_is count_again =
    trailer_again n count
    (subst (λ (k : ℕ). number_of 7 (digits_text 7 k) ≡ Ok k) same (subst (λ (bs : List ℕ). number_of 7 bs ≡ Ok m) digits_are n_again))
    (subst (λ (bs : List ℕ). number_of 10 bs ≡ Ok count) counted_is count_again)

-- ---- no STX and no ETX

digit_inside : (b : ℕ) → is_digit b ≡ true → is_mark b ≡ false
digit_inside b is = grind (arith, nat_tests)

both_true : (a b : Bool) → (a && b) ≡ true → (a ≡ true) × (b ≡ true)
both_true true b is = (refl, is)
both_true false b is = absurd cc

digits_inside : (bs : List ℕ) → all_digits bs ≡ true → IsInside bs
digits_inside [] is = All-nil (λ (b : ℕ). is_mark b ≡ false)
digits_inside (b ∷ bs) is =
    let both = both_true (is_digit b) (all_digits bs) is in
    All-cons (λ (x : ℕ). is_mark x ≡ false) b bs (digit_inside b both.0) (digits_inside bs both.1)

joined_inside : (xs ys : List ℕ) → IsInside xs → IsInside ys → IsInside (xs ++ ys)
joined_inside xs ys x y = All-append (λ (b : ℕ). is_mark b ≡ false) xs ys x y

one_inside : (b : ℕ) (bs : List ℕ) → is_mark b ≡ false → IsInside bs → IsInside (b ∷ bs)
one_inside b bs is h = All-cons (λ (x : ℕ). is_mark x ≡ false) b bs is h

none_inside : IsInside []
none_inside = All-nil (λ (b : ℕ). is_mark b ≡ false)

number_inside : (n x : ℕ) → IsInside (digits_text n x)
number_inside n x = digits_inside (digits_text n x) (digits_text-all n x)

date_inside : (d : Civil) → IsInside (date_text d)
unfolding date_text
date_inside d = joined_inside (digits_text 4 d.year) _ (number_inside 4 d.year)
    (joined_inside (digits_text 2 d.month) _ (number_inside 2 d.month) (number_inside 2 d.day))

time_inside : (t : Clock) → IsInside (time_text t)
unfolding time_text
time_inside t = joined_inside (digits_text 2 t.hour) _ (number_inside 2 t.hour) (number_inside 2 t.minute)

file_inside : (type : FileType) → is_mark (byte_of_file type) ≡ false
file_inside Production = refl
file_inside Test = refl

kind_inside : (kind : Kind) → is_mark (byte_of_kind kind) ≡ false
kind_inside Transmission = refl
kind_inside Response = refl

header_inside : (head : Head) → IsInside head.sender → IsInside head.receiver → IsInside (header_text head)
header_inside head sender receiver =
    let version = one_inside 49 (50 ∷ []) refl (one_inside 50 [] refl none_inside) in
    let time = joined_inside (time_text head.time) (byte_of_file head.file ∷ codes "12") (time_inside head.time)
    (one_inside (byte_of_file head.file) (49 ∷ 50 ∷ []) (file_inside head.file) version) in
    let date = joined_inside (date_text head.lot.created)
    (time_text head.time ++ byte_of_file head.file ∷ codes "12") (date_inside head.lot.created) time in
    let lot = joined_inside (digits_text 7 head.lot.number)
    (date_text head.lot.created ++ (time_text head.time ++ byte_of_file head.file ∷ codes "12"))
    (number_inside 7 head.lot.number) date in
    let fields = joined_inside head.sender (lot_text head ++ head.receiver) sender
    (joined_inside (lot_text head) head.receiver lot receiver) in
    let kind = one_inside (byte_of_kind head.kind) (head.sender ++ (lot_text head ++ head.receiver)) (kind_inside head.kind) fields in
    one_inside 48 (48 ∷ byte_of_kind head.kind ∷ (head.sender ++ (lot_text head ++ head.receiver))) refl
    (one_inside 48 (byte_of_kind head.kind ∷ (head.sender ++ (lot_text head ++ head.receiver))) refl kind)

detail_inside : (d : Detail) → IsInside d.reference × IsInside d.text → IsInside (detail_text d)
detail_inside d is =
    one_inside 71 (49 ∷ (d.reference ++ d.text)) refl
    (one_inside 49 (d.reference ++ d.text) refl (joined_inside d.reference d.text is.0 is.1))

trailer_inside : (number count : ℕ) → IsInside (trailer_text number count)
trailer_inside number count =
    let counted = joined_inside (digits_text 10 count) (replicate 35 32) (number_inside 10 count)
    (All-replicate (λ (b : ℕ). is_mark b ≡ false) 35 32 refl) in
    let numbered = joined_inside (digits_text 7 number) (digits_text 10 count ++ replicate 35 32) (number_inside 7 number) counted in
    one_inside 57 (57 ∷ (digits_text 7 number ++ (digits_text 10 count ++ replicate 35 32))) refl
    (one_inside 57 (digits_text 7 number ++ (digits_text 10 count ++ replicate 35 32)) refl numbered)

-- ---- a file

-- a record with nothing skipped before it
abbrev plain : List ℕ → Spaced
plain body = record { gap = []; body = body }

no_gap : IsGap []
no_gap = All-nil (λ (b : ℕ). is_skipped b ≡ true)

details_again : (details : List Detail) → All (λ d. IsInside d.reference × IsInside d.text) details
    → All (λ d. IsDetail (detail_text d) d) details
    → AllZip (λ r d. IsSpaced r × IsDetail r.body d) (map (λ d. plain (detail_text d)) details) details
details_again [] inside are = tt
details_again (d ∷ details) inside are =
    let one = All-head (λ (x : Detail). IsInside x.reference × IsInside x.text) d details inside in
    let is = All-head (λ (x : Detail). IsDetail (detail_text x) x) d details are in (
      ((no_gap, detail_inside d one), is),
      details_again details
          (All-tail (λ (x : Detail). IsInside x.reference × IsInside x.text) d details inside)
          (All-tail (λ (x : Detail). IsDetail (detail_text x) x) d details are),
    )

-- a text whose records are read again is the file of its head and details
pub file_again_is : (text : List ℕ) (head : Head) (details : List Detail) → text ≡ file_text head details
    → length details ≤ 100000 → IsPlain head details → IsHeader (header_text head) head
    → All (λ d. IsDetail (detail_text d) d) details
    → trailer_of (trailer_text head.lot.number (length details + 2))
    ≡ Some (record { number = head.lot.number; count = length details + 2 }) → IsFile text head details
file_again_is text head details is few fields header are trailer = record {
  header = plain (header_text head);
  records = map (λ d. plain (detail_text d)) details;
  trailer = plain (trailer_text head.lot.number (length details + 2));
  gap = [];
  whole = is ∙ ap (λ (bs : List ℕ). record_text (header_text head) ++ bs) (
      ap (λ (bs : List ℕ). bs ++ record_text (trailer_text head.lot.number (length details + 2)))
      (sym (flat_map-map spaced_text (λ (d : Detail). plain (detail_text d)) details))
      ∙ ap (λ (bs : List ℕ). flat_map spaced_text (map (λ d. plain (detail_text d)) details) ++ bs)
      (sym (append-nil (record_text (trailer_text head.lot.number (length details + 2))))));
  header_is = ((no_gap, header_inside head fields.sender fields.receiver), header);
  details_are = details_again details fields.each are;
  few = few;
  trailer_is = (
    (no_gap, trailer_inside head.lot.number (length details + 2)),
    record {
      kind = refl;
      trailer = record { number = head.lot.number; count = length details + 2 };
      is = trailer;
      number = refl;
      count = inr refl;
    },
  );
  gap_is = no_gap;
}

-- ---- one detail more

one_longer : (details : List Detail) (i : ℕ) (d : Detail) → i < length details → d ≡ get_or details i d
    → take (i + 1) details ≡ take i details ++ d ∷ []
one_longer details i d lt is = take_more details i d lt ∙ ap (λ (x : Detail). take i details ++ x ∷ []) (sym is)

pub details_more : (front old new : List ℕ) (details : List Detail) (i : ℕ) (d : Detail) → i < length details
    → d ≡ get_or details i d → old ≡ front ++ flat_map (λ d. record_text (detail_text d)) (take i details)
    → new ≡ old ++ record_text (detail_text d) → new ≡ front ++ flat_map (λ d. record_text (detail_text d)) (take (i + 1) details)
details_more front old new details i d lt is before one =
    one ∙ ap (λ (bs : List ℕ). bs ++ record_text (detail_text d)) before
    ∙ flat_map_more (λ (x : Detail). record_text (detail_text x)) front (take i details) d
    ∙ ap (λ (ds : List Detail). front ++ flat_map (λ x. record_text (detail_text x)) ds) (sym (one_longer details i d lt is))

pub again_more : (details : List Detail) (i : ℕ) (d : Detail) → i < length details → d ≡ get_or details i d
    → All (λ d. IsDetail (detail_text d) d) (take i details) → IsDetail (detail_text d) d
    → All (λ d. IsDetail (detail_text d) d) (take (i + 1) details)
again_more details i d lt is before one =
    subst (λ (ds : List Detail). All (λ x. IsDetail (detail_text x) x) ds) (sym (one_longer details i d lt is))
    (All-push (λ (x : Detail). IsDetail (detail_text x) x) (take i details) d before one)

-- ---- all details

pub all_again : (details : List Detail) (i : ℕ) → length details ≤ i
    → All (λ d. IsDetail (detail_text d) d) (take i details) → All (λ d. IsDetail (detail_text d) d) details
all_again details i le h = subst (λ (ds : List Detail). All (λ x. IsDetail (detail_text x) x) ds) (take_all i details le) h

pub all_written : (head : Head) (details : List Detail) (i n : ℕ) (old new : List ℕ) → length details ≤ i
    → n ≡ head.lot.number
    → old ≡ record_text (header_text head) ++ flat_map (λ d. record_text (detail_text d)) (take i details)
    → new ≡ old ++ record_text (trailer_text n (length details + 2)) → new ≡ file_text head details
all_written head details i n old new le same before one =
    one ∙ ap (λ (bs : List ℕ). bs ++ record_text (trailer_text n (length details + 2)))
    (before ∙ ap (λ (ds : List Detail). record_text (header_text head)
    ++ flat_map (λ d. record_text (detail_text d)) ds) (take_all i details le))
    ∙ append_assoc (record_text (header_text head)) (flat_map (λ d. record_text (detail_text d)) details)
    (record_text (trailer_text n (length details + 2)))
    ∙ ap (λ (k : ℕ). record_text (header_text head)
    ++ (flat_map (λ d. record_text (detail_text d)) details ++ record_text (trailer_text k (length details + 2)))) same

pub trailer_same : (n m count : ℕ) → n ≡ m
    → trailer_of (trailer_text n count) ≡ Some (record { number = n; count = count })
    → trailer_of (trailer_text m count) ≡ Some (record { number = m; count = count })
trailer_same n m count same h = subst (λ (k : ℕ). trailer_of (trailer_text k count) ≡ Some (record { number = k; count = count })) same h
