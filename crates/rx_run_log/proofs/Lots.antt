-- The front of a batch file has the digits that its header's lot is read from.
use Rattle.std.proofs.Common.{◌≡◌, ◌+◌, ◌-◌, ◌≤◌, ℕ, suc, Bool, true, false, cond, Result, Ok, Err, Option, Some, None}
use Rattle.std.proofs.Common.{List, [], ◌∷◌, ◌++◌, length, take, drop, slice_range, refl, sym, ap, ◌∙◌, arith}
use Rattle.std.proofs.Common.{append_assoc, length-append}
use Rattle.std.specs.Prelude.{codes, nat_le, nat_lt, slice_index, ◌==◌, ◌&&◌, if◌then◌else◌}
use Rattle.std.specs.List.{list_all, prefix_len}
use Rattle.std.specs.Result.{result_ok}
use Rattle.std.proofs.lemmas.Bool.{and_parts}
use Rattle.std.proofs.lemmas.Bool.Decides.{nat_tests}
use Rattle.std.proofs.lemmas.List.{drop-append-le, length-drop, length-take, take-append-drop, take-append-le, take_all}
use Rattle.std.proofs.lemmas.List.Sums.{list_all-from_AllPass}
use Rattle.rx_text.proofs.Steps.{bind_some, some_same}
use Rattle.rx_text.specs.Bytes.{all_digits, is_line_end}
use Rattle.rx_fields.specs.Calendar.{Civil, civil_of, date_of, is_civil}
use Rattle.rx_fields.specs.Digits.{number, number_of}
use Rattle.rx_fields.specs.declared.fault.FieldFault.TheVariants as fault
use Rattle.rx_fields.specs.Clock.{time_of}
use Rattle.rx_fields.specs.Numbered.{LotParts, lot_of as lot_from}
use Rattle.rx_text.specs.Options.{◌>>=◌}
use Rattle.rx_batch.specs.Grammar.{IsFile}
use Rattle.rx_batch.specs.Header.{file_of, head_of, is_kind, lot_in}
use Rattle.rx_batch.specs.declared.head.Kind.TheVariants.{Transmission}
use Rattle.rx_batch.specs.declared.detail.Detail.{Detail}
use Rattle.rx_batch.specs.declared.head.Head.{Head}
use Rattle.rx_run_log.specs.Header.{both, digits_at, from_header, lot_of}
use Rattle.rx_run_log.proofs.Kept.{take-append}

-- ---- what is read as a lot is digits

digits_told : {T F : Type 0} (a b c : Bool) (x y z : F) (r : Result T F) (v : T)
    → result_ok (cond a (Err x) (cond b (Err y) (cond c r (Err z)))) ≡ Some v → c ≡ true
digits_told a b true x y z r v e = refl
digits_told true b false x y z r v e = absurd (let h = e in cc)
digits_told false true false x y z r v e = absurd (let h = e in cc)
digits_told false false false x y z r v e = absurd (let h = e in cc)

number_digits : (bs : List ℕ) (n : ℕ) → result_ok (number_of 7 bs) ≡ Some n → all_digits bs ≡ true
number_digits bs n e =
    digits_told (length bs == 0) (nat_lt 7 (length bs)) (all_digits bs) fault.Empty fault.TooLong fault.NotDigit (Ok (number bs)) n e

date_digits : (bs : List ℕ) (day : Civil) → result_ok (date_of bs) ≡ Some day → all_digits bs ≡ true
date_digits bs day e =
    digits_told (length bs == 0) (nat_lt 8 (length bs)) (all_digits bs) fault.Empty fault.TooLong fault.NotDigit
    (if length bs == 8 && is_civil (civil_of bs) then Ok (civil_of bs) else Err fault.NotDate) day e

lot_digits : (digits created : List ℕ) (lot : LotParts) → lot_in digits created ≡ Some lot
    → (all_digits digits ≡ true) × (all_digits created ≡ true)
lot_digits digits created lot e =
    let n = bind_some (result_ok (number_of 7 digits)) (λ n. result_ok (date_of created) >>= λ day. lot_from n day) lot e in
    let day = bind_some (result_ok (date_of created)) (λ day. lot_from n.0 day) lot n.2 in
    (number_digits digits n.0 n.1, date_digits created day.0 day.1)

-- what is made of a lot and more has the lot
lot_first : {T F : Type 0} (b : Bool) (lots : Option LotParts) (times : Option T) (files : Option F) (make : LotParts → T → F → Head)
    (head : Head) → ((l : LotParts) → (t : T) → (f : F) → (make l t f).lot ≡ l)
    → cond b (lots >>= λ l. times >>= λ t. files >>= λ f. Some (make l t f)) None ≡ Some head
    → (b ≡ true) × (lots ≡ Some head.lot)
lot_first false lots times files make head own e = absurd (let h = e in cc)
lot_first true None times files make head own e = absurd (let h = e in cc)
lot_first true (Some l) None files make head own e = absurd (let h = e in cc)
lot_first true (Some l) (Some t) None make head own e = absurd (let h = e in cc)
lot_first true (Some l) (Some t) (Some f) make head own e =
    (refl, ap (λ k. Some k) (sym (own l t f) ∙ ap (λ (h : Head). h.lot) (some_same e)))

-- a header's lot is read from its digits
header_lot : (body : List ℕ) (head : Head) → head_of body ≡ Some head
    → (length body ≡ 73) × (lot_in (slice_range body 27 34) (slice_range body 34 42) ≡ Some head.lot)
header_lot body head e =
    let test = length body == 73 && slice_index body 2 == 84 && is_kind (codes "12") (slice_range body 47 49) in
    let read = lot_first test (lot_in (slice_range body 27 34) (slice_range body 34 42)) (time_of (slice_range body 42 46))
    (file_of (slice_index body 46)) (λ l t f. record {
      kind = Transmission;
      sender = slice_range body 3 27;
      lot = l;
      time = t;
      file = f;
      receiver = slice_range body 49 73;
    }) head (λ l t f. refl) e in
    let good = read.0 in
    let long : length body ≡ 73 = grind (arith, nat_tests) in
    (long, read.1)

-- ---- parts of a front

part_of : (xs ys : List ℕ) (a b : ℕ) → a ≤ b → b ≤ length xs → slice_range (xs ++ ys) a b ≡ slice_range xs a b
part_of xs ys a b order within =
    ap (take (b - a)) (drop-append-le a xs ys (omega arith))
    ∙ take-append-le (b - a) (drop a xs) ys (omega (arith, length-drop a xs))

part_kept : (body tail : List ℕ) (m a b : ℕ) → a ≤ b → b ≤ m → b ≤ length body
    → slice_range (take m (body ++ tail)) a b ≡ slice_range body a b
part_kept body tail m a b order kept within =
    let front : b ≤ length (take m body) = omega (arith, length-take m body) in
    ap (λ l. slice_range l a b) (take-append m body tail)
    ∙ part_of (take m body) (take (m - length body) tail) a b order front
    ∙ sym (part_of (take m body) (drop m body) a b order front)
    ∙ ap (λ l. slice_range l a b) (take-append-drop m body)

digits_are : (from to : ℕ) (bs part : List ℕ) → slice_range bs from to ≡ part → to ≤ length bs → all_digits part ≡ true
    → digits_at from to bs ≡ Some part
digits_are from to bs part is within all =
    let le : nat_le to (length bs) ≡ true = grind (arith, nat_tests) in
    rw (is, le, all) refl

gap_len : (gap rest : List ℕ) → list_all is_line_end gap ≡ true → prefix_len is_line_end (gap ++ 2 ∷ rest) ≡ length gap
gap_len [] rest all = refl
gap_len (x ∷ xs) rest all =
    let h = and_parts (is_line_end x) (list_all is_line_end xs) all in
    rw h.0 (omega (arith, gap_len xs rest h.1))

drop_gap : (xs ys : List ℕ) → drop (length xs) (xs ++ ys) ≡ ys
drop_gap [] ys = refl
drop_gap (x ∷ xs) ys = drop_gap xs ys

-- ---- the front of a file

front_lot : (gap body tail : List ℕ) (m : ℕ) (lot : LotParts) → list_all is_line_end gap ≡ true → 42 ≤ m → length body ≡ 73
    → lot_in (slice_range body 27 34) (slice_range body 34 42) ≡ Some lot
    → lot_of (gap ++ 2 ∷ take m (body ++ tail)) ≡ Some (slice_range body 27 34, slice_range body 34 42)
front_lot gap body tail m lot all kept long is =
    let digits = lot_digits (slice_range body 27 34) (slice_range body 34 42) lot is in
    let rest = take m (body ++ tail) in
    let bytes = gap ++ 2 ∷ rest in
    let header : from_header bytes ≡ 2 ∷ rest = ap (λ n. drop n bytes) (gap_len gap rest all) ∙ drop_gap gap (2 ∷ rest) in
    let room : 43 ≤ length (2 ∷ rest) = omega (arith, length-take m (body ++ tail), length-append body tail) in
    let number : digits_at 28 35 (2 ∷ rest) ≡ Some (slice_range body 27 34) =
    digits_are 28 35 (2 ∷ rest) (slice_range body 27 34)
    (part_kept body tail m 27 34 (omega arith) (omega arith) (omega (arith, long))) (omega (arith, room)) digits.0 in
    let created : digits_at 35 43 (2 ∷ rest) ≡ Some (slice_range body 34 42) =
    digits_are 35 43 (2 ∷ rest) (slice_range body 34 42)
    (part_kept body tail m 34 42 (omega arith) (omega arith) (omega (arith, long))) room digits.1 in
    ap (λ h. both (digits_at 28 35 h) (digits_at 35 43 h)) header
    ∙ (λ i. both (number i) (created i))

front_of : (gap body tail : List ℕ) → length gap + 1 + 42 ≤ 256
    → take 256 (gap ++ 2 ∷ (body ++ tail)) ≡ gap ++ 2 ∷ take (256 - length gap - 1) (body ++ tail)
front_of gap body tail room =
    let more : 256 - length gap ≡ suc (256 - length gap - 1) = omega arith in
    take-append 256 gap (2 ∷ (body ++ tail))
    ∙ ap (λ n. take 256 gap ++ take n (2 ∷ (body ++ tail))) more
    ∙ ap (λ l. l ++ 2 ∷ take (256 - length gap - 1) (body ++ tail)) (take_all 256 gap (omega arith))

pub lot_is : (bytes : List ℕ) (head : Head) (details : List Detail) → IsFile bytes head details
    → prefix_len is_line_end bytes + 1 + 42 ≤ 256
    → (number : List ℕ) × (created : List ℕ) × (lot_of (take 256 bytes) ≡ Some (number, created))
    × (lot_in number created ≡ Some head.lot)
lot_is bytes head details file room =
    let gap = file.header.gap in
    let body = file.header.body in
    let read = header_lot body head file.header_is.1.1 in
    let skipped = list_all-from_AllPass is_line_end gap file.header_is.0.0 in
    let whole : (tail : List ℕ) × (bytes ≡ gap ++ 2 ∷ (body ++ tail)) = (
      _,
      file.whole ∙ append_assoc gap (2 ∷ (body ++ 3 ∷ [])) _ ∙ ap (λ l. gap ++ 2 ∷ l) (append_assoc body (3 ∷ []) _),
    ) in
    let passed : prefix_len is_line_end bytes ≡ length gap = ap (prefix_len is_line_end) whole.1 ∙ gap_len gap (body ++ whole.0) skipped in (
      slice_range body 27 34,
      slice_range body 34 42,
      ap (λ l. lot_of (take 256 l)) whole.1 ∙ ap lot_of (front_of gap body whole.0 (omega (arith, passed, room)))
          ∙ front_lot gap body whole.0 (256 - length gap - 1) head.lot skipped (omega (arith, passed, room)) read.0 read.1,
      read.1,
    )
