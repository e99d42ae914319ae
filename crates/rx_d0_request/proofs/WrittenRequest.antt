-- A request that is written is accepted as what it was written of.
use Rattle.std.proofs.Common.{◌≡◌, ℕ, ◌+◌, true, false, eqb, List, [], ◌∷◌, ◌++◌, codes}
use Rattle.std.proofs.Common.{length, map, replicate, Some, refl, ap, ◌∙◌, arith}
use Rattle.std.specs.Prelude.{is_none}
use Rattle.std.specs.List.{All, list_all}
use Rattle.std.proofs.lemmas.Bool.Decides.{nat_tests}
use Rattle.std.proofs.lemmas.List.{length-map}
use Rattle.std.proofs.lemmas.List.Elements.{All-cons, All-head, All-map, All-nil, All-tail, All-weaker}
use Rattle.std.proofs.lemmas.List.Folds.{list_all-append}
use Rattle.rx_fields.specs.Calendar.{Civil, date_text}
use Rattle.rx_text.specs.Bytes.{is_printable}
use Rattle.rx_fields.specs.Text.{IsId}
use Rattle.rx_fields.specs.declared.door.Door.{Door}
use Rattle.rx_d0_values.specs.Echoed.{blanked_parts}
use Rattle.rx_d0_values.specs.Listed.{is_few}
use Rattle.rx_d0_values.specs.declared.bill.BillParts.{BillParts}
use Rattle.rx_d0_values.specs.declared.transaction.Reversal.{Reversal}
use Rattle.rx_d0_values.specs.declared.transaction.Transaction.{Transaction}
use Rattle.rx_d0_values.specs.declared.transaction.Transaction.TheVariants.{Bill, Reverse}
use Rattle.rx_d0_values.specs.declared.transmission.Body.TheVariants.{Heard}
use Rattle.rx_d0_values.specs.declared.transmission.Transmission.{Transmission}
use Rattle.rx_d0_request.specs.declared.header.Header.{Header}
use Rattle.rx_d0_request.specs.Bills.{transaction}
use Rattle.rx_d0_request.specs.Codes.{header_conditions, is_count, is_faulty}
use Rattle.rx_d0_request.specs.Cut.{Field, is_part, same, segments}
use Rattle.rx_d0_request.specs.Headers.{echo_parts, header_bytes, header_of, is_clean}
use Rattle.rx_d0_request.specs.Known.{InsuranceTexts, common_of, field, group_of, insurance_in, insurance_of, no_insurance, segment}
use Rattle.rx_d0_request.specs.Request.{body, common, groups, transmission_of}
use Rattle.rx_d0_request.specs.Steps.{is_addressed}
use Rattle.rx_d0_request.specs.Values.{date_in, provider_in}
use Rattle.rx_d0_request.specs.Written.{Asker, IsAsker, IsBillOf, IsDoor, IsReversal, IsWrittenPart, IsWrittenSegment}
use Rattle.rx_d0_request.specs.Written.{bill_group, billing_text, heard_of, insurance_fields, part_text}
use Rattle.rx_d0_request.specs.Written.{parts_text, provider_text, reversal_group, reversal_text}
use Rattle.rx_d0_request.proofs.Faults.{header_heard}
use Rattle.rx_d0_request.proofs.Written.{common_back, groups_back}
use Rattle.rx_d0_request.proofs.WrittenFields.{bill_back, bill_written, common_read, insurance_written, reversal_back, reversal_written}
use Rattle.rx_d0_request.proofs.WrittenHeader.{clean_back, date_back, date_length, date_printable, front, front_length, header_back}
use Rattle.rx_d0_request.proofs.WrittenHeader.{header_made, provider_back, provider_length, provider_printable}

-- ---- a header that is accepted

abbrev heard : Header → List ℕ → Civil → InsuranceTexts → List (List ℕ) → Transmission
heard h provider date insurance gs =
    record {
      echo = blanked_parts (echo_parts h);
      body = Heard (record {
        provider = provider;
        date = date;
        list = map (λ group. transaction (same h.code (codes "B1")) insurance (group_of group)) gs;
      });
    }

heard_as : (door : Door) (bytes : List ℕ) (h : Header) (insurance : InsuranceTexts) (gs : List (List ℕ)) (provider : List ℕ)
    (date : Civil) → header_of (header_bytes bytes) ≡ h → is_clean bytes ≡ true → common bytes ≡ Some insurance
    → groups bytes ≡ gs → is_addressed door h ≡ true → is_count h.count (length gs) ≡ true
    → provider_in h.provider ≡ Some provider → date_in h.date ≡ Some date
    → transmission_of door bytes ≡ heard h provider date insurance gs
unfolding transmission_of body
heard_as door bytes h insurance gs provider date header clean insured cut addressed counted from on =
    let fine : is_faulty (header_conditions door h true (length gs)) ≡ false =
    header_heard door h true (length gs) addressed counted (ap is_none from) (ap is_none on) refl in
    rw (header, clean, insured, cut, fine, from, on) refl

-- ---- the header that is written

same_itself : (a : List ℕ) → same a a ≡ true
same_itself [] = refl
same_itself (b ∷ bs) =
    let itself : eqb b b ≡ true = grind (arith, nat_tests) in
    rw (itself, same_itself bs) refl

module _ (door : Door) (code : List ℕ) (count : ℕ) (who : Asker) where
  abbrev the_front : List ℕ
  the_front =
      front door.bin code door.pcn who.qualifier (provider_text who.provider) (date_text who.date) (replicate 10 32) (48 + count)

  abbrev the_header : Header
  the_header = header_made door.bin code door.pcn who.qualifier (provider_text who.provider) (date_text who.date)
      (replicate 10 32) (48 + count)

  module _ (is_door : IsDoor door) (is_asker : IsAsker who) (two : length code ≡ 2) where
    whole_front : length the_front ≡ 56
    whole_front = front_length door.bin code door.pcn who.qualifier (provider_text who.provider) (date_text who.date)
        (replicate 10 32) (48 + count) is_door.bin_length two is_door.pcn_length is_asker.qualifier_length
        (provider_length who.provider is_asker.provider) (date_length who.date) refl

    header_is : (rest : List ℕ) → header_of (header_bytes (the_front ++ rest)) ≡ the_header
    header_is rest = header_back door.bin code door.pcn who.qualifier (provider_text who.provider) (date_text who.date)
        (replicate 10 32) (48 + count) is_door.bin_length two is_door.pcn_length is_asker.qualifier_length
        (provider_length who.provider is_asker.provider) (date_length who.date) refl rest

    clean_is : (rest : List ℕ) → list_all is_printable code ≡ true → is_printable (48 + count) ≡ true
        → is_clean (the_front ++ rest) ≡ true
    clean_is rest coded counted =
        let provider = provider_text who.provider in
        let date = date_text who.date in
        let vendor : List ℕ = replicate 10 32 in
        let printable : list_all is_printable the_front ≡ true = rw (
          list_all-append is_printable door.bin
              (68 ∷ 48 ∷ (code ++ (door.pcn ++ (48 + count) ∷ (who.qualifier ++ (provider ++ (date ++ vendor)))))),
          list_all-append is_printable code (door.pcn ++ (48 + count) ∷ (who.qualifier ++ (provider ++ (date ++ vendor)))),
          list_all-append is_printable door.pcn ((48 + count) ∷ (who.qualifier ++ (provider ++ (date ++ vendor)))),
          list_all-append is_printable who.qualifier (provider ++ (date ++ vendor)),
          list_all-append is_printable provider (date ++ vendor),
          list_all-append is_printable date vendor,
          is_door.bin,
          coded,
          is_door.pcn,
          counted,
          is_asker.qualifier,
          provider_printable who.provider is_asker.provider,
          date_printable who.date,
        ) refl in
        clean_back door.bin code door.pcn who.qualifier provider date vendor (48 + count) is_door.bin_length two
        is_door.pcn_length is_asker.qualifier_length (provider_length who.provider is_asker.provider) (date_length who.date)
        refl rest printable

few_printable : (n : ℕ) → is_few n ≡ true → is_printable (48 + n) ≡ true
few_printable n few = grind (arith, nat_tests, few)

few_counted : (n m : ℕ) → is_few n ≡ true → m ≡ n → is_count (48 + n) m ≡ true
few_counted n m few same_count =
    let itself : eqb (48 + n) (48 + n) ≡ true = grind (arith, nat_tests) in
    rw (same_count, few, itself) refl

-- ---- billings

groups_length : {A : Type 0} (f : A → List (List Field)) (xs : List A) → length (map part_text (map f xs)) ≡ length xs
groups_length f xs = length-map (map f xs) part_text ∙ length-map xs f

bills_heard : (family person : List ℕ) → IsId 20 family → IsId 3 person → (bills : List BillParts)
    → All (IsBillOf family person) bills
    → map (λ group. transaction true (record { cardholder = Some family; person = Some person }) (group_of group))
    (map part_text (map bill_group bills)) ≡ map (λ b. Bill b) bills
bills_heard family person f p [] all = refl
bills_heard family person f p (b ∷ bills) all =
    let here = bill_back family person f p b (All-head (IsBillOf family person) b bills all) in
    let rest = bills_heard family person f p bills (All-tail (IsBillOf family person) b bills all) in
    λ i. here i ∷ rest i

pub billings_heard : (door : Door) (who : Asker) (family person : List ℕ) (bills : List BillParts)
    → IsDoor door → IsAsker who → IsId 20 family → IsId 3 person → All (IsBillOf family person) bills
    → is_few (length bills) ≡ true
    → transmission_of door (billing_text door who family person bills)
    ≡ heard_of (codes "B1") who (map (λ b. Bill b) bills)
unfolding common
billings_heard door who family person bills is_door is_asker f p all few =
    let code = codes "B1" in
    let n = length bills in
    let insurance = insurance_fields family person ∷ [] in
    let gs = map bill_group bills in
    let h = the_header door code n who in
    let header = the_front door code n who in
    let whole = whole_front door code n who is_door is_asker refl in
    let is_common : IsWrittenPart insurance = All-cons IsWrittenSegment (insurance_fields family person) []
    (insurance_written family person f p) (All-nil IsWrittenSegment) in
    let are_groups : All IsWrittenPart gs = All-map IsWrittenPart bill_group bills
    (All-weaker (IsBillOf family person) (λ b. IsWrittenPart (bill_group b)) (λ b is. bill_written b) bills all) in
    let bytes = header ++ parts_text insurance gs in
    let insured : common bytes ≡ Some (record { cardholder = Some family; person = Some person }) =
    ap common_of (common_back header insurance gs whole is_common are_groups) ∙ common_read family person f p in
    heard_as door bytes h (record { cardholder = Some family; person = Some person }) (map part_text gs) who.provider who.date
    (header_is door code n who is_door is_asker refl (parts_text insurance gs))
    (clean_is door code n who is_door is_asker refl (parts_text insurance gs) refl (few_printable n few))
    insured
    (groups_back header insurance gs whole is_common are_groups)
    (rw (same_itself door.bin, same_itself door.pcn) refl)
    (few_counted n (length (map part_text gs)) few (groups_length bill_group bills))
    (provider_back who.provider is_asker.provider)
    (date_back who.date is_asker.date)
    ∙ ap (λ (list : List Transaction). heard_of code who list) (bills_heard family person f p bills all)

-- ---- reversals

no_common : common_of [] ≡ Some no_insurance
unfolding common_of insurance_in is_part segments segment insurance_of field
no_common = refl

reversals_heard_each : (rs : List Reversal) → All IsReversal rs
    → map (λ group. transaction false no_insurance (group_of group)) (map part_text (map reversal_group rs))
    ≡ map (λ r. Reverse r) rs
reversals_heard_each [] all = refl
reversals_heard_each (r ∷ rs) all =
    let here = reversal_back no_insurance r (All-head IsReversal r rs all) in
    let rest = reversals_heard_each rs (All-tail IsReversal r rs all) in
    λ i. here i ∷ rest i

pub reversals_heard : (door : Door) (who : Asker) (rs : List Reversal) → IsDoor door → IsAsker who → All IsReversal rs
    → is_few (length rs) ≡ true
    → transmission_of door (reversal_text door who rs) ≡ heard_of (codes "B2") who (map (λ r. Reverse r) rs)
unfolding common
reversals_heard door who rs is_door is_asker all few =
    let code = codes "B2" in
    let n = length rs in
    let gs = map reversal_group rs in
    let h = the_header door code n who in
    let header = the_front door code n who in
    let whole = whole_front door code n who is_door is_asker refl in
    let is_common : IsWrittenPart [] = All-nil IsWrittenSegment in
    let are_groups : All IsWrittenPart gs = All-map IsWrittenPart reversal_group rs
    (All-weaker IsReversal (λ r. IsWrittenPart (reversal_group r)) (λ r is. reversal_written r) rs all) in
    let bytes = header ++ parts_text [] gs in
    let insured : common bytes ≡ Some no_insurance =
    ap common_of (common_back header [] gs whole is_common are_groups) ∙ no_common in
    heard_as door bytes h no_insurance (map part_text gs) who.provider who.date
    (header_is door code n who is_door is_asker refl (parts_text [] gs))
    (clean_is door code n who is_door is_asker refl (parts_text [] gs) refl (few_printable n few))
    insured
    (groups_back header [] gs whole is_common are_groups)
    (rw (same_itself door.bin, same_itself door.pcn) refl)
    (few_counted n (length (map part_text gs)) few (groups_length reversal_group rs))
    (provider_back who.provider is_asker.provider)
    (date_back who.date is_asker.date)
    ∙ ap (λ (list : List Transaction). heard_of code who list) (reversals_heard_each rs all)
