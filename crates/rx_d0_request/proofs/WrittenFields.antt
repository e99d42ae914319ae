-- The fields of a group that is written have the values that they were written of.
use Rattle.std.proofs.Common.{◌≡◌, ℕ, ◌/◌, ◌%◌, ◌<◌, ◌≤◌, ◌^◌, Bool, true, false, ◌&&◌, ◌||◌, not}
use Rattle.std.proofs.Common.{cond, eqb, ltb, List, [], ◌∷◌, ◌++◌, codes, length, map, pos, Option, Some, None}
use Rattle.std.proofs.Common.{Result, Ok, Err, refl, sym, ap, ◌∙◌, inl, inr, arith, length-append}
use Rattle.std.specs.Prelude.{filter, is_none, is_some}
use Rattle.std.specs.List.{All, list_all, list_any}
use Rattle.std.specs.Result.{result_ok}
use Rattle.std.proofs.lemmas.Bool.{and_parts, cases_Bool, leb-true}
use Rattle.std.proofs.lemmas.Bool.Decides.{nat_tests}
use Rattle.std.proofs.lemmas.List.Elements.{All-cons, All-nil}
use Rattle.std.proofs.lemmas.List.Folds.{list_all-append}
use Rattle.rx_fields.specs.Amount.{last_char, signed_text}
use Rattle.rx_text.specs.Bytes.{all_digits, is_printable}
use Rattle.rx_fields.specs.Digits.{digits_text}
use Rattle.rx_fields.specs.Text.{IsId, is_bar, trimmed}
use Rattle.rx_fields.specs.declared.fault.IdFault.{IdFault}
use Rattle.rx_fields.specs.declared.fault.IdFault.TheVariants as fault
use Rattle.rx_fields.proofs.AmountLaws.{signed_again}
use Rattle.rx_fields.proofs.DigitLaws.{digits_text-again, digits_text-all, digits_text-number, length-digits_text}
use Rattle.rx_fields.proofs.IdLaws.{id_printable}
use Rattle.rx_d0_values.specs.declared.bill.BillParts.{BillParts}
use Rattle.rx_d0_values.specs.declared.transaction.Reversal.{Reversal}
use Rattle.rx_d0_values.specs.declared.transaction.Transaction.TheVariants.{Bill, Reverse}
use Rattle.rx_d0_request.specs.Bills.{bill_parts, billing, reversal, reversal_parts, transaction}
use Rattle.rx_d0_request.specs.Codes.{has_no_charge, is_faulty}
use Rattle.rx_d0_request.specs.Cut.{Field, is_nonempty, is_part}
use Rattle.rx_d0_request.specs.Known.{ClaimTexts, GroupTexts, InsuranceTexts, PricingTexts, claim_of, common_of, field, group_in}
use Rattle.rx_d0_request.specs.Known.{group_of, has_name, insurance_in, insurance_of, is_called, only, pricing_of, segment, values}
use Rattle.rx_d0_request.specs.Values.{amount_in, cents, id_in, is_no_amount, is_plain, is_sole, is_text}
use Rattle.rx_d0_request.specs.Values.{nonzero, number_in, person_in, positive_in, product_in}
use Rattle.rx_d0_request.specs.Written.{IsAmountIfThere, IsBillOf, IsReversal, IsWritten, IsWrittenPart, IsWrittenSegment}
use Rattle.rx_d0_request.specs.Written.{amount_if_there, bill_group, claim_fields, insurance_fields, part_text, pricing_fields}
use Rattle.rx_d0_request.specs.Written.{reversal_group, segment_text, supply_fields, under}
use Rattle.rx_d0_request.proofs.Fields.{nonempty_cons}
use Rattle.rx_d0_request.proofs.Written.{fields_back, part_is_cut, segments_back}
use Rattle.rx_d0_request.proofs.WrittenHeader.{digits_printable}

-- ---- values

number_back : (n x : ℕ) → 1 ≤ n → x < 10 ^ n → number_in n (Some (digits_text n x)) ≡ Some x
number_back n x one lt = ap result_ok (digits_text-again n x one lt)

positive_back : (n x : ℕ) → 1 ≤ n → 0 < x → x < 10 ^ n → positive_in n (Some (digits_text n x)) ≡ Some x
positive_back n x one some lt =
    let other : eqb x 0 ≡ false = grind (arith, nat_tests, some) in
    ap nonzero (number_back n x one lt) ∙ rw other refl

product_back : (x : ℕ) → x < 10 ^ 11 → product_in (Some (digits_text 11 x)) ≡ Some x
product_back x lt = rw (length-digits_text 11 x, digits_text-all 11 x) (ap Some (digits_text-number 11 x lt))

amount_back : (n : ℕ) → n ≤ 99_999_999 → amount_in (Some (signed_text (pos n))) ≡ Some n
amount_back n le = ap cents (signed_again (pos n) le)

-- ---- texts of values

-- the last byte isn't a blank
digits_whole : (bs : List ℕ) → all_digits bs ≡ true → trimmed bs ≡ bs
digits_whole [] is = refl
digits_whole (b ∷ bs) is =
    let here = and_parts _ (all_digits bs) is in
    let low : 48 ≤ b = leb-true 48 b (and_parts _ _ here.0).0 in
    let other : eqb b 32 ≡ false = grind (arith, nat_tests, low) in
    rw (other, digits_whole bs here.1) refl

digits_nonempty : (n x : ℕ) → 1 ≤ n → is_nonempty (digits_text n x) ≡ true
digits_nonempty n x one = rw (length-digits_text n x) (grind (arith, nat_tests, one))

digits_written : (a b n x : ℕ) → is_printable a ≡ true → is_printable b ≡ true
    → IsWritten (under (a ∷ b ∷ []) (digits_text n x))
digits_written a b n x p q = record {
  two = refl;
  printable = rw (p, q) (digits_printable (digits_text n x) (digits_text-all n x));
  whole = digits_whole (digits_text n x) (digits_text-all n x);
}

last_small : (d : ℕ) → d < 10 → (65 ≤ last_char false d) × (last_char false d ≤ 123)
last_small d lt = elim (cases_Bool (eqb d 0)) [
  | inl t ↦ rw t (omega arith, omega arith)
  | inr f ↦ rw f (let some : 1 ≤ d = grind (arith, nat_tests, f) in (omega (arith, some), omega (arith, lt)))
]

-- seven digits and a last character that is no blank
last_whole : (bs : List ℕ) (b : ℕ) → all_digits bs ≡ true → 65 ≤ b → trimmed (bs ++ b ∷ []) ≡ bs ++ b ∷ []
last_whole [] b is high =
    let other : eqb b 32 ≡ false = grind (arith, nat_tests, high) in
    rw other refl
last_whole (c ∷ bs) b is high =
    let here = and_parts _ (all_digits bs) is in
    let low : 48 ≤ c = leb-true 48 c (and_parts _ _ here.0).0 in
    let other : eqb c 32 ≡ false = grind (arith, nat_tests, low) in
    rw (other, last_whole bs b here.1 high) refl

amount_whole : (n : ℕ) → trimmed (signed_text (pos n)) ≡ signed_text (pos n)
unfolding signed_text
amount_whole n = last_whole (digits_text 7 (n / 10)) (last_char false (n % 10)) (digits_text-all 7 (n / 10))
    (last_small (n % 10) (omega arith)).0

amount_printable : (n : ℕ) → list_all is_printable (signed_text (pos n)) ≡ true
unfolding signed_text
amount_printable n =
    let last = last_small (n % 10) (omega arith) in
    let printable : is_printable (last_char false (n % 10)) ≡ true = grind (arith, nat_tests, last.0, last.1) in
    rw (
      list_all-append is_printable (digits_text 7 (n / 10)) (last_char false (n % 10) ∷ []),
      digits_printable (digits_text 7 (n / 10)) (digits_text-all 7 (n / 10)),
      printable,
    ) refl

amount_nonempty : (n : ℕ) → is_nonempty (signed_text (pos n)) ≡ true
unfolding signed_text
amount_nonempty n =
    let len : length (digits_text 7 (n / 10) ++ last_char false (n % 10) ∷ []) ≡ 8 =
    omega (arith, length-append (digits_text 7 (n / 10)) (last_char false (n % 10) ∷ []), length-digits_text 7 (n / 10)) in
    rw len refl

amount_written : (a b n : ℕ) → is_printable a ≡ true → is_printable b ≡ true
    → IsWritten (under (a ∷ b ∷ []) (signed_text (pos n)))
amount_written a b n p q = record {
  two = refl;
  printable = rw (p, q) (amount_printable n);
  whole = amount_whole n;
}

-- ---- ids

refused : {A F : Type 0} (b : Bool) (f : F) (r : Result A F) (v : A) → cond b (Err f) r ≡ Ok v → r ≡ Ok v
refused true f r v e = absurd cc
refused false f r v e = e

abbrev made : List ℕ → Result (List ℕ) IdFault
made t = Ok t

ok_same : (x y : List ℕ) → made x ≡ made y → x ≡ y
ok_same x y e = cc

id_whole : (max : ℕ) (t : List ℕ) → IsId max t → trimmed t ≡ t
id_whole max t e =
    let some = refused (eqb (length (trimmed t)) 0) fault.Blank _ t e in
    let short = refused (ltb max (length (trimmed t))) fault.TooLong _ t some in
    let printable = refused (not (list_all is_printable (trimmed t))) fault.NotPrintable _ t short in
    ok_same (trimmed t) t (refused (list_any is_bar (trimmed t)) fault.Bar _ t printable)

id_nonempty : (max : ℕ) (t : List ℕ) → IsId max t → is_nonempty t ≡ true
id_nonempty max [] e = absurd cc
id_nonempty max (b ∷ bs) e = nonempty_cons b bs

id_written : (max a b : ℕ) (t : List ℕ) → is_printable a ≡ true → is_printable b ≡ true → IsId max t
    → IsWritten (under (a ∷ b ∷ []) t)
id_written max a b t p q is = record {
  two = refl;
  printable = rw (p, q) (id_printable max t t is);
  whole = id_whole max t is;
}

-- ---- segments that are written

abbrev Written : List Field → Type 0
Written fs = All IsWritten fs

named_04 : IsWritten (under (codes "AM") (codes "04"))
named_04 = record { two = refl; printable = refl; whole = refl }

named_07 : IsWritten (under (codes "AM") (codes "07"))
named_07 = record { two = refl; printable = refl; whole = refl }

named_11 : IsWritten (under (codes "AM") (codes "11"))
named_11 = record { two = refl; printable = refl; whole = refl }

qualified_1 : IsWritten (under (codes "EM") (codes "1"))
qualified_1 = record { two = refl; printable = refl; whole = refl }

qualified_03 : IsWritten (under (codes "E1") (codes "03"))
qualified_03 = record { two = refl; printable = refl; whole = refl }

no_compound : IsWritten (under (codes "D6") (codes "1"))
no_compound = record { two = refl; printable = refl; whole = refl }

-- one more field
also : (f : Field) (fs : List Field) → IsWritten f → Written fs → Written (f ∷ fs)
also f fs is all = All-cons IsWritten f fs is all

pub insurance_written : (family person : List ℕ) → IsId 20 family → IsId 3 person
    → IsWrittenSegment (insurance_fields family person)
insurance_written family person f p =
    let c3 = under (codes "C3") person in
    let c2 = under (codes "C2") family in
    record {
      fields = also (under (codes "AM") (codes "04")) (c2 ∷ c3 ∷ []) named_04
          (also c2 (c3 ∷ []) (id_written 20 67 50 family refl refl f)
          (also c3 [] (id_written 3 67 51 person refl refl p) (All-nil IsWritten)));
      named = refl;
    }

claim_written : (r p : ℕ) (more : List Field) → Written more → IsWrittenSegment (claim_fields r p more)
claim_written r p more all =
    let d7 = under (codes "D7") (digits_text 11 p) in
    let e1 = under (codes "E1") (codes "03") in
    let d2 = under (codes "D2") (digits_text 12 r) in
    let em = under (codes "EM") (codes "1") in
    record {
      fields = also (under (codes "AM") (codes "07")) (em ∷ d2 ∷ e1 ∷ d7 ∷ more) named_07
          (also em (d2 ∷ e1 ∷ d7 ∷ more) qualified_1
          (also d2 (e1 ∷ d7 ∷ more) (digits_written 68 50 12 r refl refl)
          (also e1 (d7 ∷ more) qualified_03 (also d7 more (digits_written 68 55 11 p refl refl) all))));
      named = refl;
    }

supply_written : (b : BillParts) → Written (supply_fields b)
supply_written b =
    let d6 = under (codes "D6") (codes "1") in
    let d5 = under (codes "D5") (digits_text 3 b.days) in
    also (under (codes "E7") (digits_text 10 b.quantity)) (d5 ∷ d6 ∷ []) (digits_written 69 55 10 b.quantity refl refl)
    (also d5 (d6 ∷ []) (digits_written 68 53 3 b.days refl refl) (also d6 [] no_compound (All-nil IsWritten)))

amounts_written : (a b : ℕ) → is_printable a ≡ true → is_printable b ≡ true → (o : Option ℕ) (rest : List Field)
    → Written rest → Written (amount_if_there (a ∷ b ∷ []) o ++ rest)
amounts_written a b p q None rest all = all
amounts_written a b p q (Some n) rest all =
    All-cons IsWritten (under (a ∷ b ∷ []) (signed_text (pos n))) rest (amount_written a b n p q) all

last_written : (o : Option ℕ) → Written (amount_if_there (codes "DU") o)
last_written None = All-nil IsWritten
last_written (Some n) =
    All-cons IsWritten (under (codes "DU") (signed_text (pos n))) [] (amount_written 68 85 n refl refl) (All-nil IsWritten)

pricing_written : (b : BillParts) → IsWrittenSegment (pricing_fields b)
pricing_written b =
    let last = amount_if_there (codes "DU") b.gross_amount in
    let usual = amount_if_there (codes "DQ") b.usual_charge ++ last in
    let fee = amount_if_there (codes "DC") b.dispensing_fee ++ usual in
    let d9 = under (codes "D9") (signed_text (pos b.ingredient_cost)) in
    record {
      fields = also (under (codes "AM") (codes "11")) (d9 ∷ fee) named_11
          (also d9 fee (amount_written 68 57 b.ingredient_cost refl refl)
          (amounts_written 68 67 refl refl b.dispensing_fee usual
          (amounts_written 68 81 refl refl b.usual_charge last (last_written b.gross_amount))));
      named = refl;
    }

pub bill_written : (b : BillParts) → IsWrittenPart (bill_group b)
bill_written b = All-cons IsWrittenSegment (claim_fields b.reference b.product (supply_fields b)) (pricing_fields b ∷ [])
    (claim_written b.reference b.product (supply_fields b) (supply_written b))
    (All-cons IsWrittenSegment (pricing_fields b) [] (pricing_written b) (All-nil IsWrittenSegment))

pub reversal_written : (r : Reversal) → IsWrittenPart (reversal_group r)
reversal_written r = All-cons IsWrittenSegment (claim_fields r.reference r.product []) []
    (claim_written r.reference r.product [] (All-nil IsWritten)) (All-nil IsWrittenSegment)

-- ---- tables of what is read

abbrev Slot : Type 0
Slot = Option (List ℕ)

field_is : (id : List ℕ) (fs : List Field) → Written fs → field id (Some (segment_text fs)) ≡ only (values id fs)
unfolding field
field_is id fs all = ap (λ (gs : List Field). only (values id gs)) (fields_back fs all)

insurance_by : (found : Slot) (x0 x1 x2 : Slot) → field (codes "AM") found ≡ Some x0 → field (codes "C2") found ≡ Some x1
    → field (codes "C3") found ≡ Some x2 → insurance_of found ≡ Some (record { cardholder = x1; person = x2 })
unfolding insurance_of
insurance_by found x0 x1 x2 e0 e1 e2 = rw (e0, e1, e2) refl

claim_by : (found : Slot) (x0 x1 x2 x3 x4 x5 x6 x7 x8 : Slot) → field (codes "AM") found ≡ Some x0
    → field (codes "EM") found ≡ Some x1 → field (codes "D2") found ≡ Some x2 → field (codes "E1") found ≡ Some x3
    → field (codes "D7") found ≡ Some x4 → field (codes "E7") found ≡ Some x5 → field (codes "D5") found ≡ Some x6
    → field (codes "D6") found ≡ Some x7 → field (codes "C8") found ≡ Some x8
    → claim_of found ≡ Some (record {
      reference_qualifier = x1;
      reference = x2;
      product_qualifier = x3;
      product = x4;
      quantity = x5;
      days = x6;
      compound = x7;
      other_coverage = x8;
    })
unfolding claim_of
claim_by found x0 x1 x2 x3 x4 x5 x6 x7 x8 e0 e1 e2 e3 e4 e5 e6 e7 e8 = rw (e0, e1, e2, e3, e4, e5, e6, e7, e8) refl

pricing_by : (found : Slot) (x0 x1 x2 x3 x4 : Slot) → field (codes "AM") found ≡ Some x0
    → field (codes "D9") found ≡ Some x1 → field (codes "DC") found ≡ Some x2 → field (codes "DQ") found ≡ Some x3
    → field (codes "DU") found ≡ Some x4
    → pricing_of found ≡ Some (record { ingredient_cost = x1; dispensing_fee = x2; usual_charge = x3; gross_amount = x4 })
unfolding pricing_of
pricing_by found x0 x1 x2 x3 x4 e0 e1 e2 e3 e4 = rw (e0, e1, e2, e3, e4) refl

-- ---- segments that are read

insurance_read : (family person : List ℕ) → IsId 20 family → IsId 3 person
    → insurance_of (Some (segment_text (insurance_fields family person)))
    ≡ Some (record { cardholder = Some family; person = Some person })
insurance_read family person f p =
    let fs = insurance_fields family person in
    let all = (insurance_written family person f p).fields in
    insurance_by (Some (segment_text fs)) (Some (codes "04")) (Some family) (Some person)
    (field_is (codes "AM") fs all)
    (field_is (codes "C2") fs all ∙ rw (id_nonempty 20 family f) refl)
    (field_is (codes "C3") fs all ∙ rw (id_nonempty 3 person p) refl)

abbrev claim_texts : ℕ → ℕ → Slot → Slot → Slot → ClaimTexts
claim_texts reference product quantity days compound =
    record {
      reference_qualifier = Some (codes "1");
      reference = Some (digits_text 12 reference);
      product_qualifier = Some (codes "03");
      product = Some (digits_text 11 product);
      quantity = quantity;
      days = days;
      compound = compound;
      other_coverage = None;
    }

bill_claim_read : (b : BillParts)
    → claim_of (Some (segment_text (claim_fields b.reference b.product (supply_fields b))))
    ≡ Some (claim_texts b.reference b.product (Some (digits_text 10 b.quantity)) (Some (digits_text 3 b.days)) (Some (codes "1")))
bill_claim_read b =
    let fs = claim_fields b.reference b.product (supply_fields b) in
    let all = (claim_written b.reference b.product (supply_fields b) (supply_written b)).fields in
    claim_by (Some (segment_text fs)) (Some (codes "07")) (Some (codes "1")) (Some (digits_text 12 b.reference))
    (Some (codes "03")) (Some (digits_text 11 b.product)) (Some (digits_text 10 b.quantity)) (Some (digits_text 3 b.days))
    (Some (codes "1")) None
    (field_is (codes "AM") fs all)
    (field_is (codes "EM") fs all)
    (field_is (codes "D2") fs all ∙ rw (digits_nonempty 12 b.reference (omega arith)) refl)
    (field_is (codes "E1") fs all)
    (field_is (codes "D7") fs all ∙ rw (digits_nonempty 11 b.product (omega arith)) refl)
    (field_is (codes "E7") fs all ∙ rw (digits_nonempty 10 b.quantity (omega arith)) refl)
    (field_is (codes "D5") fs all ∙ rw (digits_nonempty 3 b.days (omega arith)) refl)
    (field_is (codes "D6") fs all)
    (field_is (codes "C8") fs all)

reversal_claim_read : (r : Reversal) → claim_of (Some (segment_text (claim_fields r.reference r.product [])))
    ≡ Some (claim_texts r.reference r.product None None None)
reversal_claim_read r =
    let fs = claim_fields r.reference r.product [] in
    let all = (claim_written r.reference r.product [] (All-nil IsWritten)).fields in
    claim_by (Some (segment_text fs)) (Some (codes "07")) (Some (codes "1")) (Some (digits_text 12 r.reference))
    (Some (codes "03")) (Some (digits_text 11 r.product)) None None None None
    (field_is (codes "AM") fs all)
    (field_is (codes "EM") fs all)
    (field_is (codes "D2") fs all ∙ rw (digits_nonempty 12 r.reference (omega arith)) refl)
    (field_is (codes "E1") fs all)
    (field_is (codes "D7") fs all ∙ rw (digits_nonempty 11 r.product (omega arith)) refl)
    (field_is (codes "E7") fs all)
    (field_is (codes "D5") fs all)
    (field_is (codes "D6") fs all)
    (field_is (codes "C8") fs all)

-- the text of an amount, if there is one
abbrev amount_text : Option ℕ → Slot
amount_text None = None
amount_text (Some n) = Some (signed_text (pos n))

-- the fields of these amounts
abbrev priced : ℕ → Option ℕ → Option ℕ → Option ℕ → List Field
priced cost fee usual gross =
    under (codes "AM") (codes "11") ∷ under (codes "D9") (signed_text (pos cost))
    ∷ (amount_if_there (codes "DC") fee ++ (amount_if_there (codes "DQ") usual ++ amount_if_there (codes "DU") gross))

cost_value : (cost : ℕ) (fee usual gross : Option ℕ)
    → only (values (codes "D9") (priced cost fee usual gross)) ≡ Some (Some (signed_text (pos cost)))
cost_value cost None None None = rw (amount_nonempty cost) refl
cost_value cost None None (Some g) = rw (amount_nonempty cost) refl
cost_value cost None (Some u) None = rw (amount_nonempty cost) refl
cost_value cost None (Some u) (Some g) = rw (amount_nonempty cost) refl
cost_value cost (Some f) None None = rw (amount_nonempty cost) refl
cost_value cost (Some f) None (Some g) = rw (amount_nonempty cost) refl
cost_value cost (Some f) (Some u) None = rw (amount_nonempty cost) refl
cost_value cost (Some f) (Some u) (Some g) = rw (amount_nonempty cost) refl

name_value : (cost : ℕ) (fee usual gross : Option ℕ)
    → only (values (codes "AM") (priced cost fee usual gross)) ≡ Some (Some (codes "11"))
name_value cost None None None = refl
name_value cost None None (Some g) = refl
name_value cost None (Some u) None = refl
name_value cost None (Some u) (Some g) = refl
name_value cost (Some f) None None = refl
name_value cost (Some f) None (Some g) = refl
name_value cost (Some f) (Some u) None = refl
name_value cost (Some f) (Some u) (Some g) = refl

fee_value : (cost : ℕ) (fee usual gross : Option ℕ)
    → only (values (codes "DC") (priced cost fee usual gross)) ≡ Some (amount_text fee)
fee_value cost None None None = refl
fee_value cost None None (Some g) = refl
fee_value cost None (Some u) None = refl
fee_value cost None (Some u) (Some g) = refl
fee_value cost (Some f) None None = rw (amount_nonempty f) refl
fee_value cost (Some f) None (Some g) = rw (amount_nonempty f) refl
fee_value cost (Some f) (Some u) None = rw (amount_nonempty f) refl
fee_value cost (Some f) (Some u) (Some g) = rw (amount_nonempty f) refl

usual_value : (cost : ℕ) (fee usual gross : Option ℕ)
    → only (values (codes "DQ") (priced cost fee usual gross)) ≡ Some (amount_text usual)
usual_value cost None None None = refl
usual_value cost None None (Some g) = refl
usual_value cost None (Some u) None = rw (amount_nonempty u) refl
usual_value cost None (Some u) (Some g) = rw (amount_nonempty u) refl
usual_value cost (Some f) None None = refl
usual_value cost (Some f) None (Some g) = refl
usual_value cost (Some f) (Some u) None = rw (amount_nonempty u) refl
usual_value cost (Some f) (Some u) (Some g) = rw (amount_nonempty u) refl

gross_value : (cost : ℕ) (fee usual gross : Option ℕ)
    → only (values (codes "DU") (priced cost fee usual gross)) ≡ Some (amount_text gross)
gross_value cost None None None = refl
gross_value cost None None (Some g) = rw (amount_nonempty g) refl
gross_value cost None (Some u) None = refl
gross_value cost None (Some u) (Some g) = rw (amount_nonempty g) refl
gross_value cost (Some f) None None = refl
gross_value cost (Some f) None (Some g) = rw (amount_nonempty g) refl
gross_value cost (Some f) (Some u) None = refl
gross_value cost (Some f) (Some u) (Some g) = rw (amount_nonempty g) refl

abbrev pricing_texts : BillParts → PricingTexts
pricing_texts b =
    record {
      ingredient_cost = Some (signed_text (pos b.ingredient_cost));
      dispensing_fee = amount_text b.dispensing_fee;
      usual_charge = amount_text b.usual_charge;
      gross_amount = amount_text b.gross_amount;
    }

pricing_read : (b : BillParts) → pricing_of (Some (segment_text (pricing_fields b))) ≡ Some (pricing_texts b)
pricing_read b =
    let fs = pricing_fields b in
    let all = (pricing_written b).fields in
    let c = b.ingredient_cost in
    let f = b.dispensing_fee in
    let u = b.usual_charge in
    let g = b.gross_amount in
    pricing_by (Some (segment_text fs)) (Some (codes "11")) (Some (signed_text (pos c))) (amount_text f) (amount_text u)
    (amount_text g)
    (field_is (codes "AM") fs all ∙ name_value c f u g)
    (field_is (codes "D9") fs all ∙ cost_value c f u g)
    (field_is (codes "DC") fs all ∙ fee_value c f u g)
    (field_is (codes "DQ") fs all ∙ usual_value c f u g)
    (field_is (codes "DU") fs all ∙ gross_value c f u g)

-- ---- parts that are read

segment_is : (name : List ℕ) (segs : List (List Field)) → IsWrittenPart segs
    → segment name (part_text segs) ≡ only (filter (has_name name) (map segment_text segs))
unfolding segment
segment_is name segs all = ap (λ (texts : List (List ℕ)). only (filter (has_name name) texts)) (segments_back segs all)

called : (name : List ℕ) (fs : List Field) → IsWrittenSegment fs → has_name name (segment_text fs) ≡ is_called name fs
called name fs is = ap (is_called name) (fields_back fs is.fields)

common_by : (part : List ℕ) (found : Slot) (texts : InsuranceTexts) → is_part part ≡ true
    → segment (codes "04") part ≡ Some found → insurance_of found ≡ Some texts → common_of part ≡ Some texts
unfolding common_of insurance_in
common_by part found texts is e read = rw (is, e) read

pub common_read : (family person : List ℕ) → IsId 20 family → IsId 3 person
    → common_of (part_text (insurance_fields family person ∷ []))
    ≡ Some (record { cardholder = Some family; person = Some person })
common_read family person f p =
    let fs = insurance_fields family person in
    let is = insurance_written family person f p in
    let all : IsWrittenPart (fs ∷ []) = All-cons IsWrittenSegment fs [] is (All-nil IsWrittenSegment) in
    let here : has_name (codes "04") (segment_text fs) ≡ true = called (codes "04") fs is in
    common_by (part_text (fs ∷ [])) (Some (segment_text fs)) (record { cardholder = Some family; person = Some person })
    (part_is_cut (fs ∷ []) all) (segment_is (codes "04") (fs ∷ []) all ∙ rw here refl) (insurance_read family person f p)

group_by : (part : List ℕ) (c p : Slot) (claim : ClaimTexts) (pricing : PricingTexts) → is_part part ≡ true
    → segment (codes "07") part ≡ Some c → segment (codes "11") part ≡ Some p → claim_of c ≡ Some claim
    → pricing_of p ≡ Some pricing → group_of part ≡ Some (record { claim = claim; pricing = pricing })
unfolding group_of group_in
group_by part c p claim pricing is at_claim at_pricing claims prices = rw (is, at_claim, at_pricing, claims, prices) refl

abbrev bill_texts : BillParts → GroupTexts
bill_texts b = record {
  claim = claim_texts b.reference b.product (Some (digits_text 10 b.quantity)) (Some (digits_text 3 b.days)) (Some (codes "1"));
  pricing = pricing_texts b;
}

bill_read : (b : BillParts) → group_of (part_text (bill_group b)) ≡ Some (bill_texts b)
bill_read b =
    let claim = claim_fields b.reference b.product (supply_fields b) in
    let pricing = pricing_fields b in
    let claim_is = claim_written b.reference b.product (supply_fields b) (supply_written b) in
    let pricing_is = pricing_written b in
    let all = bill_written b in
    let claim_07 : has_name (codes "07") (segment_text claim) ≡ true = called (codes "07") claim claim_is in
    let claim_11 : has_name (codes "11") (segment_text claim) ≡ false = called (codes "11") claim claim_is in
    let pricing_07 : has_name (codes "07") (segment_text pricing) ≡ false = called (codes "07") pricing pricing_is in
    let pricing_11 : has_name (codes "11") (segment_text pricing) ≡ true = called (codes "11") pricing pricing_is in
    group_by (part_text (bill_group b)) (Some (segment_text claim)) (Some (segment_text pricing))
    (claim_texts b.reference b.product (Some (digits_text 10 b.quantity)) (Some (digits_text 3 b.days)) (Some (codes "1")))
    (pricing_texts b)
    (part_is_cut (bill_group b) all)
    (segment_is (codes "07") (bill_group b) all ∙ rw (claim_07, pricing_07) refl)
    (segment_is (codes "11") (bill_group b) all ∙ rw (claim_11, pricing_11) refl)
    (bill_claim_read b) (pricing_read b)

abbrev no_pricing : PricingTexts
no_pricing = record { ingredient_cost = None; dispensing_fee = None; usual_charge = None; gross_amount = None }

no_pricing_read : pricing_of None ≡ Some no_pricing
unfolding pricing_of field
no_pricing_read = refl

reversal_read : (r : Reversal) → group_of (part_text (reversal_group r))
    ≡ Some (record { claim = claim_texts r.reference r.product None None None; pricing = no_pricing })
reversal_read r =
    let claim = claim_fields r.reference r.product [] in
    let claim_is = claim_written r.reference r.product [] (All-nil IsWritten) in
    let all = reversal_written r in
    let claim_07 : has_name (codes "07") (segment_text claim) ≡ true = called (codes "07") claim claim_is in
    let claim_11 : has_name (codes "11") (segment_text claim) ≡ false = called (codes "11") claim claim_is in
    group_by (part_text (reversal_group r)) (Some (segment_text claim)) None (claim_texts r.reference r.product None None None)
    no_pricing (part_is_cut (reversal_group r) all)
    (segment_is (codes "07") (reversal_group r) all ∙ rw claim_07 refl)
    (segment_is (codes "11") (reversal_group r) all ∙ rw claim_11 refl)
    (reversal_claim_read r) no_pricing_read

-- ---- transactions

bill_by : (common : InsuranceTexts) (group : GroupTexts) (b : BillParts)
    → is_no_amount group.pricing.dispensing_fee ≡ false → is_no_amount group.pricing.gross_amount ≡ false
    → has_no_charge group.pricing ≡ false
    → is_text (codes "1") group.claim.reference_qualifier ≡ true → is_text (codes "03") group.claim.product_qualifier ≡ true
    → is_plain group.claim.compound ≡ true → is_sole group.claim.other_coverage ≡ true
    → id_in 20 common.cardholder ≡ Some b.family → person_in common.person ≡ Some b.person
    → number_in 12 group.claim.reference ≡ Some b.reference → product_in group.claim.product ≡ Some b.product
    → positive_in 10 group.claim.quantity ≡ Some b.quantity → positive_in 3 group.claim.days ≡ Some b.days
    → amount_in group.pricing.ingredient_cost ≡ Some b.ingredient_cost
    → amount_in group.pricing.dispensing_fee ≡ b.dispensing_fee → amount_in group.pricing.usual_charge ≡ b.usual_charge
    → amount_in group.pricing.gross_amount ≡ b.gross_amount
    → billing common group ≡ Bill b
unfolding billing is_faulty bill_parts
bill_by common group b no_fee no_gross charge em e1 plain sole family person reference product quantity days cost fee usual
    gross =
    rw (
      no_fee,
      no_gross,
      charge,
      em,
      e1,
      plain,
      sole,
      family,
      person,
      reference,
      product,
      quantity,
      days,
      cost,
      fee,
      usual,
      gross,
    ) refl

amount_if_back : (o : Option ℕ) → IsAmountIfThere o → amount_in (amount_text o) ≡ o
amount_if_back None is = refl
amount_if_back (Some n) is = amount_back n is

amount_if_there_is : (o : Option ℕ) → IsAmountIfThere o → is_no_amount (amount_text o) ≡ false
amount_if_there_is None is = refl
amount_if_there_is (Some n) is = ap is_none (amount_back n is)

charged : (b : BillParts) (usual gross : Option ℕ) → IsAmountIfThere usual → (is_some usual || is_some gross) ≡ true
    → (is_no_amount (amount_text usual) || (is_none (amount_text usual) && is_none (amount_text gross))) ≡ false
charged b None None is some = absurd cc
charged b None (Some g) is some = refl
charged b (Some u) gross is some = rw (amount_if_there_is (Some u) is) refl

pub bill_back : (family person : List ℕ) → IsId 20 family → IsId 3 person → (b : BillParts) → IsBillOf family person b
    → transaction true (record { cardholder = Some family; person = Some person }) (group_of (part_text (bill_group b)))
    ≡ Bill b
bill_back family person f p b is =
    let common : InsuranceTexts = record { cardholder = Some family; person = Some person } in
    ap (transaction true common) (bill_read b)
    ∙ bill_by common (bill_texts b) b
    (amount_if_there_is b.dispensing_fee is.dispensing_fee)
    (amount_if_there_is b.gross_amount is.gross_amount)
    (charged b b.usual_charge b.gross_amount is.usual_charge is.charged)
    refl refl refl refl
    (ap result_ok f ∙ ap Some (sym is.family_is))
    (ap result_ok p ∙ ap Some (sym is.person_is))
    (number_back 12 b.reference (omega arith) is.reference)
    (product_back b.product is.product)
    (positive_back 10 b.quantity (omega arith) is.some is.quantity)
    (positive_back 3 b.days (omega arith) is.day is.days)
    (amount_back b.ingredient_cost is.ingredient_cost)
    (amount_if_back b.dispensing_fee is.dispensing_fee)
    (amount_if_back b.usual_charge is.usual_charge)
    (amount_if_back b.gross_amount is.gross_amount)

reversal_by : (claim : ClaimTexts) (r : Reversal) → is_text (codes "1") claim.reference_qualifier ≡ true
    → is_text (codes "03") claim.product_qualifier ≡ true → number_in 12 claim.reference ≡ Some r.reference
    → product_in claim.product ≡ Some r.product → reversal claim ≡ Reverse r
unfolding reversal is_faulty reversal_parts
reversal_by claim r em e1 reference product = rw (em, e1, reference, product) refl

pub reversal_back : (common : InsuranceTexts) (r : Reversal) → IsReversal r
    → transaction false common (group_of (part_text (reversal_group r))) ≡ Reverse r
reversal_back common r is =
    ap (transaction false common) (reversal_read r)
    ∙ reversal_by (claim_texts r.reference r.product None None None) r refl refl
    (number_back 12 r.reference (omega arith) is.reference) (product_back r.product is.product)
