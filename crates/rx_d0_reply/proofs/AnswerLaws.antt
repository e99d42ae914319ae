-- Answers are read as they are written.
use Rattle.std.proofs.Common.{◌≡◌, ℕ, ◌≤◌, Bool, true, false, ◌&&◌, cond, eqb, List, [], ◌∷◌, ◌++◌, length, Option, Some, None, refl}
use Rattle.std.proofs.Common.{sym, ap, subst, ◌∙◌, append_assoc, arith, pos, neg_ℤ, codes, inl, inr, lit<, ◌⊎◌, length-append}
use Rattle.std.specs.Prelude.{nat_le, nat_eq, IfSome, option_map}
use Rattle.std.specs.List.{flat_map, AllByRecursion}
use Rattle.std.proofs.lemmas.Bool.{and_parts, cases_Bool, leb-true, le-leb, eqb-true, eq-eqb}
use Rattle.rx_fields.specs.declared.code.Code.{Code}
use Rattle.rx_fields.specs.Digits.{digits_text}
use Rattle.rx_fields.specs.Amount.{signed_text}
use Rattle.rx_fields.specs.Codes.{code_text, code_of}
use Rattle.rx_d0_values.specs.declared.pricing.Amounts.{Amounts}
use Rattle.rx_d0_values.specs.declared.reply.Answer.{Answer}
use Rattle.rx_d0_values.specs.declared.reply.Answer.TheVariants as answer
use Rattle.rx_d0_values.specs.declared.reply.Approved.{Approved}
use Rattle.rx_d0_values.specs.declared.reply.Paid.{Paid}
use Rattle.rx_d0_values.specs.declared.reply.Refused.{Refused}
use Rattle.rx_d0_values.specs.CodeList.{codes_of}
use Rattle.rx_d0_values.specs.Priced.{IsPriced, is_priced, pricing_of, allowed, patient_pay, total_paid}
use Rattle.rx_d0_reply.specs.declared.reading.amounts.Price.{Price}
use Rattle.rx_d0_reply.specs.declared.reading.amounts.Share.{Share}
use Rattle.rx_d0_reply.specs.Text.{field, segment, code_field, reference_segment, known_reference, amount_field}
use Rattle.rx_d0_reply.specs.Text.{coinsurance_field, amounts_segment, answer_text, group_text}
use Rattle.rx_d0_reply.specs.Limits.{IsNumber, IsReference, AreCodes, IsPaid, IsApproved, IsRefused, IsAnswer}
use Rattle.rx_text.specs.Options.{◌>>=◌}
use Rattle.rx_d0_reply.specs.Readers.{after, labelled, made, times, number_at}
use Rattle.rx_d0_reply.specs.Reading.{paid_at, amount_at, not_zero, coinsurance_behind}
use Rattle.rx_d0_reply.specs.Reading.{coinsurance_at, price_at, share_at, amounts_of, summed}
use Rattle.rx_d0_reply.specs.Reading.{priced, pricing_at, authorization_at, reference_label}
use Rattle.rx_d0_reply.specs.Reading.{reference_at, reference_behind, known_at, code_at}
use Rattle.rx_d0_reply.specs.Reading.{codes_at, paid_claim_at, approved_at, refused_at, behind_status, answer_at, group_at}
use Rattle.rx_text.proofs.Steps.{bind_some, guarded, some_same, chain}
use Rattle.rx_d0_reply.proofs.Laws.{after_takes, after_again, Reads, Always}
use Rattle.rx_d0_reply.proofs.Laws.{labelled-reads, pair-reads, made-reads, shaped-reads, times-reads}
use Rattle.rx_fields.proofs.CodeLaws.{code_again}
use Rattle.rx_d0_reply.proofs.FieldLaws.{bytes-reads, number-reads, paid-reads, reversed-reads, code_is}

-- nothing, or the next group
abbrev pub Ends : List ℕ → Type 0
Ends [] = Unit {0}
Ends (b ∷ bs) = b ≡ 29

abbrev pub IsAmount : ℕ → Type 0
IsAmount n = n ≤ 99_999_999

-- ---- amounts

pub amount-reads : (label : List ℕ) → Reads (amount_at label) (λ n. label ++ signed_text (pos n)) IsAmount Always
unfolding amount_at
amount-reads label = labelled-reads label paid-reads

not_zero_is : (n m : ℕ) → not_zero n ≡ Some m → (n ≡ m) × (eqb m 0 ≡ false)
not_zero_is n m e = elim (cases_Bool (eqb n 0)) [
  | inl nothing ↦ absurd (let none = rw nothing at e in cc)
  | inr something ↦ (let same : n ≡ m = some_same (rw something at e) in (same, rw (← same) something))
]

coinsurance_takes : (bs : List ℕ) (o : Option (List ℕ)) (x : ℕ × List ℕ) → after (field (codes "4U") []) bs ≡ o
    → coinsurance_behind o bs ≡ Some x → (bs ≡ coinsurance_field x.0 ++ x.1) × IsAmount x.0
coinsurance_takes bs None x is e =
    subst (λ (y : ℕ × List ℕ). (bs ≡ coinsurance_field y.0 ++ y.1) × IsAmount y.0) (some_same e) (refl, omega arith)
coinsurance_takes bs (Some rest) x is e =
    let n = bind_some (paid_at rest) (λ a. not_zero a.0 >>= λ b. Some (b, a.1)) x e in
    let m = bind_some (not_zero n.0.0) (λ b. Some (b, n.0.1)) x n.2 in
    let taken = paid-reads.takes rest n.0 n.1 in
    let same = not_zero_is n.0.0 m.0 m.1 in
    let spelt : coinsurance_field m.0 ≡ amount_field (codes "4U") m.0 = rw same.1 refl in
    let text : bs ≡ amount_field (codes "4U") m.0 ++ n.0.1 =
    after_takes (field (codes "4U") []) bs rest is
    ∙ (ap (λ (t : List ℕ). field (codes "4U") [] ++ t) taken.0
    ∙ ap (λ (k : ℕ). amount_field (codes "4U") k ++ n.0.1) same.0) in
    subst (λ (y : ℕ × List ℕ). (bs ≡ coinsurance_field y.0 ++ y.1) × IsAmount y.0) (some_same m.2)
    (text ∙ ap (λ (t : List ℕ). t ++ n.0.1) (sym spelt), omega (arith, taken.1, same.0))

no_coinsurance : (rest : List ℕ) → Ends rest → after (field (codes "4U") []) rest ≡ None
unfolding after
no_coinsurance [] ends = refl
no_coinsurance (b ∷ bs) ends = rw ends refl

coinsurance_again : (n : ℕ) (rest : List ℕ) → IsAmount n → Ends rest
    → coinsurance_at (coinsurance_field n ++ rest) ≡ Some (n, rest)
unfolding coinsurance_at
coinsurance_again n rest fits ends = elim (cases_Bool (eqb n 0)) [
  | inl nothing ↦ rw (eqb-true n 0 nothing)
      (ap (λ (o : Option (List ℕ)). coinsurance_behind o rest) (no_coinsurance rest ends))
  | inr something ↦ rw something
      (ap (λ (o : Option (List ℕ)). coinsurance_behind o (amount_field (codes "4U") n ++ rest))
      (after_again (field (codes "4U") []) (signed_text (pos n) ++ rest))
      ∙ chain (paid_at (signed_text (pos n) ++ rest)) (λ a. not_zero a.0 >>= λ b. Some (b, a.1)) (n, rest)
      (paid-reads.again n rest fits tt) (rw something refl))
]

pub coinsurance-reads : Reads coinsurance_at coinsurance_field IsAmount Ends
unfolding coinsurance_at
coinsurance-reads = record {
  takes = λ bs x e. coinsurance_takes bs (after (field (codes "4U") []) bs) x refl e;
  again = coinsurance_again;
}

abbrev price_text : Price → List ℕ
price_text p =
    amount_field (codes "F5") p.patient_pay ++ amount_field (codes "F6") p.ingredient_cost
    ++ amount_field (codes "F7") p.dispensing_fee ++ amount_field (codes "F9") p.total_paid

abbrev IsPrice : Price → Type 0
IsPrice p = ((IsAmount p.patient_pay × IsAmount p.ingredient_cost) × IsAmount p.dispensing_fee) × IsAmount p.total_paid

price-reads : Reads price_at price_text IsPrice Always
unfolding price_at
price-reads =
    shaped-reads
    (λ x. record { patient_pay = x.0.0.0; ingredient_cost = x.0.0.1; dispensing_fee = x.0.1; total_paid = x.1 })
    (λ p. (((p.patient_pay, p.ingredient_cost), p.dispensing_fee), p.total_paid)) price_text IsPrice
    (pair-reads
    (pair-reads
    (pair-reads (amount-reads (field (codes "F5") [])) (amount-reads (field (codes "F6") [])))
    (amount-reads (field (codes "F7") [])))
    (amount-reads (field (codes "F9") [])))
    (λ a fits. (refl, fits)) (λ p fits. (refl, fits, refl))

abbrev share_text : Share → List ℕ
share_text s =
    amount_field (codes "FH") s.deductible ++ amount_field (codes "FI") s.copay ++ coinsurance_field s.coinsurance

abbrev IsShare : Share → Type 0
IsShare s = (IsAmount s.deductible × IsAmount s.copay) × IsAmount s.coinsurance

share-reads : Reads share_at share_text IsShare Ends
unfolding share_at
share-reads =
    shaped-reads (λ x. record { deductible = x.0.0; copay = x.0.1; coinsurance = x.1 })
    (λ s. ((s.deductible, s.copay), s.coinsurance)) share_text IsShare
    (pair-reads
    (pair-reads (amount-reads (field (codes "FH") [])) (amount-reads (field (codes "FI") [])))
    coinsurance-reads)
    (λ a fits. (refl, fits)) (λ s fits. (refl, fits, refl))

abbrev pub amounts_text : Amounts → List ℕ
amounts_text a =
    amount_field (codes "F5") (patient_pay a) ++ amount_field (codes "F6") a.ingredient_cost
    ++ amount_field (codes "F7") a.dispensing_fee ++ amount_field (codes "F9") (total_paid a)
    ++ amount_field (codes "FH") a.deductible ++ amount_field (codes "FI") a.copay ++ coinsurance_field a.coinsurance

pub regrouped : (front a b c : List ℕ) → front ++ ((a ++ b) ++ c) ≡ ((front ++ a) ++ b) ++ c
regrouped front a b c = simp append_assoc

-- with F5 and F9 as they are in the text
amounts_text_by : (p : Price) (s : Share) (f5 f9 : ℕ) → p.patient_pay ≡ f5 → p.total_paid ≡ f9
    → price_text p ++ share_text s
    ≡ amount_field (codes "F5") f5 ++ amount_field (codes "F6") p.ingredient_cost
    ++ amount_field (codes "F7") p.dispensing_fee ++ amount_field (codes "F9") f9
    ++ amount_field (codes "FH") s.deductible ++ amount_field (codes "FI") s.copay ++ coinsurance_field s.coinsurance
amounts_text_by p s f5 f9 is5 is9 =
    rw (← is5, ← is9)
    (regrouped (price_text p) (amount_field (codes "FH") s.deductible) (amount_field (codes "FI") s.copay)
    (coinsurance_field s.coinsurance))

abbrev priced_back : Amounts → Price × Share
priced_back a = (
  record { patient_pay = patient_pay a; ingredient_cost = a.ingredient_cost; dispensing_fee = a.dispensing_fee; total_paid = total_paid a },
  record { deductible = a.deductible; copay = a.copay; coinsurance = a.coinsurance },
)

priced_is : (x : Price × Share) (a : Amounts) → priced x ≡ Some a
    → (price_text x.0 ++ share_text x.1 ≡ amounts_text a) × IsPriced a
priced_is x a e =
    let p = bind_some (pricing_of (amounts_of x)) (summed x.0) a e in
    let within = guarded (is_priced (amounts_of x)) (Some (amounts_of x)) p.0 p.1 in
    let sums = guarded (nat_eq x.0.patient_pay (patient_pay p.0) && nat_eq x.0.total_paid (total_paid p.0))
    (Some p.0) a p.2 in
    let parts = and_parts (nat_eq x.0.patient_pay (patient_pay p.0)) (nat_eq x.0.total_paid (total_paid p.0)) sums.0 in
    let is : amounts_of x ≡ p.0 = some_same within.1 in
    let same : amounts_of x ≡ a = is ∙ some_same sums.1 in
    let f5 : x.0.patient_pay ≡ patient_pay (amounts_of x) = eqb-true _ _ parts.0 ∙ ap patient_pay (sym is) in
    let f9 : x.0.total_paid ≡ total_paid (amounts_of x) = eqb-true _ _ parts.1 ∙ ap total_paid (sym is) in
    subst (λ (b : Amounts). (price_text x.0 ++ share_text x.1 ≡ amounts_text b) × IsPriced b) same
    (amounts_text_by x.0 x.1 (patient_pay (amounts_of x)) (total_paid (amounts_of x)) f5 f9, within.0)

small_amounts : (a : Amounts) → IsPriced a → IsPrice (priced_back a).0 × IsShare (priced_back a).1
small_amounts a h =
    let parts = and_parts (nat_le (allowed a) 99999999) (nat_le (patient_pay a) (allowed a)) h in
    let most : allowed a ≤ 99999999 = leb-true _ _ parts.0 in
    let less : patient_pay a ≤ allowed a = leb-true _ _ parts.1 in
    ((((omega arith, omega arith), omega arith), omega arith), ((omega arith, omega arith), omega arith))

priced_again : (a : Amounts) → IsPriced a → priced (priced_back a) ≡ Some a
priced_again a h =
    let f5 = eq-eqb (patient_pay a) (patient_pay a) refl in
    let f9 = eq-eqb (total_paid a) (total_paid a) refl in
    chain (pricing_of a) (summed (priced_back a).0) a (rw h refl) (rw (f5, f9) refl)

pricing-reads : Reads pricing_at amounts_text IsPriced Ends
unfolding pricing_at
pricing-reads =
    made-reads priced priced_back amounts_text IsPriced (pair-reads price-reads share-reads)
    (λ x a fits e. priced_is x a e)
    (λ a h. (
      priced_again a h,
      small_amounts a h,
      sym
          (amounts_text_by (priced_back a).0 (priced_back a).1 (patient_pay a) (total_paid a) refl refl),
    ))

-- ---- segments 21 and 22

-- the same limits in other words
refit : {A : Type 0} {read : List ℕ → Option (A × List ℕ)} {text : A → List ℕ} {Fits : A → Type 0}
    {Ends : List ℕ → Type 0} (Fits' : A → Type 0)
    → Reads read text Fits Ends → ((v : A) → Fits v → Fits' v) → ((v : A) → Fits' v → Fits v)
    → Reads read text Fits' Ends
refit Fits' h forth over = record {
  takes = λ bs x e. let taken = h.takes bs x e in (taken.0, forth x.0 taken.1);
  again = λ v rest fits ends. h.again v rest (over v fits) ends;
}

authorization-reads : Reads authorization_at (λ n. field (codes "F3") (digits_text 15 n)) IsNumber Always
unfolding authorization_at
authorization-reads =
    refit IsNumber (labelled-reads (field (codes "F3") []) (number-reads 0 999999999999999 15 (lit< tt)))
    (λ v fits. fits.1) (λ v fits. (omega arith, fits))

number_of_reference : Reads (number_at 0 999999999999 12) (digits_text 12) IsReference Always
number_of_reference = refit IsReference (number-reads 0 999999999999 12 (lit< tt)) (λ v fits. fits.1)
    (λ v fits. (omega arith, fits))

reference-reads : Reads reference_at reference_segment IsReference Always
unfolding reference_at
reference-reads = labelled-reads reference_label number_of_reference

known_takes : (bs : List ℕ) (o : Option (List ℕ)) (x : Option ℕ × List ℕ) → after reference_label bs ≡ o
    → reference_behind o bs ≡ Some x → (bs ≡ known_reference x.0 ++ x.1) × IfSome x.0 IsReference
known_takes bs None x is e =
    subst (λ (y : Option ℕ × List ℕ). (bs ≡ known_reference y.0 ++ y.1) × IfSome y.0 IsReference) (some_same e)
    (refl, tt)
known_takes bs (Some rest) x is e =
    let n = bind_some (number_at 0 999999999999 12 rest) (λ a. Some (Some a.0, a.1)) x e in
    let taken = number_of_reference.takes rest n.0 n.1 in
    subst (λ (y : Option ℕ × List ℕ). (bs ≡ known_reference y.0 ++ y.1) × IfSome y.0 IsReference) (some_same n.2)
    (after_takes reference_label bs rest is ∙ ap (λ (t : List ℕ). reference_label ++ t) taken.0, taken.1)

no_reference : (rest : List ℕ) → Ends rest → after reference_label rest ≡ None
unfolding after
no_reference [] ends = refl
no_reference (b ∷ bs) ends = rw ends refl

known_again : (o : Option ℕ) (rest : List ℕ) → IfSome o IsReference → Ends rest
    → known_at (known_reference o ++ rest) ≡ Some (o, rest)
unfolding known_at
known_again None rest fits ends = ap (λ (o : Option (List ℕ)). reference_behind o rest) (no_reference rest ends)
known_again (Some r) rest fits ends =
    ap (λ (o : Option (List ℕ)). reference_behind o (reference_segment r ++ rest))
    (after_again reference_label (digits_text 12 r ++ rest))
    ∙ chain (number_at 0 999999999999 12 (digits_text 12 r ++ rest)) (λ a. Some (Some a.0, a.1)) (r, rest)
    (number_of_reference.again r rest fits tt) refl

known-reads : Reads known_at known_reference (λ o. IfSome o IsReference) Ends
unfolding known_at
known-reads = record {
  takes = λ bs x e. known_takes bs (after reference_label bs) x refl e;
  again = known_again;
}

abbrev AnyCode : Code → Type 0
AnyCode c = Unit {0}

code-reads : Reads code_at code_field AnyCode Always
unfolding code_at
code-reads =
    labelled-reads (field (codes "FB") [])
    (made-reads code_of code_text code_text AnyCode (bytes-reads 2) (λ a b len e. (code_is a b e, tt))
    (λ b fits. ((code_again b).0, (code_again b).1, refl)))

any_codes : (cs : List Code) → AllByRecursion AnyCode cs
any_codes [] = tt
any_codes (c ∷ cs) = (tt, any_codes cs)

-- as many codes as are counted
abbrev Counted : ℕ → List Code → Type 0
Counted n cs = AreCodes cs × (length cs ≡ n)

codes_is : (n : ℕ) (a b : List Code) → length a ≡ n → codes_of a ≡ Some b
    → (flat_map code_field a ≡ flat_map code_field b) × Counted n b
codes_is n a b len e =
    let g = guarded (nat_le 1 (length a) && nat_le (length a) 5) (Some a) b e in
    let parts = and_parts (nat_le 1 (length a)) (nat_le (length a) 5) g.0 in
    subst (λ (c : List Code). (flat_map code_field a ≡ flat_map code_field c) × Counted n c) (some_same g.1)
    (refl, (record { some = leb-true _ _ parts.0; few = leb-true _ _ parts.1 }, len))

codes_again : (cs : List Code) → AreCodes cs → codes_of cs ≡ Some cs
codes_again cs h = rw (le-leb 1 (length cs) h.some, le-leb (length cs) 5 h.few) refl

counted-reads : (n : ℕ) → Reads (made codes_of (times code_at n)) (flat_map code_field) (Counted n) Always
counted-reads n =
    made-reads codes_of (λ cs. cs) (flat_map code_field) (Counted n) (times-reads code-reads (λ v rest. tt) n)
    (λ a b fits e. codes_is n a b fits.0 e) (λ b fits. (codes_again b fits.0, (fits.1, any_codes b), refl))

-- FA and the codes
abbrev pub codes_body : List Code → List ℕ
codes_body cs = field (codes "FA") (digits_text 2 (length cs)) ++ flat_map code_field cs

count-reads : Reads (labelled (field (codes "FA") []) (number_at 1 5 2))
    (λ n. field (codes "FA") (digits_text 2 n)) (λ n. (1 ≤ n) × (n ≤ 5)) Always
count-reads = labelled-reads (field (codes "FA") []) (number-reads 1 5 2 (lit< tt))

pub codes-reads : Reads codes_at codes_body AreCodes Always
unfolding codes_at
codes-reads = record {
  takes = λ bs x e.
      let n = bind_some (labelled (field (codes "FA") []) (number_at 1 5 2) bs)
      (λ count. made codes_of (times code_at count.0) count.1) x e in
      let one = count-reads.takes bs n.0 n.1 in
      let more = (counted-reads n.0.0).takes n.0.1 x n.2 in
      let text : bs ≡ (field (codes "FA") (digits_text 2 n.0.0) ++ flat_map code_field x.0) ++ x.1 =
      one.0 ∙ (ap (λ (t : List ℕ). field (codes "FA") (digits_text 2 n.0.0) ++ t) more.0
      ∙ sym (append_assoc (field (codes "FA") (digits_text 2 n.0.0)) (flat_map code_field x.0) x.1)) in (
        text ∙ ap (λ (k : ℕ). (field (codes "FA") (digits_text 2 k) ++ flat_map code_field x.0) ++ x.1)
            (sym more.1.1),
        more.1.0,
      );
  again = λ cs rest fits ends.
      ap codes_at (append_assoc (field (codes "FA") (digits_text 2 (length cs))) (flat_map code_field cs) rest)
      ∙ chain (labelled (field (codes "FA") []) (number_at 1 5 2)
      (field (codes "FA") (digits_text 2 (length cs)) ++ (flat_map code_field cs ++ rest)))
      (λ count. made codes_of (times code_at count.0) count.1) (length cs, flat_map code_field cs ++ rest)
      (count-reads.again (length cs) (flat_map code_field cs ++ rest) (fits.some, fits.few) tt)
      ((counted-reads (length cs)).again cs rest (fits, refl) tt);
}

-- ---- answers

abbrev paid_body : Paid → List ℕ
paid_body p =
    (field (codes "F3") (digits_text 15 p.number) ++ reference_segment p.reference) ++ amounts_segment p.pricing

paid_claim-reads : Reads paid_claim_at paid_body IsPaid Ends
unfolding paid_claim_at
paid_claim-reads =
    shaped-reads (λ x. record { number = x.0.0; reference = x.0.1; pricing = x.1 })
    (λ p. ((p.number, p.reference), p.pricing)) paid_body IsPaid
    (pair-reads
    (pair-reads authorization-reads reference-reads)
    (labelled-reads (segment (codes "23") []) pricing-reads))
    (λ a fits. (refl, record { number = fits.0.0; reference = fits.0.1; pricing = fits.1 }))
    (λ p fits. (refl, ((fits.number, fits.reference), fits.pricing), refl))

abbrev approved_body : Approved → List ℕ
approved_body a =
    (field (codes "F3") (digits_text 15 a.number) ++ reference_segment a.reference)
    ++ segment (codes "23") (field (codes "F9") (signed_text (neg_ℤ (pos a.total_paid))))

approved-reads : Reads approved_at approved_body IsApproved Always
unfolding approved_at
approved-reads =
    shaped-reads (λ x. record { number = x.0.0; reference = x.0.1; total_paid = x.1 })
    (λ a. ((a.number, a.reference), a.total_paid)) approved_body IsApproved
    (pair-reads
    (pair-reads authorization-reads reference-reads)
    (labelled-reads (segment (codes "23") (field (codes "F9") [])) reversed-reads))
    (λ a fits. (refl, record { number = fits.0.0; reference = fits.0.1; total_paid = fits.1 }))
    (λ a fits. (refl, ((fits.number, fits.reference), fits.total_paid), refl))

abbrev refused_body : Refused → List ℕ
refused_body r = codes_body r.codes ++ known_reference r.reference

refused-reads : Reads refused_at refused_body IsRefused Ends
unfolding refused_at
refused-reads =
    shaped-reads (λ x. record { codes = x.0; reference = x.1 }) (λ r. (r.codes, r.reference)) refused_body IsRefused
    (pair-reads codes-reads known-reads)
    (λ a fits. (refl, record { codes = fits.0; reference = fits.1 }))
    (λ r fits. (refl, (fits.codes, fits.reference), refl))

-- what stands after AN
abbrev answer_body : Answer → List ℕ
answer_body (answer.Paid p) = 80 ∷ paid_body p
answer_body (answer.Twice p) = 68 ∷ paid_body p
answer_body (answer.Approved a) = 65 ∷ approved_body a
answer_body (answer.Refused r) = 82 ∷ refused_body r

abbrev answer_label : List ℕ
answer_label = segment (codes "21") (field (codes "AN") [])

answer_parts : (a : Answer) → answer_text a ≡ answer_label ++ answer_body a
answer_parts (answer.Paid p) = refl
answer_parts (answer.Twice p) = refl
answer_parts (answer.Approved a) = refl
answer_parts (answer.Refused r) = refl

pub chosen : {A : Type 0} (b : Bool) (r s : Option A) (x : A) → cond b r s ≡ Some x
    → ((b ≡ true) × (r ≡ Some x)) ⊎ ((b ≡ false) × (s ≡ Some x))
chosen true r s x e = inl (refl, e)
chosen false r s x e = inr (refl, e)

abbrev IsSpelt : List ℕ → Answer × List ℕ → Type 0
IsSpelt bs x = (bs ≡ answer_body x.0 ++ x.1) × IsAnswer x.0

wrapped : {A : Type 0} {read : List ℕ → Option (A × List ℕ)} {text : A → List ℕ} {Fits : A → Type 0}
    {End : List ℕ → Type 0}
    (wrap : A → Answer) (status : ℕ) → Reads read text Fits End
    → ((a : A) → answer_body (wrap a) ≡ status ∷ text a) → ((a : A) → Fits a → IsAnswer (wrap a))
    → (b : ℕ) (bs : List ℕ) (x : Answer × List ℕ) → eqb b status ≡ true
    → made (λ a. Some (wrap a)) read bs ≡ Some x → IsSpelt (b ∷ bs) x
wrapped {A} {read} {text} {Fits} {End} wrap status h body fits b bs x is e =
    let a = bind_some (read bs) (λ a. Some (wrap a.0, a.1)) x e in
    let taken = h.takes bs a.0 a.1 in
    let front : b ≡ status = eqb-true b status is in
    subst (IsSpelt (b ∷ bs)) (some_same a.2) (
      ap (λ (t : List ℕ). b ∷ t) taken.0
          ∙ (ap (λ (c : ℕ). c ∷ (text a.0.0 ++ a.0.1)) front ∙ ap (λ (t : List ℕ). t ++ a.0.1) (sym (body a.0.0))),
      fits a.0.0 taken.1,
    )

status_takes : (bs : List ℕ) (x : Answer × List ℕ) → behind_status bs ≡ Some x → IsSpelt bs x
status_takes [] x e = absurd cc
status_takes (b ∷ bs) x e = elim (chosen (eqb b 80) _ _ x e) [
  | inl p ↦ wrapped (λ p. answer.Paid p) 80 paid_claim-reads (λ p. refl) (λ p h. h) b bs x p.0 p.1
  | inr q ↦ elim (chosen (eqb b 68) _ _ x q.1) [
    | inl p ↦ wrapped (λ p. answer.Twice p) 68 paid_claim-reads (λ p. refl) (λ p h. h) b bs x p.0 p.1
    | inr q ↦ elim (chosen (eqb b 65) _ _ x q.1) [
      | inl p ↦ wrapped (λ a. answer.Approved a) 65 approved-reads (λ a. refl) (λ a h. h) b bs x p.0 p.1
      | inr q ↦ elim (chosen (eqb b 82) _ _ x q.1) [
        | inl p ↦ wrapped (λ r. answer.Refused r) 82 refused-reads (λ r. refl) (λ r h. h) b bs x p.0 p.1
        | inr q ↦ absurd (let none = q.1 in cc)
      ]
    ]
  ]
]

status_again : (a : Answer) (rest : List ℕ) → IsAnswer a → Ends rest
    → behind_status (answer_body a ++ rest) ≡ Some (a, rest)
status_again (answer.Paid p) rest fits ends =
    chain (paid_claim_at (paid_body p ++ rest)) (λ a. Some (answer.Paid a.0, a.1)) (p, rest)
    (paid_claim-reads.again p rest fits ends) refl
status_again (answer.Twice p) rest fits ends =
    chain (paid_claim_at (paid_body p ++ rest)) (λ a. Some (answer.Twice a.0, a.1)) (p, rest)
    (paid_claim-reads.again p rest fits ends) refl
status_again (answer.Approved a) rest fits ends =
    chain (approved_at (approved_body a ++ rest)) (λ a. Some (answer.Approved a.0, a.1)) (a, rest)
    (approved-reads.again a rest fits tt) refl
status_again (answer.Refused r) rest fits ends =
    chain (refused_at (refused_body r ++ rest)) (λ a. Some (answer.Refused a.0, a.1)) (r, rest)
    (refused-reads.again r rest fits ends) refl

status-reads : Reads behind_status answer_body IsAnswer Ends
status-reads = record { takes = status_takes; again = status_again }

-- the same text in other words
respell : {A : Type 0} {read : List ℕ → Option (A × List ℕ)} {text : A → List ℕ} {Fits : A → Type 0}
    {End : List ℕ → Type 0} (text' : A → List ℕ)
    → Reads read text Fits End → ((v : A) → text' v ≡ text v) → Reads read text' Fits End
respell {A} {read} text' h same = record {
  takes = λ bs x e. let taken = h.takes bs x e in (taken.0 ∙ ap (λ (t : List ℕ). t ++ x.1) (sym (same x.0)), taken.1);
  again = λ v rest fits ends. ap (λ (t : List ℕ). read (t ++ rest)) (same v) ∙ h.again v rest fits ends;
}

answer-reads : Reads answer_at answer_text IsAnswer Ends
unfolding answer_at
answer-reads = respell answer_text (labelled-reads answer_label status-reads) answer_parts

pub group-reads : Reads group_at group_text IsAnswer Ends
unfolding group_at
group-reads = labelled-reads (29 ∷ []) answer-reads

-- ---- what codes leave

-- what follows the codes is no longer than the bytes
pub left_within : {X : Type 0} (r : Option X) (view : X → List Code × List ℕ) (bs : List ℕ) (n : ℕ) → length bs ≤ n
    → option_map view r ≡ codes_at bs → IfSome r (λ x. length (view x).1 ≤ n)
left_within None view bs n le e = tt
left_within (Some x) view bs n le e =
    let taken = codes-reads.takes bs (view x) (sym e) in
    omega (arith, ap length taken.0, length-append (codes_body (view x).0) (view x).1)
