-- No line holds a line feed.
use Rattle.std.proofs.Common.{◌≡◌, ℕ, ◌^◌, ◌<◌, Bool, true, false, not, eqb, leb, List, []}
use Rattle.std.proofs.Common.{◌∷◌, Option, Some, None, refl, sym, subst, ◌∙◌, arith}
use Rattle.std.specs.Fmt.{decimal}
use Rattle.std.specs.List.{list_all}
use Rattle.std.proofs.lemmas.Bool.{and_parts, leb-true}
use Rattle.std.proofs.lemmas.List.Folds.{list_all-append}
use Rattle.std.proofs.lemmas.List.Elements.{All-nil, All-cons}
use Rattle.rx_fields.specs.Calendar.{Civil, date_text}
use Rattle.rx_fields.specs.Digits.{digits_text}
use Rattle.rx_d0_values.specs.declared.pricing.Amounts.{Amounts}
use Rattle.rx_d0_values.specs.Priced.{IsPriced, allowed, patient_pay}
use Rattle.rx_ledger.specs.declared.row.Row.{Row}
use Rattle.rx_books_text.specs.declared.line.Line.{Line}
use Rattle.rx_books_text.specs.declared.line.Line.TheVariants as line
use Rattle.rx_books_text.specs.declared.line.MemberLine.{MemberLine}
use Rattle.rx_books_text.specs.declared.line.TotalLine.{TotalLine}
use Rattle.rx_books_text.specs.declared.version.Version.{Version}
use Rattle.rx_books_text.specs.declared.version.Version.TheVariants.{One, Two, Three}
use Rattle.rx_books_text.specs.LineFits.{IsMemberLine, IsClaimLine, PrintsDeductible, IsTotalLine, IsLine}
use Rattle.rx_books_text.specs.LineText.{joined, member_fields, total_fields, line_text}
use Rattle.rx_books_text.proofs.Cuts.{Without}
use Rattle.rx_books_text.proofs.Steps.{is_inside, IsInside}
use Rattle.rx_books_text.proofs.IdLaws.{id_inside}
use Rattle.rx_books_text.proofs.NumberLaws.{number_inside, digits_text_inside}
use Rattle.rx_books_text.proofs.DayLaws.{day_inside}
use Rattle.rx_books_text.proofs.Befores.{before}
use Rattle.rx_books_text.proofs.ClaimParts.{coinsurance_text, amounts_text}
use Rattle.rx_books_text.proofs.ClaimLaws.{claim_text, claim_text_is}
use Rattle.rx_books_text.proofs.TotalLaws.{total_of}

abbrev pub Feedless : List ℕ → Type 0
Feedless bs = list_all (λ b. not (eqb b 10)) bs ≡ true

pub feedless : (bs : List ℕ) → IsInside bs → Feedless bs
feedless [] inside = refl
feedless (b ∷ bs) inside =
    let parts = and_parts (is_inside b) (list_all is_inside bs) inside in
    let one = and_parts (not (eqb b 124)) (not (eqb b 10)) parts.0 in
    rw (one.1, feedless bs parts.1) refl

pub over : (field rest : List ℕ) → IsInside field → Feedless rest → Feedless (before field rest)
over field rest inside more =
    list_all-append (λ b. not (eqb b 10)) field (124 ∷ rest) ∙ rw (feedless field inside, more) refl

pub without_feed : (bs : List ℕ) → Feedless bs → Without 10 bs
without_feed [] none = All-nil (λ (b : ℕ). eqb b 10 ≡ false)
without_feed (b ∷ bs) none =
    let parts = and_parts (not (eqb b 10)) (list_all (λ c. not (eqb c 10)) bs) none in
    All-cons (λ (c : ℕ). eqb c 10 ≡ false) b bs (unnot (eqb b 10) parts.0) (without_feed bs parts.1)
  where
    unnot : (x : Bool) → not x ≡ true → x ≡ false
    unnot true e = absurd cc
    unnot false e = refl

pub member_feedless : (m : MemberLine) → IsMemberLine m → Feedless (joined (member_fields m))
member_feedless m is =
    let c = m.member.coverage in
    let last = before (date_text c.last) (decimal m.deductible) in
    over m.member.key.family (before m.member.key.person (before (date_text c.first) last)) (id_inside 20 m.member.key.family is.family)
    (over m.member.key.person (before (date_text c.first) last) (id_inside 3 m.member.key.person is.person)
    (over (date_text c.first) last (day_inside c.first)
    (over (date_text c.last) (decimal m.deductible) (day_inside c.last)
    (feedless (decimal m.deductible) (number_inside m.deductible is.deductible)))))

pub small_feedless : (n : ℕ) (rest : List ℕ) → n < 10 ^ 20 → Feedless rest → Feedless (before (decimal n) rest)
small_feedless n rest few more = over (decimal n) rest (number_inside n few) more

pub coinsurance_feedless : (v : Version) (n : ℕ) (rest : List ℕ) → n < 10 ^ 20 → Feedless rest → Feedless (coinsurance_text v n rest)
coinsurance_feedless One n rest few more = more
coinsurance_feedless Two n rest few more = small_feedless n rest few more
coinsurance_feedless Three n rest few more = small_feedless n rest few more

pub amounts_feedless : (v : Version) (a : Amounts) (rest : List ℕ) → IsPriced a → Feedless rest → Feedless (amounts_text v a rest)
amounts_feedless v a rest priced more =
    let parts = and_parts (leb (allowed a) 99_999_999) (leb (patient_pay a) (allowed a)) priced in
    let all = leb-true (allowed a) 99_999_999 parts.0 in
    let less = leb-true (patient_pay a) (allowed a) parts.1 in
    let after = coinsurance_text v a.coinsurance rest in
    small_feedless a.ingredient_cost _ (omega (arith, all)) (small_feedless a.dispensing_fee _ (omega (arith, all))
    (small_feedless a.deductible _ (omega (arith, all, less)) (small_feedless a.copay after (omega (arith, all, less))
    (coinsurance_feedless v a.coinsurance rest (omega (arith, all, less)) more))))

pub claim_feedless : (v : Version) (r : Row) → IsClaimLine v r → Feedless (claim_text v r)
claim_feedless v r is =
    over r.key.provider _ (id_inside 15 r.key.provider is.provider)
    (small_feedless r.key.reference _ (omega (arith, is.reference))
    (over (date_text r.key.date) _ (day_inside r.key.date)
    (over r.family _ (id_inside 20 r.family is.family)
    (over r.person _ (id_inside 3 r.person is.person)
    (over (digits_text 11 r.product) _ (digits_text_inside 11 r.product)
    (small_feedless r.quantity _ (omega (arith, is.quantity.1))
    (small_feedless r.days _ (omega (arith, is.days.1))
    (amounts_feedless v r.pricing (digits_text 15 r.number) is.pricing
    (feedless (digits_text 15 r.number) (digits_text_inside 15 r.number))))))))))

pub total_feedless : (v : Version) (t : TotalLine) (o : Option ℕ) → t.deductible ≡ o → IsTotalLine v t → Feedless (joined (total_fields t))
total_feedless v t None none is =
    subst (λ (o : Option ℕ). Feedless (joined (total_fields (total_of t.family t.out_of_pocket o)))) (sym none)
    (over t.family (decimal t.out_of_pocket) (id_inside 20 t.family is.family)
    (feedless (decimal t.out_of_pocket) (number_inside t.out_of_pocket is.out_of_pocket)))
total_feedless v t (Some d) some is =
    subst (λ (o : Option ℕ). Feedless (joined (total_fields (total_of t.family t.out_of_pocket o)))) (sym some)
    (over t.family (before (decimal t.out_of_pocket) (decimal d)) (id_inside 20 t.family is.family)
    (small_feedless t.out_of_pocket (decimal d) is.out_of_pocket
    (feedless (decimal d) (number_inside d (printed v d (subst (PrintsDeductible v) some is.deductible))))))
  where
    printed : (v : Version) (d : ℕ) → PrintsDeductible v (Some d) → d < 10 ^ 20
    printed One d is = absurd (let none = is in cc)
    printed Two d is = absurd (let none = is in cc)
    printed Three d is = is

pub line_feedless : (v : Version) (l : Line) → IsLine v l → Without 10 (line_text v l)
line_feedless v (line.Member m) is = without_feed (line_text v (line.Member m)) (member_feedless m is)
line_feedless v (line.Claim r) is =
    without_feed (line_text v (line.Claim r)) (subst Feedless (claim_text_is v r) (claim_feedless v r is))
line_feedless v (line.Total t) is = without_feed (line_text v (line.Total t)) (total_feedless v t t.deductible refl is)

pub dates_feedless : (a b : Civil) → Feedless (before (date_text a) (date_text b))
dates_feedless a b = over (date_text a) (date_text b) (day_inside a) (feedless (date_text b) (day_inside b))
