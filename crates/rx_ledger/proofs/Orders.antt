-- The orders of days, fill keys, members and products are total, and keys that tie in them are one.
use Rattle.std.proofs.Common.{◌≡◌, ℕ, List, ap, ◌∙◌}
use Rattle.std.specs.Cmp.{IsTotalOrder}
use Rattle.std.proofs.lemmas.Map.Lookups.{CmpEqualImpliesEq}
use Rattle.rx_fields.specs.Calendar.{Civil, day_cmp}
use Rattle.rx_fields.specs.Order.{id_cmp, key_cmp}
use Rattle.rx_fields.specs.declared.key.Key.{Key}
use Rattle.rx_sorted.proofs.KeyOrders.{number_total, number_exact, text_total, text_exact, by_two_total, by_two_exact}
use Rattle.rx_sorted.proofs.KeyOrders.{by_three_total, by_three_exact, triple_total, triple_exact}
use Rattle.rx_ledger.specs.Members.{member_cmp}
use Rattle.rx_ledger.specs.declared.member.MemberKey.{MemberKey}

-- ---- texts and days

pub id_total : IsTotalOrder id_cmp
id_total = text_total

pub id_exact : CmpEqualImpliesEq id_cmp
id_exact = text_exact

pub day_total : IsTotalOrder day_cmp
day_total = triple_total (λ (d : Civil). d.year) (λ d. d.month) (λ d. d.day)

same_day : (j k : Civil) → j.year ≡ k.year → j.month ≡ k.month → j.day ≡ k.day → j ≡ k
same_day j k year month day =
    let made : ℕ → ℕ → ℕ → Civil = λ y m d. record { year = y; month = m; day = d } in
    ap (λ y. made y j.month j.day) year ∙ ap (λ m. made k.year m j.day) month ∙ ap (λ d. made k.year k.month d) day

pub day_exact : CmpEqualImpliesEq day_cmp
day_exact = triple_exact (λ (d : Civil). d.year) (λ d. d.month) (λ d. d.day) same_day

-- ---- fill keys

pub key_total : IsTotalOrder key_cmp
key_total = by_three_total (λ (k : Key). k.provider) (λ k. k.reference) (λ k. k.date) id_total number_total day_total

same_key : (j k : Key) → j.provider ≡ k.provider → j.reference ≡ k.reference → j.date ≡ k.date → j ≡ k
same_key j k provider reference date =
    let made : List ℕ → ℕ → Civil → Key = λ p r d. record { provider = p; reference = r; date = d } in
    ap (λ p. made p j.reference j.date) provider ∙ ap (λ r. made k.provider r j.date) reference
    ∙ ap (λ d. made k.provider k.reference d) date

pub key_exact : CmpEqualImpliesEq key_cmp
key_exact = by_three_exact (λ (k : Key). k.provider) (λ k. k.reference) (λ k. k.date) id_exact number_exact day_exact
    same_key

-- ---- members

pub member_total : IsTotalOrder member_cmp
member_total = by_two_total (λ (k : MemberKey). k.family) (λ k. k.person) id_total id_total

same_member : (j k : MemberKey) → j.family ≡ k.family → j.person ≡ k.person → j ≡ k
same_member j k family person =
    let made : List ℕ → List ℕ → MemberKey = λ f p. record { family = f; person = p } in
    ap (λ f. made f j.person) family ∙ ap (λ p. made k.family p) person

pub member_exact : CmpEqualImpliesEq member_cmp
member_exact = by_two_exact (λ (k : MemberKey). k.family) (λ k. k.person) id_exact id_exact same_member
