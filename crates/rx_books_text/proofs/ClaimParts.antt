-- The parts of a claim line are read as what their spelling says.
use Rattle.std.proofs.Common.{◌≡◌, ℕ, ◌^◌, ◌<◌, ◌≤◌, leb, List, Some, refl, sym, ap, subst, ◌∙◌, arith}
use Rattle.std.specs.Fmt.{decimal}
use Rattle.std.proofs.lemmas.Bool.{and_parts, leb-true}
use Rattle.rx_fields.specs.declared.key.Key.{Key}
use Rattle.rx_fields.specs.Calendar.{IsCivil, date_text}
use Rattle.rx_fields.specs.Digits.{digits_text}
use Rattle.rx_fields.specs.Numbered.{product_of}
use Rattle.rx_fields.specs.Text.{IsId}
use Rattle.rx_d0_values.specs.declared.pricing.Amounts.{Amounts}
use Rattle.rx_d0_values.specs.Priced.{IsPriced, allowed, patient_pay}
use Rattle.rx_books_text.specs.declared.claim_line.Dispensed.{Dispensed}
use Rattle.rx_books_text.specs.declared.version.Version.{Version}
use Rattle.rx_books_text.specs.declared.version.Version.TheVariants.{One, Two, Three}
use Rattle.rx_books_text.specs.LineFits.{PrintsCoinsurance}
use Rattle.rx_text.specs.Options.{◌>>=◌}
use Rattle.rx_books_text.specs.LineReading.{split, id_in, day_in, number_in, count_in, key_in, key_at, dispensed_in}
use Rattle.rx_books_text.specs.LineReading.{dispensed_at, two_numbers_at, coinsurance_at, amounts_at}
use Rattle.rx_books_text.proofs.Cuts.{split_takes}
use Rattle.rx_text.proofs.Steps.{bind_some, some_same}
use Rattle.rx_books_text.proofs.IdLaws.{id_takes, id_again, id_inside}
use Rattle.rx_books_text.proofs.NumberLaws.{number_takes, number_again, number_inside, count_takes, count_again}
use Rattle.rx_books_text.proofs.NumberLaws.{product_takes, product_again, digits_text_inside}
use Rattle.rx_books_text.proofs.DayLaws.{day_takes, day_inside, day_again}
use Rattle.rx_books_text.proofs.Befores.{before, spelled, followed, inside_over}

-- ---- fill keys

pub record IsKey (k : Key) : Type 0 where
  pub provider : IsId 15 k.provider
  pub reference : k.reference ≤ 999_999_999_999
  pub date : IsCivil k.date

pub key_takes : (provider reference date : List ℕ) (k : Key) → key_in provider reference date ≡ Some k
    → (provider ≡ k.provider) × (reference ≡ decimal k.reference) × (date ≡ date_text k.date) × IsKey k
unfolding key_in
key_takes provider reference date k e =
    let p' = bind_some (id_in 15 provider)
    (λ p. count_in 0 999_999_999_999 reference >>= λ r. day_in date >>= λ d. Some (record { provider = p; reference = r; date = d })) k e in
    let r' = bind_some (count_in 0 999_999_999_999 reference)
    (λ r. day_in date >>= λ d. Some (record { provider = p'.0; reference = r; date = d })) k p'.2 in
    let d' = bind_some (day_in date)
    (λ d. Some (record { provider = p'.0; reference = r'.0; date = d })) k r'.2 in
    let p = id_takes 15 provider p'.0 p'.1 in
    let r = count_takes 0 999_999_999_999 reference r'.0 r'.1 in
    let d = day_takes date d'.0 d'.1 in
    subst (λ (m : Key). (provider ≡ m.provider) × (reference ≡ decimal m.reference) × (date ≡ date_text m.date) × IsKey m)
    (some_same d'.2) (p.0, r.0, d.0, record { provider = p.1; reference = r.1.1; date = d.1 })

abbrev pub key_text : Key → List ℕ → List ℕ
key_text k rest = before k.provider (before (decimal k.reference) (before (date_text k.date) rest))

-- three fields, spelled otherwise
pub three : (bs f g h s t u r1 r2 r3 : List ℕ) → bs ≡ before f r1 → r1 ≡ before g r2 → r2 ≡ before h r3
    → f ≡ s → g ≡ t → h ≡ u → bs ≡ before s (before t (before u r3))
three bs f g h s t u r1 r2 r3 a b c fs gt hu =
    a ∙ (λ j. before (fs j) ((b ∙ (λ i. before (gt i) ((c ∙ (λ k. before (hu k) r3)) i))) j))

pub key_at_takes : (bs : List ℕ) (x : Key × List ℕ) → key_at bs ≡ Some x → (bs ≡ key_text x.0 x.1) × IsKey x.0
unfolding key_at
key_at_takes bs x e =
    let provider' = bind_some (split bs)
    (λ provider. split provider.1 >>= λ reference. split reference.1 >>= λ date. key_in provider.0 reference.0 date.0 >>=
    λ key. Some (key, date.1)) x e in
    let reference' = bind_some (split provider'.0.1)
    (λ reference. split reference.1 >>= λ date. key_in provider'.0.0 reference.0 date.0 >>= λ key. Some (key, date.1)) x provider'.2 in
    let date' = bind_some (split reference'.0.1)
    (λ date. key_in provider'.0.0 reference'.0.0 date.0 >>= λ key. Some (key, date.1)) x reference'.2 in
    let key' = bind_some (key_in provider'.0.0 reference'.0.0 date'.0.0)
    (λ key. Some (key, date'.0.1)) x date'.2 in
    let k = key_takes provider'.0.0 reference'.0.0 date'.0.0 key'.0 key'.1 in
    let text = three bs provider'.0.0 reference'.0.0 date'.0.0 key'.0.provider (decimal key'.0.reference) (date_text key'.0.date)
    provider'.0.1 reference'.0.1 date'.0.1 (split_takes bs provider'.0 provider'.1)
    (split_takes provider'.0.1 reference'.0 reference'.1) (split_takes reference'.0.1 date'.0 date'.1) k.0 k.1 k.2 in
    subst (λ (y : Key × List ℕ). (bs ≡ key_text y.0 y.1) × IsKey y.0) (some_same key'.2) (text, k.3)

pub key_at_again : (k : Key) (rest : List ℕ) → IsKey k → key_at (key_text k rest) ≡ Some (k, rest)
unfolding key_at key_in
key_at_again k rest is =
    rw (
      inside_over k.provider (before (decimal k.reference) (before (date_text k.date) rest)) (id_inside 15 k.provider is.provider),
      inside_over (decimal k.reference) (before (date_text k.date) rest) (number_inside k.reference (omega (arith, is.reference))),
      inside_over (date_text k.date) rest (day_inside k.date),
      id_again 15 k.provider is.provider,
      count_again 0 999_999_999_999 k.reference (omega arith) (omega arith) is.reference,
      day_again k.date is.date,
    ) refl

-- ---- what was dispensed

pub record IsDispensed (w : Dispensed) : Type 0 where
  pub product : w.product < 10 ^ 11
  pub quantity : (1 ≤ w.quantity) × (w.quantity ≤ 9_999_999_999)
  pub days : (1 ≤ w.days) × (w.days ≤ 999)

pub dispensed_takes : (product quantity days : List ℕ) (w : Dispensed) → dispensed_in product quantity days ≡ Some w
    → (product ≡ digits_text 11 w.product) × (quantity ≡ decimal w.quantity) × (days ≡ decimal w.days) × IsDispensed w
unfolding dispensed_in
dispensed_takes product quantity days w e =
    let p' = bind_some (product_of product)
    (λ p. count_in 1 9_999_999_999 quantity >>= λ q. count_in 1 999 days >>=
    λ d. Some (record { product = p; quantity = q; days = d })) w e in
    let q' = bind_some (count_in 1 9_999_999_999 quantity)
    (λ q. count_in 1 999 days >>= λ d. Some (record { product = p'.0; quantity = q; days = d })) w p'.2 in
    let d' = bind_some (count_in 1 999 days)
    (λ d. Some (record { product = p'.0; quantity = q'.0; days = d })) w q'.2 in
    let p = product_takes product p'.0 p'.1 in
    let q = count_takes 1 9_999_999_999 quantity q'.0 q'.1 in
    let d = count_takes 1 999 days d'.0 d'.1 in
    subst (λ (m : Dispensed). (product ≡ digits_text 11 m.product) × (quantity ≡ decimal m.quantity)
    × (days ≡ decimal m.days) × IsDispensed m)
    (some_same d'.2) (p.0, q.0, d.0, record { product = p.1; quantity = q.1; days = d.1 })

abbrev pub dispensed_text : Dispensed → List ℕ → List ℕ
dispensed_text w rest = before (digits_text 11 w.product) (before (decimal w.quantity) (before (decimal w.days) rest))

pub dispensed_at_takes : (bs : List ℕ) (x : Dispensed × List ℕ) → dispensed_at bs ≡ Some x
    → (bs ≡ dispensed_text x.0 x.1) × IsDispensed x.0
unfolding dispensed_at
dispensed_at_takes bs x e =
    let product' = bind_some (split bs)
    (λ product. split product.1 >>= λ quantity. split quantity.1 >>= λ days. dispensed_in product.0 quantity.0 days.0 >>=
    λ what. Some (what, days.1)) x e in
    let quantity' = bind_some (split product'.0.1)
    (λ quantity. split quantity.1 >>= λ days. dispensed_in product'.0.0 quantity.0 days.0 >>= λ what. Some (what, days.1)) x product'.2 in
    let days' = bind_some (split quantity'.0.1)
    (λ days. dispensed_in product'.0.0 quantity'.0.0 days.0 >>= λ what. Some (what, days.1)) x quantity'.2 in
    let what' = bind_some (dispensed_in product'.0.0 quantity'.0.0 days'.0.0)
    (λ what. Some (what, days'.0.1)) x days'.2 in
    let w = dispensed_takes product'.0.0 quantity'.0.0 days'.0.0 what'.0 what'.1 in
    let text = three bs product'.0.0 quantity'.0.0 days'.0.0 (digits_text 11 what'.0.product) (decimal what'.0.quantity)
    (decimal what'.0.days) product'.0.1 quantity'.0.1 days'.0.1 (split_takes bs product'.0 product'.1)
    (split_takes product'.0.1 quantity'.0 quantity'.1) (split_takes quantity'.0.1 days'.0 days'.1) w.0 w.1 w.2 in
    subst (λ (y : Dispensed × List ℕ). (bs ≡ dispensed_text y.0 y.1) × IsDispensed y.0) (some_same what'.2) (text, w.3)

pub dispensed_at_again : (w : Dispensed) (rest : List ℕ) → IsDispensed w → dispensed_at (dispensed_text w rest) ≡ Some (w, rest)
unfolding dispensed_at dispensed_in
dispensed_at_again w rest is =
    rw (
      inside_over (digits_text 11 w.product) (before (decimal w.quantity) (before (decimal w.days) rest)) (digits_text_inside 11 w.product),
      inside_over (decimal w.quantity) (before (decimal w.days) rest) (number_inside w.quantity (omega (arith, is.quantity.1))),
      inside_over (decimal w.days) rest (number_inside w.days (omega (arith, is.days.1))),
      product_again w.product is.product,
      count_again 1 9_999_999_999 w.quantity (omega arith) is.quantity.0 is.quantity.1,
      count_again 1 999 w.days (omega arith) is.days.0 is.days.1,
    ) refl

-- ---- amounts

abbrev pub two_text : ℕ × ℕ → List ℕ → List ℕ
two_text n rest = before (decimal n.0) (before (decimal n.1) rest)

pub two_takes : (bs : List ℕ) (x : (ℕ × ℕ) × List ℕ) → two_numbers_at bs ≡ Some x → bs ≡ two_text x.0 x.1
unfolding two_numbers_at
two_takes bs x e =
    let first' = bind_some (split bs)
    (λ first. split first.1 >>= λ second. number_in 19 first.0 >>= λ a. number_in 19 second.0 >>= λ b. Some ((a, b), second.1)) x e in
    let second' = bind_some (split first'.0.1)
    (λ second. number_in 19 first'.0.0 >>= λ a. number_in 19 second.0 >>= λ b. Some ((a, b), second.1)) x first'.2 in
    let a' = bind_some (number_in 19 first'.0.0)
    (λ a. number_in 19 second'.0.0 >>= λ b. Some ((a, b), second'.0.1)) x second'.2 in
    let b' = bind_some (number_in 19 second'.0.0)
    (λ b. Some ((a'.0, b), second'.0.1)) x a'.2 in
    let one = (number_takes 19 first'.0.0 a'.0 (omega arith) a'.1).0 in
    let two = (number_takes 19 second'.0.0 b'.0 (omega arith) b'.1).0 in
    subst (λ (y : (ℕ × ℕ) × List ℕ). bs ≡ two_text y.0 y.1) (some_same b'.2)
    (followed bs (decimal a'.0) first'.0.1 (before (decimal b'.0) second'.0.1)
    (spelled bs first'.0.0 (decimal a'.0) first'.0.1 (split_takes bs first'.0 first'.1) one)
    (spelled first'.0.1 second'.0.0 (decimal b'.0) second'.0.1 (split_takes first'.0.1 second'.0 second'.1) two))

pub two_again : (a b : ℕ) (rest : List ℕ) → a < 10 ^ 19 → b < 10 ^ 19 → two_numbers_at (two_text (a, b) rest) ≡ Some ((a, b), rest)
unfolding two_numbers_at
two_again a b rest few_a few_b =
    rw (
      inside_over (decimal a) (before (decimal b) rest) (number_inside a (omega (arith, few_a))),
      inside_over (decimal b) rest (number_inside b (omega (arith, few_b))),
      number_again 19 a (omega arith) (omega arith) few_a,
      number_again 19 b (omega arith) (omega arith) few_b,
    ) refl

abbrev pub coinsurance_text : Version → ℕ → List ℕ → List ℕ
coinsurance_text One n rest = rest
coinsurance_text Two n rest = before (decimal n) rest
coinsurance_text Three n rest = before (decimal n) rest

pub spelled_takes : (bs : List ℕ) (y : ℕ × List ℕ) → (split bs >>= λ x. number_in 19 x.0 >>= λ n. Some (n, x.1)) ≡ Some y
    → bs ≡ before (decimal y.0) y.1
spelled_takes bs y e =
    let x' = bind_some (split bs)
    (λ x. number_in 19 x.0 >>= λ n. Some (n, x.1)) y e in
    let n' = bind_some (number_in 19 x'.0.0)
    (λ n. Some (n, x'.0.1)) y x'.2 in
    let one = (number_takes 19 x'.0.0 n'.0 (omega arith) n'.1).0 in
    subst (λ (z : ℕ × List ℕ). bs ≡ before (decimal z.0) z.1) (some_same n'.2)
    (spelled bs x'.0.0 (decimal n'.0) x'.0.1 (split_takes bs x'.0 x'.1) one)

pub spelled_again : (n : ℕ) (rest : List ℕ) → n < 10 ^ 19
    → coinsurance_at Two (before (decimal n) rest) ≡ Some (n, rest)
spelled_again n rest few =
    rw (inside_over (decimal n) rest (number_inside n (omega (arith, few))), number_again 19 n (omega arith) (omega arith) few) refl

pub coinsurance_takes : (v : Version) (bs : List ℕ) (x : ℕ × List ℕ) → coinsurance_at v bs ≡ Some x
    → (bs ≡ coinsurance_text v x.0 x.1) × PrintsCoinsurance v x.0
coinsurance_takes One bs x e =
    subst (λ (y : ℕ × List ℕ). (bs ≡ y.1) × (y.0 ≡ 0)) (some_same e) (refl, refl)
coinsurance_takes Two bs x e = (spelled_takes bs x e, tt)
coinsurance_takes Three bs x e = (spelled_takes bs x e, tt)

pub coinsurance_again : (v : Version) (n : ℕ) (rest : List ℕ) → PrintsCoinsurance v n → n < 10 ^ 19
    → coinsurance_at v (coinsurance_text v n rest) ≡ Some (n, rest)
coinsurance_again One n rest is few = ap (λ (k : ℕ). Some (k, rest)) (sym is)
coinsurance_again Two n rest is few = spelled_again n rest few
coinsurance_again Three n rest is few = spelled_again n rest few

abbrev pub amounts_text : Version → Amounts → List ℕ → List ℕ
amounts_text v a rest =
    two_text (a.ingredient_cost, a.dispensing_fee) (two_text (a.deductible, a.copay) (coinsurance_text v a.coinsurance rest))

pub amounts_takes : (v : Version) (bs : List ℕ) (x : Amounts × List ℕ) → amounts_at v bs ≡ Some x
    → (bs ≡ amounts_text v x.0 x.1) × PrintsCoinsurance v x.0.coinsurance
unfolding amounts_at
amounts_takes v bs x e =
    let price' = bind_some (two_numbers_at bs)
    (λ price. two_numbers_at price.1 >>= λ share. coinsurance_at v share.1 >>=
    λ rest. Some (
      record {
        ingredient_cost = price.0.0;
        dispensing_fee = price.0.1;
        deductible = share.0.0;
        copay = share.0.1;
        coinsurance = rest.0;
      },
      rest.1,
    )) x e in
    let share' = bind_some (two_numbers_at price'.0.1)
    (λ share. coinsurance_at v share.1 >>= λ rest. Some (
      record {
        ingredient_cost = price'.0.0.0;
        dispensing_fee = price'.0.0.1;
        deductible = share.0.0;
        copay = share.0.1;
        coinsurance = rest.0;
      },
      rest.1,
    )) x price'.2 in
    let rest' = bind_some (coinsurance_at v share'.0.1)
    (λ rest. Some (
      record {
        ingredient_cost = price'.0.0.0;
        dispensing_fee = price'.0.0.1;
        deductible = share'.0.0.0;
        copay = share'.0.0.1;
        coinsurance = rest.0;
      },
      rest.1,
    )) x share'.2 in
    let c = coinsurance_takes v share'.0.1 rest'.0 rest'.1 in
    let text = two_takes bs price'.0 price'.1 ∙ ap (two_text price'.0.0)
    (two_takes price'.0.1 share'.0 share'.1 ∙ ap (two_text share'.0.0) c.0) in
    subst (λ (y : Amounts × List ℕ). (bs ≡ amounts_text v y.0 y.1) × PrintsCoinsurance v y.0.coinsurance)
    (some_same rest'.2) (text, c.1)

pub amounts_again : (v : Version) (a : Amounts) (rest : List ℕ) → PrintsCoinsurance v a.coinsurance → IsPriced a
    → amounts_at v (amounts_text v a rest) ≡ Some (a, rest)
unfolding amounts_at
amounts_again v a rest prints priced =
    let parts = and_parts (leb (allowed a) 99_999_999) (leb (patient_pay a) (allowed a)) priced in
    let all = leb-true (allowed a) 99_999_999 parts.0 in
    let less = leb-true (patient_pay a) (allowed a) parts.1 in
    let after = coinsurance_text v a.coinsurance rest in
    rw (
      two_again a.ingredient_cost a.dispensing_fee (two_text (a.deductible, a.copay) after) (omega (arith, all)) (omega (arith, all)),
      two_again a.deductible a.copay after (omega (arith, all, less)) (omega (arith, all, less)),
      coinsurance_again v a.coinsurance rest prints (omega (arith, all, less)),
    ) refl
