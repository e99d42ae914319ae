-- A header that is written is read field by field.
use Rattle.std.proofs.Common.{◌≡◌, ℕ, zero, suc, ◌+◌, ◌-◌, ◌<◌, ◌≤◌, ◌^◌, true}
use Rattle.std.proofs.Common.{List, [], ◌∷◌, ◌++◌, codes, length, take, drop, get_or, slice_range, replicate}
use Rattle.std.proofs.Common.{length-append, pos, Some, refl, sym, ap, subst, ◌∙◌, arith}
use Rattle.std.specs.List.{list_all}
use Rattle.std.specs.Result.{result_ok}
use Rattle.std.proofs.Math.Seq.{drop-append-add}
use Rattle.std.proofs.lemmas.Bool.{and_parts, leb-true, ltb-true}
use Rattle.std.proofs.lemmas.Bool.Decides.{nat_tests}
use Rattle.std.proofs.lemmas.List.{append-nil, drop_at, get_or-drop, length-replicate, take_at}
use Rattle.std.proofs.lemmas.List.Folds.{list_all-append}
use Rattle.jiff_core.specs.Calendar.{days_in_month}
use Rattle.jiff_core.proofs.CalendarLemmas.{days_in_month_bounds}
use Rattle.rx_fields.specs.Calendar.{Civil, IsCivil, civil_of, date_text, is_civil}
use Rattle.rx_text.specs.Bytes.{all_digits, is_digit, is_printable}
use Rattle.rx_fields.specs.Digits.{digits_text}
use Rattle.rx_fields.specs.Text.{IsId, id_of, trimmed}
use Rattle.rx_fields.proofs.DigitLaws.{digits_text-all, digits_text-number, length-digits_text}
use Rattle.rx_fields.proofs.IdLaws.{id_again, id_printable}
use Rattle.rx_d0_request.specs.declared.header.Header.{Header}
use Rattle.rx_d0_request.specs.Headers.{header_bytes, header_of, is_clean}
use Rattle.rx_d0_request.specs.Values.{date_in, provider_in}
use Rattle.rx_d0_request.specs.Written.{provider_text}

-- ---- fields of known lengths

-- a place after a field of known length
skip : (a x : List ℕ) (n k m : ℕ) → length a ≡ n → n + k ≡ m → drop m (a ++ x) ≡ drop k x
skip a x n k m len is = rw (← is, ← len) (drop-append-add a x k)

module _ (bin code pcn qualifier provider date vendor : List ℕ) (count : ℕ) where
  abbrev pub front : List ℕ
  front = bin ++ 68 ∷ 48 ∷ (code ++ (pcn ++ count ∷ (qualifier ++ (provider ++ (date ++ vendor)))))

  abbrev pub header_made : Header
  header_made =
      record {
        bin = bin;
        version = codes "D0";
        code = code;
        pcn = pcn;
        count = count;
        qualifier = qualifier;
        provider = provider;
        date = date;
      }

  module _ (b : length bin ≡ 6) (c : length code ≡ 2) (p : length pcn ≡ 10) (q : length qualifier ≡ 2)
      (r : length provider ≡ 15) (d : length date ≡ 8) (v : length vendor ≡ 10) where
    pub front_length : length front ≡ 56
    front_length =
        omega (
          arith,
          length-append bin (68 ∷ 48 ∷ (code ++ (pcn ++ count ∷ (qualifier ++ (provider ++ (date ++ vendor)))))),
          length-append code (pcn ++ count ∷ (qualifier ++ (provider ++ (date ++ vendor)))),
          length-append pcn (count ∷ (qualifier ++ (provider ++ (date ++ vendor)))),
          length-append qualifier (provider ++ (date ++ vendor)),
          length-append provider (date ++ vendor),
          length-append date vendor,
        )

    from_version : drop 6 front ≡ 68 ∷ 48 ∷ (code ++ (pcn ++ count ∷ (qualifier ++ (provider ++ (date ++ vendor)))))
    from_version = drop_at bin _ 6 b

    from_code : drop 8 front ≡ code ++ (pcn ++ count ∷ (qualifier ++ (provider ++ (date ++ vendor))))
    from_code = skip bin _ 6 2 8 b refl

    from_pcn : drop 10 front ≡ pcn ++ count ∷ (qualifier ++ (provider ++ (date ++ vendor)))
    from_pcn = skip bin _ 6 4 10 b refl ∙ drop_at code _ 2 c

    from_count : drop 20 front ≡ count ∷ (qualifier ++ (provider ++ (date ++ vendor)))
    from_count = skip bin _ 6 14 20 b refl ∙ skip code _ 2 10 12 c refl ∙ drop_at pcn _ 10 p

    from_qualifier : drop 21 front ≡ qualifier ++ (provider ++ (date ++ vendor))
    from_qualifier = skip bin _ 6 15 21 b refl ∙ skip code _ 2 11 13 c refl ∙ skip pcn _ 10 1 11 p refl

    from_provider : drop 23 front ≡ provider ++ (date ++ vendor)
    from_provider = skip bin _ 6 17 23 b refl ∙ skip code _ 2 13 15 c refl ∙ skip pcn _ 10 3 13 p refl
        ∙ drop_at qualifier _ 2 q

    from_date : drop 38 front ≡ date ++ vendor
    from_date = skip bin _ 6 32 38 b refl ∙ skip code _ 2 28 30 c refl ∙ skip pcn _ 10 18 28 p refl
        ∙ skip qualifier _ 2 15 17 q refl ∙ drop_at provider _ 15 r

    the_bin : slice_range front 0 6 ≡ bin
    the_bin = take_at bin _ 6 b

    the_version : slice_range front 6 8 ≡ codes "D0"
    the_version = ap (take 2) from_version

    the_code : slice_range front 8 10 ≡ code
    the_code = ap (take 2) from_code ∙ take_at code _ 2 c

    the_pcn : slice_range front 10 20 ≡ pcn
    the_pcn = ap (take 10) from_pcn ∙ take_at pcn _ 10 p

    the_count : get_or front 20 0 ≡ count
    the_count = sym (get_or-drop 20 front 0 0) ∙ ap (λ (bs : List ℕ). get_or bs 0 0) from_count

    the_qualifier : slice_range front 21 23 ≡ qualifier
    the_qualifier = ap (take 2) from_qualifier ∙ take_at qualifier _ 2 q

    the_provider : slice_range front 23 38 ≡ provider
    the_provider = ap (take 15) from_provider ∙ take_at provider _ 15 r

    the_date : slice_range front 38 46 ≡ date
    the_date = ap (take 8) from_date ∙ take_at date _ 8 d

    fields_read : header_of front ≡ header_made
    unfolding header_of
    fields_read = λ i. record {
      bin = the_bin i;
      version = the_version i;
      code = the_code i;
      pcn = the_pcn i;
      count = the_count i;
      qualifier = the_qualifier i;
      provider = the_provider i;
      date = the_date i;
    }

    front_read : (rest : List ℕ) → header_bytes (front ++ rest) ≡ front
    unfolding header_bytes
    front_read rest =
        let none : 56 - length (front ++ rest) ≡ 0 = omega (arith, length-append front rest, front_length) in
        ap (λ (n : ℕ). take 56 (front ++ rest) ++ replicate n 32) none
        ∙ append-nil (take 56 (front ++ rest)) ∙ take_at front rest 56 front_length

    pub header_back : (rest : List ℕ) → header_of (header_bytes (front ++ rest)) ≡ header_made
    header_back rest = ap header_of (front_read rest) ∙ fields_read

    pub clean_back : (rest : List ℕ) → list_all is_printable front ≡ true → is_clean (front ++ rest) ≡ true
    unfolding is_clean
    clean_back rest printable =
        let long : length (front ++ rest) ≡ 56 + length rest = omega (arith, length-append front rest, front_length) in
        rw (front_read rest, printable, long) (grind (arith, nat_tests))

-- ---- the pharmacy

trimmed_blanks : (n : ℕ) → trimmed (replicate n 32) ≡ []
trimmed_blanks zero = refl
trimmed_blanks (suc n) = rw (trimmed_blanks n) refl

-- blanks after a text are trimmed off
trimmed_filled : (bs : List ℕ) (n : ℕ) → trimmed (bs ++ replicate n 32) ≡ trimmed bs
trimmed_filled [] n = trimmed_blanks n
trimmed_filled (b ∷ bs) n = rw (trimmed_filled bs n) refl

pub provider_back : (id : List ℕ) → IsId 15 id → provider_in (provider_text id) ≡ Some id
provider_back id is =
    let same : trimmed (provider_text id) ≡ trimmed id = trimmed_filled id (15 - length id) in
    let read : id_of 15 (provider_text id) ≡ id_of 15 id = rw same refl in
    ap result_ok (read ∙ is)

pub provider_length : (id : List ℕ) → IsId 15 id → length (provider_text id) ≡ 15
provider_length id is =
    let few : length id ≤ 15 = (id_again 15 15 id id (omega arith) is).0 in
    omega (arith, length-append id (replicate (15 - length id) 32), length-replicate {A = ℕ} (15 - length id) 32)

blanks_printable : (n : ℕ) → list_all is_printable (replicate n 32) ≡ true
blanks_printable zero = refl
blanks_printable (suc n) = blanks_printable n

pub provider_printable : (id : List ℕ) → IsId 15 id → list_all is_printable (provider_text id) ≡ true
provider_printable id is =
    rw (
      list_all-append is_printable id (replicate (15 - length id) 32),
      id_printable 15 id id is,
      blanks_printable (15 - length id),
    ) refl

-- ---- the date

pub date_length : (c : Civil) → length (date_text c) ≡ 8
unfolding date_text
date_length c =
    omega (
      arith,
      length-append (digits_text 4 c.year) (digits_text 2 c.month ++ digits_text 2 c.day),
      length-append (digits_text 2 c.month) (digits_text 2 c.day),
      length-digits_text 4 c.year,
      length-digits_text 2 c.month,
      length-digits_text 2 c.day,
    )

date_digits : (c : Civil) → all_digits (date_text c) ≡ true
unfolding date_text
date_digits c =
    rw (
      list_all-append is_digit (digits_text 4 c.year) (digits_text 2 c.month ++ digits_text 2 c.day),
      list_all-append is_digit (digits_text 2 c.month) (digits_text 2 c.day),
      digits_text-all 4 c.year,
      digits_text-all 2 c.month,
      digits_text-all 2 c.day,
    ) refl

civil_again : (c : Civil) → c.year < 10 ^ 4 → c.month < 10 ^ 2 → c.day < 10 ^ 2 → civil_of (date_text c) ≡ c
unfolding date_text digits_text
civil_again c year month day = λ j. record {
  year = digits_text-number 4 c.year year j;
  month = digits_text-number 2 c.month month j;
  day = digits_text-number 2 c.day day j;
}

small_civil : (c : Civil) → IsCivil c → (c.year < 10 ^ 4) × ((c.month < 10 ^ 2) × (c.day < 10 ^ 2))
small_civil c civil =
    let day = and_parts _ _ civil in
    let one = and_parts _ _ day.0 in
    let month = and_parts _ _ one.0 in
    let first = and_parts _ _ month.0 in
    let few = (days_in_month_bounds (pos c.year) c.month).0 in
    let last : c.day ≤ days_in_month (pos c.year) c.month = leb-true _ _ day.1 in
    let months : c.month ≤ 12 = leb-true _ _ month.1 in
    let years : c.year < 10_000 = ltb-true _ _ first.0 in
    (years, (omega (arith, months), omega (arith, few, last)))

pub date_back : (c : Civil) → IsCivil c → date_in (date_text c) ≡ Some c
date_back c civil =
    let small = small_civil c civil in
    let parts = civil_again c small.0 small.1.0 small.1.1 in
    let there : is_civil (civil_of (date_text c)) ≡ true = subst IsCivil (sym parts) civil in
    rw (date_length c, date_digits c, there) (ap Some parts)

-- digits are printable
pub digits_printable : (bs : List ℕ) → all_digits bs ≡ true → list_all is_printable bs ≡ true
digits_printable [] is = refl
digits_printable (b ∷ bs) is =
    let here = and_parts (is_digit b) (all_digits bs) is in
    let low : 48 ≤ b = leb-true 48 b (and_parts _ _ here.0).0 in
    let high : b ≤ 57 = leb-true b 57 (and_parts _ _ here.0).1 in
    let printable : is_printable b ≡ true = grind (arith, nat_tests, low, high) in
    rw printable (digits_printable bs here.1)

pub date_printable : (c : Civil) → list_all is_printable (date_text c) ≡ true
date_printable c = digits_printable (date_text c) (date_digits c)
