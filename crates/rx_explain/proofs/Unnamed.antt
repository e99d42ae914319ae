-- What a pharmacy may see of explanations that differ only in names, products, prescriptions and pharmacies of others' claims.
use Rattle.std.proofs.Common.{◌≡◌, ℕ, Bool, true, false, List, [], ◌∷◌, ◌++◌, Option, Some, None, get_or, map}
use Rattle.std.proofs.Common.{refl, ap, sym, subst, ◌∙◌, inl, inr, arith}
use Rattle.std.specs.List.{filter}
use Rattle.std.specs.List.Sorted.{IsPermutation}
use Rattle.std.proofs.lemmas.Bool.{cases_Bool}
use Rattle.std.proofs.lemmas.List.Sorted.{IsPermutation-map, IsPermutation-sym, IsPermutation-trans, sum_by-IsPermutation}
use Rattle.rx_d0_values.specs.declared.bill.BillParts.{BillParts}
use Rattle.rx_d0_values.specs.declared.transaction.Transaction.{Transaction}
use Rattle.rx_d0_values.specs.declared.transaction.Transaction.TheVariants.{Bill, Reverse, Faulty}
use Rattle.rx_fields.specs.Calendar.{Civil}
use Rattle.rx_d0_values.specs.declared.pricing.Amounts.{Amounts}
use Rattle.rx_sorted.specs.Orders.{text_cmp}
use Rattle.rx_sorted.proofs.KeyOrders.{text_exact, text_total}
use Rattle.rx_explain.specs.declared.explanation.Explanation.{Explanation}
use Rattle.rx_explain.specs.declared.traced.Source.TheVariants.{Elsewhere}
use Rattle.rx_explain.specs.declared.traced.Traced.{Traced}
use Rattle.rx_explain.specs.Seen.{AreAlike, AreAlikeOf, AreSeen, AreSeenOf, IsAlike, IsDeciderAlike, IsSameSaid, IsSeen}
use Rattle.rx_explain.specs.Seen.{is_of, is_own, is_person, masked, person_if, seen_claim, seen_standing, visible}
use Rattle.rx_explain.specs.Shown.{flag_if}
use Rattle.rx_explain.proofs.InOrder.{one_if, one_list, rises}

-- ---- one claim

date_same : (c d : Civil) → c.year ≡ d.year → c.month ≡ d.month → c.day ≡ d.day → c ≡ d
date_same c d year month day = λ i. record { year = year i; month = month i; day = day i }

amounts_same : (a b : Amounts) → a.ingredient_cost ≡ b.ingredient_cost → a.dispensing_fee ≡ b.dispensing_fee
    → a.deductible ≡ b.deductible → a.copay ≡ b.copay → a.coinsurance ≡ b.coinsurance → a ≡ b
amounts_same a b cost fee deductible copay coinsurance =
    λ i. record {
      ingredient_cost = cost i;
      dispensing_fee = fee i;
      deductible = deductible i;
      copay = copay i;
      coinsurance = coinsurance i;
    }

flag_same : (s t : Bool) → flag_if s ≡ flag_if t → s ≡ t
flag_same true true same = refl
flag_same true false same = absurd (let e : 0 ≡ 1 = same in omega arith)
flag_same false true same = absurd (let e : 1 ≡ 0 = same in omega arith)
flag_same false false same = refl

abbrev nth : ℕ → List ℕ → ℕ
nth n xs = get_or xs n 0

module _ (x y : Explanation) (b : BillParts) (provider : x.provider ≡ y.provider) (number : x.number ≡ y.number) where
  masked_same : (t u : Traced) → visible b t ≡ visible b u → masked x b t ≡ masked y b u
  masked_same t u same =
      let date : t.row.key.date ≡ u.row.key.date =
      date_same t.row.key.date u.row.key.date (ap (nth 0) same) (ap (nth 1) same) (ap (nth 2) same) in
      let person : is_person b t ≡ is_person b u = flag_same (is_person b t) (is_person b u) (ap (nth 3) same) in
      let amounts : t.row.pricing ≡ u.row.pricing =
      amounts_same t.row.pricing u.row.pricing (ap (nth 4) same) (ap (nth 5) same) (ap (nth 6) same) (ap (nth 7) same)
      (ap (nth 8) same) in
      λ i. record {
        row = record {
          key = record { provider = provider i; reference = b.reference; date = date i };
          family = b.family;
          person = person_if b.person (person i);
          days = b.days;
          pricing = amounts i;
          product = b.product;
          quantity = b.quantity;
          number = number i;
        };
        source = Elsewhere;
        taken_back = None;
      }

  each_masked : (ts us : List Traced) → map (visible b) ts ≡ map (visible b) us → map (masked x b) ts ≡ map (masked y b) us
  each_masked [] [] same = refl
  each_masked [] (u ∷ us) same = absurd (let e : [] ≡ visible b u ∷ map (visible b) us = same in cc)
  each_masked (t ∷ ts) [] same = absurd (let e : visible b t ∷ map (visible b) ts ≡ [] = same in cc)
  each_masked (t ∷ ts) (u ∷ us) same =
      let first : visible b t ≡ visible b u = cc in
      let rest : map (visible b) ts ≡ map (visible b) us = cc in
      ap (λ z. z ∷ map (masked x b) ts) (masked_same t u first) ∙ ap (λ zs. masked y b u ∷ zs) (each_masked ts us rest)

  -- ---- the claims that are counted

  shown_same : (ts us vs ws : List Traced) → AreAlikeOf x.provider b ts us → AreSeenOf x b ts vs → AreSeenOf y b us ws → vs ≡ ws
  shown_same ts us vs ws alike seen too =
      let others : List Traced = filter (is_of false x.provider) ts in
      let here : IsPermutation (map (visible b) others) (map (visible b) seen.others) =
      IsPermutation-map (visible b) others seen.others seen.moved in
      let there : IsPermutation (map (visible b) (filter (is_of false x.provider) us)) (map (visible b) too.others) =
      subst (λ p. IsPermutation (map (visible b) (filter (is_of false p) us)) (map (visible b) too.others)) (sym provider)
      (IsPermutation-map (visible b) (filter (is_of false y.provider) us) too.others too.moved) in
      let all : IsPermutation (map (visible b) seen.others) (map (visible b) too.others) =
      IsPermutation-trans _ _ _ (IsPermutation-sym _ _ here) (IsPermutation-trans _ _ _ alike.others_are there) in
      let same : map (visible b) seen.others ≡ map (visible b) too.others =
      one_list text_cmp text_total text_exact (map (visible b) seen.others) (map (visible b) too.others)
      (rises text_cmp text_total (visible b) seen.others seen.rise) (rises text_cmp text_total (visible b) too.others too.rise)
      (λ k. sym (sum_by-IsPermutation (one_if text_cmp k) (map (visible b) seen.others) (map (visible b) too.others) all)) in
      let own : filter (is_of true x.provider) ts ≡ filter (is_of true y.provider) us =
      alike.own_are ∙ ap (λ p. filter (is_of true p) us) provider in
      seen.shown_are ∙ ap (λ zs. zs ++ map (masked x b) seen.others) own
      ∙ ap (λ zs. filter (is_of true y.provider) us ++ zs) (each_masked seen.others too.others same) ∙ sym too.shown_are

  -- ---- the claim that decided

  claim_same : (t u : Traced) → IsDeciderAlike x.provider (Bill b) (Some t) (Some u) → seen_claim x b t ≡ seen_claim y b u
  claim_same t u (inl same) = elim (cases_Bool (is_own x.provider t)) [
    | inl own ↦
        let too : is_own y.provider u ≡ true = sym (ap (λ p. is_own p u) provider) ∙ sym (ap (is_own x.provider) same) ∙ own in
        rw (own, too) same
    | inr not ↦
        let too : is_own y.provider u ≡ false = sym (ap (λ p. is_own p u) provider) ∙ sym (ap (is_own x.provider) same) ∙ not in
        rw (not, too) (masked_same t u (ap (visible b) same))
  ]
  claim_same t u (inr alike) =
      let too : is_own y.provider u ≡ false = sym (ap (λ p. is_own p u) provider) ∙ alike.1 in
      rw (alike.0, too) (masked_same t u alike.2)

-- ---- an explanation

standing_same : (x y : Explanation) (t : Transaction) (a b : Option Traced) → x.provider ≡ y.provider → x.number ≡ y.number
    → IsDeciderAlike x.provider t a b → seen_standing x t a ≡ seen_standing y t b
standing_same x y (Bill b) None None provider number same = refl
standing_same x y (Bill b) None (Some u) provider number same = absurd (let e : None ≡ Some u = same in cc)
standing_same x y (Bill b) (Some t) None provider number same = absurd (let e : Some t ≡ None = same in cc)
standing_same x y (Bill b) (Some t) (Some u) provider number alike = ap Some (claim_same x y b provider number t u alike)
standing_same x y (Reverse v) a b provider number same = same
standing_same x y (Faulty f) a b provider number same = same

counted_same : (x y : Explanation) (t : Transaction) (ts us vs ws : List Traced) → x.provider ≡ y.provider → x.number ≡ y.number
    → AreAlike x.provider t ts us → AreSeen x t ts vs → AreSeen y t us ws → vs ≡ ws
counted_same x y (Bill b) ts us vs ws provider number alike seen too = shown_same x y b provider number ts us vs ws alike seen too
counted_same x y (Reverse v) ts us vs ws provider number alike seen too = seen ∙ sym too
counted_same x y (Faulty f) ts us vs ws provider number alike seen too = seen ∙ sym too

pub unnamed : (x y u v : Explanation) → IsAlike x y → IsSeen x u → IsSeen y v → IsSameSaid u v
unnamed x y u v alike seen too =
    record {
      at_is = seen.at_is ∙ alike.at_is ∙ sym too.at_is;
      provider_is = seen.provider_is ∙ alike.provider_is ∙ sym too.provider_is;
      date_is = seen.date_is ∙ alike.date_is ∙ sym too.date_is;
      number_is = seen.number_is ∙ alike.number_is ∙ sym too.number_is;
      transaction_is = seen.transaction_is ∙ alike.transaction_is ∙ sym too.transaction_is;
      decision_is = seen.decision_is ∙ alike.decision_is ∙ sym too.decision_is;
      answer_is = seen.answer_is ∙ alike.answer_is ∙ sym too.answer_is;
      standing_is =
          seen.standing_is
          ∙ standing_same x y x.transaction x.standing y.standing alike.provider_is alike.number_is alike.standing_is
          ∙ ap (λ t. seen_standing y t y.standing) alike.transaction_is ∙ sym too.standing_is;
      open_from_is = seen.open_from_is ∙ alike.open_from_is ∙ sym too.open_from_is;
      workings_are = seen.workings_are ∙ alike.workings_are ∙ sym too.workings_are;
      counted_are =
          counted_same x y x.transaction x.counted.items y.counted.items u.counted.items v.counted.items alike.provider_is
          alike.number_is alike.counted_are seen.counted_are
          (subst (λ t. AreSeen y t y.counted.items v.counted.items) (sym alike.transaction_is) too.counted_are);
    }
