-- Drugs that are added in ascending order go in one after another, each after those before it.
use Rattle.std.proofs.Common.{◌≡◌, ℕ, ◌+◌, ◌<◌, List, [], ◌∷◌, ◌++◌, take, drop, get_or, length}
use Rattle.std.proofs.Common.{Option, Some, None, Ok, true, false, ◌&&◌, refl, sym, ap, ◌∙◌}
use Rattle.std.proofs.lemmas.Bool.{and_parts}
use Rattle.std.proofs.lemmas.List.{drop_more, take_more}
use Rattle.std.proofs.lemmas.List.Folds.{list_all-append}
use Rattle.std.proofs.Common.{take-append-drop, subst}
use Rattle.std.specs.Option.{is_some}
use Rattle.std.specs.Ordering.{is_lt, nat_cmp}
use Rattle.std.specs.declared.cmp.Ordering.TheVariants.{Less}
use Rattle.rx_ledger.specs.Plan.{Plan, are_drugs, is_drug, listed_product, lists, with_drug}
use Rattle.rx_ledger.specs.Planned.{planned}
use Rattle.rx_ledger.specs.declared.figures.Figures.{Figures}
use Rattle.rx_ledger.specs.declared.sheet_key.SheetKey.{SheetKey}
use Rattle.rx_ledger.specs.declared.sheet.Listed.{Listed}
use Rattle.rx_sorted.specs.Ascending.{IsAscending, IsBelow, is_past, item_at}
use Rattle.rx_sorted.proofs.Edits.{put-past}
use Rattle.rx_sorted.proofs.Keys.{Less-from_is_lt}
use Rattle.rx_sorted.proofs.KeyOrders.{number_total}
use Rattle.rx_sheet.specs.Drugs.{AreListed}
use Rattle.rx_sheet.specs.SheetText.{plan_of}

below_later : (k : ℕ) (done : List Listed) (x : Listed) (rest : List Listed)
    → IsBelow nat_cmp listed_product k (done ++ x ∷ rest) → nat_cmp k x.product ≡ Less
below_later k [] x rest h = h.0
below_later k (d ∷ done) x rest h = below_later k done x rest h.1

-- in an ascending list, an item is past those before it
pub past_before : (done : List Listed) (x : Listed) (rest : List Listed)
    → IsAscending nat_cmp listed_product (done ++ x ∷ rest) → is_past nat_cmp listed_product done x.product ≡ true
past_before [] x rest h = refl
past_before (d ∷ done) x rest h = rw (below_later d.product done x rest h.0, past_before done x rest h.1) refl

-- a list has no item of a key that is past it
pub item_at-past : (done : List Listed) (k : ℕ) → is_past nat_cmp listed_product done k ≡ true
    → item_at nat_cmp listed_product done k ≡ None
item_at-past [] k h = refl
item_at-past (d ∷ done) k h =
    let parts = and_parts (is_lt (nat_cmp d.product k)) (is_past nat_cmp listed_product done k) h in
    rw (Less-from_is_lt _ parts.0) (item_at-past done k parts.1)

-- ---- the plan with the first drugs

pub made_from : (o : Option SheetKey) (figures : Figures) (plan : Plan) → o ≡ None → Ok plan ≡ planned figures o
    → plan ≡ plan_of figures []
made_from None figures plan none h =
    let same : Ok plan ≡ Ok (plan_of figures []) = h in cc
made_from (Some key) figures plan none h = absurd (let bad : Some key ≡ None = none in cc)

-- the drugs are the first of them, the next, and the others
split_at : (drugs : List Listed) (i : ℕ) (x : Listed) → i < length drugs → get_or drugs i x ≡ x
    → take i drugs ++ x ∷ drop (i + 1) drugs ≡ drugs
split_at drugs i x within is =
    let behind : drop i drugs ≡ x ∷ drop (i + 1) drugs =
    drop_more drugs i x within ∙ ap (λ y. y ∷ drop (i + 1) drugs) is in
    rw (← behind) (take-append-drop i drugs)

module _ (drugs : List Listed) (i : ℕ) (x : Listed) (within : i < length drugs) (is : get_or drugs i x ≡ x) (listed : AreListed drugs) where
  parted : AreListed (take i drugs ++ x ∷ drop (i + 1) drugs)
  parted = subst AreListed (sym (split_at drugs i x within is)) listed

  past : is_past nat_cmp listed_product (take i drugs) x.product ≡ true
  past = past_before (take i drugs) x (drop (i + 1) drugs) parted.ascending

  -- the next drug is within its ranges
  pub next_fits : is_drug x.drug ≡ true
  next_fits =
      let both : (are_drugs (take i drugs) && are_drugs (x ∷ drop (i + 1) drugs)) ≡ true =
      sym (list_all-append (λ (l : Listed). is_drug l.drug) (take i drugs) (x ∷ drop (i + 1) drugs)) ∙ parted.fit in
      let later = and_parts (are_drugs (take i drugs)) (are_drugs (x ∷ drop (i + 1) drugs)) both in
      let here = and_parts (is_drug x.drug) (are_drugs (drop (i + 1) drugs)) later.1 in
      here.0

  -- no drug before it has its product
  pub next_is_new : (figures : Figures) → lists (plan_of figures (take i drugs)) x.product ≡ false
  next_is_new figures = ap is_some (item_at-past (take i drugs) x.product past)

  -- it goes after the others
  pub next_added : (figures : Figures)
      → with_drug (plan_of figures (take i drugs)) x.product x.drug ≡ plan_of figures (take (i + 1) drugs)
  next_added figures = ap (plan_of figures)
      (put-past nat_cmp number_total listed_product (take i drugs) x past
      ∙ sym (take_more drugs i x within ∙ ap (λ y. take i drugs ++ y ∷ []) is))
