-- A text is read as a sheet exactly where its keys say that sheet.
use Rattle.std.proofs.Common.{◌≡◌, ℕ, true, List, [], ◌∷◌, Option, Some, None, Result, Ok, Err, refl, sym, subst, ◌∙◌, inl, inr}
use Rattle.std.specs.Prelude.{◌⊎◌}
use Rattle.std.specs.Str.{is_utf8}
use Rattle.std.proofs.lemmas.Bool.{cases_Bool}
use Rattle.toml.specs.Data.{Data, Members, no_members, member, get_member, as_table}
use Rattle.toml.specs.Parse.{parse_document}
use Rattle.rx_fields.specs.Numbered.{Span, product_of}
use Rattle.rx_fields.specs.declared.door.Door.{Door}
use Rattle.rx_ledger.specs.Plan.{Plan}
use Rattle.rx_ledger.specs.declared.figures.Figures.{Figures}
use Rattle.rx_ledger.specs.declared.sheet.Listed.{Listed}
use Rattle.rx_ledger.specs.declared.sheet_key.SheetKey.{SheetKey}
use Rattle.rx_ledger.specs.declared.sheet_key.SheetKey.TheVariants as key
use Rattle.rx_sheet.specs.declared.fault.SheetFault.{SheetFault}
use Rattle.rx_sheet.specs.declared.fault.SheetFault.TheVariants as fault
use Rattle.rx_sheet.specs.Drugs.{ascending, drug_in, drugs_in, drugs_of, listed_in, share_of, tiers_in}
use Rattle.rx_sheet.specs.Figures.{door_in, family_deductible_in, figures_in, period_from, period_in}
use Rattle.rx_sheet.specs.Names.{name_of}
use Rattle.rx_sheet.specs.Said.{Fails, FailsDoor, FailsDrug, FailsDrugs, FailsEach, FailsFigures, FailsPeriod, HasFault, IsSheetText}
use Rattle.rx_sheet.specs.Said.{Says, SaysDoor, SaysDrug, SaysDrugs, SaysEach, SaysFigures, SaysIfThere, SaysPeriod}
use Rattle.rx_sheet.specs.Said.Fails.{missing, wrong}
use Rattle.rx_sheet.specs.Said.FailsDoor.{bin_fails, pcn_fails}
use Rattle.rx_sheet.specs.Said.FailsPeriod.{first_fails, last_fails}
use Rattle.rx_sheet.specs.Said.FailsFigures.{door_fails, period_fails, member_deductible_fails, family_maximum_fails}
use Rattle.rx_sheet.specs.Said.FailsFigures.{refill_percent_fails, max_days_fails, fee_fails}
use Rattle.rx_sheet.specs.Said.FailsDrug.{no_product, no_table, tier_fails, price_fails}
use Rattle.rx_sheet.specs.Said.FailsEach.{here, later}
use Rattle.rx_sheet.specs.Said.FailsDrugs.{tiers_fail, drugs_fail, each_fails}
use Rattle.rx_sheet.specs.Said.HasFault.{no_text, no_document, figures_fault, drugs_fault, family_deductible_fault}
use Rattle.rx_sheet.specs.Said.SaysEach.{none, more}
use Rattle.rx_sheet.specs.SheetText.{plan_of, sheet_in, sheet_of_text, tree_of}
use Rattle.rx_sheet.specs.Values.{bin, day, number, pcn, read_at}

-- it has a fault, by these rules
abbrev Failed : (SheetFault → Type 0) → Type 0
Failed Fault = (f : SheetFault) × Fault f

-- ---- one key

said : {A : Type 0} {k : SheetKey} {read : Data → Option A} {t : Members} {x : A} → Says k read t x
    → read_at k read t ≡ Ok x
said s = rw (s.there, s.says) refl

failed : {A : Type 0} {k : SheetKey} {read : Data → Option A} {t : Members} {f : SheetFault} → Fails k read t f
    → read_at k read t ≡ Err f
failed (missing away) = rw away refl
failed (wrong v there is) = rw (there, is) refl

asked : {A : Type 0} (k : SheetKey) (read : Data → Option A) (t : Members)
    → ((x : A) × Says k read t x) ⊎ Failed (Fails k read t)
asked {A} k read t = by_value (get_member (name_of k) t) refl
  where
    by_read : (v : Data) → get_member (name_of k) t ≡ Some v → (o : Option A) → read v ≡ o
        → ((x : A) × Says k read t x) ⊎ Failed (Fails k read t)
    by_read v there None is = inr (fault.Wrong k, wrong v there is)
    by_read v there (Some x) is = inl (x, record { value = v; there = there; says = is })

    by_value : (o : Option Data) → get_member (name_of k) t ≡ o
        → ((x : A) × Says k read t x) ⊎ Failed (Fails k read t)
    by_value None away = inr (fault.Missing k, missing away)
    by_value (Some v) there = by_read v there (read v) refl

-- ---- keys 1 to 9

door_said : {t : Members} {d : Door} → SaysDoor t d → door_in t ≡ Ok d
unfolding door_in
door_said s = rw (said s.bin_is, said s.pcn_is) refl

door_failed : {t : Members} {f : SheetFault} → FailsDoor t f → door_in t ≡ Err f
unfolding door_in
door_failed (bin_fails h) = rw (failed h) refl
door_failed (pcn_fails b s h) = rw (said s, failed h) refl

door_asked : (t : Members) → ((d : Door) × SaysDoor t d) ⊎ Failed (FailsDoor t)
door_asked t = elim (asked key.Bin bin t) [
  | inr r ↦ inr (r.0, bin_fails r.1)
  | inl b ↦ elim (asked key.Pcn pcn t) [
    | inr r ↦ inr (r.0, pcn_fails b.0 b.1 r.1)
    | inl p ↦ inl (record { bin = b.0; pcn = p.0 }, record { bin_is = b.1; pcn_is = p.1 })
  ]
]

period_said : {t : Members} {p : Span} → SaysPeriod t p → period_in t ≡ Ok p
unfolding period_in
period_said s = rw (said s.first_is, said s.last_is) refl

period_failed : {t : Members} {f : SheetFault} → FailsPeriod t f → period_in t ≡ Err f
unfolding period_in
period_failed (first_fails h) = rw (failed h) refl
period_failed (last_fails first s h) = rw (said s, failed h) refl

period_asked : (t : Members) → ((p : Span) × SaysPeriod t p) ⊎ Failed (FailsPeriod t)
period_asked t = elim (asked key.PeriodFirst day t) [
  | inr r ↦ inr (r.0, first_fails r.1)
  | inl first ↦ elim (asked key.PeriodLast (period_from first.0) t) [
    | inr r ↦ inr (r.0, last_fails first.0 first.1 r.1)
    | inl p ↦ inl (p.0, record { first = first.0; first_is = first.1; last_is = p.1 })
  ]
]

-- the figures without the family's deductible
abbrev without : Figures → Figures
without f = record f { family_deductible = None }

figures_said : {t : Members} {f : Figures} → SaysFigures t f → figures_in t ≡ Ok (without f)
unfolding figures_in
figures_said s =
    rw (
      door_said s.door_is,
      period_said s.period_is,
      said s.member_deductible_is,
      said s.family_maximum_is,
      said s.refill_percent_is,
      said s.max_days_is,
      said s.fee_is,
    ) refl

figures_failed : {t : Members} {f : SheetFault} → FailsFigures t f → figures_in t ≡ Err f
unfolding figures_in
figures_failed (door_fails h) = rw (door_failed h) refl
figures_failed (period_fails d sd h) = rw (door_said sd, period_failed h) refl
figures_failed (member_deductible_fails d p sd sp h) = rw (door_said sd, period_said sp, failed h) refl
figures_failed (family_maximum_fails d p m sd sp sm h) = rw (door_said sd, period_said sp, said sm, failed h) refl
figures_failed (refill_percent_fails d p m y sd sp sm sy h) =
    rw (door_said sd, period_said sp, said sm, said sy, failed h) refl
figures_failed (max_days_fails d p m y r sd sp sm sy sr h) =
    rw (door_said sd, period_said sp, said sm, said sy, said sr, failed h) refl
figures_failed (fee_fails d p m y r x sd sp sm sy sr sx h) =
    rw (door_said sd, period_said sp, said sm, said sy, said sr, said sx, failed h) refl

figures_asked : (t : Members) → ((f : Figures) × SaysFigures t f) ⊎ Failed (FailsFigures t)
figures_asked t = elim (door_asked t) [
  | inr r ↦ inr (r.0, door_fails r.1)
  | inl d ↦ elim (period_asked t) [
    | inr r ↦ inr (r.0, period_fails d.0 d.1 r.1)
    | inl p ↦ elim (asked key.MemberDeductible (number 0 99_999_999_999) t) [
      | inr r ↦ inr (r.0, member_deductible_fails d.0 p.0 d.1 p.1 r.1)
      | inl m ↦ elim (asked key.FamilyMaximum (number 0 99_999_999_999) t) [
        | inr r ↦ inr (r.0, family_maximum_fails d.0 p.0 m.0 d.1 p.1 m.1 r.1)
        | inl y ↦ elim (asked key.RefillPercent (number 0 100) t) [
          | inr r ↦ inr (r.0, refill_percent_fails d.0 p.0 m.0 y.0 d.1 p.1 m.1 y.1 r.1)
          | inl q ↦ elim (asked key.MaxDays (number 1 999) t) [
            | inr r ↦ inr (r.0, max_days_fails d.0 p.0 m.0 y.0 q.0 d.1 p.1 m.1 y.1 q.1 r.1)
            | inl x ↦ elim (asked key.Fee (number 0 99_999_999) t) [
              | inr r ↦ inr (r.0, fee_fails d.0 p.0 m.0 y.0 q.0 x.0 d.1 p.1 m.1 y.1 q.1 x.1 r.1)
              | inl e ↦ inl (
                record {
                  door = d.0;
                  period = p.0;
                  member_deductible = m.0;
                  family_maximum = y.0;
                  refill_percent = q.0;
                  max_days = x.0;
                  fee = e.0;
                  family_deductible = None;
                },
                record {
                  door_is = d.1;
                  period_is = p.1;
                  member_deductible_is = m.1;
                  family_maximum_is = y.1;
                  refill_percent_is = q.1;
                  max_days_is = x.1;
                  fee_is = e.1;
                },
              )
            ]
          ]
        ]
      ]
    ]
  ]
]

-- ---- the drugs

drug_said : {tiers : Members} {name : List ℕ} {value : Data} {d : Listed} → SaysDrug tiers name value d
    → listed_in tiers name value ≡ Ok d
unfolding listed_in drug_in
drug_said s = rw (s.product_is, s.table_is, said s.tier_is, said s.price_is) refl

drug_failed : {tiers : Members} {name : List ℕ} {value : Data} {f : SheetFault} → FailsDrug tiers name value f
    → listed_in tiers name value ≡ Err f
unfolding listed_in drug_in
drug_failed (no_product is) = rw is refl
drug_failed (no_table p product is) = rw (product, is) refl
drug_failed (tier_fails p t product is h) = rw (product, is, failed h) refl
drug_failed (price_fails p t share product is s h) = rw (product, is, said s, failed h) refl

drug_asked : (tiers : Members) (name : List ℕ) (value : Data)
    → ((d : Listed) × SaysDrug tiers name value d) ⊎ Failed (FailsDrug tiers name value)
drug_asked tiers name value = by_product (product_of name) refl
  where
    by_table : (p : ℕ) → product_of name ≡ Some p → (o : Option Members) → as_table value ≡ o
        → ((d : Listed) × SaysDrug tiers name value d) ⊎ Failed (FailsDrug tiers name value)
    by_table p product None is = inr (fault.Wrong key.Drugs, no_table p product is)
    by_table p product (Some t) is = elim (asked key.Tier (share_of tiers) t) [
      | inr r ↦ inr (r.0, tier_fails p t product is r.1)
      | inl share ↦ elim (asked key.Price (number 0 1_000_000_000) t) [
        | inr r ↦ inr (r.0, price_fails p t share.0 product is share.1 r.1)
        | inl price ↦ inl (
          record { product = p; drug = record { share = share.0; price = price.0 } },
          record {
            product_is = product;
            table = t;
            table_is = is;
            tier_is = share.1;
            price_is = price.1;
          },
        )
      ]
    ]

    by_product : (o : Option ℕ) → product_of name ≡ o
        → ((d : Listed) × SaysDrug tiers name value d) ⊎ Failed (FailsDrug tiers name value)
    by_product None is = inr (fault.Wrong key.Drugs, no_product is)
    by_product (Some p) is = by_table p is (as_table value) refl

each_said : {tiers drugs : Members} {ds : List Listed} → SaysEach tiers drugs ds → drugs_of tiers drugs ≡ Ok ds
unfolding drugs_of
each_said none = refl
each_said (more name value rest d ds one others) = rw (drug_said one, each_said others) refl

each_failed : {tiers : Members} {f : SheetFault} {drugs : Members} → FailsEach tiers f drugs → drugs_of tiers drugs ≡ Err f
unfolding drugs_of
each_failed (here name value rest h) = rw (drug_failed h) refl
each_failed (later name value rest d one h) = rw (drug_said one, each_failed h) refl

each_asked : (tiers drugs : Members)
    → ((ds : List Listed) × SaysEach tiers drugs ds) ⊎ Failed (λ f. FailsEach tiers f drugs)
each_asked tiers no_members = inl ([], none)
each_asked tiers (member name value rest) = elim (drug_asked tiers name value) [
  | inr r ↦ inr (r.0, here name value rest r.1)
  | inl d ↦ elim (each_asked tiers rest) [
    | inr r ↦ inr (r.0, later name value rest d.0 d.1 r.1)
    | inl ds ↦ inl (d.0 ∷ ds.0, more name value rest d.0 ds.0 d.1 ds.1)
  ]
]

drugs_said : {t : Members} {ds : List Listed} → SaysDrugs t ds → drugs_in t ≡ Ok ds
unfolding drugs_in
drugs_said s = rw (said s.tiers_are, said s.drugs_are, each_said s.each_is) refl

drugs_failed : {t : Members} {f : SheetFault} → FailsDrugs t f → drugs_in t ≡ Err f
unfolding drugs_in
drugs_failed (tiers_fail h) = rw (failed h) refl
drugs_failed (drugs_fail tiers s h) = rw (said s, failed h) refl
drugs_failed (each_fails tiers drugs s d h) = rw (said s, said d, each_failed h) refl

drugs_asked : (t : Members) → ((ds : List Listed) × SaysDrugs t ds) ⊎ Failed (FailsDrugs t)
drugs_asked t = elim (asked key.Tiers tiers_in t) [
  | inr r ↦ inr (r.0, tiers_fail r.1)
  | inl tiers ↦ elim (asked key.Drugs as_table t) [
    | inr r ↦ inr (r.0, drugs_fail tiers.0 tiers.1 r.1)
    | inl drugs ↦ elim (each_asked tiers.0 (ascending drugs.0)) [
      | inr r ↦ inr (r.0, each_fails tiers.0 drugs.0 tiers.1 drugs.1 r.1)
      | inl ds ↦ inl (
        ds.0,
        record {
          tiers = tiers.0;
          tiers_are = tiers.1;
          drugs = drugs.0;
          drugs_are = drugs.1;
          each_is = ds.1;
        },
      )
    ]
  ]
]

-- ---- key 14

family_said : (t : Members) (o : Option ℕ) → SaysIfThere key.FamilyDeductible (number 0 99_999_999_999) t o
    → family_deductible_in t ≡ Ok o
unfolding family_deductible_in
family_said t None away = rw away refl
family_said t (Some n) s = rw (s.there, s.says) refl

family_failed : (t : Members) (v : Data) → get_member (name_of key.FamilyDeductible) t ≡ Some v
    → number 0 99_999_999_999 v ≡ None → family_deductible_in t ≡ Err (fault.Wrong key.FamilyDeductible)
unfolding family_deductible_in
family_failed t v there is = rw (there, is) refl

-- ---- the text

pub sheet_said : {text : List ℕ} {plan : Plan} → IsSheetText text plan → sheet_of_text text ≡ Ok plan
unfolding sheet_of_text tree_of sheet_in
sheet_said {text} {plan} s =
    rw (
      s.utf8,
      s.parsed,
      figures_said s.figures_are,
      drugs_said s.drugs_are,
      family_said s.table plan.figures.family_deductible s.family_deductible_is,
    ) refl

pub sheet_failed : {text : List ℕ} {f : SheetFault} → HasFault text f → sheet_of_text text ≡ Err f
unfolding sheet_of_text tree_of sheet_in
sheet_failed (no_text is) = rw is refl
sheet_failed (no_document utf8 is) = rw (utf8, is) refl
sheet_failed (figures_fault t utf8 is h) = rw (utf8, is, figures_failed h) refl
sheet_failed (drugs_fault t figures utf8 is s h) = rw (utf8, is, figures_said s, drugs_failed h) refl
sheet_failed (family_deductible_fault t figures ds v utf8 is s d there nothing) =
    rw (utf8, is, figures_said s, drugs_said d, family_failed t v there nothing) refl

-- the text of a table, once its figures and drugs are read
by_family : (text : List ℕ) (t : Members) (f : Figures) (ds : List Listed) → is_utf8 text ≡ true
    → parse_document text ≡ Some t → SaysFigures t f → SaysDrugs t ds
    → ((plan : Plan) × IsSheetText text plan) ⊎ Failed (HasFault text)
by_family text t f ds utf8 is figures drugs = by_value (get_member (name_of key.FamilyDeductible) t) refl
  where
    fine_with : (o : Option ℕ) → SaysIfThere key.FamilyDeductible (number 0 99_999_999_999) t o
        → ((plan : Plan) × IsSheetText text plan) ⊎ Failed (HasFault text)
    fine_with o there = inl (
      plan_of (record f { family_deductible = o }) ds,
      record {
        utf8 = utf8;
        table = t;
        parsed = is;
        figures_are = record {
          door_is = figures.door_is;
          period_is = figures.period_is;
          member_deductible_is = figures.member_deductible_is;
          family_maximum_is = figures.family_maximum_is;
          refill_percent_is = figures.refill_percent_is;
          max_days_is = figures.max_days_is;
          fee_is = figures.fee_is;
        };
        drugs_are = drugs;
        family_deductible_is = there;
      },
    )

    by_read : (v : Data) → get_member (name_of key.FamilyDeductible) t ≡ Some v → (o : Option ℕ)
        → number 0 99_999_999_999 v ≡ o → ((plan : Plan) × IsSheetText text plan) ⊎ Failed (HasFault text)
    by_read v there None nothing =
        inr (fault.Wrong key.FamilyDeductible, family_deductible_fault t f ds v utf8 is figures drugs there nothing)
    by_read v there (Some n) says = fine_with (Some n) (record { value = v; there = there; says = says })

    by_value : (o : Option Data) → get_member (name_of key.FamilyDeductible) t ≡ o
        → ((plan : Plan) × IsSheetText text plan) ⊎ Failed (HasFault text)
    by_value None away = fine_with None away
    by_value (Some v) there = by_read v there (number 0 99_999_999_999 v) refl

by_table : (text : List ℕ) → is_utf8 text ≡ true → (o : Option Members) → parse_document text ≡ o
    → ((plan : Plan) × IsSheetText text plan) ⊎ Failed (HasFault text)
by_table text utf8 None is = inr (fault.NotToml, no_document utf8 is)
by_table text utf8 (Some t) is = elim (figures_asked t) [
  | inr r ↦ inr (r.0, figures_fault t utf8 is r.1)
  | inl f ↦ elim (drugs_asked t) [
    | inr r ↦ inr (r.0, drugs_fault t f.0 utf8 is f.1 r.1)
    | inl ds ↦ by_family text t f.0 ds.0 utf8 is f.1 ds.1
  ]
]

sheet_asked : (text : List ℕ) → ((plan : Plan) × IsSheetText text plan) ⊎ Failed (HasFault text)
sheet_asked text = elim (cases_Bool (is_utf8 text)) [
  | inr other ↦ inr (fault.NotToml, no_text other)
  | inl utf8 ↦ by_table text utf8 (parse_document text) refl
]

-- ---- as clauses

abbrev fine : Plan → Result Plan SheetFault
fine plan = Ok plan

abbrev bad : SheetFault → Result Plan SheetFault
bad f = Err f

same_plan : (p q : Plan) → fine p ≡ fine q → p ≡ q
same_plan p q e = cc

same_fault : (f g : SheetFault) → bad f ≡ bad g → f ≡ g
same_fault f g e = cc

never_both : {A : Type 0} (p : Plan) (f : SheetFault) → fine p ≡ bad f → A
never_both p f e = absurd cc

pub read_said : (text : List ℕ) (plan : Plan) → sheet_of_text text ≡ fine plan → IsSheetText text plan
read_said text plan read = elim (sheet_asked text) [
  | inl s ↦ subst (IsSheetText text) (same_plan s.0 plan (sym (sheet_said s.1) ∙ read)) s.1
  | inr r ↦ never_both plan r.0 (sym read ∙ sheet_failed r.1)
]

pub refused_said : (text : List ℕ) (f : SheetFault) → sheet_of_text text ≡ bad f → HasFault text f
refused_said text f refused = elim (sheet_asked text) [
  | inl s ↦ never_both s.0 f (sym (sheet_said s.1) ∙ refused)
  | inr r ↦ subst (HasFault text) (same_fault r.0 f (sym (sheet_failed r.1) ∙ refused)) r.1
]
