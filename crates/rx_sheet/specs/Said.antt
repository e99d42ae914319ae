-- Meaning: what a plan sheet says, key by key and not step by step (docs/FORMATS.md, "Plan sheet").
use Rattle.std.specs.Prelude.{◌≡◌, ℕ, true, false, List, [], ◌∷◌, Option, Some, None}
use Rattle.std.specs.Str.{is_utf8}
use Rattle.rx_ledger.specs.declared.figures.TheConstants.{MOST_LIMIT}
use Rattle.rx_ledger.specs.declared.drug.TheConstants.{MOST_PRICE}
use Rattle.rx_fields.specs.declared.limits.TheConstants.{MOST_CENTS}
use Rattle.toml.specs.Data.{Data, Members, no_members, member, get_member, as_table}
use Rattle.toml.specs.Parse.{parse_document}
use Rattle.rx_fields.specs.Calendar.{Civil}
use Rattle.rx_fields.specs.Numbered.{Span, product_of}
use Rattle.rx_fields.specs.declared.door.Door.{Door}
use Rattle.rx_ledger.specs.Plan.{Plan}
use Rattle.rx_ledger.specs.declared.drug.Share.{Share}
use Rattle.rx_ledger.specs.declared.figures.Figures.{Figures}
use Rattle.rx_ledger.specs.declared.sheet.Listed.{Listed}
use Rattle.rx_ledger.specs.declared.sheet_key.SheetKey.{SheetKey}
use Rattle.rx_ledger.specs.declared.sheet_key.SheetKey.TheVariants as key
use Rattle.rx_sheet.specs.declared.fault.SheetFault.{SheetFault}
use Rattle.rx_sheet.specs.declared.fault.SheetFault.TheVariants as fault
use Rattle.rx_sheet.specs.Drugs.{ascending, share_of, tiers_in}
use Rattle.rx_sheet.specs.Figures.{period_from}
use Rattle.rx_sheet.specs.Names.{name_of}
use Rattle.rx_sheet.specs.Values.{bin, day, number, pcn}

-- at the key of a table stands a value, and the value stands for x
pub record Says {A : Type 0} (k : SheetKey) (read : Data → Option A) (table : Members) (x : A) : Type 0 where
  pub value : Data
  pub there : get_member (name_of k) table ≡ Some value
  pub says : read value ≡ Some x

-- so it is, or the key isn't there
abbrev pub SaysIfThere : {A : Type 0} → SheetKey → (Data → Option A) → Members → Option A → Type 0
SaysIfThere k read table None = get_member (name_of k) table ≡ None
SaysIfThere k read table (Some x) = Says k read table x

-- keys 1 and 2
pub record SaysDoor (table : Members) (d : Door) : Type 0 where
  pub bin_is : Says key.Bin bin table d.bin
  pub pcn_is : Says key.Pcn pcn table d.pcn

-- keys 3 and 4: the last day says the period from the first
pub record SaysPeriod (table : Members) (p : Span) : Type 0 where
  pub first : Civil
  pub first_is : Says key.PeriodFirst day table first
  pub last_is : Says key.PeriodLast (period_from first) table p

-- keys 1 to 9
pub record SaysFigures (table : Members) (f : Figures) : Type 0 where
  pub door_is : SaysDoor table f.door
  pub period_is : SaysPeriod table f.period
  pub member_deductible_is : Says key.MemberDeductible (number 0 MOST_LIMIT) table f.member_deductible
  pub family_maximum_is : Says key.FamilyMaximum (number 0 MOST_LIMIT) table f.family_maximum
  pub refill_percent_is : Says key.RefillPercent (number 0 100) table f.refill_percent
  pub max_days_is : Says key.MaxDays (number 1 999) table f.max_days
  pub fee_is : Says key.Fee (number 0 MOST_CENTS) table f.fee

-- a drug under its product: its table has keys 12 and 13, the tier being one of these
pub record SaysDrug (tiers : Members) (name : List ℕ) (value : Data) (d : Listed) : Type 0 where
  pub product_is : product_of name ≡ Some d.product
  pub table : Members
  pub table_is : as_table value ≡ Some table
  pub tier_is : Says key.Tier (share_of tiers) table d.drug.share
  pub price_is : Says key.Price (number 0 MOST_PRICE) table d.drug.price

-- the drugs of a table, each of its members one
pub data SaysEach (tiers : Members) : Members → List Listed → Type 0 where
  none : SaysEach tiers no_members []
  more : (name : List ℕ) (value : Data) (rest : Members) (d : Listed) (ds : List Listed)
      → SaysDrug tiers name value d → SaysEach tiers rest ds → SaysEach tiers (member name value rest) (d ∷ ds)

-- keys 10 and 11, with the drugs ascending by key
pub record SaysDrugs (table : Members) (ds : List Listed) : Type 0 where
  pub tiers : Members
  pub tiers_are : Says key.Tiers tiers_in table tiers
  pub drugs : Members
  pub drugs_are : Says key.Drugs as_table table drugs
  pub each_is : SaysEach tiers (ascending drugs) ds

-- the text is a TOML document in UTF-8, whose keys say this plan
pub record IsSheetText (text : List ℕ) (plan : Plan) : Type 0 where
  pub utf8 : is_utf8 text ≡ true
  pub table : Members
  pub parsed : parse_document text ≡ Some table
  pub figures_are : SaysFigures table plan.figures
  pub drugs_are : SaysDrugs table plan.drugs
  pub family_deductible_is :
      SaysIfThere key.FamilyDeductible (number 0 MOST_LIMIT) table plan.figures.family_deductible

-- ---- the first key that is at fault

-- at the key stands no value, or one that says nothing
pub data Fails {A : Type 0} (k : SheetKey) (read : Data → Option A) (table : Members) : SheetFault → Type 0 where
  missing : get_member (name_of k) table ≡ None → Fails k read table (fault.Missing k)
  wrong : (value : Data) → get_member (name_of k) table ≡ Some value → read value ≡ None
      → Fails k read table (fault.Wrong k)

-- keys 1 and 2: the first that is at fault
pub data FailsDoor (table : Members) (f : SheetFault) : Type 0 where
  bin_fails : Fails key.Bin bin table f → FailsDoor table f
  pcn_fails : (b : List ℕ) → Says key.Bin bin table b → Fails key.Pcn pcn table f → FailsDoor table f

-- keys 3 and 4
pub data FailsPeriod (table : Members) (f : SheetFault) : Type 0 where
  first_fails : Fails key.PeriodFirst day table f → FailsPeriod table f
  last_fails : (first : Civil) → Says key.PeriodFirst day table first → Fails key.PeriodLast (period_from first) table f
      → FailsPeriod table f

-- keys 1 to 9, each after those that aren't at fault
pub data FailsFigures (table : Members) (f : SheetFault) : Type 0 where
  door_fails : FailsDoor table f → FailsFigures table f
  period_fails : (d : Door) → SaysDoor table d → FailsPeriod table f → FailsFigures table f
  member_deductible_fails : (d : Door) (p : Span) → SaysDoor table d → SaysPeriod table p
      → Fails key.MemberDeductible (number 0 MOST_LIMIT) table f → FailsFigures table f
  family_maximum_fails : (d : Door) (p : Span) (m : ℕ) → SaysDoor table d → SaysPeriod table p
      → Says key.MemberDeductible (number 0 MOST_LIMIT) table m
      → Fails key.FamilyMaximum (number 0 MOST_LIMIT) table f → FailsFigures table f
  refill_percent_fails : (d : Door) (p : Span) (m y : ℕ) → SaysDoor table d → SaysPeriod table p
      → Says key.MemberDeductible (number 0 MOST_LIMIT) table m
      → Says key.FamilyMaximum (number 0 MOST_LIMIT) table y
      → Fails key.RefillPercent (number 0 100) table f → FailsFigures table f
  max_days_fails : (d : Door) (p : Span) (m y r : ℕ) → SaysDoor table d → SaysPeriod table p
      → Says key.MemberDeductible (number 0 MOST_LIMIT) table m
      → Says key.FamilyMaximum (number 0 MOST_LIMIT) table y
      → Says key.RefillPercent (number 0 100) table r
      → Fails key.MaxDays (number 1 999) table f → FailsFigures table f
  fee_fails : (d : Door) (p : Span) (m y r x : ℕ) → SaysDoor table d → SaysPeriod table p
      → Says key.MemberDeductible (number 0 MOST_LIMIT) table m
      → Says key.FamilyMaximum (number 0 MOST_LIMIT) table y
      → Says key.RefillPercent (number 0 100) table r
      → Says key.MaxDays (number 1 999) table x
      → Fails key.Fee (number 0 MOST_CENTS) table f → FailsFigures table f

-- a drug: its product and its table, then keys 12 and 13
pub data FailsDrug (tiers : Members) (name : List ℕ) (value : Data) : SheetFault → Type 0 where
  no_product : product_of name ≡ None → FailsDrug tiers name value (fault.Wrong key.Drugs)
  no_table : (p : ℕ) → product_of name ≡ Some p → as_table value ≡ None
      → FailsDrug tiers name value (fault.Wrong key.Drugs)
  tier_fails : {f : SheetFault} (p : ℕ) (table : Members) → product_of name ≡ Some p → as_table value ≡ Some table
      → Fails key.Tier (share_of tiers) table f → FailsDrug tiers name value f
  price_fails : {f : SheetFault} (p : ℕ) (table : Members) (share : Share) → product_of name ≡ Some p
      → as_table value ≡ Some table → Says key.Tier (share_of tiers) table share
      → Fails key.Price (number 0 MOST_PRICE) table f → FailsDrug tiers name value f

-- the first drug of a table that is at fault
pub data FailsEach (tiers : Members) (f : SheetFault) : Members → Type 0 where
  here : (name : List ℕ) (value : Data) (rest : Members) → FailsDrug tiers name value f
      → FailsEach tiers f (member name value rest)
  later : (name : List ℕ) (value : Data) (rest : Members) (d : Listed) → SaysDrug tiers name value d
      → FailsEach tiers f rest → FailsEach tiers f (member name value rest)

-- keys 10 and 11, then the drugs ascending by key
pub data FailsDrugs (table : Members) (f : SheetFault) : Type 0 where
  tiers_fail : Fails key.Tiers tiers_in table f → FailsDrugs table f
  drugs_fail : (tiers : Members) → Says key.Tiers tiers_in table tiers → Fails key.Drugs as_table table f
      → FailsDrugs table f
  each_fails : (tiers drugs : Members) → Says key.Tiers tiers_in table tiers → Says key.Drugs as_table table drugs
      → FailsEach tiers f (ascending drugs) → FailsDrugs table f

-- the text is no plan sheet, and has this fault: it is no TOML document in UTF-8, or its first key at fault
pub data HasFault (text : List ℕ) : SheetFault → Type 0 where
  no_text : is_utf8 text ≡ false → HasFault text fault.NotToml
  no_document : is_utf8 text ≡ true → parse_document text ≡ None → HasFault text fault.NotToml
  figures_fault : {f : SheetFault} (table : Members) → is_utf8 text ≡ true → parse_document text ≡ Some table
      → FailsFigures table f → HasFault text f
  drugs_fault : {f : SheetFault} (table : Members) (figures : Figures) → is_utf8 text ≡ true
      → parse_document text ≡ Some table → SaysFigures table figures → FailsDrugs table f → HasFault text f
  family_deductible_fault : (table : Members) (figures : Figures) (ds : List Listed) (value : Data)
      → is_utf8 text ≡ true → parse_document text ≡ Some table → SaysFigures table figures → SaysDrugs table ds
      → get_member (name_of key.FamilyDeductible) table ≡ Some value → number 0 MOST_LIMIT value ≡ None
      → HasFault text (fault.Wrong key.FamilyDeductible)
