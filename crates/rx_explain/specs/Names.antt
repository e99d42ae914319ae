-- Meaning: a job with other names: it gives a pharmacy the same text, where what is its own keeps its names.
use Rattle.std.specs.Prelude.{◌≡◌, ◌↔◌, ℕ, true, List, [], ◌∷◌, map}
use Rattle.std.specs.List.{All}
use Rattle.std.specs.Option.{option_map}
use Rattle.std.specs.declared.cmp.Ordering.{Ordering}
use Rattle.rx_fields.specs.Calendar.{Civil}
use Rattle.rx_fields.specs.Order.{key_cmp}
use Rattle.rx_fields.specs.declared.key.Key.{Key}
use Rattle.rx_d0_values.specs.declared.bill.BillParts.{BillParts}
use Rattle.rx_d0_values.specs.declared.transaction.Faulty.{Faulty as FaultyParts}
use Rattle.rx_d0_values.specs.declared.transaction.Reversal.{Reversal}
use Rattle.rx_d0_values.specs.declared.transaction.Transaction.{Transaction}
use Rattle.rx_d0_values.specs.declared.transaction.Transaction.TheVariants.{Bill, Reverse, Faulty}
use Rattle.rx_d0_values.specs.declared.transmission.Body.{Body}
use Rattle.rx_d0_values.specs.declared.transmission.Body.TheVariants.{Rejected, Heard}
use Rattle.rx_d0_values.specs.declared.transmission.Heard.{Heard as HeardRecord}
use Rattle.rx_d0_values.specs.declared.transmission.Transmission.{Transmission}
use Rattle.rx_ledger.specs.Ledger.{Ledger}
use Rattle.rx_ledger.specs.Members.{is_same, member_cmp, member_key}
use Rattle.rx_ledger.specs.Plan.{Plan, drug_of}
use Rattle.rx_ledger.specs.Rows.{row_key}
use Rattle.rx_ledger.specs.declared.member.Member.{Member}
use Rattle.rx_ledger.specs.declared.member.MemberKey.{MemberKey}
use Rattle.rx_ledger.specs.declared.row.Row.{Row}
use Rattle.rx_sorted.specs.Ascending.{put}

-- ---- names

-- another name for each pharmacy, for each prescription of a pharmacy, for each family and each of its persons, and for each
-- product that a person gets, or that a reversal of a fill names
pub record Names : Type 0 where
  pub pharmacy : List ℕ → List ℕ
  pub prescription : List ℕ → ℕ → ℕ
  pub family : List ℕ → List ℕ
  pub person : List ℕ → List ℕ → List ℕ
  pub product : List ℕ → List ℕ → ℕ → ℕ
  pub reversed : Key → ℕ → ℕ

-- two names stay two
pub record AreNames (n : Names) : Type 0 where
  pub pharmacies : (p q : List ℕ) → n.pharmacy p ≡ n.pharmacy q → p ≡ q
  pub prescriptions : (p : List ℕ) (r s : ℕ) → n.prescription p r ≡ n.prescription p s → r ≡ s
  pub families : (f g : List ℕ) → n.family f ≡ n.family g → f ≡ g
  pub persons : (f p q : List ℕ) → n.person f p ≡ n.person f q → p ≡ q
  pub products : (f p : List ℕ) (c d : ℕ) → n.product f p c ≡ n.product f p d → c ≡ d

-- the items in the order of their keys
abbrev pub in_order : {X K : Type 0} → (K → K → Ordering) → (X → K) → List X → List X
in_order cmp key [] = []
in_order cmp key (x ∷ xs) = put cmp key (in_order cmp key xs) x

module _ (n : Names) where
  -- ---- books

  abbrev pub key_named : Key → Key
  key_named k = record k { provider = n.pharmacy k.provider; reference = n.prescription k.provider k.reference }

  abbrev pub row_named : Row → Row
  row_named r =
      record r {
        key = key_named r.key;
        family = n.family r.family;
        person = n.person r.family r.person;
        product = n.product r.family r.person r.product;
      }

  abbrev pub person_named : MemberKey → MemberKey
  person_named k = record { family = n.family k.family; person = n.person k.family k.person }

  abbrev pub member_named : Member → Member
  member_named m = record m { key = person_named m.key }

  -- in order again
  abbrev pub ledger_named : Ledger → Ledger
  ledger_named L =
      record {
        members = in_order member_cmp member_key (map member_named L.members);
        rows = in_order key_cmp row_key (map row_named L.rows);
      }

  -- ---- records

  -- a transaction of a pharmacy; a reversal also of its date of service
  abbrev pub bill_named : List ℕ → BillParts → BillParts
  bill_named pharmacy b =
      record b {
        reference = n.prescription pharmacy b.reference;
        family = n.family b.family;
        person = n.person b.family b.person;
        product = n.product b.family b.person b.product;
      }

  abbrev pub reversal_named : List ℕ → Civil → Reversal → Reversal
  reversal_named pharmacy date v =
      record {
        reference = n.prescription pharmacy v.reference;
        product = n.reversed (record { provider = pharmacy; reference = v.reference; date = date }) v.product;
      }

  abbrev pub faulty_named : List ℕ → FaultyParts → FaultyParts
  faulty_named pharmacy f = record f { reference = option_map (n.prescription pharmacy) f.reference }

  abbrev pub transaction_named : List ℕ → Civil → Transaction → Transaction
  transaction_named pharmacy date (Bill b) = Bill (bill_named pharmacy b)
  transaction_named pharmacy date (Reverse v) = Reverse (reversal_named pharmacy date v)
  transaction_named pharmacy date (Faulty f) = Faulty (faulty_named pharmacy f)

  abbrev pub heard_named : HeardRecord → HeardRecord
  heard_named h =
      record h { provider = n.pharmacy h.provider; list = map (transaction_named h.provider h.date) h.list }

  -- a header that is rejected has no names that count
  abbrev pub body_named : Body → Body
  body_named (Rejected r) = Rejected r
  body_named (Heard h) = Heard (heard_named h)

  -- ---- a reversal of a fill names the product of its claim where it did, and only there

  abbrev pub IsOneName : Key → List ℕ → List ℕ → ℕ → Type 0
  IsOneName fill family person product =
      (named : ℕ) → (n.reversed fill named ≡ n.product family person product) ↔ (named ≡ product)

  abbrev pub AgreesRow : Row → Type 0
  AgreesRow r = IsOneName r.key r.family r.person r.product

  -- the plan says of a product that is billed what it says of its other name
  abbrev pub IsOneDrug : Plan → Transaction → Type 0
  IsOneDrug plan (Bill b) = drug_of plan (n.product b.family b.person b.product) ≡ drug_of plan b.product
  IsOneDrug plan (Reverse v) = Unit {0}
  IsOneDrug plan (Faulty f) = Unit {0}

  abbrev pub AgreesTransaction : Plan → List ℕ → Civil → Transaction → Type 0
  AgreesTransaction plan pharmacy date (Bill b) =
      IsOneName (record { provider = pharmacy; reference = b.reference; date = date }) b.family b.person b.product
      × IsOneDrug plan (Bill b)
  AgreesTransaction plan pharmacy date (Reverse v) = Unit {0}
  AgreesTransaction plan pharmacy date (Faulty f) = Unit {0}

  abbrev pub AgreesBody : Plan → Body → Type 0
  AgreesBody plan (Rejected r) = Unit {0}
  AgreesBody plan (Heard h) = All (AgreesTransaction plan h.provider h.date) h.list

  -- ---- what is a pharmacy's own keeps its names

  abbrev pub KeepsRow : List ℕ → Row → Type 0
  KeepsRow own r = is_same r.key.provider own ≡ true → row_named r ≡ r

  abbrev pub KeepsBody : List ℕ → Body → Type 0
  KeepsBody own (Rejected r) = Unit {0}
  KeepsBody own (Heard h) = is_same h.provider own ≡ true → heard_named h ≡ h

-- ---- jobs

-- records and books that differ only in names, products, prescriptions and pharmacies of other pharmacies' claims
pub record DifferInNames (own : List ℕ) (plan : Plan) (ts us : List Transmission) (L M : Ledger) : Type 0 where
  pub names : Names
  pub are_names : AreNames names
  pub books_are : M ≡ ledger_named names L
  pub records_are : map (λ u. u.body) us ≡ map (λ t. body_named names t.body) ts
  pub claims_agree : All (AgreesRow names) L.rows
  pub records_agree : All (λ t. AgreesBody names plan t.body) ts
  pub own_claims : All (KeepsRow names own) L.rows
  pub own_records : All (λ t. KeepsBody names own t.body) ts
