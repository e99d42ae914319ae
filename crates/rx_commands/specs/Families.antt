-- Meaning: a family of the books: its members, its standing claims by date, and what the sums of a period come to.
use Rattle.std.specs.Prelude.{◌≡◌, ℕ, Bool, ◌&&◌, false, List, [], Option, Some, None, option_map, unwrap_or, filter, find, map}
use Rattle.rx_fields.specs.Numbered.{Span}
use Rattle.rx_ledger.specs.declared.member.Member.{Member}
use Rattle.rx_ledger.specs.declared.member.MemberKey.{MemberKey}
use Rattle.rx_ledger.specs.Ledger.{members_of, rows_of}
use Rattle.rx_ledger.specs.Members.{is_same}
use Rattle.rx_books_store.specs.LedgerBooks.{LedgerBooks, deductible_of_family, deductible_of_member, has_members}
use Rattle.rx_books_store.specs.LedgerBooks.{out_of_pocket_of_family}
use Rattle.rx_commands.specs.declared.family.families.Family.{Family}
use Rattle.rx_commands.specs.declared.family.families.FamilyMember.{FamilyMember}
use Rattle.rx_commands.specs.declared.family.families.Total.{Total}
use Rattle.rx_commands.specs.declared.family.sums.Claim.{Claim}
use Rattle.rx_commands.specs.declared.family.sums.Limits.{Limits}
use Rattle.rx_commands.specs.FamilySums.{AreClaims, claim_row, left_of}

-- a sum over all claims, what is left of its limit, and the first claim that reaches it
abbrev pub total_of : Option ℕ → ℕ → (Claim → Bool) → List Claim → Total
total_of limit sum reaches claims =
    record { sum = sum; left = left_of limit sum; reached = option_map claim_row (find reaches claims) }

-- with the claim the deductible of its member is reached, and it is this one's; or a figure of the family is
abbrev pub reaches_own : List ℕ → Claim → Bool
reaches_own person c = is_same c.row.person person && c.deductible.reaches

abbrev pub reaches_deductible : Claim → Bool
reaches_deductible c = c.family_deductible.reaches

abbrev pub reaches_out_of_pocket : Claim → Bool
reaches_out_of_pocket c = c.out_of_pocket.reaches

-- the books, with sums over this period, or over their own
abbrev pub summed_over : Option Span → LedgerBooks → LedgerBooks
summed_over period b = record { period = unwrap_or period b.period; ledger = b.ledger }

-- the deductible of a member, the figure of its line in the books
abbrev pub own_deductible : Option ℕ → LedgerBooks → List Claim → MemberKey → Total
own_deductible limit b claims key =
    total_of limit (unwrap_or (deductible_of_member b key.family key.person) 0) (reaches_own key.person) claims

-- a member with its deductible
abbrev pub member_shown : Option ℕ → LedgerBooks → List Claim → Member → FamilyMember
member_shown limit b claims m = record { member = m; deductible = own_deductible limit b claims m.key }

-- the family of the books with this id: its claims are exactly those that stand; its figures are those of its lines
pub record IsFamily (limits : Limits) (b : LedgerBooks) (family : List ℕ) (f : Family) : Type 0 where
  pub named : f.id ≡ family
  pub period : f.period ≡ b.period
  pub claims : AreClaims limits b.period (rows_of b.ledger family) f.claims.items
  pub members : f.members.items ≡ map (member_shown limits.deductible b f.claims.items) (members_of b.ledger family)
  pub deductible : f.deductible ≡ total_of limits.family_deductible
      (unwrap_or (deductible_of_family b family) 0) reaches_deductible f.claims.items
  pub out_of_pocket : f.out_of_pocket ≡ total_of limits.out_of_pocket
      (unwrap_or (out_of_pocket_of_family b family) 0) reaches_out_of_pocket f.claims.items

-- it, or none where the books have no member of the family
abbrev pub IsFound : Limits → LedgerBooks → List ℕ → Option Family → Type 0
IsFound limits b family None = has_members b.ledger family ≡ false
IsFound limits b family (Some f) = IsFamily limits b family f

-- ---- one person of it

abbrev pub is_person : List ℕ → FamilyMember → Bool
is_person person m = is_same m.member.key.person person

abbrev pub is_of_person : List ℕ → Claim → Bool
is_of_person person c = is_same c.row.person person

-- the family with just this person, one of its members, and this person's claims; the sums stay those of the family
pub record IsPart (person : List ℕ) (f part : Family) : Type 0 where
  pub some : ¬ (part.members.items ≡ [])
  pub named : part.id ≡ f.id
  pub period : part.period ≡ f.period
  pub members : part.members.items ≡ filter (is_person person) f.members.items
  pub claims : part.claims.items ≡ filter (is_of_person person) f.claims.items
  pub deductible : part.deductible ≡ f.deductible
  pub out_of_pocket : part.out_of_pocket ≡ f.out_of_pocket
