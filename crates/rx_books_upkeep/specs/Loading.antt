-- Meaning: members loaded from a table: each member of the table has the table's coverage, each other one its own.
use Rattle.std.specs.Prelude.{◌≡◌, ◌&&◌, ℕ, Bool, true, not, if◌then◌else◌, List, Option, Some, None, map}
use Rattle.std.specs.List.{All, count_by}
use Rattle.std.specs.Option.{option_eq}
use Rattle.rx_d0_values.specs.declared.transaction.Transaction.{Transaction}
use Rattle.rx_d0_values.specs.declared.transaction.Transaction.TheVariants.{Bill, Reverse, Faulty}
use Rattle.rx_d0_values.specs.declared.transmission.Heard.{Heard as HeardRecord}
use Rattle.rx_sorted.specs.Ascending.{IsAscending, item_at, put_all}
use Rattle.rx_ledger.specs.contracts.member.MemberPartialEq.TheImpl.{ghosts as member}
use Rattle.rx_ledger.specs.declared.member.Member.{Member}
use Rattle.rx_ledger.specs.declared.member.MemberKey.{MemberKey}
use Rattle.rx_ledger.specs.Ledger.{Ledger, is_listed}
use Rattle.rx_ledger.specs.Members.{member_cmp, member_key, of_family}
use Rattle.rx_books_upkeep.specs.declared.change.Change.{Change}
use Rattle.rx_books_upkeep.specs.declared.change.Change.TheVariants.{CameIn, Changed, Stayed}
use Rattle.rx_books_upkeep.specs.declared.change.MemberChange.{MemberChange}
use Rattle.rx_books_upkeep.specs.declared.change.Loaded.{Loaded}

-- the member of a list that has the key
abbrev pub member_in : List Member → MemberKey → Option Member
member_in members key = item_at member_cmp member_key members key

-- M is the ledger L after the table is loaded: the same claims; who is in the table has its coverage, and everyone else
-- keeps the coverage that L has; so nobody is dropped, and nobody comes in who isn't in the table
pub record IsLoaded (L : Ledger) (table : List Member) (M : Ledger) : Type 0 where
  pub rows : M.rows ≡ L.rows
  pub rise : IsAscending member_cmp member_key M.members
  pub listed : (key : MemberKey) (m : Member) → member_in table key ≡ Some m → member_in M.members key ≡ Some m
  pub others : (key : MemberKey) → member_in table key ≡ None → member_in M.members key ≡ member_in L.members key

-- the same, computed
abbrev pub loaded : Ledger → List Member → Ledger
loaded L table = record L { members = put_all member_cmp member_key L.members table }

-- a member of the table comes in, stays as the ledger has it, or changes
abbrev pub comes_in : Ledger → Member → Bool
comes_in L m = not (is_listed L m.key)

abbrev pub stays : Ledger → Member → Bool
stays L m = option_eq member.eq (member_in L.members m.key) (Some m)

abbrev pub changes : Ledger → Member → Bool
changes L m = not (comes_in L m) && not (stays L m)

-- how many members of the table are of each kind
abbrev pub counts_of : Ledger → List Member → Loaded
counts_of L table =
    record {
      came_in = count_by (comes_in L) table;
      changed = count_by (changes L) table;
      stayed = count_by (stays L) table;
    }

-- what becomes of a member of the table, by the member that the ledger lists under its key; and of each, in order
abbrev pub change_from : Option Member → Member → Change
change_from None m = CameIn
change_from (Some own) m = if member.eq own m then Stayed else Changed

abbrev pub change_of : Ledger → Member → Change
change_of L m = change_from (member_in L.members m.key) m

abbrev pub changes_of : Ledger → List Member → List MemberChange
changes_of L table = map (λ m. record { member = m; change = change_of L m }) table

-- the ledger lists each of the table's members of the family as the table does: it adds none to the family, and changes none
abbrev pub LeavesFamily : Ledger → List Member → List ℕ → Type 0
LeavesFamily L table family = All (λ m. of_family family m ≡ true → member_in L.members m.key ≡ Some m) table

-- a billing is of such a family; a reversal may be of any
abbrev pub LeavesBilled : Ledger → List Member → HeardRecord → Transaction → Type 0
LeavesBilled L table h (Bill b) = LeavesFamily L table b.family
LeavesBilled L table h (Reverse v) = Unit {0}
LeavesBilled L table h (Faulty f) = Unit {0}
