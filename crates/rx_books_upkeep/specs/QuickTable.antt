-- Plumbing: a members table in which no line has a fault.
use Rattle.std.specs.Prelude.{◌≡◌, ℕ, ◌==◌, if◌then◌else◌, List, [], ◌∷◌, length, map, Option, Some, None, Result, Ok}
use Rattle.std.specs.List.Sorted.{IsPermutation}
use Rattle.std.specs.Result.{result_ok}
use Rattle.rx_sorted.specs.Ascending.{IsAscending}
use Rattle.rx_ledger.specs.declared.member.Member.{Member}
use Rattle.rx_ledger.specs.Members.{member_cmp, member_key}
use Rattle.rx_text.specs.Results.{◌>>=◌}
use Rattle.rx_books_upkeep.specs.declared.table_fault.TableFault.{TableFault}
use Rattle.rx_books_upkeep.specs.Table.{headed, member_at}
use Rattle.rx_books_upkeep.specs.TableLine.{member_in}

-- a member and others, if there are all
abbrev pub with_first : Option Member → Option (List Member) → Option (List Member)
with_first None others = None
with_first (Some m) None = None
with_first (Some m) (Some ms) = Some (m ∷ ms)

-- the members of these lines, after the last of which stands nothing
unfoldable pub members_in : List (List ℕ) → Option (List Member)
members_in [] = Some []
members_in (last ∷ []) = if length last == 0 then Some [] else None
members_in (line ∷ next ∷ more) = with_first (result_ok (member_in line)) (members_in (next ∷ more))

-- the list has the members of these lines, in order
pub record AreSorted (lines : List (List ℕ)) (list : List Member) : Type 0 where
  pub members : List Member
  pub are : members_in lines ≡ Some members
  pub moved : IsPermutation members list
  pub rise : IsAscending member_cmp member_key list

-- the members of a table in their order, or its first fault, where it hasn't too many lines
abbrev pub readily : List (List ℕ) → Result (List Member) TableFault
readily lines = headed lines >>= λ es. Ok (map member_at es)
