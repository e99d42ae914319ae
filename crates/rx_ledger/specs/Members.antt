-- Meaning: members, and the order in which they are listed: by family, then person.
use Rattle.std.specs.Prelude.{ℕ, Bool, List, Option, find}
use Rattle.std.specs.Option.{option_map}
use Rattle.std.specs.Ordering.{is_eq, ordering_then}
use Rattle.std.specs.declared.cmp.Ordering.{Ordering}
use Rattle.rx_fields.specs.Calendar.{Civil}
use Rattle.rx_fields.specs.Numbered.{period_of}
use Rattle.rx_fields.specs.Order.{id_cmp}
use Rattle.rx_ledger.specs.declared.member.Member.{Member}
use Rattle.rx_ledger.specs.declared.member.MemberKey.{MemberKey}

-- the same text
abbrev pub is_same : List ℕ → List ℕ → Bool
is_same a b = is_eq (id_cmp a b)

-- by family, then person
abbrev pub member_cmp : MemberKey → MemberKey → Ordering
member_cmp a b = ordering_then (id_cmp a.family b.family) (id_cmp a.person b.person)

abbrev pub member_key : Member → MemberKey
member_key m = m.key

-- the member of a family with this coverage, where it doesn't end before it begins
abbrev pub member_of : List ℕ → List ℕ → Civil → Civil → Option Member
member_of family person first last =
    option_map (λ coverage. record { key = record { family = family; person = person }; coverage = coverage })
    (period_of first last)

-- the members of a family
abbrev pub of_family : List ℕ → Member → Bool
of_family family m = is_same m.key.family family

-- the member with this person code among those of a family
abbrev pub person_in : List Member → List ℕ → Option Member
person_in members person = find (λ m. is_same m.key.person person) members
