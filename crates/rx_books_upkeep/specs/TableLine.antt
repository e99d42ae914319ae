-- Meaning: a line of a members table: four fields with a tab between each two (docs/FORMATS.md, "Members table").
use Rattle.std.specs.Prelude.{ℕ, List, Result}
use Rattle.std.specs.Option.{ok_or}
use Rattle.rx_text.specs.Results.{◌>>=◌}
use Rattle.rx_ledger.specs.declared.member.Member.{Member}
use Rattle.rx_ledger.specs.Members.{member_of}
use Rattle.rx_books_upkeep.specs.declared.table_fault.Wrong.{Wrong}
use Rattle.rx_books_upkeep.specs.declared.table_fault.Wrong.TheVariants.{Fields, Family, Person, First, Last, Order}
use Rattle.rx_books_upkeep.specs.TableField.{cut, day_in, id_in}

-- the member of four fields, or the first of them that is wrong
unfoldable pub fields_in : List ℕ → List ℕ → List ℕ → List ℕ → Result Member Wrong
fields_in family person first last =
    ok_or (id_in 20 family) Family >>= λ f. ok_or (id_in 3 person) Person >>= λ p. ok_or (day_in first) First >>= λ a.
    ok_or (day_in last) Last >>= λ z. ok_or (member_of f p a z) Order

-- the member of a line without its line feed, or why it is none's
unfoldable pub member_in : List ℕ → Result Member Wrong
member_in line =
    ok_or (cut line) Fields >>= λ family. ok_or (cut family.1) Fields >>= λ person.
    ok_or (cut person.1) Fields >>= λ first. fields_in family.0 person.0 first.0 first.1
