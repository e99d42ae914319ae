-- The lines of a members table are read one after another.
use Rattle.std.proofs.Common.{◌≡◌, ℕ, ◌+◌, ◌≤◌, ltb, cond, eqb, Bool, not, false, true, List, [], ◌∷◌, length, map, Ok, Err, refl}
use Rattle.std.specs.Cmp.Lexicographic.{pointwise}
use Rattle.std.specs.Prelude.{nat_eq}
use Rattle.std.proofs.lemmas.Bool.{le-ltb}
use Rattle.std.specs.List.{AllByRecursion}
use Rattle.std.specs.List.Sorted.{IsStrictlySortedBy}
use Rattle.std.specs.Map.{keys_of}
use Rattle.std.specs.declared.cmp.Ordering.TheVariants.{Less}
use Rattle.rx_sorted.specs.Ascending.{IsAscending, IsBelow, is_ascending}
use Rattle.rx_sorted.proofs.Kept.{is_ascending-from_fact}
use Rattle.rx_ledger.specs.declared.member.MemberKey.{MemberKey}
use Rattle.rx_ledger.specs.Members.{member_cmp, member_key}
use Rattle.rx_ledger.proofs.Orders.{member_total}
use Rattle.rx_text.specs.Outcomes as outcome
use Rattle.rx_books_text.specs.Printed.{line_feeds}
use Rattle.rx_books_text.specs.TextReading.{lines}
use Rattle.rx_books_text.proofs.TextSteps.{lines_cons}
use Rattle.rx_books_upkeep.specs.declared.table_fault.TableFault.{TableFault}
use Rattle.rx_books_upkeep.specs.declared.table_fault.TableFault.TheVariants as fault
use Rattle.rx_books_upkeep.specs.Table.{Entries, headed, heading, member_at, row_read, rows_read, table_of}
use Rattle.rx_books_upkeep.specs.TableAnswer.{wants_memory}

-- after a line that is read come the others
pub rows_step : (n : ℕ) (es fs : Entries) (line rest : List ℕ) → row_read n es line ≡ Ok fs
    → rows_read n es (line ∷ lines rest) ≡ rows_read (n + 1) fs (lines rest)
unfolding rows_read
rows_step n es fs line rest read =
    let more = lines_cons rest in
    rw (more.2, read) refl

-- a line's fault is that of the lines
pub rows_fault : (n : ℕ) (es : Entries) (line rest : List ℕ) (f : TableFault) → row_read n es line ≡ Err f
    → rows_read n es (line ∷ lines rest) ≡ Err f
unfolding rows_read
rows_fault n es line rest f read =
    let more = lines_cons rest in
    rw (more.2, read) refl

-- the end of the text
pub rows_over : (n : ℕ) (es : Entries) (rest : List ℕ)
    → rows_read n es (rest ∷ []) ≡ cond (eqb (length rest) 0) (Ok es) (Err (fault.Unended n))
unfolding rows_read
rows_over n es rest = refl

pub unless_so : {P Q : Type 0} (f : TableFault) → (P → Q) → outcome.UnlessMemory wants_memory f P
    → outcome.UnlessMemory wants_memory f Q
unless_so fault.Memory h p = tt
unless_so f h p = h p

-- ---- the heading

pub unheaded : (text : List ℕ) → lines text ≡ text ∷ [] → headed (lines text) ≡ Err fault.Heading
unfolding headed
unheaded text one = rw one refl

pub other_heading : (first rest : List ℕ) → pointwise nat_eq first heading ≡ false
    → headed (first ∷ lines rest) ≡ Err fault.Heading
unfolding headed
other_heading first rest other =
    let more = lines_cons rest in
    rw (more.2, other) refl

pub heading_step : (first rest : List ℕ) → pointwise nat_eq first heading ≡ true
    → headed (first ∷ lines rest) ≡ rows_read 2 [] (lines rest)
unfolding headed
heading_step first rest same =
    let more = lines_cons rest in
    rw (more.2, same) refl

-- ---- the whole text

pub few_read : (text : List ℕ) (es : Entries) → line_feeds text ≤ 1_000_000 → headed (lines text) ≡ Ok es
    → table_of text ≡ Ok (map member_at es)
few_read text es few is =
    let small : ltb 1_000_000 (line_feeds text) ≡ false = le-ltb _ _ few in
    rw (small, is) refl

-- ---- the members that are listed

below : (k : MemberKey) (es : Entries) → AllByRecursion (λ y. member_cmp k y ≡ Less) (keys_of es)
    → IsBelow member_cmp member_key k (map member_at es)
below k [] all = tt
below k (e ∷ es) all = (all.0, below k es all.1)

rises : (es : Entries) → IsStrictlySortedBy member_cmp (keys_of es) → IsAscending member_cmp member_key (map member_at es)
unfolding IsStrictlySortedBy
rises [] sorted = tt
rises (e ∷ es) sorted = (below e.0 es sorted.0, rises es sorted.1)

pub members_rise : (es : Entries) → IsStrictlySortedBy member_cmp (keys_of es)
    → is_ascending member_cmp member_key (map member_at es) ≡ true
members_rise es sorted = is_ascending-from_fact member_cmp member_total member_key (map member_at es) (rises es sorted)

-- ---- a comparison and its answer

pub turned_false : (b : Bool) → true ≡ not b → b ≡ false
turned_false true e = e
turned_false false e = refl

pub turned_true : (b : Bool) → false ≡ not b → b ≡ true
turned_true true e = refl
turned_true false e = e
