-- Plumbing: fills, counted: how many standing claims there are of a member, a product, a date and a days supply.
use Rattle.std.specs.Prelude.{◌≡◌, ℕ, suc, ◌+◌, ◌-◌, ◌*◌, ◌%◌, ◌^◌, Bool, false, not, true, ◌&&◌, ◌==◌, nat_lt, if◌then◌else◌}
use Rattle.std.specs.Prelude.{List, [], ◌∷◌, sum_by, length, slice_index_or, unwrap_or, ◌-ℤ◌, ◌*ℤ◌, ℤ, pos, int_lt}
use Rattle.std.specs.Option.{option_map}
use Rattle.std.specs.Ordering.{int_cmp, is_eq, is_le, nat_cmp, ordering_then}
use Rattle.std.specs.declared.cmp.Ordering.{Ordering}
use Rattle.rx_fields.specs.Calendar.{Civil, day_cmp, day_number}
use Rattle.rx_d0_values.specs.declared.bill.BillParts.{BillParts}
use Rattle.rx_sorted.specs.Ascending.{contains_key, has_key, item_at, put}
use Rattle.rx_ledger.specs.declared.figures.Figures.{Figures}
use Rattle.rx_ledger.specs.declared.member.Member.{Member}
use Rattle.rx_ledger.specs.declared.member.MemberKey.{MemberKey}
use Rattle.rx_ledger.specs.declared.row.Row.{Row}
use Rattle.rx_ledger.specs.Members.{member_cmp, member_key}
use Rattle.rx_ledger.specs.Rows.{member_of_row}
use Rattle.rx_serial.specs.declared.fill.Course.{Course}
use Rattle.rx_serial.specs.declared.fill.Entry.{Entry}
use Rattle.rx_serial.specs.declared.fill.Fill.{Fill}
use Rattle.rx_serial.specs.declared.fill.FillKey.{FillKey}
use Rattle.rx_serial.specs.declared.fill.FirstDay.{FirstDay}
use Rattle.rx_serial.specs.declared.fill.When.{When}
use Rattle.rx_serial.specs.declared.marks.Marks.{Marks}
use Rattle.rx_serial.specs.declared.refill.Refill.{Refill}

-- by member, then product
abbrev pub course_cmp : Course → Course → Ordering
course_cmp a b = ordering_then (nat_cmp a.holder b.holder) (nat_cmp a.product b.product)

-- by the day, then the days supply
abbrev pub when_cmp : When → When → Ordering
when_cmp a b =
    ordering_then (int_cmp a.number b.number) (ordering_then (day_cmp a.date b.date) (nat_cmp a.days b.days))

-- by course, then from when it is
abbrev pub fill_cmp : FillKey → FillKey → Ordering
fill_cmp a b = ordering_then (course_cmp a.course b.course) (when_cmp a.when b.when)

abbrev pub fill_key : Fill → FillKey
fill_key f = f.key

-- the place of a member in the list, which is its length where nobody has the key
abbrev pub holder_of : List Member → MemberKey → ℕ
holder_of [] k = 0
holder_of (m ∷ ms) k = if has_key member_cmp member_key k m then 0 else suc (holder_of ms k)

-- from when a fill is
abbrev pub when_of : Civil → ℕ → When
when_of date days = record { number = day_number date; date = date; days = days }

-- the fill that a row is, of a member at this place
abbrev pub fill_at : ℕ → Row → FillKey
fill_at holder r =
    record { course = record { holder = holder; product = r.product }; when = when_of r.key.date r.days }

-- the fill that a row is
abbrev pub fill_of : List Member → Row → FillKey
fill_of members r = fill_at (holder_of members (member_of_row r)) r

-- 1 where the row is this fill
abbrev pub one_of : List Member → FillKey → Row → ℕ
one_of members k r = if is_eq (fill_cmp (fill_of members r) k) then 1 else 0

-- how many of the rows are this fill
abbrev pub fills_in : List Member → List Row → FillKey → ℕ
fills_in members rows k = sum_by (one_of members k) rows

-- how many of this fill an entry counts, and how many the entries of transactions count together
abbrev pub count_of : FillKey → Fill → ℕ
count_of k f = if is_eq (fill_cmp f.key k) then f.count else 0

abbrev pub count_among : List Entry → FillKey → ℕ
count_among entries k = sum_by (λ e. count_of k e.fill) entries

-- how many there are by a list of counts, where a fill without an entry counts nothing
abbrev pub count_at : List Fill → FillKey → ℕ
count_at fills k = unwrap_or (option_map (λ f. f.count) (item_at fill_cmp fill_key fills k)) 0

-- the counts of these fills are those of the rows
abbrev pub AreCounted : (FillKey → Bool) → List Member → List Row → List Fill → Type 0
AreCounted counted members rows fills =
    (k : FillKey) → counted k ≡ true → count_at fills k ≡ fills_in members rows k

-- the counts with those of one more entry, and with one fill less where it has an entry
abbrev pub tallied : List Fill → Fill → List Fill
tallied fills f = put fill_cmp fill_key fills (record { key = f.key; count = count_at fills f.key + f.count })

abbrev pub lowered : List Fill → FillKey → List Fill
lowered fills k =
    if contains_key fill_cmp fill_key fills k
    then put fill_cmp fill_key fills (record { key = k; count = count_at fills k - 1 }) else fills

-- ---- marks

-- the place of a course's mark among this many
abbrev pub mark_of : ℕ → Course → ℕ
mark_of marks c = ((c.holder * 11400714819323198485) % 2 ^ 64 + c.product) % 2 ^ 64 % marks

-- the course has a mark; others can have the same
abbrev pub has_course_mark : List Bool → Course → Bool
has_course_mark marks c = slice_index_or marks (mark_of (length marks) c) false

-- the member at a place has a mark
abbrev pub has_member_mark : List Bool → ℕ → Bool
has_member_mark marks holder = slice_index_or marks holder false

-- the course and its member have a mark
abbrev pub has_mark : Marks → Course → Bool
has_mark m c = has_member_mark m.members.items c.holder && has_course_mark m.courses.items c

-- ---- what is counted

-- some days of the supply are left on the first day
abbrev pub lasts : FirstDay → When → Bool
lasts first w = int_lt ((first.number -ℤ w.number) *ℤ pos 100) (pos (w.days * 100))

-- the fill is of a course that has a mark, and some of its days are left on the first day
abbrev pub is_counted : Marks → FirstDay → FillKey → Bool
is_counted marks first k = lasts first k.when && has_mark marks k.course

-- ---- a refill

-- a billing as a refill, of a member at this place
abbrev pub refill_of : Figures → Civil → BillParts → ℕ → Refill
refill_of figures date b holder =
    record {
      course = record { holder = holder; product = b.product };
      date = date;
      number = day_number date;
      percent = figures.refill_percent;
    }

-- the fill is of the refill's course
abbrev pub is_own : Refill → FillKey → Bool
is_own f k = (k.course.holder == f.course.holder) && (k.course.product == f.course.product)

-- fewer than the percentage of this many days from a day on are over
abbrev pub are_left : Refill → ℤ → ℕ → Bool
are_left f number days = int_lt ((f.number -ℤ number) *ℤ pos 100) (pos (days * f.percent))

-- the fill is of the course, dated no later, and too few of its days are over
abbrev pub concerns : Refill → FillKey → Bool
concerns f k = is_own f k && is_le (day_cmp k.when.date f.date) && are_left f k.when.number k.when.days

-- a standing claim is such a fill
abbrev pub counts : Refill → Fill → Bool
counts f fill = nat_lt 0 fill.count && concerns f fill.key

-- the fill is of another course, or so early that even the longest days supply would be over
abbrev pub is_early : Refill → ℕ → FillKey → Bool
is_early f longest k = not (is_own f k && are_left f k.when.number longest)

-- the fill stands no later than those of the course
abbrev pub is_not_past : Course → Fill → Bool
is_not_past c fill = is_le (course_cmp fill.key.course c)
