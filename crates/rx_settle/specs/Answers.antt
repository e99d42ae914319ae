-- Meaning: what a reply answers, and how answers are counted.
use Rattle.std.specs.Prelude.{ℕ, ◌+◌, Bool, true, false, List, replicate, None, count_by, sum_by}
use Rattle.std.specs.List.{flat_map}
use Rattle.rx_d0_values.specs.Priced.{total_paid}
use Rattle.rx_d0_values.specs.declared.reply.Answer.{Answer}
use Rattle.rx_d0_values.specs.declared.reply.Answer.TheVariants.{Paid, Twice, Approved, Refused}
use Rattle.rx_d0_values.specs.declared.reply.Outcome.{Outcome}
use Rattle.rx_d0_values.specs.declared.reply.Outcome.TheVariants as outcome
use Rattle.rx_d0_values.specs.declared.reply.Reply.{Reply}
use Rattle.rx_settle.specs.declared.tally.Tally.{Tally}

-- the answers of a reply; a rejected header answers each of its groups with its codes
abbrev pub answers_in : Outcome → List Answer
answers_in (outcome.Rejected r) = replicate r.groups (Refused (record { codes = r.codes; reference = None }))
answers_in (outcome.Heard answers) = answers

-- the answers of all replies
abbrev pub answers_of : List Reply → List Answer
answers_of replies = flat_map (λ r. answers_in r.outcome) replies

-- status P
abbrev pub is_paid : Answer → Bool
is_paid (Paid p) = true
is_paid (Twice p) = false
is_paid (Approved a) = false
is_paid (Refused r) = false

-- status D
abbrev pub is_duplicate : Answer → Bool
is_duplicate (Paid p) = false
is_duplicate (Twice p) = true
is_duplicate (Approved a) = false
is_duplicate (Refused r) = false

-- status A
abbrev pub is_approved : Answer → Bool
is_approved (Paid p) = false
is_approved (Twice p) = false
is_approved (Approved a) = true
is_approved (Refused r) = false

-- status R
abbrev pub is_rejected : Answer → Bool
is_rejected (Paid p) = false
is_rejected (Twice p) = false
is_rejected (Approved a) = false
is_rejected (Refused r) = true

-- what status P pays: F9; any other status pays nothing
abbrev pub paid_out : Answer → ℕ
paid_out (Paid p) = total_paid p.pricing
paid_out (Twice p) = 0
paid_out (Approved a) = 0
paid_out (Refused r) = 0

-- what status A takes back: F9; any other status takes nothing back
abbrev pub taken_back : Answer → ℕ
taken_back (Paid p) = 0
taken_back (Twice p) = 0
taken_back (Approved a) = a.total_paid
taken_back (Refused r) = 0

-- the answers counted by status, and the sums of F9 over P and over A
abbrev pub tally : List Answer → Tally
tally answers =
    record {
      paid = count_by is_paid answers;
      duplicate = count_by is_duplicate answers;
      approved = count_by is_approved answers;
      rejected = count_by is_rejected answers;
      paid_out = sum_by paid_out answers;
      taken_back = sum_by taken_back answers;
    }

-- two tallies together
abbrev pub plus : Tally → Tally → Tally
plus s t =
    record {
      paid = s.paid + t.paid;
      duplicate = s.duplicate + t.duplicate;
      approved = s.approved + t.approved;
      rejected = s.rejected + t.rejected;
      paid_out = s.paid_out + t.paid_out;
      taken_back = s.taken_back + t.taken_back;
    }

-- all numbers of a tally together, which none of them passes
abbrev pub weight : Tally → ℕ
weight t = t.paid + t.duplicate + t.approved + t.rejected + t.paid_out + t.taken_back
