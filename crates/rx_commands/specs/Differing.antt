-- Meaning: which answers of a batch differ between two adjudications of it, and what the difference comes to.
use Rattle.std.specs.Prelude.{◌≡◌, ◌≢◌, ◌↔◌, ℕ, ◌+◌, ℤ, pos, ◌+ℤ◌, ◌-ℤ◌, Bool, true, false, ◌&&◌, if◌then◌else◌, List, [], ◌∷◌, map}
use Rattle.std.specs.Prelude.{Option, Some, None}
use Rattle.std.specs.List.{AllByRecursion, flat_map, zip}
use Rattle.rx_d0_reply.specs.Text.{reply_text}
use Rattle.rx_d0_values.specs.contracts.reply.AnswerPartialEq.TheImpl.{ghosts as answer_eq}
use Rattle.rx_d0_values.specs.declared.reply.Outcome.{Outcome}
use Rattle.rx_d0_values.specs.declared.reply.Outcome.TheVariants.{Rejected, Heard}
use Rattle.rx_d0_values.specs.declared.reply.Reply.{Reply}
use Rattle.rx_explain.specs.Spots.{item}
use Rattle.rx_report.specs.declared.line.Line.{Line}
use Rattle.rx_settle.specs.Answers.{answers_of, paid_out, taken_back}
use Rattle.rx_settle.specs.Settlement.{net}
use Rattle.rx_commands.specs.Lines.{at_of}
use Rattle.rx_commands.specs.declared.batch_report.Report.{Report}

-- ---- an answer with the status of its header

abbrev pub is_accepted : Outcome → Bool
is_accepted (Rejected r) = false
is_accepted (Heard answers) = true

-- whether there is a reply, with an accepted header
abbrev pub accepted_in : Option Reply → Bool
accepted_in None = false
accepted_in (Some r) = is_accepted r.outcome

-- an answer's line, with whether the header of its reply is accepted
pub record Entry : Type 0 where
  pub accepted : Bool
  pub line : Line

abbrev pub entry_in : List Reply → Line → Entry
entry_in replies l = record { accepted = accepted_in (item replies l.place); line = l }

abbrev pub entries_of : List Reply → List Line → List Entry
entries_of replies lines = map (entry_in replies) lines

-- what a batch is answered, in file order
abbrev pub entries_by : Report → List Entry
entries_by r = entries_of r.batch.replies.items r.lines.items

-- ---- what differs

-- both answers are equal, under headers that are both accepted or both rejected
abbrev pub IsOne : Entry → Entry → Type 0
IsOne t u = (t.accepted ≡ u.accepted) × (t.line.answer ≡ u.line.answer)

-- the same as a test
abbrev pub same_status : Bool → Bool → Bool
same_status true true = true
same_status true false = false
same_status false true = false
same_status false false = true

abbrev pub are_one : Entry → Entry → Bool
are_one t u = same_status t.accepted u.accepted && answer_eq.eq t.line.answer u.line.answer

-- the lines of an answer that differs
pub record Differing : Type 0 where
  pub given : Line
  pub changed : Line

abbrev pub both : Line → Line → Differing
both given changed = record { given = given; changed = changed }

-- those of two answers, unless they are one
abbrev pub differing_by : Bool → Line → Line → List Differing
differing_by is_one given changed = if is_one then [] else both given changed ∷ []

abbrev pub differing_in : Entry → Entry → List Differing
differing_in t u = differing_by (are_one t u) t.line u.line

-- those of two lists of answers to the same transactions, in their order
abbrev pub differing_of : List Entry → List Entry → List Differing
differing_of ts us = flat_map (λ (e : Entry × Entry). differing_in e.0 e.1) (zip ts us)

-- the answers of a batch that differ, in file order
abbrev pub differing : Report → Report → List Differing
differing r s = differing_of (entries_by r) (entries_by s)

-- ---- what it comes to

-- what the plan pays more by an answer that differs, and what it pays less
abbrev pub more : Differing → ℕ
more d = paid_out d.changed.answer + taken_back d.given.answer

abbrev pub less : Differing → ℕ
less d = paid_out d.given.answer + taken_back d.changed.answer

-- by how much the net is more for it
abbrev pub gain : Differing → ℤ
gain d = pos (more d) -ℤ pos (less d)

-- for all of them together
abbrev pub change : List Differing → ℤ
change [] = pos 0
change (d ∷ ds) = gain d +ℤ change ds

-- ---- that these are exactly the answers that differ

-- no line is about the record at this place
abbrev pub HasNoLine : ℕ → List Differing → Type 0
HasNoLine place ds = AllByRecursion (λ (d : Differing). d.given.place ≢ place) ds

-- What is compared are all answers of either side, in order, to the same transactions; two of them have no line exactly where they
-- are one; a record without a line has the same reply on both sides, byte for byte; the nets differ by the sum of the lines.
pub record IsWhole (r s : Report) (ds : List Differing) : Type 0 where
  pub given_all : map (λ (t : Entry). t.line.answer) (entries_by r) ≡ answers_of r.batch.replies.items
  pub changed_all : map (λ (t : Entry). t.line.answer) (entries_by s) ≡ answers_of s.batch.replies.items
  pub aligned : map at_of r.lines.items ≡ map at_of s.lines.items
  pub exact : (t u : Entry) → (differing_in t u ≡ []) ↔ IsOne t u
  pub others : (place : ℕ) → HasNoLine place ds
      → item (map reply_text r.batch.replies.items) place ≡ item (map reply_text s.batch.replies.items) place
  pub nets : net s.settled.total -ℤ net r.settled.total ≡ change ds
