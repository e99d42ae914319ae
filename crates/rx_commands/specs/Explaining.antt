-- Meaning: what `explain` prints, and how it ends.
use Rattle.std.specs.Prelude.{◌≡◌, ℕ, ◌&&◌, nat_le, Bool, true, false, ◌||◌, if◌then◌else◌, List, [], ◌++◌}
use Rattle.std.specs.Prelude.{Option, Some, None, is_some, length}
use Rattle.std.specs.List.{flat_map, list_any}
use Rattle.rx_batch.specs.Fault.{UnlessMemory}
use Rattle.rx_batch.specs.Reading.{HasFault}
use Rattle.rx_batch.specs.declared.batch.Batch.{Batch}
use Rattle.rx_batch.specs.declared.detail.Detail.{Detail}
use Rattle.rx_batch.specs.declared.fault.BatchFault.{BatchFault}
use Rattle.rx_d0_values.specs.declared.transmission.Body.{Body}
use Rattle.rx_d0_values.specs.declared.transmission.Body.TheVariants as body
use Rattle.rx_d0_values.specs.declared.transmission.Rejected.{Rejected}
use Rattle.rx_d0_values.specs.declared.transmission.Transmission.{Transmission}
use Rattle.rx_explain.specs.Spots.{item}
use Rattle.rx_explain.specs.declared.at.At.{At}
use Rattle.rx_explain.specs.declared.explanation.Explanation.{Explanation}
use Rattle.rx_explain.specs.declared.finding.Query.{Query}
use Rattle.rx_explain.specs.declared.finding.Query.TheVariants as query
use Rattle.rx_explain_text.specs.Absent.{absent_line}
use Rattle.rx_explain_text.specs.Json.{explanation_object, rejection_object}
use Rattle.rx_explain_text.specs.Rejections.{rejection_words}
use Rattle.rx_explain_text.specs.Texts.{explanation_words}
use Rattle.rx_explain_text.specs.declared.compared.Compared.{Compared}
use Rattle.rx_explain_text.specs.declared.counted.Listing.TheVariants.{Largest, All}
use Rattle.rx_explain_text.specs.declared.compared.Compared.TheVariants.{Same, Differs, Absent, OtherBatch}
use Rattle.rx_show.specs.ResponseFile.{IsResponse, as_batch}
use Rattle.rx_switch.specs.Planned.{IsNotPlanned}
use Rattle.rx_commands.specs.Compared.{compared_of}
use Rattle.rx_commands.specs.Retraced.{IsRetraced}
use Rattle.rx_commands.specs.Tiers.{table_of, tier_of}
use Rattle.rx_commands.specs.declared.explain_fault.ExplainFault.{ExplainFault}
use Rattle.rx_commands.specs.declared.explain_fault.ExplainFault.TheVariants as fault
use Rattle.rx_commands.specs.declared.manner.Manner.{Manner}
use Rattle.rx_commands.specs.declared.manner.Manner.TheVariants as manner
use Rattle.rx_commands.specs.declared.printed.Outcome.{Outcome}
use Rattle.rx_commands.specs.declared.printed.Outcome.TheVariants as outcome
use Rattle.rx_commands.specs.declared.printed.Printed.{Printed}
use Rattle.rx_commands.specs.declared.retraced.Retraced.{Retraced}

-- ---- a record

-- the text of the record at a place
abbrev pub text_of : Option Detail → List ℕ
text_of None = []
text_of (Some d) = d.text

abbrev pub request_at : List Detail → ℕ → List ℕ
request_at details place = text_of (item details place)

-- the rejected header of a record that has this many answers
abbrev pub rejected_in : Body → ℕ → Option Rejected
rejected_in (body.Heard h) nth = None
rejected_in (body.Rejected r) nth = if nat_le 1 nth && nat_le nth r.groups then Some r else None

abbrev pub rejected_of : Option Transmission → ℕ → Option Rejected
rejected_of None nth = None
rejected_of (Some t) nth = rejected_in t.body nth

-- that of the record at a place, which has an answer there
abbrev pub rejected_at : List Transmission → At → Option Rejected
rejected_at asked at = rejected_of (item asked at.place) at.nth

-- where a record, or one of its transactions, is asked for by its place
abbrev pub place_asked : Query → Option At
place_asked (query.Place place) = Some (record { place = place; nth = 1 })
place_asked (query.One at) = Some at
place_asked other = None

-- ---- the response file

-- what the response file has at a place, if there is one
abbrev pub compared_in : Retraced → Option Batch → ℕ → Option Compared
compared_in r None place = None
compared_in r (Some file) place = Some (compared_of r.lot r.details r.replies.items file place)

-- it has another reply there than the replay's, or none, or answers another batch
abbrev pub is_other : Option Compared → Bool
is_other None = false
is_other (Some Same) = false
is_other (Some Differs) = true
is_other (Some Absent) = true
is_other (Some (OtherBatch lot)) = true

-- ---- the texts

-- of a record whose header is rejected
abbrev pub rejected_text : Manner → Retraced → ℕ → Rejected → Option Compared → List ℕ
rejected_text manner.Json r place rejected c = rejection_object place rejected (request_at r.details place) c
rejected_text manner.Words r place rejected c =
    rejection_words r.figures.door place rejected (request_at r.details place) c
rejected_text manner.Full r place rejected c =
    rejection_words r.figures.door place rejected (request_at r.details place) c

abbrev pub rejected_text_if : Manner → Retraced → Option Batch → ℕ → Option Rejected → List ℕ
rejected_text_if m r response place None = []
rejected_text_if m r response place (Some rejected) =
    rejected_text m r place rejected (compared_in r response place)

abbrev pub rejected_part : Manner → Retraced → Option Batch → Option At → List ℕ
rejected_part m r response None = []
rejected_part m r response (Some at) = rejected_text_if m r response at.place (rejected_at r.asked.items at)

-- of a transaction, with the bytes of its own record and the tier of its own product
abbrev pub one_text : Manner → Retraced → Explanation → Option Compared → List ℕ
one_text manner.Json r x c =
    explanation_object r.lot r.figures x (request_at r.details x.at.place) (tier_of (table_of r.tiers) x.transaction) c
one_text manner.Words r x c = explanation_words Largest r.lot r.figures x (request_at r.details x.at.place)
    (tier_of (table_of r.tiers) x.transaction) c
one_text manner.Full r x c = explanation_words All r.lot r.figures x (request_at r.details x.at.place)
    (tier_of (table_of r.tiers) x.transaction) c

abbrev pub option_text : Manner → Retraced → Option Batch → Option Explanation → List ℕ
option_text m r response None = []
option_text m r response (Some x) = one_text m r x (compared_in r response x.at.place)

-- of the record that is asked for, where its header is rejected, and of each explanation, in order
abbrev pub shown_text : Manner → Retraced → Query → Option Batch → List ℕ
shown_text m r w response =
    rejected_part m r response (place_asked w) ++ flat_map (option_text m r response) r.explanations.items

-- ---- whether one of them isn't in the response file

abbrev pub rejected_if_other : Retraced → Option Batch → ℕ → Option Rejected → Bool
rejected_if_other r response place None = false
rejected_if_other r response place (Some rejected) = is_other (compared_in r response place)

abbrev pub rejected_is_other : Retraced → Option Batch → Option At → Bool
rejected_is_other r response None = false
rejected_is_other r response (Some at) = rejected_if_other r response at.place (rejected_at r.asked.items at)

abbrev pub option_is_other : Retraced → Option Batch → Option Explanation → Bool
option_is_other r response None = false
option_is_other r response (Some x) = is_other (compared_in r response x.at.place)

abbrev pub is_any_other : Retraced → Query → Option Batch → Bool
is_any_other r w response =
    rejected_is_other r response (place_asked w) || list_any (option_is_other r response) r.explanations.items

-- ---- whether anything is found

abbrev pub rejected_is_found : Retraced → Option At → Bool
rejected_is_found r None = false
rejected_is_found r (Some at) = is_some (rejected_at r.asked.items at)

abbrev pub is_found : Retraced → Query → Bool
is_found r w = rejected_is_found r (place_asked w) || list_any is_some r.explanations.items

-- ---- the command

-- these texts, or, if nothing is found, what isn't, and what the batch has
abbrev pub text_if : Retraced → Query → Bool → List ℕ → List ℕ
text_if r w found text = if found then text else absent_line w (length r.details) r.near.items

abbrev pub outcome_by : Bool → Bool → Outcome
outcome_by found differs =
    if found then (if differs then outcome.Differs else outcome.Done) else outcome.NotFound

-- what was asked for is explained
pub record IsPrinted (m : Manner) (r : Retraced) (w : Query) (response : Option Batch) (p : Printed) : Type 0 where
  pub text_is : p.text.items ≡ text_if r w (is_found r w) (shown_text m r w response)
  pub outcome_is : p.outcome ≡ outcome_by (is_found r w) (is_any_other r w response)

-- the response file of these bytes, where they are given
abbrev pub IsFileOf : Option (List ℕ) → Option Batch → Type 0
IsFileOf None file = file ≡ None
IsFileOf (Some bytes) file = (read : Batch) × IsResponse bytes read.head read.details × (file ≡ Some read)

pub record PrintsWith (r : Retraced) (w : Query) (response : Option (List ℕ)) (m : Manner) (p : Printed) : Type 0 where
  pub file : Option Batch
  pub file_is : IsFileOf response file
  pub printed : IsPrinted m r w file p

-- sheet, books and batch are accepted, and so is the response file, where its bytes are given; this is what is printed of
-- the batch's transactions that are asked for
pub record Prints (sheet books batch : List ℕ) (w : Query) (response : Option (List ℕ)) (m : Manner) (p : Printed) : Type 0 where
  pub retraced : Retraced
  pub retraced_is : IsRetraced sheet books batch w retraced
  pub printed : PrintsWith retraced w response m p

-- the bytes are no response file
abbrev pub IsNoResponse : Option (List ℕ) → BatchFault → Type 0
IsNoResponse None f = ⊥
IsNoResponse (Some bytes) f = UnlessMemory f (HasFault (as_batch bytes) f)

-- an input is refused, or else the response file
abbrev pub IsNotExplained : (sheet books batch : List ℕ) → Option (List ℕ) → ExplainFault → Type 0
IsNotExplained sheet books batch response (fault.Refused f) = IsNotPlanned sheet books batch f
IsNotExplained sheet books batch response (fault.Response f) = IsNoResponse response f
