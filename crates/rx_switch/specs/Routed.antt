-- Meaning: what a switch gives: one batch, several plans, each record adjudicated by the plan that it names
-- (docs/FORMATS.md, "Several plans").
use Rattle.std.specs.Prelude.{◌≡◌, ℕ, ◌-◌, Bool, true, not, ◌&&◌, if◌then◌else◌, List, [], ◌∷◌, map, length, slice_index_or, Ok}
use Rattle.std.specs.List.{AllZip, list_any, range_with_len}
use Rattle.rx_batch.specs.Grammar.{IsFile}
use Rattle.rx_batch.specs.declared.detail.Detail.{Detail}
use Rattle.rx_batch.specs.declared.head.Head.{Head}
use Rattle.rx_books_store.specs.BooksFile.{IsBooksText}
use Rattle.rx_books_store.specs.BooksText.{books_text}
use Rattle.rx_books_text.specs.declared.version.Version.TheVariants.{Three}
use Rattle.rx_d0_request.specs.Doors.{door_in, names_plan, stray_reply}
use Rattle.rx_d0_values.specs.declared.reply.Reply.{Reply}
use Rattle.rx_fields.specs.Numbered.{Span}
use Rattle.rx_fields.specs.declared.door.Door.{Door}
use Rattle.rx_fields.specs.declared.stamp.Stamp.{Stamp}
use Rattle.rx_ledger.specs.Ledger.{Ledger}
use Rattle.rx_ledger.specs.Plan.{Plan}
use Rattle.rx_response.specs.Response.{response_text}
use Rattle.rx_schedule.specs.Shards.{places_of}
use Rattle.rx_settle.specs.Settlement.{settlement_text}
use Rattle.rx_sheet.specs.SheetText.{sheet_of_text}
use Rattle.rx_switch.specs.Output.{Accepted, Given, ledger_at_end, replies, stamp_for}

-- ---- what is given, and what it stands for

-- the texts of a plan's sheet and of its opening books
pub record PlanTexts : Type 0 where
  pub sheet : List ℕ
  pub books : List ℕ

-- what a switch is given: the plans in the order of the plans file, the batch file, the stamp, the number of workers
pub record SwitchGiven : Type 0 where
  pub plans : List PlanTexts
  pub batch : List ℕ
  pub stamp : List ℕ
  pub workers : ℕ

-- the same for another number of workers
abbrev pub with_workers : SwitchGiven → ℕ → SwitchGiven
with_workers g workers = record { plans = g.plans; batch = g.batch; stamp = g.stamp; workers = workers }

-- what the run of one of the plans is given: the whole batch
abbrev pub given_to : SwitchGiven → PlanTexts → Given
given_to g texts =
    record { sheet = texts.sheet; books = texts.books; batch = g.batch; stamp = g.stamp; workers = g.workers }

-- what a plan's texts stand for
pub record OnePlan : Type 0 where
  pub plan : Plan
  pub period : Span
  pub opening : Ledger

pub record PlanStandsFor (texts : PlanTexts) (p : OnePlan) : Type 0 where
  pub sheet : sheet_of_text texts.sheet ≡ Ok p.plan
  pub books : IsBooksText texts.books p.period p.opening

-- what the inputs of a switch stand for
pub record Switched : Type 0 where
  pub stamp : Stamp
  pub plans : List OnePlan
  pub head : Head
  pub details : List Detail

abbrev pub door_of : OnePlan → Door
door_of p = p.plan.figures.door

abbrev pub doors_of : List OnePlan → List Door
doors_of plans = map door_of plans

-- no two plans have one door
abbrev pub are_apart : List Door → Bool
are_apart [] = true
are_apart (door ∷ doors) = not (list_any (names_plan door) doors) && are_apart doors

-- these texts stand for these plans, place by place, and no two plans have one door
pub record AreAccepted (texts : List PlanTexts) (plans : List OnePlan) : Type 0 where
  pub each : AllZip PlanStandsFor texts plans
  pub apart : are_apart (doors_of plans) ≡ true

-- the inputs are accepted, and stand for this
pub record SwitchStandsFor (g : SwitchGiven) (x : Switched) : Type 0 where
  pub stamp : stamp_for g.workers g.stamp ≡ Ok x.stamp
  pub plans : AreAccepted g.plans x.plans
  pub batch : IsFile g.batch x.head x.details

-- what the inputs of one plan's run stand for
abbrev pub run_of : Switched → OnePlan → Accepted
run_of x p =
    record { stamp = x.stamp; plan = p.plan; period = p.period; opening = p.opening; head = x.head; details = x.details }

-- ---- which plan answers a record

abbrev pub no_detail : Detail
no_detail = record { reference = []; text = [] }

-- the request at a place, places being counted from 1
abbrev pub request_at : Switched → ℕ → List ℕ
request_at x place = (slice_index_or x.details (place - 1) no_detail).text

-- the record at a place names the plan at a door
abbrev pub is_own : Switched → Door → ℕ → Bool
is_own x door place = names_plan (door_in (request_at x place)) door

-- the reply to the record at a place: of the plans, the first that it names answers it, as in its run of the whole batch;
-- where it names none, it is a stray of all
abbrev pub reply_among : Switched → List OnePlan → ℕ → Reply
reply_among x [] place = stray_reply (doors_of x.plans) (request_at x place)
reply_among x (p ∷ plans) place =
    if is_own x (door_of p) place
    then slice_index_or (replies (run_of x p)) (place - 1) (stray_reply (doors_of x.plans) (request_at x place))
    else reply_among x plans place

abbrev pub routed_reply : Switched → ℕ → Reply
routed_reply x place = reply_among x x.plans place

-- the replies to all records, in file order
abbrev pub routed_replies : Switched → List Reply
routed_replies x = map (routed_reply x) (range_with_len 1 (length x.details))

-- those to the records that name a plan
abbrev pub own_replies : Switched → OnePlan → List Reply
own_replies x p = map (routed_reply x) (places_of (is_own x (door_of p)) (length x.details))

-- ---- the texts

-- of a plan: the end books, which are those of its run, and the settlement of the replies to its records
pub record PlanOutput : Type 0 where
  pub books : List ℕ
  pub settlement : List ℕ

-- of the switch: the response file, the settlement of all replies, and the texts of each plan
pub record SwitchTexts : Type 0 where
  pub response : List ℕ
  pub settlement : List ℕ
  pub plans : List PlanOutput

abbrev pub plan_output : Switched → OnePlan → PlanOutput
plan_output x p =
    record {
      books = books_text Three p.plan.figures.period (ledger_at_end (run_of x p));
      settlement = settlement_text x.head.lot x.stamp (own_replies x p);
    }

abbrev pub switch_texts : Switched → SwitchTexts
switch_texts x =
    record {
      response = response_text x.head x.stamp x.details (routed_replies x);
      settlement = settlement_text x.head.lot x.stamp (routed_replies x);
      plans = map (plan_output x) x.plans;
    }

-- the inputs are accepted, and these are their texts
pub record IsRouted (g : SwitchGiven) (texts : SwitchTexts) : Type 0 where
  pub inputs : Switched
  pub accepted : SwitchStandsFor g inputs
  pub texts_are : texts ≡ switch_texts inputs
