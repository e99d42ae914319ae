-- Meaning: what the switch answers to a plan's records, next to the response file of that plan's own run
-- (docs/GUARANTEES.md, "Several plans").
use Rattle.std.specs.Prelude.{◌≡◌, ◌≤◌, ℕ, ◌-◌, true, List, length, slice_index_or, Ok}
use Rattle.rx_batch.specs.Grammar.{IsFile}
use Rattle.rx_batch.specs.Writing.{file_text}
use Rattle.rx_batch.specs.declared.detail.Detail.{Detail}
use Rattle.rx_batch.specs.declared.head.Head.{Head}
use Rattle.rx_d0_request.specs.Doors.{door_in, names_plan}
use Rattle.rx_ledger.specs.Plan.{Plan}
use Rattle.rx_sheet.specs.SheetText.{sheet_of_text}
use Rattle.rx_switch.specs.Routed.{no_detail}

-- two response files of one batch have one header, and the same detail at each place whose record names the sheet's plan
pub record AnswersAlike (sheet batch ours theirs : List ℕ) : Type 0 where
  pub plan : Plan
  pub head : Head
  pub details : List Detail
  pub sheet_is : sheet_of_text sheet ≡ Ok plan
  pub batch_is : IsFile batch head details
  pub response_head : Head
  pub our : List Detail
  pub their : List Detail
  pub ours_are : ours ≡ file_text response_head our
  pub theirs_are : theirs ≡ file_text response_head their
  pub our_long : length our ≡ length details
  pub their_long : length their ≡ length details
  pub same : (place : ℕ) → 1 ≤ place → place ≤ length details
      → names_plan (door_in (slice_index_or details (place - 1) no_detail).text) plan.figures.door ≡ true
      → slice_index_or our (place - 1) no_detail ≡ slice_index_or their (place - 1) no_detail
