-- Meaning: a join of the response files of the plans' own runs, next to the route of the same plans and batch.
use Rattle.std.specs.Prelude.{◌≡◌, ℕ, List, map, Ok}
use Rattle.std.specs.List.{AllByRecursion, AllZip}
use Rattle.rx_d0_reply.specs.Limits.{IsReply}
use Rattle.rx_response.specs.Response.{response_details, response_head}
use Rattle.rx_sheet.specs.SheetText.{sheet_of_text}
use Rattle.rx_show.specs.ResponseFile.{IsResponse}
use Rattle.rx_switch.specs.Joined.{JoinGiven, JoinTexts, PlanResponse}
use Rattle.rx_switch.specs.Output.{replies}
use Rattle.rx_switch.specs.Routed.{OnePlan, PlanOutput, SwitchTexts, Switched, run_of}

-- the file reads as the response file of the plan's run of the whole batch
pub record ReadsAsRun (x : Switched) (t : PlanResponse) (p : OnePlan) : Type 0 where
  pub sheet : sheet_of_text t.sheet ≡ Ok p.plan
  pub within : AllByRecursion IsReply (replies (run_of x p))
  pub file : IsResponse t.response (response_head x.head x.stamp) (response_details x.details (replies (run_of x p)))

-- the batch is the switch's, and so are the plans, of each of which the response file of its run is given
pub record AreRunsOf (batch : List ℕ) (x : Switched) (j : JoinGiven) : Type 0 where
  pub same : j.batch ≡ batch
  pub each : AllZip (ReadsAsRun x) j.plans x.plans

-- what a switch gives, without the end books
abbrev pub join_of : SwitchTexts → JoinTexts
join_of t =
    record {
      response = t.response;
      settlement = t.settlement;
      settlements = map (λ (o : PlanOutput). o.settlement) t.plans;
    }
