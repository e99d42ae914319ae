-- Meaning: the records of a batch that name one plan, and what its run replies to them (docs/FORMATS.md, "Several plans").
use Rattle.std.specs.Prelude.{◌≡◌, ◌<◌, ℕ, ◌-◌, true, List, [], map, length, slice_index_or}
use Rattle.rx_d0_values.specs.declared.reply.Outcome.TheVariants as outcome
use Rattle.rx_d0_values.specs.declared.reply.Reply.{Reply}
use Rattle.rx_fields.specs.declared.door.Door.{Door}
use Rattle.rx_schedule.specs.Shards.{places_of}
use Rattle.rx_switch.specs.Output.{replies}
use Rattle.rx_switch.specs.Routed.{OnePlan, Switched, are_apart, door_of, doors_of, is_own, request_at, run_of}

-- the places of the records that name the plan at a door, in file order
abbrev pub own_places : Switched → Door → List ℕ
own_places x door = places_of (is_own x door) (length x.details)

-- these records, each with its place
abbrev pub own_records : Switched → Door → List (ℕ × List ℕ)
own_records x door = map (λ place. (place, request_at x place)) (own_places x door)

abbrev pub no_reply : Reply
no_reply =
    record {
      echo = record { version = []; code = []; qualifier = []; provider = []; date = [] };
      outcome = outcome.Heard [];
    }

-- the replies that a plan's run of the whole batch gives to its own records
abbrev pub run_replies : Switched → OnePlan → List Reply
run_replies x p = map (λ place. slice_index_or (replies (run_of x p)) (place - 1) no_reply) (own_places x (door_of p))

-- one of the plans, no two of which have one door
pub record IsPlanOf (x : Switched) (p : OnePlan) : Type 0 where
  pub apart : are_apart (doors_of x.plans) ≡ true
  pub number : ℕ
  pub low : number < length x.plans
  pub is : slice_index_or x.plans number p ≡ p
