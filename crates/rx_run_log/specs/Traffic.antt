-- Meaning: what passed through a device.
use Rattle.std.specs.Prelude.{◌≡◌, ℕ, ◌-◌, ◌^◌, ◌==◌, List, ◌++◌, count_by, drop, length, min, take}
use Rattle.std.specs.Prelude.{IfOk, IfSome, OnErr, Result, Some, true}
use Rattle.rx_batch.specs.declared.layout.TheConstants.{STX}
use Rattle.rx_io.specs.declared.fault.Failed.{Failed}
use Rattle.rx_run_log.specs.Sums.{IsSumOf}
use Rattle.rx_run_log.specs.declared.traffic.Traffic.{Traffic}
use Rattle.rx_run_log.specs.declared.traffic.TheConstants.{KEPT}

-- the last n items, or all of fewer
abbrev pub last_of : ℕ → List ℕ → List ℕ
last_of n items = drop (length items - n) items

-- how many of the bytes are this one
abbrev pub count_of : ℕ → List ℕ → ℕ
count_of mark bytes = count_by (λ b. b == mark) bytes

-- a count, as far as 64 bits reach
abbrev pub in_64_bits : ℕ → ℕ
in_64_bits n = min n (2 ^ 64 - 1)

-- these bytes passed: the sum, where one is made, the front, the end and the counts are theirs
pub record IsTrafficOf (t : Traffic) (bytes : List ℕ) : Type 0 where
  pub sum : IfSome t.sum (λ sum. IsSumOf sum bytes)
  pub front : t.front.items ≡ take KEPT bytes
  pub end : t.end.items ≡ last_of KEPT bytes
  pub size : t.bytes ≡ in_64_bits (length bytes)
  pub line_feeds : t.line_feeds ≡ in_64_bits (count_of 10 bytes)
  pub starts : t.starts ≡ in_64_bits (count_of STX bytes)

-- these bytes passed after those before
abbrev pub Adds : Traffic → Traffic → List ℕ → Type 0
Adds before after piece = (bytes : List ℕ) → IsTrafficOf before bytes → IsTrafficOf after (bytes ++ piece)

-- of a call that gives or takes some bytes at the front of a piece these are added, and the device is called from then on;
-- of one that fails nothing; the time of the first call stays once it is there
pub record AddsCall (result : Result ℕ Failed) (before after : Traffic) (piece : List ℕ) : Type 0 where
  pub passed : IfOk result (λ count. Adds before after (take count piece))
  pub called : IfOk result (λ count. after.called ≡ true)
  pub failed : OnErr result (after ≡ before)
  pub first : IfSome before.first (λ time. after.first ≡ Some time)
