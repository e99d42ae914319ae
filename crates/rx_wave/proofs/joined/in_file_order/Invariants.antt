-- The replies so far are those of the places so far, and those to come of each shard are those of its later places.
use Rattle.std.proofs.Common.{◌≡◌, ℕ, ◌<◌, [], get_or, length, map}
use Rattle.std.specs.List.{range_with_len}
use Rattle.rx_d0_values.specs.declared.reply.Reply.{Reply}
use Rattle.rx_schedule.specs.Shards.{is_of}
use Rattle.rx_schedule.specs.Waves.{number_in}
use Rattle.rx_wave.specs.Jobs.{AreReplies}
use Rattle.rx_wave.proofs.Coming.{later}
use Rattle.rx_wave.proofs.joined.in_file_order.Given as goal

abbrev pub invariant-loop-number : goal.invariant-loop-number
invariant-loop-number l = record {
  one_each : length l.coming ≡ length l.initial.coming;
  coming : (reply : ℕ → Reply) → AreReplies reply l.numbers l.initial.coming → (k : ℕ) → k < length l.coming
      → get_or l.coming k [] ≡ map reply (later (is_of (number_in l.numbers) k) l.number-index (length l.numbers));
  replies : (reply : ℕ → Reply) → AreReplies reply l.numbers l.initial.coming
      → l.replies.items ≡ map reply (range_with_len 1 l.number-index);
}
