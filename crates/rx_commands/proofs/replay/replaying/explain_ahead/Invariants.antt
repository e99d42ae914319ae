-- A batch on its way, and the records explained so far.
use Rattle.std.proofs.Common.{◌≡◌, ◌++◌, drop, length, map}
use Rattle.std.specs.List.{All}
use Rattle.rx_commands.specs.Courses.{IsCourse}
use Rattle.rx_commands.specs.Places.{places_ahead}
use Rattle.rx_commands.specs.Records.{AreDecided}
use Rattle.rx_commands.proofs.replay.replaying.explain_ahead.Given as goal

abbrev pub invariant-loop-place : goal.invariant-loop-place
invariant-loop-place l = record {
  course : IsCourse l.batch l.course;
  explained : All (λ k. AreDecided l.batch k.place k.facts.items) l.explained.items;
  places : map (λ k. k.place) l.explained.items
      ++ places_ahead l.course.done (length l.batch.asked.now) (drop l.place-index l.places)
      ≡ places_ahead 0 (length l.batch.asked.now) l.places;
}
