-- A batch on its way to the end.
use Rattle.std.proofs.Common.{◌-◌, ◌≤◌}
use Rattle.rx_commands.specs.Courses.{IsCourse}
use Rattle.rx_commands.proofs.replay.course.go_to.Given as goal

abbrev pub invariant-loop-course : goal.invariant-loop-course
invariant-loop-course l = record {
  ahead : l.course.done ≤ l.end;
  course : IsCourse l.batch l.course;
}

abbrev pub decreases-loop-course : goal.decreases-loop-course
decreases-loop-course l = l.end - l.course.done
