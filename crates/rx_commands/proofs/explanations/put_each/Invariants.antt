-- What is said of the explanations so far.
use Rattle.std.proofs.Common.{◌≡◌, ◌++◌, ◌||◌, take}
use Rattle.std.specs.List.{flat_map, list_any}
use Rattle.std.specs.Option.{option_copied}
use Rattle.rx_commands.specs.Explaining.{option_is_other, option_text}
use Rattle.rx_commands.proofs.explanations.put_each.Given as goal

abbrev pub invariant-loop-explanation : goal.invariant-loop-explanation
invariant-loop-explanation l = record {
  text : l.shown.text.items ≡ l.initial.shown.text.items
      ++ flat_map (option_text l.task.manner l.task.retraced.now (option_copied l.task.response)) (take l.explanation-index l.explanations);
  differs : l.shown.differs ≡ (l.initial.shown.differs
      || list_any (option_is_other l.task.retraced.now (option_copied l.task.response)) (take l.explanation-index l.explanations));
}
