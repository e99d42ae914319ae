-- Where claims come from and what becomes of them is looked up; all else is as it was.
use Rattle.std.proofs.Common.{◌∙◌, refl, ap, map}
use Rattle.std.specs.Option.{option_map}
use Rattle.rx_explain.specs.Traces.{traced}
use Rattle.rx_explain.proofs.facts.Facts.traced.Goals as goal

pub returns : goal.returns
returns c lot plan L s is =
    let x = c.args.self.now in
    let events = c.args.events.now in
    record {
      at_is = refl;
      provider_is = is.provider_is;
      date_is = is.date_is;
      number_is = is.number_is;
      transaction_is = is.transaction_is;
      decision_is = is.decision_is;
      answer_is = is.answer_is;
      standing_is = c.trace_any.ensures ∙ ap (option_map (traced events x.at)) is.standing_is;
      open_from_is = is.open_from_is;
      workings_are = is.workings_are;
      counted_are = c.in_ok-trace_each.ensures ∙ ap (map (traced events x.at)) (c.deref.ensures.value ∙ is.counted_are);
    }
