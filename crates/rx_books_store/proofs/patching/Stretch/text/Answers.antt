use Rattle.std.proofs.Common.{◌++◌, ap, ◌∙◌}
use Rattle.rx_io.specs.Patches.{Patch}
use Rattle.rx_books_store.specs.Patching.{rest_text}
use Rattle.rx_books_store.proofs.patching.Stretch.text.Goals as goal

pub put_span-requires : goal.put_span-requires
put_span-requires c =
    let is = c.self.invariant in
    record {
      kept = is.lines;
      lender = ap (λ (p : Patch). p.lender) c.in_ok-text.ensures;
      rise = is.rise;
      own = is.own;
      span = is.within;
    }

pub returns : goal.returns
returns c =
    let s = c.self.inside in
    let empty = ap (λ (p : Patch). p.text) c.in_ok-text.ensures ∙ c.in_ok-own.ensures.items in
    rw (← c.self.view_is)
    (c.in_ok-put_span.ensures ∙ ap (λ t. t ++ rest_text s.opening.now.rows s.slots.now s.span.from) empty)
