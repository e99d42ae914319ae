use Rattle.std.proofs.Common.{◌≡◌, List, ℕ, ap, sym, ◌∙◌, subst}
use Rattle.std.specs.List.{flat_map}
use Rattle.std.specs.Vec.{vec_items}
use Rattle.rx_ledger.specs.declared.row.Row.{Row}
use Rattle.rx_books_scan.proofs.Begins.{if_some}
use Rattle.rx_books_store.specs.Held.{AreHeld}
use Rattle.rx_books_store.specs.Store.{AreHolders}
use Rattle.rx_books_store.proofs.Openings.{AreHolders-runs}
use Rattle.rx_books_store.proofs.holders.holders_in_parts.Goals as goal

pub returns : goal.returns
returns g c =
    let ms = c.args.members.now in
    let found = c.in_ok-found.found.items in
    let all = subst (λ (rs : List Row). AreHolders ms rs (flat_map vec_items found)) c.runs.ensures.value
    (AreHolders-runs ms c.runs.result.now found c.in_ok-found.ensures) in
    if_some c.joined.result (λ hs. hs.items ≡ flat_map vec_items c.deref.result.now)
    (λ hs. AreHeld ms c.args.rows.now hs.items) c.joined.ensures
    (λ hs is. record {
      rise = c.runs.ensures.ascending;
      few = c.runs.ensures.small;
      held_by = subst (λ (xs : List ℕ). AreHolders ms c.args.rows.now xs)
          (ap (flat_map vec_items) (sym c.deref.ensures.value) ∙ sym is) all;
    })
