use Rattle.std.proofs.Common.{List, ap, ◌∙◌, subst}
use Rattle.std.specs.Prelude.{IfOk}
use Rattle.std.specs.List.{AllZip}
use Rattle.rayon.proofs.ToStd.{slice-AllZip}
use Rattle.rx_ledger.specs.declared.member.Member.{Member}
use Rattle.rx_books_scan.proofs.Begins.{all_ok}
use Rattle.rx_books_store.specs.declared.holders.Unfound.{Unfound}
use Rattle.rx_books_store.specs.Store.{AreHolders}
use Rattle.rx_books_store.proofs.holders.found_in_parts.Goals as goal

-- The threads give a result for each run, in order; all are Ok where the whole is.
pub returns : goal.returns
returns g c =
    let runs = c.args.runs.now in
    let e = c.in-Ok.ensures in
    let members = ap (λ f. f.2.now) c.map.ensures.f in
    let slice = ap (λ it. it.base.slice.now) c.map.ensures.base ∙ ap (λ it. it.slice.now) c.with_min_len.ensures.base
    ∙ c.par_iter.ensures in
    let each = slice-AllZip e.1.0 runs (e.1.1 ∙ slice)
    (λ run r. IfOk r (λ holders. AreHolders c.map.result.f.2.now run.items holders.items)) e.0 e.1.2 in
    let all = rw c.in-Ok-found.is at e.2 in
    let fine = rw all.1 at each in
    rw all.2 (subst (λ (ms : List Member). AllZip (λ run holders. AreHolders ms run.items holders.items) runs all.0) members
    (all_ok Unfound (λ run holders. AreHolders c.map.result.f.2.now run.items holders.items) runs all.0 fine))
