use Rattle.std.proofs.Common.{◌≡◌, ◌++◌, ◌∷◌, [], map, true, false, sym, ap, ◌∙◌, append-nil}
use Rattle.std.specs.List.{filter}
use Rattle.rx_ledger.specs.Ledger.{rows_of}
use Rattle.rx_ledger.specs.Members.{of_family}
use Rattle.rx_ledger.specs.Rows.{claimed_by}
use Rattle.rx_commands.proofs.FamilyPassed.{claim_found, claim_left}
use Rattle.rx_commands.proofs.family.rows.rows_of.Goals as goal

pub loop-row-preserved-in-Continue-branch-2 : goal.loop-row-preserved-in-Continue-branch-2
loop-row-preserved-in-Continue-branch-2 c =
    let L = c.args.books.now.books.ledger in
    let id = c.args.id.now in
    let p = claimed_by id in
    let r = c.in-Some.row.now in
    let so_far = c.loop-row.invariant in
    let rest = c.next_marked.new.standing.rows in
    let marks : c.deref.result.now ≡ map (of_family id) c.loop-row.standing.members =
    c.deref.ensures.value ∙ c.in_ok-marks.ensures ∙ ap (map (of_family id)) c.members.ensures.value
    ∙ ap (map (of_family id)) (sym so_far.members) in
    let next : filter p c.loop-row.standing.rows ≡ filter p (r ∷ rest) = c.in-Some.ensures.row id marks in
    let own : p r ≡ true = sym c.claimed_by.ensures ∙ c.if-claimed_by.true in
    record {
      found =
          ap (λ list. list ++ filter p rest) c.in_ok-push.ensures.items
          ∙ claim_found p c.loop-row.rows.items (rows_of L id) rest r own
          (ap (λ list. c.loop-row.rows.items ++ list) (sym next) ∙ so_far.found);
      members = c.next_marked.ensures.members ∙ so_far.members;
    }

pub loop-row-preserved : goal.loop-row-preserved
loop-row-preserved c =
    let L = c.args.books.now.books.ledger in
    let id = c.args.id.now in
    let p = claimed_by id in
    let r = c.in-Some.row.now in
    let so_far = c.loop-row.invariant in
    let rest = c.next_marked.new.standing.rows in
    let marks : c.deref.result.now ≡ map (of_family id) c.loop-row.standing.members =
    c.deref.ensures.value ∙ c.in_ok-marks.ensures ∙ ap (map (of_family id)) c.members.ensures.value
    ∙ ap (map (of_family id)) (sym so_far.members) in
    let next : filter p c.loop-row.standing.rows ≡ filter p (r ∷ rest) = c.in-Some.ensures.row id marks in
    let other : p r ≡ false = sym c.claimed_by.ensures ∙ c.if-claimed_by.false in
    record {
      found = claim_left p c.loop-row.rows.items (rows_of L id) rest r other
          (ap (λ list. c.loop-row.rows.items ++ list) (sym next) ∙ so_far.found);
      members = c.next_marked.ensures.members ∙ so_far.members;
    }

pub returns : goal.returns
returns c =
    let id = c.args.id.now in
    let p = claimed_by id in
    let found = c.loop-row.rows.items in
    let so_far = c.loop-row.invariant in
    let marks : c.deref.result.now ≡ map (of_family id) c.loop-row.standing.members =
    c.deref.ensures.value ∙ c.in_ok-marks.ensures ∙ ap (map (of_family id)) c.members.ensures.value
    ∙ ap (map (of_family id)) (sym so_far.members) in
    let none : filter p c.loop-row.standing.rows ≡ [] = c.in_default.ensures.none id marks in
    sym (append-nil found) ∙ ap (λ list. found ++ list) (sym none) ∙ so_far.found
