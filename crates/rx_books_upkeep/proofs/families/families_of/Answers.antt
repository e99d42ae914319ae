use Rattle.std.proofs.Common.{ap, sym, ◌∙◌, take}
use Rattle.rx_books_store.specs.BooksText.{families_of}
use Rattle.rx_books_upkeep.proofs.FamilyLists.{family_more, family_there, front_rises}
use Rattle.rx_books_upkeep.proofs.families.families_of.Goals as goal
use Rattle.rx_books_upkeep.proofs.families.families_of.Goals.{then-is_past+in_ok-push, else-is_past}

pub loop-member-preserved : goal.loop-member-preserved
loop-member-preserved c =
    let ms = c.args.members.now in
    let i = c.loop-member.member-index in
    let m = c.member-item.result in
    let front = front_rises ms i m c.loop-member-test.true c.member-item.is c.requires in
    let fs = c.loop-member.families in
    elim c.if-is_past.branch [
      | then-is_past+in_ok-push w ↦
          family_more (take i ms) m front.1 fs c.loop-member.invariant c.if-is_past.families (sym c.is_past.ensures ∙ w.if-is_past.true)
          (w.families-is ∙ w.in_ok-push.ensures.ok) ∙ ap families_of (sym front.0)
      | else-is_past w ↦
          family_there (take i ms) m front.1 fs c.loop-member.invariant c.if-is_past.families (sym c.is_past.ensures ∙ w.if-is_past.false)
          w.families-is ∙ ap families_of (sym front.0)
    ]
