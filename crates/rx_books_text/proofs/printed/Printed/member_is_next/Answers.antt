use Rattle.rx_books_text.proofs.printed.Printed.member_is_next.Goals as goal

pub is_past-requires : goal.is_past-requires
is_past-requires c = rw c.members.ensures.value c.members.ensures.within.members_rise
