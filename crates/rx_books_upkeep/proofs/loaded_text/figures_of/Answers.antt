use Rattle.std.proofs.Common.{subst, sym}
use Rattle.rx_sorted.specs.Ascending.{IsAscending}
use Rattle.rx_ledger.specs.Members.{member_cmp, member_key}
use Rattle.rx_books_upkeep.proofs.loaded_text.figures_of.Goals as goal

pub merged_list-requires-clause-table : goal.merged_list-requires-clause-table
merged_list-requires-clause-table g c =
    subst (IsAscending member_cmp member_key) (sym c.as_slice.ensures.value) c.as_slice.ensures.ascending

pub above_and_below-requires-clause-rise : goal.above_and_below-requires-clause-rise
above_and_below-requires-clause-rise g c κs within =
    subst (IsAscending member_cmp member_key) (sym c.deref.ensures.value) c.in_ok-members.ensures.rise
