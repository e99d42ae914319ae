use Rattle.std.proofs.Common.{◌≡◌, refl, sym, subst, ap, ◌∙◌, true}
use Rattle.std.specs.Prelude.{IfSome}
use Rattle.std.specs.Option.{is_some}
use Rattle.rx_ledger.specs.Ledger.{is_taken, row_under}
use Rattle.rx_books_family.specs.Books.{OfFamily, OfKey}
use Rattle.rx_books_parcel.specs.Footprints.{names}
use Rattle.rx_books_parcel.specs.Parcels.{ledger_in, named_in, row_at}
use Rattle.rx_books_parcel.proofs.Edited.{agrees_removed, ledger_removed, named_removed}
use Rattle.rx_books_parcel.proofs.Held.{row_read}
use Rattle.rx_adjudicate.proofs.Asked.{scope_same, some_row}
use Rattle.rx_adjudicate.proofs.agreed.AgreedBasis.remove.Goals as goal

pub remove-requires-clause-there : goal.remove-requires-clause-there
remove-requires-clause-there c =
    let p = c.self.inside.parcel in
    let is = c.self.invariant in
    let key = c.args.key.now in
    let nk : names (named_in p) (OfKey key) ≡ true = rw (← c.self.view_is) at c.requires.key in
    let taken : is_taken (ledger_in p) key ≡ true = rw (← c.self.view_is) at c.requires.there in
    ap is_some (sym (row_read p is.parcel is.agrees key nk)) ∙ taken

pub remove-requires-clause-family : goal.remove-requires-clause-family
remove-requires-clause-family c =
    let p = c.self.inside.parcel in
    let is = c.self.invariant in
    let key = c.args.key.now in
    let nk : names (named_in p) (OfKey key) ≡ true = rw (← c.self.view_is) at c.requires.key in
    let theirs : IfSome (row_under (ledger_in p) key) (λ r. names (named_in p) (OfFamily r.family) ≡ true) =
    rw (← c.self.view_is) at c.requires.family in
    subst (λ o. IfSome o (λ r. names (named_in p) (OfFamily r.family) ≡ true)) (row_read p is.parcel is.agrees key nk) theirs

pub invariant_of-self : goal.invariant_of-self
invariant_of-self c =
    let p = c.self.inside.parcel in
    let is = c.self.invariant in
    let key = c.args.key.now in
    let nk : names (named_in p) (OfKey key) ≡ true = rw (← c.self.view_is) at c.requires.key in
    let taken : is_taken (ledger_in p) key ≡ true = rw (← c.self.view_is) at c.requires.there in
    let theirs : IfSome (row_under (ledger_in p) key) (λ r. names (named_in p) (OfFamily r.family) ≡ true) =
    rw (← c.self.view_is) at c.requires.family in
    let read = row_read p is.parcel is.agrees key nk in
    let some = some_row (row_at p key) (ap is_some (sym read) ∙ taken) in
    let nf = subst (λ o. IfSome o (λ r. names (named_in p) (OfFamily r.family) ≡ true)) (read ∙ some.1) theirs in
    record {
      parcel = c.remove.ensures.within;
      agrees = rw c.remove.ensures.books (agrees_removed p is.parcel is.agrees key some.0 nk nf some.1);
    }

pub returns-clause-removed : goal.returns-clause-removed
returns-clause-removed c =
    let p = c.self.inside.parcel in
    let is = c.self.invariant in
    let key = c.args.key.now in
    let nk : names (named_in p) (OfKey key) ≡ true = rw (← c.self.view_is) at c.requires.key in
    let taken : is_taken (ledger_in p) key ≡ true = rw (← c.self.view_is) at c.requires.there in
    let theirs : IfSome (row_under (ledger_in p) key) (λ r. names (named_in p) (OfFamily r.family) ≡ true) =
    rw (← c.self.view_is) at c.requires.family in
    let read = row_read p is.parcel is.agrees key nk in
    let some = some_row (row_at p key) (ap is_some (sym read) ∙ taken) in
    let nf = subst (λ o. IfSome o (λ r. names (named_in p) (OfFamily r.family) ≡ true)) (read ∙ some.1) theirs in
    rw (c.remove.ensures.books, ← c.self.view_is) (ledger_removed p is.parcel is.agrees key some.0 nk nf some.1)

pub returns-clause-scope : goal.returns-clause-scope
returns-clause-scope c =
    let p = c.self.inside.parcel in
    let is = c.self.invariant in
    let key = c.args.key.now in
    let nk : names (named_in p) (OfKey key) ≡ true = rw (← c.self.view_is) at c.requires.key in
    let taken : is_taken (ledger_in p) key ≡ true = rw (← c.self.view_is) at c.requires.there in
    let theirs : IfSome (row_under (ledger_in p) key) (λ r. names (named_in p) (OfFamily r.family) ≡ true) =
    rw (← c.self.view_is) at c.requires.family in
    let read = row_read p is.parcel is.agrees key nk in
    let some = some_row (row_at p key) (ap is_some (sym read) ∙ taken) in
    let nf = subst (λ o. IfSome o (λ r. names (named_in p) (OfFamily r.family) ≡ true)) (read ∙ some.1) theirs in
    rw (c.remove.ensures.books, ← c.self.view_is)
    (scope_same p _ refl (named_removed p is.parcel is.agrees key some.0 nk nf some.1))
