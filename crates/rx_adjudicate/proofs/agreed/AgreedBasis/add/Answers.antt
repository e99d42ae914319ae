use Rattle.std.proofs.Common.{◌≡◌, None, refl, sym, ◌∙◌, false, true}
use Rattle.rx_fields.specs.Order.{key_cmp}
use Rattle.rx_sorted.proofs.LookUps.{item_at-free}
use Rattle.rx_ledger.specs.Ledger.{is_listed, is_taken}
use Rattle.rx_ledger.specs.Rows.{member_of_row, row_key}
use Rattle.rx_ledger.proofs.Orders.{key_total}
use Rattle.rx_books_family.specs.Books.{OfFamily, OfKey}
use Rattle.rx_books_parcel.specs.Footprints.{names}
use Rattle.rx_books_parcel.specs.Parcels.{ledger_in, named_in, row_at}
use Rattle.rx_books_parcel.proofs.Edited.{agrees_added, ledger_added, named_added}
use Rattle.rx_books_parcel.proofs.Held.{row_read}
use Rattle.rx_adjudicate.proofs.Asked.{member_of, scope_same}
use Rattle.rx_adjudicate.proofs.agreed.AgreedBasis.add.Goals as goal

pub add-requires-clause-free : goal.add-requires-clause-free
add-requires-clause-free c =
    let p = c.self.inside.parcel in
    let is = c.self.invariant in
    let key = c.args.row.key in
    let nk : names (named_in p) (OfKey key) ≡ true = rw (← c.self.view_is) at c.requires.key in
    let taken : is_taken (ledger_in p) key ≡ false = rw (← c.self.view_is) at c.requires.free in
    sym (row_read p is.parcel is.agrees key nk) ∙ item_at-free key_cmp key_total row_key (ledger_in p).rows key taken

pub add-requires-clause-listed : goal.add-requires-clause-listed
add-requires-clause-listed c =
    let p = c.self.inside.parcel in
    let family = c.args.row.family in
    let nf : names (named_in p) (OfFamily family) ≡ true = rw (← c.self.view_is) at c.requires.family in
    let listed : is_listed (ledger_in p) (member_of_row c.args.row) ≡ true = rw (← c.self.view_is) at c.requires.listed in
    member_of p c.self.invariant family nf c.args.row.person listed

pub invariant_of-self-2 : goal.invariant_of-self-2
invariant_of-self-2 c =
    let p = c.self.inside.parcel in
    let is = c.self.invariant in
    let key = c.args.row.key in
    let nk : names (named_in p) (OfKey key) ≡ true = rw (← c.self.view_is) at c.requires.key in
    let nf : names (named_in p) (OfFamily c.args.row.family) ≡ true = rw (← c.self.view_is) at c.requires.family in
    let taken : is_taken (ledger_in p) key ≡ false = rw (← c.self.view_is) at c.requires.free in
    let free : row_at p key ≡ None = sym (row_read p is.parcel is.agrees key nk)
    ∙ item_at-free key_cmp key_total row_key (ledger_in p).rows key taken in
    record {
      parcel = c.in_ok-add.ensures.within;
      agrees = rw c.in_ok-add.ensures.ok (agrees_added p is.parcel is.agrees c.args.row nk nf free);
    }

pub returns-clause-added : goal.returns-clause-added
returns-clause-added c =
    let p = c.self.inside.parcel in
    let is = c.self.invariant in
    let key = c.args.row.key in
    let nk : names (named_in p) (OfKey key) ≡ true = rw (← c.self.view_is) at c.requires.key in
    let nf : names (named_in p) (OfFamily c.args.row.family) ≡ true = rw (← c.self.view_is) at c.requires.family in
    let taken : is_taken (ledger_in p) key ≡ false = rw (← c.self.view_is) at c.requires.free in
    let free : row_at p key ≡ None = sym (row_read p is.parcel is.agrees key nk)
    ∙ item_at-free key_cmp key_total row_key (ledger_in p).rows key taken in
    rw (c.in_ok-add.ensures.ok, ← c.self.view_is) (ledger_added p is.parcel is.agrees c.args.row nk nf free)

pub returns-clause-scope : goal.returns-clause-scope
returns-clause-scope c =
    let p = c.self.inside.parcel in
    let is = c.self.invariant in
    let key = c.args.row.key in
    let nk : names (named_in p) (OfKey key) ≡ true = rw (← c.self.view_is) at c.requires.key in
    let nf : names (named_in p) (OfFamily c.args.row.family) ≡ true = rw (← c.self.view_is) at c.requires.family in
    let taken : is_taken (ledger_in p) key ≡ false = rw (← c.self.view_is) at c.requires.free in
    let free : row_at p key ≡ None = sym (row_read p is.parcel is.agrees key nk)
    ∙ item_at-free key_cmp key_total row_key (ledger_in p).rows key taken in
    rw (c.in_ok-add.ensures.ok, ← c.self.view_is)
    (scope_same p _ refl (named_added p is.parcel is.agrees c.args.row nk nf free))
