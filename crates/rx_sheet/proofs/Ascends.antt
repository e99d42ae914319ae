-- The members of a table stand ascending by key already.
use Rattle.std.proofs.Common.{◌≡◌, true, ℕ, List, [], ◌∷◌, String, Global, string_bytes, refl}
use Rattle.std.specs.List.Sorted.{IsStrictlySortedBy}
use Rattle.std.specs.Map.{keys_of}
use Rattle.std.specs.String.{string_cmp}
use Rattle.toml.specs.Data.{Data, Members, no_members, member, is_before}
use Rattle.toml.specs.View.{view, members_view}
use Rattle.toml.specs.declared.value.Value.{Value}
use Rattle.toml.proofs.Views.{is_before-sorted}
use Rattle.rx_sheet.specs.Drugs.{among, ascending}

-- a member goes before members with greater keys
before_all : (name : List ℕ) (value : Data) (more : Members) → is_before name more ≡ true
    → among name value more ≡ member name value more
before_all name value no_members h = refl
before_all name value (member other there more) h = rw h refl

pub ascends : (es : List (String Global × Value)) → IsStrictlySortedBy string_cmp (keys_of es)
    → ascending (members_view es) ≡ members_view es
unfolding IsStrictlySortedBy
ascends [] h = refl
ascends (e ∷ es) h =
    rw (ascends es h.1) (before_all (string_bytes e.0) (view e.1) (members_view es) (is_before-sorted e.0 es h.0))
