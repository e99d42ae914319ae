-- The families of members in order, one member after another.
use Rattle.std.proofs.Common.{◌≡◌, ℕ, ◌+◌, ◌<◌, List, [], ◌∷◌, ◌++◌, length, get_or, take, true, false, cond, refl, sym, subst, ap, ◌∙◌}
use Rattle.std.specs.Prelude.{◌&&◌}
use Rattle.std.specs.Ordering.{is_lt}
use Rattle.std.proofs.lemmas.List.{map-append, take_more}
use Rattle.rx_fields.specs.Order.{id_cmp}
use Rattle.rx_sorted.specs.Ascending.{IsAscending, is_past}
use Rattle.rx_sorted.proofs.Kept.{IsAscending-take}
use Rattle.rx_ledger.specs.declared.member.Member.{Member}
use Rattle.rx_ledger.specs.Members.{member_cmp, member_key}
use Rattle.rx_ledger.proofs.Orders.{member_total}
use Rattle.rx_books_store.specs.declared.opening.FamilyName.{FamilyName}
use Rattle.rx_books_store.specs.BooksText.{families_of}
use Rattle.rx_books_store.specs.Opening.{name_of, names_of}
use Rattle.rx_books_store.proofs.Openings.{homes-more}
use Rattle.rx_books_upkeep.specs.declared.families.Family.{Family}
use Rattle.rx_books_upkeep.specs.Figured.{id_of, ids_of}

-- the same families, by the name that the store has for them
abbrev named : List Family → List FamilyName
named [] = []
named (f ∷ fs) = record { family = f.id } ∷ named fs

names_named : (fs : List Family) → names_of (named fs) ≡ ids_of fs
names_named [] = refl
names_named (f ∷ fs) = ap (λ gs. f.id ∷ gs) (names_named fs)

past_named : (fs : List Family) (k : List ℕ) → is_past id_cmp name_of (named fs) k ≡ is_past id_cmp id_of fs k
past_named [] k = refl
past_named (f ∷ fs) k = ap (λ b. is_lt (id_cmp f.id k) && b) (past_named fs k)

module _ (ms : List Member) (m : Member) (rise : IsAscending member_cmp member_key (ms ++ m ∷ [])) (fs : List Family)
    (all : ids_of fs ≡ families_of ms) where
  abbrev own : List FamilyName
  own = named fs

  more : (gs : List FamilyName)
      → gs ≡ cond (is_past id_cmp name_of own m.key.family) (own ++ record { family = m.key.family } ∷ []) own
      → names_of gs ≡ families_of (ms ++ m ∷ [])
  more gs is = (homes-more ms m rise own (names_named fs ∙ all) gs is).0

  -- a family that comes after these is one more
  pub family_more : (hs : List Family) → is_past id_cmp id_of fs m.key.family ≡ true
      → hs ≡ fs ++ record { id = m.key.family } ∷ [] → ids_of hs ≡ families_of (ms ++ m ∷ [])
  family_more hs past is =
      let yes : is_past id_cmp name_of own m.key.family ≡ true = past_named fs m.key.family ∙ past in
      let gs : List FamilyName = own ++ record { family = m.key.family } ∷ [] in
      ap ids_of is ∙ map-append id_of fs (record { id = m.key.family } ∷ [])
      ∙ ap (λ ns. ns ++ m.key.family ∷ []) (sym (names_named fs))
      ∙ sym (map-append name_of own (record { family = m.key.family } ∷ []))
      ∙ more gs (rw yes refl)

  -- another is there already
  pub family_there : (hs : List Family) → is_past id_cmp id_of fs m.key.family ≡ false → hs ≡ fs
      → ids_of hs ≡ families_of (ms ++ m ∷ [])
  family_there hs none is =
      let no : is_past id_cmp name_of own m.key.family ≡ false = past_named fs m.key.family ∙ none in
      ap ids_of is ∙ sym (names_named fs) ∙ more own (rw no refl)

-- the members up to one are in order
pub front_rises : (ms : List Member) (i : ℕ) (m : Member) → i < length ms → m ≡ get_or ms i m
    → IsAscending member_cmp member_key ms → (take (i + 1) ms ≡ take i ms ++ m ∷ [])
    × IsAscending member_cmp member_key (take i ms ++ m ∷ [])
front_rises ms i m lt is rise =
    let whole : take (i + 1) ms ≡ take i ms ++ m ∷ [] = take_more ms i m lt ∙ ap (λ x. take i ms ++ x ∷ []) (sym is) in
    (whole, subst (IsAscending member_cmp member_key) whole (IsAscending-take member_cmp member_total member_key (i + 1) ms rise))
