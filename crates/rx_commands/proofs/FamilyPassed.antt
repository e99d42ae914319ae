-- Rows of members who aren't a family's are none of its claims.
use Rattle.std.proofs.Common.{◌≡◌, ℕ, Bool, true, false, List, [], ◌∷◌, ◌++◌, map, get_or, sym, ap, subst, ◌∙◌, append_assoc}
use Rattle.std.proofs.lemmas.List.{get_or-map}
use Rattle.std.specs.List.{filter}
use Rattle.rx_ledger.specs.declared.member.Member.{Member}
use Rattle.rx_ledger.specs.declared.row.Row.{Row}
use Rattle.rx_ledger.specs.Ledger.{Ledger}
use Rattle.rx_ledger.specs.declared.member.MemberKey.{MemberKey}
use Rattle.rx_ledger.specs.Members.{is_same, of_family}
use Rattle.rx_ledger.specs.Rows.{claimed_by, member_of_row}
use Rattle.rx_ledger.proofs.Orders.{member_exact}
use Rattle.rx_books_store.specs.Standing.{ArePassed, IsUnmarked}

module _ (family : List ℕ) (members : List Member) where
  abbrev marks : List Bool
  marks = map (of_family family) members

  -- an unmarked row's member is of another family, and so is the row
  strangers : (r : Row) → IsUnmarked members marks r → claimed_by family r ≡ false
  strangers r un =
      let d : Member = record {
        key = member_of_row r;
        coverage = record {
          first = record { year = 0; month = 0; day = 0 };
          last = record { year = 0; month = 0; day = 0 };
        };
      } in
      let found = get_or members un.place d in
      let same : found.key ≡ member_of_row r = member_exact found.key (member_of_row r) (un.holder.has_it d) in
      ap (λ (k : MemberKey). is_same k.family family) (sym same)
      ∙ sym (get_or-map (of_family family) members un.place d false un.holder.in_range) ∙ un.unmarked

  -- so they may be passed
  pub claims_passed : (old new : Ledger) → old.members ≡ members → ArePassed marks old new
      → filter (claimed_by family) old.rows ≡ filter (claimed_by family) new.rows
  claims_passed old new same passed =
      sym (passed.rows (claimed_by family) (λ r un. strangers r (subst (λ (ms : List Member). IsUnmarked ms marks r) same un)))

-- one more row, which is one of its claims or isn't
pub claim_found : (p : Row → Bool) (found all rest : List Row) (r : Row) → p r ≡ true → found ++ filter p (r ∷ rest) ≡ all
    → (found ++ r ∷ []) ++ filter p rest ≡ all
claim_found p found all rest r own is =
    let kept : found ++ r ∷ filter p rest ≡ all = rw own at is in
    append_assoc found (r ∷ []) (filter p rest) ∙ kept

pub claim_left : (p : Row → Bool) (found all rest : List Row) (r : Row) → p r ≡ false → found ++ filter p (r ∷ rest) ≡ all
    → found ++ filter p rest ≡ all
claim_left p found all rest r other is = rw other at is
