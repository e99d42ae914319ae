-- Loading a table changes the books of the table's own families only, and no batch that bills none of those shows it.
use Rattle.std.proofs.Common.{◌≡◌, ℕ, List, [], ◌∷◌, Bool, true, false, Option, Some, None, length, refl, ap, sym, subst, ◌∙◌, inl, inr}
use Rattle.std.specs.Prelude.{nat_lt}
use Rattle.std.specs.Option.{option_or}
use Rattle.std.specs.List.{All, filter, list_any}
use Rattle.std.proofs.lemmas.Bool.{both_ways, cases_Bool}
use Rattle.std.proofs.lemmas.List.Elements.{All-cons, All-head, All-nil, All-tail}
use Rattle.rx_fields.specs.Numbered.{LotParts}
use Rattle.rx_d0_values.specs.declared.reply.Answer.{Answer}
use Rattle.rx_d0_values.specs.declared.reply.Answer.TheVariants.{Paid, Twice, Approved, Refused}
use Rattle.rx_d0_values.specs.declared.transaction.Transaction.{Transaction}
use Rattle.rx_d0_values.specs.declared.transaction.Transaction.TheVariants.{Bill, Reverse, Faulty}
use Rattle.rx_d0_values.specs.declared.transmission.Heard.{Heard as HeardRecord}
use Rattle.rx_sorted.specs.Ascending.{IsAscending, has_key, put, put_all}
use Rattle.rx_sorted.proofs.Edits.{put_there, same_items}
use Rattle.rx_sorted.proofs.FilteredPuts.{filter-put_other}
use Rattle.rx_sorted.proofs.Keys.{Equal-from_is_eq}
use Rattle.rx_sorted.proofs.Kept.{IsAscending-put, IsAscending-put_all}
use Rattle.rx_sorted.proofs.LookUps.{item_at-put_all, item_at-put_other}
use Rattle.rx_ledger.specs.declared.member.Member.{Member}
use Rattle.rx_ledger.specs.declared.member.MemberKey.{MemberKey}
use Rattle.rx_ledger.specs.Answers.{Asked, after, answer}
use Rattle.rx_ledger.specs.Fold.{asked}
use Rattle.rx_ledger.specs.Ledger.{Ledger, members_of}
use Rattle.rx_ledger.specs.Members.{member_cmp, member_key, of_family}
use Rattle.rx_ledger.specs.Plan.{Plan}
use Rattle.rx_ledger.proofs.Found.{any_passes}
use Rattle.rx_ledger.proofs.Orders.{member_exact, member_total}
use Rattle.rx_books_family.specs.Books.{IsInOrder}
use Rattle.rx_books_family.proofs.BookValues.{ledger_path}
use Rattle.rx_books_upkeep.specs.Loading.{IsLoaded, LeavesBilled, LeavesFamily, loaded, member_in}
use Rattle.rx_books_upkeep.proofs.Carried.{Carries}

-- ---- what loading determines

either : (o q : Option Member) → (m : Member) → o ≡ Some m → option_or o q ≡ Some m
either o q m is = rw is refl

neither : (o q : Option Member) → o ≡ None → option_or o q ≡ q
neither o q is = rw is refl

pub is_loaded : (L : Ledger) (table : List Member) → IsInOrder L → IsAscending member_cmp member_key table
    → IsLoaded L table (loaded L table)
is_loaded L table order rise =
    let found : (key : MemberKey) → member_in (loaded L table).members key ≡ option_or (member_in table key) (member_in L.members key) =
    λ key. item_at-put_all member_cmp member_total member_key L.members table key rise in
    record {
      rows = refl;
      rise = IsAscending-put_all member_cmp member_total member_key L.members table order.members_rise;
      listed = λ key m is. found key ∙ either (member_in table key) (member_in L.members key) m is;
      others = λ key is. found key ∙ neither (member_in table key) (member_in L.members key) is;
    }

same_look_up : (L M : Ledger) (table : List Member) → IsLoaded L table M → IsLoaded L table (loaded L table)
    → (key : MemberKey) (o : Option Member) → member_in table key ≡ o
    → member_in M.members key ≡ member_in (loaded L table).members key
same_look_up L M table one other key None is = one.others key is ∙ sym (other.others key is)
same_look_up L M table one other key (Some m) is = one.listed key m is ∙ sym (other.listed key m is)

pub one_loaded : (L M : Ledger) (table : List Member) → IsInOrder L → IsAscending member_cmp member_key table
    → IsLoaded L table M → M ≡ loaded L table
one_loaded L M table order rise is =
    let too = is_loaded L table order rise in
    ledger_path M (loaded L table)
    (same_items member_cmp member_total member_key M.members (loaded L table).members is.rise too.rise
    (λ key. same_look_up L M table is too key (member_in table key) refl)) is.rows

-- ---- a family that the table leaves

pub every : {X : Type 0} (P : X → Type 0) → ((x : X) → P x) → (xs : List X) → All P xs
every P all [] = All-nil P
every P all (x ∷ xs) = All-cons P x xs (all x) (every P all xs)

module _ (family : List ℕ) where
  abbrev own : Member → Bool
  own m = of_family family m

  -- members of one key are of one family
  one_family : (y z : Member) → has_key member_cmp member_key y.key z ≡ true → own z ≡ own y
  one_family y z same =
      ap (λ (k : MemberKey). own (record y { key = k })) (member_exact z.key y.key (Equal-from_is_eq _ same))

  abbrev Left : List Member → Member → Type 0
  Left xs m = own m ≡ true → member_in xs m.key ≡ Some m

  -- a member of another family leaves those of this one
  left_put : (xs : List Member) (y : Member) → own y ≡ false → (ys : List Member) → All (Left xs) ys
      → All (Left (put member_cmp member_key xs y)) ys
  left_put xs y other [] left = All-nil (Left (put member_cmp member_key xs y))
  left_put xs y other (z ∷ ys) left =
      All-cons (Left (put member_cmp member_key xs y)) z ys (λ mine.
      let apart : has_key member_cmp member_key z.key y ≡ false = elim (cases_Bool (has_key member_cmp member_key z.key y)) [
        | inl t ↦ absurd (both_ways _ (sym (one_family z y t) ∙ other) mine)
        | inr f ↦ f
      ] in
      item_at-put_other member_cmp member_total member_key xs y z.key apart ∙ All-head (Left xs) z ys left mine)
      (left_put xs y other ys (All-tail (Left xs) z ys left))

  pub filter_loaded : (xs ys : List Member) → IsAscending member_cmp member_key xs → All (Left xs) ys
      → filter own (put_all member_cmp member_key xs ys) ≡ filter own xs
  filter_loaded xs [] rise left = refl
  filter_loaded xs (y ∷ ys) rise left = elim (cases_Bool (own y)) [
    | inl mine ↦
        let there : put member_cmp member_key xs y ≡ xs =
        put_there member_cmp member_total member_key xs y rise (All-head (Left xs) y ys left mine) in
        ap (λ zs. filter own (put_all member_cmp member_key zs ys)) there
        ∙ filter_loaded xs ys rise (All-tail (Left xs) y ys left)
    | inr other ↦
        filter_loaded (put member_cmp member_key xs y) ys (IsAscending-put member_cmp member_total member_key xs y rise)
        (left_put xs y other ys (All-tail (Left xs) y ys left))
        ∙ filter-put_other member_cmp member_total member_key own xs y other
        (every (λ z. has_key member_cmp member_key y.key z ≡ true → own z ≡ false)
        (λ z same. one_family y z same ∙ other) xs)
  ]

-- ---- a transaction

module _ (opening : Ledger) (table : List Member) where
  -- the ledgers of a run, which all have the opening's members, in order
  pub record Comes (L : Ledger) : Type 0 where
    pub members : L.members ≡ opening.members
    pub rise : IsAscending member_cmp member_key L.members

  module _ (L : Ledger) (is : Comes L) (family : List ℕ) (left : LeavesFamily opening table family) where
    members_left : members_of (loaded L table) family ≡ members_of L family
    members_left = filter_loaded family L.members table is.rise
        (subst (λ ms. All (λ m. of_family family m ≡ true → member_in ms m.key ≡ Some m) table) (sym is.members) left)

    some_left : list_any (of_family family) (loaded L table).members ≡ list_any (of_family family) L.members
    some_left = any_passes (of_family family) (loaded L table).members
        ∙ ap (λ ms. nat_lt 0 (length ms)) members_left
        ∙ sym (any_passes (of_family family) L.members)

  same_answer : (a : Asked) (h : HeardRecord) (t : Transaction) (L : Ledger) → Comes L → LeavesBilled opening table h t
      → answer a (loaded L table) t ≡ answer a L t
  same_answer a h (Bill b) L is left = rw (some_left L is b.family left, members_left L is b.family left) refl
  same_answer a h (Reverse v) L is left = refl
  same_answer a h (Faulty f) L is left = refl

  next_ledger : (a : Asked) (L : Ledger) (t : Transaction) (given : Answer)
      → after a (loaded L table) t given ≡ loaded (after a L t given) table
  next_ledger a L (Bill b) (Paid p) = refl
  next_ledger a L (Bill b) (Twice p) = refl
  next_ledger a L (Bill b) (Approved p) = refl
  next_ledger a L (Bill b) (Refused p) = refl
  next_ledger a L (Reverse v) (Paid p) = refl
  next_ledger a L (Reverse v) (Twice p) = refl
  next_ledger a L (Reverse v) (Approved p) = refl
  next_ledger a L (Reverse v) (Refused p) = refl
  next_ledger a L (Faulty f) given = refl

  comes_after : (a : Asked) (L : Ledger) (t : Transaction) (given : Answer) → Comes L → Comes (after a L t given)
  comes_after a L (Bill b) (Paid p) is = record { members = is.members; rise = is.rise }
  comes_after a L (Bill b) (Twice p) is = is
  comes_after a L (Bill b) (Approved p) is = is
  comes_after a L (Bill b) (Refused p) is = is
  comes_after a L (Reverse v) (Paid p) is = is
  comes_after a L (Reverse v) (Twice p) is = is
  comes_after a L (Reverse v) (Approved p) is = record { members = is.members; rise = is.rise }
  comes_after a L (Reverse v) (Refused p) is = is
  comes_after a L (Faulty f) given is = is

  pub carries : (lot : LotParts) (plan : Plan) → Carries lot plan Comes (LeavesBilled opening table) (λ L. loaded L table)
  carries lot plan = record {
    same = λ place h nth t L is left. same_answer (asked lot plan place h nth) h t L is left;
    next = λ place h nth t L is left.
        next_ledger (asked lot plan place h nth) L t (answer (asked lot plan place h nth) L t);
    comes = λ place h nth t L is left.
        comes_after (asked lot plan place h nth) L t (answer (asked lot plan place h nth) L t) is;
  }
