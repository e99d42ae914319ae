-- Two lists of members put together, from one member of the table to the next.
use Rattle.std.proofs.Common.{◌≡◌, ℕ, suc, ◌+◌, List, [], ◌∷◌, ◌++◌, take, drop, sym, ap, subst, ◌∙◌, append_assoc, arith}
use Rattle.std.specs.declared.cmp.Ordering.TheVariants.{Less}
use Rattle.std.proofs.lemmas.List.{set_split}
use Rattle.rx_sorted.specs.Ascending.{IsAscending, IsAt, IsBelow, IsGap, put, put_all}
use Rattle.rx_sorted.proofs.Joined.{put_all-behind}
use Rattle.rx_sorted.proofs.Keys.{IsBelow-through}
use Rattle.rx_sorted.proofs.Kept.{IsAscending-put}
use Rattle.rx_sorted.proofs.Places.{insert-gap, set-at}
use Rattle.rx_ledger.specs.declared.member.Member.{Member}
use Rattle.rx_ledger.specs.declared.member.MemberKey.{MemberKey}
use Rattle.rx_ledger.specs.Members.{member_cmp, member_key}
use Rattle.rx_ledger.proofs.Orders.{member_total}

abbrev pub Rises : List Member → Type 0
Rises ms = IsAscending member_cmp member_key ms

abbrev pub joined : List Member → List Member → List Member
joined own new = put_all member_cmp member_key own new

-- ---- one member in its place

-- before it stand lesser ones
less_before : (k : MemberKey) (zs : List Member) (y : Member) (rest : List Member)
    → IsBelow member_cmp member_key k (zs ++ y ∷ rest) → member_cmp k y.key ≡ Less
less_before k [] y rest below = below.0
less_before k (z ∷ zs) y rest below = less_before k zs y rest below.1

pub rises_after : (zs : List Member) (y : Member) (rest : List Member) → Rises (zs ++ y ∷ rest) → Rises rest
rises_after [] y rest rise = rise.1
rises_after (z ∷ zs) y rest rise = rises_after zs y rest rise.1

through : (zs : List Member) (y : Member) (rest ys : List Member) → Rises (zs ++ y ∷ rest) → IsBelow member_cmp member_key y.key ys
    → joined (zs ++ y ∷ rest) ys ≡ zs ++ y ∷ joined rest ys
through [] y rest ys rise below = put_all-behind member_cmp member_total member_key y rest ys below
through (z ∷ zs) y rest ys rise below =
    put_all-behind member_cmp member_total member_key z (zs ++ y ∷ rest) ys
    (IsBelow-through member_cmp member_total member_key z.key y.key ys (less_before z.key zs y rest rise.0) below)
    ∙ ap (λ ms. z ∷ ms) (through zs y rest ys rise.1 below)

module _ (own ys : List Member) (y : Member) (zs rest : List Member) (rise : Rises own) (above : Rises (y ∷ ys))
    (is : put member_cmp member_key own y ≡ zs ++ y ∷ rest) where
  placed_rises : Rises (zs ++ y ∷ rest)
  placed_rises = subst Rises is (IsAscending-put member_cmp member_total member_key own y rise)

  pub rest_rises : Rises rest
  rest_rises = rises_after zs y rest placed_rises

  pub joined_more : (list whole : List Member) → list ++ joined own (y ∷ ys) ≡ whole
      → ((list ++ zs) ++ y ∷ []) ++ joined rest ys ≡ whole
  joined_more list whole so_far =
      append_assoc (list ++ zs) (y ∷ []) (joined rest ys) ∙ append_assoc list zs (y ∷ joined rest ys)
      ∙ ap (λ ms. list ++ ms) (sym (ap (λ ms. joined ms ys) is ∙ through zs y rest ys placed_rises above.0)) ∙ so_far

-- ---- its place

pub sides_at : (own : List Member) (y : Member) (i : ℕ) → Rises own → IsAt member_cmp member_key own y.key i
    → put member_cmp member_key own y ≡ take i own ++ y ∷ drop (i + 1) own
sides_at own y i rise at =
    let next : suc i ≡ i + 1 = omega arith in
    sym (set-at member_cmp member_total member_key own y i rise at) ∙ set_split own i y at.in_range
    ∙ ap (λ n. take i own ++ y ∷ drop n own) next

pub sides_gap : (own : List Member) (y : Member) (i : ℕ) → IsGap member_cmp member_key own y.key i
    → put member_cmp member_key own y ≡ take i own ++ y ∷ drop i own
sides_gap own y i gap = sym (insert-gap member_cmp member_total member_key own y i gap)
