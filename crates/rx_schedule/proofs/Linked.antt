-- The links between uses of names in order: from each use to the next of its name.
use Rattle.std.proofs.Common.{◌≡◌, ℕ, ◌+◌, ◌-◌, ◌<◌, ◌≤◌, true, false, Bool, cond, ◌&&◌, ◌||◌, ◌==◌, List, [], ◌∷◌, ◌++◌, length}
use Rattle.std.proofs.Common.{get_or, take, refl, ap, sym, ◌∙◌, inl, inr, arith, subst, append-nil, append_assoc}
use Rattle.std.specs.Prelude.{◌⊎◌}
use Rattle.std.specs.Cmp.{IsTotalOrder}
use Rattle.std.specs.Ordering.{eq_by_cmp, is_eq, nat_cmp, ordering_then}
use Rattle.std.specs.declared.cmp.Ordering.{Ordering}
use Rattle.std.specs.declared.cmp.Ordering.TheVariants.{Less, Equal, Greater}
use Rattle.std.proofs.lemmas.Bool.{cases_Bool, eq-eqb, eqb-true}
use Rattle.std.proofs.lemmas.Cmp.{ranked, tied_itself}
use Rattle.std.proofs.lemmas.List.{take_more}
use Rattle.std.proofs.lemmas.List.Sums.{sum_by-append, sum_by-cons}
use Rattle.std.proofs.lemmas.Map.Lookups.{CmpEqualImpliesEq}
use Rattle.rx_sorted.proofs.KeyOrders.{by_two_exact, by_two_total, number_exact, number_total}
use Rattle.rx_sorted.proofs.Keys.{Equal-from_is_eq}
use Rattle.rx_sorted.specs.Ascending.{IsAscending, IsBelow, itself}
use Rattle.rx_schedule.specs.declared.links.Link.{Link}
use Rattle.rx_schedule.specs.Links.{is_used, linked, links_in, use_cmp}
use Rattle.rx_schedule.proofs.Ors.{or_false}

abbrev link : {K : Type 0} → K × ℕ → K × ℕ → Link
link x y = record { from = x.1; to = y.1 }

abbrev link_if : Link → ℕ → ℕ → ℕ
link_if l p q = cond ((l.from == p) && (l.to == q)) 1 0

linked-cons : (p q : ℕ) (l : Link) (links : List Link) → linked p q (l ∷ links) ≡ link_if l p q + linked p q links
linked-cons p q l links = sum_by-cons (λ k. link_if k p q) l links

pub linked-append : (p q : ℕ) (xs ys : List Link) → linked p q (xs ++ ys) ≡ linked p q xs + linked p q ys
linked-append p q xs ys = sum_by-append (λ k. link_if k p q) xs ys

link_own : (l : Link) → link_if l l.from l.to ≡ 1
link_own l = rw (eq-eqb l.from l.from refl, eq-eqb l.to l.to refl) refl

link_cases : (l : Link) (p q : ℕ) → ((l.from ≡ p) × (l.to ≡ q)) ⊎ (link_if l p q ≡ 0)
link_cases l p q = elim (cases_Bool (l.from == p)) [
  | inl a ↦ elim (cases_Bool (l.to == q)) [
    | inl b ↦ inl (eqb-true l.from p a, eqb-true l.to q b)
    | inr g ↦ inr (rw (a, g) refl)
  ]
  | inr f ↦ inr (rw f refl)
]

or_first : (a b : Bool) → a ≡ true → a || b ≡ true
or_first a b h = rw h refl

or_rest : (a b : Bool) → b ≡ true → a || b ≡ true
or_rest true b h = refl
or_rest false b h = h

pub then_less : (o n : Ordering) → ordering_then o n ≡ Less → (o ≡ Less) ⊎ ((o ≡ Equal) × (n ≡ Less))
then_less Less n h = inl refl
then_less Equal n h = inr (refl, h)
then_less Greater n h = absurd (cc h)

less_number : (x y : ℕ) → nat_cmp x y ≡ Less → x < y
less_number x y h = let r = ranked x y Less (sym h) in r

module _ {K : Type 0} (cmp : K → K → Ordering) where
  links_next : (xs : List (K × ℕ)) (x y : K × ℕ)
      → links_in cmp (xs ++ x ∷ y ∷ []) ≡ links_in cmp (xs ++ x ∷ []) ++ cond (is_eq (cmp x.0 y.0)) (link x y ∷ []) []
  links_next [] x y = elim (cases_Bool (is_eq (cmp x.0 y.0))) [ inl t ↦ rw t refl | inr f ↦ rw f refl ]
  links_next (z ∷ []) x y = elim (cases_Bool (is_eq (cmp z.0 x.0))) [
    | inl t ↦ rw t (ap (λ ls. link z x ∷ ls) (links_next [] x y))
    | inr f ↦ rw f (links_next [] x y)
  ]
  links_next (z ∷ w ∷ ws) x y = elim (cases_Bool (is_eq (cmp z.0 w.0))) [
    | inl t ↦ rw t (ap (λ ls. link z w ∷ ls) (links_next (w ∷ ws) x y))
    | inr f ↦ rw f (links_next (w ∷ ws) x y)
  ]

  -- the links of one use more
  pub links_more : (uses : List (K × ℕ)) (at : ℕ) (x y : K × ℕ) → 1 ≤ at → at < length uses → x ≡ get_or uses (at - 1) x
      → y ≡ get_or uses at y
      → links_in cmp (take (at + 1) uses) ≡ links_in cmp (take at uses) ++ cond (is_eq (cmp x.0 y.0)) (link x y ∷ []) []
  links_more uses at x y one lt x_is y_is =
      let before : at - 1 + 1 ≡ at = omega arith in
      let first : take at uses ≡ take (at - 1) uses ++ x ∷ [] =
      ap (λ n. take n uses) (sym before) ∙ take_more uses (at - 1) x (omega arith)
      ∙ ap (λ u. take (at - 1) uses ++ u ∷ []) (sym x_is) in
      let both : take (at + 1) uses ≡ take (at - 1) uses ++ x ∷ y ∷ [] =
      take_more uses at y lt ∙ ap (λ u. take at uses ++ u ∷ []) (sym y_is) ∙ ap (λ us. us ++ y ∷ []) first
      ∙ append_assoc (take (at - 1) uses) (x ∷ []) (y ∷ []) in
      ap (links_in cmp) both ∙ links_next (take (at - 1) uses) x y
      ∙ ap (λ us. links_in cmp us ++ cond (is_eq (cmp x.0 y.0)) (link x y ∷ []) []) (sym first)

  pub links_first : (uses : List (K × ℕ)) → links_in cmp (take 1 uses) ≡ []
  links_first [] = refl
  links_first (u ∷ uses) = refl

  -- the same, as the loop has it
  pub put_more : (uses : List (K × ℕ)) (at : ℕ) (x y : K × ℕ) (first old now : List Link) (tied : Bool) → 1 ≤ at
      → at < length uses → x ≡ get_or uses (at - 1) x → y ≡ get_or uses at y → old ≡ first ++ links_in cmp (take at uses)
      → tied ≡ is_eq (cmp x.0 y.0) → now ≡ cond tied (old ++ link x y ∷ []) old
      → now ≡ first ++ links_in cmp (take (at + 1) uses)
  put_more uses at x y first old now true one lt x_is y_is before is step =
      step ∙ ap (λ ls. ls ++ link x y ∷ []) before
      ∙ append_assoc first (links_in cmp (take at uses)) (link x y ∷ [])
      ∙ ap (λ t. first ++ (links_in cmp (take at uses) ++ cond t (link x y ∷ []) [])) is
      ∙ ap (λ ls. first ++ ls) (sym (links_more uses at x y one lt x_is y_is))
  put_more uses at x y first old now false one lt x_is y_is before is step =
      step ∙ before
      ∙ ap (λ ls. first ++ ls) (sym (append-nil (links_in cmp (take at uses))))
      ∙ ap (λ t. first ++ (links_in cmp (take at uses) ++ cond t (link x y ∷ []) [])) is
      ∙ ap (λ ls. first ++ ls) (sym (links_more uses at x y one lt x_is y_is))

  module _ (order : IsTotalOrder cmp) (exact : CmpEqualImpliesEq cmp) where
    pub use_total : IsTotalOrder (use_cmp cmp)
    use_total = by_two_total (λ (u : K × ℕ). u.0) (λ u. u.1) order number_total

    pub use_exact : CmpEqualImpliesEq (use_cmp cmp)
    use_exact = by_two_exact (λ (u : K × ℕ). u.0) (λ u. u.1) exact number_exact
        (λ j k e f. ap (λ x. let u : K × ℕ = (x, j.1) in u) e ∙ ap (λ y. let u : K × ℕ = (k.0, y) in u) f)

    first_used : (x : K × ℕ) (uses : List (K × ℕ)) → is_used cmp (x ∷ uses) x.0 x.1 ≡ true
    first_used x uses = or_first _ (is_used cmp uses x.0 x.1) (ap is_eq (tied_itself use_total x))

    -- what a use in order is below
    below_used : (x : K × ℕ) (uses : List (K × ℕ)) (k : K) (i : ℕ) → IsBelow (use_cmp cmp) itself x uses
        → is_used cmp uses k i ≡ true → use_cmp cmp x (k, i) ≡ Less
    below_used x [] k i below used = absurd (cc used)
    below_used x (y ∷ ys) k i below used = elim (cases_Bool (eq_by_cmp (use_cmp cmp) (k, i) y)) [
      | inl t ↦
          let same : (k, i) ≡ y = use_exact (k, i) y (Equal-from_is_eq _ t) in
          ap (use_cmp cmp x) same ∙ below.0
      | inr f ↦ below_used x ys k i below.1 (rw f at used)
    ]

    -- links go forward, from use to use of one name
    pub links_forward : (uses : List (K × ℕ)) (p q : ℕ) → IsAscending (use_cmp cmp) itself uses
        → 1 ≤ linked p q (links_in cmp uses)
        → (k : K) × (is_used cmp uses k p ≡ true) × (is_used cmp uses k q ≡ true) × (p < q)
    links_forward [] p q rise h = absurd (omega arith)
    links_forward (x ∷ []) p q rise h = absurd (omega arith)
    links_forward (x ∷ y ∷ ys) p q rise h = elim (cases_Bool (is_eq (cmp x.0 y.0))) [
      | inl t ↦
          let tied : cmp x.0 y.0 ≡ Equal = Equal-from_is_eq _ t in
          let name : x.0 ≡ y.0 = exact x.0 y.0 tied in
          let less : nat_cmp x.1 y.1 ≡ Less = rw tied at rise.0.0 in
          let has : 1 ≤ link_if (link x y) p q + linked p q (links_in cmp (y ∷ ys)) =
          subst (λ n. 1 ≤ n) (ap (λ b. linked p q (cond b (link x y ∷ links_in cmp (y ∷ ys)) (links_in cmp (y ∷ ys)))) t
          ∙ linked-cons p q (link x y) (links_in cmp (y ∷ ys))) h in
          elim (link_cases (link x y) p q) [
            | inl here ↦
                let from : x.1 ≡ p = here.0 in
                let to : y.1 ≡ q = here.1 in
                let up : x.1 < y.1 = less_number x.1 y.1 less in
                let a : is_used cmp (x ∷ y ∷ ys) x.0 p ≡ true =
                ap (is_used cmp (x ∷ y ∷ ys) x.0) (sym from) ∙ first_used x (y ∷ ys) in
                let b : is_used cmp (x ∷ y ∷ ys) x.0 q ≡ true =
                or_rest (eq_by_cmp (use_cmp cmp) (x.0, q) x) (is_used cmp (y ∷ ys) x.0 q)
                (ap (is_used cmp (y ∷ ys) x.0) (sym to) ∙ ap (λ k. is_used cmp (y ∷ ys) k y.1) name ∙ first_used y ys) in
                (x.0, a, b, omega arith)
            | inr none ↦
                let w = links_forward (y ∷ ys) p q rise.1 (omega arith) in
                (w.0, or_rest _ (is_used cmp (y ∷ ys) w.0 p) w.1, or_rest _ (is_used cmp (y ∷ ys) w.0 q) w.2, w.3)
          ]
      | inr f ↦
          let w = links_forward (y ∷ ys) p q rise.1 (rw f at h) in
          (w.0, or_rest _ (is_used cmp (y ∷ ys) w.0 p) w.1, or_rest _ (is_used cmp (y ∷ ys) w.0 q) w.2, w.3)
    ]

    linked_later : (x y : K × ℕ) (ys : List (K × ℕ)) (p q : ℕ) → 1 ≤ linked p q (links_in cmp (y ∷ ys))
        → 1 ≤ linked p q (links_in cmp (x ∷ y ∷ ys))
    linked_later x y ys p q h = elim (cases_Bool (is_eq (cmp x.0 y.0))) [
      | inl t ↦ rw t (let c = linked-cons p q (link x y) (links_in cmp (y ∷ ys)) in omega arith)
      | inr f ↦ rw f h
    ]

    -- the next use of a name is no later than any later one
    next_use : (x y : K × ℕ) (ys : List (K × ℕ)) (i : ℕ) → use_cmp cmp x y ≡ Less → IsBelow (use_cmp cmp) itself y ys
        → is_used cmp (y ∷ ys) x.0 i ≡ true → (cmp x.0 y.0 ≡ Equal) × (y.1 ≤ i)
    next_use x y ys i less below used = elim (cases_Bool (eq_by_cmp (use_cmp cmp) (x.0, i) y)) [
      | inl t ↦
          let same : (x.0, i) ≡ y = use_exact (x.0, i) y (Equal-from_is_eq _ t) in
          let at : i ≡ y.1 = ap (λ u. u.1) same in
          (ap (cmp x.0) (sym (ap (λ u. u.0) same)) ∙ tied_itself order x.0, omega arith)
      | inr f ↦
          let after : use_cmp cmp y (x.0, i) ≡ Less = below_used y ys x.0 i below (rw f at used) in
          elim (then_less (cmp y.0 x.0) (nat_cmp y.1 i) after) [
            | inl back ↦ elim (then_less (cmp x.0 y.0) (nat_cmp x.1 y.1) less) [
              | inl forth ↦ absurd (let e : Equal ≡ Less = sym (tied_itself order x.0) ∙ order.trans x.0 y.0 x.0 forth back in cc)
              | inr tied ↦ absurd (let name : x.0 ≡ y.0 = exact x.0 y.0 tied.0 in
                  let e : Equal ≡ Less = sym (tied_itself order x.0) ∙ ap (λ k. cmp k x.0) name ∙ back in cc)
            ]
            | inr tied ↦
                let name : y.0 ≡ x.0 = exact y.0 x.0 tied.0 in
                let up : y.1 < i = less_number y.1 i tied.1 in
                (ap (cmp x.0) name ∙ tied_itself order x.0, omega arith)
          ]
    ]

    -- from each use of a name there is a link to each later one, or to one before it
    pub links_reach : (uses : List (K × ℕ)) (k : K) (j i : ℕ) → IsAscending (use_cmp cmp) itself uses
        → is_used cmp uses k j ≡ true → is_used cmp uses k i ≡ true → j < i
        → (q : ℕ) × (1 ≤ linked j q (links_in cmp uses)) × (is_used cmp uses k q ≡ true) × (q ≤ i)
    links_reach [] k j i rise a b lt = absurd (cc a)
    links_reach (x ∷ []) k j i rise a b lt =
        let p : (k, j) ≡ x = use_exact (k, j) x (Equal-from_is_eq _ (sym (or_false _) ∙ a)) in
        let q : (k, i) ≡ x = use_exact (k, i) x (Equal-from_is_eq _ (sym (or_false _) ∙ b)) in
        absurd (let e : j ≡ i = ap (λ u. u.1) (p ∙ sym q) in omega arith)
    links_reach (x ∷ y ∷ ys) k j i rise a b lt = elim (cases_Bool (eq_by_cmp (use_cmp cmp) (k, j) x)) [
      | inl here ↦
          let p : (k, j) ≡ x = use_exact (k, j) x (Equal-from_is_eq _ here) in
          let name : k ≡ x.0 = ap (λ u. u.0) p in
          let place : j ≡ x.1 = ap (λ u. u.1) p in
          elim (cases_Bool (eq_by_cmp (use_cmp cmp) (k, i) x)) [
            | inl again ↦
                let q : (k, i) ≡ x = use_exact (k, i) x (Equal-from_is_eq _ again) in
                absurd (let e : j ≡ i = ap (λ u. u.1) (p ∙ sym q) in omega arith)
            | inr rest ↦
                let later : is_used cmp (y ∷ ys) k i ≡ true = rw rest at b in
                let n = next_use x y ys i rise.0.0 rise.1.0 (ap (λ m. is_used cmp (y ∷ ys) m i) (sym name) ∙ later) in
                let tie : is_eq (cmp x.0 y.0) ≡ true = ap is_eq n.0 in
                let from : link_if (link x y) x.1 y.1 ≡ 1 = link_own (link x y) in
                let many : linked x.1 y.1 (links_in cmp (x ∷ y ∷ ys))
                ≡ link_if (link x y) x.1 y.1 + linked x.1 y.1 (links_in cmp (y ∷ ys)) =
                ap (λ t. linked x.1 y.1 (cond t (link x y ∷ links_in cmp (y ∷ ys)) (links_in cmp (y ∷ ys)))) tie
                ∙ linked-cons x.1 y.1 (link x y) (links_in cmp (y ∷ ys)) in
                let some : 1 ≤ linked x.1 y.1 (links_in cmp (x ∷ y ∷ ys)) = omega arith in
                let same : k ≡ y.0 = name ∙ exact x.0 y.0 n.0 in
                let used : is_used cmp (x ∷ y ∷ ys) k y.1 ≡ true = or_rest (eq_by_cmp (use_cmp cmp) (k, y.1) x) (is_used cmp (y ∷ ys) k y.1)
                (ap (λ m. is_used cmp (y ∷ ys) m y.1) same ∙ first_used y ys) in
                (y.1, subst (λ p. 1 ≤ linked p y.1 (links_in cmp (x ∷ y ∷ ys))) (sym place) some, used, n.1)
          ]
      | inr rest ↦
          let first : is_used cmp (y ∷ ys) k j ≡ true = rw rest at a in
          elim (cases_Bool (eq_by_cmp (use_cmp cmp) (k, i) x)) [
            | inl again ↦
                let q : (k, i) ≡ x = use_exact (k, i) x (Equal-from_is_eq _ again) in
                let below : use_cmp cmp (k, i) (k, j) ≡ Less =
                ap (λ u. use_cmp cmp u (k, j)) q ∙ below_used x (y ∷ ys) k j rise.0 first in
                absurd (elim (then_less (cmp k k) (nat_cmp i j) below) [
                  | inl less ↦ let e : Equal ≡ Less = sym (tied_itself order k) ∙ less in cc
                  | inr tied ↦ let down : i < j = less_number i j tied.1 in omega arith
                ])
            | inr other ↦
                let w = links_reach (y ∷ ys) k j i rise.1 first (rw other at b) lt in
                (w.0, linked_later x y ys j w.0 w.1, or_rest _ (is_used cmp (y ∷ ys) k w.0) w.2, w.3)
          ]
    ]
