-- A link more: the row of its place has one place more, which waits for one link more.
use Rattle.std.proofs.Common.{◌≡◌, ◌≢◌, ℕ, suc, ◌+◌, ◌-◌, ◌<◌, ◌≤◌, cond, ◌&&◌, ◌==◌, List, [], ◌∷◌, ◌++◌, length}
use Rattle.std.proofs.Common.{get_or, map, replicate, set, take, refl, ap, sym, ◌∙◌, inl, inr, arith, subst}
use Rattle.std.proofs.lemmas.Bool.{cases_Bool, cases_eq, cases_lt, eq-eqb, eqb-true}
use Rattle.std.proofs.lemmas.List.{get_or-replicate, get_or-set_other, get_or_default, get_or_past}
use Rattle.std.proofs.lemmas.List.{length-map, length-replicate, length-set, map-set, take_more}
use Rattle.std.proofs.lemmas.List.Sums.{get_or-le-sum_by, sum_by_push}
use Rattle.rx_schedule.specs.declared.links.Link.{Link}
use Rattle.rx_schedule.specs.Links.{AreCounted, AreFree, AreRows, linked, number_at, row_of, times, total}
use Rattle.rx_schedule.proofs.Released.{row_read}
use Rattle.rx_schedule.proofs.Times.{number-other, number-same, one_if, one_other, one_same, one_small}
use Rattle.rx_schedule.proofs.Times.{row-other, row-same, times-push, total-none, total-set}

-- 1 where the link goes from this place to that one, else 0
abbrev link_if : Link → ℕ → ℕ → ℕ
link_if l p q = cond ((l.from == p) && (l.to == q)) 1 0

linked-push : (links : List Link) (l : Link) (p q : ℕ) → linked p q (links ++ l ∷ []) ≡ linked p q links + link_if l p q
linked-push links l p q = sum_by_push (λ k. link_if k p q) links l

link_own : (l : Link) (q : ℕ) → link_if l l.from q ≡ one_if l.to q
link_own l q = rw (eq-eqb l.from l.from refl) refl

link_other : (l : Link) (p q : ℕ) → l.from ≢ p → link_if l p q ≡ 0
link_other l p q h = elim (cases_Bool (l.from == p)) [
  | inl t ↦ absurd (h (eqb-true l.from p t))
  | inr f ↦ rw f refl
]

-- a link of the list is counted
pub linked-at : (links : List Link) (i : ℕ) (l d : Link) → i < length links → l ≡ get_or links i d → 1 ≤ linked l.from l.to links
linked-at links i l d lt is =
    let a : link_if (get_or links i d) l.from l.to ≤ linked l.from l.to links =
    get_or-le-sum_by (λ k. link_if k l.from l.to) links i d lt in
    let b : link_if l l.from l.to ≡ 1 = link_own l l.to ∙ one_same l.to in
    let e : link_if l l.from l.to ≡ link_if (get_or links i d) l.from l.to = ap (λ k. link_if k l.from l.to) is in
    omega arith

module _ (n : ℕ) (links : List Link) (rows : List (List ℕ)) (waiting : List ℕ) (a : AreRows n links rows)
    (c : AreCounted n rows waiting) (l : Link) (one : 1 ≤ l.from) (to : l.from ≤ n) (low : 1 ≤ l.to) (high : l.to ≤ n) where
  abbrev longer : List (List ℕ)
  longer = set rows (l.from - 1) (row_of rows l.from ++ l.to ∷ [])

  abbrev raised : List ℕ
  raised = set waiting (l.to - 1) (number_at waiting l.to + 1)

  own_row : row_of longer l.from ≡ row_of rows l.from ++ l.to ∷ []
  own_row = let many : length rows ≡ n = a.as_many in
      row-same rows l.from (row_of rows l.from ++ l.to ∷ []) one (omega arith)

  pub rows_more : AreRows n (links ++ l ∷ []) longer
  rows_more = record {
    as_many = length-set rows (l.from - 1) (row_of rows l.from ++ l.to ∷ []) ∙ a.as_many;
    linked = λ p q from upto.
        let m : linked p q (links ++ l ∷ []) ≡ linked p q links + link_if l p q = linked-push links l p q in
        let h : times q (row_of rows p) ≡ linked p q links = a.linked p q from upto in
        elim (cases_eq p l.from) [
          | inl here ↦
              let r : times q (row_of longer p) ≡ times q (row_of rows p) + one_if l.to q =
              ap (λ x. times q (row_of longer x)) here ∙ ap (times q) own_row ∙ times-push q (row_of rows l.from) l.to
              ∙ ap (λ x. times q (row_of rows x) + one_if l.to q) (sym here) in
              let o : link_if l p q ≡ one_if l.to q = ap (λ x. link_if l x q) here ∙ link_own l q in
              omega arith
          | inr other ↦
              let r : times q (row_of longer p) ≡ times q (row_of rows p) =
              ap (times q) (row-other rows l.from p (row_of rows l.from ++ l.to ∷ []) one from other) in
              let o : link_if l p q ≡ 0 = link_other l p q (λ g. other (sym g)) in
              omega arith
        ];
  }

  more_total : (x : ℕ) → total x longer ≡ total x rows + one_if l.to x
  more_total x =
      let many : length rows ≡ n = a.as_many in
      let e : total x longer + times x (row_of rows l.from) ≡ total x rows + times x (row_of rows l.from ++ l.to ∷ []) =
      total-set x rows l.from (row_of rows l.from ++ l.to ∷ []) (omega arith) in
      let p : times x (row_of rows l.from ++ l.to ∷ []) ≡ times x (row_of rows l.from) + one_if l.to x =
      times-push x (row_of rows l.from) l.to in
      omega arith

  pub counted_more : AreCounted n longer raised
  counted_more =
      let long : length waiting ≡ n = c.as_many in
      record {
        as_many_rows = length-set rows (l.from - 1) (row_of rows l.from ++ l.to ∷ []) ∙ a.as_many;
        as_many = length-set waiting (l.to - 1) (number_at waiting l.to + 1) ∙ long;
        counted = λ x from upto.
            let d : number_at waiting x ≡ total x rows = c.counted x from upto in
            let t : total x longer ≡ total x rows + one_if l.to x = more_total x in
            elim (cases_eq x l.to) [
              | inl here ↦
                  let r : number_at raised x ≡ number_at waiting l.to + 1 =
                  ap (number_at raised) here ∙ number-same waiting l.to (number_at waiting l.to + 1) low (omega arith) in
                  let s : number_at waiting x ≡ number_at waiting l.to = ap (number_at waiting) here in
                  let o : one_if l.to x ≡ 1 = ap (one_if l.to) here ∙ one_same l.to in omega arith
              | inr other ↦
                  let r : number_at raised x ≡ number_at waiting x =
                  number-other waiting l.to x (number_at waiting l.to + 1) low from other in
                  let o : one_if l.to x ≡ 0 = one_other l.to x (λ g. other (sym g)) in omega arith
            ];
        within = λ p x from upto has. elim (cases_eq x l.to) [
          | inl here ↦ subst (λ y. (1 ≤ y) × (y ≤ n)) (sym here) (low, high)
          | inr other ↦ c.within p x from upto (elim (cases_eq p l.from) [
            | inl here ↦
                let r : times x (row_of longer p) ≡ times x (row_of rows p) + one_if l.to x =
                ap (λ y. times x (row_of longer y)) here ∙ ap (times x) own_row ∙ times-push x (row_of rows l.from) l.to
                ∙ ap (λ y. times x (row_of rows y) + one_if l.to x) (sym here) in
                let o : one_if l.to x ≡ 0 = one_other l.to x (λ g. other (sym g)) in omega arith
            | inr away ↦ subst (λ ys. 1 ≤ times x ys)
                (row-other rows l.from p (row_of rows l.from ++ l.to ∷ []) one from away) has
          ])
        ];
      }

  pub few_more : (k : ℕ) → ((q : ℕ) → number_at waiting q ≤ k) → (q : ℕ) → number_at raised q ≤ k + 1
  few_more k few q = elim (cases_eq (q - 1) (l.to - 1)) [
    | inl here ↦
        let long : length waiting ≡ n = c.as_many in
        let r : number_at raised q ≡ number_at waiting l.to + 1 =
        ap (λ i. get_or raised i 0) here ∙ number-same waiting l.to (number_at waiting l.to + 1) low (omega arith) in
        let f : number_at waiting l.to ≤ k = few l.to in omega arith
    | inr other ↦
        let r : number_at raised q ≡ number_at waiting q =
        get_or-set_other waiting (l.to - 1) (q - 1) (number_at waiting l.to + 1) 0 other in
        let f : number_at waiting q ≤ k = few q in omega arith
  ]

-- no link yet
none_at : (n p : ℕ) → row_of (replicate n []) p ≡ []
none_at n p = elim (cases_lt (p - 1) n) [
  | inl lt ↦ get_or-replicate n (p - 1) [] [] lt
  | inr past ↦ get_or_past (replicate n []) (p - 1) [] (omega (arith, length-replicate {A = List ℕ}))
]

zero_at : (n q : ℕ) → number_at (replicate n 0) q ≡ 0
zero_at n q = elim (cases_lt (q - 1) n) [
  | inl lt ↦ get_or-replicate n (q - 1) 0 0 lt
  | inr past ↦ get_or_past (replicate n 0) (q - 1) 0 (omega (arith, length-replicate {A = ℕ}))
]

pub rows_begin : (n : ℕ) → AreRows n [] (replicate n [])
rows_begin n = record {
  as_many = length-replicate n [];
  linked = λ p q one to. ap (times q) (none_at n p);
}

pub counted_begins : (n : ℕ) → AreCounted n (replicate n []) (replicate n 0)
counted_begins n = record {
  as_many_rows = length-replicate n [];
  as_many = length-replicate n 0;
  counted = λ q low high. zero_at n q ∙ sym (total-none q (replicate n []) (λ p one to. ap (times q) (none_at n p)));
  within = λ p q one to has. absurd (let z : times q (row_of (replicate n []) p) ≡ 0 = ap (times q) (none_at n p) in omega arith);
}

pub few_begins : (n q : ℕ) → number_at (replicate n 0) q ≤ 0
few_begins n q = let z : number_at (replicate n 0) q ≡ 0 = zero_at n q in omega arith

-- ---- the free places, one place more

module _ (n : ℕ) (waiting order : List ℕ) (f : AreFree n waiting order) where
  pub free_more : number_at waiting (suc n) ≡ 0 → AreFree (suc n) waiting (order ++ suc n ∷ [])
  free_more none =
      let out : times (suc n) order ≡ 0 = elim (cases_lt 0 (times (suc n) order)) [
        | inl some ↦ absurd (let t = f.there (suc n) (omega arith) in let z : suc n ≤ n = t.1 in omega arith)
        | inr no_more ↦ omega arith
      ] in
      let many : (x : ℕ) → times x (order ++ suc n ∷ []) ≡ times x order + one_if (suc n) x = λ x. times-push x order (suc n) in
      record {
        all = λ x low high free. elim (cases_eq (suc n) x) [
          | inl here ↦
              let o : one_if (suc n) x ≡ 1 = ap (one_if (suc n)) (sym here) ∙ one_same (suc n) in
              let m : times x (order ++ suc n ∷ []) ≡ times x order + one_if (suc n) x = many x in omega arith
          | inr other ↦
              let h : 1 ≤ times x order = f.all x low (omega arith) free in
              let m : times x (order ++ suc n ∷ []) ≡ times x order + one_if (suc n) x = many x in omega arith
        ];
        there = λ x has. elim (cases_eq (suc n) x) [
          | inl here ↦ subst (λ y. (1 ≤ y) × (y ≤ suc n) × (number_at waiting y ≡ 0)) here (omega arith, omega arith, none)
          | inr other ↦
              let o : one_if (suc n) x ≡ 0 = one_other (suc n) x other in
              let m : times x (order ++ suc n ∷ []) ≡ times x order + one_if (suc n) x = many x in
              let t = f.there x (omega arith) in
              let u : x ≤ n = t.1 in
              (t.0, (omega arith), t.2)
        ];
        once = λ x. elim (cases_eq (suc n) x) [
          | inl here ↦
              let o : one_if (suc n) x ≤ 1 = one_small (suc n) x in
              let z : times x order ≡ 0 = ap (λ y. times y order) (sym here) ∙ out in
              let m : times x (order ++ suc n ∷ []) ≡ times x order + one_if (suc n) x = many x in omega arith
          | inr other ↦
              let o : one_if (suc n) x ≡ 0 = one_other (suc n) x other in
              let h : times x order ≤ 1 = f.once x in
              let m : times x (order ++ suc n ∷ []) ≡ times x order + one_if (suc n) x = many x in omega arith
        ];
      }

  pub free_stays : number_at waiting (suc n) ≢ 0 → AreFree (suc n) waiting order
  free_stays some = record {
    all = λ x low high free. elim (cases_eq x (suc n)) [
      | inl here ↦ absurd (some (ap (number_at waiting) (sym here) ∙ free))
      | inr other ↦ f.all x low (omega arith) free
    ];
    there = λ x has. let t = f.there x has in let u : x ≤ n = t.1 in (t.0, (omega arith), t.2);
    once = f.once;
  }

-- as the loop has them
pub free_next : (n place : ℕ) (waiting order : List ℕ) → AreFree n waiting order → place ≡ n + 1 → get_or waiting n 0 ≡ 0
    → AreFree place waiting (order ++ place ∷ [])
free_next n place waiting order f e none =
    let at : place ≡ suc n = omega arith in
    let index : suc n - 1 ≡ n = omega arith in
    rw at (free_more n waiting order f (ap (λ i. get_or waiting i 0) index ∙ none))

pub free_kept : (n place : ℕ) (waiting order : List ℕ) → AreFree n waiting order → place ≡ n + 1 → get_or waiting n 0 ≢ 0
    → AreFree place waiting order
free_kept n place waiting order f e some =
    let at : place ≡ suc n = omega arith in
    let index : suc n - 1 ≡ n = omega arith in
    rw at (free_stays n waiting order f (λ z. some (sym (ap (λ i. get_or waiting i 0) index) ∙ z)))

pub free_begins : (waiting : List ℕ) → AreFree 0 waiting []
free_begins waiting = record {
  all = λ x low high free. absurd (omega arith);
  there = λ x has. absurd (omega arith);
  once = λ x. omega arith;
}

-- ---- the same, as the loop over the links has it

module _ {V : Type 0} (items : V → List ℕ) (n : ℕ) (links : List Link) (i : ℕ) (vectors : List V) (waiting : List ℕ) (link : Link)
    (row v : V) (number : ℕ) (a : AreRows n (take i links) (map items vectors)) (c : AreCounted n (map items vectors) waiting)
    (small : (q : ℕ) → number_at waiting q ≤ i) (lt : i < length links) (is : link ≡ get_or links i link)
    (one : 1 ≤ link.from) (to : link.from ≤ n) (low : 1 ≤ link.to) (high : link.to ≤ n)
    (row_is : row ≡ get_or vectors (link.from - 1) row) (v_is : items v ≡ items row ++ link.to ∷ [])
    (number_is : number ≡ get_or waiting (link.to - 1) number) where
  rows_now : map items (set vectors (link.from - 1) v) ≡ longer n (take i links) (map items vectors) waiting a c link one to low high
  rows_now =
      let many : length (map items vectors) ≡ n = a.as_many in
      let long : length (map items vectors) ≡ length vectors = length-map vectors items in
      map-set items vectors (link.from - 1) v
      ∙ ap (set (map items vectors) (link.from - 1)) (v_is ∙ ap (λ xs. xs ++ link.to ∷ [])
      (sym (row_read items vectors link.from row (omega arith) row_is)))

  waiting_now : set waiting (link.to - 1) (number + 1) ≡ raised n (take i links) (map items vectors) waiting a c link one to low high
  waiting_now =
      let long : length waiting ≡ n = c.as_many in
      ap (λ k. set waiting (link.to - 1) (k + 1)) (number_is ∙ get_or_default waiting (link.to - 1) number 0 (omega arith))

  pub link_more : record {
    rows : AreRows n (take (i + 1) links) (map items (set vectors (link.from - 1) v));
    counted : AreCounted n (map items (set vectors (link.from - 1) v)) (set waiting (link.to - 1) (number + 1));
    few : (q : ℕ) → number_at (set waiting (link.to - 1) (number + 1)) q ≤ i + 1;
  }
  link_more = record {
    rows = rw (rows_now, take_more links i link lt, ← is)
        (rows_more n (take i links) (map items vectors) waiting a c link one to low high);
    counted = rw (rows_now, waiting_now) (counted_more n (take i links) (map items vectors) waiting a c link one to low high);
    few = λ q. rw waiting_now (few_more n (take i links) (map items vectors) waiting a c link one to low high i small q);
  }
