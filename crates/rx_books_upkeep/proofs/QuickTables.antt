-- A table of which each line is a member's, and no member's twice, has the members of its lines, in order.
use Rattle.std.proofs.Common.{◌≡◌, ℕ, ◌+◌, ◌≤◌, List, [], ◌∷◌, ◌++◌, length, map, cond, eqb, Bool, true, false, Ok, Some, None, Option}
use Rattle.std.proofs.Common.{refl, sym, ap, subst, ◌∙◌, inl, inr, arith, append_assoc, append-nil}
use Rattle.std.specs.Prelude.{IfOk, IfSome, Result, Err, nat_eq}
use Rattle.std.specs.BTreeMap.{insert_entry}
use Rattle.std.specs.List.{count_by}
use Rattle.std.specs.List.Sorted.{IsPermutation}
use Rattle.std.specs.Cmp.{eq_by_cmp_equiv}
use Rattle.std.specs.Cmp.Lexicographic.{pointwise}
use Rattle.std.specs.Option.{option_map}
use Rattle.std.specs.Result.{result_ok}
use Rattle.std.specs.Ordering.{is_eq, ordering_reverse}
use Rattle.std.proofs.lemmas.Bool.{cases_Bool}
use Rattle.std.proofs.lemmas.List.Sorted.{Contains-permutation, IsPermutation-cons, IsPermutation-middle, IsPermutation-refl, IsPermutation-sym}
use Rattle.std.proofs.lemmas.List.Sorted.{IsPermutation-append_right, IsPermutation-trans, sum_by-IsPermutation}
use Rattle.std.proofs.lemmas.List.Sums.{sum_by-cons}
use Rattle.rx_fields.specs.declared.memory.Memory.{Memory}
use Rattle.rx_text.specs.Results.{◌>>=◌}
use Rattle.rx_sorted.specs.Ascending.{IsAscending, has_key, item_at, put}
use Rattle.rx_sorted.proofs.Edits.{same_members}
use Rattle.rx_sorted.proofs.Kept.{IsAscending-put}
use Rattle.rx_sorted.proofs.Keys.{Equal-from_is_eq, cases_Ordering, has_key-itself, item_at-below}
use Rattle.rx_sorted.proofs.LookUps.{item_at-tied}
use Rattle.rx_ledger.specs.declared.member.Member.{Member}
use Rattle.rx_ledger.specs.declared.member.MemberKey.{MemberKey}
use Rattle.rx_ledger.specs.Members.{member_cmp, member_key}
use Rattle.rx_ledger.proofs.Orders.{member_total}
use Rattle.rx_books_text.specs.TextReading.{lines}
use Rattle.rx_books_text.proofs.TextSteps.{lines_cons}
use Rattle.rx_books_upkeep.specs.declared.table_fault.TableFault.{TableFault}
use Rattle.rx_books_upkeep.specs.declared.table_fault.Wrong.{Wrong}
use Rattle.rx_books_upkeep.specs.QuickTable.{AreSorted, members_in, readily, with_first}
use Rattle.rx_books_upkeep.specs.Table.{Entries, heading, listed_at, member_added, member_at, row_added, row_read, rows_read}
use Rattle.rx_books_upkeep.specs.TableLine.{member_in}
use Rattle.rx_books_upkeep.proofs.TableSteps.{heading_step}

-- ---- line by line

-- the end of the text
pub over : (list : List Member) (rest : List ℕ) (all : Option (List Member)) → eqb (length rest) 0 ≡ true
    → option_map (λ ms. list ++ ms) (members_in (rest ∷ [])) ≡ all → all ≡ Some list
unfolding members_in
over list rest all empty is =
    let none : members_in (rest ∷ []) ≡ Some [] = rw empty refl in
    sym is ∙ ap (option_map (λ ms. list ++ ms)) none ∙ ap Some (append-nil list)

one_more : (list : List Member) (m : Member) (o : Option (List Member))
    → option_map (λ ms. list ++ ms) (with_first (Some m) o) ≡ option_map (λ ms. (list ++ m ∷ []) ++ ms) o
one_more list m None = refl
one_more list m (Some ms) = ap Some (sym (append_assoc list (m ∷ []) ms))

-- one line's member more
pub more : (list : List Member) (m : Member) (line rest : List ℕ) (all : Option (List Member)) → member_in line ≡ Ok m
    → option_map (λ ms. list ++ ms) (members_in (line ∷ lines rest)) ≡ all
    → option_map (λ ms. (list ++ m ∷ []) ++ ms) (members_in (lines rest)) ≡ all
unfolding members_in
more list m line rest all read is =
    let cut = lines_cons rest in
    let step : members_in (line ∷ lines rest) ≡ with_first (Some m) (members_in (lines rest)) = rw (cut.2, read) refl in
    sym (one_more list m (members_in (lines rest))) ∙ ap (option_map (λ ms. list ++ ms)) (sym step) ∙ is

-- ---- how often a key comes

abbrev Key : Type 0
Key = MemberKey

abbrev has : Key → Member → Bool
has k m = has_key member_cmp member_key k m

abbrev count : Key → List Member → ℕ
count k ms = count_by (has k) ms

count-cons : (k : Key) (m : Member) (ms : List Member) → count k (m ∷ ms) ≡ cond (has k m) 1 0 + count k ms
count-cons k m ms = sum_by-cons (λ x. cond (has k x) 1 0) m ms

-- a key that doesn't come finds nobody, and the other way round
absent : (k : Key) (ms : List Member) → count k ms ≡ 0 → item_at member_cmp member_key ms k ≡ None
absent k [] none = refl
absent k (m ∷ ms) none = elim (cases_Bool (has k m)) [
  | inl t ↦ absurd (let one : count k (m ∷ ms) ≡ 1 + count k ms = count-cons k m ms ∙ ap (λ b. cond b 1 0 + count k ms) t in omega arith)
  | inr f ↦
      let step : count k (m ∷ ms) ≡ cond {A = ℕ} (has k m) 1 0 + count k ms = count-cons k m ms in
      let zero : cond {A = ℕ} (has k m) 1 0 ≡ 0 = ap (λ b. cond {A = ℕ} b 1 0) f in
      rw f (absent k ms (omega arith))
]

comes_not : (k : Key) (ms : List Member) → item_at member_cmp member_key ms k ≡ None → count k ms ≡ 0
comes_not k [] none = refl
comes_not k (m ∷ ms) none = elim (cases_Bool (has k m)) [
  | inl t ↦ absurd (let e : Some m ≡ None = (rw t at none) in cc)
  | inr f ↦
      let step : count k (m ∷ ms) ≡ cond {A = ℕ} (has k m) 1 0 + count k ms = count-cons k m ms in
      let zero : cond {A = ℕ} (has k m) 1 0 ≡ 0 = ap (λ b. cond {A = ℕ} b 1 0) f in
      let rest : count k ms ≡ 0 = comes_not k ms (rw f at none) in
      omega arith
]

-- in an ascending list a key comes once at most
once : (k : Key) (ms : List Member) → IsAscending member_cmp member_key ms → count k ms ≤ 1
once k [] rise = let none : count k [] ≡ 0 = refl in omega arith
once k (m ∷ ms) rise = elim (cases_Bool (has k m)) [
  | inl t ↦
      let none : count k ms ≡ 0 = comes_not k ms (sym (item_at-tied member_cmp member_total member_key ms m.key k (Equal-from_is_eq _ t))
      ∙ item_at-below member_cmp member_total member_key m.key ms rise.0) in
      let step : count k (m ∷ ms) ≡ cond {A = ℕ} (has k m) 1 0 + count k ms = count-cons k m ms in
      let one : cond {A = ℕ} (has k m) 1 0 ≡ 1 = ap (λ b. cond {A = ℕ} b 1 0) t in
      omega arith
  | inr f ↦
      let step : count k (m ∷ ms) ≡ cond {A = ℕ} (has k m) 1 0 + count k ms = count-cons k m ms in
      let zero : cond {A = ℕ} (has k m) 1 0 ≡ 0 = ap (λ b. cond {A = ℕ} b 1 0) f in
      let less = once k ms rise.1 in
      omega arith
]

-- ---- a new member

swapped : (x y : Member) (ms : List Member) → IsPermutation (x ∷ y ∷ ms) (y ∷ x ∷ ms)
swapped x y ms = IsPermutation-sym (y ∷ x ∷ ms) (x ∷ y ∷ ms) (IsPermutation-middle (y ∷ []) x ms)

-- is put among the others
pub put_in : (es : Entries) (m : Member) (n : ℕ) → listed_at es m.key ≡ None
    → IsPermutation (m ∷ map member_at es) (map member_at (insert_entry member_cmp es m.key (record { line = n; coverage = m.coverage })))
put_in [] m n none = IsPermutation-refl (m ∷ [])
put_in (e ∷ es) m n none = elim (cases_Ordering (member_cmp m.key e.0)) [
  | inl less ↦ rw less (IsPermutation-refl (m ∷ map member_at (e ∷ es)))
  | inr (inl tied) ↦ absurd (let f : Some e.1 ≡ None = (rw tied at none) in cc)
  | inr (inr greater) ↦
      let later : listed_at es m.key ≡ None = (rw greater at none) in
      let ms = map member_at es in
      let rest = put_in es m n later in
      let whole = insert_entry member_cmp es m.key (record { line = n; coverage = m.coverage }) in
      rw greater (IsPermutation-trans (m ∷ member_at e ∷ ms) (member_at e ∷ m ∷ ms) (member_at e ∷ map member_at whole)
      (swapped m (member_at e) ms) (IsPermutation-cons (member_at e) (m ∷ ms) (map member_at whole) rest))
]

-- and takes the place that the order gives it
put_is : (es : Entries) (m : Member) (n : ℕ) → listed_at es m.key ≡ None
    → map member_at (insert_entry member_cmp es m.key (record { line = n; coverage = m.coverage }))
    ≡ put member_cmp member_key (map member_at es) m
put_is [] m n none = refl
put_is (e ∷ es) m n none =
    let turned : member_cmp e.0 m.key ≡ ordering_reverse (member_cmp m.key e.0) = member_total.antisymm e.0 m.key in
    elim (cases_Ordering (member_cmp m.key e.0)) [
      | inl less ↦ rw (turned, less) refl
      | inr (inl tied) ↦ absurd (let f : Some e.1 ≡ None = (rw tied at none) in cc)
      | inr (inr greater) ↦
          let later : listed_at es m.key ≡ None = (rw greater at none) in
          rw (turned, greater) (ap (λ ms. member_at e ∷ ms) (put_is es m n later))
    ]

-- who isn't among the members isn't listed
unlisted : (es : Entries) (k : Key) → item_at member_cmp member_key (map member_at es) k ≡ None → listed_at es k ≡ None
unlisted [] k none = refl
unlisted (e ∷ es) k none =
    let turned : is_eq (member_cmp e.0 k) ≡ is_eq (member_cmp k e.0) = (eq_by_cmp_equiv member_total).symm e.0 k in
    elim (cases_Bool (is_eq (member_cmp e.0 k))) [
      | inl t ↦ absurd (let f : Some (member_at e) ≡ None = (rw t at none) in cc)
      | inr f ↦
          let other : is_eq (member_cmp k e.0) ≡ false = sym turned ∙ f in
          rw other (unlisted es k (rw f at none))
    ]

-- ---- all lines

-- a first line, and the others
record IsSplit (line : List ℕ) (others : List (List ℕ)) (ms : List Member) : Type 0 where
  first : Member
  later : List Member
  read : member_in line ≡ Ok first
  rest : members_in others ≡ Some later
  whole : ms ≡ first ∷ later

split_by : (line : List ℕ) (others : List (List ℕ)) (ms : List Member) (r : Result Member Wrong) (o : Option (List Member))
    → member_in line ≡ r → members_in others ≡ o → with_first (result_ok r) o ≡ Some ms
    → IsSplit line others ms
split_by line others ms (Err w) o one two is = absurd (let e : None ≡ Some ms = is in cc)
split_by line others ms (Ok m) None one two is = absurd (let e : None ≡ Some ms = is in cc)
split_by line others ms (Ok m) (Some later) one two is =
    record { first = m; later = later; read = one; rest = two; whole = let e : Some (m ∷ later) ≡ Some ms = is in cc }

split : (line next : List ℕ) (more : List (List ℕ)) (ms : List Member) → members_in (line ∷ next ∷ more) ≡ Some ms
    → IsSplit line (next ∷ more) ms
unfolding members_in
split line next more ms is = split_by line (next ∷ more) ms (member_in line) (members_in (next ∷ more)) refl refl is

-- what the lines from line n on come to, after these members
record IsRead (n : ℕ) (es : Entries) (ls : List (List ℕ)) (ms : List Member) : Type 0 where
  listed : Entries
  read : rows_read n es ls ≡ Ok listed
  moved : IsPermutation (ms ++ map member_at es) (map member_at listed)
  rise : IsAscending member_cmp member_key (map member_at listed)

none_more : (n : ℕ) (es : Entries) (ls : List (List ℕ)) (ms : List Member) → rows_read n es ls ≡ Ok es → [] ≡ ms
    → IsAscending member_cmp member_key (map member_at es) → IsRead n es ls ms
none_more n es ls [] read none up =
    record { listed = es; read = read; moved = IsPermutation-refl (map member_at es); rise = up }
none_more n es ls (m ∷ ms) read none up = absurd (let e : [] ≡ m ∷ ms = none in cc)

read_on : (n : ℕ) (es : Entries) (ls : List (List ℕ)) (ms : List Member) → members_in ls ≡ Some ms
    → ((k : Key) → count k (map member_at es) + count k ms ≤ 1) → IsAscending member_cmp member_key (map member_at es)
    → IsRead n es ls ms
unfolding rows_read row_read members_in
read_on n es [] ms is each up = none_more n es [] ms refl (let e : Some [] ≡ Some ms = is in cc) up
read_on n es (last ∷ []) ms is each up = elim (cases_Bool (eqb (length last) 0)) [
  | inl t ↦ none_more n es (last ∷ []) ms (rw t refl) (let e : Some [] ≡ Some ms = (rw t at is) in cc) up
  | inr f ↦ absurd (let e : None ≡ Some ms = (rw f at is) in cc)
]
read_on n es (line ∷ next ∷ more) ms is each up =
    let s = split line next more ms is in
    let m = s.first in
    let all : (k : Key) → count k (map member_at es) + (cond (has k m) 1 0 + count k s.later) ≤ 1 = λ k.
    let same : count k ms ≡ cond (has k m) 1 0 + count k s.later = ap (count k) s.whole ∙ count-cons k m s.later in
    let here = each k in
    omega arith in
    let free : listed_at es m.key ≡ None =
    let own : cond {A = ℕ} (has m.key m) 1 0 ≡ 1 =
    ap (λ b. cond {A = ℕ} b 1 0) (has_key-itself member_cmp member_total member_key m) in
    let few = all m.key in
    unlisted es m.key (absent m.key (map member_at es) (omega arith)) in
    let fs : Entries = insert_entry member_cmp es m.key (record { line = n; coverage = m.coverage }) in
    let in_place = put_in es m n free in
    let rest = read_on (n + 1) fs (next ∷ more) s.later s.rest
    (λ k.
    let same : count k (map member_at fs) ≡ count k (m ∷ map member_at es) =
    sum_by-IsPermutation (λ x. cond (has k x) 1 0) (m ∷ map member_at es) (map member_at fs) in_place in
    let one = count-cons k m (map member_at es) in
    let few = all k in
    omega arith)
    (subst (IsAscending member_cmp member_key) (sym (put_is es m n free))
    (IsAscending-put member_cmp member_total member_key (map member_at es) m up)) in
    let row : row_read n es line ≡ Ok fs = ap (row_added n es) s.read ∙ ap (member_added n es m) free in
    record {
      listed = rest.listed;
      read = ap (λ (res : Result Entries TableFault). res >>= λ gs. rows_read (n + 1) gs (next ∷ more)) row ∙ rest.read;
      moved = subst (λ (xs : List Member). IsPermutation (xs ++ map member_at es) (map member_at rest.listed)) (sym s.whole)
          (IsPermutation-trans (m ∷ s.later ++ map member_at es) (s.later ++ m ∷ map member_at es) (map member_at rest.listed)
          (IsPermutation-sym (s.later ++ m ∷ map member_at es) (m ∷ s.later ++ map member_at es)
          (IsPermutation-middle s.later m (map member_at es)))
          (IsPermutation-trans (s.later ++ m ∷ map member_at es) (s.later ++ map member_at fs) (map member_at rest.listed)
          (IsPermutation-append_right s.later (m ∷ map member_at es) (map member_at fs) in_place) rest.moved));
      rise = rest.rise;
    }

-- lines whose members ascend once they are sorted are read as these
pub sorted_read : (ls : List (List ℕ)) (ms sorted : List Member) → members_in ls ≡ Some ms → IsPermutation ms sorted
    → IsAscending member_cmp member_key sorted → (rows_read 2 [] ls >>= λ es. Ok (map member_at es)) ≡ Ok sorted
sorted_read ls ms sorted is moved up =
    let few : (k : Key) → count k [] + count k ms ≤ 1 = λ k.
    let none : count k [] ≡ 0 = refl in
    let same : count k sorted ≡ count k ms = sum_by-IsPermutation (λ x. cond (has k x) 1 0) ms sorted moved in
    let less = once k sorted up in
    omega arith in
    let r = read_on 2 [] ls ms is few tt in
    let here : IsPermutation ms (map member_at r.listed) =
    subst (λ (xs : List Member). IsPermutation xs (map member_at r.listed)) (append-nil ms) r.moved in
    let same : map member_at r.listed ≡ sorted =
    same_members member_cmp member_total member_key (map member_at r.listed) sorted r.rise up
    (λ x has. Contains-permutation ms sorted x moved
    (Contains-permutation (map member_at r.listed) ms x (IsPermutation-sym ms (map member_at r.listed) here) has))
    (λ x has. Contains-permutation ms (map member_at r.listed) x here
    (Contains-permutation sorted ms x (IsPermutation-sym ms sorted moved) has)) in
    ap (λ (res : Result Entries TableFault). res >>= λ es. Ok (map member_at es)) r.read ∙ ap Ok same

-- and the heading above them
pub headed_readily : (first rest : List ℕ) (ms sorted : List Member) → pointwise nat_eq first heading ≡ true
    → members_in (lines rest) ≡ Some ms → IsPermutation ms sorted → IsAscending member_cmp member_key sorted
    → readily (first ∷ lines rest) ≡ Ok sorted
headed_readily first rest ms sorted same is moved up =
    ap (λ (res : Result Entries TableFault). res >>= λ es. Ok (map member_at es)) (heading_step first rest same)
    ∙ sorted_read (lines rest) ms sorted is moved up

-- ---- what may not be found

pub map_none : (o : Option (List Member)) → option_map (λ ms. [] ++ ms) o ≡ o
map_none None = refl
map_none (Some ms) = refl

pub are_sorted : (ls : List (List ℕ)) (ms : List Member) (r : Result (Option (List Member)) Memory) → members_in ls ≡ Some ms
    → IfOk r (λ o. IfSome o (λ list. IsPermutation ms list)) → IfOk r (λ o. IfSome o (λ list. IsAscending member_cmp member_key list))
    → IfOk r (λ o. IfSome o (AreSorted ls))
are_sorted ls ms (Err e) is moved up = tt
are_sorted ls ms (Ok None) is moved up = tt
are_sorted ls ms (Ok (Some list)) is moved up = record { members = ms; are = is; moved = moved; rise = up }

pub found_readily : (text first rest : List ℕ) (r : Result (Option (List Member)) Memory) → lines text ≡ first ∷ lines rest
    → pointwise nat_eq first heading ≡ true → IfOk r (λ o. IfSome o (AreSorted (lines rest)))
    → IfOk r (λ o. IfSome o (λ list. readily (lines text) ≡ Ok list))
found_readily text first rest (Err e) cut same sorted = tt
found_readily text first rest (Ok None) cut same sorted = tt
found_readily text first rest (Ok (Some list)) cut same sorted =
    ap readily cut ∙ headed_readily first rest sorted.members list same sorted.are sorted.moved sorted.rise
