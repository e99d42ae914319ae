-- The last line of a settlement is read as its tally.
use Rattle.std.proofs.Common.{◌≡◌, ◌+◌, ◌-◌, ◌<◌, ◌≤◌, ◌^◌, ◌⊎◌, ℕ, zero, suc, ℤ, pos, negsuc, neg_ℤ, ◌-ℤ◌, Bool, true, false, cond}
use Rattle.std.proofs.Common.{List, [], ◌∷◌, ◌++◌, length, get_or, take, drop, Some, inl, inr, refl, sym, ap, ◌∙◌}
use Rattle.std.proofs.Common.{subst, arith, append_assoc, length-append}
use Rattle.std.specs.Prelude.{nat_lt, ◌==◌, codes}
use Rattle.std.specs.Fmt.{decimal, signed_decimal}
use Rattle.std.specs.List.{flat_map, list_all, prefix_len, suffix_len}
use Rattle.std.proofs.lemmas.Bool.{and_parts, cases_Bool}
use Rattle.std.proofs.lemmas.Bool.Decides.{nat_tests}
use Rattle.std.proofs.lemmas.Fmt.{length-decimal-le, length_signed_le}
use Rattle.std.proofs.lemmas.List.{append-nil, drop_all, get_or-append-add, get_or_append_left}
use Rattle.std.proofs.lemmas.List.Folds.{list_all_at}
use Rattle.std.proofs.lemmas.List.Sums.{suffix_len_is}
use Rattle.rx_text.proofs.Steps.{chain}
use Rattle.rx_text.specs.Bytes.{is_digit}
use Rattle.rx_fields.specs.Numbered.{LotParts}
use Rattle.rx_fields.specs.declared.stamp.Stamp.{Stamp}
use Rattle.rx_d0_values.specs.declared.reply.Reply.{Reply}
use Rattle.rx_settle.specs.Answers.{answers_of, tally, weight}
use Rattle.rx_settle.specs.Providers.{providers, replies_to}
use Rattle.rx_settle.specs.Settlement.{counts_text, head_line, line_end, net, provider_line, settlement_text, total_line}
use Rattle.rx_settle.specs.declared.tally.Tally.{Tally}
use Rattle.rx_run_log.specs.Settlement.{after_lines, count_of, fields_of, first_count, is_in_field, is_in_line, last_line}
use Rattle.rx_run_log.specs.Settlement.{net_of, totals_in, totals_of, totals_told}
use Rattle.rx_run_log.specs.Traffic.{last_of}
use Rattle.rx_run_log.specs.declared.traffic.TheConstants.{KEPT}
use Rattle.rx_run_log.proofs.Counts.{count_back, decimal_digits}
use Rattle.rx_run_log.proofs.Kept.{drop-append, last-fills}

-- ---- fields

take_front : (xs ys : List ℕ) → take (length xs) (xs ++ ys) ≡ xs
take_front [] ys = refl
take_front (x ∷ xs) ys = ap (λ l. x ∷ l) (take_front xs ys)

drop_front : (xs ys : List ℕ) → drop (length xs) (xs ++ ys) ≡ ys
drop_front [] ys = refl
drop_front (x ∷ xs) ys = drop_front xs ys

drop_after : (xs : List ℕ) (b : ℕ) (ys : List ℕ) → drop (length xs + 1) (xs ++ b ∷ ys) ≡ ys
drop_after [] b ys = refl
drop_after (x ∷ xs) b ys =
    let one : suc (length xs) + 1 ≡ suc (length xs + 1) = omega arith in
    rw one (drop_after xs b ys)

digits_in_field : (ds : List ℕ) → list_all is_digit ds ≡ true → list_all is_in_field ds ≡ true
digits_in_field [] all = refl
digits_in_field (b ∷ bs) all =
    let h = and_parts (is_digit b) (list_all is_digit bs) all in
    let one : is_in_field b ≡ true = grind (arith, nat_tests) in
    rw one (digits_in_field bs h.1)

field_len : (xs rest : List ℕ) → list_all is_in_field xs ≡ true → prefix_len is_in_field (xs ++ 124 ∷ rest) ≡ length xs
field_len [] rest all = refl
field_len (x ∷ xs) rest all =
    let h = and_parts (is_in_field x) (list_all is_in_field xs) all in
    rw h.0 (omega (arith, field_len xs rest h.1))

-- a count is read up to its bar
first_of : (ds rest : List ℕ) (n : ℕ) → list_all is_in_field ds ≡ true → count_of ds ≡ Some n
    → first_count (ds ++ 124 ∷ rest) ≡ Some (n, rest)
first_of ds rest n all count =
    let len = length-append ds (124 ∷ rest) in
    let more : nat_lt (length ds) (length (ds ++ 124 ∷ rest)) ≡ true = grind (arith, nat_tests) in
    rw (field_len ds rest all, more, take_front ds (124 ∷ rest), drop_after ds 124 rest, count) refl

first_is : (n : ℕ) (rest : List ℕ) → n < 2 ^ 64 → first_count (decimal n ++ 124 ∷ rest) ≡ Some (n, rest)
first_is n rest small = first_of (decimal n) rest n (digits_in_field (decimal n) (decimal_digits n small)) (count_back n small)

-- how far a number is from zero
abbrev size : ℤ → ℕ
size (pos n) = n
size (negsuc n) = suc n

-- a net is read with its sign
net_minus : (ds : List ℕ) (n : ℕ) → count_of ds ≡ Some n → n < 2 ^ 63 → net_of (45 ∷ ds) ≡ Some (neg_ℤ (pos n))
net_minus ds n count small =
    let lt : nat_lt n (2 ^ 63) ≡ true = grind (arith, nat_tests) in
    rw (count, lt) refl

net_plain : (ds : List ℕ) (n : ℕ) → list_all is_digit ds ≡ true → count_of ds ≡ Some n → n < 2 ^ 63 → net_of ds ≡ Some (pos n)
net_plain [] n all count small = absurd (let e = count in cc)
net_plain (b ∷ bs) n all count small =
    let h = and_parts (is_digit b) (list_all is_digit bs) all in
    let other : (b == 45) ≡ false = grind (arith, nat_tests) in
    let lt : nat_lt n (2 ^ 63) ≡ true = grind (arith, nat_tests) in
    rw (other, count, lt) refl

net_is : (z : ℤ) → size z < 2 ^ 63 → net_of (signed_decimal z) ≡ Some z
net_is (pos n) small =
    let fits : n < 2 ^ 64 = omega arith in
    net_plain (decimal n) n (decimal_digits n fits) (count_back n fits) small
net_is (negsuc n) small = net_minus (decimal (suc n)) (suc n) (count_back (suc n) (omega arith)) small

sub_small : (less : Bool) (a b : ℕ) → a < 2 ^ 63 → suc b < 2 ^ 63
    → size (cond less (negsuc (suc b - suc a)) (pos (a - suc b))) < 2 ^ 63
sub_small true a b low high = omega arith
sub_small false a b low high = omega arith

net_small : (a b : ℕ) → a < 2 ^ 63 → b < 2 ^ 63 → size (pos a -ℤ pos b) < 2 ^ 63
net_small a zero low high = omega arith
net_small a (suc b) low high = sub_small (nat_lt a (suc b)) a b low high

-- ---- the fields of a tally

abbrev approved_on : Tally → List ℕ
approved_on t = decimal t.approved ++ 124 ∷ (decimal t.rejected ++ 124 ∷ signed_decimal (net t))

abbrev fields_text : Tally → List ℕ
fields_text t = decimal t.paid ++ 124 ∷ (decimal t.duplicate ++ 124 ∷ approved_on t)

net_fits : (t : Tally) → weight t < 2 ^ 63 → size (net t) < 2 ^ 63
net_fits t small = net_small t.paid_out t.taken_back (omega arith) (omega arith)

fields_are : (t : Tally) → weight t < 2 ^ 63 → totals_in (fields_text t) ≡ Some (totals_told t)
fields_are t small =
    chain (first_count (fields_text t)) _ (t.paid, decimal t.duplicate ++ 124 ∷ approved_on t) (first_is t.paid _ (omega arith)) (
    chain (first_count (decimal t.duplicate ++ 124 ∷ approved_on t)) _ (t.duplicate, approved_on t) (first_is t.duplicate _ (omega arith)) (
    chain (first_count (approved_on t)) _ (t.approved, decimal t.rejected ++ 124 ∷ signed_decimal (net t)) (first_is t.approved _ (omega arith)) (
    chain (first_count (decimal t.rejected ++ 124 ∷ signed_decimal (net t))) _ (t.rejected, signed_decimal (net t)) (first_is t.rejected _ (omega arith)) (
    chain (net_of (signed_decimal (net t))) _ (net t) (net_is (net t) (net_fits t small)) refl))))

-- ---- the total line

abbrev line_of : Tally → List ℕ
line_of t = codes "TOTAL|" ++ fields_text t

total_apart : (t : Tally) → codes "TOTAL" ++ counts_text t ≡ line_of t ++ 10 ∷ []
total_apart t = simp append_assoc refl

total_fields : (t : Tally) → fields_of (line_of t) ≡ Some (fields_text t)
total_fields t = refl

digits_in_line : (ds : List ℕ) → list_all is_digit ds ≡ true → list_all is_in_line ds ≡ true
digits_in_line [] all = refl
digits_in_line (b ∷ bs) all =
    let h = and_parts (is_digit b) (list_all is_digit bs) all in
    let one : is_in_line b ≡ true = grind (arith, nat_tests) in
    rw one (digits_in_line bs h.1)

field_in_line : (ds rest : List ℕ) → list_all is_digit ds ≡ true → list_all is_in_line rest ≡ true
    → list_all is_in_line (ds ++ 124 ∷ rest) ≡ true
field_in_line [] rest all more = more
field_in_line (b ∷ bs) rest all more =
    let h = and_parts (is_digit b) (list_all is_digit bs) all in
    let one : is_in_line b ≡ true = grind (arith, nat_tests) in
    rw one (field_in_line bs rest h.1 more)

signed_in_line : (z : ℤ) → size z < 2 ^ 63 → list_all is_in_line (signed_decimal z) ≡ true
signed_in_line (pos n) small = digits_in_line (decimal n) (decimal_digits n (omega arith))
signed_in_line (negsuc n) small = digits_in_line (decimal (suc n)) (decimal_digits (suc n) (omega arith))

all_in_line : (t : Tally) → weight t < 2 ^ 63 → list_all is_in_line (line_of t) ≡ true
all_in_line t small =
    field_in_line (decimal t.paid) _ (decimal_digits t.paid (omega arith)) (
    field_in_line (decimal t.duplicate) _ (decimal_digits t.duplicate (omega arith)) (
    field_in_line (decimal t.approved) _ (decimal_digits t.approved (omega arith)) (
    field_in_line (decimal t.rejected) _ (decimal_digits t.rejected (omega arith)) (
    signed_in_line (net t) (net_fits t small)))))

field_long : (ds rest : List ℕ) (n : ℕ) → length ds ≤ 20 → length rest ≤ n → length (ds ++ 124 ∷ rest) ≤ n + 21
field_long ds rest n few more = omega (arith, length-append ds (124 ∷ rest))

count_long : (n : ℕ) → n < 2 ^ 63 → length (decimal n) ≤ 20
count_long n small = length-decimal-le 20 n (omega arith) (omega arith) (omega arith)

signed_long : (z : ℤ) → size z < 2 ^ 63 → length (signed_decimal z) ≤ 20
signed_long (pos n) small = length_signed_le 19 (pos n) (omega arith) small
signed_long (negsuc n) small = length_signed_le 19 (negsuc n) (omega arith) (omega arith)

fields_long : (t : Tally) → weight t < 2 ^ 63 → length (fields_text t) ≤ 104
fields_long t small =
    field_long (decimal t.paid) _ 83 (count_long t.paid (omega arith)) (
    field_long (decimal t.duplicate) _ 62 (count_long t.duplicate (omega arith)) (
    field_long (decimal t.approved) _ 41 (count_long t.approved (omega arith)) (
    field_long (decimal t.rejected) _ 20 (count_long t.rejected (omega arith)) (
    signed_long (net t) (net_fits t small)))))

total_long : (t : Tally) → weight t < 2 ^ 63 → length (line_of t ++ 10 ∷ []) ≤ 256
total_long t small = omega (arith, length-append (line_of t) (10 ∷ []), fields_long t small)

-- ---- what stands before it ends with a line feed

abbrev HasEnd : List ℕ → Type 0
HasEnd xs = (front : List ℕ) × (xs ≡ front ++ 10 ∷ [])

ends_on : (xs ys : List ℕ) → HasEnd ys → HasEnd (xs ++ ys)
ends_on xs ys h = (xs ++ h.0, ap (λ l. xs ++ l) h.1 ∙ sym (append_assoc xs h.0 (10 ∷ [])))

counts_end : (t : Tally) → HasEnd (counts_text t)
counts_end t =
    ends_on (codes "|") _ (ends_on (decimal t.paid) _ (ends_on (codes "|") _ (ends_on (decimal t.duplicate) _
    (ends_on (codes "|") _ (ends_on (decimal t.approved) _ (ends_on (codes "|") _ (ends_on (decimal t.rejected) _
    (ends_on (codes "|") _ (ends_on (signed_decimal (net t)) line_end ([], refl))))))))))

provider_end : (replies : List Reply) (p : List ℕ) → HasEnd (provider_line replies p)
provider_end replies p = ends_on (codes "P|") _ (ends_on p _ (counts_end (tally (answers_of (replies_to p replies)))))

providers_end : (replies : List Reply) (xs : List ℕ) (ps : List (List ℕ)) → HasEnd xs
    → HasEnd (xs ++ flat_map (provider_line replies) ps)
providers_end replies xs [] h = subst HasEnd (sym (append-nil xs)) h
providers_end replies xs (p ∷ ps) h =
    subst HasEnd (append_assoc xs (provider_line replies p) (flat_map (provider_line replies) ps))
    (providers_end replies (xs ++ provider_line replies p) ps (ends_on xs (provider_line replies p) (provider_end replies p)))

head_end : (lot : LotParts) (stamp : Stamp) → HasEnd (head_line lot stamp)
head_end lot stamp = ends_on (codes "SETTLE|1|") _ (ends_on _ _ (ends_on (codes "|") _ (ends_on _ line_end ([], refl))))

-- an end of it is empty, or ends with one too
abbrev IsEnd : List ℕ → Type 0
IsEnd xs = (xs ≡ []) ⊎ HasEnd xs

end_by : (k j : ℕ) (front : List ℕ) → k - length front ≡ j → IsEnd (drop k (front ++ 10 ∷ []))
end_by k zero front is = inr (drop k front, drop-append k front (10 ∷ []) ∙ ap (λ n. drop k front ++ drop n (10 ∷ [])) is)
end_by k (suc j) front is =
    let gone = drop_all k front (omega arith) in
    let none : drop {A = ℕ} j [] ≡ [] = drop_all j [] (omega arith) in
    inl (drop-append k front (10 ∷ []) ∙ ap (λ n. drop k front ++ drop n (10 ∷ [])) is ∙ rw (gone, none) refl)

end_of : (k : ℕ) (xs : List ℕ) → HasEnd xs → IsEnd (drop k xs)
end_of k xs h = subst (λ l. IsEnd (drop k l)) (sym h.1) (end_by k (k - length h.0) h.0 refl)

-- ---- the last line

pass_at : (p : ℕ → Bool) (xs : List ℕ) (i : ℕ) → list_all p xs ≡ true → i < length xs → p (get_or xs i 0) ≡ true
pass_at p xs i all lt = elim (cases_Bool (p (get_or xs i 0))) [
  | inl here ↦ here
  | inr other ↦ absurd (let bad = list_all_at p xs i 0 lt other in cc)
]

inside : (front line : List ℕ) (k : ℕ) → list_all is_in_line line ≡ true → length front ≤ k → k - length front < length line
    → is_in_line (get_or (front ++ line) k 0) ≡ true
inside front line k all from lt =
    let at : k ≡ length front + (k - length front) = omega arith in
    ap (λ n. is_in_line (get_or (front ++ line) n 0)) at
    ∙ ap is_in_line (get_or-append-add front line (k - length front) 0)
    ∙ pass_at is_in_line line (k - length front) all lt

last_byte : (front : List ℕ) → IsEnd front → 0 < length front → get_or front (length front - 1) 0 ≡ 10
last_byte front (inl none) some = absurd (omega (arith, ap length none))
last_byte front (inr h) some =
    let long : length front ≡ length h.0 + 1 = ap length h.1 ∙ length-append h.0 (10 ∷ []) in
    let at : length front - 1 ≡ length h.0 + 0 = omega (arith, long) in
    (λ i. get_or (h.1 i) (at i) 0) ∙ get_or-append-add h.0 (10 ∷ []) 0 0

outside : (front line : List ℕ) → IsEnd front → 0 < length front
    → is_in_line (get_or (front ++ line) (length front - 1) 0) ≡ false
outside front line ends some =
    ap is_in_line (get_or_append_left front line 0 (length front - 1) (omega arith) ∙ last_byte front ends some)

after_end : (front line : List ℕ) → list_all is_in_line line ≡ true → IsEnd front → after_lines (front ++ line) ≡ line
after_end front line all ends =
    let whole = length-append front line in
    let run = suffix_len_is is_in_line (front ++ line) (length front) 0 (omega (arith, whole))
    (λ k from to. inside front line k all from (omega (arith, whole))) (λ some. outside front line ends some) in
    let at : length (front ++ line) - suffix_len is_in_line (front ++ line) ≡ length front = omega (arith, run, whole) in
    ap (λ k. drop k (front ++ line)) at ∙ drop_front front line

one_line : (xs : List ℕ) → last_line (xs ++ 10 ∷ []) ≡ Some (after_lines xs)
one_line xs =
    let len = length-append xs (10 ∷ []) in
    let at : length (xs ++ 10 ∷ []) - 1 ≡ length xs = omega (arith, len) in
    let some : nat_lt 0 (length (xs ++ 10 ∷ [])) ≡ true = grind (arith, nat_tests) in
    let here : length xs ≡ length xs + 0 = omega arith in
    let feed : get_or (xs ++ 10 ∷ []) (length xs) 0 ≡ 10 =
    ap (λ k. get_or (xs ++ 10 ∷ []) k 0) here ∙ get_or-append-add xs (10 ∷ []) 0 0 in
    rw (some, at, feed, take_front xs (10 ∷ [])) refl

last_is : (front line : List ℕ) → list_all is_in_line line ≡ true → IsEnd front → last_line (front ++ (line ++ 10 ∷ [])) ≡ Some line
last_is front line all ends =
    ap last_line (sym (append_assoc front line (10 ∷ []))) ∙ one_line (front ++ line) ∙ ap (λ l. Some l) (after_end front line all ends)

-- ---- a settlement

abbrev before_total : LotParts → Stamp → List Reply → List ℕ
before_total lot stamp replies = head_line lot stamp ++ flat_map (provider_line replies) (providers replies)

-- the end of a text that goes on with no more than is kept
end_on : (xs ys : List ℕ) → length ys ≤ 256
    → last_of 256 (xs ++ ys) ≡ drop (length xs - (256 - length (last_of 256 ys))) xs ++ ys
end_on xs ys few =
    let none : length ys - 256 ≡ 0 = omega arith in
    let whole : last_of 256 ys ≡ ys = ap (λ k. drop k ys) none in
    last-fills 256 xs ys ∙ ap (λ l. last_of (256 - length (last_of 256 ys)) xs ++ l) whole

pub totals_are : (lot : LotParts) (stamp : Stamp) (replies : List Reply) → weight (tally (answers_of replies)) < 2 ^ 63
    → totals_of (last_of KEPT (settlement_text lot stamp replies)) ≡ Some (totals_told (tally (answers_of replies)))
totals_are lot stamp replies small =
    let t = tally (answers_of replies) in
    let before = before_total lot stamp replies in
    let total = line_of t ++ 10 ∷ [] in
    let cut = length before - (256 - length (last_of 256 total)) in
    let text : settlement_text lot stamp replies ≡ before ++ total =
    sym (append_assoc (head_line lot stamp) (flat_map (provider_line replies) (providers replies)) (total_line replies))
    ∙ ap (λ l. before ++ l) (total_apart t) in
    let kept : last_of KEPT (settlement_text lot stamp replies) ≡ drop cut before ++ total =
    ap (last_of 256) text ∙ end_on before total (total_long t small) in
    let ends = end_of cut before (providers_end replies (head_line lot stamp) (providers replies) (head_end lot stamp)) in
    ap totals_of kept
    ∙ chain (last_line (drop cut before ++ total)) _ (line_of t) (last_is (drop cut before) (line_of t) (all_in_line t small) ends)
    (chain (fields_of (line_of t)) totals_in (fields_text t) (total_fields t) (fields_are t small))
