-- The segments of a group by their places, and the fault of a header with its groups.
use Rattle.std.proofs.Common.{◌≡◌, ◌≤◌, ℕ, ◌-◌, Bool, true, ◌&&◌, cond, List, [], ◌∷◌, refl, sym}
use Rattle.std.proofs.Common.{ap, ◌∙◌, length, get_or, take, drop, length-drop, arith}
use Rattle.std.specs.Prelude.{nat_le}
use Rattle.std.specs.List.{list_all, enumerate_from}
use Rattle.std.proofs.lemmas.Bool.{and_parts, leb-true}
use Rattle.std.proofs.lemmas.Grind.{common_steps}
use Rattle.rx_text.specs.declared.separators.TheConstants.{SEGMENT}
use Rattle.rx_text.specs.Bytes.{is_printable, cut}
use Rattle.rx_d0_reply.specs.declared.fault.ReplyFault.TheVariants as fault
use Rattle.rx_d0_reply.specs.Fault.{labels, in_order, is_labelled, is_group, is_count, is_status, is_header, are_groups, fault_of}

labelled_in_order : (segments : List (List ℕ))
    → list_all (λ p. is_labelled p.0 p.1) (enumerate_from 0 segments) ≡ in_order segments labels
labelled_in_order [] = refl
labelled_in_order (a ∷ []) = refl
labelled_in_order (a ∷ b ∷ []) = refl
labelled_in_order (a ∷ b ∷ c ∷ []) = refl
labelled_in_order (a ∷ b ∷ c ∷ d ∷ more) = refl

-- a range up to the end
to_the_end : (n : ℕ) (xs : List ℕ) → n ≡ length xs → take n xs ≡ xs
to_the_end n xs is = grind (arith, common_steps)

pub group_in_order : (bs : List ℕ) (labelled : Bool) → get_or bs 0 0 ≡ 30 → 1 ≤ length bs
    → labelled ≡ list_all (λ p. is_labelled p.0 p.1) (enumerate_from 0 (cut SEGMENT (take (length bs - 1) (drop 1 bs))))
    → labelled ≡ is_group bs
group_in_order [] labelled is some e = absurd (omega arith)
group_in_order (b ∷ bs) labelled is some e =
    let rest : take (length (b ∷ bs) - 1) bs ≡ bs = to_the_end (length (b ∷ bs) - 1) bs (omega arith) in
    rw is (e ∙ (ap (λ (t : List ℕ). list_all (λ p. is_labelled p.0 p.1) (enumerate_from 0 (cut SEGMENT t))) rest
    ∙ labelled_in_order (cut SEGMENT bs)))

-- a header's count is a digit
pub count_above : (bs : List ℕ) → is_header bs ≡ true → 49 ≤ get_or bs 4 0
count_above bs e =
    let behind = and_parts (nat_le 31 (length bs))
    (list_all is_printable (take 31 bs) && (is_count (get_or bs 4 0) && is_status (get_or bs 5 0))) e in
    let signs = and_parts (list_all is_printable (take 31 bs))
    (is_count (get_or bs 4 0) && is_status (get_or bs 5 0)) behind.1 in
    let count = and_parts (is_count (get_or bs 4 0)) (is_status (get_or bs 5 0)) signs.1 in
    let low = and_parts (nat_le 49 (get_or bs 4 0)) (nat_le (get_or bs 4 0) 52) count.0 in
    leb-true 49 (get_or bs 4 0) low.0

pub fault_is : (bs : List ℕ) (count : ℕ) {b : Bool} → is_header bs ≡ true → count ≡ get_or bs 4 0 - 48
    → are_groups count (take (length bs - 31) (drop 31 bs)) ≡ b → cond b fault.Field fault.Segment ≡ fault_of bs
fault_is bs count {b} header is groups =
    let rest : take (length bs - 31) (drop 31 bs) ≡ drop 31 bs = to_the_end (length bs - 31) (drop 31 bs)
    (omega (arith, length-drop 31 bs)) in
    let all : are_groups (get_or bs 4 0 - 48) (drop 31 bs) ≡ b = ap (λ (n : ℕ). are_groups n (drop 31 bs)) (sym is)
    ∙ (ap (are_groups count) (sym rest) ∙ groups) in
    rw (header, all) refl
