-- Files are found the same exactly where they are the output.
use Rattle.std.proofs.Common.{◌≡◌, ◌↔◌, ℕ, Bool, true, false, not, ◌&&◌, List, Option, Some, None, length, get_or}
use Rattle.std.proofs.Common.{refl, ap, subst, arith}
use Rattle.std.specs.Option.{is_some}
use Rattle.rx_commands.specs.Difference.{DiffersAt}
use Rattle.rx_commands.specs.Difference.DiffersAt.{byte, ours_ends, theirs_ends}
use Rattle.rx_switch.specs.Output.{Given, IsOutput, Texts}
use Rattle.rx_switch.proofs.OneOutput.{same_texts}
use Rattle.rx_commands.specs.Verified.{AreDifferences, Differences, IsDifference, are_none}

-- ---- one file

differs_not : (a b : List ℕ) (at : ℕ) → a ≡ b → DiffersAt a b at → ⊥
differs_not a b at e (byte in_a in_b ne) = ne (ap (λ (xs : List ℕ). get_or xs at 0) e)
differs_not a b at e (ours_ends is lt) = let same : length a ≡ length b = ap length e in omega arith
differs_not a b at e (theirs_ends is lt) = let same : length a ≡ length b = ap length e in omega arith

same_where_none : (a b : List ℕ) (at : Option ℕ) → not (is_some at) ≡ true → IsDifference a b at → a ≡ b
same_where_none a b None h is = is
same_where_none a b (Some at) h is = absurd (cc)

none_where_same : (a b : List ℕ) (at : Option ℕ) → a ≡ b → IsDifference a b at → not (is_some at) ≡ true
none_where_same a b None e is = refl
none_where_same a b (Some at) e is = absurd (differs_not a b at e is.differs)

-- ---- three files

record AllTrue (x y z : Bool) : Type 0 where
  x_is : x ≡ true
  y_is : y ≡ true
  z_is : z ≡ true

all_true : (x y z : Bool) → (x && y && z) ≡ true → AllTrue x y z
all_true true true true h = record { x_is = refl; y_is = refl; z_is = refl }
all_true true true false h = absurd (cc)
all_true true false z h = absurd (cc)
all_true false y z h = absurd (cc)

true_all : (x y z : Bool) → x ≡ true → y ≡ true → z ≡ true → (x && y && z) ≡ true
true_all x y z hx hy hz = rw (hx, hy, hz) refl

texts_where_none : (ours theirs : Texts) (d : Differences) → AreDifferences ours theirs d → are_none d ≡ true
    → ours ≡ theirs
texts_where_none ours theirs d are h =
    let each : AllTrue (not (is_some d.response)) (not (is_some d.books)) (not (is_some d.settlement)) =
    all_true (not (is_some d.response)) (not (is_some d.books)) (not (is_some d.settlement)) h in
    let response : ours.response ≡ theirs.response =
    same_where_none ours.response theirs.response d.response each.x_is are.response in
    let books : ours.books ≡ theirs.books = same_where_none ours.books theirs.books d.books each.y_is are.books in
    let settlement : ours.settlement ≡ theirs.settlement =
    same_where_none ours.settlement theirs.settlement d.settlement each.z_is are.settlement in
    λ i. record { response = response i; books = books i; settlement = settlement i }

none_where_texts : (ours theirs : Texts) (d : Differences) → AreDifferences ours theirs d → ours ≡ theirs
    → are_none d ≡ true
none_where_texts ours theirs d are e =
    true_all (not (is_some d.response)) (not (is_some d.books)) (not (is_some d.settlement))
    (none_where_same ours.response theirs.response d.response (ap (λ (t : Texts). t.response) e) are.response)
    (none_where_same ours.books theirs.books d.books (ap (λ (t : Texts). t.books) e) are.books)
    (none_where_same ours.settlement theirs.settlement d.settlement (ap (λ (t : Texts). t.settlement) e) are.settlement)

pub verified_same : (g : Given) (ours theirs : Texts) (d : Differences) → IsOutput g ours
    → AreDifferences ours theirs d → (are_none d ≡ true) ↔ IsOutput g theirs
verified_same g ours theirs d is are = (
  λ h. subst (λ (t : Texts). IsOutput g t) (texts_where_none ours theirs d are h) is,
  λ was. none_where_texts ours theirs d are (same_texts g ours theirs is was),
)
