-- Plumbing: whether two values are one: what `==` answers at the lists and at what holds them.
use Rattle.std.specs.Prelude.{◌≡◌, Bool, true, false, ◌&&◌, ◌==◌, List}
use Rattle.std.proofs.Common.{ap, Decides}
use Rattle.std.proofs.lemmas.Bool.Decides.{Decides-eqb, Decides-and, Decides-like, same_from_decides}
use Rattle.std.specs.Cmp.{IsEquivalence, IsPartialEquivalence, decided, partial_equiv_from_equiv}
use Rattle.std.specs.Cmp.Lexicographic.{pointwise, pointwise_decides}
use base.Stored.{Gv, gnil, gnum, gcons, Coded}

-- two values as ghost names store them, trees of numbers, are one
abbrev same_stored : Gv → Gv → Bool
same_stored gnil gnil = true
same_stored gnil (gnum n) = false
same_stored gnil (gcons a b) = false
same_stored (gnum m) gnil = false
same_stored (gnum m) (gnum n) = m == n
same_stored (gnum m) (gcons a b) = false
same_stored (gcons a b) gnil = false
same_stored (gcons a b) (gnum n) = false
same_stored (gcons a b) (gcons c d) = same_stored a c && same_stored b d

same_stored_decides : (x y : Gv) → Decides (same_stored x y) (x ≡ y)
same_stored_decides gnil gnil = (λ e. cc, λ e. cc)
same_stored_decides gnil (gnum n) = (λ e. cc, λ e. cc)
same_stored_decides gnil (gcons a b) = (λ e. cc, λ e. cc)
same_stored_decides (gnum m) gnil = (λ e. cc, λ e. cc)
same_stored_decides (gnum m) (gnum n) = Decides-like (m == n) (λ e. cc) (λ e. cc) (Decides-eqb m n)
same_stored_decides (gnum m) (gcons a b) = (λ e. cc, λ e. cc)
same_stored_decides (gcons a b) gnil = (λ e. cc, λ e. cc)
same_stored_decides (gcons a b) (gnum n) = (λ e. cc, λ e. cc)
same_stored_decides (gcons a b) (gcons c d) =
    Decides-like
    (same_stored a c && same_stored b d)
    (λ e. cc)
    (λ e. (cc, cc))
    (Decides-and (same_stored a c) (same_stored b d) (same_stored_decides a c) (same_stored_decides b d))

-- the two values are one
pub same : {A : Type 0} → Coded A → A → A → Bool
same c x y = same_stored (c.code x) (c.code y)

pub same_decides : {A : Type 0} (c : Coded A) (x y : A) → Decides (same c x y) (x ≡ y)
unfolding same
same_decides c x y =
    Decides-like
    (same_stored (c.code x) (c.code y))
    (c.inj x y)
    (ap c.code)
    (same_stored_decides (c.code x) (c.code y))

-- the same of two lists, compared pair by pair
pub same_lists : {A : Type 0} (c : Coded A) (xs ys : List A) → Decides (pointwise (same c) xs ys) (xs ≡ ys)
same_lists c = pointwise_decides (same_decides c)

pub same_equivalence : {A : Type 0} (c : Coded A) → IsEquivalence (same c)
same_equivalence c = decided (same c) (same_decides c)

pub same_laws : {A : Type 0} (c : Coded A) → IsPartialEquivalence (same c)
same_laws c = partial_equiv_from_equiv (same_equivalence c)

-- whatever decides it is that answer
pub same_answer : {A : Type 0} (c : Coded A) (x y : A) (r : Bool) → Decides r (x ≡ y) → r ≡ same c x y
same_answer c x y r h = same_from_decides r (same c x y) h (same_decides c x y)
