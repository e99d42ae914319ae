-- Values that are read one after another, by the step.
use Rattle.std.proofs.Common.{◌≡◌, ℕ, suc, ◌+◌, ◌-◌, ◌<◌, ◌≤◌, List, [], ◌∷◌, ◌++◌, Option}
use Rattle.std.proofs.Common.{Some, None, refl, sym, ap, ◌∙◌, append_assoc, arith}
use Rattle.std.proofs.lemmas.List.{append-nil}
use Rattle.rx_text.specs.Options.{◌>>=◌}
use Rattle.rx_d0_reply.specs.Readers.{after, behind, times}

-- ---- copies of a text

pub behind_goes_on : (text bytes rest : List ℕ) (count i : ℕ) {total : Option (List ℕ)} → i < count
    → Some rest ≡ after text bytes
    → behind (count - i) text bytes ≡ total → behind (count - (i + 1)) text rest ≡ total
unfolding behind
behind_goes_on text bytes rest count i lt read so_far =
    let left : count - i ≡ suc (count - (i + 1)) = omega arith in
    rw (left, ← read) at so_far

pub behind_ends : (text bytes : List ℕ) (count i : ℕ) {total : Option (List ℕ)} → i < count → None ≡ after text bytes
    → behind (count - i) text bytes ≡ total → None ≡ total
unfolding behind
behind_ends text bytes count i lt read so_far =
    let left : count - i ≡ suc (count - (i + 1)) = omega arith in
    rw (left, ← read) at so_far

pub behind_is_done : (text bytes : List ℕ) (count i : ℕ) {total : Option (List ℕ)} → count ≤ i
    → behind (count - i) text bytes ≡ total → Some bytes ≡ total
unfolding behind
behind_is_done text bytes count i le so_far =
    let left : count - i ≡ 0 = omega arith in
    rw left at so_far

-- ---- values

-- the values before, and then those that are read
abbrev pub with_front : {A : Type 0} → List A → Option (List A × List ℕ) → Option (List A × List ℕ)
with_front front read = read >>= λ x. Some (front ++ x.0, x.1)

regroup : {A : Type 0} (front : List A) (x : A) (read : Option (List A × List ℕ))
    → with_front front (read >>= λ more. Some (x ∷ more.0, more.1)) ≡ with_front (front ++ x ∷ []) read
regroup front x None = refl
regroup {A} front x (Some more) = ap (λ (xs : List A). Some (xs, more.1)) (sym (append_assoc front (x ∷ []) more.0))

pub times_goes_on : {A : Type 0} (read : List ℕ → Option (A × List ℕ)) (front : List A) (bytes : List ℕ) (x : A)
    (rest : List ℕ)
    (count i : ℕ) {total : Option (List A × List ℕ)} → i < count → Some (x, rest) ≡ read bytes
    → with_front front (times read (count - i) bytes) ≡ total
    → with_front (front ++ x ∷ []) (times read (count - (i + 1)) rest) ≡ total
unfolding times
times_goes_on read front bytes x rest count i lt one so_far =
    let left : count - i ≡ suc (count - (i + 1)) = omega arith in
    sym (regroup front x (times read (count - (i + 1)) rest)) ∙ (rw (left, ← one) at so_far)

pub times_ends : {A : Type 0} (read : List ℕ → Option (A × List ℕ)) (front : List A) (bytes : List ℕ)
    (count i : ℕ) {total : Option (List A × List ℕ)} → i < count → None ≡ read bytes
    → with_front front (times read (count - i) bytes) ≡ total → None ≡ total
unfolding times
times_ends read front bytes count i lt none so_far =
    let left : count - i ≡ suc (count - (i + 1)) = omega arith in
    rw (left, ← none) at so_far

pub times_is_done : {A : Type 0} (read : List ℕ → Option (A × List ℕ)) (front : List A) (bytes : List ℕ)
    (count i : ℕ) {total : Option (List A × List ℕ)} → count ≤ i
    → with_front front (times read (count - i) bytes) ≡ total → Some (front, bytes) ≡ total
unfolding times
times_is_done {A} read front bytes count i le so_far =
    let left : count - i ≡ 0 = omega arith in
    ap (λ (xs : List A). Some (xs, bytes)) (sym (append-nil front)) ∙ (rw left at so_far)
