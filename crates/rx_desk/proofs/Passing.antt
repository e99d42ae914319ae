-- What one event changes of which records may be given, and that no two that share are out at once.
use Rattle.std.proofs.Common.{◌≡◌, ℕ, ◌<◌, ◌≤◌, List, [], ◌∷◌, true, refl, sym, ap, inl, inr}
use Rattle.std.proofs.lemmas.Bool.{cases_order, eq-eqb, ne_eqb}
use Rattle.rx_schedule.specs.declared.event.Event.{Event}
use Rattle.rx_schedule.specs.declared.event.Event.TheVariants.{Give, Take}
use Rattle.rx_schedule.specs.Machine.{IsLegal, IsPlace, Job, MayGive, MayTake, Was}
use Rattle.rx_schedule.specs.Machine.{Share, with_at}
use Rattle.rx_schedule.proofs.Replayed.{in_range, taken}

pub at_own : {A : Type 0} (f : ℕ → A) (i j : ℕ) (x : A) → i ≡ j → with_at f i x j ≡ x
at_own f i j x e = rw (eq-eqb j i (sym e))

pub at_other : {A : Type 0} (f : ℕ → A) (i j : ℕ) (x : A) → (i ≡ j → ⊥) → with_at f i x j ≡ f j
at_other f i j x n = rw (ne_eqb j i (λ e. n (sym e)))

-- of two that share, the later was taken only after the earlier was given
in_turn : (job : Job) (i j : ℕ) (past : List Event) → IsLegal job past → 1 ≤ i → i < j → Share job i j
    → Was (Take j) past → Was (Give i) past
in_turn job i j [] l one h s w = elim w [ ]
in_turn job i j (Take k ∷ past) l one h s (inl e) =
    let same : k ≡ j = cc e in inr (l.0.sharers i one (rw same h) (rw same s))
in_turn job i j (Take k ∷ past) l one h s (inr w) = inr (in_turn job i j past l.1 one h s w)
in_turn job i j (Give k ∷ past) l one h s (inl e) = absurd (cc e)
in_turn job i j (Give k ∷ past) l one h s (inr w) = inr (in_turn job i j past l.1 one h s w)

-- ---- an event more

pub out_taken : (job : Job) (i : ℕ) (past : List Event) → IsLegal job past → MayTake job i past → MayGive i (Take i ∷ past)
out_taken job i past l may =
    record { taken = inl refl; once = λ w. elim w [ inl e ↦ cc e | inr v ↦ may.once (taken job i past l v) ] }

pub still_out : (i j : ℕ) (past : List Event) → MayGive j past → MayGive j (Take i ∷ past)
still_out i j past out =
    record { taken = inr out.taken; once = λ w. elim w [ inl e ↦ cc e | inr v ↦ out.once v ] }

pub was_out : (i j : ℕ) (past : List Event) → (j ≡ i → ⊥) → MayGive j (Take i ∷ past) → MayGive j past
was_out i j past n out = record {
  taken = elim out.taken [ inl e ↦ absurd (n (sym (cc e))) | inr v ↦ v ];
  once = λ v. out.once (inr v);
}

pub left_out : (i j : ℕ) (past : List Event) → (j ≡ i → ⊥) → MayGive j past → MayGive j (Give i ∷ past)
left_out i j past n out =
    record { taken = inr out.taken; once = λ w. elim w [ inl e ↦ n (sym (cc e)) | inr v ↦ out.once v ] }

pub before_give : (i j : ℕ) (past : List Event) → MayGive j (Give i ∷ past) → MayGive j past
before_give i j past out = record {
  taken = elim out.taken [ inl e ↦ absurd (cc e) | inr v ↦ v ];
  once = λ v. out.once (inr v);
}

pub not_given : (i j : ℕ) (past : List Event) → MayGive j (Give i ∷ past) → j ≡ i → ⊥
not_given i j past out e = out.once (inl (ap Give (sym e)))

-- ---- two records that are out share no book

pub alone : (job : Job) (i j : ℕ) (past : List Event) → IsLegal job past → MayGive i past → MayGive j past
    → (b : job.Book) → job.names i b ≡ true → job.names j b ≡ true → i ≡ j
alone job i j past l out_i out_j b n m =
    let at_i : IsPlace job i = in_range job i past l out_i.taken in
    let at_j : IsPlace job j = in_range job j past l out_j.taken in
    elim (cases_order i j) [
      | inl e ↦ e
      | inr (inl low) ↦ absurd (out_i.once (in_turn job i j past l at_i.from_one low (b, n, m) out_j.taken))
      | inr (inr high) ↦ absurd (out_j.once (in_turn job j i past l at_j.from_one high (b, m, n) out_i.taken))
    ]

-- a record that may be taken shares no book with one that is out
pub free : (job : Job) (i j : ℕ) (past : List Event) → IsLegal job past → MayTake job i past → MayGive j past
    → (b : job.Book) → job.names i b ≡ true → job.names j b ≡ true → ⊥
free job i j past l may out b n m =
    let at_j : IsPlace job j = in_range job j past l out.taken in
    elim (cases_order i j) [
      | inl e ↦ may.once (rw e out.taken)
      | inr (inl low) ↦ may.once (taken job i past l (in_turn job i j past l may.there.from_one low (b, n, m) out.taken))
      | inr (inr high) ↦ out.once (may.sharers j at_j.from_one high (b, m, n))
    ]
