-- Records one by one in any order in which sharers keep file order, and by the numbers of any valid numbering.
use Rattle.rx_schedule.specs.declared.event.Event.TheVariants.{Take, Give}
use Rattle.std.proofs.Common.{◌≢◌, ℕ, ◌<◌, ◌≤◌, List, [], ◌∷◌, ◌++◌, refl, ap, sym, subst, arith, inl, inr}
use Rattle.std.proofs.lemmas.Bool.{cases_order}
use Rattle.rx_schedule.specs.Machine.{Job, IsPlace, Share, Was, IsComplete, IsLegal, one_by_one}
use Rattle.rx_schedule.specs.Machine.{Pairs, HasEachOnce, KeepsFileOrder, IsNumbering, GoesByNumber}

given : (i : ℕ) (order : List ℕ) → Was i order → Was (Give i) (one_by_one order)
given i [] w = elim w [ ]
given i (k ∷ order) (inl e) = inl (ap Give e)
given i (k ∷ order) (inr w) = inr (inr (given i order w))

stood : (i : ℕ) (order : List ℕ) → Was (Give i) (one_by_one order) → Was i order
stood i [] w = elim w [ ]
stood i (k ∷ order) (inl e) = inl (cc e)
stood i (k ∷ order) (inr (inl e)) = absurd (cc e)
stood i (k ∷ order) (inr (inr w)) = inr (stood i order w)

stood_taken : (i : ℕ) (order : List ℕ) → Was (Take i) (one_by_one order) → Was i order
stood_taken i [] w = elim w [ ]
stood_taken i (k ∷ order) (inl e) = absurd (cc e)
stood_taken i (k ∷ order) (inr (inl e)) = inl (cc e)
stood_taken i (k ∷ order) (inr (inr w)) = inr (stood_taken i order w)

Share-sym : (job : Job) (i j : ℕ) → Share job i j → Share job j i
Share-sym job i j s = (s.0, s.2, s.1)

-- the rest of an order, whose earlier sharers all stand in it
legal : (job : Job) (order : List ℕ)
    → ((i : ℕ) → Was i order → IsPlace job i)
    → Pairs (λ later earlier. earlier ≢ later) order
    → KeepsFileOrder job order
    → ((i j : ℕ) → Was i order → 1 ≤ j → j < i → Share job j i → Was j order)
    → IsLegal job (one_by_one order)
legal job [] there once keeps down = tt
legal job (i ∷ order) there once keeps down =
    let alone : Was i order → ⊥ = λ w. once.0 i w refl in (
      record { taken = inl refl; once = λ w. elim w [ inl e ↦ absurd (cc e) | inr v ↦ alone (stood i order v) ] },
      (
        record {
          there = there i (inl refl);
          once = λ w. alone (stood_taken i order w);
          sharers = λ j one h s. elim (down i j (inl refl) one h s) [
            | inl e ↦ absurd (omega arith)
            | inr w ↦ given j order w
          ];
        },
        legal job order (λ j w. there j (inr w)) once.1 keeps.1
            (λ k j w one h s. elim (down k j (inr w) one h s) [
              | inl e ↦
                  let lt : k < i = keeps.0 k w (subst (λ x. Share job k x) (sym e) (Share-sym job j k s)) in absurd (omega arith)
              | inr v ↦ v
            ]),
      ),
    )

pub standing_legal : (job : Job) (order : List ℕ) → HasEachOnce job order → KeepsFileOrder job order
    → IsLegal job (one_by_one order)
standing_legal job order o keeps = legal job order o.there o.once keeps (λ i j w one h s.
    let up : i ≤ job.count = (o.there i w).to_count in
    o.all j record { from_one = one; to_count = omega arith })

pub standing_whole : (job : Job) (order : List ℕ) → HasEachOnce job order → IsComplete job (one_by_one order)
standing_whole job order o i there = given i order (o.all i there)

-- what comes before a record of a legal order is legal
pub standing_before : (job : Job) (later rest : List ℕ) → IsLegal job (one_by_one (later ++ rest)) → IsLegal job (one_by_one rest)
standing_before job [] rest l = l
standing_before job (k ∷ later) rest l = standing_before job later rest l.1.1

-- an order by the numbers of a valid numbering keeps the file order of sharers
by_number_from : (job : Job) (number : ℕ → ℕ) (order : List ℕ) → IsNumbering job number → GoesByNumber number order
    → ((i : ℕ) → Was i order → IsPlace job i) → Pairs (λ later earlier. earlier ≢ later) order → KeepsFileOrder job order
by_number_from job number [] v g there once = tt
by_number_from job number (i ∷ order) v g there once = (
  (λ j w s. elim (cases_order j i) [
    | inl e ↦ absurd (once.0 j w e)
    | inr o ↦ elim o [
      | inl h ↦ h
      | inr h ↦
          let up : number j ≤ number i = g.0 j w in
          let down : number i < number j =
          v i j (there i (inl refl)).from_one h (there j (inr w)).to_count (Share-sym job j i s) in
          absurd (omega arith)
    ]
  ]),
  by_number_from job number order v g.1 (λ j w. there j (inr w)) once.1,
)

pub by_number : (job : Job) (number : ℕ → ℕ) (order : List ℕ) → IsNumbering job number → HasEachOnce job order
    → GoesByNumber number order → KeepsFileOrder job order
by_number job number order v o goes = by_number_from job number order v goes o.there o.once
