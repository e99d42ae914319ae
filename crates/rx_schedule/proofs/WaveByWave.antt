-- Whole waves, each of which is taken and then given, are a complete legal event list.
use Rattle.std.proofs.Common.{◌≡◌, ◌≢◌, ℕ, suc, ◌<◌, ◌≤◌, List, [], ◌∷◌, ◌++◌, length, map, refl, ap, inl, inr, arith}
use Rattle.std.specs.Prelude.{◌⊎◌}
use Rattle.std.proofs.lemmas.Bool.{cases_eq}
use Rattle.rx_schedule.specs.declared.event.Event.{Event}
use Rattle.rx_schedule.specs.declared.event.Event.TheVariants.{Take, Give}
use Rattle.rx_schedule.specs.Machine.{Job, IsPlace, Share, Was, IsComplete, IsLegal, MayTake, MayGive}
use Rattle.rx_schedule.specs.Machine.{AreNumbered, GoesInWaves, IsNumbering, Pairs, Wave, wave_by_wave}
use Rattle.rx_schedule.proofs.Replayed.{taken}

into_left : (e : Event) (xs ys : List Event) → Was e xs → Was e (xs ++ ys)
into_left e [] ys w = elim w [ ]
into_left e (x ∷ xs) ys (inl s) = inl s
into_left e (x ∷ xs) ys (inr w) = inr (into_left e xs ys w)

into_right : (e : Event) (xs ys : List Event) → Was e ys → Was e (xs ++ ys)
into_right e [] ys w = w
into_right e (x ∷ xs) ys w = inr (into_right e xs ys w)

event_of : (f : ℕ → Event) (i : ℕ) (g : List ℕ) → Was i g → Was (f i) (map f g)
event_of f i [] w = elim w [ ]
event_of f i (j ∷ g) (inl e) = inl (ap f e)
event_of f i (j ∷ g) (inr w) = inr (event_of f i g w)

-- what stands among takes, or among gives
take_there : (i : ℕ) (g : List ℕ) (past : List Event) → Was (Take i) (map Take g ++ past) → Was i g ⊎ Was (Take i) past
take_there i [] past w = inr w
take_there i (j ∷ g) past (inl e) = inl (inl (cc e))
take_there i (j ∷ g) past (inr w) = elim (take_there i g past w) [ inl l ↦ inl (inr l) | inr r ↦ inr r ]

give_there : (i : ℕ) (g : List ℕ) (past : List Event) → Was (Give i) (map Give g ++ past) → Was i g ⊎ Was (Give i) past
give_there i [] past w = inr w
give_there i (j ∷ g) past (inl e) = inl (inl (cc e))
give_there i (j ∷ g) past (inr w) = elim (give_there i g past w) [ inl l ↦ inl (inr l) | inr r ↦ inr r ]

give_behind : (i : ℕ) (g : List ℕ) (past : List Event) → Was (Give i) (map Take g ++ past) → Was (Give i) past
give_behind i [] past w = w
give_behind i (j ∷ g) past (inl e) = absurd (cc e)
give_behind i (j ∷ g) past (inr w) = give_behind i g past w

take_behind : (i : ℕ) (g : List ℕ) (past : List Event) → Was (Take i) (map Give g ++ past) → Was (Take i) past
take_behind i [] past w = w
take_behind i (j ∷ g) past (inl e) = absurd (cc e)
take_behind i (j ∷ g) past (inr w) = take_behind i g past w

takes_legal : (job : Job) (g : List ℕ) (past : List Event) → IsLegal job past → ((i : ℕ) → Was i g → MayTake job i past)
    → Pairs (λ i j. j ≢ i) g → IsLegal job (map Take g ++ past)
takes_legal job [] past l may apart = l
takes_legal job (i ∷ g) past l may apart =
    let here : MayTake job i past = may i (inl refl) in (
      record {
        there = here.there;
        once = λ w. elim (take_there i g past w) [ inl v ↦ apart.0 i v refl | inr v ↦ here.once v ];
        sharers = λ j one h s. into_right (Give j) (map Take g) past (here.sharers j one h s);
      },
      takes_legal job g past l (λ j w. may j (inr w)) apart.1,
    )

gives_legal : (job : Job) (g : List ℕ) (past : List Event) → IsLegal job past → ((i : ℕ) → Was i g → MayGive i past)
    → Pairs (λ i j. j ≢ i) g → IsLegal job (map Give g ++ past)
gives_legal job [] past l may apart = l
gives_legal job (i ∷ g) past l may apart =
    let here : MayGive i past = may i (inl refl) in (
      record {
        taken = into_right (Take i) (map Give g) past here.taken;
        once = λ w. elim (give_there i g past w) [ inl v ↦ apart.0 i v refl | inr v ↦ here.once v ];
      },
      gives_legal job g past l (λ j w. may j (inr w)) apart.1,
    )

module _ (job : Job) (number : ℕ → ℕ) where
  -- what was taken in the waves is a record of one of their numbers
  taken_in : (i : ℕ) (waves : List Wave) → AreNumbered job number waves → Was (Take i) (wave_by_wave waves)
      → number i ≤ length waves
  taken_in i [] are w = elim w [ ]
  taken_in i (g ∷ waves) are w =
      elim (take_there i g.takes (wave_by_wave waves) (take_behind i g.gives (map Take g.takes ++ wave_by_wave waves) w)) [
        | inl l ↦ let e : number i ≡ suc (length waves) = ((are.0.takes i).0 l).1 in omega arith
        | inr r ↦ let h : number i ≤ length waves = taken_in i waves are.1 r in omega arith
      ]

  -- each record of their numbers was given
  given_in : (i : ℕ) (waves : List Wave) → AreNumbered job number waves → IsPlace job i → 1 ≤ number i
      → number i ≤ length waves → Was (Give i) (wave_by_wave waves)
  given_in i [] are there one to = absurd (omega arith)
  given_in i (g ∷ waves) are there one to = elim (cases_eq (number i) (suc (length waves))) [
    | inl e ↦ into_left (Give i) (map Give g.gives) (map Take g.takes ++ wave_by_wave waves)
        (event_of Give i g.gives ((are.0.gives i).1 (there, e)))
    | inr n ↦ into_right (Give i) (map Give g.gives) (map Take g.takes ++ wave_by_wave waves)
        (into_right (Give i) (map Take g.takes) (wave_by_wave waves) (given_in i waves are.1 there one (below n to)))
  ]
    where
      below : {m n : ℕ} → (m ≡ suc n → ⊥) → m ≤ suc n → m ≤ n
      below apart to = omega arith

  legal_in : IsNumbering job number → ((i : ℕ) → IsPlace job i → 1 ≤ number i) → (waves : List Wave)
      → AreNumbered job number waves → IsLegal job (wave_by_wave waves)
  legal_in v from [] are = tt
  legal_in v from (g ∷ waves) are =
      let before : IsLegal job (wave_by_wave waves) = legal_in v from waves are.1 in
      let out : IsLegal job (map Take g.takes ++ wave_by_wave waves) = takes_legal job g.takes (wave_by_wave waves) before
      (λ i w. let own = (are.0.takes i).0 w in record {
        there = own.0;
        once = λ t. later i own.1 (taken_in i waves are.1 t);
        sharers = λ j one h s. earlier i j own.0 own.1 one h s;
      }) are.0.taken_once in
      gives_legal job g.gives (map Take g.takes ++ wave_by_wave waves) out
      (λ i w. let own = (are.0.gives i).0 w in record {
        taken = into_left (Take i) (map Take g.takes) (wave_by_wave waves) (event_of Take i g.takes ((are.0.takes i).1 own));
        once = λ t. later i own.1 (taken_in i waves are.1 (taken job i (wave_by_wave waves) before
            (give_behind i g.takes (wave_by_wave waves) t)));
      }) are.0.given_once
    where
      later : (i : ℕ) → number i ≡ suc (length waves) → number i ≤ length waves → ⊥
      later i e h = absurd (omega arith)

      earlier : (i j : ℕ) → IsPlace job i → number i ≡ suc (length waves) → 1 ≤ j → j < i → Share job j i
          → Was (Give j) (wave_by_wave waves)
      earlier i j there e one h s =
          let to : i ≤ job.count = there.to_count in
          let less : number j < number i = v j i one h to s in
          let other : IsPlace job j = record { from_one = one; to_count = omega arith } in
          given_in j waves are.1 other (from j other) (omega arith)

  pub waves_legal : (waves : List Wave) → IsNumbering job number → GoesInWaves job number waves
      → IsLegal job (wave_by_wave waves)
  waves_legal waves v goes = legal_in v (λ i there. (goes.whole i there).0) waves goes.numbered

  pub waves_whole : (waves : List Wave) → GoesInWaves job number waves → IsComplete job (wave_by_wave waves)
  waves_whole waves goes i there =
      let own = goes.whole i there in given_in i waves goes.numbered there own.0 own.1
