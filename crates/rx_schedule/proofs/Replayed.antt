-- Every legal event list ends with the fold's books and replies.
use Rattle.rx_schedule.specs.declared.event.Event.{Event}
use Rattle.rx_schedule.specs.declared.event.Event.TheVariants.{Take, Give}
use Rattle.std.proofs.Common.{◌≡◌, ℕ, zero, suc, ◌<◌, ◌≤◌, ◌+◌, ◌-◌, List, [], ◌∷◌, refl, ap, sym, ◌∙◌, subst, arith, inl, inr}
use mathlib.Core.Path.{fun_ext}
use Rattle.std.specs.Prelude.{true, false, Some, None, ◌++◌}
use Rattle.std.proofs.lemmas.Bool.{cases_Bool, cases_lt, both_ways, eq-eqb, ne_eqb}
use Rattle.rx_schedule.specs.Machine.{Job, Store, IsPlace, own_values, Share, Was, MayTake, MayGive, IsLegal}
use Rattle.rx_schedule.specs.Machine.{IsComplete, Reached, with_at, take, give, replay, IsFoldOf}

-- what was given was taken
pub taken : (job : Job) (i : ℕ) (past : List Event) → IsLegal job past → Was (Give i) past → Was (Take i) past
taken job i [] l w = elim w [ ]
taken job i (Take k ∷ past) l (inl e) = absurd (cc e)
taken job i (Take k ∷ past) l (inr w) = inr (taken job i past l.1 w)
taken job i (Give k ∷ past) l (inl e) = let s : k ≡ i = cc e in inr (subst (λ x. Was (Take x) past) s l.0.taken)
taken job i (Give k ∷ past) l (inr w) = inr (taken job i past l.1 w)

-- of two that share, the later was taken only after the earlier was given
in_turn : (job : Job) (i j : ℕ) (past : List Event) → IsLegal job past → 1 ≤ i → i < j → Share job i j
    → Was (Take j) past → Was (Give i) past
in_turn job i j [] l one h s w = elim w [ ]
in_turn job i j (Take k ∷ past) l one h s (inl e) =
    let same : k ≡ j = cc e in inr (l.0.sharers i one (rw same h) (rw same s))
in_turn job i j (Take k ∷ past) l one h s (inr w) = inr (in_turn job i j past l.1 one h s w)
in_turn job i j (Give k ∷ past) l one h s (inl e) = absurd (cc e)
in_turn job i j (Give k ∷ past) l one h s (inr w) = inr (in_turn job i j past l.1 one h s w)

-- what was taken is a record of the job
pub in_range : (job : Job) (i : ℕ) (past : List Event) → IsLegal job past → Was (Take i) past → IsPlace job i
in_range job i [] l w = elim w [ ]
in_range job i (Take k ∷ past) l (inl e) = let same : k ≡ i = cc e in rw (← same) l.0.there
in_range job i (Take k ∷ past) l (inr w) = in_range job i past l.1 w
in_range job i (Give k ∷ past) l (inl e) = absurd (cc e)
in_range job i (Give k ∷ past) l (inr w) = in_range job i past l.1 w

-- a start of a legal event list is legal
pub legal_before : (job : Job) (later before : List Event) → IsLegal job (later ++ before) → IsLegal job before
legal_before job [] before l = l
legal_before job (Take k ∷ later) before l = legal_before job later before l.1
legal_before job (Give k ∷ later) before l = legal_before job later before l.1

at_own : {A : Type 0} (f : ℕ → A) (i j : ℕ) (x : A) → i ≡ j → with_at f i x j ≡ x
at_own f i j x e = rw (eq-eqb j i (sym e))

at_other : {A : Type 0} (f : ℕ → A) (i j : ℕ) (x : A) → (i ≡ j → ⊥) → with_at f i x j ≡ f j
at_other f i j x n = rw (ne_eqb j i (λ e. n (sym e)))

-- no reply is noted for a record that wasn't given
pub core_unnoted : (job : Job) (past : List Event) (i : ℕ) → (Was (Give i) past → ⊥) → (replay job past).replies i ≡ None
core_unnoted job [] i out = refl
core_unnoted job (Take k ∷ past) i out = core_unnoted job past i (λ w. out (inr w))
core_unnoted job (Give k ∷ past) i out =
    at_other (replay job past).replies k i (Some (job.work k ((replay job past).parcels k)).0) (λ e. out (inl (ap Give e)))
    ∙ core_unnoted job past i (λ w. out (inr w))

module _ (job : Job) (at : ℕ → Store job) (reply : ℕ → job.Reply) (fold : IsFoldOf job at reply) where
  -- a book is the same before k as before i, where none from i up to k names it
  unnamed : (b : job.Book) (i n : ℕ) → 1 ≤ i → i + n ≤ suc job.count
      → ((j : ℕ) → i ≤ j → j < i + n → job.names j b ≡ true → ⊥) → at (i + n) b ≡ at i b
  unnamed b i zero one h free = ap (λ k. at k b) (omega arith)
  unnamed b i (suc n) one h free =
      let e : i + suc n ≡ suc (i + n) = omega arith in
      let place : IsPlace job (i + n) = record { from_one = omega arith; to_count = omega arith } in
      let last : job.names (i + n) b ≡ false = elim (cases_Bool (job.names (i + n) b)) [
        | inl t ↦ absurd (free (i + n) (omega arith) (omega arith) t)
        | inr f ↦ f
      ] in
      rw e (fold.outside (i + n) place b last ∙ unnamed b i n one (omega arith) (λ j low high. free j low (omega arith)))

  unnamed_between : (b : job.Book) (i k : ℕ) → 1 ≤ i → i ≤ k → k ≤ suc job.count
      → ((j : ℕ) → i ≤ j → j < k → job.names j b ≡ true → ⊥) → at k b ≡ at i b
  unnamed_between b i k one h up free =
      let e : i + (k - i) ≡ k = omega arith in
      ap (λ m. at m b) (sym e) ∙ unnamed b i (k - i) one (omega arith) (λ j low high. free j low (omega arith))

  -- the records before k that name b were given, and those from k on were not taken
  record Stands (b : job.Book) (k : ℕ) (past : List Event) : Type 0 where
    from_one : 1 ≤ k
    up : k ≤ suc job.count
    given : (j : ℕ) → 1 ≤ j → j < k → job.names j b ≡ true → Was (Give j) past
    untaken : (j : ℕ) → k ≤ j → job.names j b ≡ true → Was (Take j) past → ⊥

  -- each book that is in is the fold's where its next record finds it, each parcel that is out is the fold's, and so is
  -- each reply
  record Follows (past : List Event) (d : Reached job) : Type 0 where
    books : (b : job.Book) (k : ℕ) → Stands b k past → d.books b ≡ at k b
    parcels : (i : ℕ) → Was (Take i) past → (Was (Give i) past → ⊥) → d.parcels i ≡ own_values job i (at i)
    replies : (i : ℕ) → Was (Give i) past → d.replies i ≡ Some (reply i)

  Stands-before_take : (b : job.Book) (k i : ℕ) (past : List Event) → Stands b k (Take i ∷ past) → Stands b k past
  Stands-before_take b k i past s = record {
    from_one = s.from_one;
    up = s.up;
    given = λ j one h n. elim (s.given j one h n) [ inl e ↦ absurd (cc e) | inr w ↦ w ];
    untaken = λ j h n w. s.untaken j h n (inr w);
  }

  Stands-before_give : (b : job.Book) (k i : ℕ) (past : List Event) → job.names i b ≡ false
      → Stands b k (Give i ∷ past) → Stands b k past
  Stands-before_give b k i past f s = record {
    from_one = s.from_one;
    up = s.up;
    given = λ j one h n. elim (s.given j one h n) [
      | inl e ↦ let same : i ≡ j = cc e in absurd (both_ways _ f (rw same n))
      | inr w ↦ w
    ];
    untaken = λ j h n w. s.untaken j h n (inr w);
  }

  -- a record that is taken finds its books as the fold has them before it
  finds : (i : ℕ) (past : List Event) (d : Reached job) → IsLegal job past → MayTake job i past → Follows past d
      → (b : job.Book) → job.names i b ≡ true → d.books b ≡ at i b
  finds i past d l may f b n = f.books b i record {
    from_one = may.there.from_one;
    up = let up : i ≤ job.count = may.there.to_count in omega arith;
    given = λ j one h m. may.sharers j one h (b, m, n);
    untaken = λ j h m w. elim (cases_lt i j) [
      | inl lt ↦ may.once (taken job i past l (in_turn job i j past l may.there.from_one lt (b, n, m) w))
      | inr le ↦ let same : i ≡ j = omega arith in may.once (rw same w)
    ];
  }

  cut_same : (i : ℕ) (s t : Store job) → ((b : job.Book) → job.names i b ≡ true → s b ≡ t b) → own_values job i s ≡ own_values job i t
  cut_same i s t h = fun_ext (λ b. elim (cases_Bool (job.names i b)) [ inl e ↦ rw (e, h b e) | inr e ↦ rw e ])

  Follows-take : (i : ℕ) (past : List Event) (d : Reached job) → IsLegal job past → MayTake job i past → Follows past d
      → Follows (Take i ∷ past) (take job i d)
  Follows-take i past d l may f = record {
    books = λ b k s. elim (cases_Bool (job.names i b)) [
      | inl t ↦ absurd (elim (cases_lt i k) [
        | inl lt ↦ elim (s.given i may.there.from_one lt t) [ inl e ↦ cc e | inr w ↦ may.once (taken job i past l w) ]
        | inr le ↦ s.untaken i le t (inl refl)
      ])
      | inr n ↦ rw n (f.books b k (Stands-before_take b k i past s))
    ];
    parcels = λ j w out. elim w [
      | inl e ↦ let same : i ≡ j = cc e in at_own d.parcels i j (own_values job i d.books) same
          ∙ rw (← same) (cut_same i d.books (at i) (finds i past d l may f))
      | inr v ↦ at_other d.parcels i j (own_values job i d.books) (λ e. may.once (rw e v)) ∙ f.parcels j v (λ g. out (inr g))
    ];
    replies = λ j w. elim w [ inl e ↦ absurd (cc e) | inr v ↦ f.replies j v ];
  }

  Follows-give : (i : ℕ) (past : List Event) (d : Reached job) → IsLegal job past → MayGive i past → Follows past d
      → Follows (Give i ∷ past) (give job i d)
  Follows-give i past d l may f =
      let place : IsPlace job i = in_range job i past l may.taken in
      let own : d.parcels i ≡ own_values job i (at i) = f.parcels i may.taken may.once in
      record {
        books = λ b k s. elim (cases_Bool (job.names i b)) [
          | inl t ↦ rw (t, own) (fold.inside i place b t ∙ sym (unnamed_between b (suc i) k
              (omega arith)
              (elim (cases_lt i k) [ inl h ↦ h | inr h ↦ absurd (s.untaken i h t (inr may.taken)) ])
              s.up
              (λ j low high n. elim (s.given j (omega arith) high n) [
                | inl e ↦ let same : i ≡ j = cc e in omega arith
                | inr w ↦ may.once (in_turn job i j past l place.from_one low (b, t, n) (taken job j past l w))
              ])))
          | inr n ↦ rw n (f.books b k (Stands-before_give b k i past n s))
        ];
        parcels = λ j w out. elim w [ inl e ↦ absurd (cc e) | inr v ↦ f.parcels j v (λ g. out (inr g)) ];
        replies = λ j w. elim w [
          | inl e ↦ let same : i ≡ j = cc e in at_own d.replies i j (Some (job.work i (d.parcels i)).0) same
              ∙ ap Some (rw (own, ← same) (fold.replies i place))
          | inr v ↦ at_other d.replies i j (Some (job.work i (d.parcels i)).0) (λ e. may.once (rw e v)) ∙ f.replies j v
        ];
      }

  follows : (past : List Event) → IsLegal job past → Follows past (replay job past)
  follows [] l = record {
    books = λ b k s.
        sym (unnamed_between b 1 k (omega arith) s.from_one s.up (λ j low high n. s.given j low high n) ∙ fold.begins b);
    parcels = λ j w. absurd w;
    replies = λ j w. absurd w;
  }
  follows (Take i ∷ past) l = Follows-take i past (replay job past) l.1 l.0 (follows past l.1)
  follows (Give i ∷ past) l = Follows-give i past (replay job past) l.1 l.0 (follows past l.1)

  -- after every prefix of a legal event list the replies noted are the fold's
  pub core_replies : (past : List Event) → IsLegal job past → (i : ℕ) → Was (Give i) past
      → (replay job past).replies i ≡ Some (reply i)
  core_replies past l i w = (follows past l).replies i w

  -- and after a complete one each book is the fold's
  pub core_books : (past : List Event) → IsLegal job past → IsComplete job past → (b : job.Book)
      → (replay job past).books b ≡ at (suc job.count) b
  core_books past l c b = (follows past l).books b (suc job.count) record {
    from_one = omega arith;
    up = omega arith;
    given = λ j one h n. c j record { from_one = one; to_count = omega arith };
    untaken = λ j h n w.
        let up : j ≤ job.count = (in_range job j past l w).to_count in omega arith;
  }

  -- a record that is taken finds its books as the fold has them before it
  pub core_finds : (past : List Event) (i : ℕ) → IsLegal job (Take i ∷ past) → (b : job.Book) → job.names i b ≡ true
      → (replay job past).books b ≡ at i b
  core_finds past i l = finds i past (replay job past) l.1 l.0 (follows past l.1)

  -- and where it is given, it leaves them as the fold has them after it
  pub core_leaves : (past : List Event) (i : ℕ) → IsLegal job (Give i ∷ past) → (b : job.Book) → job.names i b ≡ true
      → (replay job (Give i ∷ past)).books b ≡ at (suc i) b
  core_leaves past i l b n =
      let own : (replay job past).parcels i ≡ own_values job i (at i) = (follows past l.1).parcels i l.0.taken l.0.once in
      rw (n, own) (fold.inside i (in_range job i past l.1 l.0.taken) b n)
