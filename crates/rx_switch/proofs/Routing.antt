-- A switch's records: each is answered by the plan whose number it has, as in that plan's run of the whole batch.
use Rattle.std.proofs.Common.{◌≡◌, ℕ, zero, suc, ◌+◌, ◌-◌, ◌<◌, ◌≤◌, Bool, true, false, not, ◌||◌, List, [], ◌∷◌, ◌++◌, get_or, length}
use Rattle.std.proofs.Common.{map, take, refl, ap, sym, subst, ◌∙◌, inl, inr, arith}
use Rattle.std.specs.Cmp.Lexicographic.{same_text}
use Rattle.std.specs.List.{list_any}
use Rattle.std.proofs.lemmas.Bool.{and_from, and_parts, both_ways, cases_Bool, cases_lt, eq-eqb, eqb-true, false_from_ne_true}
use Rattle.std.proofs.lemmas.Cmp.{nat_list_eq_equiv}
use Rattle.std.proofs.lemmas.List.{get_or-map, get_or_default, length-map, map-append}
use Rattle.rx_batch.specs.declared.detail.Detail.{Detail}
use Rattle.rx_d0_request.specs.Cut.{same}
use Rattle.rx_d0_request.specs.Doors.{door_in, names_plan, plan_at, plan_named, routed, stray, stray_reply}
use Rattle.rx_d0_request.specs.Request.{transmission_of}
use Rattle.rx_d0_request.proofs.Strays.{missed_rejected, routed_named, routed_none}
use Rattle.rx_d0_values.specs.declared.reply.Reply.{Reply}
use Rattle.rx_d0_values.specs.declared.transmission.Transmission.{Transmission}
use Rattle.rx_fields.specs.Numbered.{LotParts}
use Rattle.rx_fields.specs.declared.door.Door.{Door}
use Rattle.rx_ledger.specs.Fold.{fold_ledger, ledger_after, reply_to}
use Rattle.rx_ledger.specs.Ledger.{Ledger}
use Rattle.rx_ledger.specs.Plan.{Plan}
use Rattle.rx_schedule.specs.Footprints.{no_record, record_at}
use Rattle.rx_schedule.specs.Jobs.{reply_at}
use Rattle.rx_schedule.specs.Shards.{is_of, ledger_of, places_of, replies_of}
use Rattle.rx_schedule.specs.Waves.{number_in}
use Rattle.rx_schedule.proofs.Sharded.{ledger-snoc, replies-snoc}
use Rattle.rx_wave.specs.AtDoors.{transmissions_routed}
use Rattle.rx_wave.specs.Decoding.{transmissions_of}
use Rattle.rx_wave.specs.Jobs.{AreReplies}
use Rattle.rx_wave.proofs.FoldReplies.{reply_in}
use Rattle.rx_wave.proofs.Lists.{an_item}
use Rattle.rx_switch.specs.Output.{asked, ledger_at_end, replies}
use Rattle.rx_switch.specs.Own.{no_reply, own_records, run_replies}
use Rattle.rx_switch.specs.RouteParts.{numbers_of}
use Rattle.rx_switch.specs.Routed.{OnePlan, Switched, are_apart, door_of, doors_of, is_own, no_detail, own_replies}
use Rattle.rx_switch.specs.Routed.{reply_among, request_at, routed_reply, run_of}
use Rattle.rx_switch.proofs.Replied.{one_each}
use Rattle.rx_switch.proofs.Alone.{alone_end, alone_replies, map_places, places_alike, same_ledger, same_replies}

-- ---- numbers and doors

pub names_self : (d : Door) → names_plan d d ≡ true
names_self d = and_from (same d.bin d.bin) (same d.pcn d.pcn) (nat_list_eq_equiv.refl d.bin) (nat_list_eq_equiv.refl d.pcn)

-- a door that is named is the one that is asked for
named_is : (asked door : Door) → names_plan asked door ≡ true → asked ≡ door
named_is asked door named =
    let parts = and_parts (same asked.bin door.bin) (same asked.pcn door.pcn) named in
    let bins : asked.bin ≡ door.bin = same_text asked.bin door.bin (sym parts.0) in
    let numbers : asked.pcn ≡ door.pcn = same_text asked.pcn door.pcn (sym parts.1) in
    λ i. record { bin = bins i; pcn = numbers i }

-- neither of two
pub or_parts : (a b : Bool) → (a || b) ≡ false → (a ≡ false) × (b ≡ false)
or_parts true b e = absurd (let bad : true ≡ false = e in cc)
or_parts false b e = (refl, e)

or_true : (a : Bool) → (a || true) ≡ true
or_true true = refl
or_true false = refl

among : (p : Door → Bool) (doors : List Door) (k : ℕ) (door : Door) → k < length doors → get_or doors k door ≡ door
    → p door ≡ true → list_any p doors ≡ true
among p [] k door low is holds = absurd (omega arith)
among p (d ∷ doors) zero door low is holds = rw (is, holds) refl
among p (d ∷ doors) (suc k) door low is holds = rw (among p doors k door (omega arith) is holds) (or_true (p d))

-- the door of a number is named by what has the number
pub number_named : (doors : List Door) (k : ℕ) (door asked : Door) → k < length doors → get_or doors k door ≡ door
    → plan_at asked doors ≡ k → names_plan asked door ≡ true
number_named [] k door asked low is number = absurd (omega arith)
number_named (d ∷ doors) zero door asked low is number = elim (cases_Bool (names_plan asked d)) [
  | inl named ↦ subst (λ e. names_plan asked e ≡ true) is named
  | inr other ↦ absurd (let bad = rw other at number in omega (arith, bad))
]
number_named (d ∷ doors) (suc k) door asked low is number = elim (cases_Bool (names_plan asked d)) [
  | inl named ↦ absurd (let bad = rw named at number in omega (arith, bad))
  | inr other ↦ number_named doors k door asked (omega arith) is (let n = rw other at number in omega (arith, n))
]

-- where no two doors are one, what names a door has its number
pub named_number : (doors : List Door) → are_apart doors ≡ true → (k : ℕ) (door asked : Door) → k < length doors
    → get_or doors k door ≡ door → names_plan asked door ≡ true → plan_at asked doors ≡ k
named_number [] apart k door asked low is named = absurd (omega arith)
named_number (d ∷ doors) apart zero door asked low is named =
    let here : names_plan asked d ≡ true = subst (λ e. names_plan asked e ≡ true) (sym is) named in rw here refl
named_number (d ∷ doors) apart (suc k) door asked low is named =
    let parts = and_parts (not (list_any (names_plan d) doors)) (are_apart doors) apart in
    elim (cases_Bool (names_plan asked d)) [
      | inl here ↦ absurd (
          let one : d ≡ door = sym (named_is asked d here) ∙ named_is asked door named in
          let again : list_any (names_plan d) doors ≡ true =
          among (names_plan d) doors k door (omega arith) is (subst (λ e. names_plan d e ≡ true) one (names_self d)) in
          let bad = rw again at parts.0 in cc)
      | inr other ↦ rw other (ap suc (named_number doors parts.1 k door asked (omega arith) is named))
    ]

module _ (x : Switched) where
  abbrev doors : List Door
  doors = doors_of x.plans

  abbrev mixed : List Transmission
  mixed = transmissions_routed doors x.details

  abbrev count : ℕ
  count = length x.details

  -- ---- the record at a place

  pub number_there : (i : ℕ) → 1 ≤ i → i ≤ count
      → number_in (numbers_of x) i ≡ plan_at (door_in (request_at x i)) doors
  number_there zero one to = absurd (omega arith)
  number_there (suc j) one to =
      let e : suc j - 1 ≡ j = omega arith in
      get_or-map (λ (d : Detail). plan_named doors d.text) x.details j no_detail 0 (omega arith)
      ∙ ap (λ n. plan_at (door_in (get_or x.details n no_detail).text) doors) (sym e)

  pub routed_there : (i : ℕ) → 1 ≤ i → i ≤ count → record_at mixed i ≡ routed doors (request_at x i)
  routed_there i one to = get_or-map (λ (d : Detail). routed doors d.text) x.details (i - 1) no_detail no_record (omega arith)

  -- the reply to a stray
  reply_none : (plans : List OnePlan) (i : ℕ) → length plans ≤ plan_at (door_in (request_at x i)) (doors_of plans)
      → reply_among x plans i ≡ stray_reply doors (request_at x i)
  reply_none [] i high = refl
  reply_none (q ∷ plans) i high = elim (cases_Bool (names_plan (door_in (request_at x i)) (door_of q))) [
    | inl named ↦ absurd (let h = rw named at high in omega (arith, h))
    | inr other ↦ rw other (reply_none plans i (let h = rw other at high in omega (arith, h)))
  ]

  -- the reply of the plan of a number
  reply_named : (plans : List OnePlan) (i k : ℕ) (p : OnePlan) → k < length plans → get_or plans k p ≡ p
      → plan_at (door_in (request_at x i)) (doors_of plans) ≡ k
      → reply_among x plans i ≡ get_or (replies (run_of x p)) (i - 1) (stray_reply doors (request_at x i))
  reply_named [] i k p low is number = absurd (omega arith)
  reply_named (q ∷ plans) i zero p low is number = elim (cases_Bool (names_plan (door_in (request_at x i)) (door_of q))) [
    | inl named ↦ rw named (ap (λ (r : OnePlan). get_or (replies (run_of x r)) (i - 1) (stray_reply doors (request_at x i))) is)
    | inr other ↦ absurd (let bad = rw other at number in omega (arith, bad))
  ]
  reply_named (q ∷ plans) i (suc k) p low is number = elim (cases_Bool (names_plan (door_in (request_at x i)) (door_of q))) [
    | inl named ↦ absurd (let bad = rw named at number in omega (arith, bad))
    | inr other ↦ rw other (reply_named plans i k p (omega arith) is (let n = rw other at number in omega (arith, n)))
  ]

  -- ---- the strays

  pub stray_replies : (i : ℕ) → 1 ≤ i → i ≤ count → number_in (numbers_of x) i ≡ length x.plans
      → (record_at mixed i ≡ stray doors (request_at x i)) × (routed_reply x i ≡ stray_reply doors (request_at x i))
  stray_replies i one to number =
      let at : plan_at (door_in (request_at x i)) doors ≡ length x.plans = sym (number_there i one to) ∙ number in
      let long : length doors ≡ length x.plans = length-map x.plans door_of in (
        routed_there i one to ∙ routed_none doors doors (request_at x i) (omega (arith, at, long)),
        reply_none x.plans i (omega (arith, at)),
      )

  -- a record that names none of the plans
  pub reply_unnamed : (plans : List OnePlan) (i : ℕ)
      → list_any (names_plan (door_in (request_at x i))) (doors_of plans) ≡ false
      → reply_among x plans i ≡ stray_reply doors (request_at x i)
  reply_unnamed [] i none = refl
  reply_unnamed (q ∷ plans) i none =
      let parts = or_parts (names_plan (door_in (request_at x i)) (door_of q))
      (list_any (names_plan (door_in (request_at x i))) (doors_of plans)) none in
      rw parts.0 (reply_unnamed plans i parts.1)

  -- ---- one of the plans

  module _ (apart : are_apart doors ≡ true) (k : ℕ) (p : OnePlan) (low : k < length x.plans)
      (is : get_or x.plans k p ≡ p) where
    abbrev own : List Transmission
    own = transmissions_of (door_of p) x.details

    abbrev mine : ℕ → Bool
    mine = is_of (number_in (numbers_of x)) k

    door_is : get_or doors k (door_of p) ≡ door_of p
    door_is = get_or-map door_of x.plans k p (door_of p) low ∙ ap door_of is

    low_door : k < length doors
    low_door = let long = length-map x.plans door_of in omega (arith, low, long)

    -- a record is the plan's where it has its number
    has_number : (i : ℕ) → 1 ≤ i → i ≤ count → mine i ≡ true → plan_at (door_in (request_at x i)) doors ≡ k
    has_number i one to is_mine = sym (number_there i one to) ∙ eqb-true (number_in (numbers_of x) i) k is_mine

    other_number : (i : ℕ) → 1 ≤ i → i ≤ count → mine i ≡ false → names_plan (door_in (request_at x i)) (door_of p) ≡ false
    other_number i one to is_other = false_from_ne_true (names_plan (door_in (request_at x i)) (door_of p)) (λ named.
        both_ways (mine i) is_other (eq-eqb (number_in (numbers_of x) i) k (number_there i one to
        ∙ named_number doors apart k (door_of p) (door_in (request_at x i)) low_door door_is named)))

    pub mine_is_own : (i : ℕ) → 1 ≤ i → i ≤ count → mine i ≡ is_own x (door_of p) i
    mine_is_own i one to = elim (cases_Bool (mine i)) [
      | inl is_mine ↦ is_mine
          ∙ sym (number_named doors k (door_of p) (door_in (request_at x i)) low_door door_is (has_number i one to is_mine))
      | inr is_other ↦ is_other ∙ sym (other_number i one to is_other)
    ]

    own_there : (i : ℕ) → 1 ≤ i → i ≤ count → record_at own i ≡ transmission_of (door_of p) (request_at x i)
    own_there i one to =
        get_or-map (λ (d : Detail). transmission_of (door_of p) d.text) x.details (i - 1) no_detail no_record (omega arith)

    pub same_there : (i : ℕ) → 1 ≤ i → i ≤ count → mine i ≡ true → record_at mixed i ≡ record_at own i
    same_there i one to is_mine =
        let at = has_number i one to is_mine in
        routed_there i one to
        ∙ sym (routed_named doors doors (request_at x i) (door_of p) (omega (arith, at, low_door)))
        ∙ ap (λ n. transmission_of (get_or doors n (door_of p)) (request_at x i)) at
        ∙ ap (λ d. transmission_of d (request_at x i)) door_is
        ∙ sym (own_there i one to)

    long_own : length own ≡ count
    long_own = length-map x.details (λ (d : Detail). transmission_of (door_of p) d.text)

    nothing_there : (i : ℕ) → 1 ≤ i → i ≤ length own → mine i ≡ false → (M : Ledger)
        → ledger_after x.head.lot p.plan i (record_at own i) M ≡ M
    nothing_there i one to is_other M =
        let inside : i ≤ count = omega (arith, to, long_own) in
        ap (λ t. ledger_after x.head.lot p.plan i t M) (own_there i one inside
        ∙ missed_rejected (request_at x i) (door_of p) (other_number i one inside is_other))

    pub reply_there : (i : ℕ) → 1 ≤ i → i ≤ count → mine i ≡ true
        → reply_at x.head.lot p.plan p.opening own i ≡ routed_reply x i
    reply_there i one to is_mine =
        let none = stray_reply doors (request_at x i) in
        let e : 1 + (i - 1) ≡ i = omega arith in
        sym (reply_named x.plans i k p low is (has_number i one to is_mine)
        ∙ reply_in x.head.lot p.plan 1 own p.opening (i - 1) none (omega (arith, to, one, long_own))
        ∙ ap (λ n. reply_to x.head.lot p.plan n (get_or own (i - 1) no_record)
        (fold_ledger x.head.lot p.plan 1 (take (i - 1) own) p.opening)) e)

    -- only its records make the end books of its run
    pub plan_ledger : ledger_of x.head.lot p.plan mixed (places_of mine count) p.opening ≡ ledger_at_end (run_of x p)
    plan_ledger =
        same_ledger mine x.head.lot p.plan p.opening mixed own count same_there
        ∙ ap (λ n. ledger_of x.head.lot p.plan own (places_of mine n) p.opening) (sym long_own)
        ∙ alone_end mine x.head.lot p.plan p.opening own nothing_there

    -- and the replies that the switch gives at their places
    pub plan_replies : replies_of x.head.lot p.plan mixed (places_of mine count) p.opening
        ≡ map (routed_reply x) (places_of mine count)
    plan_replies =
        same_replies mine x.head.lot p.plan p.opening mixed own count same_there
        ∙ alone_replies mine x.head.lot p.plan p.opening own nothing_there count (omega (arith, long_own))
        ∙ map_places mine (reply_at x.head.lot p.plan p.opening own) (routed_reply x) count reply_there

    -- the reply to one of its records is that of its run
    pub routed_is : (i : ℕ) → 1 ≤ i → i ≤ count → is_own x (door_of p) i ≡ true
        → routed_reply x i ≡ get_or (replies (run_of x p)) (i - 1) no_reply
    routed_is i one to is_mine =
        let none = stray_reply doors (request_at x i) in
        let long = one_each x.head.lot p.plan 1 own p.opening in
        reply_named x.plans i k p low is
        (named_number doors apart k (door_of p) (door_in (request_at x i)) low_door door_is is_mine)
        ∙ get_or_default (replies (run_of x p)) (i - 1) none no_reply (omega (arith, long, long_own, to, one))

    pub own_are : own_replies x p ≡ run_replies x p
    own_are = map_places (is_own x (door_of p)) (routed_reply x) (λ i. get_or (replies (run_of x p)) (i - 1) no_reply) count
        routed_is

    pub plan_own : map (routed_reply x) (places_of mine count) ≡ own_replies x p
    plan_own = ap (map (routed_reply x)) (places_alike mine (is_own x (door_of p)) count mine_is_own)

-- ---- the records of one plan, whatever the others are

-- the records of a list, each at its place, one after another
module _ (lot : LotParts) (plan : Plan) (door : Door) where
  abbrev pub along : List (ℕ × List ℕ) → Ledger → Ledger
  along [] L = L
  along (r ∷ rs) L = along rs (ledger_after lot plan r.0 (transmission_of door r.1) L)

  along-snoc : (rs : List (ℕ × List ℕ)) (r : ℕ × List ℕ) (L : Ledger)
      → along (rs ++ r ∷ []) L ≡ ledger_after lot plan r.0 (transmission_of door r.1) (along rs L)
  along-snoc [] r L = refl
  along-snoc (s ∷ rs) r L = along-snoc rs r (ledger_after lot plan s.0 (transmission_of door s.1) L)

  abbrev pub replied : List (ℕ × List ℕ) → Ledger → List Reply
  replied [] L = []
  replied (r ∷ rs) L =
      reply_to lot plan r.0 (transmission_of door r.1) L ∷ replied rs (ledger_after lot plan r.0 (transmission_of door r.1) L)

  replied-snoc : (rs : List (ℕ × List ℕ)) (r : ℕ × List ℕ) (L : Ledger)
      → replied (rs ++ r ∷ []) L ≡ replied rs L ++ reply_to lot plan r.0 (transmission_of door r.1) (along rs L) ∷ []
  replied-snoc [] r L = refl
  replied-snoc (s ∷ rs) r L = ap (λ ts. reply_to lot plan s.0 (transmission_of door s.1) L ∷ ts)
      (replied-snoc rs r (ledger_after lot plan s.0 (transmission_of door s.1) L))

module _ (x : Switched) (p : OnePlan) where
  abbrev its : List Transmission
  its = transmissions_of (door_of p) x.details

  abbrev theirs : ℕ → Bool
  theirs = is_own x (door_of p)

  abbrev asked_at : ℕ → ℕ × List ℕ
  asked_at place = (place, request_at x place)

  it_there : (i : ℕ) → 1 ≤ i → i ≤ length x.details → record_at its i ≡ transmission_of (door_of p) (request_at x i)
  it_there i one to =
      get_or-map (λ (d : Detail). transmission_of (door_of p) d.text) x.details (i - 1) no_detail no_record (omega arith)

  long_its : length its ≡ length x.details
  long_its = length-map x.details (λ (d : Detail). transmission_of (door_of p) d.text)

  nothing : (i : ℕ) → 1 ≤ i → i ≤ length its → theirs i ≡ false → (M : Ledger)
      → ledger_after x.head.lot p.plan i (record_at its i) M ≡ M
  nothing i one to other M =
      ap (λ t. ledger_after x.head.lot p.plan i t M)
      (it_there i one (omega (arith, to, long_its)) ∙ missed_rejected (request_at x i) (door_of p) other)

  along_own : (n : ℕ) → n ≤ length x.details → ledger_of x.head.lot p.plan its (places_of theirs n) p.opening
      ≡ along x.head.lot p.plan (door_of p) (map asked_at (places_of theirs n)) p.opening
  along_own zero to = refl
  along_own (suc n) to =
      let before = along_own n (omega arith) in
      elim (cases_Bool (theirs (suc n))) [
        | inl is ↦ rw is (ledger-snoc x.head.lot p.plan its (places_of theirs n) (suc n) p.opening
            ∙ ap (ledger_after x.head.lot p.plan (suc n) (record_at its (suc n))) before
            ∙ ap (λ t. ledger_after x.head.lot p.plan (suc n) t
            (along x.head.lot p.plan (door_of p) (map asked_at (places_of theirs n)) p.opening)) (it_there (suc n) (omega arith) to)
            ∙ sym (along-snoc x.head.lot p.plan (door_of p) (map asked_at (places_of theirs n)) (asked_at (suc n)) p.opening)
            ∙ ap (λ rs. along x.head.lot p.plan (door_of p) rs p.opening)
            (sym (map-append asked_at (places_of theirs n) (suc n ∷ []))))
        | inr other ↦ rw other before
      ]

  replied_own : (n : ℕ) → n ≤ length x.details → replies_of x.head.lot p.plan its (places_of theirs n) p.opening
      ≡ replied x.head.lot p.plan (door_of p) (map asked_at (places_of theirs n)) p.opening
  replied_own zero to = refl
  replied_own (suc n) to =
      let before = replied_own n (omega arith) in
      let there = it_there (suc n) (omega arith) to in
      elim (cases_Bool (theirs (suc n))) [
        | inl is ↦ rw is (replies-snoc x.head.lot p.plan its (places_of theirs n) (suc n) p.opening
            ∙ ap (λ rs. rs ++ reply_to x.head.lot p.plan (suc n) (record_at its (suc n))
            (ledger_of x.head.lot p.plan its (places_of theirs n) p.opening) ∷ []) before
            ∙ ap (λ t. replied x.head.lot p.plan (door_of p) (map asked_at (places_of theirs n)) p.opening
            ++ reply_to x.head.lot p.plan (suc n) t
            (ledger_of x.head.lot p.plan its (places_of theirs n) p.opening) ∷ []) there
            ∙ ap (λ M. replied x.head.lot p.plan (door_of p) (map asked_at (places_of theirs n)) p.opening
            ++ reply_to x.head.lot p.plan (suc n) (transmission_of (door_of p) (request_at x (suc n))) M ∷ [])
            (along_own n (omega arith))
            ∙ sym (replied-snoc x.head.lot p.plan (door_of p) (map asked_at (places_of theirs n)) (asked_at (suc n)) p.opening)
            ∙ ap (λ rs. replied x.head.lot p.plan (door_of p) rs p.opening)
            (sym (map-append asked_at (places_of theirs n) (suc n ∷ []))))
        | inr other ↦ rw other before
      ]

  -- its end books and its replies, by nothing but its records
  pub its_ledger : ledger_at_end (run_of x p)
      ≡ along x.head.lot p.plan (door_of p) (own_records x (door_of p)) p.opening
  its_ledger =
      sym (alone_end theirs x.head.lot p.plan p.opening its nothing)
      ∙ ap (λ n. ledger_of x.head.lot p.plan its (places_of theirs n) p.opening) long_its
      ∙ along_own (length x.details) (omega arith)

  run_reply : (i : ℕ) → 1 ≤ i → i ≤ length x.details
      → reply_at x.head.lot p.plan p.opening its i ≡ get_or (replies (run_of x p)) (i - 1) no_reply
  run_reply i one to =
      let e : 1 + (i - 1) ≡ i = omega arith in
      sym (reply_in x.head.lot p.plan 1 its p.opening (i - 1) no_reply (omega (arith, to, one, long_its))
      ∙ ap (λ n. reply_to x.head.lot p.plan n (get_or its (i - 1) no_record)
      (fold_ledger x.head.lot p.plan 1 (take (i - 1) its) p.opening)) e)

  pub its_replies : run_replies x p ≡ replied x.head.lot p.plan (door_of p) (own_records x (door_of p)) p.opening
  its_replies =
      sym (map_places theirs (reply_at x.head.lot p.plan p.opening its)
      (λ i. get_or (replies (run_of x p)) (i - 1) no_reply) (length x.details) (λ i one to is. run_reply i one to))
      ∙ sym (alone_replies theirs x.head.lot p.plan p.opening its nothing (length x.details) (omega (arith, long_its)))
      ∙ replied_own (length x.details) (omega arith)

-- ---- the laws

-- two batches of one lot that have the same records of a plan at the same places
pub same_end : (x y : Switched) (p : OnePlan) → x.head.lot ≡ y.head.lot
    → own_records x (door_of p) ≡ own_records y (door_of p) → ledger_at_end (run_of x p) ≡ ledger_at_end (run_of y p)
same_end x y p lots records =
    its_ledger x p
    ∙ ap (λ rs. along x.head.lot p.plan (door_of p) rs p.opening) records
    ∙ ap (λ lot. along lot p.plan (door_of p) (own_records y (door_of p)) p.opening) lots
    ∙ sym (its_ledger y p)

pub same_answers : (x y : Switched) (p : OnePlan) → x.head.lot ≡ y.head.lot
    → own_records x (door_of p) ≡ own_records y (door_of p) → run_replies x p ≡ run_replies y p
same_answers x y p lots records =
    its_replies x p
    ∙ ap (λ rs. replied x.head.lot p.plan (door_of p) rs p.opening) records
    ∙ ap (λ lot. replied lot p.plan (door_of p) (own_records y (door_of p)) p.opening) lots
    ∙ sym (its_replies y p)

-- ---- all replies

plan_at-le : (asked : Door) (doors : List Door) → plan_at asked doors ≤ length doors
plan_at-le asked [] = omega arith
plan_at-le asked (d ∷ doors) = elim (cases_Bool (names_plan asked d)) [
  | inl named ↦ rw named (omega arith)
  | inr other ↦ let below = plan_at-le asked doors in rw other (omega (arith, below))
]

-- the replies of the plans to their own records, and those to the strays after them, are those that the switch gives
module _ (x : Switched) (apart : are_apart (doors_of x.plans) ≡ true) (lists : List (List Reply))
    (long : length lists ≡ suc (length x.plans))
    (each : (k : ℕ) (p : OnePlan) → k < length x.plans → get_or x.plans k p ≡ p → get_or lists k []
    ≡ replies_of x.head.lot p.plan (transmissions_routed (doors_of x.plans) x.details)
    (places_of (is_of (number_in (numbers_of x)) k) (length x.details)) p.opening)
    (strays : get_or lists (length x.plans) []
    ≡ map (λ place. stray_reply (doors_of x.plans) (request_at x place))
    (places_of (is_of (number_in (numbers_of x)) (length x.plans)) (length x.details))) where
  one_number : length (numbers_of x) ≡ length x.details
  one_number = length-map x.details (λ (d : Detail). plan_named (doors_of x.plans) d.text)

  of_list : (k : ℕ) → k < length lists → get_or lists k []
      ≡ map (routed_reply x) (places_of (is_of (number_in (numbers_of x)) k) (length x.details))
  of_list k low = elim (cases_lt k (length x.plans)) [
    | inl one ↦
        let p = get_or x.plans k (an_item x.plans k one) in
        let is : get_or x.plans k p ≡ p = get_or_default x.plans k p (an_item x.plans k one) one in
        each k p one is ∙ plan_replies x apart k p one is
    | inr none ↦
        let last : k ≡ length x.plans = omega (arith, long, low, none) in
        ap (λ n. get_or lists n []) last ∙ strays
        ∙ map_places (is_of (number_in (numbers_of x)) (length x.plans))
        (λ place. stray_reply (doors_of x.plans) (request_at x place)) (routed_reply x) (length x.details)
        (λ i from to is. sym (stray_replies x i from to (eqb-true (number_in (numbers_of x) i) (length x.plans) is)).1)
        ∙ ap (λ n. map (routed_reply x) (places_of (is_of (number_in (numbers_of x)) n) (length x.details))) (sym last)
  ]

  pub are_routed : AreReplies (routed_reply x) (numbers_of x) lists
  are_routed = record {
    within = λ i d low.
        let inside : i < length x.details = omega (arith, low, one_number) in
        let number = get_or-map (λ (e : Detail). plan_named (doors_of x.plans) e.text) x.details i no_detail d inside in
        let below = plan_at-le (door_in (get_or x.details i no_detail).text) (doors_of x.plans) in
        let doors_long = length-map x.plans door_of in
        omega (arith, number, below, doors_long, long);
    each = λ k low. of_list k low
        ∙ ap (λ n. map (routed_reply x) (places_of (is_of (number_in (numbers_of x)) k) n)) (sym one_number);
  }
