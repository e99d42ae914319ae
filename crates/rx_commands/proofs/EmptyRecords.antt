-- Details without a transmission are rejected, and change no books.
use Rattle.std.proofs.Common.{◌≡◌, ℕ, zero, suc, ◌+◌, ◌++◌, ◌||◌, List, [], ◌∷◌, map, take, length, replicate, true, false, Bool, Some, None, refl, sym, ap, ◌∙◌, arith}
use Rattle.std.specs.Prelude.{max, min, slice_get}
use Rattle.rx_fields.specs.Numbered.{LotParts}
use Rattle.rx_fields.specs.declared.code.Code.{Code}
use Rattle.rx_fields.specs.declared.door.Door.{Door}
use Rattle.rx_d0_values.specs.declared.transmission.Body.TheVariants.{Rejected}
use Rattle.rx_d0_values.specs.declared.transmission.Rejected.{Rejected as RejectedHeader}
use Rattle.rx_d0_values.specs.declared.transmission.Transmission.{Transmission}
use Rattle.rx_d0_request.specs.Codes.{first_five, is_faulty}
use Rattle.rx_d0_request.specs.Headers.{is_clean}
use Rattle.rx_d0_request.specs.Request.{body, conditions, groups, transmission_of}
use Rattle.rx_ledger.specs.Fold.{fold_ledger, fold_replies, ledger_after, reply_to}
use Rattle.rx_ledger.specs.Ledger.{Ledger}
use Rattle.rx_ledger.specs.Plan.{Plan}

-- ---- an empty transmission

one_holds : (a b c d e f g : Bool) → (a || (b || (c || (d || (e || (f || (g || (true || false)))))))) ≡ true
one_holds true b c d e f g = refl
one_holds false true c d e f g = refl
one_holds false false true d e f g = refl
one_holds false false false true e f g = refl
one_holds false false false false true f g = refl
one_holds false false false false false true g = refl
one_holds false false false false false false true = refl
one_holds false false false false false false false = refl

faulty : (p q r s t u v w : Code) (a b c d e f g : Bool)
    → is_faulty ((p, a) ∷ (q, b) ∷ (r, c) ∷ (s, d) ∷ (t, e) ∷ (u, f) ∷ (v, g) ∷ (w, true) ∷ []) ≡ true
unfolding is_faulty
faulty p q r s t u v w a b c d e f g = one_holds a b c d e f g

empty_is_faulty : (door : Door) → is_faulty (conditions door []) ≡ true
unfolding is_clean
empty_is_faulty door = faulty _ _ _ _ _ _ _ _ _ _ _ _ _ _ _

empty_is_rejected : (door : Door) → (r : RejectedHeader) × (body door [] ≡ Rejected r)
unfolding body
empty_is_rejected door = (
  record { codes = first_five (conditions door []); groups = max 1 (min (length (groups [])) 4) },
  rw (empty_is_faulty door) refl,
)

module _ (lot : LotParts) (plan : Plan) (door : Door) where
  abbrev empty : Transmission
  empty = transmission_of door []

  empty_body : empty.body ≡ body door []
  unfolding transmission_of
  empty_body = refl

  empty_keeps : (place : ℕ) (L : Ledger) → ledger_after lot plan place empty L ≡ L
  empty_keeps place L =
      let is = empty_is_rejected door in
      rw (empty_body ∙ is.1) refl

-- ---- the reply at a place

no_more : (place : ℕ) → place + 0 ≡ place
no_more place = omega arith

one_more : (place n : ℕ) → place + 1 + n ≡ place + suc n
one_more place n = omega arith

module _ (lot : LotParts) (plan : Plan) where
  pub reply_at : (ts : List Transmission) (place i : ℕ) (t : Transmission) (L : Ledger) → slice_get ts i ≡ Some t
      → slice_get (fold_replies lot plan place ts L) i
      ≡ Some (reply_to lot plan (place + i) t (fold_ledger lot plan place (take i ts) L))
  reply_at [] place i t L is = absurd (let e : None ≡ Some t = is in cc)
  reply_at (u ∷ ts) place zero t L is =
      let same : Some u ≡ Some t = is in
      let one : u ≡ t = cc in
      ap (λ v. Some (reply_to lot plan place v L)) one ∙ ap (λ n. Some (reply_to lot plan n t L)) (sym (no_more place))
  reply_at (u ∷ ts) place (suc i) t L is =
      let next = ledger_after lot plan place u L in
      reply_at ts (place + 1) i t next is
      ∙ ap (λ n. Some (reply_to lot plan n t (fold_ledger lot plan (place + 1) (take i ts) next))) (one_more place i)

  -- after empty records, the reply is that on the ledger itself
  pub reply_past : (door : Door) (n place : ℕ) (t : Transmission) (L : Ledger)
      → slice_get (fold_replies lot plan place (replicate n (transmission_of door []) ++ t ∷ []) L) n
      ≡ Some (reply_to lot plan (place + n) t L)
  reply_past door zero place t L = ap (λ n. Some (reply_to lot plan n t L)) (sym (no_more place))
  reply_past door (suc n) place t L =
      let e = transmission_of door [] in
      ap (λ M. slice_get (fold_replies lot plan (place + 1) (replicate n e ++ t ∷ []) M) n) (empty_keeps lot plan door place L)
      ∙ reply_past door n (place + 1) t L
      ∙ ap (λ m. Some (reply_to lot plan m t L)) (one_more place n)

-- ---- lists of details

pub replicated : {X Y : Type 0} (f : X → Y) (n : ℕ) (e d : X)
    → map f (replicate n e ++ d ∷ []) ≡ replicate n (f e) ++ f d ∷ []
replicated f zero e d = refl
replicated f (suc n) e d = ap (λ ys. f e ∷ ys) (replicated f n e d)

pub last_of : {X : Type 0} (n : ℕ) (e d : X) → slice_get (replicate n e ++ d ∷ []) n ≡ Some d
last_of zero e d = refl
last_of (suc n) e d = last_of n e d
