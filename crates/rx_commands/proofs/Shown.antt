-- Of what a pharmacy may see of explanations: those that there are, with their texts.
use Rattle.std.specs.Prelude.{◌||◌, is_some}
use Rattle.std.proofs.Common.{◌≡◌, ℕ, List, [], ◌∷◌, ◌++◌, Bool, true, false, cond, Option, Some, None, refl, sym, ap, subst, ◌∙◌}
use Rattle.std.specs.List.{AllZip, filter, flat_map, list_any}
use Rattle.rx_batch.specs.declared.batch.Batch.{Batch}
use Rattle.rx_commands.specs.Explaining.{compared_in, is_other, one_text, option_is_other, option_text}
use Rattle.rx_commands.specs.ForProvider.{IsSeenBy, IsSeenIf}
use Rattle.rx_commands.specs.declared.manner.Manner.{Manner}
use Rattle.rx_commands.specs.declared.retraced.Retraced.{Retraced}
use Rattle.rx_d0_values.specs.declared.transmission.Transmission.{Transmission}
use Rattle.rx_explain.specs.Explained.{IsExplained}
use Rattle.rx_explain.specs.Seen.{IsSeen}
use Rattle.rx_explain.specs.Spots.{Spot, spot_at}
use Rattle.rx_explain.specs.declared.at.At.{At}
use Rattle.rx_explain.specs.declared.explanation.Explanation.{Explanation}
use Rattle.rx_commands.proofs.NamesFound.{is_own_at, is_own_spot}
use Rattle.rx_fields.specs.Numbered.{LotParts}
use Rattle.rx_ledger.specs.Ledger.{Ledger}
use Rattle.rx_ledger.specs.Members.{is_same}
use Rattle.rx_ledger.specs.Plan.{Plan}

-- ---- those that there are

abbrev pub somes : {X : Type 0} → List (Option X) → List X
somes [] = []
somes (None ∷ os) = somes os
somes (Some x ∷ os) = x ∷ somes os

abbrev pub is_any : {X : Type 0} → List X → Bool
is_any [] = false
is_any (x ∷ xs) = true

pub any-some : {X : Type 0} (os : List (Option X)) → list_any is_some os ≡ is_any (somes os)
any-some [] = refl
any-some (None ∷ os) = any-some os
any-some (Some x ∷ os) = refl

module _ (m : Manner) (r : Retraced) (file : Option Batch) where
  abbrev pub text : Explanation → List ℕ
  text x = one_text m r x (compared_in r file x.at.place)

  abbrev pub other : Explanation → Bool
  other x = is_other (compared_in r file x.at.place)

  pub all-texts : (os : List (Option Explanation)) → flat_map (option_text m r file) os ≡ flat_map text (somes os)
  all-texts [] = refl
  all-texts (None ∷ os) = all-texts os
  all-texts (Some x ∷ os) = ap (λ ts. text x ++ ts) (all-texts os)

  pub any-other : (os : List (Option Explanation)) → list_any (option_is_other r file) os ≡ list_any other (somes os)
  any-other [] = refl
  any-other (None ∷ os) = any-other os
  any-other (Some x ∷ os) = ap (λ b. other x || b) (any-other os)

-- ---- which those are

module _ (own : List ℕ) (lot : LotParts) (plan : Plan) (ts : List Transmission) (L : Ledger) where
  -- what the pharmacy may see of the explanation of its transaction at a place
  pub record IsShown (at : At) (y : Explanation) : Type 0 where
    pub spot : Spot
    pub there : spot_at ts at ≡ Some spot
    pub mine : is_same spot.heard.provider own ≡ true
    pub whole : Explanation
    pub explained : IsExplained lot plan ts L at (Some spot) (Some whole)
    pub seen : IsSeen whole y

  abbrev AreShown : List At → List (Option Explanation) → Type 0
  AreShown ats ys = AllZip IsShown (filter (is_own_at own ts) ats) (somes ys)

  seen-own : (at : At) (ats : List At) (s : Spot) (x : Explanation) (y : Option Explanation) (ys : List (Option Explanation))
      → spot_at ts at ≡ Some s → is_same s.heard.provider own ≡ true → IsExplained lot plan ts L at (Some s) (Some x)
      → IsSeenIf true x y → AreShown ats ys → AreShown (at ∷ ats) (y ∷ ys)
  seen-own at ats s x None ys there mine explained seen rest = absurd seen
  seen-own at ats s x (Some y) ys there mine explained seen rest =
      let passes : is_own_at own ts at ≡ true = ap (is_own_spot own) there ∙ mine in
      let here : IsShown at y =
      record { spot = s; there = there; mine = mine; whole = x; explained = explained; seen = seen } in
      subst (λ b. AllZip IsShown (cond b (at ∷ filter (is_own_at own ts) ats) (filter (is_own_at own ts) ats)) (y ∷ somes ys))
      (sym passes) (here, rest)

  seen-not : (at : At) (ats : List At) (y : Option Explanation) (ys : List (Option Explanation))
      → is_own_at own ts at ≡ false → y ≡ None → AreShown ats ys → AreShown (at ∷ ats) (y ∷ ys)
  seen-not at ats None ys fails none rest =
      subst (λ b. AllZip IsShown (cond b (at ∷ filter (is_own_at own ts) ats) (filter (is_own_at own ts) ats)) (somes ys))
      (sym fails) rest
  seen-not at ats (Some y) ys fails none rest = absurd (let e : Some y ≡ None = none in cc)

  by-owner : (at : At) (ats : List At) (s : Spot) (x : Explanation) (y : Option Explanation) (ys : List (Option Explanation)) (b : Bool)
      → is_same s.heard.provider own ≡ b → spot_at ts at ≡ Some s → IsExplained lot plan ts L at (Some s) (Some x)
      → IsSeenIf b x y → AreShown ats ys → AreShown (at ∷ ats) (y ∷ ys)
  by-owner at ats s x y ys true mine there explained seen rest = seen-own at ats s x y ys there mine explained seen rest
  by-owner at ats s x y ys false other there explained seen rest =
      seen-not at ats y ys (ap (is_own_spot own) there ∙ other) seen rest

  by-spot : (at : At) (ats : List At) (o : Option Spot) (x : Option Explanation) (y : Option Explanation) (ys : List (Option Explanation))
      → spot_at ts at ≡ o → IsExplained lot plan ts L at o x → IsSeenBy own x y → AreShown ats ys → AreShown (at ∷ ats) (y ∷ ys)
  by-spot at ats None None y ys there explained seen rest =
      seen-not at ats y ys (ap (is_own_spot own) there) seen rest
  by-spot at ats None (Some x) y ys there explained seen rest = absurd explained
  by-spot at ats (Some s) None y ys there explained seen rest = absurd explained
  by-spot at ats (Some s) (Some x) y ys there explained seen rest =
      by-owner at ats s x y ys (is_same s.heard.provider own) refl there explained
      (subst (λ p. IsSeenIf (is_same p own) x y) explained.provider_is seen) rest

  pub are-shown : (ats : List At) (xs ys : List (Option Explanation))
      → AllZip (λ at x. IsExplained lot plan ts L at (spot_at ts at) x) ats xs → AllZip (IsSeenBy own) xs ys → AreShown ats ys
  are-shown [] [] [] explained seen = tt
  are-shown [] [] (y ∷ ys) explained seen = absurd seen
  are-shown [] (x ∷ xs) ys explained seen = absurd explained
  are-shown (at ∷ ats) [] ys explained seen = absurd explained
  are-shown (at ∷ ats) (x ∷ xs) [] explained seen = absurd seen
  are-shown (at ∷ ats) (x ∷ xs) (y ∷ ys) explained seen =
      by-spot at ats (spot_at ts at) x y ys refl explained.0 seen.0 (are-shown ats xs ys explained.1 seen.1)
