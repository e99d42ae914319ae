-- What explanations of one transaction show on a ledger and on one with other names.
use Rattle.std.specs.Prelude.{◌&&◌, reverse}
use Rattle.std.proofs.Common.{◌≡◌, List, [], ◌∷◌, ◌++◌, map, Option, Some, None, refl, sym, ap}
use Rattle.std.proofs.Common.{◌∙◌}
use Rattle.std.specs.Option.{option_map}
use Rattle.std.specs.List.{All, find}
use Rattle.std.specs.Ordering.{is_lt}
use Rattle.std.proofs.lemmas.List.{reverse-append}
use Rattle.std.proofs.lemmas.List.Elements.{All-head, All-tail}
use Rattle.rx_fields.specs.Order.{key_cmp}
use Rattle.rx_fields.specs.declared.key.Key.{Key}
use Rattle.rx_sorted.specs.Ascending.{IsAscending, put}
use Rattle.rx_sorted.proofs.Keys.{put-below}
use Rattle.rx_ledger.specs.Plan.{Plan}
use Rattle.rx_ledger.specs.Rows.{row_key}
use Rattle.rx_ledger.specs.declared.row.Row.{Row}
use Rattle.rx_ledger.proofs.Orders.{key_total}
use Rattle.rx_explain.specs.Traces.{at_cmp, is_payment, is_return, pays_before, returns_after, source_at, source_of}
use Rattle.rx_explain.specs.Traces.{taken_back_at, traced}
use Rattle.rx_explain.specs.declared.at.At.{At}
use Rattle.rx_explain.specs.declared.events.Event.{Event}
use Rattle.rx_explain.specs.Names.{AreNames, Names, key_named, row_named}
use Rattle.rx_explain.specs.Names.{in_order}
use Rattle.rx_explain.proofs.NamesDecided.{key-same}
use Rattle.rx_explain.proofs.NamesFolded.{event_named, map-both}
use Rattle.rx_explain.proofs.NamesOrdered.{find-map}

-- ---- lists

pub map-on : {X Y : Type 0} (f g : X → Y) (xs : List X) → All (λ x. f x ≡ g x) xs → map f xs ≡ map g xs
map-on f g [] same = refl
map-on f g (x ∷ xs) same =
    ap (λ y. y ∷ map f xs) (All-head (λ y. f y ≡ g y) x xs same)
    ∙ ap (λ ys. g x ∷ ys) (map-on f g xs (All-tail (λ y. f y ≡ g y) x xs same))

pub map-map : {X Y Z : Type 0} (g : Y → Z) (f : X → Y) (xs : List X) → map g (map f xs) ≡ map (λ x. g (f x)) xs
map-map g f [] = refl
map-map g f (x ∷ xs) = ap (λ ys. g (f x) ∷ ys) (map-map g f xs)

pub map-itself : {X : Type 0} (f : X → X) (xs : List X) → All (λ x. f x ≡ x) xs → map f xs ≡ xs
map-itself f [] same = refl
map-itself f (x ∷ xs) same =
    ap (λ y. y ∷ map f xs) (All-head (λ y. f y ≡ y) x xs same)
    ∙ ap (λ ys. x ∷ ys) (map-itself f xs (All-tail (λ y. f y ≡ y) x xs same))

reverse-map : {X Y : Type 0} (f : X → Y) (xs : List X) → reverse (map f xs) ≡ map f (reverse xs)
reverse-map f [] = refl
reverse-map f (x ∷ xs) =
    reverse-append (f x ∷ []) (map f xs) ∙ ap (λ ys. ys ++ f x ∷ []) (reverse-map f xs)
    ∙ sym (map-both f (reverse xs) (x ∷ [])) ∙ ap (map f) (sym (reverse-append (x ∷ []) xs))

pub in_order-itself : (rows : List Row) → IsAscending key_cmp row_key rows → in_order key_cmp row_key rows ≡ rows
in_order-itself [] up = refl
in_order-itself (r ∷ rows) up =
    ap (λ rs. put key_cmp row_key rs r) (in_order-itself rows up.1) ∙ put-below key_cmp key_total row_key r rows up.0

mapped-twice : {X Y Z : Type 0} (g : Y → Z) (f : X → Y) (h : X → Z) → ((x : X) → g (f x) ≡ h x) → (o : Option X)
    → option_map g (option_map f o) ≡ option_map h o
mapped-twice g f h same None = refl
mapped-twice g f h same (Some x) = ap Some (same x)

-- ---- a claim's source and end

module _ (plan : Plan) (n : Names) (are : AreNames n) (events : List Event) (at : At) where
  pays-named : (key : Key) (e : Event) → pays_before (key_named n key) at (event_named n e) ≡ pays_before key at e
  pays-named key e = ap (λ b. is_payment e.change && b && is_lt (at_cmp e.at at)) (key-same plan n are e.key key)

  returns-named : (key : Key) (e : Event) → returns_after (key_named n key) at (event_named n e) ≡ returns_after key at e
  returns-named key e = ap (λ b. is_return e.change && b && is_lt (at_cmp at e.at)) (key-same plan n are e.key key)

  source-named : (key : Key) → source_of (map (event_named n) events) (key_named n key) at ≡ source_of events key at
  source-named key =
      ap (λ es. source_at (option_map (λ (e : Event). e.at) (find (pays_before (key_named n key) at) es)))
      (reverse-map (event_named n) events)
      ∙ ap (λ o. source_at (option_map (λ (e : Event). e.at) o))
      (find-map (event_named n) (pays_before (key_named n key) at) (pays_before key at) (pays-named key) (reverse events))
      ∙ ap source_at (mapped-twice (λ (e : Event). e.at) (event_named n) (λ e. e.at) (λ e. refl)
      (find (pays_before key at) (reverse events)))

  end-named : (key : Key) → taken_back_at (map (event_named n) events) (key_named n key) at ≡ taken_back_at events key at
  end-named key =
      ap (option_map (λ (e : Event). e.at))
      (find-map (event_named n) (returns_after (key_named n key) at) (returns_after key at) (returns-named key) events)
      ∙ mapped-twice (λ (e : Event). e.at) (event_named n) (λ e. e.at) (λ e. refl) (find (returns_after key at) events)

  abbrev pub events' : List Event
  events' = map (event_named n) events

  -- a claim that keeps its names keeps its source and its end
  pub traced-kept : (r : Row) → row_named n r ≡ r → traced events' at r ≡ traced events at r
  traced-kept r kept =
      let key : key_named n r.key ≡ r.key = ap (λ s. s.key) kept in
      let source = ap (λ k. source_of events' k at) (sym key) ∙ source-named r.key in
      let end = ap (λ k. taken_back_at events' k at) (sym key) ∙ end-named r.key in
      λ i. record { row = r; source = source i; taken_back = end i }
