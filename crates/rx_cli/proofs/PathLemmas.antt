-- A list of paths and the rest after its first.
use Rattle.std.proofs.Common.{◌≡◌, ◌<◌, ◌-◌, Bool, ◌||◌, List, [], ◌∷◌, ◌++◌, length, map}
use Rattle.std.proofs.Common.{take, drop, ap, refl, sym, arith, true, false, ◌∙◌}
use Rattle.std.proofs.Common.{Option, Some}
use Rattle.std.proofs.lemmas.List.{take_all}
use Rattle.std.specs.List.{list_any, slice_index_or}
use Rattle.std.specs.Str.{bytes_eq}
use Rattle.std.specs.Borrow.{Bor}
use Rattle.clap.specs.Words.{Text}
use Rattle.clap.proofs.WalkLemmas.{list_any-map}
use Rattle.rx_cli.specs.Paths.{has_twice, path_of}

twice_after : (p : Bor Text) (ps rest : List (Bor Text)) → rest ≡ ps
    → has_twice (map (λ x. x.now) (p ∷ ps)) ≡ (list_any (λ y. bytes_eq y.now p.now) rest || has_twice (map (λ x. x.now) rest))
twice_after p ps rest is = rw is (ap (λ b. b || has_twice (map (λ x. x.now) ps))
    (sym (list_any-map (λ t. bytes_eq t p.now) (λ x. x.now) ps)))

-- the paths after the first
abbrev pub after_first : List (Bor Text) → List (Bor Text)
after_first ps = take (length ps - 1) (drop 1 ps)

-- a text stands twice where the first path is among the rest, or where one stands twice in the rest
has_twice-first : (ps : List (Bor Text)) (d : Bor Text) → 0 < length ps
    → has_twice (map (λ x. x.now) ps)
    ≡ (list_any (λ y. bytes_eq y.now (slice_index_or ps 0 d).now) (after_first ps) || has_twice (map (λ x. x.now) (after_first ps)))
has_twice-first [] d lt = absurd (omega arith)
has_twice-first (p ∷ ps) d lt = twice_after p ps (take (length (p ∷ ps) - 1) ps) (take_all (length (p ∷ ps) - 1) ps (omega arith))

pub found_in_rest : (ps : List (Bor Text)) (d : Bor Text) (found : Bool) → 0 < length ps
    → found ≡ list_any (λ y. bytes_eq y.now (slice_index_or ps 0 d).now) (after_first ps) → found ≡ true
    → found ≡ has_twice (map (λ x. x.now) ps)
found_in_rest ps d found some is is_true =
    is_true ∙ sym (has_twice-first ps d some ∙ ap (λ b. b || has_twice (map (λ x. x.now) (after_first ps))) (sym is ∙ is_true))

pub decided_by_rest : (ps : List (Bor Text)) (d : Bor Text) (found rest : Bool) → 0 < length ps
    → found ≡ list_any (λ y. bytes_eq y.now (slice_index_or ps 0 d).now) (after_first ps) → found ≡ false
    → rest ≡ has_twice (map (λ x. x.now) (after_first ps)) → rest ≡ has_twice (map (λ x. x.now) ps)
decided_by_rest ps d found rest some is none by_rest =
    by_rest ∙ sym (has_twice-first ps d some ∙ ap (λ b. b || has_twice (map (λ x. x.now) (after_first ps))) (sym is ∙ none))

-- a log before the files stands twice where it is among them
pub log_found : (log : Option (Bor Text)) (path : Bor Text) (ps : List (Bor Text)) (files : List Text) (found : Bool)
    → log ≡ Some path → map (λ x. x.now) ps ≡ files → found ≡ list_any (λ y. bytes_eq y.now path.now) ps → found ≡ true
    → found ≡ has_twice (path_of log ++ files)
log_found log path ps files found is same by is_true = rw (is, ← same) (is_true
    ∙ sym (twice_after path ps ps refl ∙ ap (λ b. b || has_twice (map (λ x. x.now) ps)) (sym by ∙ is_true)))

-- and where it isn't, the files decide
pub log_apart : (log : Option (Bor Text)) (path : Bor Text) (ps : List (Bor Text)) (files : List Text) (found rest : Bool)
    → log ≡ Some path → map (λ x. x.now) ps ≡ files → found ≡ list_any (λ y. bytes_eq y.now path.now) ps → found ≡ false
    → rest ≡ has_twice (map (λ x. x.now) ps) → rest ≡ has_twice (path_of log ++ files)
log_apart log path ps files found rest is same by none by_rest = rw (is, ← same) (by_rest
    ∙ sym (twice_after path ps ps refl ∙ ap (λ b. b || has_twice (map (λ x. x.now) ps)) (sym by ∙ none)))
