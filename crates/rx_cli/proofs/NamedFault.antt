-- A command of a name.
use Rattle.std.proofs.Common.{◌≡◌, ◌∙◌, Bool, true, false, List, codes, subst, sym}
use Rattle.std.specs.Str.{bytes_eq}
use Rattle.std.specs.Borrow.{Bor}
use Rattle.clap.specs.Words.{Row, Text}
use Rattle.rx_cli.specs.Asked.{HasText, HoldsAdjudicate, HoldsAge, HoldsCheck, HoldsCompare, HoldsExcerpt, HoldsExplain}
use Rattle.rx_cli.specs.Asked.{HoldsFamily, HoldsFault, HoldsInputs, HoldsJoin, HoldsMembers, HoldsNamed, HoldsReport}
use Rattle.rx_cli.specs.Asked.{HoldsRoute, HoldsRunApart, HoldsSettle, HoldsShow, HoldsVerify, NoneHolds}
use Rattle.rx_cli.specs.declared.asked.Command.TheVariants.{Run, Show, Plan, Sample, Check, Explain, Verify, Report, Replies}
use Rattle.rx_cli.specs.declared.asked.Command.TheVariants.{Adjudicate, Age, Compare, Excerpt, Fault, Join, Members, Route, Settle}
use Rattle.rx_cli.specs.declared.asked.Command.TheVariants.{ShowFamily}

-- the first, or the other
abbrev pub one_of : Bool → Type 0 → Type 0 → Type 0
one_of true one other = one
one_of false one other = other

abbrev pub HasReplies : List Row → Bor Text → Type 0
HasReplies rows path = HasText rows (codes "response") path.now

-- no words of the command of this name are held
abbrev pub NoneOf : Text → List Row → Type 0
NoneOf name rows =
    one_of (bytes_eq name (codes "run")) (NoneHolds (HoldsRunApart rows)) (
    one_of (bytes_eq name (codes "show")) (NoneHolds (HoldsShow rows)) (
    one_of (bytes_eq name (codes "plan")) (NoneHolds (HoldsInputs rows)) (
    one_of (bytes_eq name (codes "sample")) ⊥ (
    one_of (bytes_eq name (codes "check")) (NoneHolds (HoldsCheck rows)) (
    one_of (bytes_eq name (codes "explain")) (NoneHolds (HoldsExplain rows)) (
    one_of (bytes_eq name (codes "excerpt")) (NoneHolds (HoldsExcerpt rows)) (
    one_of (bytes_eq name (codes "verify")) (NoneHolds (HoldsVerify rows)) (
    one_of (bytes_eq name (codes "report")) (NoneHolds (HoldsReport rows)) (
    one_of (bytes_eq name (codes "adjudicate")) (NoneHolds (HoldsAdjudicate rows)) (
    one_of (bytes_eq name (codes "fault")) (NoneHolds (HoldsFault rows)) (
    one_of (bytes_eq name (codes "members")) (NoneHolds (HoldsMembers rows)) (
    one_of (bytes_eq name (codes "age")) (NoneHolds (HoldsAge rows)) (
    one_of (bytes_eq name (codes "family")) (NoneHolds (HoldsFamily rows)) (
    one_of (bytes_eq name (codes "route")) (NoneHolds (HoldsRoute rows)) (
    one_of (bytes_eq name (codes "join")) (NoneHolds (HoldsJoin rows)) (
    one_of (bytes_eq name (codes "replies")) (NoneHolds (HasReplies rows)) (
    one_of (bytes_eq name (codes "compare")) (NoneHolds (HoldsCompare rows)) (
    one_of (bytes_eq name (codes "settle")) (NoneHolds (HoldsSettle rows)) ⊥))))))))))))))))))

-- where none of the words of the command of this name are held, no command is of this name
pub none_named : (name said : Text) (rows : List Row) → name ≡ said → NoneOf said rows → NoneHolds (HoldsNamed name rows)
none_named name said rows is none (Run r) h = (subst (λ n. NoneOf n rows) (sym is ∙ h.0) none) r h.1
none_named name said rows is none (Show s) h = (subst (λ n. NoneOf n rows) (sym is ∙ h.0) none) s h.1
none_named name said rows is none (Plan i) h = (subst (λ n. NoneOf n rows) (sym is ∙ h.0) none) i h.1
none_named name said rows is none Sample h = subst (λ n. NoneOf n rows) (sym is ∙ h) none
none_named name said rows is none (Check k) h = (subst (λ n. NoneOf n rows) (sym is ∙ h.0) none) k h.1
none_named name said rows is none (Explain e) h = (subst (λ n. NoneOf n rows) (sym is ∙ h.0) none) e h.1
none_named name said rows is none (Excerpt e) h = (subst (λ n. NoneOf n rows) (sym is ∙ h.0) none) e h.1
none_named name said rows is none (Verify v) h = (subst (λ n. NoneOf n rows) (sym is ∙ h.0) none) v h.1
none_named name said rows is none (Report r) h = (subst (λ n. NoneOf n rows) (sym is ∙ h.0) none) r h.1
none_named name said rows is none (Adjudicate a) h = (subst (λ n. NoneOf n rows) (sym is ∙ h.0) none) a h.1
none_named name said rows is none (Fault f) h = (subst (λ n. NoneOf n rows) (sym is ∙ h.0) none) f h.1
none_named name said rows is none (Members m) h = (subst (λ n. NoneOf n rows) (sym is ∙ h.0) none) m h.1
none_named name said rows is none (Age a) h = (subst (λ n. NoneOf n rows) (sym is ∙ h.0) none) a h.1
none_named name said rows is none (ShowFamily f) h = (subst (λ n. NoneOf n rows) (sym is ∙ h.0) none) f h.1
none_named name said rows is none (Route r) h = (subst (λ n. NoneOf n rows) (sym is ∙ h.0) none) r h.1
none_named name said rows is none (Join j) h = (subst (λ n. NoneOf n rows) (sym is ∙ h.0) none) j h.1
none_named name said rows is none (Replies p) h = (subst (λ n. NoneOf n rows) (sym is ∙ h.0) none) p h.1
none_named name said rows is none (Compare c) h = (subst (λ n. NoneOf n rows) (sym is ∙ h.0) none) c h.1
none_named name said rows is none (Settle s) h = (subst (λ n. NoneOf n rows) (sym is ∙ h.0) none) s h.1
