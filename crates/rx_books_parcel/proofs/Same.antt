-- Whether two footprints or parcels are one, where their parts are compared one after another.
use Rattle.std.proofs.Common.{◌≡◌, Bool, true, false, Decides, sym, ap, ◌∙◌}
use Rattle.std.proofs.lemmas.Bool.Decides.{Decides-like}
use Rattle.rx_books_parcel.specs.Footprints.{FootprintParts}
use Rattle.rx_books_parcel.specs.Parcels.{ParcelParts}

-- two footprints whose keys were compared first, and then their families
pub same_footprint : (a b : FootprintParts) (keys families : Bool) → Decides keys (a.keys ≡ b.keys) → keys ≡ true
    → Decides families (a.families ≡ b.families) → Decides families (a ≡ b)
same_footprint a b keys families same holds decides =
    let k = same.0 holds in
    Decides-like families (λ f i. record { keys = k i; families = f i }) (λ e. ap (λ (F : FootprintParts). F.families) e)
    decides

pub other_footprint : (a b : FootprintParts) (keys : Bool) → Decides keys (a.keys ≡ b.keys) → keys ≡ false
    → Decides keys (a ≡ b)
other_footprint a b keys same fails = (
  λ t. absurd (let e : false ≡ true = sym fails ∙ t in cc),
  λ e. same.1 (ap (λ (F : FootprintParts). F.keys) e),
)

-- two parcels whose periods and keys' books were compared first, and then their families' books
abbrev SameFront : ParcelParts → ParcelParts → Type 0
SameFront a b = (a.period ≡ b.period) × (a.keys ≡ b.keys)

pub same_parcel : (a b : ParcelParts) (front families : Bool) → Decides front (SameFront a b) → front ≡ true
    → Decides families (a.families ≡ b.families) → Decides families (a ≡ b)
same_parcel a b front families same holds decides =
    let h = same.0 holds in
    Decides-like families (λ f i. record { period = h.0 i; keys = h.1 i; families = f i })
    (λ e. ap (λ (p : ParcelParts). p.families) e) decides

pub other_parcel : (a b : ParcelParts) (front : Bool) → Decides front (SameFront a b) → front ≡ false
    → Decides front (a ≡ b)
other_parcel a b front same fails = (
  λ t. absurd (let e : false ≡ true = sym fails ∙ t in cc),
  λ e. same.1 (ap (λ (p : ParcelParts). p.period) e, ap (λ (p : ParcelParts). p.keys) e),
)
