-- What a tier of each kind says.
use Rattle.std.proofs.Common.{◌≡◌, Some, None, ap}
use Rattle.std.specs.Option.{option_map}
use Rattle.toml.specs.Data.{Data, string, integer, float, boolean, datetime, array, table, Members, as_table}
use Rattle.rx_ledger.specs.declared.drug.Share.TheVariants.{Percent}
use Rattle.rx_sheet.specs.Drugs.{percent_in, share_in}

pub share_in_table : (value : Data) (tier : Members) → as_table value ≡ Some tier
    → share_in value ≡ option_map Percent (percent_in tier)
share_in_table (table ms) tier h =
    let same : Some ms ≡ Some tier = h in
    let is : ms ≡ tier = cc in
    ap (λ (t : Members). option_map Percent (percent_in t)) is
share_in_table (string s) tier h = absurd (let bad : None ≡ Some tier = h in cc)
share_in_table (integer z) tier h = absurd (let bad : None ≡ Some tier = h in cc)
share_in_table (float x) tier h = absurd (let bad : None ≡ Some tier = h in cc)
share_in_table (boolean b) tier h = absurd (let bad : None ≡ Some tier = h in cc)
share_in_table (datetime d) tier h = absurd (let bad : None ≡ Some tier = h in cc)
share_in_table (array ds) tier h = absurd (let bad : None ≡ Some tier = h in cc)
