-- A draft of a line with one option more.
use Rattle.std.proofs.Common.{◌≡◌, subst}
use Rattle.clap.specs.Words.{App, Rule, with_rule}
use Rattle.rx_cli.specs.Syntax.{Draws}
use Rattle.rx_cli.specs.declared.draft.Draft.{Draft}

-- the option may be said in another way
pub draws_as : (app : App) (draft : Draft) {said rule : Rule} → said ≡ rule → Draws (with_rule app said) draft
    → Draws (with_rule app rule) draft
draws_as app draft same = subst (λ r. Draws (with_rule app r) draft) same

-- and so may the line
pub draws_line : (draft : Draft) {said app : App} → said ≡ app → Draws said draft → Draws app draft
draws_line draft same = subst (λ a. Draws a draft) same
