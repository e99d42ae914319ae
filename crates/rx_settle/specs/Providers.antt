-- Meaning: the pharmacies of replies.
use Rattle.std.specs.Prelude.{ℕ, Bool, not, List, [], ◌∷◌, nat_eq}
use Rattle.std.specs.List.{filter}
use Rattle.std.specs.Option.{unwrap_or}
use Rattle.std.specs.Result.{result_ok}
use Rattle.std.specs.Cmp.Lexicographic.{pointwise}
use Rattle.rx_fields.specs.Text.{id_of}
use Rattle.rx_d0_values.specs.declared.reply.Reply.{Reply}

-- the provider that a field names: its bytes without trailing blanks where that is an id, else empty
abbrev pub named : List ℕ → List ℕ
named field = unwrap_or (result_ok (id_of 15 field)) []

-- the provider of a reply
abbrev pub provider_of : Reply → List ℕ
provider_of r = named r.echo.provider

-- the same text
abbrev pub is_same : List ℕ → List ℕ → Bool
is_same a b = pointwise nat_eq a b

-- the texts other than this one
abbrev pub without : List ℕ → List (List ℕ) → List (List ℕ)
without a texts = filter (λ b. not (is_same a b)) texts

-- the providers in order of first appearance, each once
abbrev pub providers : List Reply → List (List ℕ)
providers [] = []
providers (r ∷ rs) = provider_of r ∷ without (provider_of r) (providers rs)

-- the replies to a provider
abbrev pub replies_to : List ℕ → List Reply → List Reply
replies_to provider replies = filter (λ r. is_same provider (provider_of r)) replies
