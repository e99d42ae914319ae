-- Meaning: the members of a JSON object that is put together one after another.
use Rattle.std.specs.Prelude.{◌≡◌, ℕ, List, false}
use Rattle.serde_json.specs.Data.{Data, Members, object, put}
use Rattle.serde_json.specs.View.{members_view}
use Rattle.rx_run_log.specs.declared.members.Members.{Members as Put}

abbrev pub members_in : Put → Members
members_in m = members_view m.map.entries

-- where nothing is missing afterwards, nothing was before, and it has this member more
abbrev pub Puts : Put → Put → List ℕ → Data → Type 0
Puts old new name d = new.lacks ≡ false → (old.lacks ≡ false) × (members_in new ≡ put name d (members_in old))

-- where nothing is missing, the object is this
abbrev pub Has : Put → Data → Type 0
Has m d = m.lacks ≡ false → object (members_in m) ≡ d
