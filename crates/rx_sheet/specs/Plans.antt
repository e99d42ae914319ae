-- Meaning: the plans of a plans file: an array of tables `plan`, each with the paths of a plan's files (docs/FORMATS.md, "Plans file").
use Rattle.std.specs.Prelude.{ℕ, ◌+◌, List, [], ◌∷◌, codes, length, ◌==◌, if◌then◌else◌, Option, Some, None, Result, Ok, Err, string_bytes}
use Rattle.std.specs.Option.{ok_or, option_and_then, option_map}
use Rattle.toml.specs.Data.{Data, Items, no_items, item, Members, get_member, as_array, as_str, as_table}
use Rattle.rx_sheet.specs.declared.fault.SheetFault.{SheetFault}
use Rattle.rx_sheet.specs.declared.plan_files.PlanFiles.{PlanFiles}
use Rattle.rx_sheet.specs.declared.plan_key.PlanKey.{PlanKey}
use Rattle.rx_sheet.specs.declared.plan_key.PlanKey.TheVariants as key
use Rattle.rx_sheet.specs.declared.plans_fault.PlansFault.{PlansFault}
use Rattle.rx_sheet.specs.declared.plans_fault.PlansFault.TheVariants.{NotToml, NoPlans, NoTable, Missing, Wrong}
use Rattle.rx_text.specs.Results.{◌>>=◌}
use Rattle.rx_sheet.specs.SheetText.{tree_of}

-- a plan as the file names it: its name, and the paths of its files; the last two may be left out
pub record PlanParts : Type 0 where
  pub name : List ℕ
  pub sheet : List ℕ
  pub books : List ℕ
  pub books_out : List ℕ
  pub response : Option (List ℕ)
  pub settlement : Option (List ℕ)

abbrev pub parts_of : PlanFiles → PlanParts
parts_of plan =
    record {
      name = string_bytes plan.name;
      sheet = string_bytes plan.sheet;
      books = string_bytes plan.books;
      books_out = string_bytes plan.books_out;
      response = option_map string_bytes plan.response;
      settlement = option_map string_bytes plan.settlement;
    }

-- how a key of a plan's table is written
unfoldable pub plan_key_name : PlanKey → List ℕ
plan_key_name key.Name = codes "name"
plan_key_name key.Sheet = codes "sheet"
plan_key_name key.Books = codes "books"
plan_key_name key.BooksOut = codes "books_out"
plan_key_name key.Response = codes "response"
plan_key_name key.Settlement = codes "settlement"

-- a text that isn't empty
abbrev pub filled_text : List ℕ → Option (List ℕ)
filled_text text = if length text == 0 then None else Some text

abbrev pub path_in : Data → Option (List ℕ)
path_in value = option_and_then filled_text (as_str value)

-- the text that a value stands for, in the table of the nth plan
abbrev pub path_of : ℕ → PlanKey → Data → Result (List ℕ) PlansFault
path_of n key value = ok_or (path_in value) (Wrong n key)

-- the text at a key, which has to be there
abbrev pub path_at : ℕ → PlanKey → Members → Result (List ℕ) PlansFault
path_at n key table = ok_or (get_member (plan_key_name key) table) (Missing n key) >>= path_of n key

-- the same, where the key may be absent
abbrev pub may_name : ℕ → PlanKey → Option Data → Result (Option (List ℕ)) PlansFault
may_name n key None = Ok None
may_name n key (Some value) = path_of n key value >>= λ path. Ok (Some path)

abbrev pub path_if_there : ℕ → PlanKey → Members → Result (Option (List ℕ)) PlansFault
path_if_there n key table = may_name n key (get_member (plan_key_name key) table)

-- the nth plan, whose keys are looked at in this order
unfoldable pub plan_in : ℕ → Members → Result PlanParts PlansFault
plan_in n table = do
  name ← path_at n key.Name table
  sheet ← path_at n key.Sheet table
  books ← path_at n key.Books table
  books_out ← path_at n key.BooksOut table
  response ← path_if_there n key.Response table
  settlement ← path_if_there n key.Settlement table
  Ok (record {
    name = name;
    sheet = sheet;
    books = books;
    books_out = books_out;
    response = response;
    settlement = settlement;
  })

unfoldable pub plan_of_value : ℕ → Data → Result PlanParts PlansFault
plan_of_value n value = ok_or (as_table value) (NoTable n) >>= plan_in n

-- the plans of an array, the first of which is the nth
unfoldable pub plans_from : ℕ → Items → Result (List PlanParts) PlansFault
plans_from n no_items = Ok []
plans_from n (item value more) =
    plan_of_value n value >>= λ first. plans_from (n + 1) more >>= λ rest. Ok (first ∷ rest)

-- an array that isn't empty
abbrev pub some_items : Items → Option Items
some_items no_items = None
some_items (item value more) = Some (item value more)

-- the plans of a table: those of its array `plan`, which has one at least, in their order
unfoldable pub plans_in : Members → Result (List PlanParts) PlansFault
plans_in table =
    ok_or (option_and_then some_items (option_and_then as_array (get_member (codes "plan") table))) NoPlans >>= plans_from 1

-- the plans of a TOML document, or the first fault; the text may be none
abbrev pub plans_of_tree : Result Members SheetFault → Result (List PlanParts) PlansFault
plans_of_tree (Ok table) = plans_in table
plans_of_tree (Err f) = Err NotToml

-- the plans of a text
unfoldable pub plans_of_text : List ℕ → Result (List PlanParts) PlansFault
plans_of_text text = plans_of_tree (tree_of text)
