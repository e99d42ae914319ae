-- Plumbing: what a command holds of the words' matches: the subcommand's name and its options' values.
use Rattle.std.specs.Prelude.{◌≡◌, ◌≤◌, ◌⊎◌, ℕ, Bool, true, false, not, ◌&&◌, ◌==◌, nat_le, List, length, Option, Some, None, codes}
use Rattle.std.specs.Prelude.{map, option_map}
use Rattle.std.specs.List.{list_all}
use Rattle.std.specs.Option.{option_map_or}
use Rattle.rx_text.specs.Bytes.{all_digits, cut}
use Rattle.std.specs.Str.{bytes_eq}
use Rattle.std.specs.Borrow.{Bor}
use Rattle.std.specs.Str.Parse.{IsNumeral, digits_value}
use Rattle.clap.specs.Words.{Row, Text, all_of, first_of}
use Rattle.rx_io.specs.declared.files.Inputs.{Inputs}
use Rattle.rx_io.specs.declared.files.Outputs.{Outputs}
use Rattle.rx_cli.specs.Paths.{has_twice, paths_of}
use Rattle.rx_cli.specs.declared.asked.Command.{Command}
use Rattle.rx_cli.specs.declared.asked.Command.TheVariants.{Run, Show, Plan, Sample, Check, Explain, Verify, Report, Replies}
use Rattle.rx_cli.specs.declared.asked.Command.TheVariants.{Adjudicate, Age, Compare, Excerpt, Fault, Join, Members, Route, Settle}
use Rattle.rx_cli.specs.declared.asked.Command.TheVariants.{ShowFamily}
use Rattle.rx_cli.specs.declared.dispute.ExcerptWords.{ExcerptWords}
use Rattle.rx_cli.specs.declared.given.CheckWords.{CheckWords}
use Rattle.rx_cli.specs.declared.given.CheckWords.TheVariants as check
use Rattle.rx_cli.specs.declared.given.ComparedFiles.{ComparedFiles}
use Rattle.rx_cli.specs.declared.given.ComparedFiles.TheVariants as verified
use Rattle.rx_cli.specs.declared.given.GivenInputs.{GivenInputs}
use Rattle.rx_cli.specs.declared.given.GivenInputs.TheVariants as given
use Rattle.rx_cli.specs.declared.people.AdjudicateWords.{AdjudicateWords}
use Rattle.rx_cli.specs.declared.people.FaultNumbers.{FaultNumbers}
use Rattle.rx_cli.specs.declared.asked.RunWords.{RunWords}
use Rattle.rx_cli.specs.declared.compare_options.CompareForm.{CompareForm}
use Rattle.rx_cli.specs.declared.compare_options.CompareForm.TheVariants as compared
use Rattle.rx_cli.specs.declared.compare_options.CompareWords.{CompareWords}
use Rattle.rx_cli.specs.declared.asked.ShowWords.{ShowWords}
use Rattle.rx_cli.specs.declared.retrace.Asked.{Asked}
use Rattle.rx_cli.specs.declared.retrace.Asked.TheVariants.{Record, Number, Rx}
use Rattle.rx_cli.specs.declared.retrace.ExplainWords.{ExplainWords}
use Rattle.rx_cli.specs.declared.retrace.Form.{Form}
use Rattle.rx_cli.specs.declared.retrace.Form.TheVariants.{Columns, Tsv, Json, Jsonl, Html, HtmlDir}
use Rattle.rx_cli.specs.declared.retrace.Portion.{Portion}
use Rattle.rx_cli.specs.declared.retrace.Portion.TheVariants.{Whole, Provider, Family, ForProvider}
use Rattle.rx_cli.specs.declared.retrace.ReportWords.{ReportWords}
use Rattle.rx_cli.specs.declared.retrace.VerifyWords.{VerifyWords}
use Rattle.rx_cli.specs.declared.settle_options.SettleWords.{SettleWords}
use Rattle.rx_cli.specs.declared.switch.JoinWords.{JoinWords}
use Rattle.rx_cli.specs.declared.switch.RouteWords.{RouteWords}
use Rattle.rx_cli.specs.declared.switch.SwitchFiles.{SwitchFiles}
use Rattle.rx_cli.specs.declared.upkeep.AgeWords.{AgeWords}
use Rattle.rx_cli.specs.declared.upkeep.FamilyForm.{FamilyForm}
use Rattle.rx_cli.specs.declared.upkeep.FamilyForm.TheVariants as family
use Rattle.rx_cli.specs.declared.upkeep.FamilyWords.{FamilyWords}
use Rattle.rx_cli.specs.declared.upkeep.MembersWords.{MembersWords}
use Rattle.rx_cli.specs.declared.upkeep.Origin.{Origin}
use Rattle.rx_cli.specs.declared.upkeep.Origin.TheVariants.{Books, Period}
use Rattle.rx_cli.specs.declared.upkeep.Percent.{Percent}
use Rattle.rx_cli.specs.declared.upkeep.Percent.TheVariants as percent

-- the option's value is this text
abbrev pub HasText : List Row → Text → Text → Type 0
HasText rows name text = first_of name rows ≡ Some text

-- the option's value is this text, or it doesn't stand and there is none
abbrev pub MayHaveText : List Row → Text → Option (Bor Text) → Type 0
MayHaveText rows name text = option_map (λ t. t.now) text ≡ first_of name rows

-- the option doesn't stand
abbrev pub IsAbsent : List Row → Text → Type 0
IsAbsent rows name = first_of name rows ≡ None

-- the flag stands
abbrev pub is_set : Text → List Row → Bool
is_set name rows = option_map_or (λ text. bytes_eq text (codes "true")) (first_of name rows) false

-- the option's value is the number, 0 to 65535, in digits only
abbrev pub HasNumber : List Row → Text → ℕ → Type 0
HasNumber rows name n = (text : Text) × HasText rows name text × IsNumeral 10 text × (n ≡ digits_value 10 text)
    × (n ≤ 65535)

-- the option's number, or another where the option doesn't stand
abbrev pub HasNumberOr : List Row → Text → ℕ → ℕ → Type 0
HasNumberOr rows name other n = (IsAbsent rows name × (n ≡ other)) ⊎ HasNumber rows name n

-- the option's number, 0 to 65535, or it doesn't stand and there is none
abbrev pub MayHaveNumber : List Row → Text → Option ℕ → Type 0
MayHaveNumber rows name None = IsAbsent rows name
MayHaveNumber rows name (Some n) = HasNumber rows name n

-- the value is a number below 2 ^ 64, in digits only
abbrev pub HasLongNumber : List Row → Text → ℕ → Type 0
HasLongNumber rows name n = (text : Text) × HasText rows name text × IsNumeral 10 text × (n ≡ digits_value 10 text)
    × (n ≤ 18446744073709551615)

-- the paths of the input files, and of the output files
abbrev pub InputPaths : Type 0
InputPaths = Inputs (Bor Text) (Bor Text) (Bor Text)

abbrev pub OutputPaths : Type 0
OutputPaths = Outputs (Bor Text) (Bor Text) (Bor Text)

-- the input files are the values of their options
abbrev pub HoldsInputs : List Row → InputPaths → Type 0
HoldsInputs rows i = HasText rows (codes "sheet") i.sheet.now × HasText rows (codes "books") i.books.now
    × HasText rows (codes "batch") i.batch.now

-- the output files are the values of their options
abbrev pub HoldsOutputs : List Row → OutputPaths → Type 0
HoldsOutputs rows o = HasText rows (codes "response") o.response.now × HasText rows (codes "books-out") o.books.now
    × HasText rows (codes "settlement") o.settlement.now

-- the inputs are the values of their options: sheet, books and batch and no plans file, or only plans file and batch
abbrev pub HoldsGiven : List Row → GivenInputs → Type 0
HoldsGiven rows (given.OnePlan i) = HoldsInputs rows i × IsAbsent rows (codes "plans")
HoldsGiven rows (given.Plans plans batch) = HasText rows (codes "plans") plans.now × HasText rows (codes "batch") batch.now
    × IsAbsent rows (codes "sheet") × IsAbsent rows (codes "books")

-- the inputs and the outputs are: with a plans file, which names the end books, no `--books-out`
abbrev pub HoldsCompared : List Row → ComparedFiles → Type 0
HoldsCompared rows (verified.OnePlan i o) = HoldsGiven rows (given.OnePlan i) × HoldsOutputs rows o
HoldsCompared rows (verified.Plans plans batch response settlement) = HoldsGiven rows (given.Plans plans batch)
    × HasText rows (codes "response") response.now × HasText rows (codes "settlement") settlement.now
    × IsAbsent rows (codes "books-out")

-- what `show` takes is the values of its options
pub record HoldsShow (rows : List Row) (s : ShowWords) : Type 0 where
  pub sheet : HasText rows (codes "sheet") s.sheet.now
  pub batch : HasText rows (codes "batch") s.batch.now
  pub tsv : s.tsv ≡ is_set (codes "tsv") rows

-- what `check` takes is the values of its options, and of a plans file's neither sheet nor books
abbrev pub HoldsCheck : List Row → CheckWords → Type 0
HoldsCheck rows (check.OnePlan c) = HasText rows (codes "sheet") c.sheet.now × MayHaveText rows (codes "books") c.books
    × MayHaveText rows (codes "batch") c.batch × IsAbsent rows (codes "plans")
HoldsCheck rows (check.Plans plans batch) = HasText rows (codes "plans") plans.now × MayHaveText rows (codes "batch") batch
    × IsAbsent rows (codes "sheet") × IsAbsent rows (codes "books")

-- what `run` takes is the values of its options
pub record HoldsRun (rows : List Row) (r : RunWords) : Type 0 where
  pub inputs : HoldsInputs rows r.inputs
  pub outputs : HoldsOutputs rows r.outputs
  pub stamp : MayHaveText rows (codes "stamp") r.stamp
  pub workers : MayHaveNumber rows (codes "workers") r.workers
  pub plain : r.plain ≡ is_set (codes "plain") rows
  pub desk : r.desk ≡ is_set (codes "desk") rows
  pub safe : r.safe ≡ is_set (codes "safe") rows
  pub verbose : r.verbose ≡ is_set (codes "verbose") rows
  pub log : MayHaveText rows (codes "log") r.log
  pub sums : r.sums ≡ is_set (codes "sums") rows

-- what `run` takes is the values of its options, and no path of its stands twice
abbrev pub HoldsRunApart : List Row → RunWords → Type 0
HoldsRunApart rows r = HoldsRun rows r × (has_twice (paths_of r) ≡ false)

-- one digit or more, and nothing else
abbrev pub is_number : Text → Bool
is_number text = not (length text == 0) && all_digits text

-- a number, or two with a point between them
abbrev pub is_record : Text → Bool
is_record text = nat_le (length (cut 46 text)) 2 && list_all is_number (cut 46 text)

-- exactly one of `--record`, `--number` and `--rx` stands, in digits, and `--provider` only next to `--rx`
abbrev pub HoldsAsked : List Row → Asked → Type 0
HoldsAsked rows (Record place) = HasText rows (codes "record") place.now × IsAbsent rows (codes "number")
    × IsAbsent rows (codes "rx") × IsAbsent rows (codes "provider") × (is_record place.now ≡ true)
HoldsAsked rows (Number number) = HasText rows (codes "number") number.now × IsAbsent rows (codes "record")
    × IsAbsent rows (codes "rx") × IsAbsent rows (codes "provider") × (is_number number.now ≡ true)
HoldsAsked rows (Rx reference provider) = HasText rows (codes "rx") reference.now
    × MayHaveText rows (codes "provider") provider × IsAbsent rows (codes "record") × IsAbsent rows (codes "number")
    × (is_number reference.now ≡ true)

-- what `explain` takes is the values of its options
pub record HoldsExplain (rows : List Row) (e : ExplainWords) : Type 0 where
  pub inputs : HoldsGiven rows e.inputs
  pub asked : HoldsAsked rows e.asked
  pub response : MayHaveText rows (codes "response") e.response
  pub json : e.json ≡ is_set (codes "json") rows
  pub all : e.all ≡ is_set (codes "all") rows
  pub for_provider : MayHaveText rows (codes "for-provider") e.for_provider

-- what `verify` takes is the values of its options
pub record HoldsVerify (rows : List Row) (v : VerifyWords) : Type 0 where
  pub files : HoldsCompared rows v.files
  pub stamp : HasText rows (codes "stamp") v.stamp.now
  pub workers : HasNumberOr rows (codes "workers") 1 v.workers
  pub plain : v.plain ≡ is_set (codes "plain") rows
  pub desk : v.desk ≡ is_set (codes "desk") rows

-- at most one of `--provider`, `--family` and `--for-provider` stands
abbrev pub HoldsPortion : List Row → Portion → Type 0
HoldsPortion rows Whole = IsAbsent rows (codes "provider") × IsAbsent rows (codes "family") × IsAbsent rows (codes "for-provider")
HoldsPortion rows (Provider id) = HasText rows (codes "provider") id.now × IsAbsent rows (codes "family")
    × IsAbsent rows (codes "for-provider")
HoldsPortion rows (Family id) = HasText rows (codes "family") id.now × IsAbsent rows (codes "provider")
    × IsAbsent rows (codes "for-provider")
HoldsPortion rows (ForProvider id) = HasText rows (codes "for-provider") id.now × IsAbsent rows (codes "provider")
    × IsAbsent rows (codes "family")

-- the form, by whether `--tsv`, `--json`, `--jsonl` and `--html` stand, of which at most one may
abbrev pub form_of : Bool → Bool → Bool → Bool → Option Form
form_of false false false false = Some Columns
form_of true false false false = Some Tsv
form_of false true false false = Some Json
form_of false false true false = Some Jsonl
form_of false false false true = Some Html
form_of _ _ _ _ = None

-- the form that these flags ask for
abbrev pub form_in : List Row → Option Form
form_in rows = form_of (is_set (codes "tsv") rows) (is_set (codes "json") rows) (is_set (codes "jsonl") rows)
    (is_set (codes "html") rows)

-- a flag's form, or where no flag stands the folder of `--html-dir`
abbrev pub HoldsForm : List Row → Form → Type 0
HoldsForm rows (HtmlDir folder) = HasText rows (codes "html-dir") folder.now × (form_in rows ≡ Some Columns)
HoldsForm rows Columns = IsAbsent rows (codes "html-dir") × (form_in rows ≡ Some Columns)
HoldsForm rows Tsv = IsAbsent rows (codes "html-dir") × (form_in rows ≡ Some Tsv)
HoldsForm rows Json = IsAbsent rows (codes "html-dir") × (form_in rows ≡ Some Json)
HoldsForm rows Jsonl = IsAbsent rows (codes "html-dir") × (form_in rows ≡ Some Jsonl)
HoldsForm rows Html = IsAbsent rows (codes "html-dir") × (form_in rows ≡ Some Html)

-- what `report` takes is the values of its options
pub record HoldsReport (rows : List Row) (r : ReportWords) : Type 0 where
  pub inputs : HoldsGiven rows r.inputs
  pub portion : HoldsPortion rows r.portion
  pub form : HoldsForm rows r.form
  pub stamp : MayHaveText rows (codes "stamp") r.stamp

-- what `adjudicate` takes is the values of its options
pub record HoldsAdjudicate (rows : List Row) (a : AdjudicateWords) : Type 0 where
  pub inputs : HoldsInputs rows a.inputs
  pub out : HasText rows (codes "out") a.out.now
  pub stamp : MayHaveText rows (codes "stamp") a.stamp
  pub workers : MayHaveNumber rows (codes "workers") a.workers
  pub again : a.again ≡ is_set (codes "again") rows
  pub strict : a.strict ≡ is_set (codes "strict") rows
  pub quiet : a.quiet ≡ is_set (codes "quiet") rows

-- the option's values are these texts, of all its uses in their order
abbrev pub HasTexts : List Row → Text → List Text → Type 0
HasTexts rows name texts = all_of name rows ≡ Some texts

-- the form that these flags ask for, of which at most one is set
abbrev pub compare_form_of : Bool → Bool → Option CompareForm
compare_form_of false false = Some compared.Words
compare_form_of true false = Some compared.Tsv
compare_form_of false true = Some compared.Json
compare_form_of true true = None

abbrev pub compare_form_in : List Row → Option CompareForm
compare_form_in rows = compare_form_of (is_set (codes "tsv") rows) (is_set (codes "json") rows)

-- what `compare` takes is the values of its options
pub record HoldsCompare (rows : List Row) (c : CompareWords) : Type 0 where
  pub inputs : HoldsInputs rows c.inputs
  pub with_sheet : MayHaveText rows (codes "with-sheet") c.with_sheet
  pub with_books : MayHaveText rows (codes "with-books") c.with_books
  pub form : compare_form_in rows ≡ Some c.form

-- what `settle` takes is the values of its options
pub record HoldsSettle (rows : List Row) (s : SettleWords) : Type 0 where
  pub responses : HasTexts rows (codes "response") (map (λ t. t.now) s.responses.items)
  pub provider : MayHaveText rows (codes "provider") s.provider

-- what `excerpt` takes is the values of its options
pub record HoldsExcerpt (rows : List Row) (e : ExcerptWords) : Type 0 where
  pub inputs : HoldsInputs rows e.inputs
  pub place : HasLongNumber rows (codes "record") e.place
  pub out : HasText rows (codes "out") e.out.now
  pub response : MayHaveText rows (codes "response") e.response

-- the three numbers of a refusal
pub record HoldsFault (rows : List Row) (f : FaultNumbers) : Type 0 where
  pub kind : HasLongNumber rows (codes "N") f.kind
  pub within : HasLongNumber rows (codes "M") f.within
  pub place : HasLongNumber rows (codes "P") f.place

-- exactly one of `--books` and `--period` stands
abbrev pub HoldsOrigin : List Row → Origin → Type 0
HoldsOrigin rows (Books path) = HasText rows (codes "books") path.now × IsAbsent rows (codes "period")
HoldsOrigin rows (Period text) = HasText rows (codes "period") text.now × IsAbsent rows (codes "books")

-- what `members` takes is the values of its options
pub record HoldsMembers (rows : List Row) (m : MembersWords) : Type 0 where
  pub origin : HoldsOrigin rows m.origin
  pub members : HasText rows (codes "members") m.members.now
  pub books_out : HasText rows (codes "books-out") m.books_out.now
  pub report : MayHaveText rows (codes "report") m.report
  pub safe : m.safe ≡ is_set (codes "safe") rows

-- exactly one of `--sheet` and `--refill-percent` stands
abbrev pub HoldsPercent : List Row → Percent → Type 0
HoldsPercent rows (percent.Sheet path) = HasText rows (codes "sheet") path.now × IsAbsent rows (codes "refill-percent")
HoldsPercent rows (percent.Number text) = HasText rows (codes "refill-percent") text.now × IsAbsent rows (codes "sheet")

-- what `age` takes is the values of its options
pub record HoldsAge (rows : List Row) (a : AgeWords) : Type 0 where
  pub books : HasText rows (codes "books") a.books.now
  pub before : HasText rows (codes "before") a.before.now
  pub period : MayHaveText rows (codes "period") a.period
  pub percent : HoldsPercent rows a.percent
  pub books_out : HasText rows (codes "books-out") a.books_out.now
  pub dropped : HasText rows (codes "dropped") a.dropped.now
  pub safe : a.safe ≡ is_set (codes "safe") rows

-- the form of a family, by whether `--tsv`, `--json` and `--html` stand, of which at most one may
abbrev pub family_form_of : Bool → Bool → Bool → Option FamilyForm
family_form_of false false false = Some family.Columns
family_form_of true false false = Some family.Tsv
family_form_of false true false = Some family.Json
family_form_of false false true = Some family.Html
family_form_of _ _ _ = None

-- the form that these flags ask for
abbrev pub family_form_in : List Row → Option FamilyForm
family_form_in rows =
    family_form_of (is_set (codes "tsv") rows) (is_set (codes "json") rows) (is_set (codes "html") rows)

-- what `family` takes is the values of its options
pub record HoldsFamily (rows : List Row) (f : FamilyWords) : Type 0 where
  pub books : HasText rows (codes "books") f.books.now
  pub family : HasText rows (codes "family") f.family.now
  pub person : MayHaveText rows (codes "person") f.person
  pub sheet : MayHaveText rows (codes "sheet") f.sheet
  pub form : family_form_in rows ≡ Some f.form

-- the files of a command for several plans are the values of their options
pub record HoldsSwitchFiles (rows : List Row) (f : SwitchFiles) : Type 0 where
  pub plans : HasText rows (codes "plans") f.plans.now
  pub batch : HasText rows (codes "batch") f.batch.now
  pub response : HasText rows (codes "response") f.response.now
  pub settlement : HasText rows (codes "settlement") f.settlement.now

-- what `route` takes is the values of its options
pub record HoldsRoute (rows : List Row) (r : RouteWords) : Type 0 where
  pub files : HoldsSwitchFiles rows r.files
  pub stamp : HasText rows (codes "stamp") r.stamp.now
  pub workers : MayHaveNumber rows (codes "workers") r.workers
  pub safe : r.safe ≡ is_set (codes "safe") rows
  pub verbose : r.verbose ≡ is_set (codes "verbose") rows
  pub log : MayHaveText rows (codes "log") r.log

-- what `join` takes is the values of its options
pub record HoldsJoin (rows : List Row) (j : JoinWords) : Type 0 where
  pub files : HoldsSwitchFiles rows j.files
  pub safe : j.safe ≡ is_set (codes "safe") rows

-- the command has the name of this subcommand, and the values of its options
abbrev pub HoldsNamed : Text → List Row → Command → Type 0
HoldsNamed name rows (Run r) = (name ≡ codes "run") × HoldsRunApart rows r
HoldsNamed name rows (Show s) = (name ≡ codes "show") × HoldsShow rows s
HoldsNamed name rows (Plan i) = (name ≡ codes "plan") × HoldsInputs rows i
HoldsNamed name rows Sample = name ≡ codes "sample"
HoldsNamed name rows (Check c) = (name ≡ codes "check") × HoldsCheck rows c
HoldsNamed name rows (Explain e) = (name ≡ codes "explain") × HoldsExplain rows e
HoldsNamed name rows (Excerpt e) = (name ≡ codes "excerpt") × HoldsExcerpt rows e
HoldsNamed name rows (Verify v) = (name ≡ codes "verify") × HoldsVerify rows v
HoldsNamed name rows (Report r) = (name ≡ codes "report") × HoldsReport rows r
HoldsNamed name rows (Adjudicate a) = (name ≡ codes "adjudicate") × HoldsAdjudicate rows a
HoldsNamed name rows (Fault f) = (name ≡ codes "fault") × HoldsFault rows f
HoldsNamed name rows (Members m) = (name ≡ codes "members") × HoldsMembers rows m
HoldsNamed name rows (Age a) = (name ≡ codes "age") × HoldsAge rows a
HoldsNamed name rows (ShowFamily f) = (name ≡ codes "family") × HoldsFamily rows f
HoldsNamed name rows (Route r) = (name ≡ codes "route") × HoldsRoute rows r
HoldsNamed name rows (Join j) = (name ≡ codes "join") × HoldsJoin rows j
HoldsNamed name rows (Replies path) = (name ≡ codes "replies") × HasText rows (codes "response") path.now
HoldsNamed name rows (Compare c) = (name ≡ codes "compare") × HoldsCompare rows c
HoldsNamed name rows (Settle s) = (name ≡ codes "settle") × HoldsSettle rows s

-- the command is the subcommand that was found, with the values of its options
abbrev pub Holds : Option (Text × List Row) → Command → Type 0
Holds None c = ⊥
Holds (Some found) c = HoldsNamed found.0 found.1 c

-- nothing has the values that are asked for
abbrev pub NoneHolds : {X : Type 0} → (X → Type 0) → Type 0
NoneHolds {X} P = (x : X) → P x → ⊥
