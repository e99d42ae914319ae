-- A text that is a document in UTF-8, or isn't.
use Rattle.std.proofs.Common.{◌≡◌, ℕ, List, None, Some, Ok, Err, refl, inl, inr}
use Rattle.std.specs.Str.{IsUtf8, is_utf8}
use Rattle.std.proofs.lemmas.Bool.{cases_Bool}
use Rattle.std.proofs.lemmas.Str.{IsUtf8-from_is_utf8, is_utf8-from_IsUtf8}
use Rattle.toml.specs.Data.{Members}
use Rattle.toml.specs.Parse.{parse_document}
use Rattle.rx_sheet.specs.declared.fault.SheetFault.TheVariants.{NotToml}
use Rattle.rx_sheet.specs.SheetText.{tree_of}

pub document_read : (text : List ℕ) (tree : Members) → IsUtf8 text → parse_document text ≡ Some tree
    → tree_of text ≡ Ok tree
unfolding tree_of
document_read text tree utf8 parsed = rw (is_utf8-from_IsUtf8 text utf8, parsed) refl

pub document_refused : (text : List ℕ) → (IsUtf8 text → parse_document text ≡ None) → tree_of text ≡ Err NotToml
unfolding tree_of
document_refused text refused = elim (cases_Bool (is_utf8 text)) [
  | inl utf8 ↦ rw (utf8, refused (IsUtf8-from_is_utf8 text utf8)) refl
  | inr other ↦ rw other refl
]
