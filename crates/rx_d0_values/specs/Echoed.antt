-- Meaning: what a reply repeats of its request.
use Rattle.std.specs.Prelude.{◌≡◌, ℕ, Bool, true, ◌&&◌, if◌then◌else◌, List, map, Option, Some, None}
use Rattle.std.specs.List.{list_all}
use Rattle.rx_text.specs.Bytes.{is_printable}
use Rattle.rx_d0_values.specs.declared.echo.EchoParts.{EchoParts}

-- each unprintable byte a blank
abbrev pub blanked : List ℕ → List ℕ
blanked bytes = map (λ b. if is_printable b then b else 32) bytes

abbrev pub blanked_parts : EchoParts → EchoParts
blanked_parts e =
    record {
      version = blanked e.version;
      code = blanked e.code;
      qualifier = blanked e.qualifier;
      provider = blanked e.provider;
      date = blanked e.date;
    }

-- each byte is printable
abbrev pub is_echo : EchoParts → Bool
is_echo e =
    list_all is_printable e.version && list_all is_printable e.code && list_all is_printable e.qualifier
    && list_all is_printable e.provider && list_all is_printable e.date

abbrev pub IsEcho : EchoParts → Type 0
IsEcho e = is_echo e ≡ true

-- the bytes, where each is printable
abbrev pub echo_of : EchoParts → Option EchoParts
echo_of e = if is_echo e then Some e else None
