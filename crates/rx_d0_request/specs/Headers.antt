-- Meaning: the header of a request (docs/FORMATS.md, "Request header").
use Rattle.std.specs.Prelude.{ℕ, ◌+◌, ◌-◌, Bool, ◌&&◌, nat_le, List, ◌++◌, length, take, replicate, slice_index, slice_range}
use Rattle.std.specs.List.{list_all}
use Rattle.rx_text.specs.Bytes.{is_printable}
use Rattle.rx_d0_values.specs.declared.echo.EchoParts.{EchoParts}
use Rattle.rx_d0_request.specs.declared.header.Header.{Header}
use Rattle.rx_d0_request.specs.declared.header.TheConstants.{BIN_LENGTH, HEADER_LENGTH, PCN_AT, PCN_LENGTH}

-- the bytes of the header, missing ones blanks
unfoldable pub header_bytes : List ℕ → List ℕ
header_bytes bytes = take HEADER_LENGTH bytes ++ replicate (HEADER_LENGTH - length bytes) 32

-- its fields, of 6, 2, 2, 10, 1, 2, 15 and 8 bytes; the last 10 bytes, the software vendor's id, are not looked at
unfoldable pub header_of : List ℕ → Header
header_of h =
    record {
      bin = slice_range h 0 BIN_LENGTH;
      version = slice_range h 6 8;
      code = slice_range h 8 10;
      pcn = slice_range h PCN_AT (PCN_AT + PCN_LENGTH);
      count = slice_index h 20;
      qualifier = slice_range h 21 23;
      provider = slice_range h 23 38;
      date = slice_range h 38 46;
    }

-- the bytes of the header are there, and each is printable
unfoldable pub is_clean : List ℕ → Bool
is_clean bytes = nat_le HEADER_LENGTH (length bytes) && list_all is_printable (header_bytes bytes)

-- what a reply repeats
abbrev pub echo_parts : Header → EchoParts
echo_parts h =
    record {
      version = h.version;
      code = h.code;
      qualifier = h.qualifier;
      provider = h.provider;
      date = h.date;
    }
