-- A finding as a JSON object, its fields in byte order.
use Rattle.std.specs.Prelude.{ℕ, List, ◌++◌, map, Option, Some, None, codes, string_bytes, String}
use Rattle.std.specs.declared.alloc.Global.{Global}
use Rattle.cedar_lexer.specs.declared.token.TokenKind.{TokenKind}
use Rattle.cedar_lexer.specs.Names.{kind_name}
use Rattle.serde_json.specs.Data.{Data, null, boolean, number, unsigned, string, array, object, member, no_members}
use Rattle.serde_json.specs.View.{items_of}
use Rattle.serde_json.specs.Written.{compact_text}
use Rattle.cedar_report.specs.declared.lines.Spot.{Spot}
use Rattle.cedar_report.specs.declared.finding.Extent.{Extent}
use Rattle.cedar_report.specs.declared.finding.Related.{Related}
use Rattle.cedar_report.specs.declared.finding.Finding.{Finding}

-- a byte, its line, and its columns in characters and in UTF-16 units
abbrev pub place_data : ℕ → Spot → Data
place_data byte spot = object (member (codes "byte") (number (unsigned byte))
    (member (codes "column") (number (unsigned spot.column))
    (member (codes "line") (number (unsigned spot.line))
    (member (codes "utf16") (number (unsigned spot.utf16)) no_members))))

abbrev pub range_data : Extent → Data
range_data extent = object (member (codes "end") (place_data extent.end extent.to)
    (member (codes "start") (place_data extent.start extent.from) no_members))

abbrev pub optional_range_data : Option Extent → Data
optional_range_data (Some extent) = range_data extent
optional_range_data None = null

abbrev pub optional_text_data : Option (String Global) → Data
optional_text_data (Some text) = string (string_bytes text)
optional_text_data None = null

-- the names of kinds of token, under which Cedar lists what it expected
abbrev pub names_data : List TokenKind → Data
names_data kinds = array (items_of (map (λ kind. string (kind_name kind)) kinds))

abbrev pub related_data : Related → Data
related_data other = object (member (codes "message") (string (string_bytes other.text))
    (member (codes "range") (range_data other.extent) no_members))

abbrev pub related_list_data : List Related → Data
related_list_data related = array (items_of (map (λ other. related_data other) related))

abbrev pub finding_data : List ℕ → Finding → Data
finding_data name finding = object
    (member (codes "cause") (optional_range_data finding.cause)
    (member (codes "code") (string finding.code.now)
    (member (codes "expected") (names_data finding.expected.items)
    (member (codes "file") (string name)
    (member (codes "follows") (boolean finding.follows)
    (member (codes "help") (optional_text_data finding.help)
    (member (codes "label") (optional_text_data finding.label)
    (member (codes "message") (string (string_bytes finding.message))
    (member (codes "range") (optional_range_data finding.extent)
    (member (codes "related") (related_list_data finding.related.items)
    (member (codes "severity") (string (codes "error")) no_members)))))))))))

-- the object without white space
abbrev pub json_text : List ℕ → Finding → List ℕ
json_text name finding = compact_text (finding_data name finding)

-- and a line feed behind it
abbrev pub json_line : List ℕ → Finding → List ℕ
json_line name finding = json_text name finding ++ codes "\n"
