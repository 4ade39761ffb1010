-- Places as the crates below know them, without their text, and places within a place.
use Rattle.std.specs.Prelude.{◌+◌, Option, Some, Bool, ◌&&◌, nat_le, if◌then◌else◌}
use Rattle.std.specs.Option.{option_map}
use Rattle.cedar_expressions.specs.declared.place.NodePlace.{NodePlace}
use Rattle.cedar_expressions.specs.declared.place.Place.{Place}
use Rattle.cedar_syntax.specs.declared.loc.Loc.{Loc}
use Rattle.cedar_syntax.specs.places.Span.{end_of}

-- a place without its text, as the crates below know it
abbrev pub bytes_of : Loc → Place
bytes_of loc = record { offset = loc.span.offset; length = loc.span.len }

abbrev pub place_mark : Option Loc → NodePlace
place_mark place = record { place = option_map bytes_of place }

-- whether bytes lie within a place
abbrev pub lies_within : Loc → Place → Bool
lies_within loc p =
    nat_le loc.span.offset p.offset && nat_le (p.offset + p.length) (end_of loc.span)

abbrev pub bytes_at : Loc → Place → Loc
bytes_at loc p = record { span = record { offset = p.offset; len = p.length }; src = loc.src }

abbrev pub bytes_within : Loc → Place → Loc
bytes_within loc p = if lies_within loc p then bytes_at loc p else loc

-- these bytes of the same text where they lie within a place, else that place
abbrev pub place_within : Option Loc → Option Place → Option Loc
place_within (Some loc) (Some p) = Some (bytes_within loc p)
place_within place _ = place
