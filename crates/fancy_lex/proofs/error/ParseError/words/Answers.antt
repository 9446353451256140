use Rattle.std.proofs.Common.{rules}
use Rattle.std.proofs.lemmas.Str.{encodes-chars, IsUtf8-string_bytes}
use Rattle.fancy_lex.proofs.error.ParseError.words.Goals as goal

pub returns-in-GeneralParseError : goal.returns-in-GeneralParseError
returns-in-GeneralParseError c =
    let s = c.in-GeneralParseError.s in
    rw (c.in-GeneralParseError.is, encodes-chars s.bytes.items (IsUtf8-string_bytes s)) (search rules)

pub returns-in-InvalidEscape : goal.returns-in-InvalidEscape
returns-in-InvalidEscape c =
    let s = c.in-InvalidEscape.s in
    rw (c.in-InvalidEscape.is, encodes-chars s.bytes.items (IsUtf8-string_bytes s)) (search rules)

pub returns-in-UnknownFlag : goal.returns-in-UnknownFlag
returns-in-UnknownFlag c =
    let s = c.in-UnknownFlag.s in
    rw (c.in-UnknownFlag.is, encodes-chars s.bytes.items (IsUtf8-string_bytes s)) (search rules)

pub returns-in-InvalidGroupNameBackref : goal.returns-in-InvalidGroupNameBackref
returns-in-InvalidGroupNameBackref c =
    let s = c.in-InvalidGroupNameBackref.s in
    rw (c.in-InvalidGroupNameBackref.is, encodes-chars s.bytes.items (IsUtf8-string_bytes s)) (search rules)
