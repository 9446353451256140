-- The text that a node carries.
use Rattle.std.proofs.Common.{◌≡◌, ℕ, List, length, chars, String, Global, string_bytes, ap}
use Rattle.std.specs.Prelude.{encode_utf8_all}
use Rattle.std.specs.Str.{IsUtf8}
use Rattle.std.proofs.lemmas.Str.{encodes-chars, IsUtf8-string_bytes}
use Rattle.fancy_lex.specs.Text.{text_of}

pub string_text : (s : String Global) → encode_utf8_all (text_of s) ≡ string_bytes s
string_text s = encodes-chars (string_bytes s) (IsUtf8-string_bytes s)

pub text_size : (bs : List ℕ) → IsUtf8 bs → length (encode_utf8_all (chars bs)) ≡ length bs
text_size bs utf8 = ap length (encodes-chars bs utf8)
