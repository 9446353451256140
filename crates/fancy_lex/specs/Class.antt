-- Classes: the text after an opening bracket, and the text that is written for the class.
-- The definition is `class`, at the end; `Premises` of `fancy_grammar` states that `OuterClass` agrees with it.
use Rattle.std.specs.Prelude.{◌≡◌, ℕ, zero, suc, ◌+◌, ◌-◌, ◌/◌, ◌%◌, Bool, true, false, not, ◌&&◌, ◌||◌, ◌==◌, nat_lt}
use Rattle.std.specs.Prelude.{if◌then◌else◌, [], ◌∷◌, ◌++◌, codes}
use Prim.Native.Char.{code}
use Rattle.fancy_lex.specs.Characters.{is_among, ◌∈◌, metacharacters}
use Rattle.fancy_lex.specs.Escape.{escape}
use Rattle.fancy_lex.specs.Escaped.{Escape, literal, literal_bytes, delegate}
use Rattle.fancy_lex.specs.Located.{Located}
use Rattle.fancy_lex.specs.ErrorTable.{class_not_closed}
use Rattle.fancy_lex.specs.Property.{is_negated_set}
use Rattle.fancy_lex.specs.Reading.{Reading, gives, fails, choose, ◌>=>◌}
use Rattle.fancy_lex.specs.Text.{Text, bytes, strip}
use Rattle.fancy_lex.specs.declared.flags.Flags.{Flags}

-- the characters that need a backslash in a class
abbrev pub needs_backslash_in_class : ℕ → Bool
needs_backslash_in_class c = is_among c (metacharacters ++ codes "]}#&-~")

-- a digit's character, in upper case
abbrev pub upper_hex_digit : ℕ → ℕ
upper_hex_digit d = if nat_lt d 10 then code "0" + d else code "A" + (d - 10)

-- the character, with a backslash before it if it is a metacharacter
abbrev pub char_text : ℕ → Text
char_text c = if needs_backslash_in_class c then code "\\" ∷ c ∷ [] else c ∷ []

-- `\x` and the two digits of a byte
abbrev pub byte_text : ℕ → Text
byte_text b = codes "\\x" ++ (upper_hex_digit (b / 16) ∷ upper_hex_digit (b % 16) ∷ [])

-- the text that is written for an escape; in a class it is a character, a byte or a delegate
abbrev pub escape_text : Escape → Text
escape_text (literal c casei) = char_text c
escape_text (literal_bytes b) = byte_text b
escape_text (delegate t casei) = t
escape_text _ = []

-- whether the escape is a negated set that names properties or other classes
abbrev pub is_negated : Escape → Bool
is_negated (delegate t casei) = is_negated_set t
is_negated _ = false

-- the text before the next negated set
abbrev pub joint : Bool → Text
joint needed = if needed then codes "&&" else []

-- the text of an escape; `seen` says whether a negated set was written before it
abbrev pub escape_in_class : Bool → Escape → Text
escape_in_class seen e = joint (seen && is_negated e) ++ escape_text e

-- p is the text that is written, with the rest of the text: the symbol passes from the rest to the text, if the rest
-- begins with it
abbrev pub with_symbol : ℕ → Text × Text → Text × Text
with_symbol symbol p = choose {B = Text × Text} (strip symbol p.1) (λ u. (p.0 ++ symbol ∷ [], u)) p

-- adds the opening of a class to the text that is written: the bracket, a caret, and a closing bracket that is a plain
-- character; returns the rest of the text too
unfoldable pub class_start : Text → Text → Text × Text
class_start out t = with_symbol (code "]") (with_symbol (code "^") (out ++ code "[" ∷ [], t))

-- the result of a class: the text that is written, whether a negated set was written by then, and the rest of the text;
-- or an error
pub data Written : Type 0 where
  written : Text → Bool → Text → Written
  failed : Located → Written

-- a character that is a literal in a class
abbrev pub is_plain_in_class : ℕ → Bool
is_plain_in_class c = not (c ∈ "\\[]")

-- the same result with w before what is written; an error stays
abbrev pub prefixed : Text → Written → Written
prefixed w (written x a v) = written (w ++ x) a v
prefixed w (failed e) = failed e

-- The variables of a rule are in braces before it: f are the flags; t is the text at the start, and u a later text; b
-- and m say whether a negated set was written before t and before u; `opening` is a text that is written; o is the
-- result; c is a character; e is an escape, or in the rules of errors an error.
mutual
  -- a class after its bracket
  pub data Class : Flags → Bool → Text → Written → Type 0 where
    class_items : {f : Flags} {b : Bool} {t u opening : Text} {o : Written} →
        ◌≡◌ {A = Text × Text} (class_start [] t) (opening, u) →
        ClassItems f b u o → Class f b t (prefixed opening o)

  -- the items of a class through its closing bracket
  pub data ClassItems : Flags → Bool → Text → Written → Type 0 where
    close : {f : Flags} {b : Bool} {t : Text} →
        ClassItems f b (code "]" ∷ t) (written (code "]" ∷ []) b t)
    end : {f : Flags} {b : Bool} → ClassItems f b [] (failed class_not_closed)
    plain : {c : ℕ} {f : Flags} {b : Bool} {t : Text} {o : Written} → is_plain_in_class c ≡ true →
        ClassItems f b t o → ClassItems f b (c ∷ t) (prefixed (c ∷ []) o)
    escaped : {f : Flags} {b : Bool} {t u : Text} {e : Escape} {o : Written} → escape f true t ≡ gives e u →
        ClassItems f (b || is_negated e) u o → ClassItems f b (code "\\" ∷ t) (prefixed (escape_in_class b e) o)
    escape_error : {f : Flags} {b : Bool} {t : Text} {e : Located} → escape f true t ≡ fails e →
        ClassItems f b (code "\\" ∷ t) (failed e)
    nested : {f : Flags} {b m : Bool} {t u w : Text} {o : Written} → Class f b t (written w m u) →
        ClassItems f m u o → ClassItems f b (code "[" ∷ t) (prefixed w o)
    class_error : {f : Flags} {b : Bool} {t : Text} {e : Located} → Class f b t (failed e) →
        ClassItems f b (code "[" ∷ t) (failed e)

-- the outermost class after its bracket; no negated set was written before it
abbrev pub OuterClass : Flags → Text → Reading Text → Type 0
OuterClass f t (gives out v) = (a : Bool) × Class f false t (written out a v)
OuterClass f t (fails e) = Class f false t (failed e)

-- a class under these flags
module _ (f : Flags) where
  -- The rest of a class inside `outer` other classes, with `out` as the text that is written so far. The first number
  -- is the number of steps left: each reads a byte or more, so it is never used up. `seen` says whether a negated set
  -- was written before.
  unfoldable pub class_from : ℕ → ℕ → Bool → Text → Text → Reading Text
  class_from zero outer seen out t = fails class_not_closed
  class_from (suc k) outer seen out [] = fails class_not_closed
  class_from (suc k) outer seen out (c ∷ t) =
      if c == code "\\" then
      escape f true t >=> (λ e u. class_from k outer (seen || is_negated e) (out ++ escape_in_class seen e) u)
      else if c == code "[" then class_from k (outer + 1) seen (class_start out t).0 (class_start out t).1
      else if c == code "]" then (
      if outer == 0 then gives (out ++ c ∷ []) t else class_from k (outer - 1) seen (out ++ c ∷ []) t)
      else class_from k outer seen (out ++ c ∷ []) t

  -- the class after the bracket
  unfoldable pub class : Text → Reading Text
  class t = class_from (suc (bytes t)) 0 false (class_start [] t).0 (class_start [] t).1
