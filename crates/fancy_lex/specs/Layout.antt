-- Layout: comments, and under IGNORE_SPACE also blanks and line comments.
use Rattle.std.specs.Prelude.{◌≡◌, ◌≢◌, ℕ, Bool, true, ◌||◌, ◌==◌, [], ◌∷◌, ◌++◌, ◌⊎◌, codes}
use Prim.Native.Char.{code}
use Rattle.fancy_lex.specs.Text.{Text, at_end, past_end}

-- a space, CR, LF or TAB
abbrev pub is_blank : ℕ → Bool
is_blank c = ((c == code " " || c == code "\r") || c == code "\n") || c == code "\t"

-- the inside of a comment: characters other than `\` and `)`, and pairs of `\` and any character
pub data InComment : Text → Type 0 where
  nothing : InComment []
  plain : {c : ℕ} {t : Text} → c ≢ code "\\" → c ≢ code ")" → InComment t → InComment (c ∷ t)
  pair : {b c : ℕ} {t : Text} → b ≡ code "\\" → InComment t → InComment (b ∷ c ∷ t)

-- a text without a line feed
pub data InLine : Text → Type 0 where
  end_line : InLine []
  on_line : {c : ℕ} {t : Text} → c ≢ code "\n" → InLine t → InLine (c ∷ t)

-- the opening of a comment
abbrev pub comment_start : Text
comment_start = codes "(?#"

-- `(?#`, the inside of a comment, and `)`
abbrev pub IsComment : Text → Type 0
IsComment u = (t : Text) × InComment t × (u ≡ comment_start ++ (t ++ (code ")" ∷ [])))

-- one blank character
abbrev pub IsBlank : Text → Type 0
IsBlank u = (c : ℕ) × (is_blank c ≡ true) × (u ≡ c ∷ [])

-- `#` through the next line feed, or through the end of the text if there is no line feed
abbrev pub IsLineComment : Text → Text → Type 0
IsLineComment u v = (t : Text) × InLine t × ((u ≡ code "#" ∷ (t ++ (code "\n" ∷ []))) ⊎ ((u ≡ code "#" ∷ t) × (v ≡ [])))

-- `u` is a unit of layout with `v` after it; if x is true, blanks and line comments are layout
abbrev pub IsUnit : Bool → Text → Text → Type 0
IsUnit x u v = IsComment u ⊎ (x ≡ true) × (IsBlank u ⊎ IsLineComment u v)

-- `w` is a sequence of units with `v` after it
pub data Units : Bool → Text → Text → Type 0 where
  none : {x : Bool} {v : Text} → Units x [] v
  more : {x : Bool} {w v : Text} (u t : Text) → w ≡ u ++ t → IsUnit x u (t ++ v) → Units x t v → Units x w v

-- `v` begins neither with a unit nor with `(?#`
pub record Stops (x : Bool) (v : Text) : Type 0 where
  pub no_unit : (u t : Text) → v ≡ u ++ t → IsUnit x u t → ⊥
  pub no_comment_start : (t : Text) → v ≡ comment_start ++ t → ⊥

-- `w` is all the layout at its position, with `v` after it
pub record Layout (x : Bool) (w v : Text) : Type 0 where
  pub units : Units x w v
  pub stops : Stops x v

-- `t` is layout followed by `v`
pub record Before (x : Bool) (t v : Text) : Type 0 where
  pub w : Text
  pub cut : t ≡ w ++ v
  pub layout : Layout x w v

-- the inside of a comment that is not closed: all of the text, or all of it but an unpaired backslash at the end
pub data OpenComment : Text → ℕ → Type 0 where
  to_end : {t : Text} → InComment t → OpenComment t at_end
  after_backslash : {p : ℕ} {t : Text} (i : Text) → t ≡ i ++ (code "\\" ∷ []) → p ≡ past_end →
      InComment i → OpenComment t p

-- the layout at the start of `t` has an unclosed comment, whose error is at the reach p
pub record Unclosed (x : Bool) (t : Text) (p : ℕ) : Type 0 where
  pub w : Text
  pub r : Text
  pub cut : t ≡ w ++ (comment_start ++ r)
  pub units : Units x w (comment_start ++ r)
  pub inside : OpenComment r p
