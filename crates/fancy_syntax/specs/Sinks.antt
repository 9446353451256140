-- Texts that a sink takes one after the other: it counts their bytes, or writes them.
use Rattle.std.specs.Prelude.{◌≡◌, ℕ, ◌-◌, ◌≤◌, ◌++◌, Option, Some, None, IfSome, String}
use Rattle.std.specs.String.{string_len, string_capacity}
use Rattle.std.specs.declared.alloc.Global.{Global}
use Rattle.fancy_lex.specs.Text.{Text, text_of, bytes}
use Rattle.fancy_syntax.specs.Capacity.{in_word}
use Rattle.fancy_syntax.specs.declared.print.sink.Length.{Length}

-- the sink can take the text: it has no limit, or the text has no more bytes than the limit; the limit is a number and
-- no predicate, so that what can take a text can take its front
pub record CanTake {S : Type 0} (limit : S → Option ℕ) (sink : S) (text : Text) : Type 0 where
  pub within : IfSome (limit sink) (λ n. bytes text ≤ n)

-- the sink has taken the text after what it held, and can take what it could take after the text
pub record Takes {S : Type 0} (holds : S → Text → Type 0) (limit : S → Option ℕ) (old new : S) (text : Text) : Type 0 where
  pub follows : (before : Text) → holds old before → holds new (before ++ text)
  pub fits : (rest : Text) → CanTake limit old (text ++ rest) → CanTake limit new rest

-- the count is the number of bytes of the text, or the greatest word if a word cannot hold it
abbrev pub counts : Length → Text → Type 0
counts s t = s.len ≡ in_word (bytes t)

-- a count has no limit
abbrev pub unlimited : Length → Option ℕ
unlimited s = None

-- a string holds its text
abbrev pub contains : String Global → Text → Type 0
contains s t = text_of s ≡ t

-- a string can take what its capacity has left
abbrev pub capacity_left : String Global → Option ℕ
capacity_left s = Some (string_capacity s - string_len s)
