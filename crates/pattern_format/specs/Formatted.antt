-- What a formatted text keeps of its pattern.
use Rattle.std.specs.Prelude.{◌≡◌, ℕ, ◌+◌, ◌-◌, ◌==◌, Bool, ◌&&◌, not, List, [], ◌∷◌, length, chars}
use Rattle.std.specs.Prelude.{codes, slice_range, nat_eq, if◌then◌else◌}
use Rattle.std.specs.Cmp.Lexicographic.{pointwise}
use Rattle.std.specs.Str.{trim_end}
use Rattle.fancy_lex.specs.declared.flags.Flags.{Flags}
use Rattle.fancy_grammar.specs.GroupInfo.{GroupInfo}
use Rattle.fancy_grammar.specs.ParseResult.{IsTreeOf}
use Rattle.fancy_grammar.specs.ReadAs.{unpositioned}
use Rattle.fancy_grammar.specs.Spans.{Span}
use Rattle.fancy_grammar.specs.Tree.{Tree}
use Rattle.fancy_grammar.specs.Trivia.{Trivium, TriviumKind, IsTriviaOf, is_comment, is_line_comment}
use Rattle.pattern_format.specs.declared.style.Style.{Style}
use Rattle.pattern_format.specs.declared.style.Style.TheVariants as style

-- the bytes of the text at the span
abbrev pub text_at : List ℕ → Span → List ℕ
text_at pattern p = slice_range pattern p.start p.end

-- the comment without `(?#` and `)`, or without `#`
abbrev pub inside : TriviumKind → Span → Span
inside k p =
    if is_line_comment k then record { start = p.start + 1; end = p.end }
    else record { start = p.start + 3; end = p.end - 1 }

-- what is inside the comment, without whitespace at the end if that is the end of its line
abbrev pub trimmed : TriviumKind → List ℕ → List ℕ
trimmed k text = if is_line_comment k then trim_end text else text

-- what the style keeps of a comment: its text, or in the style Compact what is inside
abbrev pub kept_text : Style → List ℕ → Trivium → List ℕ
kept_text style.Compact pattern x = trimmed x.kind (text_at pattern (inside x.kind x.span))
kept_text _ pattern x = text_at pattern x.span

-- whether that may go: it is `(?#)`, or in the style Compact nothing
abbrev pub is_empty : Style → List ℕ → Bool
is_empty style.Compact text = length text == 0
is_empty _ text = pointwise nat_eq text (codes "(?#)")

-- the comments before others, with this one if it is a comment that is not empty
abbrev pub add_comment : Style → Bool → List ℕ → List (List ℕ) → List (List ℕ)
add_comment s is_one text others = if is_one && not (is_empty s text) then text ∷ others else others

-- what the style keeps of the comments of a pattern that are not empty, in order, those inside tokens too
abbrev pub comments : Style → List ℕ → List Trivium → List (List ℕ)
comments s pattern [] = []
comments s pattern (x ∷ l) = add_comment s (is_comment x.kind) (kept_text s pattern x) (comments s pattern l)

-- the text is parsed as the tree t, but for the positions of calls that cannot be resolved, with this group information
-- and these comments
abbrev pub ReadsBack : Style → Flags → List ℕ → Tree → GroupInfo → List (List ℕ) → Type 0
ReadsBack s f text t m cs = (u : Tree) × (l : List Trivium) × IsTreeOf f (chars text) u m
    × IsTriviaOf f (chars text) l × (unpositioned t ≡ unpositioned u) × (cs ≡ comments s text l)

-- the text reads back as the pattern, with its comments as the style keeps them
abbrev pub IsFormatted : Style → Flags → List ℕ → List ℕ → Type 0
IsFormatted s f pattern text = (t : Tree) × (m : GroupInfo) × (l : List Trivium) × IsTreeOf f (chars pattern) t m
    × IsTriviaOf f (chars pattern) l × ReadsBack s f text t m (comments s pattern l)
