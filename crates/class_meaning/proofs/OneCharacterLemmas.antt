-- What matches one character of a set.
use Rattle.std.proofs.Common.{◌≡◌, ℕ, ◌+◌, ◌≤◌, inl, inr, ◌&&◌, ◌==◌, true, List, length, ap, ◌∙◌, refl, cond, encode_utf8, chars, Option, Some, None}
use Rattle.std.specs.Char.{IsScalar, len_utf8}
use Rattle.std.specs.Option.{IsSome, IsSomeAnd}
use Rattle.regex_class.specs.Ranges.{Range, in_ranges}
use Rattle.regex_hir.specs.Re.{Re, char_in, byte_in, literal, attempt}
use Rattle.regex_hir.specs.Meaning.{meaning}
use Rattle.regex_hir.specs.Text.{char_at, is_scalar}
use Rattle.regex_hir.specs.declared.hir.Hir.{Hir}
use Rattle.regex_hir.proofs.AttemptLemmas.{option_and_then_cong}
use Rattle.regex_hir.proofs.TextLemmas.{char_at_parts, is_scalar-of_IsScalar}
use Rattle.regex_syntax.specs.declared.Config.{Config}
use Rattle.regex_syntax.specs.declared.error.ErrorKind.{ErrorKind}
use Rattle.regex_syntax.specs.declared.error.ErrorKind.TheVariants.{OutOfMemory}
use Rattle.regex_syntax.specs.Brackets.{Nested}
use Rattle.regex_syntax.specs.Captures.{SameCaptures}
use Rattle.regex_syntax.specs.Grammar.{Names, group_count, read}
use Rattle.regex_syntax.specs.Same.{SameMatches}
use Rattle.regex_syntax.specs.Verdict.{Reads, Refuses}
use Rattle.regex_syntax.proofs.CapturesLemmas.{alike_of_same, ◌also◌}
use Rattle.regex_syntax.proofs.SameLemmas.{◌then◌, same_sym, char_in_single, byte_in_ascii}
use Rattle.class_meaning.specs.ClassMeaning.{MatchesOneOf, IsRefusedAs}

-- ranges with the same characters match the same
same_characters : (xs ys : List Range) → ((c : ℕ) → in_ranges xs c ≡ (is_scalar c && in_ranges ys c)) →
    SameMatches (char_in xs) (char_in ys)
unfolding attempt
same_characters xs ys h = record {
  at = λ hay ok k i.
      option_and_then_cong _ _ (char_at hay i) (λ c e.
      ap (λ b. cond b (k (i + len_utf8 c)) None)
      (h c ∙ ap (λ b. b && in_ranges ys c) (is_scalar-of_IsScalar c (char_at_parts hay i c e).0)));
}

-- the characters of a class match as the class does
pub of_chars : (xs ys : List Range) → ((c : ℕ) → in_ranges xs c ≡ (is_scalar c && in_ranges ys c)) →
    SameCaptures (char_in xs) (char_in ys)
of_chars xs ys h = alike_of_same (same_characters xs ys h)

-- and so do those of a class of ASCII bytes
pub of_bytes : (xs ys : List Range) → ((c : ℕ) → in_ranges xs c ≡ (is_scalar c && in_ranges ys c)) →
    ((c : ℕ) → in_ranges ys c ≡ true → c ≤ 127) → SameCaptures (char_in xs) (byte_in ys)
of_bytes xs ys h ascii = alike_of_same (same_characters xs ys h then same_sym (byte_in_ascii ys ascii))

-- one character matches as its text does
pub of_text : (xs : List Range) (c : ℕ) → IsScalar c → ((d : ℕ) → in_ranges xs d ≡ (d == c)) →
    SameCaptures (char_in xs) (literal (encode_utf8 c))
of_text xs c scalar h = alike_of_same (char_in_single xs c scalar h)

-- ---- what the parser says of a text

matches_as : (o : Option (Nested Re × Names)) (most : ℕ) (a b : Re) (names : Names) → SameCaptures a b →
    IsSomeAnd o (λ (re, found). (re.depth ≤ most) × SameCaptures b re.value × (names ≡ found) × (group_count b ≤ length names)) →
    IsSomeAnd o (λ (re, _). SameCaptures a re.value)
matches_as None most a b names same p = absurd p
matches_as (Some found) most a b names same p = same also p.1

-- a pattern whose tree matches one character of the ranges matches one of them
pub matches_one_of : (config : Config) (pattern : List ℕ) (hir : Hir) (names : Names) (rs : List Range) →
    SameCaptures (char_in rs) (meaning hir) → Reads config pattern hir names → MatchesOneOf config (chars pattern) rs
unfolding Reads MatchesOneOf
matches_one_of config pattern hir names rs same p =
    matches_as (read config (chars pattern)) config.nest_limit (char_in rs) (meaning hir) names same p

is_there : {A : Type 0} (o : Option A) (P : A → Type 0) → IsSomeAnd o P → IsSome o
is_there None P p = absurd p
is_there (Some x) P p = refl

-- what the parser reads is a pattern
pub is_pattern : (config : Config) (pattern : List ℕ) (hir : Hir) (names : Names) →
    Reads config pattern hir names → IsSome (read config (chars pattern))
unfolding Reads
is_pattern config pattern hir names p = is_there (read config (chars pattern)) _ p

-- where memory did not run out, what the parser refuses is refused
pub refused_as : (config : Config) (pattern : List ℕ) (kind : ErrorKind) → (kind ≡ OutOfMemory → ⊥) →
    Refuses config pattern kind → IsRefusedAs config (chars pattern) kind
unfolding Refuses IsRefusedAs
refused_as config pattern kind memory (inl out) = absurd (memory out)
refused_as config pattern kind memory (inr refused) = refused
