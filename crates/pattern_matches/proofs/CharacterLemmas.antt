-- The characters of nodes that match one character.
use Rattle.std.proofs.Common.{◌≡◌, ℕ, ◌+◌, ◌/◌, ◌%◌, ◌<◌, Bool, true, false, cond, List, [], ◌∷◌, All, Option, Some, None, is_some}
use Rattle.std.proofs.Common.{IsSomeAnd, option_and_then, encode_utf8, refl, sym, ap, ◌∙◌, append-nil, arith, ⊎_elim}
use Rattle.std.proofs.lemmas.Bool.{cases_lt}
use Rattle.std.proofs.lemmas.Bool.Decides.{nat_tests}
use Rattle.std.proofs.lemmas.List.Elements.{All-nil, All-cons, All-same}
use Rattle.std.proofs.lemmas.Str.{encode_ascii}
use Rattle.std.specs.Char.{IsScalar, len_utf8}
use Rattle.regex_class.specs.Ranges.{Range, in_ranges}
use Rattle.regex_hir.specs.Re.{Re, char_in, accept, attempt}
use Rattle.regex_hir.specs.Text.{char_at, is_scalar}
use Rattle.regex_hir.proofs.TextLemmas.{char_at_from, IsScalar-of_is_scalar}
use Rattle.regex_hir.proofs.Utf8Lemmas.{encode_two, encode_three, encode_four}
use Rattle.regex_syntax.specs.declared.Config.{Config}
use Rattle.regex_syntax.specs.Brackets.{Nested}
use Rattle.regex_syntax.specs.Captures.{SameCaptures, outcome}
use Rattle.regex_syntax.specs.Grammar.{Names, read}
use Rattle.regex_syntax.specs.Reading.{Text}
use Rattle.fancy_grammar.specs.Label as label
use Rattle.fancy_grammar.specs.Tree.{Tree, leaf, over, row}
use Rattle.class_meaning.specs.ClassMeaning.{MatchesOneOf}
use Rattle.class_meaning.specs.EnginePattern.{engine_pattern}
use Rattle.pattern_matches.specs.Parts.{One, one}
use Rattle.pattern_matches.specs.Matches.{Assertions, HasCharacter, IsOneOf, Matches}
use Rattle.pattern_matches.specs.SameMatches.{Within, Covers}

-- ---- the bytes of a character

abbrev AreBytes : List ℕ → Type 0
AreBytes = All (λ x. x < 256)

no_bytes : AreBytes []
no_bytes = All-nil (λ x. x < 256)

byte : (x : ℕ) (xs : List ℕ) → x < 256 → AreBytes xs → AreBytes (x ∷ xs)
byte x xs h k = All-cons (λ x. x < 256) x xs h k

one_byte : (c : ℕ) → c < 0x80 → AreBytes (encode_utf8 c)
one_byte c h = All-same (λ x. x < 256) (encode_utf8 c) (c ∷ []) (encode_ascii c h) (byte c [] (omega arith) no_bytes)

two_bytes : (c a b : ℕ) → encode_utf8 c ≡ a ∷ b ∷ [] → a < 256 → b < 256 → AreBytes (encode_utf8 c)
two_bytes c a b e h k = All-same (λ x. x < 256) (encode_utf8 c) (a ∷ b ∷ []) e (byte a (b ∷ []) h (byte b [] k no_bytes))

three_bytes : (c a b d : ℕ) → encode_utf8 c ≡ a ∷ b ∷ d ∷ [] → a < 256 → b < 256 → d < 256 → AreBytes (encode_utf8 c)
three_bytes c a b d e h k l = All-same (λ x. x < 256) (encode_utf8 c) (a ∷ b ∷ d ∷ []) e
    (byte a (b ∷ d ∷ []) h (byte b (d ∷ []) k (byte d [] l no_bytes)))

four_bytes : (c a b d f : ℕ) → encode_utf8 c ≡ a ∷ b ∷ d ∷ f ∷ [] → a < 256 → b < 256 → d < 256 → f < 256 →
    AreBytes (encode_utf8 c)
four_bytes c a b d f e h k l m = All-same (λ x. x < 256) (encode_utf8 c) (a ∷ b ∷ d ∷ f ∷ []) e
    (byte a (b ∷ d ∷ f ∷ []) h (byte b (d ∷ f ∷ []) k (byte d (f ∷ []) l (byte f [] m no_bytes))))

below : (c : ℕ) → IsScalar c → c < 0x11_0000
below c h = grind (arith, nat_tests)

encoded : (c : ℕ) → IsScalar c → AreBytes (encode_utf8 c)
encoded c h =
    let high : c < 0x11_0000 = below c h in
    ⊎_elim (one_byte c)
    (λ two. ⊎_elim
    (λ below_three. two_bytes c (192 + c / 64) (128 + c % 64) (encode_two c two below_three) (omega arith) (omega arith))
    (λ three. ⊎_elim
    (λ below_four. three_bytes c (224 + c / 4096) (128 + (c / 64) % 64) (128 + c % 64) (encode_three c three below_four)
    (omega arith) (omega arith) (omega arith))
    (λ four. four_bytes c (240 + c / 262144) (128 + (c / 4096) % 64) (128 + (c / 64) % 64) (128 + c % 64)
    (encode_four c four) (omega arith) (omega arith) (omega arith) (omega arith))
    (cases_lt c 0x1_0000))
    (cases_lt c 0x800))
    (cases_lt c 0x80)

-- ---- ranges that a node is read as one character of have the same characters

passes : (b : Bool) (i : ℕ) → is_some (outcome (cond b (accept i) None)) ≡ b
unfolding outcome
passes true i = refl
passes false i = refl

-- whether the ranges match a text of one character
seen : (c : ℕ) (rs : List Range) (hay : List ℕ) → char_at hay 0 ≡ Some c →
    is_some (outcome (attempt hay (char_in rs) accept 0)) ≡ in_ranges rs c
unfolding attempt
seen c rs hay found =
    ap (λ o. is_some (outcome (option_and_then (λ d. cond (in_ranges rs d) (accept (0 + len_utf8 d)) None) o))) found
    ∙ passes (in_ranges rs c) (0 + len_utf8 c)

same_inside : (xs ys : List Range) → SameCaptures (char_in xs) (char_in ys) → (c : ℕ) → is_scalar c ≡ true →
    in_ranges xs c ≡ in_ranges ys c
same_inside xs ys same c h =
    let scalar : IsScalar c = IsScalar-of_is_scalar c h in
    let found : char_at (encode_utf8 c) 0 ≡ Some c =
    char_at_from (encode_utf8 c) 0 c [] scalar (sym (append-nil (encode_utf8 c))) in
    sym (seen c xs (encode_utf8 c) found)
    ∙ ap is_some (same.at (encode_utf8 c) (encoded c scalar) accept 0)
    ∙ seen c ys (encode_utf8 c) found

both_read : (o : Option (Nested Re × Names)) (xs ys : List Range) →
    IsSomeAnd o (λ (re, _). SameCaptures (char_in xs) re.value) →
    IsSomeAnd o (λ (re, _). SameCaptures (char_in ys) re.value) →
    SameCaptures (char_in xs) (char_in ys)
both_read None xs ys k l = absurd k
both_read (Some found) xs ys k l = record { at = λ hay ok rest i. k.at hay ok rest i ∙ sym (l.at hay ok rest i) }

both_match : (o : Option (Config × Text)) (xs ys : List Range) →
    IsSomeAnd o (λ (config, text). MatchesOneOf config text xs) →
    IsSomeAnd o (λ (config, text). MatchesOneOf config text ys) → SameCaptures (char_in xs) (char_in ys)
unfolding MatchesOneOf
both_match None xs ys k l = absurd k
both_match (Some p) xs ys k l = both_read (read p.0 p.1) xs ys k l

pub same_ranges : (u : Bool) (t : Tree) (xs ys : List Range) → IsOneOf u t xs → IsOneOf u t ys → (c : ℕ) →
    is_scalar c ≡ true → in_ranges xs c ≡ in_ranges ys c
same_ranges u t xs ys k l = same_inside xs ys (both_match (engine_pattern u t) xs ys k l)

-- ---- nodes

moved : (Has Gets : ℕ → Type 0) → ((c : ℕ) → Has c → Gets c) → Within (One Has) (One Gets)
moved Has Gets f p q (one h) = one (f _ h)

one_of : (u : Bool) (s : Assertions) (t : Tree) (xs : List Range) → IsOneOf u t xs →
    Within (Matches u s t) (One (HasCharacter u t))
one_of u s (leaf (label.any newline crlf)) xs is p q k = k
one_of u s (leaf (label.literal text casei)) xs is p q k = k
one_of u s (leaf (label.delegate text casei)) xs is p q k = k
one_of u s (leaf _) xs is p q k = absurd is
one_of u s (over w t) xs is p q k = absurd is
one_of u s (row r ts) xs is p q k = absurd is

of_one : (u : Bool) (s : Assertions) (t : Tree) (xs : List Range) → IsOneOf u t xs →
    Within (One (HasCharacter u t)) (Matches u s t)
of_one u s (leaf (label.any newline crlf)) xs is p q k = k
of_one u s (leaf (label.literal text casei)) xs is p q k = k
of_one u s (leaf (label.delegate text casei)) xs is p q k = k
of_one u s (leaf _) xs is p q k = absurd is
of_one u s (over w t) xs is p q k = absurd is
of_one u s (row r ts) xs is p q k = absurd is

has_too : (u : Bool) (t v : Tree) (xs ys : List Range) → IsOneOf u t xs → IsOneOf u v ys →
    ((c : ℕ) → in_ranges xs c ≡ true → in_ranges ys c ≡ true) → (c : ℕ) → HasCharacter u t c → HasCharacter u v c
has_too u t v xs ys is other f c k = record {
  ranges = ys;
  reads = other;
  inside = f c (same_ranges u t xs k.ranges is k.reads c k.scalar ∙ k.inside);
  scalar = k.scalar;
}

-- a node whose characters are all characters of another node
pub covers_characters : (u : Bool) (t v : Tree) (xs ys : List Range) → IsOneOf u t xs → IsOneOf u v ys →
    ((c : ℕ) → in_ranges xs c ≡ true → in_ranges ys c ≡ true) → Covers u v t
covers_characters u t v xs ys is other f s p q k =
    of_one u s v ys other p q
    (moved (HasCharacter u t) (HasCharacter u v) (has_too u t v xs ys is other f) p q (one_of u s t xs is p q k))
