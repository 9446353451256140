-- What is wrong with a class.
use Rattle.std.specs.Prelude.{◌≡◌, ⊤, ℕ, ◌+◌, ◌<◌, ◌≤◌, ◌⊎◌, Bool, false, ◌&&◌, nat_le, if◌then◌else◌, List, [], ◌∷◌, ◌++◌, chars, codes, All, Any}
use Prim.Native.Char.{code}
use Rattle.fancy_lex.specs.declared.flags.Flags.{Flags}
use Rattle.fancy_syntax.specs.declared.span.Span.{Span}
use Rattle.class_meaning.specs.CharacterSet.{has_character}
use Rattle.class_meaning.specs.ClassMeaning.{class_config, IsMeaningOf, IsRefusedAs}
use Rattle.class_meaning.specs.declared.character_set.CharacterSet.{CharacterSet}
use Rattle.class_meaning.specs.declared.class_text.ClassMeaning.TheVariants.{Characters}
use Rattle.class_rules.specs.ClassSource.{HasCharacters, SameCharacters, IsTextAt, IsAll, LeavesOut, IsInBrackets}
use Rattle.class_rules.specs.declared.class_problem.CharacterKind.{CharacterKind}
use Rattle.class_rules.specs.declared.class_problem.CharacterKind.TheVariants.{Digit, UpperCase, LowerCase, Other}
use Rattle.class_rules.specs.declared.class_problem.ClassFinding.{ClassFinding}
use Rattle.class_rules.specs.declared.class_problem.ClassLook.{ClassLook}
use Rattle.class_rules.specs.declared.class_problem.ClassLook.TheVariants.{Alternatives, PosixClass, DoubledBackslashes, WideRange, Word}
use Rattle.class_rules.specs.declared.class_problem.ClassProblem.{ClassProblem}
use Rattle.class_rules.specs.declared.class_problem.ClassProblem.TheVariants as problem

-- the kind of a character
abbrev pub character_kind : ℕ → CharacterKind
character_kind c =
    if nat_le 48 c && nat_le c 57 then Digit
    else if nat_le 65 c && nat_le c 90 then UpperCase
    else if nat_le 97 c && nat_le c 122 then LowerCase
    else Other

-- the class has the same characters without the part at the span
abbrev pub IsNeedless : Flags → Bool → List ℕ → Span → Type 0
IsNeedless f casei source span =
    (kept : List ℕ) × LeavesOut source span kept × SameCharacters f casei (chars source) (chars kept)

-- the part at the span is a range from the one character to the other
abbrev pub IsRangeAt : Flags → List ℕ → Span → ℕ → ℕ → Type 0
IsRangeAt f source span first last =
    (alone : List ℕ) × IsInBrackets source span alone
    × (set : CharacterSet) × HasCharacters f false (chars alone) set × (set.class.ranges.items ≡ (first, last) ∷ [])

-- the part at the span is a range from a character of the one kind to one of the other, and the kinds differ
abbrev pub IsMixedRange : Flags → List ℕ → Span → CharacterKind → CharacterKind → Type 0
IsMixedRange f source span kind other =
    (first last : ℕ) × IsRangeAt f source span first last × (character_kind first ≡ kind) × (character_kind last ≡ other)
    × (kind ≡ other → ⊥)

-- the part at the span is this one character
abbrev pub IsCharacterAt : List ℕ → Span → ℕ → Type 0
IsCharacterAt source span c = (part : List ℕ) × IsTextAt source span part × (chars part ≡ c ∷ [])

-- the class has a bar, which is written as itself
abbrev pub HasBar : List ℕ → Type 0
HasBar source = (span : Span) × IsCharacterAt source span (code "|")

-- the class has an escaped backslash in two places
abbrev pub HasTwoBackslashes : List ℕ → Type 0
HasTwoBackslashes source =
    (one other : Span) × (one.end ≤ other.start) × IsTextAt source one (codes "\\\\") × IsTextAt source other (codes "\\\\")

-- the rest is the text, or the text after a caret
abbrev pub IsAfterCaret : List ℕ → List ℕ → Type 0
IsAfterCaret text rest = (text ≡ rest) ⊎ (text ≡ codes "^" ++ rest)

-- the class begins with a colon, which may follow a caret, and ends with one
abbrev pub IsBetweenColons : List ℕ → Type 0
IsBetweenColons source =
    (text inside : List ℕ) × (source ≡ codes "[" ++ text) × IsAfterCaret text (codes ":" ++ (inside ++ codes ":]"))

-- the character is between the two, and neither of them
abbrev pub IsBetween : ℕ → ℕ → ℕ → Type 0
IsBetween first last c = (first < c) × (c < last)

-- from the one character to the other are characters of several kinds
abbrev pub AreOfSeveralKinds : ℕ → ℕ → Type 0
AreOfSeveralKinds first last =
    (character_kind first ≡ character_kind last → ⊥)
    ⊎ (IsBetween first last (code "0") ⊎ (IsBetween first last (code "A") ⊎ IsBetween first last (code "a")))

-- the text is a range from the one character to the other, which are written as themselves
abbrev pub IsPlainRange : List ℕ → ℕ → ℕ → Type 0
IsPlainRange text first last = chars text ≡ first ∷ code "-" ∷ last ∷ []

-- the part at the span is a range over several kinds of characters, whose ends are written as themselves
abbrev pub IsWideRange : List ℕ → Span → Type 0
IsWideRange source span =
    (part : List ℕ) × IsTextAt source span part
    × (first last : ℕ) × IsPlainRange part first last × AreOfSeveralKinds first last

-- the part at the span begins with a backslash
abbrev pub IsEscapeAt : List ℕ → Span → Type 0
IsEscapeAt source span = (part rest : List ℕ) × IsTextAt source span part × (chars part ≡ code "\\" ∷ rest)

-- the part at the span is a bar, directly between two escapes
abbrev pub IsBarBetween : List ℕ → Span → Type 0
IsBarBetween source bar =
    IsCharacterAt source bar (code "|")
    × (one other : Span) × (one.end ≡ bar.start) × (bar.end ≡ other.start) × IsEscapeAt source one × IsEscapeAt source other

-- from the one to the other are four to seven characters of punctuation, one of which is the hyphen
abbrev pub IsOverHyphen : ℕ → ℕ → Type 0
IsOverHyphen first last =
    IsBetween first last (code "-") × (code ")" ≤ first) × (last ≤ code "/") × (first + 2 < last)

-- the range is from punctuation to punctuation, over digits or letters, in a class with `\w`
abbrev pub IsOverWord : List ℕ → ℕ → ℕ → Type 0
IsOverWord source first last =
    (character_kind first ≡ Other) × (character_kind last ≡ Other) × (last < code "~") × AreOfSeveralKinds first last
    × (span : Span) × IsTextAt source span (codes "\\w")

-- the range from the one to the other is likely meant as a hyphen between the two
abbrev pub IsMeantAsHyphen : List ℕ → ℕ → ℕ → Type 0
IsMeantAsHyphen source first last = IsOverHyphen first last ⊎ IsOverWord source first last

-- the part at the span is such a range, whose ends are written as themselves
abbrev pub IsHyphenRange : List ℕ → Span → Type 0
IsHyphenRange source span =
    (part : List ℕ) × IsTextAt source span part × (first last : ℕ) × IsPlainRange part first last × IsMeantAsHyphen source first last

-- what shows, at the span, that the class is likely meant as something else
abbrev pub ShowsLook : List ℕ → Span → ClassLook → Type 0
ShowsLook source span Alternatives = IsAll source span × HasBar source
ShowsLook source span PosixClass = IsAll source span × IsBetweenColons source
ShowsLook source span DoubledBackslashes = IsAll source span × HasTwoBackslashes source
ShowsLook source span WideRange = IsWideRange source span
ShowsLook source span Word = IsAll source span

-- the character is a digit or a letter of ASCII, or a bar
abbrev pub IsChoiceCharacter : ℕ → Type 0
IsChoiceCharacter c = (character_kind c ≡ Other → ⊥) ⊎ (c ≡ code "|")

-- the part at the span begins with such a character
abbrev pub BeginsAsChoice : List ℕ → Span → Type 0
BeginsAsChoice source span =
    (part rest : List ℕ) × (c : ℕ) × IsTextAt source span part × (chars part ≡ c ∷ rest) × IsChoiceCharacter c

-- that the part at the span can be left out speaks for the look: for alternatives a bar, a digit or a letter does
abbrev pub SpeaksFor : ClassLook → List ℕ → Span → Type 0
SpeaksFor Alternatives source span = BeginsAsChoice source span
SpeaksFor _ source span = ⊤

-- a part of the class can be left out, which speaks for the look; and at the span is what shows this look
abbrev pub IsSuspicious : Flags → Bool → List ℕ → Span → ClassLook → Type 0
IsSuspicious f casei source span look =
    ((part : Span) × IsNeedless f casei source part × SpeaksFor look source part) × ShowsLook source span look

-- The problem is one of the class that the pattern has as `source`, and for which the engine is given `text`; it is
-- wrong with the part of the source at the span. That a branch is contained is no problem of a class.
abbrev pub IsProblemAt : Flags → Bool → List ℕ → List ℕ → Span → ClassProblem → Type 0
IsProblemAt f casei source text span (problem.Invalid kind) =
    IsAll source span × IsRefusedAs (class_config f.unicode casei) (chars text) kind
IsProblemAt f casei source text span problem.Empty =
    IsAll source span
    × (set : CharacterSet) × IsMeaningOf (class_config f.unicode casei) (chars text) (Characters set)
    × ((c : ℕ) → has_character set c ≡ false)
IsProblemAt f casei source text span problem.DuplicateCharacters = IsNeedless f casei source span
IsProblemAt f casei source text span (problem.SuspiciousClass look) = IsSuspicious f casei source span look
IsProblemAt f casei source text span (problem.SuspiciousRange first last) = IsMixedRange f source span first last
IsProblemAt f casei source text span problem.BarBetweenEscapes = IsBarBetween source span
IsProblemAt f casei source text span problem.HyphenRange = IsHyphenRange source span
IsProblemAt f casei source text span (problem.SubsumedBranch other branch) = ⊥

-- each finding is a problem of the class
abbrev pub AreProblems : Flags → Bool → List ℕ → List ℕ → List ClassFinding → Type 0
AreProblems f casei source text = All (λ finding. IsProblemAt f casei source text finding.span finding.problem)

-- if each finding of the earlier list is a problem of the class, then so is each of the later one
abbrev pub KeepsProblems : Flags → Bool → List ℕ → List ClassFinding → List ClassFinding → Type 0
KeepsProblems f casei source old new =
    (text : List ℕ) → AreProblems f casei source text old → AreProblems f casei source text new

-- one of the findings is of a part that can be left out, which speaks for the look
abbrev pub HasNeedless : ClassLook → List ℕ → List ClassFinding → Type 0
HasNeedless look source =
    Any (λ finding. (finding.problem ≡ problem.DuplicateCharacters) × SpeaksFor look source finding.span)
