-- A literal of one character that does not ignore case is read as that character.
use Rattle.std.proofs.Common.{◌≡◌, ℕ, ◌≤◌, Bool, true, false, List, [], ◌∷◌, ◌++◌, encode_utf8, chars, string_bytes, String, rules, IfSome, IsSomeAnd, ◌==◌, Option, None, Some, inl, arith, eqb-true, eq-eqb, refl, sym, ap, ◌∙◌, subst, append-nil}
use Rattle.std.specs.Char.{IsScalar, len_utf8}
use Rattle.std.proofs.lemmas.Bool.{cond_both}
use Rattle.std.proofs.lemmas.Str.{IsUtf8-encode, chars_from_encodes, chars-encodes, scalars-chars}
use lib.Utf8.{scalars, encodes}
use Rattle.regex_class.specs.Ranges.{Range, in_ranges}
use Rattle.regex_hir.specs.Re as re
use Rattle.regex_hir.specs.Re.{Re, char_in}
use Rattle.regex_syntax.specs.Brackets.{Nested}
use Rattle.regex_syntax.specs.Captures.{SameCaptures}
use Rattle.regex_syntax.specs.Grammar.{Names, read}
use Rattle.regex_syntax.specs.Verdict.{ReadsAsText, escaped_text, is_meta}
use Rattle.regex_syntax.proofs.EscapeLemmas.{escaped_reads}
use Rattle.regex_syntax.proofs.SameLemmas.{in_ranges_single}
use Rattle.std.specs.Prelude.{MatchOption}
use Rattle.class_meaning.specs.CharacterSet.{has_character}
use Rattle.class_meaning.specs.ClassMeaning.{IsMeaningOf, MatchesOneOf, class_config}
use Rattle.class_meaning.specs.EnginePattern.{engine_pattern}
use Rattle.class_meaning.specs.declared.character_set.CharacterSet.{CharacterSet}
use Rattle.class_meaning.specs.declared.class_text.ClassMeaning.TheVariants.{Characters, NotOneCharacter}
use Rattle.class_meaning.proofs.OneCharacterLemmas.{of_text}
use Rattle.regex_hir.proofs.TextLemmas.{is_scalar-of_IsScalar}
use Rattle.std.specs.declared.alloc.Global.{Global}
use Rattle.fancy_lex.specs.Text.{text_of}
use Rattle.fancy_grammar.specs.Tree.{Tree, literal}
use Rattle.fancy_syntax.specs.View.{view}
use Rattle.fancy_syntax.specs.declared.expr.Expr.{Expr, Literal, the_lemmas}
use Rattle.pattern_matches.specs.Defined.{IsOneCharacter}
use Rattle.pattern_matches.specs.Matches.{HasCharacter}
use Rattle.pattern_matches.proofs.CharacterLemmas.{same_ranges}
use Rattle.pattern_facts.specs.Bytes.{AreBytesOfOne}
use Rattle.pattern_facts.specs.Known.{IsKnownAs}
use Rattle.pattern_facts.specs.Lengths.{AreLengths}
use Rattle.pattern_facts.specs.declared.node_facts.Facts.{Facts}

abbrev pub only : ℕ → List Range
only c = (c, c) ∷ []

read_as : (o : Option (Nested Re × Names)) (rs : List Range) (text : List ℕ) → SameCaptures (char_in rs) (re.literal text) →
    IsSomeAnd o (λ (found, names). (found.depth ≤ 1) × SameCaptures found.value (re.literal text) × (names ≡ None ∷ [])) →
    IsSomeAnd o (λ (found, _). SameCaptures (char_in rs) found.value)
read_as None rs text same k = absurd k
read_as (Some found) rs text same k = record { at = λ hay ok rest i. same.at hay ok rest i ∙ sym (k.1.at hay ok rest i) }

escaped_scalars : (c : ℕ) → scalars (c ∷ []) ≡ true → scalars (escaped_text (c ∷ [])) ≡ true
escaped_scalars c h =
    cond_both (is_meta c) (0x5C ∷ c ∷ []) (c ∷ []) (λ t. scalars (t ++ []) ≡ true) (λ _. h) (λ _. h)

pub plain_reads : (u : Bool) (c : ℕ) (rs : List Range) → IsScalar c → ((d : ℕ) → in_ranges rs d ≡ (d == c)) →
    MatchesOneOf (class_config u false) (escaped_text (c ∷ [])) rs
unfolding MatchesOneOf ReadsAsText
plain_reads u c rs scalar h =
    let utf8 = IsUtf8-encode c scalar in
    let one : c ∷ [] ≡ chars (encode_utf8 c) =
    chars_from_encodes (c ∷ []) (encode_utf8 c) utf8 (append-nil (encode_utf8 c)) in
    let all : scalars (c ∷ []) ≡ true = ap scalars one ∙ scalars-chars (encode_utf8 c) utf8 in
    let back : chars (encodes (escaped_text (chars (encode_utf8 c)))) ≡ escaped_text (c ∷ []) =
    ap (λ w. chars (encodes (escaped_text w))) (sym one) ∙ chars-encodes (escaped_text (c ∷ [])) (escaped_scalars c all) in
    subst (λ w. IsSomeAnd (read (class_config u false) w) (λ (found, _). SameCaptures (char_in rs) found.value)) back
    (read_as (read (class_config u false) (chars (encodes (escaped_text (chars (encode_utf8 c)))))) rs (encode_utf8 c)
    (of_text rs c scalar h) (escaped_reads (encode_utf8 c) utf8 (class_config u false) refl refl))

-- ---- the facts of such a literal

pub plain_defined : (u : Bool) (c : ℕ) → IsScalar c → IsOneCharacter u (literal (c ∷ []) false)
plain_defined u c scalar = (only c, plain_reads u c (only c) scalar (in_ranges_single c))

pub only_it : (u : Bool) (c : ℕ) → IsScalar c → (d : ℕ) → HasCharacter u (literal (c ∷ []) false) d → d ≡ c
only_it u c scalar d k =
    let is = plain_reads u c (only c) scalar (in_ranges_single c) in
    let same = same_ranges u (literal (c ∷ []) false) k.ranges (only c) k.reads is d k.scalar in
    eqb-true d c (sym (in_ranges_single c d) ∙ sym same ∙ k.inside)

has_it : (u : Bool) (c : ℕ) → IsScalar c → HasCharacter u (literal (c ∷ []) false) c
has_it u c scalar = record {
  ranges = only c;
  reads = plain_reads u c (only c) scalar (in_ranges_single c);
  inside = in_ranges_single c c ∙ eq-eqb c c refl;
  scalar = is_scalar-of_IsScalar c scalar;
}

one_byte_length : (u : Bool) (c : ℕ) → IsScalar c →
    AreBytesOfOne (HasCharacter u (literal (c ∷ []) false)) (len_utf8 c) (len_utf8 c)
one_byte_length u c scalar = record {
  within = λ d k.
      let e = ap len_utf8 (only_it u c scalar d k) in
      (omega (arith, e), omega (arith, e));
  reached = inl ((c, has_it u c scalar, refl), (c, has_it u c scalar, refl));
}

-- what the facts are of such a literal
pub record AreOfCharacter (c : ℕ) (f : Facts) : Type 0 where
  pub characters : AreLengths 1 (Some 1) f.characters
  pub bytes : AreLengths (len_utf8 c) (Some (len_utf8 c)) f.bytes
  pub start : f.is_anchored_at_start ≡ false
  pub end : f.is_anchored_at_end ≡ false

pub plain_known : (u : Bool) (t : Tree) (c : ℕ) (f : Facts) → IsScalar c → t ≡ literal (c ∷ []) false →
    AreOfCharacter c f → IsKnownAs u t f
plain_known u t c f scalar is h = subst (λ x. IsKnownAs u x f) (sym is) (record {
  defined = plain_defined u c scalar;
  characters = h.characters;
  bytes = (len_utf8 c, Some (len_utf8 c), one_byte_length u c scalar, h.bytes);
  start = h.start;
  end = h.end;
})

-- what the engine makes of it
pub plain_meaning : (u : Bool) (t : Tree) (c : ℕ) (set : CharacterSet) → IsScalar c → t ≡ literal (c ∷ []) false →
    ((d : ℕ) → has_character set d ≡ (d == c)) → MatchOption (engine_pattern u t) (Characters set ≡ NotOneCharacter)
    (λ (config, text). IsMeaningOf config text (Characters set))
plain_meaning u t c set scalar is h =
    subst (λ x. MatchOption (engine_pattern u x) (Characters set ≡ NotOneCharacter)
    (λ (config, text). IsMeaningOf config text (Characters set))) (sym is)
    (plain_reads u c set.class.ranges.items scalar h)

-- ---- the code's literals

view_literal : (val : String Global) (casei : Bool) → view (Literal val casei) ≡ literal (text_of val) casei
view_literal val casei = search (rules, the_lemmas)

-- a text whose bytes are those of one character
one_character : (val : String Global) (c : ℕ) → IsScalar c → string_bytes val ≡ encode_utf8 c → text_of val ≡ c ∷ []
one_character val c scalar is =
    ap chars is ∙ sym (chars_from_encodes (c ∷ []) (encode_utf8 c) (IsUtf8-encode c scalar) (append-nil (encode_utf8 c)))

pub plain_view : (node : Expr) (val : String Global) (casei : Bool) (bytes : List ℕ) (o : Option ℕ) →
    node ≡ Literal val casei → casei ≡ false → bytes ≡ string_bytes val →
    IfSome o (λ c. IsScalar c × (bytes ≡ encode_utf8 c)) →
    IfSome o (λ c. IsScalar c × (view node ≡ literal (c ∷ []) false))
plain_view node val casei bytes None is plain same h = tt
plain_view node val casei bytes (Some c) is plain same h = (
  h.0,
  ap view is ∙ view_literal val casei ∙ ap (λ b. literal (text_of val) b) plain
      ∙ ap (λ w. literal w false) (one_character val c h.0 (sym same ∙ h.1)),
)
