-- The text of a character is read as that character, whatever follows.
use Rattle.std.proofs.Common.{◌≡◌, ℕ, ◌+◌, ◌*◌, ◌/◌, ◌%◌, ◌<◌, ◌≤◌, Bool, true, false, not, ◌&&◌, ◌||◌, ◌==◌, nat_le}
use Rattle.std.proofs.Common.{nat_lt, [], ◌∷◌, ◌++◌, codes, Option, Some, refl, sym, ap, ◌∙◌, subst, arith, lt-ltb}
use Rattle.std.proofs.Common.{⊎_elim, ◌⊎◌, inl, inr, eqb-true, if◌then◌else◌}
use Rattle.std.proofs.lemmas.Bool.{cond-true, cond-false, cond_both, or_parts, or_cases, and_parts, and_from}
use Rattle.std.proofs.lemmas.Bool.{false≢true}
use Rattle.std.proofs.lemmas.Bool.Decides.{nat_tests}
use Rattle.std.specs.Char.{is_ascii_digit, is_ascii_alphanumeric}
use Rattle.std.proofs.lemmas.Option.{same_Some}
use Prim.Native.Char.{code}
use Rattle.fancy_lex.specs.Characters.{is_among, ◌∈◌, metacharacters}
use Rattle.fancy_lex.specs.Class.{upper_hex_digit}
use Rattle.fancy_lex.specs.Escape.{escape, escape_at, lone_escape, letter_of, outside}
use Rattle.fancy_lex.specs.Escaped as escaped
use Rattle.fancy_lex.specs.Hex as hexes
use Rattle.fancy_lex.specs.Hex.{hex, fixed_digits, value, leaf_of_value, is_scalar}
use Rattle.fancy_lex.specs.LayoutSteps.{layout, is_layout, rest}
use Rattle.fancy_lex.specs.Reading.{gives, choose}
use Rattle.fancy_lex.specs.Text.{Text, reach_of}
use Rattle.fancy_lex.specs.declared.escape.Assertion.TheVariants.{LeftWordBoundary, RightWordBoundary}
use Rattle.fancy_lex.specs.declared.flags.Flags.{Flags}
use Rattle.fancy_grammar.specs.PatternLetters as letters
use Rattle.fancy_grammar.specs.PatternLetters.{is_unseen, coded, plain, character}
use Rattle.fancy_grammar.specs.PatternNeeds.{is_kept_by_backslash}
use Rattle.fancy_lex.proofs.ReadingLemmas.{choose_both}
use Rattle.fancy_pattern.proofs.PatternLaws.Rules.{not_layout}
use Rattle.fancy_grammar.proofs.ReadBack.ChunkLemmas.{hex_value, hex_paren, digits_read}
use Rattle.fancy_grammar.proofs.ReadBack.ClearLemmas.{apart, not_open, no_more, also, each_among}

-- ---- codes

hex_layout : (d : ℕ) → d < 16 → is_layout true (upper_hex_digit d) ≡ false
hex_layout d h = grind (arith, nat_tests)

both_layout : (x : Bool) (c : ℕ) → is_layout true c ≡ false → is_layout x c ≡ false
both_layout true c h = h
both_layout false c h = refl

digits_layout : (x : Bool) (d : ℕ) (t : Text) → d < 16 → layout x (upper_hex_digit d ∷ t) ≡ rest (upper_hex_digit d ∷ t)
digits_layout x d t h =
    not_layout x (upper_hex_digit d) t (not_open _ t (hex_paren d h))
    (both_layout x (upper_hex_digit d) (hex_layout d h))

digits_four : (a b c d : ℕ) (s : Text) → a < 16 → b < 16 → c < 16 → d < 16 →
    fixed_digits 4 0 (upper_hex_digit a ∷ upper_hex_digit b ∷ upper_hex_digit c ∷ upper_hex_digit d ∷ s)
    ≡ Some ((((0 * 16 + a) * 16 + b) * 16 + c) * 16 + d, s)
unfolding fixed_digits hexes.hex_digit
digits_four a b c d s h k m n =
    rw (
      hex_value a h,
      lt-ltb a 16 h,
      hex_value b k,
      lt-ltb b 16 k,
      hex_value c m,
      lt-ltb c 16 m,
      hex_value d n,
      lt-ltb d 16 n,
    ) refl

hex_two : (f : Flags) (a b n : ℕ) (s : Text) → a < 16 → b < 16 → a * 16 + b ≡ n →
    hex f 2 (upper_hex_digit a ∷ upper_hex_digit b ∷ s)
    ≡ leaf_of_value f 2 (reach_of (upper_hex_digit a ∷ upper_hex_digit b ∷ s)) n s
unfolding hex value
hex_two f a b n s h k e =
    let t = upper_hex_digit a ∷ upper_hex_digit b ∷ s in
    let same : (0 * 16 + a) * 16 + b ≡ n = omega arith in
    rw (digits_layout f.ignore_space a (upper_hex_digit b ∷ s) h, digits_read a b s h k) (
    ap (λ v. leaf_of_value f 2 (reach_of t) v s) same)

hex_four : (f : Flags) (a b c d n : ℕ) (s : Text) → a < 16 → b < 16 → c < 16 → d < 16 →
    ((a * 16 + b) * 16 + c) * 16 + d ≡ n →
    hex f 4 (upper_hex_digit a ∷ upper_hex_digit b ∷ upper_hex_digit c ∷ upper_hex_digit d ∷ s)
    ≡ leaf_of_value f 4
    (reach_of (upper_hex_digit a ∷ upper_hex_digit b ∷ upper_hex_digit c ∷ upper_hex_digit d ∷ s)) n s
unfolding hex value
hex_four f a b c d n s h k l m e =
    let t = upper_hex_digit a ∷ upper_hex_digit b ∷ upper_hex_digit c ∷ upper_hex_digit d ∷ s in
    let same : (((0 * 16 + a) * 16 + b) * 16 + c) * 16 + d ≡ n = omega arith in
    rw (
      digits_layout f.ignore_space a (upper_hex_digit b ∷ upper_hex_digit c ∷ upper_hex_digit d ∷ s) h,
      digits_four a b c d s h k l m,
    ) (ap (λ v. leaf_of_value f 4 (reach_of t) v s) same)

-- what a code is read as
small_literal : (f : Flags) (p c : ℕ) (s : Text) → c < 0x80 →
    leaf_of_value f 2 p c s ≡ gives (escaped.literal c f.casei) s
unfolding leaf_of_value
small_literal f p c s h =
    let low : nat_le 0x80 c ≡ false = grind (arith, nat_tests) in
    let scalar : is_scalar c ≡ true = grind (arith, nat_tests) in
    small f.unicode low scalar
  where
    small : (u : Bool) → nat_le 0x80 c ≡ false → is_scalar c ≡ true →
        (if 2 == 2 && not u && nat_le 0x80 c && nat_le c 0xFF then gives (escaped.literal_bytes c) s
        else if is_scalar c then gives (escaped.literal c f.casei) s
        else Rattle.fancy_lex.specs.Reading.fails (Rattle.fancy_lex.specs.ErrorTable.code_of_no_character p))
        ≡ gives (escaped.literal c f.casei) s
    small true l k = rw k refl
    small false l k = rw (l, k) refl

large_literal : (f : Flags) (p c : ℕ) (s : Text) → is_scalar c ≡ true →
    leaf_of_value f 4 p c s ≡ gives (escaped.literal c f.casei) s
unfolding leaf_of_value
large_literal f p c s h = rw h refl

byte_literal : (f : Flags) (p b : ℕ) (s : Text) → f.unicode ≡ false → 0x80 ≤ b → b ≤ 0xFF →
    leaf_of_value f 2 p b s ≡ gives (escaped.literal_bytes b) s
unfolding leaf_of_value
byte_literal f p b s u l h =
    let low : nat_le 0x80 b ≡ true = grind (arith, nat_tests) in
    let high : nat_le b 0xFF ≡ true = grind (arith, nat_tests) in
    rw (u, low, high) refl

escape_x : (f : Flags) (inside : Bool) (t : Text) → escape f inside (code "x" ∷ t) ≡ hex f 2 t
unfolding escape_at
escape_x f inside t = refl

escape_u : (f : Flags) (inside : Bool) (t : Text) → escape f inside (code "u" ∷ t) ≡ hex f 4 t
unfolding escape_at
escape_u f inside t = refl

pub reads_byte : (inside : Bool) (f : Flags) (b : ℕ) (s : Text) → f.unicode ≡ false → 0x80 ≤ b → b ≤ 0xFF →
    escape f inside (code "x" ∷ upper_hex_digit (b / 16) ∷ upper_hex_digit (b % 16) ∷ s)
    ≡ gives (escaped.literal_bytes b) s
reads_byte inside f b s u l h =
    escape_x f inside _ ∙ (hex_two f (b / 16) (b % 16) b s (omega arith) (omega arith) (omega arith)
    ∙ byte_literal f _ b s u l h)

-- ---- what follows the backslash of a character

-- the text after a backslash is read as this character, with this case flag, in a class or outside
abbrev pub EscapesIn : Bool → Flags → Bool → ℕ → Text → Type 0
EscapesIn inside f casei c t = (s : Text) → escape f inside (t ++ s) ≡ gives (escaped.literal c casei) s

abbrev pub EscapesAs : Flags → Bool → ℕ → Text → Type 0
EscapesAs f casei c t = EscapesIn false f casei c t

pub reads_small : (inside : Bool) (f : Flags) (c : ℕ) → c < 0x80 →
    EscapesIn inside f f.casei c (code "x" ∷ upper_hex_digit (c / 16) ∷ upper_hex_digit (c % 16) ∷ [])
reads_small inside f c h s =
    escape_x f inside _ ∙ (hex_two f (c / 16) (c % 16) c s (omega arith) (omega arith) (omega arith)
    ∙ small_literal f _ c s h)

pub reads_large : (inside : Bool) (f : Flags) (c : ℕ) → c < 0x10000 → is_scalar c ≡ true →
    EscapesIn inside f f.casei c
    (code "u" ∷ upper_hex_digit (c / 4096) ∷ upper_hex_digit (c / 256 % 16) ∷ upper_hex_digit (c / 16 % 16)
    ∷ upper_hex_digit (c % 16) ∷ [])
reads_large inside f c h k s =
    escape_u f inside _ ∙ (hex_four f (c / 4096) (c / 256 % 16) (c / 16 % 16) (c % 16) c s (omega arith) (omega arith)
    (omega arith) (omega arith) (omega arith) ∙ large_literal f _ c s k)

-- with the character itself
reads_kept : (f : Flags) (c : ℕ) → is_kept_by_backslash false c ≡ true → EscapesAs f false c (c ∷ [])
unfolding escape_at lone_escape
reads_kept f c h s =
    let (a, b) = and_parts (not (is_ascii_alphanumeric c)) _ h in
    let letter : is_ascii_alphanumeric c ≡ false = not_true (is_ascii_alphanumeric c) a in
    let is_not = apart is_ascii_alphanumeric c letter in
    let p = reach_of (c ∷ s) + 1 in
    let property : c ∈ "pP" ≡ false = rw (is_not (code "p") refl, is_not (code "P") refl) refl in
    cond-false _ _ _ (digit c letter)
    ∙ (cond-false _ _ _ (is_not (code "x") refl)
    ∙ (cond-false _ _ _ (is_not (code "u") refl)
    ∙ (cond-false _ _ _ (is_not (code "U") refl)
    ∙ (cond-false _ _ _ property ∙ ap (λ o. choose o (λ e. gives e s) (outside f p c s)) (cond-true _ _ _ h)))))
  where
    not_true : (b : Bool) → not b ≡ true → b ≡ false
    not_true true e = absurd cc
    not_true false e = refl

    digit : (c : ℕ) → is_ascii_alphanumeric c ≡ false → is_ascii_digit c ≡ false
    digit c h = grind (arith, nat_tests)

-- with a letter
pub escapes_letter : (inside : Bool) (f : Flags) (c d : ℕ) → letter_of c ≡ Some d → EscapesIn inside f false c (d ∷ [])
unfolding escape_at lone_escape
escapes_letter inside f c d =
    let Q : Option ℕ → Type 0 = λ o. o ≡ Some d → EscapesIn inside f false c (d ∷ []) in
    cond_both (c == code "\u{7}") _ _ Q (λ t e. from (code "a") (code "\u{7}") e t (λ s. bell s))
    (λ _. cond_both (c == code "\u{c}") _ _ Q (λ t e. from (code "f") (code "\u{c}") e t (λ s. form s))
    (λ _. cond_both (c == code "\n") _ _ Q (λ t e. from (code "n") (code "\n") e t (λ s. n s))
    (λ _. cond_both (c == code "\r") _ _ Q (λ t e. from (code "r") (code "\r") e t (λ s. r s))
    (λ _. cond_both (c == code "\t") _ _ Q (λ t e. from (code "t") (code "\t") e t (λ s. tab s))
    (λ _. cond_both (c == code "\u{b}") _ _ Q (λ t e. from (code "v") (code "\u{b}") e t (λ s. v s))
    (λ _. cond_both (c == code "\u{1b}") _ _ Q (λ t e. from (code "e") (code "\u{1b}") e t (λ s. esc s))
    (λ _ e. absurd cc)))))))
  where
    from : (y k : ℕ) → Some y ≡ Some d → (c == k) ≡ true → EscapesIn inside f false k (y ∷ []) →
        EscapesIn inside f false c (d ∷ [])
    from y k e t h =
        subst (λ z. EscapesIn inside f false c (z ∷ [])) (same_Some y d e)
        (subst (λ z. EscapesIn inside f false z (y ∷ [])) (sym (eqb-true c k t)) h)

    n : EscapesIn inside f false (code "\n") (code "n" ∷ [])
    n s = refl

    tab : EscapesIn inside f false (code "\t") (code "t" ∷ [])
    tab s = refl

    r : EscapesIn inside f false (code "\r") (code "r" ∷ [])
    r s = refl

    form : EscapesIn inside f false (code "\u{c}") (code "f" ∷ [])
    form s = refl

    v : EscapesIn inside f false (code "\u{b}") (code "v" ∷ [])
    v s = refl

    bell : EscapesIn inside f false (code "\u{7}") (code "a" ∷ [])
    bell s = refl

    esc : EscapesIn inside f false (code "\u{1b}") (code "e" ∷ [])
    esc s = refl

-- in Oniguruma mode these two are no boundaries
reads_angle : (f : Flags) (c : ℕ) → c ∈ "<>" ≡ true → f.oniguruma_mode ≡ true → EscapesAs f false c (c ∷ [])
unfolding escape_at lone_escape
reads_angle f c h o = each_among (λ c. EscapesAs f false c (c ∷ [])) (codes "<>") c (also left (also right no_more)) h
  where
    left : EscapesAs f false (code "<") (codes "<")
    left s =
        ap (λ b. gives (if b then escaped.literal (code "<") false else escaped.assertion LeftWordBoundary) s) o

    right : EscapesAs f false (code ">") (codes ">")
    right s =
        ap (λ b. gives (if b then escaped.literal (code ">") false else escaped.assertion RightWordBoundary) s) o

pub reads_by_backslash : (f : Flags) (c : ℕ) → is_kept_by_backslash f.oniguruma_mode c ≡ true →
    EscapesAs f false c (c ∷ [])
reads_by_backslash f c h =
    let (a, b) = and_parts (not (is_ascii_alphanumeric c)) _ h in
    by_test (c ∈ "<>") refl a (or_cases f.oniguruma_mode (not (c ∈ "<>")) b)
  where
    by_test : (b : Bool) → c ∈ "<>" ≡ b → not (is_ascii_alphanumeric c) ≡ true →
        (f.oniguruma_mode ≡ true) ⊎ (not (c ∈ "<>") ≡ true) → EscapesAs f false c (c ∷ [])
    by_test true e a (inl o) = reads_angle f c e o
    by_test true e a (inr n) = absurd (false≢true (ap not (sym e) ∙ n))
    by_test false e a k = reads_kept f c (and_from _ _ a (ap not e))

-- ---- characters

-- the text is the character itself, if that denotes itself here, or an escape for it
pub data Spells (f : Flags) (casei : Bool) (c : ℕ) : Text → Type 0 where
  itself : f.casei ≡ casei → is_among c metacharacters ≡ false → is_layout f.ignore_space c ≡ false →
      Spells f casei c (c ∷ [])
  by_escape : {t : Text} → EscapesAs f casei c t → Spells f casei c (code "\\" ∷ t)

-- an invisible character has a code
pub unseen_small : (c : ℕ) → is_unseen c ≡ true → (c < 0x10000) × (is_scalar c ≡ true)
unseen_small c h = grind (arith, nat_tests)

coded_spells : (f : Flags) (c : ℕ) → c < 0x10000 → is_scalar c ≡ true → Spells f f.casei c (coded c)
coded_spells f c h k =
    cond_both (nat_lt c 0x80) _ _ (Spells f f.casei c)
    (λ e. by_escape (reads_small false f c (grind (arith, nat_tests))))
    (λ e. by_escape (reads_large false f c h k))

blanks_unseen : (c : ℕ) → is_unseen c ≡ false → c ∈ " #" ≡ false → is_layout true c ≡ false
blanks_unseen c h k = grind (arith, nat_tests)

no_layout : (x : Bool) (c : ℕ) → is_unseen c ≡ false → x && c ∈ " #" ≡ false → is_layout x c ≡ false
no_layout true c h k = blanks_unseen c h k
no_layout false c h k = refl

plain_spells : (f : Flags) (c : ℕ) → is_among c metacharacters ≡ false → letters.is_printable_layout f c ≡ false →
    Spells f f.casei c (plain c)
plain_spells f c h k =
    cond_both (is_unseen c) _ _ (Spells f f.casei c)
    (λ e. let (a, b) = unseen_small c e in coded_spells f c a b)
    (λ e. itself refl h (no_layout f.ignore_space c e k))

-- the flags that hold give the character its case
abbrev pub CaseFits : Flags → Bool → ℕ → Type 0
CaseFits f true c = f.casei ≡ true
CaseFits f false c = f.casei ≡ true → is_kept_by_backslash f.oniguruma_mode c ≡ true

metacharacter_small : (c : ℕ) → is_among c metacharacters ≡ true → (c < 0x10000) × (is_scalar c ≡ true)
metacharacter_small c h = grind (arith, nat_tests)

blank_small : (x : Bool) (c : ℕ) → x && c ∈ " #" ≡ true → (c < 0x10000) × (is_scalar c ≡ true)
blank_small true c h = grind (arith, nat_tests)
blank_small false c h = absurd (false≢true h)

metacharacter_kept : (c : ℕ) → is_among c (metacharacters ++ codes "]}") ≡ true → is_kept_by_backslash false c ≡ true
metacharacter_kept c h =
    each_among (λ c. is_kept_by_backslash false c ≡ true) (metacharacters ++ codes "]}") c
    (also refl (also refl (also refl (also refl (also refl (also refl (also refl (also refl (also refl (also refl (also
    refl
    (also refl (also refl (also refl no_more)))))))))))))) h

blank_kept : (x : Bool) (c : ℕ) → x && c ∈ " #" ≡ true → is_kept_by_backslash false c ≡ true
blank_kept true c h =
    each_among (λ c. is_kept_by_backslash false c ≡ true) (codes " #") c (also refl (also refl no_more)) h
blank_kept false c h = absurd (false≢true h)

fewer_metacharacters : (c : ℕ) → is_among c (metacharacters ++ codes "]}") ≡ false → is_among c metacharacters ≡ false
fewer_metacharacters c h = grind (arith, nat_tests)

pub character_spells : (f : Flags) (casei : Bool) (c : ℕ) → CaseFits f casei c → Spells f casei c (character f casei c)
character_spells f true c h =
    let with_case : (t : Text) → Spells f f.casei c t → Spells f true c t = λ t s. subst (λ b. Spells f b c t) h s in
    cond_both (is_among c metacharacters || letters.is_printable_layout f c) _ _ (Spells f true c)
    (λ e. let (a, b) : (c < 0x10000) × (is_scalar c ≡ true)
    = ⊎_elim (λ m. metacharacter_small c m) (λ m. blank_small f.ignore_space c m)
    (or_cases (is_among c metacharacters) (letters.is_printable_layout f c) e) in
    with_case _ (coded_spells f c a b))
    (λ e. let (a, b) = or_parts (is_among c metacharacters) _ e in with_case _ (plain_spells f c a b))
character_spells f false c h =
    choose_both (Spells f false c) (letter_of c) _ _ (λ d e. by_escape (escapes_letter false f c d e))
    (cond_both (is_among c (metacharacters ++ codes "]}") || (letters.is_printable_layout f c || f.casei)) _ _ (Spells f false c)
    (λ e. by_escape
    (⊎_elim (λ m. reads_kept f c (metacharacter_kept c m))
    (λ m. ⊎_elim (λ b. reads_kept f c (blank_kept f.ignore_space c b)) (λ b. reads_by_backslash f c (h b))
    (or_cases (letters.is_printable_layout f c) f.casei m))
    (or_cases (is_among c (metacharacters ++ codes "]}")) _ e)))
    (λ e. let (a, b) = or_parts (is_among c (metacharacters ++ codes "]}")) _ e in
    let (k, i) = or_parts (letters.is_printable_layout f c) f.casei b in
    subst (λ b. Spells f b c (plain c)) i (plain_spells f c (fewer_metacharacters c a) k)))
