-- Steps of numbers in digits, and of texts that are quoted.
use Rattle.std.proofs.Common.{◌≡◌, ◌≢◌, ℕ, ◌+◌, ◌/◌, ◌%◌, ◌^◌, ◌<◌, ◌≤◌, suc, Bool, true, false, List, [], ◌∷◌, ◌++◌}
use Rattle.std.proofs.Common.{length, get_or, String, Global, decimal, codes, Some, None, is_some, refl, sym, ap, ap₂}
use Rattle.std.proofs.Common.{◌∙◌, append-nil, append_assoc, length-append, chars, if◌then◌else◌, nat_lt, Option}
use Rattle.std.proofs.Common.{arith, rules}
use Rattle.std.proofs.lemmas.Fmt.{decimal_step, decimal_digit, length-decimal-le, IsAscii-decimal}
use Rattle.std.specs.Int.{from_bool}
use Rattle.std.specs.List.{count_by}
use Rattle.std.specs.Str.{IsUtf8}
use Rattle.std.specs.Char.{len_utf8}
use Prim.Native.Char.{code}
use borrow.Author.Tests.{ltb-true, ltb-false}
use Rattle.std.proofs.lemmas.Grind.{flat_map-append}
use Rattle.std.proofs.lemmas.List.{append_cancel_right}
use Rattle.std.proofs.lemmas.List.Sums.{sum_by-append}
use Rattle.std.proofs.Math.Utf8.{encode, encodes}
use Rattle.std.proofs.lemmas.Str.{len_utf8_ascii, len_utf8_bounds, length-encode, encode_ascii, encodes-chars}
use Rattle.std.proofs.lemmas.Str.{inside_one}
use Rattle.std.proofs.lemmas.Bool.Decides.{nat_tests}
use Rattle.fancy_lex.specs.Number.{digit_code}
use Rattle.fancy_lex.specs.Text.{Text, bytes}
use Rattle.fancy_grammar.specs.Quote.{after_backslash, quote_as, quote, quotes, AreUnquoted, range, operator, counts_as}
use Rattle.fancy_grammar.specs.Quote.{counts_text}
use Rattle.fancy_lex.specs.Quantifier.{most}
use Rattle.fancy_syntax.specs.Capacity.{HasCapacity, Appended}
use Rattle.fancy_lex.proofs.TextLemmas.{bytes-append}
use Rattle.fancy_syntax.proofs.CapacityLemmas.{bytes-cons, bytes-nil, bytes_ascii, written_as, written_two}
use Rattle.fancy_syntax.proofs.CapacityLemmas.{Writing, writing_as, writing_capacity, writing_later}

pub one_byte : (c : ℕ) → c < 128 → bytes (c ∷ []) ≡ 1
unfolding bytes
one_byte c h = omega (arith, len_utf8_ascii c h)

pub number_one : (n : ℕ) → n < 10 → bytes (decimal n) ≡ 1
number_one n h = ap bytes (decimal_digit n h) ∙ one_byte (code "0" + n) (omega arith)

pub number_more : (n : ℕ) → 10 ≤ n → n < 2 ^ 64 → bytes (decimal n) ≡ bytes (decimal (n / 10)) + 1
number_more n h k =
    ap bytes (decimal_step n h k) ∙ bytes-append (decimal (n / 10)) ((code "0" + n % 10) ∷ [])
    ∙ ap (λ m. bytes (decimal (n / 10)) + m) (one_byte (code "0" + n % 10) (omega arith))

pub number_within : (n : ℕ) → n < 2 ^ 64 → bytes (decimal n) ≤ 20
number_within n h = rw (bytes_ascii (decimal n) (IsAscii-decimal n h)) (search (rules, length-decimal-le))

-- the front of a number
pub number_front : (n : ℕ) → 10 ≤ n → n < 2 ^ 64 → bytes (decimal (n / 10)) + 1 ≤ 20
number_front n h k = omega (arith, number_within n k, number_more n h k)

pub one_digit : (a b : String Global) (n c : ℕ) → n < 10 → c ≡ digit_code n → Appended a b (c ∷ []) →
    Appended a b (decimal n)
one_digit a b n c h e p =
    let is : c ≡ code "0" + n = omega (arith, e) in
    written_as a b (c ∷ []) (decimal n) p (ap (λ d. d ∷ []) is ∙ sym (decimal_digit n h))

pub last_digit : (a b z : String Global) (n c : ℕ) → 10 ≤ n → n < 2 ^ 64 → c ≡ digit_code (n % 10) →
    Appended a b (decimal (n / 10)) → Appended b z (c ∷ []) → Appended a z (decimal n)
last_digit a b z n c h k e p q =
    let is : c ≡ code "0" + n % 10 = omega (arith, e) in
    written_two a b z (decimal (n / 10)) (c ∷ []) (decimal n) p q
    (ap (λ d. decimal (n / 10) ++ d ∷ []) is ∙ sym (decimal_step n h k))

pub ruleset number_steps = (one_byte, number_one, number_more, number_within, number_front, one_digit, last_digit)

pub range_one : (lo hi : ℕ) → lo ≡ hi → range lo hi ≡ decimal lo
unfolding range
range_one lo hi e = grind (arith, nat_tests)

pub range_open : (lo hi : ℕ) → lo ≢ hi → hi ≡ most → range lo hi ≡ decimal lo ++ codes ","
unfolding range
range_open lo hi d e = grind (arith, nat_tests)

pub range_both : (lo hi : ℕ) → lo ≢ hi → hi ≢ most → range lo hi ≡ decimal lo ++ (codes "," ++ decimal hi)
unfolding range
range_both lo hi d e = grind (arith, nat_tests)

pub range_both_len : (lo hi : ℕ) → lo ≢ hi → hi ≢ most →
    bytes (range lo hi) ≡ bytes (decimal lo) + (1 + bytes (decimal hi))
range_both_len lo hi d e =
    ap bytes (range_both lo hi d e) ∙ bytes-append (decimal lo) (codes "," ++ decimal hi)
    ∙ ap (λ n. bytes (decimal lo) + n)
    (bytes-append (codes ",") (decimal hi) ∙ ap (λ n. n + bytes (decimal hi)) (one_byte (code ",") (omega arith)))

pub ruleset range_steps = (one_byte, range_both_len, range_one, range_open, range_both)

pub counts_operator : (lo hi m : ℕ) → operator lo hi ≡ Some m → counts_text lo hi ≡ m ∷ []
unfolding counts_text
counts_operator lo hi m e = ap (counts_as lo hi) e

pub counts_braced : (lo hi : ℕ) → operator lo hi ≡ None → counts_text lo hi ≡ codes "{" ++ (range lo hi ++ codes "}")
unfolding counts_text
counts_braced lo hi e = ap (counts_as lo hi) e

pub counts_braced_len : (lo hi : ℕ) → operator lo hi ≡ None → bytes (counts_text lo hi) ≡ 1 + (bytes (range lo hi) + 1)
counts_braced_len lo hi e =
    ap bytes (counts_braced lo hi e) ∙ bytes-append (codes "{") (range lo hi ++ codes "}")
    ∙ ap (λ n. n + bytes (range lo hi ++ codes "}")) (one_byte (code "{") (omega arith))
    ∙ ap (λ n. 1 + n) (bytes-append (range lo hi) (codes "}")
    ∙ ap (λ n. bytes (range lo hi) + n) (one_byte (code "}") (omega arith)))

pub ruleset counts_steps = (one_byte, counts_braced_len, counts_operator, counts_braced)

-- ---- a text by its bytes

-- whether the character of the byte is printed with a backslash
abbrev pub escaped : ℕ → Bool
escaped b = is_some (after_backslash b)

not_after : (c : ℕ) → 128 ≤ c → after_backslash c ≡ None
not_after c h = grind (arith, nat_tests)

after_ascii : (c b : ℕ) → c < 128 → after_backslash c ≡ Some b → b < 128
after_ascii c b h e = grind (arith, nat_tests)

-- no byte of a character that is not in ASCII is printed with a backslash
none_escaped : (bs : List ℕ) → ((k : ℕ) → k < length bs → 128 ≤ get_or bs k 0) → count_by escaped bs ≡ 0
none_escaped [] h = refl
none_escaped (b ∷ bs) h = rw (not_after b (h 0 (omega arith))) (none_escaped bs (λ k l. h (suc k) (omega arith)))

-- a character that is not in ASCII has no ASCII byte
pub bytes_high : (c k : ℕ) → 128 ≤ c → k < length (encode c) → 128 ≤ get_or (encode c) k 0
bytes_high c k h l =
    let whole : encode c ≡ encode c ++ [] = sym (append-nil (encode c)) in
    let low : get_or (encode c) k 0 < 128 → c ≡ get_or (encode c) k 0 = inside_one c [] (encode c) k whole l in
    grind arith

two_bytes : (b c : ℕ) → b < 128 → c < 128 → bytes (b ∷ c ∷ []) ≡ 2
two_bytes b c h k = omega (arith, bytes-cons b (c ∷ []), len_utf8_ascii b h, one_byte c k)

ascii_quoted : (c : ℕ) (b : Option ℕ) → c < 128 → after_backslash c ≡ b
    → 1 + (if is_some b then 1 else 0) ≡ bytes (quote_as c b)
ascii_quoted c None h e = sym (one_byte c h)
ascii_quoted c (Some b) h e = sym (two_bytes (code "\\") b (omega arith) (after_ascii c b h e))

quoted_bytes : (c : ℕ) (b : Bool) → nat_lt c 128 ≡ b → length (encode c) + count_by escaped (encode c) ≡ bytes (quote c)
unfolding quote
quoted_bytes c true e =
    let h : c < 128 = ltb-true c 128 e in
    let one = encode_ascii c h in
    omega (arith, ap length one, ap (count_by escaped) one, ascii_quoted c (after_backslash c) h refl)
quoted_bytes c false e =
    let h : 128 ≤ c = ltb-false c 128 e in
    let itself : quote_as c (after_backslash c) ≡ c ∷ [] = ap (quote_as c) (not_after c h) in
    let none = none_escaped (encode c) (λ k l. bytes_high c k h l) in
    omega (arith, none, length-encode c, bytes-cons c [], bytes-nil, ap bytes itself)

encoded_bytes : (t : Text) → length (encodes t) + count_by escaped (encodes t) ≡ bytes (quotes t)
encoded_bytes [] = sym bytes-nil
encoded_bytes (c ∷ t) =
    let escapes = sum_by-append (λ b. if escaped b then 1 else 0) (encode c) (encodes t) in
    let here = quoted_bytes c (nat_lt c 128) refl in
    omega (arith, length-append (encode c) (encodes t), escapes, bytes-append (quote c) (quotes t), here, encoded_bytes t)

-- a text is printed as its bytes, and one more byte for each that needs a backslash
pub quotes_bytes : (bs : List ℕ) → IsUtf8 bs → length bs + count_by escaped bs ≡ bytes (quotes (chars bs))
quotes_bytes bs u = rw (encodes-chars bs u) at (encoded_bytes (chars bs))

no_bytes : (t : Text) → length (encodes t) ≡ 0 → t ≡ []
no_bytes [] e = refl
no_bytes (c ∷ t) e = absurd (omega (arith, length-append (encode c) (encodes t), length-encode c, len_utf8_bounds c))

ascii_alone : (c b : ℕ) (t : Text) → c < 128 → encode c ++ encodes t ≡ b ∷ [] → c ∷ t ≡ b ∷ []
ascii_alone c b t h e =
    let cut : c ∷ encodes t ≡ b ∷ [] = rw (encode_ascii c h) at e in
    let none : encodes t ≡ [] = cc in
    let rest : t ≡ [] = no_bytes t (ap length none) in
    cc

long_len : (c : ℕ) → 128 ≤ c → 2 ≤ len_utf8 c
long_len c h = grind (arith, nat_tests)

character_alone : (t : Text) (b : ℕ) → encodes t ≡ b ∷ [] → t ≡ b ∷ []
character_alone [] b e = cc
character_alone (c ∷ t) b e = by_size (nat_lt c 128) refl where
  by_size : (l : Bool) → nat_lt c 128 ≡ l → c ∷ t ≡ b ∷ []
  by_size true h = ascii_alone c b t (ltb-true c 128 h) e
  by_size false h =
      let long = long_len c (ltb-false c 128 h) in
      absurd (omega (arith, ap length e, length-append (encode c) (encodes t), length-encode c, long))

-- a text of one byte is one character
pub one_quoted : (bs : List ℕ) (b : ℕ) → IsUtf8 bs → 1 ≤ length bs → length bs < 2 → b ≡ get_or bs 0 0
    → quotes (chars bs) ≡ quote b
one_quoted [] b u l m e = absurd (omega arith)
one_quoted (d ∷ []) b u l m e =
    ap quotes (character_alone (chars (d ∷ [])) d (encodes-chars (d ∷ []) u)) ∙ append-nil (quote d) ∙ ap quote (sym e)
one_quoted (d ∷ f ∷ bs) b u l m e = absurd (omega arith)

one_or_none : (b : Bool) → from_bool b ≡ (if b then 1 else 0)
one_or_none true = refl
one_or_none false = refl

-- it is printed as its byte, and one more byte if that needs a backslash
pub one_counted : (bs : List ℕ) (b : ℕ) → IsUtf8 bs → 1 ≤ length bs → length bs < 2 → b ≡ get_or bs 0 0
    → 1 + from_bool (escaped b) ≡ bytes (quotes (chars bs))
one_counted [] b u l m e = absurd (omega arith)
one_counted (d ∷ []) b u l m e =
    omega (arith, quotes_bytes (d ∷ []) u, ap (λ n. from_bool (escaped n)) e, one_or_none (escaped d))
one_counted (d ∷ f ∷ bs) b u l m e = absurd (omega arith)

-- ---- characters that are printed as themselves

quoted_alone : (c : ℕ) (b : Option ℕ) → is_some b ≡ false → quote_as c b ≡ c ∷ []
quoted_alone c None e = refl
quoted_alone c (Some b) e = cc

-- one more character
pub run_grows : (t u r : Text) (c : ℕ) → u ≡ c ∷ r → is_some (after_backslash c) ≡ false → AreUnquoted t u
    → AreUnquoted t r
unfolding quote
run_grows t u r c e n (w, cut, plain) =
    let one : quotes (c ∷ []) ≡ c ∷ [] = ap (λ v. v ++ []) (quoted_alone c (after_backslash c) n) in (
      w ++ c ∷ [],
      cut ∙ ap (λ v. w ++ v) e ∙ sym (append_assoc w (c ∷ []) r),
      flat_map-append quote w (c ∷ []) ∙ ap₂ (λ a b. a ++ b) plain one,
    )

-- the characters before the rest
run_before : (t f r : Text) → AreUnquoted t r → t ≡ f ++ r → quotes t ≡ f ++ quotes r
run_before t f r (w, cut, plain) e =
    let same : w ≡ f = append_cancel_right w f r (sym cut ∙ e) in
    ap quotes cut ∙ flat_map-append quote w r ∙ ap (λ v. v ++ quotes r) (plain ∙ same)

-- ---- writing a text that is quoted

pub run_capacity : (a b : String Global) (t f r whole : Text) → AreUnquoted t r → t ≡ f ++ r
    → Writing a b (quotes t) whole → HasCapacity b f
run_capacity a b t f r whole s e w = writing_capacity a b f (quotes r) whole
    (writing_as _ _ _ _ _ (run_before t f r s e) w)

pub run_later : (a b d : String Global) (t f r whole : Text) → AreUnquoted t r → t ≡ f ++ r
    → Writing a b (quotes t) whole → Appended b d f → Writing a d (quotes r) whole
run_later a b d t f r whole s e w p =
    writing_later a b d f (quotes r) whole (writing_as _ _ _ _ _ (run_before t f r s e) w) p

pub first_capacity : (a b : String Global) (t r whole : Text) (c : ℕ) → t ≡ c ∷ r → Writing a b (quotes t) whole
    → HasCapacity b (quote c)
first_capacity a b t r whole c e w = writing_capacity a b (quote c) (quotes r) whole (writing_as _ _ _ _ _ (ap quotes e) w)

pub first_later : (a b d : String Global) (t r whole : Text) (c : ℕ) → t ≡ c ∷ r → Writing a b (quotes t) whole
    → Appended b d (quote c) → Writing a d (quotes r) whole
first_later a b d t r whole c e w p =
    writing_later a b d (quote c) (quotes r) whole (writing_as _ _ _ _ _ (ap quotes e) w) p
