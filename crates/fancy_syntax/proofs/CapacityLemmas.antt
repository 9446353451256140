-- Steps of a text whose length is computed, or that is written into enough capacity.
use Rattle.std.proofs.Common.{◌≡◌, ℕ, ◌+◌, ◌≤◌, Bool, true, false, nat_lt, if◌then◌else◌, List, [], ◌∷◌, ◌++◌, length}
use Rattle.std.proofs.Common.{String, Global, string_bytes, chars, refl, sym, ap, ◌∙◌, append_assoc, append-nil}
use Rattle.std.proofs.Common.{arith, subst}
use Rattle.std.proofs.lemmas.Bool.{false≢true}
use Rattle.std.specs.String.{string_len, string_capacity}
use Rattle.std.specs.List.{list_all}
use Rattle.std.specs.Str.{IsUtf8, IsAscii}
use Rattle.std.specs.Char.{IsScalar, len_utf8}
use Rattle.std.proofs.Math.Utf8.{encode}
use Rattle.std.proofs.lemmas.Str.{chars-append, chars-IsAscii, IsUtf8-string_bytes, IsUtf8-encode, IsUtf8-from_ascii}
use Rattle.std.proofs.lemmas.Str.{chars_past_char, chars-nil}
use Rattle.std.proofs.lemmas.Str.Ascii.{IsAscii-from_all}
use Rattle.std.proofs.lemmas.List.Sums.{AllPass-from_list_all}
use borrow.Author.Tests.{ltb-true}
use Rattle.fancy_lex.specs.Text.{Text, text_of, bytes}
use Rattle.fancy_lex.proofs.TextLemmas.{bytes-append, bytes_chars}
use Rattle.fancy_syntax.specs.Capacity.{in_word, HasCapacity, Appended}

pub bytes-cons : (c : ℕ) (t : Text) → bytes (c ∷ t) ≡ len_utf8 c + bytes t
unfolding bytes
bytes-cons c t = refl

pub bytes-nil : bytes [] ≡ 0
unfolding bytes
bytes-nil = refl

pub chars_encode : (c : ℕ) → IsScalar c → chars (encode c) ≡ c ∷ []
chars_encode c s = chars_past_char (encode c) [] c (IsUtf8-encode c s) (sym (append-nil (encode c)))
    ∙ ap (λ t. c ∷ t) chars-nil

pub bytes_encode : (c : ℕ) → IsScalar c → bytes (c ∷ []) ≡ length (encode c)
bytes_encode c s = ap bytes (sym (chars_encode c s)) ∙ bytes_chars (encode c) (IsUtf8-encode c s)

pub ascii : (bs : List ℕ) → list_all (λ b. nat_lt b 128) bs ≡ true → IsAscii bs
ascii bs h = IsAscii-from_all bs (λ k d l. ltb-true _ _ (AllPass-from_list_all (λ b. nat_lt b 128) bs h k d l))

pub bytes_ascii : (bs : List ℕ) → IsAscii bs → bytes bs ≡ length bs
bytes_ascii bs h = ap bytes (sym (chars-IsAscii bs h)) ∙ bytes_chars bs (IsUtf8-from_ascii bs h)

-- ---- writing

-- a push that did not fail
pub pushed : (ok : Bool) (a b : String Global) (bs : List ℕ) (text : Text) → ok ≡ true → IsUtf8 bs → chars bs ≡ text →
    string_bytes b ≡ (if ok then string_bytes a ++ bs else string_bytes a)
    → string_len b ≡ (if ok then string_len a + length bs else string_len a) → string_capacity a ≤ string_capacity b →
    Appended a b text
pushed true a b bs text ok u t e l k =
    record {
      is = ap chars e ∙ chars-append (string_bytes a) bs (IsUtf8-string_bytes a) ∙ ap (λ cs. text_of a ++ cs) t;
      len = l ∙ ap (λ n. string_len a + n) (sym (bytes_chars bs u) ∙ ap bytes t);
      capacity = k;
    }
pushed false a b bs text ok u t e l k = absurd (false≢true ok)

pub nothing_written : (a : String Global) → Appended a a []
unfolding bytes
nothing_written a = record { is = sym (append-nil (text_of a)); len = omega arith; capacity = omega arith }

pub then_written : (a b c : String Global) (xs ys : Text) → Appended a b xs → Appended b c ys → Appended a c (xs ++ ys)
then_written a b c xs ys p q =
    record {
      is = q.is ∙ ap (λ t. t ++ ys) p.is ∙ append_assoc (text_of a) xs ys;
      len = omega (arith, p.len, q.len, bytes-append xs ys);
      capacity = omega (arith, p.capacity, q.capacity);
    }

pub capacity_front : (a : String Global) (xs ys : Text) → HasCapacity a (xs ++ ys) → HasCapacity a xs
capacity_front a xs ys h = omega (arith, bytes-append xs ys)

pub capacity_after : (a b : String Global) (xs ys : Text) → Appended a b xs → HasCapacity a (xs ++ ys) → HasCapacity b ys
capacity_after a b xs ys p h = omega (arith, bytes-append xs ys, p.len, p.capacity)

-- a writing that began with the string a and has reached b: b has the capacity for the rest, and with the rest written
-- the whole text is appended to a
pub record Writing (a b : String Global) (rest whole : Text) : Type 0 where
  pub reserved : HasCapacity b rest
  pub ends : (z : String Global) → Appended b z rest → Appended a z whole

pub writing_as : (a b : String Global) (rest other whole : Text) → rest ≡ other → Writing a b rest whole →
    Writing a b other whole
writing_as a b rest other whole e w = subst (λ t. Writing a b t whole) e w

pub writing_capacity : (a b : String Global) (xs ys whole : Text) → Writing a b (xs ++ ys) whole → HasCapacity b xs
writing_capacity a b xs ys whole w = capacity_front b xs ys w.reserved

pub writing_later : (a b c : String Global) (xs ys whole : Text) → Writing a b (xs ++ ys) whole → Appended b c xs →
    Writing a c ys whole
writing_later a b c xs ys whole w p =
    record { reserved = capacity_after b c xs ys p w.reserved; ends = λ z q. w.ends z (then_written b c z xs ys p q) }

pub writing_ends : (a b : String Global) (whole : Text) → Writing a b [] whole → Appended a b whole
writing_ends a b whole w = w.ends b (nothing_written b)

-- capacity for the length is capacity for the text, since no string has capacity for the greatest word
pub capacity_counted : (s : String Global) (t : Text) (len : ℕ) → len ≡ in_word (bytes t)
    → string_len s + len ≤ string_capacity s → HasCapacity s t
capacity_counted s t len e h = omega (arith, s.bytes.small)

-- ---- several texts, one after the other

pub written_as : (a b : String Global) (xs all : Text) → Appended a b xs → xs ≡ all → Appended a b all
written_as a b xs all p e = subst (λ t. Appended a b t) e p

pub written_two : (a b c : String Global) (xs ys all : Text) → Appended a b xs → Appended b c ys → xs ++ ys ≡ all →
    Appended a c all
written_two a b c xs ys all p q e = written_as a c (xs ++ ys) all (then_written a b c xs ys p q) e

pub written_three : (a b c d : String Global) (xs ys zs all : Text) → Appended a b xs → Appended b c ys →
    Appended c d zs → xs ++ (ys ++ zs) ≡ all → Appended a d all
written_three a b c d xs ys zs all p q r e = written_two a b d xs (ys ++ zs) all p (then_written b c d ys zs q r) e

pub ruleset capacity_steps = (bytes-append, bytes-cons, bytes-nil, nothing_written, written_as, written_two, written_three)
