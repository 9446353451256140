-- Names, numbers, distances and levels, as references write them.
use Rattle.std.proofs.Common.{◌≡◌, ℕ, Bool, true, false, ◌||◌, ◌==◌, [], ◌∷◌, ◌++◌, ◌^◌}
use Rattle.std.proofs.Common.{Option, Some, None, is_some, is_none, refl, sym, ap, ◌∙◌, subst, arith}
use Rattle.std.proofs.Common.{if◌then◌else◌, option_map, decimal, append-nil, ne_eqb, suc}
use Rattle.std.proofs.Common.{◌<◌, ℤ, pos, negsuc, lt-ltb, ◌+◌}
use Rattle.std.proofs.lemmas.Bool.{and_parts, false≢true, or_parts}
use Rattle.std.proofs.lemmas.Bool.Decides.{nat_tests}
use Rattle.std.proofs.lemmas.Fmt.{decimal_is_IsNumeral}
use Rattle.std.specs.List.{AllByRecursion}
use Rattle.std.specs.Ordering.{int_eq}
use Prim.Native.Char.{code}
use Rattle.fancy_lex.specs.Characters.{is_among, ◌∈◌}
use Rattle.fancy_lex.specs.Delimited.{delimited_name, name_before}
use Rattle.fancy_lex.specs.Escape.{escape, escape_at, lone_escape, outside, call_escape}
use Rattle.fancy_lex.specs.EscapeReference as escapes
use Rattle.fancy_lex.specs.EscapeReference.{is_relative, subroutine_call, delimited_call, written_call}
use Rattle.fancy_lex.specs.EscapeReference.{call_target}
use Rattle.fancy_lex.specs.Escaped as escaped
use Rattle.fancy_lex.specs.Id.{is_id_char, id_run, id, nonempty_front}
use Rattle.fancy_lex.specs.IdReference.{id_alone, id_reference, with_id, amount, amount_alone, amount_bound, with_sign}
use Rattle.fancy_lex.specs.IdReference.{id_and_amount}
use Rattle.fancy_lex.specs.Number.{at_digit}
use Rattle.fancy_lex.specs.Number as numbers
use Rattle.fancy_lex.specs.NumberText.{number_text, whole_number, is_nothing}
use Rattle.fancy_lex.specs.Reading.{gives, choose}
use Rattle.fancy_lex.specs.Referred.{reference_to, call_to, target_of_name, reference_of}
use Rattle.fancy_lex.specs.Referred.{written_reference, reference_by_name}
use Rattle.fancy_lex.specs.Target.{by_name, Target, relative, by_number}
use Rattle.fancy_lex.specs.Text.{Text, reach_of, strip}
use Rattle.fancy_lex.specs.declared.flags.Flags.{Flags}
use Rattle.fancy_lex.proofs.AsciiLemmas.{other_id, alphanumeric_id}
use Rattle.fancy_lex.proofs.IdLemmas.{id_cut}
use Rattle.fancy_grammar.specs.PatternReference.{is_plain_name}
use Rattle.fancy_grammar.specs.PatternReference.{signed}
use Rattle.fancy_pattern.proofs.PatternLaws.Groups.{cut_before}
use Rattle.fancy_grammar.proofs.Writable.{IsLevelWritable}
use Rattle.fancy_pattern.proofs.PatternLaws.Quantifiers.{number_read}
use Rattle.fancy_grammar.proofs.ReadBack.CountTexts.{digit_is}
use Rattle.std.specs.Char.{is_ascii_digit}
use Rattle.std.specs.Cmp.{signed_Decides}
use Rattle.std.specs.Str.Parse.{AllDigits, IsNumeral}

-- ---- plain names

-- an id that is no number text, as the name of a group in a reference
pub record PlainName (w : Text) : Type 0 where
  pub no_delimiter : is_among (code ">") w ≡ false
  pub some : (c : ℕ) × (u : Text) × (w ≡ c ∷ u)
  pub read : id_reference true w ≡ Some (id_alone w)
  pub target : target_of_name w ≡ by_name w
  pub not_relative : is_relative w ≡ false
  pub ids : AllByRecursion (λ c. is_id_char c ≡ true) w

-- the id at the front consists of id characters
run_of_ids : (t : Text) → AllByRecursion (λ c. is_id_char c ≡ true) (id_run t).0
unfolding id_run
run_of_ids [] = tt
run_of_ids (c ∷ t) = at (is_id_char c) refl (id_run t) (run_of_ids t)
  where
    at : (b : Bool) → is_id_char c ≡ b → (p : Text × Text) → AllByRecursion (λ c. is_id_char c ≡ true) p.0 →
        AllByRecursion (λ c. is_id_char c ≡ true) (if◌then◌else◌ {A = Text × Text} b (c ∷ p.0, p.1) ([], c ∷ t)).0
    at true e p h = (e, h)
    at false e p h = tt

no_id : (c : ℕ) → c ∈ ">+-" ≡ true → is_id_char c ≡ false
no_id c h =
    other_id c (grind (arith, nat_tests)) (grind (arith, nat_tests)) ∙ grind (arith, nat_tests)

-- so an id character differs from these
id_apart : (c d : ℕ) → d ∈ ">+-" ≡ true → is_id_char c ≡ true → (c == d) ≡ false
id_apart c d h i = ne_eqb c d (λ e. false≢true (sym (no_id d h) ∙ (ap is_id_char (sym e) ∙ i)))

id_no_delimiter : (w : Text) → AllByRecursion (λ c. is_id_char c ≡ true) w → is_among (code ">") w ≡ false
id_no_delimiter [] h = refl
id_no_delimiter (c ∷ []) h = ne_eqb (code ">") c (λ e. false≢true (sym (no_id (code ">") refl) ∙ (ap is_id_char e ∙ h.0)))
id_no_delimiter (c ∷ d ∷ w) h =
    let first : (code ">" == c) ≡ false
    = ne_eqb (code ">") c (λ e. false≢true (sym (no_id (code ">") refl) ∙ (ap is_id_char e ∙ h.0))) in
    rw first (id_no_delimiter (d ∷ w) h.1)

id_whole : (w : Text) → is_some (id_reference false w) ≡ true →
    ◌≡◌ {A = Option (Text × Text)} (id w) (Some (w, []))
unfolding id_reference
id_whole w h = at (id w) refl h
  where
    at : (o : Option (Text × Text)) → ◌≡◌ {A = Option (Text × Text)} (id w) o →
        is_some (choose o (λ q. with_id false q.0 q.1) None) ≡ true →
        ◌≡◌ {A = Option (Text × Text)} (id w) (Some (w, []))
    at None e h = absurd cc
    at (Some (i, [])) e h = e ∙ (λ j. Some (sym (id_cut w i [] e ∙ append-nil i) j, []))
    at (Some (i, d ∷ u)) e h = absurd cc

ids_of : (w : Text) → ◌≡◌ {A = Option (Text × Text)} (id w) (Some (w, [])) →
    AllByRecursion (λ c. is_id_char c ≡ true) w
unfolding id
ids_of w e = subst (AllByRecursion (λ c. is_id_char c ≡ true)) (at (id_run w) e) (run_of_ids w)
  where
    at : (p : Text × Text) → nonempty_front p ≡ Some (w, []) → p.0 ≡ w
    at ([], v) e = absurd cc
    at (c ∷ x, v) e =
        let same : ◌≡◌ {A = Text × Text} (c ∷ x, v) (w, []) = cc in ap (λ (p : Text × Text). p.0) same

some_of : (w : Text) → ◌≡◌ {A = Option (Text × Text)} (id w) (Some (w, [])) → (c : ℕ) × (u : Text) × (w ≡ c ∷ u)
unfolding id id_run
some_of [] e = absurd cc
some_of (c ∷ u) e = (c, u, refl)

none_of : (o : Option ℕ) → is_none o ≡ true → o ≡ None
none_of None h = refl
none_of (Some n) h = absurd cc

no_relative : (w : Text) → AllByRecursion (λ c. is_id_char c ≡ true) w → is_relative w ≡ false
unfolding is_relative
no_relative [] h = refl
no_relative (c ∷ t) h = rw (id_apart c (code "+") refl h.0, id_apart c (code "-") refl h.0) refl

alone_read : (w : Text) → ◌≡◌ {A = Option (Text × Text)} (id w) (Some (w, [])) →
    id_reference true w ≡ Some (id_alone w)
unfolding id_reference
alone_read w e = rw e refl

pub named_by : (w : Text) → number_text w ≡ None → target_of_name w ≡ by_name w
unfolding target_of_name
named_by w e = ap (λ o. choose o by_number (by_name w)) e

pub plain_name : (w : Text) → is_plain_name w ≡ true → PlainName w
plain_name w h =
    let (a, b) = and_parts (is_some (id_reference false w)) (is_none (number_text w)) h in
    let e = id_whole w a in
    let ids = ids_of w e in
    record {
      no_delimiter = id_no_delimiter w ids;
      some = some_of w e;
      read = alone_read w e;
      target = named_by w (none_of (number_text w) b);
      not_relative = no_relative w ids;
      ids = ids;
    }

-- ---- what is read

pub delimited_read : (c : ℕ) (u v : Text) → is_among (code ">") (c ∷ u) ≡ false →
    ◌≡◌ {A = Option (Text × Text)} (delimited_name (code "<" ∷ ((c ∷ u) ++ code ">" ∷ v))) (Some (c ∷ u, v))
unfolding delimited_name name_before
delimited_read c u v h = rw (cut_before (code ">") (c ∷ u) v h) refl

-- a name after its letter, between its delimiters
pub call_read_by : (f : Flags) (w v : Text) (target : Target) →
    ◌≡◌ {A = Option (Text × Text)} (delimited_name (code "<" ∷ (w ++ code ">" ∷ v))) (Some (w, v)) →
    ((p : ℕ) → written_call p w ≡ Some (call_to p target)) →
    escape f false (code "g" ∷ code "<" ∷ (w ++ code ">" ∷ v))
    ≡ gives (escaped.subroutine_call (call_to (reach_of (code "<" ∷ (w ++ code ">" ∷ v))) target)) v
unfolding escape_at lone_escape outside call_escape subroutine_call delimited_call
call_read_by f w v target e h = rw (e, h (reach_of (code "<" ∷ (w ++ code ">" ∷ v)))) refl

pub backref_read_by : (f : Flags) (w v : Text) (target : Target) (level : Option ℤ) →
    ◌≡◌ {A = Option (Text × Text)} (delimited_name (code "<" ∷ (w ++ code ">" ∷ v))) (Some (w, v)) →
    ((p : ℕ) → written_reference p true w ≡ Some (reference_to p target level)) →
    escape f false (code "k" ∷ code "<" ∷ (w ++ code ">" ∷ v))
    ≡ gives (escaped.backref (reference_to (reach_of (code "<" ∷ (w ++ code ">" ∷ v))) target level) f.casei) v
unfolding escape_at lone_escape outside escapes.back_reference reference_by_name
backref_read_by f w v target level e h = rw (e, h (reach_of (code "<" ∷ (w ++ code ">" ∷ v)))) refl

module _ (w : Text) (h : PlainName w) (v : Text) where
  abbrev in_delimiters : Text
  in_delimiters = code "<" ∷ (w ++ code ">" ∷ v)

  pub name_read : ◌≡◌ {A = Option (Text × Text)} (delimited_name in_delimiters) (Some (w, v))
  name_read =
      let (c, u, e) = h.some in
      subst (λ z. ◌≡◌ {A = Option (Text × Text)} (delimited_name (code "<" ∷ (z ++ code ">" ∷ v))) (Some (z, v))) (sym e)
      (delimited_read c u v (sym (ap (is_among (code ">")) e) ∙ h.no_delimiter))

  pub written_as : (p : ℕ) → written_reference p true w ≡ Some (reference_to p (by_name w) None)
  unfolding written_reference reference_of
  written_as p =
      ap (option_map (reference_of p)) h.read ∙ ap (λ t. Some (reference_to p t None)) h.target

  pub called : (p : ℕ) → written_call p w ≡ Some (call_to p (by_name w))
  unfolding written_call call_target
  called p = rw (h.not_relative, h.target) refl

-- ---- distances

whole_digits : (n : ℕ) → n < 2 ^ 64 → whole_number (decimal n) ≡ Some n
unfolding whole_number
whole_digits n h =
    let e : numbers.number (decimal n) ≡ Some (n, [])
    = subst (λ z. numbers.number z ≡ Some (n, [])) (append-nil (decimal n)) (number_read n [] h refl) in
    rw (e, lt-ltb n (2 ^ 64) h) refl

digit_apart : (c d : ℕ) → d ∈ ">+-" ≡ true → is_ascii_digit c ≡ true → (c == d) ≡ false
digit_apart c d h e = grind (arith, nat_tests)

no_sign : (ds : Text) → IsNumeral 10 ds → strip (code "+") ds ≡ None
no_sign [] h = absurd (omega (arith, h.0))
no_sign (d ∷ ds) h = rw (digit_apart d (code "+") refl ((digit_is d h.1.0).0)) refl

-- a character that is no digit is not among digits
pub digits_without : (delimiter : ℕ) → is_ascii_digit delimiter ≡ false → (ds : Text) → AllDigits 10 ds →
    is_among delimiter ds ≡ false
digits_without delimiter k [] h = refl
digits_without delimiter k (c ∷ []) h = ne_eqb delimiter c
    (λ e. false≢true (sym k ∙ (ap is_ascii_digit e ∙ (digit_is c h.0).0)))
digits_without delimiter k (c ∷ d ∷ ds) h =
    rw (ne_eqb delimiter c (λ e. false≢true (sym k ∙ (ap is_ascii_digit e ∙ (digit_is c h.0).0))))
    (digits_without delimiter k (d ∷ ds) h.1)

pub digits_undelimited : (ds : Text) → AllDigits 10 ds → is_among (code ">") ds ≡ false
digits_undelimited ds h = digits_without (code ">") refl ds h

number_text_digits : (n : ℕ) → n < 2 ^ 64 → number_text (decimal n) ≡ Some n
unfolding number_text
number_text_digits n h = rw (no_sign (decimal n) ((decimal_is_IsNumeral n h).0)) (whole_digits n h)

no_relative_digits : (ds : Text) → IsNumeral 10 ds → is_relative ds ≡ false
unfolding is_relative
no_relative_digits [] h = absurd (omega (arith, h.0))
no_relative_digits (d ∷ ds) h =
    let digit = (digit_is d h.1.0).0 in
    rw (digit_apart d (code "+") refl digit, digit_apart d (code "-") refl digit) refl

pub number_called : (n : ℕ) → n < 2 ^ 64 → (p : ℕ) → written_call p (decimal n) ≡ Some (call_to p (by_number n))
unfolding written_call call_target target_of_name
number_called n l p =
    rw (no_relative_digits (decimal n) ((decimal_is_IsNumeral n l).0), number_text_digits n l) refl

pub digits_delimited : (n : ℕ) → n < 2 ^ 64 → (v : Text) →
    ◌≡◌ {A = Option (Text × Text)} (delimited_name (code "<" ∷ (decimal n ++ code ">" ∷ v))) (Some (decimal n, v))
digits_delimited n l v = at (decimal n) ((decimal_is_IsNumeral n l).0)
  where
    at : (ds : Text) → IsNumeral 10 ds →
        ◌≡◌ {A = Option (Text × Text)} (delimited_name (code "<" ∷ (ds ++ code ">" ∷ v))) (Some (ds, v))
    at [] h = absurd (omega (arith, h.0))
    at (d ∷ ds) h = delimited_read d ds v (digits_undelimited (d ∷ ds) h.1)

digit_is_id : (c : ℕ) → is_ascii_digit c ≡ true → is_id_char c ≡ true
digit_is_id c h = alphanumeric_id c (grind (arith, nat_tests))

digits_are_id : (ds : Text) → AllDigits 10 ds → ◌≡◌ {A = Text × Text} (id_run ds) (ds, [])
unfolding id_run
digits_are_id [] h = refl
digits_are_id (d ∷ ds) h =
    rw (digit_is_id d ((digit_is d h.0).0)) (ap (λ (p : Text × Text). (d ∷ p.0, p.1)) (digits_are_id ds h.1))

id_of_digits : (ds : Text) → IsNumeral 10 ds → ◌≡◌ {A = Option (Text × Text)} (id ds) (Some (ds, []))
unfolding id
id_of_digits [] h = absurd (omega (arith, h.0))
id_of_digits (d ∷ ds) h = ap nonempty_front (digits_are_id (d ∷ ds) h.1)

pub digit_ids : (ds : Text) → AllDigits 10 ds → AllByRecursion (λ c. is_id_char c ≡ true) ds
digit_ids [] h = tt
digit_ids (d ∷ ds) h = (digit_is_id d ((digit_is d h.0).0), digit_ids ds h.1)

pub number_target : (n : ℕ) → n < 2 ^ 64 → target_of_name (decimal n) ≡ by_number n
unfolding target_of_name
number_target n l = ap (λ o. choose o by_number (by_name (decimal n))) (number_text_digits n l)

pub number_written : (n : ℕ) → n < 2 ^ 64 → (p : ℕ) →
    written_reference p true (decimal n) ≡ Some (reference_to p (by_number n) None)
unfolding written_reference reference_of target_of_name
number_written n l p =
    ap (option_map (reference_of p)) (alone_read (decimal n) (id_of_digits (decimal n) ((decimal_is_IsNumeral n l).0)))
    ∙ ap (λ o. Some (reference_to p (choose o by_number (by_name (decimal n))) None)) (number_text_digits n l)

-- ---- levels

amount_of : (sign n : ℕ) → sign ∈ "+-" ≡ true → n < amount_bound → amount (sign ∷ decimal n) ≡ Some (with_sign sign n)
unfolding amount
amount_of sign n is small =
    let fits : n < 2 ^ 64 = omega (arith, small) in
    rw (is, whole_digits n fits, lt-ltb n amount_bound small) refl

-- a level as it is written: a sign, and a number after it
pub record WrittenLevel (z : ℤ) : Type 0 where
  pub sign : ℕ
  pub digits : Text
  pub is : signed z ≡ sign ∷ digits
  pub is_sign : sign ∈ "+-" ≡ true
  pub value : amount (sign ∷ digits) ≡ Some z
  pub no_delimiter : (delimiter : ℕ) → delimiter ∈ ">)" ≡ true → is_among delimiter (sign ∷ digits) ≡ false

sign_no_delimiter : (delimiter sign : ℕ) (ds : Text) → sign ∈ "+-" ≡ true → delimiter ∈ ">)" ≡ true → AllDigits 10 ds →
    is_among delimiter (sign ∷ ds) ≡ false
sign_no_delimiter delimiter sign [] i m h = no_sign delimiter sign i m
  where
    no_sign : (delimiter sign : ℕ) → sign ∈ "+-" ≡ true → delimiter ∈ ">)" ≡ true → (delimiter == sign) ≡ false
    no_sign delimiter sign i m = grind (arith, nat_tests)
sign_no_delimiter delimiter sign (d ∷ ds) i m h = rw (no_sign delimiter sign i m)
    (digits_without delimiter (no_digit delimiter m) (d ∷ ds) h)
  where
    no_sign : (delimiter sign : ℕ) → sign ∈ "+-" ≡ true → delimiter ∈ ">)" ≡ true → (delimiter == sign) ≡ false
    no_sign delimiter sign i m = grind (arith, nat_tests)

    no_digit : (delimiter : ℕ) → delimiter ∈ ">)" ≡ true → is_ascii_digit delimiter ≡ false
    no_digit delimiter m = grind (arith, nat_tests)

pub written_level : (z : ℤ) → IsLevelWritable z → WrittenLevel z
written_level (pos n) small = record {
  sign = code "+";
  digits = decimal n;
  is = refl;
  is_sign = refl;
  value = amount_of (code "+") n refl small;
  no_delimiter =
      λ delimiter m.
      sign_no_delimiter delimiter (code "+") (decimal n) refl m ((decimal_is_IsNumeral n (omega (arith, small))).0.1);
}
written_level (negsuc n) small =
    let same : suc n ≡ n + 1 = omega arith in
    record {
      sign = code "-";
      digits = decimal (n + 1);
      is = refl;
      is_sign = refl;
      value = subst (λ k. amount (code "-" ∷ decimal k) ≡ Some (negsuc n)) same
          (amount_of (code "-") (suc n) refl (omega (arith, small)));
      no_delimiter =
          λ delimiter m.
          sign_no_delimiter delimiter (code "-") (decimal (n + 1)) refl m
          ((decimal_is_IsNumeral (n + 1) (omega (arith, small))).0.1);
    }

pub both_undelimited : (delimiter : ℕ) (w v : Text) → is_among delimiter w ≡ false → is_among delimiter v ≡ false →
    is_among delimiter (w ++ v) ≡ false
both_undelimited delimiter [] v h k = k
both_undelimited delimiter (c ∷ []) [] h k = h
both_undelimited delimiter (c ∷ []) (d ∷ v) h k = rw h k
both_undelimited delimiter (c ∷ d ∷ w) v h k =
    let (a, b) = or_parts (delimiter == c) (is_among delimiter (d ∷ w)) h in rw a
    (both_undelimited delimiter (d ∷ w) v b k)

run_before : (w ds : Text) (sign : ℕ) → AllByRecursion (λ c. is_id_char c ≡ true) w → is_id_char sign ≡ false →
    ◌≡◌ {A = Text × Text} (id_run (w ++ sign ∷ ds)) (w, sign ∷ ds)
unfolding id_run
run_before [] ds sign h i = rw i refl
run_before (c ∷ w) ds sign h i =
    rw h.0 (ap (λ (p : Text × Text). (c ∷ p.0, p.1)) (run_before w ds sign h.1 i))

-- a name before a level
module _ (c : ℕ) (u : Text) (z : ℤ) (l : WrittenLevel z) (ids : AllByRecursion (λ c. is_id_char c ≡ true) (c ∷ u)) where
  no_sign_id : is_id_char l.sign ≡ false
  no_sign_id = no_id l.sign (later l.sign l.is_sign)
    where
      later : (sign : ℕ) → sign ∈ "+-" ≡ true → sign ∈ ">+-" ≡ true
      later sign h = grind (arith, nat_tests)

  id_before : ◌≡◌ {A = Option (Text × Text)} (id ((c ∷ u) ++ l.sign ∷ l.digits)) (Some (c ∷ u, l.sign ∷ l.digits))
  unfolding id
  id_before = ap nonempty_front (run_before (c ∷ u) l.digits l.sign ids no_sign_id)

  level_read : id_reference true ((c ∷ u) ++ l.sign ∷ l.digits) ≡ Some (id_and_amount (c ∷ u) z)
  unfolding id_reference
  level_read = rw (id_before, l.value) refl

  pub level_written : (target : Target) → target_of_name (c ∷ u) ≡ target → (p : ℕ) →
      written_reference p true ((c ∷ u) ++ l.sign ∷ l.digits) ≡ Some (reference_to p target (Some z))
  unfolding written_reference reference_of
  level_written target t p = ap (option_map (reference_of p)) level_read ∙ ap (λ t. Some (reference_to p t (Some z))) t

  pub level_delimited : is_among (code ">") (c ∷ u) ≡ false → (v : Text) → ◌≡◌ {A = Option (Text × Text)}
      (delimited_name (code "<" ∷ (((c ∷ u) ++ l.sign ∷ l.digits) ++ code ">" ∷ v)))
      (Some ((c ∷ u) ++ l.sign ∷ l.digits, v))
  level_delimited h v =
      delimited_read c (u ++ l.sign ∷ l.digits) v
      (both_undelimited (code ">") (c ∷ u) (l.sign ∷ l.digits) h (l.no_delimiter (code ">") refl))

pub not_zero : (k : ℕ) → int_eq (pos (suc k)) (pos 0) ≡ false
not_zero k = at (int_eq (pos (suc k)) (pos 0)) refl
  where
    value : ℤ → ℕ
    value (pos n) = n
    value (negsuc n) = 0

    at : (b : Bool) → int_eq (pos (suc k)) (pos 0) ≡ b → int_eq (pos (suc k)) (pos 0) ≡ false
    at true e =
        let none : suc k ≡ 0 = ap value ((signed_Decides (pos (suc k)) (pos 0)).0 e) in absurd (omega (arith, none))
    at false e = e

-- the target of a sign and a number that is not 0
module _ (sign k : ℕ) (z : ℤ) (is_sign : sign ∈ "+-" ≡ true) (small : suc k < amount_bound)
    (is : with_sign sign (suc k) ≡ z) (some : int_eq z (pos 0) ≡ false) where
  fits_word : suc k < 2 ^ 64
  fits_word = omega (arith, small)

  no_id_at_sign : ◌≡◌ {A = Option (Text × Text)} (id (sign ∷ decimal (suc k))) None
  unfolding id id_run
  no_id_at_sign = rw (no_id sign (later is_sign)) refl
    where
      later : sign ∈ "+-" ≡ true → sign ∈ ">+-" ≡ true
      later h = grind (arith, nat_tests)

  amount_read : amount (sign ∷ decimal (suc k)) ≡ Some z
  unfolding amount
  amount_read = rw (is_sign, whole_digits (suc k) fits_word, lt-ltb (suc k) amount_bound small) (ap Some is)

  amount_alone_read : id_reference true (sign ∷ decimal (suc k)) ≡ Some (amount_alone z)
  unfolding id_reference
  amount_alone_read = rw (no_id_at_sign, amount_read, some) refl

  is_relative_name : is_relative (sign ∷ decimal (suc k)) ≡ true
  unfolding is_relative
  is_relative_name = rw (is_sign, number_text_digits (suc k) fits_word) (or_true (is_nothing (decimal (suc k))))
    where
      or_true : (b : Bool) → (b || true) ≡ true
      or_true true = refl
      or_true false = refl

  pub distance_called : (p : ℕ) → written_call p (sign ∷ decimal (suc k)) ≡ Some (call_to p (relative z))
  unfolding written_call call_target
  distance_called p = rw (is_relative_name, amount_alone_read) refl

  pub distance_delimited : (v : Text) → ◌≡◌ {A = Option (Text × Text)}
      (delimited_name (code "<" ∷ ((sign ∷ decimal (suc k)) ++ code ">" ∷ v))) (Some (sign ∷ decimal (suc k), v))
  distance_delimited v =
      delimited_read sign (decimal (suc k)) v
      (undelimited (decimal (suc k)) (digits_undelimited (decimal (suc k)) ((decimal_is_IsNumeral (suc k) fits_word).0.1)))
    where
      sign_undelimited : sign ∈ "+-" ≡ true → (code ">" == sign) ≡ false
      sign_undelimited h = grind (arith, nat_tests)

      undelimited : (ds : Text) → is_among (code ">") ds ≡ false → is_among (code ">") (sign ∷ ds) ≡ false
      undelimited [] h = sign_undelimited is_sign
      undelimited (d ∷ ds) h = rw (sign_undelimited is_sign) h
