-- What may follow a piece: no comment, and no quantifier.
use Rattle.std.proofs.Common.{◌≡◌, ℕ, Bool, true, false, ◌==◌, ⊎_elim, List, [], ◌∷◌, Option, Some, None, refl, sym}
use Rattle.std.proofs.Common.{subst, eqb-true, ap, ◌∙◌, ◌||◌, ◌++◌, codes}
use Rattle.std.specs.List.{list_any}
use Rattle.std.proofs.Math.Bool.{or-false}
use Rattle.std.proofs.lemmas.Bool.{or_parts, or_cases, cond_both, both_ways, false≢true, false_from_ne_true}
use Rattle.std.proofs.lemmas.Option.{same_Some}
use Prim.Native.Char.{code}
use Rattle.fancy_lex.specs.Characters.{is_among, ◌∈◌, metacharacters}
use Rattle.fancy_lex.specs.Escape.{escape, escape_at, lone_escape, letter_of}
use Rattle.fancy_lex.specs.Escaped as escaped
use Rattle.fancy_lex.specs.LayoutSteps.{layout, after_comment_start, rest}
use Rattle.fancy_lex.specs.Reading.{gives}
use Rattle.fancy_lex.specs.Text.{Text, strip}
use Rattle.fancy_lex.specs.declared.flags.Flags.{Flags}
use Rattle.fancy_lex.proofs.LayoutLemmas.{between_plain}
use Rattle.fancy_lex.specs.Quantifier.{counts}
use Rattle.fancy_grammar.specs.Quote.{after_backslash, needs_backslash}
use Rattle.fancy_grammar.specs.State.{ends}

-- an operator or brace of a quantifier is next
abbrev pub begins_quantifier : Text → Bool
begins_quantifier [] = false
begins_quantifier (c ∷ s) = c ∈ "?*+{"

pub record Clear (s : Text) : Type 0 where
  pub no_comment : after_comment_start s ≡ None
  pub no_quantifier : begins_quantifier s ≡ false

pub not_open : (c : ℕ) (s : Text) → (c == code "(") ≡ false → after_comment_start (c ∷ s) ≡ None
not_open c s e = rw e refl

pub not_asking : (s : Text) → strip (code "?") s ≡ None → after_comment_start (code "(" ∷ s) ≡ None
not_asking s e = rw e refl

pub no_layout : (s : Text) → after_comment_start s ≡ None → layout false s ≡ rest s
no_layout s e = between_plain s e

-- a character that begins no quantifier
pub record NoQuantifier (c : ℕ) : Type 0 where
  pub question : (c == code "?") ≡ false
  pub star : (c == code "*") ≡ false
  pub plus : (c == code "+") ≡ false
  pub brace : (c == code "{") ≡ false

pub no_quantifier_is : (c : ℕ) → c ∈ "?*+{" ≡ false → NoQuantifier c
no_quantifier_is c h =
    let (a, h1) = or_parts (c == code "?") _ h in
    let (b, h2) = or_parts (c == code "*") _ h1 in
    let (d, e) = or_parts (c == code "+") _ h2 in
    record { question = a; star = b; plus = d; brace = e }

pub clear_counts : (x : Bool) (s : Text) → Clear s → counts x s ≡ None
unfolding counts
clear_counts x [] h = refl
clear_counts x (c ∷ s) h = let m = no_quantifier_is c h.no_quantifier in rw (m.question, m.star, m.plus, m.brace) refl

pub clear_lazy : (s : Text) → Clear s → strip (code "?") s ≡ None
clear_lazy [] h = refl
clear_lazy (c ∷ s) h = rw ((no_quantifier_is c h.no_quantifier).question) refl

pub clear_star : (s : Text) → Clear s → strip (code "*") s ≡ None
clear_star [] h = refl
clear_star (c ∷ s) h = rw ((no_quantifier_is c h.no_quantifier).star) refl

pub clear_plus : (s : Text) → Clear s → strip (code "+") s ≡ None
clear_plus [] h = refl
clear_plus (c ∷ s) h = rw ((no_quantifier_is c h.no_quantifier).plus) refl

pub clear_brace : (s : Text) → Clear s → strip (code "{") s ≡ None
clear_brace [] h = refl
clear_brace (c ∷ s) h = rw ((no_quantifier_is c h.no_quantifier).brace) refl

-- a branch stops here
pub record Stops (v : Text) : Type 0 where
  pub clear : Clear v
  pub ends : ends v ≡ true

-- an alternation ends here
pub record Ends (v : Text) : Type 0 where
  pub stops : Stops v
  pub no_bar : strip (code "|") v ≡ None

pub clear_close : (v : Text) → Clear (code ")" ∷ v)
clear_close v = record { no_comment = refl; no_quantifier = refl }

pub stops_bar : (v : Text) → Stops (code "|" ∷ v)
stops_bar v = record { clear = record { no_comment = refl; no_quantifier = refl }; ends = refl }

pub ends_close : (v : Text) → Ends (code ")" ∷ v)
ends_close v = record { stops = record { clear = clear_close v; ends = refl }; no_bar = refl }

pub ends_nothing : Ends []
ends_nothing = record {
  stops = record { clear = record { no_comment = refl; no_quantifier = refl }; ends = refl };
  no_bar = refl;
}

-- ---- the characters that are quoted

-- a character that fails a test differs from each one that passes it
pub apart : (test : ℕ → Bool) (c : ℕ) → test c ≡ false → (symbol : ℕ) → test symbol ≡ true → (c == symbol) ≡ false
apart test c fails symbol passes =
    false_from_ne_true (c == symbol) (λ same. false≢true (sym fails ∙ ap test (eqb-true c symbol same) ∙ passes))

-- P holds for each of the characters
pub data Each (P : ℕ → Type 0) : List ℕ → Type 0 where
  no_more : Each P []
  also : {x : ℕ} {xs : List ℕ} → P x → Each P xs → Each P (x ∷ xs)

each_at : (P : ℕ → Type 0) (xs : List ℕ) (c : ℕ) → Each P xs → list_any (λ m. c == m) xs ≡ true → P c
each_at P [] c no_more e = absurd (both_ways false refl e)
each_at P (x ∷ xs) c (also h k) e =
    ⊎_elim (λ same. subst P (sym (eqb-true c x same)) h) (λ more. each_at P xs c k more) (or_cases (c == x) _ e)

-- the same for a character that a list contains
among_any : (c : ℕ) (xs : List ℕ) → is_among c xs ≡ list_any (λ m. c == m) xs
among_any c [] = refl
among_any c (x ∷ []) = sym (or-false (c == x))
among_any c (x ∷ y ∷ xs) = ap (λ b. c == x || b) (among_any c (y ∷ xs))

pub each_among : (P : ℕ → Type 0) (xs : List ℕ) (c : ℕ) → Each P xs → is_among c xs ≡ true → P c
each_among P xs c h e = each_at P xs c h (sym (among_any c xs) ∙ e)

-- by what is written after the backslash
pub by_after : (Q : ℕ → Option ℕ → Type 0) → Q (code "\n") (Some (code "n")) → Q (code "\t") (Some (code "t")) →
    Q (code "\r") (Some (code "r")) → (c : ℕ) → (needs_backslash c ≡ true → Q c (Some c)) →
    (needs_backslash c ≡ false → Q c None) → Q c (after_backslash c)
by_after Q n t r c quoted plain =
    cond_both (c ∈ "\n\t\r") _ _ (Q c)
    (λ h. each_among (λ d. Q d (letter_of d)) (codes "\n\t\r") c (also n (also t (also r no_more))) h)
    (λ _. cond_both (needs_backslash c) _ _ (Q c) quoted plain)

-- a character that is printed as itself is no metacharacter
pub after_none : (c : ℕ) → after_backslash c ≡ None → needs_backslash c ≡ false
after_none c =
    by_after (λ c o. o ≡ None → needs_backslash c ≡ false)
    (λ e. absurd cc) (λ e. absurd cc) (λ e. absurd cc) c (λ h e. absurd cc) (λ h e. h)

-- the character x after a backslash is read as the character c
abbrev pub Escapes : ℕ → ℕ → Type 0
Escapes x c = (f : Flags) (t : Text) → escape f false (x ∷ t) ≡ gives (escaped.literal c false) t

abbrev quoted_metacharacters : Text
quoted_metacharacters = metacharacters ++ codes "]}#"

escapes_metacharacters : Each (λ m. Escapes m m) quoted_metacharacters
unfolding escape_at lone_escape
escapes_metacharacters =
    also (λ f t. refl) (also (λ f t. refl) (also (λ f t. refl) (also (λ f t. refl)
    (also (λ f t. refl) (also (λ f t. refl) (also (λ f t. refl) (also (λ f t. refl)
    (also (λ f t. refl) (also (λ f t. refl) (also (λ f t. refl) (also (λ f t. refl)
    (also (λ f t. refl) (also (λ f t. refl) (also (λ f t. refl) no_more))))))))))))))

escapes_n : Escapes (code "n") (code "\n")
unfolding escape_at lone_escape
escapes_n f t = refl

escapes_t : Escapes (code "t") (code "\t")
unfolding escape_at lone_escape
escapes_t f t = refl

escapes_r : Escapes (code "r") (code "\r")
unfolding escape_at lone_escape
escapes_r f t = refl

pub after_some : (c x : ℕ) → after_backslash c ≡ Some x → Escapes x c
after_some c x =
    by_after (λ c o. o ≡ Some x → Escapes x c)
    (λ e. from _ _ e escapes_n) (λ e. from _ _ e escapes_t) (λ e. from _ _ e escapes_r) c
    (λ h e. from c c e (each_among (λ m. Escapes m m) quoted_metacharacters c escapes_metacharacters h))
    (λ h e. absurd cc)
  where
    from : (y c : ℕ) → Some y ≡ Some x → Escapes y c → Escapes x c
    from y c e h = subst (λ z. Escapes z c) (same_Some y x e) h
