use Rattle.std.proofs.Common.{◌≡◌, ◌∙◌, ap, sym, rules, refl, Bool, List, ℕ, [], ◌∷◌, codes, string_bytes, encode_utf8_all, String, Result, IfOk, subst}
use Rattle.std.specs.Str.{chars}
use Rattle.std.proofs.lemmas.Str.{chars_from_encodes, IsUtf8-string_bytes}
use Rattle.std.specs.declared.alloc.Global.{Global}
use Rattle.fancy_lex.specs.Text.{text_of}
use Rattle.fancy_grammar.specs.Tree.{any, literal}
use Rattle.fancy_syntax.specs.View.{view}
use Rattle.fancy_syntax.specs.declared.expr.Expr.{Any, Literal, the_lemmas}
use Rattle.regex_syntax.specs.declared.Config.{Config}
use Rattle.regex_syntax.specs.Verdict.{escaped_text}
use Rattle.class_meaning.specs.ClassMeaning.{IsMeaningOf}
use Rattle.class_meaning.specs.declared.class_text.ClassMeaning.{ClassMeaning}
use Rattle.class_meaning.proofs.one_character.characters_of.Goals as goal

view_any : (newline crlf : Bool) → view (Any newline crlf) ≡ any newline crlf
view_any newline crlf = search (rules, the_lemmas)

view_literal : (val : String Global) (casei : Bool) → view (Literal val casei) ≡ literal (text_of val) casei
view_literal val casei = search (rules, the_lemmas)

dot_text : chars (0x2E ∷ []) ≡ codes "."
unfolding chars
dot_text = refl

-- the characters of a string that was written from them
chars_written : (text : String Global) (cs : List ℕ) → string_bytes text ≡ encode_utf8_all cs → chars (string_bytes text) ≡ cs
chars_written text cs e = sym (chars_from_encodes cs (string_bytes text) (IsUtf8-string_bytes text) (sym e))

-- what is made of a text is made of it under another name
of_same : {E : Type 0} (o : Result ClassMeaning E) (a b : Config) (s t : List ℕ) → a ≡ b → s ≡ t →
    IfOk o (IsMeaningOf a s) → IfOk o (IsMeaningOf b t)
of_same o a b s t e d h = subst (λ x. IfOk o (IsMeaningOf b x)) d (subst (λ x. IfOk o (IsMeaningOf x s)) e h)

pub returns-in-Any : goal.returns-in-Any
returns-in-Any c =
    rw (c.in-Any.is, view_any c.in-Any.newline c.in-Any.crlf)
    (of_same c.read-in-Any.result _ _ _ _ c.config_of_dot.ensures dot_text c.read-in-Any.ensures.meaning)

pub returns-in-Literal : goal.returns-in-Literal
returns-in-Literal c =
    let text = c.in_ok-text.text in
    let written = ap chars c.as_str-in-Literal-2.ensures.value
    ∙ chars_written text _ c.in_ok-text.ensures.value
    ∙ ap (λ bytes. escaped_text (chars bytes)) c.as_str-in-Literal.ensures.value in
    rw (c.in-Literal.is, view_literal c.in-Literal.val c.in-Literal.casei)
    (of_same c.read.result _ _ _ _ c.config.ensures written c.read.ensures.meaning)
