-- The texts of trees.
use Rattle.std.proofs.Common.{◌≡◌, ℕ, Result, Ok, Err, Option, None, Some, IfOk, IfSome, MatchOption, is_some, false}
use Rattle.std.proofs.Common.{IfNone, ℕ, List, ◌<◌, ◌^◌, length, chars, sym, ap, ◌∙◌, subst}
use Rattle.std.specs.Prelude.{String, encode_utf8_all, string_bytes}
use Rattle.std.specs.declared.alloc.AllocError.{AllocError}
use Rattle.std.specs.declared.alloc.Global.{Global}
use Rattle.fancy_lex.proofs.TextLemmas.{bytes_chars}
use Rattle.fancy_lex.specs.Text.{text_of}
use Rattle.fancy_lex.specs.declared.flags.Flags.{Flags}
use Rattle.fancy_grammar.specs.GroupInfo.{GroupInfo}
use Rattle.fancy_grammar.specs.OfPattern.{IsOfPattern}
use Rattle.fancy_grammar.specs.Pattern.{pattern_text}
use Rattle.fancy_grammar.specs.Printable.{printable}
use Rattle.fancy_grammar.specs.Printed.{printed}
use Rattle.fancy_grammar.specs.ReadAs.{IsReadAs}
use Rattle.fancy_grammar.specs.ReadBack.{IsReadBack}
use Rattle.fancy_grammar.specs.Tree.{Tree}
use Rattle.fancy_c.specs.CallResult.{IsTreeOfBytes}
use Rattle.fancy_c.specs.WrittenText.{IsText, IsPatternText}
use Rattle.fancy_c.proofs.NodeLemmas.{string_text}

pub text_returned : (t : Tree) (p : ℕ) (r : Result (Option (String Global)) AllocError) →
    IfOk r (λ o. is_some o ≡ printable t) →
    IfOk r (λ o. IfSome o (λ s. string_bytes s ≡ encode_utf8_all (printed t p))) →
    IfOk r (λ o. IfSome o (λ s. IsReadBack t p (chars (string_bytes s)))) →
    IfOk r (λ o. MatchOption o (printable t ≡ false) (λ s. IsText t p (string_bytes s)))
text_returned t p (Ok (Some s)) is text_is reads = record { printable_is = sym is; is = text_is; reads_back = reads }
text_returned t p (Ok None) is text_is reads = sym is
text_returned t p (Err e) is text_is reads = tt

pub pattern_returned : (f : Flags) (t : Tree) (m : GroupInfo) (r : Result (Option (String Global)) AllocError) →
    IfOk r (λ o. IfSome o (λ s. text_of s ≡ pattern_text f t m)) →
    IfOk r (λ o. IfSome o (λ s. IsReadAs f (text_of s) t m)) →
    IfOk r (λ o. IfNone o (IsOfPattern f t m → ⊥)) →
    IfOk r (λ o. MatchOption o (IsOfPattern f t m → ⊥) (λ s. IsPatternText f t m (string_bytes s)))
pattern_returned f t m (Ok (Some s)) text reads none =
    record { is = sym (string_text s) ∙ ap encode_utf8_all text; reads_as = reads }
pattern_returned f t m (Ok None) text reads none = none
pattern_returned f t m (Err e) text reads none = tt

-- a tree of bytes is one of a pattern, since no slice has 2 ^ 63 bytes or more
pub of_pattern : (f : Flags) (bytes : List ℕ) (t : Tree) (m : GroupInfo) → IsTreeOfBytes f bytes t m →
    length bytes < 2 ^ 63 → IsOfPattern f t m
of_pattern f bytes t m tree few =
    (chars bytes, tree.parsed.found, subst (λ n. n < 2 ^ 63) (sym (bytes_chars bytes tree.utf8)) few)
