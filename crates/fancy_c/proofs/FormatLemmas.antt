-- Formatted patterns.
use Rattle.std.proofs.Common.{◌≡◌, ℕ, List, sym, subst}
use Rattle.std.specs.Str.{IsUtf8}
use Rattle.fancy_lex.specs.declared.flags.Flags.{Flags}
use Rattle.fancy_grammar.proofs.PromiseLaws.{parsed}
use Rattle.fancy_c.proofs.ReadLemmas.{tree_returned}
use Rattle.pattern_format.specs.Formatted.{IsFormatted}
use Rattle.pattern_format.specs.declared.style.Style.{Style}
use Rattle.fancy_c.specs.FormattedText.{IsFormattedOfBytes}

-- a pattern that has a formatted text has a tree, and no other and no error
pub formatted_of_bytes : (s : Style) (f : Flags) (text bytes w : List ℕ) → text ≡ bytes → IsUtf8 bytes → IsUtf8 w →
    IsFormatted s f text w → IsFormattedOfBytes s f bytes w
formatted_of_bytes style f text bytes w is utf8 written (t, m, l, tree, trivia, back) =
    record {
      tree = (t, m, tree_returned is utf8 (parsed (subst IsUtf8 (sym is) utf8) tree));
      utf8 = written;
      formatted = subst (λ b. IsFormatted style f b w) is (t, m, l, tree, trivia, back);
    }
