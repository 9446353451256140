-- What the library guarantees for a text holds for its bytes.
use Rattle.std.proofs.Common.{◌≡◌, ℕ, List, subst}
use Rattle.std.specs.Str.{IsUtf8}
use Rattle.fancy_lex.specs.declared.error.Error.{Error}
use Rattle.fancy_lex.specs.declared.error.Error.TheVariants.{ParseError, OutOfMemory}
use Rattle.fancy_lex.specs.declared.flags.Flags.{Flags}
use Rattle.fancy_grammar.specs.Promises.{IsParsed, IsParseError}
use Rattle.fancy_grammar.specs.GroupInfo.{GroupInfo}
use Rattle.fancy_grammar.specs.Tree.{Tree}
use Rattle.fancy_c.specs.CallResult.{IsTreeOfBytes, IsRefusalOf}
use Rattle.fancy_c.specs.declared.read.BytesRefusal.TheVariants.{Parse}

pub tree_returned : {f : Flags} {text bytes : List ℕ} {t : Tree} {m : GroupInfo} → text ≡ bytes → IsUtf8 bytes →
    IsParsed f text t m → IsTreeOfBytes f bytes t m
tree_returned {f} {text} {bytes} {t} {m} is utf8 parsed =
    record { utf8 = utf8; parsed = subst (λ b. IsParsed f b t m) is parsed }

pub error_returned : (e : Error) (f : Flags) (text bytes : List ℕ) → text ≡ bytes → IsUtf8 bytes → IsParseError f text e →
    IsRefusalOf (Parse e) f bytes
error_returned (ParseError p k) f text bytes is utf8 refused =
    subst (λ b. IsUtf8 b → IsRefusalOf (Parse (ParseError p k)) f b) is here utf8 where
      here : IsUtf8 text → IsRefusalOf (Parse (ParseError p k)) f text
      here u = record {
        utf8 = u;
        error = refused.error.0;
        only = refused.error.1;
        no_tree = refused.error.2;
        positioned = refused.position;
      }
error_returned OutOfMemory f text bytes is utf8 refused = tt
