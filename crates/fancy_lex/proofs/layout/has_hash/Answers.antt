use Rattle.std.proofs.Common.{◌≡◌, false, ◌==◌, chars, take, sym, ◌∙◌, subst}
use Rattle.std.specs.List.{list_any}
use Rattle.std.specs.Str.{IsUtf8}
use Prim.Native.Char.{code}
use Rattle.fancy_lex.proofs.TokenCommentLaws.{Hashless, no_hash, none_in_class, none_in_token}
use Rattle.fancy_lex.proofs.layout.has_hash.Goals as goal

hashless : (c : goal.After-contains) → c.contains.result ≡ false → Hashless c.args.end (chars c.args.text.now)
hashless c none =
    let text = c.args.text.now in
    no_hash text c.saturating_sub-after.result c.args.end (subst IsUtf8 c.as_bytes.ensures.value c.as_bytes.ensures.utf8)
    c.saturating_sub-after.ensures
    (subst (λ n. list_any (λ y. y == code "#") (take n text) ≡ false) c.saturating_sub-length.ensures
    (subst (λ bs. list_any (λ y. y == code "#") (take c.saturating_sub-length.result bs) ≡ false)
    c.as_bytes.ensures.value (sym c.contains.ensures.value ∙ none)))

pub returns-clause-token : goal.returns-clause-token
returns-clause-token c none = none_in_token (chars c.args.text.now) c.args.end (hashless c none)

pub returns-clause-class : goal.returns-clause-class
returns-clause-class c f none = none_in_class f (chars c.args.text.now) c.args.end (hashless c none)
