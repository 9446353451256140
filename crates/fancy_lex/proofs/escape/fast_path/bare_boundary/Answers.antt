use Rattle.std.proofs.Common.{◌≡◌, None, chars, ap, sym, rules}
use Prim.Native.Char.{code}
use Rattle.fancy_lex.specs.BoundarySteps.{boundary}
use Rattle.fancy_lex.specs.Reading.{gives}
use Rattle.fancy_lex.specs.Text.{strip}
use Rattle.fancy_lex.proofs.escape.fast_path.bare_boundary.Goals as goal

pub returns-in-None : goal.returns-in-None
unfolding boundary
returns-in-None c p =
    let no_layout = c.begins_layout.ensures c.if-begins_layout.false in
    let no_brace : strip (code "{") (chars c.args.text.now) ≡ None = search rules in
    rw (no_layout, no_brace) (ap (λ e. gives e (chars c.args.text.now)) (sym c.unnamed_boundary.ensures))
