-- Comments, as the definitions have them.
use Rattle.std.specs.Prelude.{chars}
use Rattle.fancy_lex.specs.Comments as spec
use Rattle.fancy_lex.specs.Text.{reach_of}
use Rattle.fancy_lex.specs.declared.layout.LayoutComment.{LayoutComment}

abbrev pub comment_of : LayoutComment → spec.Comment
comment_of c = record { start = reach_of (chars c.start.now); end = reach_of (chars c.rest.now); is_line = c.is_line }
