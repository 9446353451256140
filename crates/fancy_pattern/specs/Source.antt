-- The parts of a source, as the code returns and writes them.
use Rattle.std.specs.Prelude.{◌≡◌, chars, Option, option_map}
use Rattle.fancy_lex.specs.Text.{Text}
use Rattle.fancy_grammar.specs.PatternSource.{Part}
use Rattle.fancy_pattern.specs.TextOutput.{Added}
use Rattle.fancy_pattern.specs.declared.output.TextOutput.{TextOutput}
use Rattle.fancy_pattern.specs.declared.source.FoundEscape.{FoundEscape}

-- an escape that was found is a part
abbrev pub part_of : FoundEscape → Part
part_of f = record { source = chars f.escape.now; rest = chars f.rest.now; negated = f.negated }

abbrev pub found_part : Option FoundEscape → Option Part
found_part r = option_map part_of r

-- the part's source was added after what was written before, and the other text is left of the Delegate's text
pub record AddedPart (old new : TextOutput) (part : Part) (left : Text) : Type 0 where
  pub source : Added old new part.source
  pub rest : left ≡ part.rest
