use Rattle.fancy_grammar.proofs.PremiseLaws.{layout_related, class_related, letters_related, boundary_related}
use Rattle.fancy_grammar.proofs.premises.premises.Goals as goal

pub returns : goal.returns
returns c = record {
  layout = layout_related;
  class = class_related;
  letters = letters_related;
  boundary = boundary_related;
}
