use Rattle.fancy_pattern.proofs.context.Context.pass_node.Goals as goal

pub returns : goal.returns
returns c = c.next_listed-listed.ensures.passes
