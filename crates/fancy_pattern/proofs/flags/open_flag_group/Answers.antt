use Rattle.std.proofs.Common.{◌++◌, codes, subst}
use Rattle.fancy_grammar.specs.Pattern.{deeper}
use Rattle.fancy_grammar.specs.PatternNeeds.{letters_between}
use Rattle.fancy_pattern.specs.TextOutput.{Added}
use Rattle.fancy_pattern.proofs.SettledLemmas.{flags_set}
use Rattle.fancy_pattern.proofs.flags.open_flag_group.Goals as goal

pub returns : goal.returns
returns c =
    flags_set _ _ _ c.next_node-needs.new.self _ c.next_node-needs.result
    (λ f g. codes "(?" ++ (letters_between f g ++ codes ":")) deeper c.next_node-needs.ensures
    (subst (λ f. Added c.args.out.now c.put_flag_group_opening.new.out
    (codes "(?" ++ (letters_between c.next_node-needs.new.self.flags f ++ codes ":")))
    c.set.ensures.flags c.in_ok-put_flag_group_opening.ensures)
    (λ k h l allowed is. c.enter.ensures k _ l (c.set.ensures.context k h l allowed is))
