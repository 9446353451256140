use Rattle.std.proofs.Common.{◌∙◌, sym}
use Rattle.pattern_fixes.proofs.GroupLemmas.{names_equal}
use Rattle.pattern_fixes.proofs.groups.has_same_names.Goals as goal

pub returns : goal.returns
returns c same = names_equal c.args.one.now.named_groups.entries c.args.other.now.named_groups.entries
    (sym c.eq.ensures ∙ same)
