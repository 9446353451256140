use Rattle.fancy_pattern.proofs.KnownLemmas.{outside_known}
use Rattle.fancy_pattern.proofs.context.Context.leave.Goals as goal

pub returns : goal.returns
returns c k h e x l outside inside = record {
  flags = outside.flags;
  opened = inside.opened;
  left = outside.left;
  needs = outside_known k h.flags e.flags c.args.outside.now.needs.now c.args.self.now.needs.now x l outside.needs
      inside.needs;
}
